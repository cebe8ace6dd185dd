-- What a client knows that follows a tree is a part of it.
use Rattle.std.proofs.Common.{◌≡◌, ◌&&◌, ℕ, Bool, true, false, List, length, is_none, Option, Some, None, refl, sym, ap, subst, ◌∙◌}
use Rattle.std.proofs.lemmas.Bool.{and_parts}
use Rattle.cal_base.specs.declared.identity.ClientId.{ClientId}
use Rattle.cal_base.specs.declared.identity.Ino.{Ino}
use Rattle.delayed_write.specs.Delayed.{Turns}
use Rattle.token_kind.specs.declared.flush.Flush.{Flush}
use Rattle.tree_law.specs.FileState.{FileState}
use Rattle.tree_law.specs.PartOf.{HasContents, HasEntries, HasSize}
use Rattle.tree_law.specs.Tree.{Tree, node_at}
use Rattle.tree_law.specs.declared.node.Node.{Node}
use Rattle.tree_law.specs.declared.node.Node.TheVariants.{Directory, Regular}
use Rattle.client_cache.specs.Agrees.{Agrees}
use Rattle.client_cache.specs.Follows.{Follows, FollowsFile, counted_hold, is_under_way}
use Rattle.client_cache.specs.Holds.{is_held}
use Rattle.client_cache.specs.Known.{Known, flush_at, inode_at, is_settled, known_if, part_of}
use Rattle.cal_base.specs.declared.directory_entry.DirectoryEntry.{DirectoryEntry}

known_from : {X : Type 0} (b : Bool) (x y : X) → known_if b x ≡ Some y → (b ≡ true) × (x ≡ y)
known_from true x y e = (refl, some_same x y e)
  where
    some_same : {X : Type 0} (x y : X) → Some x ≡ Some y → x ≡ y
    some_same x y e = cc
known_from false x y e = absurd (cc)

none_from : (o : Option Flush) → is_none o ≡ true → o ≡ None
none_from None e = refl
none_from (Some flush) e = absurd (cc)

pub follows_agrees : (tree : Tree) (client : ClientId) (done : ℕ) (known : Known) → Follows tree client done known → Agrees tree client known
follows_agrees tree client done known f = record {
  part = record {
    root_is = f.root_is;
    entries = λ ino entries e.
        (let from = known_from (is_held (inode_at known ino).holds.names) (inode_at known ino).entries entries e in
        subst (λ (es : List DirectoryEntry). HasEntries tree (node_at tree ino) es) from.1 (f.entries ino from.0));
    contents = λ ino bytes e.
        (let from = known_from (is_held (inode_at known ino).holds.contents && is_settled known ino) (inode_at known ino).file.contents bytes e in
        let both = and_parts _ _ from.0 in
        contents_by (node_at tree ino) ino bytes refl both.0 (none_from (flush_at known ino) both.1) from.1);
    size = λ ino size e.
        (let from = known_from (is_held (inode_at known ino).holds.attr && is_settled known ino) (inode_at known ino).size size e in
        let both = and_parts _ _ from.0 in
        size_by (node_at tree ino) ino size refl both.0 (none_from (flush_at known ino) both.1) from.1);
    table = f.table;
    open_files = f.open_files;
  };
  turns = λ ino file e held settled.
      (let none = none_from (flush_at known ino) settled in
      (f.files ino file e).turns held (ap (λ (o : Option Flush). is_held (counted_hold done (inode_at known ino).holds.contents (λ f. f.leave_data) o)) none ∙ held)
      (ap (λ (o : Option Flush). is_under_way done o) none));
}
  where
    contents_by : (node : Option Node) (ino : Ino) (bytes : List ℕ) → node_at tree ino ≡ node → is_held (inode_at known ino).holds.contents ≡ true → flush_at known ino ≡ None
        → (inode_at known ino).file.contents ≡ bytes → HasContents node bytes
    contents_by (Some (Directory names)) ino bytes e held none same = tt
    contents_by (Some (Regular file)) ino bytes e held none same =
        (f.files ino file e).contents held (ap (λ (o : Option Flush). is_held (counted_hold done (inode_at known ino).holds.contents (λ f. f.leave_data) o)) none ∙ held) ∙ same
    contents_by None ino bytes e held none same = tt

    size_by : (node : Option Node) (ino : Ino) (size : ℕ) → node_at tree ino ≡ node → is_held (inode_at known ino).holds.attr ≡ true → flush_at known ino ≡ None
        → (inode_at known ino).size ≡ size → HasSize node size
    size_by (Some (Directory names)) ino size e held none same = tt
    size_by (Some (Regular file)) ino size e held none same =
        (f.files ino file e).size held (ap (λ (o : Option Flush). is_held (counted_hold done (inode_at known ino).holds.attr (λ f. f.leave_attr) o)) none ∙ held) ∙ same
    size_by None ino size e held none same = tt
