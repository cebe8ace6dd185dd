-- An entry that is made, goes or moves leaves each name with what it stands for.
use Rattle.std.proofs.Common.{◌≡◌, ◌≢◌, ℕ, Bool, true, List, [], Option, Some, None, IfSome, is_some, refl, sym, subst, arith}
use Rattle.cal_base.specs.declared.identity.ClientId.{ClientId}
use Rattle.cal_base.specs.declared.identity.Ino.{Ino}
use Rattle.directory.specs.Block.{entry_at}
use Rattle.directory.specs.declared.entry.DirEntry.{DirEntry}
use Rattle.inode.specs.declared.inode.Kind.{Kind}
use Rattle.inode.specs.declared.inode.Kind.TheVariants.{Free, File, Dir}
use Rattle.tree_law.specs.Needs.{Touch}
use Rattle.tree_law.specs.declared.rename.Move.{Move}
use Rattle.volume.specs.Volume.{Volume, slots_of}
use Rattle.volume_edit.specs.Edit.{IsVolume, inode_at, with_inode}
use Rattle.volume_edit.specs.declared.edit.Edit.{Edit}
use Rattle.volume_edit.proofs.Inodes.{with_inode-same}
use Rattle.volume_plan.specs.Plans.{making, moving, new_inode, place_of, removing}
use Rattle.volume_plan.specs.Shown.{shown_as}
use Rattle.volume_plan.proofs.EditParts.{IsNew}
use Rattle.volume_plan.proofs.NamesOf.{entry_of}
use Rattle.volume_plan.proofs.PlanEdits.{IsMade}
use Rattle.volume_plan.proofs.RemovalEdits.{NamedIn}
use Rattle.volume_names.proofs.Altered.{Stood}
use Rattle.volume_names.proofs.Kept.{Comes, KeepsEntries, grown_seen, seen_then}
use Rattle.volume_names.proofs.Slots.{IsSeen, StandInSlots}

abbrev ino_of : ℕ → Ino
ino_of number = record { 0 = number }

-- ---- `create`, `mkdir`

new_seen : (kind : Kind) → IsMade kind → IsSeen (new_inode kind)
new_seen Free made = absurd made
new_seen File made = refl
new_seen Dir made = refl

free_unseen : (k : Kind) (named : Bool) → k ≡ Free → is_some (shown_as k named []) ≡ true → ⊥
free_unseen Free named is seen = absurd (cc)
free_unseen File named is seen = absurd (cc)
free_unseen Dir named is seen = absurd (cc)

-- an entry for a free inode, which no other names
pub making_keeps : (v : Volume) (client : ClientId) (number : ℕ) (place : Ino) (name : List ℕ) (kind : Kind) (ino : ℕ) → IsVolume v → StandInSlots v → IsMade kind → IsNew v ino → KeepsEntries v (making v client number place name kind (ino_of ino)).edit
making_keeps v client number place name kind ino is all made new =
    let e : Edit = (making v client number place name kind (ino_of ino)).edit in
    let count = is.inode_count in
    let few = new.to_511 in
    let least = new.from_one in
    let put : inode_at (with_inode v.inodes e.inode) ino ≡ new_inode kind = with_inode-same e.inode v.inodes (record { ino = ino_of ino; inode = new_inode kind }) refl (omega arith) in
    record {
      comes = record {
        seen = grown_seen (with_inode v.inodes e.inode) e.growth ino (subst IsSeen (sym put) (new_seen kind made));
        unrooted = λ zero. omega arith;
        alone = λ k p x s same. free_unseen (inode_at v.inodes ino).kind (inode_at v.inodes ino).named new.kind (subst (λ (n : ℕ). IsSeen (inode_at v.inodes n)) (sym same) (all.stand k p x s.there));
      };
      stays = λ k p x s seen. seen_then v e x.ino.0 (λ same. new_seen kind made) seen;
    }

-- ---- `unlink`, `rmdir`

-- the entry that names an inode is the only one for it
record IsThatEntry (v : Volume) (place : Ino) (name : List ℕ) (k p : ℕ) : Type 0 where
  directory : place.0 ≡ k
  at : place_of (slots_of v place.0) name ≡ p

that_entry : (v : Volume) (place ino : Ino) (name : List ℕ) (k p : ℕ) (x : DirEntry) → StandInSlots v → NamedIn v place name ino → entry_at (slots_of v k) p ≡ Some x → ino.0 ≡ x.ino.0 → IsThatEntry v place name k p
that_entry v place ino name k p x all n at same =
    let here : ℕ = place_of (slots_of v place.0) name in
    let one = all.once place.0 k here p (entry_of name ino) x n.there at same in
    record {
      directory = one.0;
      at = n.listed.sized.directory.distinct here p (entry_of name ino) x n.there (subst (λ (m : ℕ). entry_at (slots_of v m) p ≡ Some x) (sym one.0) at) one.1;
    }

-- the only entry for an inode goes, so that it may go too
pub removing_keeps : (v : Volume) (client : ClientId) (number : ℕ) (opened : List Ino) (touched : List Touch) (place ino : Ino) (name : List ℕ) → StandInSlots v → NamedIn v place name ino
    → KeepsEntries v (removing v client number opened touched place ino name).edit
removing_keeps v client number opened touched place ino name all n = record {
  comes = tt;
  stays = λ k p x s seen. seen_then v (removing v client number opened touched place ino name).edit x.ino.0
      (λ same. (let t = that_entry v place ino name k p x all n s.there same in absurd (s.left t.directory t.at))) seen;
}

-- ---- `rename`

abbrev moved : Ino → Ino → Ino → Option Ino → Bool → Move
moved from to ino target same = record { from = from; to = to; ino = ino; replaced = target; is_same = same }

-- the names of what moves and of what it replaces, which are two
pub record Renames (v : Volume) (move : Move) (name goal : List ℕ) : Type 0 where
  pub source : NamedIn v move.from name move.ino
  pub target : IfSome move.replaced (NamedIn v move.to goal)
  pub apart : move.from.0 ≡ move.to.0 → name ≢ goal

module _ (v : Volume) (client : ClientId) (number : ℕ) (opened : List Ino) (touched : List Touch) (from to ino : Ino) (same : Bool) (name goal : List ℕ) (all : StandInSlots v) where
  abbrev edit_to : Option Ino → Edit
  edit_to target = (moving v client number opened touched (moved from to ino target same) name goal).edit

  -- what moves has another name then, and no other entry
  alone_then : (target : Option Ino) → NamedIn v from name ino → (k p : ℕ) (x : DirEntry) → Stood v (edit_to target) k p x → ino.0 ≢ x.ino.0
  alone_then target n k p x s is = (let t = that_entry v from ino name k p x all n s.there is in s.left t.directory t.at)

  entry_kept : (target : Option Ino) (place : ℕ) → NamedIn v from name ino → IfSome (edit_to target).inode (λ i. i.ino.0 ≡ ino.0 → IsSeen i.inode) → Comes v (edit_to target) (record { directory = to; place = place; entry = record { name = goal; ino = ino } })
  entry_kept target place n put = record {
    seen = seen_then v (edit_to target) ino.0 put (all.stand from.0 (place_of (slots_of v from.0) name) (entry_of name ino) n.there);
    unrooted = all.unrooted from.0 (place_of (slots_of v from.0) name) (entry_of name ino) n.there;
    alone = alone_then target n;
  }

  -- in an empty slot
  adding_keeps : NamedIn v from name ino → KeepsEntries v (edit_to None)
  adding_keeps n = record { comes = entry_kept None _ n tt; stays = λ k p x s seen. seen_then v (edit_to None) x.ino.0 tt seen }

  -- in the slot of the only entry for what it replaces
  replacing_keeps : (target : Ino) → NamedIn v from name ino → NamedIn v to goal target → (from.0 ≡ to.0 → name ≢ goal) → KeepsEntries v (edit_to (Some target))
  replacing_keeps target n g apart = record {
    comes = entry_kept (Some target) _ n (λ is.
        (let one = all.once to.0 from.0 (place_of (slots_of v to.0) goal) (place_of (slots_of v from.0) name) (entry_of goal target) (entry_of name ino) g.there n.there is in
        absurd (apart (sym one.0) (sym one.1))));
    stays = λ k p x s seen. seen_then v (edit_to (Some target)) x.ino.0 (λ is. (let t = that_entry v to target goal k p x all g s.there is in absurd (s.over t.directory t.at))) seen;
  }

  renamed : (target : Option Ino) → Renames v (moved from to ino target same) name goal → KeepsEntries v (edit_to target)
  renamed None r = adding_keeps r.source
  renamed (Some target) r = replacing_keeps target r.source r.target r.apart

pub moving_keeps : (v : Volume) (client : ClientId) (number : ℕ) (opened : List Ino) (touched : List Touch) (move : Move) (name goal : List ℕ) → StandInSlots v → Renames v move name goal
    → KeepsEntries v (moving v client number opened touched move name goal).edit
moving_keeps v client number opened touched move name goal all r = renamed v client number opened touched move.from move.to move.ino move.is_same name goal all move.replaced r
