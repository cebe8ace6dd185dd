-- A change leaves what it doesn't touch.
use Rattle.std.proofs.Common.{◌≡◌, ◌≢◌, ◌==◌, ◌⊎◌, inl, inr, arith, ℕ, suc, true, false, List, [], ◌∷◌, ◌++◌, Option, Some, None, Result, Ok, Err, IfSome, All, ok_or, is_some, nat_le, get_or, set, refl, sym, ap, ◌∙◌, subst, eqb-true, if◌then◌else◌}
use Rattle.std.proofs.lemmas.Bool.{cases_eq}
use Rattle.std.proofs.lemmas.List.{get_or-set_other}
use Rattle.std.specs.FinMap as finite
use Rattle.cal_base.specs.Limits.{directory_entries}
use Rattle.cal_base.specs.declared.directory_entry.EntryKind.TheVariants.{Directory as IsDirectory}
use Rattle.cal_base.specs.declared.identity.Ino.{Ino}
use Rattle.tree_law.specs.PartOf.{kind_of}
use Rattle.tree_law.specs.Names.{Names}
use Rattle.tree_law.specs.Needs.{Touch, touched_names, touched_file, touched_unlink, touched_rmdir, touched_target, touched_places, touched_rename}
use Rattle.tree_law.specs.Tree.{Tree, node_at, IsFree}
use Rattle.tree_law.specs.Resolve.{new_place, room_for, judged, as_empty_directory, file_named, removable, parent_of, last_of, prefix_of, resolved, looked_up}
use Rattle.tree_law.specs.Rename.{is_directory, move_of}
use Rattle.tree_law.specs.Idle.{with_node, is_open}
use Rattle.tree_law.specs.After.{put_name, take_name, with_entry, without_entry, without_directory, without_replaced, with_move}
use Rattle.tree_law.specs.declared.node.Node.{Node}
use Rattle.tree_law.specs.declared.node.Node.TheVariants.{Directory, Regular}
use Rattle.tree_law.specs.declared.rename.Move.{Move}
use Rattle.tree_law.specs.declared.reply.Why.{Why}
use Rattle.tree_law.specs.declared.reply.Why.TheVariants.{Exist, NoEnt, NotEmpty, DirFull}
use Rattle.tree_law.proofs.IdleLemmas.{node_of}
use Rattle.tree_facts.proofs.Entries.{NamesIt, order, put_names_it, still_names_it, names_it_too}
use Rattle.tree_facts.proofs.Paths.{has_parent, judged_file, judged_empty}
use Rattle.tree_facts.proofs.NameChanges.{HasNoNames, IsThere}
use Rattle.tree_facts.proofs.OneName.{OneNamed}
use Rattle.tree_facts.proofs.Moves.{CanReplace, IsMove, Goes, same_move, moves_by}
use Rattle.tree_touches.proofs.Named.{IsNamedAt, numbered}
use Rattle.tree_touches.proofs.Staying.{Stays, unaltered, named_by}

-- none of these is of the inode
abbrev pub Misses : List Touch → ℕ → Type 0
Misses touched k = All (λ touch. touch.0.0 ≢ k) touched

head_misses : (touch : Touch) (touched : List Touch) (k : ℕ) → Misses (touch ∷ touched) k → k ≢ touch.0.0
head_misses touch touched k misses same = misses 0 touch (omega arith) (sym same)

rest_misses : (touch : Touch) (touched : List Touch) (k : ℕ) → Misses (touch ∷ touched) k → Misses touched k
rest_misses touch touched k misses i d below = misses (suc i) d (omega (arith, below))

one_inode : (place : Option Node) (name : List ℕ) (a b : Ino) → NamesIt place name a → NamesIt place name b → a ≡ b
one_inode place name a b first second = let same : Ok a ≡ Ok b = sym first ∙ second in cc

-- two names that are one name in one place stand for one inode
one_place : (tree : Tree) (at : Ino) (m : ℕ) (name other : List ℕ) (a b : Ino) → at.0 ≡ m → name ≡ other → NamesIt (node_at tree at) name a → NamesIt (node_of tree m) other b → a ≡ b
one_place tree at m name other a b here same first second =
    one_inode (node_of tree m) other a b (subst (λ (n : List ℕ). NamesIt (node_of tree m) n a) same (subst (λ (n : ℕ). NamesIt (node_of tree n) name a) here first)) second

-- ---- `create`, `mkdir`

vacant : (node : Option Node) (name : List ℕ) (at place ino : Ino) → room_for name node at ≡ Ok place → NamesIt node name ino → ⊥
vacant (Some (Directory names)) name at place ino room is =
    elim (finite.get names name) as (λ found. (if is_some found then Err Exist else (if nat_le directory_entries (finite.len names) then Err DirFull else Ok at)) ≡ Ok place → ok_or found NoEnt ≡ Ok ino → ⊥) [
      | Some other ↦ λ room is. absurd (cc)
      | None ↦ λ room is. absurd (cc)
    ] room is
vacant (Some (Regular file)) name at place ino room is = absurd (cc)
vacant None name at place ino room is = absurd (cc)

pub found_place : (node : Option Node) (name : List ℕ) (at place : Ino) → room_for name node at ≡ Ok place → at ≡ place
found_place (Some (Directory names)) name at place room =
    elim (is_some (finite.get names name)) as (λ b. (if b then Err Exist else (if nat_le directory_entries (finite.len names) then Err DirFull else Ok at)) ≡ Ok place → at ≡ place) [
      | true ↦ λ e. absurd (cc)
      | false ↦ elim (nat_le directory_entries (finite.len names)) as (λ b. (if b then Err DirFull else Ok at) ≡ Ok place → at ≡ place) [
        | true ↦ λ e. absurd (cc)
        | false ↦ λ e. cc
      ]
    ] room
found_place (Some (Regular file)) name at place room = absurd (cc)
found_place None name at place room = absurd (cc)

judged_vacant : (tree : Tree) (name : List ℕ) (found : Result Ino Why) (place ino : Ino) → judged (room_for name) tree found ≡ Ok place → NamesIt (node_at tree place) name ino → ⊥
judged_vacant tree name (Ok at) place ino is named =
    vacant (node_at tree at) name at place ino is (subst (λ (i : Ino). NamesIt (node_at tree i) name ino) (sym (found_place (node_at tree at) name at place is)) named)
judged_vacant tree name (Err why) place ino is named = absurd (cc)

new_vacant : (tree : Tree) (path : List (List ℕ)) (place ino : Ino) → new_place tree path ≡ Ok place → NamesIt (node_at tree place) (last_of path) ino → ⊥
new_vacant tree [] place ino is named = absurd (cc)
new_vacant tree (name ∷ names) place ino is named = judged_vacant tree (last_of (name ∷ names)) (resolved tree (prefix_of (name ∷ names))) place ino is named

-- a name in a node is in it where another number gets another node
elsewhere : (nodes : List (Option Node)) (m k : ℕ) (next : Option Node) (name : List ℕ) (ino : Ino) → k ≢ m → NamesIt (get_or nodes k None) name ino → NamesIt (get_or (set nodes m next) k None) name ino
elsewhere nodes m k next name ino apart is = subst (λ (node : Option Node). NamesIt node name ino) (sym (get_or-set_other nodes m k next None apart)) is

-- where nothing stands no name does
none_nameless : (node : Option Node) (name : List ℕ) (ino : Ino) → node ≡ None → NamesIt node name ino → ⊥
none_nameless (Some (Directory names)) name ino none is = absurd (cc)
none_nameless (Some (Regular file)) name ino none is = absurd (cc)
none_nameless None name ino none is = absurd (cc)

free_nameless : (tree : Tree) (new : Ino) (m : ℕ) (name : List ℕ) (ino : Ino) → IsFree tree new → NamesIt (node_of tree m) name ino → m ≢ new.0
free_nameless tree new m name ino free is same = none_nameless (node_of tree m) name ino (ap (λ (n : ℕ). node_of tree n) same ∙ free.free) is

entry_stays : (tree : Tree) (place new : Ino) (name : List ℕ) (node : Node) (k : ℕ) → IsFree tree new → ((ino : Ino) → NamesIt (node_at tree place) name ino → ⊥) → k ≢ place.0 → k ≢ new.0
    → Stays tree (with_node (put_name tree place name new) new.0 (Some node)) k
entry_stays tree place new name node k free none apart other =
    let there : Tree = put_name tree place name new in
    let later : Tree = with_node there new.0 (Some node) in
    record {
      node = get_or-set_other there.nodes new.0 k (Some node) None other ∙ get_or-set_other tree.nodes place.0 k _ None apart;
      opened = λ is. is;
      named = named_by tree later k (λ m step is. record {
        place = m;
        name = step;
        names = elsewhere there.nodes new.0 m (Some node) step (numbered k) (free_nameless tree new m step (numbered k) free is)
            (names_it_too tree.nodes place.0 m name step new (numbered k) (λ here same. none (numbered k)
            (subst (λ (n : List ℕ). NamesIt (node_at tree place) n (numbered k)) (sym same) (subst (λ (n : ℕ). NamesIt (node_of tree n) step (numbered k)) (sym here) is))) is);
      });
    }

pub made_stays : (tree : Tree) (path : List (List ℕ)) (found : Result Ino Why) (new : Option Ino) (node : Node) (k : ℕ) → new_place tree path ≡ found → IfSome new (IsFree tree) → Misses (touched_names found) k → new ≢ Some (numbered k)
    → Stays tree (with_entry tree found (last_of path) new node) k
made_stays tree path (Ok place) (Some new) node k is free misses other =
    entry_stays tree place new (last_of path) node k free (λ ino. new_vacant tree path place ino is) (head_misses (place, 1) [] k misses) (λ e. other (ap (λ (n : ℕ). Some (numbered n)) (sym e)))
made_stays tree path (Ok place) None node k is free misses other = unaltered tree k
made_stays tree path (Err why) new node k is free misses other = unaltered tree k

-- ---- `unlink`

taken_stays : (tree : Tree) (place ino : Ino) (name : List ℕ) (k : ℕ) → NamesIt (node_at tree place) name ino → k ≢ place.0 → k ≢ ino.0 → Stays tree (take_name tree place name) k
taken_stays tree place ino name k named apart other = record {
  node = get_or-set_other tree.nodes place.0 k _ None apart;
  opened = λ is. is;
  named = named_by tree (take_name tree place name) k (λ m step is. record {
    place = m;
    name = step;
    names = still_names_it tree.nodes place.0 m name step (numbered k) (λ here same. other (ap (λ (i : Ino). i.0) (sym (one_place tree place m name step ino (numbered k) here same named is)))) is;
  });
}

file_taken : (tree : Tree) (name : List ℕ) (names : List (List ℕ)) (ino : Ino) (k : ℕ) → file_named tree (name ∷ names) ≡ Ok ino → Misses (touched_unlink (Ok ino) (parent_of tree (name ∷ names))) k
    → Stays tree (without_entry tree (parent_of tree (name ∷ names)) (name ∷ names)) k
file_taken tree name names ino k is misses =
    let p = has_parent tree name names ino (judged_file tree (resolved tree (name ∷ names)) ino is).0 in
    let touched : Misses ((p.place, 1) ∷ (ino, 2) ∷ (ino, 3) ∷ []) k = subst (λ (above : Result Ino Why). Misses (touched_unlink (Ok ino) above) k) p.parent misses in
    subst (λ (above : Result Ino Why). Stays tree (without_entry tree above (name ∷ names)) k) (sym p.parent)
    (taken_stays tree p.place ino (last_of (name ∷ names)) k p.named (head_misses (p.place, 1) ((ino, 2) ∷ (ino, 3) ∷ []) k touched) (head_misses (ino, 2) ((ino, 3) ∷ []) k (rest_misses (p.place, 1) ((ino, 2) ∷ (ino, 3) ∷ []) k touched)))

root_untaken : (tree : Tree) (place : Result Ino Why) (k : ℕ) → Stays tree (without_entry tree place []) k
root_untaken tree (Ok place) k = unaltered tree k
root_untaken tree (Err why) k = unaltered tree k

abbrev pub touches_unlinked : Tree → List (List ℕ) → List Touch
touches_unlinked tree path = touched_unlink (file_named tree path) (parent_of tree path)

pub unlinked_stays : (tree : Tree) (path : List (List ℕ)) (ino : Ino) (k : ℕ) → file_named tree path ≡ Ok ino → Misses (touches_unlinked tree path) k → Stays tree (without_entry tree (parent_of tree path) path) k
unlinked_stays tree [] ino k is misses = root_untaken tree (parent_of tree []) k
unlinked_stays tree (name ∷ names) ino k is misses = file_taken tree name names ino k is (subst (λ (found : Result Ino Why). Misses (touched_unlink found (parent_of tree (name ∷ names))) k) is misses)

-- ---- `rmdir`

no_entries : (names : Names) (name : List ℕ) (ino : Ino) → (finite.len names == 0) ≡ true → ok_or (finite.get names name) NoEnt ≡ Ok ino → ⊥
no_entries names name ino empty is =
    let none : finite.get names name ≡ None = ap (λ (m : Names). finite.get m name) (finite.empty_of_len names (eqb-true (finite.len names) 0 empty)) ∙ finite.get-empty order name in
    let no : Err NoEnt ≡ Ok ino = sym (ap (λ (found : Option Ino). ok_or found NoEnt) none) ∙ is in
    absurd (cc)

empty_nameless : (node : Option Node) (at ino : Ino) → as_empty_directory node at ≡ Ok ino → HasNoNames node
empty_nameless (Some (Directory names)) at ino is name other named =
    elim (finite.len names == 0) as (λ b. (finite.len names == 0) ≡ b → (if b then Ok at else Err NotEmpty) ≡ Ok ino → ⊥) [
      | true ↦ λ e yes. no_entries names name other e named
      | false ↦ λ e no. absurd (cc)
    ] refl is
empty_nameless (Some (Regular file)) at ino is name other named = absurd (cc)
empty_nameless None at ino is name other named = absurd (cc)

judged_nameless : (tree : Tree) (found : Result Ino Why) (ino : Ino) → judged as_empty_directory tree found ≡ Ok ino → HasNoNames (node_at tree ino)
judged_nameless tree (Ok at) ino is =
    let same : Ok at ≡ Ok ino = judged_empty tree (Ok at) ino is in
    subst (λ (i : Ino). HasNoNames (node_at tree i)) (let equal : at ≡ ino = cc in equal) (empty_nameless (node_at tree at) at ino is)
judged_nameless tree (Err why) ino is = absurd (cc)

directory_taken : (tree : Tree) (place ino : Ino) (name : List ℕ) (k : ℕ) → NamesIt (node_at tree place) name ino → HasNoNames (node_at tree ino) → k ≢ place.0 → k ≢ ino.0 → Stays tree (with_node (take_name tree place name) ino.0 None) k
directory_taken tree place ino name k named nameless apart other =
    let less : Tree = take_name tree place name in
    record {
      node = get_or-set_other less.nodes ino.0 k None None other ∙ get_or-set_other tree.nodes place.0 k _ None apart;
      opened = λ is. is;
      named = named_by tree (with_node less ino.0 None) k (λ m step is. record {
        place = m;
        name = step;
        names = elsewhere less.nodes ino.0 m None step (numbered k) (λ same. nameless step (numbered k) (subst (λ (n : ℕ). NamesIt (node_of tree n) step (numbered k)) same is))
            (still_names_it tree.nodes place.0 m name step (numbered k) (λ here same. other (ap (λ (i : Ino). i.0) (sym (one_place tree place m name step ino (numbered k) here same named is)))) is);
      });
    }

pub removed_stays : (tree : Tree) (path : List (List ℕ)) (found : Result Ino Why) (k : ℕ) → removable tree path ≡ found → Misses (touched_rmdir found (parent_of tree path)) k → Stays tree (without_directory tree found (parent_of tree path) path) k
removed_stays tree [] (Ok ino) k is misses = absurd (cc)
removed_stays tree (name ∷ names) (Ok ino) k is misses =
    let p = has_parent tree name names ino (judged_empty tree (resolved tree (name ∷ names)) ino is) in
    let touched : Misses ((p.place, 1) ∷ (ino, 1) ∷ []) k = subst (λ (above : Result Ino Why). Misses (touched_rmdir (Ok ino) above) k) p.parent misses in
    subst (λ (above : Result Ino Why). Stays tree (without_directory tree (Ok ino) above (name ∷ names)) k) (sym p.parent)
    (directory_taken tree p.place ino (last_of (name ∷ names)) k p.named (judged_nameless tree (resolved tree (name ∷ names)) ino is) (head_misses (p.place, 1) ((ino, 1) ∷ []) k touched) (head_misses (ino, 1) [] k (rest_misses (p.place, 1) ((ino, 1) ∷ []) k touched)))
removed_stays tree path (Err why) k is misses = unaltered tree k

-- ---- `rename`

target_nameless : (node target : Option Node) → IsThere node → CanReplace node target → HasNoNames target
target_nameless (Some (Directory names)) (Some (Directory others)) there fits name ino is = no_entries others name ino fits is
target_nameless (Some (Directory names)) (Some (Regular file)) there fits name ino is = absurd (cc)
target_nameless (Some (Directory names)) None there fits name ino is = absurd (cc)
target_nameless (Some (Regular file)) (Some (Directory others)) there fits name ino is = absurd fits
target_nameless (Some (Regular file)) (Some (Regular other)) there fits name ino is = absurd (cc)
target_nameless (Some (Regular file)) None there fits name ino is = absurd (cc)
target_nameless None target there fits name ino is = absurd (there refl)

-- what is replaced is apart from all that a name was in, and from the goal's directory
record Replaces (tree : Tree) (to : Ino) (goal : List ℕ) (replaced : Option Ino) (k : ℕ) : Type 0 where
  apart : IfSome replaced (λ target. k ≢ target.0)
  nameless : IfSome replaced (λ target. HasNoNames (node_at tree target))
  stood : IfSome replaced (NamesIt (node_at tree to) goal)
  vacant : replaced ≡ None → looked_up (node_at tree to) goal ≡ Err NoEnt

-- the goal doesn't stand for the inode
not_goal : (tree : Tree) (to : Ino) (goal : List ℕ) (replaced : Option Ino) (k : ℕ) → Replaces tree to goal replaced k → NamesIt (node_at tree to) goal (numbered k) → ⊥
not_goal tree to goal (Some target) k r is = r.apart (ap (λ (i : Ino). i.0) (one_inode (node_at tree to) goal (numbered k) target is r.stood))
not_goal tree to goal None k r is = let no : Err NoEnt ≡ Ok (numbered k) = sym (r.vacant refl) ∙ is in absurd (cc)

-- a name that stays where what is replaced goes
record IsLastingName (less : Tree) (replaced : Option Ino) (k : ℕ) : Type 0 where
  place : ℕ
  name : List ℕ
  names : NamesIt (node_of less place) name (numbered k)
  apart : IfSome replaced (λ target. place ≢ target.0)

-- what holds a name isn't what is replaced
holds_apart : (tree : Tree) (replaced : Option Ino) (m : ℕ) (name : List ℕ) (ino : Ino) → IfSome replaced (λ target. HasNoNames (node_at tree target)) → NamesIt (node_of tree m) name ino → IfSome replaced (λ target. m ≢ target.0)
holds_apart tree None m name ino nameless is = tt
holds_apart tree (Some target) m name ino nameless is = λ same. nameless name ino (subst (λ (n : ℕ). NamesIt (node_of tree n) name ino) same is)

stood_apart : (tree : Tree) (to : Ino) (goal : List ℕ) (replaced : Option Ino) → IfSome replaced (λ target. HasNoNames (node_at tree target)) → IfSome replaced (NamesIt (node_at tree to) goal) → IfSome replaced (λ target. to.0 ≢ target.0)
stood_apart tree to goal None nameless stood = tt
stood_apart tree to goal (Some target) nameless stood = λ same. nameless goal target (subst (λ (n : ℕ). NamesIt (node_of tree n) goal target) same stood)

lasting : (tree : Tree) (from to ino : Ino) (name goal : List ℕ) (replaced : Option Ino) (k m : ℕ) (step : List ℕ) → NamesIt (node_at tree from) name ino → k ≢ ino.0 → Replaces tree to goal replaced k → NamesIt (node_of tree m) step (numbered k)
    → IsLastingName (take_name (put_name tree to goal ino) from name) replaced k
lasting tree from to ino name goal replaced k m step named other r is = record {
  place = m;
  name = step;
  names = still_names_it (put_name tree to goal ino).nodes from.0 m name step (numbered k) (λ here same. other (ap (λ (i : Ino). i.0) (sym (one_place tree from m name step ino (numbered k) here same named is))))
      (names_it_too tree.nodes to.0 m goal step ino (numbered k) (λ here same. not_goal tree to goal replaced k r
      (subst (λ (n : List ℕ). NamesIt (node_at tree to) n (numbered k)) (sym same) (subst (λ (n : ℕ). NamesIt (node_of tree n) step (numbered k)) (sym here) is))) is);
  apart = holds_apart tree replaced m step (numbered k) r.nameless is;
}

-- the entry that is moved has the goal as its name
moved_name : (tree : Tree) (from to ino : Ino) (name goal : List ℕ) (replaced : Option Ino) (k : ℕ) → k ≡ ino.0 → kind_of (node_at tree to) ≡ Some IsDirectory → (from.0 ≡ to.0 → name ≢ goal) → Replaces tree to goal replaced k
    → IsLastingName (take_name (put_name tree to goal ino) from name) replaced k
moved_name tree from to ino name goal replaced k same directory two r = record {
  place = to.0;
  name = goal;
  names = subst (λ (n : ℕ). NamesIt (node_of (take_name (put_name tree to goal ino) from name) to.0) goal (numbered n)) (sym same)
      (still_names_it (put_name tree to goal ino).nodes from.0 to.0 name goal ino two (put_names_it tree.nodes to.0 goal ino directory));
  apart = stood_apart tree to goal replaced r.nameless r.stood;
}

replaced_goes : (less : Tree) (replaced : Option Ino) (k : ℕ) → IsLastingName less replaced k → IsNamedAt (without_replaced less replaced).nodes k
replaced_goes less None k l = record { place = l.place; name = l.name; names = l.names }
replaced_goes less (Some target) k l = elim (is_directory (node_at less target)) as (λ b. IsNamedAt (if b then with_node less target.0 None else less).nodes k) [
  | true ↦ record { place = l.place; name = l.name; names = elsewhere less.nodes target.0 l.place None l.name (numbered k) l.apart l.names }
  | false ↦ record { place = l.place; name = l.name; names = l.names }
]

replaced_node : (less : Tree) (replaced : Option Ino) (k : ℕ) → IfSome replaced (λ target. k ≢ target.0) → node_of (without_replaced less replaced) k ≡ node_of less k
replaced_node less None k apart = refl
replaced_node less (Some target) k apart = elim (is_directory (node_at less target)) as (λ b. node_of (if b then with_node less target.0 None else less) k ≡ node_of less k) [
  | true ↦ get_or-set_other less.nodes target.0 k None None apart
  | false ↦ refl
]

replaced_open : (less : Tree) (replaced : Option Ino) (k : ℕ) → is_open less k ≡ true → is_open (without_replaced less replaced) k ≡ true
replaced_open less None k is = is
replaced_open less (Some target) k is = elim (is_directory (node_at less target)) as (λ b. is_open (if b then with_node less target.0 None else less) k ≡ true) [ true ↦ is | false ↦ is ]

move_stays : (tree : Tree) (from to ino : Ino) (name goal : List ℕ) (replaced : Option Ino) (k : ℕ) → NamesIt (node_at tree from) name ino → kind_of (node_at tree to) ≡ Some IsDirectory → (from.0 ≡ to.0 → name ≢ goal)
    → Replaces tree to goal replaced k → k ≢ from.0 → k ≢ to.0 → Stays tree (without_replaced (take_name (put_name tree to goal ino) from name) replaced) k
move_stays tree from to ino name goal replaced k named directory two r out into =
    let there : Tree = put_name tree to goal ino in
    let less : Tree = take_name there from name in
    record {
      node = replaced_node less replaced k r.apart ∙ get_or-set_other there.nodes from.0 k _ None out ∙ get_or-set_other tree.nodes to.0 k _ None into;
      opened = λ is. replaced_open less replaced k is;
      named = named_by tree (without_replaced less replaced) k (λ m step is. replaced_goes less replaced k (elim (cases_eq k ino.0) [
        | inl same ↦ moved_name tree from to ino name goal replaced k same directory two r
        | inr other ↦ lasting tree from to ino name goal replaced k m step named other r is
      ]));
    }

record MissesPlaces (from to : Ino) (rest : List Touch) (k : ℕ) : Type 0 where
  from_apart : k ≢ from.0
  to_apart : k ≢ to.0
  others : Misses rest k

misses_places : (from to : Ino) (rest : List Touch) (k : ℕ) → Misses (touched_places from to ++ rest) k → MissesPlaces from to rest k
misses_places from to rest k misses =
    elim (from.0 == to.0) as (λ b. (from.0 == to.0) ≡ b → Misses ((if b then (from, 1) ∷ [] else (from, 1) ∷ (to, 1) ∷ []) ++ rest) k → MissesPlaces from to rest k) [
      | true ↦ λ e misses. record {
        from_apart = head_misses (from, 1) rest k misses;
        to_apart = λ same. head_misses (from, 1) rest k misses (same ∙ sym (eqb-true from.0 to.0 e));
        others = rest_misses (from, 1) rest k misses;
      }
      | false ↦ λ e misses. (let further : Misses ((to, 1) ∷ rest) k = rest_misses (from, 1) ((to, 1) ∷ rest) k misses in record {
        from_apart = head_misses (from, 1) ((to, 1) ∷ rest) k misses;
        to_apart = head_misses (to, 1) rest k further;
        others = rest_misses (to, 1) rest k further;
      })
    ] refl misses

misses_target : (tree : Tree) (replaced : Option Ino) (k : ℕ) → Misses (touched_target tree replaced) k → IfSome replaced (λ target. k ≢ target.0)
misses_target tree None k misses = tt
misses_target tree (Some target) k misses =
    elim (is_directory (node_at tree target)) as (λ b. Misses (if b then (target, 1) ∷ [] else touched_file target) k → k ≢ target.0) [
      | true ↦ λ misses. head_misses (target, 1) [] k misses
      | false ↦ λ misses. head_misses (target, 2) ((target, 3) ∷ []) k misses
    ] misses

none_replaced_has : (tree : Tree) (ino : Ino) (replaced : Option Ino) → IsThere (node_at tree ino) → IfSome replaced (λ target. CanReplace (node_at tree ino) (node_at tree target)) → IfSome replaced (λ target. HasNoNames (node_at tree target))
none_replaced_has tree ino None there fits = tt
none_replaced_has tree ino (Some target) there fits = target_nameless (node_at tree ino) (node_at tree target) there fits

went : (tree : Tree) (path goal : List (List ℕ)) (move : Move) (k : ℕ) → OneNamed tree.nodes → IsMove tree path goal move → move.is_same ≡ false → (same_move move.ino move.from move.to ≡ move) ⊎ Goes tree path goal move.ino move.from move.to move
    → Misses (touched_places move.from move.to ++ touched_target tree move.replaced) k → Stays tree (without_replaced (take_name (put_name tree move.to (last_of goal) move.ino) move.from (last_of path)) move.replaced) k
went tree path goal move k all m moves (inl same) misses = let no : true ≡ false = ap (λ (m : Move). m.is_same) same ∙ moves in absurd (cc)
went tree path goal move k all m moves (inr g) misses =
    let places = misses_places move.from move.to (touched_target tree move.replaced) k misses in
    let r : Replaces tree move.to (last_of goal) move.replaced k = record {
      apart = misses_target tree move.replaced k places.others;
      nameless = none_replaced_has tree move.ino move.replaced (all.there move.from.0 (last_of path) move.ino m.named) g.lands.fits;
      stood = g.lands.stood;
      vacant = g.lands.vacant;
    } in
    move_stays tree move.from move.to move.ino (last_of path) (last_of goal) move.replaced k m.named m.directory g.apart r places.from_apart places.to_apart

pub moved_stays : (tree : Tree) (path goal : List (List ℕ)) (found : Result Move Why) (k : ℕ) → OneNamed tree.nodes → move_of tree path goal ≡ found → Misses (touched_rename tree found) k → Stays tree (with_move tree found (last_of path) (last_of goal)) k
moved_stays tree path goal (Ok move) k all is misses =
    let m = moves_by tree path goal move is in
    let less : Tree = take_name (put_name tree move.to (last_of goal) move.ino) move.from (last_of path) in
    elim move.is_same as (λ b. move.is_same ≡ b → Misses (if b then [] else touched_places move.from move.to ++ touched_target tree move.replaced) k → Stays tree (if b then tree else without_replaced less move.replaced) k) [
      | true ↦ λ e misses. unaltered tree k
      | false ↦ λ e misses. went tree path goal move k all m e m.goes misses
    ] refl misses
moved_stays tree path goal (Err why) k all is misses = unaltered tree k
