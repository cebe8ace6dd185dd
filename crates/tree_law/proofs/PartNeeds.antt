-- Where a part has the entries of each directory of which a call needs Names, the needs that it shows are
-- those of the whole tree; else it shows one that it lacks.
use Rattle.std.proofs.Common.{◌≡◌, ◌⊎◌, ◌++◌, ◌<◌, ℕ, zero, suc, List, [], ◌∷◌, length, slice_index_or, All, Contains, Option, Some, None, option_map, IsSome, Result, Ok, Err, refl, sym, ap, subst, ◌∙◌, inl, inr, arith}
use Rattle.std.proofs.lemmas.List.Elements.{All-nil, All-cons, All-head, All-tail}
use Rattle.cal_base.specs.declared.directory_entry.DirectoryEntry.{DirectoryEntry}
use Rattle.cal_base.specs.declared.directory_entry.EntryKind.{EntryKind}
use Rattle.cal_base.specs.declared.directory_entry.EntryKind.TheVariants.{File as IsFile, Directory as IsDirectory}
use Rattle.cal_base.specs.declared.identity.ClientId.{ClientId}
use Rattle.cal_base.specs.declared.identity.Ino.{Ino}
use Rattle.std.specs.Prelude.{is_some}
use Rattle.tree_law.specs.Tree.{Tree, root, node_at, table_of}
use Rattle.tree_law.specs.Resolve.{looked_up, resolved}
use Rattle.tree_law.specs.Needs.{Need, names_read, look_needs, stat_needs, open_needs, walk_needs, end_needs, path_needs, needs_of, needs, want_of}
use Rattle.tree_law.specs.Part.{Part, Place, found_in, looked_up_in, walked_in, resolved_in, root_place, look_needs_in, stat_needs_in, open_needs_in, walk_needs_in, end_needs_in, path_needs_in, needs_of_want_in, needs_in}
use Rattle.tree_law.specs.PartOf.{kind_of, IsPartOf, HasNeed, HasNeeds, HasNames, HasAllNames, LacksNames}
use Rattle.tree_law.specs.declared.descriptor.Descriptor.{Descriptor}
use Rattle.tree_law.specs.declared.node.Node.{Node}
use Rattle.tree_law.specs.declared.node.Node.TheVariants.{Directory, Regular}
use Rattle.tree_law.specs.declared.call.Call.{Call}
use Rattle.tree_law.specs.declared.reply.Why.{Why}
use Rattle.tree_law.specs.declared.reply.Why.TheVariants.{NotDir}
use Rattle.tree_law.specs.declared.request.Want.{Want}
use Rattle.tree_law.specs.declared.request.Want.TheVariants.{Stat as WantStat, Open as WantOpen, Readdir as WantReaddir, Read as WantRead, Write as WantWrite}
use Rattle.tree_law.proofs.PartLemmas.{Agrees, agrees_look, agrees_resolve}

some_map : {A B : Type 0} (f : A → B) (o : Option A) → IsSome o → IsSome (option_map f o)
some_map f (Some a) some = refl
some_map f None some = absurd (cc)

all_left : (part : Part) (xs ys : List Need) → All (HasNames part) (xs ++ ys) → All (HasNames part) xs
all_left part [] ys has = All-nil (HasNames part)
all_left part (x ∷ xs) ys has = All-cons (HasNames part) x xs (All-head (HasNames part) x (xs ++ ys) has) (all_left part xs ys (All-tail (HasNames part) x (xs ++ ys) has))

look_same : (ino : Ino) (kind : EntryKind) (node : Option Node) → kind_of node ≡ Some kind → look_needs_in ino kind ≡ look_needs node ino
look_same ino IsDirectory (Some (Directory names)) is = refl
look_same ino IsDirectory (Some (Regular file)) is = absurd (cc)
look_same ino IsDirectory None is = absurd (cc)
look_same ino IsFile (Some (Directory names)) is = absurd (cc)
look_same ino IsFile (Some (Regular file)) is = refl
look_same ino IsFile None is = absurd (cc)

stat_same : (ino : Ino) (kind : EntryKind) (node : Option Node) → kind_of node ≡ Some kind → stat_needs_in ino kind ≡ stat_needs node ino
stat_same ino IsDirectory (Some (Directory names)) is = refl
stat_same ino IsDirectory (Some (Regular file)) is = absurd (cc)
stat_same ino IsDirectory None is = absurd (cc)
stat_same ino IsFile (Some (Directory names)) is = absurd (cc)
stat_same ino IsFile (Some (Regular file)) is = refl
stat_same ino IsFile None is = absurd (cc)

open_same : (ino : Ino) (kind : EntryKind) (node : Option Node) → kind_of node ≡ Some kind → open_needs_in ino kind ≡ open_needs node ino
open_same ino IsDirectory (Some (Directory names)) is = refl
open_same ino IsDirectory (Some (Regular file)) is = absurd (cc)
open_same ino IsDirectory None is = absurd (cc)
open_same ino IsFile (Some (Directory names)) is = absurd (cc)
open_same ino IsFile (Some (Regular file)) is = refl
open_same ino IsFile None is = absurd (cc)

-- a name can be looked up where the part has what that needs
look_step : (part : Part) (ino : Ino) (kind : EntryKind) (name : List ℕ) (rest : List Need) → All (HasNames part) (look_needs_in ino kind ++ rest) → IsSome (looked_up_in part ino kind name) × All (HasNames part) rest
look_step part ino IsDirectory name rest has =
    (some_map (λ (entries : List DirectoryEntry). found_in entries name) (part.entries ino) ((All-head (HasNames part) (names_read ino) rest has) refl), All-tail (HasNames part) (names_read ino) rest has)
look_step part ino IsFile name rest has = (refl, has)

refused_walk : (part : Part) (why : Why) (names : List (List ℕ)) → IsSome (walked_in part (Some (Err why)) names)
refused_walk part why [] = refl
refused_walk part why (name ∷ names) = refused_walk part why names

walk_same : (tree : Tree) (client : ClientId) (part : Part) → IsPartOf tree client part → (names : List (List ℕ)) (at : Option (Result Place Why)) (there : Result Ino Why) → Agrees tree at there → IsSome at → All (HasNames part) (walk_needs_in part at names)
    → (walk_needs_in part at names ≡ walk_needs tree there names) × IsSome (walked_in part at names)
walk_same tree client part is [] at there agrees some has = (refl, some)
walk_same tree client part is (name ∷ names) None there agrees some has = absurd (cc)
walk_same tree client part is (name ∷ names) (Some (Err why)) there agrees some has =
    (ap (λ (r : Result Ino Why). walk_needs tree r (name ∷ names)) (sym agrees), refused_walk part why names)
walk_same tree client part is (name ∷ names) (Some (Ok place)) there agrees some has =
    let rest : List Need = walk_needs_in part (looked_up_in part place.0 place.1 name) names in
    let step = look_step part place.0 place.1 name rest has in
    let more = walk_same tree client part is names (looked_up_in part place.0 place.1 name) (looked_up (node_at tree place.0) name)
    (agrees_look tree part place.0 place.1 (node_at tree place.0) name agrees.kind (is.entries place.0)) step.0 step.1 in
    let same : look_needs_in place.0 place.1 ++ rest ≡ walk_needs tree (Ok place.0) (name ∷ names) =
    λ i. look_same place.0 place.1 (node_at tree place.0) agrees.kind i ++ more.0 i in
    (same ∙ ap (λ (r : Result Ino Why). walk_needs tree r (name ∷ names)) (sym agrees.same), more.1)

end_same : (tree : Tree) (needs_part : Ino → EntryKind → List Need) (needs_tree : Option Node → Ino → List Need)
    → ((ino : Ino) (kind : EntryKind) (node : Option Node) → kind_of node ≡ Some kind → needs_part ino kind ≡ needs_tree node ino)
    → (at : Option (Result Place Why)) (there : Result Ino Why) → Agrees tree at there → IsSome at → end_needs_in needs_part at ≡ end_needs needs_tree tree there
end_same tree needs_part needs_tree each (Some (Ok place)) there agrees some =
    each place.0 place.1 (node_at tree place.0) agrees.kind ∙ ap (λ (r : Result Ino Why). end_needs needs_tree tree r) (sym agrees.same)
end_same tree needs_part needs_tree each (Some (Err why)) there agrees some = ap (λ (r : Result Ino Why). end_needs needs_tree tree r) (sym agrees)
end_same tree needs_part needs_tree each None there agrees some = absurd (cc)

walk_from_root : (tree : Tree) (client : ClientId) (part : Part) → IsPartOf tree client part → (path : List (List ℕ)) → All (HasNames part) (walk_needs_in part root_place path)
    → (walk_needs_in part root_place path ≡ walk_needs tree (Ok root) path) × IsSome (resolved_in part path)
walk_from_root tree client part is path has = walk_same tree client part is path root_place (Ok root) (record { same = refl; kind = is.root_is }) refl has

path_same : (tree : Tree) (client : ClientId) (part : Part) → IsPartOf tree client part → (needs_part : Ino → EntryKind → List Need) (needs_tree : Option Node → Ino → List Need)
    → ((ino : Ino) (kind : EntryKind) (node : Option Node) → kind_of node ≡ Some kind → needs_part ino kind ≡ needs_tree node ino)
    → (path : List (List ℕ)) → All (HasNames part) (path_needs_in needs_part part path) → path_needs_in needs_part part path ≡ path_needs needs_tree tree path
path_same tree client part is needs_part needs_tree each path has =
    let walk = walk_from_root tree client part is path (all_left part (walk_needs_in part root_place path) (end_needs_in needs_part (resolved_in part path)) has) in
    let last = end_same tree needs_part needs_tree each (resolved_in part path) (resolved tree path) (agrees_resolve tree client part is path) walk.1 in
    λ i. walk.0 i ++ last i

want_same : (tree : Tree) (client : ClientId) (part : Part) → IsPartOf tree client part → (want : Option Want) → All (HasNames part) (needs_of_want_in part want) → needs_of_want_in part want ≡ needs_of tree want
want_same tree client part is (Some (WantStat path)) has = path_same tree client part is stat_needs_in stat_needs stat_same path has
want_same tree client part is (Some (WantOpen path)) has = path_same tree client part is open_needs_in open_needs open_same path has
want_same tree client part is (Some (WantReaddir path)) has = path_same tree client part is look_needs_in look_needs look_same path has
want_same tree client part is (Some (WantRead ino)) has = refl
want_same tree client part is (Some (WantWrite ino)) has = refl
want_same tree client part is None has = refl

-- the needs that a part shows, where it has the entries of each directory of which it shows Names, are those of
-- the whole tree
pub names_needs : (tree : Tree) (client : ClientId) (part : Part) (call : Call) → IsPartOf tree client part → HasAllNames part call → needs_in part call ≡ needs tree client call
names_needs tree client part call is has =
    want_same tree client part is (want_of part.table call) has ∙ ap (λ (table : List (Option Descriptor)). needs_of tree (want_of table call)) is.table

names_of : (part : Part) (ns : List Need) → All (HasNeed part) ns → All (HasNames part) ns
names_of part [] has = All-nil (HasNames part)
names_of part (n ∷ ns) has = All-cons (HasNames part) n ns ((All-head (HasNeed part) n ns has).entries) (names_of part ns (All-tail (HasNeed part) n ns has))

-- the same where it has all that it shows
pub part_needs : (tree : Tree) (client : ClientId) (part : Part) (call : Call) → IsPartOf tree client part → HasNeeds part call → needs_in part call ≡ needs tree client call
part_needs tree client part call is has = names_needs tree client part call is (names_of part (needs_in part call) has)

contains_cons : (x first : Need) (xs : List Need) → Contains xs x → Contains (first ∷ xs) x
contains_cons x first xs has = (suc has.0, omega (arith, has.1), has.2)

contains_right : (x : Need) (xs ys : List Need) → Contains ys x → Contains (xs ++ ys) x
contains_right x [] ys has = has
contains_right x (first ∷ xs) ys has = contains_cons x first (xs ++ ys) (contains_right x xs ys has)

contains_front : (x : Need) (xs ys : List Need) (k : ℕ) → k < length xs → slice_index_or xs k x ≡ x → Contains (xs ++ ys) x
contains_front x [] ys k below same = absurd (omega (arith, below))
contains_front x (first ∷ xs) ys zero below same = (zero, omega arith, same)
contains_front x (first ∷ xs) ys (suc k) below same = contains_cons x first (xs ++ ys) (contains_front x xs ys k (omega (arith, below)) same)

contains_left : (x : Need) (xs ys : List Need) → Contains xs x → Contains (xs ++ ys) x
contains_left x xs ys has = contains_front x xs ys has.0 has.1 has.2

-- Names of a directory whose entries the part lacks is among what is shown and among what is needed
record Lacks (part : Part) (ours theirs : List Need) : Type 0 where
  directory : Ino
  shown : Contains ours (names_read directory)
  needed : Contains theirs (names_read directory)
  lacks : part.entries directory ≡ None

lacks_behind : (part : Part) (front : List Need) (shown needed : List Need) → Lacks part shown needed → Lacks part (front ++ shown) (front ++ needed)
lacks_behind part front shown needed is =
    record { directory = is.directory; shown = contains_right (names_read is.directory) front shown is.shown; needed = contains_right (names_read is.directory) front needed is.needed; lacks = is.lacks }

lacks_before : (part : Part) (shown needed more others : List Need) → Lacks part shown needed → Lacks part (shown ++ more) (needed ++ others)
lacks_before part shown needed more others is =
    record { directory = is.directory; shown = contains_left (names_read is.directory) shown more is.shown; needed = contains_left (names_read is.directory) needed others is.needed; lacks = is.lacks }

-- a walk shows the needs of the tree's walk, or lacks a directory on its way
abbrev Walked : Tree → Part → List (List ℕ) → Option (Result Place Why) → Result Ino Why → Type 0
Walked tree part names at there = ((walk_needs_in part at names ≡ walk_needs tree there names) × IsSome (walked_in part at names)) ⊎ Lacks part (walk_needs_in part at names) (walk_needs tree there names)

joined : (part : Part) (front shown needed : List Need) (some : Type 0) → ((shown ≡ needed) × some) ⊎ Lacks part shown needed → ((front ++ shown ≡ front ++ needed) × some) ⊎ Lacks part (front ++ shown) (front ++ needed)
joined part front shown needed some (inl both) = inl (ap (λ (ns : List Need). front ++ ns) both.0, both.1)
joined part front shown needed some (inr lacks) = inr (lacks_behind part front shown needed lacks)

lacking : (part : Part) (ino : Ino) (more others : List Need) → part.entries ino ≡ None → Lacks part (names_read ino ∷ more) (names_read ino ∷ others)
lacking part ino more others none = record { directory = ino; shown = (zero, omega arith, refl); needed = (zero, omega arith, refl); lacks = none }

walk_at : (tree : Tree) (part : Part) (name : List ℕ) (names : List (List ℕ)) (ino : Ino) (kind : EntryKind) → kind_of (node_at tree ino) ≡ Some kind
    → (IsSome (looked_up_in part ino kind name) → Walked tree part names (looked_up_in part ino kind name) (looked_up (node_at tree ino) name))
    → Walked tree part (name ∷ names) (Some (Ok (ino, kind))) (Ok ino)
walk_at tree part name names ino IsDirectory is more =
    subst (λ (front : List Need). ((names_read ino ∷ walk_needs_in part (looked_up_in part ino IsDirectory name) names ≡ front ++ walk_needs tree (looked_up (node_at tree ino) name) names)
    × IsSome (walked_in part (looked_up_in part ino IsDirectory name) names))
    ⊎ Lacks part (names_read ino ∷ walk_needs_in part (looked_up_in part ino IsDirectory name) names) (front ++ walk_needs tree (looked_up (node_at tree ino) name) names)) (look_same ino IsDirectory (node_at tree ino) is)
    (elim (part.entries ino) as (λ o. part.entries ino ≡ o → ((names_read ino ∷ walk_needs_in part (looked_up_in part ino IsDirectory name) names ≡ names_read ino ∷ walk_needs tree (looked_up (node_at tree ino) name) names)
    × IsSome (walked_in part (looked_up_in part ino IsDirectory name) names))
    ⊎ Lacks part (names_read ino ∷ walk_needs_in part (looked_up_in part ino IsDirectory name) names) (names_read ino ∷ walk_needs tree (looked_up (node_at tree ino) name) names)) [
      | None ↦ λ e. inr (lacking part ino (walk_needs_in part (looked_up_in part ino IsDirectory name) names) (walk_needs tree (looked_up (node_at tree ino) name) names) e)
      | Some entries ↦ λ e. joined part (names_read ino ∷ []) (walk_needs_in part (looked_up_in part ino IsDirectory name) names) (walk_needs tree (looked_up (node_at tree ino) name) names)
          (IsSome (walked_in part (looked_up_in part ino IsDirectory name) names))
          (more (some_map (λ (row : List DirectoryEntry). found_in row name) (part.entries ino) (ap is_some e)))
    ] refl)
walk_at tree part name names ino IsFile is more =
    subst (λ (front : List Need). ((walk_needs_in part (Some (Err NotDir)) names ≡ front ++ walk_needs tree (looked_up (node_at tree ino) name) names) × IsSome (walked_in part (Some (Err NotDir)) names))
    ⊎ Lacks part (walk_needs_in part (Some (Err NotDir)) names) (front ++ walk_needs tree (looked_up (node_at tree ino) name) names)) (look_same ino IsFile (node_at tree ino) is) (more refl)

walk_or_lacks : (tree : Tree) (client : ClientId) (part : Part) → IsPartOf tree client part → (names : List (List ℕ)) (at : Option (Result Place Why)) (there : Result Ino Why) → Agrees tree at there → IsSome at
    → Walked tree part names at there
walk_or_lacks tree client part is [] at there agrees some = inl (refl, some)
walk_or_lacks tree client part is (name ∷ names) None there agrees some = absurd (cc)
walk_or_lacks tree client part is (name ∷ names) (Some (Err why)) there agrees some =
    inl (ap (λ (r : Result Ino Why). walk_needs tree r (name ∷ names)) (sym agrees), refused_walk part why names)
walk_or_lacks tree client part is (name ∷ names) (Some (Ok place)) there agrees some =
    subst (λ (r : Result Ino Why). Walked tree part (name ∷ names) (Some (Ok place)) r) (sym agrees.same)
    (walk_at tree part name names place.0 place.1 agrees.kind
    (walk_or_lacks tree client part is names (looked_up_in part place.0 place.1 name) (looked_up (node_at tree place.0) name)
    (agrees_look tree part place.0 place.1 (node_at tree place.0) name agrees.kind (is.entries place.0))))

-- the needs of a path
abbrev Pathed : Tree → Part → (Ino → EntryKind → List Need) → (Option Node → Ino → List Need) → List (List ℕ) → Type 0
Pathed tree part needs_part needs_tree path = (path_needs_in needs_part part path ≡ path_needs needs_tree tree path) ⊎ Lacks part (path_needs_in needs_part part path) (path_needs needs_tree tree path)

path_of_walk : (tree : Tree) (client : ClientId) (part : Part) → IsPartOf tree client part → (needs_part : Ino → EntryKind → List Need) (needs_tree : Option Node → Ino → List Need)
    → ((ino : Ino) (kind : EntryKind) (node : Option Node) → kind_of node ≡ Some kind → needs_part ino kind ≡ needs_tree node ino)
    → (path : List (List ℕ)) → Walked tree part path root_place (Ok root) → Pathed tree part needs_part needs_tree path
path_of_walk tree client part is needs_part needs_tree each path (inl both) =
    let last = end_same tree needs_part needs_tree each (resolved_in part path) (resolved tree path) (agrees_resolve tree client part is path) both.1 in
    inl (λ i. both.0 i ++ last i)
path_of_walk tree client part is needs_part needs_tree each path (inr lacks) =
    inr (lacks_before part (walk_needs_in part root_place path) (walk_needs tree (Ok root) path) (end_needs_in needs_part (resolved_in part path)) (end_needs needs_tree tree (resolved tree path)) lacks)

path_or_lacks : (tree : Tree) (client : ClientId) (part : Part) → IsPartOf tree client part → (needs_part : Ino → EntryKind → List Need) (needs_tree : Option Node → Ino → List Need)
    → ((ino : Ino) (kind : EntryKind) (node : Option Node) → kind_of node ≡ Some kind → needs_part ino kind ≡ needs_tree node ino)
    → (path : List (List ℕ)) → Pathed tree part needs_part needs_tree path
path_or_lacks tree client part is needs_part needs_tree each path =
    path_of_walk tree client part is needs_part needs_tree each path (walk_or_lacks tree client part is path root_place (Ok root) (record { same = refl; kind = is.root_is }) refl)

want_or_lacks : (tree : Tree) (client : ClientId) (part : Part) → IsPartOf tree client part → (want : Option Want)
    → (needs_of_want_in part want ≡ needs_of tree want) ⊎ Lacks part (needs_of_want_in part want) (needs_of tree want)
want_or_lacks tree client part is (Some (WantStat path)) = path_or_lacks tree client part is stat_needs_in stat_needs stat_same path
want_or_lacks tree client part is (Some (WantOpen path)) = path_or_lacks tree client part is open_needs_in open_needs open_same path
want_or_lacks tree client part is (Some (WantReaddir path)) = path_or_lacks tree client part is look_needs_in look_needs look_same path
want_or_lacks tree client part is (Some (WantRead ino)) = inl refl
want_or_lacks tree client part is (Some (WantWrite ino)) = inl refl
want_or_lacks tree client part is None = inl refl

call_of_want : (tree : Tree) (client : ClientId) (part : Part) (call : Call) → part.table ≡ table_of tree client
    → (needs_in part call ≡ needs_of tree (want_of part.table call)) ⊎ Lacks part (needs_in part call) (needs_of tree (want_of part.table call))
    → (needs_in part call ≡ needs tree client call) ⊎ LacksNames tree client part call
call_of_want tree client part call table (inl same) = inl (same ∙ ap (λ (t : List (Option Descriptor)). needs_of tree (want_of t call)) table)
call_of_want tree client part call table (inr lacks) =
    inr (record { directory = lacks.directory; shown = lacks.shown; needed = subst (λ (t : List (Option Descriptor)). Contains (needs_of tree (want_of t call)) (names_read lacks.directory)) table lacks.needed; lacks = lacks.lacks })

-- the needs that a part shows are those of the whole tree, or one is of a directory whose entries it lacks
pub needs_or_lacks : (tree : Tree) (client : ClientId) (part : Part) (call : Call) → IsPartOf tree client part → (needs_in part call ≡ needs tree client call) ⊎ LacksNames tree client part call
needs_or_lacks tree client part call is = call_of_want tree client part call is.table (want_or_lacks tree client part is (want_of part.table call))
