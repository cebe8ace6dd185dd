-- What a part of a tree tells by itself is what the whole tree tells.
use Rattle.std.proofs.Common.{◌≡◌, ℕ, Bool, true, false, nat_eq, cond, List, [], ◌∷◌, map, All, Option, Some, None, option_map, IfSome, Result, Ok, Err, ok_or, refl, sym, ap, subst, ◌∙◌}
use Rattle.std.specs.List.{find}
use Rattle.std.specs.Ordering.{nat_cmp, eq_by_cmp}
use Rattle.std.specs.Cmp.{eq_by_cmp_equiv}
use Rattle.std.specs.Cmp.Lexicographic.{pointwise, slice_cmp, nat_list_cmp_total, texts_ties}
use Rattle.std.specs.FinMap as finite
use Rattle.std.proofs.lemmas.List.Elements.{All-head, All-tail}
use Rattle.cal_base.specs.declared.directory_entry.DirectoryEntry.{DirectoryEntry}
use Rattle.cal_base.specs.declared.directory_entry.EntryKind.{EntryKind}
use Rattle.cal_base.specs.declared.directory_entry.EntryKind.TheVariants.{File as IsFile, Directory as IsDirectory}
use Rattle.cal_base.specs.declared.identity.ClientId.{ClientId}
use Rattle.cal_base.specs.declared.identity.Ino.{Ino}
use Rattle.tree_law.specs.Names.{Names}
use Rattle.tree_law.specs.Tree.{Tree, root, node_at}
use Rattle.tree_law.specs.Resolve.{looked_up, stepped, walked, resolved}
use Rattle.tree_law.specs.Part.{Part, Place, place_of, found_in, looked_up_in, stepped_in, walked_in, resolved_in, root_place}
use Rattle.tree_law.specs.PartOf.{kind_of, IsKind, IsListing, HasEntries, IsPartOf}
use Rattle.tree_law.specs.declared.node.Node.{Node}
use Rattle.tree_law.specs.declared.node.Node.TheVariants.{Directory, Regular}
use Rattle.tree_law.specs.declared.reply.Why.{Why}
use Rattle.tree_law.specs.declared.reply.Why.TheVariants.{NoEnt}

-- where resolving stands in the part is where it stands in the tree, if the part shows it
pub record AgreesOn (tree : Tree) (place : Place) (at : Result Ino Why) : Type 0 where
  pub same : at ≡ Ok place.0
  pub kind : IsKind tree place.0 place.1

abbrev pub Agrees : Tree → Option (Result Place Why) → Result Ino Why → Type 0
Agrees tree (Some (Ok place)) at = AgreesOn tree place at
Agrees tree (Some (Err why)) at = at ≡ Err why
Agrees tree None at = Unit {0}

abbrev pair_of : DirectoryEntry → List ℕ × Ino
pair_of entry = (entry.name, entry.ino)

abbrev ino_of : Option DirectoryEntry → Option Ino
ino_of (Some entry) = Some entry.ino
ino_of None = None

same_name : (name other : List ℕ) → eq_by_cmp (slice_cmp nat_cmp) name other ≡ pointwise nat_eq other name
same_name name other = (eq_by_cmp_equiv nat_list_cmp_total).symm name other ∙ sym (texts_ties other name)

-- a name is found among the entries where it is found in the directory
found_same : (name : List ℕ) (entries : List DirectoryEntry) → finite.find (slice_cmp nat_cmp) name (map pair_of entries) ≡ ino_of (find (λ entry. pointwise nat_eq entry.name name) entries)
found_same name [] = refl
found_same name (entry ∷ entries) =
    ap (λ (b : Bool). cond b (Some entry.ino) (finite.find (slice_cmp nat_cmp) name (map pair_of entries))) (same_name name entry.name)
    ∙ elim (pointwise nat_eq entry.name name) as (λ b. cond b (Some entry.ino) (finite.find (slice_cmp nat_cmp) name (map pair_of entries)) ≡ ino_of (cond b (Some entry) (find (λ entry. pointwise nat_eq entry.name name) entries))) [
      | true ↦ refl
      | false ↦ found_same name entries
    ]

got_same : (tree : Tree) (names : Names) (entries : List DirectoryEntry) (name : List ℕ) → IsListing tree names entries → finite.get names name ≡ ino_of (find (λ entry. pointwise nat_eq entry.name name) entries)
got_same tree names entries name is =
    finite.get-entries names name ∙ ap (λ (row : List (List ℕ × Ino)). finite.find (slice_cmp nat_cmp) name row) (sym is.same) ∙ found_same name entries

agrees_or : (tree : Tree) (found : Option DirectoryEntry) → IfSome found (λ entry. IsKind tree entry.ino entry.kind) → Agrees tree (Some (place_of found)) (ok_or (ino_of found) NoEnt)
agrees_or tree (Some entry) kind = record { same = refl; kind = kind }
agrees_or tree None kind = refl

kind_found : (tree : Tree) (name : List ℕ) (entries : List DirectoryEntry) → All (λ entry. IsKind tree entry.ino entry.kind) entries
    → IfSome (find (λ entry. pointwise nat_eq entry.name name) entries) (λ entry. IsKind tree entry.ino entry.kind)
kind_found tree name [] kinds = tt
kind_found tree name (entry ∷ entries) kinds =
    let here : IsKind tree entry.ino entry.kind = All-head (λ entry. IsKind tree entry.ino entry.kind) entry entries kinds in
    let rest = kind_found tree name entries (All-tail (λ entry. IsKind tree entry.ino entry.kind) entry entries kinds) in
    elim (pointwise nat_eq entry.name name) as (λ b. IfSome (cond b (Some entry) (find (λ entry. pointwise nat_eq entry.name name) entries)) (λ entry. IsKind tree entry.ino entry.kind)) [
      | true ↦ here
      | false ↦ rest
    ]

agrees_found : (tree : Tree) (names : Names) (entries : List DirectoryEntry) (name : List ℕ) → IsListing tree names entries → Agrees tree (Some (found_in entries name)) (ok_or (finite.get names name) NoEnt)
agrees_found tree names entries name is =
    subst (λ (got : Option Ino). Agrees tree (Some (found_in entries name)) (ok_or got NoEnt)) (sym (got_same tree names entries name is))
    (agrees_or tree (find (λ entry. pointwise nat_eq entry.name name) entries) (kind_found tree name entries is.kinds))

-- a name looked up in the part
pub agrees_look : (tree : Tree) (part : Part) (ino : Ino) (kind : EntryKind) (node : Option Node) (name : List ℕ) → kind_of node ≡ Some kind
    → ((entries : List DirectoryEntry) → part.entries ino ≡ Some entries → HasEntries tree node entries) → Agrees tree (looked_up_in part ino kind name) (looked_up node name)
agrees_look tree part ino IsDirectory (Some (Directory names)) name is has =
    elim (part.entries ino) as (λ o. part.entries ino ≡ o → Agrees tree (option_map (λ entries. found_in entries name) o) (ok_or (finite.get names name) NoEnt)) [
      | Some entries ↦ λ e. agrees_found tree names entries name (has entries e)
      | None ↦ λ e. tt
    ] refl
agrees_look tree part ino IsDirectory (Some (Regular file)) name is has = absurd (cc)
agrees_look tree part ino IsDirectory None name is has = absurd (cc)
agrees_look tree part ino IsFile (Some (Directory names)) name is has = absurd (cc)
agrees_look tree part ino IsFile (Some (Regular file)) name is has = refl
agrees_look tree part ino IsFile None name is has = absurd (cc)

agrees_step : (tree : Tree) (client : ClientId) (part : Part) → IsPartOf tree client part → (at : Option (Result Place Why)) (there : Result Ino Why) (name : List ℕ) → Agrees tree at there → Agrees tree (stepped_in part at name) (stepped tree there name)
agrees_step tree client part is (Some (Ok place)) there name agrees =
    subst (λ (r : Result Ino Why). Agrees tree (looked_up_in part place.0 place.1 name) (stepped tree r name)) (sym agrees.same)
    (agrees_look tree part place.0 place.1 (node_at tree place.0) name agrees.kind (is.entries place.0))
agrees_step tree client part is (Some (Err why)) there name agrees = ap (λ (r : Result Ino Why). stepped tree r name) agrees
agrees_step tree client part is None there name agrees = tt

agrees_walk : (tree : Tree) (client : ClientId) (part : Part) → IsPartOf tree client part → (names : List (List ℕ)) (at : Option (Result Place Why)) (there : Result Ino Why) → Agrees tree at there → Agrees tree (walked_in part at names) (walked tree there names)
agrees_walk tree client part is [] at there agrees = agrees
agrees_walk tree client part is (name ∷ names) at there agrees = agrees_walk tree client part is names (stepped_in part at name) (stepped tree there name) (agrees_step tree client part is at there name agrees)

-- resolving in the part ends where it ends in the tree
pub agrees_resolve : (tree : Tree) (client : ClientId) (part : Part) → IsPartOf tree client part → (path : List (List ℕ)) → Agrees tree (resolved_in part path) (resolved tree path)
agrees_resolve tree client part is path = agrees_walk tree client part is path root_place (Ok root) (record { same = refl; kind = is.root_is })
