-- A client's needs of the whole tree are met by what it holds exactly where those that it sees itself are.
use Rattle.std.proofs.Common.{◌≡◌, ◌++◌, ◌+◌, ℕ, Bool, true, ◌&&◌, is_some, List, [], ◌∷◌, length, Option, Some, None, option_map, Result, Ok, Err, refl, sym, ap, ◌∙◌, true≢false}
use Rattle.std.specs.List.{list_all}
use Rattle.cal_base.specs.declared.directory_entry.DirectoryEntry.{DirectoryEntry}
use Rattle.cal_base.specs.declared.directory_entry.EntryKind.{EntryKind}
use Rattle.cal_base.specs.declared.directory_entry.EntryKind.TheVariants.{File as IsFile, Directory as IsDirectory}
use Rattle.cal_base.specs.declared.identity.ClientId.{ClientId}
use Rattle.cal_base.specs.declared.identity.Ino.{Ino}
use Rattle.tree_law.specs.Descriptors.{within_limit, writable}
use Rattle.tree_law.specs.Needs.{Need, end_needs, look_needs, names_read, needs, needs_of, open_needs, path_needs, stat_needs, walk_needs, want_of}
use Rattle.tree_law.specs.Part.{Part, Place, end_needs_in, found_in, look_needs_in, looked_up_in, needs_in, needs_of_want_in, open_needs_in, path_needs_in, resolved_in, root_place, stat_needs_in, walk_needs_in}
use Rattle.tree_law.specs.PartOf.{IsPartOf, kind_of}
use Rattle.tree_law.specs.Resolve.{looked_up, resolved}
use Rattle.tree_law.specs.Tree.{Tree, node_at, root}
use Rattle.tree_law.specs.declared.call.Call.{Call}
use Rattle.tree_law.specs.declared.call.Call.TheVariants.{Create, Mkdir, Unlink, Rmdir, Rename, Open, Close, Read, Write, Truncate, Stat, Readdir, Fsync}
use Rattle.tree_law.specs.declared.descriptor.Descriptor.{Descriptor}
use Rattle.tree_law.specs.declared.node.Node.{Node}
use Rattle.tree_law.specs.declared.node.Node.TheVariants.{Directory, Regular}
use Rattle.tree_law.specs.declared.reply.Why.{Why}
use Rattle.tree_law.specs.declared.request.Want.{Want}
use Rattle.tree_law.specs.declared.request.Want.TheVariants.{Stat as WantStat, Open as WantOpen, Readdir as WantReaddir, Read as WantRead, Write as WantWrite}
use Rattle.tree_law.proofs.PartLemmas.{Agrees as Stands, agrees_look, agrees_resolve}
use Rattle.client_cache.specs.Agrees.{Agrees}
use Rattle.client_cache.specs.Covered.{are_met, covered, covered_by, is_met, truncate_room, write_room}
use Rattle.client_cache.specs.Known.{Known, part_of}
use Rattle.client_cache.proofs.Walks.{list_all-append, met_entries, walk_met}

look_same : (ino : Ino) (kind : EntryKind) (node : Option Node) → kind_of node ≡ Some kind → look_needs_in ino kind ≡ look_needs node ino
look_same ino IsDirectory (Some (Directory names)) is = refl
look_same ino IsDirectory (Some (Regular file)) is = absurd (cc)
look_same ino IsDirectory None is = absurd (cc)
look_same ino IsFile (Some (Directory names)) is = absurd (cc)
look_same ino IsFile (Some (Regular file)) is = refl
look_same ino IsFile None is = absurd (cc)

stat_same : (ino : Ino) (kind : EntryKind) (node : Option Node) → kind_of node ≡ Some kind → stat_needs_in ino kind ≡ stat_needs node ino
stat_same ino IsDirectory (Some (Directory names)) is = refl
stat_same ino IsDirectory (Some (Regular file)) is = absurd (cc)
stat_same ino IsDirectory None is = absurd (cc)
stat_same ino IsFile (Some (Directory names)) is = absurd (cc)
stat_same ino IsFile (Some (Regular file)) is = refl
stat_same ino IsFile None is = absurd (cc)

open_same : (ino : Ino) (kind : EntryKind) (node : Option Node) → kind_of node ≡ Some kind → open_needs_in ino kind ≡ open_needs node ino
open_same ino IsDirectory (Some (Directory names)) is = refl
open_same ino IsDirectory (Some (Regular file)) is = absurd (cc)
open_same ino IsDirectory None is = absurd (cc)
open_same ino IsFile (Some (Directory names)) is = absurd (cc)
open_same ino IsFile (Some (Regular file)) is = refl
open_same ino IsFile None is = absurd (cc)

module _ (tree : Tree) (client : ClientId) (part : Part) (is : IsPartOf tree client part) (met : Need → Bool) (entries_met : (ino : Ino) → met (names_read ino) ≡ is_some (part.entries ino)) where
  -- at a directory whose entries the part lacks neither side is met; else both go on
  look_both : (ino : Ino) (o : Option (List DirectoryEntry)) (name : List ℕ) (there : Result Ino Why) (names : List (List ℕ)) → met (names_read ino) ≡ is_some o
      → ((found : Result Place Why) → option_map (λ entries. found_in entries name) o ≡ Some found → list_all met (walk_needs tree there names) ≡ list_all met (walk_needs_in part (Some found) names))
      → (met (names_read ino) && list_all met (walk_needs tree there names)) ≡ (met (names_read ino) && list_all met (walk_needs_in part (option_map (λ entries. found_in entries name) o) names))
  look_both ino None name there names e next =
      ap (λ b. b && list_all met (walk_needs tree there names)) e ∙ sym (ap (λ b. b && list_all met (walk_needs_in part None names)) e)
  look_both ino (Some entries) name there names e next = ap (λ b. met (names_read ino) && b) (next (found_in entries name) refl)

  walk_both : (names : List (List ℕ)) (at : Option (Result Place Why)) (there : Result Ino Why) → Stands tree at there → is_some at ≡ true → list_all met (walk_needs tree there names) ≡ list_all met (walk_needs_in part at names)
  walk_both [] at there stands some = refl
  walk_both (name ∷ names) None there stands some = absurd (true≢false (sym some))
  walk_both (name ∷ names) (Some (Err why)) there stands some = ap (λ (r : Result Ino Why). list_all met (walk_needs tree r (name ∷ names))) stands
  walk_both (name ∷ names) (Some (Ok (ino, IsFile))) there stands some =
      ap (λ (r : Result Ino Why). list_all met (walk_needs tree r (name ∷ names))) stands.same
      ∙ ap (λ looks. list_all met (looks ++ walk_needs tree (looked_up (node_at tree ino) name) names)) (sym (look_same ino IsFile (node_at tree ino) stands.kind))
      ∙ walk_both names (looked_up_in part ino IsFile name) (looked_up (node_at tree ino) name) (agrees_look tree part ino IsFile (node_at tree ino) name stands.kind (is.entries ino)) refl
  walk_both (name ∷ names) (Some (Ok (ino, IsDirectory))) there stands some =
      ap (λ (r : Result Ino Why). list_all met (walk_needs tree r (name ∷ names))) stands.same
      ∙ ap (λ looks. list_all met (looks ++ walk_needs tree (looked_up (node_at tree ino) name) names)) (sym (look_same ino IsDirectory (node_at tree ino) stands.kind))
      ∙ look_both ino (part.entries ino) name (looked_up (node_at tree ino) name) names (entries_met ino)
      (λ found e. ap (λ at. list_all met (walk_needs tree (looked_up (node_at tree ino) name) names)) e
      ∙ walk_both names (looked_up_in part ino IsDirectory name) (looked_up (node_at tree ino) name) (agrees_look tree part ino IsDirectory (node_at tree ino) name stands.kind (is.entries ino)) (ap is_some e)
      ∙ ap (λ at. list_all met (walk_needs_in part at names)) e)

  module _ (needs_part : Ino → EntryKind → List Need) (needs_tree : Option Node → Ino → List Need)
      (each : (ino : Ino) (kind : EntryKind) (node : Option Node) → kind_of node ≡ Some kind → needs_part ino kind ≡ needs_tree node ino) where
    end_both : (at : Option (Result Place Why)) (there : Result Ino Why) (walk : Bool) → Stands tree at there → walk ≡ is_some at → (walk && list_all met (end_needs needs_tree tree there)) ≡ (walk && list_all met (end_needs_in needs_part at))
    end_both None there walk stands e = ap (λ b. b && list_all met (end_needs needs_tree tree there)) e ∙ sym (ap (λ b. b && list_all met (end_needs_in needs_part None)) e)
    end_both (Some (Err why)) there walk stands e = ap (λ (r : Result Ino Why). walk && list_all met (end_needs needs_tree tree r)) stands
    end_both (Some (Ok place)) there walk stands e =
        ap (λ (r : Result Ino Why). walk && list_all met (end_needs needs_tree tree r)) stands.same ∙ ap (λ needs. walk && list_all met needs) (sym (each place.0 place.1 (node_at tree place.0) stands.kind))

    path_both : (path : List (List ℕ)) → list_all met (path_needs needs_tree tree path) ≡ list_all met (path_needs_in needs_part part path)
    path_both path =
        list_all-append met (walk_needs tree (Ok root) path) (end_needs needs_tree tree (resolved tree path))
        ∙ ap (λ b. b && list_all met (end_needs needs_tree tree (resolved tree path))) (walk_both path root_place (Ok root) (record { same = refl; kind = is.root_is }) refl)
        ∙ end_both (resolved_in part path) (resolved tree path) (list_all met (walk_needs_in part root_place path)) (agrees_resolve tree client part is path) (walk_met part met entries_met root_place path refl)
        ∙ sym (list_all-append met (walk_needs_in part root_place path) (end_needs_in needs_part (resolved_in part path)))

  want_both : (want : Option Want) → list_all met (needs_of tree want) ≡ list_all met (needs_of_want_in part want)
  want_both (Some (WantStat path)) = path_both stat_needs_in stat_needs stat_same path
  want_both (Some (WantOpen path)) = path_both open_needs_in open_needs open_same path
  want_both (Some (WantReaddir path)) = path_both look_needs_in look_needs look_same path
  want_both (Some (WantRead ino)) = refl
  want_both (Some (WantWrite ino)) = refl
  want_both None = refl

needs_both : (tree : Tree) (client : ClientId) (known : Known) (call : Call) → Agrees tree client known → are_met known (needs tree client call) ≡ are_met known (needs_in (part_of known) call)
needs_both tree client known call agrees =
    ap (λ (table : List (Option Descriptor)). list_all (is_met known) (needs_of tree (want_of table call))) (sym agrees.part.table)
    ∙ want_both tree client (part_of known) agrees.part (is_met known) (met_entries known) (want_of known.table call)

-- a call is covered by the tree's own needs exactly where it is by those that the client sees
pub covered_both : (tree : Tree) (client : ClientId) (known : Known) (call : Call) → Agrees tree client known → covered known call ≡ covered_by known (needs tree client call) call
covered_both tree client known (Create path) agrees = refl
covered_both tree client known (Mkdir path) agrees = refl
covered_both tree client known (Unlink path) agrees = refl
covered_both tree client known (Rmdir path) agrees = refl
covered_both tree client known (Rename path goal) agrees = refl
covered_both tree client known (Open path mode) agrees = sym (needs_both tree client known (Open path mode) agrees)
covered_both tree client known (Close fd) agrees = refl
covered_both tree client known (Read fd offset len) agrees = sym (needs_both tree client known (Read fd offset len) agrees)
covered_both tree client known (Write fd offset bytes) agrees = ap (λ b. b && write_room known offset (length bytes) (within_limit (offset + length bytes) (writable known.table fd))) (sym (needs_both tree client known (Write fd offset bytes) agrees))
covered_both tree client known (Truncate fd size) agrees = ap (λ b. b && truncate_room known size (within_limit size (writable known.table fd))) (sym (needs_both tree client known (Truncate fd size) agrees))
covered_both tree client known (Stat path) agrees = sym (needs_both tree client known (Stat path) agrees)
covered_both tree client known (Readdir path) agrees = sym (needs_both tree client known (Readdir path) agrees)
covered_both tree client known (Fsync fd) agrees = refl
