-- The replies of a part are those of the whole tree.
use Rattle.std.proofs.Common.{◌≡◌, ℕ, true, false, List, [], ◌∷◌, length, map, Option, Some, None, option_map, IfSome, Result, Ok, Err, refl, sym, ap, subst, ◌∙◌, if◌then◌else◌}
use Rattle.std.specs.FinMap as finite
use Rattle.cal_base.specs.declared.directory_entry.DirectoryEntry.{DirectoryEntry}
use Rattle.cal_base.specs.declared.directory_entry.EntryKind.{EntryKind}
use Rattle.cal_base.specs.declared.directory_entry.EntryKind.TheVariants.{File as IsFile, Directory as IsDirectory}
use Rattle.cal_base.specs.declared.identity.ClientId.{ClientId}
use Rattle.cal_base.specs.declared.identity.Ino.{Ino}
use Rattle.file_bytes.specs.Bytes.{read_at}
use Rattle.tree_law.specs.Tree.{Tree, node_at, table_of, least_unused, descriptor_at}
use Rattle.tree_law.specs.Resolve.{resolved, judged, as_file}
use Rattle.tree_law.specs.Descriptors.{file_behind, reads}
use Rattle.tree_law.specs.Answer.{answer, status_of, listing_of, bytes_of, told_at, opened_as}
use Rattle.tree_law.specs.Part.{Part, Place, answer_in, status_in, listing_in, opened_in, told_in, opening_in, bytes_in, resolved_in}
use Rattle.tree_law.specs.PartOf.{kind_of, IsKind, HasEntries, HasContents, HasSize, IsPartOf}
use Rattle.tree_law.specs.declared.descriptor.Descriptor.{Descriptor}
use Rattle.tree_law.specs.declared.node.Node.{Node}
use Rattle.tree_law.specs.declared.node.Node.TheVariants.{Directory, Regular}
use Rattle.tree_law.specs.declared.call.Call.{Call}
use Rattle.tree_law.specs.declared.call.Call.TheVariants.{Create, Mkdir, Unlink, Rmdir, Rename, Open, Close, Read, Write, Truncate, Stat, Readdir, Fsync}
use Rattle.tree_law.specs.declared.reply.Reply.{Reply}
use Rattle.tree_law.specs.declared.reply.Reply.TheVariants.{Bytes, File, Names as Listed, Refused}
use Rattle.tree_law.specs.declared.reply.Why.{Why}
use Rattle.tree_law.specs.declared.reply.Why.TheVariants.{BadF}
use Rattle.tree_law.proofs.PartLemmas.{Agrees, agrees_resolve}

-- a reply that the part gives, if it gives one, is this one
abbrev Gives : Option Reply → Reply → Type 0
Gives told reply = IfSome told (λ given. given ≡ reply)

status_same : (part : Part) (ino : Ino) (kind : EntryKind) (node : Option Node) → kind_of node ≡ Some kind → ((size : ℕ) → part.size ino ≡ Some size → HasSize node size) → Gives (status_in part ino kind) (status_of node)
status_same part ino IsDirectory (Some (Directory names)) is has = refl
status_same part ino IsDirectory (Some (Regular file)) is has = absurd (cc)
status_same part ino IsDirectory None is has = absurd (cc)
status_same part ino IsFile (Some (Directory names)) is has = absurd (cc)
status_same part ino IsFile (Some (Regular file)) is has =
    elim (part.size ino) as (λ o. part.size ino ≡ o → Gives (option_map (λ size. File size) o) (File (length file.contents))) [
      | Some size ↦ λ e. ap (λ (n : ℕ). File n) (sym (has size e))
      | None ↦ λ e. tt
    ] refl
status_same part ino IsFile None is has = absurd (cc)

names_same : (entries : List DirectoryEntry) → map (λ entry. entry.name) entries ≡ map (λ (pair : List ℕ × Ino). pair.0) (map (λ entry. (entry.name, entry.ino)) entries)
names_same [] = refl
names_same (entry ∷ entries) = ap (λ (rest : List (List ℕ)). entry.name ∷ rest) (names_same entries)

listing_same : (tree : Tree) (part : Part) (ino : Ino) (kind : EntryKind) (node : Option Node) → kind_of node ≡ Some kind → ((entries : List DirectoryEntry) → part.entries ino ≡ Some entries → HasEntries tree node entries)
    → Gives (listing_in part ino kind) (listing_of node)
listing_same tree part ino IsDirectory (Some (Directory names)) is has =
    elim (part.entries ino) as (λ o. part.entries ino ≡ o → Gives (option_map (λ entries. Listed (map (λ entry. entry.name) entries)) o) (Listed (finite.keys names))) [
      | Some entries ↦ λ e. ap (λ (names : List (List ℕ)). Listed names) (names_same entries ∙ ap (λ (row : List (List ℕ × Ino)). map (λ (pair : List ℕ × Ino). pair.0) row) (has entries e).same)
      | None ↦ λ e. tt
    ] refl
listing_same tree part ino IsDirectory (Some (Regular file)) is has = absurd (cc)
listing_same tree part ino IsDirectory None is has = absurd (cc)
listing_same tree part ino IsFile (Some (Directory names)) is has = absurd (cc)
listing_same tree part ino IsFile (Some (Regular file)) is has = refl
listing_same tree part ino IsFile None is has = absurd (cc)

opened_same : (fd : ℕ) (ino : Ino) (kind : EntryKind) (node : Option Node) → kind_of node ≡ Some kind → Gives (opened_in fd kind) (opened_as (Some fd) (as_file node ino))
opened_same fd ino IsDirectory (Some (Directory names)) is = refl
opened_same fd ino IsDirectory (Some (Regular file)) is = absurd (cc)
opened_same fd ino IsDirectory None is = absurd (cc)
opened_same fd ino IsFile (Some (Directory names)) is = absurd (cc)
opened_same fd ino IsFile (Some (Regular file)) is = refl
opened_same fd ino IsFile None is = absurd (cc)

-- what is told where resolving ends
told_same : (tree : Tree) (told_part : Ino → EntryKind → Option Reply) (told : Result Ino Why → Reply) → ((ino : Ino) (kind : EntryKind) → IsKind tree ino kind → Gives (told_part ino kind) (told (Ok ino)))
    → ((why : Why) → told (Err why) ≡ Refused why) → (at : Option (Result Place Why)) (there : Result Ino Why) → Agrees tree at there → Gives (told_in told_part at) (told there)
told_same tree told_part told each none (Some (Ok place)) there agrees = subst (λ (r : Result Ino Why). Gives (told_part place.0 place.1) (told r)) (sym agrees.same) (each place.0 place.1 agrees.kind)
told_same tree told_part told each none (Some (Err why)) there agrees = sym (ap told agrees ∙ none why)
told_same tree told_part told each none None there agrees = tt

opening_same : (tree : Tree) (fd : Option ℕ) (at : Option (Result Place Why)) (there : Result Ino Why) → Agrees tree at there → Gives (opening_in fd at) (opened_as fd (judged as_file tree there))
opening_same tree None at there agrees = refl
opening_same tree (Some fd) at there agrees =
    told_same tree (λ ino kind. opened_in fd kind) (λ r. opened_as (Some fd) (judged as_file tree r)) (λ ino kind is. opened_same fd ino kind (node_at tree ino) is) (λ why. refl) at there agrees

bytes_same : (part : Part) (ino : Ino) (offset count : ℕ) (node : Option Node) → kind_of node ≡ Some IsFile → ((bytes : List ℕ) → part.contents ino ≡ Some bytes → HasContents node bytes)
    → Gives (option_map (λ contents. Bytes (read_at contents offset count)) (part.contents ino)) (bytes_of offset count node)
bytes_same part ino offset count (Some (Directory names)) is has = absurd (cc)
bytes_same part ino offset count (Some (Regular file)) is has =
    elim (part.contents ino) as (λ o. part.contents ino ≡ o → Gives (option_map (λ contents. Bytes (read_at contents offset count)) o) (Bytes (read_at file.contents offset count))) [
      | Some bytes ↦ λ e. ap (λ (contents : List ℕ). Bytes (read_at contents offset count)) (sym (has bytes e))
      | None ↦ λ e. tt
    ] refl
bytes_same part ino offset count None is has = absurd (cc)

read_same : (tree : Tree) (part : Part) (offset count : ℕ) → ((ino : Ino) (bytes : List ℕ) → part.contents ino ≡ Some bytes → HasContents (node_at tree ino) bytes)
    → (place : Option Descriptor) → ((descriptor : Descriptor) → place ≡ Some descriptor → IsKind tree descriptor.ino IsFile)
    → Gives (bytes_in part offset count (file_behind reads place)) (told_at (bytes_of offset count) tree (file_behind reads place))
read_same tree part offset count has None files = refl
read_same tree part offset count has (Some descriptor) files =
    let told : Gives (bytes_in part offset count (Ok descriptor.ino)) (told_at (bytes_of offset count) tree (Ok descriptor.ino)) =
    bytes_same part descriptor.ino offset count (node_at tree descriptor.ino) (files descriptor refl) (has descriptor.ino) in
    elim (reads descriptor.mode) as (λ b. Gives (bytes_in part offset count (if b then Ok descriptor.ino else Err BadF)) (told_at (bytes_of offset count) tree (if b then Ok descriptor.ino else Err BadF))) [
      | true ↦ told
      | false ↦ refl
    ]

-- a part answers as the whole tree
pub part_answers : (tree : Tree) (client : ClientId) (part : Part) (call : Call) → IsPartOf tree client part → Gives (answer_in part call) (answer tree client call)
part_answers tree client part (Create path) is = tt
part_answers tree client part (Mkdir path) is = tt
part_answers tree client part (Unlink path) is = tt
part_answers tree client part (Rmdir path) is = tt
part_answers tree client part (Rename path goal) is = tt
part_answers tree client part (Open path mode) is =
    rw (is.table) (opening_same tree (least_unused (table_of tree client)) (resolved_in part path) (resolved tree path) (agrees_resolve tree client part is path))
part_answers tree client part (Close fd) is = rw (is.table) refl
part_answers tree client part (Read fd offset len) is =
    rw (is.table) (read_same tree part offset len is.contents (descriptor_at tree client fd) (is.open_files fd))
part_answers tree client part (Write fd offset bytes) is = rw (is.table) refl
part_answers tree client part (Truncate fd size) is = rw (is.table) refl
part_answers tree client part (Stat path) is =
    told_same tree (status_in part) (told_at status_of tree) (λ ino kind k. status_same part ino kind (node_at tree ino) k (is.size ino)) (λ why. refl) (resolved_in part path) (resolved tree path) (agrees_resolve tree client part is path)
part_answers tree client part (Readdir path) is =
    told_same tree (listing_in part) (told_at listing_of tree) (λ ino kind k. listing_same tree part ino kind (node_at tree ino) k (is.entries ino)) (λ why. refl) (resolved_in part path) (resolved tree path) (agrees_resolve tree client part is path)
part_answers tree client part (Fsync fd) is = rw (is.table) refl
