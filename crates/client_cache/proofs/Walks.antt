use Rattle.std.proofs.Common.{◌≡◌, ℕ, Bool, true, false, ◌&&◌, is_some, List, [], ◌∷◌, ◌++◌, Option, Some, None, Result, Ok, Err, option_map, refl, sym, ap, ◌∙◌, true≢false}
use Rattle.std.specs.List.{list_all}
use Rattle.cal_base.specs.declared.directory_entry.DirectoryEntry.{DirectoryEntry}
use Rattle.cal_base.specs.declared.directory_entry.EntryKind.{EntryKind}
use Rattle.cal_base.specs.declared.directory_entry.EntryKind.TheVariants.{File as IsFile, Directory as IsDirectory}
use Rattle.cal_base.specs.declared.identity.Ino.{Ino}
use Rattle.tree_law.specs.Needs.{Need, names_read}
use Rattle.tree_law.specs.Part.{Part, Place, end_needs_in, found_in, path_needs_in, resolved_in, root_place, walk_needs_in, walked_in}
use Rattle.tree_law.specs.declared.reply.Why.{Why}
use Rattle.tree_law.specs.declared.reply.Why.TheVariants.{NotDir}
use Rattle.token_kind.specs.declared.hold.Hold.{Hold}
use Rattle.token_kind.specs.declared.hold.Hold.TheVariants.{None as Nothing, Read, Write}
use Rattle.client_cache.specs.Covered.{is_end_met, is_met}
use Rattle.client_cache.specs.Known.{Known, inode_at, part_of}

pub list_all-append : {X : Type 0} (p : X → Bool) (xs ys : List X) → list_all p (xs ++ ys) ≡ (list_all p xs && list_all p ys)
list_all-append p [] ys = refl
list_all-append p (x ∷ xs) ys = by (p x) (list_all-append p xs ys)
  where
    by : (b : Bool) → list_all p (xs ++ ys) ≡ (list_all p xs && list_all p ys) → (b && list_all p (xs ++ ys)) ≡ ((b && list_all p xs) && list_all p ys)
    by true e = e
    by false e = refl

module _ (part : Part) (met : Need → Bool) (entries_met : (ino : Ino) → met (names_read ino) ≡ is_some (part.entries ino)) where
  walked_none : (names : List (List ℕ)) → is_some (walked_in part None names) ≡ false
  walked_none [] = refl
  walked_none (name ∷ names) = walked_none names

  walked_err : (why : Why) (names : List (List ℕ)) → is_some (walked_in part (Some (Err why)) names) ≡ true
  walked_err why [] = refl
  walked_err why (name ∷ names) = walked_err why names

  -- the needs of a walk are met exactly where it comes to an end
  pub walk_met : (at : Option (Result Place Why)) (names : List (List ℕ)) → is_some at ≡ true → list_all met (walk_needs_in part at names) ≡ is_some (walked_in part at names)
  walk_met at [] some = sym some
  walk_met None (name ∷ names) some = absurd (true≢false (sym some))
  walk_met (Some (Err why)) (name ∷ names) some = sym (walked_err why names)
  walk_met (Some (Ok (ino, IsFile))) (name ∷ names) some = walk_met (Some (Err NotDir)) names refl
  walk_met (Some (Ok (ino, IsDirectory))) (name ∷ names) some = by (part.entries ino) (entries_met ino) (λ found. walk_met (Some found) names refl)
    where
      by : (o : Option (List DirectoryEntry)) → met (names_read ino) ≡ is_some o
          → ((found : Result Place Why) → list_all met (walk_needs_in part (Some found) names) ≡ is_some (walked_in part (Some found) names))
          → (met (names_read ino) && list_all met (walk_needs_in part (option_map (λ entries. found_in entries name) o) names)) ≡ is_some (walked_in part (option_map (λ entries. found_in entries name) o) names)
      by None e next = ap (λ b. b && list_all met (walk_needs_in part None names)) e ∙ sym (walked_none names)
      by (Some entries) e next = ap (λ b. b && list_all met (walk_needs_in part (Some (found_in entries name)) names)) e ∙ next (found_in entries name)

  -- the needs of a path are met exactly where resolving ends and those of its end are met
  path_met : (needs : Ino → EntryKind → List Need) (path : List (List ℕ)) → is_end_met met needs (resolved_in part path) ≡ list_all met (path_needs_in needs part path)
  path_met needs path = by (resolved_in part path) (walk_met root_place path refl) ∙ sym (list_all-append met (walk_needs_in part root_place path) (end_needs_in needs (resolved_in part path)))
    where
      by : (at : Option (Result Place Why)) → list_all met (walk_needs_in part root_place path) ≡ is_some at
          → is_end_met met needs at ≡ (list_all met (walk_needs_in part root_place path) && list_all met (end_needs_in needs at))
      by None e = sym (ap (λ b. b && true) e)
      by (Some (Err why)) e = sym (ap (λ b. b && true) e)
      by (Some (Ok place)) e = sym (ap (λ b. b && list_all met (needs place.0 place.1)) e)

entries_met_by : (known : Known) (ino : Ino) (hold : Hold) → (inode_at known ino).holds.names ≡ hold → is_met known (names_read ino) ≡ is_some ((part_of known).entries ino)
entries_met_by known ino Nothing e = rw e refl
entries_met_by known ino Read e = rw e refl
entries_met_by known ino Write e = rw e refl

-- what a path needs is met by what a client holds exactly where it resolves the path by itself to an end whose needs are met
pub met_path : (known : Known) (needs : Ino → EntryKind → List Need) (path : List (List ℕ)) → is_end_met (is_met known) needs (resolved_in (part_of known) path) ≡ list_all (is_met known) (path_needs_in needs (part_of known) path)
met_path known needs path = path_met (part_of known) (is_met known) (λ ino. entries_met_by known ino (inode_at known ino).holds.names refl) needs path

-- Names of a directory is met exactly where its entries are in the part
pub met_entries : (known : Known) (ino : Ino) → is_met known (names_read ino) ≡ is_some ((part_of known).entries ino)
met_entries known ino = entries_met_by known ino (inode_at known ino).holds.names refl
