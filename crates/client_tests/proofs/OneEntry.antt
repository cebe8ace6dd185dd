-- One entry is a directory's.
use Rattle.std.proofs.Common.{◌≡◌, ◌∙◌, ◌<◌, List, [], ◌∷◌, ◌++◌, length, ap, sym, subst, arith, All}
use Rattle.std.proofs.lemmas.List.Elements.{All-nil, All-push}
use Rattle.cal_base.specs.declared.directory_entry.DirectoryEntry.{DirectoryEntry}
use Rattle.tree_law.specs.Entries.{AreEntries, AscendByName}
use Rattle.tree_law.specs.Path.{IsName}

pub one_listed : (old new : List DirectoryEntry) (entry : DirectoryEntry) → old ≡ [] → new ≡ old ++ entry ∷ [] → IsName entry.name → entry.ino.0 < 512 → AreEntries new
one_listed old new entry none more named inside =
    let one : new ≡ entry ∷ [] = more ∙ ap (λ entries. entries ++ entry ∷ []) none in
    subst (λ (entries : List DirectoryEntry). AreEntries entries) (sym one) (record {
      names = All-push (λ entry. IsName entry.name) [] entry (All-nil _) named;
      order = record { ascending = λ i j other lower within. absurd (omega (arith, within)) };
      inodes = All-push (λ entry. entry.ino.0 < 512) [] entry (All-nil _) inside;
    })
