-- The entries of a directory, in the order of their names.
use Rattle.std.specs.Prelude.{◌≡◌, ◌<◌, ℕ, Bool, List, length, slice_index_or, All}
use Rattle.std.specs.Ordering.{is_lt, nat_cmp}
use Rattle.std.specs.Cmp.Lexicographic.{slice_cmp}
use Rattle.std.specs.declared.cmp.Ordering.TheVariants.{Less}
use Rattle.cal_base.specs.declared.directory_entry.DirectoryEntry.{DirectoryEntry}
use Rattle.tree_law.specs.Path.{IsName}

-- one name stands before another: the first byte in which they differ is lower, or it ends first
pub record IsBefore (a b : List ℕ) : Type 0 where
  pub less : slice_cmp nat_cmp a b ≡ Less

-- the same as a test
unfoldable pub is_before : List ℕ → List ℕ → Bool
is_before a b = is_lt (slice_cmp nat_cmp a b)

-- the names strictly ascend: each stands before all that follow
pub record AscendByName (entries : List DirectoryEntry) : Type 0 where
  pub ascending : (i j : ℕ) (other : DirectoryEntry) → i < j → j < length entries → IsBefore (slice_index_or entries i other).name (slice_index_or entries j other).name

-- what the entries of a directory may be: names, by which they ascend, and inodes of the volume
pub record AreEntries (entries : List DirectoryEntry) : Type 0 where
  pub names : All (λ entry. IsName entry.name) entries
  pub order : AscendByName entries
  pub inodes : All (λ entry. entry.ino.0 < 512) entries
