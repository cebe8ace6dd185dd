-- Names, paths and the entries of directories.
use Rattle.std.specs.Prelude.{[], ◌&&◌, ℕ, Bool, List, Some, None, Ok, if◌then◌else◌}
use Rattle.cal_base.specs.Limits.{name_bytes, path_names}
use Rattle.cal_base.specs.declared.directory_entry.DirectoryEntry.{DirectoryEntry}
use Rattle.tree_law.specs.Entries.{is_before}
use Rattle.tree_law.specs.NameTest.{is_name}
use Rattle.message.specs.Reading.{Read, ◌>>=◌, byte_field, number_at, take_at, many_at, alike_at, meant}
use Rattle.message.specs.Field.{up_to, one_to, inode_at, entry_kind_of}

-- the length, from 1 on, and so many bytes, which pass the test
unfoldable pub name_by : (List ℕ → Bool) → List ℕ → Read (List ℕ)
name_by test bytes =
    byte_field (one_to name_bytes) bytes >>= λ count. take_at count.0 count.1 >>= λ name.
    meant count.1 (if test name.0 then Some name.0 else None) name.1

abbrev pub name_at : List ℕ → Read (List ℕ)
name_at = name_by is_name

-- the count of names, 0 for the root, and the names
unfoldable pub path_at : List ℕ → Read (List (List ℕ))
path_at bytes = byte_field (up_to path_names) bytes >>= λ count. alike_at name_at count.0 count.1

-- a name behind the one before, the inode and the kind of what it names
unfoldable pub entry_at : List ℕ → List ℕ → Read DirectoryEntry
entry_at before bytes =
    name_by (λ name. is_name name && is_before before name) bytes >>= λ name. inode_at name.1 >>= λ ino. byte_field entry_kind_of ino.1 >>= λ kind.
    Ok (record { name = name.0; ino = ino.0; kind = kind.0 }, kind.1)

-- the count of entries, and the entries sorted by name
unfoldable pub entries_at : List ℕ → Read (List DirectoryEntry)
entries_at bytes = number_at 2 bytes >>= λ count. many_at entry_at (λ entry. entry.name) count.0 [] count.1
