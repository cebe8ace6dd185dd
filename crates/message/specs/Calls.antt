-- What a client asks of a server.
use Rattle.std.specs.Prelude.{◌==◌, ℕ, List, Ok, Err, length, if◌then◌else◌}
use Rattle.cal_base.specs.declared.identity.Ino.{Ino}
use Rattle.tree_law.specs.declared.call.Call.{Call}
use Rattle.tree_law.specs.declared.call.Call.TheVariants.{Create, Mkdir, Unlink, Rmdir, Rename}
use Rattle.tree_law.specs.declared.request.Want.{Want}
use Rattle.tree_law.specs.declared.request.Want.TheVariants.{Stat, Open, Readdir, Read, Write}
use Rattle.message.specs.Reading.{Read as Reading, ◌>>=◌, byte_at}
use Rattle.message.specs.Field.{inode_at}
use Rattle.message.specs.Names.{path_at}

-- a call with one path
abbrev pub of_path : {A : Type 0} → (List (List ℕ) → A) → List ℕ → Reading A
of_path make bytes = path_at bytes >>= λ path. Ok (make path.0, path.1)

abbrev pub of_inode : {A : Type 0} → (Ino → A) → List ℕ → Reading A
of_inode make bytes = inode_at bytes >>= λ ino. Ok (make ino.0, ino.1)

-- a move from one path to another
abbrev pub rename_at : List ℕ → Reading Call
rename_at bytes = path_at bytes >>= λ old_path. path_at old_path.1 >>= λ new_path. Ok (Rename old_path.0 new_path.0, new_path.1)

-- the kind of a change, and its path or paths
abbrev pub change_of : List ℕ → ℕ → List ℕ → Reading Call
change_of field kind rest =
    if kind == 1 then of_path Create rest
    else if kind == 2 then of_path Mkdir rest
    else if kind == 3 then of_path Unlink rest
    else if kind == 4 then of_path Rmdir rest
    else if kind == 5 then rename_at rest
    else Err (length field)

unfoldable pub change_at : List ℕ → Reading Call
change_at bytes = byte_at bytes >>= λ kind. change_of bytes kind.0 kind.1

-- what tokens are wanted for, and its path or inode
abbrev pub want_of : List ℕ → ℕ → List ℕ → Reading Want
want_of field kind rest =
    if kind == 1 then of_path Stat rest
    else if kind == 2 then of_path Open rest
    else if kind == 3 then of_path Readdir rest
    else if kind == 4 then of_inode Read rest
    else if kind == 5 then of_inode Write rest
    else Err (length field)

unfoldable pub want_at : List ℕ → Reading Want
want_at bytes = byte_at bytes >>= λ kind. want_of bytes kind.0 kind.1
