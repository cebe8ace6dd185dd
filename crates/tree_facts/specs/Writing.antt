-- A write that is carried out.
use Rattle.std.specs.Prelude.{◌≡◌, ℕ, List, length, Ok}
use Rattle.cal_base.specs.declared.directory_entry.EntryKind.TheVariants.{File}
use Rattle.cal_base.specs.declared.identity.ClientId.{ClientId}
use Rattle.cal_base.specs.declared.identity.Ino.{Ino}
use Rattle.tree_law.specs.Tree.{Tree, table_of}
use Rattle.tree_law.specs.Descriptors.{writable}
use Rattle.tree_law.specs.Answer.{answer}
use Rattle.tree_law.specs.PartOf.{IsKind}
use Rattle.tree_law.specs.declared.call.Call.TheVariants.{Write}
use Rattle.tree_law.specs.declared.reply.Reply.TheVariants.{Count}

-- the client's descriptor is open for writing on this file, and the write is answered with its count
pub record IsWrite (tree : Tree) (client : ClientId) (fd offset : ℕ) (bytes : List ℕ) (ino : Ino) : Type 0 where
  pub through : writable (table_of tree client) fd ≡ Ok ino
  pub file : IsKind tree ino File
  pub counted : answer tree client (Write fd offset bytes) ≡ Count (length bytes)
