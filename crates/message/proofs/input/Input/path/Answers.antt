use Rattle.message.proofs.Paths.{path_is}
use Rattle.message.proofs.input.Input.path.Goals as goal

pub path_of-requires : goal.path_of-requires
path_of-requires c = rw c.as_slice.ensures (path_is _ _ _ c.in_ok-names.ensures)
