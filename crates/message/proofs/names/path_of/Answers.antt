use Rattle.std.proofs.Common.{◌∙◌}
use Rattle.message.proofs.Paths.{same_path}
use Rattle.message.proofs.names.path_of.Goals as goal

pub returns-in-Ok : goal.returns-in-Ok
returns-in-Ok c = same_path _ _ c.in-Ok.ensures.ok.0 c.requires (c.in-Ok.ensures.ok.1 ∙ c.as_slice.ensures.value ∙ c.in_ok-text.ensures)
