use Rattle.std.proofs.Common.{subst, sym}
use Rattle.volume.specs.Stands.{AreBlocksKept}
use Rattle.volume_edit.proofs.BlocksKept.{edited_blocks}
use Rattle.server_draft.proofs.draft.alter.Goals as goal

pub returns-clause-kept : goal.returns-clause-kept
returns-clause-kept c = λ takes kept. subst AreBlocksKept (sym c.apply.ensures) (edited_blocks c.args.image.now c.args.edit.now c.clients.ensures.volume kept c.requires takes)
