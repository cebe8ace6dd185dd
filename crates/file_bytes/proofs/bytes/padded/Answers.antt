use Rattle.std.proofs.Common.{◌∙◌}
use Rattle.file_bytes.proofs.ByteLemmas.{zeros_overlaid}
use Rattle.file_bytes.proofs.bytes.padded.Goals as goal

pub returns : goal.returns
returns c = c.overlay.ensures ∙ zeros_overlaid 4096 c.args.bytes.now c.requires
