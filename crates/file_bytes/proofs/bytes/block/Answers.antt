use Rattle.std.proofs.Common.{ℕ, List, arith, ap, length, length-take, ◌∙◌}
use Rattle.file_bytes.specs.Bytes.{resized}
use Rattle.file_bytes.proofs.ByteLemmas.{resized_front}
use Rattle.file_bytes.proofs.bytes.block.Goals as goal

pub padded-requires : goal.padded-requires
padded-requires c = omega (arith, ap length c.first.ensures, length-take 4096 c.from.result.now)

pub returns : goal.returns
returns c =
    c.padded.ensures ∙ ap (λ (front : List ℕ). resized front 4096) c.first.ensures ∙ resized_front c.from.result.now 4096
    ∙ ap (λ (rest : List ℕ). resized rest 4096) c.from.ensures
