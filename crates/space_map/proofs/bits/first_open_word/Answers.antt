use Rattle.std.proofs.Common.{◌*◌, arith, sym, ◌∙◌}
use Rattle.std.proofs.lemmas.List.{take_rest}
use Rattle.space_map.proofs.FreeBlocks.{full_more}
use Rattle.space_map.proofs.bits.first_open_word.Goals as goal

pub loop-word-preserved : goal.loop-word-preserved
loop-word-preserved c = record {
  later = (let before = c.loop-word.invariant.later in omega arith);
  within = (let before = c.loop-word-test.true in omega arith);
  full = full_more c.args.bytes.now _ c.loop-word.word (λ i. omega (arith, c.type_inv.bytes i)) (take_rest c.args.bytes.now (8 * c.loop-word.word))
      (sym c.read_u64.ensures ∙ c.if-read_u64.false) c.loop-word.invariant.full;
}
