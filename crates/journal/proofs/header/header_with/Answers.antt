use Rattle.std.proofs.Common.{◌++◌, ◌∷◌, [], ℕ, List, length, get_or, ap, sym, ◌∙◌, arith}
use Rattle.cal_fields.specs.BigEndian.{big_endian}
use Rattle.journal.proofs.Headers.{numbers_next}
use Rattle.journal.proofs.header.header_with.Goals as goal

pub loop-i-preserved : goal.loop-i-preserved
loop-i-preserved c =
    let homes = c.args.homes.now in
    let home = (get_or homes c.loop-i.i (0, [])).0 in
    record {
      front = c.put_u32.ensures.fields
          ∙ ap (λ (xs : List ℕ). xs ++ big_endian 4 home) c.loop-i.invariant.front
          ∙ ap (λ (ns : List ℕ). length homes ∷ ns) (sym (numbers_next homes c.loop-i.i (omega arith)));
      long = (let l = c.put_u32.ensures.length in let m = c.loop-i.invariant.long in omega arith);
    }
