use Rattle.std.proofs.Common.{◌≡◌, ◌≤◌, ◌++◌, ◌∷◌, ℕ, List, ap, ◌∙◌, arith, rules, length, length-append}
use Rattle.std.proofs.lemmas.List.{nil_from_length}
use Rattle.cal_fields.specs.BigEndian.{big_endian}
use Rattle.cal_fields.proofs.BigEndianLemmas.{length-big_endian}
use Rattle.volume.proofs.head.fields_of.Goals as goal

pub unwrap-clients-requires : goal.unwrap-clients-requires
unwrap-clients-requires c =
    let first = rw c.unwrap-mark.ensures at c.take_bytes.ensures.taken in
    let long = rw c.unwrap-mark.ensures at c.take_bytes.ensures.count in
    let second = rw c.unwrap-sectors.ensures at c.take_u32.ensures.taken in
    let size : 1 ≤ length c.take_u32.new.from.now = omega (
      arith,
      ap length first,
      long,
      length-append c.unwrap-mark.result.now c.take_bytes.new.from.now,
      ap length second,
      length-append (big_endian 4 c.unwrap-sectors.result) c.take_u32.new.from.now,
      length-big_endian 4 c.unwrap-sectors.result,
    ) in
    search rules

pub returns-clause-fields : goal.returns-clause-fields
returns-clause-fields c =
    let first = rw c.unwrap-mark.ensures at c.take_bytes.ensures.taken in
    let long = rw c.unwrap-mark.ensures at c.take_bytes.ensures.count in
    let second = rw c.unwrap-sectors.ensures at c.take_u32.ensures.taken in
    let third = rw c.unwrap-clients.ensures at c.take_u8.ensures.taken in
    let size : length c.take_u8.new.from.now ≡ 0 = omega (
      arith,
      ap length first,
      long,
      length-append c.unwrap-mark.result.now c.take_bytes.new.from.now,
      ap length second,
      length-append (big_endian 4 c.unwrap-sectors.result) c.take_u32.new.from.now,
      length-big_endian 4 c.unwrap-sectors.result,
      ap length third,
    ) in
    first ∙ ap (λ (xs : List ℕ). c.unwrap-mark.result.now ++ xs) (second ∙ ap (λ (xs : List ℕ). big_endian 4 c.unwrap-sectors.result ++ xs) (third ∙ ap (λ (xs : List ℕ). c.unwrap-clients.result ∷ xs) (nil_from_length c.take_u8.new.from.now size)))
