use Rattle.std.proofs.Common.{◌≡◌, ◌+◌, ◌≤◌, ◌++◌, List, ℕ, length, take, sym, ap, ◌∙◌, arith, subst}
use Rattle.std.proofs.lemmas.List.{length-take-le}
use Rattle.cal_fields.specs.Filled.{IsFilled}
use Rattle.cal_fields.specs.Padded.{padded, zeros}
use Rattle.cal_fields.proofs.PaddedLemmas.{filled_more, length-zeros, padded-zeros}
use Rattle.cal_fields.proofs.sector_fields.SectorFields.put_zeros.Goals as goal

-- zeros behind what is filled count as filled
zeros_filled : (sector : List ℕ) (filled count : ℕ) → IsFilled sector filled → length sector ≡ 4096 → filled + count ≤ 4096
    → (take (filled + count) sector ≡ take filled sector ++ zeros count) × IsFilled sector (filled + count)
zeros_filled sector filled count before size fits =
    let held : length (take filled sector) ≡ filled = length-take-le filled sector (omega arith) in
    let same : sector ≡ padded 4096 (take filled sector ++ zeros count) = before.behind ∙ sym (padded-zeros 4096 count (take filled sector) (omega arith)) in
    let more = filled_more sector sector (zeros count) filled before size (omega (arith, length-zeros count)) same in
    subst (λ (n : ℕ). (take (filled + n) sector ≡ take filled sector ++ zeros count) × IsFilled sector (filled + n)) (length-zeros count) more

pub invariant_of-self : goal.invariant_of-self
invariant_of-self c =
    let held : length (take c.self.inside.filled c.self.inside.bytes) ≡ c.self.inside.filled = length-take-le _ _ (omega arith) in
    let same : length c.args.self.now ≡ c.self.inside.filled = ap length (sym c.self.view_is) ∙ held in
    (zeros_filled c.self.inside.bytes c.self.inside.filled c.args.count c.self.invariant c.self.told (omega arith)).1

pub returns-clause-fields : goal.returns-clause-fields
returns-clause-fields c =
    let held : length (take c.self.inside.filled c.self.inside.bytes) ≡ c.self.inside.filled = length-take-le _ _ (omega arith) in
    let same : length c.args.self.now ≡ c.self.inside.filled = ap length (sym c.self.view_is) ∙ held in
    (zeros_filled c.self.inside.bytes c.self.inside.filled c.args.count c.self.invariant c.self.told (omega arith)).0 ∙ ap (λ (xs : List ℕ). xs ++ zeros c.args.count) c.self.view_is
