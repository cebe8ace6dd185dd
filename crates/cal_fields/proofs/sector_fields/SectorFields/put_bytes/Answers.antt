use Rattle.std.proofs.Common.{◌≡◌, ◌+◌, ◌≤◌, ◌++◌, List, ℕ, length, take, sym, ap, ◌∙◌, arith, length-append}
use Rattle.std.proofs.lemmas.List.{length-take-le}
use Rattle.cal_fields.specs.Filled.{IsFilled}
use Rattle.cal_fields.specs.Padded.{padded}
use Rattle.cal_fields.proofs.PaddedLemmas.{filled_more}
use Rattle.cal_fields.proofs.sector_fields.SectorFields.put_bytes.Goals as goal

-- what is filled has grown by the piece
grown : (old new piece now : List ℕ) (filled : ℕ) → IsFilled old filled → length old ≡ 4096 → take filled old ≡ now
    → length now + length piece ≤ 4096
    → ((front : List ℕ) → length front ≡ filled → old ≡ padded 4096 front → new ≡ padded 4096 (front ++ piece))
    → (take (filled + length piece) new ≡ now ++ piece) × IsFilled new (filled + length piece)
grown old new piece now filled before size held fits puts =
    let long : length (take filled old) ≡ filled = length-take-le filled old (omega arith) in
    let same : length now ≡ filled = ap length (sym held) ∙ long in
    let more = filled_more old new piece filled before size (omega arith) (puts (take filled old) long before.behind) in
    (more.0 ∙ ap (λ (xs : List ℕ). xs ++ piece) held, more.1)

pub invariant_of-self : goal.invariant_of-self
invariant_of-self c = (grown _ _ c.args.bytes.now _ _ c.self.invariant c.self.told c.self.view_is c.requires c.fill.ensures).1

pub returns-clause-fields : goal.returns-clause-fields
returns-clause-fields c = (grown _ _ c.args.bytes.now _ _ c.self.invariant c.self.told c.self.view_is c.requires c.fill.ensures).0

pub returns-clause-length : goal.returns-clause-length
returns-clause-length c =
    ap length (grown _ _ c.args.bytes.now _ _ c.self.invariant c.self.told c.self.view_is c.requires c.fill.ensures).0
    ∙ length-append c.args.self.now c.args.bytes.now
