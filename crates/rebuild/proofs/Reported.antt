use Rattle.std.proofs.Common.{◌≡◌, ℕ, List, Bool, true, false, ◌&&◌, nat_lt, nat_le, map, if◌then◌else◌}
use Rattle.std.specs.List.{All}
use Rattle.std.proofs.lemmas.List.Elements.{All-map}
use Rattle.token_kind.specs.declared.reported.Reported.{Reported}
use Rattle.token_kind.specs.Token.{HasModes, IsToken, may_hold}
use Rattle.rebuild.specs.Reports.{judged}

-- a reported hold is a token, however it is judged
judged_token : (flushed : ℕ) (r : Reported) → HasModes r → IsToken (judged flushed r)
judged_token flushed r is = by (nat_lt 0 r.flush && nat_le r.flush flushed)
  where
    by : (b : Bool) → may_hold r.token.«class» (if b then r.leave else r.token.hold) ≡ true
    by true = is.leave
    by false = is.hold

pub judged_tokens : (flushed : ℕ) (holds : List Reported) → All HasModes holds → All IsToken (map (judged flushed) holds)
judged_tokens flushed holds are = All-map IsToken (judged flushed) holds (λ k d lt. judged_token flushed _ (are k d lt))
