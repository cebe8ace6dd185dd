use Rattle.std.proofs.Common.{◌∙◌}
use Rattle.std.specs.List.{filter_map}
use Rattle.revocation.specs.Waiting.{asked_at}
use Rattle.revocation.specs.Revokes.{revoke_of}
use Rattle.revocation.proofs.asking.revokes.Goals as goal

pub returns : goal.returns
returns c =
    let os = c.as_slice.ensures.keys ∙ c.in_ok-owners.ensures in
    c.in_ok-revokes.ensures ∙ (λ j. filter_map (revoke_of (asked_at c.args.asked.now.entries) (λ q. c.in_ok-now.ensures q j)) (os j))
