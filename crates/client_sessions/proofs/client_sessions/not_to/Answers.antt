use Rattle.std.proofs.Common.{ap, rules, ◌∙◌}
use Rattle.std.proofs.lemmas.Fn.{filter_same}
use Rattle.client_sessions.specs.Mail.{not_to}
use Rattle.client_sessions.proofs.client_sessions.not_to.Goals as goal

pub returns : goal.returns
returns c = c.from_vec.ensures ∙ filter_same _ _ _ (λ x b f' call. search rules) _ _ c.retain.ensures.filtered ∙ ap (not_to c.args.client) c.into_vec-packets.ensures
