use Rattle.std.proofs.Common.{◌++◌, ◌∙◌, ap, List, ℕ}
use Rattle.message.specs.Bodies.{message_of}
use Rattle.message.specs.Spelling.{message_bytes}
use Rattle.message.specs.declared.message.Message.TheVariants.{Change}
use Rattle.message.proofs.BodyLaws.{again}
use Rattle.message.proofs.encode_message.encode_change.Goals as goal

pub returns-clause-again : goal.returns-clause-again
returns-clause-again c =
    let message = Change c.args.number c.args.call.now in
    ap message_of (c.in_ok-put_change_message.ensures ∙ ap (λ (xs : List ℕ). xs ++ message_bytes message) c.new-out.ensures.items) ∙ again message (c.requires.number, c.requires.change)
