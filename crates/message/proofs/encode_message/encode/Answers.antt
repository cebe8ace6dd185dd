use Rattle.std.proofs.Common.{◌++◌, ◌∙◌, ap, List, ℕ}
use Rattle.message.specs.Bodies.{message_of}
use Rattle.message.specs.Spelling.{message_bytes}
use Rattle.message.proofs.BodyLaws.{again}
use Rattle.message.proofs.encode_message.encode.Goals as goal

pub returns-clause-again : goal.returns-clause-again
returns-clause-again c =
    ap message_of (c.in_ok-put_message.ensures ∙ ap (λ (xs : List ℕ). xs ++ message_bytes c.args.message.now) c.new-out.ensures.items) ∙ again c.args.message.now c.requires
