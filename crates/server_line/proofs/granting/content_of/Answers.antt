use Rattle.std.proofs.Common.{sym, subst}
use Rattle.token_kind.specs.declared.«class».Class.{Class}
use Rattle.token_kind.specs.declared.content.Content.TheVariants as content
use Rattle.cluster_law.specs.Granting.{IsFreshContent}
use Rattle.server_draft.specs.Draft.{reached}
use Rattle.server_line.specs.Known.{known}
use Rattle.server_line.proofs.granting.content_of.Goals as goal

pub returns-in_ok-entries_of-in-Names-clause-content : goal.returns-in_ok-entries_of-in-Names-clause-content
returns-in_ok-entries_of-in-Names-clause-content g c = λ names seat start tells.
    subst (λ (k : Class). IsFreshContent (known c.args.draft.now (reached seat start c.args.draft.now).sectors) c.args.ino k (content.Names c.in_ok-entries_of-in-Names.field-0)) (sym c.in-Names.is)
    (c.in_ok-entries_of-in-Names.ensures.entries names (c.requires.named c.in-Names.is))

pub returns-in-Ok-clause-content : goal.returns-in-Ok-clause-content
returns-in-Ok-clause-content g c = λ names seat start tells.
    subst (λ (k : Class). IsFreshContent (known c.args.draft.now (reached seat start c.args.draft.now).sectors) c.args.ino k (content.Bytes c.in-Ok.bytes)) (sym c.in-Data.is)
    (c.in-Ok.ensures.bytes seat start tells)
