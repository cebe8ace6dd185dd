use Rattle.std.proofs.Common.{All, List, ap, subst, sym, ◌∙◌}
use Rattle.revocation.specs.Formed.{AreAskable}
use Rattle.revocation.specs.Revokes.{revokes_of}
use Rattle.cluster_law.specs.Asking.{was_told}
use Rattle.cluster_law.specs.Lanes.{Act as LawAct}
use Rattle.server_draft.specs.Acts.{acts_of}
use Rattle.server_draft.specs.Draft.{IsWithin}
use Rattle.server_removals.specs.Removals.{LooksAtOrphans}
use Rattle.server_removals.proofs.AskingBack.{asks-all, asks-well, at-start, holders-askable, holders-within, tells-revokes}
use Rattle.server_removals.proofs.orphans.ask.Goals as goal

pub revoke-requires-clause-askable : goal.revoke-requires-clause-askable
revoke-requires-clause-askable c = subst AreAskable (sym c.requires.holders) (holders-askable c.args.draft.now.desk.collecting.table c.args.ino)

pub revoke-requires-clause-within : goal.revoke-requires-clause-within
revoke-requires-clause-within c = subst (All IsWithin) (sym c.requires.holders) (holders-within c.args.draft.now.desk.collecting.table c.args.ino c.requires.inode)

pub returns-clause-follows : goal.returns-clause-follows
returns-clause-follows c = λ view o start follows looks least none.
    let old = c.args.draft.now in
    c.in_ok-revoke.ensures.follows view o start follows
    (asks-well o start view (acts_of view old.acts) old.desk c.args.ino c.args.holders.now c.requires.holders follows.like
    (subst (LooksAtOrphans o) (at-start view start old.acts none) looks) looks.admitted (λ admitted. follows.space) least follows.well)

pub returns-clause-asks : goal.returns-clause-asks
returns-clause-asks c = λ view o start follows.
    let old = c.args.draft.now in
    asks-all start view (acts_of view old.acts) (acts_of view c.revoke.new.self.acts) old.desk c.args.ino c.args.holders.now c.requires.holders (c.in_ok-revoke.ensures.acts view) follows.like

pub returns-clause-told : goal.returns-clause-told
returns-clause-told c = λ view client test other.
    let old = c.args.draft.now in
    ap (λ (acts : List LawAct). was_told client test acts) (c.in_ok-revoke.ensures.acts view)
    ∙ tells-revokes view client test other (revokes_of old.desk.asked c.args.holders.now) (acts_of view old.acts)
