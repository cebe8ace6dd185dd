use Rattle.std.proofs.Common.{refl, sym, ◌∙◌}
use Rattle.message.specs.declared.message.Message.TheVariants.{Wait}
use Rattle.server_draft.specs.Acts.{acts_of}
use Rattle.server_draft.specs.Draft.{reached}
use Rattle.server_draft.proofs.Counting.{one-at-most}
use Rattle.server_reports.proofs.Putting.{law-misses, waits-well}
use Rattle.server_reports.proofs.waiting.answer_wait.Goals as goal

pub returns-in_ok-tell-clause-told : goal.returns-in_ok-tell-clause-told
returns-in_ok-tell-clause-told c view missing = c.in_ok-tell.ensures.told view _ refl

pub returns-in_ok-tell-clause-follows : goal.returns-in_ok-tell-clause-follows
returns-in_ok-tell-clause-follows c view o start follows took once =
    let before = c.args.draft.now in
    c.in_ok-tell.ensures.follows view o start before follows refl refl follows.like follows.space
    (waits-well view o start (reached view start before) (acts_of view before.acts) c.args.client c.args.number c.in-Some.least follows.space
    (record { taken = took; least_is = sym (law-misses view o start before follows) ∙ sym c.in-Some.ensures.missing; once = once }))

pub returns-in_ok-tell-clause-few : goal.returns-in_ok-tell-clause-few
returns-in_ok-tell-clause-few c to = one-at-most to c.args.client (Wait c.args.number c.in-Some.least) c.args.draft.now.acts c.tell.new.self.acts (c.in_ok-tell.ensures.count to)
