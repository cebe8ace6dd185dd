use Rattle.std.proofs.Common.{refl}
use Rattle.message.specs.declared.message.Message.TheVariants.{Flushed}
use Rattle.server_draft.proofs.Counting.{one-at-most}
use Rattle.server_flushes.proofs.Tellings.{tells-well}
use Rattle.server_flushes.proofs.flushing.tell_flushed.Goals as goal

pub returns-clause-follows : goal.returns-clause-follows
returns-clause-follows c view o start flush follows took is lasts once =
    let before = c.args.draft.now in
    c.in_ok-tell.ensures.follows view o start before follows refl refl follows.like follows.space (tells-well view o start before c.args.client flush c.args.number follows took is lasts once)

pub returns-clause-few : goal.returns-clause-few
returns-clause-few c to = one-at-most to c.args.client (Flushed c.args.number) c.args.draft.now.acts c.tell.new.self.acts (c.in_ok-tell.ensures.count to)
