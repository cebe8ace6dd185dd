use Rattle.message.specs.declared.message.Message.TheVariants.{Flushed}
use Rattle.cluster_law.specs.ClientState.{Takes}
use Rattle.client_state.proofs.Heard.{calls_heard, room_heard}
use Rattle.client_state.proofs.client.Client.take_flushed.Goals as goal

pub try_with-requires-clause-calls : goal.try_with-requires-clause-calls
try_with-requires-clause-calls c = calls_heard c.args.self.now c.hear_flushed.new.self (Takes (Flushed c.args.number)) c.in_ok-hear_flushed.ensures.state c.requires.calls

pub try_with-requires-clause-flushes : goal.try_with-requires-clause-flushes
try_with-requires-clause-flushes c = room_heard c.args.self.now c.hear_flushed.new.self (Takes (Flushed c.args.number)) c.in_ok-hear_flushed.ensures.state c.requires.client c.requires.flushes
