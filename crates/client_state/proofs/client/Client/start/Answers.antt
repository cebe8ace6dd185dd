use Rattle.cluster_law.specs.ClientState.{Starts}
use Rattle.client_state.proofs.Heard.{calls_heard, room_heard}
use Rattle.client_state.proofs.client.Client.start.Goals as goal

pub try_with-requires-clause-calls : goal.try_with-requires-clause-calls
try_with-requires-clause-calls c = calls_heard c.args.self.now c.begin.new.self (Starts c.args.call) c.begin.ensures c.requires.calls

pub try_with-requires-clause-flushes : goal.try_with-requires-clause-flushes
try_with-requires-clause-flushes c = room_heard c.args.self.now c.begin.new.self (Starts c.args.call) c.begin.ensures c.requires.client c.requires.flushes
