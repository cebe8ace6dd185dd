use Rattle.server_line.proofs.Contents.{entries-are}
use Rattle.server_line.proofs.granting.entries_of.Goals as goal

pub returns-clause-entries : goal.returns-clause-entries
returns-clause-entries c = λ named dir. entries-are c.args.image.now c.args.ino c.in_ok-entries.entries c.clients.ensures.volume named dir c.in_ok-entries.ensures.listed
