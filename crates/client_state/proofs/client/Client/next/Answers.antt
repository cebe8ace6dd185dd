use Rattle.std.proofs.Common.{subst}
use Rattle.client_book.specs.Client.{ClientValue}
use Rattle.client_state.specs.Working.{IsDue}
use Rattle.client_state.proofs.GoingOn.{due-flush}
use Rattle.client_state.proofs.client.Client.next.Goals as goal

pub returns-in-Some-clause-flushes : goal.returns-in-Some-clause-flushes
returns-in-Some-clause-flushes c = λ ino e. subst (λ (v : ClientValue). IsDue v.memory.known ino) c.self.view_is (due-flush _ _ _ ino c.next.ensures.known c.next.ensures.value e)
