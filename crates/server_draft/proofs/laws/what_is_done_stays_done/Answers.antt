use Rattle.std.proofs.Common.{[], sym}
use Rattle.std.proofs.lemmas.List.{append-nil}
use Rattle.cluster_law.specs.ServerRules.{IsPurgeOf, IsReapOf}
use Rattle.server_draft.proofs.Acting.{grows-on, stays-done, stays-told}
use Rattle.server_draft.proofs.laws.what_is_done_stays_done.Goals as goal

pub returns-clause-told : goal.returns-clause-told
returns-clause-told c = stays-told

pub returns-clause-purged : goal.returns-clause-purged
returns-clause-purged c = λ view client. stays-done (IsPurgeOf client) view

pub returns-clause-freed : goal.returns-clause-freed
returns-clause-freed c = λ view ino. stays-done (IsReapOf ino) view

pub returns-clause-grows : goal.returns-clause-grows
returns-clause-grows c = grows-on

pub returns-clause-none : goal.returns-clause-none
returns-clause-none c = λ old. record { more = []; is = sym (append-nil old) }
