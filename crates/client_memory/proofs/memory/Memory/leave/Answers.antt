use Rattle.token_kind.specs.declared.«class».Class.TheVariants.{Attr, Data}
use Rattle.client_memory.proofs.Carried.{leaves-read}
use Rattle.client_memory.proofs.memory.Memory.leave.Goals as goal

pub start-requires-clause-leave_data : goal.start-requires-clause-leave_data
start-requires-clause-leave_data c = leaves-read Data c.args.items c.as_slice.result.now _ c.asked_or_read-leave_data.ensures c.as_slice.ensures c.requires.asked.1.modes

pub start-requires-clause-leave_attr : goal.start-requires-clause-leave_attr
start-requires-clause-leave_attr c = leaves-read Attr c.args.items c.as_slice-2.result.now _ c.asked_or_read-leave_attr.ensures c.as_slice-2.ensures c.requires.asked.1.modes
