use Rattle.schedule.specs.Turns.{turns_left}
use Rattle.cluster_run.proofs.Going.{IsGoing}
use Rattle.cluster_run.proofs.run.Run.go_on.Given as goal

abbrev pub invariant-loop-error : goal.invariant-loop-error
invariant-loop-error g l = IsGoing (record { world = l.fn.self.world; schedule = l.fn.self.schedule; disk = g.D.PortDisk.means l.fn.disk; faults = g.D.PortDisk.fault_count l.fn.disk })
    (record { held = g.K.Sink.held l.fn.sink; faults = g.K.Sink.fault_count l.fn.sink })
    (record { world = l.self.world; schedule = l.self.schedule; disk = g.D.PortDisk.means l.disk; faults = g.D.PortDisk.fault_count l.disk })
    (record { held = g.K.Sink.held l.sink; faults = g.K.Sink.fault_count l.sink })

abbrev pub decreases-loop-error : goal.decreases-loop-error
decreases-loop-error g l = turns_left l.self.schedule
