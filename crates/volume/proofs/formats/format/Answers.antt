use Rattle.volume.proofs.Empty.{run_formatted, run_stands, runs_keep_count}
use Rattle.volume.proofs.formats.format.Goals as goal

pub returns-clause-stands : goal.returns-clause-stands
returns-clause-stands g c = λ sectors told whole. run_stands sectors c.args.clients _ _ _ _ _ _ _ c.write_volume.ensures told whole c.requires.some c.requires.few

pub returns-clause-closed : goal.returns-clause-closed
returns-clause-closed g c = λ sectors told long. run_formatted sectors c.args.clients _ _ _ _ _ _ _ c.write_volume.ensures told long

pub returns-clause-count : goal.returns-clause-count
returns-clause-count g c = runs_keep_count _ _ _ _ _ _ _ _ c.write_volume.ensures
