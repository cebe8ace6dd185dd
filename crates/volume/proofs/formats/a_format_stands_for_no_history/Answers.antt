use Rattle.volume.proofs.Empty.{format_closes, format_stands}
use Rattle.volume.proofs.formats.a_format_stands_for_no_history.Goals as goal

pub returns-clause-closed : goal.returns-clause-closed
returns-clause-closed c = λ sectors clients long. format_closes sectors clients long

pub returns-clause-stands : goal.returns-clause-stands
returns-clause-stands c = λ sectors clients long some few. format_stands sectors clients long some few
