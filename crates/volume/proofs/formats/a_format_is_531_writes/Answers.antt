use Rattle.volume.proofs.Each.{length-format_writes}
use Rattle.volume.proofs.formats.a_format_is_531_writes.Goals as goal

pub returns : goal.returns
returns c = λ clients. length-format_writes clients
