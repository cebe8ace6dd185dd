use Rattle.trace_lines.proofs.Filling.{padded_is}
use Rattle.trace_lines.proofs.sectors.padded.Goals as goal

pub returns : goal.returns
returns c = padded_is c.args.bytes.now c.zero_sector-sector.result c.lay.new.contents c.zero_sector-sector.ensures c.lay.ensures
