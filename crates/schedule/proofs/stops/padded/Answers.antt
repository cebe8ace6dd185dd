use Rattle.std.proofs.Common.{rules, ◌≡◌, length, min}
use Rattle.schedule.proofs.Padding.{padded_is}
use Rattle.schedule.proofs.stops.padded.Goals as goal

pub returns : goal.returns
returns c =
    let count : c.min-count.result ≡ min 4096 (length c.args.bytes.now) = search rules in
    padded_is c.args.bytes.now c.filled-sector.result c.lay.new.contents c.min-count.result count c.filled-sector.ensures c.lay.ensures
