use Rattle.std.proofs.Common.{sym, arith}
use Rattle.cal_fields.proofs.PaddedLemmas.{put_mid-padded}
use Rattle.cal_fields.proofs.sector_fields.fill.Goals as goal

pub returns : goal.returns
returns c = λ front e f.
    let after = c.copy_from_slice.ensures.after in
    rw (f, after) (put_mid-padded 4096 front c.args.bytes.now c.args.at _ (sym e) (omega arith) (omega arith))
