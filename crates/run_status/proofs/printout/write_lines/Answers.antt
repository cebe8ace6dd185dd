use Rattle.std.proofs.Common.{◌≡◌, ◌++◌, List, ℕ, take, drop, Err, sym, ap, arith}
use Rattle.std.proofs.lemmas.List.{take-append-drop}
use Rattle.run_status.proofs.Printed.{printed_on, cut_short}
use Rattle.run_status.proofs.printout.write_lines.Goals as goal

parted : (n : ℕ) (whole front back : List ℕ) → front ≡ take n whole → back ≡ drop n whole → whole ≡ front ++ back
parted n whole front back f b = rw (f, b) (sym (take-append-drop n whole))

pub loop-rest-preserved : goal.loop-rest-preserved
loop-rest-preserved g c = (
  printed_on _ _ _ _ _ c.split_at.result.0.now c.split_at.result.1.now c.loop-rest.invariant.0 (parted _ _ _ _ c.split_at.ensures.front c.split_at.ensures.back) c.in-Ok.ensures.prints,
  omega (arith, c.in-Ok.ensures.room, c.loop-rest.invariant.1, c.split_at.ensures.front_len, c.split_at.ensures.back_len),
)

pub returns-in-Err : goal.returns-in-Err
returns-in-Err g c =
    cut_short _ _ _ _ _ c.split_at.result.0.now c.split_at.result.1.now c.in-Err.error c.loop-rest.invariant.0 (parted _ _ _ _ c.split_at.ensures.front c.split_at.ensures.back) c.in-Err.ensures.prints (λ is. c.in-Err.ensures.room_found (ap Err is))
