use Rattle.std.proofs.Common.{◌≡◌, false, sym, arith}
use Rattle.server_removals.specs.Removals.{is_asked_back}
use Rattle.server_removals.proofs.Firsts.{each-holds, one-fails}
use Rattle.server_removals.proofs.holders.is_asked_of_all.Goals as goal

pub returns-then-not-is_asked_back : goal.returns-then-not-is_asked_back
returns-then-not-is_asked_back c =
    let fails : is_asked_back c.args.desk.now c.args.ino c.args.«class» (record { 0 = c.loop-number.number }) ≡ false = (cc) in
    sym (one-fails (is_asked_back c.args.desk.now c.args.ino c.args.«class») 16 c.loop-number.number c.loop-number-test.true fails)

pub returns : goal.returns
returns c = sym (each-holds (is_asked_back c.args.desk.now c.args.ino c.args.«class») 16 (λ k lt. c.loop-number.invariant k (omega arith)))
