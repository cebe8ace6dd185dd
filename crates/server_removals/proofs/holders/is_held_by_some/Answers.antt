use Rattle.std.proofs.Common.{◌≡◌, true, sym, arith}
use Rattle.cal_base.specs.declared.identity.ClientId.{ClientId}
use Rattle.token_kind.specs.Hold.{is_held}
use Rattle.token_table.specs.Table.{held_of}
use Rattle.server_removals.proofs.Firsts.{none-holds, one-holds}
use Rattle.server_removals.proofs.holders.is_held_by_some.Goals as goal

pub returns-then-is_held : goal.returns-then-is_held
returns-then-is_held c =
    let holds : is_held (held_of c.args.table.now (record { 0 = c.loop-number.number }) c.args.ino c.args.«class») ≡ true = (cc) in
    sym (one-holds (λ (client : ClientId). is_held (held_of c.args.table.now client c.args.ino c.args.«class»)) 16 c.loop-number.number c.loop-number-test.true holds)

pub returns : goal.returns
returns c =
    sym (none-holds (λ (client : ClientId). is_held (held_of c.args.table.now client c.args.ino c.args.«class»)) 16 (λ k lt. c.loop-number.invariant k (omega arith)))
