use Rattle.std.proofs.Common.{arith, sym}
use Rattle.directory.proofs.Order.{all_after, all_before, same_name, turned}
use Rattle.directory.proofs.index.search.Goals as goal

pub loop-low-preserved-in-Less : goal.loop-low-preserved-in-Less
loop-low-preserved-in-Less c =
    let i = c.loop-low.invariant in
    let within = i.within in
    record {
      ordered = omega arith;
      within = i.within;
      before = all_before _ _ _ _ c.requires (omega arith) (record { less = sym c.in-Less.ensures });
      after = i.after;
    }

pub loop-low-preserved : goal.loop-low-preserved
loop-low-preserved c =
    let i = c.loop-low.invariant in
    let within = i.within in
    record {
      ordered = omega arith;
      within = omega arith;
      before = i.before;
      after = all_after _ _ _ _ c.requires (omega arith) (turned _ _ (sym c.in-Greater.ensures));
    }

pub returns-in-Equal-clause-found : goal.returns-in-Equal-clause-found
returns-in-Equal-clause-found c =
    let within = c.loop-low.invariant.within in
    record { within = omega arith; named = same_name _ _ (sym c.in-Equal.ensures) }
