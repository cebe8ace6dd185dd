use Rattle.std.proofs.Common.{◌≡◌, ◌+◌, ◌-◌, ◌<◌, ◌∷◌, [], ◌∙◌, ℕ, arith, ap, subst, length, length-append}
use Rattle.directory.specs.Loading.{Loaded}
use Rattle.directory.proofs.Loads.{loaded_bad, loaded_more, loaded_none}
use Rattle.directory.proofs.load.push_slots.Goals as goal

pub loop-rest-init : goal.loop-rest-init
loop-rest-init c = record {
  loaded = (
      let none : 0 ≡ length c.args.table.now - length c.args.table.now = omega arith in
      subst (λ (n : ℕ). Loaded c.args.table.now c.args.sector.now n c.args.sector.now c.args.table.now) none (loaded_none c.args.table.now c.args.sector.now));
  left = omega (arith, c.requires.sector);
  longer = omega arith;
  within = omega arith;
}

pub loop-rest-preserved : goal.loop-rest-preserved
loop-rest-preserved c =
    let cut = rw c.unwrap-bytes.ensures at c.take_bytes.ensures.taken in
    let size = rw c.unwrap-bytes.ensures at c.take_bytes.ensures.count in
    let taken = c.in-Ok.ensures.ok in
    let longer = c.loop-rest.invariant.longer in
    let left = c.loop-rest.invariant.left in
    let one : length c.next_slot.new.table ≡ length c.loop-rest.table + 1 = ap length taken.put ∙ length-append c.loop-rest.table (taken.slot ∷ []) in
    let more : length c.loop-rest.table - length c.args.table.now + 1 ≡ length c.next_slot.new.table - length c.args.table.now = omega arith in
    let start = ap length c.slots.ensures.slots in
    let seen = ap length c.slots-in-loop-rest.ensures.slots in
    let test = c.loop-rest-test.true in
    record {
      loaded = subst (λ (n : ℕ). Loaded c.args.table.now c.args.sector.now n c.take_bytes.new.from.now c.next_slot.new.table) more
          (loaded_more c.args.table.now c.loop-rest.table _ c.args.sector.now _ _ _ _ c.loop-rest.invariant.loaded cut taken);
      left = omega (arith, ap length cut, length-append c.unwrap-bytes.result.now c.take_bytes.new.from.now);
      longer = omega arith;
      within = omega arith;
    }

pub returns-in-Err-clause-bad : goal.returns-in-Err-clause-bad
returns-in-Err-clause-bad c =
    let cut = rw c.unwrap-bytes.ensures at c.take_bytes.ensures.taken in
    let size = rw c.unwrap-bytes.ensures at c.take_bytes.ensures.count in
    let longer = c.loop-rest.invariant.longer in
    let start = ap length c.slots.ensures.slots in
    let seen = ap length c.slots-in-loop-rest.ensures.slots in
    let test = c.loop-rest-test.true in
    let few : length c.loop-rest.table - length c.args.table.now < 128 = omega arith in
    loaded_bad c.args.table.now c.loop-rest.table c.args.sector.now _ _ _ _ c.loop-rest.invariant.loaded few cut size c.in-Err.ensures.bad
