use Rattle.std.proofs.Common.{◌≡◌, ◌++◌, length, take, sym, ap, subst, ◌∙◌, Some, slice_get, arith}
use Rattle.std.specs.List.{filter_map, All}
use Rattle.std.specs.Map.{lookup}
use Rattle.std.specs.Option.{option_to_list}
use Rattle.std.proofs.Math.Seq.{take-length}
use Rattle.token_table.specs.Blockers.{IsOpened, opened_by}
use Rattle.token_table.specs.Table.{same_key}
use Rattle.token_table.proofs.Lists.{gathers_more}
use Rattle.token_table.proofs.Opened.{opened_more, gathered}
use Rattle.token_table.proofs.hold_map.HoldMap.opened.Goals as goal

pub loop-i-preserved : goal.loop-i-preserved
loop-i-preserved c =
    let k = c.unwrap.result.0.now in
    let h = c.unwrap.result.1.now in
    let entries = c.self.inside.holds.entries in
    let found : lookup (same_key k) entries ≡ Some h = rw c.unwrap.ensures at c.get_index.ensures.value in
    let at : Some (k, h) ≡ slice_get entries c.loop-i.i = rw c.unwrap.ensures at c.get_index.ensures.entry in
    let step : c.put_item.new.list ≡ c.loop-i.inos ++ option_to_list c.opened_by.result = c.in_ok-put_item.ensures in (
      subst (All (IsOpened c.args.self.now)) (sym step) (opened_more c.args.self.now c.loop-i.inos k h c.opened_by.result (ap (λ t. lookup (same_key k) t.holds) (sym c.self.view_is) ∙ found) c.opened_by.ensures c.loop-i.invariant.0),
      gathers_more opened_by entries c.loop-i.i (k, h) c.loop-i.inos c.put_item.new.list (sym at) c.loop-i.invariant.1 (step ∙ ap (λ o. c.loop-i.inos ++ option_to_list o) c.opened_by.ensures),
    )

pub returns-clause-complete : goal.returns-clause-complete
returns-clause-complete c = λ d ino held.
    let all : c.loop-i.i ≡ length c.self.inside.holds.entries = omega arith in
    let inos : c.loop-i.inos ≡ filter_map opened_by c.args.self.now.holds =
    c.loop-i.invariant.1 ∙ ap (λ i. filter_map opened_by (take i c.self.inside.holds.entries)) all ∙ ap (filter_map opened_by) (take-length c.self.inside.holds.entries)
    ∙ ap (λ t. filter_map opened_by t.holds) c.self.view_is in
    rw inos (gathered d ino c.args.self.now.holds held)
