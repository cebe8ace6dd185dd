use Rattle.std.proofs.Common.{◌∙◌, Bool, List, arith, ap, sym, subst}
use Rattle.std.specs.List.{position}
use Rattle.space_map.specs.SpaceMap.{IsLeastFree}
use Rattle.space_map.proofs.FreeBlocks.{least_is_first, none_is_first}
use Rattle.space_map.proofs.space_map.SpaceMap.least.Goals as goal

pub returns-then-at-eq-MAP_SIZE : goal.returns-then-at-eq-MAP_SIZE
returns-then-at-eq-MAP_SIZE c =
    let full = rw c.if-at-eq-MAP_SIZE.true at c.first_open_byte-at.ensures.full in
    sym (ap (λ (free : List Bool). position (λ (b : Bool). b) free) (sym c.self.view_is) ∙ none_is_first c.self.inside.bytes (omega arith) full)

pub returns : goal.returns
returns c = sym (least_is_first c.args.self.now _ (subst (λ (free : List Bool). IsLeastFree free c.least_block.result) c.self.view_is c.least_block.ensures.least))
