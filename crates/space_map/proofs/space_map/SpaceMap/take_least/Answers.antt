use Rattle.std.proofs.Common.{Bool, List, arith, sym, ap, ◌∙◌}
use Rattle.std.specs.List.{slice_get}
use Rattle.space_map.proofs.FreeBlocks.{none_free}
use Rattle.space_map.proofs.space_map.SpaceMap.take_least.Goals as goal

pub returns-then-at-eq-MAP_SIZE-clause-none : goal.returns-then-at-eq-MAP_SIZE-clause-none
returns-then-at-eq-MAP_SIZE-clause-none c = λ block within.
    let full = c.first_open_byte-at.ensures.full in
    ap (λ (free : List Bool). slice_get free block) (sym c.self.view_is)
    ∙ none_free c.self.inside.bytes c.first_open_byte-at.result block full (omega arith) (omega arith)
