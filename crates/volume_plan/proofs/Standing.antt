-- What a rename moves stands, on a volume that stands for a legal history.
use Rattle.std.proofs.Common.{◌≡◌, ◌≢◌, ◌||◌, ℕ, Bool, true, false, List, Option, Some, None, Result, Ok, Err, is_some, refl, sym, ap, ◌∙◌, arith, if◌then◌else◌}
use Rattle.tree_facts.proofs.Entries.{is_named_by}
use Rattle.tree_facts.proofs.Moves.{moves_by}
use Rattle.tree_facts.proofs.OneNameKept.{one_named}
use Rattle.tree_law.specs.Legal.{tree_of}
use Rattle.tree_law.specs.PartOf.{kind_of}
use Rattle.tree_law.specs.Rename.{move_of}
use Rattle.tree_law.specs.Resolve.{last_of}
use Rattle.tree_law.specs.Tree.{Tree, node_at}
use Rattle.tree_law.specs.declared.entry.Entry.{Entry}
use Rattle.tree_law.specs.declared.node.Node.{Node}
use Rattle.tree_law.specs.declared.node.Node.TheVariants.{Directory, Regular}
use Rattle.tree_law.specs.declared.rename.Move.{Move}
use Rattle.tree_law.specs.declared.reply.Why.{Why}
use Rattle.tree_law.specs.declared.reply.Why.TheVariants.{NoEnt}
use Rattle.volume.specs.Volume.{Volume}
use Rattle.volume_plan.specs.Leads.{Mounted}
use Rattle.volume_plan.specs.Plans.{if_there}
use Rattle.volume_plan.specs.Shown.{shown}
use Rattle.volume_plan.proofs.Alike.{AreAlike}
use Rattle.volume_plan.proofs.Removals.{stand_nodes}
use Rattle.volume_plan.proofs.Similar.{meets_named, same_move_of}

some_alike : (x y : Option Node) → AreAlike x y → kind_of y ≢ None → is_some x ≡ true
some_alike (Some node) y alike some = refl
some_alike None (Some (Directory names)) alike some = absurd alike
some_alike None (Some (Regular file)) alike some = absurd alike
some_alike None None alike some = absurd (some refl)

moved_stands : (sectors : List (List ℕ)) (v : Volume) (history : List Entry) (path goal : List (List ℕ)) (move : Move) → Mounted sectors v history → move_of (tree_of history) path goal ≡ Ok move → is_some (node_at (shown v) move.ino) ≡ true
moved_stands sectors v history path goal move m at =
    let tree : Tree = tree_of history in
    let i = moves_by tree path goal move at in
    let all = one_named history m.legal in
    let there = all.there move.from.0 (last_of path) move.ino i.named in
    let number = all.number move.from.0 (last_of path) move.ino i.named in
    let meet = meets_named sectors v tree m.volume (stand_nodes sectors v history m) move.ino (let to_511 = number.to_511 in omega arith) (is_named_by tree move.from.0 (last_of path) move.ino i.named) in
    some_alike (node_at (shown v) move.ino) (node_at tree move.ino) meet.alike there

allowed_same : (v : Volume) (r s : Result Move Why) → r ≡ s → ((move : Move) → r ≡ Ok move → is_some (node_at (shown v) move.ino) ≡ true) → if_there v s ≡ r
allowed_same v (Err why) s e stands = ap (if_there v) (sym e)
allowed_same v (Ok move) s e stands =
    ap (if_there v) (sym e) ∙ elim move.is_same as (λ b. (if b || is_some (node_at (shown v) move.ino) then Ok move else Err NoEnt) ≡ Ok move) [
      | true ↦ refl
      | false ↦ ap (λ (b : Bool). if b then Ok move else Err NoEnt) (stands move refl)
    ]

-- the plan of a rename moves what the tree says
pub allowed_move : (sectors : List (List ℕ)) (v : Volume) (history : List Entry) (path goal : List (List ℕ)) → Mounted sectors v history → if_there v (move_of (shown v) path goal) ≡ move_of (tree_of history) path goal
allowed_move sectors v history path goal m =
    allowed_same v (move_of (tree_of history) path goal) (move_of (shown v) path goal) (sym (same_move_of sectors v (tree_of history) m.volume (stand_nodes sectors v history m) path goal).same)
    (λ move at. moved_stands sectors v history path goal move m at)
