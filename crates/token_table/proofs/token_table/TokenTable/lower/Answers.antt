use Rattle.token_kind.specs.Hold.{lesser_of}
use Rattle.token_table.specs.Table.{held_of}
use Rattle.token_table.proofs.Conflicts.{conflict-lesser_of, is_held-lesser_of, may_hold-lesser_of}
use Rattle.token_table.proofs.Keeps.{sets_keeps}
use Rattle.token_table.proofs.token_table.TokenTable.lower.Goals as goal

pub invariant_of-self : goal.invariant_of-self
invariant_of-self c =
    sets_keeps c.self.inside.map c.lower.new.self c.args.c c.args.ino c.args.«class» (lesser_of (held_of c.self.inside.map c.args.c c.args.ino c.args.«class») c.args.to) c.self.invariant c.lower.ensures
    (λ d ne. conflict-lesser_of _ c.args.to _ (c.self.invariant.apart c.args.c d c.args.ino c.args.«class» ne))
    (λ held. c.self.invariant.within c.args.c c.args.ino c.args.«class» (is_held-lesser_of _ c.args.to held))
    (may_hold-lesser_of c.args.«class» _ c.args.to (c.self.invariant.modes c.args.c c.args.ino c.args.«class»))
