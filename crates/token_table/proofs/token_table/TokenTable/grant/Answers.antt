use Rattle.std.proofs.Common.{sym, subst}
use Rattle.token_table.specs.Table.{Table, IsGrantable}
use Rattle.token_table.proofs.Keeps.{sets_keeps}
use Rattle.token_table.proofs.token_table.TokenTable.grant.Goals as goal

pub invariant_of-self-2 : goal.invariant_of-self-2
invariant_of-self-2 c =
    sets_keeps c.self.inside.map c.set.new.self c.args.c c.args.t.ino c.args.t.«class» c.args.t.hold c.self.invariant c.in_ok-set.ensures.ok
    (subst (λ (t : Table). IsGrantable t c.args.c c.args.t) (sym c.self.view_is) c.requires.apart)
    (λ held. (c.requires.client, c.requires.inode)) c.requires.mode
