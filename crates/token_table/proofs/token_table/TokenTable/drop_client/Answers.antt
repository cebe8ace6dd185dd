use Rattle.token_table.proofs.Keeps.{drops_keeps}
use Rattle.token_table.proofs.token_table.TokenTable.drop_client.Goals as goal

pub invariant_of-self : goal.invariant_of-self
invariant_of-self c = drops_keeps c.self.inside.map c.drop_client.new.self c.args.c c.self.invariant c.drop_client.ensures
