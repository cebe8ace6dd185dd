use Rattle.std.proofs.Common.{subst, IsTrue}
use Rattle.token_table.specs.Table.{Table, IsGrantable}
use Rattle.token_table.proofs.Grants.{grantable_from_free, free_from_grantable}
use Rattle.token_table.proofs.token_table.TokenTable.is_grantable.Goals as goal

pub returns : goal.returns
returns c =
    let t = c.self.inside.map in
    subst (λ (u : Table). (IsTrue c.is_free.result → IsGrantable u c.args.c c.args.t) × (IsGrantable u c.args.c c.args.t → IsTrue c.is_free.result)) c.self.view_is
    ((λ free. grantable_from_free t c.self.invariant c.args.c c.args.t (c.is_free.ensures.0 free)), (λ may. c.is_free.ensures.1 (λ k lt. free_from_grantable t c.args.c c.args.t (record { 0 = k }) may)))
