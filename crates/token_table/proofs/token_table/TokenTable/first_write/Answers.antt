use Rattle.std.proofs.Common.{◌≡◌, false, true≢false, refl, ◌∙◌, sym, subst, Option, Some, None, slice_get}
use Rattle.std.specs.Option.{IfSome, IsNone}
use Rattle.cal_base.specs.declared.identity.ClientId.{ClientId}
use Rattle.cal_base.specs.declared.identity.Ino.{Ino}
use Rattle.token_kind.specs.declared.«class».Class.TheVariants.{Data}
use Rattle.token_kind.specs.declared.hold.Hold.TheVariants.{Write}
use Rattle.token_table.specs.Table.{Table, IsTable, held_of, is_data_write}
use Rattle.token_table.proofs.Order.{first_is_write, none_is_write}
use Rattle.token_table.proofs.token_table.TokenTable.first_write.Goals as goal

-- the rule of the table, of the table as callers see it
holder : (t : Table) (o : Option (ClientId × Ino)) → IsTable t → o ≡ slice_get t.writes 0 → IfSome o (λ w. held_of t w.0 w.1 Data ≡ Write)
holder t None table e = tt
holder t (Some w) table e = first_is_write t table w (sym e)

-- an option that is none
none_is : (o : Option (ClientId × Ino)) → IsNone o → o ≡ None
none_is None h = refl
none_is (Some w) h = absurd (true≢false h)

pub returns-clause-holder : goal.returns-clause-holder
returns-clause-holder c = subst (λ (t : Table). IfSome c.first_write.result (λ w. held_of t w.0 w.1 Data ≡ Write)) c.self.view_is (holder c.self.inside.map c.first_write.result c.self.invariant c.first_write.ensures)

pub returns-clause-none : goal.returns-clause-none
returns-clause-none c = λ none. subst (λ (t : Table). (d : ClientId) (ino : Ino) → is_data_write Data (held_of t d ino Data) ≡ false) c.self.view_is
    (none_is_write c.self.inside.map c.self.invariant (sym c.first_write.ensures ∙ none_is c.first_write.result none))
