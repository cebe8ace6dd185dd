-- Tables that are the same stay so where the same is done to both.
use Rattle.std.proofs.Common.{◌∷◌, ◌++◌, [], List, not, filter, if◌then◌else◌, ap, refl, subst, sym, ◌∙◌}
use Rattle.cal_base.specs.declared.identity.ClientId.{ClientId}
use Rattle.cal_base.specs.declared.identity.Ino.{Ino}
use Rattle.token_kind.specs.Hold.{lesser_of}
use Rattle.token_kind.specs.declared.«class».Class.{Class}
use Rattle.token_kind.specs.declared.hold.Hold.{Hold}
use Rattle.token_kind.specs.declared.hold.Hold.TheVariants.{None as Nothing}
use Rattle.token_kind.specs.declared.token.Token.{Token}
use Rattle.token_table.specs.Series.{Same, lowered_token, put_last, with_hold, with_holds, with_lowered}
use Rattle.token_table.specs.Table.{Table, key_of, same_client}
use Rattle.token_table.proofs.Drops.{hold_at-without_client}
use Rattle.token_table.proofs.Series.{sets_hold, sets_same}
use Rattle.cluster_law.specs.ServerState.{without_holds}

-- a table is the same as itself, both ways, and as what is the same as one that is the same
pub same-refl : (t : Table) → Same t t
same-refl t = record { holds = λ q. refl; order = refl }

pub same-sym : (t u : Table) → Same t u → Same u t
same-sym t u same = record { holds = λ q. sym (same.holds q); order = sym same.order }

pub same-trans : (t u v : Table) → Same t u → Same u v → Same t v
same-trans t u v one two = record { holds = λ q. one.holds q ∙ two.holds q; order = one.order ∙ two.order }

-- a hold is set in both; and some holds are
pub same-hold : (t u : Table) (c : ClientId) (token : Token) → Same t u → Same (with_hold t c token) (with_hold u c token)
same-hold t u c token same = sets_same t (with_hold t c token) u c token same (sets_hold t c token)

pub same-holds : (t u : Table) (c : ClientId) (tokens : List Token) → Same t u → Same (with_holds t c tokens) (with_holds u c tokens)
same-holds t u c [] same = same
same-holds t u c (token ∷ tokens) same = same-holds (with_hold t c token) (with_hold u c token) c tokens (same-hold t u c token same)

-- a hold is lowered in both; and some holds are
same-lowered-one : (t u : Table) (c : ClientId) (ino : Ino) (item : Class × Hold) → Same t u → Same (with_hold t c (lowered_token t c ino item)) (with_hold u c (lowered_token u c ino item))
same-lowered-one t u c ino item same =
    subst (λ (h : Hold). Same (with_hold t c (lowered_token t c ino item)) (with_hold u c (record { ino = ino; «class» = item.0; hold = lesser_of h item.1 })))
    (same.holds (key_of c ino item.0)) (same-hold t u c (lowered_token t c ino item) same)

pub same-lowered : (t u : Table) (c : ClientId) (ino : Ino) (items : List (Class × Hold)) → Same t u → Same (with_lowered t c ino items) (with_lowered u c ino items)
same-lowered t u c ino [] same = same
same-lowered t u c ino (item ∷ items) same =
    same-lowered (with_hold t c (lowered_token t c ino item)) (with_hold u c (lowered_token u c ino item)) c ino items (same-lowered-one t u c ino item same)

-- a client's writes are put last in both
pub same-last : (t u : Table) (c : ClientId) → Same t u → Same (put_last t c) (put_last u c)
same-last t u c same = record {
  holds = same.holds;
  order = ap (λ ws. filter (λ w. not (same_client c w.0)) ws ++ filter (λ w. same_client c w.0) ws) same.order;
}

-- a client's holds are dropped in both
pub same-dropped : (t u : Table) (c : ClientId) → Same t u → Same (without_holds t c) (without_holds u c)
same-dropped t u c same = record {
  holds = λ q. hold_at-without_client c t.holds q ∙ ap (λ (h : Hold). if same_client c q.client then Nothing else h) (same.holds q) ∙ sym (hold_at-without_client c u.holds q);
  order = ap (λ ws. filter (λ w. not (same_client c w.0)) ws) same.order;
}
