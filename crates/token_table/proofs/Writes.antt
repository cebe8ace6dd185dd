use Rattle.std.proofs.Common.{◌≡◌, ◌+◌, List, Bool, true, false, not, filter, count_by, if◌then◌else◌, refl, sym, ap, ◌∙◌, arith}
use Rattle.std.proofs.lemmas.List.Sums.{sum_by_push}
use Rattle.cal_base.specs.declared.identity.ClientId.{ClientId}
use Rattle.cal_base.specs.declared.identity.Ino.{Ino}
use Rattle.token_table.specs.Table.{same_client, same_write}
use Rattle.token_table.specs.Changes.{without, reordered}
use Rattle.token_table.proofs.Counts.{count_by-filter_all, count_by-filter_none}
use Rattle.token_table.proofs.Keys.{same_write-true, same_write-refl}

-- another write than the one that left stands as often as before
count_by-without_other : (v x : ClientId × Ino) (ws : List (ClientId × Ino)) → same_write x v ≡ false → count_by (same_write v) (without ws x) ≡ count_by (same_write v) ws
count_by-without_other v x ws ne =
    count_by-filter_all (same_write v) (λ w. not (same_write x w)) (λ w s. ap not (ap (same_write x) (sym (same_write-true v w s)) ∙ ne)) ws

-- the write that left doesn't stand
count_by-without_same : (v : ClientId × Ino) (ws : List (ClientId × Ino)) → count_by (same_write v) (without ws v) ≡ 0
count_by-without_same v ws = count_by-filter_none (same_write v) (λ w. not (same_write v w)) (λ w s. ap not s) ws

-- another write than the one that changed stands as often as before
pub count_by-reordered_other : (v x : ClientId × Ino) (ws : List (ClientId × Ino)) (was is : Bool) → same_write x v ≡ false → same_write v x ≡ false
    → count_by (same_write v) (reordered ws x was is) ≡ count_by (same_write v) ws
count_by-reordered_other v x ws true true e f = refl
count_by-reordered_other v x ws true false e f = count_by-without_other v x ws e
count_by-reordered_other v x ws false true e f =
    sum_by_push (λ w. if same_write v w then 1 else 0) ws x ∙ ap (λ (b : Bool). count_by (same_write v) ws + (if b then 1 else 0)) f ∙ omega arith
count_by-reordered_other v x ws false false e f = refl

-- the write that changed stands once where it is one now, and else not
pub count_by-reordered_same : (v : ClientId × Ino) (ws : List (ClientId × Ino)) (was is : Bool)
    → count_by (same_write v) ws ≡ (if was then 1 else 0)
    → count_by (same_write v) (reordered ws v was is) ≡ (if is then 1 else 0)
count_by-reordered_same v ws true true e = e
count_by-reordered_same v ws true false e = count_by-without_same v ws
count_by-reordered_same v ws false true e =
    sum_by_push (λ w. if same_write v w then 1 else 0) ws v ∙ ap (λ (b : Bool). count_by (same_write v) ws + (if b then 1 else 0)) (same_write-refl v) ∙ ap (λ n. n + 1) e
count_by-reordered_same v ws false false e = e

-- once a client is dropped its writes don't stand, and those of others stand as often as before
pub count_by-without_client : (c d : ClientId) (ino : Ino) (ws : List (ClientId × Ino))
    → count_by (same_write (d, ino)) (filter (λ w. not (same_client c w.0)) ws) ≡ (if same_client c d then 0 else count_by (same_write (d, ino)) ws)
count_by-without_client c d ino ws = by (same_client c d) refl
  where
    agree : (w : ClientId × Ino) → same_write (d, ino) w ≡ true → same_client c w.0 ≡ same_client c d
    agree w s = ap (λ (v : ClientId × Ino). same_client c v.0) (sym (same_write-true (d, ino) w s))

    by : (b : Bool) → same_client c d ≡ b → count_by (same_write (d, ino)) (filter (λ w. not (same_client c w.0)) ws) ≡ (if b then 0 else count_by (same_write (d, ino)) ws)
    by true e = count_by-filter_none (same_write (d, ino)) (λ w. not (same_client c w.0)) (λ w s. ap not (agree w s ∙ e)) ws
    by false e = count_by-filter_all (same_write (d, ino)) (λ w. not (same_client c w.0)) (λ w s. ap not (agree w s ∙ e)) ws
