use Rattle.std.proofs.Common.{◌≡◌, ◌<◌, ℕ, List, [], ◌∷◌, Bool, true, false, not, filter, count_by, if◌then◌else◌, refl, sym, ap, subst, ◌∙◌, true≢false, ◌+◌, add-zero, zero-add, length, take, get_or}
use Rattle.std.specs.List.{All}
use Rattle.std.proofs.lemmas.List.Elements.{All-head, All-tail}
use Rattle.std.proofs.lemmas.List.Sums.{sum_by-append, fold_more}
use Rattle.cal_base.specs.declared.identity.ClientId.{ClientId}
use Rattle.cal_base.specs.declared.identity.Ino.{Ino}
use Rattle.token_kind.specs.declared.«class».Class.TheVariants.{Data}
use Rattle.token_kind.specs.declared.hold.Hold.{Hold}
use Rattle.token_kind.specs.declared.token.Token.{Token}
use Rattle.token_table.specs.Changes.{Sets, reordered}
use Rattle.token_table.specs.Series.{with_hold, with_holds, put_last, Same}
use Rattle.token_table.specs.declared.hold_key.HoldKey.{HoldKey}
use Rattle.token_table.specs.Table.{Table, IsTable, IsGrantable, IsToken, key_of, same_key, same_client, same_write, hold_at, held_of, is_data_write, is_held}
use Rattle.token_table.proofs.Counts.{count_by-filter_all, count_by-filter_none}
use Rattle.token_table.proofs.Grants.{grantable_after}
use Rattle.token_table.proofs.Keeps.{sets_keeps}
use Rattle.token_table.proofs.Keys.{same_key-true, same_key-refl, same_write-true}
use Rattle.token_table.proofs.Writes.{count_by-without_client}

-- keys are one both ways
same_key-flips : (a b : HoldKey) → same_key a b ≡ same_key b a
same_key-flips a b = by (same_key a b) (same_key b a) refl refl
  where
    by : (p r : Bool) → same_key a b ≡ p → same_key b a ≡ r → same_key a b ≡ same_key b a
    by true r e f = subst (λ (k : HoldKey). same_key a k ≡ same_key k a) (same_key-true a b e) refl
    by false true e f = absurd (true≢false (sym (same_key-refl a) ∙ ap (same_key a) (sym (same_key-true b a f)) ∙ e))
    by false false e f = e ∙ sym f

-- what is held where one hold stands in front of others
in_front : (k : HoldKey) (hold : Hold) (es : List (HoldKey × Hold)) (q : HoldKey) → hold_at ((k, hold) ∷ es) q ≡ (if same_key k q then hold else hold_at es q)
in_front k hold es q = by (same_key q k) refl
  where
    by : (b : Bool) → same_key q k ≡ b → hold_at ((k, hold) ∷ es) q ≡ (if same_key k q then hold else hold_at es q)
    by true e = rw (same_key-flips k q, e) refl
    by false e = rw (same_key-flips k q, e) refl

-- a table with a hold more is the table with that hold set
pub sets_hold : (t : Table) (c : ClientId) (token : Token) → Sets t (with_hold t c token) c token.ino token.«class» token.hold
sets_hold t c token = record { holds = in_front (key_of c token.ino token.«class») token.hold t.holds; order = refl }

-- a hold that is set in the same table leaves the same table
pub sets_same : (u v t : Table) (c : ClientId) (token : Token) → Same u t → Sets u v c token.ino token.«class» token.hold → Same v (with_hold t c token)
sets_same u v t c token same sets = record { holds = holds; order = order }
  where
    key : HoldKey
    key = key_of c token.ino token.«class»

    holds : (q : HoldKey) → hold_at v.holds q ≡ hold_at ((key, token.hold) ∷ t.holds) q
    holds q = sets.holds q ∙ ap (λ (h : Hold). if same_key key q then token.hold else h) (same.holds q) ∙ sym (in_front key token.hold t.holds q)

    order : v.writes ≡ reordered t.writes (c, token.ino) (is_data_write token.«class» (held_of t c token.ino token.«class»)) (is_data_write token.«class» token.hold)
    order =
        sets.order ∙ ap (λ (h : Hold). reordered u.writes (c, token.ino) (is_data_write token.«class» h) (is_data_write token.«class» token.hold)) (same.holds key)
        ∙ ap (λ ws. reordered ws (c, token.ino) (is_data_write token.«class» (held_of t c token.ino token.«class»)) (is_data_write token.«class» token.hold)) same.order

-- a table that is the same keeps the rule of the table
pub same_keeps : (u t : Table) → Same u t → IsTable t → IsTable u
same_keeps u t same table = record {
  apart = λ c d ino cls ne. rw (same.holds (key_of c ino cls), same.holds (key_of d ino cls)) (table.apart c d ino cls ne);
  listed = λ c ino. rw (same.order, same.holds (key_of c ino Data)) (table.listed c ino);
  within = λ c ino cls held. table.within c ino cls (ap is_held (sym (same.holds (key_of c ino cls))) ∙ held);
  modes = λ c ino cls. rw (same.holds (key_of c ino cls)) (table.modes c ino cls);
}

-- the writes of a client, and those of others, stand as often as before
count_by-of_client : (c d : ClientId) (ino : Ino) (ws : List (ClientId × Ino))
    → count_by (same_write (d, ino)) (filter (λ w. same_client c w.0) ws) ≡ (if same_client c d then count_by (same_write (d, ino)) ws else 0)
count_by-of_client c d ino ws = by (same_client c d) refl
  where
    agree : (w : ClientId × Ino) → same_write (d, ino) w ≡ true → same_client c w.0 ≡ same_client c d
    agree w s = ap (λ (v : ClientId × Ino). same_client c v.0) (sym (same_write-true (d, ino) w s))

    by : (b : Bool) → same_client c d ≡ b → count_by (same_write (d, ino)) (filter (λ w. same_client c w.0) ws) ≡ (if b then count_by (same_write (d, ino)) ws else 0)
    by true e = count_by-filter_all (same_write (d, ino)) (λ w. same_client c w.0) (λ w s. agree w s ∙ e) ws
    by false e = count_by-filter_none (same_write (d, ino)) (λ w. same_client c w.0) (λ w s. agree w s ∙ e) ws

-- a client's writes put last keep the rule of the table
pub put_last_keeps : (t : Table) (c : ClientId) → IsTable t → IsTable (put_last t c)
put_last_keeps t c table = record { apart = table.apart; listed = listed; within = table.within; modes = table.modes }
  where
    both : (b : Bool) (n : ℕ) → (if b then 0 else n) + (if b then n else 0) ≡ n
    both true n = zero-add n
    both false n = add-zero n

    listed : (d : ClientId) (ino : Ino) → count_by (same_write (d, ino)) (put_last t c).writes ≡ (if is_data_write Data (held_of t d ino Data) then 1 else 0)
    listed d ino =
        sum_by-append (λ w. if same_write (d, ino) w then 1 else 0) (filter (λ w. not (same_client c w.0)) t.writes) (filter (λ w. same_client c w.0) t.writes)
        ∙ (λ j. count_by-without_client c d ino t.writes j + count_by-of_client c d ino t.writes j)
        ∙ both (same_client c d) (count_by (same_write (d, ino)) t.writes) ∙ table.listed d ino

-- holds that conflict with none of another client keep the rule of the table
pub with_holds_keeps : (t : Table) (c : ClientId) (tokens : List Token) → IsTable t → All (IsGrantable t c) tokens → c.0 < 16 → All (λ (token : Token). token.ino.0 < 512) tokens → All IsToken tokens → IsTable (with_holds t c tokens)
with_holds_keeps t c [] table apart member inside modes = table
with_holds_keeps t c (token ∷ tokens) table apart member inside modes =
    let sets = sets_hold t c token in
    with_holds_keeps (with_hold t c token) c tokens
    (sets_keeps t (with_hold t c token) c token.ino token.«class» token.hold table sets (All-head (IsGrantable t c) token tokens apart) (λ held. (member, All-head (λ (token : Token). token.ino.0 < 512) token tokens inside)) (All-head IsToken token tokens modes))
    (λ k d lt. grantable_after t (with_hold t c token) c token.ino token.«class» token.hold _ sets (All-tail (IsGrantable t c) token tokens apart k d lt))
    member (All-tail (λ (token : Token). token.ino.0 < 512) token tokens inside) (All-tail IsToken token tokens modes)

-- the same table, once one more of the holds is set
pub sets_next : (u v base : Table) (c : ClientId) (tokens : List Token) (i : ℕ) (d : Token) → i < length tokens → Same u (with_holds base c (take i tokens))
    → Sets u v c (get_or tokens i d).ino (get_or tokens i d).«class» (get_or tokens i d).hold → Same v (with_holds base c (take (i + 1) tokens))
sets_next u v base c tokens i d within same sets =
    subst (Same v) (sym (fold_more (λ t token. with_hold t c token) base tokens i d within)) (sets_same u v (with_holds base c (take i tokens)) c (get_or tokens i d) same sets)
