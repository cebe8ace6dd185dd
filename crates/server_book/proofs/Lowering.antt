-- What is asked of a hold once blockers are asked: what a Revoke tells of it, or what was asked before.
use Rattle.std.proofs.Common.{◌≡◌, ◌≤◌, ◌⊎◌, inl, inr, List, [], ◌∷◌, ◌++◌, Bool, true, false, not, ◌&&◌, nat_lt, fold, Option, Some, None, if◌then◌else◌, refl, sym, ap, subst, ◌∙◌, true≢false, arith, Contains}
use Rattle.std.proofs.lemmas.List.Elements.{Contains-append_cases, Contains-append_left, Contains-push_cases}
use Rattle.std.specs.List.{list_any}
use Rattle.indexmap.specs.IndexSet.{insert_key}
use Rattle.indexmap.proofs.CallerLemmas.{Contains-insert_key}
use Rattle.revocation.specs.Reasons.{IsAskedWithin}
use Rattle.revocation.specs.Revokes.{asked_with, item_of, key_of_blocker, lower_asked, owner_of, owners, same_owner}
use Rattle.revocation.specs.declared.owner.Owner.{Owner}
use Rattle.revocation.proofs.Sent.{same_owner-true}
use Rattle.token_kind.specs.Hold.{hold_number, lesser_of}
use Rattle.token_kind.specs.declared.blocker.Blocker.{Blocker}
use Rattle.token_kind.specs.declared.«class».Class.{Class}
use Rattle.token_kind.specs.declared.hold.Hold.{Hold}
use Rattle.token_kind.specs.declared.hold.Hold.TheVariants.{None as Nothing, Read, Write}
use Rattle.token_table.specs.Blockers.{is_open}
use Rattle.token_table.specs.Table.{same_key}
use Rattle.token_table.specs.declared.hold_key.HoldKey.{HoldKey}
use Rattle.token_table.proofs.Keys.{same_key-true}

-- a lower hold is the lesser of the two, and a hold is so of itself
lesser-low : (a h : Hold) → nat_lt (hold_number h) (hold_number a) ≡ true → lesser_of a h ≡ h
lesser-low Nothing Nothing e = refl
lesser-low Nothing Read e = absurd (true≢false (sym e))
lesser-low Nothing Write e = absurd (true≢false (sym e))
lesser-low Read Nothing e = refl
lesser-low Read Read e = refl
lesser-low Read Write e = absurd (true≢false (sym e))
lesser-low Write h e = refl

pub lesser-same : (h : Hold) → lesser_of h h ≡ h
lesser-same Nothing = refl
lesser-same Read = refl
lesser-same Write = refl

lesser-within : (a b : Hold) → hold_number (lesser_of a b) ≤ hold_number a
lesser-within Nothing b = omega arith
lesser-within Read Nothing = omega arith
lesser-within Read Read = omega arith
lesser-within Read Write = omega arith
lesser-within Write Nothing = omega arith
lesser-within Write Read = omega arith
lesser-within Write Write = omega arith

-- of two holds that are neither lower is one the other
same-hold : (h a : Hold) → hold_number h ≤ hold_number a → nat_lt (hold_number h) (hold_number a) ≡ false → h ≡ a
same-hold Nothing Nothing le e = refl
same-hold Nothing Read le e = absurd (true≢false e)
same-hold Nothing Write le e = absurd (true≢false e)
same-hold Read Nothing le e = absurd (omega arith)
same-hold Read Read le e = refl
same-hold Read Write le e = absurd (true≢false e)
same-hold Write Nothing le e = absurd (omega arith)
same-hold Write Read le e = absurd (omega arith)
same-hold Write Write le e = refl

-- what an item says: its class, what is asked now, and that it is lower than what was asked
pub record Says (cls : Class) (before after : Option Hold) (x : Class × Hold) : Type 0 where
  pub of : x.0 ≡ cls
  pub now_is : after ≡ Some x.1
  pub low : lower_asked before x.1 ≡ x.1

pub item-says : (cls : Class) (before after : Option Hold) (x : Class × Hold) → item_of cls before after ≡ Some x → Says cls before after x
item-says cls before None x e = absurd (cc)
item-says cls None (Some h) x e =
    let one : ◌≡◌ {A = Class × Hold} (cls, h) x = cc in
    subst (λ (y : Class × Hold). Says cls None (Some h) y) one (record { of = refl; now_is = refl; low = refl })
item-says cls (Some a) (Some h) x e = by (nat_lt (hold_number h) (hold_number a)) refl e
  where
    by : (b : Bool) → nat_lt (hold_number h) (hold_number a) ≡ b → (if b then Some (cls, h) else None) ≡ Some x → Says cls (Some a) (Some h) x
    by true lt f =
        let one : ◌≡◌ {A = Class × Hold} (cls, h) x = cc in
        subst (λ (y : Class × Hold). Says cls (Some a) (Some h) y) one (record { of = refl; now_is = refl; low = lesser-low a h lt })
    by false lt f = absurd (cc)

-- what is asked at or below a mode stays so
stays-within : (q : HoldKey) (bs : List Blocker) (m : Option Hold) (h : Hold) → IsAskedWithin m h → IsAskedWithin (fold (asked_with q) m bs) h
stays-within q [] m h w = w
stays-within q (b ∷ bs) m h w = stays-within q bs (asked_with q m b) h (by (not (is_open b.«class») && same_key (key_of_blocker b) q) m w)
  where
    by : (t : Bool) (m : Option Hold) → IsAskedWithin m h → IsAskedWithin (if t then Some (lower_asked m b.asked) else m) h
    by false m v = v
    by true None v = absurd v
    by true (Some a) v = let low : hold_number (lesser_of a b.asked) ≤ hold_number a = lesser-within a b.asked in let w : hold_number a ≤ hold_number h = v in omega (arith, low, w)

-- where there is no item, what is asked is what was asked
none-before : (cls : Class) (n : Option Hold) → item_of cls None n ≡ None → n ≡ None
none-before cls None e = refl
none-before cls (Some h) e = absurd (cc)

some-before : (cls : Class) (a : Hold) (n : Option Hold) → IsAskedWithin n a → item_of cls (Some a) n ≡ None → n ≡ Some a
some-before cls a None w e = absurd w
some-before cls a (Some h) w e = by (nat_lt (hold_number h) (hold_number a)) refl e
  where
    by : (b : Bool) → nat_lt (hold_number h) (hold_number a) ≡ b → ◌≡◌ {A = Option (Class × Hold)} (if b then Some (cls, h) else None) None → ◌≡◌ {A = Option Hold} (Some h) (Some a)
    by true lt f = absurd (cc)
    by false lt f = ap (λ (m : Hold). Some m) (same-hold h a w lt)

pub kept-where-none : (cls : Class) (q : HoldKey) (bs : List Blocker) (m : Option Hold) → item_of cls m (fold (asked_with q) m bs) ≡ None → fold (asked_with q) m bs ≡ m
kept-where-none cls q bs None e = none-before cls (fold (asked_with q) None bs) e
kept-where-none cls q bs (Some a) e = some-before cls a (fold (asked_with q) (Some a) bs) (stays-within q bs (Some a) a (let le : hold_number a ≤ hold_number a = omega arith in le)) e

-- Open is never asked back
pub kept-where-open : (q : HoldKey) (bs : List Blocker) (m : Option Hold) → is_open q.«class» ≡ true → fold (asked_with q) m bs ≡ m
kept-where-open q [] m never = refl
kept-where-open q (b ∷ bs) m never = ap (λ (o : Option Hold). fold (asked_with q) o bs) (by (is_open b.«class») (same_key (key_of_blocker b) q) refl refl) ∙ kept-where-open q bs m never
  where
    by : (c s : Bool) → is_open b.«class» ≡ c → same_key (key_of_blocker b) q ≡ s → asked_with q m b ≡ m
    by true s e f = rw e refl
    by false true e f = absurd (true≢false (sym never ∙ ap (λ (k : HoldKey). is_open k.«class») (sym (same_key-true (key_of_blocker b) q f)) ∙ e))
    by false false e f = rw (e, f) refl

-- the owner of a blocker is among the owners
none-in : {X : Type 0} (x : X) → Contains [] x → ⊥
none-in x c = let lt = c.1 in absurd (omega arith)

owner-stays : (os : List Owner) (p o : Owner) → Contains os o → Contains (insert_key same_owner os p) o
owner-stays os p o c = by (list_any (same_owner p) os)
  where
    by : (b : Bool) → Contains (if b then os else os ++ p ∷ []) o
    by true = c
    by false = Contains-append_left os (p ∷ []) o c

among : (bs : List Blocker) (os : List Owner) (b : Blocker) → Contains bs b ⊎ Contains os (owner_of b)
    → Contains (fold (λ (os : List Owner) (b : Blocker). insert_key same_owner os (owner_of b)) os bs) (owner_of b)
among [] os b (inl c) = absurd (none-in b c)
among [] os b (inr c) = c
among (d ∷ ds) os b (inr c) = among ds (insert_key same_owner os (owner_of d)) b (inr (owner-stays os (owner_of d) (owner_of b) c))
among (d ∷ ds) os b (inl c) = among ds (insert_key same_owner os (owner_of d)) b (by (Contains-append_cases (d ∷ []) ds b c))
  where
    here : Contains [] b ⊎ (d ≡ b) → Contains (insert_key same_owner os (owner_of d)) (owner_of b)
    here (inl e) = absurd (none-in b e)
    here (inr same) = subst (λ (a : Blocker). Contains (insert_key same_owner os (owner_of d)) (owner_of a)) same (Contains-insert_key same_owner same_owner-true os (owner_of d))

    by : Contains (d ∷ []) b ⊎ Contains ds b → Contains ds b ⊎ Contains (insert_key same_owner os (owner_of d)) (owner_of b)
    by (inl one) = inr (here (Contains-push_cases [] d b one))
    by (inr rest) = inl rest

pub among-owners : (bs : List Blocker) (b : Blocker) → Contains bs b → Contains (owners bs) (owner_of b)
among-owners bs b c = among bs [] b (inl c)
