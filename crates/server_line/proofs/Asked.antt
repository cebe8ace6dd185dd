-- What is asked of a hold goes down alone, and asking again what is asked sends nothing.
use Rattle.std.proofs.Common.{◌≡◌, ◌&&◌, ◌||◌, ◌⊎◌, inl, inr, List, [], ◌∷◌, ◌++◌, Bool, true, false, not, nat_le, Option, Some, None, fold, if◌then◌else◌, refl, sym, ap, subst, ◌∙◌, true≢false, arith, rules}
use Rattle.std.specs.List.{Contains, cons_option, filter_map, list_all, list_any}
use Rattle.std.proofs.lemmas.List.{append-nil, append_assoc}
use Rattle.std.proofs.lemmas.List.Elements.{Contains-append_left, Contains-append_cases, Contains-append_right, Contains-push, Contains-push_cases, filter_map-append}
use Rattle.std.proofs.lemmas.List.Sums.{fold-append}
use Rattle.indexmap.specs.IndexSet.{insert_key}
use Rattle.cal_base.specs.declared.identity.ClientId.{ClientId}
use Rattle.revocation.specs.Revokes.{AsksAll, asked_after, asked_with, is_asked, is_within, item_of, key_of_blocker, lower_asked, owner_of, owners, revoke_of, revoke_with, revokes_of, same_owner}
use Rattle.revocation.specs.Waiting.{asked_at, own_blocker, own_blockers}
use Rattle.revocation.specs.declared.owner.Owner.{Owner}
use Rattle.revocation.proofs.Sent.{nothing_sent}
use Rattle.token_kind.specs.Hold.{hold_number, lesser_of}
use Rattle.token_kind.specs.declared.blocker.Blocker.{Blocker}
use Rattle.token_kind.specs.declared.«class».Class.{Class}
use Rattle.token_kind.specs.declared.«class».Class.TheVariants.{Names, Data, Attr}
use Rattle.token_kind.specs.declared.hold.Hold.{Hold}
use Rattle.token_kind.specs.declared.hold.Hold.TheVariants.{None as Nothing, Read, Write}
use Rattle.token_kind.specs.declared.revoke.Revoke.{Revoke}
use Rattle.token_kind.specs.declared.token.Token.{Token}
use Rattle.token_table.specs.Blockers.{is_open}
use Rattle.token_table.specs.Table.{key_of, same_key}
use Rattle.token_table.specs.declared.hold_key.HoldKey.{HoldKey}
use Rattle.token_table.proofs.Keys.{same_key-true}
use Rattle.server_book.proofs.Lowering.{among-owners}
use Rattle.server_book.proofs.Steady.{elsewhere}

lowest : (h : Hold) → nat_le 0 (hold_number h) ≡ true
lowest Nothing = refl
lowest Read = refl
lowest Write = refl

-- of two holds the lesser is as low as either that isn't above
low-stays : (a b h : Hold) → nat_le (hold_number a) (hold_number h) ≡ true → nat_le (hold_number (lesser_of a b)) (hold_number h) ≡ true
low-stays Nothing b h e = lowest h
low-stays Read Nothing h e = lowest h
low-stays Read Read h e = e
low-stays Read Write h e = e
low-stays Write Nothing h e = lowest h
low-stays Write Read Nothing e = absurd (true≢false (sym e))
low-stays Write Read Read e = refl
low-stays Write Read Write e = refl
low-stays Write Write h e = e

lesser-high : (a h : Hold) → nat_le (hold_number a) (hold_number h) ≡ true → lesser_of a h ≡ a
lesser-high Nothing h e = refl
lesser-high Read Nothing e = absurd (true≢false (sym e))
lesser-high Read Read e = refl
lesser-high Read Write e = refl
lesser-high Write Nothing e = absurd (true≢false (sym e))
lesser-high Write Read e = absurd (true≢false (sym e))
lesser-high Write Write e = refl

within-lower : (m : Option Hold) (b h : Hold) → is_within m h ≡ true → is_within (Some (lower_asked m b)) h ≡ true
within-lower None b h e = absurd (true≢false (sym e))
within-lower (Some a) b h e = low-stays a b h e

-- what is asked at or below a mode stays so
within-stays : (q : HoldKey) (bs : List Blocker) (m : Option Hold) (h : Hold) → is_within m h ≡ true → is_within (fold (asked_with q) m bs) h ≡ true
within-stays q [] m h e = e
within-stays q (b ∷ bs) m h e = within-stays q bs (asked_with q m b) h (by (not (is_open b.«class») && same_key (key_of_blocker b) q))
  where
    by : (t : Bool) → is_within (if t then Some (lower_asked m b.asked) else m) h ≡ true
    by true = within-lower m b.asked h e
    by false = e

-- what was asked already is so once more is asked
asked-stays : (old new : List (HoldKey × Hold)) (bs : List Blocker) → AsksAll old new bs → (b : Blocker) → is_asked old b ≡ true → is_asked new b ≡ true
asked-stays old new bs all b e = by (is_open b.«class») e
  where
    by : (o : Bool) → (o || is_within (asked_at old (key_of_blocker b)) b.asked) ≡ true → (o || is_within (asked_at new (key_of_blocker b)) b.asked) ≡ true
    by true f = refl
    by false f = ap (λ (m : Option Hold). is_within m b.asked) (all (key_of_blocker b)) ∙ within-stays (key_of_blocker b) bs (asked_at old (key_of_blocker b)) b.asked f

all-stay : (old new : List (HoldKey × Hold)) → ((b : Blocker) → is_asked old b ≡ true → is_asked new b ≡ true) → (bs : List Blocker) → list_all (is_asked old) bs ≡ true → list_all (is_asked new) bs ≡ true
all-stay old new one [] e = refl
all-stay old new one (b ∷ bs) e = by (is_asked old b) refl e (all-stay old new one bs)
  where
    by : (o : Bool) → is_asked old b ≡ o → (o && list_all (is_asked old) bs) ≡ true → (list_all (is_asked old) bs ≡ true → list_all (is_asked new) bs ≡ true) → (is_asked new b && list_all (is_asked new) bs) ≡ true
    by true f g rest = (λ i. one b f i && rest g i)
    by false f g rest = absurd (true≢false (sym g))

-- where no Revoke is left to send for some blockers, none is once more is asked
pub none-left : (old new : List (HoldKey × Hold)) (asks : List Blocker) → AsksAll old new asks → (bs : List Blocker) → revokes_of old bs ≡ [] → revokes_of new bs ≡ []
none-left old new asks all bs none =
    (nothing_sent new bs).0 (all-stay old new (asked-stays old new asks all) bs ((nothing_sent old bs).1 none))

-- nor where the same is asked
pub none-left-same : (old new : List (HoldKey × Hold)) → ((q : HoldKey) → asked_at new q ≡ asked_at old q) → (bs : List Blocker) → revokes_of old bs ≡ [] → revokes_of new bs ≡ []
none-left-same old new same bs none = none-left old new [] same bs none

-- the Revokes for some blockers are those by what is asked at each key
pub revokes-same : (old new : List (HoldKey × Hold)) → ((q : HoldKey) → asked_at new q ≡ asked_at old q) → (bs : List Blocker) → revokes_of new bs ≡ revokes_of old bs
revokes-same old new same bs = λ i. filter_map (revoke_of (λ q. same q i) (λ q. fold (asked_with q) (same q i) bs)) (owners bs)

-- a blocker that is asked already asks nothing more
asks-no-more : (asked : List (HoldKey × Hold)) (bs : List Blocker) (b : Blocker) → is_asked asked b ≡ true → (q : HoldKey) → asked_after asked (bs ++ b ∷ []) q ≡ asked_after asked bs q
asks-no-more asked bs b e q = fold-append (asked_with q) (asked_at asked q) bs (b ∷ []) ∙ by (is_open b.«class») (same_key (key_of_blocker b) q) refl e
  where
    low : (m : Option Hold) → is_within m b.asked ≡ true → ◌≡◌ {A = Option Hold} (Some (lower_asked m b.asked)) m
    low None w = absurd (true≢false (sym w))
    low (Some a) w = ap (λ (h : Hold). Some h) (lesser-high a b.asked w)

    by : (o s : Bool) → same_key (key_of_blocker b) q ≡ s → (o || is_within (asked_at asked (key_of_blocker b)) b.asked) ≡ true
        → (if not o && s then Some (lower_asked (asked_after asked bs q) b.asked) else asked_after asked bs q) ≡ asked_after asked bs q
    by true s f g = refl
    by false false f g = refl
    by false true f g =
        low (asked_after asked bs q)
        (within-stays q bs (asked_at asked q) b.asked (ap (λ (k : HoldKey). is_within (asked_at asked k) b.asked) (sym (same_key-true (key_of_blocker b) q f)) ∙ g))

same-owner-refl : (o : Owner) → same_owner o o ≡ true
same-owner-refl o = search rules

no-item : (cls : Class) (n : Option Hold) → item_of cls n n ≡ None
no-item cls None = refl
no-item cls (Some Nothing) = refl
no-item cls (Some Read) = refl
no-item cls (Some Write) = refl

none-in : {X : Type 0} (x : X) → Contains [] x → ⊥
none-in x c = let lt = c.1 in absurd (omega arith)

any-of : (o : Owner) (os : List Owner) → Contains os o → list_any (same_owner o) os ≡ true
any-of o [] c = absurd (none-in o c)
any-of o (p ∷ os) c = by (same_owner o p) refl (Contains-append_cases (p ∷ []) os o c) (any-of o os)
  where
    here : same_owner o p ≡ false → Contains [] o ⊎ (p ≡ o) → ⊥
    here e (inl d) = none-in o d
    here e (inr same) = true≢false (sym (same-owner-refl o) ∙ ap (same_owner o) (sym same) ∙ e)

    by : (b : Bool) → same_owner o p ≡ b → Contains (p ∷ []) o ⊎ Contains os o → (Contains os o → list_any (same_owner o) os ≡ true) → (b || list_any (same_owner o) os) ≡ true
    by true e c later = refl
    by false e (inl one) later = absurd (here e (Contains-push_cases [] p o one))
    by false e (inr rest) later = later rest

-- of an owner that is none of the blockers' nothing is asked
apart : (q : HoldKey) (bs : List Blocker) (m : Option Hold) → ((b : Blocker) → Contains bs b → owner_of b ≡ record { client = q.client; ino = q.ino } → ⊥) → fold (asked_with q) m bs ≡ m
apart q [] m other = refl
apart q (b ∷ bs) m other =
    ap (λ (n : Option Hold). fold (asked_with q) n bs) (elsewhere q m b (by (same_key (key_of_blocker b) q) refl))
    ∙ apart q bs m (λ d c. other d (Contains-append_right (b ∷ []) bs d c))
  where
    by : (s : Bool) → same_key (key_of_blocker b) q ≡ s → s ≡ false
    by false e = refl
    by true e =
        absurd (other b (Contains-append_left (b ∷ []) bs b (Contains-push [] b))
        (ap (λ (k : HoldKey). record { client = k.client; ino = k.ino }) (same_key-true (key_of_blocker b) q e)))

-- Revokes for blockers with one more behind that is asked already
sends-no-more : (asked : List (HoldKey × Hold)) (bs : List Blocker) (b : Blocker) → is_asked asked b ≡ true → revokes_of asked (bs ++ b ∷ []) ≡ revokes_of asked bs
sends-no-more asked bs b e =
    (λ i. filter_map (revoke_of (asked_at asked) (λ q. asks-no-more asked bs b e q i)) (owners (bs ++ b ∷ [])))
    ∙ ap (filter_map sent) (fold-append (λ (os : List Owner) (b : Blocker). insert_key same_owner os (owner_of b)) [] bs (b ∷ []))
    ∙ by (list_any (same_owner (owner_of b)) (owners bs)) refl
  where
    sent : Owner → Option (ClientId × Revoke)
    sent = revoke_of (asked_at asked) (asked_after asked bs)

    o : Owner
    o = owner_of b

    by : (t : Bool) → list_any (same_owner (owner_of b)) (owners bs) ≡ t → filter_map sent (if t then owners bs else owners bs ++ owner_of b ∷ []) ≡ filter_map sent (owners bs)
    by true f = refl
    by false f =
        filter_map-append sent (owners bs) (o ∷ [])
        ∙ ap (λ (x : Option (ClientId × Revoke)). filter_map sent (owners bs) ++ cons_option x []) none
        ∙ append-nil (filter_map sent (owners bs))
      where
        still : (cls : Class) → asked_after asked bs (key_of o.client o.ino cls) ≡ asked_at asked (key_of o.client o.ino cls)
        still cls =
            apart (key_of o.client o.ino cls) bs (asked_at asked (key_of o.client o.ino cls))
            (λ d c same. true≢false (sym (any-of o (owners bs) (subst (λ (p : Owner). Contains (owners bs) p) same (among-owners bs d c))) ∙ f))

        none-at : (cls : Class) → item_of cls (asked_at asked (key_of o.client o.ino cls)) (asked_after asked bs (key_of o.client o.ino cls)) ≡ None
        none-at cls = ap (item_of cls (asked_at asked (key_of o.client o.ino cls))) (still cls) ∙ no-item cls (asked_at asked (key_of o.client o.ino cls))

        none : sent o ≡ None
        none = λ i. revoke_with o (cons_option (none-at Names i) (cons_option (none-at Data i) (cons_option (none-at Attr i) [])))

-- a caller's own holds are asked already
pub own-asked : (asked : List (HoldKey × Hold)) (bs : List Blocker) (c : ClientId) (needs : List Token) → revokes_of asked (bs ++ own_blockers asked c needs) ≡ revokes_of asked bs
own-asked asked bs c [] = ap (revokes_of asked) (append-nil bs)
own-asked asked bs c (need ∷ needs) = by (asked_at asked (key_of c need.ino need.«class»)) refl (λ more. own-asked asked more c needs)
  where
    self : (mode : Hold) → nat_le (hold_number mode) (hold_number mode) ≡ true
    self Nothing = refl
    self Read = refl
    self Write = refl

    is : (mode : Hold) → asked_at asked (key_of c need.ino need.«class») ≡ Some mode → is_asked asked (record { client = c; ino = need.ino; «class» = need.«class»; asked = mode }) ≡ true
    is mode e = by (is_open need.«class»)
      where
        by : (t : Bool) → (t || is_within (asked_at asked (key_of c need.ino need.«class»)) mode) ≡ true
        by true = refl
        by false = ap (λ (m : Option Hold). is_within m mode) e ∙ self mode

    by : (m : Option Hold) → asked_at asked (key_of c need.ino need.«class») ≡ m → ((more : List Blocker) → revokes_of asked (more ++ own_blockers asked c needs) ≡ revokes_of asked more)
        → revokes_of asked (bs ++ cons_option (own_blocker c need m) (own_blockers asked c needs)) ≡ revokes_of asked bs
    by None e rest = rest bs
    by (Some mode) e rest =
        let b : Blocker = record { client = c; ino = need.ino; «class» = need.«class»; asked = mode } in
        ap (revokes_of asked) (sym (append_assoc bs (b ∷ []) (own_blockers asked c needs)))
        ∙ rest (bs ++ b ∷ [])
        ∙ sends-no-more asked bs b (is mode e)
