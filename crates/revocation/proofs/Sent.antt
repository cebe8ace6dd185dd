use Rattle.std.proofs.Common.{◌≡◌, ◌≤◌, ◌<◌, ◌⊎◌, inl, inr, List, [], ◌∷◌, ◌++◌, Bool, true, false, nat_le, nat_lt, ◌||◌, fold, Option, Some, None, if◌then◌else◌, refl, sym, ap, subst, ◌∙◌, true≢false, arith, rules, Contains}
use Rattle.std.specs.Prelude.{◌↔◌, IsTrue}
use Rattle.std.specs.List.{All, filter_map, cons_option, list_any, list_all}
use Rattle.std.proofs.lemmas.List.Elements.{All-cons, All-nil, All-head, All-tail, All-contains, Contains-get_or, Contains-append_left, Contains-append_right, Contains-append_cases, Contains-push_cases}
use Rattle.indexmap.specs.IndexSet.{insert_key}
use Rattle.indexmap.proofs.CallerLemmas.{Contains-insert_key}
use Rattle.cal_base.specs.declared.identity.ClientId.{ClientId}
use Rattle.token_kind.specs.Hold.{hold_number}
use Rattle.token_kind.specs.declared.blocker.Blocker.{Blocker}
use Rattle.token_kind.specs.declared.«class».Class.{Class}
use Rattle.token_kind.specs.declared.«class».Class.TheVariants.{Names, Data, Attr, Open}
use Rattle.token_kind.specs.declared.hold.Hold.{Hold}
use Rattle.token_kind.specs.declared.hold.Hold.TheVariants.{None as Nothing, Read, Write}
use Rattle.token_kind.specs.declared.revoke.Revoke.{Revoke}
use Rattle.token_table.specs.Blockers.{is_open}
use Rattle.token_table.specs.Table.{key_of}
use Rattle.token_table.specs.declared.hold_key.HoldKey.{HoldKey}
use Rattle.revocation.specs.Waiting.{asked_at}
use Rattle.revocation.specs.Revokes.{same_owner, owner_of, key_of_blocker, is_within, is_asked, asked_with, asked_after, item_of, items_of, revoke_with, revoke_of, revokes_of, owners}
use Rattle.revocation.specs.Order.{sent_to, IsSent, IsToAsk, AreSentWhereNeeded}
use Rattle.revocation.specs.Reasons.{IsAskedWithin}
use Rattle.revocation.specs.declared.owner.Owner.{Owner}
use Rattle.revocation.proofs.Formed.{Found, item_found}
use Rattle.revocation.proofs.Reasons.{now_within, all_gathered}

-- clients and inodes that are the same are equal
pub same_owner-true : (a b : Owner) → same_owner a b ≡ true → a ≡ b
same_owner-true a b h = search rules

none_in : {X : Type 0} (x : X) → Contains [] x → ⊥
none_in x c = let lt = c.1 in absurd (omega arith)

or_first : (a b : Bool) → (a || b) ≡ false → a ≡ false
or_first true b h = h
or_first false b h = refl

or_second : (a b : Bool) → (a || b) ≡ false → b ≡ false
or_second true b h = absurd (true≢false h)
or_second false b h = h

-- where not all pass, one fails
failing : {X : Type 0} (p : X → Bool) (xs : List X) → list_all p xs ≡ false → (x : X) × Contains xs x × (p x ≡ false)
failing p [] h = absurd (true≢false h)
failing p (x ∷ xs) h = by (p x) refl (λ e. failing p xs (sym (rw e refl) ∙ h))
  where
    by : (b : Bool) → p x ≡ b → (p x ≡ true → (y : _) × Contains xs y × (p y ≡ false)) → (y : _) × Contains (x ∷ xs) y × (p y ≡ false)
    by true e rest = let r = rest e in (r.0, Contains-append_right (x ∷ []) xs r.0 r.1, r.2)
    by false e rest = (x, Contains-get_or (x ∷ xs) 0 x (omega arith), e)

-- where all pass, each does
passing : {X : Type 0} (p : X → Bool) (xs : List X) → list_all p xs ≡ true → All (λ x. p x ≡ true) xs
passing p [] h = All-nil (λ x. p x ≡ true)
passing p (x ∷ xs) h = by (p x) refl (λ e. passing p xs (sym (rw e refl) ∙ h)) h
  where
    by : (b : Bool) → p x ≡ b → (p x ≡ true → All (λ y. p y ≡ true) xs) → list_all p (x ∷ xs) ≡ true → All (λ y. p y ≡ true) (x ∷ xs)
    by true e rest h = All-cons (λ y. p y ≡ true) x xs e (rest e)
    by false e rest h = absurd (true≢false (sym h ∙ rw e refl))

module _ {X Y : Type 0} (f : X → Option Y) where
  -- what is gathered of an item is among all that is gathered
  pub gathered_in : (xs : List X) (x : X) (y : Y) → Contains xs x → f x ≡ Some y → Contains (filter_map f xs) y
  gathered_in [] x y c e = absurd (none_in x c)
  gathered_in (z ∷ zs) x y c e = by (Contains-append_cases (z ∷ []) zs x c) (λ rest. gathered_in zs x y rest e)
    where
      behind : (o : Option Y) → Contains (filter_map f zs) y → Contains (cons_option o (filter_map f zs)) y
      behind None d = d
      behind (Some w) d = Contains-append_right (w ∷ []) (filter_map f zs) y d

      here : Contains [] x ⊎ (z ≡ x) → Contains (cons_option (f z) (filter_map f zs)) y
      here (inl d) = absurd (none_in x d)
      here (inr same) = subst (λ (o : Option Y). Contains (cons_option o (filter_map f zs)) y) (sym (ap f same ∙ e)) (Contains-get_or (y ∷ filter_map f zs) 0 y (omega arith))

      by : Contains (z ∷ []) x ⊎ Contains zs x → (Contains zs x → Contains (filter_map f zs) y) → Contains (cons_option (f z) (filter_map f zs)) y
      by (inl one) later = here (Contains-push_cases [] z x one)
      by (inr rest) later = behind (f z) (later rest)

  -- what all items have, all that is gathered of them has
  pub gathered_all : (P : X → Type 0) (Q : Y → Type 0) → ((x : X) (y : Y) → f x ≡ Some y → P x → Q y) → (xs : List X) → All P xs → All Q (filter_map f xs)
  gathered_all P Q step [] all = All-nil Q
  gathered_all P Q step (x ∷ xs) all = by (f x) refl (gathered_all P Q step xs (All-tail P x xs all))
    where
      by : (o : Option Y) → f x ≡ o → All Q (filter_map f xs) → All Q (cons_option o (filter_map f xs))
      by None e rest = rest
      by (Some y) e rest = All-cons Q y (filter_map f xs) (step x y e (All-head P x xs all)) rest

-- a class but Open is one of the three that a Revoke may name
closed_in : (cls : Class) → is_open cls ≡ false → Contains (Names ∷ Data ∷ Attr ∷ []) cls
closed_in Names e = (0, omega arith, refl)
closed_in Data e = (1, omega arith, refl)
closed_in Attr e = (2, omega arith, refl)
closed_in Open e = absurd (true≢false e)

-- the owner of a blocker is among the owners
owner_stays : (os : List Owner) (p o : Owner) → Contains os o → Contains (insert_key same_owner os p) o
owner_stays os p o c = by (list_any (same_owner p) os)
  where
    by : (b : Bool) → Contains (if b then os else os ++ p ∷ []) o
    by true = c
    by false = Contains-append_left os (p ∷ []) o c

in_owners : (bs : List Blocker) (os : List Owner) (b : Blocker) → Contains bs b ⊎ Contains os (owner_of b)
    → Contains (fold (λ (os : List Owner) (b : Blocker). insert_key same_owner os (owner_of b)) os bs) (owner_of b)
in_owners [] os b (inl c) = absurd (none_in b c)
in_owners [] os b (inr c) = c
in_owners (d ∷ ds) os b (inr c) = in_owners ds (insert_key same_owner os (owner_of d)) b (inr (owner_stays os (owner_of d) (owner_of b) c))
in_owners (d ∷ ds) os b (inl c) = in_owners ds (insert_key same_owner os (owner_of d)) b (by (Contains-append_cases (d ∷ []) ds b c))
  where
    here : Contains [] b ⊎ (d ≡ b) → Contains (insert_key same_owner os (owner_of d)) (owner_of b)
    here (inl e) = absurd (none_in b e)
    here (inr same) = subst (λ (a : Blocker). Contains (insert_key same_owner os (owner_of d)) (owner_of a)) same (Contains-insert_key same_owner same_owner-true os (owner_of d))

    by : Contains (d ∷ []) b ⊎ Contains ds b → Contains ds b ⊎ Contains (insert_key same_owner os (owner_of d)) (owner_of b)
    by (inl one) = inr (here (Contains-push_cases [] d b one))
    by (inr rest) = inl rest

-- where a mode is asked that wasn't, there is an item to send
item_new : (cls : Class) (m a : Option Hold) (h : Hold) → is_within m h ≡ false → IsAskedWithin a h → (x : Class × Hold) × (item_of cls m a ≡ Some x)
item_new cls m None h fresh w = absurd w
item_new cls None (Some n) h fresh w = ((cls, n), refl)
item_new cls (Some o) (Some n) h fresh w = by (nat_lt (hold_number n) (hold_number o)) refl
  where
    above : hold_number h < hold_number o
    above = let not_within : nat_le (hold_number o) (hold_number h) ≡ false = fresh in search rules

    low : hold_number n ≤ hold_number h
    low = w

    by : (b : Bool) → nat_lt (hold_number n) (hold_number o) ≡ b → (x : Class × Hold) × ((if b then Some (cls, n) else None) ≡ Some x)
    by true e = ((cls, n), refl)
    by false e = absurd (let ge : hold_number o ≤ hold_number n = search rules in omega (arith, ge, above, low))

-- an item is sent of what wasn't asked at or below its mode
item_low : (cls : Class) (m a : Option Hold) (x : Class × Hold) → item_of cls m a ≡ Some x → is_within m x.1 ≡ false
item_low cls m None x e = absurd (cc)
item_low cls None (Some n) x e = refl
item_low cls (Some o) (Some n) x e = by (nat_lt (hold_number n) (hold_number o)) refl e
  where
    over : nat_lt (hold_number n) (hold_number o) ≡ true → (b : Bool) → nat_le (hold_number o) (hold_number n) ≡ b → b ≡ false
    over g true f = absurd (let lt : hold_number n < hold_number o = search rules in let le : hold_number o ≤ hold_number n = search rules in omega arith)
    over g false f = refl

    by : (b : Bool) → nat_lt (hold_number n) (hold_number o) ≡ b → (if b then Some (cls, n) else None) ≡ Some x → nat_le (hold_number o) (hold_number x.1) ≡ false
    by true g f =
        let one : ◌≡◌ {A = Class × Hold} (cls, n) x = cc in
        subst (λ (y : Class × Hold). nat_le (hold_number o) (hold_number y.1) ≡ false) one (over g (nat_le (hold_number o) (hold_number n)) refl)
    by false g f = absurd (cc)

-- items make a Revoke to the client
sent_some : (o : Owner) (items : List (Class × Hold)) (x : Class × Hold) → Contains items x → (s : ClientId × Revoke) × (revoke_with o items ≡ Some s) × (sent_to s ≡ o)
sent_some o [] x c = absurd (none_in x c)
sent_some o (y ∷ ys) x c = ((o.client, record { ino = o.ino; items = y ∷ ys }), refl, refl)

-- a Revoke goes to the client and is of the inode that it is made for
pub goes_to : (o : Owner) (items : List (Class × Hold)) (s : ClientId × Revoke) → revoke_with o items ≡ Some s → sent_to s ≡ o
goes_to o [] s e = absurd (cc)
goes_to o (y ∷ ys) s e =
    let one : ◌≡◌ {A = ClientId × Revoke} (o.client, record { ino = o.ino; items = y ∷ ys }) s = cc in
    ap sent_to (sym one)

module _ (asked : List (HoldKey × Hold)) (bs : List Blocker) where
  to_sent : (b : Blocker) → Contains bs b → is_asked asked b ≡ false → IsSent (revokes_of asked bs) (owner_of b)
  to_sent b c fresh =
      let q = key_of_blocker b in
      let closed = or_first (is_open b.«class») (is_within (asked_at asked q) b.asked) fresh in
      let x = item_new b.«class» (asked_at asked q) (fold (asked_with q) (asked_at asked q) bs) b.asked (or_second (is_open b.«class») (is_within (asked_at asked q) b.asked) fresh) (now_within bs (asked_at asked q) b c closed) in
      let items = gathered_in (λ cls. item_of cls (asked_at asked (key_of b.client b.ino cls)) (asked_after asked bs (key_of b.client b.ino cls))) (Names ∷ Data ∷ Attr ∷ []) b.«class» x.0 (closed_in b.«class» closed) x.1 in
      let s = sent_some (owner_of b) (items_of (asked_at asked) (asked_after asked bs) (owner_of b)) x.0 items in
      (s.0, gathered_in (revoke_of (asked_at asked) (asked_after asked bs)) (owners bs) (owner_of b) s.0 (in_owners bs [] b (inl c)) s.1, s.2)

  item_asks : (o : Owner) (cls : Class) (x : Class × Hold) → item_of cls (asked_at asked (key_of o.client o.ino cls)) (asked_after asked bs (key_of o.client o.ino cls)) ≡ Some x
      → is_open cls ≡ false → IsToAsk asked bs o
  item_asks o cls x e closed =
      let f = (item_found cls (key_of o.client o.ino cls) bs (asked_at asked (key_of o.client o.ino cls)) x e).1 in
      let low = item_low cls (asked_at asked (key_of o.client o.ino cls)) (asked_after asked bs (key_of o.client o.ino cls)) x e in
      let shut : is_open f.b.«class» ≡ false = ap (λ (k : HoldKey). is_open k.«class») f.key ∙ closed in
      let new : is_within (asked_at asked (key_of_blocker f.b)) f.b.asked ≡ false = (λ j. is_within (asked_at asked (f.key j)) (f.mode j)) ∙ low in
      (f.b, f.member, (λ j. record { client = (f.key j).client; ino = (f.key j).ino }), (λ j. shut j || new j))

  revoke_asks : (o : Owner) (s : ClientId × Revoke) → revoke_of (asked_at asked) (asked_after asked bs) o ≡ Some s → IsToAsk asked bs (sent_to s)
  revoke_asks o s e = subst (IsToAsk asked bs) (sym (goes_to o (items_of (asked_at asked) (asked_after asked bs) o) s e))
      (by (items_of (asked_at asked) (asked_after asked bs) o) e
      (gathered_all (λ cls. item_of cls (asked_at asked (key_of o.client o.ino cls)) (asked_after asked bs (key_of o.client o.ino cls)))
      (λ cls. is_open cls ≡ false) (λ x. IsToAsk asked bs o) (item_asks o) (Names ∷ Data ∷ Attr ∷ []) closed))
    where
      closed : All (λ cls. is_open cls ≡ false) (Names ∷ Data ∷ Attr ∷ [])
      closed = All-cons (λ cls. is_open cls ≡ false) Names (Data ∷ Attr ∷ []) refl (All-cons (λ cls. is_open cls ≡ false) Data (Attr ∷ []) refl (All-cons (λ cls. is_open cls ≡ false) Attr [] refl (All-nil (λ cls. is_open cls ≡ false))))

      by : (items : List (Class × Hold)) → revoke_with o items ≡ Some s → All (λ x. IsToAsk asked bs o) items → IsToAsk asked bs o
      by [] f all = absurd (cc)
      by (x ∷ xs) f all = All-head (λ y. IsToAsk asked bs o) x xs all

  all_ask : All (λ s. IsToAsk asked bs (sent_to s)) (revokes_of asked bs)
  all_ask = all_gathered (revoke_of (asked_at asked) (asked_after asked bs)) (λ s. IsToAsk asked bs (sent_to s)) revoke_asks (owners bs)

  -- a Revoke goes to a client of an inode exactly where one of its holds on it is to be asked
  pub sent_where_needed : AreSentWhereNeeded asked bs (revokes_of asked bs)
  sent_where_needed o = (
    λ sent. subst (IsToAsk asked bs) sent.2 (All-contains (λ s. IsToAsk asked bs (sent_to s)) (revokes_of asked bs) sent.0 all_ask sent.1),
    λ a. subst (IsSent (revokes_of asked bs)) a.2 (to_sent a.0 a.1 a.3),
  )

  -- nothing is sent exactly where all is asked
  pub nothing_sent : IsTrue (list_all (is_asked asked) bs) ↔ (revokes_of asked bs ≡ [])
  nothing_sent = (λ all. quiet (revokes_of asked bs) refl (list_all (is_asked asked) bs) refl all, λ none. still none (list_all (is_asked asked) bs) refl)
    where
      quiet : (sent : List (ClientId × Revoke)) → revokes_of asked bs ≡ sent → (b : Bool) → list_all (is_asked asked) bs ≡ b → IsTrue b → revokes_of asked bs ≡ []
      quiet [] e b p t = e
      quiet (s ∷ ss) e false p t = absurd (true≢false (sym t))
      quiet (s ∷ ss) e true p t =
          let a = (All-head (λ s. IsToAsk asked bs (sent_to s)) s ss (subst (All (λ s. IsToAsk asked bs (sent_to s))) e all_ask)) in
          absurd (true≢false (sym (All-contains (λ b. is_asked asked b ≡ true) bs a.0 (passing (is_asked asked) bs p) a.1) ∙ a.3))

      still : revokes_of asked bs ≡ [] → (b : Bool) → list_all (is_asked asked) bs ≡ b → IsTrue b
      still none true p = refl
      still none false p =
          let f = failing (is_asked asked) bs p in
          let s = to_sent f.0 f.1 f.2 in
          absurd (none_in s.0 (subst (λ l. Contains l s.0) none s.1))
