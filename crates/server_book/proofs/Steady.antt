-- What blocks a request stays as it is while the Revokes for it are told.
use Rattle.std.proofs.Common.{◌≡◌, List, [], ◌∷◌, ◌++◌, ◌&&◌, Bool, true, false, not, Option, Some, None, fold, if◌then◌else◌, refl, sym, ap, subst, ◌∙◌, true≢false}
use Rattle.std.specs.List.{All, filter_map}
use Rattle.std.proofs.lemmas.List.Elements.{All-head, All-tail}
use Rattle.std.proofs.lemmas.List.Sums.{fold-append}
use Rattle.cal_base.specs.declared.identity.ClientId.{ClientId}
use Rattle.revocation.specs.Revokes.{asked_after, asked_with, key_of_blocker, lower_asked}
use Rattle.revocation.specs.Waiting.{asked_at, own_blocker, own_blockers}
use Rattle.revocation.proofs.Reasons.{all_gathered}
use Rattle.token_kind.specs.Hold.{conflict}
use Rattle.token_kind.specs.declared.blocker.Blocker.{Blocker}
use Rattle.token_kind.specs.declared.hold.Hold.{Hold}
use Rattle.token_kind.specs.declared.token.Token.{Token}
use Rattle.token_table.specs.Blockers.{asked_for, blocker_of, blockers_of, clients_below, is_open}
use Rattle.token_table.specs.Table.{Table, held_of, key_of, same_client, same_key}
use Rattle.token_table.specs.declared.hold_key.HoldKey.{HoldKey}
use Rattle.token_table.proofs.Keys.{same_client-refl, same_key-true}
use Rattle.server_book.proofs.Lowering.{lesser-same}

-- blockers that change nothing one by one change nothing
fold-still : (q : HoldKey) (m : Option Hold) (bs : List Blocker) → All (λ (b : Blocker). asked_with q m b ≡ m) bs → fold (asked_with q) m bs ≡ m
fold-still q m [] all = refl
fold-still q m (b ∷ bs) all = ap (λ (o : Option Hold). fold (asked_with q) o bs) (All-head (λ (b : Blocker). asked_with q m b ≡ m) b bs all) ∙ fold-still q m bs (All-tail (λ (b : Blocker). asked_with q m b ≡ m) b bs all)

-- what a blocker asks of another hold than its own
pub elsewhere : (q : HoldKey) (m : Option Hold) (b : Blocker) → same_key (key_of_blocker b) q ≡ false → asked_with q m b ≡ m
elsewhere q m b e = by (is_open b.«class»)
  where
    by : (o : Bool) → (if not o && same_key (key_of_blocker b) q then Some (lower_asked m b.asked) else m) ≡ m
    by true = refl
    by false = rw e refl

-- holds of others
foreign-one : (t : Table) (c : ClientId) (need : Token) (q : HoldKey) (m : Option Hold) (d : ClientId) (b : Blocker) → q.client ≡ c → blocker_of t c need d ≡ Some b → asked_with q m b ≡ m
foreign-one t c need q m d b own e = by (same_client c d) (conflict need.hold (held_of t d need.ino need.«class»)) refl e
  where
    by : (s k : Bool) → same_client c d ≡ s → (if not s && k then Some (record { client = d; ino = need.ino; «class» = need.«class»; asked = asked_for need.hold }) else None) ≡ Some b → asked_with q m b ≡ m
    by true k f g = absurd (cc)
    by false false f g = absurd (cc)
    by false true f g =
        let one : ◌≡◌ {A = Blocker} (record { client = d; ino = need.ino; «class» = need.«class»; asked = asked_for need.hold }) b = cc in
        let of : d ≡ b.client = ap (λ (x : Blocker). x.client) one in
        elsewhere q m b (apart of (same_key (key_of_blocker b) q) refl)
      where
        apart : d ≡ b.client → (s : Bool) → same_key (key_of_blocker b) q ≡ s → s ≡ false
        apart of false h = refl
        apart of true h =
            let same : c ≡ d = sym own ∙ ap (λ (k : HoldKey). k.client) (sym (same_key-true (key_of_blocker b) q h)) ∙ sym of in
            absurd (true≢false (sym (same_client-refl c) ∙ ap (same_client c) same ∙ f))

foreign : (t : Table) (c : ClientId) (needs : List Token) (q : HoldKey) (m : Option Hold) → q.client ≡ c → fold (asked_with q) m (blockers_of t c needs) ≡ m
foreign t c [] q m own = refl
foreign t c (need ∷ needs) q m own =
    fold-append (asked_with q) m (filter_map (blocker_of t c need) (clients_below 16)) (blockers_of t c needs)
    ∙ ap (λ (o : Option Hold). fold (asked_with q) o (blockers_of t c needs)) (fold-still q m (filter_map (blocker_of t c need) (clients_below 16))
    (all_gathered (blocker_of t c need) (λ (b : Blocker). asked_with q m b ≡ m) (λ d b e. foreign-one t c need q m d b own e) (clients_below 16)))
    ∙ foreign t c needs q m own

-- the caller's own holds, which were asked as low
own-one : (asked : List (HoldKey × Hold)) (c : ClientId) (need : Token) (q : HoldKey) (b : Blocker) → own_blocker c need (asked_at asked (key_of c need.ino need.«class»)) ≡ Some b → asked_with q (asked_at asked q) b ≡ asked_at asked q
own-one asked c need q b e = by (asked_at asked (key_of c need.ino need.«class»)) refl e
  where
    by : (o : Option Hold) → asked_at asked (key_of c need.ino need.«class») ≡ o → own_blocker c need o ≡ Some b → asked_with q (asked_at asked q) b ≡ asked_at asked q
    by None f g = absurd (cc)
    by (Some mode) f g =
        let one : ◌≡◌ {A = Blocker} (record { client = c; ino = need.ino; «class» = need.«class»; asked = mode }) b = cc in
        subst (λ (x : Blocker). asked_with q (asked_at asked q) x ≡ asked_at asked q) one (here (is_open need.«class») (same_key (key_of c need.ino need.«class») q) refl)
      where
        here : (p s : Bool) → same_key (key_of c need.ino need.«class») q ≡ s → (if not p && s then Some (lower_asked (asked_at asked q) mode) else asked_at asked q) ≡ asked_at asked q
        here true s h = refl
        here false false h = refl
        here false true h =
            let is : asked_at asked q ≡ Some mode = ap (asked_at asked) (sym (same_key-true (key_of c need.ino need.«class») q h)) ∙ f in
            ap (λ (o : Option Hold). Some (lower_asked o mode)) is ∙ ap (λ (m : Hold). Some m) (lesser-same mode) ∙ sym is

own-still : (asked : List (HoldKey × Hold)) (c : ClientId) (needs : List Token) (q : HoldKey) → fold (asked_with q) (asked_at asked q) (own_blockers asked c needs) ≡ asked_at asked q
own-still asked c needs q =
    fold-still q (asked_at asked q) (own_blockers asked c needs)
    (all_gathered (λ (need : Token). own_blocker c need (asked_at asked (key_of c need.ino need.«class»))) (λ (b : Blocker). asked_with q (asked_at asked q) b ≡ asked_at asked q) (λ need b e. own-one asked c need q b e) needs)

-- of a caller's own holds nothing is asked anew by what blocks its request
pub nothing-own : (t : Table) (asked : List (HoldKey × Hold)) (c : ClientId) (lacks needs : List Token) (q : HoldKey) → q.client ≡ c
    → asked_after asked (blockers_of t c lacks ++ own_blockers asked c needs) q ≡ asked_at asked q
nothing-own t asked c lacks needs q own =
    fold-append (asked_with q) (asked_at asked q) (blockers_of t c lacks) (own_blockers asked c needs)
    ∙ ap (λ (o : Option Hold). fold (asked_with q) o (own_blockers asked c needs)) (foreign t c lacks q (asked_at asked q) own)
    ∙ own-still asked c needs q
