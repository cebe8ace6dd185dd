use Rattle.std.proofs.Common.{◌≡◌, ◌≤◌, ◌<◌, ◌⊎◌, inl, inr, List, [], ◌∷◌, Bool, true, false, not, ◌&&◌, fold, Option, Some, None, if◌then◌else◌, refl, sym, ap, subst, ◌∙◌, arith, Contains}
use Rattle.std.specs.List.{All, filter_map, cons_option}
use Rattle.std.proofs.lemmas.List.Elements.{All-cons, All-nil, Contains-append_cases, Contains-push_cases}
use Rattle.cal_base.specs.declared.identity.ClientId.{ClientId}
use Rattle.token_kind.specs.Hold.{hold_number, lesser_of}
use Rattle.token_kind.specs.declared.blocker.Blocker.{Blocker}
use Rattle.token_kind.specs.declared.«class».Class.{Class}
use Rattle.token_kind.specs.declared.«class».Class.TheVariants.{Names, Data, Attr}
use Rattle.token_kind.specs.declared.hold.Hold.{Hold}
use Rattle.token_kind.specs.declared.hold.Hold.TheVariants.{None as Nothing, Read, Write}
use Rattle.token_kind.specs.declared.revoke.Revoke.{Revoke}
use Rattle.token_table.specs.Blockers.{is_open}
use Rattle.token_table.specs.Table.{key_of, same_key}
use Rattle.token_table.specs.declared.hold_key.HoldKey.{HoldKey}
use Rattle.token_table.proofs.Keys.{same_key-refl}
use Rattle.revocation.specs.Waiting.{asked_at}
use Rattle.revocation.specs.Revokes.{key_of_blocker, lower_asked, asked_with, item_of, items_of, revoke_with, revoke_of, revokes_of, owners, AsksAll}
use Rattle.revocation.specs.Reasons.{IsOfBlockers, IsAskedWithin, AreAsked}
use Rattle.revocation.specs.declared.owner.Owner.{Owner}
use Rattle.revocation.proofs.Formed.{Found, item_found}

-- what each gathered item has, all have
module _ {X Y : Type 0} (f : X → Option Y) (P : Y → Type 0) (each : (x : X) (y : Y) → f x ≡ Some y → P y) where
  pub all_gathered : (xs : List X) → All P (filter_map f xs)
  all_gathered [] = All-nil P
  all_gathered (x ∷ xs) = by (f x) refl (all_gathered xs)
    where
      by : (r : Option Y) → f x ≡ r → All P (filter_map f xs) → All P (cons_option r (filter_map f xs))
      by None e all = all
      by (Some y) e all = All-cons P y (filter_map f xs) (each x y e) all

module _ (before : HoldKey → Option Hold) (bs : List Blocker) where
  after : HoldKey → Option Hold
  after q = fold (asked_with q) (before q) bs

  item_is : (o : Owner) (cls : Class) (x : Class × Hold) → item_of cls (before (key_of o.client o.ino cls)) (after (key_of o.client o.ino cls)) ≡ Some x
      → Contains bs (record { client = o.client; ino = o.ino; «class» = x.0; asked = x.1 })
  unfolding after
  item_is o cls x e =
      let is = item_found cls (key_of o.client o.ino cls) bs (before (key_of o.client o.ino cls)) x e in
      let f = is.1 in
      let held : Contains bs (record { client = o.client; ino = o.ino; «class» = cls; asked = f.b.asked }) =
      subst (λ (k : HoldKey). Contains bs (record { client = k.client; ino = k.ino; «class» = k.«class»; asked = f.b.asked })) f.key f.member in
      let moded : Contains bs (record { client = o.client; ino = o.ino; «class» = cls; asked = x.1 }) =
      subst (λ (h : Hold). Contains bs (record { client = o.client; ino = o.ino; «class» = cls; asked = h })) f.mode held in
      subst (λ (c : Class). Contains bs (record { client = o.client; ino = o.ino; «class» = c; asked = x.1 })) (sym is.0) moded

  revoke_is : (o : Owner) (s : ClientId × Revoke) → revoke_of before after o ≡ Some s → IsOfBlockers bs s
  revoke_is o s e = by (items_of before after o) (all_gathered (λ cls. item_of cls (before (key_of o.client o.ino cls)) (after (key_of o.client o.ino cls))) _ (item_is o) (Names ∷ Data ∷ Attr ∷ [])) e
    where
      by : (items : List (Class × Hold)) → All (λ (item : Class × Hold). Contains bs (record { client = o.client; ino = o.ino; «class» = item.0; asked = item.1 })) items → revoke_with o items ≡ Some s → IsOfBlockers bs s
      by [] all f = absurd (cc)
      by (x ∷ xs) all f =
          let one : ◌≡◌ {A = ClientId × Revoke} (o.client, record { ino = o.ino; items = x ∷ xs }) s = cc in
          subst (λ (t : ClientId × Revoke). IsOfBlockers bs t) one all

  pub all_are : (os : List Owner) → All (IsOfBlockers bs) (filter_map (revoke_of before (λ q. fold (asked_with q) (before q) bs)) os)
  unfolding after
  all_are os = all_gathered (revoke_of before after) (IsOfBlockers bs) revoke_is os

-- each item of each Revoke stands for a blocker
pub revokes_are_of_blockers : (asked : List (HoldKey × Hold)) (bs : List Blocker) → All (IsOfBlockers bs) (revokes_of asked bs)
revokes_are_of_blockers asked bs = all_are (asked_at asked) bs (owners bs)

lesser_within : (a b : Hold) → hold_number (lesser_of a b) ≤ hold_number a
lesser_within Nothing b = omega arith
lesser_within Read Nothing = omega arith
lesser_within Read Read = omega arith
lesser_within Read Write = omega arith
lesser_within Write Nothing = omega arith
lesser_within Write Read = omega arith
lesser_within Write Write = omega arith

lesser_is_low : (a b : Hold) → hold_number (lesser_of a b) ≤ hold_number b
lesser_is_low Nothing b = omega arith
lesser_is_low Read Nothing = omega arith
lesser_is_low Read Read = omega arith
lesser_is_low Read Write = omega arith
lesser_is_low Write b = omega arith

-- what is asked of the hold of a blocker that is asked now
lower_within : (m : Option Hold) (h : Hold) → IsAskedWithin (Some (lower_asked m h)) h
lower_within None h = omega arith
lower_within (Some a) h = lesser_is_low a h

-- what is asked at or below a mode stays so
still_within : (q : HoldKey) (bs : List Blocker) (m : Option Hold) (h : Hold) → IsAskedWithin m h → IsAskedWithin (fold (asked_with q) m bs) h
still_within q [] m h w = w
still_within q (b ∷ bs) m h w = still_within q bs (asked_with q m b) h (by (not (is_open b.«class») && same_key (key_of_blocker b) q) m w)
  where
    by : (t : Bool) (m : Option Hold) → IsAskedWithin m h → IsAskedWithin (if t then Some (lower_asked m b.asked) else m) h
    by false m v = v
    by true None v = absurd v
    by true (Some a) v = let low : hold_number (lesser_of a b.asked) ≤ hold_number a = lesser_within a b.asked in let w : hold_number a ≤ hold_number h = v in omega (arith, low, w)

pub now_within : (bs : List Blocker) (m : Option Hold) (b : Blocker) → Contains bs b → is_open b.«class» ≡ false → IsAskedWithin (fold (asked_with (key_of_blocker b)) m bs) b.asked
now_within [] m b c closed = absurd (let lt = c.1 in omega arith)
now_within (d ∷ bs) m b c closed = by (Contains-append_cases (d ∷ []) bs b c) (λ rest. now_within bs (asked_with (key_of_blocker b) m d) b rest closed)
  where
    own : IsAskedWithin (asked_with (key_of_blocker b) m b) b.asked
    own = rw (closed, same_key-refl (key_of_blocker b)) (lower_within m b.asked)

    none : Contains [] b → ⊥
    none e = let lt = e.1 in absurd (omega arith)

    first : Contains [] b ⊎ (d ≡ b) → IsAskedWithin (fold (asked_with (key_of_blocker b)) m (d ∷ bs)) b.asked
    first (inl e) = absurd (none e)
    first (inr same) = still_within (key_of_blocker b) bs (asked_with (key_of_blocker b) m d) b.asked (subst (λ (a : Blocker). IsAskedWithin (asked_with (key_of_blocker b) m a) b.asked) (sym same) own)

    by : Contains (d ∷ []) b ⊎ Contains bs b → (Contains bs b → IsAskedWithin (fold (asked_with (key_of_blocker b)) m (d ∷ bs)) b.asked) → IsAskedWithin (fold (asked_with (key_of_blocker b)) m (d ∷ bs)) b.asked
    by (inl one) behind = first (Contains-push_cases [] d b one)
    by (inr rest) behind = behind rest

-- once the blockers are asked, each is asked at or below its mode
pub all_asked : (old new : List (HoldKey × Hold)) (bs : List Blocker) → AsksAll old new bs → AreAsked new bs
all_asked old new bs asks = λ b c closed. subst (λ (m : Option Hold). IsAskedWithin m b.asked) (sym (asks (key_of_blocker b))) (now_within bs (asked_at old (key_of_blocker b)) b c closed)
