use Rattle.std.proofs.Common.{◌≡◌, ◌≢◌, ◌≤◌, ◌<◌, ℕ, ◌⊎◌, inl, inr, List, [], ◌∷◌, Bool, true, false, nat_lt, fold, Option, Some, None, if◌then◌else◌, refl, sym, ap, subst, ◌∙◌, true≢false, arith, rules, Contains}
use Rattle.std.specs.List.{All, filter_map, cons_option}
use Rattle.std.proofs.lemmas.List.Elements.{All-cons, Contains-get_or, Contains-append_right}
use Rattle.cal_base.specs.declared.identity.ClientId.{ClientId}
use Rattle.token_kind.specs.Class.{class_number}
use Rattle.token_kind.specs.Hold.{hold_number}
use Rattle.token_kind.specs.declared.blocker.Blocker.{Blocker}
use Rattle.token_kind.specs.declared.«class».Class.{Class}
use Rattle.token_kind.specs.declared.«class».Class.TheVariants.{Names, Data, Attr, Open}
use Rattle.token_kind.specs.declared.hold.Hold.{Hold}
use Rattle.token_kind.specs.declared.hold.Hold.TheVariants.{None as Nothing, Read, Write}
use Rattle.token_kind.specs.declared.revoke.Revoke.{Revoke}
use Rattle.token_kind.specs.Kept.{IsRevoke, most_left}
use Rattle.token_table.specs.Blockers.{is_open}
use Rattle.token_table.specs.Table.{key_of, same_key}
use Rattle.token_table.specs.declared.hold_key.HoldKey.{HoldKey}
use Rattle.token_table.proofs.Keys.{same_key-true}
use Rattle.revocation.specs.Formed.{is_of_directory, AreAskable}
use Rattle.revocation.specs.Revokes.{key_of_blocker, lower_asked, asked_with, item_of, revoke_with, revoke_of}
use Rattle.revocation.specs.declared.owner.Owner.{Owner}

-- the lower of what is asked and a further mode is one of the two
lower_is : (m : Option Hold) (h : Hold) → (Some (lower_asked m h) ≡ m) ⊎ (lower_asked m h ≡ h)
lower_is None h = inr refl
lower_is (Some Nothing) h = inl refl
lower_is (Some Read) Nothing = inr refl
lower_is (Some Read) Read = inl refl
lower_is (Some Read) Write = inl refl
lower_is (Some Write) h = inr refl

-- a blocker that is this hold, and is asked to this mode
pub record Found (q : HoldKey) (bs : List Blocker) (h : Hold) : Type 0 where
  pub b : Blocker
  pub member : Contains bs b
  pub key : key_of_blocker b ≡ q
  pub mode : b.asked ≡ h

-- what is asked of a hold is what was asked, or was asked for one of the blockers
found : (q : HoldKey) (bs : List Blocker) (m : Option Hold) → (fold (asked_with q) m bs ≡ m) ⊎ ((h : Hold) × (fold (asked_with q) m bs ≡ Some h) × Found q bs h)
found q [] m = inl refl
found q (b ∷ bs) m = by (is_open b.«class») (same_key (key_of_blocker b) q) refl refl (found q bs (asked_with q m b))
  where
    by : (o s : Bool) → is_open b.«class» ≡ o → same_key (key_of_blocker b) q ≡ s
        → (fold (asked_with q) (asked_with q m b) bs ≡ asked_with q m b) ⊎ ((h : Hold) × (fold (asked_with q) (asked_with q m b) bs ≡ Some h) × Found q bs h)
        → (fold (asked_with q) m (b ∷ bs) ≡ m) ⊎ ((h : Hold) × (fold (asked_with q) m (b ∷ bs) ≡ Some h) × Found q (b ∷ bs) h)
    by o s e g (inr f) = inr (f.0, f.1, record { b = f.2.b; member = Contains-append_right (b ∷ []) bs f.2.b f.2.member; key = f.2.key; mode = f.2.mode })
    by true s e g (inl r) = inl (r ∙ rw e refl)
    by false false e g (inl r) = inl (r ∙ rw (e, g) refl)
    by false true e g (inl r) = chosen (lower_is m b.asked)
      where
        asked : fold (asked_with q) (asked_with q m b) bs ≡ Some (lower_asked m b.asked)
        asked = r ∙ rw (e, g) refl

        chosen : (Some (lower_asked m b.asked) ≡ m) ⊎ (lower_asked m b.asked ≡ b.asked) → (fold (asked_with q) m (b ∷ bs) ≡ m) ⊎ ((h : Hold) × (fold (asked_with q) m (b ∷ bs) ≡ Some h) × Found q (b ∷ bs) h)
        chosen (inl before) = inl (asked ∙ before)
        chosen (inr own) = inr (b.asked, asked ∙ ap (λ (h : Hold). Some h) own, record { b = b; member = Contains-get_or (b ∷ bs) 0 b (omega arith); key = same_key-true (key_of_blocker b) q g; mode = refl })

not_below : (n : ℕ) → nat_lt n n ≡ false
not_below n = by (nat_lt n n) refl
  where
    by : (b : Bool) → nat_lt n n ≡ b → b ≡ false
    by true e = absurd (let lt : n < n = search rules in omega arith)
    by false e = refl

-- an item that is asked is of its class, and is asked for one of the blockers
pub item_found : (cls : Class) (q : HoldKey) (bs : List Blocker) (m : Option Hold) (x : Class × Hold) → item_of cls m (fold (asked_with q) m bs) ≡ Some x → (x.0 ≡ cls) × Found q bs x.1
item_found cls q bs m x e = by (found q bs m)
  where
    unchanged : (m : Option Hold) → item_of cls m m ≡ Some x → (x.0 ≡ cls) × Found q bs x.1
    unchanged None e = absurd (cc)
    unchanged (Some a) e =
        let none : item_of cls (Some a) (Some a) ≡ None = ap (λ (b : Bool). if b then Some (cls, a) else None) (not_below (hold_number a)) in
        let no : ◌≡◌ {A = Option (Class × Hold)} None (Some x) = sym none ∙ e in absurd (cc)

    here : (h : Hold) → Found q bs h → ◌≡◌ {A = Option (Class × Hold)} (Some (cls, h)) (Some x) → (x.0 ≡ cls) × Found q bs x.1
    here h f e = let one : ◌≡◌ {A = Class × Hold} (cls, h) x = cc in (ap (λ (y : Class × Hold). y.0) (sym one), subst (λ (y : Class × Hold). Found q bs y.1) one f)

    chosen : (h : Hold) (b : Bool) → Found q bs h → (if b then Some (cls, h) else None) ≡ Some x → (x.0 ≡ cls) × Found q bs x.1
    chosen h true f e = here h f e
    chosen h false f e = absurd (cc)

    changed : (m : Option Hold) (h : Hold) → Found q bs h → item_of cls m (Some h) ≡ Some x → (x.0 ≡ cls) × Found q bs x.1
    changed None h f e = here h f e
    changed (Some a) h f e = chosen h (nat_lt (hold_number h) (hold_number a)) f e

    by : (fold (asked_with q) m bs ≡ m) ⊎ ((h : Hold) × (fold (asked_with q) m bs ≡ Some h) × Found q bs h) → (x.0 ≡ cls) × Found q bs x.1
    by (inl r) = unchanged m (ap (item_of cls m) (sym r) ∙ e)
    by (inr f) = changed m f.0 f.2 (ap (item_of cls m) (sym f.1) ∙ e)

not_open : (of : Class) → is_open of ≡ false → of ≢ Open
not_open of closed e = true≢false (sym (ap is_open e) ∙ closed)

-- a Revoke of one class
revoke_of_one : (r : Revoke) (x : Class × Hold) → r.items ≡ x ∷ [] → 0 < class_number x.0 → is_open x.0 ≡ false → hold_number x.1 ≤ most_left x.0 → IsRevoke r
revoke_of_one r x e above closed low = record {
  some = rw e (omega arith);
  few = rw e (omega arith);
  rising = rw e (let lt : nat_lt 0 (class_number x.0) ≡ true = search rules in rw lt (search rules));
  closed = rw e (All-cons (λ (item : Class × Hold). item.0 ≢ Open) x [] (not_open x.0 closed) (λ k d lt. absurd (omega arith)));
  modes = rw e (All-cons (λ (item : Class × Hold). hold_number item.1 ≤ most_left item.0) x [] low (λ k d lt. absurd (omega arith)));
}

-- a Revoke of Data and Attr
revoke_of_two : (r : Revoke) (x y : Class × Hold) → r.items ≡ x ∷ y ∷ [] → x.0 ≡ Data → y.0 ≡ Attr → hold_number x.1 ≤ 1 → hold_number y.1 ≤ 1 → IsRevoke r
revoke_of_two r x y e p s a b = record {
  some = rw e (omega arith);
  few = rw e (omega arith);
  rising = rw e (rw (p, s) (search rules));
  closed = rw e (All-cons (λ (item : Class × Hold). item.0 ≢ Open) x (y ∷ []) (not_open x.0 (ap is_open p)) (All-cons (λ (item : Class × Hold). item.0 ≢ Open) y [] (not_open y.0 (ap is_open s)) (λ k d lt. absurd (omega arith))));
  modes = rw e (All-cons (λ (item : Class × Hold). hold_number item.1 ≤ most_left item.0) x (y ∷ []) (rw p a) (All-cons (λ (item : Class × Hold). hold_number item.1 ≤ most_left item.0) y [] (rw s b) (λ k d lt. absurd (omega arith))));
}

module _ (before : HoldKey → Option Hold) (bs : List Blocker) (askable : AreAskable bs) where
  module _ (o : Owner) where
    item_at : Class → Option (Class × Hold)
    item_at cls = item_of cls (before (key_of o.client o.ino cls)) (fold (asked_with (key_of o.client o.ino cls)) (before (key_of o.client o.ino cls)) bs)

    found_at : (cls : Class) (x : Class × Hold) → item_at cls ≡ Some x → (x.0 ≡ cls) × Found (key_of o.client o.ino cls) bs x.1
    unfolding item_at
    found_at cls x e = item_found cls (key_of o.client o.ino cls) bs (before (key_of o.client o.ino cls)) x e

    low_at : (cls : Class) (x : Class × Hold) → item_at cls ≡ Some x → hold_number x.1 ≤ most_left cls
    low_at cls x e =
        let f = (found_at cls x e).1 in
        let same : most_left f.b.«class» ≡ most_left cls = ap (λ (k : HoldKey). most_left k.«class») f.key in
        let low : hold_number f.b.asked ≡ hold_number x.1 = ap hold_number f.mode in
        let most : hold_number f.b.asked ≤ most_left f.b.«class» = askable.modes f.b f.member in omega (arith, same, low, most)

    apart : (cls : Class) (x y : Class × Hold) → is_of_directory cls ≡ false → item_at Names ≡ Some x → item_at cls ≡ Some y → ⊥
    apart cls x y of_file e g =
        let f = (found_at Names x e).1 in
        let h = (found_at cls y g).1 in
        let one_inode = ap (λ (k : HoldKey). k.ino) f.key ∙ sym (ap (λ (k : HoldKey). k.ino) h.key) in
        true≢false (sym (ap (λ (k : HoldKey). is_of_directory k.«class») f.key) ∙ askable.kinds f.b h.b f.member h.member one_inode ∙ ap (λ (k : HoldKey). is_of_directory k.«class») h.key ∙ of_file)

    single : (cls : Class) (x : Class × Hold) (r : Revoke) → item_at cls ≡ Some x → r.items ≡ x ∷ [] → 0 < class_number cls → is_open cls ≡ false → IsRevoke r
    single cls x r e items above closed =
        let is = sym (found_at cls x e).0 in
        revoke_of_one r x items (subst (λ (k : Class). 0 < class_number k) is above) (subst (λ (k : Class). is_open k ≡ false) is closed) (subst (λ (k : Class). hold_number x.1 ≤ most_left k) is (low_at cls x e))

    items_are : (items : List (Class × Hold)) (s : ClientId × Revoke) → ◌≡◌ {A = Option (ClientId × Revoke)} (Some (o.client, record { ino = o.ino; items = items })) (Some s) → s.1.items ≡ items
    items_are items s e =
        let one : ◌≡◌ {A = ClientId × Revoke} (o.client, record { ino = o.ino; items = items }) s = cc in
        ap (λ (t : ClientId × Revoke). t.1.items) (sym one)

    formed : (a b c : Option (Class × Hold)) → item_at Names ≡ a → item_at Data ≡ b → item_at Attr ≡ c
        → (s : ClientId × Revoke) → revoke_with o (cons_option a (cons_option b (cons_option c []))) ≡ Some s → IsRevoke s.1
    formed None None None p q r s e = absurd (cc)
    formed (Some x) None None p q r s e = single Names x s.1 p (items_are (x ∷ []) s e) (omega arith) refl
    formed None (Some x) None p q r s e = single Data x s.1 q (items_are (x ∷ []) s e) (omega arith) refl
    formed None None (Some x) p q r s e = single Attr x s.1 r (items_are (x ∷ []) s e) (omega arith) refl
    formed None (Some x) (Some y) p q r s e = revoke_of_two s.1 x y (items_are (x ∷ y ∷ []) s e) (found_at Data x q).0 (found_at Attr y r).0 (low_at Data x q) (low_at Attr y r)
    formed (Some x) (Some y) c p q r s e = absurd (apart Data x y refl p q)
    formed (Some x) None (Some y) p q r s e = absurd (apart Attr x y refl p r)

    revoke_formed : (s : ClientId × Revoke) → revoke_of before (λ q. fold (asked_with q) (before q) bs) o ≡ Some s → IsRevoke s.1
    unfolding item_at
    revoke_formed s e = formed (item_at Names) (item_at Data) (item_at Attr) refl refl refl s e

  -- all Revokes for blockers are such as a Revoke may be
  pub all_formed : (os : List Owner) → All (λ (s : ClientId × Revoke). IsRevoke s.1) (filter_map (revoke_of before (λ q. fold (asked_with q) (before q) bs)) os)
  all_formed [] = λ k d lt. absurd (omega arith)
  all_formed (o ∷ os) = by (revoke_of before (λ q. fold (asked_with q) (before q) bs) o) refl (all_formed os)
    where
      rest : List (ClientId × Revoke)
      rest = filter_map (revoke_of before (λ q. fold (asked_with q) (before q) bs)) os

      by : (r : Option (ClientId × Revoke)) → revoke_of before (λ q. fold (asked_with q) (before q) bs) o ≡ r → All (λ (s : ClientId × Revoke). IsRevoke s.1) rest
          → All (λ (s : ClientId × Revoke). IsRevoke s.1) (cons_option r rest)
      by None e all = all
      by (Some s) e all = All-cons (λ (t : ClientId × Revoke). IsRevoke t.1) s rest (revoke_formed o s e) all
