-- A Revoke that is told isn't told again, and the others for the same blockers are as before.
use Rattle.std.proofs.Common.{◌≡◌, ◌≤◌, ◌<◌, ◌⊎◌, inl, inr, ℕ, suc, List, [], ◌∷◌, Bool, true, false, not, Option, Some, None, cond, filter, fold, slice_get, if◌then◌else◌, refl, sym, ap, subst, ◌∙◌, true≢false, Contains, arith, rules}
use Rattle.std.specs.List.{cons_option, filter_map}
use Rattle.std.proofs.lemmas.List.Elements.{All-contains, Contains-append_right, Contains-get_or}
use Rattle.cal_base.specs.declared.identity.ClientId.{ClientId}
use Rattle.revocation.specs.Order.{AreInOrder, first_place, sent_to}
use Rattle.revocation.specs.Reasons.{IsAskedWithin}
use Rattle.revocation.specs.Revokes.{asked_after, asked_with, item_of, items_of, key_of_blocker, lower_asked, owners, revoke_of, revoke_with, revokes_of, same_owner}
use Rattle.revocation.specs.Waiting.{asked_at}
use Rattle.revocation.specs.declared.owner.Owner.{Owner}
use Rattle.revocation.proofs.Order.{sent_in_order}
use Rattle.revocation.proofs.Reasons.{now_within}
use Rattle.revocation.proofs.Sent.{goes_to, same_owner-true}
use Rattle.token_kind.specs.Hold.{hold_number, lesser_of}
use Rattle.token_kind.specs.declared.blocker.Blocker.{Blocker}
use Rattle.token_kind.specs.declared.«class».Class.{Class}
use Rattle.token_kind.specs.declared.«class».Class.TheVariants.{Names, Data, Attr}
use Rattle.token_kind.specs.declared.hold.Hold.{Hold}
use Rattle.token_kind.specs.declared.hold.Hold.TheVariants.{None as Nothing, Read, Write}
use Rattle.token_kind.specs.declared.revoke.Revoke.{Revoke}
use Rattle.token_table.specs.Blockers.{is_open}
use Rattle.token_table.specs.Table.{key_of, same_key}
use Rattle.token_table.specs.declared.hold_key.HoldKey.{HoldKey}
use Rattle.token_table.proofs.Keys.{same_key-true}
use Rattle.cluster_law.specs.ServerState.{asked_with as asked_in}
use Rattle.server_book.proofs.Lowering.{kept-where-none}
use Rattle.server_book.proofs.SameAsked.{ask-front}
use Rattle.server_book.proofs.Telling.{AreTold, classes-told}

same-owner-refl : (o : Owner) → same_owner o o ≡ true
same-owner-refl o = search rules

-- a hold is the lesser of itself and one that isn't lower
lesser-high : (h a : Hold) → hold_number h ≤ hold_number a → lesser_of h a ≡ h
lesser-high Nothing a le = refl
lesser-high Read Nothing le = absurd (omega arith)
lesser-high Read Read le = refl
lesser-high Read Write le = refl
lesser-high Write Nothing le = absurd (omega arith)
lesser-high Write Read le = absurd (omega arith)
lesser-high Write Write le = refl

asked-low : (n : Option Hold) (h : Hold) → IsAskedWithin n h → ◌≡◌ {A = Option Hold} (Some (lower_asked n h)) n
asked-low None h w = absurd w
asked-low (Some a) h w = ap (λ (m : Hold). Some m) (lesser-high a h w)

-- where each blocker is asked at or below its mode, asking them changes nothing
unmoved : (q : HoldKey) (n : Option Hold) (ds : List Blocker) → ((b : Blocker) → Contains ds b → is_open b.«class» ≡ false → key_of_blocker b ≡ q → IsAskedWithin n b.asked) → fold (asked_with q) n ds ≡ n
unmoved q n [] w = refl
unmoved q n (b ∷ ds) w =
    ap (λ (o : Option Hold). fold (asked_with q) o ds) (by (is_open b.«class») (same_key (key_of_blocker b) q) refl refl)
    ∙ unmoved q n ds (λ d c. w d (Contains-append_right (b ∷ []) ds d c))
  where
    by : (o s : Bool) → is_open b.«class» ≡ o → same_key (key_of_blocker b) q ≡ s → asked_with q n b ≡ n
    by true s e f = rw e refl
    by false false e f = rw (e, f) refl
    by false true e f = rw (e, f) (asked-low n b.asked (w b (Contains-get_or (b ∷ ds) 0 b (omega arith)) e (same_key-true (key_of_blocker b) q f)))

asked-again : (q : HoldKey) (bs : List Blocker) (m : Option Hold) → fold (asked_with q) (fold (asked_with q) m bs) bs ≡ fold (asked_with q) m bs
asked-again q bs m = unmoved q (fold (asked_with q) m bs) bs (λ b c closed key. subst (λ (k : HoldKey). IsAskedWithin (fold (asked_with k) m bs) b.asked) key (now_within bs m b c closed))

-- what is asked of holds of others than a Revoke's owner stays
untouched : (o : Owner) (items : List (Class × Hold)) (xs : List (HoldKey × Hold)) (p : Owner) (cls : Class) → same_owner o p ≡ false
    → asked_at (asked_in o.client o.ino items xs) (key_of p.client p.ino cls) ≡ asked_at xs (key_of p.client p.ino cls)
unfolding asked_in
untouched o [] xs p cls apart = refl
untouched o (item ∷ items) xs p cls apart =
    untouched o items ((key_of o.client o.ino item.0, lower_asked (asked_at xs (key_of o.client o.ino item.0)) item.1) ∷ xs) p cls apart
    ∙ ask-front xs (key_of o.client o.ino item.0) (lower_asked (asked_at xs (key_of o.client o.ino item.0)) item.1) (key_of p.client p.ino cls)
    ∙ ap (λ (b : Bool). if b then Some (lower_asked (asked_at xs (key_of o.client o.ino item.0)) item.1) else asked_at xs (key_of p.client p.ino cls)) (other (same_key (key_of o.client o.ino item.0) (key_of p.client p.ino cls)) refl)
  where
    other : (b : Bool) → same_key (key_of o.client o.ino item.0) (key_of p.client p.ino cls) ≡ b → b ≡ false
    other false e = refl
    other true e =
        let one = same_key-true (key_of o.client o.ino item.0) (key_of p.client p.ino cls) e in
        absurd (true≢false (sym (same-owner-refl o) ∙ ap (λ (k : HoldKey). same_owner o (record { client = k.client; ino = k.ino })) one ∙ apart))

-- of what is asked as it will be there is no item
no-item : (cls : Class) (n : Option Hold) → item_of cls n n ≡ None
no-item cls None = refl
no-item cls (Some Nothing) = refl
no-item cls (Some Read) = refl
no-item cls (Some Write) = refl

-- a Revoke by its owner and items
sent-is : (o : Owner) (items : List (Class × Hold)) (s : ClientId × Revoke) → revoke_with o items ≡ Some s → ◌≡◌ {A = ClientId × Revoke} (o.client, record { ino = o.ino; items = items }) s
sent-is o [] s e = absurd (cc)
sent-is o (item ∷ items) s e = cc

-- the first of what is gathered was gathered of something
pub gathered-first : {X Y : Type 0} (f : X → Option Y) (xs : List X) (y : Y) (ys : List Y) → filter_map f xs ≡ y ∷ ys → (x : X) × (f x ≡ Some y)
gathered-first f [] y ys e = absurd (cc)
gathered-first f (x ∷ xs) y ys e = by (f x) refl e (λ h. gathered-first f xs y ys h)
  where
    by : (o : Option _) → f x ≡ o → cons_option o (filter_map f xs) ≡ y ∷ ys → (filter_map f xs ≡ y ∷ ys → (z : _) × (f z ≡ Some y)) → (z : _) × (f z ≡ Some y)
    by None p h rest = rest h
    by (Some z) p h rest = (x, p ∙ (let one : z ≡ y = cc in ap (λ w. Some w) one))

-- a filter that all pass
all-stay : {X : Type 0} (p : X → Bool) (xs : List X) → ((j : ℕ) (x : X) → slice_get xs j ≡ Some x → p x ≡ true) → filter p xs ≡ xs
all-stay p [] each = refl
all-stay p (x ∷ xs) each = ap (λ (b : Bool). cond b (x ∷ filter p xs) (filter p xs)) (each 0 x refl) ∙ ap (λ ys. x ∷ ys) (all-stay p xs (λ j y e. each (suc j) y e))

module _ (asked : List (HoldKey × Hold)) (bs : List Blocker) (o : Owner) (s : ClientId × Revoke) (is : revoke_of (asked_at asked) (asked_after asked bs) o ≡ Some s) where
  pub told-owner : AreTold (asked_at asked) (asked_after asked bs) (λ cls p. kept-where-none cls p bs (asked_at asked p)) o (Names ∷ Data ∷ Attr ∷ []) asked (asked_in s.0 s.1.ino s.1.items asked)
  told-owner =
      subst (λ (t : ClientId × Revoke). AreTold (asked_at asked) (asked_after asked bs) (λ cls p. kept-where-none cls p bs (asked_at asked p)) o (Names ∷ Data ∷ Attr ∷ []) asked (asked_in t.0 t.1.ino t.1.items asked))
      (sent-is o (items_of (asked_at asked) (asked_after asked bs) o) s is)
      (classes-told (asked_at asked) (asked_after asked bs) (λ cls p. kept-where-none cls p bs (asked_at asked p)) o (Names ∷ Data ∷ Attr ∷ []) asked (λ q. inl refl))

  -- what all blockers ask is as before
  pub after-same : (q : HoldKey) → asked_after (asked_in s.0 s.1.ino s.1.items asked) bs q ≡ asked_after asked bs q
  after-same q = by (told-owner.0 q)
    where
      by : (asked_at (asked_in s.0 s.1.ino s.1.items asked) q ≡ asked_after asked bs q) ⊎ (asked_at (asked_in s.0 s.1.ino s.1.items asked) q ≡ asked_at asked q) → asked_after (asked_in s.0 s.1.ino s.1.items asked) bs q ≡ asked_after asked bs q
      by (inl e) = ap (λ (m : Option Hold). fold (asked_with q) m bs) e ∙ asked-again q bs (asked_at asked q)
      by (inr e) = ap (λ (m : Option Hold). fold (asked_with q) m bs) e

  at-owner : (cls : Class) → Contains (Names ∷ Data ∷ Attr ∷ []) cls → item_of cls (asked_at (asked_in s.0 s.1.ino s.1.items asked) (key_of o.client o.ino cls)) (asked_after asked bs (key_of o.client o.ino cls)) ≡ None
  at-owner cls c =
      let e = All-contains (λ (k : Class). asked_at (asked_in s.0 s.1.ino s.1.items asked) (key_of o.client o.ino k) ≡ asked_after asked bs (key_of o.client o.ino k)) (Names ∷ Data ∷ Attr ∷ []) cls told-owner.1 c in
      ap (λ (m : Option Hold). item_of cls m (asked_after asked bs (key_of o.client o.ino cls))) e ∙ no-item cls (asked_after asked bs (key_of o.client o.ino cls))

  -- the owner gets no Revoke any more, and the others get theirs
  own-none : revoke_of (asked_at (asked_in s.0 s.1.ino s.1.items asked)) (asked_after asked bs) o ≡ None
  own-none = λ i. revoke_with o (cons_option (at-owner Names (0, omega arith, refl) i) (cons_option (at-owner Data (1, omega arith, refl) i) (cons_option (at-owner Attr (2, omega arith, refl) i) [])))

  other-same : (p : Owner) → same_owner o p ≡ false → revoke_of (asked_at (asked_in s.0 s.1.ino s.1.items asked)) (asked_after asked bs) p ≡ revoke_of (asked_at asked) (asked_after asked bs) p
  other-same p apart = λ i. revoke_with p (filter_map (λ cls. item_of cls (stay cls i) (asked_after asked bs (key_of p.client p.ino cls))) (Names ∷ Data ∷ Attr ∷ []))
    where
      stay : (cls : Class) → asked_at (asked_in s.0 s.1.ino s.1.items asked) (key_of p.client p.ino cls) ≡ asked_at asked (key_of p.client p.ino cls)
      stay cls = subst (λ (t : ClientId × Revoke). asked_at (asked_in t.0 t.1.ino t.1.items asked) (key_of p.client p.ino cls) ≡ asked_at asked (key_of p.client p.ino cls))
          (sent-is o (items_of (asked_at asked) (asked_after asked bs) o) s is) (untouched o (items_of (asked_at asked) (asked_after asked bs) o) asked p cls apart)

  -- the Revokes that are left are those to others
  left-over : (os : List Owner) → filter_map (revoke_of (asked_at (asked_in s.0 s.1.ino s.1.items asked)) (asked_after asked bs)) os ≡ filter (λ t. not (same_owner o (sent_to t))) (filter_map (revoke_of (asked_at asked) (asked_after asked bs)) os)
  left-over [] = refl
  left-over (p ∷ os) = by (same_owner o p) (revoke_of (asked_at asked) (asked_after asked bs) p) refl refl (left-over os)
    where
      by : (b : Bool) (r : Option (ClientId × Revoke)) → same_owner o p ≡ b → revoke_of (asked_at asked) (asked_after asked bs) p ≡ r
          → filter_map (revoke_of (asked_at (asked_in s.0 s.1.ino s.1.items asked)) (asked_after asked bs)) os ≡ filter (λ t. not (same_owner o (sent_to t))) (filter_map (revoke_of (asked_at asked) (asked_after asked bs)) os)
          → filter_map (revoke_of (asked_at (asked_in s.0 s.1.ino s.1.items asked)) (asked_after asked bs)) (p ∷ os) ≡ filter (λ t. not (same_owner o (sent_to t))) (filter_map (revoke_of (asked_at asked) (asked_after asked bs)) (p ∷ os))
      by true r e f ih = none-of p (sym (same_owner-true o p e)) ∙ ih ∙ sym (dropped r f)
        where
          none-of : (p' : Owner) → p' ≡ o → cons_option (revoke_of (asked_at (asked_in s.0 s.1.ino s.1.items asked)) (asked_after asked bs) p') (filter_map (revoke_of (asked_at (asked_in s.0 s.1.ino s.1.items asked)) (asked_after asked bs)) os) ≡ filter_map (revoke_of (asked_at (asked_in s.0 s.1.ino s.1.items asked)) (asked_after asked bs)) os
          none-of p' g = ap (λ (v : Owner). cons_option (revoke_of (asked_at (asked_in s.0 s.1.ino s.1.items asked)) (asked_after asked bs) v) (filter_map (revoke_of (asked_at (asked_in s.0 s.1.ino s.1.items asked)) (asked_after asked bs)) os)) g
              ∙ ap (λ (r : Option (ClientId × Revoke)). cons_option r (filter_map (revoke_of (asked_at (asked_in s.0 s.1.ino s.1.items asked)) (asked_after asked bs)) os)) own-none

          dropped : (r : Option (ClientId × Revoke)) → revoke_of (asked_at asked) (asked_after asked bs) p ≡ r
              → filter (λ t. not (same_owner o (sent_to t))) (cons_option (revoke_of (asked_at asked) (asked_after asked bs) p) (filter_map (revoke_of (asked_at asked) (asked_after asked bs)) os)) ≡ filter (λ t. not (same_owner o (sent_to t))) (filter_map (revoke_of (asked_at asked) (asked_after asked bs)) os)
          dropped None g = ap (λ (r : Option (ClientId × Revoke)). filter (λ t. not (same_owner o (sent_to t))) (cons_option r (filter_map (revoke_of (asked_at asked) (asked_after asked bs)) os))) g
          dropped (Some t) g =
              ap (λ (r : Option (ClientId × Revoke)). filter (λ t. not (same_owner o (sent_to t))) (cons_option r (filter_map (revoke_of (asked_at asked) (asked_after asked bs)) os))) g
              ∙ ap (λ (b : Bool). cond b (t ∷ filter (λ t. not (same_owner o (sent_to t))) (filter_map (revoke_of (asked_at asked) (asked_after asked bs)) os)) (filter (λ t. not (same_owner o (sent_to t))) (filter_map (revoke_of (asked_at asked) (asked_after asked bs)) os)))
              (ap not (ap (same_owner o) (goes_to p (items_of (asked_at asked) (asked_after asked bs) p) t g) ∙ e))
      by false r e f ih = ap (λ (r : Option (ClientId × Revoke)). cons_option r (filter_map (revoke_of (asked_at (asked_in s.0 s.1.ino s.1.items asked)) (asked_after asked bs)) os)) (other-same p e) ∙ kept r f
        where
          kept : (r : Option (ClientId × Revoke)) → revoke_of (asked_at asked) (asked_after asked bs) p ≡ r
              → cons_option (revoke_of (asked_at asked) (asked_after asked bs) p) (filter_map (revoke_of (asked_at (asked_in s.0 s.1.ino s.1.items asked)) (asked_after asked bs)) os)
              ≡ filter (λ t. not (same_owner o (sent_to t))) (cons_option (revoke_of (asked_at asked) (asked_after asked bs) p) (filter_map (revoke_of (asked_at asked) (asked_after asked bs)) os))
          kept r g = subst (λ (r : Option (ClientId × Revoke)). cons_option r (filter_map (revoke_of (asked_at (asked_in s.0 s.1.ino s.1.items asked)) (asked_after asked bs)) os) ≡ filter (λ t. not (same_owner o (sent_to t))) (cons_option r (filter_map (revoke_of (asked_at asked) (asked_after asked bs)) os))) (sym g) (each r g)
            where
              each : (r : Option (ClientId × Revoke)) → revoke_of (asked_at asked) (asked_after asked bs) p ≡ r
                  → cons_option r (filter_map (revoke_of (asked_at (asked_in s.0 s.1.ino s.1.items asked)) (asked_after asked bs)) os) ≡ filter (λ t. not (same_owner o (sent_to t))) (cons_option r (filter_map (revoke_of (asked_at asked) (asked_after asked bs)) os))
              each None g = ih
              each (Some t) g =
                  ap (λ ts. t ∷ ts) ih
                  ∙ sym (ap (λ (b : Bool). cond b (t ∷ filter (λ t. not (same_owner o (sent_to t))) (filter_map (revoke_of (asked_at asked) (asked_after asked bs)) os)) (filter (λ t. not (same_owner o (sent_to t))) (filter_map (revoke_of (asked_at asked) (asked_after asked bs)) os)))
                  (ap not (ap (same_owner o) (goes_to p (items_of (asked_at asked) (asked_after asked bs) p) t g) ∙ e)))

  left-now : revokes_of (asked_in s.0 s.1.ino s.1.items asked) bs ≡ filter (λ t. not (same_owner o (sent_to t))) (revokes_of asked bs)
  left-now = (λ i. filter_map (revoke_of (asked_at (asked_in s.0 s.1.ino s.1.items asked)) (λ q. after-same q i)) (owners bs)) ∙ left-over (owners bs)

-- once the first of the Revokes is told, the others are left
pub told-once : (asked : List (HoldKey × Hold)) (bs : List Blocker) (s : ClientId × Revoke) (rest : List (ClientId × Revoke)) → revokes_of asked bs ≡ s ∷ rest → revokes_of (asked_in s.0 s.1.ino s.1.items asked) bs ≡ rest
told-once asked bs s rest e =
    left-now asked bs found.0 s found.1 ∙ ap (filter (λ t. not (same_owner found.0 (sent_to t)))) e
    ∙ ap (λ (b : Bool). cond b (s ∷ filter (λ t. not (same_owner found.0 (sent_to t))) rest) (filter (λ t. not (same_owner found.0 (sent_to t))) rest)) first
    ∙ all-stay (λ t. not (same_owner found.0 (sent_to t))) rest others
  where
    found : (o : Owner) × (revoke_of (asked_at asked) (asked_after asked bs) o ≡ Some s)
    found = gathered-first (revoke_of (asked_at asked) (asked_after asked bs)) (owners bs) s rest e

    goes : sent_to s ≡ found.0
    goes = goes_to found.0 (items_of (asked_at asked) (asked_after asked bs) found.0) s found.1

    first : not (same_owner found.0 (sent_to s)) ≡ false
    first = ap not (ap (same_owner found.0) goes ∙ same-owner-refl found.0)

    order : AreInOrder bs (s ∷ rest)
    order = subst (AreInOrder bs) e (sent_in_order asked bs)

    others : (j : ℕ) (t : ClientId × Revoke) → slice_get rest j ≡ Some t → not (same_owner found.0 (sent_to t)) ≡ true
    others j t at = by (same_owner found.0 (sent_to t)) refl
      where
        lt : first_place bs (sent_to s) < first_place bs (sent_to t)
        lt = order 0 (suc j) s t (omega arith) refl at

        by : (b : Bool) → same_owner found.0 (sent_to t) ≡ b → not b ≡ true
        by false f = refl
        by true f =
            let one : sent_to s ≡ sent_to t = goes ∙ same_owner-true found.0 (sent_to t) f in
            let same : first_place bs (sent_to s) ≡ first_place bs (sent_to t) = ap (first_place bs) one in
            absurd (omega (arith, lt, same))
