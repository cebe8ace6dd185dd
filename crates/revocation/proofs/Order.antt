use Rattle.std.proofs.Common.{◌≡◌, ◌≤◌, ◌<◌, ◌+◌, ℕ, zero, suc, ◌⊎◌, inl, inr, List, [], ◌∷◌, ◌++◌, length, take, get_or, slice_get, Bool, true, false, ◌||◌, nat_lt, fold, Option, Some, None, if◌then◌else◌, refl, sym, ap, subst, ◌∙◌, true≢false, arith, rules}
use Rattle.std.specs.List.{All, filter_map, cons_option, list_any}
use Rattle.std.proofs.lemmas.Option.{get_or_from_slice_get, slice_get_within}
use Rattle.std.proofs.lemmas.List.{take_all}
use Rattle.std.proofs.lemmas.List.Elements.{All-nil, All-head, All-tail, All-push, All-weaker}
use Rattle.std.proofs.lemmas.List.Folds.{list_any-append}
use Rattle.std.proofs.lemmas.List.Sums.{fold_more, position_or_len_is}
use Rattle.indexmap.specs.IndexSet.{insert_key}
use Rattle.cal_base.specs.declared.identity.ClientId.{ClientId}
use Rattle.token_kind.specs.declared.blocker.Blocker.{Blocker}
use Rattle.token_kind.specs.declared.hold.Hold.{Hold}
use Rattle.token_kind.specs.declared.revoke.Revoke.{Revoke}
use Rattle.token_table.specs.declared.hold_key.HoldKey.{HoldKey}
use Rattle.revocation.specs.Waiting.{asked_at}
use Rattle.revocation.specs.Revokes.{same_owner, owner_of, asked_after, items_of, revoke_of, revokes_of, owners}
use Rattle.revocation.specs.Order.{sent_to, first_place, AreInOrder}
use Rattle.revocation.specs.declared.owner.Owner.{Owner}
use Rattle.revocation.proofs.Sent.{same_owner-true, gathered_all, goes_to}

same_owner-refl : (a : Owner) → same_owner a a ≡ true
same_owner-refl a = search rules

-- each item's number is below those of all behind it
abbrev pub Rises : {X : Type 0} → (X → ℕ) → List X → Type 0
Rises f [] = Unit {0}
Rises f (x ∷ xs) = All (λ y. f x < f y) xs × Rises f xs

module _ {X : Type 0} (f : X → ℕ) where
  rises_push : (xs : List X) (y : X) → Rises f xs → All (λ x. f x < f y) xs → Rises f (xs ++ y ∷ [])
  rises_push [] y r below = (All-nil (λ z. f y < f z), tt)
  rises_push (x ∷ xs) y r below =
      (All-push (λ z. f x < f z) xs y r.0 (All-head (λ z. f z < f y) x xs below), rises_push xs y r.1 (All-tail (λ z. f z < f y) x xs below))

  rises_at : (xs : List X) (i j : ℕ) (x y : X) → Rises f xs → i < j → slice_get xs i ≡ Some x → slice_get xs j ≡ Some y → f x < f y
  rises_at [] i j x y r lt a b = absurd (cc)
  rises_at (z ∷ zs) i zero x y r lt a b = absurd (omega arith)
  rises_at (z ∷ zs) zero (suc j) x y r lt a b =
      let one : z ≡ x = cc in
      subst (λ w. f w < f y) one (subst (λ w. f z < f w) (get_or_from_slice_get zs j y y b) (r.0 j y (slice_get_within zs j y b)))
  rises_at (z ∷ zs) (suc i) (suc j) x y r lt a b = rises_at zs i j x y r.1 (omega arith) a b

-- what is gathered of items whose numbers rise, rises as they do
gathered_rises : {X Y : Type 0} (f : X → Option Y) (g : X → ℕ) (h : Y → ℕ) → ((x : X) (y : Y) → f x ≡ Some y → h y ≡ g x) → (xs : List X) → Rises g xs → Rises h (filter_map f xs)
gathered_rises f g h same [] r = tt
gathered_rises {X} {Y} f g h same (x ∷ xs) r = by (f x) refl (gathered_rises f g h same xs r.1)
  where
    by : (o : Option Y) → f x ≡ o → Rises h (filter_map f xs) → Rises h (cons_option o (filter_map f xs))
    by None e rest = rest
    by (Some y) e rest =
        (gathered_all f (λ w. g x < g w) (λ z. h y < h z) (λ w z s lt. let a : h y ≡ g x = same x y e in let b : h z ≡ g w = same w z s in omega (arith, a, b, lt)) xs r.0, rest)

-- what the clients and inodes of the first n blockers are
record Front (bs : List Blocker) (d : Blocker) (n : ℕ) (os : List Owner) : Type 0 where
  pub rising : Rises (first_place bs) os
  pub below : All (λ o. first_place bs o < n) os
  pub whole : (k : ℕ) → k < n → list_any (same_owner (owner_of (get_or bs k d))) os ≡ true

module _ (bs : List Blocker) (n : ℕ) (d : Blocker) (os : List Owner) (within : n < length bs) (front : Front bs d n os) where
  next : Owner
  next = owner_of (get_or bs n d)

  split : (k : ℕ) → k < n + 1 → (k < n) ⊎ (k ≡ n)
  split k lt = by (nat_lt k n) refl
    where
      by : (b : Bool) → nat_lt k n ≡ b → (k < n) ⊎ (k ≡ n)
      by true e = inl (search rules)
      by false e = inr (let ge : n ≤ k = search rules in omega arith)

  differ : (k : ℕ) → k < n → list_any (same_owner next) os ≡ false → same_owner next (owner_of (get_or bs k d)) ≡ false
  differ k lt new = by (same_owner next (owner_of (get_or bs k d))) refl
    where
      by : (b : Bool) → same_owner next (owner_of (get_or bs k d)) ≡ b → b ≡ false
      by false e = refl
      by true e = sym (front.whole k lt) ∙ ap (λ o. list_any (same_owner o) os) (sym (same_owner-true next (owner_of (get_or bs k d)) e)) ∙ new

  place : list_any (same_owner next) os ≡ false → first_place bs next ≡ n
  unfolding next
  place new = position_or_len_is (λ b. same_owner next (owner_of b)) bs n d (omega arith) (λ k lt. differ k lt new) (λ lt. same_owner-refl next)

  weaker : All (λ o. first_place bs o < n + 1) os
  weaker = All-weaker (λ o. first_place bs o < n) (λ o. first_place bs o < n + 1) (λ o lt. omega arith) os front.below

  front_more : Front bs d (n + 1) (insert_key same_owner os (owner_of (get_or bs n d)))
  unfolding next
  front_more = by (list_any (same_owner next) os) refl
    where
      stays : list_any (same_owner next) os ≡ true → (k : ℕ) → (k < n) ⊎ (k ≡ n) → list_any (same_owner (owner_of (get_or bs k d))) os ≡ true
      stays there k (inl lt) = front.whole k lt
      stays there k (inr e) = subst (λ m. list_any (same_owner (owner_of (get_or bs m d))) os ≡ true) (sym e) there

      comes : list_any (same_owner next) os ≡ false → (k : ℕ) → (k < n) ⊎ (k ≡ n) → list_any (same_owner (owner_of (get_or bs k d))) (os ++ next ∷ []) ≡ true
      comes new k (inl lt) =
          list_any-append (same_owner (owner_of (get_or bs k d))) os (next ∷ []) ∙ ap (λ b. b || list_any (same_owner (owner_of (get_or bs k d))) (next ∷ [])) (front.whole k lt)
      comes new k (inr e) =
          subst (λ m. list_any (same_owner (owner_of (get_or bs m d))) (os ++ next ∷ []) ≡ true) (sym e)
          (list_any-append (same_owner next) os (next ∷ []) ∙ rw (new, same_owner-refl next) refl)

      by : (b : Bool) → list_any (same_owner next) os ≡ b → Front bs d (n + 1) (if b then os else os ++ next ∷ [])
      by true there = record { rising = front.rising; below = weaker; whole = λ k lt. stays there k (split k lt) }
      by false new =
          let at : first_place bs next ≡ n = place new in
          record {
            rising = rises_push (first_place bs) os next front.rising (All-weaker (λ o. first_place bs o < n) (λ o. first_place bs o < first_place bs next) (λ o lt. omega (arith, at, lt)) os front.below);
            below = All-push (λ o. first_place bs o < n + 1) os next weaker (omega (arith, at));
            whole = λ k lt. comes new k (split k lt);
          }

fronts : (bs : List Blocker) (d : Blocker) (n : ℕ) → n ≤ length bs → Front bs d n (owners (take n bs))
fronts bs d zero le = record { rising = tt; below = All-nil (λ o. first_place bs o < 0); whole = λ k lt. absurd (omega arith) }
fronts bs d (suc n) le =
    subst (λ m. Front bs d m (owners (take m bs))) (let one : n + 1 ≡ suc n = omega arith in one)
    (subst (Front bs d (n + 1)) (sym (fold_more (λ (os : List Owner) (b : Blocker). insert_key same_owner os (owner_of b)) [] bs n d (omega arith)))
    (front_more bs n d (owners (take n bs)) (omega arith) (fronts bs d n (omega arith))))

-- the clients and inodes of blockers stand in the order in which they first stand among them
owners_rise : (bs : List Blocker) → Rises (first_place bs) (owners bs)
owners_rise [] = tt
owners_rise (b ∷ bs) =
    subst (λ l. Rises (first_place (b ∷ bs)) (owners l)) (take_all (length (b ∷ bs)) (b ∷ bs) (omega arith)) (fronts (b ∷ bs) b (length (b ∷ bs)) (omega arith)).rising

-- Revokes go out in that order
pub sent_in_order : (asked : List (HoldKey × Hold)) (bs : List Blocker) → AreInOrder bs (revokes_of asked bs)
sent_in_order asked bs = λ i j first second lt a b.
    rises_at (λ (s : ClientId × Revoke). first_place bs (sent_to s)) (revokes_of asked bs) i j first second
    (gathered_rises (revoke_of (asked_at asked) (asked_after asked bs)) (first_place bs) (λ (s : ClientId × Revoke). first_place bs (sent_to s))
    (λ o s e. ap (first_place bs) (goes_to o (items_of (asked_at asked) (asked_after asked bs) o) s e)) (owners bs) (owners_rise bs)) lt a b
