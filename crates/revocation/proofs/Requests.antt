use Rattle.std.proofs.Common.{◌≡◌, arith, List, [], ◌∷◌, ◌++◌, drop, Bool, true, false, ◌||◌, cond, filter, refl, ◌∙◌, true≢false, rules}
use Rattle.std.specs.List.{IsDistinct, AllByRecursion, list_any}
use Rattle.tree_law.specs.declared.request.Request.{Request}
use Rattle.std.proofs.lemmas.List.Elements.{All-filter, All-drop, All-push}
use Rattle.revocation.specs.Waiting.{same_request, IsRequest, IsLine}

module _ {X : Type 0} (e : X → X → Bool) where
  pub distinct-nil : IsDistinct e []
  unfolding IsDistinct
  distinct-nil = tt

  -- items of which one is taken from the front stay distinct
  pub distinct-rest : (xs : List X) → IsDistinct e xs → IsDistinct e (drop 1 xs)
  unfolding IsDistinct
  distinct-rest [] h = tt
  distinct-rest (x ∷ xs) h = h.1

  differ-filter : (p : X → Bool) (x : X) (xs : List X) → AllByRecursion (λ y. e x y ≡ false) xs → AllByRecursion (λ y. e x y ≡ false) (filter p xs)
  differ-filter p x [] h = tt
  differ-filter p x (y ∷ ys) h = by (p y) (h.0, differ-filter p x ys h.1)
    where
      by : (b : Bool) → (e x y ≡ false) × AllByRecursion (λ y. e x y ≡ false) (filter p ys) → AllByRecursion (λ y. e x y ≡ false) (cond b (y ∷ filter p ys) (filter p ys))
      by true r = r
      by false r = r.1

  -- and so do those that a filter leaves
  pub distinct-filter : (p : X → Bool) (xs : List X) → IsDistinct e xs → IsDistinct e (filter p xs)
  unfolding IsDistinct
  distinct-filter p [] h = tt
  distinct-filter p (x ∷ xs) h = by (p x) (differ-filter p x xs h.0) (distinct-filter p xs h.1)
    where
      by : (b : Bool) → AllByRecursion (λ y. e x y ≡ false) (filter p xs) → IsDistinct e (filter p xs) → IsDistinct e (cond b (x ∷ filter p xs) (filter p xs))
      by true d r = (d, r)
      by false d r = r

  module _ (flips : (x y : X) → e x y ≡ e y x) where
    differ-push : (x r : X) (xs : List X) → AllByRecursion (λ y. e x y ≡ false) xs → e x r ≡ false → AllByRecursion (λ y. e x y ≡ false) (xs ++ r ∷ [])
    differ-push x r [] h d = (d, tt)
    differ-push x r (y ∷ ys) h d = (h.0, differ-push x r ys h.1 d)

    or_first : (a b : Bool) → (a || b) ≡ false → a ≡ false
    or_first true b h = h
    or_first false b h = refl

    or_second : (a b : Bool) → (a || b) ≡ false → b ≡ false
    or_second true b h = absurd (true≢false h)
    or_second false b h = h

    -- an item that differs from all may be put at the end
    pub distinct-push : (xs : List X) (r : X) → IsDistinct e xs → list_any (e r) xs ≡ false → IsDistinct e (xs ++ r ∷ [])
    unfolding IsDistinct
    distinct-push [] r h none = (tt, tt)
    distinct-push (x ∷ xs) r h none =
        (differ-push x r xs h.0 (flips x r ∙ or_first (e r x) (list_any (e r) xs) none), distinct-push xs r h.1 (or_second (e r x) (list_any (e r) xs) none))

-- two requests are one both ways
same_request-flips : (a b : Request) → same_request a b ≡ same_request b a
same_request-flips a b = search rules

-- a line of no requests
pub line_empty : IsLine []
line_empty = record { once = distinct-nil same_request; each = λ k d lt. absurd (omega arith) }

-- a line whose head is taken
pub line_rest : (requests : List Request) → IsLine requests → IsLine (drop 1 requests)
line_rest requests line = record { once = distinct-rest same_request requests line.once; each = All-drop IsRequest 1 requests line.each }

-- a line of which some requests stay
pub line_filter : (p : Request → Bool) (requests : List Request) → IsLine requests → IsLine (filter p requests)
line_filter p requests line = record { once = distinct-filter same_request p requests line.once; each = All-filter p IsRequest requests line.each }

-- a request that doesn't stand in line may be put at the end
pub line_push : (requests : List Request) (r : Request) → IsLine requests → IsRequest r → list_any (same_request r) requests ≡ false → IsLine (requests ++ r ∷ [])
line_push requests r line is none = record { once = distinct-push same_request same_request-flips requests r line.once none; each = All-push IsRequest requests r line.each is }
