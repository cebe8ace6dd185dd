use Rattle.std.proofs.Common.{◌≡◌, ℕ, ◌+◌, ◌<◌, Bool, length, get_or, filter, if◌then◌else◌, List, [], ◌∷◌, ◌++◌, take, slice_get, Option, Some, None, refl, sym, ap, ◌∙◌, append_assoc, append-nil, add-one}
use Rattle.std.specs.List.{filter_map}
use Rattle.std.specs.Option.{option_to_list}
use Rattle.std.proofs.lemmas.Option.{get_or_from_slice_get, slice_get_within}
use Rattle.std.proofs.lemmas.List.{take_more}
use Rattle.std.proofs.lemmas.List.Elements.{filter_map-append, filter-append}
use Rattle.cal_base.specs.declared.identity.ClientId.{ClientId}
use Rattle.token_table.specs.Blockers.{clients_below}

-- no client is below 0
clients_below-zero : clients_below 0 ≡ []
unfolding clients_below
clients_below-zero = refl

-- one client more
clients_below-more : (n : ℕ) → clients_below (n + 1) ≡ clients_below n ++ record { 0 = n } ∷ []
unfolding clients_below
clients_below-more n = rw add-one refl

module _ {X Y : Type 0} (f : X → Option Y) where
  filter_map-one : (x : X) → filter_map f (x ∷ []) ≡ option_to_list (f x)
  filter_map-one x = by (f x) refl
    where
      by : (o : Option Y) → f x ≡ o → filter_map f (x ∷ []) ≡ option_to_list (f x)
      by None e = rw e refl
      by (Some y) e = rw e refl

  -- what is gathered of one item more
  pub filter_map-push : (xs : List X) (x : X) → filter_map f (xs ++ x ∷ []) ≡ filter_map f xs ++ option_to_list (f x)
  filter_map-push xs x = filter_map-append f xs (x ∷ []) ∙ ap (λ ys. filter_map f xs ++ ys) (filter_map-one x)

  -- the same of the items before an index
  pub gathers_more : (xs : List X) (i : ℕ) (x : X) (old new : List Y) → slice_get xs i ≡ Some x
      → old ≡ filter_map f (take i xs) → new ≡ old ++ option_to_list (f x) → new ≡ filter_map f (take (i + 1) xs)
  gathers_more xs i x old new at e step =
      step ∙ ap (λ ys. ys ++ option_to_list (f x)) e ∙ sym (filter_map-push (take i xs) x)
      ∙ ap (λ y. filter_map f (take i xs ++ y ∷ [])) (sym (get_or_from_slice_get xs i x x at)) ∙ ap (filter_map f) (sym (take_more xs i x (slice_get_within xs i x at)))

module _ {Y : Type 0} (f : ClientId → Option Y) where
  -- nothing is gathered of no client
  pub gathers_none : (out : List Y) → out ≡ out ++ filter_map f (clients_below 0)
  gathers_none out = sym (append-nil out) ∙ ap (λ cs. out ++ filter_map f cs) (sym clients_below-zero)

  -- what is gathered of one client more
  pub gathers_client : (n : ℕ) (out old new : List Y) → old ≡ out ++ filter_map f (clients_below n)
      → new ≡ old ++ option_to_list (f (record { 0 = n })) → new ≡ out ++ filter_map f (clients_below (n + 1))
  gathers_client n out old new e step =
      step ∙ ap (λ ys. ys ++ option_to_list (f (record { 0 = n }))) e
      ∙ append_assoc out (filter_map f (clients_below n)) (option_to_list (f (record { 0 = n })))
      ∙ ap (λ ys. out ++ ys) (sym (filter_map-push f (clients_below n) (record { 0 = n })) ∙ ap (filter_map f) (sym (clients_below-more n)))

-- what a filter leaves of one item more, behind others
pub filters_next : {X : Type 0} (p : X → Bool) (xs : List X) (i : ℕ) (d : X) (base old new : List X) (b : Bool) → i < length xs → old ≡ base ++ filter p (take i xs)
    → b ≡ p (get_or xs i d) → new ≡ old ++ (if b then get_or xs i d ∷ [] else []) → new ≡ base ++ filter p (take (i + 1) xs)
filters_next p xs i d base old new b within e test step =
    step ∙ ap (λ ys. ys ++ (if b then get_or xs i d ∷ [] else [])) e ∙ ap (λ (s : Bool). (base ++ filter p (take i xs)) ++ (if s then get_or xs i d ∷ [] else [])) test
    ∙ append_assoc base (filter p (take i xs)) (filter p (get_or xs i d ∷ []))
    ∙ ap (λ ys. base ++ ys) (sym (filter-append p (take i xs) (get_or xs i d ∷ [])) ∙ ap (filter p) (sym (take_more xs i d within)))
