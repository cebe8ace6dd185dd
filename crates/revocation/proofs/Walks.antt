use Rattle.std.proofs.Common.{◌≡◌, ℕ, ◌+◌, ◌<◌, List, ◌++◌, length, take, get_or, Option, sym, ap, ◌∙◌, append_assoc}
use Rattle.std.specs.List.{filter_map}
use Rattle.std.specs.Option.{option_to_list}
use Rattle.std.proofs.lemmas.List.{take_more}
use Rattle.std.proofs.lemmas.List.Sums.{fold_more}
use Rattle.token_kind.specs.declared.blocker.Blocker.{Blocker}
use Rattle.token_kind.specs.declared.hold.Hold.{Hold}
use Rattle.token_table.specs.declared.hold_key.HoldKey.{HoldKey}
use Rattle.token_table.proofs.Lists.{filter_map-push}
use Rattle.revocation.specs.Revokes.{asked_with, asked_after}

-- what is gathered of one item more
pub gathers_next : {X Y : Type 0} (f : X → Option Y) (xs : List X) (i : ℕ) (d : X) (old new : List Y) (o : Option Y) → i < length xs
    → old ≡ filter_map f (take i xs) → o ≡ f (get_or xs i d) → new ≡ old ++ option_to_list o → new ≡ filter_map f (take (i + 1) xs)
gathers_next f xs i d old new o within e one step =
    step ∙ ap (λ ys. ys ++ option_to_list o) e ∙ ap (λ p. filter_map f (take i xs) ++ option_to_list p) one
    ∙ sym (filter_map-push f (take i xs) (get_or xs i d)) ∙ ap (filter_map f) (sym (take_more xs i d within))

-- the same behind other items
pub gathers_behind : {X Y : Type 0} (f : X → Option Y) (xs : List X) (i : ℕ) (d : X) (base old new : List Y) → i < length xs
    → old ≡ base ++ filter_map f (take i xs) → new ≡ old ++ option_to_list (f (get_or xs i d)) → new ≡ base ++ filter_map f (take (i + 1) xs)
gathers_behind f xs i d base old new within e step =
    step ∙ ap (λ ys. ys ++ option_to_list (f (get_or xs i d))) e ∙ append_assoc base (filter_map f (take i xs)) (option_to_list (f (get_or xs i d)))
    ∙ ap (λ ys. base ++ ys) (sym (filter_map-push f (take i xs) (get_or xs i d)) ∙ ap (filter_map f) (sym (take_more xs i d within)))

-- what is asked once one blocker more is asked
pub asked_more : (asked : List (HoldKey × Hold)) (bs : List Blocker) (i : ℕ) (d : Blocker) (old new : Option Hold) (q : HoldKey) → i < length bs
    → old ≡ asked_after asked (take i bs) q → new ≡ asked_with q old (get_or bs i d) → new ≡ asked_after asked (take (i + 1) bs) q
asked_more asked bs i d old new q within e step = step ∙ ap (λ m. asked_with q m (get_or bs i d)) e ∙ sym (fold_more (asked_with q) _ bs i d within)
