use Rattle.std.proofs.Common.{◌<◌, ℕ, ◌+◌, List, length, take, get_or, sym, subst}
use Rattle.std.specs.List.{All}
use Rattle.std.proofs.lemmas.List.{take_more}
use Rattle.std.proofs.lemmas.List.Elements.{All-push}

-- what holds of the first items and of the next holds of one item more
pub all_next : {X : Type 0} (P : X → Type 0) (xs : List X) (i : ℕ) (d : X) → i < length xs → All P (take i xs) → P (get_or xs i d) → All P (take (i + 1) xs)
all_next P xs i d within all next = subst (All P) (sym (take_more xs i d within)) (All-push P (take i xs) (get_or xs i d) all next)
