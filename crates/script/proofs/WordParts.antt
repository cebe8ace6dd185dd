-- The words of a line, part by part.
use Rattle.std.proofs.Common.{◌≡◌, ◌==◌, ◌<◌, ℕ, Bool, true, false, List, ◌∷◌, length, nat_lt, cond, ap, ◌∙◌, arith}
use Rattle.std.specs.List.{slice_split, filter}
use Rattle.std.proofs.lemmas.Bool.Decides.{nat_tests}
use Rattle.script.specs.Words.{words}

abbrev pub kept : List (List ℕ) → List (List ℕ)
kept parts = filter (λ part. nat_lt 0 (length part)) parts

some_bytes : (n : ℕ) → 0 < n → nat_lt 0 n ≡ true
some_bytes n h = grind (arith, nat_tests)

no_bytes : (n : ℕ) → n ≡ 0 → nat_lt 0 n ≡ false
no_bytes n h = grind (arith, nat_tests)

-- a first part with bytes is the first word
pub first_word : (line part : List ℕ) (parts : List (List ℕ)) → slice_split (λ byte. byte == 32) line ≡ part ∷ parts → 0 < length part → words line ≡ part ∷ kept parts
first_word line part parts e some = ap kept e ∙ ap (λ (b : Bool). cond b (part ∷ kept parts) (kept parts)) (some_bytes _ some)

-- a first part without bytes is no word
pub skipped_part : (line part : List ℕ) (parts : List (List ℕ)) → slice_split (λ byte. byte == 32) line ≡ part ∷ parts → length part ≡ 0 → words line ≡ kept parts
skipped_part line part parts e none = ap kept e ∙ ap (λ (b : Bool). cond b (part ∷ kept parts) (kept parts)) (no_bytes _ none)
