-- That the words of a command are the one word `run`.
use Rattle.std.proofs.Common.{◌≡◌, ℕ, List, [], ◌∷◌, length, map, get_or, Bor, refl, sym, ap, ◌∙◌, arith, Bool, nat_eq}
use Rattle.std.specs.Prelude.{codes, IsTrue}
use Rattle.std.specs.Cmp.Lexicographic.{pointwise}
use Rattle.std.proofs.lemmas.Slice.Eq.{bytes_eq-Decides}
use Rattle.cluster_run.specs.Run.{IsRunCommand}

-- one word alone
one_word : (words : List (Bor (List ℕ))) (word : Bor (List ℕ)) → length words ≡ 1 → map (λ w. w.now) words ≡ (get_or words 0 word).now ∷ []
one_word [] word one = absurd (omega arith)
one_word (first ∷ []) word one = refl
one_word (first ∷ second ∷ more) word one = absurd (omega arith)

alone : (a b : List ℕ) → a ∷ [] ≡ b ∷ [] → a ≡ b
alone a b e = cc

-- the one word is the command, or not
pub is_command : (words : List (Bor (List ℕ))) (word : Bor (List ℕ)) (same : Bool) → length words ≡ 1 → same ≡ pointwise nat_eq (get_or words 0 word).now (codes "run")
    → (IsTrue same → IsRunCommand (map (λ w. w.now) words)) × (IsRunCommand (map (λ w. w.now) words) → IsTrue same)
is_command words word same one is =
    let decides = bytes_eq-Decides (get_or words 0 word).now (codes "run") in
    let list = one_word words word one in
    (λ true. list ∙ ap (λ (w : List ℕ). w ∷ []) (decides.0 (sym is ∙ true)), λ run. is ∙ decides.1 (alone _ _ (sym list ∙ run)))
