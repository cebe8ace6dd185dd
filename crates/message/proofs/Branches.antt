-- Readers that are made of others, against their spellings.
use Rattle.std.proofs.Common.{◌≡◌, ◌∷◌, ◌++◌, ℕ, List, Ok, refl, ap, ◌∙◌, append_assoc}
use Rattle.message.specs.Reading.{Read, ◌>>=◌}
use Rattle.message.proofs.Exact.{Again, IsBytes, Takes, Took, begin, on, then_ok}
use Rattle.message.proofs.Parts.{bind_ok, ok_same}

abbrev pub mapped : {A B : Type 0} → (List ℕ → Read B) → (B → A) → List ℕ → Read A
mapped sub make bytes = sub bytes >>= λ y. Ok (make y.0, y.1)

abbrev pub paired : {A B C : Type 0} → (List ℕ → Read B) → (List ℕ → Read C) → (B → C → A) → List ℕ → Read A
paired first second make bytes = first bytes >>= λ y. second y.1 >>= λ z. Ok (make y.0 z.0, z.1)

-- a field that is taken for a value
pub mapped_takes : {A B : Type 0} (sub : List ℕ → Read B) (make : B → A) (tb : B → List ℕ) (gb : B → Type 0) (ta : A → List ℕ) (ga : A → Type 0)
    → Takes sub tb gb → ((b : B) → tb b ≡ ta (make b)) → ((b : B) → gb b → ga (make b)) → Takes (mapped sub make) ta ga
mapped_takes sub make tb gb ta ga takes same keeps bytes x fits e =
    let field = bind_ok (sub bytes) _ x e in
    let took = takes bytes field.0 fits field.1 in
    rw (← ok_same _ _ field.2) (record { is = took.is ∙ ap (λ (t : List ℕ). t ++ field.0.1) (same field.0.0); good = keeps field.0.0 took.good; fits = took.fits })

pub mapped_again : {A B : Type 0} (sub : List ℕ → Read B) (make : B → A) (tb : B → List ℕ) (gb : B → Type 0)
    → Again sub tb gb → (b : B) (rest : List ℕ) → gb b → mapped sub make (tb b ++ rest) ≡ Ok (make b, rest)
mapped_again sub make tb gb again b rest good = then_ok _ _ (b, rest) _ (again b rest good) refl

-- a kind and a field
pub branch_takes : {A B : Type 0} (sub : List ℕ → Read B) (make : B → A) (tb : B → List ℕ) (gb : B → Type 0) (ta : A → List ℕ) (ga : A → Type 0) (n : ℕ)
    → Takes sub tb gb → ((b : B) → n ∷ tb b ≡ ta (make b)) → ((b : B) → gb b → ga (make b))
    → (kind : ℕ) (rest : List ℕ) (x : A × List ℕ) → kind ≡ n → IsBytes rest → mapped sub make rest ≡ Ok x → Took ta ga (kind ∷ rest) x
branch_takes sub make tb gb ta ga n takes same keeps kind rest x is fits e =
    let field = bind_ok (sub rest) _ x e in
    let took = takes rest field.0 fits field.1 in
    rw (← ok_same _ _ field.2) (record {
      is = ap (λ k. k ∷ rest) is ∙ ap (λ (r : List ℕ). n ∷ r) took.is ∙ ap (λ (t : List ℕ). t ++ field.0.1) (same field.0.0);
      good = keeps field.0.0 took.good;
      fits = took.fits;
    })

-- a kind and two fields
pub two_takes : {A B C : Type 0} (first : List ℕ → Read B) (second : List ℕ → Read C) (make : B → C → A) (tb : B → List ℕ) (gb : B → Type 0) (tc : C → List ℕ) (gc : C → Type 0)
    (ta : A → List ℕ) (ga : A → Type 0) (n : ℕ) → Takes first tb gb → Takes second tc gc → ((b : B) (c : C) → n ∷ (tb b ++ tc c) ≡ ta (make b c)) → ((b : B) (c : C) → gb b → gc c → ga (make b c))
    → (kind : ℕ) (rest : List ℕ) (x : A × List ℕ) → kind ≡ n → IsBytes rest → paired first second make rest ≡ Ok x → Took ta ga (kind ∷ rest) x
two_takes first second make tb gb tc gc ta ga n takes_first takes_second same keeps kind rest x is fits e =
    let one = bind_ok (first rest) _ x e in
    let took = takes_first rest one.0 fits one.1 in
    let two = bind_ok (second one.0.1) _ x one.2 in
    let more = takes_second one.0.1 two.0 took.fits two.1 in
    rw (← ok_same _ _ two.2) (record {
      is = ap (λ k. k ∷ rest) is ∙ ap (λ (r : List ℕ). n ∷ r) (on (begin took) more).is ∙ ap (λ (t : List ℕ). t ++ two.0.1) (same one.0.0 two.0.0);
      good = keeps one.0.0 two.0.0 took.good more.good;
      fits = more.fits;
    })

pub two_again : {A B C : Type 0} (first : List ℕ → Read B) (second : List ℕ → Read C) (make : B → C → A) (tb : B → List ℕ) (gb : B → Type 0) (tc : C → List ℕ) (gc : C → Type 0)
    → Again first tb gb → Again second tc gc → (b : B) (c : C) (rest : List ℕ) → gb b → gc c
    → paired first second make ((tb b ++ tc c) ++ rest) ≡ Ok (make b c, rest)
two_again first second make tb gb tc gc again_first again_second b c rest good_b good_c =
    ap (paired first second make) (append_assoc (tb b) (tc c) rest)
    ∙ then_ok _ _ (b, tc c ++ rest) _ (again_first b (tc c ++ rest) good_b) (then_ok _ _ (c, rest) _ (again_second c rest good_c) refl)
