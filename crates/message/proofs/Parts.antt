-- What a reading that gives a value tells of its parts.
use Rattle.std.proofs.Common.{◌≡◌, ℕ, zero, suc, Bool, true, false, ◌&&◌, List, Option, Some, None, Result, Ok, Err, length, All, refl, ap, arith}
use Rattle.std.proofs.lemmas.List.Elements.{All-cons, All-nil}
use Rattle.message.specs.Reading.{Read, ◌>>=◌, meant, many_at}

pub and_ok : (a b : Bool) → (a && b) ≡ true → (a ≡ true) × (b ≡ true)
and_ok true true e = (refl, refl)
and_ok true false e = absurd cc
and_ok false true e = absurd cc
and_ok false false e = absurd cc

abbrev pub given : {A : Type 0} → A → Result A ℕ
given x = Ok x

pub ok_same : {A : Type 0} (x y : A) → given x ≡ given y → x ≡ y
ok_same x y e = cc

-- a field was read, and what stands behind it
pub bind_ok : {A B : Type 0} (r : Read A) (f : A × List ℕ → Result B ℕ) (y : B) → (r >>= f) ≡ Ok y → (x : A × List ℕ) × (r ≡ Ok x) × (f x ≡ Ok y)
bind_ok (Ok x) f y e = (x, refl, e)
bind_ok (Err left) f y e = absurd cc

-- the field meant something
pub meant_ok : {A : Type 0} (field : List ℕ) (o : Option A) (rest : List ℕ) (y : A × List ℕ) → meant field o rest ≡ Ok y → (o ≡ Some y.0) × (rest ≡ y.1)
meant_ok field None rest y e = absurd cc
meant_ok field (Some x) rest y e = let same = ok_same _ _ e in (ap (λ p. Some p.0) same, ap (λ p. p.1) same)

-- all of the items that were read are of the kind that one is
pub many_all : {A S : Type 0} (P : A → Type 0) (item : S → List ℕ → Read A) (seen : A → S) → ((s : S) (bytes : List ℕ) (x : A × List ℕ) → item s bytes ≡ Ok x → P x.0)
    → (count : ℕ) (before : S) (bytes : List ℕ) (y : List A × List ℕ) → many_at item seen count before bytes ≡ Ok y → (length y.0 ≡ count) × All P y.0
unfolding many_at
many_all P item seen each zero before bytes y e =
    let same = ok_same _ _ e in
    rw (← same) (refl, All-nil P)
many_all P item seen each (suc count) before bytes y e =
    let first = bind_ok (item before bytes) _ y e in
    let more = bind_ok (many_at item seen count (seen first.0.0) first.0.1) _ y first.2 in
    let all = many_all P item seen each count (seen first.0.0) first.0.1 more.0 more.1 in
    let same = ok_same _ _ more.2 in
    rw (← same) (omega (arith, all.0), All-cons P first.0.0 more.0.0 (each before bytes first.0 first.1) all.1)
