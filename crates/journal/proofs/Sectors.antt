-- The sectors of the volume and of the journal, after writes to either.
use Rattle.std.proofs.Common.{◌≡◌, ◌≢◌, ◌⊎◌, ◌≤◌, ◌<◌, ◌+◌, ◌-◌, ℕ, zero, suc, Bool, true, false, nat_eq, List, [], ◌∷◌, ◌++◌, length, take, drop, replicate, refl, sym, ap, ◌∙◌, subst, inl, inr, arith}
use Rattle.std.specs.List.{slice_set}
use Rattle.std.proofs.lemmas.List.{set-set, set_comm, drop-set-lt, drop-set-add, take-set-le, get_or-set_same, get_or-set_other, set-append_right}
use Rattle.std.proofs.Math.Seq.{take-set-lt}
use Rattle.std.proofs.Math.ListN.{length-set}
use borrow.Author.Tests.{eqb-true, eqb-false}
use Rattle.shared_disk.specs.Sectors.{written}
use Rattle.journal.specs.Layout.{sector, body, outside}
use Rattle.journal.proofs.Moments.{Each, Among}

-- a sector that will be written doesn't matter
overwritten_by : (g : ℕ × List ℕ) (gs : List (ℕ × List ℕ)) (x : List (List ℕ)) (i : ℕ) (t : List ℕ) (b : Bool) → ((y : List (List ℕ)) → Among i gs → written (slice_set y i t) gs ≡ written y gs) → nat_eq i g.0 ≡ b → Among i (g ∷ gs) → written (slice_set (slice_set x i t) g.0 g.1) gs ≡ written (slice_set x g.0 g.1) gs
overwritten_by g gs x i t true again e a =
    ap (λ (y : List (List ℕ)). written y gs) (subst (λ (j : ℕ). slice_set (slice_set x j t) g.0 g.1 ≡ slice_set x g.0 g.1) (sym (eqb-true i g.0 e)) (set-set x g.0 t g.1))
overwritten_by g gs x i t false again e a =
    let apart : i ≢ g.0 = eqb-false i g.0 e in
    ap (λ (y : List (List ℕ)). written y gs) (set_comm x i g.0 t g.1 apart) ∙ again (slice_set x g.0 g.1) (elim a [ inl h ↦ absurd (apart h) | inr m ↦ m ])

pub overwritten : (hs : List (ℕ × List ℕ)) (x : List (List ℕ)) (i : ℕ) (t : List ℕ) → Among i hs → written (slice_set x i t) hs ≡ written x hs
overwritten [] x i t a = absurd a
overwritten (g ∷ gs) x i t a = overwritten_by g gs x i t (nat_eq i g.0) (λ y m. overwritten gs y i t m) refl a

-- a sector of the volume: the head, or one behind the journal's body
abbrev pub IsOutside : ℕ → Type 0
IsOutside i = (i ≡ 0) ⊎ (19 ≤ i)

-- a sector of the journal: the gate, the header or a content
pub record IsInside (i : ℕ) : Type 0 where
  pub low : 1 ≤ i
  pub high : i < 19

-- a write to the journal leaves the volume
pub outside_inside : (x : List (List ℕ)) (i : ℕ) (t : List ℕ) → IsInside i → outside (slice_set x i t) ≡ outside x
outside_inside [] i t h = refl
outside_inside (a ∷ xs) zero t h = let l = h.low in absurd (omega arith)
outside_inside (a ∷ xs) (suc i) t h =
    let high = h.high in
    ap (λ (ys : List (List ℕ)). a ∷ (replicate 18 [] ++ ys)) (drop-set-lt 18 xs i t (omega arith))

behind : (xs : List (List ℕ)) (i : ℕ) (t : List ℕ) → 18 ≤ i → drop 18 (slice_set xs i t) ≡ slice_set (drop 18 xs) (i - 18) t
behind xs i t far = subst (λ (n : ℕ). drop 18 (slice_set xs n t) ≡ slice_set (drop 18 xs) (i - 18) t) (let e : 18 + (i - 18) ≡ i = omega arith in e) (drop-set-add 18 xs (i - 18) t)

-- a write to the volume is one to the volume
pub outside_outside : (x : List (List ℕ)) (i : ℕ) (t : List ℕ) → IsOutside i → outside (slice_set x i t) ≡ slice_set (outside x) i t
outside_outside [] i t h = refl
outside_outside (a ∷ xs) zero t h = refl
outside_outside (a ∷ xs) (suc i) t h = elim h [ inl none ↦ absurd (omega arith) | inr far ↦ far_out a xs i t (omega arith) ]
  where
    far_out : (a : List ℕ) (xs : List (List ℕ)) (i : ℕ) (t : List ℕ) → 18 ≤ i → a ∷ (replicate 18 [] ++ drop 18 (slice_set xs i t)) ≡ a ∷ slice_set (replicate 18 [] ++ drop 18 xs) i t
    far_out a xs i t far =
        ap (λ (ys : List (List ℕ)). a ∷ (replicate 18 [] ++ ys)) (behind xs i t far)
        ∙ ap (λ (ys : List (List ℕ)). a ∷ ys) (sym (set-append_right (replicate 18 []) (drop 18 xs) 18 i t refl far))

pub outside_written : (hs : List (ℕ × List ℕ)) → Each IsOutside hs → (x : List (List ℕ)) → outside (written x hs) ≡ written (outside x) hs
outside_written [] each x = refl
outside_written (h ∷ hs) each x = outside_written hs each.1 (slice_set x h.0 h.1) ∙ ap (λ (y : List (List ℕ)). written y hs) (outside_outside x h.0 h.1 each.0)

-- another sector is as it was
pub sector_other : (x : List (List ℕ)) (i j : ℕ) (t : List ℕ) → j ≢ i → sector (slice_set x i t) j ≡ sector x j
sector_other x i j t apart = get_or-set_other x i j t [] apart

pub sector_same : (x : List (List ℕ)) (i : ℕ) (t : List ℕ) → i < length x → sector (slice_set x i t) i ≡ t
sector_same x i t within = get_or-set_same x i t [] within

pub sector_written : (hs : List (ℕ × List ℕ)) (j : ℕ) → Each (λ i. j ≢ i) hs → (x : List (List ℕ)) → sector (written x hs) j ≡ sector x j
sector_written [] j each x = refl
sector_written (h ∷ hs) j each x = sector_written hs j each.1 (slice_set x h.0 h.1) ∙ sector_other x h.0 j h.1 each.0

pub length_written : (hs : List (ℕ × List ℕ)) (x : List (List ℕ)) → length (written x hs) ≡ length x
length_written [] x = refl
length_written (h ∷ hs) x = length_written hs (slice_set x h.0 h.1) ∙ length-set x h.0 h.1

-- a write to the volume or to the gate leaves the contents
pub body_apart : (x : List (List ℕ)) (i : ℕ) (t : List ℕ) → IsOutside i ⊎ (i ≡ 1) → body (slice_set x i t) ≡ body x
body_apart x i t h = elim h [ inl out ↦ elim out [ inl none ↦ low (omega arith) | inr far ↦ ap (drop 3) (take-set-le 19 x i t far) ] | inr one ↦ low (omega arith) ]
  where
    low : i < 3 → body (slice_set x i t) ≡ body x
    low less = ap (drop 3) (take-set-lt 19 x i t (omega arith)) ∙ drop-set-lt 3 (take 19 x) i t less
