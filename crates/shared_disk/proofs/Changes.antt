-- The changes of a disk, one list after another.
use Rattle.std.proofs.Common.{◌≡◌, ◌<◌, ◌+◌, ℕ, zero, suc, List, [], ◌∷◌, ◌++◌, length, Some, None, refl, ap, ◌∙◌, subst, arith, append_assoc, length-append}
use Rattle.std.specs.List.{slice_set}
use Rattle.std.proofs.lemmas.List.{append-nil, length-set}
use Rattle.std.specs.Prelude.{Option}
use Rattle.shared_disk.specs.Sectors.{written, left_of}
use Rattle.shared_disk.specs.Disk.{Disk, KeepsCount, after, written_if_told}

-- a write changes a sector, and no count of them
pub length-written : (writes : List (ℕ × List ℕ)) (s : List (List ℕ)) → length (written s writes) ≡ length s
length-written [] s = refl
length-written (w ∷ ws) s = length-written ws (slice_set s w.0 w.1) ∙ length-set s w.0 w.1

pub keeps_count : (old new : Disk) (made : List (ℕ × List ℕ)) → new ≡ after old made → KeepsCount old new
keeps_count old new made e = λ s told. record {
  sectors = written s made;
  told = ap (λ (d : Disk). d.sectors) e ∙ ap (λ (o : Option (List (List ℕ))). written_if_told o made) told;
  count_is = length-written made s;
}

pub written-append : (s : List (List ℕ)) (xs ys : List (ℕ × List ℕ)) → written (written s xs) ys ≡ written s (xs ++ ys)
written-append s [] ys = refl
written-append s (x ∷ xs) ys = written-append _ xs ys

written_if_told-append : (o : Option (List (List ℕ))) (xs ys : List (ℕ × List ℕ)) → written_if_told (written_if_told o xs) ys ≡ written_if_told o (xs ++ ys)
written_if_told-append None xs ys = refl
written_if_told-append (Some s) xs ys = ap Some (written-append s xs ys)

written_if_told-nil : (o : Option (List (List ℕ))) → written_if_told o [] ≡ o
written_if_told-nil None = refl
written_if_told-nil (Some s) = refl

-- a disk, told field by field
same_disk : (d e : Disk) → d.sectors ≡ e.sectors → d.key ≡ e.key → d.changes ≡ e.changes → d.room ≡ e.room → d ≡ e
same_disk d e a b f g =
    ap (λ (x : Option (List (List ℕ))). record d { sectors = x }) a
    ∙ ap (λ (x : ℕ). record { sectors = e.sectors; key = x; changes = d.changes; room = d.room }) b
    ∙ ap (λ (x : List (ℕ × List ℕ)). record { sectors = e.sectors; key = e.key; changes = x; room = d.room }) f
    ∙ ap (λ (x : ℕ). record { sectors = e.sectors; key = e.key; changes = e.changes; room = x }) g

pub after-append : (d : Disk) (xs ys : List (ℕ × List ℕ)) → after (after d xs) ys ≡ after d (xs ++ ys)
after-append d xs ys = same_disk _ _ (written_if_told-append d.sectors xs ys) refl (append_assoc d.changes xs ys) (omega (arith, length-append xs ys))

pub after-nil : (d : Disk) → after d [] ≡ d
after-nil d = same_disk _ _ (written_if_told-nil d.sectors) refl (append-nil d.changes) (omega arith)

-- a stop within the first writes
pub left_of-front : (xs ys : List (ℕ × List ℕ)) (k : ℕ) (t : Option (List ℕ)) → k < length xs → left_of (xs ++ ys) k t ≡ left_of xs k t
left_of-front [] ys k t h = absurd (omega arith)
left_of-front (x ∷ xs) ys zero None h = refl
left_of-front (x ∷ xs) ys zero (Some t) h = refl
left_of-front (x ∷ xs) ys (suc k) t h = ap (λ (ws : List (ℕ × List ℕ)). x ∷ ws) (left_of-front xs ys k t (omega arith))

-- a stop after the first writes
pub left_of-back : (xs ys : List (ℕ × List ℕ)) (k : ℕ) (t : Option (List ℕ)) → xs ++ left_of ys k t ≡ left_of (xs ++ ys) (length xs + k) t
left_of-back [] ys k t = subst (λ (n : ℕ). left_of ys k t ≡ left_of ys n t) (let e : k ≡ length {A = ℕ × List ℕ} [] + k = omega arith in e) refl
left_of-back (x ∷ xs) ys k t =
    let e : suc (length xs + k) ≡ length (x ∷ xs) + k = omega arith in
    subst (λ (n : ℕ). x ∷ (xs ++ left_of ys k t) ≡ left_of (x ∷ (xs ++ ys)) n t) e (ap (λ (ws : List (ℕ × List ℕ)). x ∷ ws) (left_of-back xs ys k t))
