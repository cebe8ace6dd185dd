-- What holds at each moment of some writes, within each of them too.
use Rattle.std.proofs.Common.{◌≡◌, ◌≢◌, ◌⊎◌, ℕ, zero, suc, Bool, true, false, if◌then◌else◌, ◌&&◌, List, [], ◌∷◌, ◌++◌, Option, Some, None, refl, sym, ap, ◌∙◌, subst, inl, inr}
use Rattle.std.specs.List.{slice_set}
use Rattle.std.proofs.lemmas.Bool.{ne_eqb}
use Rattle.journal.specs.Layout.{opens}
use Rattle.shared_disk.specs.Sectors.{written, left_of}
use Rattle.journal.specs.Commit.{opens_gate, opened}

-- every write is to a sector that has this property
abbrev pub Each : (ℕ → Type 0) → List (ℕ × List ℕ) → Type 0
Each P [] = Unit {0}
Each P (w ∷ ws) = P w.0 × Each P ws

-- one of the writes is to that sector
abbrev pub Among : ℕ → List (ℕ × List ℕ) → Type 0
Among i [] = ⊥
Among i (w ∷ ws) = (i ≡ w.0) ⊎ Among i ws

-- whether the gate was opened, after a write
abbrev pub flag : Bool → ℕ → List ℕ → Bool
flag b at bytes = if opens_gate at bytes then true else b

abbrev pub flagged : Bool → List (ℕ × List ℕ) → Bool
flagged b [] = b
flagged b (w ∷ ws) = flagged (flag b w.0 w.1) ws

-- P holds at every moment of the writes, within each of them too, with whether the gate was opened
abbrev pub Throughout : (Bool → List (List ℕ) → Type 0) → Bool → List (List ℕ) → List (ℕ × List ℕ) → Type 0
Throughout P b s [] = P b s
Throughout P b s (w ∷ ws) = P b s × ((t : List ℕ) → P (flag b w.0 t) (slice_set s w.0 t)) × Throughout P (flag b w.0 w.1) (slice_set s w.0 w.1) ws

flagged-cut : (P : Bool → List (List ℕ) → Type 0) (ws : List (ℕ × List ℕ)) (b : Bool) (s : List (List ℕ)) → Throughout P b s ws → (k : ℕ) (t : Option (List ℕ)) → P (flagged b (left_of ws k t)) (written s (left_of ws k t))
flagged-cut P [] b s h k t = h
flagged-cut P (w ∷ ws) b s h zero None = h.0
flagged-cut P (w ∷ ws) b s h zero (Some t) = h.1 t
flagged-cut P (w ∷ ws) b s h (suc k) t = flagged-cut P ws (flag b w.0 w.1) (slice_set s w.0 w.1) h.2 k t

pub choice_true : (o : Bool) → (if o then true else true) ≡ true
choice_true true = refl
choice_true false = refl

flagged-true : (ws : List (ℕ × List ℕ)) → flagged true ws ≡ true
flagged-true [] = refl
flagged-true (w ∷ ws) = ap (λ (b : Bool). flagged b ws) (choice_true (opens_gate w.0 w.1)) ∙ flagged-true ws

flag-false : (o : Bool) (ws : List (ℕ × List ℕ)) → flagged true ws ≡ true → flagged false ws ≡ opened ws → flagged (if o then true else false) ws ≡ (if o then true else opened ws)
flag-false true ws a b = a
flag-false false ws a b = b

flagged-false : (ws : List (ℕ × List ℕ)) → flagged false ws ≡ opened ws
flagged-false [] = refl
flagged-false (w ∷ ws) = flag-false (opens_gate w.0 w.1) ws (flagged-true ws) (flagged-false ws)

-- a cut, with whether one of the writes made opened the gate
pub at_cut : (P : Bool → List (List ℕ) → Type 0) (s : List (List ℕ)) (ws : List (ℕ × List ℕ)) → Throughout P false s ws → (k : ℕ) (t : Option (List ℕ)) → P (opened (left_of ws k t)) (written s (left_of ws k t))
at_cut P s ws h k t = subst (λ (b : Bool). P b (written s (left_of ws k t))) (flagged-false (left_of ws k t)) (flagged-cut P ws false s h k t)

-- the flag stays: the gate isn't written, or was opened
pub stays : (b : Bool) (i : ℕ) (t : List ℕ) → (i ≢ 1) ⊎ (b ≡ true) → flag b i t ≡ b
stays b i t (inl apart) = subst (λ (e : Bool). (if e && opens t then true else b) ≡ b) (sym (ne_eqb i 1 apart)) refl
stays b i t (inr e) = subst (λ (c : Bool). (if opens_gate i t then true else c) ≡ c) (sym e) (choice_true (opens_gate i t))

-- where all is kept that a write needs and gives, it is kept throughout
pub kept : (R : List (List ℕ) → Type 0) (C : ℕ → Type 0) (b : Bool) → ((i : ℕ) (t : List ℕ) → C i → flag b i t ≡ b) → ((x : List (List ℕ)) (i : ℕ) (t : List ℕ) → C i → R x → R (slice_set x i t)) → (P : Bool → List (List ℕ) → Type 0) → ((x : List (List ℕ)) → R x → P b x)
    → (xs : List (ℕ × List ℕ)) → Each C xs → (ys : List (ℕ × List ℕ)) → (x : List (List ℕ)) → R x → ((y : List (List ℕ)) → y ≡ written x xs → R y → Throughout P b y ys) → Throughout P b x (xs ++ ys)
kept R C b same keep P weaker [] each ys x h rest = rest x refl h
kept R C b same keep P weaker (w ∷ ws) each ys x h rest =
    let torn : (t : List ℕ) → P (flag b w.0 t) (slice_set x w.0 t) = λ t. subst (λ (c : Bool). P c (slice_set x w.0 t)) (sym (same w.0 t each.0)) (weaker _ (keep x w.0 t each.0 h)) in
    let later = kept R C b same keep P weaker ws each.1 ys (slice_set x w.0 w.1) (keep x w.0 w.1 each.0 h) rest in
    (weaker x h, torn, subst (λ (c : Bool). Throughout P c (slice_set x w.0 w.1) (ws ++ ys)) (sym (same w.0 w.1 each.0)) later)

-- a cut of writes before which the gate was opened
pub at_cut_open : (P : Bool → List (List ℕ) → Type 0) (s : List (List ℕ)) (ws : List (ℕ × List ℕ)) → Throughout P true s ws → (k : ℕ) (t : Option (List ℕ)) → P true (written s (left_of ws k t))
at_cut_open P s ws h k t = subst (λ (b : Bool). P b (written s (left_of ws k t))) (flagged-true (left_of ws k t)) (flagged-cut P ws true s h k t)
