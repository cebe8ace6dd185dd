-- Entries that ascend by name, and where a search by halves finds one.
use Rattle.std.proofs.Common.{◌≡◌, ◌≢◌, ℕ, ◌<◌, ◌≤◌, Bool, true, false, nat_eq, List, [], ◌∷◌, ◌++◌, length, get_or, Some, None, refl, sym, ap, subst, ◌∙◌, arith, inl, inr}
use Rattle.std.specs.List.{find, slice_get}
use Rattle.std.specs.List.Sorted.{IsNonDecreasingBy, IsPartitionPoint}
use Rattle.std.specs.Ordering.{nat_cmp, ordering_index, ordering_reverse}
use Rattle.std.specs.Cmp.Lexicographic.{pointwise, slice_cmp}
use Rattle.std.specs.FinMap.{nat_cmp-IsAntisymmetric, slice_cmp-IsAntisymmetric}
use Rattle.std.specs.declared.cmp.Ordering.{Ordering}
use Rattle.std.specs.declared.cmp.Ordering.TheVariants.{Less, Equal, Greater}
use Rattle.std.proofs.lemmas.Bool.{cases_lt}
use Rattle.std.specs.Bool.{Decides}
use Rattle.std.proofs.lemmas.Cmp.{nat_list_cmp_total, tied_itself}
use Rattle.std.proofs.lemmas.List.Folds.{find_at}
use Rattle.std.proofs.lemmas.List.Sums.{position_or_len_is}
use Rattle.std.proofs.lemmas.Option.{slice_get-get_or, slice_get_past}
use Rattle.std.proofs.lemmas.Slice.Eq.{bytes_eq-Decides}
use Rattle.cal_base.specs.declared.directory_entry.DirectoryEntry.{DirectoryEntry}
use Rattle.tree_law.specs.Entries.{AscendByName, IsBefore}
use Rattle.tree_law.proofs.EntryOrder.{before-trans}

-- no name comes before itself
before-apart : {a b : List ℕ} → IsBefore a b → a ≢ b
before-apart {a} {b} p same =
    let ties : slice_cmp nat_cmp a a ≡ Equal = tied_itself nat_list_cmp_total a in
    let less : slice_cmp nat_cmp a a ≡ Less = ap (slice_cmp nat_cmp a) same ∙ p.less in
    cc

-- nor after itself
after-apart : (a b : List ℕ) → slice_cmp nat_cmp a b ≡ Greater → a ≢ b
after-apart a b more same =
    let less : IsBefore b a = record { less = nat_list_cmp_total.antisymm b a ∙ ap ordering_reverse more } in
    before-apart less (sym same)

-- names that tie are the same
same_name : (a b : List ℕ) → slice_cmp nat_cmp a b ≡ Equal → a ≡ b
same_name a b e = slice_cmp-IsAntisymmetric nat_cmp-IsAntisymmetric a b e

not_so : {P : Type 0} (b : Bool) → Decides b P → (P → ⊥) → b ≡ false
not_so true decides bad = absurd (bad (decides.0 refl))
not_so false decides bad = refl

-- the test of names fails where they differ, and passes where they are one
other_name : (a name : List ℕ) → a ≢ name → pointwise nat_eq a name ≡ false
other_name a name apart = not_so _ (bytes_eq-Decides a name) apart

this_name : (a name : List ℕ) → a ≡ name → pointwise nat_eq a name ≡ true
this_name a name same = (bytes_eq-Decides a name).1 same

at_most_two : (o : Ordering) → ordering_index o ≤ 2
at_most_two Less = omega arith
at_most_two Equal = omega arith
at_most_two Greater = omega arith

-- of two names in order, the first stands no higher to a third
rises : (a b name : List ℕ) (o : Ordering) → IsBefore a b → slice_cmp nat_cmp b name ≡ o → ordering_index (slice_cmp nat_cmp a name) ≤ ordering_index (slice_cmp nat_cmp b name)
rises a b name Less p e = (let less = before-trans p (record { less = e }) in rw (less.less, e) (omega arith))
rises a b name Equal p e = (let less : slice_cmp nat_cmp a name ≡ Less = subst (λ (x : List ℕ). slice_cmp nat_cmp a x ≡ Less) (same_name b name e) p.less in rw (less, e) (omega arith))
rises a b name Greater p e = rw e (at_most_two (slice_cmp nat_cmp a name))

-- how the names stand to another one rises
names_rise : (entries : List DirectoryEntry) (name : List ℕ) → AscendByName entries → IsNonDecreasingBy (λ entry. ordering_index (slice_cmp nat_cmp entry.name name)) entries
names_rise entries name up i j other order within = elim (cases_lt i j) [
  | inl lower ↦ rises (get_or entries i other).name (get_or entries j other).name name _ (up.ascending i j other lower within) refl
  | inr else' ↦ (let same : i ≡ j = omega arith in rw same (omega arith))
]

-- the entry with the name at a place is the first one
pub found_at : (entries : List DirectoryEntry) (name : List ℕ) (place : ℕ) (other : DirectoryEntry) → AscendByName entries → place < length entries → slice_cmp nat_cmp (get_or entries place other).name name ≡ Equal
    → Some (get_or entries place other) ≡ find (λ entry. pointwise nat_eq entry.name name) entries
found_at entries name place other up within ties =
    let named = same_name (get_or entries place other).name name ties in
    let first = position_or_len_is (λ (entry : DirectoryEntry). pointwise nat_eq entry.name name) entries place other (omega arith)
    (λ k below. other_name (get_or entries k other).name name (λ same. before-apart (up.ascending k place other below within) (same ∙ sym named)))
    (λ _. this_name (get_or entries place other).name name named) in
    sym (find_at (λ entry. pointwise nat_eq entry.name name) entries ∙ ap (slice_get entries) first ∙ slice_get-get_or entries place other within)

-- a name with a gap isn't there
pub not_found : (entries : List DirectoryEntry) (name : List ℕ) (gap : ℕ) → AscendByName entries
    → (IsNonDecreasingBy (λ (entry : DirectoryEntry). ordering_index (slice_cmp nat_cmp entry.name name)) entries → IsPartitionPoint (λ (entry : DirectoryEntry). slice_cmp nat_cmp entry.name name ≡ Less) (λ (entry : DirectoryEntry). slice_cmp nat_cmp entry.name name ≡ Greater) entries gap)
    → None ≡ find (λ entry. pointwise nat_eq entry.name name) entries
not_found [] name gap up searched = refl
not_found (other ∷ rest) name gap up searched =
    let entries = other ∷ rest in
    let parted = searched (names_rise entries name up) in
    let first = position_or_len_is (λ (entry : DirectoryEntry). pointwise nat_eq entry.name name) entries (length entries) other (omega arith)
    (λ k within. other_name (get_or entries k other).name name (elim (cases_lt k gap) [
      | inl lower ↦ (let less = parted.0 k other (omega arith) lower in before-apart (record { less = less }))
      | inr higher ↦ after-apart (get_or entries k other).name name (parted.1 k other (omega arith) within)
    ]))
    (λ bad. absurd (omega (arith, bad))) in
    sym (find_at (λ entry. pointwise nat_eq entry.name name) entries ∙ ap (slice_get entries) first ∙ slice_get_past entries (length entries) (omega arith))

-- one entry ascends
pub one_ascends : (old new : List DirectoryEntry) (entry : DirectoryEntry) → old ≡ [] → new ≡ old ++ entry ∷ [] → AscendByName new
one_ascends old new entry none more =
    let one : length new ≡ 1 = ap length (more ∙ ap (λ entries. entries ++ entry ∷ []) none) in
    record { ascending = λ i j other lower within. absurd (omega (arith, one)) }

-- so do none
pub none_ascend : AscendByName []
none_ascend = record { ascending = λ i j other lower within. absurd (omega (arith, within)) }
