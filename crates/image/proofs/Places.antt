-- Places of a directory's slots: they fit two bytes, and that of a name is where it stands.
use Rattle.std.proofs.Common.{◌≡◌, ◌≤◌, ◌<◌, ℕ, zero, suc, true, false, List, [], ◌∷◌, length, nat_eq, nat_lt, Option, Some, None, get_or, slice_set, refl, sym, ap, ◌∙◌, subst, inl, inr, arith, if◌then◌else◌, Fits, w16}
use Rattle.std.specs.Cmp.Lexicographic.{pointwise}
use Rattle.std.specs.List.{position}
use Rattle.std.proofs.lemmas.Bool.{cases_lt}
use Rattle.std.proofs.lemmas.Bool.Decides.{Decides-eqb, nat_tests}
use Rattle.std.proofs.lemmas.List.{get_or-set_same}
use Rattle.std.proofs.lemmas.List.Quantifiers.{position-Some}
use Rattle.std.proofs.lemmas.Slice.Eq.{slice_eq-Decides}
use Rattle.directory.specs.Block.{entry_at}
use Rattle.directory.specs.Directory.{IsAbsent, IsDirectory, StandsAt, first_empty}
use Rattle.directory.specs.declared.entry.DirEntry.{DirEntry}
use Rattle.tree_law.specs.declared.rename.Move.{Move}
use Rattle.volume.specs.Volume.{Slots, Volume, slots_of}
use Rattle.volume_edit.specs.Edit.{with_left}
use Rattle.volume_plan.specs.Plans.{grows, is_entry_of, leaving_of, place_of, place_or, slots_without}
use Rattle.volume_plan.proofs.EmptySlots.{empty_within, emptied_stays}
use Rattle.volume_plan.proofs.EditParts.{get_past}
use Rattle.volume_plan.proofs.NamesOf.{place_of-stands, taken_below}

pub first_fits : (slots : Slots) (place : ℕ) → place ≡ first_empty slots → IsDirectory slots → Fits w16 place
first_fits slots place is d = let most = empty_within slots in let few = d.few in omega arith

pub place_fits : (slots : Slots) (name : List ℕ) (place : ℕ) → IsDirectory slots → StandsAt slots name place → Fits w16 place
place_fits slots name place d s = let below = taken_below slots place s.entry s.there in let few = d.few in omega arith

pub place_is : (slots : Slots) (name : List ℕ) (place : ℕ) → IsDirectory slots → StandsAt slots name place → place ≡ place_of slots name
place_is slots name place d s = sym (place_of-stands slots name place d.distinct s)

record NamedEntry (name : List ℕ) (o : Option DirEntry) : Type 0 where
  entry : DirEntry
  there : o ≡ Some entry
  named : entry.name ≡ name

-- a name that doesn't stand has place 0
entry_named : (name : List ℕ) (o : Option DirEntry) → is_entry_of name o ≡ true → NamedEntry name o
entry_named name (Some e) is = record { entry = e; there = refl; named = (slice_eq-Decides Decides-eqb e.name name (pointwise nat_eq e.name name) refl).0 is }
entry_named name None is = absurd (cc)

pub absent_place : (slots : Slots) (name : List ℕ) → IsAbsent slots name → 0 ≡ place_of slots name
absent_place slots name absent =
    elim (position (is_entry_of name) slots) as (λ o. position (is_entry_of name) slots ≡ o → 0 ≡ place_or o) [
      | None ↦ λ e. refl
      | Some place ↦ λ e. (
          let found = position-Some (is_entry_of name) slots place None e in
          let n = entry_named name (entry_at slots place) found.1 in
          absurd (absent place n.entry n.there n.named))
    ] refl

-- the first empty slot after one was emptied
emptied_first : (slots : Slots) (place : ℕ) → place < length slots → first_empty (slice_set slots place None) ≡ (if nat_lt place (first_empty slots) then place else first_empty slots)
unfolding first_empty
emptied_first [] place within = absurd (omega arith)
emptied_first (None ∷ slots) zero within = refl
emptied_first (None ∷ slots) (suc place) within = grind (arith, nat_tests)
emptied_first (Some e ∷ slots) zero within = grind (arith, nat_tests)
emptied_first (Some e ∷ slots) (suc place) within =
    let rest = emptied_first slots place (omega arith) in
    grind (arith, nat_tests)

-- a directory with slots is one of the volume's, and its slots without the entry are these
emptied_at : (v : Volume) (move : Move) (name : List ℕ) → move.from.0 ≡ move.to.0 → place_of (slots_of v move.from.0) name < length (slots_of v move.from.0)
    → slots_without v move name ≡ slice_set (slots_of v move.to.0) (place_of (slots_of v move.to.0) name) None
emptied_at v move name same within =
    subst (λ (k : ℕ). get_or (with_left v.directories (Some (leaving_of v move.from name))) k [] ≡ slice_set (slots_of v k) (place_of (slots_of v k) name) None) same
    (elim (cases_lt move.from.0 (length v.directories)) [
      | inl below ↦ get_or-set_same v.directories move.from.0 (slice_set (slots_of v move.from.0) (place_of (slots_of v move.from.0) name) None) [] below
      | inr past ↦ (
          let none : slots_of v move.from.0 ≡ [] = get_past v.directories move.from.0 [] past in
          let long = ap (λ (s : Slots). length s) none in
          absurd (omega arith))
    ])

-- where an entry moves within its directory it lands in its own slot, or in an empty one before it; no block is added
pub record LandsHere (v : Volume) (move : Move) (name : List ℕ) (place first : ℕ) : Type 0 where
  pub before : place < first → place ≡ first_empty (slots_without v move name)
  pub after : first ≤ place → first ≡ first_empty (slots_without v move name)
  pub adds : false ≡ grows (slots_without v move name)

pub lands_here : (v : Volume) (move : Move) (name : List ℕ) (place first : ℕ) → move.from.0 ≡ move.to.0 → place_of (slots_of v move.from.0) name < length (slots_of v move.from.0)
    → place ≡ place_of (slots_of v move.to.0) name → first ≡ first_empty (slots_of v move.to.0) → LandsHere v move name place first
lands_here v move name place first same within is first_is =
    let at = emptied_at v move name same within in
    let inside : place_of (slots_of v move.to.0) name < length (slots_of v move.to.0) = subst (λ (k : ℕ). place_of (slots_of v k) name < length (slots_of v k)) same within in
    let one = emptied_first (slots_of v move.to.0) (place_of (slots_of v move.to.0) name) inside in
    let there : first_empty (slots_without v move name) ≡ first_empty (slice_set (slots_of v move.to.0) (place_of (slots_of v move.to.0) name) None) = ap first_empty at in
    record {
      before = λ below. grind (arith, nat_tests);
      after = λ past. grind (arith, nat_tests);
      adds = sym (ap grows at ∙ emptied_stays (slots_of v move.to.0) (place_of (slots_of v move.to.0) name) inside);
    }
