-- The names of a directory's slots as a finite map: each name that stands, with its inode, and no other.
use Rattle.std.proofs.Common.{◌≡◌, ◌≢◌, ◌<◌, ◌+◌, ◌↔◌, ℕ, zero, suc, Bool, true, false, not, nat_eq, List, [], ◌∷◌, length, Option, Some, None, cond, is_some, refl, sym, ap, subst, ◌∙◌, arith}
use Rattle.std.specs.declared.cmp.Ordering.{Ordering}
use Rattle.std.specs.declared.cmp.Ordering.TheVariants.{Less, Equal, Greater}
use Rattle.std.specs.Ordering.{nat_cmp, eq_by_cmp, is_eq}
use Rattle.std.specs.Cmp.{eq_by_cmp_equiv}
use Rattle.std.specs.Cmp.Lexicographic.{slice_cmp, nat_list_cmp_total, pointwise}
use Rattle.std.specs.List.{position_or_len}
use Rattle.std.specs.FinMap as map
use Rattle.std.proofs.lemmas.Bool.{lt-ltb}
use Rattle.std.proofs.lemmas.Bool.Decides.{Decides-eqb}
use Rattle.std.proofs.lemmas.Slice.Eq.{slice_eq-Decides}
use Rattle.cal_base.specs.declared.identity.Ino.{Ino}
use Rattle.directory.specs.declared.entry.DirEntry.{DirEntry}
use Rattle.directory.specs.Block.{entry_at}
use Rattle.directory.specs.Directory.{AreDistinct, IsAbsent, Names as NamesInode, StandsAt, entry_count}
use Rattle.tree_law.specs.Names.{Names}
use Rattle.volume.specs.Volume.{Slots}
use Rattle.volume_plan.specs.Plans.{is_entry_of, place_of, place_or}
use Rattle.volume_plan.specs.Shown.{names_of}

abbrev pub order : List ℕ → List ℕ → Ordering
order = slice_cmp nat_cmp

abbrev pub entry_of : List ℕ → Ino → DirEntry
entry_of name ino = record { name = name; ino = ino }

-- ---- names that the order doesn't tell apart are one name

pub tied_names : (a b : List ℕ) → eq_by_cmp order a b ≡ true → a ≡ b
tied_names a b is =
    elim (order a b) as (λ o. order a b ≡ o → is_eq o ≡ true → a ≡ b) [
      | Less ↦ λ e t. absurd (cc)
      | Equal ↦ λ e t. map.slice_cmp-IsAntisymmetric map.nat_cmp-IsAntisymmetric a b e
      | Greater ↦ λ e t. absurd (cc)
    ] refl is

pub same_names : (name : List ℕ) → eq_by_cmp order name name ≡ true
same_names name = (eq_by_cmp_equiv nat_list_cmp_total).refl name

pub apart_names : (a b : List ℕ) → b ≢ a → eq_by_cmp order a b ≡ false
apart_names a b apart =
    elim (eq_by_cmp order a b) as (λ t. eq_by_cmp order a b ≡ t → t ≡ false) [
      | true ↦ λ e. absurd (apart (sym (tied_names a b e)))
      | false ↦ λ e. refl
    ] refl

-- two maps with the same look-ups are one
pub one_map : (m n : Names) → ((name : List ℕ) → map.get m name ≡ map.get n name) → m ≡ n
one_map m n is = map.same_map nat_list_cmp_total (map.slice_cmp-IsAntisymmetric map.nat_cmp-IsAntisymmetric) m n is

-- two maps that have the same names for the same inodes are one
pub one_map_by : (m n : Names) → ((name : List ℕ) (ino : Ino) → map.get m name ≡ Some ino → map.get n name ≡ Some ino) → ((name : List ℕ) (ino : Ino) → map.get n name ≡ Some ino → map.get m name ≡ Some ino) → m ≡ n
one_map_by m n there back = one_map m n (λ name. both name (map.get m name) (map.get n name) refl refl)
  where
    both : (name : List ℕ) (x y : Option Ino) → map.get m name ≡ x → map.get n name ≡ y → map.get m name ≡ map.get n name
    both name (Some ino) y p q = p ∙ sym (there name ino p)
    both name None (Some ino) p q = back name ino q ∙ sym q
    both name None None p q = p ∙ sym q

-- ---- one slot more

get_more : (e : DirEntry) (slots : Slots) (name : List ℕ) → map.get (names_of (Some e ∷ slots)) name ≡ cond (eq_by_cmp order name e.name) (Some e.ino) (map.get (names_of slots) name)
unfolding names_of
get_more e slots name = map.get-insert nat_list_cmp_total (names_of slots) e.name e.ino name

get_none : (slots : Slots) (name : List ℕ) → map.get (names_of (None ∷ slots)) name ≡ map.get (names_of slots) name
unfolding names_of
get_none slots name = refl

get_no_slots : (name : List ℕ) → map.get (names_of []) name ≡ None
unfolding names_of
get_no_slots name = map.get-empty order name

distinct_rest : (slot : Option DirEntry) (slots : Slots) → AreDistinct (slot ∷ slots) → AreDistinct slots
distinct_rest slot slots d i j a b at_i at_j same = (let e : suc i ≡ suc j = d (suc i) (suc j) a b at_i at_j same in omega arith)

-- ---- what stands is found, and what is found stands

pub standing_got : (slots : Slots) (name : List ℕ) (place : ℕ) (e : DirEntry) → AreDistinct slots → entry_at slots place ≡ Some e → e.name ≡ name → map.get (names_of slots) name ≡ Some e.ino
standing_got [] name place e d at is = absurd (cc)
standing_got (None ∷ slots) name zero e d at is = absurd (cc)
standing_got (None ∷ slots) name (suc place) e d at is = get_none slots name ∙ standing_got slots name place e (distinct_rest None slots d) at is
standing_got (Some x ∷ slots) name zero e d at is =
    let one : x ≡ e = cc in
    let named : name ≡ x.name = cc in
    get_more x slots name
    ∙ ap (λ (b : Bool). cond b (Some x.ino) (map.get (names_of slots) name)) (subst (λ (other : List ℕ). eq_by_cmp order name other ≡ true) named (same_names name))
    ∙ ap (λ (entry : DirEntry). Some entry.ino) one
standing_got (Some x ∷ slots) name (suc place) e d at is =
    let other : x.name ≢ name = λ same. (let e : 0 ≡ suc place = d 0 (suc place) x e refl at (same ∙ sym is) in omega arith) in
    get_more x slots name
    ∙ ap (λ (b : Bool). cond b (Some x.ino) (map.get (names_of slots) name)) (apart_names name x.name other)
    ∙ standing_got slots name place e (distinct_rest (Some x) slots d) at is

pub names_got : (slots : Slots) (name : List ℕ) (ino : Ino) → AreDistinct slots → NamesInode slots name ino.0 → map.get (names_of slots) name ≡ Some ino
names_got slots name ino d n = standing_got slots name n.place (entry_of name ino) d n.there refl

next_names : (slot : Option DirEntry) (slots : Slots) (name : List ℕ) (ino : ℕ) → NamesInode slots name ino → NamesInode (slot ∷ slots) name ino
next_names slot slots name ino n = record { place = suc n.place; there = n.there }

pub got_names : (slots : Slots) (name : List ℕ) (ino : Ino) → map.get (names_of slots) name ≡ Some ino → NamesInode slots name ino.0
got_names [] name ino is = (let none = get_no_slots name in absurd (cc))
got_names (None ∷ slots) name ino is = next_names None slots name ino.0 (got_names slots name ino (sym (get_none slots name) ∙ is))
got_names (Some e ∷ slots) name ino is =
    elim (eq_by_cmp order name e.name) as (λ b. eq_by_cmp order name e.name ≡ b → cond b (Some e.ino) (map.get (names_of slots) name) ≡ Some ino → NamesInode (Some e ∷ slots) name ino.0) [
      | true ↦ λ t found. (let same : name ≡ e.name = tied_names name e.name t in let one : e.ino ≡ ino = cc in record { place = 0; there = λ i. Some (record { name = sym same i; ino = one i }) })
      | false ↦ λ t found. next_names (Some e) slots name ino.0 (got_names slots name ino found)
    ] refl (sym (get_more e slots name) ∙ is)

pub absent_got : (slots : Slots) (name : List ℕ) → IsAbsent slots name → map.get (names_of slots) name ≡ None
absent_got slots name absent = which (map.get (names_of slots) name) refl
  where
    which : (found : Option Ino) → map.get (names_of slots) name ≡ found → map.get (names_of slots) name ≡ None
    which (Some ino) is = (let n = got_names slots name ino is in absurd (absent n.place (entry_of name ino) n.there refl))
    which None is = is

pub got_absent : (slots : Slots) (name : List ℕ) → AreDistinct slots → map.get (names_of slots) name ≡ None → IsAbsent slots name
got_absent slots name d none place e at same = (let found = standing_got slots name place e d at same in absurd (cc))

pub names_of-get : (slots : Slots) (name : List ℕ) (ino : Ino) → AreDistinct slots → (map.get (names_of slots) name ≡ Some ino) ↔ NamesInode slots name ino.0
names_of-get slots name ino d = (got_names slots name ino, names_got slots name ino d)

pub names_of-none : (slots : Slots) (name : List ℕ) → AreDistinct slots → (map.get (names_of slots) name ≡ None) ↔ IsAbsent slots name
names_of-none slots name d = (got_absent slots name d, absent_got slots name)

-- ---- there are as many names as entries

pub names_of-len : (slots : Slots) → AreDistinct slots → map.len (names_of slots) ≡ entry_count slots
unfolding names_of entry_count
names_of-len [] d = map.len-empty order Ino
names_of-len (None ∷ slots) d = names_of-len slots (distinct_rest None slots d)
names_of-len (Some e ∷ slots) d =
    let rest = names_of-len slots (distinct_rest (Some e) slots d) in
    let absent : IsAbsent slots e.name = λ place other at same. (let both : 0 ≡ suc place = d 0 (suc place) e other refl at (sym same) in omega arith) in
    map.len-insert nat_list_cmp_total (names_of slots) e.name e.ino
    ∙ ap (λ (found : Option Ino). cond (is_some found) (map.len (names_of slots)) (map.len (names_of slots) + 1)) (absent_got slots e.name absent)
    ∙ (omega (arith, rest))

-- ---- the place of a name

is_entry_here : (name : List ℕ) (e : DirEntry) → e.name ≡ name → pointwise nat_eq e.name name ≡ true
is_entry_here name e is = (slice_eq-Decides Decides-eqb e.name name (pointwise nat_eq e.name name) refl).1 is

is_entry_other : (name : List ℕ) (e : DirEntry) → e.name ≢ name → pointwise nat_eq e.name name ≡ false
is_entry_other name e apart =
    elim (pointwise nat_eq e.name name) as (λ b. pointwise nat_eq e.name name ≡ b → b ≡ false) [
      | true ↦ λ t. absurd (apart ((slice_eq-Decides Decides-eqb e.name name (pointwise nat_eq e.name name) refl).0 t))
      | false ↦ λ t. refl
    ] refl

first_place : (slots : Slots) (name : List ℕ) (place : ℕ) (e : DirEntry) → AreDistinct slots → entry_at slots place ≡ Some e → e.name ≡ name → position_or_len (is_entry_of name) slots ≡ place
first_place [] name place e d at is = absurd (cc)
first_place (None ∷ slots) name zero e d at is = absurd (cc)
first_place (None ∷ slots) name (suc place) e d at is = (let rest = first_place slots name place e (distinct_rest None slots d) at is in omega (arith, rest))
first_place (Some x ∷ slots) name zero e d at is =
    let one : x.name ≡ name = cc in
    ap (λ (b : Bool). cond (not b) (1 + position_or_len (is_entry_of name) slots) 0) (is_entry_here name x one)
first_place (Some x ∷ slots) name (suc place) e d at is =
    let other : x.name ≢ name = λ same. (let e : 0 ≡ suc place = d 0 (suc place) x e refl at (same ∙ sym is) in omega arith) in
    ap (λ (b : Bool). cond (not b) (1 + position_or_len (is_entry_of name) slots) 0) (is_entry_other name x other)
    ∙ (let rest = first_place slots name place e (distinct_rest (Some x) slots d) at is in omega (arith, rest))

pub taken_below : (slots : Slots) (place : ℕ) (e : DirEntry) → entry_at slots place ≡ Some e → place < length slots
taken_below [] place e at = absurd (cc)
taken_below (x ∷ slots) zero e at = omega arith
taken_below (x ∷ slots) (suc place) e at = (let rest = taken_below slots place e at in omega arith)

pub place_of-at : (slots : Slots) (name : List ℕ) (place : ℕ) (e : DirEntry) → AreDistinct slots → entry_at slots place ≡ Some e → e.name ≡ name → place_of slots name ≡ place
place_of-at slots name place e d at is =
    let first = first_place slots name place e d at is in
    let below : position_or_len (is_entry_of name) slots < length slots = (let inside = taken_below slots place e at in omega arith) in
    ap (λ (b : Bool). place_or (cond b (Some (position_or_len (is_entry_of name) slots)) None)) (lt-ltb _ _ below) ∙ first

pub place_of-stands : (slots : Slots) (name : List ℕ) (place : ℕ) → AreDistinct slots → StandsAt slots name place → place_of slots name ≡ place
place_of-stands slots name place d s = place_of-at slots name place s.entry d s.there s.named

-- what stands at the place of a name that is found
pub place_of-got : (slots : Slots) (name : List ℕ) (ino : Ino) → AreDistinct slots → map.get (names_of slots) name ≡ Some ino → entry_at slots (place_of slots name) ≡ Some (entry_of name ino)
place_of-got slots name ino d is =
    let n = got_names slots name ino is in
    ap (entry_at slots) (place_of-at slots name n.place (entry_of name ino) d n.there refl) ∙ n.there
