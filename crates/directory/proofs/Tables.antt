-- Slots with their index and hint: what each change leaves.
use Rattle.std.proofs.Common.{◌≡◌, ◌+◌, ◌<◌, ◌≤◌, ◌++◌, ℕ, zero, suc, List, [], ◌∷◌, length, get_or, slice_index, Option, None, Some, refl, sym, ap, subst, ◌∙◌, arith, inl, inr, length-append, length-take, take}
use Rattle.std.specs.List.{insert, remove, slice_set}
use Rattle.std.proofs.lemmas.Bool.{cases_eq}
use Rattle.std.proofs.lemmas.List.{get_or-set_same, get_or_default, get_or-set_other, length-set}
use Rattle.cal_base.specs.Limits.{directory_entries}
use Rattle.cal_base.specs.declared.identity.Ino.{Ino}
use Rattle.directory.specs.declared.entry.DirEntry.{DirEntry}
use Rattle.directory.specs.Block.{entry_at}
use Rattle.directory.specs.Directory.{IsAbsent, StandsAt, entry_count, with_ino}
use Rattle.directory.specs.Index.{IsGap, IsHint, IsIndex, IsTable, IsTaken, name_at, name_of}
use Rattle.directory.proofs.Order.{gap_absent, taken_within}
use Rattle.directory.proofs.Changes.{entry_at-push, entry_count-fewer, entry_count-most, entry_count-push, index_change, index_empty, index_fill, same_hint, same_index}

-- no slots
pub table_empty : (slots : List (Option DirEntry)) (index : List ℕ) → slots ≡ [] → index ≡ [] → IsTable slots index 0
unfolding entry_count
table_empty slots index no_slots no_index = subst (λ (xs : List (Option DirEntry)). IsTable xs index 0) (sym no_slots) (subst (λ (ns : List ℕ). IsTable [] ns 0) (sym no_index) none)
  where
    none : IsTable [] [] 0
    none = record {
      index = record { taken = λ at within. absurd (omega arith); sorted = λ i j less within. absurd (omega arith); whole = λ place taken. absurd (taken refl); count = refl };
      hint = λ place below. absurd (omega arith);
      few = omega arith;
    }

-- there are no more entries than slots
pub index_few : (slots : List (Option DirEntry)) (index : List ℕ) (hint : ℕ) → IsTable slots index hint → length index ≤ directory_entries
index_few slots index hint t = (let few = t.few in let count = t.index.count in let most = entry_count-most slots in omega arith)

-- one empty slot more
pub table_push : (slots new : List (Option DirEntry)) (index : List ℕ) (hint : ℕ) → IsTable slots index hint → length slots < directory_entries → new ≡ slots ++ None ∷ [] → IsTable new index hint
table_push slots new index hint t room is = subst (λ (xs : List (Option DirEntry)). IsTable xs index hint) (sym is) (record {
  index = same_index slots (slots ++ None ∷ []) index (entry_at-push slots) (entry_count-push slots) t.index;
  hint = same_hint slots (slots ++ None ∷ []) hint (entry_at-push slots) t.hint;
  few = omega (arith, length-append slots (None ∷ []));
})

-- a hint stays as an entry is put or changed, and goes on by one at that place
pub hint_fill : (slots : List (Option DirEntry)) (place hint : ℕ) (e : DirEntry) → IsHint slots hint → place < length slots → IsHint (slice_set slots place (Some e)) hint
hint_fill slots place hint e h within other below none = elim (cases_eq other place) [
  | inl same ↦ (let both : Some e ≡ None = sym (get_or-set_same slots place (Some e) None within) ∙ ap (entry_at (slice_set slots place (Some e))) (sym same) ∙ none in cc)
  | inr apart ↦ h other below (sym (get_or-set_other slots place other (Some e) None apart) ∙ none)
]

pub hint_next : (slots : List (Option DirEntry)) (place hint : ℕ) (e : DirEntry) → IsHint slots hint → place < length slots → place ≡ hint → IsHint (slice_set slots place (Some e)) (hint + 1)
hint_next slots place hint e h within here other below none = elim (cases_eq other place) [
  | inl same ↦ (let both : Some e ≡ None = sym (get_or-set_same slots place (Some e) None within) ∙ ap (entry_at (slice_set slots place (Some e))) (sym same) ∙ none in cc)
  | inr apart ↦ h other (omega arith) (sym (get_or-set_other slots place other (Some e) None apart) ∙ none)
]

-- one entry more
pub table_fill : (now slots seen : List (Option DirEntry)) (index listed next : List ℕ) (name : List ℕ) (hint next_hint place at : ℕ) (e : DirEntry) → IsTable slots index hint
    → slots ≡ now → place < length now → entry_at now place ≡ None → seen ≡ slots → listed ≡ index → name ≡ e.name → IsGap seen listed name at → next ≡ insert index at place
    → IsHint (slice_set slots place (Some e)) next_hint → IsTable (slice_set slots place (Some e)) next next_hint
table_fill now slots seen index listed next name hint next_hint place at e t view within none saw list named gap put hinted =
    let inside : place < length slots = subst (λ (xs : List (Option DirEntry)). place < length xs) (sym view) within in
    let free : entry_at slots place ≡ None = ap (λ (xs : List (Option DirEntry)). entry_at xs place) view ∙ none in
    let fits : IsGap slots index e.name at = subst (λ (xs : List (Option DirEntry)). IsGap xs index e.name at) saw (subst (λ (ns : List ℕ). IsGap seen ns e.name at) list (subst (λ (ns : List ℕ). IsGap seen listed ns at) named gap)) in
    subst (λ (ns : List ℕ). IsTable (slice_set slots place (Some e)) ns next_hint) (sym put) (record {
      index = index_fill slots index place at e t.index inside free fits;
      hint = hinted;
      few = (let few = t.few in let size = length-set slots place (Some e) in omega arith);
    })

-- there is room in the index for one entry more
pub room_in_index : (now slots : List (Option DirEntry)) (index : List ℕ) (hint place : ℕ) → IsTable slots index hint → slots ≡ now → place < length now → entry_at now place ≡ None → length index < 1024
room_in_index now slots index hint place t view within none =
    let fewer = entry_count-fewer slots place (subst (λ (xs : List (Option DirEntry)). place < length xs) (sym view) within) (ap (λ (xs : List (Option DirEntry)). entry_at xs place) view ∙ none) in
    let few = t.few in
    let count = t.index.count in
    omega arith

-- one entry less: none of the slots below the lesser hint is empty
pub hint_empty : (slots : List (Option DirEntry)) (place hint next : ℕ) → IsHint slots hint → next ≤ hint → next ≤ place → IsHint (slice_set slots place None) next
hint_empty slots place hint next h lower below other less none = h other (omega arith) (sym (get_or-set_other slots place other None None (λ same. omega arith)) ∙ none)

pub table_empty_slot : (slots : List (Option DirEntry)) (index listed next : List ℕ) (hint next_hint at place : ℕ) → IsTable slots index hint
    → listed ≡ index → at < length listed → slice_index listed at ≡ place → next ≡ remove index at → next_hint ≤ hint → next_hint ≤ place
    → IsTable (slice_set slots place None) next next_hint
table_empty_slot slots index listed next hint next_hint at place t list inside is gone lower below =
    let within : at < length index = subst (λ (ns : List ℕ). at < length ns) list inside in
    let ranked : slice_index index at ≡ place = ap (λ (ns : List ℕ). slice_index ns at) (sym list) ∙ is in
    let indexed : IsIndex (slice_set slots place None) (remove index at) = subst (λ (n : ℕ). IsIndex (slice_set slots n None) (remove index at)) ranked (index_empty slots index at t.index within) in
    subst (λ (ns : List ℕ). IsTable (slice_set slots place None) ns next_hint) (sym gone) (record {
      index = indexed;
      hint = hint_empty slots place hint next_hint t.hint lower below;
      few = (let few = t.few in let size = length-set slots place None in omega arith);
    })

-- an entry is another of the same name
pub table_change : (slots : List (Option DirEntry)) (index : List ℕ) (hint place : ℕ) (e : DirEntry) → IsTable slots index hint → IsTaken slots place → e.name ≡ name_at slots place
    → IsTable (slice_set slots place (Some e)) index hint
table_change slots index hint place e t taken named = record {
  index = index_change slots index place e t.index taken named;
  hint = hint_fill slots place hint e t.hint (taken_within slots place taken);
  few = (let few = t.few in let size = length-set slots place (Some e) in omega arith);
}

-- what is found stands there
pub gap_is_absent : (now slots seen : List (Option DirEntry)) (index listed name : List ℕ) (hint at : ℕ) → IsTable slots index hint → slots ≡ now → seen ≡ slots → listed ≡ index
    → IsGap seen listed name at → IsAbsent now name
gap_is_absent now slots seen index listed name hint at t view saw list gap =
    subst (λ (xs : List (Option DirEntry)). IsAbsent xs name) view
    (gap_absent slots index name at t.index (subst (λ (xs : List (Option DirEntry)). IsGap xs index name at) saw (subst (λ (ns : List ℕ). IsGap seen ns name at) list gap)))

-- a name's inode is another
pub table_set_ino : (now slots : List (Option DirEntry)) (index name : List ℕ) (hint place : ℕ) (ino : Ino) (got new : Option DirEntry) → IsTable slots index hint → slots ≡ now → StandsAt now name place
    → got ≡ get_or slots place got → new ≡ with_ino ino got → IsTable (slice_set slots place new) index hint
table_set_ino now slots index name hint place ino got new t view stands read is =
    let there : entry_at slots place ≡ Some stands.entry = ap (λ (xs : List (Option DirEntry)). entry_at xs place) view ∙ stands.there in
    let taken : IsTaken slots place = λ (none : entry_at slots place ≡ None). (let both : Some stands.entry ≡ None = sym there ∙ none in cc) in
    let old : got ≡ Some stands.entry = read ∙ get_or_default slots place got None (taken_within slots place taken) ∙ there in
    subst (λ (x : Option DirEntry). IsTable (slice_set slots place x) index hint) (sym (is ∙ ap (with_ino ino) old))
    (table_change slots index hint place (record stands.entry { ino = ino }) t taken (sym (ap name_of there)))

-- an empty slot at the end is no entry
pub entry_at-take : (slots : List (Option DirEntry)) (last place : ℕ) → last + 1 ≡ length slots → entry_at slots last ≡ None → entry_at (take last slots) place ≡ entry_at slots place
entry_at-take [] last place size none = absurd (omega arith)
entry_at-take (x ∷ []) zero zero size none = sym none
entry_at-take (x ∷ []) zero (suc place) size none = refl
entry_at-take (x ∷ y ∷ slots) zero place size none = absurd (omega arith)
entry_at-take (x ∷ slots) (suc last) zero size none = refl
entry_at-take (x ∷ slots) (suc last) (suc place) size none = entry_at-take slots last place (omega arith) none

pub entry_count-take : (slots : List (Option DirEntry)) (last : ℕ) → last + 1 ≡ length slots → entry_at slots last ≡ None → entry_count (take last slots) ≡ entry_count slots
unfolding entry_count
entry_count-take [] last size none = absurd (omega arith)
entry_count-take (None ∷ []) zero size none = refl
entry_count-take (Some e ∷ []) zero size none = (let both : Some e ≡ None = none in cc)
entry_count-take (x ∷ y ∷ slots) zero size none = absurd (omega arith)
entry_count-take (None ∷ slots) (suc last) size none = entry_count-take slots last (omega arith) none
entry_count-take (Some e ∷ slots) (suc last) size none = ap suc (entry_count-take slots last (omega arith) none)

pub table_pop : (slots new : List (Option DirEntry)) (index : List ℕ) (hint next_hint last : ℕ) → IsTable slots index hint → last + 1 ≡ length slots → entry_at slots last ≡ None
    → new ≡ take last slots → next_hint ≤ hint → IsTable new index next_hint
table_pop slots new index hint next_hint last t size none is lower = subst (λ (xs : List (Option DirEntry)). IsTable xs index next_hint) (sym is) (record {
  index = same_index slots (take last slots) index (λ place. entry_at-take slots last place size none) (entry_count-take slots last size none) t.index;
  hint = λ place below. same_hint slots (take last slots) hint (λ other. entry_at-take slots last other size none) t.hint place (omega arith);
  few = (let few = t.few in omega (arith, length-take last slots));
})

-- what is emptied at the end and taken away leaves the slots before
pub take_emptied : (slots : List (Option DirEntry)) (last : ℕ) (x : Option DirEntry) → take last (slice_set slots last x) ≡ take last slots
take_emptied [] zero x = refl
take_emptied [] (suc last) x = refl
take_emptied (y ∷ slots) zero x = refl
take_emptied (y ∷ slots) (suc last) x = ap (λ (xs : List (Option DirEntry)). y ∷ xs) (take_emptied slots last x)

-- what is put into a new slot stands at the end
pub put_last : (slots : List (Option DirEntry)) (x y : Option DirEntry) → slice_set (slots ++ x ∷ []) (length slots) y ≡ slots ++ y ∷ []
put_last [] x y = refl
put_last (z ∷ slots) x y = ap (λ (xs : List (Option DirEntry)). z ∷ xs) (put_last slots x y)

pub table_popped : (now slots new : List (Option DirEntry)) (index : List ℕ) (hint next_hint last : ℕ) → IsTable slots index hint → slots ≡ slice_set now last None → last + 1 ≡ length now
    → new ≡ take last slots → next_hint ≤ hint → IsTable new index next_hint
table_popped now slots new index hint next_hint last t is size popped lower =
    let same : length slots ≡ length now = ap length is ∙ length-set now last None in
    table_pop slots new index hint next_hint last t (omega arith) (ap (λ (xs : List (Option DirEntry)). entry_at xs last) is ∙ get_or-set_same now last None None (omega arith)) popped lower
