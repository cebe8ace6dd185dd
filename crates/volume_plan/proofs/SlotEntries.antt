-- Slots that are a directory's names are so after an entry comes or goes, and with empty slots behind them.
use Rattle.std.proofs.Common.{◌≡◌, ◌≢◌, ◌<◌, ◌≤◌, ◌++◌, ℕ, zero, suc, Bool, true, false, List, [], ◌∷◌, length, replicate, Option, Some, None, cond, inl, inr, refl, sym, ap, subst, ◌∙◌, arith}
use Rattle.std.proofs.lemmas.Bool.{cases_eq}
use Rattle.std.proofs.lemmas.List.{get_or-set_other, get_or-set_same}
use Rattle.std.specs.List.{slice_set}
use Rattle.std.specs.Ordering.{eq_by_cmp}
use Rattle.std.specs.Cmp.Lexicographic.{nat_list_cmp_total}
use Rattle.std.specs.FinMap as map
use Rattle.cal_base.specs.declared.identity.Ino.{Ino}
use Rattle.directory.specs.declared.entry.DirEntry.{DirEntry}
use Rattle.directory.specs.Block.{entry_at}
use Rattle.directory.specs.Directory.{AreDistinct, IsAbsent, Names as NamesInode, StandsAt, entry_count, first_empty}
use Rattle.inode.specs.declared.inode.Inode.{Inode}
use Rattle.inode.specs.declared.inode.Kind.TheVariants.{Dir}
use Rattle.tree_law.specs.Names.{Names}
use Rattle.volume.specs.Stands.{StandsForDirectory}
use Rattle.volume.specs.Volume.{Slots}
use Rattle.volume_plan.proofs.NamesOf.{apart_names, entry_of, order, same_names, taken_below, tied_names}

-- ---- an entry comes

-- no other name is put out of its place, and the name stands nowhere else
pub record IsPlaceFor (slots : Slots) (place : ℕ) (name : List ℕ) : Type 0 where
  pub within : place < length slots
  pub there : (other : DirEntry) → entry_at slots place ≡ Some other → other.name ≡ name
  pub alone : (q : ℕ) (other : DirEntry) → entry_at slots q ≡ Some other → other.name ≡ name → q ≡ place

entered_here : (slots : Slots) (place : ℕ) (name : List ℕ) (ino : Ino) → place < length slots → NamesInode (slice_set slots place (Some (entry_of name ino))) name ino.0
entered_here slots place name ino within = record { place = place; there = get_or-set_same slots place (Some (entry_of name ino)) None within }

entered_other : (slots : Slots) (place : ℕ) (name n : List ℕ) (ino : Ino) (number : ℕ) → IsPlaceFor slots place name → n ≢ name → NamesInode slots n number → NamesInode (slice_set slots place (Some (entry_of name ino))) n number
entered_other slots place name n ino number p apart stands = record {
  place = stands.place;
  there = get_or-set_other slots place stands.place (Some (entry_of name ino)) None (λ same. apart (p.there (entry_of n (record { 0 = number })) (ap (entry_at slots) (sym same) ∙ stands.there))) ∙ stands.there;
}

-- what the slots name then
data Entered (slots : Slots) (name n : List ℕ) (ino : Ino) (number : ℕ) : Type 0 where
  is_new : n ≡ name → number ≡ ino.0 → Entered slots name n ino number
  is_old : n ≢ name → NamesInode slots n number → Entered slots name n ino number

entered_which : (slots : Slots) (place : ℕ) (name n : List ℕ) (ino : Ino) (number : ℕ) → IsPlaceFor slots place name → NamesInode (slice_set slots place (Some (entry_of name ino))) n number → Entered slots name n ino number
entered_which slots place name n ino number p stands = elim (cases_eq stands.place place) [
  | inl same ↦ (let both : Some (entry_of name ino) ≡ Some (entry_of n (record { 0 = number })) = sym (get_or-set_same slots place (Some (entry_of name ino)) None p.within) ∙ ap (entry_at (slice_set slots place (Some (entry_of name ino)))) (sym same) ∙ stands.there in
      let one : entry_of name ino ≡ entry_of n (record { 0 = number }) = cc in
      is_new (sym (ap (λ (e : DirEntry). e.name) one)) (sym (ap (λ (e : DirEntry). e.ino.0) one)))
  | inr apart ↦ (let before = sym (get_or-set_other slots place stands.place (Some (entry_of name ino)) None apart) ∙ stands.there in
      is_old (λ same. apart (p.alone stands.place (entry_of n (record { 0 = number })) before same)) (record { place = stands.place; there = before }))
]

insert_same : (names : Names) (name n : List ℕ) (ino : Ino) → n ≡ name → map.get (map.insert names name ino) n ≡ Some ino
insert_same names name n ino same = map.get-insert nat_list_cmp_total names name ino n
    ∙ ap (λ (b : Bool). cond b (Some ino) (map.get names n)) (subst (λ (m : List ℕ). eq_by_cmp order n m ≡ true) same (same_names n))

insert_other : (names : Names) (name n : List ℕ) (ino : Ino) → n ≢ name → map.get (map.insert names name ino) n ≡ map.get names n
insert_other names name n ino apart = map.get-insert nat_list_cmp_total names name ino n
    ∙ ap (λ (b : Bool). cond b (Some ino) (map.get names n)) (apart_names n name (λ same. apart (sym same)))

pub stands_entered : (old new : Inode) (slots : Slots) (place : ℕ) (names : Names) (name : List ℕ) (ino : Ino) → new.kind ≡ Dir → IsPlaceFor slots place name → StandsForDirectory old slots names
    → StandsForDirectory new (slice_set slots place (Some (entry_of name ino))) (map.insert names name ino)
stands_entered old new slots place names name ino kind p s = record {
  kind = kind;
  entries = λ n number. (λ got. there n number got, λ stands. back n number (entered_which slots place name n ino number.0 p stands));
}
  where
    there : (n : List ℕ) (number : Ino) → map.get (map.insert names name ino) n ≡ Some number → NamesInode (slice_set slots place (Some (entry_of name ino))) n number.0
    there n number got = elim (eq_by_cmp order n name) as (λ b. eq_by_cmp order n name ≡ b → NamesInode (slice_set slots place (Some (entry_of name ino))) n number.0) [
      | true ↦ λ t. (let same = tied_names n name t in let both : Some ino ≡ Some number = sym (insert_same names name n ino same) ∙ got in let one : ino ≡ number = cc in
          subst (λ (m : List ℕ). NamesInode (slice_set slots place (Some (entry_of name ino))) m number.0) (sym same) (subst (λ (i : Ino). NamesInode (slice_set slots place (Some (entry_of name ino))) name i.0) one (entered_here slots place name ino p.within)))
      | false ↦ λ t. (let apart : n ≢ name = λ same. (let equal = subst (λ (m : List ℕ). eq_by_cmp order n m ≡ true) same (same_names n) in absurd (cc)) in
          entered_other slots place name n ino number.0 p apart ((s.entries n number).0 (sym (insert_other names name n ino apart) ∙ got)))
    ] refl

    back : (n : List ℕ) (number : Ino) → Entered slots name n ino number.0 → map.get (map.insert names name ino) n ≡ Some number
    back n number (is_new same one) = insert_same names name n ino same ∙ (λ i. Some (record { 0 = sym one i }))
    back n number (is_old apart stands) = insert_other names name n ino apart ∙ (s.entries n number).1 stands

-- ---- an entry goes

remove_same : (names : Names) (name n : List ℕ) → n ≡ name → map.get (map.remove names name) n ≡ None
remove_same names name n same = map.get-remove nat_list_cmp_total names name n
    ∙ ap (λ (b : Bool). cond b None (map.get names n)) (subst (λ (m : List ℕ). eq_by_cmp order n m ≡ true) same (same_names n))

remove_other : (names : Names) (name n : List ℕ) → n ≢ name → map.get (map.remove names name) n ≡ map.get names n
remove_other names name n apart = map.get-remove nat_list_cmp_total names name n
    ∙ ap (λ (b : Bool). cond b None (map.get names n)) (apart_names n name (λ same. apart (sym same)))

pub emptied_none : (slots : Slots) (place : ℕ) (x : Option DirEntry) → x ≡ None → entry_at (slice_set slots place x) place ≡ None
emptied_none [] place x is = refl
emptied_none (y ∷ slots) zero x is = is
emptied_none (y ∷ slots) (suc place) x is = emptied_none slots place x is

pub stands_left : (old new : Inode) (slots : Slots) (place : ℕ) (names : Names) (name : List ℕ) → new.kind ≡ Dir → AreDistinct slots → StandsAt slots name place → StandsForDirectory old slots names
    → StandsForDirectory new (slice_set slots place None) (map.remove names name)
stands_left old new slots place names name kind distinct at s = record {
  kind = kind;
  entries = λ n number. (λ got. there n number got, λ stands. back n number stands);
}
  where
    there : (n : List ℕ) (number : Ino) → map.get (map.remove names name) n ≡ Some number → NamesInode (slice_set slots place None) n number.0
    there n number got =
        let apart : n ≢ name = λ same. (let both : None ≡ Some number = sym (remove_same names name n same) ∙ got in absurd (cc)) in
        let stands = (s.entries n number).0 (sym (remove_other names name n apart) ∙ got) in
        let other : stands.place ≢ place = λ same. (let both : Some (entry_of n number) ≡ Some at.entry = sym stands.there ∙ ap (entry_at slots) same ∙ at.there in let one : entry_of n number ≡ at.entry = cc in apart (ap (λ (e : DirEntry). e.name) one ∙ at.named)) in
        record { place = stands.place; there = get_or-set_other slots place stands.place None None other ∙ stands.there }

    back : (n : List ℕ) (number : Ino) → NamesInode (slice_set slots place None) n number.0 → map.get (map.remove names name) n ≡ Some number
    back n number stands =
        let other : stands.place ≢ place = λ same. (let both : None ≡ Some (entry_of n number) = sym (emptied_none slots place None refl) ∙ ap (entry_at (slice_set slots place None)) (sym same) ∙ stands.there in absurd (cc)) in
        let before = sym (get_or-set_other slots place stands.place None None other) ∙ stands.there in
        let apart : n ≢ name = λ same. other (distinct stands.place place (entry_of n number) at.entry before at.there (same ∙ sym at.named)) in
        remove_other names name n apart ∙ (s.entries n number).1 (record { place = stands.place; there = before })

-- ---- empty slots behind the others

nothing_at : (count q : ℕ) → entry_at (replicate count None) q ≡ None
nothing_at zero q = refl
nothing_at (suc count) zero = refl
nothing_at (suc count) (suc q) = nothing_at count q

pub entry_at-behind : (slots : Slots) (count q : ℕ) → entry_at (slots ++ replicate count None) q ≡ entry_at slots q
entry_at-behind [] count q = nothing_at count q
entry_at-behind (x ∷ slots) count zero = refl
entry_at-behind (x ∷ slots) count (suc q) = entry_at-behind slots count q

-- slots with the same entries name the same
pub stands_same : (old new : Inode) (slots others : Slots) (names : Names) → new.kind ≡ Dir → ((q : ℕ) → entry_at others q ≡ entry_at slots q) → StandsForDirectory old slots names → StandsForDirectory new others names
stands_same old new slots others names kind same s = record {
  kind = kind;
  entries = λ n number. (
    λ got. (let stands = (s.entries n number).0 got in record { place = stands.place; there = same stands.place ∙ stands.there }),
    λ stands. (s.entries n number).1 (record { place = stands.place; there = sym (same stands.place) ∙ stands.there }),
  );
}

-- ---- the first empty slot

pub first_empty-none : (slots : Slots) → entry_at slots (first_empty slots) ≡ None
unfolding first_empty
first_empty-none [] = refl
first_empty-none (None ∷ slots) = refl
first_empty-none (Some e ∷ slots) = first_empty-none slots

pub first_empty-most : (slots : Slots) → first_empty slots ≤ length slots
unfolding first_empty
first_empty-most [] = omega arith
first_empty-most (None ∷ slots) = omega arith
first_empty-most (Some e ∷ slots) = (let rest = first_empty-most slots in omega arith)

pub first_empty-full : (slots : Slots) → first_empty slots ≡ length slots → entry_count slots ≡ length slots
unfolding first_empty entry_count
first_empty-full [] full = refl
first_empty-full (None ∷ slots) full = absurd (omega arith)
first_empty-full (Some e ∷ slots) full = (let rest = first_empty-full slots (omega arith) in omega arith)

-- an empty slot is a place for a name that doesn't stand
pub empty_place : (slots : Slots) (place : ℕ) (name : List ℕ) → place < length slots → entry_at slots place ≡ None → IsAbsent slots name → IsPlaceFor slots place name
empty_place slots place name within empty absent = record {
  within = within;
  there = λ other at. (let both : None ≡ Some other = sym empty ∙ at in absurd (cc));
  alone = λ q other at same. absurd (absent q other at same);
}

-- and so is the place at which it stands
pub own_place : (slots : Slots) (place : ℕ) (name : List ℕ) → AreDistinct slots → StandsAt slots name place → IsPlaceFor slots place name
own_place slots place name distinct at = record {
  within = taken_below slots place at.entry at.there;
  there = λ other is. (let both : Some other ≡ Some at.entry = sym is ∙ at.there in let one : other ≡ at.entry = cc in ap (λ (e : DirEntry). e.name) one ∙ at.named);
  alone = λ q other is same. distinct q place other at.entry is at.there (same ∙ sym at.named);
}
