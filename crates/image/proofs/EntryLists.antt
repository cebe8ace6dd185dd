-- The entries at the places of an index are those of the map of names.
use Rattle.std.proofs.Common.{◌≡◌, ◌≢◌, ◌<◌, ◌≤◌, ◌∙◌, ◌&&◌, ℕ, zero, suc, Bool, true, false, T, All, List, [], ◌∷◌, map, Option, Some, None, length, get_or, slice_index, cond, refl, sym, ap, subst, arith}
use Rattle.cal_base.specs.Limits as limits
use Rattle.std.specs.Ordering.{eq_by_cmp}
use Rattle.std.specs.declared.cmp.Ordering.TheVariants.{Less}
use Rattle.std.specs.FinMap as finite
use Rattle.std.specs.FinMap.Entries.{below_all}
use Rattle.cal_base.specs.declared.identity.Ino.{Ino}
use Rattle.cal_base.specs.declared.directory_entry.DirectoryEntry.{DirectoryEntry}
use Rattle.directory.specs.Block.{entry_at}
use Rattle.directory.specs.Directory.{IsDirectory, entry_count}
use Rattle.directory.specs.Index.{IsIndex, IsTaken, name_of}
use Rattle.directory.specs.declared.entry.DirEntry.{DirEntry}
use Rattle.tree_law.specs.Entries.{AreEntries, IsBefore}
use Rattle.tree_law.specs.Names.{Names}
use Rattle.tree_law.specs.Path.{IsName}
use Rattle.tree_law.specs.Tree.{Tree, root}
use Rattle.volume.specs.Volume.{Slots}
use Rattle.volume_plan.specs.Shown.{names_of}
use Rattle.volume_plan.proofs.NamesOf.{got_names, one_map_by, order, same_names, standing_got, tied_names}
use Rattle.image.specs.Listed.{entry_of, listed, listed_at}

abbrev Row : Type 0
Row = List (List ℕ × Ino)

-- the name and the inode at a place
abbrev pair_of : Option DirEntry → List ℕ × Ino
pair_of (Some e) = (e.name, e.ino)
pair_of None = ([], root)

abbrev pair_at : Slots → ℕ → List ℕ × Ino
pair_at slots place = pair_of (entry_at slots place)

abbrev row : Slots → List ℕ → Row
row slots places = map (pair_at slots) places

-- a name that a row has, with its place in the row
record Found (slots : Slots) (places : List ℕ) (name : List ℕ) (ino : Ino) : Type 0 where
  at : ℕ
  within : at < length places
  named : name ≡ (pair_at slots (slice_index places at)).0
  is : (pair_at slots (slice_index places at)).1 ≡ ino

found_later : (slots : Slots) (place : ℕ) (places : List ℕ) (name : List ℕ) (ino : Ino) → Found slots places name ino → Found slots (place ∷ places) name ino
found_later slots place places name ino f = record { at = suc f.at; within = (let w = f.within in omega arith); named = f.named; is = f.is }

row_has : (slots : Slots) (places : List ℕ) (name : List ℕ) (ino : Ino) → finite.find order name (row slots places) ≡ Some ino → Found slots places name ino
row_has slots [] name ino is = absurd (cc)
row_has slots (place ∷ places) name ino is =
    elim (eq_by_cmp order name (pair_at slots place).0) as (λ b. eq_by_cmp order name (pair_at slots place).0 ≡ b → cond b (Some (pair_at slots place).1) (finite.find order name (row slots places)) ≡ Some ino → Found slots (place ∷ places) name ino) [
      | true ↦ λ t found. (let both : Some (pair_at slots place).1 ≡ Some ino = found in record { at = 0; within = omega arith; named = tied_names name (pair_at slots place).0 t; is = cc })
      | false ↦ λ t found. found_later slots place places name ino (row_has slots places name ino found)
    ] refl is

-- a row that lists a name finds it
row_finds : (slots : Slots) (places : List ℕ) (name : List ℕ) (at : ℕ) → at < length places → name ≡ (pair_at slots (slice_index places at)).0 → finite.find order name (row slots places) ≢ None
row_finds slots [] name at within named none = absurd (omega arith)
row_finds slots (place ∷ places) name zero within named none =
    let tie : eq_by_cmp order name (pair_at slots place).0 ≡ true = subst (λ (other : List ℕ). eq_by_cmp order name other ≡ true) named (same_names name) in
    let found : finite.find order name (row slots (place ∷ places)) ≡ Some (pair_at slots place).1 = ap (λ (b : Bool). cond b (Some (pair_at slots place).1) (finite.find order name (row slots places))) tie in
    absurd (cc)
row_finds slots (place ∷ places) name (suc at) within named none =
    elim (eq_by_cmp order name (pair_at slots place).0) as (λ b. cond b (Some (pair_at slots place).1) (finite.find order name (row slots places)) ≡ None → ⊥) [
      | true ↦ λ e. (let both : Some (pair_at slots place).1 ≡ None = e in absurd (cc))
      | false ↦ λ e. row_finds slots places name at (omega arith) named e
    ] none

-- what a row that an index gives finds, the slots have
there : (slots : Slots) (places : List ℕ) (name : List ℕ) (ino : Ino) → IsDirectory slots → IsIndex slots places → finite.find order name (row slots places) ≡ Some ino → finite.get (names_of slots) name ≡ Some ino
there slots places name ino d index is =
    let f = row_has slots places name ino is in
    stands slots (slice_index places f.at) name ino d (index.taken f.at f.within) f.named f.is
  where
    stands : (slots : Slots) (place : ℕ) (name : List ℕ) (ino : Ino) → IsDirectory slots → IsTaken slots place → name ≡ (pair_at slots place).0 → (pair_at slots place).1 ≡ ino → finite.get (names_of slots) name ≡ Some ino
    stands slots place name ino d taken named is = elim (entry_at slots place) as (λ o. entry_at slots place ≡ o → name ≡ (pair_of o).0 → (pair_of o).1 ≡ ino → finite.get (names_of slots) name ≡ Some ino) [
      | Some e ↦ λ at n i. standing_got slots name place e d.distinct at (sym n) ∙ ap (λ (x : Ino). Some x) i
      | None ↦ λ at n i. absurd (taken at)
    ] refl named is

back : (slots : Slots) (places : List ℕ) (name : List ℕ) (ino : Ino) → IsDirectory slots → IsIndex slots places → finite.get (names_of slots) name ≡ Some ino → finite.find order name (row slots places) ≡ Some ino
back slots places name ino d index is =
    let n = got_names slots name ino is in
    let taken : IsTaken slots n.place = λ none. (let here = n.there in absurd (cc)) in
    let at = index.whole n.place taken in
    let named : name ≡ (pair_at slots (slice_index places at.at)).0 = ap (λ (o : Option DirEntry). (pair_of o).0) (sym n.there) ∙ ap (λ (p : ℕ). (pair_at slots p).0) (sym at.is) in
    let some = row_finds slots places name at.at at.within named in
    elim (finite.find order name (row slots places)) as (λ o. finite.find order name (row slots places) ≡ o → o ≡ Some ino) [
      | Some other ↦ λ e. sym (there slots places name other d index e) ∙ is
      | None ↦ λ e. absurd (some e)
    ] refl

-- names that rise are sorted
below : (slots : Slots) (x : List ℕ) (places : List ℕ) → ((at : ℕ) → at < length places → order x (pair_at slots (slice_index places at)).0 ≡ Less) → T (below_all order x (row slots places))
below slots x [] rise = tt
below slots x (place ∷ places) rise =
    let here : order x (pair_at slots place).0 ≡ Less = rise 0 (omega arith) in
    rw here (below slots x places (λ at low. rise (suc at) (omega arith)))

sorted : (slots : Slots) (places : List ℕ) → ((i j : ℕ) → i < j → j < length places → order (pair_at slots (slice_index places i)).0 (pair_at slots (slice_index places j)).0 ≡ Less) → T (finite.is_sorted order (row slots places))
sorted slots [] rise = tt
sorted slots (place ∷ places) rise =
    both _ _ (below slots (pair_at slots place).0 places (λ at low. rise 0 (suc at) (omega arith) (omega arith))) (sorted slots places (λ i j less low. rise (suc i) (suc j) (omega arith) (omega arith)))
  where
    both : (a b : Bool) → T a → T b → T (a && b)
    both true b p q = q
    both false b p q = absurd p

name_is : (o : Option DirEntry) → (pair_of o).0 ≡ name_of o
name_is (Some e) = refl
name_is None = refl

rises : (slots : Slots) (places : List ℕ) → IsIndex slots places → (i j : ℕ) → i < j → j < length places → order (pair_at slots (slice_index places i)).0 (pair_at slots (slice_index places j)).0 ≡ Less
rises slots places index i j less low =
    rw (name_is (entry_at slots (slice_index places i)), name_is (entry_at slots (slice_index places j))) (index.sorted i j less low).less

pub row_is : (slots : Slots) (places : List ℕ) → IsDirectory slots → IsIndex slots places → row slots places ≡ finite.entries (names_of slots)
row_is slots places d index =
    let rising = sorted slots places (rises slots places index) in
    let got : (name : List ℕ) → finite.get (finite.from_sorted {R = order} (row slots places)) name ≡ finite.find order name (row slots places) = λ name. finite.get-from_sorted order (row slots places) name rising in
    let same : finite.from_sorted {R = order} (row slots places) ≡ names_of slots =
    one_map_by (finite.from_sorted {R = order} (row slots places)) (names_of slots)
    (λ name ino is. there slots places name ino d index (sym (got name) ∙ is))
    (λ name ino is. got name ∙ back slots places name ino d index is) in
    sym (finite.entries-from_sorted order (row slots places) rising) ∙ ap (λ (m : Names). finite.entries m) same

-- no more entries than slots
count_within : (slots : Slots) → entry_count slots ≤ length slots
unfolding entry_count
count_within [] = omega arith
count_within (Some e ∷ slots) = (let rest = count_within slots in omega arith)
count_within (None ∷ slots) = (let rest = count_within slots in omega arith)

-- what is listed is the row, with what each inode is
one_listed : (tree : Tree) (o : Option DirEntry) → listed tree o ≡ entry_of tree (pair_of o)
one_listed tree (Some e) = refl
one_listed tree None = refl

all_listed : (tree : Tree) (slots : Slots) (places : List ℕ) → map (listed_at tree slots) places ≡ map (entry_of tree) (row slots places)
all_listed tree slots [] = refl
all_listed tree slots (place ∷ places) =
    ap (λ (e : DirectoryEntry). e ∷ map (listed_at tree slots) places) (one_listed tree (entry_at slots place))
    ∙ ap (λ (rest : List DirectoryEntry). entry_of tree (pair_at slots place) ∷ rest) (all_listed tree slots places)

pub are_listed : (tree : Tree) (slots read : Slots) (places : List ℕ) (entries : List DirectoryEntry) → IsDirectory slots → IsIndex slots places → read ≡ slots
    → entries ≡ map (listed_at tree read) places → entries ≡ map (entry_of tree) (finite.entries (names_of slots))
are_listed tree slots read places entries d index same is =
    is ∙ ap (λ (s : Slots). map (listed_at tree s) places) same ∙ all_listed tree slots places ∙ ap (λ (r : Row). map (entry_of tree) r) (row_is slots places d index)

-- an entry that is listed is one of the slots
at_listed : (tree : Tree) (slots : Slots) (places : List ℕ) (k : ℕ) (d : DirectoryEntry) → k < length places → get_or (map (listed_at tree slots) places) k d ≡ listed_at tree slots (slice_index places k)
at_listed tree slots [] k d low = absurd (omega arith)
at_listed tree slots (place ∷ places) zero d low = refl
at_listed tree slots (place ∷ places) (suc k) d low = at_listed tree slots places k d (omega arith)

length-listed : (tree : Tree) (slots : Slots) (places : List ℕ) → length (map (listed_at tree slots) places) ≡ length places
length-listed tree slots [] = refl
length-listed tree slots (place ∷ places) = ap suc (length-listed tree slots places)

-- of a place that is taken
abbrev IsFormed : DirectoryEntry → Type 0
IsFormed entry = IsName entry.name × (1 ≤ entry.ino.0) × (entry.ino.0 < limits.inodes)

formed_at : (tree : Tree) (slots : Slots) (place : ℕ) → IsDirectory slots → IsTaken slots place → IsFormed (listed_at tree slots place)
formed_at tree slots place d taken = elim (entry_at slots place) as (λ o. entry_at slots place ≡ o → IsFormed (listed tree o)) [
  | Some e ↦ λ at. (let is = d.entries place e at in (let to_511 = is.to_511 in (is.name, is.from_one, omega arith)))
  | None ↦ λ at. absurd (taken at)
] refl

named_listed : (tree : Tree) (o : Option DirEntry) → (listed tree o).name ≡ name_of o
named_listed tree (Some e) = refl
named_listed tree None = refl

-- what an index lists: entries as a directory has them, none of them the root, and no more than the slots
pub record IsListed (entries : List DirectoryEntry) : Type 0 where
  pub formed : AreEntries entries
  pub from_one : All (λ entry. 1 ≤ entry.ino.0) entries
  pub few : length entries ≤ limits.directory_entries

pub are_formed : (tree : Tree) (slots read : Slots) (places : List ℕ) (entries : List DirectoryEntry) → IsDirectory slots → IsIndex slots places → read ≡ slots
    → entries ≡ map (listed_at tree read) places → IsListed entries
are_formed tree slots read places entries d index same is =
    subst IsListed (sym (is ∙ ap (λ (s : Slots). map (listed_at tree s) places) same)) (record {
      formed = record {
        names = λ k other low. subst (λ (e : DirectoryEntry). IsName e.name) (sym (at k other low)) (formed k low).0;
        order = record {
          ascending = λ i j other less low. subst (λ (e : DirectoryEntry). IsBefore e.name (get_or (map (listed_at tree slots) places) j other).name) (sym (at i other (omega arith)))
              (subst (λ (e : DirectoryEntry). IsBefore (listed_at tree slots (slice_index places i)).name e.name) (sym (at j other low)) (rises_at i j less low));
        };
        inodes = λ k other low. subst (λ (e : DirectoryEntry). e.ino.0 < limits.inodes) (sym (at k other low)) (let to_511 = (formed k low).2 in omega arith);
      };
      from_one = λ k other low. subst (λ (e : DirectoryEntry). 1 ≤ e.ino.0) (sym (at k other low)) (formed k low).1;
      few = (let l = length-listed tree slots places in let c = index.count in let m = count_within slots in let f = d.few in omega arith);
    })
  where
    at : (k : ℕ) (other : DirectoryEntry) → k < length (map (listed_at tree slots) places) → get_or (map (listed_at tree slots) places) k other ≡ listed_at tree slots (slice_index places k)
    at k other low = at_listed tree slots places k other (let l = length-listed tree slots places in omega arith)

    formed : (k : ℕ) → k < length (map (listed_at tree slots) places) → IsFormed (listed_at tree slots (slice_index places k))
    formed k low = formed_at tree slots (slice_index places k) d (index.taken k (let l = length-listed tree slots places in omega arith))

    rises_at : (i j : ℕ) → i < j → j < length (map (listed_at tree slots) places)
        → IsBefore (listed_at tree slots (slice_index places i)).name (listed_at tree slots (slice_index places j)).name
    rises_at i j less low = rw (named_listed tree (entry_at slots (slice_index places i)), named_listed tree (entry_at slots (slice_index places j)))
        (index.sorted i j less (let l = length-listed tree slots places in omega arith))
