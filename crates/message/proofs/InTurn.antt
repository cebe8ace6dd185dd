-- Items that are read one after the other, each in view of the one before it.
use Rattle.std.proofs.Common.{◌≡◌, ◌≢◌, ◌<◌, ◌≤◌, ◌+◌, ◌∷◌, [], ℕ, Bool, true, ◌&&◌, List, length, All, refl, ap, arith}
use Rattle.std.specs.Prelude.{nat_le, nat_lt}
use Rattle.std.proofs.lemmas.Bool.{and_from, and_parts, le-leb, leb-true, lt-ltb, ltb-true}
use Rattle.std.proofs.lemmas.List.Elements.{All-cons, All-nil, All-tail}
use Rattle.cal_base.specs.declared.directory_entry.DirectoryEntry.{DirectoryEntry}
use Rattle.tree_law.specs.Entries.{AreEntries, IsBefore}
use Rattle.tree_law.specs.Path.{IsName}
use Rattle.tree_law.proofs.EntryOrder.{AscendFrom, ascend_by, ascend_from, none_before}
use Rattle.token_kind.specs.Class.{class_number}
use Rattle.token_kind.specs.Flush.{are_rising}
use Rattle.token_kind.specs.Hold.{hold_number}
use Rattle.token_kind.specs.Kept.{classes_rise, most_left}
use Rattle.token_kind.specs.declared.«class».Class.{Class}
use Rattle.token_kind.specs.declared.«class».Class.TheVariants.{Names, Data, Attr, Open}
use Rattle.token_kind.specs.declared.hold.Hold.{Hold}

-- each item is good in view of the one before it
abbrev pub AreInTurn : {A S : Type 0} → (S → A → Type 0) → (A → S) → S → List A → Type 0
AreInTurn good seen before [] = Unit {0}
AreInTurn good seen before (x ∷ xs) = good before x × AreInTurn good seen (seen x) xs

-- each item is good, whatever stands before it
abbrev pub AreAlike : {A : Type 0} → (A → Type 0) → List A → Type 0
AreAlike good = AreInTurn {S = Unit {0}} (λ before. good) (λ x. tt) tt

-- what each item in turn is, all are
pub in_turn_all : {A S : Type 0} (P : A → Type 0) (good : S → A → Type 0) (seen : A → S) → ((s : S) (x : A) → good s x → P x) → (before : S) (xs : List A) → AreInTurn good seen before xs → All P xs
in_turn_all P good seen each before [] are = All-nil P
in_turn_all P good seen each before (x ∷ xs) are = All-cons P x xs (each before x are.0) (in_turn_all P good seen each (seen x) xs are.1)

pub alike_all : {A : Type 0} (P : A → Type 0) (xs : List A) → AreAlike P xs → All P xs
alike_all P xs are = in_turn_all {S = Unit {0}} P (λ before. P) (λ x. tt) (λ s x good. good) tt xs are

pub all_alike : {A : Type 0} (P : A → Type 0) (xs : List A) → All P xs → AreAlike P xs
all_alike P [] all = tt
all_alike P (x ∷ xs) all = (all 0 x (omega arith), all_alike P xs (All-tail P x xs all))

-- a block of 4,096 bytes, from a least index on and before the file's size
pub record IsBlock (blocks least : ℕ) (block : ℕ × List ℕ) : Type 0 where
  pub ascending : least ≤ block.0
  pub within : block.0 < blocks
  pub size : length block.1 ≡ 4096

abbrev pub AreBlocks : ℕ → ℕ → List (ℕ × List ℕ) → Type 0
AreBlocks blocks = AreInTurn (IsBlock blocks) (λ block. block.0 + 1)

pub blocks_rise : (blocks least : ℕ) (pieces : List (ℕ × List ℕ)) → AreBlocks blocks least pieces → are_rising least blocks pieces ≡ true
blocks_rise blocks least [] are = refl
blocks_rise blocks least (p ∷ ps) are =
    and_from _ _ (and_from (nat_le least p.0) (nat_lt p.0 blocks) (le-leb least p.0 are.0.ascending) (lt-ltb p.0 blocks are.0.within)) (blocks_rise blocks (p.0 + 1) ps are.1)

pub blocks_whole : (blocks least : ℕ) (pieces : List (ℕ × List ℕ)) → AreBlocks blocks least pieces → All (λ piece. length piece.1 ≡ 4096) pieces
blocks_whole blocks = in_turn_all (λ piece. length piece.1 ≡ 4096) (IsBlock blocks) (λ block. block.0 + 1) (λ s x good. good.size)

pub rising_blocks : (blocks least : ℕ) (pieces : List (ℕ × List ℕ)) → are_rising least blocks pieces ≡ true → All (λ piece. length piece.1 ≡ 4096) pieces → AreBlocks blocks least pieces
rising_blocks blocks least [] rising whole = tt
rising_blocks blocks least (p ∷ ps) rising whole =
    let parts = and_parts (nat_le least p.0 && nat_lt p.0 blocks) (are_rising (p.0 + 1) blocks ps) rising in
    let both = and_parts (nat_le least p.0) (nat_lt p.0 blocks) parts.0 in (
      record { ascending = leb-true least p.0 both.0; within = ltb-true p.0 blocks both.1; size = whole 0 p (omega arith) },
      rising_blocks blocks (p.0 + 1) ps parts.1 (All-tail (λ piece. length piece.1 ≡ 4096) p ps whole),
    )

-- a class behind those before it, up to a last one, and what is left of it
pub record IsKept (last before : ℕ) (item : Class × Hold) : Type 0 where
  pub ascending : before < class_number item.0
  pub within : class_number item.0 ≤ last
  pub hold : hold_number item.1 ≤ most_left item.0

abbrev pub AreKept : ℕ → ℕ → List (Class × Hold) → Type 0
AreKept last = AreInTurn (IsKept last) (λ item. class_number item.0)

pub kept_rise : (last before : ℕ) (items : List (Class × Hold)) → AreKept last before items → classes_rise before items ≡ true
kept_rise last before [] are = refl
kept_rise last before (x ∷ xs) are = and_from (nat_lt before (class_number x.0)) _ (lt-ltb before (class_number x.0) are.0.ascending) (kept_rise last (class_number x.0) xs are.1)

pub kept_modes : (last before : ℕ) (items : List (Class × Hold)) → AreKept last before items → All (λ item. hold_number item.1 ≤ most_left item.0) items
kept_modes last = in_turn_all (λ item. hold_number item.1 ≤ most_left item.0) (IsKept last) (λ item. class_number item.0) (λ s x good. good.hold)

-- the first three classes are all but Open
not_open : (of : Class) → class_number of ≤ 3 → of ≢ Open
not_open Names low e = absurd cc
not_open Data low e = absurd cc
not_open Attr low e = absurd cc
not_open Open low e = omega (arith, low)

to_three : (of : Class) → of ≢ Open → class_number of ≤ 3
to_three Names other = omega arith
to_three Data other = omega arith
to_three Attr other = omega arith
to_three Open other = absurd (other refl)

pub to_four : (of : Class) → class_number of ≤ 4
to_four Names = omega arith
to_four Data = omega arith
to_four Attr = omega arith
to_four Open = omega arith

pub kept_closed : (before : ℕ) (items : List (Class × Hold)) → AreKept 3 before items → All (λ item. item.0 ≢ Open) items
kept_closed = in_turn_all (λ item. item.0 ≢ Open) (IsKept 3) (λ item. class_number item.0) (λ s x good. not_open x.0 good.within)

pub closed_within : (items : List (Class × Hold)) → All (λ item. item.0 ≢ Open) items → All (λ item. class_number item.0 ≤ 3) items
closed_within items closed = λ k d h. to_three _ (closed k d h)

pub rising_kept : (last before : ℕ) (items : List (Class × Hold)) → classes_rise before items ≡ true → All (λ item. class_number item.0 ≤ last) items
    → All (λ item. hold_number item.1 ≤ most_left item.0) items → AreKept last before items
rising_kept last before [] rising within modes = tt
rising_kept last before (x ∷ xs) rising within modes =
    let parts = and_parts (nat_lt before (class_number x.0)) (classes_rise (class_number x.0) xs) rising in (
      record { ascending = ltb-true before (class_number x.0) parts.0; within = within 0 x (omega arith); hold = modes 0 x (omega arith) },
      rising_kept last (class_number x.0) xs parts.1 (All-tail (λ item. class_number item.0 ≤ last) x xs within) (All-tail (λ item. hold_number item.1 ≤ most_left item.0) x xs modes),
    )

-- an entry that stands behind a name
pub record IsEntry (before : List ℕ) (entry : DirectoryEntry) : Type 0 where
  pub name : IsName entry.name
  pub sorted : IsBefore before entry.name
  pub ino : entry.ino.0 < 512

abbrev pub AreBehind : List ℕ → List DirectoryEntry → Type 0
AreBehind = AreInTurn IsEntry (λ entry. entry.name)

behind_ascend : (before : List ℕ) (entries : List DirectoryEntry) → AreBehind before entries → AscendFrom before entries
behind_ascend before [] are = tt
behind_ascend before (entry ∷ entries) are = (are.0.sorted, behind_ascend entry.name entries are.1)

pub behind_entries : (entries : List DirectoryEntry) → AreBehind [] entries → AreEntries entries
behind_entries entries are = record {
  names = in_turn_all (λ entry. IsName entry.name) IsEntry (λ entry. entry.name) (λ s x good. good.name) [] entries are;
  order = ascend_by [] entries (behind_ascend [] entries are);
  inodes = in_turn_all (λ entry. entry.ino.0 < 512) IsEntry (λ entry. entry.name) (λ s x good. good.ino) [] entries are;
}

ascend_behind : (before : List ℕ) (entries : List DirectoryEntry) → AscendFrom before entries → All (λ entry. IsName entry.name) entries → All (λ entry. entry.ino.0 < 512) entries → AreBehind before entries
ascend_behind before [] up names inodes = tt
ascend_behind before (entry ∷ entries) up names inodes = (
  record { name = names 0 entry (omega arith); sorted = up.0; ino = inodes 0 entry (omega arith) },
  ascend_behind entry.name entries up.1 (All-tail (λ entry. IsName entry.name) entry entries names) (All-tail (λ entry. entry.ino.0 < 512) entry entries inodes),
)

pub entries_behind : (entries : List DirectoryEntry) → AreEntries entries → AreBehind [] entries
entries_behind entries are =
    ascend_behind [] entries (ascend_from [] entries are.order (λ k d h. none_before _ (are.names k d h).from_one)) are.names are.inodes
