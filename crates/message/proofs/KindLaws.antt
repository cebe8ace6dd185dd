-- The fields of kinds, classes and holds, against their spellings.
use Rattle.std.proofs.Common.{◌≡◌, ◌==◌, ◌<◌, ◌≤◌, ◌∷◌, [], ℕ, Bool, true, false, ◌&&◌, Option, Some, None, refl, arith}
use Rattle.std.specs.Prelude.{nat_lt, nat_le, if◌then◌else◌}
use Rattle.cal_base.specs.declared.directory_entry.EntryKind.{EntryKind}
use Rattle.cal_base.specs.declared.directory_entry.EntryKind.TheVariants.{File, Directory}
use Rattle.token_kind.specs.Class.{class_number, has_write}
use Rattle.token_kind.specs.Hold.{hold_number, is_held}
use Rattle.token_kind.specs.Token.{may_hold}
use Rattle.token_kind.specs.Kept.{most_left}
use Rattle.token_kind.specs.declared.«class».Class.{Class}
use Rattle.token_kind.specs.declared.«class».Class.TheVariants.{Names, Data, Attr, Open}
use Rattle.token_kind.specs.declared.hold.Hold.{Hold}
use Rattle.token_kind.specs.declared.hold.Hold.TheVariants.{None as Nothing, Read, Write}
use Rattle.message.specs.Reading.{byte_field}
use Rattle.message.specs.Field.{class_at, class_of, entry_kind_of, flag_at, flag_of, fresh_of, held_of, hold_of, kept_of, left_of, next_class_of}
use Rattle.message.specs.Range.{MayBeFresh}
use Rattle.message.specs.Spelling.{entry_kind_byte, flag_byte}
use Rattle.message.specs.Tokens.{index_at}
use Rattle.message.proofs.Exact.{Again, Takes, byte_field_again, byte_field_takes}
use Rattle.message.proofs.FieldLaws.{from_eq, from_lt, pick, some_same, to_le, to_lt}
use Rattle.message.proofs.Parts.{and_ok}
use Rattle.message.proofs.Paths.{from_le, passed}

flag_means : (n : ℕ) (a : Bool) → flag_of n ≡ Some a → n ≡ flag_byte a
unfolding flag_of
flag_means n a =
    let P : Option Bool → Type 0 = λ o. o ≡ Some a → n ≡ flag_byte a in
    pick P (n == 0) _ _ (λ t e. rw (← some_same false a e) (from_eq n 0 t)) (λ f.
    pick P (n == 1) _ _ (λ t e. rw (← some_same true a e) (from_eq n 1 t)) (λ f e. absurd cc))

flag_named : (a : Bool) → flag_of (flag_byte a) ≡ Some a
unfolding flag_of
flag_named false = refl
flag_named true = refl

pub flag_takes : Takes flag_at (λ a. flag_byte a ∷ []) (λ a. Unit {0})
flag_takes = byte_field_takes flag_of flag_byte (λ a. Unit {0}) (λ n a fits means. (flag_means n a means, tt))

pub flag_again : Again flag_at (λ a. flag_byte a ∷ []) (λ a. Unit {0})
flag_again = byte_field_again flag_of flag_byte (λ a. Unit {0}) (λ a good. flag_named a)

entry_kind_means : (n : ℕ) (a : EntryKind) → entry_kind_of n ≡ Some a → n ≡ entry_kind_byte a
unfolding entry_kind_of
entry_kind_means n a =
    let P : Option EntryKind → Type 0 = λ o. o ≡ Some a → n ≡ entry_kind_byte a in
    pick P (n == 1) _ _ (λ t e. rw (← some_same File a e) (from_eq n 1 t)) (λ f.
    pick P (n == 2) _ _ (λ t e. rw (← some_same Directory a e) (from_eq n 2 t)) (λ f e. absurd cc))

entry_kind_named : (a : EntryKind) → entry_kind_of (entry_kind_byte a) ≡ Some a
unfolding entry_kind_of
entry_kind_named File = refl
entry_kind_named Directory = refl

pub entry_kind_takes : Takes (byte_field entry_kind_of) (λ a. entry_kind_byte a ∷ []) (λ a. Unit {0})
entry_kind_takes = byte_field_takes entry_kind_of entry_kind_byte (λ a. Unit {0}) (λ n a fits means. (entry_kind_means n a means, tt))

pub entry_kind_again : Again (byte_field entry_kind_of) (λ a. entry_kind_byte a ∷ []) (λ a. Unit {0})
entry_kind_again = byte_field_again entry_kind_of entry_kind_byte (λ a. Unit {0}) (λ a good. entry_kind_named a)

class_means : (n : ℕ) (a : Class) → class_of n ≡ Some a → n ≡ class_number a
unfolding class_of
class_means n a =
    let P : Option Class → Type 0 = λ o. o ≡ Some a → n ≡ class_number a in
    pick P (n == 1) _ _ (λ t e. rw (← some_same Names a e) (from_eq n 1 t)) (λ f.
    pick P (n == 2) _ _ (λ t e. rw (← some_same Data a e) (from_eq n 2 t)) (λ f.
    pick P (n == 3) _ _ (λ t e. rw (← some_same Attr a e) (from_eq n 3 t)) (λ f.
    pick P (n == 4) _ _ (λ t e. rw (← some_same Open a e) (from_eq n 4 t)) (λ f e. absurd cc))))

class_named : (a : Class) → class_of (class_number a) ≡ Some a
unfolding class_of
class_named Names = refl
class_named Data = refl
class_named Attr = refl
class_named Open = refl

pub class_takes : Takes class_at (λ a. class_number a ∷ []) (λ a. Unit {0})
class_takes = byte_field_takes class_of class_number (λ a. Unit {0}) (λ n a fits means. (class_means n a means, tt))

pub class_again : Again class_at (λ a. class_number a ∷ []) (λ a. Unit {0})
class_again = byte_field_again class_of class_number (λ a. Unit {0}) (λ a good. class_named a)

-- a choice that has a value was made by its test
chosen : {A : Type 0} (b : Bool) (x : Option A) (y : A) → (if b then x else None) ≡ Some y → (b ≡ true) × (x ≡ Some y)
chosen true x y e = (refl, e)
chosen false x y e = absurd cc

spared : {A : Type 0} (b : Bool) (x : Option A) (y : A) → (if b then None else x) ≡ Some y → (b ≡ false) × (x ≡ Some y)
spared true x y e = absurd cc
spared false x y e = (refl, e)

pub next_class_takes : (last before : ℕ) → Takes (byte_field (next_class_of last before)) (λ a. class_number a ∷ []) (λ a. (before < class_number a) × (class_number a ≤ last))
next_class_takes last before = byte_field_takes (next_class_of last before) class_number (λ a. (before < class_number a) × (class_number a ≤ last)) (λ n a fits means.
    let good = chosen (nat_lt before n && nat_le n last) (class_of n) a means in
    let both = and_ok _ _ good.0 in
    let is = class_means n a good.1 in
    (is, (rw is at (from_lt before n both.0), rw is at (from_le n last both.1))))

pub next_class_again : (last before : ℕ) → Again (byte_field (next_class_of last before)) (λ a. class_number a ∷ []) (λ a. (before < class_number a) × (class_number a ≤ last))
next_class_again last before = byte_field_again (next_class_of last before) class_number (λ a. (before < class_number a) × (class_number a ≤ last)) (λ a good.
    rw (to_lt before (class_number a) good.0, to_le (class_number a) last good.1) (class_named a))

hold_means : (of : Class) (n : ℕ) (a : Hold) → hold_of of n ≡ Some a → (n ≡ hold_number a) × (may_hold of a ≡ true)
unfolding hold_of
hold_means of n a =
    let P : Option Hold → Type 0 = λ o. o ≡ Some a → (n ≡ hold_number a) × (may_hold of a ≡ true) in
    pick P (n == 0) _ _ (λ t e. rw (← some_same Nothing a e) (from_eq n 0 t, refl)) (λ f.
    pick P (n == 1) _ _ (λ t e. rw (← some_same Read a e) (from_eq n 1 t, refl)) (λ f.
    pick P (n == 2 && has_write of) _ _ (λ t e. let both = and_ok _ _ t in rw (← some_same Write a e) (from_eq n 2 both.0, both.1)) (λ f e. absurd cc)))

hold_named : (of : Class) (a : Hold) → may_hold of a ≡ true → hold_of of (hold_number a) ≡ Some a
unfolding hold_of
hold_named of Nothing good = refl
hold_named of Read good = refl
hold_named of Write good = rw good refl

pub hold_takes : (of : Class) → Takes (byte_field (hold_of of)) (λ a. hold_number a ∷ []) (λ a. may_hold of a ≡ true)
hold_takes of = byte_field_takes (hold_of of) hold_number (λ a. may_hold of a ≡ true) (λ n a fits means. hold_means of n a means)

pub hold_again : (of : Class) → Again (byte_field (hold_of of)) (λ a. hold_number a ∷ []) (λ a. may_hold of a ≡ true)
hold_again of = byte_field_again (hold_of of) hold_number (λ a. may_hold of a ≡ true) (hold_named of)

-- what a report may say of a hold in a class: it is one, and can be held so
abbrev pub MayReport : Class → Hold → Type 0
MayReport of a = (is_held a ≡ true) × (may_hold of a ≡ true)

held_good : (of : Class) (n : ℕ) (a : Hold) → (n == 0) ≡ false → n ≡ hold_number a → may_hold of a ≡ true → MayReport of a
held_good of n Nothing other is good = let bad : true ≡ false = rw is at other in absurd cc
held_good of n Read other is good = (refl, good)
held_good of n Write other is good = (refl, good)

held_named : (of : Class) (a : Hold) → MayReport of a → held_of of (hold_number a) ≡ Some a
held_named of Nothing good = let none = good.0 in absurd cc
held_named of Read good = hold_named of Read refl
held_named of Write good = hold_named of Write good.1

pub held_takes : (of : Class) → Takes (byte_field (held_of of)) (λ a. hold_number a ∷ []) (MayReport of)
held_takes of = byte_field_takes (held_of of) hold_number (MayReport of) (λ n a fits means.
    let good = spared (n == 0) (hold_of of n) a means in
    let is = hold_means of n a good.1 in
    (is.0, held_good of n a good.0 is.0 is.1))

pub held_again : (of : Class) → Again (byte_field (held_of of)) (λ a. hold_number a ∷ []) (MayReport of)
held_again of = byte_field_again (held_of of) hold_number (MayReport of) (held_named of)

read_left : (of : Class) → has_write of ≡ true → 1 ≤ most_left of
read_left Names e = absurd cc
read_left Data e = omega arith
read_left Attr e = omega arith
read_left Open e = absurd cc

read_is_left : (of : Class) → 1 ≤ most_left of → has_write of ≡ true
read_is_left Names low = absurd (omega (arith, low))
read_is_left Data low = refl
read_is_left Attr low = refl
read_is_left Open low = absurd (omega (arith, low))

write_is_kept : (of : Class) → 2 ≤ most_left of → ⊥
write_is_kept Names low = omega (arith, low)
write_is_kept Data low = omega (arith, low)
write_is_kept Attr low = omega (arith, low)
write_is_kept Open low = omega (arith, low)

kept_means : (of : Class) (n : ℕ) (a : Hold) → kept_of of n ≡ Some a → (n ≡ hold_number a) × (hold_number a ≤ most_left of)
unfolding kept_of
kept_means of n a =
    let P : Option Hold → Type 0 = λ o. o ≡ Some a → (n ≡ hold_number a) × (hold_number a ≤ most_left of) in
    pick P (n == 0) _ _ (λ t e. rw (← some_same Nothing a e) (from_eq n 0 t, omega arith)) (λ f.
    pick P (n == 1 && has_write of) _ _ (λ t e. let both = and_ok _ _ t in rw (← some_same Read a e) (from_eq n 1 both.0, read_left of both.1)) (λ f e. absurd cc))

kept_named : (of : Class) (a : Hold) → hold_number a ≤ most_left of → kept_of of (hold_number a) ≡ Some a
unfolding kept_of
kept_named of Nothing good = refl
kept_named of Read good = rw (read_is_left of good) refl
kept_named of Write good = absurd (write_is_kept of good)

pub kept_takes : (of : Class) → Takes (byte_field (kept_of of)) (λ a. hold_number a ∷ []) (λ a. hold_number a ≤ most_left of)
kept_takes of = byte_field_takes (kept_of of) hold_number (λ a. hold_number a ≤ most_left of) (λ n a fits means. kept_means of n a means)

pub kept_again : (of : Class) → Again (byte_field (kept_of of)) (λ a. hold_number a ∷ []) (λ a. hold_number a ≤ most_left of)
kept_again of = byte_field_again (kept_of of) hold_number (λ a. hold_number a ≤ most_left of) (kept_named of)

-- what a flush leaves, and nothing where there is none
abbrev pub MayLeave : Class → ℕ → Hold → Type 0
MayLeave of flush a = (flush ≡ 0 → a ≡ Nothing) × (may_hold of a ≡ true)

left_good : (flush n : ℕ) (a : Hold) → (flush == 0 && nat_lt 0 n) ≡ false → n ≡ hold_number a → flush ≡ 0 → a ≡ Nothing
left_good flush n Nothing spares is none = refl
left_good flush n Read spares is none = let bad : true ≡ false = rw (is, none) at spares in absurd cc
left_good flush n Write spares is none = let bad : true ≡ false = rw (is, none) at spares in absurd cc

not_both : (b c : Bool) → c ≡ false → (b && c) ≡ false
not_both true c e = e
not_both false c e = refl

none_left : (flush : ℕ) → (flush ≡ 0 → ⊥) → (flush == 0) ≡ false
none_left flush some = elim (flush == 0) as (λ b. (flush == 0) ≡ b → b ≡ false) [ true ↦ λ e. absurd (some (from_eq flush 0 e)) | false ↦ λ e. refl ] refl

left_named : (of : Class) (flush : ℕ) (a : Hold) → MayLeave of flush a → left_of of flush (hold_number a) ≡ Some a
left_named of flush Nothing good = rw (not_both (flush == 0) false refl) (hold_named of Nothing refl)
left_named of flush Read good = rw (none_left flush (λ none. (let bad = good.0 none in absurd cc))) (hold_named of Read refl)
left_named of flush Write good = rw (none_left flush (λ none. (let bad = good.0 none in absurd cc))) (hold_named of Write good.1)

pub left_takes : (of : Class) (flush : ℕ) → Takes (byte_field (left_of of flush)) (λ a. hold_number a ∷ []) (MayLeave of flush)
left_takes of flush = byte_field_takes (left_of of flush) hold_number (MayLeave of flush) (λ n a fits means.
    let good = spared (flush == 0 && nat_lt 0 n) (hold_of of n) a means in
    let is = hold_means of n a good.1 in
    (is.0, (left_good flush n a good.0 is.0, is.1)))

pub left_again : (of : Class) (flush : ℕ) → Again (byte_field (left_of of flush)) (λ a. hold_number a ∷ []) (MayLeave of flush)
left_again of flush = byte_field_again (left_of of flush) hold_number (MayLeave of flush) (left_named of flush)

fresh_good : (of : Class) (n : ℕ) (a : Bool) → (n == 0 && (if has_write of then false else true)) ≡ false → n ≡ flag_byte a → MayBeFresh of a
fresh_good of n true spares is = tt
fresh_good Names n false spares is = let bad : true ≡ false = rw is at spares in absurd cc
fresh_good Data n false spares is = refl
fresh_good Attr n false spares is = refl
fresh_good Open n false spares is = let bad : true ≡ false = rw is at spares in absurd cc

fresh_named : (of : Class) (a : Bool) → MayBeFresh of a → fresh_of of (flag_byte a) ≡ Some a
fresh_named of true good = flag_named true
fresh_named Names false good = absurd cc
fresh_named Data false good = flag_named false
fresh_named Attr false good = flag_named false
fresh_named Open false good = absurd cc

pub fresh_takes : (of : Class) → Takes (byte_field (fresh_of of)) (λ a. flag_byte a ∷ []) (MayBeFresh of)
fresh_takes of = byte_field_takes (fresh_of of) flag_byte (MayBeFresh of) (λ n a fits means.
    let good = spared (n == 0 && (if has_write of then false else true)) (flag_of n) a means in
    let is = flag_means n a good.1 in
    (is, fresh_good of n a good.0 is))

pub fresh_again : (of : Class) → Again (byte_field (fresh_of of)) (λ a. flag_byte a ∷ []) (MayBeFresh of)
fresh_again of = byte_field_again (fresh_of of) flag_byte (MayBeFresh of) (fresh_named of)

pub index_takes : (blocks least : ℕ) → Takes (index_at blocks least) (λ n. n ∷ []) (λ n. (least ≤ n) × (n < blocks))
index_takes blocks least = byte_field_takes _ (λ n. n) (λ n. (least ≤ n) × (n < blocks)) (λ n a fits means.
    let good = passed (nat_le least n && nat_lt n blocks) n a means in
    let both = and_ok _ _ good.0 in
    (good.1, (let low = from_le least n both.0 in omega (arith, low, good.1), let high = from_lt n blocks both.1 in omega (arith, high, good.1))))

pub index_again : (blocks least : ℕ) → Again (index_at blocks least) (λ n. n ∷ []) (λ n. (least ≤ n) × (n < blocks))
index_again blocks least = byte_field_again _ (λ n. n) (λ n. (least ≤ n) × (n < blocks)) (λ a good.
    rw (to_le least a good.0, to_lt a blocks good.1) refl)
