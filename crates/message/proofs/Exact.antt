-- Reading and spelling against one another: what a field's reader takes is spelled so, and what is
-- spelled so is taken again.
use Rattle.std.proofs.Common.{◌≡◌, ◌<◌, ◌≤◌, ◌^◌, ◌∷◌, ◌++◌, [], ℕ, zero, suc, Bool, true, false, List, Option, Some, Result, Ok, Err, length, take, drop, slice_index, refl, sym, ap, ◌∙◌, arith, append_assoc}
use Rattle.std.specs.Prelude.{nat_lt, if◌then◌else◌}
use Rattle.std.specs.List.{flat_map}
use Rattle.std.proofs.lemmas.Bool.Decides.{nat_tests}
use Rattle.std.proofs.lemmas.List.{take-append-drop, length-take-le}
use Rattle.byteorder.specs.Endian.{big_number}
use Rattle.cal_fields.specs.BigEndian.{big_endian}
use Rattle.change_reply.proofs.Numbers.{drop_fits, number_fits, number_takes}
use Rattle.message.specs.Reading.{Read, ◌>>=◌, byte_at, byte_field, many_at, number_at, number_field, take_at}
use Rattle.message.proofs.InTurn.{AreInTurn}
use Rattle.message.proofs.Front.{number_is}
use Rattle.message.proofs.Parts.{bind_ok, meant_ok, ok_same}

abbrev pub IsBytes : List ℕ → Type 0
IsBytes bytes = (i : ℕ) → slice_index bytes i < 256

-- a good value and the bytes behind it were read, and the bytes at the front spell the value
pub record Took {A : Type 0} (text : A → List ℕ) (Good : A → Type 0) (bytes : List ℕ) (x : A × List ℕ) : Type 0 where
  pub is : bytes ≡ text x.0 ++ x.1
  pub good : Good x.0
  pub fits : IsBytes x.1

abbrev pub Takes : {A : Type 0} → (List ℕ → Read A) → (A → List ℕ) → (A → Type 0) → Type 0
Takes {A = A} read text Good = (bytes : List ℕ) (x : A × List ℕ) → IsBytes bytes → read bytes ≡ Ok x → Took text Good bytes x

abbrev pub Again : {A : Type 0} → (List ℕ → Read A) → (A → List ℕ) → (A → Type 0) → Type 0
Again {A = A} read text Good = (x : A) (rest : List ℕ) → Good x → read (text x ++ rest) ≡ Ok (x, rest)

-- one field after another
pub then_ok : {A B : Type 0} (r : Read A) (f : A × List ℕ → Result B ℕ) (x : A × List ℕ) (y : B) → r ≡ Ok x → f x ≡ Ok y → (r >>= f) ≡ Ok y
then_ok r f x y first next = ap (λ r. r >>= f) first ∙ next

pub join : (bytes a b middle rest : List ℕ) → bytes ≡ a ++ middle → middle ≡ b ++ rest → bytes ≡ a ++ b ++ rest
join bytes a b middle rest first next = first ∙ ap (λ (xs : List ℕ). a ++ xs) next ∙ sym (append_assoc a b rest)

-- some bytes begin with others
pub record Begins (bytes front rest : List ℕ) : Type 0 where
  pub is : bytes ≡ front ++ rest

pub begin : {A : Type 0} {text : A → List ℕ} {Good : A → Type 0} {bytes : List ℕ} {x : A × List ℕ} → Took text Good bytes x → Begins bytes (text x.0) x.1
begin took = record { is = took.is }

pub on : {A : Type 0} {text : A → List ℕ} {Good : A → Type 0} {bytes front middle : List ℕ} {x : A × List ℕ} → Begins bytes front middle → Took text Good middle x
    → Begins bytes (front ++ text x.0) x.1
on {text = text} {bytes = bytes} {front = front} {middle = middle} {x = x} begins took = record { is = join bytes front (text x.0) middle x.1 begins.is took.is }

pub byte_takes : Takes byte_at (λ byte. byte ∷ []) (λ byte. byte < 256)
unfolding byte_at
byte_takes [] x fits e = absurd cc
byte_takes (byte ∷ bytes) x fits e = rw (← ok_same _ _ e) (record { is = refl; good = fits 0; fits = λ i. fits (suc i) })

-- what a test lets through
abbrev tested : {A : Type 0} → Bool → A → Result A ℕ
tested short x = if short then Err 0 else Ok x

pub let_through : {A : Type 0} (short : Bool) (x y : A) → tested short x ≡ Ok y → (short ≡ false) × (x ≡ y)
let_through true x y e = absurd cc
let_through false x y e = (refl, ok_same _ _ e)

pub enough : (count : ℕ) (bytes : List ℕ) → nat_lt (length bytes) count ≡ false → count ≤ length bytes
enough count bytes e = grind (arith, nat_tests)

pub number_take : (width : ℕ) → Takes (number_at width) (big_endian width) (λ number. number < 256 ^ width)
unfolding number_at
number_take width bytes x fits e =
    let good = let_through (nat_lt (length bytes) width) (big_number width bytes, drop width bytes) x e in
    rw (← good.1) (record { is = number_takes width bytes (enough width bytes good.0) fits; good = number_fits width bytes fits; fits = drop_fits width bytes fits })

pub bytes_take : (count : ℕ) → Takes (take_at count) (λ bytes. bytes) (λ bytes. length bytes ≡ count)
unfolding take_at
bytes_take count bytes x fits e =
    let good = let_through (nat_lt (length bytes) count) (take count bytes, drop count bytes) x e in
    rw (← good.1) (record { is = sym (take-append-drop count bytes); good = length-take-le count bytes (enough count bytes good.0); fits = drop_fits count bytes fits })

pub byte_field_takes : {A : Type 0} (meaning : ℕ → Option A) (number : A → ℕ) (Good : A → Type 0) → ((n : ℕ) (a : A) → n < 256 → meaning n ≡ Some a → (n ≡ number a) × Good a)
    → Takes (byte_field meaning) (λ a. number a ∷ []) Good
byte_field_takes meaning number Good means bytes x fits e =
    let byte = bind_ok (byte_at bytes) _ x e in
    let took = byte_takes bytes byte.0 fits byte.1 in
    let is = meant_ok _ _ _ x byte.2 in
    let good = means byte.0.0 x.0 took.good is.0 in
    record { is = took.is ∙ ap (λ n. n ∷ byte.0.1) good.0 ∙ ap (λ (r : List ℕ). number x.0 ∷ r) is.1; good = good.1; fits = rw (← is.1) took.fits }

pub number_field_takes : {A : Type 0} (width : ℕ) (meaning : ℕ → Option A) (number : A → ℕ) (Good : A → Type 0) → ((n : ℕ) (a : A) → n < 256 ^ width → meaning n ≡ Some a → (n ≡ number a) × Good a)
    → Takes (number_field width meaning) (λ a. big_endian width (number a)) Good
number_field_takes width meaning number Good means bytes x fits e =
    let field = bind_ok (number_at width bytes) _ x e in
    let took = number_take width bytes field.0 fits field.1 in
    let is = meant_ok _ _ _ x field.2 in
    let good = means field.0.0 x.0 took.good is.0 in
    record { is = took.is ∙ ap (λ n. big_endian width n ++ field.0.1) good.0 ∙ ap (λ (r : List ℕ). big_endian width (number x.0) ++ r) is.1; good = good.1; fits = rw (← is.1) took.fits }

pub byte_field_again : {A : Type 0} (meaning : ℕ → Option A) (number : A → ℕ) (Good : A → Type 0) → ((a : A) → Good a → meaning (number a) ≡ Some a)
    → Again (byte_field meaning) (λ a. number a ∷ []) Good
unfolding byte_at
byte_field_again meaning number Good means a rest good = rw (means a good) refl

pub number_field_again : {A : Type 0} (width : ℕ) (meaning : ℕ → Option A) (number : A → ℕ) (Good : A → Type 0) → ((a : A) → Good a → (number a < 256 ^ width) × (meaning (number a) ≡ Some a))
    → Again (number_field width meaning) (λ a. big_endian width (number a)) Good
number_field_again width meaning number Good means a rest good =
    then_ok _ _ (number a, rest) _ (number_is width (number a) _ rest (means a good).0 refl) (rw ((means a good).1) refl)

-- so many items
pub many_takes : {A S : Type 0} (item : S → List ℕ → Read A) (seen : A → S) (text : A → List ℕ) (Good : S → A → Type 0) → ((s : S) → Takes (item s) text (Good s))
    → (count : ℕ) (before : S) (bytes : List ℕ) (x : List A × List ℕ) → IsBytes bytes → many_at item seen count before bytes ≡ Ok x
    → (length x.0 ≡ count) × Took (flat_map text) (AreInTurn Good seen before) bytes x
unfolding many_at
many_takes item seen text Good each zero before bytes x fits e =
    rw (← ok_same _ _ e) (refl, record { is = refl; good = tt; fits = fits })
many_takes item seen text Good each (suc count) before bytes x fits e =
    let first = bind_ok (item before bytes) _ x e in
    let took = each before bytes first.0 fits first.1 in
    let more = bind_ok (many_at item seen count (seen first.0.0) first.0.1) _ x first.2 in
    let all = many_takes item seen text Good each count (seen first.0.0) first.0.1 more.0 took.fits more.1 in
    rw (← ok_same _ _ more.2) (
      omega (arith, all.0),
      record { is = (on (begin took) all.1).is; good = (took.good, all.1.good); fits = all.1.fits },
    )

pub many_again : {A S : Type 0} (item : S → List ℕ → Read A) (seen : A → S) (text : A → List ℕ) (Good : S → A → Type 0) → ((s : S) → Again (item s) text (Good s))
    → (xs : List A) (before : S) (rest : List ℕ) → AreInTurn Good seen before xs → many_at item seen (length xs) before (flat_map text xs ++ rest) ≡ Ok (xs, rest)
unfolding many_at
many_again item seen text Good each [] before rest good = refl
many_again item seen text Good each (x ∷ xs) before rest good =
    ap (many_at item seen (length (x ∷ xs)) before) (append_assoc (text x) (flat_map text xs) rest)
    ∙ then_ok _ _ (x, flat_map text xs ++ rest) _ (each before x (flat_map text xs ++ rest) good.0)
    (then_ok _ _ (xs, rest) _ (many_again item seen text Good each xs (seen x) rest good.1) refl)
