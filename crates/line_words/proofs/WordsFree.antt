-- The words of which lines are written have bytes, and no spaces among them.
use Rattle.std.proofs.Common.{◌≡◌, ◌==◌, ◌&&◌, ◌++◌, ◌≤◌, ℕ, suc, Bool, true, false, List, [], ◌∷◌, length, All, nat_lt, nat_le, not, refl, ◌∙◌, arith, codes, decimal}
use Rattle.std.specs.List.{list_all}
use Rattle.std.proofs.lemmas.Bool.{and_parts}
use Rattle.std.proofs.lemmas.Bool.Decides.{nat_tests}
use Rattle.std.proofs.lemmas.List.Folds.{list_all-append}
use Rattle.std.proofs.lemmas.List.Sums.{list_all-from_AllPass}
use Rattle.cal_base.specs.declared.identity.ClientId.{ClientId}
use Rattle.tree_law.specs.Path.{IsName, IsPath, slashed, path_text}
use Rattle.tree_law.specs.declared.call.Call.{Call}
use Rattle.tree_law.specs.declared.call.Call.TheVariants.{Create, Mkdir, Unlink, Rmdir, Rename, Open, Close, Read, Write, Truncate, Stat, Readdir, Fsync}
use Rattle.tree_law.specs.declared.mode.Mode.{Mode}
use Rattle.tree_law.specs.declared.mode.Mode.TheVariants.{R, W, Rw}
use Rattle.script.specs.Numbers.{is_digit, is_plainly_begun, is_decimal, value_of, is_hex_digit, is_hex, hex_bytes}
use Rattle.script.specs.Spelling.{hex_text, client_word, mode_word, call_words, IsBytes, IsClient, IsWide, IsCall}
use Rattle.script.specs.declared.bad_line.BadWhy.TheVariants.{Number, Hex}
use Rattle.script.proofs.ReadPlaces.{passed}
use Rattle.script.proofs.Written.{number_written, bytes_written}
use Rattle.line_words.specs.Places.{are_whole}
use Rattle.line_words.proofs.Joined.{is_free, are_free, and_both}

abbrev is_whole : List ℕ → Bool
is_whole word = nat_lt 0 (length word)

some_whole : (byte : ℕ) (word : List ℕ) → is_whole (byte ∷ word) ≡ true
some_whole byte word = grind (arith, nat_tests)

pub all_so : (p q : ℕ → Bool) → ((byte : ℕ) → p byte ≡ true → q byte ≡ true) → (word : List ℕ) → list_all p word ≡ true → list_all q word ≡ true
all_so p q so [] h = refl
all_so p q so (byte ∷ word) h = let both = and_parts (p byte) (list_all p word) h in and_both _ _ (so byte both.0) (all_so p q so word both.1)

-- numbers

digit_free : (byte : ℕ) → is_digit byte ≡ true → not (byte == 32) ≡ true
digit_free byte h = grind (arith, nat_tests)

is_number : (n : ℕ) → IsWide n → is_decimal (decimal n) ≡ true
is_number n wide =
    let through = passed (is_decimal (decimal n) && nat_le 0 (value_of (decimal n)) && nat_le (value_of (decimal n)) 18446744073709551615) (value_of (decimal n)) n Number (number_written 0 18446744073709551615 n (omega arith) wide (omega arith)) in
    (and_parts (is_decimal (decimal n)) (nat_le 0 (value_of (decimal n))) (and_parts _ _ through.0).0).0

begun_whole : (word : List ℕ) → is_plainly_begun word ≡ true → is_whole word ≡ true
begun_whole [] h = absurd (let same : false ≡ true = h in grind arith)
begun_whole (byte ∷ word) h = some_whole byte word

pub number_free : (n : ℕ) → IsWide n → is_free (decimal n) ≡ true
number_free n wide = all_so is_digit (λ byte. not (byte == 32)) digit_free (decimal n) (and_parts (list_all is_digit (decimal n)) (is_plainly_begun (decimal n)) (is_number n wide)).0

pub number_whole : (n : ℕ) → IsWide n → is_whole (decimal n) ≡ true
number_whole n wide = begun_whole (decimal n) (and_parts (list_all is_digit (decimal n)) (is_plainly_begun (decimal n)) (is_number n wide)).1

pub client_free : (client : ClientId) → IsClient client → is_free (client_word client) ≡ true
client_free client h = and_both _ _ refl (number_free client.0 (omega (arith, h)))

-- bytes

pub hex_digit_free : (byte : ℕ) → is_hex_digit byte ≡ true → not (byte == 32) ≡ true
hex_digit_free byte h = grind (arith, nat_tests)

is_hexadecimal : (bytes : List ℕ) → IsBytes 32768 bytes → is_hex 32768 (hex_text bytes) ≡ true
is_hexadecimal bytes is = (passed (is_hex 32768 (hex_text bytes)) (hex_bytes (hex_text bytes)) bytes Hex (bytes_written 32768 bytes is)).0

bytes_free : (bytes : List ℕ) → IsBytes 32768 bytes → is_free (hex_text bytes) ≡ true
bytes_free bytes is =
    let one = and_parts _ _ (is_hexadecimal bytes is) in
    let two = and_parts _ _ one.0 in
    let three = and_parts _ _ two.0 in
    all_so is_hex_digit (λ byte. not (byte == 32)) hex_digit_free (hex_text bytes) three.0

bytes_whole : (bytes : List ℕ) → IsBytes 32768 bytes → is_whole (hex_text bytes) ≡ true
bytes_whole bytes is =
    let one = and_parts _ _ (is_hexadecimal bytes is) in
    (and_parts _ _ one.0).1

-- paths and modes

name_byte_free : (byte : ℕ) → 33 ≤ byte → not (byte == 32) ≡ true
name_byte_free byte h = grind (arith, nat_tests)

pub name_free : (name : List ℕ) → IsName name → is_free name ≡ true
name_free name is = list_all-from_AllPass (λ byte. not (byte == 32)) name (λ k d h. name_byte_free _ (is.graphic k d h).0)

slashed_free : (names : List (List ℕ)) → All IsName names → is_free (slashed names) ≡ true
slashed_free [] is = refl
slashed_free (name ∷ names) is =
    and_both _ _ refl (list_all-append (λ byte. not (byte == 32)) name (slashed names) ∙ and_both _ _ (name_free name (is 0 [] (omega arith))) (slashed_free names (λ k d h. is (suc k) d (omega arith))))

path_free : (path : List (List ℕ)) → IsPath path → is_free (path_text path) ≡ true
path_free [] is = refl
path_free (name ∷ names) is = slashed_free (name ∷ names) is.names

path_whole : (path : List (List ℕ)) → is_whole (path_text path) ≡ true
path_whole [] = refl
path_whole (name ∷ names) = some_whole 47 (name ++ slashed names)

mode_free : (mode : Mode) → is_free (mode_word mode) ≡ true
mode_free R = refl
mode_free W = refl
mode_free Rw = refl

mode_whole : (mode : Mode) → is_whole (mode_word mode) ≡ true
mode_whole R = refl
mode_whole W = refl
mode_whole Rw = refl

-- calls

one_free : (one two : List ℕ) → is_free one ≡ true → is_free two ≡ true → are_free (one ∷ two ∷ []) ≡ true
one_free one two a b = and_both _ _ a (and_both _ _ b refl)

two_free : (one two three : List ℕ) → is_free one ≡ true → is_free two ≡ true → is_free three ≡ true → are_free (one ∷ two ∷ three ∷ []) ≡ true
two_free one two three a b c = and_both _ _ a (one_free two three b c)

three_free : (one two three four : List ℕ) → is_free one ≡ true → is_free two ≡ true → is_free three ≡ true → is_free four ≡ true → are_free (one ∷ two ∷ three ∷ four ∷ []) ≡ true
three_free one two three four a b c d = and_both _ _ a (two_free two three four b c d)

one_whole : (one two : List ℕ) → is_whole one ≡ true → is_whole two ≡ true → are_whole (one ∷ two ∷ []) ≡ true
one_whole one two a b = and_both _ _ a (and_both _ _ b refl)

two_whole : (one two three : List ℕ) → is_whole one ≡ true → is_whole two ≡ true → is_whole three ≡ true → are_whole (one ∷ two ∷ three ∷ []) ≡ true
two_whole one two three a b c = and_both _ _ a (one_whole two three b c)

three_whole : (one two three four : List ℕ) → is_whole one ≡ true → is_whole two ≡ true → is_whole three ≡ true → is_whole four ≡ true → are_whole (one ∷ two ∷ three ∷ four ∷ []) ≡ true
three_whole one two three four a b c d = and_both _ _ a (two_whole two three four b c d)

wide : (fd : ℕ) → fd ≤ 255 → IsWide fd
wide fd h = omega (arith, h)

-- the words of a call have no spaces
pub call_free : (call : Call) → IsCall call → are_free (call_words call) ≡ true
call_free (Create path) is = one_free (codes "create") (path_text path) refl (path_free path is)
call_free (Mkdir path) is = one_free (codes "mkdir") (path_text path) refl (path_free path is)
call_free (Unlink path) is = one_free (codes "unlink") (path_text path) refl (path_free path is)
call_free (Rmdir path) is = one_free (codes "rmdir") (path_text path) refl (path_free path is)
call_free (Rename from to) is = two_free (codes "rename") (path_text from) (path_text to) refl (path_free from is.0) (path_free to is.1)
call_free (Open path mode) is = two_free (codes "open") (path_text path) (mode_word mode) refl (path_free path is) (mode_free mode)
call_free (Close fd) is = one_free (codes "close") (decimal fd) refl (number_free fd (wide fd is))
call_free (Read fd offset count) is = three_free (codes "read") (decimal fd) (decimal offset) (decimal count) refl (number_free fd (wide fd is.0)) (number_free offset is.1) (number_free count (omega (arith, is.2)))
call_free (Write fd offset bytes) is = three_free (codes "write") (decimal fd) (decimal offset) (hex_text bytes) refl (number_free fd (wide fd is.0)) (number_free offset is.1) (bytes_free bytes is.2)
call_free (Truncate fd size) is = two_free (codes "truncate") (decimal fd) (decimal size) refl (number_free fd (wide fd is.0)) (number_free size is.1)
call_free (Stat path) is = one_free (codes "stat") (path_text path) refl (path_free path is)
call_free (Readdir path) is = one_free (codes "readdir") (path_text path) refl (path_free path is)
call_free (Fsync fd) is = one_free (codes "fsync") (decimal fd) refl (number_free fd (wide fd is))

-- none of the words of a call is empty
pub call_whole : (call : Call) → IsCall call → are_whole (call_words call) ≡ true
call_whole (Create path) is = one_whole (codes "create") (path_text path) refl (path_whole path)
call_whole (Mkdir path) is = one_whole (codes "mkdir") (path_text path) refl (path_whole path)
call_whole (Unlink path) is = one_whole (codes "unlink") (path_text path) refl (path_whole path)
call_whole (Rmdir path) is = one_whole (codes "rmdir") (path_text path) refl (path_whole path)
call_whole (Rename from to) is = two_whole (codes "rename") (path_text from) (path_text to) refl (path_whole from) (path_whole to)
call_whole (Open path mode) is = two_whole (codes "open") (path_text path) (mode_word mode) refl (path_whole path) (mode_whole mode)
call_whole (Close fd) is = one_whole (codes "close") (decimal fd) refl (number_whole fd (wide fd is))
call_whole (Read fd offset count) is = three_whole (codes "read") (decimal fd) (decimal offset) (decimal count) refl (number_whole fd (wide fd is.0)) (number_whole offset is.1) (number_whole count (omega (arith, is.2)))
call_whole (Write fd offset bytes) is = three_whole (codes "write") (decimal fd) (decimal offset) (hex_text bytes) refl (number_whole fd (wide fd is.0)) (number_whole offset is.1) (bytes_whole bytes is.2)
call_whole (Truncate fd size) is = two_whole (codes "truncate") (decimal fd) (decimal size) refl (number_whole fd (wide fd is.0)) (number_whole size is.1)
call_whole (Stat path) is = one_whole (codes "stat") (path_text path) refl (path_whole path)
call_whole (Readdir path) is = one_whole (codes "readdir") (path_text path) refl (path_whole path)
call_whole (Fsync fd) is = one_whole (codes "fsync") (decimal fd) refl (number_whole fd (wide fd is))
