-- Numbers, bytes, clients, servers and modes are read from their own words.
use Rattle.std.proofs.Common.{◌≡◌, ◌==◌, ◌&&◌, ◌+◌, ◌*◌, ◌-◌, ◌/◌, ◌%◌, ◌<◌, ◌≤◌, ◌^◌, ℕ, suc, Bool, true, false, List, [], ◌∷◌, length, All, get_or, nat_lt, nat_le, refl, ap, ◌∙◌, cond, arith, Result, Ok, Err, decimal}
use Rattle.std.specs.List.{list_all}
use Rattle.std.specs.Char.{digit_value}
use Rattle.std.specs.Str.Parse.{AllDigits, digits_value_after}
use Rattle.std.proofs.lemmas.Bool.{and_from}
use Rattle.std.proofs.lemmas.Bool.Decides.{nat_tests}
use Rattle.std.proofs.lemmas.Fmt.{decimal_is_IsNumeral, decimal_digit, first_decimal}
use Rattle.std.proofs.lemmas.Str.{digit_value_digit}
use Rattle.std.proofs.lemmas.Str.Parse.{digit_from_value}
use Rattle.cal_base.specs.declared.identity.ClientId.{ClientId}
use Rattle.cal_base.specs.declared.identity.ServerId.{ServerId}
use Rattle.cal_base.specs.declared.identity.ServerId.TheVariants.{A, B}
use Rattle.cal_base.specs.declared.identity.NodeId.{NodeId}
use Rattle.cal_base.specs.declared.identity.NodeId.TheVariants.{Client, Server}
use Rattle.tree_law.specs.declared.mode.Mode.{Mode}
use Rattle.tree_law.specs.declared.mode.Mode.TheVariants.{R, W, Rw}
use Rattle.script.specs.Numbers.{is_digit, is_plainly_begun, is_decimal, value_behind, value_of, number_in, is_hex_digit, nibble, hex_bytes, is_hex, hex_in, byte_of}
use Rattle.script.specs.Places.{client_of, client_in, server_in, node_or, node_in, mode_in}
use Rattle.script.specs.Spelling.{hex_digit, hex_text, client_word, server_word, node_word, mode_word, IsBytes, IsClient, IsNode}
use Rattle.script.specs.declared.bad_line.BadWhy.{BadWhy}
use Rattle.script.specs.declared.bad_line.BadWhy.TheVariants.{Number, Hex}

digit_is : (byte : ℕ) → digit_value byte < 10 → is_digit byte ≡ true
digit_is byte h = let range = digit_from_value byte h in grind (arith, nat_tests)

digits_are : (digits : List ℕ) → AllDigits 10 digits → list_all is_digit digits ≡ true
digits_are [] h = refl
digits_are (digit ∷ digits) h = and_from _ _ (digit_is digit h.0) (digits_are digits h.1)

same_value : (front : ℕ) (digits : List ℕ) → AllDigits 10 digits → value_behind front digits ≡ digits_value_after 10 front digits
same_value front [] h = refl
same_value front (digit ∷ digits) h =
    let is = digit_value_digit digit (digit_from_value digit h.0) in
    let same : front * 10 + (digit - 48) ≡ front * 10 + digit_value digit = omega arith in
    ap (λ (n : ℕ). value_behind n digits) same ∙ same_value (front * 10 + digit_value digit) digits h.1

begun : (digits : List ℕ) → 48 < get_or digits 0 0 → is_plainly_begun digits ≡ true
begun [] h = absurd (omega arith)
begun (digit ∷ []) h = refl
begun (digit ∷ next ∷ digits) h = let big : 48 < digit = h in grind (arith, nat_tests)

zero_begun : (n : ℕ) → n ≡ 0 → is_plainly_begun (decimal n) ≡ true
zero_begun n e = ap is_plainly_begun (decimal_digit n (omega arith))

decimal_begun : (n : ℕ) → n < 2 ^ 64 → (b : Bool) → nat_lt 0 n ≡ b → is_plainly_begun (decimal n) ≡ true
decimal_begun n small true e = begun (decimal n) (first_decimal n (grind (arith, nat_tests)) small)
decimal_begun n small false e = zero_begun n (grind (arith, nat_tests))

decimal_is : (n : ℕ) → n < 2 ^ 64 → is_decimal (decimal n) ≡ true
decimal_is n small = and_from _ _ (digits_are (decimal n) (decimal_is_IsNumeral n small).0.1) (decimal_begun n small _ refl)

value_is : (n : ℕ) → n < 2 ^ 64 → value_of (decimal n) ≡ n
value_is n small = let numeral = decimal_is_IsNumeral n small in same_value 0 (decimal n) numeral.0.1 ∙ numeral.1

within : (least most n : ℕ) → least ≤ n → n ≤ most → (nat_le least n && nat_le n most) ≡ true
within least most n low high = grind (arith, nat_tests)

-- a number is read from its decimal digits
pub number_written : (least most n : ℕ) → least ≤ n → n ≤ most → most ≤ 18446744073709551615 → number_in least most (decimal n) ≡ Ok n
number_written least most n low high wide =
    let small : n < 2 ^ 64 = omega arith in
    ap (λ (b : Bool). cond (b && nat_le least (value_of (decimal n)) && nat_le (value_of (decimal n)) most) (Ok (value_of (decimal n))) (Err Number)) (decimal_is n small)
    ∙ ap (λ (v : ℕ). cond (true && nat_le least v && nat_le v most) (Ok v) (Err Number)) (value_is n small)
    ∙ ap (λ (b : Bool). cond b (Ok n) (Err Number)) (within least most n low high)

-- hexadecimal

digit_of : (n : ℕ) → n < 16 → is_hex_digit (hex_digit n) ≡ true
digit_of n h = elim (nat_lt n 10) as (λ b. nat_lt n 10 ≡ b → is_hex_digit (cond b (48 + n) (87 + n)) ≡ true) [
  | true ↦ λ e. grind (arith, nat_tests)
  | false ↦ λ e. grind (arith, nat_tests)
] refl

nibble_of : (n : ℕ) → n < 16 → nibble (hex_digit n) ≡ n
nibble_of n h = elim (nat_lt n 10) as (λ b. nat_lt n 10 ≡ b → nibble (cond b (48 + n) (87 + n)) ≡ n) [
  | true ↦ λ e. grind (arith, nat_tests)
  | false ↦ λ e. grind (arith, nat_tests)
] refl

high_half : (byte : ℕ) → byte ≤ 255 → byte / 16 < 16
high_half byte h = omega arith

low_half : (byte : ℕ) → byte % 16 < 16
low_half byte = omega arith

joined : (byte : ℕ) → byte ≤ 255 → nibble (hex_digit (byte / 16)) * 16 + nibble (hex_digit (byte % 16)) ≡ byte
joined byte h = rw (nibble_of (byte / 16) (high_half byte h), nibble_of (byte % 16) (low_half byte)) (omega arith)

tail_bytes : (byte : ℕ) (bytes : List ℕ) → All (λ b. b ≤ 255) (byte ∷ bytes) → All (λ b. b ≤ 255) bytes
tail_bytes byte bytes h = λ k d l. h (suc k) d (omega arith)

hex_digits : (bytes : List ℕ) → All (λ byte. byte ≤ 255) bytes → list_all is_hex_digit (hex_text bytes) ≡ true
hex_digits [] h = refl
hex_digits (byte ∷ bytes) h =
    and_from _ _ (digit_of (byte / 16) (high_half byte (h 0 0 (omega arith)))) (and_from _ _ (digit_of (byte % 16) (low_half byte)) (hex_digits bytes (tail_bytes byte bytes h)))

hex_length : (bytes : List ℕ) → length (hex_text bytes) ≡ 2 * length bytes
hex_length [] = refl
hex_length (byte ∷ bytes) = omega (arith, hex_length bytes)

hex_back : (bytes : List ℕ) → All (λ byte. byte ≤ 255) bytes → hex_bytes (hex_text bytes) ≡ bytes
hex_back [] h = refl
hex_back (byte ∷ bytes) h = rw (joined byte (h 0 0 (omega arith)), hex_back bytes (tail_bytes byte bytes h)) refl

fitting : (n most length : ℕ) → 1 ≤ n → n ≤ most → length ≡ 2 * n → ((length % 2 == 0) ≡ true) × (nat_lt 0 length ≡ true) × (nat_le length (2 * most) ≡ true)
fitting n most length low high e =
    let even : length % 2 ≡ 0 = omega arith in
    let some : 0 < length = omega arith in
    let few : length ≤ 2 * most = omega arith in
    (grind (arith, nat_tests), grind (arith, nat_tests), grind (arith, nat_tests))

hex_is : (most : ℕ) (bytes : List ℕ) → IsBytes most bytes → is_hex most (hex_text bytes) ≡ true
hex_is most bytes is =
    let fit = fitting (length bytes) most (length (hex_text bytes)) is.some is.few (hex_length bytes) in
    and_from _ _ (and_from _ _ (and_from _ _ (hex_digits bytes is.each) fit.0) fit.1) fit.2

-- bytes are read from their hexadecimal digits
pub bytes_written : (most : ℕ) (bytes : List ℕ) → IsBytes most bytes → hex_in most (hex_text bytes) ≡ Ok bytes
bytes_written most bytes is =
    ap (λ (b : Bool). cond b (Ok (hex_bytes (hex_text bytes))) (Err Hex)) (hex_is most bytes is) ∙ ap (λ (l : List ℕ). Ok l) (hex_back bytes is.each)

-- a byte is read from its two digits
pub byte_written : (byte : ℕ) → byte ≤ 255 → byte_of (hex_text (byte ∷ [])) ≡ Ok byte
byte_written byte h =
    ap (λ (b : Bool). cond b (Ok (nibble (hex_digit (byte / 16)) * 16 + nibble (hex_digit (byte % 16)))) (Err Hex)) (and_from _ _ (digit_of (byte / 16) (high_half byte h)) (digit_of (byte % 16) (low_half byte)))
    ∙ ap (λ (n : ℕ). Ok n) (joined byte h)

-- nodes and modes

pub client_written : (client : ClientId) → IsClient client → client_in (client_word client) ≡ Ok client
client_written client h = ap client_of (number_written 0 15 client.0 (omega arith) h (omega arith))

pub server_written : (server : ServerId) → server_in (server_word server) ≡ Ok server
server_written A = refl
server_written B = refl

pub node_written : (node : NodeId) → IsNode node → node_in (node_word node) ≡ Ok node
node_written (Client client) h = ap (λ (r : Result ClientId BadWhy). node_or r (server_in (client_word client))) (client_written client h)
node_written (Server A) h = refl
node_written (Server B) h = refl

pub mode_written : (mode : Mode) → mode_in (mode_word mode) ≡ Ok mode
mode_written R = refl
mode_written W = refl
mode_written Rw = refl
