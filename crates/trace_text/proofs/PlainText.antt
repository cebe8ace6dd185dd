-- Texts without a byte below the space.
use Rattle.std.proofs.Common.{◌≡◌, ◌+◌, ◌≤◌, ◌==◌, ◌&&◌, ◌++◌, ◌/◌, ◌%◌, ℕ, zero, suc, Bool, true, false, List, [], ◌∷◌, nat_le, nat_lt, Option, Some, None, refl, ◌∙◌, arith, if◌then◌else◌}
use Rattle.std.specs.Fmt.{decimal, digits, digits_onto, digit_glyph}
use Rattle.std.specs.List.{list_all}
use Rattle.std.proofs.lemmas.List.Folds.{list_all-append}
use Rattle.std.proofs.lemmas.Bool.Decides.{nat_tests}
use Rattle.cal_base.specs.declared.identity.ServerId.TheVariants.{A, B}
use Rattle.cal_base.specs.declared.identity.NodeId.{NodeId}
use Rattle.cal_base.specs.declared.identity.NodeId.TheVariants.{Client, Server}
use Rattle.reply_text.specs.Text.{hex_digit, hex_text, spaced}
use Rattle.script.specs.Spelling.{node_word}
use Rattle.trace_text.specs.Kinds.{is_plain}
use Rattle.trace_text.specs.Line.{actor_word, hex_or_dash}

-- one byte from the space on
pub plain_byte : (byte : ℕ) → 32 ≤ byte → nat_le 32 byte ≡ true
plain_byte byte high = grind (arith, nat_tests)

pub both : (a b : Bool) → a ≡ true → b ≡ true → (a && b) ≡ true
both a b is is_too = rw (is, is_too) refl

-- two texts, one behind the other
pub plain_both : (a b : List ℕ) → is_plain a ≡ true → is_plain b ≡ true → is_plain (a ++ b) ≡ true
plain_both a b is is_too = list_all-append (λ byte. nat_le 32 byte) a b ∙ both _ _ is is_too

pub plain_three : (a b d : List ℕ) → is_plain a ≡ true → is_plain b ≡ true → is_plain d ≡ true → is_plain (a ++ b ++ d) ≡ true
plain_three a b d is_a is_b is_d = plain_both (a ++ b) d (plain_both a b is_a is_b) is_d

pub plain_four : (a b d e : List ℕ) → is_plain a ≡ true → is_plain b ≡ true → is_plain d ≡ true → is_plain e ≡ true → is_plain (a ++ b ++ d ++ e) ≡ true
plain_four a b d e is_a is_b is_d is_e = plain_both (a ++ b ++ d) e (plain_three a b d is_a is_b is_d) is_e

-- a byte in front
pub plain_front : (byte : ℕ) (text : List ℕ) → 32 ≤ byte → is_plain text ≡ true → is_plain (byte ∷ text) ≡ true
plain_front byte text high is = both _ _ (plain_byte byte high) is

chosen : (b : Bool) (n m : ℕ) → 32 ≤ n → 32 ≤ m → 32 ≤ (if b then n else m)
chosen true n m high higher = high
chosen false n m high higher = higher

glyph_high : (n : ℕ) → 32 ≤ digit_glyph false n
glyph_high n = chosen (nat_lt n 10) (48 + n) (87 + n) (omega arith) (omega arith)

-- digits
choice : (b : Bool) (one more : List ℕ) → is_plain one ≡ true → is_plain more ≡ true → is_plain (if b then one else more) ≡ true
choice true one more is is_too = is
choice false one more is is_too = is_too

plain_digits : (k n : ℕ) (behind : List ℕ) → is_plain behind ≡ true → is_plain (digits_onto k 10 false n behind) ≡ true
plain_digits zero n behind is = is
plain_digits (suc k) n behind is =
    let front = plain_front (digit_glyph false (n % 10)) behind (glyph_high (n % 10)) is in
    choice (n / 10 == 0) _ _ front (plain_digits k (n / 10) (digit_glyph false (n % 10) ∷ behind) front)

pub plain_decimal : (n : ℕ) → is_plain (decimal n) ≡ true
unfolding digits
plain_decimal n = plain_digits 64 n [] refl

hex_high : (n : ℕ) → 32 ≤ hex_digit n
hex_high n = chosen (nat_lt n 10) (48 + n) (87 + n) (omega arith) (omega arith)

pub plain_hex : (bytes : List ℕ) → is_plain (hex_text bytes) ≡ true
plain_hex [] = refl
plain_hex (byte ∷ bytes) = plain_front (hex_digit (byte / 16)) (hex_digit (byte % 16) ∷ hex_text bytes) (hex_high (byte / 16)) (plain_front (hex_digit (byte % 16)) (hex_text bytes) (hex_high (byte % 16)) (plain_hex bytes))

pub plain_hex_or_dash : (bytes : List ℕ) → is_plain (hex_or_dash bytes) ≡ true
plain_hex_or_dash [] = refl
plain_hex_or_dash (byte ∷ bytes) = plain_hex (byte ∷ bytes)

-- words, each behind a space
pub plain_spaced : (words : List (List ℕ)) → list_all is_plain words ≡ true → is_plain (spaced words) ≡ true
plain_spaced [] are = refl
plain_spaced (word ∷ words) are = plain_front 32 (word ++ spaced words) (omega arith) (plain_both word (spaced words) (front_of _ _ are) (plain_spaced words (rest_of _ _ are)))
  where
    front_of : (a b : Bool) → (a && b) ≡ true → a ≡ true
    front_of true b is = refl
    front_of false b is = is

    rest_of : (a b : Bool) → (a && b) ≡ true → b ≡ true
    rest_of true b is = is
    rest_of false b is = absurd (cc)

pub plain_node : (node : NodeId) → is_plain (node_word node) ≡ true
plain_node (Client client) = plain_front 99 (decimal client.0) (omega arith) (plain_decimal client.0)
plain_node (Server A) = refl
plain_node (Server B) = refl

pub plain_actor : (actor : Option NodeId) → is_plain (actor_word actor) ≡ true
plain_actor (Some node) = plain_node node
plain_actor None = refl
