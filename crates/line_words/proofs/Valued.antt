-- Numbers, nodes and bytes are read from what is written of them, in which no space stands.
use Rattle.std.proofs.Common.{◌≡◌, ◌==◌, ◌%◌, ◌≤◌, ℕ, Bool, true, false, List, [], ◌∷◌, length, All, cond, not, refl, ap, ◌∙◌, arith, Result, Ok, decimal, codes, bytes_eq}
use Rattle.std.specs.List.{list_all}
use Rattle.std.proofs.lemmas.Bool.{and_parts}
use Rattle.std.proofs.lemmas.Bool.Decides.{nat_tests}
use Rattle.std.proofs.lemmas.Slice.Eq.{bytes_eq-Decides}
use Rattle.cal_base.specs.declared.identity.ClientId.{ClientId}
use Rattle.cal_base.specs.declared.identity.NodeId.{NodeId}
use Rattle.cal_base.specs.declared.identity.NodeId.TheVariants.{Client, Server}
use Rattle.cal_base.specs.declared.identity.ServerId.TheVariants.{A, B}
use Rattle.reply_text.specs.Text.{hex_text}
use Rattle.script.specs.Numbers.{is_hex_digit, hex_bytes, is_hex as script_hex}
use Rattle.script.specs.declared.bad_line.BadWhy.TheVariants.{Hex}
use Rattle.script.specs.Spelling.{client_word, node_word, IsNode, IsBytes}
use Rattle.script.proofs.Written.{number_written, bytes_written}
use Rattle.script.proofs.ReadPlaces.{passed}
use Rattle.line_words.specs.Outcome.{outside, then_read, in_form}
use Rattle.line_words.specs.Places.{client_of}
use Rattle.line_words.specs.Values.{number_to, node_of, is_hex, hex_of}
use Rattle.line_words.specs.declared.read_error.OutOfForm.{OutOfForm}
use Rattle.line_words.proofs.Joined.{is_free}
use Rattle.line_words.proofs.Reading.{client_is}
use Rattle.line_words.proofs.WordsFree.{all_so, hex_digit_free, client_free}

-- a number up to a limit
pub number_to_is : (most n : ℕ) → n ≤ most → most ≤ 18446744073709551615 → number_to most (decimal n) ≡ Ok n
number_to_is most n low high = ap in_form (number_written 0 most n (omega arith) low high)

-- a client's word is no server's
no_server : (client : ClientId) (bytes : List ℕ) → (b : Bool) → bytes_eq (client_word client) bytes ≡ b → (client_word client ≡ bytes → ⊥) → b ≡ false
no_server client bytes true e differs = absurd (differs ((bytes_eq-Decides (client_word client) bytes).0 e))
no_server client bytes false e differs = refl

first_or : List ℕ → ℕ
first_or [] = 0
first_or (byte ∷ bytes) = byte

apart : (one other : ℕ) → (one == other) ≡ false → one ≡ other → ⊥
apart one other d e = grind (arith, nat_tests)

no_a : (client : ClientId) → client_word client ≡ codes "A" → ⊥
unfolding first_or
no_a client e = absurd (apart 99 65 refl (ap first_or e))

no_b : (client : ClientId) → client_word client ≡ codes "B" → ⊥
unfolding first_or
no_b client e = absurd (apart 99 66 refl (ap first_or e))

pub node_is : (node : NodeId) → IsNode node → node_of (node_word node) ≡ Ok node
node_is (Server A) h = refl
node_is (Server B) h = refl
node_is (Client client) h =
    let as-client = then_read (client_of (client_word client)) (λ client. Ok (Client client)) in
    ap (λ (b : Bool). cond b (Ok (Server A)) (cond (bytes_eq (client_word client) (codes "B")) (Ok (Server B)) as-client)) (no_server client (codes "A") (bytes_eq (client_word client) (codes "A")) refl (no_a client))
    ∙ ap (λ (b : Bool). cond b (Ok (Server B)) as-client) (no_server client (codes "B") (bytes_eq (client_word client) (codes "B")) refl (no_b client))
    ∙ ap (λ (r : Result ClientId OutOfForm). then_read r (λ client. Ok (Client client))) (client_is client h)

pub node_free : (node : NodeId) → IsNode node → is_free (node_word node) ≡ true
node_free (Server A) h = refl
node_free (Server B) h = refl
node_free (Client client) h = client_free client h

-- hexadecimal

some_bytes : (byte : ℕ) (bytes : List ℕ) → All (λ b. b ≤ 255) (byte ∷ bytes) → IsBytes (length (byte ∷ bytes)) (byte ∷ bytes)
some_bytes byte bytes h = record { some = omega arith; few = omega arith; each = h }

-- what a script reads of these digits
read_of : (byte : ℕ) (bytes : List ℕ) → All (λ b. b ≤ 255) (byte ∷ bytes) → (script_hex (length (byte ∷ bytes)) (hex_text (byte ∷ bytes)) ≡ true) × (hex_bytes (hex_text (byte ∷ bytes)) ≡ byte ∷ bytes)
read_of byte bytes h =
    let most = length (byte ∷ bytes) in
    let text = hex_text (byte ∷ bytes) in
    passed (script_hex most text) (hex_bytes text) (byte ∷ bytes) Hex (bytes_written most (byte ∷ bytes) (some_bytes byte bytes h))

digits_even : (byte : ℕ) (bytes : List ℕ) → All (λ b. b ≤ 255) (byte ∷ bytes) → is_hex (hex_text (byte ∷ bytes)) ≡ true
digits_even byte bytes h =
    let one = and_parts _ _ (read_of byte bytes h).0 in
    (and_parts _ _ one.0).0

digits : (bytes : List ℕ) → All (λ byte. byte ≤ 255) bytes → is_hex (hex_text bytes) ≡ true
digits [] h = refl
digits (byte ∷ bytes) h = digits_even byte bytes h

bytes_again : (bytes : List ℕ) → All (λ byte. byte ≤ 255) bytes → hex_bytes (hex_text bytes) ≡ bytes
bytes_again [] h = refl
bytes_again (byte ∷ bytes) h = (read_of byte bytes h).1

pub hex_is : (bytes : List ℕ) → All (λ byte. byte ≤ 255) bytes → hex_of (hex_text bytes) ≡ Ok bytes
hex_is bytes h = ap (λ (b : Bool). cond b (Ok (hex_bytes (hex_text bytes))) outside) (digits bytes h) ∙ ap (λ (l : List ℕ). Ok l) (bytes_again bytes h)

pub hex_free : (bytes : List ℕ) → All (λ byte. byte ≤ 255) bytes → is_free (hex_text bytes) ≡ true
hex_free bytes h = all_so is_hex_digit (λ byte. not (byte == 32)) hex_digit_free (hex_text bytes) (and_parts (list_all is_hex_digit (hex_text bytes)) (length (hex_text bytes) % 2 == 0) (digits bytes h)).0
