-- What is read can be written.
use Rattle.std.proofs.Common.{◌≡◌, ◌==◌, ◌&&◌, ◌+◌, ◌*◌, ◌-◌, ◌/◌, ◌%◌, ◌<◌, ◌≤◌, ℕ, zero, suc, Bool, true, false, List, [], ◌∷◌, length, All, nat_lt, nat_le, cond, refl, sym, ap, ◌∙◌, subst, arith, Result, Ok, Err, replicate}
use Rattle.std.specs.List.{list_all}
use Rattle.std.proofs.lemmas.Bool.{and_parts}
use Rattle.std.proofs.lemmas.Bool.Decides.{nat_tests}
use Rattle.std.proofs.lemmas.List.{length-replicate, get_or-replicate}
use Rattle.cal_base.specs.declared.identity.ClientId.{ClientId}
use Rattle.cal_base.specs.declared.identity.ServerId.{ServerId}
use Rattle.cal_base.specs.declared.identity.NodeId.{NodeId}
use Rattle.cal_base.specs.declared.identity.NodeId.TheVariants.{Client, Server}
use Rattle.tree_law.specs.Path.{IsPath}
use Rattle.script.specs.Numbers.{is_decimal, value_of, number_in, is_hex_digit, nibble, hex_bytes, is_hex, hex_in, byte_of}
use Rattle.script.specs.Outcome.{then_read}
use Rattle.script.specs.Places.{names_in, path_in, client_of, client_in, server_in, server_node, node_or, node_in}
use Rattle.script.specs.Spelling.{IsBytes, IsClient, IsNode}
use Rattle.script.specs.declared.bad_line.BadWhy.{BadWhy}
use Rattle.script.specs.declared.bad_line.BadWhy.TheVariants.{Number, Hex, Path, Word}
use Rattle.script.proofs.PathWords.{path_is}

value_or : {T : Type 0} → T → Result T BadWhy → T
value_or other (Ok value) = value
value_or other (Err why) = other

-- what was read twice is the same
pub same_read : {T : Type 0} (one other : T) (r : Result T BadWhy) → r ≡ Ok one → r ≡ Ok other → one ≡ other
unfolding value_or
same_read one other r e f = ap (value_or one) (sym e ∙ f)

is_read : {T : Type 0} → Result T BadWhy → Bool
is_read (Ok value) = true
is_read (Err why) = false

-- a reason is no value
pub no_value : {T : Type 0} (why : BadWhy) (value : T) (r : Result T BadWhy) → r ≡ Err why → r ≡ Ok value → ⊥
unfolding is_read
no_value why value r e f = let same : false ≡ true = ap is_read (sym e ∙ f) in grind arith

-- what was read first, and what was read then
pub record ReadFirst {T U : Type 0} (r : Result T BadWhy) (next : T → Result U BadWhy) (value : U) : Type 0 where
  pub first : T
  pub is : r ≡ Ok first
  pub rest : next first ≡ Ok value

pub first_read : {T U : Type 0} (r : Result T BadWhy) (next : T → Result U BadWhy) (value : U) → then_read r next ≡ Ok value → ReadFirst r next value
first_read (Ok first) next value e = record { first = first; is = refl; rest = e }
first_read (Err why) next value e = absurd (no_value why value (Err why) refl e)

-- a value that a test lets through is the one behind it
pub passed : {T : Type 0} (b : Bool) (one value : T) (why : BadWhy) → cond b (Ok one) (Err why) ≡ Ok value → (b ≡ true) × (one ≡ value)
passed true one value why e = (refl, same_read one value (Ok one) refl e)
passed false one value why e = absurd (no_value why value (Err why) refl e)

between : (c : Bool) (least most v : ℕ) → (c && nat_le least v && nat_le v most) ≡ true → (least ≤ v) × (v ≤ most)
between c least most v h =
    let both = and_parts (c && nat_le least v) (nat_le v most) h in
    let low : nat_le least v ≡ true = (and_parts c (nat_le least v) both.0).1 in
    let high : nat_le v most ≡ true = both.1 in
    let from : least ≤ v = grind (arith, nat_tests) in
    let to : v ≤ most = grind (arith, nat_tests) in
    (from, to)

pub number_range : (least most n : ℕ) (word : List ℕ) → number_in least most word ≡ Ok n → (least ≤ n) × (n ≤ most)
number_range least most n word e =
    let through = passed (is_decimal word && nat_le least (value_of word) && nat_le (value_of word) most) (value_of word) n Number e in
    subst (λ (v : ℕ). (least ≤ v) × (v ≤ most)) through.1 (between (is_decimal word) least most (value_of word) through.0)

pub path_range : (word : List ℕ) (path : List (List ℕ)) → path_in word ≡ Ok path → IsPath path
path_range [] path e = absurd (no_value Path path (Err Path) refl e)
path_range (byte ∷ text) path e =
    let through = passed _ (names_in text) path Path e in
    subst IsPath through.1 (path_is (names_in text) (and_parts _ _ through.0).1)

small_nibble : (digit : ℕ) → is_hex_digit digit ≡ true → nibble digit ≤ 15
small_nibble digit h = elim (nat_le digit 57) as (λ b. nat_le digit 57 ≡ b → cond b (digit - 48) (digit - 87) ≤ 15) [
  | true ↦ λ e. let low : digit ≤ 57 = grind (arith, nat_tests) in omega arith
  | false ↦ λ e. let high : digit ≤ 102 = grind (arith, nat_tests) in omega arith
] refl

small_byte : (high low : ℕ) → is_hex_digit high ≡ true → is_hex_digit low ≡ true → nibble high * 16 + nibble low ≤ 255
small_byte high low one two = omega (arith, small_nibble high one, small_nibble low two)

small_bytes : (word : List ℕ) → list_all is_hex_digit word ≡ true → All (λ byte. byte ≤ 255) (hex_bytes word)
small_bytes [] h k d l = absurd (omega arith)
small_bytes (high ∷ []) h k d l = absurd (omega arith)
small_bytes (high ∷ low ∷ word) h zero d l = let one = and_parts (is_hex_digit high) (is_hex_digit low && list_all is_hex_digit word) h in let two = and_parts (is_hex_digit low) (list_all is_hex_digit word) one.1 in small_byte high low one.0 two.0
small_bytes (high ∷ low ∷ word) h (suc k) d l = let one = and_parts (is_hex_digit high) (is_hex_digit low && list_all is_hex_digit word) h in let two = and_parts (is_hex_digit low) (list_all is_hex_digit word) one.1 in small_bytes word two.1 k d (omega arith)

half : (word : List ℕ) → length (hex_bytes word) ≡ length word / 2
half [] = refl
half (high ∷ []) = refl
half (high ∷ low ∷ word) = omega (arith, half word)

bytes_between : (most n : ℕ) → (n % 2 == 0) ≡ true → nat_lt 0 n ≡ true → nat_le n (2 * most) ≡ true → (1 ≤ n / 2) × (n / 2 ≤ most)
bytes_between most n even some few =
    let no_rest : n % 2 ≡ 0 = grind (arith, nat_tests) in
    let low : 0 < n = grind (arith, nat_tests) in
    let high : n ≤ 2 * most = grind (arith, nat_tests) in
    (omega arith, omega arith)

hex_good : (most : ℕ) (word : List ℕ) → is_hex most word ≡ true → IsBytes most (hex_bytes word)
hex_good most word h =
    let three = and_parts _ _ h in
    let two = and_parts _ _ three.0 in
    let one = and_parts _ _ two.0 in
    let between = bytes_between most (length word) one.1 two.1 three.1 in
    record { some = omega (arith, half word, between.0); few = omega (arith, half word, between.1); each = small_bytes word one.0 }

pub bytes_range : (most : ℕ) (word bytes : List ℕ) → hex_in most word ≡ Ok bytes → IsBytes most bytes
bytes_range most word bytes e =
    let through = passed _ (hex_bytes word) bytes Hex e in
    subst (IsBytes most) through.1 (hex_good most word through.0)

pub byte_range : (word : List ℕ) (byte : ℕ) → byte_of word ≡ Ok byte → byte ≤ 255
byte_range [] byte e = absurd (no_value Hex byte (Err Hex) refl e)
byte_range (high ∷ []) byte e = absurd (no_value Hex byte (Err Hex) refl e)
byte_range (high ∷ low ∷ []) byte e =
    let through = passed _ (nibble high * 16 + nibble low) byte Hex e in
    let both = and_parts _ _ through.0 in
    subst (λ (b : ℕ). b ≤ 255) through.1 (small_byte high low both.0 both.1)
byte_range (high ∷ low ∷ other ∷ digits) byte e = absurd (no_value Hex byte (Err Hex) refl e)

-- so many times a byte
pub filled_range : (count byte : ℕ) → 1 ≤ count → count ≤ 32768 → byte ≤ 255 → IsBytes 32768 (replicate count byte)
filled_range count byte low high small = record {
  some = omega (arith, length-replicate count byte);
  few = omega (arith, length-replicate count byte);
  each = λ k d l. let is = get_or-replicate count k byte d (omega (arith, length-replicate count byte)) in subst (λ (b : ℕ). b ≤ 255) (sym is) small;
}

of_client : (r : Result ℕ BadWhy) (client : ClientId) → ((n : ℕ) → r ≡ Ok n → n ≤ 15) → client_of r ≡ Ok client → client.0 ≤ 15
of_client (Ok n) client h e = subst (λ (c : ClientId). c.0 ≤ 15) (same_read (record { 0 = n }) client (Ok (record { 0 = n })) refl e) (h n refl)
of_client (Err why) client h e = absurd (no_value Word client (Err Word) refl e)

client_if : (b : Bool) (number : List ℕ) (client : ClientId) → cond b (client_of (number_in 0 15 number)) (Err Word) ≡ Ok client → client.0 ≤ 15
client_if true number client e = of_client (number_in 0 15 number) client (λ n is. (number_range 0 15 n number is).1) e
client_if false number client e = absurd (no_value Word client (Err Word) refl e)

pub client_range : (word : List ℕ) (client : ClientId) → client_in word ≡ Ok client → IsClient client
client_range [] client e = absurd (no_value Word client (Err Word) refl e)
client_range (byte ∷ number) client e = client_if (byte == 99) number client e

of_server : (r : Result ServerId BadWhy) (node : NodeId) → server_node r ≡ Ok node → IsNode node
of_server (Ok server) node e = subst IsNode (same_read (Server server) node (Ok (Server server)) refl e) tt
of_server (Err why) node e = absurd (no_value why node (Err why) refl e)

of_node : (r : Result ClientId BadWhy) (s : Result ServerId BadWhy) (node : NodeId) → ((client : ClientId) → r ≡ Ok client → client.0 ≤ 15) → node_or r s ≡ Ok node → IsNode node
of_node (Ok client) s node h e = subst IsNode (same_read (Client client) node (Ok (Client client)) refl e) (h client refl)
of_node (Err why) s node h e = of_server s node e

pub node_range : (word : List ℕ) (node : NodeId) → node_in word ≡ Ok node → IsNode node
node_range word node e = of_node (client_in word) (server_in word) node (λ client is. client_range word client is) e
