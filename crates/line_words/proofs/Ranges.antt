-- What is read of words is within the limits of its place.
use Rattle.std.proofs.Common.{◌≡◌, ◌≤◌, ◌<◌, ◌*◌, ◌&&◌, ℕ, Bool, true, false, List, [], ◌∷◌, length, All, cond, refl, sym, ap, ◌∙◌, subst, arith, Result, Ok, Err, codes, bytes_eq, not}
use Rattle.std.proofs.lemmas.Bool.Decides.{nat_tests}
use Rattle.cal_base.specs.declared.identity.ClientId.{ClientId}
use Rattle.cal_base.specs.declared.identity.NodeId.{NodeId}
use Rattle.cal_base.specs.declared.identity.NodeId.TheVariants.{Client, Server}
use Rattle.cal_base.specs.declared.identity.ServerId.TheVariants.{A, B}
use Rattle.tree_law.specs.declared.call.Call.{Call}
use Rattle.script.specs.CallLine.{call_said}
use Rattle.script.specs.Numbers.{hex_bytes, hex_in, is_hex as script_hex}
use Rattle.script.specs.Places.{client_in}
use Rattle.script.specs.Spelling.{IsClient, IsNode, IsWide, IsCall}
use Rattle.script.specs.declared.bad_line.BadWhy.{BadWhy}
use Rattle.script.specs.declared.bad_line.BadWhy.TheVariants.{Hex}
use Rattle.script.proofs.ReadLines.{call_good}
use Rattle.script.proofs.ReadPlaces.{number_range, client_range, bytes_range}
use Rattle.line_words.proofs.Joined.{and_both}
use Rattle.line_words.specs.Outcome.{outside, then_read, in_form}
use Rattle.line_words.specs.Places.{client_of, number_of, are_whole, is_fill, call_of}
use Rattle.line_words.specs.Values.{number_to, node_of, is_hex, hex_of}
use Rattle.line_words.specs.Words.{first_as, last_as}
use Rattle.line_words.specs.declared.read_error.OutOfForm.{OutOfForm}

pub value_or : {T E : Type 0} → T → Result T E → T
value_or other (Ok value) = value
value_or other (Err error) = other

pub is_read : {T E : Type 0} → Result T E → Bool
is_read (Ok value) = true
is_read (Err error) = false

-- what was read twice is the same
pub same_read : {T E : Type 0} (one other : T) (r : Result T E) → r ≡ Ok one → r ≡ Ok other → one ≡ other
unfolding value_or
same_read one other r e f = ap (value_or one) (sym e ∙ f)

pub no_value : {T E : Type 0} (error : E) (value : T) (r : Result T E) → r ≡ Err error → r ≡ Ok value → ⊥
unfolding is_read
no_value error value r e f = let same : false ≡ true = ap is_read (sym e ∙ f) in grind arith

-- what is so of a value is so of the one that was read
pub is_value : {T E : Type 0} (P : T → Type 0) (one value : T) (r : Result T E) → r ≡ Ok one → P one → r ≡ Ok value → P value
is_value P one value r e h f = subst P (same_read one value r e f) h

pub record First {T U : Type 0} (r : Result T OutOfForm) (next : T → Result U OutOfForm) (value : U) : Type 0 where
  pub first : T
  pub is : r ≡ Ok first
  pub rest : next first ≡ Ok value

-- what was read first, and what was read then
pub first_read : {T U : Type 0} (r : Result T OutOfForm) (next : T → Result U OutOfForm) (value : U) → then_read r next ≡ Ok value → First r next value
first_read (Ok first) next value e = record { first = first; is = refl; rest = e }
first_read (Err form) next value e = absurd (no_value form value (Err form) refl e)

-- a value in its form is the script's
pub in_script : {T : Type 0} (r : Result T BadWhy) (value : T) → in_form r ≡ Ok value → r ≡ Ok value
in_script (Ok one) value e = ap (λ v. Ok v) (same_read one value (Ok one) refl e)
in_script (Err why) value e = absurd (no_value (record {}) value outside refl e)

-- a value that a test lets through
pub passed : {T : Type 0} (b : Bool) (one value : T) → cond b (Ok one) outside ≡ Ok value → (b ≡ true) × (one ≡ value)
passed true one value e = (refl, same_read one value (Ok one) refl e)
passed false one value e = absurd (no_value (record {}) value outside refl e)

pub let_through : {T : Type 0} (b : Bool) (r : Result T OutOfForm) (value : T) → cond b r outside ≡ Ok value → r ≡ Ok value
let_through true r value e = e
let_through false r value e = absurd (no_value (record {}) value outside refl e)

-- places

pub client_within : (word : List ℕ) (client : ClientId) → client_of word ≡ Ok client → IsClient client
client_within word client e = client_range word client (in_script (client_in word) client e)

pub number_within : (word : List ℕ) (number : ℕ) → number_of word ≡ Ok number → IsWide number
number_within word number e = (number_range 0 18446744073709551615 number word (in_script _ number e)).1

pub call_within : (words : List (List ℕ)) (call : Call) → call_of words ≡ Ok call → IsCall call
call_within words call e = call_good words call (in_script (call_said words) call (let_through (are_whole words && not (is_fill words)) (in_form (call_said words)) call e))

-- the first word of some
pub first_within : {T : Type 0} (P : T → Type 0) (read : List ℕ → Result T OutOfForm) → ((word : List ℕ) (value : T) → read word ≡ Ok value → P value) → (words : List (List ℕ)) (found : T × List (List ℕ)) → first_as read words ≡ Ok found → P found.0
first_within P read good [] found e = absurd (no_value (record {}) found outside refl e)
first_within P read good (word ∷ behind) found e =
    let one = first_read (read word) _ found e in
    is_value (λ (f : _ × List (List ℕ)). P f.0) (one.first, behind) found _ refl (good word one.first one.is) one.rest

pub last_within : {T : Type 0} (P : T → Type 0) (read : List ℕ → Result T OutOfForm) → ((word : List ℕ) (value : T) → read word ≡ Ok value → P value) → (words : List (List ℕ)) (value : T) → last_as read words ≡ Ok value → P value
last_within P read good [] value e = absurd (no_value (record {}) value outside refl e)
last_within P read good (word ∷ []) value e = good word value e
last_within P read good (word ∷ next ∷ more) value e = absurd (no_value (record {}) value outside refl e)

-- words by themselves

pub number_to_within : (most : ℕ) (word : List ℕ) (number : ℕ) → number_to most word ≡ Ok number → number ≤ most
number_to_within most word number e = (number_range 0 most number word (in_script _ number e)).1

node_is_client : (word : List ℕ) (node : NodeId) → then_read (client_of word) (λ client. Ok (Client client)) ≡ Ok node → IsNode node
node_is_client word node e =
    let one = first_read (client_of word) _ node e in
    is_value IsNode (Client one.first) node _ refl (client_within word one.first one.is) one.rest

-- what a choice gives is what one of the two gives
pub choice : {T E : Type 0} (P : Result T E → Type 0) (b : Bool) (one other : Result T E) → P one → P other → P (cond b one other)
choice P true one other h k = h
choice P false one other h k = k

pub node_within : (word : List ℕ) (node : NodeId) → node_of word ≡ Ok node → IsNode node
node_within word node e =
    let Good : Result NodeId OutOfForm → Type 0 = λ r. (node : NodeId) → r ≡ Ok node → IsNode node in
    choice Good (bytes_eq word (codes "A")) _ _ (λ node e. is_value IsNode (Server A) node _ refl tt e)
    (choice Good (bytes_eq word (codes "B")) _ _ (λ node e. is_value IsNode (Server B) node _ refl tt e) (node_is_client word)) node e

-- a script reads the same of digits for one byte or more
script_reads : (word : List ℕ) → 0 < length word → is_hex word ≡ true → hex_in (length word) word ≡ Ok (hex_bytes word)
script_reads word some h =
    let small : length word ≤ 2 * length word = omega arith in
    let is : script_hex (length word) word ≡ true = and_both _ _ (and_both _ _ h (grind (arith, nat_tests))) (grind (arith, nat_tests)) in
    ap (λ (b : Bool). cond b (Ok (hex_bytes word)) (Err Hex)) is

small_bytes : (word : List ℕ) → is_hex word ≡ true → All (λ byte. byte ≤ 255) (hex_bytes word)
small_bytes [] h = λ k d l. absurd (omega arith)
small_bytes (digit ∷ digits) h = (bytes_range (length (digit ∷ digits)) (digit ∷ digits) (hex_bytes (digit ∷ digits)) (script_reads (digit ∷ digits) (omega arith) h)).each

pub hex_within : (word bytes : List ℕ) → hex_of word ≡ Ok bytes → All (λ byte. byte ≤ 255) bytes
hex_within word bytes e =
    let through = passed (is_hex word) (hex_bytes word) bytes e in
    subst (λ (l : List ℕ). All (λ byte. byte ≤ 255) l) through.1 (small_bytes word through.0)
