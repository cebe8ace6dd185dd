-- What is written at a place of a line is read from its word, in which no space stands.
use Rattle.std.proofs.Common.{◌≡◌, ◌≤◌, ℕ, Bool, true, List, ◌∷◌, cond, refl, ap, ◌∙◌, arith, Result, Ok, Option, Some, None, codes, decimal, bytes_eq}
use Rattle.cal_base.specs.declared.identity.Ino.{Ino}
use Rattle.cal_base.specs.declared.identity.NodeId.{NodeId}
use Rattle.cal_base.specs.declared.identity.View.{View}
use Rattle.token_kind.specs.declared.«class».Class.{Class}
use Rattle.token_kind.specs.declared.«class».Class.TheVariants.{Names, Data, Attr, Open}
use Rattle.script.specs.Spelling.{node_word, IsWide}
use Rattle.script.proofs.Written.{number_written}
use Rattle.trace_text.specs.Entries.{new_text}
use Rattle.trace_text.specs.Line.{actor_word}
use Rattle.trace_text.specs.Runs.{cause_word, settled_word}
use Rattle.trace_text.specs.Serving.{class_word}
use Rattle.trace_text.specs.declared.runs.Cause.{Cause}
use Rattle.trace_text.specs.declared.runs.Cause.TheVariants.{NoSuch, NoPacket, Dead, Busy, Alive}
use Rattle.trace_text.specs.declared.runs.Settled.{Settled}
use Rattle.trace_text.specs.declared.runs.Settled.TheVariants.{Idle, Stuck, Spent}
use Rattle.line_words.specs.Outcome.{then_read, in_form}
use Rattle.line_words.specs.Places.{number_of}
use Rattle.line_words.specs.Values.{node_of}
use Rattle.line_words.specs.Words.{first_as}
use Rattle.line_words.specs.declared.read_error.OutOfForm.{OutOfForm}
use Rattle.line_words.proofs.Joined.{is_free}
use Rattle.line_words.proofs.Reading.{chain, first_is, number_is}
use Rattle.line_words.proofs.Valued.{number_to_is, node_is, node_free}
use Rattle.line_words.proofs.WordsFree.{number_free}
use Rattle.trace_lines.specs.Limits.{IsActor, IsMade, IsNumber32}
use Rattle.trace_lines.specs.Places.{number32_of, descriptor_of, clients_of, window_of, view_of, ino_of, new_of, actor_of, class_of, cause_of, settled_of}
use Rattle.trace_lines.proofs.Filling.{no_such}

-- what follows of the first word, which is read so
pub taking : {T U : Type 0} (read : List ℕ → Result T OutOfForm) (word : List ℕ) (behind : List (List ℕ)) (value : T) (next : T × List (List ℕ) → Result U OutOfForm) (result : Result U OutOfForm) → read word ≡ Ok value → next (value, behind) ≡ result → then_read (first_as read (word ∷ behind)) next ≡ result
taking read word behind value next result is rest = chain (first_as read (word ∷ behind)) (value, behind) next result (first_is read word behind value is) rest

-- numbers

pub number32_is : (n : ℕ) → IsNumber32 n → number32_of (decimal n) ≡ Ok n
number32_is n h = number_to_is 4294967295 n h (omega arith)

pub number32_free : (n : ℕ) → IsNumber32 n → is_free (decimal n) ≡ true
number32_free n h = number_free n (omega (arith, h))

pub descriptor_is : (n : ℕ) → n ≤ 255 → descriptor_of (decimal n) ≡ Ok n
descriptor_is n h = number_to_is 255 n h (omega arith)

pub descriptor_free : (n : ℕ) → n ≤ 255 → is_free (decimal n) ≡ true
descriptor_free n h = number_free n (omega (arith, h))

pub clients_is : (n : ℕ) → 1 ≤ n → n ≤ 16 → clients_of (decimal n) ≡ Ok n
clients_is n low high = ap in_form (number_written 1 16 n low high (omega arith))

pub window_is : (n : ℕ) → 1 ≤ n → n ≤ 8 → window_of (decimal n) ≡ Ok n
window_is n low high = ap in_form (number_written 1 8 n low high (omega arith))

pub view_is : (view : View) → IsWide view.0 → view_of (decimal view.0) ≡ Ok view
view_is view h = chain (number_of (decimal view.0)) view.0 (λ number. Ok (record { 0 = number })) (Ok view) (number_is view.0 h) refl

pub ino_is : (ino : Ino) → IsNumber32 ino.0 → ino_of (decimal ino.0) ≡ Ok ino
ino_is ino h = chain (number32_of (decimal ino.0)) ino.0 (λ number. Ok (record { 0 = number })) (Ok ino) (number32_is ino.0 h) refl

-- the inode that a call made

pub new_is : (new : Option Ino) → IsMade new → new_of (new_text new) ≡ Ok new
new_is None h = refl
new_is (Some ino) h =
    let word = decimal ino.0 in
    let is = ino_is ino h in
    ap (λ (b : Bool). cond b (Ok None) (then_read (ino_of word) (λ ino. Ok (Some ino)))) (no_such ino_of word (codes "-") ino (bytes_eq word (codes "-")) refl is refl)
    ∙ chain (ino_of word) ino (λ ino. Ok (Some ino)) (Ok (Some ino)) is refl

pub new_free : (new : Option Ino) → IsMade new → is_free (new_text new) ≡ true
new_free None h = refl
new_free (Some ino) h = number32_free ino.0 h

-- actors

pub actor_is : (actor : Option NodeId) → IsActor actor → actor_of (actor_word actor) ≡ Ok actor
actor_is None h = refl
actor_is (Some node) h =
    let word = node_word node in
    let is = node_is node h in
    ap (λ (b : Bool). cond b (Ok None) (then_read (node_of word) (λ node. Ok (Some node)))) (no_such node_of word (codes "members") node (bytes_eq word (codes "members")) refl is refl)
    ∙ chain (node_of word) node (λ node. Ok (Some node)) (Ok (Some node)) is refl

pub actor_free : (actor : Option NodeId) → IsActor actor → is_free (actor_word actor) ≡ true
actor_free None h = refl
actor_free (Some node) h = node_free node h

-- names

pub class_is : («class» : Class) → class_of (class_word «class») ≡ Ok «class»
class_is Names = refl
class_is Data = refl
class_is Attr = refl
class_is Open = refl

pub class_free : («class» : Class) → is_free (class_word «class») ≡ true
class_free Names = refl
class_free Data = refl
class_free Attr = refl
class_free Open = refl

pub cause_is : (cause : Cause) → cause_of (cause_word cause) ≡ Ok cause
cause_is NoSuch = refl
cause_is NoPacket = refl
cause_is Dead = refl
cause_is Busy = refl
cause_is Alive = refl

pub cause_free : (cause : Cause) → is_free (cause_word cause) ≡ true
cause_free NoSuch = refl
cause_free NoPacket = refl
cause_free Dead = refl
cause_free Busy = refl
cause_free Alive = refl

pub settled_is : (how : Settled) → settled_of (settled_word how) ≡ Ok how
settled_is Idle = refl
settled_is Stuck = refl
settled_is Spent = refl

pub settled_free : (how : Settled) → is_free (settled_word how) ≡ true
settled_free Idle = refl
settled_free Stuck = refl
settled_free Spent = refl
