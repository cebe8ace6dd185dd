-- The lines of one call: which they are, and what they tell by how far the call is.
use Rattle.std.proofs.Common.{◌≡◌, ◌≢◌, ◌==◌, ◌&&◌, ℕ, Bool, true, false, List, [], ◌∷◌, Option, Some, None, refl, sym, ap, ◌∙◌, eq-eqb, cond}
use Rattle.std.specs.List.{filter}
use Rattle.cal_base.specs.declared.identity.ClientId.{ClientId}
use Rattle.cal_base.specs.declared.identity.Ino.{Ino}
use Rattle.tree_law.specs.declared.call.Call.{Call}
use Rattle.tree_law.specs.declared.entry.Entry.{Entry}
use Rattle.tree_law.specs.declared.entry.Entry.TheVariants.{Call as Called}
use Rattle.tree_law.specs.declared.reply.Reply.{Reply}
use Rattle.reply_text.specs.Text.{reply_text}
use Rattle.history_check.specs.Lines.{answered, entered, started}
use Rattle.history_check.specs.Turns.{Turn, Unstarted, Started, CarriedOut, Answered, entries_in, lines_in}
use Rattle.history_check.specs.declared.told.Told.{Told}
use Rattle.history_check.specs.declared.told.Told.TheVariants.{Enters, Starts}

-- an item that passes is kept, another is passed over
pub kept : {X : Type 0} (p : X → Bool) (x : X) (xs : List X) → p x ≡ true → filter p (x ∷ xs) ≡ x ∷ filter p xs
kept p x xs is = ap (λ (b : Bool). cond b (x ∷ filter p xs) (filter p xs)) is

pub passed_over : {X : Type 0} (p : X → Bool) (x : X) (xs : List X) → p x ≡ false → filter p (x ∷ xs) ≡ filter p xs
passed_over p x xs is = ap (λ (b : Bool). cond b (x ∷ filter p xs) (filter p xs)) is

pub same_client : (a b : ClientId) → a.0 ≡ b.0 → a ≡ b
same_client a b e = let number : ℕ → ClientId = λ n. record { 0 = n } in ap number e

-- a test of a client's own number is a test of the call's number
pub of_client : (client : ClientId) (number its : ℕ) → ((client.0 == client.0) && (its == number)) ≡ (its == number)
of_client client number its = ap (λ (b : Bool). b && (its == number)) (eq-eqb client.0 client.0 refl)

pub of_other : (client other : ClientId) (number its : ℕ) → (other.0 == client.0) ≡ false → ((other.0 == client.0) && (its == number)) ≡ false
of_other client other number its apart = ap (λ (b : Bool). b && (its == number)) apart

-- started, and no more
pub record IsJustStarted (client : ClientId) (number : ℕ) (call : Call) (lines : List Told) (entries : List Entry) : Type 0 where
  pub lines_are : lines ≡ Starts client number call ∷ []
  pub entries_are : entries ≡ []

-- carried out, and no more
pub record IsJustCarriedOut (client : ClientId) (number : ℕ) (text : List ℕ) (lines : List Told) (entries : List Entry) : Type 0 where
  pub call : Call
  pub reply : Reply
  pub new : Option Ino
  pub text_is : reply_text reply ≡ text
  pub lines_are : lines ≡ Enters client number new (reply_text reply) ∷ Starts client number call ∷ []
  pub entries_are : entries ≡ Called client number call reply new ∷ []

pub same_call : (call other : Call) → Some call ≡ Some other → call ≡ other
same_call call other same = cc

pub same_text : (text other : List ℕ) → Some text ≡ Some other → text ≡ other
same_text text other same = cc

pub no_call : (call : Call) → None ≡ Some call → ⊥
no_call call same = absurd (cc)

pub no_text : (text : List ℕ) → None ≡ Some text → ⊥
no_text text same = absurd (cc)

pub some_text : (text : List ℕ) → Some text ≡ None → ⊥
some_text text same = absurd (cc)

pub not_both : true ≡ false → ⊥
not_both same = absurd (cc)

pub just_started : (client : ClientId) (number : ℕ) (turn : Turn) (lines : List Told) (entries : List Entry) (call : Call) → lines ≡ lines_in client number turn → entries ≡ entries_in client number turn
    → started lines ≡ Some call → entered lines ≡ None → IsJustStarted client number call lines entries
just_started client number Unstarted lines entries call l e is none = absurd (no_call call (sym (ap started l) ∙ is))
just_started client number (Started its) lines entries call l e is none =
    record { lines_are = l ∙ ap (λ (its : Call). Starts client number its ∷ []) (same_call its call (sym (ap started l) ∙ is)); entries_are = e }
just_started client number (CarriedOut its reply new) lines entries call l e is none = absurd (some_text (reply_text reply) (sym (ap entered l) ∙ none))
just_started client number (Answered its reply new) lines entries call l e is none = absurd (some_text (reply_text reply) (sym (ap entered l) ∙ none))

pub just_carried_out : (client : ClientId) (number : ℕ) (turn : Turn) (lines : List Told) (entries : List Entry) (text : List ℕ) → lines ≡ lines_in client number turn → entries ≡ entries_in client number turn
    → entered lines ≡ Some text → answered lines ≡ false → IsJustCarriedOut client number text lines entries
just_carried_out client number Unstarted lines entries text l e is still = absurd (no_text text (sym (ap entered l) ∙ is))
just_carried_out client number (Started its) lines entries text l e is still = absurd (no_text text (sym (ap entered l) ∙ is))
just_carried_out client number (CarriedOut its reply new) lines entries text l e is still =
    record { call = its; reply = reply; new = new; text_is = same_text (reply_text reply) text (sym (ap entered l) ∙ is); lines_are = l; entries_are = e }
just_carried_out client number (Answered its reply new) lines entries text l e is still = absurd (not_both (sym (ap answered l) ∙ still))

-- without a line a call has no entry
pub no_entries : (client : ClientId) (number : ℕ) (turn : Turn) (lines : List Told) (entries : List Entry) → lines ≡ lines_in client number turn → entries ≡ entries_in client number turn → lines ≡ [] → entries ≡ []
no_entries client number Unstarted lines entries l e none = e
no_entries client number (Started its) lines entries l e none = e
no_entries client number (CarriedOut its reply new) lines entries l e none = absurd (no_text (reply_text reply) (sym (ap entered none) ∙ ap entered l))
no_entries client number (Answered its reply new) lines entries l e none = absurd (no_text (reply_text reply) (sym (ap entered none) ∙ ap entered l))

-- a call of which a line tells isn't one of which none does
pub starts_some : (client : ClientId) (number : ℕ) (call : Call) (lines : List Told) → lines ≡ Starts client number call ∷ [] → lines ≢ []
starts_some client number call lines is none = no_call call (sym (ap started none) ∙ ap started is)

pub enters_some : (client : ClientId) (number : ℕ) (new : Option Ino) (text : List ℕ) (lines rest : List Told) → lines ≡ Enters client number new text ∷ rest → lines ≢ []
enters_some client number new text lines rest is none = no_text text (sym (ap entered none) ∙ ap entered is)
