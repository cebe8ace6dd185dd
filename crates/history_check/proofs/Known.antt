-- What lines that fit tell of a client's calls: those below its last are answered, those above it weren't
-- started, and each has come in turn.
use Rattle.std.proofs.Common.{◌≡◌, ◌≢◌, ◌⊎◌, ◌==◌, ◌<◌, ◌≤◌, ℕ, Bool, true, false, List, [], ◌∷◌, Option, refl, sym, ap, ◌∙◌, subst, inl, inr, eq-eqb, cond, arith}
use Rattle.std.proofs.lemmas.Bool.{eqb-true, eqb-false}
use Rattle.cal_base.specs.Limits as limits
use Rattle.cal_base.specs.declared.identity.ClientId.{ClientId}
use Rattle.cal_base.specs.declared.identity.Ino.{Ino}
use Rattle.tree_law.specs.declared.call.Call.{Call}
use Rattle.tree_law.specs.declared.entry.Entry.{Entry}
use Rattle.tree_law.specs.declared.entry.Entry.TheVariants.{Call as Called}
use Rattle.reply_text.specs.Text.{reply_text}
use Rattle.history_check.specs.Lines.{answered, entries_of, is_entry_of, is_of, last_number, lines_of}
use Rattle.history_check.specs.Fits.{Begins, Ends, FitTo, Goes, IsAnswered, IsCarriedOut}
use Rattle.history_check.specs.Turns.{Unstarted, Started, CarriedOut, Answered, InTurn}
use Rattle.history_check.specs.declared.told.Told.{Told}
use Rattle.history_check.specs.declared.told.Told.TheVariants.{Answers, Enters, Flushes, Purges, Starts}
use Rattle.history_check.proofs.Calls.{IsJustCarriedOut, IsJustStarted, enters_some, just_carried_out, just_started, kept, no_entries, of_client, of_other, passed_over, same_client, starts_some}

pub record Known (client : ClientId) (lines : List Told) (history : List Entry) : Type 0 where
  pub each : (number : ℕ) → InTurn client number lines history
  pub unstarted : (number : ℕ) → (number ≡ 0) ⊎ (last_number client lines < number) → lines_of client number lines ≡ []
  pub past : (number : ℕ) → 1 ≤ number → number < last_number client lines → answered (lines_of client number lines) ≡ true
  pub member : (client.0 < limits.clients) ⊎ (last_number client lines ≡ 0)

-- a line that tells of no call of this client
beside : (client : ClientId) (told : Told) (earlier : List Told) (before history : List Entry) → ((number : ℕ) → is_of client number told ≡ false) → last_number client (told ∷ earlier) ≡ last_number client earlier
    → ((number : ℕ) → entries_of client number history ≡ entries_of client number before) → Known client earlier before → Known client (told ∷ earlier) history
beside client told earlier before history over last entries known =
    let same : (number : ℕ) → lines_of client number (told ∷ earlier) ≡ lines_of client number earlier = λ number. passed_over (is_of client number) told earlier (over number) in
    record {
      each = λ number. let turn = known.each number in record { turn = turn.turn; lines_are = same number ∙ turn.lines_are; entries_are = entries number ∙ turn.entries_are };
      unstarted = λ number h. same number ∙ known.unstarted number (subst (λ (n : ℕ). (number ≡ 0) ⊎ (n < number)) last h);
      past = λ number some less. ap answered (same number) ∙ known.past number some (subst (λ (n : ℕ). number < n) last less);
      member = subst (λ (n : ℕ). (client.0 < limits.clients) ⊎ (n ≡ 0)) (sym last) known.member;
    }

-- a line that tells of a call of this client that was started
record Tells (client : ClientId) (number : ℕ) (told : Told) (earlier : List Told) (before history : List Entry) : Type 0 where
  tells : (other : ℕ) → is_of client other told ≡ (number == other)
  last : last_number client (told ∷ earlier) ≡ last_number client earlier
  own : InTurn client number (told ∷ earlier) history
  others : (other : ℕ) → (number == other) ≡ false → entries_of client other history ≡ entries_of client other before
  some : lines_of client number earlier ≢ []
  stays : (lines : List Told) → answered lines ≡ true → answered (told ∷ lines) ≡ true

told_each : (client : ClientId) (number : ℕ) (told : Told) (earlier : List Told) (before history : List Entry) → Tells client number told earlier before history → Known client earlier before
    → (other : ℕ) → (b : Bool) → (number == other) ≡ b → InTurn client other (told ∷ earlier) history
told_each client number told earlier before history t known other true same = subst (λ (n : ℕ). InTurn client n (told ∷ earlier) history) (eqb-true number other same) t.own
told_each client number told earlier before history t known other false apart =
    let turn = known.each other in
    record { turn = turn.turn; lines_are = passed_over (is_of client other) told earlier (t.tells other ∙ apart) ∙ turn.lines_are; entries_are = t.others other apart ∙ turn.entries_are }

told_unstarted : (client : ClientId) (number : ℕ) (told : Told) (earlier : List Told) (before history : List Entry) → Tells client number told earlier before history
    → (other : ℕ) → lines_of client other earlier ≡ [] → (b : Bool) → (number == other) ≡ b → lines_of client other (told ∷ earlier) ≡ []
told_unstarted client number told earlier before history t other none true same = absurd (t.some (subst (λ (n : ℕ). lines_of client n earlier ≡ []) (sym (eqb-true number other same)) none))
told_unstarted client number told earlier before history t other none false apart = passed_over (is_of client other) told earlier (t.tells other ∙ apart) ∙ none

told_past : (client : ClientId) (number : ℕ) (told : Told) (earlier : List Told) (before history : List Entry) → Tells client number told earlier before history
    → (other : ℕ) → answered (lines_of client other earlier) ≡ true → (b : Bool) → (number == other) ≡ b → answered (lines_of client other (told ∷ earlier)) ≡ true
told_past client number told earlier before history t other is true same = ap answered (kept (is_of client other) told earlier (t.tells other ∙ same)) ∙ t.stays (lines_of client other earlier) is
told_past client number told earlier before history t other is false apart = ap answered (passed_over (is_of client other) told earlier (t.tells other ∙ apart)) ∙ is

tells_on : (client : ClientId) (number : ℕ) (told : Told) (earlier : List Told) (before history : List Entry) → Tells client number told earlier before history → Known client earlier before → Known client (told ∷ earlier) history
tells_on client number told earlier before history t known = record {
  each = λ other. told_each client number told earlier before history t known other _ refl;
  unstarted = λ other h. told_unstarted client number told earlier before history t other (known.unstarted other (subst (λ (n : ℕ). (other ≡ 0) ⊎ (n < other)) t.last h)) _ refl;
  past = λ other some less. told_past client number told earlier before history t other (known.past other some (subst (λ (n : ℕ). other < n) t.last less)) _ refl;
  member = subst (λ (n : ℕ). (client.0 < limits.clients) ⊎ (n ≡ 0)) (sym t.last) known.member;
}

-- an entry of a call

entering : (client : ClientId) (number : ℕ) (new : Option Ino) (text : List ℕ) (earlier : List Told) (before history : List Entry) → IsCarriedOut client number new text earlier before history → Known client earlier before
    → Tells client number (Enters client number new text) earlier before history
entering client number new text earlier before history goes known =
    let turn = known.each number in
    let just : IsJustStarted client number goes.call (lines_of client number earlier) (entries_of client number before)
    = just_started client number turn.turn (lines_of client number earlier) (entries_of client number before) goes.call turn.lines_are turn.entries_are goes.call_is goes.first in
    let me = of_client client number number ∙ eq-eqb number number refl in
    record {
      tells = λ other. of_client client other number;
      last = refl;
      own = record {
        turn = CarriedOut goes.call goes.reply new;
        lines_are = kept (is_of client number) (Enters client number new text) earlier me ∙ ap (λ (l : List Told). Enters client number new text ∷ l) just.lines_are
            ∙ ap (λ (t : List ℕ). Enters client number new t ∷ Starts client number goes.call ∷ []) (sym goes.text_is);
        entries_are = ap (entries_of client number) goes.history_is ∙ kept (is_entry_of client number) (Called client number goes.call goes.reply new) before me
            ∙ ap (λ (l : List Entry). Called client number goes.call goes.reply new ∷ l) just.entries_are;
      };
      others = λ other apart. ap (entries_of client other) goes.history_is ∙ passed_over (is_entry_of client other) (Called client number goes.call goes.reply new) before (of_client client other number ∙ apart);
      some = starts_some client number goes.call (lines_of client number earlier) just.lines_are;
      stays = λ lines is. is;
    }

-- an answer of a call

ending : (client : ClientId) (number : ℕ) (text : List ℕ) (earlier : List Told) (before : List Entry) → Ends client number text earlier → Known client earlier before
    → Tells client number (Answers client number text) earlier before before
ending client number text earlier before goes known =
    let turn = known.each number in
    let just : IsJustCarriedOut client number text (lines_of client number earlier) (entries_of client number before)
    = just_carried_out client number turn.turn (lines_of client number earlier) (entries_of client number before) text turn.lines_are turn.entries_are goes.entry_is goes.first in
    let me = of_client client number number ∙ eq-eqb number number refl in
    record {
      tells = λ other. of_client client other number;
      last = refl;
      own = record {
        turn = Answered just.call just.reply just.new;
        lines_are = kept (is_of client number) (Answers client number text) earlier me ∙ ap (λ (l : List Told). Answers client number text ∷ l) just.lines_are
            ∙ ap (λ (t : List ℕ). Answers client number t ∷ Enters client number just.new (reply_text just.reply) ∷ Starts client number just.call ∷ []) (sym just.text_is);
        entries_are = just.entries_are;
      };
      others = λ other apart. refl;
      some = enters_some client number just.new (reply_text just.reply) (lines_of client number earlier) (Starts client number just.call ∷ []) just.lines_are;
      stays = λ lines is. refl;
    }

-- a start of a call

pub own_last : (client : ClientId) (number : ℕ) (call : Call) (earlier : List Told) → last_number client (Starts client number call ∷ earlier) ≡ number
own_last client number call earlier = ap (λ (b : Bool). cond b number (last_number client earlier)) (eq-eqb client.0 client.0 refl)

start_each : (client : ClientId) (number : ℕ) (call : Call) (earlier : List Told) (before : List Entry) → Known client earlier before → Begins client number earlier
    → (other : ℕ) → (b : Bool) → (number == other) ≡ b → InTurn client other (Starts client number call ∷ earlier) before
start_each client number call earlier before known begins other true same =
    let turn = known.each number in
    let none = known.unstarted number (inr (omega (arith, begins.number_is))) in
    let me = of_client client number number ∙ eq-eqb number number refl in
    let own : InTurn client number (Starts client number call ∷ earlier) before = record {
      turn = Started call;
      lines_are = kept (is_of client number) (Starts client number call) earlier me ∙ ap (λ (l : List Told). Starts client number call ∷ l) none;
      entries_are = no_entries client number turn.turn (lines_of client number earlier) (entries_of client number before) turn.lines_are turn.entries_are none;
    } in
    subst (λ (n : ℕ). InTurn client n (Starts client number call ∷ earlier) before) (eqb-true number other same) own
start_each client number call earlier before known begins other false apart =
    let turn = known.each other in
    record { turn = turn.turn; lines_are = passed_over (is_of client other) (Starts client number call) earlier (of_client client other number ∙ apart) ∙ turn.lines_are; entries_are = turn.entries_are }

start_over : (client : ClientId) (number : ℕ) (call : Call) (earlier : List Told) (other : ℕ) → number ≢ other → (b : Bool) → (number == other) ≡ b → lines_of client other (Starts client number call ∷ earlier) ≡ lines_of client other earlier
start_over client number call earlier other apart true same = absurd (apart (eqb-true number other same))
start_over client number call earlier other apart false same = passed_over (is_of client other) (Starts client number call) earlier (of_client client other number ∙ same)

unstarted_by : (client : ClientId) (number : ℕ) (earlier : List Told) (before : List Entry) → Known client earlier before → Begins client number earlier → (other : ℕ) → (other ≡ 0) ⊎ (number < other)
    → (number ≢ other) × (lines_of client other earlier ≡ [])
unstarted_by client number earlier before known begins other (inl zero) = ((λ same. absurd (omega (arith, begins.number_is, same, zero))), known.unstarted other (inl zero))
unstarted_by client number earlier before known begins other (inr more) = ((λ same. absurd (omega (arith, same, more))), known.unstarted other (inr (omega (arith, begins.number_is, more))))

last_answered : (client : ClientId) (last : ℕ) (earlier : List Told) → 1 ≤ last → IsAnswered client last earlier → answered (lines_of client last earlier) ≡ true
last_answered client last earlier some (inl none) = absurd (omega (arith, some, none))
last_answered client last earlier some (inr is) = is

past_by : (client : ClientId) (number : ℕ) (earlier : List Told) (before : List Entry) → Known client earlier before → Begins client number earlier → (other : ℕ) → 1 ≤ other → other < number
    → (b : Bool) → (other == last_number client earlier) ≡ b → answered (lines_of client other earlier) ≡ true
past_by client number earlier before known begins other some less true same =
    let is = eqb-true other (last_number client earlier) same in
    subst (λ (n : ℕ). answered (lines_of client n earlier) ≡ true) (sym is) (last_answered client (last_number client earlier) earlier (omega (arith, is, some)) begins.last_answered)
past_by client number earlier before known begins other some less false apart =
    let differ = eqb-false other (last_number client earlier) apart in
    known.past other some (omega (arith, begins.number_is, less, differ))

own_start : (client : ClientId) (number : ℕ) (call : Call) (earlier : List Told) (before : List Entry) → Known client earlier before → Begins client number earlier → Known client (Starts client number call ∷ earlier) before
own_start client number call earlier before known begins =
    let last = own_last client number call earlier in
    record {
      each = λ other. start_each client number call earlier before known begins other _ refl;
      unstarted = λ other h.
          let by = unstarted_by client number earlier before known begins other (subst (λ (n : ℕ). (other ≡ 0) ⊎ (n < other)) last h) in
          start_over client number call earlier other by.0 _ refl ∙ by.1;
      past = λ other some less.
          let below : other < number = subst (λ (n : ℕ). other < n) last less in
          ap answered (start_over client number call earlier other (λ same. absurd (omega (arith, same, below))) _ refl) ∙ past_by client number earlier before known begins other some below _ refl;
      member = inl begins.client_is;
    }

-- each line that goes on

pub other_last : (client other : ClientId) (number : ℕ) (call : Call) (earlier : List Told) → (other.0 == client.0) ≡ false → last_number client (Starts other number call ∷ earlier) ≡ last_number client earlier
other_last client other number call earlier apart = ap (λ (b : Bool). cond b number (last_number client earlier)) apart

start_step : (other : ClientId) (number : ℕ) (call : Call) (earlier : List Told) (before : List Entry) → ((client : ClientId) → Known client earlier before) → Begins other number earlier
    → (client : ClientId) → (b : Bool) → (other.0 == client.0) ≡ b → Known client (Starts other number call ∷ earlier) before
start_step other number call earlier before all begins client true same =
    subst (λ (c : ClientId). Known c (Starts other number call ∷ earlier) before) (same_client other client (eqb-true other.0 client.0 same)) (own_start other number call earlier before (all other) begins)
start_step other number call earlier before all begins client false apart =
    beside client (Starts other number call) earlier before before (λ n. of_other client other n number apart) (other_last client other number call earlier apart) (λ n. refl) (all client)

enter_step : (other : ClientId) (number : ℕ) (new : Option Ino) (text : List ℕ) (earlier : List Told) (before history : List Entry) → ((client : ClientId) → Known client earlier before) → IsCarriedOut other number new text earlier before history
    → (client : ClientId) → (b : Bool) → (other.0 == client.0) ≡ b → Known client (Enters other number new text ∷ earlier) history
enter_step other number new text earlier before history all goes client true same =
    subst (λ (c : ClientId). Known c (Enters other number new text ∷ earlier) history) (same_client other client (eqb-true other.0 client.0 same))
    (tells_on other number (Enters other number new text) earlier before history (entering other number new text earlier before history goes (all other)) (all other))
enter_step other number new text earlier before history all goes client false apart =
    beside client (Enters other number new text) earlier before history (λ n. of_other client other n number apart) refl
    (λ n. ap (entries_of client n) goes.history_is ∙ passed_over (is_entry_of client n) (Called other number goes.call goes.reply new) before (of_other client other n number apart)) (all client)

end_step : (other : ClientId) (number : ℕ) (text : List ℕ) (earlier : List Told) (before : List Entry) → ((client : ClientId) → Known client earlier before) → Ends other number text earlier
    → (client : ClientId) → (b : Bool) → (other.0 == client.0) ≡ b → Known client (Answers other number text ∷ earlier) before
end_step other number text earlier before all goes client true same =
    subst (λ (c : ClientId). Known c (Answers other number text ∷ earlier) before) (same_client other client (eqb-true other.0 client.0 same))
    (tells_on other number (Answers other number text) earlier before before (ending other number text earlier before goes (all other)) (all other))
end_step other number text earlier before all goes client false apart =
    beside client (Answers other number text) earlier before before (λ n. of_other client other n number apart) refl (λ n. refl) (all client)

going : (told : Told) (earlier : List Told) (before history : List Entry) → ((client : ClientId) → Known client earlier before) → Goes earlier before told history → (client : ClientId) → Known client (told ∷ earlier) history
going (Starts other number call) earlier before history all goes client =
    subst (Known client (Starts other number call ∷ earlier)) (sym goes.1) (start_step other number call earlier before all goes.0 client _ refl)
going (Enters other number new text) earlier before history all goes client = enter_step other number new text earlier before history all goes client _ refl
going (Flushes other ino) earlier before history all goes client =
    beside client (Flushes other ino) earlier before history (λ n. refl) refl (λ n. ap (entries_of client n) goes.1) (all client)
going (Purges other) earlier before history all goes client =
    beside client (Purges other) earlier before history (λ n. refl) refl (λ n. ap (entries_of client n) goes.1) (all client)
going (Answers other number text) earlier before history all goes client =
    subst (Known client (Answers other number text ∷ earlier)) (sym goes.1) (end_step other number text earlier before all goes.0 client _ refl)

-- of all lines that fit
pub known : (lines : List Told) (history : List Entry) → FitTo lines history → (client : ClientId) → Known client lines history
known [] history is client = record {
  each = λ number. record { turn = Unstarted; lines_are = refl; entries_are = ap (entries_of client number) is };
  unstarted = λ number h. refl;
  past = λ number some less. absurd (omega (arith, less));
  member = inr refl;
}
known (told ∷ earlier) history fit client = going told earlier fit.0 history (known earlier fit.0 fit.1) fit.2 client
