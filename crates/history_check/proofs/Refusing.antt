-- A line that is refused doesn't go on with the lines before it.
use Rattle.std.proofs.Common.{◌≡◌, ◌≢◌, ◌+◌, ◌<◌, ℕ, false, List, [], ◌∷◌, Option, Some, refl, sym, ap, ◌∙◌, subst, inl, inr, arith}
use Rattle.std.proofs.lemmas.Bool.{cases_lt}
use Rattle.cal_base.specs.Limits as limits
use Rattle.cal_base.specs.declared.identity.ClientId.{ClientId}
use Rattle.cal_base.specs.declared.identity.Ino.{Ino}
use Rattle.tree_law.specs.Tree.{Tree}
use Rattle.tree_law.specs.Legal.{IsNext, IsNextCall}
use Rattle.tree_law.specs.declared.call.Call.{Call}
use Rattle.tree_law.specs.declared.entry.Entry.{Entry}
use Rattle.tree_law.specs.declared.entry.Entry.TheVariants.{Flush, Purge}
use Rattle.history_check.specs.Lines.{answered, entered, entries_of, last_number, lines_of, started}
use Rattle.history_check.specs.Fits.{IsAnswered}
use Rattle.history_check.specs.Judging.{IsSoFar, JudgeValue, Refuses, StandsAt, standing_of}
use Rattle.history_check.specs.Steps.{CanAnswer, CanStart, CannotEnter, IsClient}
use Rattle.history_check.specs.declared.standing.Progress.{Progress}
use Rattle.history_check.specs.declared.standing.Progress.TheVariants.{Answered, Entered, Started}
use Rattle.history_check.specs.declared.standing.Standing.{Standing}
use Rattle.history_check.specs.declared.told.Told.{Told}
use Rattle.history_check.specs.declared.told.Told.TheVariants.{Answers, Enters, Flushes, Purges, Starts}
use Rattle.history_check.proofs.Calls.{IsJustCarriedOut, IsJustStarted, enters_some, just_carried_out, just_started, no_call, no_text, not_both, same_call, same_text, starts_some}
use Rattle.history_check.proofs.Known.{Known, known}

-- a call that was started and isn't answered is the client's last, and the client one of the 16

open_is_last : (client : ClientId) (number : ℕ) (earlier : List Told) (before : List Entry) → Known client earlier before → lines_of client number earlier ≢ [] → answered (lines_of client number earlier) ≡ false → number ≡ last_number client earlier
open_is_last client number earlier before knows some still =
    elim (cases_lt number (last_number client earlier)) as (λ _. number ≡ last_number client earlier) [
      | inl less ↦ elim (cases_lt 0 number) as (λ _. number ≡ last_number client earlier) [
        | inl from_one ↦ absurd (not_both (sym (knows.past number (omega (arith, from_one)) less) ∙ still))
        | inr none ↦ absurd (some (knows.unstarted number (inl (omega (arith, none)))))
      ]
      | inr at_least ↦ elim (cases_lt (last_number client earlier) number) as (λ _. number ≡ last_number client earlier) [
        | inl above ↦ absurd (some (knows.unstarted number (inr above)))
        | inr at_most ↦ omega (arith, at_least, at_most)
      ]
    ]

not_zero : (client : ClientId) (number : ℕ) (earlier : List Told) (before : List Entry) → Known client earlier before → lines_of client number earlier ≢ [] → number ≢ 0
not_zero client number earlier before knows some zero = some (knows.unstarted number (inl zero))

is_client : (client : ClientId) (number : ℕ) (earlier : List Told) (before : List Entry) → Known client earlier before → number ≢ 0 → number ≡ last_number client earlier → IsClient client
is_client client number earlier before knows from_one last =
    elim knows.member as (λ _. client.0 < limits.clients) [
      | inl is ↦ is
      | inr none ↦ absurd (from_one (last ∙ none))
    ]

-- what the judge keeps of it

started_progress : (progress : Progress) (client : ClientId) (number : ℕ) (call : Call) (earlier : List Told) → IsSoFar progress client number earlier → number ≢ 0 → lines_of client number earlier ≡ Starts client number call ∷ [] → progress ≡ Started call
started_progress Answered client number call earlier (inl zero) from_one lines = absurd (from_one zero)
started_progress Answered client number call earlier (inr is) from_one lines = absurd (not_both (sym is ∙ ap answered lines))
started_progress (Started its) client number call earlier is from_one lines = ap Started (same_call its call (sym is.0 ∙ ap started lines))
started_progress (Entered text) client number call earlier is from_one lines = absurd (no_text text (sym (ap entered lines) ∙ is.0))

entered_progress : (progress : Progress) (client : ClientId) (number : ℕ) (text : List ℕ) (earlier : List Told) → IsSoFar progress client number earlier → number ≢ 0 → entered (lines_of client number earlier) ≡ Some text → answered (lines_of client number earlier) ≡ false
    → progress ≡ Entered text
entered_progress Answered client number text earlier (inl zero) from_one is still = absurd (from_one zero)
entered_progress Answered client number text earlier (inr was) from_one is still = absurd (not_both (sym was ∙ still))
entered_progress (Started its) client number text earlier so from_one is still = absurd (no_text text (sym so.1 ∙ is))
entered_progress (Entered its) client number text earlier so from_one is still = ap Entered (same_text its text (sym so.0 ∙ is))

so_far_at : (standing : Standing) (client : ClientId) (number : ℕ) (earlier : List Told) → StandsAt standing client earlier → number ≡ last_number client earlier → IsSoFar standing.progress client number earlier
so_far_at standing client number earlier at last = subst (λ (n : ℕ). IsSoFar standing.progress client n earlier) (at.number_is ∙ sym last) at.progress_is

-- starts

answered_progress : (progress : Progress) (client : ClientId) (number : ℕ) (earlier : List Told) (before : List Entry) → Known client earlier before → IsSoFar progress client number earlier → IsAnswered client number earlier → progress ≡ Answered
answered_progress Answered client number earlier before knows so is = refl
answered_progress (Started call) client number earlier before knows so (inl zero) = absurd (no_call call (sym (ap started (knows.unstarted number (inl zero))) ∙ so.0))
answered_progress (Started call) client number earlier before knows so (inr is) =
    let turn = knows.each number in
    let just : IsJustStarted client number call (lines_of client number earlier) (entries_of client number before)
    = just_started client number turn.turn (lines_of client number earlier) (entries_of client number before) call turn.lines_are turn.entries_are so.0 so.1 in
    absurd (not_both (sym is ∙ ap answered just.lines_are))
answered_progress (Entered text) client number earlier before knows so (inl zero) = absurd (no_text text (sym (ap entered (knows.unstarted number (inl zero))) ∙ so.0))
answered_progress (Entered text) client number earlier before knows so (inr is) = absurd (not_both (sym is ∙ so.1))

pub no_start : (judge : JudgeValue) (client : ClientId) (number : ℕ) (call : Call) → (IsClient client → ¬ (CanStart (standing_of judge client) number)) → Refuses judge (Starts client number call)
no_start judge client number call cannot = record {
  refuses = λ earlier before history stands fit goes.
      let at = stands.clients client goes.0.client_is in
      let so = so_far_at (standing_of judge client) client (last_number client earlier) earlier at refl in
      cannot goes.0.client_is (record {
        answered = answered_progress (standing_of judge client).progress client (last_number client earlier) earlier before (known earlier before fit client) so goes.0.last_answered;
        number_is = goes.0.number_is ∙ ap (λ (n : ℕ). n + 1) (sym at.number_is);
      });
}

-- entries of calls

pub no_entry : (judge : JudgeValue) (client : ClientId) (number : ℕ) (new_ino : Option Ino) (text : List ℕ) → (IsClient client → CannotEnter judge.tree (standing_of judge client) client number new_ino text) → Refuses judge (Enters client number new_ino text)
no_entry judge client number new_ino text cannot = record {
  refuses = λ earlier before history stands fit goes.
      let knows = known earlier before fit client in
      let turn = knows.each number in
      let just : IsJustStarted client number goes.call (lines_of client number earlier) (entries_of client number before)
      = just_started client number turn.turn (lines_of client number earlier) (entries_of client number before) goes.call turn.lines_are turn.entries_are goes.call_is goes.first in
      let some = starts_some client number goes.call (lines_of client number earlier) just.lines_are in
      let last = open_is_last client number earlier before knows some (ap answered just.lines_are) in
      let from_one = not_zero client number earlier before knows some in
      let is = is_client client number earlier before knows from_one last in
      let at = stands.clients client is in
      let so = so_far_at (standing_of judge client) client number earlier at last in
      let progress = started_progress (standing_of judge client).progress client number goes.call earlier so from_one just.lines_are in
      let standing : standing_of judge client ≡ record { number = number; progress = Started goes.call } = λ i. record { number = (at.number_is ∙ sym last) i; progress = progress i } in
      (cannot is).cannot goes.call standing goes.reply (record {
        text_is = goes.text_is;
        next = subst (λ (t : Tree). IsNextCall t client goes.call goes.reply new_ino) (sym stands.tree_is) goes.allowed;
      });
}

-- answers

pub no_answer : (judge : JudgeValue) (client : ClientId) (number : ℕ) (text : List ℕ) → (IsClient client → ¬ (CanAnswer (standing_of judge client) number text)) → Refuses judge (Answers client number text)
no_answer judge client number text cannot = record {
  refuses = λ earlier before history stands fit goes.
      let knows = known earlier before fit client in
      let turn = knows.each number in
      let just : IsJustCarriedOut client number text (lines_of client number earlier) (entries_of client number before)
      = just_carried_out client number turn.turn (lines_of client number earlier) (entries_of client number before) text turn.lines_are turn.entries_are goes.0.entry_is goes.0.first in
      let some = enters_some client number just.new _ (lines_of client number earlier) _ just.lines_are in
      let last = open_is_last client number earlier before knows some goes.0.first in
      let from_one = not_zero client number earlier before knows some in
      let is = is_client client number earlier before knows from_one last in
      let at = stands.clients client is in
      let so = so_far_at (standing_of judge client) client number earlier at last in
      cannot is (record {
        number_is = at.number_is ∙ sym last;
        carried_out = entered_progress (standing_of judge client).progress client number text earlier so from_one goes.0.entry_is goes.0.first;
      });
}

-- entries of no call

pub no_flush : (judge : JudgeValue) (client : ClientId) (ino : Ino) → ¬ (IsNext judge.tree (Flush client ino)) → Refuses judge (Flushes client ino)
no_flush judge client ino not = record {
  refuses = λ earlier before history stands fit goes. not (subst (λ (t : Tree). IsNext t (Flush client ino)) (sym stands.tree_is) goes.0);
}

pub no_purge : (judge : JudgeValue) (client : ClientId) → ¬ (IsNext judge.tree (Purge client)) → Refuses judge (Purges client)
no_purge judge client not = record {
  refuses = λ earlier before history stands fit goes. not (subst (λ (t : Tree). IsNext t (Purge client)) (sym stands.tree_is) goes.0);
}
