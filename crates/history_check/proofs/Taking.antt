-- A line that is taken goes on with the lines before it, and the judge then keeps what they tell.
use Rattle.std.proofs.Common.{◌≡◌, ◌≢◌, ◌==◌, ◌&&◌, ◌+◌, ◌<◌, ℕ, Bool, true, false, List, ◌∷◌, length, get_or, slice_set, Option, refl, sym, ap, ◌∙◌, subst, inl, inr, eq-eqb, arith}
use Rattle.std.proofs.lemmas.Bool.{eqb-false, eqb-true}
use Rattle.std.proofs.lemmas.List.{get_or-set_other, get_or-set_same, length-set}
use Rattle.cal_base.specs.declared.identity.ClientId.{ClientId}
use Rattle.cal_base.specs.declared.identity.Ino.{Ino}
use Rattle.tree_law.specs.Tree.{Tree}
use Rattle.tree_law.specs.Legal.{IsNext, IsNextCall, after, after_call, tree_of}
use Rattle.tree_law.specs.declared.call.Call.{Call}
use Rattle.tree_law.specs.declared.entry.Entry.{Entry}
use Rattle.tree_law.specs.declared.entry.Entry.TheVariants.{Call as Called, Flush, Purge}
use Rattle.history_check.specs.Lines.{answered, entered, is_of, last_number, lines_of, started}
use Rattle.history_check.specs.Fits.{Begins, Ends, FitTo, IsAnswered}
use Rattle.history_check.specs.Judging.{GoesOn, IsSoFar, JudgeValue, Stands, StandsAt, Takes, no_call, standing_of}
use Rattle.history_check.specs.Steps.{CanAnswer, CanStart, Enters as CarriesOutLast, EntersIn, IsClient, with_standing, with_tree}
use Rattle.history_check.specs.declared.standing.Progress.{Progress}
use Rattle.history_check.specs.declared.standing.Progress.TheVariants.{Answered, Entered, Started}
use Rattle.history_check.specs.declared.standing.Standing.{Standing}
use Rattle.history_check.specs.declared.told.Told.{Told}
use Rattle.history_check.specs.declared.told.Told.TheVariants.{Answers, Enters, Flushes, Purges, Starts}
use Rattle.history_check.proofs.Calls.{IsJustStarted, just_started, kept, of_client, of_other, passed_over, same_client}
use Rattle.history_check.proofs.Known.{Known, known, other_last, own_last}

-- a line that tells of no call of a client leaves its standing

so_far : (progress : Progress) (client : ClientId) (number : ℕ) (told : Told) (earlier : List Told) → is_of client number told ≡ false → IsSoFar progress client number earlier → IsSoFar progress client number (told ∷ earlier)
so_far Answered client number told earlier over (inl none) = inl none
so_far Answered client number told earlier over (inr is) = inr (ap answered (passed_over (is_of client number) told earlier over) ∙ is)
so_far (Started call) client number told earlier over is =
    let same = passed_over (is_of client number) told earlier over in
    (ap started same ∙ is.0, ap entered same ∙ is.1)
so_far (Entered text) client number told earlier over is =
    let same = passed_over (is_of client number) told earlier over in
    (ap entered same ∙ is.0, ap answered same ∙ is.1)

stands_beside : (standing : Standing) (client : ClientId) (told : Told) (earlier : List Told) → ((number : ℕ) → is_of client number told ≡ false) → last_number client (told ∷ earlier) ≡ last_number client earlier → StandsAt standing client earlier
    → StandsAt standing client (told ∷ earlier)
stands_beside standing client told earlier over last at = record {
  number_is = at.number_is ∙ sym last;
  progress_is = so_far standing.progress client standing.number told earlier (over standing.number) at.progress_is;
}

-- a line that tells of one client's call sets that client's standing

own_standing : (standings : List Standing) (client other : ClientId) (standing : Standing) (lines : List Told) → client.0 < length standings → StandsAt standing client lines → client ≡ other
    → StandsAt (get_or (slice_set standings client.0 standing) other.0 no_call) other lines
own_standing standings client other standing lines within at same =
    subst (λ (c : ClientId). StandsAt (get_or (slice_set standings client.0 standing) c.0 no_call) c lines) same
    (subst (λ (s : Standing). StandsAt s client lines) (sym (get_or-set_same standings client.0 standing no_call within)) at)

other_standing : (standings : List Standing) (client other : ClientId) (standing : Standing) (lines : List Told) → other.0 ≢ client.0 → StandsAt (get_or standings other.0 no_call) other lines
    → StandsAt (get_or (slice_set standings client.0 standing) other.0 no_call) other lines
other_standing standings client other standing lines apart at =
    subst (λ (s : Standing). StandsAt s other lines) (sym (get_or-set_other standings client.0 other.0 standing no_call apart)) at

-- of a line of this client
record IsLineOf (client : ClientId) (told : Told) (earlier : List Told) : Type 0 where
  over : (other : ClientId) → (client.0 == other.0) ≡ false → (number : ℕ) → is_of other number told ≡ false
  last : (other : ClientId) → (client.0 == other.0) ≡ false → last_number other (told ∷ earlier) ≡ last_number other earlier

each_standing : (old : JudgeValue) (client : ClientId) (standing : Standing) (told : Told) (earlier : List Told) (before : List Entry) → IsLineOf client told earlier → Stands old earlier before → IsClient client → StandsAt standing client (told ∷ earlier)
    → (other : ClientId) → IsClient other → (b : Bool) → (client.0 == other.0) ≡ b → StandsAt (get_or (slice_set old.standings client.0 standing) other.0 no_call) other (told ∷ earlier)
each_standing old client standing told earlier before line stands is at other is_other true same =
    own_standing old.standings client other standing (told ∷ earlier) (omega (arith, is, stands.count)) at (same_client client other (eqb-true client.0 other.0 same))
each_standing old client standing told earlier before line stands is at other is_other false apart =
    other_standing old.standings client other standing (told ∷ earlier) (λ e. eqb-false client.0 other.0 apart (sym e))
    (stands_beside (standing_of old other) other told earlier (line.over other apart) (line.last other apart) (stands.clients other is_other))

sets : (old new : JudgeValue) (client : ClientId) (standing : Standing) (told : Told) (earlier : List Told) (before history : List Entry) → IsLineOf client told earlier → Stands old earlier before → IsClient client → StandsAt standing client (told ∷ earlier)
    → new.standings ≡ slice_set old.standings client.0 standing → new.tree ≡ tree_of history → Stands new (told ∷ earlier) history
sets old new client standing told earlier before history line stands is at standings tree = record {
  tree_is = tree;
  count = ap length standings ∙ length-set old.standings client.0 standing ∙ stands.count;
  clients = λ other is_other.
      subst (λ (ss : List Standing). StandsAt (get_or ss other.0 no_call) other (told ∷ earlier)) (sym standings) (each_standing old client standing told earlier before line stands is at other is_other _ refl);
}

of_starts : (client : ClientId) (number : ℕ) (call : Call) (earlier : List Told) → IsLineOf client (Starts client number call) earlier
of_starts client number call earlier = record {
  over = λ other apart n. of_other other client n number apart;
  last = λ other apart. other_last other client number call earlier apart;
}

of_enters : (client : ClientId) (number : ℕ) (new : Option Ino) (text : List ℕ) (earlier : List Told) → IsLineOf client (Enters client number new text) earlier
of_enters client number new text earlier = record { over = λ other apart n. of_other other client n number apart; last = λ other apart. refl }

of_answers : (client : ClientId) (number : ℕ) (text : List ℕ) (earlier : List Told) → IsLineOf client (Answers client number text) earlier
of_answers client number text earlier = record { over = λ other apart n. of_other other client n number apart; last = λ other apart. refl }

me : (client : ClientId) (number : ℕ) (told : Told) (earlier : List Told) → is_of client number told ≡ ((client.0 == client.0) && (number == number)) → lines_of client number (told ∷ earlier) ≡ told ∷ lines_of client number earlier
me client number told earlier tells = kept (is_of client number) told earlier (tells ∙ of_client client number number ∙ eq-eqb number number refl)

-- starts

begins : (standing : Standing) (client : ClientId) (number : ℕ) (earlier : List Told) → StandsAt standing client earlier → IsClient client → CanStart standing number → Begins client number earlier
begins standing client number earlier at is can = record {
  client_is = is;
  number_is = can.number_is ∙ ap (λ (n : ℕ). n + 1) at.number_is;
  last_answered = subst (λ (n : ℕ). IsAnswered client n earlier) at.number_is (subst (λ (p : Progress). IsSoFar p client standing.number earlier) can.answered at.progress_is);
}

started_stands : (client : ClientId) (number : ℕ) (call : Call) (earlier : List Told) (before : List Entry) → Known client earlier before → Begins client number earlier
    → StandsAt (record { number = number; progress = Started call }) client (Starts client number call ∷ earlier)
started_stands client number call earlier before knows goes =
    let lines = me client number (Starts client number call) earlier refl in
    let none = knows.unstarted number (inr (omega (arith, goes.number_is))) in
    record { number_is = sym (own_last client number call earlier); progress_is = (ap started lines, ap entered lines ∙ ap entered none) }

pub starts_on : (old new : JudgeValue) (client : ClientId) (number : ℕ) (call : Call) → IsClient client → CanStart (standing_of old client) number → new ≡ with_standing old client (record { number = number; progress = Started call }) → Takes old (Starts client number call) new
starts_on old new client number call is can new_is = record {
  takes = λ earlier before stands fit.
      let goes = begins (standing_of old client) client number earlier (stands.clients client is) is can in
      let at = started_stands client number call earlier before (known earlier before fit client) goes in
      record {
        history = before;
        goes = (goes, refl);
        stands = sets old new client (record { number = number; progress = Started call }) (Starts client number call) earlier before before (of_starts client number call earlier) stands is at
            (ap (λ (j : JudgeValue). j.standings) new_is) (ap (λ (j : JudgeValue). j.tree) new_is ∙ stands.tree_is);
      };
}

-- entries of calls

last_is : (standing : Standing) (client : ClientId) (number : ℕ) (call : Call) (earlier : List Told) → StandsAt standing client earlier → standing ≡ record { number = number; progress = Started call }
    → StandsAt (record { number = number; progress = Started call }) client earlier
last_is standing client number call earlier at is = subst (λ (s : Standing). StandsAt s client earlier) is at

entered_stands : (client : ClientId) (number : ℕ) (new : Option Ino) (text : List ℕ) (call : Call) (earlier : List Told) (before : List Entry) → Known client earlier before → StandsAt (record { number = number; progress = Started call }) client earlier
    → StandsAt (record { number = number; progress = Entered text }) client (Enters client number new text ∷ earlier)
entered_stands client number new text call earlier before knows at =
    let lines = me client number (Enters client number new text) earlier refl in
    let turn = knows.each number in
    let just : IsJustStarted client number call (lines_of client number earlier) _
    = just_started client number turn.turn (lines_of client number earlier) _ call turn.lines_are turn.entries_are at.progress_is.0 at.progress_is.1 in
    record { number_is = at.number_is; progress_is = (ap entered lines, ap answered lines ∙ ap answered just.lines_are) }

entry_goes : (old new : JudgeValue) (client : ClientId) (number : ℕ) (new_ino : Option Ino) (text : List ℕ) (standing : Standing) (earlier : List Told) (before : List Entry) → IsClient client
    → CarriesOutLast old.tree (standing_of old client) client number new_ino text new.tree standing → new.standings ≡ slice_set old.standings client.0 standing → Stands old earlier before → FitTo earlier before
    → GoesOn new earlier before (Enters client number new_ino text)
entry_goes old new client number new_ino text standing earlier before is enters standings stands fit =
    let at = last_is (standing_of old client) client number enters.call earlier (stands.clients client is) enters.was in
    let carried = enters.carries_out in
    let entry : Entry = Called client number enters.call carried.reply new_ino in
    let own = entered_stands client number new_ino text enters.call earlier before (known earlier before fit client) at in
    record {
      history = entry ∷ before;
      goes = record {
        call = enters.call;
        reply = carried.reply;
        call_is = at.progress_is.0;
        first = at.progress_is.1;
        text_is = carried.can.text_is;
        allowed = subst (λ (t : Tree). IsNextCall t client enters.call carried.reply new_ino) stands.tree_is carried.can.next;
        history_is = refl;
      };
      stands = sets old new client standing (Enters client number new_ino text) earlier before (entry ∷ before) (of_enters client number new_ino text earlier) stands is
          (subst (λ (s : Standing). StandsAt s client (Enters client number new_ino text ∷ earlier)) (sym carried.standing_is) own) standings
          (carried.tree_is ∙ ap (λ (t : Tree). after_call t client enters.call carried.reply new_ino) stands.tree_is);
    }

pub enters_on : (old new : JudgeValue) (client : ClientId) (number : ℕ) (new_ino : Option Ino) (text : List ℕ) → EntersIn old client number new_ino text new → Takes old (Enters client number new_ino text) new
enters_on old new client number new_ino text enters = record {
  takes = λ earlier before stands fit. entry_goes old new client number new_ino text enters.standing earlier before enters.client_is enters.enters (ap (λ (j : JudgeValue). j.standings) enters.new_is) stands fit;
}

-- answers

ends : (standing : Standing) (client : ClientId) (number : ℕ) (text : List ℕ) (earlier : List Told) → StandsAt standing client earlier → CanAnswer standing number text → Ends client number text earlier
ends standing client number text earlier at can =
    let so : IsSoFar (Entered text) client number earlier
    = subst (λ (n : ℕ). IsSoFar (Entered text) client n earlier) can.number_is (subst (λ (p : Progress). IsSoFar p client standing.number earlier) can.carried_out at.progress_is) in
    record { entry_is = so.0; first = so.1 }

pub ends_on : (old new : JudgeValue) (client : ClientId) (number : ℕ) (text : List ℕ) → IsClient client → CanAnswer (standing_of old client) number text → new ≡ with_standing old client (record { number = number; progress = Answered }) → Takes old (Answers client number text) new
ends_on old new client number text is can new_is = record {
  takes = λ earlier before stands fit.
      let at = stands.clients client is in
      let own : StandsAt (record { number = number; progress = Answered }) client (Answers client number text ∷ earlier) = record {
        number_is = sym can.number_is ∙ at.number_is;
        progress_is = inr (ap answered (me client number (Answers client number text) earlier refl));
      } in
      record {
        history = before;
        goes = (ends (standing_of old client) client number text earlier at can, refl);
        stands = sets old new client (record { number = number; progress = Answered }) (Answers client number text) earlier before before (of_answers client number text earlier) stands is own
            (ap (λ (j : JudgeValue). j.standings) new_is) (ap (λ (j : JudgeValue). j.tree) new_is ∙ stands.tree_is);
      };
}

-- entries of no call

same_standings : (old new : JudgeValue) (told : Told) (earlier : List Told) (before history : List Entry) → ((client : ClientId) (number : ℕ) → is_of client number told ≡ false)
    → ((client : ClientId) → last_number client (told ∷ earlier) ≡ last_number client earlier) → Stands old earlier before → new.standings ≡ old.standings → new.tree ≡ tree_of history → Stands new (told ∷ earlier) history
same_standings old new told earlier before history over last stands standings tree = record {
  tree_is = tree;
  count = ap length standings ∙ stands.count;
  clients = λ client is.
      subst (λ (ss : List Standing). StandsAt (get_or ss client.0 no_call) client (told ∷ earlier)) (sym standings)
      (stands_beside (standing_of old client) client told earlier (over client) (last client) (stands.clients client is));
}

pub flush_on : (old new : JudgeValue) (client : ClientId) (ino : Ino) → IsNext old.tree (Flush client ino) → new ≡ with_tree old (after old.tree (Flush client ino)) → Takes old (Flushes client ino) new
flush_on old new client ino next new_is = record {
  takes = λ earlier before stands fit. record {
    history = Flush client ino ∷ before;
    goes = (subst (λ (t : Tree). IsNext t (Flush client ino)) stands.tree_is next, refl);
    stands = same_standings old new (Flushes client ino) earlier before (Flush client ino ∷ before) (λ c n. refl) (λ c. refl) stands (ap (λ (j : JudgeValue). j.standings) new_is)
        (ap (λ (j : JudgeValue). j.tree) new_is ∙ ap (λ (t : Tree). after t (Flush client ino)) stands.tree_is);
  };
}

pub purge_on : (old new : JudgeValue) (client : ClientId) → IsNext old.tree (Purge client) → new ≡ with_tree old (after old.tree (Purge client)) → Takes old (Purges client) new
purge_on old new client next new_is = record {
  takes = λ earlier before stands fit. record {
    history = Purge client ∷ before;
    goes = (subst (λ (t : Tree). IsNext t (Purge client)) stands.tree_is next, refl);
    stands = same_standings old new (Purges client) earlier before (Purge client ∷ before) (λ c n. refl) (λ c. refl) stands (ap (λ (j : JudgeValue). j.standings) new_is)
        (ap (λ (j : JudgeValue). j.tree) new_is ∙ ap (λ (t : Tree). after t (Purge client)) stands.tree_is);
  };
}
