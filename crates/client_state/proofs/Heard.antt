-- A client that has heard what comes goes on with its call.
use Rattle.std.proofs.Common.{◌≡◌, ◌+◌, ◌-◌, ◌<◌, ◌^◌, [], ℕ, true, false, if◌then◌else◌, List, Option, Some, None, ap, refl, subst, sym, ◌∙◌, arith, length, map}
use Rattle.std.specs.Prelude.{IfSome}
use Rattle.std.specs.Option.{option_to_list}
use Rattle.message.specs.declared.message.Message.TheVariants.{Admit, Ask, Flushed, Grant}
use Rattle.token_kind.specs.declared.grant_item.GrantItem.{GrantItem}
use Rattle.tree_law.specs.declared.call.Call.{Call}
use Rattle.cluster_law.specs.ClientState.{Turn, Starts, Takes}
use Rattle.client_book.specs.Client.{ClientValue, hears_in}
use Rattle.client_cache.specs.Reports.{reports}
use Rattle.report.specs.Report.{pieces_of}
use Rattle.client_book.specs.Made.{flush_message, hearing_in, messages_in, piece_message, reply_at, reply_to_in, trying_if_in}
use Rattle.client_book.specs.Sound.{HasSpelling, IsCalling, IsClient, IsFree}
use Rattle.client_book.proofs.Counting.{last-heard}
use Rattle.client_book.proofs.Sounding.{heard-calling, heard-calls}
use Rattle.outbox.specs.Sending.{Sending, put_all}
use Rattle.client_state.specs.Working.{finished_with, made_at, made_trying}
use Rattle.client_state.specs.declared.made.Made.{Made}
use Rattle.client_state.proofs.Outgoing.{all_sent, both_sent, made_by}

-- there is room for its flush, and for its number
pub room_heard : (v mid : ClientValue) (turn : Turn) → mid ≡ hears_in v turn → IsClient v → v.memory.known.last_flush + length v.memory.remembered < 2 ^ 63 → mid.memory.known.last_flush < 2 ^ 64 - 1
room_heard v mid turn e is room = subst (λ (m : ClientValue). m.memory.known.last_flush < 2 ^ 64 - 1) (sym e) (let one = last-heard v turn is.sound.tidy in omega arith)

pub calls_heard : (v mid : ClientValue) (turn : Turn) → mid ≡ hears_in v turn → v.calls < 2 ^ 63 → mid.calls < 2 ^ 64
calls_heard v mid turn e few = subst (λ (m : ClientValue). m.calls < 2 ^ 64) (sym e) (let one = heard-calls v turn in omega arith)

-- its call has a number and a spelling
pub calling_heard : (v mid : ClientValue) (turn : Turn) → mid ≡ hears_in v turn → IsClient v → HasSpelling turn → IsFree v turn → IfSome mid.call (IsCalling mid.calls)
calling_heard v mid turn e is spelled free = subst (λ (m : ClientValue). IfSome m.call (IsCalling m.calls)) (sym e) (heard-calling v turn is spelled free)

-- what it makes
pub made_start : (v mid : ClientValue) (call : Call) (out : Sending) (made : Made) → mid ≡ hears_in v (Starts call) → out ≡ record { moving = v.moving; bodies = [] } → made ≡ made_trying mid out → made ≡ made_at v (Starts call)
unfolding messages_in reply_at
made_start v mid call out made e f g =
    g
    ∙ ap (λ (m : ClientValue). made_trying m out) e
    ∙ made_by v (Starts call) _ _ (all_sent (put_all out (trying_if_in true (hears_in v (Starts call)) (hears_in v (Starts call)).call)) v.moving (trying_if_in true (hears_in v (Starts call)) (hears_in v (Starts call)).call) (ap (λ (s : Sending). put_all s (trying_if_in true (hears_in v (Starts call)) (hears_in v (Starts call)).call)) f)) refl

pub made_grant : (v mid : ClientValue) (number : ℕ) (items : List GrantItem) (out : Sending) (made : Made) → mid ≡ hears_in v (Takes (Grant number items)) → out ≡ record { moving = v.moving; bodies = [] } → made ≡ made_trying mid out → made ≡ made_at v (Takes (Grant number items))
unfolding messages_in reply_at
made_grant v mid number items out made e f g =
    let h = hears_in v (Takes (Grant number items)) in
    g
    ∙ ap (λ (m : ClientValue). made_trying m out) e
    ∙ made_by v (Takes (Grant number items)) _ _ (all_sent (put_all out (trying_if_in true h h.call)) v.moving (trying_if_in true h h.call) (ap (λ (s : Sending). put_all s (trying_if_in true h h.call)) f)) refl

pub made_flushed : (v mid : ClientValue) (number : ℕ) (first out : Sending) (made : Made) → mid ≡ hears_in v (Takes (Flushed number)) → first ≡ record { moving = v.moving; bodies = [] } → out ≡ put_all first (hearing_in v.memory (Takes (Flushed number))) → made ≡ made_trying mid out
    → made ≡ made_at v (Takes (Flushed number))
unfolding messages_in reply_at
made_flushed v mid number first out made e f put g =
    let h = hears_in v (Takes (Flushed number)) in
    let front = hearing_in v.memory (Takes (Flushed number)) in
    g
    ∙ ap (λ (m : ClientValue). made_trying m out) e
    ∙ made_by v (Takes (Flushed number)) _ _ (both_sent out (put_all out (trying_if_in true h h.call)) v.moving front (trying_if_in true h h.call) (put ∙ ap (λ (s : Sending). put_all s front) f) refl) refl

-- a report and the request again
pub made_ask : (v : ClientValue) (first second third : Sending) (made : Made) → first ≡ record { moving = false; bodies = [] } → second ≡ put_all first (map piece_message (pieces_of (reports v.memory.known))) → third ≡ put_all second (option_to_list v.request)
    → made ≡ record { bodies = third.bodies; finished = None } → made ≡ made_at v (Takes Ask)
unfolding messages_in reply_at hears_in
made_ask v first second third made e f g h =
    let front = map piece_message (pieces_of (reports v.memory.known)) in
    h ∙ made_by v (Takes Ask) third.bodies None (both_sent second third false front (option_to_list v.request) (f ∙ ap (λ (s : Sending). put_all s front) e) g) (sym (no-end v.call))
  where
    no-end : (o : Option Call) → finished_with o (reply_to_in false None (record v { moving = true; waits = false }) o) ≡ None
    no-end None = refl
    no-end (Some call) = refl

-- the flushes under way, and the request if it had to wait
pub made_admit : (v : ClientValue) (first second third : Sending) (made : Made) → first ≡ record { moving = false; bodies = [] } → second ≡ put_all first (map flush_message v.memory.known.flushes) → third ≡ put_all second (if v.waits then option_to_list v.request else [])
    → made ≡ record { bodies = third.bodies; finished = None } → made ≡ made_at v (Takes Admit)
unfolding messages_in reply_at hears_in
made_admit v first second third made e f g h =
    let front = map flush_message v.memory.known.flushes in
    h ∙ made_by v (Takes Admit) third.bodies None (both_sent second third false front (if v.waits then option_to_list v.request else []) (f ∙ ap (λ (s : Sending). put_all s front) e) g) (sym (no-end v.call))
  where
    no-end : (o : Option Call) → finished_with o (reply_to_in false None (record v { moving = false; waits = false }) o) ≡ None
    no-end None = refl
    no-end (Some call) = refl
