-- What an outbox has once the messages of a step are in it.
use Rattle.std.proofs.Common.{◌≡◌, ◌+◌, ◌<◌, ◌≤◌, ◌++◌, ◌∷◌, [], ℕ, Bool, List, Option, length, take, get_or, ap, ◌∙◌, map, sym}
use Rattle.std.proofs.lemmas.List.{map-append, take_more, take_all}
use Rattle.message.specs.Spelling.{message_bytes}
use Rattle.message.specs.declared.message.Message.{Message}
use Rattle.token_kind.specs.declared.piece.Piece.{Piece}
use Rattle.cluster_law.specs.ClientState.{Turn}
use Rattle.client_book.specs.Client.{ClientValue}
use Rattle.client_book.specs.Made.{messages_in, piece_message, sendable_in}
use Rattle.client_state.specs.Working.{finished_at, made_at}
use Rattle.client_state.specs.declared.made.Finished.{Finished}
use Rattle.outbox.specs.Sending.{Sending, put_all, put_in}
use Rattle.outbox.proofs.Going.{put-append, put-out}

-- all that was put in, but for flushes that are kept back
pub all_sent : (out : Sending) (moving : Bool) (messages : List Message) → out ≡ put_all (record { moving = moving; bodies = [] }) messages → out.bodies ≡ map message_bytes (sendable_in moving messages)
all_sent out moving messages e = ap (λ (s : Sending). s.bodies) (e ∙ put-out (record { moving = moving; bodies = [] }) messages)

-- in two parts
pub both_sent : (first out : Sending) (moving : Bool) (front rest : List Message) → first ≡ put_all (record { moving = moving; bodies = [] }) front → out ≡ put_all first rest → out.bodies ≡ map message_bytes (sendable_in moving (front ++ rest))
both_sent first out moving front rest e f = all_sent out moving (front ++ rest) (f ∙ ap (λ (s : Sending). put_all s rest) e ∙ sym (put-append (record { moving = moving; bodies = [] }) front rest))

-- one message more is put in, and all are
pub one_more : {X : Type 0} (make : X → Message) (xs : List X) (i : ℕ) (d x : X) (old now new : Sending) → i < length xs → now ≡ put_all old (map make (take i xs)) → x ≡ get_or xs i d → new ≡ put_in now (make x)
    → new ≡ put_all old (map make (take (i + 1) xs))
unfolding put_all
one_more make xs i d x old now new within so is put =
    put
    ∙ ap (λ (s : Sending). put_in s (make x)) so
    ∙ ap (λ y. put_in (put_all old (map make (take i xs))) (make y)) is
    ∙ sym (put-append old (map make (take i xs)) (make (get_or xs i d) ∷ []))
    ∙ ap (put_all old) (sym (map-append make (take i xs) (get_or xs i d ∷ [])) ∙ ap (map make) (sym (take_more xs i d within)))

pub all_in : {X : Type 0} (make : X → Message) (xs : List X) (i : ℕ) (old now : Sending) → length xs ≤ i → now ≡ put_all old (map make (take i xs)) → now ≡ put_all old (map make xs)
all_in make xs i old now all so = so ∙ ap (λ xs. put_all old (map make xs)) (take_all i xs all)

-- one piece of a report less is left
pub pieces_more : (now next : Sending) (piece : Piece) (left rest : List Piece) → left ≡ piece ∷ rest → next ≡ put_in now (piece_message piece) → put_all next (map piece_message rest) ≡ put_all now (map piece_message left)
unfolding put_all
pieces_more now next piece left rest is put = ap (λ (s : Sending). put_all s (map piece_message rest)) put ∙ ap (λ (list : List Piece). put_all now (map piece_message list)) (sym is)

-- what a step has made is told by its bodies and the call that it finishes
pub made_by : (v : ClientValue) (turn : Turn) (bodies : List (List ℕ)) (finished : Option Finished) → bodies ≡ map message_bytes (messages_in v turn) → finished ≡ finished_at v turn → record { bodies = bodies; finished = finished } ≡ made_at v turn
made_by v turn bodies finished e f = λ i. record { bodies = e i; finished = f i }
