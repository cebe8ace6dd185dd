-- What goes out of messages that are put in one after the other.
use Rattle.std.proofs.Common.{◌≡◌, ◌++◌, ◌∷◌, [], ℕ, Bool, true, false, not, if◌then◌else◌, List, ap, refl, sym, ◌∙◌, map}
use Rattle.std.proofs.lemmas.List.{append_assoc, append-nil}
use Rattle.message.specs.Spelling.{message_bytes}
use Rattle.message.specs.declared.message.Message.{Message}
use Rattle.client_book.specs.Made.{is_kept_back, sendable_in}
use Rattle.outbox.specs.Sending.{Sending, put_all, put_in}

-- messages that are put in piece by piece go out as all of them at once
pub put-append : (s : Sending) (a b : List Message) → put_all s (a ++ b) ≡ put_all (put_all s a) b
unfolding put_all
put-append s [] b = refl
put-append s (message ∷ messages) b = put-append (put_in s message) messages b

-- all goes out of a client that isn't moving
still-out : (bodies : List (List ℕ)) (messages : List Message) → put_all (record { moving = false; bodies = bodies }) messages ≡ record { moving = false; bodies = bodies ++ map message_bytes messages }
unfolding put_all
still-out bodies [] = ap (λ (all : List (List ℕ)). record { moving = false; bodies = all }) (sym (append-nil bodies))
still-out bodies (message ∷ messages) =
    still-out (bodies ++ message_bytes message ∷ []) messages
    ∙ ap (λ (all : List (List ℕ)). record { moving = false; bodies = all }) (append_assoc bodies (message_bytes message ∷ []) (map message_bytes messages))

-- all but flushes goes out of a client that is moving
moving-out : (bodies : List (List ℕ)) (messages : List Message) → put_all (record { moving = true; bodies = bodies }) messages ≡ record { moving = true; bodies = bodies ++ map message_bytes (sendable_in true messages) }
unfolding put_all
moving-out bodies [] = ap (λ (all : List (List ℕ)). record { moving = true; bodies = all }) (sym (append-nil bodies))
moving-out bodies (message ∷ messages) = by (is_kept_back message) (moving-out bodies messages) (moving-out (bodies ++ message_bytes message ∷ []) messages)
  where
    by : (b : Bool) → put_all (record { moving = true; bodies = bodies }) messages ≡ record { moving = true; bodies = bodies ++ map message_bytes (sendable_in true messages) }
        → put_all (record { moving = true; bodies = bodies ++ message_bytes message ∷ [] }) messages ≡ record { moving = true; bodies = (bodies ++ message_bytes message ∷ []) ++ map message_bytes (sendable_in true messages) }
        → put_all (if b then record { moving = true; bodies = bodies } else record { moving = true; bodies = bodies ++ message_bytes message ∷ [] }) messages ≡ record { moving = true; bodies = bodies ++ map message_bytes (if not b then message ∷ sendable_in true messages else sendable_in true messages) }
    by true kept sent = kept
    by false kept sent = sent ∙ ap (λ (all : List (List ℕ)). record { moving = true; bodies = all }) (append_assoc bodies (message_bytes message ∷ []) (map message_bytes (sendable_in true messages)))

-- what goes out are the messages in their order, but for flushes while the client is moving
pub put-out : (s : Sending) (messages : List Message) → put_all s messages ≡ record s { bodies = s.bodies ++ map message_bytes (sendable_in s.moving messages) }
put-out s messages = by s.moving
  where
    by : (moving : Bool) → put_all (record { moving = moving; bodies = s.bodies }) messages ≡ record { moving = moving; bodies = s.bodies ++ map message_bytes (sendable_in moving messages) }
    by false = still-out s.bodies messages
    by true = moving-out s.bodies messages
