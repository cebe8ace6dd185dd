-- Packets numbered on from a number, made by a lane and by a session.
use Rattle.std.proofs.Common.{◌≡◌, ◌++◌, ◌+◌, ◌-◌, ◌≤◌, ◌<◌, ◌⊎◌, inl, inr, ℕ, true, false, zero, suc, Some, None, List, [], ◌∷◌, if◌then◌else◌, length, take, map, refl, sym, ap, ◌∙◌, arith, nat_lt, length-append}
use Rattle.std.proofs.lemmas.Bool.{cases_lt, lt-ltb, le-ltb}
use Rattle.std.specs.Option.{option_to_list}
use Rattle.message.specs.Spelling.{message_bytes}
use Rattle.message.specs.declared.message.Message.{Message}
use Rattle.session.specs.Session.{SessionState, after_send, packet_of, packets_from}
use Rattle.session.specs.declared.packet.Packet.{Packet}
use Rattle.cluster_law.specs.Delivery.{packed}
use Rattle.lane_facts.proofs.Waiting.{take-none}
use Rattle.lane_facts.specs.Speaking.{packets_with}

-- packets of these bodies, numbered on from a number
abbrev pub numbering : (ℕ → List ℕ → Packet) → ℕ → List (List ℕ) → List Packet
numbering f number [] = []
numbering f number (body ∷ bodies) = f (number + 1) body ∷ numbering f (number + 1) bodies

-- messages numbered on are their bytes numbered on
pub packed-bodies : (f : ℕ → List ℕ → Packet) (number : ℕ) (ms : List Message) → packed f number ms ≡ numbering f number (map message_bytes ms)
packed-bodies f number [] = refl
packed-bodies f number (m ∷ ms) = ap (λ ps. f (number + 1) (message_bytes m) ∷ ps) (packed-bodies f (number + 1) ms)

-- two lists numbered on are both, one after the other
pub numbering-both : (f : ℕ → List ℕ → Packet) (number : ℕ) (xs ys : List (List ℕ)) → numbering f number (xs ++ ys) ≡ numbering f number xs ++ numbering f (number + length xs) ys
numbering-both f number [] ys = ap (λ n. numbering f n ys) (omega arith)
numbering-both f number (x ∷ xs) ys = ap (λ ps. f (number + 1) x ∷ ps) (numbering-both f (number + 1) xs ys ∙ ap (λ n. numbering f (number + 1) xs ++ numbering f n ys) (let e : number + 1 + length xs ≡ number + suc (length xs) = omega arith in e))

-- what a session lets out of its queue is numbered on
pub from-numbering : (f : ℕ → List ℕ → Packet) (s : SessionState) (taken number : ℕ) (bodies : List (List ℕ)) → ((n : ℕ) (body : List ℕ) → f n body ≡ packet_of s taken n body) → packets_from s taken (number + 1) bodies ≡ numbering f number bodies
from-numbering f s taken number [] is = refl
from-numbering f s taken number (body ∷ bodies) is = ap (λ p. p ∷ packets_from s taken (number + 1 + 1) bodies) (sym (is (number + 1) body)) ∙ ap (λ ps. f (number + 1) body ∷ ps) (from-numbering f s taken (number + 1) bodies is)

-- a full session sends nothing
full : (s : SessionState) (bodies : List (List ℕ)) → 8 ≤ length s.bodies → packets_with s bodies ≡ []
unfolding packets_with
full s [] h = refl
full s (body ∷ bodies) h =
    let longer = length-append s.bodies (body ∷ []) in
    let no : nat_lt (length s.bodies) 8 ≡ false = le-ltb (length s.bodies) 8 h in
    ap (λ b. option_to_list (if b then Some (packet_of s s.taken (s.acknowledged + length s.bodies + 1) body) else None) ++ packets_with (after_send s body) bodies) no ∙ full (after_send s body) bodies (omega arith)

-- the same packets, where either the numbers are the same or there are none
pub alike : (f : ℕ → List ℕ → Packet) (a b m : ℕ) (xs : List (List ℕ)) → (0 < m → a ≡ b) → numbering f a (take m xs) ≡ numbering f b (take m xs)
alike f a b zero xs same = refl
alike f a b (suc m) xs same = ap (λ n. numbering f n (take (suc m) xs)) (same (omega arith))

-- a session numbers on the bodies that it is handed, until eight are unacknowledged
pub with-numbering : (f : ℕ → List ℕ → Packet) (s : SessionState) (bodies : List (List ℕ)) → ((n : ℕ) (body : List ℕ) → f n body ≡ packet_of s s.taken n body) → packets_with s bodies ≡ numbering f (s.acknowledged + length s.bodies) (take (8 - length s.bodies) bodies)
unfolding packets_with
with-numbering f s [] is = ap (numbering f (s.acknowledged + length s.bodies)) (sym (take-none (8 - length s.bodies)))
with-numbering f s (body ∷ bodies) is = one (cases_lt (length s.bodies) 8) (with-numbering f (after_send s body) bodies is)
  where
    one : (length s.bodies < 8) ⊎ (8 ≤ length s.bodies) → packets_with (after_send s body) bodies ≡ numbering f (s.acknowledged + length (s.bodies ++ body ∷ [])) (take (8 - length (s.bodies ++ body ∷ [])) bodies)
        → packets_with s (body ∷ bodies) ≡ numbering f (s.acknowledged + length s.bodies) (take (8 - length s.bodies) (body ∷ bodies))
    one (inl low) rest =
        let longer = length-append s.bodies (body ∷ []) in
        let yes : nat_lt (length s.bodies) 8 ≡ true = lt-ltb (length s.bodies) 8 low in
        let room : suc (8 - length (s.bodies ++ body ∷ [])) ≡ 8 - length s.bodies = omega arith in
        let next : s.acknowledged + length (s.bodies ++ body ∷ []) ≡ s.acknowledged + length s.bodies + 1 = omega arith in
        ap (λ b. option_to_list (if b then Some (packet_of s s.taken (s.acknowledged + length s.bodies + 1) body) else None) ++ packets_with (after_send s body) bodies) yes
        ∙ ap (λ p. p ∷ packets_with (after_send s body) bodies) (sym (is (s.acknowledged + length s.bodies + 1) body))
        ∙ ap (λ ps. f (s.acknowledged + length s.bodies + 1) body ∷ ps) (rest ∙ ap (λ n. numbering f n (take (8 - length (s.bodies ++ body ∷ [])) bodies)) next)
        ∙ ap (λ n. numbering f (s.acknowledged + length s.bodies) (take n (body ∷ bodies))) room
    one (inr high) rest =
        let none : zero ≡ 8 - length s.bodies = omega arith in
        full s (body ∷ bodies) high ∙ ap (λ n. numbering f (s.acknowledged + length s.bodies) (take n (body ∷ bodies))) none
