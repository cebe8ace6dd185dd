-- What was made, sent, taken and acknowledged only grows.
use Rattle.std.proofs.Common.{◌++◌, ◌+◌, ◌≤◌, ℕ, Bool, true, false, if◌then◌else◌, Option, Some, None, List, ◌∷◌, length, min, arith, length-append, nat_eq}
use Rattle.std.proofs.Math.Nat.{min-le_left, min-le_right, le-min, le-max_left}
use Rattle.session.specs.declared.packet.Packet.{Packet}
use Rattle.cluster_law.specs.Lanes.{Lane, back}
use Rattle.cluster_law.specs.Noted.{Setting, Noted}
use Rattle.cluster_law.specs.Sessions.{made_in, made_now, acked_in, acknowledged, sent_in, sent_with, taken_in, counted, heard_in}

acknowledged-grows : (n sent : ℕ) (p : Option Packet) → n ≤ acknowledged n sent p
acknowledged-grows n sent None = omega arith
acknowledged-grows n sent (Some p) = le-max_left n (min p.ack sent)

pub acked-grows : (w : Setting) (lane : Lane) (s : Noted) (earlier : List Noted) → acked_in w lane earlier ≤ acked_in w lane (s ∷ earlier)
unfolding acked_in
acked-grows w lane s earlier = acknowledged-grows (acked_in w lane earlier) (sent_with (length (made_in lane earlier)) (acked_in w lane earlier)) (heard_in w (back lane) earlier s)

longer : {X : Type 0} (xs ys : List X) → length xs ≤ length (xs ++ ys)
longer xs ys = let e = length-append xs ys in omega arith

pub made-grows : (lane : Lane) (s : Noted) (earlier : List Noted) → length (made_in lane earlier) ≤ length (made_in lane (s ∷ earlier))
unfolding made_in
made-grows lane s earlier = longer (made_in lane earlier) (made_now lane s)

min-grows : (a b c d : ℕ) → a ≤ c → b ≤ d → min a b ≤ min c d
min-grows a b c d h k = let p = min-le_left a b in let q = min-le_right a b in le-min (omega arith) (omega arith)

pub sent-grows : (w : Setting) (lane : Lane) (s : Noted) (earlier : List Noted) → sent_in w lane earlier ≤ sent_in w lane (s ∷ earlier)
unfolding sent_in
sent-grows w lane s earlier = let a = acked-grows w lane s earlier in min-grows _ _ _ _ (made-grows lane s earlier) (omega arith)

counted-grows : (n : ℕ) (p : Option Packet) → n ≤ counted n p
counted-grows n None = omega arith
counted-grows n (Some p) = next (nat_eq p.seq (n + 1))
  where
    next : (t : Bool) → n ≤ (if t then n + 1 else n)
    next true = omega arith
    next false = omega arith

pub taken-grows : (w : Setting) (lane : Lane) (s : Noted) (earlier : List Noted) → taken_in w lane earlier ≤ taken_in w lane (s ∷ earlier)
unfolding taken_in
taken-grows w lane s earlier = counted-grows (taken_in w lane earlier) (heard_in w lane earlier s)
