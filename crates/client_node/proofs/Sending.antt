-- Bodies that are handed to a session one after the other, by what is left of them.
use Rattle.std.proofs.Common.{◌≡◌, ◌+◌, ◌<◌, ◌^◌, ◌++◌, ◌∷◌, [], ℕ, List, ap, sym, ◌∙◌, arith}
use Rattle.std.specs.Option.{option_to_list}
use Rattle.std.proofs.lemmas.List.{append_assoc, append-nil}
use Rattle.session.specs.Session.{SessionState, after_send, sent_packet}
use Rattle.session.specs.declared.packet.Packet.{Packet}
use Rattle.cluster_law.specs.Ends.{making}
use Rattle.client_node.specs.Step.{packets_with}

-- a body more is handed over
pub making-more : (s after : SessionState) (body : List ℕ) (bodies rest : List (List ℕ)) → bodies ≡ body ∷ rest → after ≡ after_send s body → making after rest ≡ making s bodies
making-more s after body bodies rest e made = ap (λ (k : SessionState). making k rest) made ∙ ap (making s) (sym e)

-- its packet goes out before those of the rest
pub packets-more : (s after : SessionState) (old new : List Packet) (body : List ℕ) (bodies rest : List (List ℕ)) → bodies ≡ body ∷ rest → after ≡ after_send s body → new ≡ old ++ option_to_list (sent_packet s body)
    → new ++ packets_with after rest ≡ old ++ packets_with s bodies
unfolding packets_with
packets-more s after old new body bodies rest e made put =
    ap (λ (list : List Packet). list ++ packets_with after rest) put
    ∙ ap (λ (k : SessionState). old ++ option_to_list (sent_packet s body) ++ packets_with k rest) made
    ∙ append_assoc old (option_to_list (sent_packet s body)) (packets_with (after_send s body) rest)
    ∙ ap (λ (list : List (List ℕ)). old ++ packets_with s list) (sym e)

-- and none are left at the end
pub making-all : (s : SessionState) (bodies : List (List ℕ)) → bodies ≡ [] → making s bodies ≡ s
making-all s bodies e = ap (making s) e

pub packets-all : (s : SessionState) (old : List Packet) (bodies : List (List ℕ)) → bodies ≡ [] → old ++ packets_with s bodies ≡ old
unfolding packets_with
packets-all s old bodies e = ap (λ (list : List (List ℕ)). old ++ packets_with s list) e ∙ append-nil old

-- a session has room for the rest
pub room-more : (s after : SessionState) (body : List ℕ) (left rest : ℕ) → left ≡ rest + 1 → after ≡ after_send s body → s.steps + left < 2 ^ 60 → after.steps + rest < 2 ^ 60
room-more s after body left rest less made room = (let one = ap (λ (k : SessionState). k.steps) made in omega (arith, one, less, room))
