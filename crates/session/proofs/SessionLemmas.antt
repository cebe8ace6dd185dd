use Rattle.std.proofs.Common.{◌≡◌, ◌+◌, ◌<◌, ◌++◌, ◌∷◌, [], ℕ, List, length, take, get_or, sym, ap, ◌∙◌, arith, subst}
use Rattle.std.proofs.lemmas.List.{get_or-drop, length-drop, length-take-le, take_more}
use Rattle.session.specs.declared.packet.Packet.{Packet}
use Rattle.session.specs.Session.{SessionState, numbered, packet_of, packets_from, queued}

-- the packets of bodies and of those behind them
pub packets_from-append : (s : SessionState) (taken number next : ℕ) (xs ys : List (List ℕ)) → next ≡ number + length xs
    → packets_from s taken number (xs ++ ys) ≡ packets_from s taken number xs ++ packets_from s taken next ys
packets_from-append s taken number next [] ys e = ap (λ (n : ℕ). packets_from s taken n ys) (omega arith)
packets_from-append s taken number next (x ∷ xs) ys e =
    ap (λ (ps : List Packet). packet_of s taken number x ∷ ps) (packets_from-append s taken (number + 1) next xs ys (omega arith))

-- one more message leaves the queue
pub opened_more : (s : SessionState) (taken place number : ℕ) (opened : List Packet) (body : List ℕ)
    → opened ≡ packets_from s taken (numbered s + 1) (take place (queued s))
    → 8 + place < length s.bodies → body ≡ get_or s.bodies (8 + place) body → number ≡ s.acknowledged + (8 + place) + 1
    → opened ++ packet_of s taken number body ∷ [] ≡ packets_from s taken (numbered s + 1) (take (place + 1) (queued s))
opened_more s taken place number opened body before within read count =
    let long : place < length (queued s) = omega (arith, length-drop 8 s.bodies) in
    let eight : length (take 8 s.bodies) ≡ 8 = length-take-le 8 s.bodies (omega arith) in
    let same : get_or (queued s) place body ≡ body = get_or-drop 8 s.bodies place body ∙ sym read in
    let more : take (place + 1) (queued s) ≡ take place (queued s) ++ body ∷ [] =
    take_more (queued s) place body long ∙ ap (λ (b : List ℕ). take place (queued s) ++ b ∷ []) same in
    let next : number ≡ numbered s + 1 + length (take place (queued s)) = omega (arith, length-take-le place (queued s) (omega arith)) in
    ap (λ (ps : List Packet). ps ++ packet_of s taken number body ∷ []) before
    ∙ sym (packets_from-append s taken (numbered s + 1) number (take place (queued s)) (body ∷ []) next)
    ∙ ap (packets_from s taken (numbered s + 1)) (sym more)

-- what was read is read
pub read_same : (items bodies : List (List ℕ)) (place : ℕ) (found body : List ℕ) → items ≡ bodies → found ≡ get_or items place found → body ≡ found
    → body ≡ get_or bodies place body
read_same items bodies place found body same read e =
    subst (λ (xs : List ℕ). xs ≡ get_or bodies place xs) (sym e) (read ∙ ap (λ (xs : List (List ℕ)). get_or xs place found) same)
