use Rattle.std.proofs.Common.{◌≡◌, ℕ, zero, suc, ◌+◌, ◌-◌, ◌*◌, ◌/◌, ◌≤◌, ◌<◌, List, [], ◌∷◌, ◌++◌, length, take, drop, true, refl, sym, ap, ◌∙◌, add-one, append-nil, min, length-drop, arith}
use Rattle.std.specs.List.{flat_map, All}
use Rattle.std.proofs.Math.Nat.{lt-div-mul-add, div-mul-le_self}
use Rattle.std.proofs.Math.Seq.{take-add}
use Rattle.std.proofs.lemmas.Grind.{flat_map-append}
use Rattle.std.proofs.lemmas.List.{length-take, length-append, take-append-drop}
use Rattle.std.proofs.lemmas.List.Elements.{All-push}
use Rattle.token_kind.specs.declared.piece.Piece.{Piece}
use Rattle.token_kind.specs.declared.reported.Reported.{Reported}
use Rattle.report.specs.Report.{full_piece, full_pieces, full_count, pieces_of, AreNumbered}

-- no piece yet
pub full_pieces-zero : (holds : List Reported) → full_pieces holds 0 ≡ []
unfolding full_pieces
full_pieces-zero holds = refl

-- one piece more
pub full_pieces-more : (holds : List Reported) (n : ℕ) → full_pieces holds (n + 1) ≡ full_pieces holds n ++ full_piece holds n ∷ []
unfolding full_pieces
full_pieces-more holds n = rw add-one refl

-- one piece joined to others
join-push : (ps : List Piece) (p : Piece) → flat_map (λ piece. piece.holds) (ps ++ p ∷ []) ≡ flat_map (λ piece. piece.holds) ps ++ p.holds
join-push ps p = flat_map-append (λ (piece : Piece). piece.holds) ps (p ∷ []) ∙ ap (λ hs. flat_map (λ (piece : Piece). piece.holds) ps ++ hs) (append-nil p.holds)

-- the full pieces together are the holds before those left
joined : (holds : List Reported) (n : ℕ) → flat_map (λ piece. piece.holds) (full_pieces holds n) ≡ take (n * 32) holds
unfolding full_pieces
joined holds zero = refl
joined holds (suc n) =
    join-push (full_pieces holds n) (full_piece holds n) ∙ ap (λ hs. hs ++ take 32 (drop (n * 32) holds)) (joined holds n)
    ∙ sym (take-add (n * 32) 32 holds) ∙ ap (λ m. take m holds) (omega arith)

-- the pieces of a report together are the holds
pub together : (holds : List Reported) → flat_map (λ piece. piece.holds) (pieces_of holds) ≡ holds
together holds =
    let n = full_count holds in
    join-push (full_pieces holds n) (record { index = n; last = true; holds = drop (n * 32) holds }) ∙ ap (λ hs. hs ++ drop (n * 32) holds) (joined holds n) ∙ take-append-drop (n * 32) holds

-- no piece has more than 32 holds
full_sizes : (holds : List Reported) (n : ℕ) → All (λ (piece : Piece). length piece.holds ≤ 32) (full_pieces holds n)
unfolding full_pieces
full_sizes holds zero = λ k d lt. absurd (omega arith)
full_sizes holds (suc n) =
    All-push (λ (piece : Piece). length piece.holds ≤ 32) (full_pieces holds n) (full_piece holds n) (full_sizes holds n)
    (let e : length (take 32 (drop (n * 32) holds)) ≡ min 32 (length (drop (n * 32) holds)) = length-take 32 (drop (n * 32) holds) in omega (arith, e))

rest_size : (n : ℕ) → n - (n - 1) / 32 * 32 ≤ 32
rest_size n = let e : n - 1 < (n - 1) / 32 * 32 + 32 = lt-div-mul-add (omega arith) in omega (arith, e)

pub sizes : (holds : List Reported) → All (λ (piece : Piece). length piece.holds ≤ 32) (pieces_of holds)
sizes holds =
    let n = full_count holds in
    All-push (λ (piece : Piece). length piece.holds ≤ 32) (full_pieces holds n) (record { index = n; last = true; holds = drop (n * 32) holds }) (full_sizes holds n)
    (let e : length (drop (n * 32) holds) ≡ length holds - n * 32 = length-drop (n * 32) holds in let r : length holds - (length holds - 1) / 32 * 32 ≤ 32 = rest_size (length holds) in omega (arith, e, r))

-- there are as many full pieces as are cut
full_length : (holds : List Reported) (n : ℕ) → length (full_pieces holds n) ≡ n
unfolding full_pieces
full_length holds zero = refl
full_length holds (suc n) = length-append (full_pieces holds n) (full_piece holds n ∷ []) ∙ (let e : length (full_pieces holds n) ≡ n = full_length holds n in omega (arith, e))

-- the pieces are the full ones and the last
pub pieces_length : (holds : List Reported) → length (pieces_of holds) ≡ full_count holds + 1
pieces_length holds =
    let n = full_count holds in
    length-append (full_pieces holds n) (record { index = n; last = true; holds = drop (n * 32) holds } ∷ [])
    ∙ (let e : length (full_pieces holds n) ≡ n = full_length holds n in omega (arith, e))

-- so many holds give no more pieces than
count_bound : (h n : ℕ) → h ≤ n * 32 → 1 ≤ n → (h - 1) / 32 + 1 ≤ n
count_bound h n few some = let e : (h - 1) / 32 * 32 ≤ h - 1 = div-mul-le_self (h - 1) 32 in omega (arith, e, few, some)

pub count_pieces : (holds : List Reported) (n : ℕ) → length holds ≤ n * 32 → 1 ≤ n → length (pieces_of holds) ≤ n
count_pieces holds n few some =
    let e : length (pieces_of holds) ≡ (length holds - 1) / 32 + 1 = pieces_length holds in
    let b : (length holds - 1) / 32 + 1 ≤ n = count_bound (length holds) n few some in omega (arith, e, b)

-- one piece more, numbered by its place
numbered-push : (from : ℕ) (ps : List Piece) (p : Piece) → AreNumbered from ps → p.index ≡ from + length ps → AreNumbered from (ps ++ p ∷ [])
numbered-push from [] p h e = (omega (arith, e), tt)
numbered-push from (q ∷ ps) p h e = (h.0, numbered-push (from + 1) ps p h.1 (omega (arith, e)))

numbered_full : (holds : List Reported) (n : ℕ) → AreNumbered 0 (full_pieces holds n)
unfolding full_pieces
numbered_full holds zero = tt
numbered_full holds (suc n) =
    numbered-push 0 (full_pieces holds n) (full_piece holds n) (numbered_full holds n) (let e : length (full_pieces holds n) ≡ n = full_length holds n in omega (arith, e))

-- the pieces of a report are numbered by their places
pub numbered : (holds : List Reported) → AreNumbered 0 (pieces_of holds)
numbered holds =
    let n = full_count holds in
    numbered-push 0 (full_pieces holds n) (record { index = n; last = true; holds = drop (n * 32) holds }) (numbered_full holds n)
    (let e : length (full_pieces holds n) ≡ n = full_length holds n in omega (arith, e))
