use Rattle.std.specs.Prelude.{◌≡◌, ◌+◌, ℕ, zero, suc, ◌-◌, ◌*◌, ◌/◌, List, [], ◌∷◌, ◌++◌, true, false, length, take, drop}
use Rattle.cal_base.specs.Limits.{holds_per_piece}
use Rattle.token_kind.specs.declared.piece.Piece.{Piece}
use Rattle.token_kind.specs.declared.reported.Reported.{Reported}

-- a full piece, of the most holds, that others follow
abbrev pub full_piece : List Reported → ℕ → Piece
full_piece holds i = record { index = i; last = false; holds = take holds_per_piece (drop (i * holds_per_piece) holds) }

-- the first n pieces, where others follow
unfoldable pub full_pieces : List Reported → ℕ → List Piece
full_pieces holds zero = []
full_pieces holds (suc n) = full_pieces holds n ++ full_piece holds n ∷ []

-- how many pieces stand before the last, which is empty in a report of no hold alone
abbrev pub full_count : List Reported → ℕ
full_count holds = (length holds - 1) / holds_per_piece

-- the pieces of a report: full ones, and the last with the rest
abbrev pub pieces_of : List Reported → List Piece
pieces_of holds =
    let n = full_count holds in
    full_pieces holds n ++ record { index = n; last = true; holds = drop (n * holds_per_piece) holds } ∷ []

-- the indexes of pieces are their places, from a number on
abbrev pub AreNumbered : ℕ → List Piece → Type 0
AreNumbered from [] = Unit {0}
AreNumbered from (piece ∷ pieces) = (piece.index ≡ from) × AreNumbered (from + 1) pieces
