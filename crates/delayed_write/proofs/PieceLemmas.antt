use Rattle.std.proofs.Common.{◌≡◌, ◌+◌, ◌*◌, ◌<◌, ◌≤◌, ◌⊎◌, inl, inr, ℕ, zero, suc, Bool, true, false, ◌&&◌, nat_eq, nat_le, nat_lt, List, [], ◌∷◌, ◌++◌, Option, Some, None, length, take, drop, refl, sym, ap, ◌∙◌, arith, cond, All}
use Rattle.std.proofs.lemmas.Bool.{and_from, and_parts, cases_Bool, cases_eq, cond-true, cond-false, eq-eqb, le-leb, lt-ltb, ltb-true, ne_eqb, true≢false}
use Rattle.std.proofs.lemmas.List.{length_push}
use Rattle.std.proofs.lemmas.List.Elements.{All-nil, All-push}
use Rattle.std.proofs.lemmas.List.Sums.{count_by_more_no, count_by_more_yes}
use Rattle.token_kind.specs.Flush.{are_rising, piece_at}
use Rattle.file_bytes.specs.Bytes.{block_at}
use Rattle.delayed_write.specs.Delayed.{pieces_below, with_piece}
use Rattle.delayed_write.specs.Marks.{is_marked, marked_count}
use Rattle.delayed_write.proofs.ByteLemmas.{length-resized}

-- the piece of an index, where one more piece stands behind
pub piece_of_more : (pieces : List (ℕ × List ℕ)) (n index : ℕ) (block : List ℕ) → piece_at pieces index ≡ None → nat_eq n index ≡ true → piece_at (pieces ++ (n, block) ∷ []) index ≡ Some block
piece_of_more [] n index block h e = cond-true (nat_eq n index) (Some block) None e
piece_of_more (p ∷ ps) n index block h e =
    elim (cases_Bool (nat_eq p.0 index)) as (λ _. piece_at ((p ∷ ps) ++ (n, block) ∷ []) index ≡ Some block) [
      | inl set ↦ (let some = cond-true (nat_eq p.0 index) (Some p.1) (piece_at ps index) set in cc)
      | inr unset ↦ cond-false (nat_eq p.0 index) (Some p.1) (piece_at (ps ++ (n, block) ∷ []) index) unset
          ∙ piece_of_more ps n index block (sym (cond-false (nat_eq p.0 index) (Some p.1) (piece_at ps index) unset) ∙ h) e
    ]

pub piece_of_other : (pieces : List (ℕ × List ℕ)) (n index : ℕ) (block : List ℕ) → nat_eq n index ≡ false → piece_at (pieces ++ (n, block) ∷ []) index ≡ piece_at pieces index
piece_of_other [] n index block e = cond-false (nat_eq n index) (Some block) None e
piece_of_other (p ∷ ps) n index block e = ap (λ (rest : Option (List ℕ)). cond (nat_eq p.0 index) (Some p.1) rest) (piece_of_other ps n index block e)

-- a block that isn't marked, or stands higher, has no piece
pub no_piece : (contents : List ℕ) (marks : List Bool) (n index : ℕ) → (is_marked marks index ≡ false) ⊎ (n ≤ index) → piece_at (pieces_below contents marks n) index ≡ None
unfolding pieces_below
no_piece contents marks zero index h = refl
no_piece contents marks (suc n) index h =
    let before : piece_at (pieces_below contents marks n) index ≡ None
    = no_piece contents marks n index (elim h as (λ _. (is_marked marks index ≡ false) ⊎ (n ≤ index)) [ inl unset ↦ inl unset | inr above ↦ inr (omega arith) ]) in
    elim (cases_Bool (is_marked marks n)) as (λ _. piece_at (pieces_below contents marks (suc n)) index ≡ None) [
      | inl set ↦
          (let other : nat_eq n index ≡ false = elim h as (λ _. nat_eq n index ≡ false) [
            | inl unset ↦ ne_eqb n index (λ e. true≢false (sym set ∙ ap (λ (k : ℕ). is_marked marks k) e ∙ unset))
            | inr above ↦ ne_eqb n index (λ e. omega arith)
          ] in
          ap (λ (ps : List (ℕ × List ℕ)). piece_at ps index) (cond-true (is_marked marks n) (pieces_below contents marks n ++ (n, block_at contents n) ∷ []) (pieces_below contents marks n) set)
          ∙ piece_of_other (pieces_below contents marks n) n index (block_at contents n) other ∙ before)
      | inr unset ↦
          ap (λ (ps : List (ℕ × List ℕ)). piece_at ps index) (cond-false (is_marked marks n) (pieces_below contents marks n ++ (n, block_at contents n) ∷ []) (pieces_below contents marks n) unset)
          ∙ before
    ]

-- a marked block has its piece
pub some_piece : (contents : List ℕ) (marks : List Bool) (n index : ℕ) → is_marked marks index ≡ true → index < n → piece_at (pieces_below contents marks n) index ≡ Some (block_at contents index)
unfolding pieces_below
some_piece contents marks zero index set below = absurd (omega arith)
some_piece contents marks (suc n) index set below =
    elim (cases_eq n index) as (λ _. piece_at (pieces_below contents marks (suc n)) index ≡ Some (block_at contents index)) [
      | inl e ↦
          ap (λ (ps : List (ℕ × List ℕ)). piece_at ps index) (cond-true (is_marked marks n) (pieces_below contents marks n ++ (n, block_at contents n) ∷ []) (pieces_below contents marks n) (ap (λ (k : ℕ). is_marked marks k) e ∙ set))
          ∙ piece_of_more (pieces_below contents marks n) n index (block_at contents n) (no_piece contents marks n index (inr (omega arith))) (eq-eqb n index e)
          ∙ ap (λ (k : ℕ). Some (block_at contents k)) e
      | inr other ↦
          (let before : piece_at (pieces_below contents marks n) index ≡ Some (block_at contents index)
          = some_piece contents marks n index set (omega arith) in
          elim (cases_Bool (is_marked marks n)) as (λ _. piece_at (pieces_below contents marks (suc n)) index ≡ Some (block_at contents index)) [
            | inl marked ↦
                ap (λ (ps : List (ℕ × List ℕ)). piece_at ps index) (cond-true (is_marked marks n) (pieces_below contents marks n ++ (n, block_at contents n) ∷ []) (pieces_below contents marks n) marked)
                ∙ piece_of_other (pieces_below contents marks n) n index (block_at contents n) (ne_eqb n index other) ∙ before
            | inr unset ↦
                ap (λ (ps : List (ℕ × List ℕ)). piece_at ps index) (cond-false (is_marked marks n) (pieces_below contents marks n ++ (n, block_at contents n) ∷ []) (pieces_below contents marks n) unset)
                ∙ before
          ])
    ]

-- there are as many pieces as marks
pub piece_count : (contents : List ℕ) (marks : List Bool) (n : ℕ) → n ≤ length marks → length (pieces_below contents marks n) ≡ marked_count (take n marks)
unfolding pieces_below
piece_count contents marks zero h = refl
piece_count contents marks (suc n) h =
    let before : length (pieces_below contents marks n) ≡ marked_count (take n marks) = piece_count contents marks n (omega arith) in
    let one_more : marked_count (take (suc n) marks) ≡ marked_count (take (n + 1) marks) = ap (λ (k : ℕ). marked_count (take k marks)) (let e : suc n ≡ n + 1 = omega arith in e) in
    elim (cases_Bool (is_marked marks n)) as (λ _. length (pieces_below contents marks (suc n)) ≡ marked_count (take (suc n) marks)) [
      | inl set ↦
          ap (λ (ps : List (ℕ × List ℕ)). length ps) (cond-true (is_marked marks n) (pieces_below contents marks n ++ (n, block_at contents n) ∷ []) (pieces_below contents marks n) set)
          ∙ length_push (pieces_below contents marks n) (n, block_at contents n) ∙ ap (λ (k : ℕ). k + 1) before
          ∙ sym (count_by_more_yes (λ (mark : Bool). mark) marks n false (omega arith) set) ∙ sym one_more
      | inr unset ↦
          ap (λ (ps : List (ℕ × List ℕ)). length ps) (cond-false (is_marked marks n) (pieces_below contents marks n ++ (n, block_at contents n) ∷ []) (pieces_below contents marks n) unset)
          ∙ before ∙ sym (count_by_more_no (λ (mark : Bool). mark) marks n false (omega arith) unset) ∙ sym one_more
    ]

-- each piece is a whole block
pub pieces_whole : (contents : List ℕ) (marks : List Bool) (n : ℕ) → All (λ piece. length piece.1 ≡ 4096) (pieces_below contents marks n)
unfolding pieces_below
pieces_whole contents marks zero = All-nil (λ (piece : ℕ × List ℕ). length piece.1 ≡ 4096)
pieces_whole contents marks (suc n) =
    let P : ℕ × List ℕ → Type 0 = λ piece. length piece.1 ≡ 4096 in
    let before : All P (pieces_below contents marks n) = pieces_whole contents marks n in
    elim (is_marked marks n) as (λ b. All P (cond b (pieces_below contents marks n ++ (n, block_at contents n) ∷ []) (pieces_below contents marks n))) [
      | true ↦ All-push P (pieces_below contents marks n) (n, block_at contents n) before (length-resized (drop (n * 4096) contents) 4096)
      | false ↦ before
    ]

-- rising pieces may be followed by one that stands higher
pub rising_push : (least end n : ℕ) (pieces : List (ℕ × List ℕ)) (block : List ℕ) → are_rising least n pieces ≡ true → least ≤ n → n < end
    → are_rising least end (pieces ++ (n, block) ∷ []) ≡ true
rising_push least end n [] block h low high = and_from _ true (and_from (nat_le least n) (nat_lt n end) (le-leb least n low) (lt-ltb n end high)) refl
rising_push least end n (p ∷ ps) block h low high =
    let parts = and_parts (nat_le least p.0 && nat_lt p.0 n) (are_rising (p.0 + 1) n ps) h in
    let order = and_parts (nat_le least p.0) (nat_lt p.0 n) parts.0 in
    let below : p.0 < n = ltb-true p.0 n order.1 in
    and_from _ _ (and_from (nat_le least p.0) (nat_lt p.0 end) order.0 (lt-ltb p.0 end (omega arith)))
    (rising_push (p.0 + 1) end n ps block parts.1 (omega arith) high)

-- pieces that rise below one end rise below a higher one
pub rising_more : (least n end : ℕ) (pieces : List (ℕ × List ℕ)) → are_rising least n pieces ≡ true → n ≤ end → are_rising least end pieces ≡ true
rising_more least n end [] h low = refl
rising_more least n end (p ∷ ps) h low =
    let parts = and_parts (nat_le least p.0 && nat_lt p.0 n) (are_rising (p.0 + 1) n ps) h in
    let order = and_parts (nat_le least p.0) (nat_lt p.0 n) parts.0 in
    let below : p.0 < n = ltb-true p.0 n order.1 in
    and_from _ _ (and_from (nat_le least p.0) (nat_lt p.0 end) order.0 (lt-ltb p.0 end (omega arith)))
    (rising_more (p.0 + 1) n end ps parts.1 low)

-- the pieces of a file rise
pub pieces_rise : (contents : List ℕ) (marks : List Bool) (n : ℕ) → are_rising 0 n (pieces_below contents marks n) ≡ true
unfolding pieces_below
pieces_rise contents marks zero = refl
pieces_rise contents marks (suc n) =
    let before : are_rising 0 n (pieces_below contents marks n) ≡ true = pieces_rise contents marks n in
    elim (is_marked marks n) as (λ b. are_rising 0 (suc n) (cond b (pieces_below contents marks n ++ (n, block_at contents n) ∷ []) (pieces_below contents marks n)) ≡ true) [
      | true ↦ rising_push 0 (suc n) n (pieces_below contents marks n) (block_at contents n) before (omega arith) (omega arith)
      | false ↦ rising_more 0 n (suc n) (pieces_below contents marks n) before (omega arith)
    ]

-- where no higher block is marked, there are no more pieces
pub pieces_stop : (contents : List ℕ) (marks : List Bool) (n k : ℕ) → ((index : ℕ) → n ≤ index → is_marked marks index ≡ false) → pieces_below contents marks (k + n) ≡ pieces_below contents marks n
unfolding pieces_below
pieces_stop contents marks n zero h = ap (λ (m : ℕ). pieces_below contents marks m) (omega arith)
pieces_stop contents marks n (suc k) h =
    ap (λ (m : ℕ). pieces_below contents marks m) (let e : suc k + n ≡ suc (k + n) = omega arith in e)
    ∙ cond-false (is_marked marks (k + n)) (pieces_below contents marks (k + n) ++ (k + n, block_at contents (k + n)) ∷ []) (pieces_below contents marks (k + n)) (h (k + n) (omega arith))
    ∙ pieces_stop contents marks n k h

-- one block further
pub pieces_more : (contents : List ℕ) (marks : List Bool) (n : ℕ) (old new : List (ℕ × List ℕ)) → old ≡ pieces_below contents marks n
    → new ≡ with_piece old contents marks n → new ≡ pieces_below contents marks (n + 1)
unfolding pieces_below
pieces_more contents marks n old new before put =
    put ∙ ap (λ (ps : List (ℕ × List ℕ)). with_piece ps contents marks n) before
    ∙ ap (λ (m : ℕ). pieces_below contents marks m) (let e : suc n ≡ n + 1 = omega arith in e)
