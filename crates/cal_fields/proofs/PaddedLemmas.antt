use Rattle.std.proofs.Common.{◌≡◌, ℕ, ◌+◌, ◌-◌, ◌<◌, ◌≤◌, List, [], ◌∷◌, ◌++◌, length, take, drop, get_or, replicate, refl, sym, ap, ◌∙◌, arith, subst, append_assoc, length-append}
use Rattle.std.proofs.lemmas.Grind.{replicate_next}
use Rattle.std.proofs.Math.Seq.{take-append_seam, drop-append_seam}
use Rattle.std.proofs.lemmas.List.{drop-replicate, drop_at, get_or-replicate, length-drop, length-replicate, length-take-le, replicate-append-replicate, take-append-drop, take_all, take_at, take_more}
use borrow.Rule.Slice.PartMut.{put_mid}
use Rattle.cal_fields.proofs.BigEndianLemmas.{length-big_endian}
use Rattle.cal_fields.specs.Filled.{IsFilled}
use Rattle.cal_fields.specs.Padded.{padded, zeros}

-- there are as many zeros as their count says
pub length-zeros : (count : ℕ) → length (zeros count) ≡ count
unfolding zeros
length-zeros count = length-replicate count 0

-- how many bytes a field has
pub ruleset lengths = (length-append, length-big_endian, length-zeros)

-- there are as many bytes as the size says
pub length-padded : (size : ℕ) (front : List ℕ) → length front ≤ size → length (padded size front) ≡ size
unfolding padded
length-padded size front within = omega (arith, length-append front (zeros (size - length front)), length-zeros (size - length front))

-- the front is what was padded
pub take-padded : (size count : ℕ) (front : List ℕ) → length front ≡ count → take count (padded size front) ≡ front
unfolding padded
take-padded size count front same = take_at front (zeros (size - length front)) count same

-- zeros stand behind the front
pub drop-padded : (size count : ℕ) (front : List ℕ) → length front ≡ count → drop count (padded size front) ≡ zeros (size - count)
unfolding padded
drop-padded size count front same = drop_at front (zeros (size - length front)) count same ∙ ap (λ (n : ℕ). zeros (size - n)) same

-- fronts of one length that are padded to the same bytes are the same
pub padded-cancel : (size : ℕ) (a b : List ℕ) → length a ≡ length b → padded size a ≡ padded size b → a ≡ b
padded-cancel size a b same e =
    sym (take-padded size (length b) a same) ∙ ap (take (length b)) e ∙ take-padded size (length b) b refl

-- zeros may be padded on
pub padded-zeros : (size count : ℕ) (front : List ℕ) → length front + count ≤ size → padded size (front ++ zeros count) ≡ padded size front
unfolding padded zeros
padded-zeros size count front within =
    let shorter : size - length (front ++ replicate count 0) ≡ (size - length front) - count = omega (arith, length-append front (replicate count 0), length-replicate {A = ℕ} count 0) in
    let whole : count + ((size - length front) - count) ≡ size - length front = omega arith in
    let joined : replicate {A = ℕ} count 0 ++ replicate ((size - length front) - count) 0 ≡ replicate (size - length front) 0 =
    replicate-append-replicate count ((size - length front) - count) 0 ∙ ap (λ (n : ℕ). replicate n 0) whole in
    rw (shorter, append_assoc front (replicate count 0) (replicate ((size - length front) - count) 0), joined) refl

-- a piece behind the front of padded bytes makes a longer front
pub put_mid-padded : (size : ℕ) (done piece : List ℕ) (at k : ℕ) → at ≡ length done → k ≡ length piece → at + k ≤ size → put_mid at k (padded size done) piece ≡ padded size (done ++ piece)
unfolding padded zeros
put_mid-padded size done piece at k e f h =
    let tail : replicate {A = ℕ} ((size - length done) - length piece) 0 ≡ replicate {A = ℕ} (size - length (done ++ piece)) 0 = ap (λ (n : ℕ). replicate {A = ℕ} n 0) (omega (arith, length-append done piece)) in
    subst (λ (x : ℕ). put_mid x k (padded size done) piece ≡ padded size (done ++ piece)) (sym e)
    (subst (λ (x : ℕ). put_mid (length done) x (padded size done) piece ≡ padded size (done ++ piece)) (sym f)
    (rw (take-append_seam, drop-append_seam, drop-replicate, tail) (sym (append_assoc done piece _))))

-- each of some zeros is zero
pub zero_at : (count place : ℕ) (bytes : List ℕ) → bytes ≡ zeros count → place < count → get_or bytes place 0 ≡ 0
unfolding zeros
zero_at count place bytes e within = ap (λ (xs : List ℕ). get_or xs place 0) e ∙ get_or-replicate count place 0 0 within

-- one zero more
pub zeros_more : (place : ℕ) (bytes : List ℕ) → place < length bytes → take place bytes ≡ zeros place → get_or bytes place 0 ≡ 0
    → take (place + 1) bytes ≡ zeros (place + 1)
unfolding zeros
zeros_more place bytes within before zero =
    let e = take_more bytes place 0 within in
    let f : replicate {A = ℕ} (place + 1) 0 ≡ replicate place 0 ++ 0 ∷ [] = replicate_next place 0 in
    cc

-- where zeros stand behind the first bytes, all are those padded
pub padded_from-zeros : (count : ℕ) (bytes rest : List ℕ) → count ≤ length bytes → rest ≡ drop count bytes → rest ≡ zeros (length rest)
    → bytes ≡ padded (length bytes) (take count bytes)
unfolding padded
padded_from-zeros count bytes rest within e zero =
    let size : length rest ≡ length bytes - length (take count bytes) = ap length e ∙ omega (arith, length-drop count bytes, length-take-le count bytes within) in
    let behind : drop count bytes ≡ zeros (length bytes - length (take count bytes)) = sym e ∙ zero ∙ ap zeros size in
    sym (take-append-drop count bytes) ∙ ap (λ (xs : List ℕ). take count bytes ++ xs) behind

-- behind a front of that length stand zeros
pub zeros_from-padded : (count size : ℕ) (bytes rest front : List ℕ) → rest ≡ drop count bytes → length front ≡ count → bytes ≡ padded size front
    → rest ≡ zeros (length rest)
zeros_from-padded count size bytes rest front e same padding =
    let all : rest ≡ zeros (size - count) = e ∙ ap (drop count) padding ∙ drop-padded size count front same in
    all ∙ ap zeros (sym (ap length all ∙ length-zeros (size - count)))

-- more bytes of a sector are filled
pub filled_more : (old new piece : List ℕ) (filled : ℕ) → IsFilled old filled → length old ≡ 4096 → filled + length piece ≤ 4096
    → new ≡ padded 4096 (take filled old ++ piece)
    → (take (filled + length piece) new ≡ take filled old ++ piece) × IsFilled new (filled + length piece)
filled_more old new piece filled before size fits e =
    let front = take filled old ++ piece in
    let long : length front ≡ filled + length piece = omega (arith, length-append (take filled old) piece, length-take-le filled old (omega arith)) in
    let taken : take (filled + length piece) new ≡ front = ap (take (filled + length piece)) e ∙ take-padded 4096 (filled + length piece) front long in
    (taken, record { within = fits; behind = e ∙ ap (padded 4096) (sym taken) })
