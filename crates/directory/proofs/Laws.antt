-- The laws of a directory.
use Rattle.std.proofs.Common.{◌≡◌, ◌+◌, ◌-◌, ◌*◌, ◌<◌, ◌++◌, ℕ, zero, suc, List, [], ◌∷◌, length, take, drop, Option, None, Some, refl, sym, ap, ◌∙◌, arith}
use Rattle.directory.specs.declared.entry.DirEntry.{DirEntry}
use Rattle.directory.specs.Block.{SpellsBlock, entry_at}
use Rattle.directory.specs.Directory.{Continues, IsDirectory, Names, block_slots}
use Rattle.directory.proofs.Loads.{same_block}

take_none : (n : ℕ) → take {A = Option DirEntry} n [] ≡ []
take_none zero = refl
take_none (suc n) = refl

-- so many, and so many behind them
take_sum : (n m : ℕ) (xs : List (Option DirEntry)) → take (n + m) xs ≡ take n xs ++ take m (drop n xs)
take_sum zero m xs = ap (λ (k : ℕ). take k xs) (omega arith)
take_sum (suc n) m [] = take_none (suc n + m) ∙ sym (take_none m)
take_sum (suc n) m (x ∷ xs) = (let moved : suc n + m ≡ suc (n + m) = omega arith in ap (λ (k : ℕ). take k (x ∷ xs)) moved ∙ ap (λ (ys : List (Option DirEntry)). x ∷ ys) (take_sum n m xs))

entry_at-front : (count : ℕ) (xs : List (Option DirEntry)) (place : ℕ) (e : DirEntry) → entry_at (take count xs) place ≡ Some e → entry_at xs place ≡ Some e
entry_at-front zero xs place e at = (let both : None ≡ Some e = at in cc)
entry_at-front (suc count) [] place e at = (let both : None ≡ Some e = at in cc)
entry_at-front (suc count) (x ∷ xs) zero e at = at
entry_at-front (suc count) (x ∷ xs) (suc place) e at = entry_at-front count xs place e at

-- a directory's own block follows those before it
pub block_follows : (slots : List (Option DirEntry)) (block : ℕ) (sector : List ℕ) → IsDirectory slots → 128 * block < length slots
    → SpellsBlock sector (block_slots slots block) → Continues (take (128 * block) slots) sector (take (128 * block + 128) slots)
block_follows slots block sector d within spelled =
    let size : 128 ≡ 128 * block + 128 - 128 * block = omega arith in
    record {
      slots = block_slots slots block;
      spelled = spelled;
      whole = take_sum (128 * block) 128 slots ∙ ap (λ (n : ℕ). take (128 * block) slots ++ take n (drop (128 * block) slots)) size;
      distinct = λ i j a b at_i at_j same. d.distinct i j a b (entry_at-front (128 * block + 128) slots i a at_i) (entry_at-front (128 * block + 128) slots j b at_j) same;
    }

-- a sector continues a directory in one way
pub one_way : (old a b : List (Option DirEntry)) (sector : List ℕ) → Continues old sector a → Continues old sector b → a ≡ b
one_way old a b sector s t = s.whole ∙ ap (λ (xs : List (Option DirEntry)). old ++ xs) (same_block sector s.slots t.slots s.spelled t.spelled) ∙ sym t.whole

-- a name stands for one inode
pub one_ino : (slots : List (Option DirEntry)) (name : List ℕ) (i j : ℕ) → IsDirectory slots → Names slots name i → Names slots name j → i ≡ j
one_ino slots name i j d a b =
    let build : ℕ → DirEntry = λ n. record { name = name; ino = record { 0 = n } } in
    let place : a.place ≡ b.place = d.distinct a.place b.place (build i) (build j) a.there b.there refl in
    let both : Some (build i) ≡ Some (build j) = sym a.there ∙ ap (entry_at slots) place ∙ b.there in
    let same : build i ≡ build j = cc in
    ap (λ (e : DirEntry). e.ino.0) same
