-- The same bytes to sectors one after the other.
use Rattle.std.proofs.Common.{◌≡◌, ◌≤◌, ◌+◌, ◌-◌, ◌++◌, ℕ, zero, suc, List, [], ◌∷◌, length, replicate, refl, ap, ◌∙◌, arith, get_or, length-append}
use Rattle.cal_base.specs.Limits.{file_blocks}
use Rattle.inode.specs.Inode.{IsInode}
use Rattle.inode.proofs.InodeLemmas.{small_zeros}
use Rattle.volume.specs.Format.{blank, format_writes, head_sector, inode_writes, root_inode, to_each}

-- the rest behind the first ones
pub to_each_more : (n i first : ℕ) (b : List ℕ) → to_each i first b ++ to_each n (first + i) b ≡ to_each (i + n) first b
unfolding to_each
to_each_more n zero first b =
    ap (λ (k : ℕ). to_each n k b) (let e : first + 0 ≡ first = omega arith in e) ∙ ap (λ (k : ℕ). to_each k first b) (let e : n ≡ 0 + n = omega arith in e)
to_each_more n (suc i) first b =
    ap (λ (ws : List (ℕ × List ℕ)). (first, b) ∷ ws)
    (ap (λ (k : ℕ). to_each i (suc first) b ++ to_each n k b) (let e : first + suc i ≡ suc first + i = omega arith in e) ∙ to_each_more n i (suc first) b)
    ∙ ap (λ (k : ℕ). to_each k first b) (let e : suc (i + n) ≡ suc i + n = omega arith in e)

-- one more
pub to_each_next : (i first : ℕ) (b : List ℕ) → to_each i first b ++ (first + i, b) ∷ [] ≡ to_each (i + 1) first b
unfolding to_each
to_each_next i first b = to_each_more 1 i first b

-- all, from any of them on
pub to_each_split : (n i first : ℕ) (b : List ℕ) → i ≤ n → to_each i first b ++ to_each (n - i) (first + i) b ≡ to_each n first b
to_each_split n i first b within = to_each_more (n - i) i first b ∙ ap (λ (k : ℕ). to_each k first b) (let e : i + (n - i) ≡ n = omega arith in e)

pub length-to_each : (n first : ℕ) (b : List ℕ) → length (to_each n first b) ≡ n
unfolding to_each
length-to_each zero first b = refl
length-to_each (suc n) first b = let h = length-to_each n (suc first) b in omega arith

pub length-format_writes : (clients : ℕ) → length (format_writes clients) ≡ 531
length-format_writes clients =
    let a = length-append ((1, blank) ∷ to_each 17 19 blank) (inode_writes ++ (0, head_sector clients) ∷ []) in
    let b = length-append (to_each 511 37 blank) ((0, head_sector clients) ∷ []) in
    omega (arith, a, b, length-to_each 17 19 blank, length-to_each 511 37 blank)

-- the root is an inode
pub root_is : IsInode root_inode
root_is = record {
  count = refl;
  pointers = λ place. (let e : get_or (replicate {A = ℕ} 64 0) place 0 ≡ 0 = small_zeros file_blocks place in omega arith);
  allowed = record {
    named = refl;
    whole = refl;
    size = omega arith;
    blocks = λ place below. absurd (omega arith);
    holes = λ place from. small_zeros file_blocks place;
  };
}
