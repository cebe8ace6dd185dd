-- What the sectors of a disk are after a format.
use Rattle.std.proofs.Common.{◌≡◌, ◌≢◌, ◌<◌, ◌≤◌, ◌+◌, ◌++◌, ◌⊎◌, ℕ, zero, suc, List, [], ◌∷◌, length, drop, replicate, refl, sym, ap, ◌∙◌, inl, inr, arith, get_or}
use Rattle.std.specs.List.{slice_set}
use Rattle.std.proofs.Math.ListN.{length-set}
use Rattle.cal_base.specs.Limits as limits
use Rattle.shared_disk.specs.Sectors.{written}
use Rattle.shared_disk.proofs.Changes.{written-append}
use Rattle.journal.specs.Layout.{outside, sector}
use Rattle.journal.proofs.Sectors.{length_written, sector_other, sector_same}
use Rattle.volume.specs.Format.{blank, format_writes, free_writes, head_sector, inode_writes, root_sector, to_each}

-- a sector before or behind those written is as it was
pub each_apart : (n first j : ℕ) (b : List ℕ) (x : List (List ℕ)) → (j < first) ⊎ (first + n ≤ j) → sector (written x (to_each n first b)) j ≡ sector x j
unfolding to_each
each_apart zero first j b x h = refl
each_apart (suc n) first j b x h =
    let apart : j ≢ first = λ e. elim h [ inl below ↦ omega arith | inr behind ↦ omega arith ] in
    each_apart n (suc first) j b (slice_set x first b) (elim h [ inl below ↦ inl (omega arith) | inr behind ↦ inr (omega arith) ])
    ∙ sector_other x first j b apart

-- a sector among those written has the bytes
pub each_within : (n first i : ℕ) (b : List ℕ) (x : List (List ℕ)) → i < n → first + n ≤ length x → sector (written x (to_each n first b)) (first + i) ≡ b
unfolding to_each
each_within zero first i b x h room = absurd (omega arith)
each_within (suc n) first zero b x h room =
    ap (sector (written (slice_set x first b) (to_each n (suc first) b))) (let e : first + 0 ≡ first = omega arith in e)
    ∙ each_apart n (suc first) first b (slice_set x first b) (inl (omega arith))
    ∙ sector_same x first b (omega arith)
each_within (suc n) first (suc i) b x h room =
    ap (sector (written (slice_set x first b) (to_each n (suc first) b))) (let e : first + suc i ≡ suc first + i = omega arith in e)
    ∙ each_within n (suc first) i b (slice_set x first b) (omega arith) (let l = length-set x first b in omega arith)

-- the sectors step by step
abbrev pub with_gate : List (List ℕ) → List (List ℕ)
with_gate x = slice_set x 1 blank

abbrev pub with_slots : List (List ℕ) → List (List ℕ)
with_slots x = written (with_gate x) (to_each 17 19 blank)

abbrev pub with_root : List (List ℕ) → List (List ℕ)
with_root x = slice_set (with_slots x) 36 root_sector

abbrev pub with_inodes : List (List ℕ) → List (List ℕ)
with_inodes x = written (with_root x) (to_each 511 37 blank)

pub by_steps : (x : List (List ℕ)) (clients : ℕ) → written x (format_writes clients) ≡ slice_set (with_inodes x) 0 (head_sector clients)
by_steps x clients =
    let head = (0, head_sector clients) ∷ [] in
    sym (written-append x free_writes (inode_writes ++ head))
    ∙ sym (written-append (written x free_writes) inode_writes head)

-- the sectors of a formatted disk
pub record IsFormatted (clients : ℕ) (x : List (List ℕ)) : Type 0 where
  pub head : sector x 0 ≡ head_sector clients
  pub gate : sector x 1 ≡ blank
  pub free : (i : ℕ) → i < 17 → sector x (19 + i) ≡ blank
  pub root : sector x 36 ≡ root_sector
  pub inodes : (i : ℕ) → i < 511 → sector x (37 + i) ≡ blank

slots_long : (x : List (List ℕ)) → length (with_slots x) ≡ length x
slots_long x = length_written (to_each 17 19 blank) (with_gate x) ∙ length-set x 1 blank

root_long : (x : List (List ℕ)) → length (with_root x) ≡ length x
root_long x = length-set (with_slots x) 36 root_sector ∙ slots_long x

inodes_long : (x : List (List ℕ)) → length (with_inodes x) ≡ length x
inodes_long x = length_written (to_each 511 37 blank) (with_root x) ∙ root_long x

before_head : (x : List (List ℕ)) (head : List ℕ) (j : ℕ) → 1 ≤ j → j < 37 → j ≢ 36 → sector (slice_set (with_inodes x) 0 head) j ≡ sector (with_slots x) j
before_head x head j some low apart =
    sector_other (with_inodes x) 0 j head (λ e. omega arith)
    ∙ each_apart 511 37 j blank (with_root x) (inl low)
    ∙ sector_other (with_slots x) 36 j root_sector apart

formatted : (x : List (List ℕ)) (clients : ℕ) → length x ≡ limits.sectors → IsFormatted clients (slice_set (with_inodes x) 0 (head_sector clients))
formatted x clients long = record {
  head = sector_same (with_inodes x) 0 (head_sector clients) (let l = inodes_long x in omega arith);
  gate = before_head x (head_sector clients) 1 (omega arith) (omega arith) (λ e. omega arith)
      ∙ each_apart 17 19 1 blank (with_gate x) (inl (omega arith))
      ∙ sector_same x 1 blank (omega arith);
  free = λ i below. before_head x (head_sector clients) (19 + i) (omega arith) (omega arith) (λ e. omega arith)
      ∙ each_within 17 19 i blank (with_gate x) below (let l = length-set x 1 blank in omega arith);
  root = sector_other (with_inodes x) 0 36 (head_sector clients) (λ e. omega arith)
      ∙ each_apart 511 37 36 blank (with_root x) (inl (omega arith))
      ∙ sector_same (with_slots x) 36 root_sector (let l = slots_long x in omega arith);
  inodes = λ i below. sector_other (with_inodes x) 0 (37 + i) (head_sector clients) (λ e. omega arith)
      ∙ each_within 511 37 i blank (with_root x) below (let l = root_long x in omega arith);
}

-- a sector of the volume, with the journal's own blank
behind_at : (n j : ℕ) (xs : List (List ℕ)) → n ≤ j → n ≤ length xs → get_or (replicate {A = List ℕ} n [] ++ drop n xs) j [] ≡ get_or xs j []
behind_at zero j xs far long = refl
behind_at (suc n) j [] far long = absurd (omega arith)
behind_at (suc n) zero (y ∷ ys) far long = absurd (omega arith)
behind_at (suc n) (suc j) (y ∷ ys) far long = behind_at n j ys (omega arith) (omega arith)

outside_at : (x : List (List ℕ)) (j : ℕ) → 19 ≤ j → 19 ≤ length x → sector (outside x) j ≡ sector x j
outside_at [] j far long = absurd (omega arith)
outside_at (a ∷ xs) zero far long = absurd (omega arith)
outside_at (a ∷ xs) (suc j) far long = behind_at 18 j xs (omega arith) (omega arith)

outside_head : (x : List (List ℕ)) → sector (outside x) 0 ≡ sector x 0
outside_head [] = refl
outside_head (a ∷ xs) = refl

-- the sectors of the volume, after a format
pub record IsFresh (clients : ℕ) (x : List (List ℕ)) : Type 0 where
  pub head : sector x 0 ≡ head_sector clients
  pub free : (i : ℕ) → i < 17 → sector x (19 + i) ≡ blank
  pub root : sector x 36 ≡ root_sector
  pub inodes : (i : ℕ) → i < 511 → sector x (37 + i) ≡ blank

fresh_outside : (clients : ℕ) (x : List (List ℕ)) → length x ≡ limits.sectors → IsFormatted clients x → IsFresh clients (outside x)
fresh_outside clients x long f = record {
  head = outside_head x ∙ f.head;
  free = λ i below. outside_at x (19 + i) (omega arith) (omega arith) ∙ f.free i below;
  root = outside_at x 36 (omega arith) (omega arith) ∙ f.root;
  inodes = λ i below. outside_at x (37 + i) (omega arith) (omega arith) ∙ f.inodes i below;
}

pub record Formats (clients : ℕ) (x : List (List ℕ)) : Type 0 where
  pub gate : sector x 1 ≡ blank
  pub fresh : IsFresh clients (outside x)

pub format_gives : (x : List (List ℕ)) (clients : ℕ) → length x ≡ limits.sectors → Formats clients (written x (format_writes clients))
format_gives x clients long =
    let f = formatted x clients long in
    let long_after = length-set (with_inodes x) 0 (head_sector clients) ∙ inodes_long x ∙ long in
    let all : Formats clients (slice_set (with_inodes x) 0 (head_sector clients)) = record { gate = f.gate; fresh = fresh_outside clients _ long_after f } in
    rw (by_steps x clients) all
