use Rattle.std.proofs.Common.{◌^◌, ◌≡◌, ◌+◌, ◌-◌, ◌<◌, ◌≤◌, ◌/◌, inl, inr, ℕ, Bool, true, false, nat_lt, List, Option, length, get_or, refl, sym, ap, subst, ◌∙◌, arith, min}
use Rattle.std.proofs.lemmas.Bool.{cases_Bool, cases_lt, cond-true, cond-false, false_from_ne_true, lt-ltb, le-ltb, true≢false}
use Rattle.std.proofs.lemmas.List.{get_or_past, take_all}
use Rattle.cal_base.specs.declared.identity.Ino.{Ino}
use Rattle.token_kind.specs.declared.hold.Hold.{Hold}
use Rattle.cal_base.specs.Blocks.{block_count}
use Rattle.token_kind.specs.Flush.{IsFlush, are_rising, byte_by, flushed_byte, kept_byte}
use Rattle.token_kind.specs.Hold.{hold_number}
use Rattle.file_bytes.specs.Bytes.{resized}
use Rattle.delayed_write.specs.Marks.{is_marked, marked_by_shrink, marked_by_truncate, marked_by_write, marked_count}
use Rattle.delayed_write.specs.Delayed.{Delayed, IsDelayed, Turns, after_truncate, after_write, clean, flush_of, pieces_below, pieces_of}
use Rattle.delayed_write.proofs.MarkLemmas.{shrink_below, truncate_keeps, truncate_shrinks, unmarked, unmarked_by_shrink, unmarked_by_write}
use Rattle.delayed_write.proofs.ByteLemmas.{byte_in_block, length-resized, resized_below, written_elsewhere}
use Rattle.delayed_write.proofs.PieceLemmas.{no_piece, piece_count, pieces_rise, pieces_stop, pieces_whole, some_piece}

-- each byte of an unmarked block is the kept one, also past the end, where both read as zeros
pub record Keeps (kept : List ℕ) (d : Delayed) : Type 0 where
  pub byte : (i : ℕ) → is_marked d.marks (i / 4096) ≡ false → get_or d.contents i 0 ≡ kept_byte kept d.cut i

-- byte i of the flush, in a marked block and in another
flushed_marked : (kept : List ℕ) (d : Delayed) → length d.marks ≡ 64 → (i : ℕ) → is_marked d.marks (i / 4096) ≡ true → flushed_byte kept d.cut (pieces_of d) i ≡ get_or d.contents i 0
flushed_marked kept d size i set =
    let index_within : i / 4096 < 64 = elim (cases_lt (i / 4096) 64) as (λ _. i / 4096 < 64) [
      | inl below ↦ below
      | inr above ↦ absurd (true≢false (sym set ∙ get_or_past d.marks (i / 4096) false (omega arith)))
    ] in
    ap (λ (piece : Option (List ℕ)). byte_by piece kept d.cut i) (some_piece d.contents d.marks 64 (i / 4096) set index_within)
    ∙ byte_in_block d.contents i

flushed_unmarked : (kept : List ℕ) (d : Delayed) (i : ℕ) → is_marked d.marks (i / 4096) ≡ false → flushed_byte kept d.cut (pieces_of d) i ≡ kept_byte kept d.cut i
flushed_unmarked kept d i unset = ap (λ (piece : Option (List ℕ)). byte_by piece kept d.cut i) (no_piece d.contents d.marks 64 (i / 4096) (inl unset))

pub keeps_from : (kept : List ℕ) (d : Delayed) → Turns kept d → Keeps kept d
keeps_from kept d t = record {
  byte = λ i unset. elim (cases_lt i (length d.contents)) as (λ _. get_or d.contents i 0 ≡ kept_byte kept d.cut i) [
    | inl within ↦ t.flushed.bytes i within ∙ flushed_unmarked kept d i unset
    | inr past ↦ get_or_past d.contents i 0 past ∙ sym (t.flushed.past i past) ∙ flushed_unmarked kept d i unset
  ];
}

pub turns_from : (kept : List ℕ) (d : Delayed) → length d.marks ≡ 64 → Keeps kept d → Turns kept d
turns_from kept d size k =
    let all : (i : ℕ) → flushed_byte kept d.cut (pieces_of d) i ≡ get_or d.contents i 0 = λ i.
    elim (cases_Bool (is_marked d.marks (i / 4096))) as (λ _. flushed_byte kept d.cut (pieces_of d) i ≡ get_or d.contents i 0) [
      | inl set ↦ flushed_marked kept d size i set
      | inr unset ↦ flushed_unmarked kept d i unset ∙ sym (k.byte i unset)
    ] in
    record {
      flushed = record {
        sized = refl;
        bytes = λ i within. sym (all i);
        past = λ i past. all i ∙ get_or_past d.contents i 0 past;
      };
    }

-- a write keeps it
pub write_turns : (kept : List ℕ) (d e : Delayed) (offset : ℕ) (bytes : List ℕ) → length d.marks ≡ 64 → length e.marks ≡ 64 → offset + length bytes ≤ 262144
    → e ≡ after_write d offset bytes → Turns kept d → Turns kept e
write_turns kept d e offset bytes size size_new end new t =
    let k = keeps_from kept d t in
    turns_from kept e size_new (record {
      byte = λ i unset.
          (let marks : is_marked (marked_by_write d.marks offset (length bytes)) (i / 4096) ≡ false = sym (ap (λ (f : Delayed). is_marked f.marks (i / 4096)) new) ∙ unset in
          let apart = unmarked_by_write d.marks offset (length bytes) i size end marks in
          ap (λ (f : Delayed). get_or f.contents i 0) new ∙ written_elsewhere d.contents offset bytes i apart.1 ∙ k.byte i apart.0
          ∙ ap (λ (f : Delayed). kept_byte kept f.cut i) (sym new));
    })

-- what is kept of a byte, by where the cut stands
kept_low : (kept : List ℕ) (cut i : ℕ) → i / 4096 < block_count cut → kept_byte kept cut i ≡ get_or kept i 0
kept_low kept cut i low = cond-true (nat_lt (i / 4096) (block_count cut)) (get_or kept i 0) 0 (lt-ltb (i / 4096) (block_count cut) low)

kept_high : (kept : List ℕ) (cut i : ℕ) → block_count cut ≤ i / 4096 → kept_byte kept cut i ≡ 0
kept_high kept cut i high = cond-false (nat_lt (i / 4096) (block_count cut)) (get_or kept i 0) 0 (le-ltb (i / 4096) (block_count cut) high)

-- a byte before the new end of a file that shrinks
kept_before : (kept : List ℕ) (cut size i : ℕ) → i < size → kept_byte kept cut i ≡ kept_byte kept (min cut size) i
kept_before kept cut size i before =
    elim (cases_lt (i / 4096) (block_count cut)) as (λ _. kept_byte kept cut i ≡ kept_byte kept (min cut size) i) [
      | inl low ↦ kept_low kept cut i low ∙ sym (kept_low kept (min cut size) i (omega arith))
      | inr high ↦ kept_high kept cut i high ∙ sym (kept_high kept (min cut size) i (omega arith))
    ]

-- a byte past the new end
resized_past : (contents : List ℕ) (size i : ℕ) → size ≤ i → get_or (resized contents size) i 0 ≡ 0
resized_past contents size i past = (let n = length-resized contents size in get_or_past (resized contents size) i 0 (omega arith))

shrink_keeps : (kept : List ℕ) (d : Delayed) (size : ℕ) → length d.marks ≡ 64 → size ≤ 262144 → size < length d.contents → Keeps kept d → Keeps kept (after_truncate d size)
shrink_keeps kept d size long within less k = record {
  byte = λ i unset.
      (let there : is_marked (marked_by_shrink d.marks size) (i / 4096) ≡ false = ap (λ (ms : List Bool). is_marked ms (i / 4096)) (sym (truncate_shrinks d.marks (length d.contents) size less)) ∙ unset in
      elim (unmarked_by_shrink d.marks size i long within there) as (λ _. get_or (resized d.contents size) i 0 ≡ kept_byte kept (min d.cut size) i) [
        | inl before ↦ resized_below d.contents size i before.0 ∙ k.byte i before.1 ∙ kept_before kept d.cut size i before.0
        | inr past ↦ resized_past d.contents size i (omega arith) ∙ sym (kept_high kept (min d.cut size) i (omega arith))
      ]);
}

grow_keeps : (kept : List ℕ) (d : Delayed) (size : ℕ) → d.cut ≤ length d.contents → length d.contents ≤ size → Keeps kept d → Keeps kept (after_truncate d size)
grow_keeps kept d size cut more k = record {
  byte = λ i unset.
      (let there : is_marked d.marks (i / 4096) ≡ false = ap (λ (ms : List Bool). is_marked ms (i / 4096)) (sym (truncate_keeps d.marks (length d.contents) size more)) ∙ unset in
      let same_cut : d.cut ≡ min d.cut size = omega arith in
      let same_byte : get_or (resized d.contents size) i 0 ≡ get_or d.contents i 0 =
      elim (cases_lt i size) as (λ _. get_or (resized d.contents size) i 0 ≡ get_or d.contents i 0) [
        | inl below ↦ resized_below d.contents size i below
        | inr past ↦ resized_past d.contents size i past ∙ sym (get_or_past d.contents i 0 (omega arith))
      ] in
      same_byte ∙ k.byte i there ∙ ap (λ (n : ℕ). kept_byte kept n i) same_cut);
}

-- a truncate keeps it
pub truncate_turns : (kept : List ℕ) (d e : Delayed) (size : ℕ) → IsDelayed d → length e.marks ≡ 64 → size ≤ 262144 → e ≡ after_truncate d size → Turns kept d → Turns kept e
truncate_turns kept d e size valid long within new t =
    let k = keeps_from kept d t in
    let after : Keeps kept (after_truncate d size) = elim (cases_lt size (length d.contents)) as (λ _. Keeps kept (after_truncate d size)) [
      | inl less ↦ shrink_keeps kept d size valid.marks within less k
      | inr more ↦ grow_keeps kept d size valid.cut more k
    ] in
    turns_from kept e long (subst (λ (f : Delayed). Keeps kept f) (sym new) after)

-- a truncated file is one
pub truncate_is : (d e : Delayed) (size : ℕ) → IsDelayed d → length e.marks ≡ 64 → size ≤ 262144 → marked_count e.marks ≤ 16 → e ≡ after_truncate d size → IsDelayed e
truncate_is d e size valid long within few new =
    let sized : length e.contents ≡ size = ap (λ (f : Delayed). length f.contents) new ∙ length-resized d.contents size in
    let cut : e.cut ≡ min d.cut size = ap (λ (f : Delayed). f.cut) new in
    record {
      size = omega arith;
      marks = long;
      cut = omega arith;
      below = λ index set.
          (let there : is_marked (marked_by_truncate d.marks (length d.contents) size) index ≡ true = ap (λ (f : Delayed). is_marked f.marks index) (sym new) ∙ set in
          elim (cases_lt size (length d.contents)) as (λ _. index < block_count (length e.contents)) [
            | inl less ↦
                (let low : index < block_count size = shrink_below d.marks size index valid.marks within (ap (λ (ms : List Bool). is_marked ms index) (sym (truncate_shrinks d.marks (length d.contents) size less)) ∙ there) in
                omega arith)
            | inr more ↦
                (let low : index < block_count (length d.contents) = valid.below index (ap (λ (ms : List Bool). is_marked ms index) (sym (truncate_keeps d.marks (length d.contents) size more)) ∙ there) in
                omega arith)
          ]);
      few = few;
      idle = λ idle. absurd (true≢false (sym (ap (λ (f : Delayed). f.unflushed) new) ∙ idle));
    }

-- a file of which nothing is unflushed is one, and what is kept of it are its contents
pub clean_is : (d : Delayed) → length d.contents ≤ 262144 → d ≡ clean d.contents → IsDelayed d
clean_is d within same =
    let long : length d.marks ≡ 64 = ap (λ (f : Delayed). length f.marks) same in
    let none : marked_count d.marks ≡ 0 = ap (λ (f : Delayed). marked_count f.marks) same in
    let cut : d.cut ≡ length d.contents = ap (λ (f : Delayed). f.cut) same in
    record {
      size = within;
      marks = long;
      cut = omega arith;
      below = λ index set. absurd (true≢false (sym set ∙ ap (λ (f : Delayed). is_marked f.marks index) same ∙ unmarked 64 index));
      few = omega arith;
      idle = λ _. same;
    }

pub clean_turns : (kept : List ℕ) (d : Delayed) → d ≡ clean kept → Turns kept d
clean_turns kept d same =
    turns_from kept d (ap (λ (f : Delayed). length f.marks) same) (record {
      byte = λ i unset.
          (let cut : d.cut ≡ length kept = ap (λ (f : Delayed). f.cut) same in
          ap (λ (f : Delayed). get_or f.contents i 0) same
          ∙ elim (cases_lt (i / 4096) (block_count d.cut)) as (λ _. get_or kept i 0 ≡ kept_byte kept d.cut i) [
            | inl low ↦ sym (kept_low kept d.cut i low)
            | inr high ↦ get_or_past kept i 0 (omega arith) ∙ sym (kept_high kept d.cut i high)
          ]);
    })

-- the flush of a file keeps the rules of flushes
pub flush_is : (d : Delayed) (ino : Ino) (leave_data leave_attr : Hold) (number : ℕ) → IsDelayed d → 1 ≤ number → number < 2 ^ 64 → ino.0 < 512 → hold_number leave_data ≤ 1 → hold_number leave_attr ≤ 1
    → IsFlush (flush_of d ino leave_data leave_attr number)
flush_is d ino leave_data leave_attr number valid counted bits inode data_left attr_left =
    let end : ℕ = block_count (length d.contents) in
    let size = valid.size in
    let all : length (pieces_of d) ≡ marked_count d.marks
    = piece_count d.contents d.marks 64 (omega (arith, valid.marks)) ∙ ap (λ (ms : List Bool). marked_count ms) (take_all 64 d.marks (omega (arith, valid.marks))) in
    let above : (index : ℕ) → block_count (length d.contents) ≤ index → is_marked d.marks index ≡ false
    = λ index high. false_from_ne_true (is_marked d.marks index) (λ set. (let low = valid.below index set in omega arith)) in
    let stops : pieces_of d ≡ pieces_below d.contents d.marks (block_count (length d.contents))
    = ap (λ (n : ℕ). pieces_below d.contents d.marks n) (let e : 64 ≡ 64 - block_count (length d.contents) + block_count (length d.contents) = omega arith in e)
    ∙ pieces_stop d.contents d.marks (block_count (length d.contents)) (64 - block_count (length d.contents)) above in
    record {
      number = counted;
      fits = bits;
      ino = inode;
      size = size;
      cut = valid.cut;
      leave_data = data_left;
      leave_attr = attr_left;
      few = omega (arith, valid.few);
      rising = ap (λ (ps : List (ℕ × List ℕ)). are_rising 0 (block_count (length d.contents)) ps) stops ∙ pieces_rise d.contents d.marks (block_count (length d.contents));
      whole = pieces_whole d.contents d.marks 64;
    }
