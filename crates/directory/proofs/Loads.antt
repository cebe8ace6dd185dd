-- The slots that bytes spell, and how a directory takes them.
use Rattle.std.proofs.Common.{◌≡◌, ◌≢◌, ◌+◌, ◌<◌, ◌++◌, ℕ, zero, suc, List, [], ◌∷◌, length, take, replicate, Option, None, Some, refl, sym, ap, subst, ◌∙◌, arith, append_assoc, append-nil, length-append}
use Rattle.std.proofs.lemmas.List.{append_cancel_left, get_or_append_left, nil_from_length, take_at}
use Rattle.cal_base.specs.Limits.{name_bytes, slot_size}
use Rattle.cal_fields.specs.BigEndian.{big_endian}
use Rattle.cal_fields.specs.Padded.{padded, zeros}
use Rattle.cal_fields.proofs.BigEndianLemmas.{big_endian-cancel}
use Rattle.cal_fields.proofs.PaddedLemmas.{padded-cancel}
use Rattle.directory.specs.declared.entry.DirEntry.{DirEntry}
use Rattle.directory.specs.Block.{AreEntries, IsEntry, IsSlot, SpellsBlock, entry_at, entry_bytes, slot_bytes, slots_bytes}
use Rattle.directory.specs.Directory.{AreDistinct, Continues, Repeats}
use Rattle.directory.specs.Loading.{Loaded, Takes}
use Rattle.directory.proofs.SlotBytes.{entry_is, length-slot_bytes, slot_is, slots_bytes-append, told}

-- an entry by its parts
made : (a b : DirEntry) → a.ino.0 ≡ b.ino.0 → a.name ≡ b.name → a ≡ b
made a b i n =
    let build : List ℕ → ℕ → DirEntry = λ n i. record { name = n; ino = record { 0 = i } } in
    ap (λ (x : List ℕ). build x a.ino.0) n ∙ ap (λ (x : ℕ). build b.name x) i

-- a slot of zeros is no entry
not_empty : (e : DirEntry) → IsEntry e → zeros slot_size ≢ padded slot_size (entry_bytes e)
unfolding zeros big_endian
not_empty e is same =
    let from_one = is.from_one in
    let to_511 = is.to_511 in
    let split = big_endian-cancel 4 0 e.ino.0 (replicate 28 0) (length e.name ∷ padded name_bytes e.name) (omega arith) (omega arith) (same ∙ entry_is e) in
    let none : 0 ≡ e.ino.0 = split.0 in
    omega arith

-- a slot is told by its bytes
pub same_slot : (a b : Option DirEntry) → IsSlot a → IsSlot b → slot_bytes a ≡ slot_bytes b → a ≡ b
same_slot None None is_a is_b e = refl
same_slot None (Some b) is_a is_b e = absurd (not_empty b is_b e)
same_slot (Some a) None is_a is_b e = absurd (not_empty a is_a (sym e))
same_slot (Some a) (Some b) is_a is_b e =
    let small = is_a.to_511 in
    let t = told (padded slot_size (entry_bytes a)) (padded name_bytes a.name) a.ino.0 (length a.name) b (omega arith) (entry_is a) is_b e in
    ap Some (made a b t.same_ino (padded-cancel 27 a.name b.name t.same_count t.same_rest))

-- pieces of one length at the front are the same
pub cut_front : (a b s t : List ℕ) (size : ℕ) → length a ≡ size → length b ≡ size → a ++ s ≡ b ++ t → (a ≡ b) × (s ≡ t)
cut_front a b s t size long_a long_b e =
    let same : a ≡ b = sym (take_at a s size long_a) ∙ ap (take size) e ∙ take_at b t size long_b in
    let rest : a ++ s ≡ a ++ t = e ∙ ap (λ (xs : List ℕ). xs ++ t) (sym same) in
    (same, append_cancel_left a s t rest)

-- a slot at the front is told by its bytes
pub slot_bytes-cancel : (a b : Option DirEntry) (s t : List ℕ) → IsSlot a → IsSlot b → slot_bytes a ++ s ≡ slot_bytes b ++ t → (a ≡ b) × (s ≡ t)
slot_bytes-cancel a b s t is_a is_b e =
    let cut = cut_front (slot_bytes a) (slot_bytes b) s t 32 (length-slot_bytes a is_a) (length-slot_bytes b is_b) e in
    (same_slot a b is_a is_b cut.0, cut.1)

are_tail : (x : Option DirEntry) (xs : List (Option DirEntry)) → AreEntries (x ∷ xs) → AreEntries xs
are_tail x xs are place e at = are (suc place) e at

slots_bytes-cons : (x : Option DirEntry) (xs : List (Option DirEntry)) → slots_bytes (x ∷ xs) ≡ slot_bytes x ++ slots_bytes xs
unfolding slots_bytes
slots_bytes-cons x xs = refl

slots_bytes-nil : slots_bytes [] ≡ []
unfolding slots_bytes
slots_bytes-nil = refl

-- slots are told by their bytes
pub slots_bytes-cancel : (xs ys : List (Option DirEntry)) → length xs ≡ length ys → AreEntries xs → AreEntries ys → slots_bytes xs ≡ slots_bytes ys → xs ≡ ys
slots_bytes-cancel [] [] size are_x are_y e = refl
slots_bytes-cancel [] (y ∷ ys) size are_x are_y e = absurd (omega arith)
slots_bytes-cancel (x ∷ xs) [] size are_x are_y e = absurd (omega arith)
slots_bytes-cancel (x ∷ xs) (y ∷ ys) size are_x are_y e =
    let split = slot_bytes-cancel x y (slots_bytes xs) (slots_bytes ys) (slot_is (x ∷ xs) 0 are_x) (slot_is (y ∷ ys) 0 are_y) (sym (slots_bytes-cons x xs) ∙ e ∙ slots_bytes-cons y ys) in
    let rest : xs ≡ ys = slots_bytes-cancel xs ys (omega arith) (are_tail x xs are_x) (are_tail y ys are_y) split.1 in
    ap (λ (z : Option DirEntry). z ∷ xs) split.0 ∙ ap (λ (zs : List (Option DirEntry)). y ∷ zs) rest

-- a sector spells one block
pub same_block : (sector : List ℕ) (a b : List (Option DirEntry)) → SpellsBlock sector a → SpellsBlock sector b → a ≡ b
same_block sector a b s t = slots_bytes-cancel a b (s.count ∙ sym t.count) s.entries t.entries (sym s.whole ∙ t.whole)

-- slots that go on as others began
pub record Goes (slots all : List (Option DirEntry)) (left : List ℕ) : Type 0 where
  pub next : Option DirEntry
  pub after : List (Option DirEntry)
  pub split : all ≡ slots ++ next ∷ after
  pub is : IsSlot next
  pub bytes : left ≡ slot_bytes next ++ slots_bytes after

pub goes_on : (slots all : List (Option DirEntry)) (left : List ℕ) → length slots < length all → AreEntries slots → AreEntries all → slots_bytes slots ++ left ≡ slots_bytes all → Goes slots all left
goes_on slots [] left fewer are_s are_a e = absurd (omega arith)
goes_on [] (y ∷ ys) left fewer are_s are_a e = record {
  next = y;
  after = ys;
  split = refl;
  is = slot_is (y ∷ ys) 0 are_a;
  bytes = sym (ap (λ (bs : List ℕ). bs ++ left) slots_bytes-nil) ∙ e ∙ slots_bytes-cons y ys;
}
goes_on (x ∷ xs) (y ∷ ys) left fewer are_s are_a e =
    let joined : slot_bytes x ++ (slots_bytes xs ++ left) ≡ slot_bytes y ++ slots_bytes ys =
    sym (append_assoc (slot_bytes x) (slots_bytes xs) left) ∙ ap (λ (bs : List ℕ). bs ++ left) (sym (slots_bytes-cons x xs)) ∙ e ∙ slots_bytes-cons y ys in
    let split = slot_bytes-cancel x y (slots_bytes xs ++ left) (slots_bytes ys) (slot_is (x ∷ xs) 0 are_s) (slot_is (y ∷ ys) 0 are_a) joined in
    let rest = goes_on xs ys left (omega arith) (are_tail x xs are_s) (are_tail y ys are_a) split.1 in
    record {
      next = rest.next;
      after = rest.after;
      split = ap (λ (zs : List (Option DirEntry)). y ∷ zs) rest.split ∙ ap (λ (z : Option DirEntry). z ∷ (xs ++ rest.next ∷ rest.after)) (sym split.0);
      is = rest.is;
      bytes = rest.bytes;
    }

-- nothing is loaded yet
pub loaded_none : (old : List (Option DirEntry)) (sector : List ℕ) → Loaded old sector 0 sector old
loaded_none old sector = record {
  slots = [];
  size = refl;
  entries = λ place e at. (let both : None ≡ Some e = at in cc);
  bytes = sym (ap (λ (bs : List ℕ). bs ++ sector) slots_bytes-nil);
  whole = sym (append-nil old);
}

-- what stands in slots with one more stands in them, or is that one
are_more : (xs : List (Option DirEntry)) (x : Option DirEntry) → AreEntries xs → IsSlot x → AreEntries (xs ++ x ∷ [])
are_more [] None are is zero e at = (let both : None ≡ Some e = at in cc)
are_more [] None are is (suc place) e at = (let both : None ≡ Some e = at in cc)
are_more [] (Some y) are is zero e at = (let same : Some y ≡ Some e = at in let one : y ≡ e = cc in subst IsEntry one is)
are_more [] (Some y) are is (suc place) e at = (let both : None ≡ Some e = at in cc)
are_more (z ∷ xs) x are is zero e at = are 0 e at
are_more (z ∷ xs) x are is (suc place) e at = are_more xs x (are_tail z xs are) is place e at

-- one slot more is loaded
pub loaded_more : (old now new : List (Option DirEntry)) (sector left piece rest : List ℕ) (count : ℕ) → Loaded old sector count left now → left ≡ piece ++ rest → Takes now piece new
    → Loaded old sector (count + 1) rest new
loaded_more old now new sector left piece rest count l cut t = record {
  slots = l.slots ++ t.slot ∷ [];
  size = (let size = l.size in omega (arith, length-append l.slots (t.slot ∷ [])));
  entries = are_more l.slots t.slot l.entries t.is;
  bytes = l.bytes ∙ ap (λ (bs : List ℕ). slots_bytes l.slots ++ bs) (cut ∙ ap (λ (bs : List ℕ). bs ++ rest) t.spelled)
      ∙ sym (append_assoc (slots_bytes l.slots) (slot_bytes t.slot) rest) ∙ ap (λ (bs : List ℕ). bs ++ rest) (sym (slots_bytes-append l.slots t.slot));
  whole = t.put ∙ ap (λ (xs : List (Option DirEntry)). xs ++ t.slot ∷ []) l.whole ∙ append_assoc old l.slots (t.slot ∷ []);
}

-- all slots are loaded
pub loaded_all : (old now : List (Option DirEntry)) (sector left : List ℕ) (count : ℕ) → Loaded old sector count left now → count ≡ 128 → length left ≡ 0 → AreDistinct now → Continues old sector now
loaded_all old now sector left count l size none distinct = record {
  slots = l.slots;
  spelled = record {
    count = l.size ∙ size;
    entries = l.entries;
    whole = l.bytes ∙ ap (λ (bs : List ℕ). slots_bytes l.slots ++ bs) (nil_from_length left none) ∙ append-nil (slots_bytes l.slots);
  };
  whole = l.whole;
  distinct = distinct;
}

-- the slot that is put behind others
entry_at-behind : (xs ys : List (Option DirEntry)) (y : Option DirEntry) → entry_at (xs ++ y ∷ ys) (length xs) ≡ y
entry_at-behind [] ys y = refl
entry_at-behind (x ∷ xs) ys y = entry_at-behind xs ys y

-- an entry has its place among the slots
entry_within : (slots : List (Option DirEntry)) (place : ℕ) (e : DirEntry) → entry_at slots place ≡ Some e → place < length slots
entry_within [] place e at = (let both : None ≡ Some e = at in cc)
entry_within (x ∷ slots) zero e at = omega arith
entry_within (x ∷ slots) (suc place) e at = (let rest = entry_within slots place e at in omega arith)

-- where the next slot may not follow, no block may
pub loaded_bad : (old now : List (Option DirEntry)) (sector left piece rest : List ℕ) (count : ℕ) → Loaded old sector count left now → count < 128 → left ≡ piece ++ rest → length piece ≡ 32
    → ((slot : Option DirEntry) → IsSlot slot → piece ≡ slot_bytes slot → Repeats now slot) → (new : List (Option DirEntry)) → Continues old sector new → ⊥
loaded_bad old now sector left piece rest count l few cut size bad new k =
    let all = k.spelled.count in
    let counted = l.size in
    let on = goes_on l.slots k.slots left (omega arith) l.entries k.spelled.entries (sym l.bytes ∙ k.spelled.whole) in
    let front = cut_front piece (slot_bytes on.next) rest (slots_bytes on.after) 32 size (length-slot_bytes on.next on.is) (sym cut ∙ on.bytes) in
    let twice = bad on.next on.is front.0 in
    let whole : new ≡ now ++ on.next ∷ on.after =
    k.whole ∙ ap (λ (xs : List (Option DirEntry)). old ++ xs) on.split ∙ sym (append_assoc old l.slots (on.next ∷ on.after)) ∙ ap (λ (xs : List (Option DirEntry)). xs ++ on.next ∷ on.after) (sym l.whole) in
    let at = twice.stands.at in
    let place = twice.stands.place in
    let within : place < length now = entry_within now place at.entry at.there in
    let first : entry_at new place ≡ Some at.entry = ap (λ (xs : List (Option DirEntry)). entry_at xs place) whole ∙ get_or_append_left now (on.next ∷ on.after) None place within ∙ at.there in
    let second : entry_at new (length now) ≡ Some twice.entry = ap (λ (xs : List (Option DirEntry)). entry_at xs (length now)) whole ∙ entry_at-behind now on.after on.next ∙ twice.is in
    let one : place ≡ length now = k.distinct place (length now) at.entry twice.entry first second at.named in
    omega arith

-- what is put at the end keeps what stood before
pub loaded_keeps : (old now : List (Option DirEntry)) (sector left : List ℕ) (count : ℕ) → Loaded old sector count left now → take (length old) now ≡ old
loaded_keeps old now sector left count l = ap (take (length old)) l.whole ∙ take_at old l.slots (length old) refl

pub loaded_longer : (old now : List (Option DirEntry)) (sector left : List ℕ) (count : ℕ) → Loaded old sector count left now → length now ≡ length old + count
loaded_longer old now sector left count l = ap length l.whole ∙ length-append old l.slots ∙ ap (λ (n : ℕ). length old + n) l.size
