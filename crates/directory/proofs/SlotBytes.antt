-- The bytes of one slot, and of many.
use Rattle.std.proofs.Common.{◌≡◌, ◌+◌, ◌-◌, ◌^◌, ◌<◌, ◌++◌, ℕ, List, [], ◌∷◌, length, take, get_or, Option, None, Some, refl, sym, ap, ◌∙◌, arith, append_assoc, append-nil, length-append}
use Rattle.std.specs.List.{flat_map}
use Rattle.std.proofs.lemmas.Grind.{flat_map-append}
use Rattle.std.proofs.lemmas.List.{take_more}
use Rattle.cal_base.specs.Limits.{name_bytes, slot_size}
use Rattle.cal_fields.specs.BigEndian.{big_endian}
use Rattle.cal_fields.specs.Padded.{padded, zeros}
use Rattle.cal_fields.proofs.BigEndianLemmas.{big_endian-cancel, length-big_endian}
use Rattle.cal_fields.proofs.PaddedLemmas.{length-padded, length-zeros}
use Rattle.directory.specs.declared.entry.DirEntry.{DirEntry}
use Rattle.directory.specs.Block.{AreEntries, entry_at, IsEntry, IsSlot, entry_bytes, slot_bytes, slots_bytes}

-- an entry's slot: its inode, the length of its name, its name, zeros
pub entry_is : (e : DirEntry) → padded slot_size (entry_bytes e) ≡ big_endian 4 e.ino.0 ++ (length e.name ∷ padded name_bytes e.name)
unfolding padded
entry_is e =
    let five = length-append (big_endian 4 e.ino.0) (length e.name ∷ []) in
    let more = length-append (big_endian 4 e.ino.0 ++ length e.name ∷ []) e.name in
    let four = length-big_endian 4 e.ino.0 in
    let behind : 32 - length (entry_bytes e) ≡ 27 - length e.name = omega arith in
    ap (λ (n : ℕ). entry_bytes e ++ zeros n) behind
    ∙ append_assoc (big_endian 4 e.ino.0 ++ length e.name ∷ []) e.name (zeros (27 - length e.name))
    ∙ append_assoc (big_endian 4 e.ino.0) (length e.name ∷ []) (e.name ++ zeros (27 - length e.name))

-- what is put field by field is the slot
pub entry_put : (old a b c new : List ℕ) (e : DirEntry) (left : ℕ) → left ≡ 27 - length e.name → a ≡ old ++ big_endian 4 e.ino.0 → b ≡ a ++ length e.name ∷ []
    → c ≡ b ++ e.name → new ≡ c ++ zeros left → new ≡ old ++ padded slot_size (entry_bytes e)
unfolding padded
entry_put old a b c new e left l ha hb hc hn =
    let five = length-append (big_endian 4 e.ino.0) (length e.name ∷ []) in
    let more = length-append (big_endian 4 e.ino.0 ++ length e.name ∷ []) e.name in
    let four = length-big_endian 4 e.ino.0 in
    let behind : left ≡ 32 - length (entry_bytes e) = omega arith in
    hn ∙ ap (λ (xs : List ℕ). xs ++ zeros left) (hc ∙ ap (λ (xs : List ℕ). xs ++ e.name) (hb ∙ ap (λ (xs : List ℕ). xs ++ length e.name ∷ []) ha
    ∙ append_assoc old (big_endian 4 e.ino.0) (length e.name ∷ [])) ∙ append_assoc old (big_endian 4 e.ino.0 ++ length e.name ∷ []) e.name)
    ∙ append_assoc old (entry_bytes e) (zeros left) ∙ ap (λ (n : ℕ). old ++ (entry_bytes e ++ zeros n)) behind

-- what 32 bytes tell of the entry that they spell
pub record Told (ino count : ℕ) (rest : List ℕ) (e : DirEntry) : Type 0 where
  pub same_ino : ino ≡ e.ino.0
  pub same_count : count ≡ length e.name
  pub same_rest : rest ≡ padded name_bytes e.name

pub told : (bytes rest : List ℕ) (ino count : ℕ) (e : DirEntry) → ino < 2 ^ 32 → bytes ≡ big_endian 4 ino ++ (count ∷ rest)
    → IsEntry e → bytes ≡ padded slot_size (entry_bytes e) → Told ino count rest e
told bytes rest ino count e fits parts is spelled =
    let small = is.to_511 in
    let split = big_endian-cancel 4 ino e.ino.0 (count ∷ rest) (length e.name ∷ padded name_bytes e.name) (omega arith) (omega arith) (sym parts ∙ spelled ∙ entry_is e) in
    let same : (count ∷ rest) ≡ (length e.name ∷ padded name_bytes e.name) = split.1 in
    record { same_ino = split.0; same_count = cc; same_rest = cc }

-- what is taken field by field is spelled
pub entry_taken : (bytes rest front : List ℕ) (count : ℕ) (e : DirEntry) → bytes ≡ big_endian 4 e.ino.0 ++ (count ∷ rest)
    → e.name ≡ front → length front ≡ count → rest ≡ padded (length rest) front → length rest ≡ 27 → bytes ≡ padded slot_size (entry_bytes e)
entry_taken bytes rest front count e parts named counted behind size =
    let same : rest ≡ padded name_bytes e.name = behind ∙ ap (λ (n : ℕ). padded n front) size ∙ ap (padded name_bytes) (sym named) in
    let long : count ≡ length e.name = sym counted ∙ sym (ap length named) in
    parts ∙ ap (λ (xs : List ℕ). big_endian 4 e.ino.0 ++ xs) (ap (λ (n : ℕ). n ∷ rest) long ∙ ap (λ (xs : List ℕ). length e.name ∷ xs) same) ∙ sym (entry_is e)

-- a slot has 32 bytes
pub length-slot_bytes : (slot : Option DirEntry) → IsSlot slot → length (slot_bytes slot) ≡ slot_size
length-slot_bytes None is = length-zeros slot_size
length-slot_bytes (Some e) is =
    let long = is.name.to_twenty_seven in
    let five = length-append (big_endian 4 e.ino.0) (length e.name ∷ []) in
    let more = length-append (big_endian 4 e.ino.0 ++ length e.name ∷ []) e.name in
    let four = length-big_endian 4 e.ino.0 in
    length-padded slot_size (entry_bytes e) (omega arith)

-- the bytes of one slot more
pub slots_bytes-append : (xs : List (Option DirEntry)) (x : Option DirEntry) → slots_bytes (xs ++ x ∷ []) ≡ slots_bytes xs ++ slot_bytes x
unfolding slots_bytes
slots_bytes-append xs x =
    flat_map-append slot_bytes xs (x ∷ []) ∙ ap (λ (ys : List ℕ). flat_map slot_bytes xs ++ ys) (append-nil (slot_bytes x))

-- what stands at a place may stand there
pub slot_is : (slots : List (Option DirEntry)) (place : ℕ) → AreEntries slots → IsSlot (entry_at slots place)
slot_is slots place are = at (entry_at slots place) (are place)
  where
    at : (slot : Option DirEntry) → ((e : DirEntry) → slot ≡ Some e → IsEntry e) → IsSlot slot
    at None h = tt
    at (Some e) h = h e refl

-- one slot more is put
pub put_more : (old now new : List ℕ) (slots : List (Option DirEntry)) (at : ℕ) (x : Option DirEntry) → at < length slots → x ≡ get_or slots at x
    → now ≡ old ++ slots_bytes (take at slots) → new ≡ now ++ slot_bytes x → new ≡ old ++ slots_bytes (take (at + 1) slots)
put_more old now new slots at x within is before put =
    put ∙ ap (λ (xs : List ℕ). xs ++ slot_bytes x) before
    ∙ append_assoc old (slots_bytes (take at slots)) (slot_bytes x)
    ∙ ap (λ (xs : List ℕ). old ++ xs) (sym (slots_bytes-append (take at slots) x) ∙ ap slots_bytes (ap (λ (y : Option DirEntry). take at slots ++ y ∷ []) is ∙ sym (take_more slots at x within)))
