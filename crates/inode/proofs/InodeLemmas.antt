use Rattle.std.proofs.Common.{◌≡◌, ◌+◌, ◌*◌, ◌<◌, ◌≤◌, ◌++◌, ℕ, zero, suc, Bool, true, false, List, [], ◌∷◌, length, take, get_or, replicate, slice_index, refl, sym, ap, ◌∙◌, arith, append_assoc, append-nil, length-append}
use Rattle.std.specs.List.{flat_map, slice_set}
use Rattle.std.proofs.lemmas.Grind.{flat_map-append}
use Rattle.std.proofs.lemmas.List.{nil_from_length, take_all, take_more, take_more_set}
use Rattle.cal_base.specs.Limits.{block_size, file_blocks, file_size}
use Rattle.cal_fields.specs.BigEndian.{big_endian}
use Rattle.cal_fields.proofs.BigEndianLemmas.{big_endian-cancel, length-big_endian}
use Rattle.cal_fields.proofs.PaddedLemmas.{padded-cancel}
use Rattle.inode.specs.declared.inode.Inode.{Inode}
use Rattle.inode.specs.declared.inode.Kind.{Kind}
use Rattle.inode.specs.declared.inode.Kind.TheVariants.{Free, File, Dir}
use Rattle.cal_fields.specs.Flag.{bool_byte}
use Rattle.inode.specs.Inode.{IsInRange, IsInode, KindAllows, SpellsInode, fields_size, inode_fields, kind_byte, pointer_bytes}

-- the bytes of one pointer more
pub pointer_bytes-append : (xs : List ℕ) (x : ℕ) → pointer_bytes (xs ++ x ∷ []) ≡ pointer_bytes xs ++ big_endian 2 x
unfolding pointer_bytes
pointer_bytes-append xs x =
    flat_map-append (big_endian 2) xs (x ∷ []) ∙ ap (λ (ys : List ℕ). flat_map (big_endian 2) xs ++ ys) (append-nil (big_endian 2 x))

-- each pointer has two bytes
pub length-pointer_bytes : (xs : List ℕ) → length (pointer_bytes xs) ≡ 2 * length xs
unfolding pointer_bytes
length-pointer_bytes [] = refl
length-pointer_bytes (x ∷ xs) = omega (arith, length-append (big_endian 2 x) (flat_map (big_endian 2) xs), length-big_endian 2 x, length-pointer_bytes xs)

-- the bytes of pointers tell the pointers
pub pointer_bytes-cancel : (xs ys : List ℕ) → length xs ≡ length ys → ((i : ℕ) → slice_index xs i < 65536) → ((i : ℕ) → slice_index ys i < 65536)
    → pointer_bytes xs ≡ pointer_bytes ys → xs ≡ ys
unfolding pointer_bytes
pointer_bytes-cancel [] [] same fx fy e = refl
pointer_bytes-cancel [] (y ∷ ys) same fx fy e = absurd (omega arith)
pointer_bytes-cancel (x ∷ xs) [] same fx fy e = absurd (omega arith)
pointer_bytes-cancel (x ∷ xs) (y ∷ ys) same fx fy e =
    let split = big_endian-cancel 2 x y (flat_map (big_endian 2) xs) (flat_map (big_endian 2) ys) (fx 0) (fy 0) e in
    let tail : xs ≡ ys = pointer_bytes-cancel xs ys (omega arith) (λ i. fx (suc i)) (λ i. fy (suc i)) split.1 in
    let head : x ≡ y = split.0 in
    cc

-- a kind and a bool are told by their bytes
kind_byte-cancel : (k l : Kind) → kind_byte k ≡ kind_byte l → k ≡ l
kind_byte-cancel Free Free e = refl
kind_byte-cancel Free File e = absurd (omega arith)
kind_byte-cancel Free Dir e = absurd (omega arith)
kind_byte-cancel File Free e = absurd (omega arith)
kind_byte-cancel File File e = refl
kind_byte-cancel File Dir e = absurd (omega arith)
kind_byte-cancel Dir Free e = absurd (omega arith)
kind_byte-cancel Dir File e = absurd (omega arith)
kind_byte-cancel Dir Dir e = refl

bool_byte-cancel : (a b : Bool) → bool_byte a ≡ bool_byte b → a ≡ b
bool_byte-cancel false false e = refl
bool_byte-cancel false true e = absurd (omega arith)
bool_byte-cancel true false e = absurd (omega arith)
bool_byte-cancel true true e = refl

-- an inode by its fields
made : (a b : Inode) → a.kind ≡ b.kind → a.named ≡ b.named → a.size ≡ b.size → a.blocks ≡ b.blocks → a ≡ b
made a b k n s p =
    let build : Kind → Bool → ℕ → List ℕ → Inode = λ k n s p. record { kind = k; named = n; size = s; blocks = p } in
    ap (λ (x : Kind). build x a.named a.size a.blocks) k
    ∙ ap (λ (x : Bool). build b.kind x a.size a.blocks) n
    ∙ ap (λ (x : ℕ). build b.kind b.named x a.blocks) s
    ∙ ap (λ (x : List ℕ). build b.kind b.named b.size x) p

-- the fields tell the inode
pub same_fields : (a b : Inode) → IsInRange a → IsInRange b → inode_fields a ≡ inode_fields b → a ≡ b
same_fields a b fa fb e =
    let kinds : kind_byte a.kind ≡ kind_byte b.kind = cc in
    let names : bool_byte a.named ≡ bool_byte b.named = cc in
    let rests : big_endian 4 a.size ++ pointer_bytes a.blocks ≡ big_endian 4 b.size ++ pointer_bytes b.blocks = cc in
    let split = big_endian-cancel 4 a.size b.size (pointer_bytes a.blocks) (pointer_bytes b.blocks) fa.size fb.size rests in
    made a b (kind_byte-cancel a.kind b.kind kinds) (bool_byte-cancel a.named b.named names) split.0
    (pointer_bytes-cancel a.blocks b.blocks (fa.count ∙ sym fb.count) fa.pointers fb.pointers split.1)

kind_size : (k : Kind) (i : Inode) → KindAllows k i → i.size ≤ file_size
kind_size Free i h = (let s = h.size in omega arith)
kind_size File i h = h.size
kind_size Dir i h = (let s = h.size in omega arith)

-- an inode is in range
pub in_range : (i : Inode) → IsInode i → IsInRange i
in_range i h = record {
  size = (let s = kind_size i.kind i h.allowed in omega arith);
  count = h.count;
  pointers = λ place. (let p = h.pointers place in omega arith);
}

-- the fields of an inode are so many bytes
pub length-inode_fields : (i : Inode) → length i.blocks ≡ file_blocks → length (inode_fields i) ≡ fields_size
length-inode_fields i h =
    omega (arith, length-append (big_endian 4 i.size) (pointer_bytes i.blocks), length-big_endian 4 i.size, length-pointer_bytes i.blocks)

-- a sector spells one inode
pub same_inode : (sector : List ℕ) (a b : Inode) → SpellsInode sector a → SpellsInode sector b → a ≡ b
same_inode sector a b s t =
    let lengths : length (inode_fields a) ≡ length (inode_fields b) = length-inode_fields a s.inode.count ∙ sym (length-inode_fields b t.inode.count) in
    same_fields a b (in_range a s.inode) (in_range b t.inode) (padded-cancel block_size (inode_fields a) (inode_fields b) lengths (sym s.whole ∙ t.whole))

-- zeros are small
pub small_zeros : (count place : ℕ) → get_or (replicate {A = ℕ} count 0) place 0 ≡ 0
small_zeros zero place = refl
small_zeros (suc count) zero = refl
small_zeros (suc count) (suc place) = small_zeros count place

-- pointers stay small as one is set
pub small_set : (xs : List ℕ) (at new : ℕ) → ((place : ℕ) → slice_index xs place < 65536) → new < 65536 → (place : ℕ) → slice_index (slice_set xs at new) place < 65536
small_set [] at new h n place = omega arith
small_set (x ∷ xs) zero new h n zero = n
small_set (x ∷ xs) zero new h n (suc place) = h (suc place)
small_set (x ∷ xs) (suc at) new h n zero = h 0
small_set (x ∷ xs) (suc at) new h n (suc place) = small_set xs at new (λ i. h (suc i)) n place

-- one pointer more is read
pub pointers_more : (bytes pointers rest left : List ℕ) (at new : ℕ) → at < length pointers → bytes ≡ pointer_bytes (take at pointers) ++ rest
    → rest ≡ big_endian 2 new ++ left → bytes ≡ pointer_bytes (take (at + 1) (slice_set pointers at new)) ++ left
pointers_more bytes pointers rest left at new within before read =
    before ∙ ap (λ (xs : List ℕ). pointer_bytes (take at pointers) ++ xs) read
    ∙ sym (append_assoc (pointer_bytes (take at pointers)) (big_endian 2 new) left)
    ∙ ap (λ (xs : List ℕ). xs ++ left) (sym (pointer_bytes-append (take at pointers) new) ∙ ap pointer_bytes (sym (take_more_set pointers at new within)))

-- all pointers are read
pub pointers_all : (bytes pointers rest : List ℕ) (at : ℕ) → length pointers ≡ at → length rest ≡ 0 → bytes ≡ pointer_bytes (take at pointers) ++ rest → bytes ≡ pointer_bytes pointers
pointers_all bytes pointers rest at size none e =
    e ∙ ap (λ (xs : List ℕ). pointer_bytes (take at pointers) ++ xs) (nil_from_length rest none)
    ∙ append-nil (pointer_bytes (take at pointers)) ∙ ap pointer_bytes (take_all at pointers (omega arith))

-- one pointer more is put
pub put_more : (old now new pointers : List ℕ) (at : ℕ) → at < length pointers → now ≡ old ++ pointer_bytes (take at pointers)
    → new ≡ now ++ big_endian 2 (get_or pointers at 0) → new ≡ old ++ pointer_bytes (take (at + 1) pointers)
put_more old now new pointers at within before put =
    put ∙ ap (λ (xs : List ℕ). xs ++ big_endian 2 (get_or pointers at 0)) before
    ∙ append_assoc old (pointer_bytes (take at pointers)) (big_endian 2 (get_or pointers at 0))
    ∙ ap (λ (xs : List ℕ). old ++ xs) (sym (pointer_bytes-append (take at pointers) (get_or pointers at 0)) ∙ ap pointer_bytes (sym (take_more pointers at 0 within)))
