-- The volume on which nothing has happened yet, and that the sectors of a format spell it.
use Rattle.std.proofs.Common.{◌≡◌, ◌≤◌, ◌+◌, ◌*◌, ◌++◌, ℕ, zero, suc, Bool, true, false, List, [], ◌∷◌, replicate, Some, slice_get, refl, sym, ap, ◌∙◌, arith, get_or}
use Rattle.std.specs.List.{flat_map}
use Rattle.std.proofs.lemmas.List.{get_or-replicate, length-replicate, replicate-append-replicate}
use Rattle.std.proofs.lemmas.Option.{get_or_from_slice_get, slice_get_within}
use Rattle.cal_base.specs.Limits as limits
use Rattle.cal_fields.specs.BigEndian.{big_endian}
use Rattle.cal_fields.specs.Padded.{padded, zeros}
use Rattle.cal_fields.proofs.PaddedLemmas.{length-zeros, padded-zeros}
use Rattle.inode.specs.Inode.{IsInode, SpellsInode, fields_size, inode_fields, pointer_bytes}
use Rattle.inode.specs.declared.inode.Inode.{Inode}
use Rattle.inode.specs.declared.inode.Kind.TheVariants.{Free}
use Rattle.inode.proofs.InodeLemmas.{small_zeros}
use Rattle.request_log.specs.Slot.{SpellsSlot, slot_fields}
use Rattle.request_log.specs.declared.slot.Slot.{Slot}
use Rattle.space_map.specs.SpaceMap.{SpellsMap, free_bits, free_blocks}
use Rattle.tree_law.specs.declared.reply.Reply.TheVariants.{Done}
use Rattle.volume.specs.Format.{blank, root_inode, root_sector}
use Rattle.volume.proofs.Each.{root_is}

pub zeros-append : (m n : ℕ) → zeros m ++ zeros n ≡ zeros (m + n)
unfolding zeros
zeros-append m n = replicate-append-replicate m n 0

padded_nothing : blank ≡ padded limits.block_size []
unfolding padded
padded_nothing = refl

-- zeros alone are padded to a blank sector
pub blank_padded : (n : ℕ) (fields : List ℕ) → fields ≡ zeros n → n ≤ 4096 → blank ≡ padded limits.block_size fields
blank_padded n fields e fits = padded_nothing ∙ sym (padded-zeros 4096 n [] (omega arith)) ∙ ap (padded limits.block_size) (sym e)

zeros_of_2 : big_endian 2 0 ≡ zeros 2
unfolding big_endian zeros
zeros_of_2 = refl

zeros_of_4 : big_endian 4 0 ≡ zeros 4
unfolding big_endian zeros
zeros_of_4 = refl

zeros_of_8 : big_endian 8 0 ≡ zeros 8
unfolding big_endian zeros
zeros_of_8 = refl

zero_first : (n : ℕ) → 0 ∷ zeros n ≡ zeros (suc n)
unfolding zeros
zero_first n = refl

-- the slot of a client that made no change
abbrev pub no_slot : Slot
no_slot = record { purged = false; call = 0; flush = 0; reply = Done }

slot_joined : (((0 ∷ zeros 8) ++ zeros 8) ++ zeros 2) ++ [] ≡ zeros 19
unfolding zeros
slot_joined = refl

slot_zeros : slot_fields no_slot ≡ zeros 19
slot_zeros = rw (zeros_of_8, zeros_of_2) slot_joined

pub blank_slot : SpellsSlot blank no_slot
blank_slot = record {
  slot = record { call = omega arith; flush = omega arith; reply = record { change = tt; none = λ e. refl } };
  whole = blank_padded 19 (slot_fields no_slot) slot_zeros (omega arith);
}

-- an inode that is free
abbrev pub free_inode : Inode
free_inode = record { kind = Free; named = false; size = 0; blocks = replicate limits.file_blocks 0 }

pub free_is : IsInode free_inode
free_is = record {
  count = refl;
  pointers = λ place. (let e : get_or (replicate {A = ℕ} 64 0) place 0 ≡ 0 = small_zeros limits.file_blocks place in omega arith);
  allowed = record { named = refl; size = refl; holes = λ place from. small_zeros limits.file_blocks place };
}

no_zeros : [] ≡ zeros 0
unfolding zeros
no_zeros = refl

pointer_zeros : (n : ℕ) → pointer_bytes (replicate n 0) ≡ zeros (2 * n)
unfolding pointer_bytes
pointer_zeros zero = no_zeros
pointer_zeros (suc n) =
    ap (λ (xs : List ℕ). big_endian 2 0 ++ xs) (pointer_zeros n)
    ∙ ap (λ (xs : List ℕ). xs ++ zeros (2 * n)) zeros_of_2
    ∙ zeros-append 2 (2 * n)
    ∙ ap zeros (let e : 2 + 2 * n ≡ 2 * suc n = omega arith in e)

six_zeros : (0 ∷ 0 ∷ []) ++ zeros 4 ≡ zeros 6
unfolding zeros
six_zeros = refl

inode_zeros : inode_fields free_inode ≡ zeros fields_size
inode_zeros =
    ap (λ (xs : List ℕ). ((0 ∷ 0 ∷ []) ++ xs) ++ pointer_bytes (replicate limits.file_blocks 0)) zeros_of_4
    ∙ ap (λ (xs : List ℕ). xs ++ pointer_bytes (replicate limits.file_blocks 0)) six_zeros
    ∙ ap (λ (xs : List ℕ). zeros 6 ++ xs) (pointer_zeros 64)
    ∙ zeros-append 6 128

pub blank_inode : SpellsInode blank free_inode
blank_inode = record {
  inode = free_is;
  whole = blank_padded 134 (inode_fields free_inode) inode_zeros (omega arith);
}

pub root_spelled : SpellsInode root_sector root_inode
unfolding root_sector
root_spelled = record { inode = root_is; whole = refl }

-- all blocks free
unfoldable pub all_free : List Bool
all_free = free_blocks (zeros 256)

pub blank_map : SpellsMap blank all_free
unfolding all_free
blank_map = record {
  bytes = zeros 256;
  count = length-zeros 256;
  whole = blank_padded 256 (zeros 256) refl (omega arith);
  blocks = refl;
}

eight_free : free_bits 8 0 ≡ replicate 8 true
unfolding free_bits
eight_free = refl

-- each of them
all_true : (n : ℕ) → flat_map (free_bits 8) (replicate n 0) ≡ replicate (8 * n) true
all_true zero = refl
all_true (suc n) =
    ap (λ (xs : List Bool). xs ++ flat_map (free_bits 8) (replicate n 0)) eight_free
    ∙ ap (λ (xs : List Bool). replicate 8 true ++ xs) (all_true n)
    ∙ replicate-append-replicate 8 (8 * n) true
    ∙ ap (λ (k : ℕ). replicate {A = Bool} k true) (let e : 8 + 8 * n ≡ 8 * suc n = omega arith in e)

-- each of equal ones is that one
pub get_same : {A : Type 0} (m i : ℕ) (a b : A) → slice_get (replicate {A = A} m a) i ≡ Some b → b ≡ a
get_same {A = A} m i a b e =
    sym (get_or_from_slice_get (replicate {A = A} m a) i b b e)
    ∙ get_or-replicate m i a b (let h = slice_get_within (replicate {A = A} m a) i b e in let l = length-replicate {A = A} m a in omega arith)

free_each : (n i : ℕ) (b : Bool) → slice_get (flat_map (free_bits 8) (replicate n 0)) i ≡ Some b → b ≡ true
free_each n i b e = get_same (8 * n) i true b (sym (ap (λ (xs : List Bool). slice_get xs i) (all_true n)) ∙ e)

pub all_free_true : (i : ℕ) (b : Bool) → slice_get all_free i ≡ Some b → b ≡ true
unfolding all_free free_blocks zeros
all_free_true i b e = free_each 256 i b e

pub map_of_free : all_free ≡ replicate limits.blocks true
unfolding all_free free_blocks zeros
map_of_free = all_true 256
