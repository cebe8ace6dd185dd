use Rattle.std.specs.Prelude.{◌≡◌, ◌≢◌, ◌≤◌, ◌<◌, ◌/◌, ◌%◌, ◌^◌, ◌++◌, ◌∷◌, [], ℕ, true, false, List, length, slice_index}
use Rattle.std.specs.List.{flat_map}
use Rattle.cal_base.specs.Limits as limits
use Rattle.cal_base.specs.Blocks.{block_count}
use Rattle.cal_fields.specs.BigEndian.{big_endian}
use Rattle.cal_fields.specs.Flag.{bool_byte}
use Rattle.cal_fields.specs.Padded.{padded}
use Rattle.inode.specs.declared.inode.Inode.{Inode}
use Rattle.inode.specs.declared.inode.Kind.{Kind}
use Rattle.inode.specs.declared.inode.Kind.TheVariants.{Free, File, Dir}

abbrev pub kind_byte : Kind → ℕ
kind_byte Free = 0
kind_byte File = 1
kind_byte Dir = 2

-- the pointers, two bytes each
unfoldable pub pointer_bytes : List ℕ → List ℕ
pointer_bytes pointers = flat_map (big_endian 2) pointers

-- the fields of an inode: its kind, whether it is named, its size and its pointers
abbrev pub inode_fields : Inode → List ℕ
inode_fields i = (((kind_byte i.kind ∷ []) ++ bool_byte i.named ∷ []) ++ big_endian 4 i.size) ++ pointer_bytes i.blocks

-- bytes of the fields of an inode
abbrev pub fields_size : ℕ
fields_size = 134

-- each pointer is 0, a hole, or one of the data blocks, from 1
abbrev pub AreSmall : List ℕ → Type 0
AreSmall pointers = (place : ℕ) → slice_index pointers place ≤ limits.blocks

-- an inode whose size fits four bytes, with all its pointers, of which each fits two
pub record IsInRange (i : Inode) : Type 0 where
  pub size : i.size < 2 ^ 32
  pub count : length i.blocks ≡ limits.file_blocks
  pub pointers : (place : ℕ) → slice_index i.blocks place < 2 ^ 16

-- all pointers from a place on are holes
abbrev pub AreHolesFrom : ℕ → List ℕ → Type 0
AreHolesFrom count pointers = (place : ℕ) → count ≤ place → slice_index pointers place ≡ 0

-- all pointers before a place name blocks
abbrev pub AreBlocksBefore : ℕ → List ℕ → Type 0
AreBlocksBefore count pointers = (place : ℕ) → place < count → slice_index pointers place ≢ 0

-- a free inode is all zeros
pub record IsFreeInode (i : Inode) : Type 0 where
  pub named : i.named ≡ false
  pub size : i.size ≡ 0
  pub holes : AreHolesFrom 0 i.blocks

-- a file is no greater than it may be, and has no pointer past its size
pub record IsFileInode (i : Inode) : Type 0 where
  pub size : i.size ≤ limits.file_size
  pub holes : AreHolesFrom (block_count i.size) i.blocks

-- a directory is named, has whole blocks, no more than it may have, and a pointer for each of them alone
pub record IsDirInode (i : Inode) : Type 0 where
  pub named : i.named ≡ true
  pub whole : i.size % limits.block_size ≡ 0
  pub size : i.size ≤ limits.directory_size
  pub blocks : AreBlocksBefore (i.size / limits.block_size) i.blocks
  pub holes : AreHolesFrom (i.size / limits.block_size) i.blocks

abbrev pub KindAllows : Kind → Inode → Type 0
KindAllows Free i = IsFreeInode i
KindAllows File i = IsFileInode i
KindAllows Dir i = IsDirInode i

-- what an inode may be
pub record IsInode (i : Inode) : Type 0 where
  pub count : length i.blocks ≡ limits.file_blocks
  pub pointers : AreSmall i.blocks
  pub allowed : KindAllows i.kind i

-- A sector spells an inode: its fields, and zeros behind them.
pub record SpellsInode (sector : List ℕ) (i : Inode) : Type 0 where
  pub inode : IsInode i
  pub whole : sector ≡ padded limits.block_size (inode_fields i)
