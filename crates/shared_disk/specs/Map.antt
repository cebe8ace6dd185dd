-- The map of the disk: which sector holds what, for contracts: the constants of src/map.rt, by the same words.
use Rattle.std.specs.Prelude.{◌+◌, ℕ}

-- the head of the volume
abbrev pub at_head : ℕ
at_head = 0

-- the gate of the journal
abbrev pub at_gate : ℕ
at_gate = 1

-- the header of the journal
abbrev pub at_header : ℕ
at_header = 2

-- the first of the journal's contents, one sector for each home of a transaction
abbrev pub first_content : ℕ
first_content = 3

-- the journal's own sectors: the gate, the header and the contents
abbrev pub journal_sectors : ℕ
journal_sectors = 18

-- the block map
abbrev pub at_map : ℕ
at_map = 19

-- the slot of client 0
abbrev pub first_slot : ℕ
first_slot = 20

-- inode 0, the root
abbrev pub first_inode : ℕ
first_inode = 36

-- data block 0
abbrev pub first_block : ℕ
first_block = 548

-- a client's slot
abbrev pub at_slot : ℕ → ℕ
at_slot client = first_slot + client

-- an inode
abbrev pub at_inode : ℕ → ℕ
at_inode number = first_inode + number

-- a data block
abbrev pub at_block : ℕ → ℕ
at_block block = first_block + block

-- the data block that a pointer names: pointer 1 names block 0
abbrev pub at_pointer : ℕ → ℕ
at_pointer pointer = 547 + pointer
