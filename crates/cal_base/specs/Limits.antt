-- The limits of the system, for contracts: the constants of src/limits.rt, by the same words.
use Rattle.std.specs.Prelude.{ℕ}

-- clients of one cluster
abbrev pub clients : ℕ
clients = 16

-- descriptors of one client; they are numbered from 0
abbrev pub descriptors : ℕ
descriptors = 32

-- clients that a server asks for their holds at a time, at most
abbrev pub window : ℕ
window = 8

-- clients that a server asks for their holds at a time, where a script names no window
abbrev pub default_window : ℕ
default_window = 4

-- bytes of a name
abbrev pub name_bytes : ℕ
name_bytes = 27

-- names of a path
abbrev pub path_names : ℕ
path_names = 16

-- bytes of a block and of a sector
abbrev pub block_size : ℕ
block_size = 4096

-- blocks of one file
abbrev pub file_blocks : ℕ
file_blocks = 64

-- bytes of one file
abbrev pub file_size : ℕ
file_size = 262144

-- bytes of one write, at least 1
abbrev pub write_size : ℕ
write_size = 32768

-- blocks of one file that a client may keep unflushed
abbrev pub unflushed_blocks : ℕ
unflushed_blocks = 16

-- entries of one directory
abbrev pub directory_entries : ℕ
directory_entries = 1024

-- blocks of one directory
abbrev pub directory_blocks : ℕ
directory_blocks = 8

-- bytes of the blocks of one directory
abbrev pub directory_size : ℕ
directory_size = 32768

-- slots of one block of a directory
abbrev pub slots_per_block : ℕ
slots_per_block = 128

-- bytes of one slot of a directory
abbrev pub slot_size : ℕ
slot_size = 32

-- inodes of the volume
abbrev pub inodes : ℕ
inodes = 512

-- the greatest inode; the least is 0, the root
abbrev pub last_inode : ℕ
last_inode = 511

-- data blocks of the volume
abbrev pub blocks : ℕ
blocks = 2048

-- bytes of the block map, a bit for each data block
abbrev pub map_size : ℕ
map_size = 256

-- sectors of the disk
abbrev pub sectors : ℕ
sectors = 2596

-- homes of one transaction, at least 1
abbrev pub transaction_homes : ℕ
transaction_homes = 16

-- messages of one session that may be sent and not yet acknowledged
abbrev pub unacknowledged : ℕ
unacknowledged = 8

-- holds in one piece of a client's report
abbrev pub holds_per_piece : ℕ
holds_per_piece = 32

-- lines of a script
abbrev pub script_lines : ℕ
script_lines = 65536

-- bytes of one line of a script, its line feed not counted
abbrev pub line_bytes : ℕ
line_bytes = 70000

-- bytes of a script
abbrev pub script_bytes : ℕ
script_bytes = 67108864
