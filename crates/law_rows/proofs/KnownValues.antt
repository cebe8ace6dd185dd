-- The values of the folds after each step: what known0 to known25 tell of the traces of so many steps.
use Rattle.std.proofs.Common.{[], ◌∷◌, false, List, Option, Some, None, nat_eq, if◌then◌else◌}
use Rattle.std.specs.Prelude.{replicate, slice_set, map}
use Rattle.message.specs.declared.message.Message.TheVariants.{Flush, Flushed}
use Rattle.rebuild.specs.Collecting.{Collecting}
use Rattle.token_kind.specs.declared.«class».Class.TheVariants.{Names, Data, Attr, Open}
use Rattle.token_kind.specs.declared.hold.Hold.TheVariants.{Read, Write}
use Rattle.token_table.specs.Series.{with_holds as with_tokens, with_lowered}
use Rattle.token_table.specs.Table.{Table, key_of}
use Rattle.tree_law.specs.FileState.{FileState, new_file}
use Rattle.tree_law.specs.Tree.{empty_tree, no_descriptors, root}
use Rattle.tree_law.specs.declared.descriptor.Descriptor.{Descriptor}
use Rattle.tree_law.specs.declared.mode.Mode.TheVariants.{R, Rw}
use Rattle.tree_law.specs.declared.request.Asked.TheVariants.{Want as Wants}
use Rattle.tree_law.specs.declared.request.Want.TheVariants.{Read as ReadWant}
use Rattle.token_table.specs.declared.hold_key.HoldKey.{HoldKey}
use Rattle.token_kind.specs.declared.hold.Hold.{Hold}
use Rattle.tree_law.specs.declared.mode.Mode.{Mode}
use Rattle.volume_edit.specs.Edit.{edited}
use Rattle.cluster_law.specs.Book.{Book, empty_book, with_hold}
use Rattle.cluster_law.specs.ClientState.{first_client}
use Rattle.cluster_law.specs.Lanes.{Down, Up}
use Rattle.cluster_law.specs.ServerState.{as_request, empty_table, granted_token, left_by, serving}
use Rattle.law_rows.proofs.Knowing.{Known, tree_with}
use Rattle.law_rows.specs.CreateFile as creating
use Rattle.law_rows.specs.ForeignRead.{Homes, asks_open, asks_read, asks_write, disk_created, disk_flushed, flush, flushing, grants_open, grants_read, grants_write, hi, bytes_item, size_item, names_item, open_item, lane, open_to_read, open_to_write, read, reader, revokes_write, with_file, write, writer}
use Rattle.delayed_write.specs.Marks.{marked_by_write, no_marks}
use Rattle.law_rows.specs.Formatted.{Sectors, first_disk, formatted}
use Rattle.law_rows.specs.Packets.{acknowledging, carrying}

abbrev pub collected : Table → Collecting
collected table = record (serving 4 (formatted 2) []).collecting { table = table }

abbrev pub table_opened : Table
table_opened = with_tokens empty_table writer (map granted_token (names_item ∷ open_item ∷ []))

abbrev pub table_written : Table
table_written = with_tokens table_opened writer (map granted_token (bytes_item Write [] ∷ size_item Write 0 ∷ []))

abbrev pub table_both : Table
table_both = with_tokens table_written reader (map granted_token (names_item ∷ open_item ∷ []))

abbrev pub table_read : Table
table_read = with_tokens (with_lowered table_both writer creating.made (left_by flush)) reader (map granted_token (bytes_item Read hi ∷ size_item Read 2 ∷ []))

abbrev pub asked_down : List (HoldKey × Hold)
asked_down = (key_of writer creating.made Attr, Read) ∷ (key_of writer creating.made Data, Read) ∷ []

abbrev pub opened : List (Option Descriptor) → Mode → List (Option Descriptor)
opened table mode = slice_set table 0 (Some (record { ino = creating.made; mode = mode }))

abbrev pub tables_opened : List (List (Option Descriptor))
tables_opened = slice_set (replicate 16 no_descriptors) 0 (opened no_descriptors Rw)

abbrev pub tables_both : List (List (Option Descriptor))
tables_both = slice_set tables_opened 1 (opened no_descriptors R)

abbrev pub unflushed : FileState
unflushed = record { contents = hi; kept = []; writer = Some writer }

abbrev pub flushed : FileState
flushed = record { contents = hi; kept = hi; writer = None }

abbrev pub with_open : Book
with_open = record empty_book { holds = with_hold (with_hold empty_book.holds root Names Read) creating.made Open Read }

abbrev pub written_to : Book
written_to = record with_open {
  holds = with_hold (with_hold with_open.holds creating.made Data Write) creating.made Attr Write;
  marks = λ i. if nat_eq i.0 1 then marked_by_write no_marks 0 2 else no_marks;
}

abbrev pub under_way : Book
under_way = record written_to {
  flushing = record { number = 1; ino = creating.made; leave_data = Read; leave_attr = Read } ∷ [];
  marks = λ i. if nat_eq i.0 1 then no_marks else written_to.marks i;
  flushes = 1;
}

abbrev pub given_back : Book
given_back = record under_way { holds = with_hold (with_hold under_way.holds creating.made Data Read) creating.made Attr Read; flushing = [] }

abbrev pub with_read : Book
with_read = record with_open { holds = with_hold (with_hold with_open.holds creating.made Data Read) creating.made Attr Read }

abbrev pub known0 : Sectors → Homes → Known
known0 s h = record {
  packets = [];
  up0 = record { made = []; taken = 0; acked = 0 };
  down0 = record { made = []; taken = 0; acked = 0 };
  up1 = record { made = []; taken = 0; acked = 0 };
  down1 = record { made = []; taken = 0; acked = 0 };
  client0 = first_client;
  client1 = first_client;
  collecting = collected empty_table;
  requests = [];
  asked = [];
  volume = formatted 2;
  tree = empty_tree;
  disk = first_disk s;
}

abbrev pub known1 : Sectors → Homes → Known
known1 s h = record {
  packets = carrying (lane 0 Up) 1 0 creating.asked ∷ [];
  up0 = record { made = creating.asked ∷ []; taken = 0; acked = 0 };
  down0 = record { made = []; taken = 0; acked = 0 };
  up1 = record { made = []; taken = 0; acked = 0 };
  down1 = record { made = []; taken = 0; acked = 0 };
  client0 = record { moving = false; calls = 1; call = Some creating.create; request = Some creating.asked; waits = false; book = empty_book };
  client1 = first_client;
  collecting = collected empty_table;
  requests = [];
  asked = [];
  volume = formatted 2;
  tree = empty_tree;
  disk = first_disk s;
}

abbrev pub known2 : Sectors → Homes → Known
known2 s h = record {
  packets = carrying (lane 0 Up) 1 0 creating.asked ∷ carrying (lane 0 Down) 1 1 creating.told ∷ [];
  up0 = record { made = creating.asked ∷ []; taken = 1; acked = 0 };
  down0 = record { made = creating.told ∷ []; taken = 0; acked = 0 };
  up1 = record { made = []; taken = 0; acked = 0 };
  down1 = record { made = []; taken = 0; acked = 0 };
  client0 = record { moving = false; calls = 1; call = Some creating.create; request = Some creating.asked; waits = false; book = empty_book };
  client1 = first_client;
  collecting = collected empty_table;
  requests = [];
  asked = [];
  volume = with_file;
  tree = tree_with new_file (replicate 16 no_descriptors);
  disk = disk_created s h;
}

abbrev pub known3 : Sectors → Homes → Known
known3 s h = record {
  packets = carrying (lane 0 Up) 1 0 creating.asked ∷ carrying (lane 0 Down) 1 1 creating.told ∷ acknowledging (lane 0 Up) 1 ∷ [];
  up0 = record { made = creating.asked ∷ []; taken = 1; acked = 1 };
  down0 = record { made = creating.told ∷ []; taken = 1; acked = 0 };
  up1 = record { made = []; taken = 0; acked = 0 };
  down1 = record { made = []; taken = 0; acked = 0 };
  client0 = record { moving = false; calls = 1; call = None; request = None; waits = false; book = empty_book };
  client1 = first_client;
  collecting = collected empty_table;
  requests = [];
  asked = [];
  volume = with_file;
  tree = tree_with new_file (replicate 16 no_descriptors);
  disk = disk_created s h;
}

abbrev pub known4 : Sectors → Homes → Known
known4 s h = record {
  packets = carrying (lane 0 Up) 1 0 creating.asked ∷ carrying (lane 0 Down) 1 1 creating.told ∷ acknowledging (lane 0 Up) 1 ∷ [];
  up0 = record { made = creating.asked ∷ []; taken = 1; acked = 1 };
  down0 = record { made = creating.told ∷ []; taken = 1; acked = 1 };
  up1 = record { made = []; taken = 0; acked = 0 };
  down1 = record { made = []; taken = 0; acked = 0 };
  client0 = record { moving = false; calls = 1; call = None; request = None; waits = false; book = empty_book };
  client1 = first_client;
  collecting = collected empty_table;
  requests = [];
  asked = [];
  volume = with_file;
  tree = tree_with new_file (replicate 16 no_descriptors);
  disk = disk_created s h;
}

abbrev pub known5 : Sectors → Homes → Known
known5 s h = record {
  packets = carrying (lane 0 Up) 1 0 creating.asked ∷ carrying (lane 0 Down) 1 1 creating.told ∷ acknowledging (lane 0 Up) 1 ∷ carrying (lane 0 Up) 2 1 (asks_open 2) ∷ [];
  up0 = record { made = creating.asked ∷ (asks_open 2) ∷ []; taken = 1; acked = 1 };
  down0 = record { made = creating.told ∷ []; taken = 1; acked = 1 };
  up1 = record { made = []; taken = 0; acked = 0 };
  down1 = record { made = []; taken = 0; acked = 0 };
  client0 = record { moving = false; calls = 2; call = Some open_to_write; request = Some (asks_open 2); waits = false; book = empty_book };
  client1 = first_client;
  collecting = collected empty_table;
  requests = [];
  asked = [];
  volume = with_file;
  tree = tree_with new_file (replicate 16 no_descriptors);
  disk = disk_created s h;
}

abbrev pub known6 : Sectors → Homes → Known
known6 s h = record {
  packets = carrying (lane 0 Up) 1 0 creating.asked ∷ carrying (lane 0 Down) 1 1 creating.told ∷ acknowledging (lane 0 Up) 1 ∷ carrying (lane 0 Up) 2 1 (asks_open 2) ∷ carrying (lane 0 Down) 2 2 (grants_open 2) ∷ [];
  up0 = record { made = creating.asked ∷ (asks_open 2) ∷ []; taken = 2; acked = 1 };
  down0 = record { made = creating.told ∷ (grants_open 2) ∷ []; taken = 1; acked = 1 };
  up1 = record { made = []; taken = 0; acked = 0 };
  down1 = record { made = []; taken = 0; acked = 0 };
  client0 = record { moving = false; calls = 2; call = Some open_to_write; request = Some (asks_open 2); waits = false; book = empty_book };
  client1 = first_client;
  collecting = collected table_opened;
  requests = [];
  asked = [];
  volume = with_file;
  tree = tree_with new_file (replicate 16 no_descriptors);
  disk = disk_created s h;
}

abbrev pub known7 : Sectors → Homes → Known
known7 s h = record {
  packets = carrying (lane 0 Up) 1 0 creating.asked ∷ carrying (lane 0 Down) 1 1 creating.told ∷ acknowledging (lane 0 Up) 1 ∷ carrying (lane 0 Up) 2 1 (asks_open 2) ∷ carrying (lane 0 Down) 2 2 (grants_open 2) ∷ acknowledging (lane 0 Up) 2 ∷ [];
  up0 = record { made = creating.asked ∷ (asks_open 2) ∷ []; taken = 2; acked = 2 };
  down0 = record { made = creating.told ∷ (grants_open 2) ∷ []; taken = 2; acked = 1 };
  up1 = record { made = []; taken = 0; acked = 0 };
  down1 = record { made = []; taken = 0; acked = 0 };
  client0 = record { moving = false; calls = 2; call = None; request = None; waits = false; book = with_open };
  client1 = first_client;
  collecting = collected table_opened;
  requests = [];
  asked = [];
  volume = with_file;
  tree = tree_with new_file (tables_opened);
  disk = disk_created s h;
}

abbrev pub known8 : Sectors → Homes → Known
known8 s h = record {
  packets = carrying (lane 0 Up) 1 0 creating.asked ∷ carrying (lane 0 Down) 1 1 creating.told ∷ acknowledging (lane 0 Up) 1 ∷ carrying (lane 0 Up) 2 1 (asks_open 2) ∷ carrying (lane 0 Down) 2 2 (grants_open 2) ∷ acknowledging (lane 0 Up) 2 ∷ [];
  up0 = record { made = creating.asked ∷ (asks_open 2) ∷ []; taken = 2; acked = 2 };
  down0 = record { made = creating.told ∷ (grants_open 2) ∷ []; taken = 2; acked = 2 };
  up1 = record { made = []; taken = 0; acked = 0 };
  down1 = record { made = []; taken = 0; acked = 0 };
  client0 = record { moving = false; calls = 2; call = None; request = None; waits = false; book = with_open };
  client1 = first_client;
  collecting = collected table_opened;
  requests = [];
  asked = [];
  volume = with_file;
  tree = tree_with new_file (tables_opened);
  disk = disk_created s h;
}

abbrev pub known9 : Sectors → Homes → Known
known9 s h = record {
  packets = carrying (lane 0 Up) 1 0 creating.asked ∷ carrying (lane 0 Down) 1 1 creating.told ∷ acknowledging (lane 0 Up) 1 ∷ carrying (lane 0 Up) 2 1 (asks_open 2) ∷ carrying (lane 0 Down) 2 2 (grants_open 2) ∷ acknowledging (lane 0 Up) 2 ∷ carrying (lane 0 Up) 3 2 asks_write ∷ [];
  up0 = record { made = creating.asked ∷ (asks_open 2) ∷ asks_write ∷ []; taken = 2; acked = 2 };
  down0 = record { made = creating.told ∷ (grants_open 2) ∷ []; taken = 2; acked = 2 };
  up1 = record { made = []; taken = 0; acked = 0 };
  down1 = record { made = []; taken = 0; acked = 0 };
  client0 = record { moving = false; calls = 3; call = Some write; request = Some asks_write; waits = false; book = with_open };
  client1 = first_client;
  collecting = collected table_opened;
  requests = [];
  asked = [];
  volume = with_file;
  tree = tree_with new_file (tables_opened);
  disk = disk_created s h;
}

abbrev pub known10 : Sectors → Homes → Known
known10 s h = record {
  packets = carrying (lane 0 Up) 1 0 creating.asked ∷ carrying (lane 0 Down) 1 1 creating.told ∷ acknowledging (lane 0 Up) 1 ∷ carrying (lane 0 Up) 2 1 (asks_open 2) ∷ carrying (lane 0 Down) 2 2 (grants_open 2) ∷ acknowledging (lane 0 Up) 2 ∷ carrying (lane 0 Up) 3 2 asks_write ∷ carrying (lane 0 Down) 3 3 grants_write ∷ [];
  up0 = record { made = creating.asked ∷ (asks_open 2) ∷ asks_write ∷ []; taken = 3; acked = 2 };
  down0 = record { made = creating.told ∷ (grants_open 2) ∷ grants_write ∷ []; taken = 2; acked = 2 };
  up1 = record { made = []; taken = 0; acked = 0 };
  down1 = record { made = []; taken = 0; acked = 0 };
  client0 = record { moving = false; calls = 3; call = Some write; request = Some asks_write; waits = false; book = with_open };
  client1 = first_client;
  collecting = collected table_written;
  requests = [];
  asked = [];
  volume = with_file;
  tree = tree_with new_file (tables_opened);
  disk = disk_created s h;
}

abbrev pub known11 : Sectors → Homes → Known
known11 s h = record {
  packets = carrying (lane 0 Up) 1 0 creating.asked ∷ carrying (lane 0 Down) 1 1 creating.told ∷ acknowledging (lane 0 Up) 1 ∷ carrying (lane 0 Up) 2 1 (asks_open 2) ∷ carrying (lane 0 Down) 2 2 (grants_open 2) ∷ acknowledging (lane 0 Up) 2 ∷ carrying (lane 0 Up) 3 2 asks_write ∷ carrying (lane 0 Down) 3 3 grants_write ∷ acknowledging (lane 0 Up) 3 ∷ [];
  up0 = record { made = creating.asked ∷ (asks_open 2) ∷ asks_write ∷ []; taken = 3; acked = 3 };
  down0 = record { made = creating.told ∷ (grants_open 2) ∷ grants_write ∷ []; taken = 3; acked = 2 };
  up1 = record { made = []; taken = 0; acked = 0 };
  down1 = record { made = []; taken = 0; acked = 0 };
  client0 = record { moving = false; calls = 3; call = None; request = None; waits = false; book = written_to };
  client1 = first_client;
  collecting = collected table_written;
  requests = [];
  asked = [];
  volume = with_file;
  tree = tree_with unflushed tables_opened;
  disk = disk_created s h;
}

abbrev pub known12 : Sectors → Homes → Known
known12 s h = record {
  packets = carrying (lane 0 Up) 1 0 creating.asked ∷ carrying (lane 0 Down) 1 1 creating.told ∷ acknowledging (lane 0 Up) 1 ∷ carrying (lane 0 Up) 2 1 (asks_open 2) ∷ carrying (lane 0 Down) 2 2 (grants_open 2) ∷ acknowledging (lane 0 Up) 2 ∷ carrying (lane 0 Up) 3 2 asks_write ∷ carrying (lane 0 Down) 3 3 grants_write ∷ acknowledging (lane 0 Up) 3 ∷ [];
  up0 = record { made = creating.asked ∷ (asks_open 2) ∷ asks_write ∷ []; taken = 3; acked = 3 };
  down0 = record { made = creating.told ∷ (grants_open 2) ∷ grants_write ∷ []; taken = 3; acked = 3 };
  up1 = record { made = []; taken = 0; acked = 0 };
  down1 = record { made = []; taken = 0; acked = 0 };
  client0 = record { moving = false; calls = 3; call = None; request = None; waits = false; book = written_to };
  client1 = first_client;
  collecting = collected table_written;
  requests = [];
  asked = [];
  volume = with_file;
  tree = tree_with unflushed tables_opened;
  disk = disk_created s h;
}

abbrev pub known13 : Sectors → Homes → Known
known13 s h = record {
  packets = carrying (lane 0 Up) 1 0 creating.asked ∷ carrying (lane 0 Down) 1 1 creating.told ∷ acknowledging (lane 0 Up) 1 ∷ carrying (lane 0 Up) 2 1 (asks_open 2) ∷ carrying (lane 0 Down) 2 2 (grants_open 2) ∷ acknowledging (lane 0 Up) 2 ∷ carrying (lane 0 Up) 3 2 asks_write ∷ carrying (lane 0 Down) 3 3 grants_write ∷ acknowledging (lane 0 Up) 3 ∷ carrying (lane 1 Up) 1 0 (asks_open 1) ∷ [];
  up0 = record { made = creating.asked ∷ (asks_open 2) ∷ asks_write ∷ []; taken = 3; acked = 3 };
  down0 = record { made = creating.told ∷ (grants_open 2) ∷ grants_write ∷ []; taken = 3; acked = 3 };
  up1 = record { made = (asks_open 1) ∷ []; taken = 0; acked = 0 };
  down1 = record { made = []; taken = 0; acked = 0 };
  client0 = record { moving = false; calls = 3; call = None; request = None; waits = false; book = written_to };
  client1 = record { moving = false; calls = 1; call = Some open_to_read; request = Some (asks_open 1); waits = false; book = empty_book };
  collecting = collected table_written;
  requests = [];
  asked = [];
  volume = with_file;
  tree = tree_with unflushed tables_opened;
  disk = disk_created s h;
}

abbrev pub known14 : Sectors → Homes → Known
known14 s h = record {
  packets = carrying (lane 0 Up) 1 0 creating.asked ∷ carrying (lane 0 Down) 1 1 creating.told ∷ acknowledging (lane 0 Up) 1 ∷ carrying (lane 0 Up) 2 1 (asks_open 2) ∷ carrying (lane 0 Down) 2 2 (grants_open 2) ∷ acknowledging (lane 0 Up) 2 ∷ carrying (lane 0 Up) 3 2 asks_write ∷ carrying (lane 0 Down) 3 3 grants_write ∷ acknowledging (lane 0 Up) 3 ∷ carrying (lane 1 Up) 1 0 (asks_open 1) ∷ carrying (lane 1 Down) 1 1 (grants_open 1) ∷ [];
  up0 = record { made = creating.asked ∷ (asks_open 2) ∷ asks_write ∷ []; taken = 3; acked = 3 };
  down0 = record { made = creating.told ∷ (grants_open 2) ∷ grants_write ∷ []; taken = 3; acked = 3 };
  up1 = record { made = (asks_open 1) ∷ []; taken = 1; acked = 0 };
  down1 = record { made = (grants_open 1) ∷ []; taken = 0; acked = 0 };
  client0 = record { moving = false; calls = 3; call = None; request = None; waits = false; book = written_to };
  client1 = record { moving = false; calls = 1; call = Some open_to_read; request = Some (asks_open 1); waits = false; book = empty_book };
  collecting = collected table_both;
  requests = [];
  asked = [];
  volume = with_file;
  tree = tree_with unflushed tables_opened;
  disk = disk_created s h;
}

abbrev pub known15 : Sectors → Homes → Known
known15 s h = record {
  packets = carrying (lane 0 Up) 1 0 creating.asked ∷ carrying (lane 0 Down) 1 1 creating.told ∷ acknowledging (lane 0 Up) 1 ∷ carrying (lane 0 Up) 2 1 (asks_open 2) ∷ carrying (lane 0 Down) 2 2 (grants_open 2) ∷ acknowledging (lane 0 Up) 2 ∷ carrying (lane 0 Up) 3 2 asks_write ∷ carrying (lane 0 Down) 3 3 grants_write ∷ acknowledging (lane 0 Up) 3 ∷ carrying (lane 1 Up) 1 0 (asks_open 1) ∷ carrying (lane 1 Down) 1 1 (grants_open 1) ∷ acknowledging (lane 1 Up) 1 ∷ [];
  up0 = record { made = creating.asked ∷ (asks_open 2) ∷ asks_write ∷ []; taken = 3; acked = 3 };
  down0 = record { made = creating.told ∷ (grants_open 2) ∷ grants_write ∷ []; taken = 3; acked = 3 };
  up1 = record { made = (asks_open 1) ∷ []; taken = 1; acked = 1 };
  down1 = record { made = (grants_open 1) ∷ []; taken = 1; acked = 0 };
  client0 = record { moving = false; calls = 3; call = None; request = None; waits = false; book = written_to };
  client1 = record { moving = false; calls = 1; call = None; request = None; waits = false; book = with_open };
  collecting = collected table_both;
  requests = [];
  asked = [];
  volume = with_file;
  tree = tree_with unflushed tables_both;
  disk = disk_created s h;
}

abbrev pub known16 : Sectors → Homes → Known
known16 s h = record {
  packets = carrying (lane 0 Up) 1 0 creating.asked ∷ carrying (lane 0 Down) 1 1 creating.told ∷ acknowledging (lane 0 Up) 1 ∷ carrying (lane 0 Up) 2 1 (asks_open 2) ∷ carrying (lane 0 Down) 2 2 (grants_open 2) ∷ acknowledging (lane 0 Up) 2 ∷ carrying (lane 0 Up) 3 2 asks_write ∷ carrying (lane 0 Down) 3 3 grants_write ∷ acknowledging (lane 0 Up) 3 ∷ carrying (lane 1 Up) 1 0 (asks_open 1) ∷ carrying (lane 1 Down) 1 1 (grants_open 1) ∷ acknowledging (lane 1 Up) 1 ∷ [];
  up0 = record { made = creating.asked ∷ (asks_open 2) ∷ asks_write ∷ []; taken = 3; acked = 3 };
  down0 = record { made = creating.told ∷ (grants_open 2) ∷ grants_write ∷ []; taken = 3; acked = 3 };
  up1 = record { made = (asks_open 1) ∷ []; taken = 1; acked = 1 };
  down1 = record { made = (grants_open 1) ∷ []; taken = 1; acked = 1 };
  client0 = record { moving = false; calls = 3; call = None; request = None; waits = false; book = written_to };
  client1 = record { moving = false; calls = 1; call = None; request = None; waits = false; book = with_open };
  collecting = collected table_both;
  requests = [];
  asked = [];
  volume = with_file;
  tree = tree_with unflushed tables_both;
  disk = disk_created s h;
}

abbrev pub known17 : Sectors → Homes → Known
known17 s h = record {
  packets = carrying (lane 0 Up) 1 0 creating.asked ∷ carrying (lane 0 Down) 1 1 creating.told ∷ acknowledging (lane 0 Up) 1 ∷ carrying (lane 0 Up) 2 1 (asks_open 2) ∷ carrying (lane 0 Down) 2 2 (grants_open 2) ∷ acknowledging (lane 0 Up) 2 ∷ carrying (lane 0 Up) 3 2 asks_write ∷ carrying (lane 0 Down) 3 3 grants_write ∷ acknowledging (lane 0 Up) 3 ∷ carrying (lane 1 Up) 1 0 (asks_open 1) ∷ carrying (lane 1 Down) 1 1 (grants_open 1) ∷ acknowledging (lane 1 Up) 1 ∷ carrying (lane 1 Up) 2 1 asks_read ∷ [];
  up0 = record { made = creating.asked ∷ (asks_open 2) ∷ asks_write ∷ []; taken = 3; acked = 3 };
  down0 = record { made = creating.told ∷ (grants_open 2) ∷ grants_write ∷ []; taken = 3; acked = 3 };
  up1 = record { made = (asks_open 1) ∷ asks_read ∷ []; taken = 1; acked = 1 };
  down1 = record { made = (grants_open 1) ∷ []; taken = 1; acked = 1 };
  client0 = record { moving = false; calls = 3; call = None; request = None; waits = false; book = written_to };
  client1 = record { moving = false; calls = 2; call = Some read; request = Some asks_read; waits = false; book = with_open };
  collecting = collected table_both;
  requests = [];
  asked = [];
  volume = with_file;
  tree = tree_with unflushed tables_both;
  disk = disk_created s h;
}

abbrev pub known18 : Sectors → Homes → Known
known18 s h = record {
  packets = carrying (lane 0 Up) 1 0 creating.asked ∷ carrying (lane 0 Down) 1 1 creating.told ∷ acknowledging (lane 0 Up) 1 ∷ carrying (lane 0 Up) 2 1 (asks_open 2) ∷ carrying (lane 0 Down) 2 2 (grants_open 2) ∷ acknowledging (lane 0 Up) 2 ∷ carrying (lane 0 Up) 3 2 asks_write ∷ carrying (lane 0 Down) 3 3 grants_write ∷ acknowledging (lane 0 Up) 3 ∷ carrying (lane 1 Up) 1 0 (asks_open 1) ∷ carrying (lane 1 Down) 1 1 (grants_open 1) ∷ acknowledging (lane 1 Up) 1 ∷ carrying (lane 1 Up) 2 1 asks_read ∷ carrying (lane 0 Down) 4 3 revokes_write ∷ acknowledging (lane 1 Down) 2 ∷ [];
  up0 = record { made = creating.asked ∷ (asks_open 2) ∷ asks_write ∷ []; taken = 3; acked = 3 };
  down0 = record { made = creating.told ∷ (grants_open 2) ∷ grants_write ∷ revokes_write ∷ []; taken = 3; acked = 3 };
  up1 = record { made = (asks_open 1) ∷ asks_read ∷ []; taken = 2; acked = 1 };
  down1 = record { made = (grants_open 1) ∷ []; taken = 1; acked = 1 };
  client0 = record { moving = false; calls = 3; call = None; request = None; waits = false; book = written_to };
  client1 = record { moving = false; calls = 2; call = Some read; request = Some asks_read; waits = false; book = with_open };
  collecting = collected table_both;
  requests = as_request reader 2 (Wants (ReadWant creating.made)) ∷ [];
  asked = asked_down;
  volume = with_file;
  tree = tree_with unflushed tables_both;
  disk = disk_created s h;
}

abbrev pub known19 : Sectors → Homes → Known
known19 s h = record {
  packets = carrying (lane 0 Up) 1 0 creating.asked ∷ carrying (lane 0 Down) 1 1 creating.told ∷ acknowledging (lane 0 Up) 1 ∷ carrying (lane 0 Up) 2 1 (asks_open 2) ∷ carrying (lane 0 Down) 2 2 (grants_open 2) ∷ acknowledging (lane 0 Up) 2 ∷ carrying (lane 0 Up) 3 2 asks_write ∷ carrying (lane 0 Down) 3 3 grants_write ∷ acknowledging (lane 0 Up) 3 ∷ carrying (lane 1 Up) 1 0 (asks_open 1) ∷ carrying (lane 1 Down) 1 1 (grants_open 1) ∷ acknowledging (lane 1 Up) 1 ∷ carrying (lane 1 Up) 2 1 asks_read ∷ carrying (lane 0 Down) 4 3 revokes_write ∷ acknowledging (lane 1 Down) 2 ∷ carrying (lane 0 Up) 4 4 (Flush flush) ∷ [];
  up0 = record { made = creating.asked ∷ (asks_open 2) ∷ asks_write ∷ (Flush flush) ∷ []; taken = 3; acked = 3 };
  down0 = record { made = creating.told ∷ (grants_open 2) ∷ grants_write ∷ revokes_write ∷ []; taken = 4; acked = 3 };
  up1 = record { made = (asks_open 1) ∷ asks_read ∷ []; taken = 2; acked = 1 };
  down1 = record { made = (grants_open 1) ∷ []; taken = 1; acked = 1 };
  client0 = record { moving = false; calls = 3; call = None; request = None; waits = false; book = under_way };
  client1 = record { moving = false; calls = 2; call = Some read; request = Some asks_read; waits = false; book = with_open };
  collecting = collected table_both;
  requests = as_request reader 2 (Wants (ReadWant creating.made)) ∷ [];
  asked = asked_down;
  volume = with_file;
  tree = tree_with unflushed tables_both;
  disk = disk_created s h;
}

abbrev pub known20 : Sectors → Homes → Known
known20 s h = record {
  packets = carrying (lane 0 Up) 1 0 creating.asked ∷ carrying (lane 0 Down) 1 1 creating.told ∷ acknowledging (lane 0 Up) 1 ∷ carrying (lane 0 Up) 2 1 (asks_open 2) ∷ carrying (lane 0 Down) 2 2 (grants_open 2) ∷ acknowledging (lane 0 Up) 2 ∷ carrying (lane 0 Up) 3 2 asks_write ∷ carrying (lane 0 Down) 3 3 grants_write ∷ acknowledging (lane 0 Up) 3 ∷ carrying (lane 1 Up) 1 0 (asks_open 1) ∷ carrying (lane 1 Down) 1 1 (grants_open 1) ∷ acknowledging (lane 1 Up) 1 ∷ carrying (lane 1 Up) 2 1 asks_read ∷ carrying (lane 0 Down) 4 3 revokes_write ∷ acknowledging (lane 1 Down) 2 ∷ carrying (lane 0 Up) 4 4 (Flush flush) ∷ [];
  up0 = record { made = creating.asked ∷ (asks_open 2) ∷ asks_write ∷ (Flush flush) ∷ []; taken = 3; acked = 3 };
  down0 = record { made = creating.told ∷ (grants_open 2) ∷ grants_write ∷ revokes_write ∷ []; taken = 4; acked = 3 };
  up1 = record { made = (asks_open 1) ∷ asks_read ∷ []; taken = 2; acked = 2 };
  down1 = record { made = (grants_open 1) ∷ []; taken = 1; acked = 1 };
  client0 = record { moving = false; calls = 3; call = None; request = None; waits = false; book = under_way };
  client1 = record { moving = false; calls = 2; call = Some read; request = Some asks_read; waits = false; book = with_open };
  collecting = collected table_both;
  requests = as_request reader 2 (Wants (ReadWant creating.made)) ∷ [];
  asked = asked_down;
  volume = with_file;
  tree = tree_with unflushed tables_both;
  disk = disk_created s h;
}

abbrev pub known21 : Sectors → Homes → Known
known21 s h = record {
  packets = carrying (lane 0 Up) 1 0 creating.asked ∷ carrying (lane 0 Down) 1 1 creating.told ∷ acknowledging (lane 0 Up) 1 ∷ carrying (lane 0 Up) 2 1 (asks_open 2) ∷ carrying (lane 0 Down) 2 2 (grants_open 2) ∷ acknowledging (lane 0 Up) 2 ∷ carrying (lane 0 Up) 3 2 asks_write ∷ carrying (lane 0 Down) 3 3 grants_write ∷ acknowledging (lane 0 Up) 3 ∷ carrying (lane 1 Up) 1 0 (asks_open 1) ∷ carrying (lane 1 Down) 1 1 (grants_open 1) ∷ acknowledging (lane 1 Up) 1 ∷ carrying (lane 1 Up) 2 1 asks_read ∷ carrying (lane 0 Down) 4 3 revokes_write ∷ acknowledging (lane 1 Down) 2 ∷ carrying (lane 0 Up) 4 4 (Flush flush) ∷ carrying (lane 0 Down) 5 4 (Flushed 1) ∷ carrying (lane 1 Down) 2 2 grants_read ∷ [];
  up0 = record { made = creating.asked ∷ (asks_open 2) ∷ asks_write ∷ (Flush flush) ∷ []; taken = 4; acked = 3 };
  down0 = record { made = creating.told ∷ (grants_open 2) ∷ grants_write ∷ revokes_write ∷ (Flushed 1) ∷ []; taken = 4; acked = 4 };
  up1 = record { made = (asks_open 1) ∷ asks_read ∷ []; taken = 2; acked = 2 };
  down1 = record { made = (grants_open 1) ∷ grants_read ∷ []; taken = 1; acked = 1 };
  client0 = record { moving = false; calls = 3; call = None; request = None; waits = false; book = under_way };
  client1 = record { moving = false; calls = 2; call = Some read; request = Some asks_read; waits = false; book = with_open };
  collecting = collected table_read;
  requests = [];
  asked = [];
  volume = edited with_file flushing;
  tree = tree_with flushed tables_both;
  disk = disk_flushed s h;
}

abbrev pub known22 : Sectors → Homes → Known
known22 s h = record {
  packets = carrying (lane 0 Up) 1 0 creating.asked ∷ carrying (lane 0 Down) 1 1 creating.told ∷ acknowledging (lane 0 Up) 1 ∷ carrying (lane 0 Up) 2 1 (asks_open 2) ∷ carrying (lane 0 Down) 2 2 (grants_open 2) ∷ acknowledging (lane 0 Up) 2 ∷ carrying (lane 0 Up) 3 2 asks_write ∷ carrying (lane 0 Down) 3 3 grants_write ∷ acknowledging (lane 0 Up) 3 ∷ carrying (lane 1 Up) 1 0 (asks_open 1) ∷ carrying (lane 1 Down) 1 1 (grants_open 1) ∷ acknowledging (lane 1 Up) 1 ∷ carrying (lane 1 Up) 2 1 asks_read ∷ carrying (lane 0 Down) 4 3 revokes_write ∷ acknowledging (lane 1 Down) 2 ∷ carrying (lane 0 Up) 4 4 (Flush flush) ∷ carrying (lane 0 Down) 5 4 (Flushed 1) ∷ carrying (lane 1 Down) 2 2 grants_read ∷ acknowledging (lane 0 Up) 5 ∷ [];
  up0 = record { made = creating.asked ∷ (asks_open 2) ∷ asks_write ∷ (Flush flush) ∷ []; taken = 4; acked = 4 };
  down0 = record { made = creating.told ∷ (grants_open 2) ∷ grants_write ∷ revokes_write ∷ (Flushed 1) ∷ []; taken = 5; acked = 4 };
  up1 = record { made = (asks_open 1) ∷ asks_read ∷ []; taken = 2; acked = 2 };
  down1 = record { made = (grants_open 1) ∷ grants_read ∷ []; taken = 1; acked = 1 };
  client0 = record { moving = false; calls = 3; call = None; request = None; waits = false; book = given_back };
  client1 = record { moving = false; calls = 2; call = Some read; request = Some asks_read; waits = false; book = with_open };
  collecting = collected table_read;
  requests = [];
  asked = [];
  volume = edited with_file flushing;
  tree = tree_with flushed tables_both;
  disk = disk_flushed s h;
}

abbrev pub known23 : Sectors → Homes → Known
known23 s h = record {
  packets = carrying (lane 0 Up) 1 0 creating.asked ∷ carrying (lane 0 Down) 1 1 creating.told ∷ acknowledging (lane 0 Up) 1 ∷ carrying (lane 0 Up) 2 1 (asks_open 2) ∷ carrying (lane 0 Down) 2 2 (grants_open 2) ∷ acknowledging (lane 0 Up) 2 ∷ carrying (lane 0 Up) 3 2 asks_write ∷ carrying (lane 0 Down) 3 3 grants_write ∷ acknowledging (lane 0 Up) 3 ∷ carrying (lane 1 Up) 1 0 (asks_open 1) ∷ carrying (lane 1 Down) 1 1 (grants_open 1) ∷ acknowledging (lane 1 Up) 1 ∷ carrying (lane 1 Up) 2 1 asks_read ∷ carrying (lane 0 Down) 4 3 revokes_write ∷ acknowledging (lane 1 Down) 2 ∷ carrying (lane 0 Up) 4 4 (Flush flush) ∷ carrying (lane 0 Down) 5 4 (Flushed 1) ∷ carrying (lane 1 Down) 2 2 grants_read ∷ acknowledging (lane 0 Up) 5 ∷ acknowledging (lane 1 Up) 2 ∷ [];
  up0 = record { made = creating.asked ∷ (asks_open 2) ∷ asks_write ∷ (Flush flush) ∷ []; taken = 4; acked = 4 };
  down0 = record { made = creating.told ∷ (grants_open 2) ∷ grants_write ∷ revokes_write ∷ (Flushed 1) ∷ []; taken = 5; acked = 4 };
  up1 = record { made = (asks_open 1) ∷ asks_read ∷ []; taken = 2; acked = 2 };
  down1 = record { made = (grants_open 1) ∷ grants_read ∷ []; taken = 2; acked = 1 };
  client0 = record { moving = false; calls = 3; call = None; request = None; waits = false; book = given_back };
  client1 = record { moving = false; calls = 2; call = None; request = None; waits = false; book = with_read };
  collecting = collected table_read;
  requests = [];
  asked = [];
  volume = edited with_file flushing;
  tree = tree_with flushed tables_both;
  disk = disk_flushed s h;
}

abbrev pub known24 : Sectors → Homes → Known
known24 s h = record {
  packets = carrying (lane 0 Up) 1 0 creating.asked ∷ carrying (lane 0 Down) 1 1 creating.told ∷ acknowledging (lane 0 Up) 1 ∷ carrying (lane 0 Up) 2 1 (asks_open 2) ∷ carrying (lane 0 Down) 2 2 (grants_open 2) ∷ acknowledging (lane 0 Up) 2 ∷ carrying (lane 0 Up) 3 2 asks_write ∷ carrying (lane 0 Down) 3 3 grants_write ∷ acknowledging (lane 0 Up) 3 ∷ carrying (lane 1 Up) 1 0 (asks_open 1) ∷ carrying (lane 1 Down) 1 1 (grants_open 1) ∷ acknowledging (lane 1 Up) 1 ∷ carrying (lane 1 Up) 2 1 asks_read ∷ carrying (lane 0 Down) 4 3 revokes_write ∷ acknowledging (lane 1 Down) 2 ∷ carrying (lane 0 Up) 4 4 (Flush flush) ∷ carrying (lane 0 Down) 5 4 (Flushed 1) ∷ carrying (lane 1 Down) 2 2 grants_read ∷ acknowledging (lane 0 Up) 5 ∷ acknowledging (lane 1 Up) 2 ∷ [];
  up0 = record { made = creating.asked ∷ (asks_open 2) ∷ asks_write ∷ (Flush flush) ∷ []; taken = 4; acked = 4 };
  down0 = record { made = creating.told ∷ (grants_open 2) ∷ grants_write ∷ revokes_write ∷ (Flushed 1) ∷ []; taken = 5; acked = 5 };
  up1 = record { made = (asks_open 1) ∷ asks_read ∷ []; taken = 2; acked = 2 };
  down1 = record { made = (grants_open 1) ∷ grants_read ∷ []; taken = 2; acked = 1 };
  client0 = record { moving = false; calls = 3; call = None; request = None; waits = false; book = given_back };
  client1 = record { moving = false; calls = 2; call = None; request = None; waits = false; book = with_read };
  collecting = collected table_read;
  requests = [];
  asked = [];
  volume = edited with_file flushing;
  tree = tree_with flushed tables_both;
  disk = disk_flushed s h;
}

abbrev pub known25 : Sectors → Homes → Known
known25 s h = record {
  packets = carrying (lane 0 Up) 1 0 creating.asked ∷ carrying (lane 0 Down) 1 1 creating.told ∷ acknowledging (lane 0 Up) 1 ∷ carrying (lane 0 Up) 2 1 (asks_open 2) ∷ carrying (lane 0 Down) 2 2 (grants_open 2) ∷ acknowledging (lane 0 Up) 2 ∷ carrying (lane 0 Up) 3 2 asks_write ∷ carrying (lane 0 Down) 3 3 grants_write ∷ acknowledging (lane 0 Up) 3 ∷ carrying (lane 1 Up) 1 0 (asks_open 1) ∷ carrying (lane 1 Down) 1 1 (grants_open 1) ∷ acknowledging (lane 1 Up) 1 ∷ carrying (lane 1 Up) 2 1 asks_read ∷ carrying (lane 0 Down) 4 3 revokes_write ∷ acknowledging (lane 1 Down) 2 ∷ carrying (lane 0 Up) 4 4 (Flush flush) ∷ carrying (lane 0 Down) 5 4 (Flushed 1) ∷ carrying (lane 1 Down) 2 2 grants_read ∷ acknowledging (lane 0 Up) 5 ∷ acknowledging (lane 1 Up) 2 ∷ [];
  up0 = record { made = creating.asked ∷ (asks_open 2) ∷ asks_write ∷ (Flush flush) ∷ []; taken = 4; acked = 4 };
  down0 = record { made = creating.told ∷ (grants_open 2) ∷ grants_write ∷ revokes_write ∷ (Flushed 1) ∷ []; taken = 5; acked = 5 };
  up1 = record { made = (asks_open 1) ∷ asks_read ∷ []; taken = 2; acked = 2 };
  down1 = record { made = (grants_open 1) ∷ grants_read ∷ []; taken = 2; acked = 2 };
  client0 = record { moving = false; calls = 3; call = None; request = None; waits = false; book = given_back };
  client1 = record { moving = false; calls = 2; call = None; request = None; waits = false; book = with_read };
  collecting = collected table_read;
  requests = [];
  asked = [];
  volume = edited with_file flushing;
  tree = tree_with flushed tables_both;
  disk = disk_flushed s h;
}
