-- Calls, replies and events without a byte below the space.
use Rattle.std.proofs.Common.{◌≡◌, ◌++◌, ℕ, true, List, [], ◌∷◌, length, All, Option, Some, None, codes, refl, arith}
use Rattle.std.specs.Fmt.{decimal}
use Rattle.std.specs.List.{list_all}
use Rattle.std.proofs.lemmas.List.Elements.{All-head, All-tail}
use Rattle.cal_base.specs.declared.identity.Ino.{Ino}
use Rattle.tree_law.specs.Path.{IsNameByte, IsName, IsPath, path_text, slashed}
use Rattle.tree_law.specs.declared.call.Call.{Call}
use Rattle.tree_law.specs.declared.call.Call.TheVariants.{Create, Mkdir, Unlink, Rmdir, Rename, Open, Close, Read, Write, Truncate, Stat, Readdir, Fsync}
use Rattle.tree_law.specs.declared.mode.Mode.{Mode}
use Rattle.tree_law.specs.declared.mode.Mode.TheVariants.{R, W, Rw}
use Rattle.tree_law.specs.declared.reply.Reply.{Reply}
use Rattle.tree_law.specs.declared.reply.Reply.TheVariants.{Done, Fd, Bytes, Count, File, Dir, Names, Refused}
use Rattle.tree_law.specs.declared.reply.Why.{Why}
use Rattle.tree_law.specs.declared.reply.Why.TheVariants.{Exist, NoEnt, NotDir, IsDir, NotEmpty, Inval, Busy, MFile, BadF, FBig, NoSpace, NoInode, DirFull}
use Rattle.shared_disk.specs.declared.stop.Stop.{Stop}
use Rattle.cluster_law.specs.declared.step.Event.{Event}
use Rattle.cluster_law.specs.declared.step.Event.TheVariants.{Start, Deliver, Tick, Crash, NewView, Gone, WriteBack}
use Rattle.reply_text.specs.Text.{bytes_text, hex_text, reply_text, spaced, why_text}
use Rattle.script.specs.Spelling.{IsCall, client_word, command_of, mode_word, places_of}
use Rattle.trace_text.specs.Calls.{call_text}
use Rattle.trace_text.specs.Entries.{new_text}
use Rattle.trace_text.specs.Events.{event_text, how_text, stop_text}
use Rattle.trace_text.specs.Kinds.{HasCall, HasNames, is_plain}
use Rattle.trace_text.specs.Sectors.{trimmed}
use Rattle.trace_text.proofs.PlainText.{both, plain_both, plain_decimal, plain_four, plain_front, plain_hex, plain_hex_or_dash, plain_spaced, plain_three}

-- names and paths

plain_bytes : (bytes : List ℕ) → All IsNameByte bytes → is_plain bytes ≡ true
plain_bytes [] are = refl
plain_bytes (byte ∷ bytes) are =
    let head : IsNameByte byte = All-head IsNameByte byte bytes are in
    plain_front byte bytes (omega (arith, head)) (plain_bytes bytes (All-tail IsNameByte byte bytes are))

pub plain_names : (names : List (List ℕ)) → All IsName names → list_all is_plain names ≡ true
plain_names [] are = refl
plain_names (name ∷ names) are =
    let head : IsName name = All-head IsName name names are in
    both _ _ (plain_bytes name head.graphic) (plain_names names (All-tail IsName name names are))

plain_slashed : (names : List (List ℕ)) → All IsName names → is_plain (slashed names) ≡ true
plain_slashed [] are = refl
plain_slashed (name ∷ names) are =
    let head : IsName name = All-head IsName name names are in
    plain_front 47 (name ++ slashed names) (omega arith) (plain_both name (slashed names) (plain_bytes name head.graphic) (plain_slashed names (All-tail IsName name names are)))

plain_path : (path : List (List ℕ)) → IsPath path → is_plain (path_text path) ≡ true
plain_path [] is = refl
plain_path (name ∷ names) is = plain_slashed (name ∷ names) is.names

plain_mode : (mode : Mode) → is_plain (mode_word mode) ≡ true
plain_mode R = refl
plain_mode W = refl
plain_mode Rw = refl

-- calls

one_word : (a : List ℕ) → is_plain a ≡ true → list_all is_plain (a ∷ []) ≡ true
one_word a is = both _ _ is refl

two_words : (a b : List ℕ) → is_plain a ≡ true → is_plain b ≡ true → list_all is_plain (a ∷ b ∷ []) ≡ true
two_words a b is_a is_b = both _ _ is_a (one_word b is_b)

three_words : (a b d : List ℕ) → is_plain a ≡ true → is_plain b ≡ true → is_plain d ≡ true → list_all is_plain (a ∷ b ∷ d ∷ []) ≡ true
three_words a b d is_a is_b is_d = both _ _ is_a (two_words b d is_b is_d)

plain_places : (call : Call) → IsCall call → list_all is_plain (places_of call) ≡ true
plain_places (Create path) is = one_word (path_text path) (plain_path path is)
plain_places (Mkdir path) is = one_word (path_text path) (plain_path path is)
plain_places (Unlink path) is = one_word (path_text path) (plain_path path is)
plain_places (Rmdir path) is = one_word (path_text path) (plain_path path is)
plain_places (Rename from to) is = two_words (path_text from) (path_text to) (plain_path from is.0) (plain_path to is.1)
plain_places (Open path mode) is = two_words (path_text path) (mode_word mode) (plain_path path is) (plain_mode mode)
plain_places (Close fd) is = one_word (decimal fd) (plain_decimal fd)
plain_places (Read fd offset count) is = three_words (decimal fd) (decimal offset) (decimal count) (plain_decimal fd) (plain_decimal offset) (plain_decimal count)
plain_places (Write fd offset bytes) is = three_words (decimal fd) (decimal offset) (hex_text bytes) (plain_decimal fd) (plain_decimal offset) (plain_hex bytes)
plain_places (Truncate fd size) is = two_words (decimal fd) (decimal size) (plain_decimal fd) (plain_decimal size)
plain_places (Stat path) is = one_word (path_text path) (plain_path path is)
plain_places (Readdir path) is = one_word (path_text path) (plain_path path is)
plain_places (Fsync fd) is = one_word (decimal fd) (plain_decimal fd)

plain_command : (call : Call) → is_plain (command_of call) ≡ true
plain_command (Create path) = refl
plain_command (Mkdir path) = refl
plain_command (Unlink path) = refl
plain_command (Rmdir path) = refl
plain_command (Rename from to) = refl
plain_command (Open path mode) = refl
plain_command (Close fd) = refl
plain_command (Read fd offset count) = refl
plain_command (Write fd offset bytes) = refl
plain_command (Truncate fd size) = refl
plain_command (Stat path) = refl
plain_command (Readdir path) = refl
plain_command (Fsync fd) = refl

plain_call : (call : Call) → IsCall call → is_plain (call_text call) ≡ true
plain_call call is = plain_both (command_of call) (spaced (places_of call)) (plain_command call) (plain_spaced (places_of call) (plain_places call is))

-- replies

plain_why : (why : Why) → is_plain (why_text why) ≡ true
plain_why Exist = refl
plain_why NoEnt = refl
plain_why NotDir = refl
plain_why IsDir = refl
plain_why NotEmpty = refl
plain_why Inval = refl
plain_why Busy = refl
plain_why MFile = refl
plain_why BadF = refl
plain_why FBig = refl
plain_why (NoSpace free needed) = plain_four (codes "NOSPACE ") (decimal free) (codes " ") (decimal needed) refl (plain_decimal free) refl (plain_decimal needed)
plain_why NoInode = refl
plain_why DirFull = refl

plain_read : (bytes : List ℕ) → is_plain (bytes_text bytes) ≡ true
plain_read [] = refl
plain_read (byte ∷ bytes) =
    plain_four (codes "ok ") (decimal (length (byte ∷ bytes))) (codes " ") (hex_text (byte ∷ bytes)) refl (plain_decimal (length (byte ∷ bytes))) refl (plain_hex (byte ∷ bytes))

pub plain_reply : (reply : Reply) → HasNames reply → is_plain (reply_text reply) ≡ true
plain_reply Done has = refl
plain_reply (Fd fd) has = plain_both (codes "ok ") (decimal fd) refl (plain_decimal fd)
plain_reply (Bytes bytes) has = plain_read bytes
plain_reply (Count count) has = plain_both (codes "ok ") (decimal count) refl (plain_decimal count)
plain_reply (File size) has = plain_both (codes "ok file ") (decimal size) refl (plain_decimal size)
plain_reply Dir has = refl
plain_reply (Names names) has = plain_three (codes "ok ") (decimal (length names)) (spaced names) refl (plain_decimal (length names)) (plain_spaced names (plain_names names has))
plain_reply (Refused why) has = plain_why why

pub plain_new : (new : Option Ino) → is_plain (new_text new) ≡ true
plain_new None = refl
plain_new (Some ino) = plain_decimal ino.0

-- events

plain_how : (torn : Option (List ℕ)) → is_plain (how_text torn) ≡ true
plain_how None = refl
plain_how (Some torn) = plain_hex_or_dash (trimmed torn)

plain_stop : (stop : Option Stop) → is_plain (stop_text stop) ≡ true
plain_stop None = refl
plain_stop (Some stop) = plain_four (codes " stop ") (decimal stop.after) (codes " ") (how_text stop.torn) refl (plain_decimal stop.after) refl (plain_how stop.torn)

pub plain_event : (number view : ℕ) (event : Event) → HasCall event → is_plain (event_text number view event) ≡ true
plain_event number view (Start client call) has = plain_four (codes "start ") (decimal number) (codes " ") (call_text call) refl (plain_decimal number) refl (plain_call call has)
plain_event number view (Deliver packet stop) has = plain_three (codes "deliver ") (decimal packet) (stop_text stop) refl (plain_decimal packet) (plain_stop stop)
plain_event number view (Tick node stop) has = plain_both (codes "tick") (stop_text stop) refl (plain_stop stop)
plain_event number view (Crash node) has = refl
plain_event number view (NewView server stop) has = plain_three (codes "view ") (decimal view) (stop_text stop) refl (plain_decimal view) (plain_stop stop)
plain_event number view (Gone client) has = plain_both (codes "gone ") (client_word client) refl (plain_front 99 (decimal client.0) (omega arith) (plain_decimal client.0))
plain_event number view (WriteBack client fd) has = plain_both (codes "writeback ") (decimal fd) refl (plain_decimal fd)
