-- By what a reader knows the kind of a line, and where it ends.
use Rattle.std.specs.Prelude.{◌==◌, ℕ, Bool, List, [], ◌∷◌, All, nat_le, if◌then◌else◌, ⊤}
use Rattle.std.specs.List.{list_all}
use Rattle.tree_law.specs.Path.{IsName}
use Rattle.tree_law.specs.declared.entry.Entry.{Entry}
use Rattle.tree_law.specs.declared.entry.Entry.TheVariants.{Call as Called, Flush, Purge}
use Rattle.tree_law.specs.declared.reply.Reply.{Reply}
use Rattle.tree_law.specs.declared.reply.Reply.TheVariants.{Done, Fd, Bytes, Count, File, Dir, Names, Refused}
use Rattle.script.specs.Spelling.{IsCall}
use Rattle.cluster_law.specs.declared.step.Event.{Event}
use Rattle.cluster_law.specs.declared.step.Event.TheVariants.{Start, Deliver, Tick, Crash, NewView, Gone, WriteBack}

-- the bytes in front of the first space, or all where there is none
abbrev pub first_word : List ℕ → List ℕ
first_word [] = []
first_word (byte ∷ bytes) = if byte == 32 then [] else byte ∷ first_word bytes

-- no byte below the space, so no line feed
abbrev pub is_plain : List ℕ → Bool
is_plain text = list_all (λ byte. nat_le 32 byte) text

-- a call that is started is one that a script can spell
abbrev pub HasCall : Event → Type 0
HasCall (Start client call) = IsCall call
HasCall (Deliver packet stop) = ⊤
HasCall (Tick node stop) = ⊤
HasCall (Crash node) = ⊤
HasCall (NewView server stop) = ⊤
HasCall (Gone client) = ⊤
HasCall (WriteBack client fd) = ⊤

-- what a reply lists are names
abbrev pub HasNames : Reply → Type 0
HasNames (Names names) = All IsName names
HasNames Done = ⊤
HasNames (Fd fd) = ⊤
HasNames (Bytes bytes) = ⊤
HasNames (Count count) = ⊤
HasNames (File size) = ⊤
HasNames Dir = ⊤
HasNames (Refused why) = ⊤

abbrev pub HasReply : Entry → Type 0
HasReply (Called client number call reply new) = HasNames reply
HasReply (Flush client ino) = ⊤
HasReply (Purge client) = ⊤
