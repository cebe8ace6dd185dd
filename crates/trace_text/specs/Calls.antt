-- A call as a script spells it.
use Rattle.std.specs.Prelude.{ℕ, List, ◌++◌}
use Rattle.tree_law.specs.declared.call.Call.{Call}
use Rattle.reply_text.specs.Text.{spaced}
use Rattle.script.specs.Spelling.{command_of, places_of}

-- its command and the words of its places
abbrev pub call_text : Call → List ℕ
call_text call = command_of call ++ spaced (places_of call)
