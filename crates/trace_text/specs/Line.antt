-- Lines, and the words that several lines have.
use Rattle.std.specs.Prelude.{ℕ, List, [], ◌∷◌, codes, Option, Some, None}
use Rattle.cal_base.specs.declared.identity.NodeId.{NodeId}
use Rattle.reply_text.specs.Text.{hex_text}
pub use Rattle.run_status.specs.Printing.{line}
use Rattle.script.specs.Spelling.{node_word}

-- bytes in hexadecimal, or a dash where there are none
abbrev pub hex_or_dash : List ℕ → List ℕ
hex_or_dash [] = codes "-"
hex_or_dash (byte ∷ bytes) = hex_text (byte ∷ bytes)

-- whose step it is: a node's, or one of the list of members
abbrev pub actor_word : Option NodeId → List ℕ
actor_word (Some node) = node_word node
actor_word None = codes "members"
