-- A client reads the names of the root twice.
use Rattle.std.specs.Prelude.{true, List, [], ◌∷◌, Some, None}
use Rattle.cal_base.specs.declared.identity.NodeId.TheVariants.{Server}
use Rattle.cal_base.specs.declared.identity.ServerId.TheVariants.{A}
use Rattle.message.specs.declared.message.Message.{Message}
use Rattle.message.specs.declared.message.Message.TheVariants.{Acquire, Grant}
use Rattle.token_kind.specs.declared.«class».Class.TheVariants.{Names}
use Rattle.token_kind.specs.declared.content.Content.TheVariants.{Names as Entries}
use Rattle.token_kind.specs.declared.grant_item.GrantItem.{GrantItem}
use Rattle.token_kind.specs.declared.hold.Hold.TheVariants.{Read}
use Rattle.tree_law.specs.Tree.{root}
use Rattle.tree_law.specs.declared.call.Call.TheVariants.{Readdir}
use Rattle.tree_law.specs.declared.entry.Entry.TheVariants.{Call as Called}
use Rattle.tree_law.specs.declared.reply.Reply.TheVariants.{Names as Listed}
use Rattle.tree_law.specs.declared.request.Want.TheVariants.{Readdir as WantsNames}
use Rattle.cluster_law.specs.declared.step.Event.TheVariants.{Start}
use Rattle.cluster_law.specs.Lanes.{Tells}
use Rattle.cluster_law.specs.Law.{KeepsMechanism}
use Rattle.cluster_law.specs.Noted.{Setting, Noted}
use Rattle.law_rows.specs.Formatted.{Sectors, first_disk}
use Rattle.law_rows.specs.Packets.{acknowledging, carrying, client, delivers, down, noted, quiet_step, up}

-- each step of a trace keeps the rules
abbrev pub AllKeep : Setting → List Noted → Type 0
AllKeep w [] = Unit {0}
AllKeep w (s ∷ earlier) = AllKeep w earlier × KeepsMechanism w s earlier

abbrev pub asked : Message
asked = Acquire 1 (WantsNames [])

abbrev pub names : GrantItem
names = record { ino = root; «class» = Names; hold = Read; fresh = true; content = Entries [] }

abbrev pub granted : Message
granted = Grant 1 (names ∷ [])

abbrev pub starts : Sectors → Noted
starts s = noted (quiet_step client (Start (record { 0 = 0 }) (Readdir [])) (carrying up 1 0 asked ∷ []) None []) (Tells up asked ∷ []) (first_disk s)

abbrev pub grants : Sectors → Noted
grants s = noted (quiet_step (Server A) (delivers 0) (carrying down 1 1 granted ∷ []) None []) (Tells down granted ∷ []) (first_disk s)

abbrev pub answers : Sectors → Noted
answers s = noted (quiet_step client (delivers 1) (acknowledging up 1 ∷ []) (Some (record { number = 1; reply = Listed [] })) (Called (record { 0 = 0 }) 1 (Readdir []) (Listed []) None ∷ [])) [] (first_disk s)

abbrev pub answers_again : Sectors → Noted
answers_again s = noted (quiet_step client (Start (record { 0 = 0 }) (Readdir [])) [] (Some (record { number = 2; reply = Listed [] })) (Called (record { 0 = 0 }) 2 (Readdir []) (Listed []) None ∷ [])) [] (first_disk s)

abbrev pub read_twice : Sectors → List Noted
read_twice s = answers_again s ∷ answers s ∷ grants s ∷ starts s ∷ []
