-- The head of a server's line, and halts.
use Rattle.std.specs.Prelude.{ℕ, List, [], ◌++◌, codes, Option, Some, None}
use Rattle.std.specs.Fmt.{decimal}
use Rattle.cal_base.specs.declared.identity.NodeId.{NodeId}
use Rattle.token_kind.specs.declared.block.Block.{Block}
use Rattle.token_kind.specs.declared.«class».Class.{Class}
use Rattle.token_kind.specs.declared.«class».Class.TheVariants.{Names, Data, Attr, Open}
use Rattle.cluster_law.specs.declared.step.Halt.{Halt}
use Rattle.cluster_law.specs.declared.step.Halt.TheVariants.{Fenced, Failed, Stopped, Damaged}
use Rattle.trace_text.specs.Line.{line, actor_word}

abbrev pub class_word : Class → List ℕ
class_word Names = codes "Names"
class_word Data = codes "Data"
class_word Attr = codes "Attr"
class_word Open = codes "Open"

-- the request at the head, by its client and number
abbrev pub request_text : Block → List ℕ
request_text block = codes "head c" ++ decimal block.client.0 ++ codes " " ++ decimal block.number

-- the first hold that blocks it, by its holder, inode and class
abbrev pub blocker_text : Block → List ℕ
blocker_text block = codes " blocked c" ++ decimal block.holder.0 ++ codes " " ++ decimal block.ino.0 ++ codes " " ++ class_word block.class

abbrev pub head_line : Block → List ℕ
head_line block = request_text block ++ blocker_text block

-- the line of the head, where it is blocked
abbrev pub head_text : Option Block → List ℕ
head_text None = []
head_text (Some block) = line (head_line block)

-- why a server halts
abbrev pub reason_text : Halt → List ℕ
reason_text (Fenced mine current) = codes "fenced " ++ decimal mine.0 ++ codes " " ++ decimal current.0
reason_text (Failed faults) = codes "failed " ++ decimal faults
reason_text Stopped = codes "stopped"
reason_text (Damaged sector) = codes "damaged " ++ decimal sector

abbrev pub halt_line : Option NodeId → Halt → List ℕ
halt_line actor halt = codes "halt " ++ actor_word actor ++ codes " " ++ reason_text halt

-- the line of the halt, where the step has one
abbrev pub halt_text : Option NodeId → Option Halt → List ℕ
halt_text actor None = []
halt_text actor (Some halt) = line (halt_line actor halt)
