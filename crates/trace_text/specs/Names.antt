-- The names of messages.
use Rattle.std.specs.Prelude.{ℕ, List, codes}
use Rattle.message.specs.declared.message.Message.{Message}
use Rattle.message.specs.declared.message.Message.TheVariants.{Acquire, Grant, Refuse, Change, Done, Flush, Flushed, Revoke, Release, Ask, Piece, Wait, Admit}

abbrev pub name_of : Message → List ℕ
name_of (Acquire number want) = codes "Acquire"
name_of (Grant number items) = codes "Grant"
name_of (Refuse number free needed) = codes "Refuse"
name_of (Change number call) = codes "Change"
name_of (Done number reply) = codes "Done"
name_of (Flush flush) = codes "Flush"
name_of (Flushed number) = codes "Flushed"
name_of (Revoke revoke) = codes "Revoke"
name_of (Release release) = codes "Release"
name_of Ask = codes "Ask"
name_of (Piece piece) = codes "Piece"
name_of (Wait number client) = codes "Wait"
name_of Admit = codes "Admit"
