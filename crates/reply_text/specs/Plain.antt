-- Which replies tell no want of room.
use Rattle.std.specs.Prelude.{⊤}
use Rattle.tree_law.specs.declared.reply.Reply.{Reply}
use Rattle.tree_law.specs.declared.reply.Reply.TheVariants.{Refused}
use Rattle.tree_law.specs.declared.reply.Why.{Why}
use Rattle.tree_law.specs.declared.reply.Why.TheVariants.{NoInode, NoSpace}

-- a refusal that tells no want of an inode or a block
abbrev pub IsPlainWhy : Why → Type 0
IsPlainWhy NoInode = ⊥
IsPlainWhy (NoSpace free needed) = ⊥
IsPlainWhy _ = ⊤

abbrev pub IsPlainReply : Reply → Type 0
IsPlainReply (Refused why) = IsPlainWhy why
IsPlainReply _ = ⊤
