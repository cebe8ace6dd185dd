-- The tree determines a call's reply, but for want of room.
use Rattle.std.proofs.Common.{◌≡◌, inl, inr, Option}
use Rattle.cal_base.specs.declared.identity.ClientId.{ClientId}
use Rattle.cal_base.specs.declared.identity.Ino.{Ino}
use Rattle.tree_law.specs.Tree.{Tree}
use Rattle.tree_law.specs.Answer.{answer}
use Rattle.tree_law.specs.Legal.{IsNextCall, IsWantOfRoom}
use Rattle.tree_law.specs.declared.call.Call.{Call}
use Rattle.tree_law.specs.declared.reply.Reply.{Reply}

pub own_answer : (tree : Tree) (client : ClientId) (call : Call) (reply : Reply) (new : Option Ino) → IsNextCall tree client call reply new → ¬ (IsWantOfRoom tree client call reply) → reply ≡ answer tree client call
own_answer tree client call reply new next none = elim next.allowed [
  | inl own ↦ own
  | inr want ↦ absurd (none want)
]
