-- A call is carried out with the reply that was read, and with no other.
use Rattle.std.proofs.Common.{◌≡◌, ℕ, List, Option, Some, refl, sym, ◌∙◌, subst}
use Rattle.cal_base.specs.declared.identity.ClientId.{ClientId}
use Rattle.cal_base.specs.declared.identity.Ino.{Ino}
use Rattle.tree_law.specs.Tree.{Tree}
use Rattle.tree_law.specs.After.{after_call}
use Rattle.tree_law.specs.Legal.{IsNextCall}
use Rattle.tree_law.specs.declared.call.Call.{Call}
use Rattle.tree_law.specs.declared.reply.Reply.{Reply}
use Rattle.reply_text.proofs.OneReply.{one_reply}
use Rattle.history_check.specs.Steps.{CannotCarryOut, CarriesOut, IsReading, Reads}
use Rattle.history_check.specs.declared.standing.Progress.TheVariants.{Entered}

found_is : (tree : Tree) (client : ClientId) (call : Call) (text : List ℕ) (found : Option Reply) (reply : Reply) → Reads tree client call text found → found ≡ Some reply → IsReading tree client call text reply
found_is tree client call text found reply reads is = subst (Reads tree client call text) is reads

pub carries_out : (old new : Tree) (client : ClientId) (number : ℕ) (call : Call) (new_ino : Option Ino) (text : List ℕ) (found : Option Reply) (reply : Reply) → Reads old client call text found → found ≡ Some reply
    → IsNextCall old client call reply new_ino → new ≡ after_call old client call reply new_ino → CarriesOut old client number call new_ino text new (record { number = number; progress = Entered text })
carries_out old new client number call new_ino text found reply reads is next after = record {
  reply = reply;
  can = record { text_is = (found_is old client call text found reply reads is).text_is; next = next };
  tree_is = after;
  standing_is = refl;
}

pub not_with_it : (tree : Tree) (client : ClientId) (call : Call) (new_ino : Option Ino) (text : List ℕ) (found : Option Reply) (reply : Reply) → Reads tree client call text found → found ≡ Some reply → ¬ (IsNextCall tree client call reply new_ino)
    → CannotCarryOut tree client call new_ino text
not_with_it tree client call new_ino text found reply reads is not other can =
    let reading = found_is tree client call text found reply reads is in
    let same = one_reply tree client call other reply can.next.allowed reading.allowed (can.text_is ∙ sym reading.text_is) in
    not (subst (λ (r : Reply). IsNextCall tree client call r new_ino) same can.next)
