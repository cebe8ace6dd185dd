-- Lines tell of one history.
use Rattle.std.proofs.Common.{◌≡◌, ℕ, List, [], ◌∷◌, Option, Some, sym, ap, ◌∙◌, subst}
use Rattle.cal_base.specs.declared.identity.ClientId.{ClientId}
use Rattle.cal_base.specs.declared.identity.Ino.{Ino}
use Rattle.tree_law.specs.Legal.{IsAllowed, tree_of}
use Rattle.tree_law.specs.declared.call.Call.{Call}
use Rattle.tree_law.specs.declared.entry.Entry.{Entry}
use Rattle.tree_law.specs.declared.entry.Entry.TheVariants.{Call as Called}
use Rattle.tree_law.specs.declared.reply.Reply.{Reply}
use Rattle.reply_text.proofs.OneReply.{one_reply}
use Rattle.history_check.specs.Lines.{lines_of, started}
use Rattle.history_check.specs.Fits.{FitTo, Goes, IsCarriedOut}
use Rattle.history_check.specs.declared.told.Told.{Told}
use Rattle.history_check.specs.declared.told.Told.TheVariants.{Answers, Enters, Flushes, Purges, Starts}

same_call : (found : Option Call) (call other : Call) → found ≡ Some call → found ≡ Some other → call ≡ other
same_call found call other is is_other = cc

one_entry : (client : ClientId) (number : ℕ) (new : Option Ino) (text : List ℕ) (earlier : List Told) (before history other : List Entry) → IsCarriedOut client number new text earlier before history → IsCarriedOut client number new text earlier before other → history ≡ other
one_entry client number new text earlier before history other goes goes_other =
    let call = same_call (started (lines_of client number earlier)) goes.call goes_other.call goes.call_is goes_other.call_is in
    let allowed : IsAllowed (tree_of before) client goes.call goes_other.reply = subst (λ (c : Call). IsAllowed (tree_of before) client c goes_other.reply) (sym call) goes_other.allowed.allowed in
    let reply = one_reply (tree_of before) client goes.call goes.reply goes_other.reply goes.allowed.allowed allowed (goes.text_is ∙ sym goes_other.text_is) in
    goes.history_is ∙ ap (λ (c : Call). Called client number c goes.reply new ∷ before) call ∙ ap (λ (r : Reply). Called client number goes_other.call r new ∷ before) reply ∙ sym goes_other.history_is

one_next : (told : Told) (earlier : List Told) (before history other : List Entry) → Goes earlier before told history → Goes earlier before told other → history ≡ other
one_next (Starts client number call) earlier before history other goes goes_other = goes.1 ∙ sym goes_other.1
one_next (Enters client number new text) earlier before history other goes goes_other = one_entry client number new text earlier before history other goes goes_other
one_next (Flushes client ino) earlier before history other goes goes_other = goes.1 ∙ sym goes_other.1
one_next (Purges client) earlier before history other goes goes_other = goes.1 ∙ sym goes_other.1
one_next (Answers client number text) earlier before history other goes goes_other = goes.1 ∙ sym goes_other.1

pub one_history : (told : List Told) (history other : List Entry) → FitTo told history → FitTo told other → history ≡ other
one_history [] history other is is_other = is ∙ sym is_other
one_history (told ∷ earlier) history other fit fit_other =
    let same = one_history earlier fit.0 fit_other.0 fit.1 fit_other.1 in
    one_next told earlier fit.0 history other fit.2 (subst (λ (before : List Entry). Goes earlier before told other) (sym same) fit_other.2)
