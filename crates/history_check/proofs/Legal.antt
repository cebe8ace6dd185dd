-- A history that fitting lines tell is legal.
use Rattle.std.proofs.Common.{◌≡◌, List, [], ◌∷◌, sym, subst}
use Rattle.tree_law.specs.Legal.{IsLegal, IsNext, tree_of}
use Rattle.tree_law.specs.declared.entry.Entry.{Entry}
use Rattle.tree_law.specs.declared.entry.Entry.TheVariants.{Call as Called, Flush, Purge}
use Rattle.history_check.specs.Fits.{FitTo, Goes}
use Rattle.history_check.specs.declared.told.Told.{Told}
use Rattle.history_check.specs.declared.told.Told.TheVariants.{Answers, Enters, Flushes, Purges, Starts}

legal_more : (entry : Entry) (before history : List Entry) → IsLegal before → IsNext (tree_of before) entry → history ≡ entry ∷ before → IsLegal history
legal_more entry before history legal next is = subst IsLegal (sym is) (next, legal)

legal_next : (told : Told) (earlier : List Told) (before history : List Entry) → IsLegal before → Goes earlier before told history → IsLegal history
legal_next (Starts client number call) earlier before history legal goes = subst IsLegal (sym goes.1) legal
legal_next (Enters client number new text) earlier before history legal goes = legal_more (Called client number goes.call goes.reply new) before history legal goes.allowed goes.history_is
legal_next (Flushes client ino) earlier before history legal goes = legal_more (Flush client ino) before history legal goes.0 goes.1
legal_next (Purges client) earlier before history legal goes = legal_more (Purge client) before history legal goes.0 goes.1
legal_next (Answers client number text) earlier before history legal goes = subst IsLegal (sym goes.1) legal

pub what_fits_is_legal : (told : List Told) (history : List Entry) → FitTo told history → IsLegal history
what_fits_is_legal [] history is = subst IsLegal (sym is) tt
what_fits_is_legal (told ∷ earlier) history fit = legal_next told earlier fit.0 history (what_fits_is_legal earlier fit.0 fit.1) fit.2
