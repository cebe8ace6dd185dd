-- The place of a new name, by the last name of its path.
use Rattle.std.proofs.Common.{◌≡◌, ◌≢◌, ◌-◌, ◌∙◌, ℕ, List, [], ◌∷◌, length, take, get_or, Result, Ok, refl, sym, ap, arith}
use Rattle.std.proofs.lemmas.List.{get_or_default}
use Rattle.cal_base.specs.declared.identity.Ino.{Ino}
use Rattle.tree_law.specs.declared.reply.Why.{Why}
use Rattle.tree_law.specs.Tree.{Tree, node_at}
use Rattle.tree_law.specs.Resolve.{judged, last_of, new_place, resolved, room_for}

pub placed : (tree : Tree) (path : List (List ℕ)) (last : List ℕ) (ino : Ino) → length path ≢ 0 → last ≡ get_or path (length path - 1) last → resolved tree (take (length path - 1) path) ≡ Ok ino
    → room_for last (node_at tree ino) ino ≡ new_place tree path
placed tree [] last ino some is at = absurd (some refl)
placed tree (name ∷ names) last ino some is at =
    ap (λ (l : List ℕ). room_for l (node_at tree ino) ino) (is ∙ get_or_default (name ∷ names) (length (name ∷ names) - 1) last [] (omega arith))
    ∙ sym (ap (λ (r : Result Ino Why). judged (room_for (last_of (name ∷ names))) tree r) at)
