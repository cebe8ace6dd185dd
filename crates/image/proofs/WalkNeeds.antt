-- The needs of a walk end where a name is refused.
use Rattle.std.proofs.Common.{◌≡◌, ◌<◌, ◌+◌, ◌++◌, ◌∙◌, ℕ, List, [], ◌∷◌, length, drop, get_or, Option, Result, Ok, Err, refl, sym, ap, append-nil}
use Rattle.std.proofs.lemmas.List.{drop_more}
use Rattle.cal_base.specs.declared.identity.Ino.{Ino}
use Rattle.tree_law.specs.Needs.{Need, look_needs, walk_needs}
use Rattle.tree_law.specs.Resolve.{looked_up}
use Rattle.tree_law.specs.Tree.{Tree, node_at}
use Rattle.tree_law.specs.declared.node.Node.{Node}
use Rattle.tree_law.specs.declared.reply.Why.{Why}

-- behind a refusal nothing is needed
refused_needs : (tree : Tree) (why : Why) (names : List (List ℕ)) → walk_needs tree (Err why) names ≡ []
refused_needs tree why [] = refl
refused_needs tree why (name ∷ names) = refl

last_needs : (tree : Tree) (at : Ino) (names : List (List ℕ)) (i : ℕ) (name : List ℕ) (why : Why) → i < length names → name ≡ get_or names i name → looked_up (node_at tree at) name ≡ Err why
    → walk_needs tree (Ok at) (drop i names) ≡ look_needs (node_at tree at) at
last_needs tree at names i name why inside is found =
    ap (walk_needs tree (Ok at)) (drop_more names i name inside ∙ ap (λ (n : List ℕ). n ∷ drop (i + 1) names) (sym is))
    ∙ ap (λ (r : Result Ino Why). look_needs (node_at tree at) at ++ walk_needs tree r (drop (i + 1) names)) found
    ∙ ap (λ (rest : List Need). look_needs (node_at tree at) at ++ rest) (refused_needs tree why (drop (i + 1) names))
    ∙ append-nil (look_needs (node_at tree at) at)

pub needs_end : (tree : Tree) (at : Ino) (names : List (List ℕ)) (i : ℕ) (name : List ℕ) (why : Why) (stood : Option Node) (old new all : List Need) → i < length names → name ≡ get_or names i name
    → looked_up (node_at tree at) name ≡ Err why → stood ≡ node_at tree at → new ≡ old ++ look_needs stood at → old ++ walk_needs tree (Ok at) (drop i names) ≡ all → new ≡ all
needs_end tree at names i name why stood old new all inside is found stands put kept =
    put ∙ ap (λ (n : Option Node). old ++ look_needs n at) stands ∙ ap (λ (rest : List Need). old ++ rest) (sym (last_needs tree at names i name why inside is found)) ∙ kept
