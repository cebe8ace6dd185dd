-- Walking down the names of a path, one by one.
use Rattle.std.proofs.Common.{◌≡◌, ◌+◌, ◌<◌, ℕ, List, [], ◌∷◌, length, drop, get_or, Result, Ok, Err, refl, ◌∙◌, subst}
use Rattle.std.proofs.lemmas.List.{drop_more}
use Rattle.cal_base.specs.declared.identity.Ino.{Ino}
use Rattle.tree_law.specs.declared.reply.Why.{Why}
use Rattle.tree_law.specs.Tree.{Tree, node_at}
use Rattle.tree_law.specs.Resolve.{walked, looked_up}

-- after a refusal nothing is looked up
pub refused_walk : (tree : Tree) (why : Why) (names : List (List ℕ)) → walked tree (Err why) names ≡ Err why
refused_walk tree why [] = refl
refused_walk tree why (name ∷ names) = refused_walk tree why names

-- one name is walked
pub walk_on : (tree : Tree) (at : Ino) (names : List (List ℕ)) (i : ℕ) (name : List ℕ) (next : Result Ino Why) → i < length names → name ≡ get_or names i name → looked_up (node_at tree at) name ≡ next
    → walked tree (Ok at) (drop i names) ≡ walked tree next (drop (i + 1) names)
walk_on tree at names i name next inside is found =
    subst (λ (r : Result Ino Why). walked tree (Ok at) (drop i names) ≡ walked tree r (drop (i + 1) names)) found
    (rw (drop_more names i name inside, ← is) refl)

-- the walk ends at a refusal
pub walk_ends : (tree : Tree) (at : Ino) (names : List (List ℕ)) (i : ℕ) (name : List ℕ) (why : Why) → i < length names → name ≡ get_or names i name → looked_up (node_at tree at) name ≡ Err why
    → walked tree (Ok at) (drop i names) ≡ Err why
walk_ends tree at names i name why inside is found = walk_on tree at names i name (Err why) inside is found ∙ refused_walk tree why (drop (i + 1) names)
