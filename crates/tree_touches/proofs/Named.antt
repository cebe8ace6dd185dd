-- An inode that has a name has it in a directory.
use Rattle.std.proofs.Common.{◌≡◌, ◌==◌, ◌||◌, ◌&&◌, ◌⊎◌, inl, inr, ℕ, suc, Bool, true, false, List, [], ◌∷◌, map, Option, Some, None, ok_or, get_or, cond, T, refl, sym, ap, ◌∙◌, eqb-true}
use Rattle.std.specs.declared.cmp.Ordering.TheVariants.{Less, Equal, Greater}
use Rattle.std.specs.Ordering.{eq_by_cmp, is_eq, is_lt}
use Rattle.std.specs.Cmp.{eq_by_cmp_equiv}
use Rattle.std.specs.Cmp.Lexicographic.{nat_list_cmp_total}
use Rattle.std.specs.FinMap as finite
use Rattle.std.specs.FinMap.Entries as sorted
use Rattle.std.specs.List.{list_any}
use Rattle.cal_base.specs.declared.identity.Ino.{Ino}
use Rattle.tree_law.specs.Tree.{Tree}
use Rattle.tree_law.specs.Idle.{is_named, names_it}
use Rattle.tree_law.specs.declared.node.Node.{Node}
use Rattle.tree_law.specs.declared.node.Node.TheVariants.{Directory, Regular}
use Rattle.tree_law.specs.declared.reply.Why.TheVariants.{NoEnt}
use Rattle.tree_facts.proofs.Entries.{NamesIt, order}

abbrev Row : Type 0
Row = List (List ℕ × Ino)

abbrev pub numbered : ℕ → Ino
numbered k = record { 0 = k }

first : (a b : Bool) → T (a && b) → T a
first true b p = tt
first false b p = p

second : (a b : Bool) → T (a && b) → T b
second true b p = p
second false b p = absurd p

or_case : (a b : Bool) → (a || b) ≡ true → (a ≡ true) ⊎ (b ≡ true)
or_case true b e = inl refl
or_case false b e = inr e

below_one : (name other : List ℕ) → T (is_lt (order name other)) → eq_by_cmp order name other ≡ false
below_one name other less = elim (order name other) as (λ o. T (is_lt o) → is_eq o ≡ false) [
  | Less ↦ λ e. refl
  | Equal ↦ λ e. absurd e
  | Greater ↦ λ e. refl
] less

-- a name before all others isn't among them
none_below : (name : List ℕ) (row : Row) → T (sorted.below_all order name row) → finite.find order name row ≡ None
none_below name [] below = refl
none_below name (e ∷ es) below =
    ap (λ (b : Bool). cond b (Some e.1) (finite.find order name es)) (below_one name e.0 (first _ _ below)) ∙ none_below name es (second _ _ below)

same_names : (a b : List ℕ) → eq_by_cmp order a b ≡ true → a ≡ b
same_names a b is =
    elim (order a b) as (λ o. order a b ≡ o → is_eq o ≡ true → a ≡ b) [
      | Less ↦ λ e no. absurd (cc)
      | Equal ↦ λ e yes. finite.slice_cmp-IsAntisymmetric finite.nat_cmp-IsAntisymmetric a b e
      | Greater ↦ λ e no. absurd (cc)
    ] refl is

record InRow (row : Row) (k : ℕ) : Type 0 where
  name : List ℕ
  found : finite.find order name row ≡ Some (numbered k)

further : (e : List ℕ × Ino) (es : Row) (k : ℕ) → T (sorted.below_all order e.0 es) → InRow es k → InRow (e ∷ es) k
further e es k below rest = record {
  name = rest.name;
  found = elim (eq_by_cmp order rest.name e.0) as (λ b. eq_by_cmp order rest.name e.0 ≡ b → cond b (Some e.1) (finite.find order rest.name es) ≡ Some (numbered k)) [
    | true ↦ λ same. (let gone : finite.find order rest.name es ≡ None = ap (λ (n : List ℕ). finite.find order n es) (same_names rest.name e.0 same) ∙ none_below e.0 es below in absurd (clash (sym gone ∙ rest.found)))
    | false ↦ λ apart. rest.found
  ] refl;
} where
  clash : None ≡ Some (numbered k) → ⊥
  clash never = absurd (cc)

in_row : (row : Row) (k : ℕ) → T (finite.is_sorted order row) → list_any (λ ino. ino.0 == k) (map (λ e. e.1) row) ≡ true → InRow row k
in_row [] k sorted is = absurd (cc)
in_row (e ∷ es) k sorted is = elim (or_case (e.1.0 == k) (list_any (λ ino. ino.0 == k) (map (λ e. e.1) es)) is) [
  | inl here ↦ record {
    name = e.0;
    found = ap (λ (b : Bool). cond b (Some e.1) (finite.find order e.0 es)) ((eq_by_cmp_equiv nat_list_cmp_total).refl e.0) ∙ ap (λ (n : ℕ). Some (numbered n)) (eqb-true e.1.0 k here);
  }
  | inr later ↦ further e es k (first _ _ sorted) (in_row es k (second _ _ sorted) later)
]

-- a name of a node stands for a number
pub record IsNamedIn (node : Option Node) (k : ℕ) : Type 0 where
  pub name : List ℕ
  pub names : NamesIt node name (numbered k)

named_in : (node : Option Node) (k : ℕ) → names_it k node ≡ true → IsNamedIn node k
named_in (Some (Directory names)) k is =
    let row = in_row (finite.entries names) k (finite.entries_sorted names) is in
    record { name = row.name; names = ap (λ (found : Option Ino). ok_or found NoEnt) (finite.get-entries names row.name ∙ row.found) }
named_in (Some (Regular file)) k is = absurd (cc)
named_in None k is = absurd (cc)

-- a name of a directory stands for a number
pub record IsNamedAt (nodes : List (Option Node)) (k : ℕ) : Type 0 where
  pub place : ℕ
  pub name : List ℕ
  pub names : NamesIt (get_or nodes place None) name (numbered k)

named_nodes : (nodes : List (Option Node)) (k : ℕ) → list_any (names_it k) nodes ≡ true → IsNamedAt nodes k
named_nodes [] k is = absurd (cc)
named_nodes (node ∷ nodes) k is = elim (or_case (names_it k node) (list_any (names_it k) nodes) is) [
  | inl here ↦ (let at = named_in node k here in record { place = 0; name = at.name; names = at.names })
  | inr later ↦ (let at = named_nodes nodes k later in record { place = suc at.place; name = at.name; names = at.names })
]

pub named_at : (tree : Tree) (k : ℕ) → is_named tree k ≡ true → IsNamedAt tree.nodes k
named_at tree k is = named_nodes tree.nodes k is
