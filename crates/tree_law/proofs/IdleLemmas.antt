-- Dropping idle files leaves all else, and leaves no idle file.
use Rattle.std.proofs.Common.{◌≡◌, ◌≢◌, ◌<◌, ◌≤◌, ◌&&◌, ◌||◌, inl, inr, ℕ, zero, suc, Bool, true, false, not, List, [], ◌∷◌, Option, Some, None, get_or, set, refl, sym, ap, subst, ◌∙◌, arith, if◌then◌else◌}
use Rattle.std.proofs.lemmas.Bool.{cases_eq}
use Rattle.std.proofs.lemmas.List.{get_or-set_other}
use Rattle.std.specs.List.{list_any}
use Rattle.tree_law.specs.Tree.{Tree}
use Rattle.tree_law.specs.Idle.{is_idle, is_open, is_named, is_flushed_file, names_it, with_node, dropped, swept_below}
use Rattle.tree_law.specs.declared.node.Node.{Node}
use Rattle.tree_law.specs.declared.node.Node.TheVariants.{Directory, Regular}

abbrev pub node_of : Tree → ℕ → Option Node
node_of tree number = get_or tree.nodes number None

-- a place that is emptied is empty
emptied : (nodes : List (Option Node)) (m : ℕ) → get_or (set nodes m None) m None ≡ None
emptied [] m = refl
emptied (place ∷ nodes) zero = refl
emptied (place ∷ nodes) (suc m) = emptied nodes m

-- a file names nothing
names_nothing : (number : ℕ) (node : Option Node) → is_flushed_file node ≡ true → names_it number node ≡ false
names_nothing number (Some (Directory names)) is = absurd (cc)
names_nothing number (Some (Regular file)) is = refl
names_nothing number None is = refl

-- without a file all names stay
named_kept : (nodes : List (Option Node)) (m k : ℕ) → is_flushed_file (get_or nodes m None) ≡ true → list_any (names_it k) (set nodes m None) ≡ list_any (names_it k) nodes
named_kept [] m k is = refl
named_kept (node ∷ nodes) zero k is = ap (λ (b : Bool). b || list_any (names_it k) nodes) (sym (names_nothing k node is))
named_kept (node ∷ nodes) (suc m) k is = ap (λ (b : Bool). names_it k node || b) (named_kept nodes m k is)

-- an idle place has a file
idle_file : (tree : Tree) (m : ℕ) → is_idle tree m ≡ true → is_flushed_file (node_of tree m) ≡ true
idle_file tree m is =
    elim (is_flushed_file (node_of tree m)) as (λ b. (b && not (is_open tree m) && not (is_named tree m)) ≡ true → b ≡ true) [
      | true ↦ λ e. refl
      | false ↦ λ e. absurd (cc)
    ] is

-- without an idle file, another is as idle as before
idle_other : (tree : Tree) (m k : ℕ) → is_idle tree m ≡ true → k ≢ m → is_idle (with_node tree m None) k ≡ is_idle tree k
idle_other tree m k is apart =
    λ i. is_flushed_file (get_or-set_other tree.nodes m k None None apart i) && not (is_open tree k) && not (named_kept tree.nodes m k (idle_file tree m is) i)

-- a place that is emptied isn't idle
idle_emptied : (tree : Tree) (m : ℕ) → is_idle (with_node tree m None) m ≡ false
idle_emptied tree m = ap (λ (node : Option Node). is_flushed_file node && not (is_open tree m) && not (is_named (with_node tree m None) m)) (emptied tree.nodes m)

-- once a number was looked at, nothing idle stands there; elsewhere it is as before
pub dropped_here : (tree : Tree) (m : ℕ) → is_idle (dropped tree m) m ≡ false
dropped_here tree m = elim (is_idle tree m) as (λ b. is_idle tree m ≡ b → is_idle (if b then with_node tree m None else tree) m ≡ false) [
  | true ↦ λ e. idle_emptied tree m
  | false ↦ λ e. e
] refl

pub dropped_other : (tree : Tree) (m k : ℕ) → k ≢ m → is_idle (dropped tree m) k ≡ is_idle tree k
dropped_other tree m k apart = elim (is_idle tree m) as (λ b. is_idle tree m ≡ b → is_idle (if b then with_node tree m None else tree) k ≡ is_idle tree k) [
  | true ↦ λ e. idle_other tree m k e apart
  | false ↦ λ e. refl
] refl

below_zero : (tree : Tree) → swept_below tree 0 ≡ tree
unfolding swept_below
below_zero tree = refl

below_suc : (tree : Tree) (m : ℕ) → swept_below tree (suc m) ≡ dropped (swept_below tree m) m
unfolding swept_below
below_suc tree m = refl

-- numbers that weren't looked at are as idle as before
pub swept_above : (tree : Tree) (n k : ℕ) → n ≤ k → is_idle (swept_below tree n) k ≡ is_idle tree k
swept_above tree zero k above = ap (λ (t : Tree). is_idle t k) (below_zero tree)
swept_above tree (suc n) k above =
    let apart : k ≢ n = λ e. absurd (omega arith) in
    ap (λ (t : Tree). is_idle t k) (below_suc tree n) ∙ dropped_other (swept_below tree n) n k apart ∙ swept_above tree n k (omega arith)

-- below the number to which the tree is swept nothing is idle
pub swept_clean : (tree : Tree) (n k : ℕ) → k < n → is_idle (swept_below tree n) k ≡ false
swept_clean tree zero k below = absurd (omega arith)
swept_clean tree (suc n) k below =
    ap (λ (t : Tree). is_idle t k) (below_suc tree n) ∙ elim (cases_eq k n) [
      | inl same ↦ subst (λ (m : ℕ). is_idle (dropped (swept_below tree n) n) m ≡ false) (sym same) (dropped_here (swept_below tree n) n)
      | inr apart ↦ dropped_other (swept_below tree n) n k apart ∙ swept_clean tree n k (omega arith)
    ]

dropped_node_here : (tree : Tree) (m : ℕ) → node_of (dropped tree m) m ≡ (if is_idle tree m then None else node_of tree m)
dropped_node_here tree m = elim (is_idle tree m) as (λ b. node_of (if b then with_node tree m None else tree) m ≡ (if b then None else node_of tree m)) [
  | true ↦ emptied tree.nodes m
  | false ↦ refl
]

dropped_node_other : (tree : Tree) (m k : ℕ) → k ≢ m → node_of (dropped tree m) k ≡ node_of tree k
dropped_node_other tree m k apart = elim (is_idle tree m) as (λ b. node_of (if b then with_node tree m None else tree) k ≡ node_of tree k) [
  | true ↦ get_or-set_other tree.nodes m k None None apart
  | false ↦ refl
]

pub swept_node_above : (tree : Tree) (n k : ℕ) → n ≤ k → node_of (swept_below tree n) k ≡ node_of tree k
swept_node_above tree zero k above = ap (λ (t : Tree). node_of t k) (below_zero tree)
swept_node_above tree (suc n) k above =
    let apart : k ≢ n = λ e. absurd (omega arith) in
    ap (λ (t : Tree). node_of t k) (below_suc tree n) ∙ dropped_node_other (swept_below tree n) n k apart ∙ swept_node_above tree n k (omega arith)

-- the swept tree has what stood there, but for what was idle
pub swept_node : (tree : Tree) (n k : ℕ) → k < n → node_of (swept_below tree n) k ≡ (if is_idle tree k then None else node_of tree k)
swept_node tree zero k below = absurd (omega arith)
swept_node tree (suc n) k below =
    ap (λ (t : Tree). node_of t k) (below_suc tree n) ∙ elim (cases_eq k n) [
      | inl same ↦ subst (λ (m : ℕ). node_of (dropped (swept_below tree n) n) m ≡ (if is_idle tree m then None else node_of tree m)) (sym same)
          (dropped_node_here (swept_below tree n) n
          ∙ ap (λ (b : Bool). if b then None else node_of (swept_below tree n) n) (swept_above tree n n (omega arith))
          ∙ ap (λ (node : Option Node). if is_idle tree n then None else node) (swept_node_above tree n n (omega arith)))
      | inr apart ↦ dropped_node_other (swept_below tree n) n k apart ∙ swept_node tree n k (omega arith)
    ]

dropped_tables : (tree : Tree) (m : ℕ) → (dropped tree m).tables ≡ tree.tables
dropped_tables tree m = elim (is_idle tree m) as (λ b. (if b then with_node tree m None else tree).tables ≡ tree.tables) [ true ↦ refl | false ↦ refl ]

-- and the descriptors
pub swept_tables : (tree : Tree) (n : ℕ) → (swept_below tree n).tables ≡ tree.tables
swept_tables tree zero = ap (λ (t : Tree). t.tables) (below_zero tree)
swept_tables tree (suc n) = ap (λ (t : Tree). t.tables) (below_suc tree n) ∙ dropped_tables (swept_below tree n) n ∙ swept_tables tree n

dropped_purged : (tree : Tree) (m : ℕ) → (dropped tree m).purged ≡ tree.purged
dropped_purged tree m = elim (is_idle tree m) as (λ b. (if b then with_node tree m None else tree).purged ≡ tree.purged) [ true ↦ refl | false ↦ refl ]

pub swept_purged : (tree : Tree) (n : ℕ) → (swept_below tree n).purged ≡ tree.purged
swept_purged tree zero = ap (λ (t : Tree). t.purged) (below_zero tree)
swept_purged tree (suc n) = ap (λ (t : Tree). t.purged) (below_suc tree n) ∙ dropped_purged (swept_below tree n) n ∙ swept_purged tree n
