-- In the tree of a legal history no inode has two names.
use Rattle.std.proofs.Common.{◌≡◌, ◌≢◌, ◌≤◌, ◌⊎◌, inl, inr, ℕ, zero, suc, true, false, List, length, Option, None, get_or, set, refl, sym, ap, ◌∙◌, subst, if◌then◌else◌}
use Rattle.std.proofs.lemmas.Bool.{cases_lt}
use Rattle.std.proofs.lemmas.List.{length-set}
use Rattle.cal_base.specs.declared.identity.Ino.{Ino}
use Rattle.tree_law.specs.Tree.{Tree, node_at}
use Rattle.tree_law.specs.PartOf.{kind_of}
use Rattle.tree_law.specs.Idle.{is_idle, with_node, dropped, swept_below, swept}
use Rattle.tree_law.specs.After.{take_name}
use Rattle.tree_law.specs.declared.node.Node.{Node}
use Rattle.tree_law.proofs.IdleLemmas.{node_of, swept_node, swept_node_above}
use Rattle.tree_facts.proofs.Entries.{NamesIt, is_named_by, take_leaves}
use Rattle.tree_facts.proofs.Reading.{still_there}
use Rattle.tree_facts.proofs.Renaming.{not_idle_named}
use Rattle.tree_facts.proofs.NameChanges.{IsAlike, IsThere, HasNoNames, IsPutAt, names_taken, names_set, there_set}

-- a number that a name may stand for
pub record IsNumber (ino : Ino) : Type 0 where
  pub from_one : 1 ≤ ino.0
  pub to_511 : ino.0 ≤ 511

abbrev pub IsOne : ℕ → ℕ → List ℕ → List ℕ → Type 0
IsOne j k name goal = (j ≡ k) × (name ≡ goal)

-- 512 nodes, of which each name stands for one, and none has two names
pub record OneNamed (nodes : List (Option Node)) : Type 0 where
  pub count : length nodes ≡ 512
  pub number : (k : ℕ) (name : List ℕ) (ino : Ino) → NamesIt (get_or nodes k None) name ino → IsNumber ino
  pub there : (k : ℕ) (name : List ℕ) (ino : Ino) → NamesIt (get_or nodes k None) name ino → IsThere (get_or nodes ino.0 None)
  pub one : (j k : ℕ) (name goal : List ℕ) (ino : Ino) → NamesIt (get_or nodes j None) name ino → NamesIt (get_or nodes k None) goal ino → IsOne j k name goal

-- nodes with names that others have, and with what these stand for
pub record IsFewer (before later : List (Option Node)) : Type 0 where
  pub count : length later ≡ length before
  pub older : (k : ℕ) (name : List ℕ) (ino : Ino) → NamesIt (get_or later k None) name ino → NamesIt (get_or before k None) name ino
  pub there : (k : ℕ) (name : List ℕ) (ino : Ino) → NamesIt (get_or later k None) name ino → IsThere (get_or before ino.0 None) → IsThere (get_or later ino.0 None)

pub fewer : (before later : List (Option Node)) → IsFewer before later → OneNamed before → OneNamed later
fewer before later less all = record {
  count = less.count ∙ all.count;
  number = λ k name ino is. all.number k name ino (less.older k name ino is);
  there = λ k name ino is. less.there k name ino is (all.there k name ino (less.older k name ino is));
  one = λ j k name goal ino is and. all.one j k name goal ino (less.older j name ino is) (less.older k goal ino and);
}

-- what stands of the same kind is there too
still : (before later : Option Node) → kind_of later ≡ kind_of before → IsThere before → IsThere later
still before later same there = λ none. there (sym same ∙ none)

-- other bytes
pub same_names : (before later : List (Option Node)) → length later ≡ length before → ((k : ℕ) → IsAlike (get_or before k None) (get_or later k None)) → OneNamed before → OneNamed later
same_names before later count same = fewer before later (record {
  count = count;
  older = λ k name ino is. (same k).0 name ino is;
  there = λ k name ino is. still (get_or before ino.0 None) (get_or later ino.0 None) (same ino.0).1;
})

-- a name that goes
pub taken : (tree : Tree) (place : Ino) (name : List ℕ) → OneNamed tree.nodes → OneNamed (take_name tree place name).nodes
taken tree place name = fewer tree.nodes (take_name tree place name).nodes (record {
  count = length-set tree.nodes place.0 _;
  older = λ k other ino is. (names_taken tree.nodes place.0 k name other ino is).1;
  there = λ k other ino is. still (node_at tree ino) (node_of (take_name tree place name) ino.0) (take_leaves tree.nodes place.0 ino.0 name).1;
})

no_names : HasNoNames None
no_names name ino is = absurd (cc)

-- something goes that has no name
abbrev pub IsNameless : List (Option Node) → ℕ → Type 0
IsNameless nodes m = (k : ℕ) (name : List ℕ) (ino : Ino) → NamesIt (get_or nodes k None) name ino → m ≢ ino.0

pub emptied : (nodes : List (Option Node)) (m : ℕ) → IsNameless nodes m → OneNamed nodes → OneNamed (set nodes m None)
emptied nodes m nameless = fewer nodes (set nodes m None) (record {
  count = length-set nodes m None;
  older = λ k name ino is. (names_set nodes m k None name ino no_names is).1;
  there = λ k name ino is. there_set nodes m ino.0 None (nameless k name ino (names_set nodes m k None name ino no_names is).1);
})

-- ---- idle files go

swept_older : (tree : Tree) (k : ℕ) (name : List ℕ) (ino : Ino) → NamesIt (node_of (swept tree) k) name ino → NamesIt (node_of tree k) name ino
swept_older tree k name ino is = elim (cases_lt k 512) [
  | inl below ↦ elim (is_idle tree k) as (λ b. NamesIt (if b then None else node_of tree k) name ino → NamesIt (node_of tree k) name ino) [
    | true ↦ λ no. absurd (cc)
    | false ↦ λ yes. yes
  ] (subst (λ (node : Option Node). NamesIt node name ino) (swept_node tree 512 k below) is)
  | inr above ↦ subst (λ (node : Option Node). NamesIt node name ino) (swept_node_above tree 512 k above) is
]

swept_there : (tree : Tree) (k : ℕ) (name : List ℕ) (ino : Ino) → NamesIt (node_of (swept tree) k) name ino → IsThere (node_at tree ino) → IsThere (node_at (swept tree) ino)
swept_there tree k name ino is there =
    let busy : is_idle tree ino.0 ≡ false = not_idle_named tree ino.0 (is_named_by tree k name ino (swept_older tree k name ino is)) in
    subst IsThere (sym (still_there tree ino.0 busy)) there

dropped_count : (tree : Tree) (m : ℕ) → length (dropped tree m).nodes ≡ length tree.nodes
dropped_count tree m = elim (is_idle tree m) as (λ b. length (if b then with_node tree m None else tree).nodes ≡ length tree.nodes) [ true ↦ length-set tree.nodes m None | false ↦ refl ]

swept_count : (tree : Tree) (n : ℕ) → length (swept_below tree n).nodes ≡ length tree.nodes
unfolding swept_below
swept_count tree zero = refl
swept_count tree (suc n) = dropped_count (swept_below tree n) n ∙ swept_count tree n

pub sweep : (tree : Tree) → OneNamed tree.nodes → OneNamed (swept tree).nodes
sweep tree = fewer tree.nodes (swept tree).nodes (record { count = swept_count tree 512; older = swept_older tree; there = swept_there tree })

-- ---- an entry for a free number

fresh_number : (nodes : List (Option Node)) (k : ℕ) (name : List ℕ) (new : Ino) → OneNamed nodes → get_or nodes new.0 None ≡ None → NamesIt (get_or nodes k None) name new → ⊥
fresh_number nodes k name new all free is = all.there k name new is (ap kind_of free)

-- a name that is put for a number without a name
pub record PutFor (nodes later : List (Option Node)) (m : ℕ) (put : List ℕ) (new : Ino) : Type 0 where
  pub count : length later ≡ length nodes
  pub known : (k : ℕ) (name : List ℕ) (ino : Ino) → NamesIt (get_or later k None) name ino → IsPutAt m k put name new ino ⊎ NamesIt (get_or nodes k None) name ino
  pub kept : (k : ℕ) → IsThere (get_or nodes k None) → IsThere (get_or later k None)
  pub number : IsNumber new
  pub new_there : IsThere (get_or later new.0 None)
  pub nameless : (k : ℕ) (name : List ℕ) → NamesIt (get_or later k None) name new → IsPutAt m k put name new new

number_put : (nodes : List (Option Node)) (m k : ℕ) (put name : List ℕ) (new ino : Ino) → OneNamed nodes → IsNumber new → IsPutAt m k put name new ino ⊎ NamesIt (get_or nodes k None) name ino → IsNumber ino
number_put nodes m k put name new ino all number (inl is) = subst IsNumber is.1.1 number
number_put nodes m k put name new ino all number (inr older) = all.number k name ino older

there_put : (nodes later : List (Option Node)) (m k : ℕ) (put name : List ℕ) (new ino : Ino) → OneNamed nodes → PutFor nodes later m put new → IsPutAt m k put name new ino ⊎ NamesIt (get_or nodes k None) name ino → IsThere (get_or later ino.0 None)
there_put nodes later m k put name new ino all for (inl is) = subst (λ (i : Ino). IsThere (get_or later i.0 None)) is.1.1 for.new_there
there_put nodes later m k put name new ino all for (inr older) = for.kept ino.0 (all.there k name ino older)

one_new : (later : List (Option Node)) (m j k : ℕ) (put name goal : List ℕ) (new ino : Ino) → ((k : ℕ) (name : List ℕ) → NamesIt (get_or later k None) name new → IsPutAt m k put name new new) → new ≡ ino
    → NamesIt (get_or later j None) name ino → NamesIt (get_or later k None) goal ino → IsOne j k name goal
one_new later m j k put name goal new ino nameless same is and =
    let a = nameless j name (subst (λ (i : Ino). NamesIt (get_or later j None) name i) (sym same) is) in
    let b = nameless k goal (subst (λ (i : Ino). NamesIt (get_or later k None) goal i) (sym same) and) in
    (sym a.0 ∙ b.0, sym a.1.0 ∙ b.1.0)

one_put : (nodes later : List (Option Node)) (m j k : ℕ) (put name goal : List ℕ) (new ino : Ino) → OneNamed nodes → PutFor nodes later m put new
    → NamesIt (get_or later j None) name ino → NamesIt (get_or later k None) goal ino
    → IsPutAt m j put name new ino ⊎ NamesIt (get_or nodes j None) name ino → IsPutAt m k put goal new ino ⊎ NamesIt (get_or nodes k None) goal ino → IsOne j k name goal
one_put nodes later m j k put name goal new ino all for is and (inl new_one) other = one_new later m j k put name goal new ino for.nameless new_one.1.1 is and
one_put nodes later m j k put name goal new ino all for is and (inr old) (inl new_one) = one_new later m j k put name goal new ino for.nameless new_one.1.1 is and
one_put nodes later m j k put name goal new ino all for is and (inr old) (inr older) = all.one j k name goal ino old older

pub put_one : (nodes later : List (Option Node)) (m : ℕ) (put : List ℕ) (new : Ino) → PutFor nodes later m put new → OneNamed nodes → OneNamed later
put_one nodes later m put new for all = record {
  count = for.count ∙ all.count;
  number = λ k name ino is. number_put nodes m k put name new ino all for.number (for.known k name ino is);
  there = λ k name ino is. there_put nodes later m k put name new ino all for (for.known k name ino is);
  one = λ j k name goal ino is and. one_put nodes later m j k put name goal new ino all for is and (for.known j name ino is) (for.known k goal ino and);
}
