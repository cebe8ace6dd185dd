-- Whether a directory of a tree has a name for a number, and what a change of a node does to that.
use Rattle.std.proofs.Common.{◌≡◌, ◌≢◌, ◌<◌, ◌==◌, ◌||◌, ◌&&◌, ℕ, zero, suc, Bool, true, false, List, [], ◌∷◌, map, length, get_or, set, Option, Some, None, Ok, ok_or, cond, T, refl, sym, ap, subst, ◌∙◌, arith}
use Rattle.std.specs.declared.cmp.Ordering.{Ordering}
use Rattle.std.specs.declared.cmp.Ordering.TheVariants.{Less, Equal, Greater}
use Rattle.std.specs.Ordering.{eq_by_cmp, is_eq, is_lt}
use Rattle.std.specs.Cmp.Lexicographic.{nat_list_cmp_total}
use Rattle.std.specs.List.{list_any}
use Rattle.std.specs.FinMap as finite
use Rattle.std.specs.FinMap.Entries as sorted
use Rattle.std.proofs.lemmas.Bool.{eq-eqb, eqb-true}
use Rattle.cal_base.specs.declared.identity.Ino.{Ino}
use Rattle.tree_facts.proofs.Entries.{is_named_by}
use Rattle.tree_law.specs.After.{put_name, take_name, with_name, without_name}
use Rattle.tree_law.specs.Idle.{is_named, names_it, with_node}
use Rattle.tree_law.specs.Names.{Names}
use Rattle.tree_law.specs.Resolve.{looked_up}
use Rattle.tree_law.specs.Tree.{Tree, node_at}
use Rattle.tree_law.specs.declared.node.Node.{Node}
use Rattle.tree_law.specs.declared.node.Node.TheVariants.{Directory, Regular}
use Rattle.tree_law.specs.declared.reply.Why.TheVariants.{NoEnt}
use Rattle.volume_plan.proofs.NamesOf.{order, apart_names, same_names, tied_names}

abbrev Row : Type 0
Row = List (List ℕ × Ino)

abbrev pub numbered : ℕ → Ino
numbered number = record { 0 = number }

pub same_bool : (a b : Bool) → (a ≡ true → b ≡ true) → (b ≡ true → a ≡ true) → a ≡ b
same_bool true b there back = sym (there refl)
same_bool false true there back = back refl
same_bool false false there back = refl

pub never : (b : Bool) → (b ≡ true → ⊥) → b ≡ false
never true none = absurd (none refl)
never false none = refl

-- ---- a name among the entries of a directory

-- a directory has a name for this number
pub record HasOne (names : Names) (number : ℕ) : Type 0 where
  pub name : List ℕ
  pub got : finite.get names name ≡ Some (numbered number)

record Finds (row : Row) (number : ℕ) : Type 0 where
  name : List ℕ
  is : finite.find order name row ≡ Some (numbered number)

first_of : (a b : Bool) → T (a && b) → T a
first_of true b p = tt
first_of false b p = p

second_of : (a b : Bool) → T (a && b) → T b
second_of true b p = p
second_of false b p = absurd p

not_less : (o : Ordering) → is_eq o ≡ true → T (is_lt o) → ⊥
not_less Less e t = absurd (cc)
not_less Equal e t = t
not_less Greater e t = t

-- a name below all of a row isn't in it
below_apart : (low name : List ℕ) (ino : Ino) (row : Row) → T (sorted.below_all order low row) → finite.find order name row ≡ Some ino → low ≢ name
below_apart low name ino [] below is same = absurd (cc)
below_apart low name ino (e ∷ row) below is same =
    elim (eq_by_cmp order name e.0) as (λ b. eq_by_cmp order name e.0 ≡ b → cond b (Some e.1) (finite.find order name row) ≡ Some ino → ⊥) [
      | true ↦ λ t found. not_less (order low e.0) (subst (λ (n : List ℕ). eq_by_cmp order low n ≡ true) (same ∙ tied_names name e.0 t) (same_names low)) (first_of _ _ below)
      | false ↦ λ t found. below_apart low name ino row (second_of _ _ below) found same
    ] refl is

row_finds : (row : Row) (number : ℕ) → T (finite.is_sorted order row) → list_any (λ ino. ino.0 == number) (map (λ e. e.1) row) ≡ true → Finds row number
row_finds [] number rises is = absurd (cc)
row_finds (e ∷ row) number rises is =
    elim (e.1.0 == number) as (λ b. (e.1.0 == number) ≡ b → (b || list_any (λ ino. ino.0 == number) (map (λ e. e.1) row)) ≡ true → Finds (e ∷ row) number) [
      | true ↦ λ t rest. (let same = eqb-true e.1.0 number t in record {
        name = e.0;
        is = ap (λ (b : Bool). cond b (Some e.1) (finite.find order e.0 row)) (same_names e.0) ∙ (λ i. Some (numbered (same i)));
      })
      | false ↦ λ t rest. (let found = row_finds row number (second_of _ _ rises) rest in record {
        name = found.name;
        is = ap (λ (b : Bool). cond b (Some e.1) (finite.find order found.name row)) (apart_names found.name e.0 (below_apart e.0 found.name (numbered number) row (first_of _ _ rises) found.is)) ∙ found.is;
      })
    ] refl is

pub names_have : (names : Names) (number : ℕ) → names_it number (Some (Directory names)) ≡ true → HasOne names number
names_have names number is =
    let found = row_finds (finite.entries names) number (finite.entries_sorted names) is in
    record { name = found.name; got = finite.get-entries names found.name ∙ found.is }

or_right : (a b : Bool) → b ≡ true → (a || b) ≡ true
or_right true b e = refl
or_right false b e = e

finds_row : (row : Row) (name : List ℕ) (number : ℕ) → finite.find order name row ≡ Some (numbered number) → list_any (λ ino. ino.0 == number) (map (λ e. e.1) row) ≡ true
finds_row [] name number is = absurd (cc)
finds_row (e ∷ row) name number is =
    elim (eq_by_cmp order name e.0) as (λ b. cond b (Some e.1) (finite.find order name row) ≡ Some (numbered number) → (e.1.0 == number || list_any (λ ino. ino.0 == number) (map (λ e. e.1) row)) ≡ true) [
      | true ↦ λ same. (let one : number ≡ e.1.0 = cc in ap (λ (b : Bool). b || list_any (λ ino. ino.0 == number) (map (λ e. e.1) row)) (subst (λ (n : ℕ). (e.1.0 == n) ≡ true) (sym one) (eq-eqb e.1.0 e.1.0 refl)))
      | false ↦ λ rest. or_right (e.1.0 == number) _ (finds_row row name number rest)
    ] is

pub have_names : (names : Names) (name : List ℕ) (number : ℕ) → finite.get names name ≡ Some (numbered number) → names_it number (Some (Directory names)) ≡ true
have_names names name number got = finds_row (finite.entries names) name number (sym (finite.get-entries names name) ∙ got)

-- ---- a name among the directories of a tree

-- some directory of a tree has a name for this number
pub record HasName (tree : Tree) (number : ℕ) : Type 0 where
  pub at : ℕ
  pub name : List ℕ
  pub is : looked_up (get_or tree.nodes at None) name ≡ Ok (numbered number)

record HasNameAmong (nodes : List (Option Node)) (number : ℕ) : Type 0 where
  at : ℕ
  name : List ℕ
  is : looked_up (get_or nodes at None) name ≡ Ok (numbered number)

node_has : (node : Option Node) (nodes : List (Option Node)) (number : ℕ) → names_it number node ≡ true → HasNameAmong (node ∷ nodes) number
node_has (Some (Directory names)) nodes number is = (let one = names_have names number is in record { at = 0; name = one.name; is = ap (λ (found : Option Ino). ok_or found NoEnt) one.got })
node_has (Some (Regular file)) nodes number is = absurd (cc)
node_has None nodes number is = absurd (cc)

nodes_have : (nodes : List (Option Node)) (number : ℕ) → list_any (names_it number) nodes ≡ true → HasNameAmong nodes number
nodes_have [] number is = absurd (cc)
nodes_have (node ∷ nodes) number is =
    elim (names_it number node) as (λ b. names_it number node ≡ b → (b || list_any (names_it number) nodes) ≡ true → HasNameAmong (node ∷ nodes) number) [
      | true ↦ λ here rest. node_has node nodes number here
      | false ↦ λ here rest. (let further = nodes_have nodes number rest in record { at = suc further.at; name = further.name; is = further.is })
    ] refl is

pub named_has : (tree : Tree) (number : ℕ) → is_named tree number ≡ true → HasName tree number
named_has tree number is = (let among = nodes_have tree.nodes number is in record { at = among.at; name = among.name; is = among.is })

pub has_named : (tree : Tree) (number at : ℕ) (name : List ℕ) → looked_up (get_or tree.nodes at None) name ≡ Ok (numbered number) → is_named tree number ≡ true
has_named tree number at name is = is_named_by tree at name (numbered number) is

-- where no directory has a name for it, it isn't named
pub nameless : (tree : Tree) (number : ℕ) → ((at : ℕ) (name : List ℕ) → looked_up (get_or tree.nodes at None) name ≡ Ok (numbered number) → ⊥) → is_named tree number ≡ false
nameless tree number none = never (is_named tree number) (λ is. (let one = named_has tree number is in none one.at one.name one.is))

-- ---- another node at a number

set_named : (nodes : List (Option Node)) (m number : ℕ) (node : Option Node) → names_it number node ≡ names_it number (get_or nodes m None) → list_any (names_it number) (set nodes m node) ≡ list_any (names_it number) nodes
set_named [] m number node same = refl
set_named (x ∷ nodes) zero number node same = ap (λ (b : Bool). b || list_any (names_it number) nodes) same
set_named (x ∷ nodes) (suc m) number node same = ap (λ (b : Bool). names_it number x || b) (set_named nodes m number node same)

-- a node that has names for a number just where the one before had any
pub with_node_named : (tree : Tree) (m number : ℕ) (node : Option Node) → names_it number node ≡ names_it number (get_or tree.nodes m None) → is_named (with_node tree m node) number ≡ is_named tree number
with_node_named tree m number node same = set_named tree.nodes m number node same

-- ---- a name that is put, and one that is taken

found_ok : (names : Names) (name : List ℕ) (ino : Ino) → finite.get names name ≡ Some ino → ok_or (finite.get names name) NoEnt ≡ Ok ino
found_ok names name ino got = ap (λ (found : Option Ino). ok_or found NoEnt) got

put_in : (names : Names) (name : List ℕ) (ino : Ino) (number : ℕ) → number ≢ ino.0 → ((x : Ino) → ok_or (finite.get names name) NoEnt ≡ Ok x → x.0 ≢ number)
    → names_it number (Some (Directory (finite.insert names name ino))) ≡ names_it number (Some (Directory names))
put_in names name ino number apart other =
    same_bool _ _
    (λ is. (let one = names_have (finite.insert names name ino) number is in older one.name (sym (finite.get-insert nat_list_cmp_total names name ino one.name) ∙ one.got)))
    (λ is. (let one = names_have names number is in have_names (finite.insert names name ino) one.name number (newer one.name one.got)))
  where
    older : (n : List ℕ) → cond (eq_by_cmp order n name) (Some ino) (finite.get names n) ≡ Some (numbered number) → names_it number (Some (Directory names)) ≡ true
    older n is = elim (eq_by_cmp order n name) as (λ b. cond b (Some ino) (finite.get names n) ≡ Some (numbered number) → names_it number (Some (Directory names)) ≡ true) [
      | true ↦ λ e. (let same : ino ≡ numbered number = cc in absurd (apart (sym (ap (λ (x : Ino). x.0) same))))
      | false ↦ λ e. have_names names n number e
    ] is

    newer : (n : List ℕ) → finite.get names n ≡ Some (numbered number) → finite.get (finite.insert names name ino) n ≡ Some (numbered number)
    newer n got = finite.get-insert nat_list_cmp_total names name ino n
        ∙ ap (λ (b : Bool). cond b (Some ino) (finite.get names n)) (apart_names n name (λ same. other (numbered number) (found_ok names name (numbered number) (ap (finite.get names) same ∙ got)) refl))
        ∙ got

take_in : (names : Names) (name : List ℕ) (number : ℕ) → ((x : Ino) → ok_or (finite.get names name) NoEnt ≡ Ok x → x.0 ≢ number)
    → names_it number (Some (Directory (finite.remove names name))) ≡ names_it number (Some (Directory names))
take_in names name number other =
    same_bool _ _
    (λ is. (let one = names_have (finite.remove names name) number is in older one.name (sym (finite.get-remove nat_list_cmp_total names name one.name) ∙ one.got)))
    (λ is. (let one = names_have names number is in have_names (finite.remove names name) one.name number (newer one.name one.got)))
  where
    older : (n : List ℕ) → cond (eq_by_cmp order n name) None (finite.get names n) ≡ Some (numbered number) → names_it number (Some (Directory names)) ≡ true
    older n is = elim (eq_by_cmp order n name) as (λ b. cond b None (finite.get names n) ≡ Some (numbered number) → names_it number (Some (Directory names)) ≡ true) [
      | true ↦ λ e. absurd (cc)
      | false ↦ λ e. have_names names n number e
    ] is

    newer : (n : List ℕ) → finite.get names n ≡ Some (numbered number) → finite.get (finite.remove names name) n ≡ Some (numbered number)
    newer n got = finite.get-remove nat_list_cmp_total names name n
        ∙ ap (λ (b : Bool). cond b None (finite.get names n)) (apart_names n name (λ same. other (numbered number) (found_ok names name (numbered number) (ap (finite.get names) same ∙ got)) refl))
        ∙ got

put_node : (node : Option Node) (name : List ℕ) (ino : Ino) (number : ℕ) → number ≢ ino.0 → ((x : Ino) → looked_up node name ≡ Ok x → x.0 ≢ number) → names_it number (with_name node name ino) ≡ names_it number node
put_node (Some (Directory names)) name ino number apart other = put_in names name ino number apart other
put_node (Some (Regular file)) name ino number apart other = refl
put_node None name ino number apart other = refl

take_node : (node : Option Node) (name : List ℕ) (number : ℕ) → ((x : Ino) → looked_up node name ≡ Ok x → x.0 ≢ number) → names_it number (without_name node name) ≡ names_it number node
take_node (Some (Directory names)) name number other = take_in names name number other
take_node (Some (Regular file)) name number other = refl
take_node None name number other = refl

-- a number for which the name didn't stand before, nor stands now, is named as before
pub put_named_other : (tree : Tree) (place : Ino) (name : List ℕ) (ino : Ino) (number : ℕ) → number ≢ ino.0 → ((x : Ino) → looked_up (node_at tree place) name ≡ Ok x → x.0 ≢ number)
    → is_named (put_name tree place name ino) number ≡ is_named tree number
put_named_other tree place name ino number apart other = with_node_named tree place.0 number (with_name (node_at tree place) name ino) (put_node (node_at tree place) name ino number apart other)

pub take_named_other : (tree : Tree) (place : Ino) (name : List ℕ) (number : ℕ) → ((x : Ino) → looked_up (node_at tree place) name ≡ Ok x → x.0 ≢ number)
    → is_named (take_name tree place name) number ≡ is_named tree number
take_named_other tree place name number other = with_node_named tree place.0 number (without_name (node_at tree place) name) (take_node (node_at tree place) name number other)

set_here : (nodes : List (Option Node)) (m number : ℕ) (node : Option Node) → m < length nodes → names_it number node ≡ true → list_any (names_it number) (set nodes m node) ≡ true
set_here [] m number node within is = absurd (omega arith)
set_here (x ∷ nodes) zero number node within is = ap (λ (b : Bool). b || list_any (names_it number) nodes) is
set_here (x ∷ nodes) (suc m) number node within is = or_right (names_it number x) _ (set_here nodes m number node (omega arith) is)

directory_within : (nodes : List (Option Node)) (m : ℕ) (names : Names) → get_or nodes m None ≡ Some (Directory names) → m < length nodes
directory_within [] m names here = absurd (cc)
directory_within (x ∷ nodes) zero names here = omega arith
directory_within (x ∷ nodes) (suc m) names here = (let rest = directory_within nodes m names here in omega arith)

-- what a name is put for is named
pub put_named : (tree : Tree) (place : Ino) (names : Names) (name : List ℕ) (ino : Ino) → node_at tree place ≡ Some (Directory names) → is_named (put_name tree place name ino) ino.0 ≡ true
put_named tree place names name ino here =
    set_here tree.nodes place.0 ino.0 (with_name (node_at tree place) name ino) (directory_within tree.nodes place.0 names here)
    (subst (λ (node : Option Node). names_it ino.0 (with_name node name ino) ≡ true) (sym here) (have_names (finite.insert names name ino) name ino.0 (put_here names name ino)))
  where
    put_here : (names : Names) (name : List ℕ) (ino : Ino) → finite.get (finite.insert names name ino) name ≡ Some (numbered ino.0)
    put_here names name ino = finite.get-insert nat_list_cmp_total names name ino name ∙ ap (λ (b : Bool). cond b (Some ino) (finite.get names name)) (same_names name)
