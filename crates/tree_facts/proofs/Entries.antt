-- Names that stand in a directory, and what else stands there.
use Rattle.std.proofs.Common.{◌≡◌, ◌≢◌, ◌==◌, ◌||◌, ℕ, zero, suc, Bool, true, false, List, [], ◌∷◌, map, Option, Some, None, Ok, Err, ok_or, get_or, set, cond, refl, sym, ap, ◌∙◌, eq-eqb}
use Rattle.std.specs.declared.cmp.Ordering.{Ordering}
use Rattle.std.specs.declared.cmp.Ordering.TheVariants.{Less, Equal, Greater}
use Rattle.std.specs.Ordering.{nat_cmp, eq_by_cmp, is_eq}
use Rattle.std.specs.Cmp.{eq_by_cmp_equiv}
use Rattle.std.specs.Cmp.Lexicographic.{slice_cmp, nat_list_cmp_total}
use Rattle.std.specs.List.{list_any}
use Rattle.std.specs.FinMap as finite
use Rattle.cal_base.specs.declared.directory_entry.EntryKind.TheVariants.{File as IsFile, Directory as IsDirectory}
use Rattle.cal_base.specs.declared.identity.Ino.{Ino}
use Rattle.tree_law.specs.Tree.{Tree}
use Rattle.tree_law.specs.PartOf.{kind_of}
use Rattle.tree_law.specs.Names.{Names}
use Rattle.tree_law.specs.Resolve.{looked_up}
use Rattle.tree_law.specs.Idle.{is_named, names_it}
use Rattle.tree_law.specs.After.{with_name, without_name}
use Rattle.tree_law.specs.declared.node.Node.{Node}
use Rattle.tree_law.specs.declared.node.Node.TheVariants.{Directory, Regular}
use Rattle.tree_law.specs.declared.reply.Why.TheVariants.{NoEnt}

abbrev pub order : List ℕ → List ℕ → Ordering
order = slice_cmp nat_cmp

-- a name of a node stands for this inode
abbrev pub NamesIt : Option Node → List ℕ → Ino → Type 0
NamesIt node name ino = looked_up node name ≡ Ok ino

-- ---- an inode that a name stands for has a name

or_right : (a b : Bool) → b ≡ true → (a || b) ≡ true
or_right true b e = refl
or_right false b e = e

found_value : (name : List ℕ) (ino : Ino) (es : List (List ℕ × Ino)) → finite.find order name es ≡ Some ino → list_any (λ i. i.0 == ino.0) (map (λ e. e.1) es) ≡ true
found_value name ino [] is = absurd (cc)
found_value name ino (e ∷ es) is =
    elim (eq_by_cmp order name e.0) as (λ b. cond b (Some e.1) (finite.find order name es) ≡ Some ino → (e.1.0 == ino.0 || list_any (λ i. i.0 == ino.0) (map (λ e. e.1) es)) ≡ true) [
      | true ↦ λ same. ap (λ (b : Bool). b || list_any (λ i. i.0 == ino.0) (map (λ e. e.1) es)) (eq-eqb e.1.0 ino.0 (cc))
      | false ↦ λ rest. or_right (e.1.0 == ino.0) _ (found_value name ino es rest)
    ] is

of_ok : (found : Option Ino) (ino : Ino) → ok_or found NoEnt ≡ Ok ino → found ≡ Some ino
of_ok (Some other) ino is = cc
of_ok None ino is = absurd (cc)

node_names : (node : Option Node) (name : List ℕ) (ino : Ino) → NamesIt node name ino → names_it ino.0 node ≡ true
node_names (Some (Directory names)) name ino is = found_value name ino (finite.entries names) (sym (finite.get-entries names name) ∙ of_ok (finite.get names name) ino is)
node_names (Some (Regular file)) name ino is = absurd (cc)
node_names None name ino is = absurd (cc)

nodes_name : (nodes : List (Option Node)) (m : ℕ) (name : List ℕ) (ino : Ino) → NamesIt (get_or nodes m None) name ino → list_any (names_it ino.0) nodes ≡ true
nodes_name [] m name ino is = absurd (cc)
nodes_name (node ∷ nodes) zero name ino is = ap (λ (b : Bool). b || list_any (names_it ino.0) nodes) (node_names node name ino is)
nodes_name (node ∷ nodes) (suc m) name ino is = or_right (names_it ino.0 node) (list_any (names_it ino.0) nodes) (nodes_name nodes m name ino is)

pub is_named_by : (tree : Tree) (m : ℕ) (name : List ℕ) (ino : Ino) → NamesIt (get_or tree.nodes m None) name ino → is_named tree ino.0 ≡ true
is_named_by tree m name ino is = nodes_name tree.nodes m name ino is

-- ---- a name that is put, and a name that is taken

put_here : (names : Names) (name : List ℕ) (ino : Ino) → finite.get (finite.insert names name ino) name ≡ Some ino
put_here names name ino =
    finite.get-insert nat_list_cmp_total names name ino name
    ∙ ap (λ (b : Bool). cond b (Some ino) (finite.get names name)) ((eq_by_cmp_equiv nat_list_cmp_total).refl name)

apart_names : (taken name : List ℕ) → taken ≢ name → eq_by_cmp order name taken ≡ false
apart_names taken name apart =
    elim (order name taken) as (λ o. order name taken ≡ o → is_eq o ≡ false) [
      | Less ↦ λ e. refl
      | Equal ↦ λ e. absurd (apart (sym (finite.slice_cmp-IsAntisymmetric finite.nat_cmp-IsAntisymmetric name taken e)))
      | Greater ↦ λ e. refl
    ] refl

take_other : (names : Names) (taken name : List ℕ) → taken ≢ name → finite.get (finite.remove names taken) name ≡ finite.get names name
take_other names taken name apart =
    finite.get-remove nat_list_cmp_total names taken name
    ∙ ap (λ (b : Bool). cond b None (finite.get names name)) (apart_names taken name apart)

put_names : (node : Option Node) (name : List ℕ) (ino : Ino) → kind_of node ≡ Some IsDirectory → NamesIt (with_name node name ino) name ino
put_names (Some (Directory names)) name ino is = ap (λ (found : Option Ino). ok_or found NoEnt) (put_here names name ino)
put_names (Some (Regular file)) name ino is = absurd (cc)
put_names None name ino is = absurd (cc)

take_names : (node : Option Node) (taken name : List ℕ) (ino : Ino) → taken ≢ name → NamesIt node name ino → NamesIt (without_name node taken) name ino
take_names (Some (Directory names)) taken name ino apart is = ap (λ (found : Option Ino). ok_or found NoEnt) (take_other names taken name apart) ∙ is
take_names (Some (Regular file)) taken name ino apart is = is
take_names None taken name ino apart is = is

pub put_names_it : (nodes : List (Option Node)) (m : ℕ) (name : List ℕ) (ino : Ino) → kind_of (get_or nodes m None) ≡ Some IsDirectory
    → NamesIt (get_or (set nodes m (with_name (get_or nodes m None) name ino)) m None) name ino
put_names_it [] m name ino is = absurd (cc)
put_names_it (place ∷ nodes) zero name ino is = put_names place name ino is
put_names_it (place ∷ nodes) (suc m) name ino is = put_names_it nodes m name ino is

pub still_names_it : (nodes : List (Option Node)) (m k : ℕ) (taken name : List ℕ) (ino : Ino) → (m ≡ k → taken ≢ name) → NamesIt (get_or nodes k None) name ino
    → NamesIt (get_or (set nodes m (without_name (get_or nodes m None) taken)) k None) name ino
still_names_it [] m k taken name ino apart is = is
still_names_it (place ∷ nodes) zero zero taken name ino apart is = take_names place taken name ino (apart refl) is
still_names_it (place ∷ nodes) zero (suc k) taken name ino apart is = is
still_names_it (place ∷ nodes) (suc m) zero taken name ino apart is = is
still_names_it (place ∷ nodes) (suc m) (suc k) taken name ino apart is = still_names_it nodes m k taken name ino (λ e. apart (ap suc e)) is

-- ---- what else stands there: a file as it was, and everywhere the same kind

abbrev pub Unmoved : Option Node → Option Node → Type 0
Unmoved before node = (kind_of before ≡ Some IsFile → node ≡ before) × (kind_of node ≡ kind_of before)

unmoved : (place : Option Node) → Unmoved place place
unmoved place = (λ file. refl, refl)

put_unmoved : (node : Option Node) (name : List ℕ) (ino : Ino) → Unmoved node (with_name node name ino)
put_unmoved (Some (Directory names)) name ino = (λ file. absurd (cc), refl)
put_unmoved (Some (Regular file)) name ino = unmoved (Some (Regular file))
put_unmoved None name ino = unmoved None

take_unmoved : (node : Option Node) (name : List ℕ) → Unmoved node (without_name node name)
take_unmoved (Some (Directory names)) name = (λ file. absurd (cc), refl)
take_unmoved (Some (Regular file)) name = unmoved (Some (Regular file))
take_unmoved None name = unmoved None

set_unmoved : (nodes : List (Option Node)) (m k : ℕ) (next : Option Node) → Unmoved (get_or nodes m None) next → Unmoved (get_or nodes k None) (get_or (set nodes m next) k None)
set_unmoved [] m k next same = unmoved None
set_unmoved (place ∷ nodes) zero zero next same = same
set_unmoved (place ∷ nodes) zero (suc k) next same = unmoved (get_or nodes k None)
set_unmoved (place ∷ nodes) (suc m) zero next same = unmoved place
set_unmoved (place ∷ nodes) (suc m) (suc k) next same = set_unmoved nodes m k next same

pub put_leaves : (nodes : List (Option Node)) (m k : ℕ) (name : List ℕ) (ino : Ino) → Unmoved (get_or nodes k None) (get_or (set nodes m (with_name (get_or nodes m None) name ino)) k None)
put_leaves nodes m k name ino = set_unmoved nodes m k _ (put_unmoved (get_or nodes m None) name ino)

pub take_leaves : (nodes : List (Option Node)) (m k : ℕ) (name : List ℕ) → Unmoved (get_or nodes k None) (get_or (set nodes m (without_name (get_or nodes m None) name)) k None)
take_leaves nodes m k name = set_unmoved nodes m k _ (take_unmoved (get_or nodes m None) name)

put_other : (names : Names) (put name : List ℕ) (ino : Ino) → put ≢ name → finite.get (finite.insert names put ino) name ≡ finite.get names name
put_other names put name ino apart =
    finite.get-insert nat_list_cmp_total names put ino name
    ∙ ap (λ (b : Bool). cond b (Some ino) (finite.get names name)) (apart_names put name apart)

put_names_other : (node : Option Node) (put name : List ℕ) (new ino : Ino) → put ≢ name → NamesIt node name ino → NamesIt (with_name node put new) name ino
put_names_other (Some (Directory names)) put name new ino apart is = ap (λ (found : Option Ino). ok_or found NoEnt) (put_other names put name new apart) ∙ is
put_names_other (Some (Regular file)) put name new ino apart is = is
put_names_other None put name new ino apart is = is

-- another name that is put leaves what a name stands for
pub names_it_too : (nodes : List (Option Node)) (m k : ℕ) (put name : List ℕ) (new ino : Ino) → (m ≡ k → put ≢ name) → NamesIt (get_or nodes k None) name ino
    → NamesIt (get_or (set nodes m (with_name (get_or nodes m None) put new)) k None) name ino
names_it_too [] m k put name new ino apart is = is
names_it_too (place ∷ nodes) zero zero put name new ino apart is = put_names_other place put name new ino (apart refl) is
names_it_too (place ∷ nodes) zero (suc k) put name new ino apart is = is
names_it_too (place ∷ nodes) (suc m) zero put name new ino apart is = is
names_it_too (place ∷ nodes) (suc m) (suc k) put name new ino apart is = names_it_too nodes m k put name new ino (λ e. apart (ap suc e)) is

-- where a name stands for something, a directory is
pub is_directory_by : (node : Option Node) (name : List ℕ) (ino : Ino) → NamesIt node name ino → kind_of node ≡ Some IsDirectory
is_directory_by (Some (Directory names)) name ino is = refl
is_directory_by (Some (Regular file)) name ino is = absurd (cc)
is_directory_by None name ino is = absurd (cc)

take_names_none : (node : Option Node) (name : List ℕ) → kind_of node ≡ Some IsDirectory → looked_up (without_name node name) name ≡ Err NoEnt
take_names_none (Some (Directory names)) name is =
    ap (λ (found : Option Ino). ok_or found NoEnt)
    (finite.get-remove nat_list_cmp_total names name name ∙ ap (λ (b : Bool). cond b None (finite.get names name)) ((eq_by_cmp_equiv nat_list_cmp_total).refl name))
take_names_none (Some (Regular file)) name is = absurd (cc)
take_names_none None name is = absurd (cc)

-- a name that is taken stands for nothing
pub names_none : (nodes : List (Option Node)) (m : ℕ) (name : List ℕ) → kind_of (get_or nodes m None) ≡ Some IsDirectory
    → looked_up (get_or (set nodes m (without_name (get_or nodes m None) name)) m None) name ≡ Err NoEnt
names_none [] m name is = absurd (cc)
names_none (place ∷ nodes) zero name is = take_names_none place name is
names_none (place ∷ nodes) (suc m) name is = names_none nodes m name is
