-- Which names stand for an inode after one change of the nodes.
use Rattle.std.proofs.Common.{◌≡◌, ◌≢◌, ◌⊎◌, inl, inr, ℕ, zero, suc, true, false, List, [], ◌∷◌, map, Option, Some, None, Ok, ok_or, get_or, set, cond, refl, sym, ap, subst, ◌∙◌}
use Rattle.std.specs.declared.cmp.Ordering.TheVariants.{Less, Equal, Greater}
use Rattle.std.specs.Ordering.{eq_by_cmp, is_eq}
use Rattle.std.specs.Cmp.{eq_by_cmp_equiv}
use Rattle.std.specs.Cmp.Lexicographic.{nat_list_cmp_total}
use Rattle.std.specs.FinMap as finite
use Rattle.cal_base.specs.declared.identity.ClientId.{ClientId}
use Rattle.cal_base.specs.declared.identity.Ino.{Ino}
use Rattle.tree_law.specs.PartOf.{kind_of}
use Rattle.tree_law.specs.Names.{Names}
use Rattle.tree_law.specs.After.{with_name, without_name, changed_node, flushed_node, restored_node}
use Rattle.tree_law.specs.declared.node.Node.{Node}
use Rattle.tree_law.specs.declared.node.Node.TheVariants.{Directory, Regular}
use Rattle.tree_law.specs.declared.reply.Why.TheVariants.{NoEnt}
use Rattle.tree_facts.proofs.Entries.{NamesIt, order}

same_names : (a b : List ℕ) → eq_by_cmp order a b ≡ true → a ≡ b
same_names a b is =
    elim (order a b) as (λ o. order a b ≡ o → is_eq o ≡ true → a ≡ b) [
      | Less ↦ λ e no. absurd (cc)
      | Equal ↦ λ e yes. finite.slice_cmp-IsAntisymmetric finite.nat_cmp-IsAntisymmetric a b e
      | Greater ↦ λ e no. absurd (cc)
    ] refl is

other_names : (a b : List ℕ) → eq_by_cmp order a b ≡ false → b ≢ a
other_names a b is same =
    let equal : eq_by_cmp order a b ≡ true = subst (λ (n : List ℕ). eq_by_cmp order a n ≡ true) (sym same) ((eq_by_cmp_equiv nat_list_cmp_total).refl a) in
    absurd (cc)

-- a name is the one that was put, or an older one
abbrev pub IsPut : List ℕ → List ℕ → Ino → Ino → Type 0
IsPut put name new ino = (put ≡ name) × (new ≡ ino)

abbrev pub IsOlder : Option Node → List ℕ → List ℕ → Ino → Type 0
IsOlder node put name ino = (put ≢ name) × NamesIt node name ino

put_in : (names : Names) (put name : List ℕ) (new ino : Ino) → ok_or (finite.get (finite.insert names put new) name) NoEnt ≡ Ok ino → IsPut put name new ino ⊎ IsOlder (Some (Directory names)) put name ino
put_in names put name new ino is =
    elim (eq_by_cmp order name put) as (λ b. eq_by_cmp order name put ≡ b → ok_or (cond b (Some new) (finite.get names name)) NoEnt ≡ Ok ino → IsPut put name new ino ⊎ IsOlder (Some (Directory names)) put name ino) [
      | true ↦ λ e found. inl (sym (same_names name put e), cc)
      | false ↦ λ e found. inr (other_names name put e, found)
    ] refl (sym (ap (λ (found : Option Ino). ok_or found NoEnt) (finite.get-insert nat_list_cmp_total names put new name)) ∙ is)

put_node : (node : Option Node) (put name : List ℕ) (new ino : Ino) → NamesIt (with_name node put new) name ino → IsPut put name new ino ⊎ IsOlder node put name ino
put_node (Some (Directory names)) put name new ino is = put_in names put name new ino is
put_node (Some (Regular file)) put name new ino is = absurd (cc)
put_node None put name new ino is = absurd (cc)

take_in : (names : Names) (taken name : List ℕ) (ino : Ino) → ok_or (finite.get (finite.remove names taken) name) NoEnt ≡ Ok ino → IsOlder (Some (Directory names)) taken name ino
take_in names taken name ino is =
    elim (eq_by_cmp order name taken) as (λ b. eq_by_cmp order name taken ≡ b → ok_or (cond b None (finite.get names name)) NoEnt ≡ Ok ino → IsOlder (Some (Directory names)) taken name ino) [
      | true ↦ λ e found. absurd (cc)
      | false ↦ λ e found. (other_names name taken e, found)
    ] refl (sym (ap (λ (found : Option Ino). ok_or found NoEnt) (finite.get-remove nat_list_cmp_total names taken name)) ∙ is)

take_node : (node : Option Node) (taken name : List ℕ) (ino : Ino) → NamesIt (without_name node taken) name ino → IsOlder node taken name ino
take_node (Some (Directory names)) taken name ino is = take_in names taken name ino is
take_node (Some (Regular file)) taken name ino is = absurd (cc)
take_node None taken name ino is = absurd (cc)

-- the same at each place of the nodes
abbrev pub IsPutAt : ℕ → ℕ → List ℕ → List ℕ → Ino → Ino → Type 0
IsPutAt m k put name new ino = (m ≡ k) × IsPut put name new ino

abbrev pub IsOlderAt : List (Option Node) → ℕ → ℕ → List ℕ → List ℕ → Ino → Type 0
IsOlderAt nodes m k put name ino = (m ≡ k → put ≢ name) × NamesIt (get_or nodes k None) name ino

put_here : (m k : ℕ) (node : Option Node) (put name : List ℕ) (new ino : Ino) → m ≡ k → IsPut put name new ino ⊎ IsOlder node put name ino → IsPutAt m k put name new ino ⊎ ((m ≡ k → put ≢ name) × NamesIt node name ino)
put_here m k node put name new ino same (inl is) = inl (same, is)
put_here m k node put name new ino same (inr older) = inr (λ e. older.0, older.1)

put_further : (nodes : List (Option Node)) (m k : ℕ) (put name : List ℕ) (new ino : Ino) → IsPutAt m k put name new ino ⊎ IsOlderAt nodes m k put name ino → IsPutAt (suc m) (suc k) put name new ino ⊎ ((suc m ≡ suc k → put ≢ name) × NamesIt (get_or nodes k None) name ino)
put_further nodes m k put name new ino (inl is) = inl (ap suc is.0, is.1)
put_further nodes m k put name new ino (inr older) = inr (λ e. older.0 (cc), older.1)

pub names_put : (nodes : List (Option Node)) (m k : ℕ) (put name : List ℕ) (new ino : Ino) → NamesIt (get_or (set nodes m (with_name (get_or nodes m None) put new)) k None) name ino
    → IsPutAt m k put name new ino ⊎ IsOlderAt nodes m k put name ino
names_put [] m k put name new ino is = absurd (cc)
names_put (place ∷ nodes) zero zero put name new ino is = put_here zero zero place put name new ino refl (put_node place put name new ino is)
names_put (place ∷ nodes) zero (suc k) put name new ino is = inr (λ e. absurd (cc), is)
names_put (place ∷ nodes) (suc m) zero put name new ino is = inr (λ e. absurd (cc), is)
names_put (place ∷ nodes) (suc m) (suc k) put name new ino is = put_further nodes m k put name new ino (names_put nodes m k put name new ino is)

pub names_taken : (nodes : List (Option Node)) (m k : ℕ) (taken name : List ℕ) (ino : Ino) → NamesIt (get_or (set nodes m (without_name (get_or nodes m None) taken)) k None) name ino → IsOlderAt nodes m k taken name ino
names_taken [] m k taken name ino is = absurd (cc)
names_taken (place ∷ nodes) zero zero taken name ino is = let older = take_node place taken name ino is in (λ e. older.0, older.1)
names_taken (place ∷ nodes) zero (suc k) taken name ino is = (λ e. absurd (cc), is)
names_taken (place ∷ nodes) (suc m) zero taken name ino is = (λ e. absurd (cc), is)
names_taken (place ∷ nodes) (suc m) (suc k) taken name ino is = let older = names_taken nodes m k taken name ino is in (λ e. older.0 (cc), older.1)

-- ---- a node with something else that has no names

-- a node without names
abbrev pub HasNoNames : Option Node → Type 0
HasNoNames node = (name : List ℕ) (ino : Ino) → NamesIt node name ino → ⊥

pub names_set : (nodes : List (Option Node)) (m k : ℕ) (next : Option Node) (name : List ℕ) (ino : Ino) → HasNoNames next → NamesIt (get_or (set nodes m next) k None) name ino → (m ≢ k) × NamesIt (get_or nodes k None) name ino
names_set [] m k next name ino none is = absurd (cc)
names_set (place ∷ nodes) zero zero next name ino none is = absurd (none name ino is)
names_set (place ∷ nodes) zero (suc k) next name ino none is = (λ e. absurd (cc), is)
names_set (place ∷ nodes) (suc m) zero next name ino none is = (λ e. absurd (cc), is)
names_set (place ∷ nodes) (suc m) (suc k) next name ino none is = let older = names_set nodes m k next name ino none is in (λ e. older.0 (cc), older.1)

-- something stands there
abbrev pub IsThere : Option Node → Type 0
IsThere node = kind_of node ≢ None

pub there_set : (nodes : List (Option Node)) (m k : ℕ) (next : Option Node) → m ≢ k → IsThere (get_or nodes k None) → IsThere (get_or (set nodes m next) k None)
there_set [] m k next apart there = there
there_set (place ∷ nodes) zero zero next apart there = absurd (apart refl)
there_set (place ∷ nodes) zero (suc k) next apart there = there
there_set (place ∷ nodes) (suc m) zero next apart there = there
there_set (place ∷ nodes) (suc m) (suc k) next apart there = there_set nodes m k next (λ e. apart (ap suc e)) there

-- ---- other bytes leave all names

-- a node has the names of another, and stands where that stands
abbrev pub IsAlike : Option Node → Option Node → Type 0
IsAlike before later = ((name : List ℕ) (ino : Ino) → NamesIt later name ino → NamesIt before name ino) × (kind_of later ≡ kind_of before)

pub alike : (node : Option Node) → IsAlike node node
alike node = (λ name ino is. is, refl)

pub changed_alike : (client : ClientId) (change : List ℕ → List ℕ) (node : Option Node) → IsAlike node (changed_node client change node)
changed_alike client change (Some (Directory names)) = alike (Some (Directory names))
changed_alike client change (Some (Regular file)) = (λ name ino is. absurd (cc), refl)
changed_alike client change None = alike None

pub flushed_alike : (node : Option Node) → IsAlike node (flushed_node node)
flushed_alike (Some (Directory names)) = alike (Some (Directory names))
flushed_alike (Some (Regular file)) = (λ name ino is. absurd (cc), refl)
flushed_alike None = alike None

restored_alike : (client : ClientId) (node : Option Node) → IsAlike node (restored_node client node)
restored_alike client (Some (Directory names)) = alike (Some (Directory names))
restored_alike client (Some (Regular file)) = (λ name ino is. absurd (cc), refl)
restored_alike client None = alike None

pub set_alike : (nodes : List (Option Node)) (m k : ℕ) (next : Option Node) → IsAlike (get_or nodes m None) next → IsAlike (get_or nodes k None) (get_or (set nodes m next) k None)
set_alike [] m k next same = alike None
set_alike (place ∷ nodes) zero zero next same = same
set_alike (place ∷ nodes) zero (suc k) next same = alike (get_or nodes k None)
set_alike (place ∷ nodes) (suc m) zero next same = alike place
set_alike (place ∷ nodes) (suc m) (suc k) next same = set_alike nodes m k next same

pub all_alike : (client : ClientId) (nodes : List (Option Node)) (k : ℕ) → IsAlike (get_or nodes k None) (get_or (map (restored_node client) nodes) k None)
all_alike client [] k = alike None
all_alike client (place ∷ nodes) zero = restored_alike client place
all_alike client (place ∷ nodes) (suc k) = all_alike client nodes k
