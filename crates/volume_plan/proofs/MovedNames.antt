-- What `rename` leaves of a tree.
use Rattle.std.proofs.Common.{◌≡◌, ◌≢◌, ◌≤◌, ◌<◌, ◌==◌, ◌⊎◌, ℕ, Bool, true, false, List, length, Option, Some, None, Ok, Err, ok_or, IfSome, cond, is_none, inl, inr, refl, sym, ap, subst, ◌∙◌, arith, eq-eqb, if◌then◌else◌}
use Rattle.cal_base.specs.Limits as limits
use Rattle.std.proofs.lemmas.Bool.{cases_eq, ne_eqb}
use Rattle.std.proofs.lemmas.List.{get_or-set_other, get_or-set_same, length-set}
use Rattle.std.specs.Ordering.{eq_by_cmp}
use Rattle.std.specs.Cmp.Lexicographic.{nat_list_cmp_total}
use Rattle.std.specs.FinMap as finite
use Rattle.cal_base.specs.declared.identity.Ino.{Ino}
use Rattle.tree_facts.proofs.Entries.{NamesIt}
use Rattle.tree_facts.proofs.NameChanges.{IsOlderAt, IsPutAt, names_put}
use Rattle.tree_facts.proofs.OneName.{OneNamed}
use Rattle.tree_facts.proofs.OneNameKept.{nameless_moved}
use Rattle.tree_law.proofs.IdleLemmas.{node_of}
use Rattle.tree_law.specs.After.{put_name, take_name, with_name, without_name, without_replaced}
use Rattle.tree_law.specs.Idle.{is_named, names_it, with_node}
use Rattle.tree_law.specs.Names.{Names}
use Rattle.tree_law.specs.Rename.{is_directory}
use Rattle.tree_law.specs.Resolve.{looked_up}
use Rattle.tree_law.specs.Tree.{Tree, node_at, writer_of}
use Rattle.tree_law.specs.declared.node.Node.{Node}
use Rattle.tree_law.specs.declared.node.Node.TheVariants.{Directory, Regular}
use Rattle.tree_law.specs.declared.reply.Why.TheVariants.{NoEnt}
use Rattle.volume.specs.Stands.{StandsForNode}
use Rattle.volume.specs.Volume.{Volume}
use Rattle.volume_edit.specs.Edit.{IsVolume, inode_at}
use Rattle.volume_plan.proofs.Fits.{StandForNodes}
use Rattle.volume_plan.proofs.Gone.{Loses, a_directory, a_file}
use Rattle.volume_plan.proofs.Named.{has_named, nameless, put_named_other, take_named_other, with_node_named}
use Rattle.volume_plan.proofs.NamesOf.{one_map, order, same_names, tied_names}
use Rattle.volume_plan.proofs.RemovedNames.{IsEmptyNode, IsFileNode, Named, flushed_file, names_it_by, names_no_number, no_name, there_within}
use Rattle.volume_plan.proofs.Similar.{directory_there, node_there}

-- the names of the goal's directory without the former name, if that stood there
abbrev pub kept_names : Bool → Names → List ℕ → Names
kept_names true names name = finite.remove names name
kept_names false names name = names

-- a number that isn't replaced
abbrev pub IsApart : Option Ino → ℕ → Type 0
IsApart replaced number = IfSome replaced (λ target. number ≢ target.0)

-- what is replaced
pub record IsReplaced (sectors : List (List ℕ)) (v : Volume) (tree less : Tree) (from to target : Ino) : Type 0 where
  pub from_one : 1 ≤ target.0
  pub to_511 : target.0 < limits.inodes
  pub not_from : target.0 ≢ from.0
  pub not_to : target.0 ≢ to.0
  pub loses : Loses sectors (inode_at v.inodes target.0) tree less target.0

-- a tree in which an entry has the goal's name in place of the former, and nothing else is changed but what it replaced
pub record Moved (sectors : List (List ℕ)) (v : Volume) (tree less : Tree) (from to ino : Ino) (replaced : Option Ino) (name goal : List ℕ) : Type 0 where
  pub former : Named tree from ino name
  pub names : Names
  pub there : node_at tree to ≡ Some (Directory names)
  pub place_511 : to.0 < limits.inodes
  pub two : from.0 ≡ to.0 → name ≢ goal
  pub stood : IfSome replaced (λ target. finite.get names goal ≡ Some target)
  pub vacant : replaced ≡ None → finite.get names goal ≡ None
  pub left : from.0 ≢ to.0 → node_of less from.0 ≡ Some (Directory (finite.remove former.names name))
  pub entered : node_of less to.0 ≡ Some (Directory (finite.insert (kept_names (from.0 == to.0) names name) goal ino))
  pub others : (number : ℕ) → number ≢ from.0 → number ≢ to.0 → IsApart replaced number → node_of less number ≡ node_of tree number
  pub named : (number : ℕ) → IsApart replaced number → is_named less number ≡ is_named tree number
  pub goes : IfSome replaced (IsReplaced sectors v tree less from to)

-- ---- a name that comes and one that goes, in either order

swapped : (names : Names) (name goal : List ℕ) (ino : Ino) → name ≢ goal → finite.remove (finite.insert names goal ino) name ≡ finite.insert (finite.remove names name) goal ino
swapped names name goal ino apart = one_map _ _ (λ n.
    finite.get-remove nat_list_cmp_total (finite.insert names goal ino) name n
    ∙ ap (λ (found : Option Ino). cond (eq_by_cmp order n name) None found) (finite.get-insert nat_list_cmp_total names goal ino n)
    ∙ either n (eq_by_cmp order n name) (eq_by_cmp order n goal) refl refl
    ∙ sym (finite.get-insert nat_list_cmp_total (finite.remove names name) goal ino n ∙ ap (λ (found : Option Ino). cond (eq_by_cmp order n goal) (Some ino) found) (finite.get-remove nat_list_cmp_total names name n)))
  where
    either : (n : List ℕ) (a b : Bool) → eq_by_cmp order n name ≡ a → eq_by_cmp order n goal ≡ b
        → cond a None (cond b (Some ino) (finite.get names n)) ≡ cond b (Some ino) (cond a None (finite.get names n))
    either n true true p q = absurd (apart (sym (tied_names n name p) ∙ tied_names n goal q))
    either n true false p q = refl
    either n false true p q = refl
    either n false false p q = refl

-- ---- the tree with the one name, and without the other

module _ (tree : Tree) (from to ino : Ino) (name goal : List ℕ) (names : Names) (all : OneNamed tree.nodes) (former : Named tree from ino name) (there : node_at tree to ≡ Some (Directory names)) (two : from.0 ≡ to.0 → name ≢ goal) where
  abbrev pub put : Tree
  put = put_name tree to goal ino

  abbrev pub less : Tree
  less = take_name put from name

  to_within : to.0 < length tree.nodes
  to_within = there_within tree.nodes to.0 (Directory names) there

  put_at_to : node_of put to.0 ≡ Some (Directory (finite.insert names goal ino))
  put_at_to = get_or-set_same tree.nodes to.0 (with_name (node_at tree to) goal ino) None to_within ∙ ap (λ (node : Option Node). with_name node goal ino) there

  at_to_other : from.0 ≢ to.0 → node_of less to.0 ≡ Some (Directory (finite.insert names goal ino))
  at_to_other apart = get_or-set_other put.nodes from.0 to.0 (without_name (node_at put from) name) None (λ same. apart (sym same)) ∙ put_at_to

  at_to_same : from.0 ≡ to.0 → node_of less to.0 ≡ Some (Directory (finite.insert (finite.remove names name) goal ino))
  at_to_same same =
      subst (λ (n : ℕ). node_of (take_name put (record { 0 = n }) name) to.0 ≡ Some (Directory (finite.insert (finite.remove names name) goal ino))) (sym same)
      (get_or-set_same put.nodes to.0 (without_name (node_at put to) name) None (let w = to_within in let l = length-set tree.nodes to.0 (with_name (node_at tree to) goal ino) in omega arith)
      ∙ ap (λ (node : Option Node). without_name node name) put_at_to
      ∙ ap (λ (ns : Names). Some (Directory ns)) (swapped names name goal ino (two same)))

  pub at_to : node_of less to.0 ≡ Some (Directory (finite.insert (kept_names (from.0 == to.0) names name) goal ino))
  at_to = elim (cases_eq from.0 to.0) [
    | inl same ↦ subst (λ (b : Bool). node_of less to.0 ≡ Some (Directory (finite.insert (kept_names b names name) goal ino))) (sym (eq-eqb from.0 to.0 same)) (at_to_same same)
    | inr apart ↦ subst (λ (b : Bool). node_of less to.0 ≡ Some (Directory (finite.insert (kept_names b names name) goal ino))) (sym (ne_eqb from.0 to.0 apart)) (at_to_other apart)
  ]

  pub at_from : from.0 ≢ to.0 → node_of less from.0 ≡ Some (Directory (finite.remove former.names name))
  at_from apart =
      let same : node_of put from.0 ≡ Some (Directory former.names) = get_or-set_other tree.nodes to.0 from.0 (with_name (node_at tree to) goal ino) None apart ∙ former.here in
      get_or-set_same put.nodes from.0 (without_name (node_at put from) name) None (let w = there_within tree.nodes from.0 (Directory former.names) former.here in let l = length-set tree.nodes to.0 (with_name (node_at tree to) goal ino) in omega arith)
      ∙ ap (λ (node : Option Node). without_name node name) same

  pub at_other : (number : ℕ) → number ≢ from.0 → number ≢ to.0 → node_of less number ≡ node_of tree number
  at_other number no_from no_to =
      get_or-set_other put.nodes from.0 number (without_name (node_at put from) name) None no_from
      ∙ get_or-set_other tree.nodes to.0 number (with_name (node_at tree to) goal ino) None no_to

  -- who is named
  taken_is : (x : Ino) → NamesIt (node_at put from) name x → ino ≡ x
  taken_is x found = which (names_put tree.nodes to.0 from.0 goal name ino x found)
    where
      which : IsPutAt to.0 from.0 goal name ino x ⊎ IsOlderAt tree.nodes to.0 from.0 goal name x → ino ≡ x
      which (inl p) = p.1.1
      which (inr older) = (let both : Ok ino ≡ Ok x = sym (names_it_by tree from ino name former) ∙ older.1 in cc)

  named_other : (number : ℕ) → number ≢ ino.0 → ((x : Ino) → NamesIt (node_at tree to) goal x → x.0 ≢ number) → is_named less number ≡ is_named tree number
  named_other number apart other =
      take_named_other put from name number (λ x found same. apart (sym same ∙ sym (ap (λ (i : Ino). i.0) (taken_is x found))))
      ∙ put_named_other tree to goal ino number apart other

  names_goal : NamesIt (node_of less to.0) goal ino
  names_goal =
      let m : Names = kept_names (from.0 == to.0) names name in
      let got : finite.get (finite.insert m goal ino) goal ≡ Some ino = finite.get-insert nat_list_cmp_total m goal ino goal ∙ ap (λ (b : Bool). cond b (Some ino) (finite.get m goal)) (same_names goal) in
      subst (λ (node : Option Node). NamesIt node goal ino) (sym at_to) (ap (λ (found : Option Ino). ok_or found NoEnt) got)

  pub named_as_before : (number : ℕ) → ((x : Ino) → NamesIt (node_at tree to) goal x → x.0 ≢ number) → is_named less number ≡ is_named tree number
  named_as_before number other = elim (cases_eq number ino.0) [
    | inl same ↦ subst (λ (n : ℕ). is_named less n ≡ is_named tree n) (sym same) (has_named less ino.0 to.0 goal names_goal ∙ sym (has_named tree ino.0 from.0 name (names_it_by tree from ino name former)))
    | inr apart ↦ named_other number apart other
  ]

  pub replaced_nameless : (target : Ino) → NamesIt (node_at tree to) goal target → is_named less target.0 ≡ false
  replaced_nameless target stood = nameless less target.0 (λ at step is. nameless_moved tree from to ino target name goal all (names_it_by tree from ino name former) stood at step target is refl)

-- ---- what the goal stood for

-- a file in which nobody has unflushed writes, or an empty directory
pub data Target (tree : Tree) (target : Ino) : Type 0 where
  is_file : IsFileNode (node_at tree target) → is_none (writer_of (node_at tree target)) ≡ true → Target tree target
  is_empty : IsEmptyNode (node_at tree target) → Target tree target

-- it has no names, so it is none of the two directories
no_target : (tree : Tree) (target place x : Ino) (name : List ℕ) (names : Names) → Target tree target → node_at tree place ≡ Some (Directory names) → finite.get names name ≡ Some x → target.0 ≢ place.0
no_target tree target place x name names (is_file f flushed) here got same =
    let both : Some (Regular f.file) ≡ Some (Directory names) = sym f.is ∙ ap (node_of tree) same ∙ here in
    absurd (cc)
no_target tree target place x name names (is_empty e) here got same =
    no_name (node_at tree target) e name x (subst (λ (k : ℕ). NamesIt (node_of tree k) name x) (sym same) (subst (λ (node : Option Node). NamesIt node name x) (sym here) (ap (λ (found : Option Ino). ok_or found NoEnt) got)))

found_one : (tree : Tree) (to target x : Ino) (goal : List ℕ) (names : Names) → node_at tree to ≡ Some (Directory names) → finite.get names goal ≡ Some target → NamesIt (node_at tree to) goal x → target ≡ x
found_one tree to target x goal names there stood found =
    let both : Ok target ≡ Ok x = sym (ap (λ (node : Option Node). looked_up node goal) there ∙ ap (λ (i : Option Ino). ok_or i NoEnt) stood) ∙ found in
    cc

found_none : (tree : Tree) (to x : Ino) (goal : List ℕ) (names : Names) → node_at tree to ≡ Some (Directory names) → finite.get names goal ≡ None → NamesIt (node_at tree to) goal x → ⊥
found_none tree to x goal names there vacant found =
    let both : Err NoEnt ≡ Ok x = sym (ap (λ (node : Option Node). looked_up node goal) there ∙ ap (λ (i : Option Ino). ok_or i NoEnt) vacant) ∙ found in
    absurd (cc)

pub replaced_directory : (tree : Tree) (target : Ino) → is_directory (node_at tree target) ≡ true → without_replaced tree (Some target) ≡ with_node tree target.0 None
replaced_directory tree target is = ap (λ (b : Bool). if b then with_node tree target.0 None else tree) is

pub replaced_file : (tree : Tree) (target : Ino) → is_directory (node_at tree target) ≡ false → without_replaced tree (Some target) ≡ tree
replaced_file tree target is = ap (λ (b : Bool). if b then with_node tree target.0 None else tree) is

module _ (sectors : List (List ℕ)) (v : Volume) (tree : Tree) (from to ino : Ino) (name goal : List ℕ) (names : Names) (is : IsVolume v) (stand : StandForNodes sectors v tree)
    (all : OneNamed tree.nodes) (former : Named tree from ino name) (there : node_at tree to ≡ Some (Directory names)) (two : from.0 ≡ to.0 → name ≢ goal) where
  abbrev moved_tree : Tree
  moved_tree = less tree from to ino name goal names all former there two

  place_few : to.0 < limits.inodes
  place_few = (let w = there_within tree.nodes to.0 (Directory names) there in let c = all.count in omega arith)

  -- nothing is replaced
  pub moved_alone : finite.get names goal ≡ None → Moved sectors v tree moved_tree from to ino None name goal
  moved_alone vacant = record {
    former = former;
    names = names;
    there = there;
    place_511 = place_few;
    two = two;
    stood = tt;
    vacant = λ none. vacant;
    left = at_from tree from to ino name goal names all former there two;
    entered = at_to tree from to ino name goal names all former there two;
    others = λ number no_from no_to apart. at_other tree from to ino name goal names all former there two number no_from no_to;
    named = λ number apart. named_as_before tree from to ino name goal names all former there two number (λ x found. absurd (found_none tree to x goal names there vacant found));
    goes = tt;
  }

  -- a file is, and stays for as long as it is open
  module _ (target : Ino) (stood : finite.get names goal ≡ Some target) where
    stood_there : NamesIt (node_at tree to) goal target
    stood_there = subst (λ (node : Option Node). NamesIt node goal target) (sym there) (ap (λ (found : Option Ino). ok_or found NoEnt) stood)

    named_apart : (number : ℕ) → number ≢ target.0 → is_named moved_tree number ≡ is_named tree number
    named_apart number apart = named_as_before tree from to ino name goal names all former there two number (λ x found same. apart (sym same ∙ sym (ap (λ (i : Ino). i.0) (found_one tree to target x goal names there stood found))))

    not_from : Target tree target → target.0 ≢ from.0
    not_from t = no_target tree target from ino name former.names t former.here former.got

    not_to : Target tree target → target.0 ≢ to.0
    not_to t = no_target tree target to target goal names t there stood

    pub target_node : Target tree target → node_of moved_tree target.0 ≡ node_of tree target.0
    target_node t = at_other tree from to ino name goal names all former there two target.0 (not_from t) (not_to t)

    target_within : target.0 < limits.inodes
    target_within = (let few = (all.number to.0 goal target stood_there).to_511 in omega arith)

    pub moved_over_file : (f : IsFileNode (node_at tree target)) → is_none (writer_of (node_at tree target)) ≡ true → Moved sectors v tree moved_tree from to ino (Some target) name goal
    moved_over_file f flushed =
        let t : Target tree target = is_file f flushed in
        let n = all.number to.0 goal target stood_there in
        record {
          former = former;
          names = names;
          there = there;
          place_511 = place_few;
          two = two;
          stood = stood;
          vacant = λ none. absurd (cc);
          left = at_from tree from to ino name goal names all former there two;
          entered = at_to tree from to ino name goal names all former there two;
          others = λ number no_from no_to apart. at_other tree from to ino name goal names all former there two number no_from no_to;
          named = named_apart;
          goes = record {
            from_one = n.from_one;
            to_511 = (let few = n.to_511 in omega arith);
            not_from = not_from t;
            not_to = not_to t;
            loses = a_file f.file
                (subst (λ (node : Option Node). StandsForNode sectors v tree target.0 (inode_at v.inodes target.0) node) f.is (node_there sectors v tree is stand target target_within))
                (flushed_file (node_at tree target) f.file f.is flushed)
                (target_node t ∙ f.is)
                (replaced_nameless tree from to ino name goal names all former there two target stood_there);
          };
        }

    -- an empty directory is, and goes
    pub moved_over_directory : IsEmptyNode (node_at tree target) → Moved sectors v tree (with_node moved_tree target.0 None) from to ino (Some target) name goal
    moved_over_directory e =
        let t : Target tree target = is_empty e in
        let n = all.number to.0 goal target stood_there in
        let emptied : (number : ℕ) → number ≢ target.0 → node_of (with_node moved_tree target.0 None) number ≡ node_of moved_tree number = λ number apart. get_or-set_other moved_tree.nodes target.0 number None None apart in
        record {
          former = former;
          names = names;
          there = there;
          place_511 = place_few;
          two = two;
          stood = stood;
          vacant = λ none. absurd (cc);
          left = λ apart. emptied from.0 (λ same. not_from t (sym same)) ∙ at_from tree from to ino name goal names all former there two apart;
          entered = emptied to.0 (λ same. not_to t (sym same)) ∙ at_to tree from to ino name goal names all former there two;
          others = λ number no_from no_to apart. emptied number apart ∙ at_other tree from to ino name goal names all former there two number no_from no_to;
          named = λ number apart. with_node_named moved_tree target.0 number None (sym (ap (names_it number) (target_node t) ∙ names_no_number (node_at tree target) number e)) ∙ named_apart number apart;
          goes = record {
            from_one = n.from_one;
            to_511 = (let few = n.to_511 in omega arith);
            not_from = not_from t;
            not_to = not_to t;
            loses = a_directory
                (directory_there sectors v tree is stand target e.names target_within e.is).kind
                (get_or-set_same moved_tree.nodes target.0 None None (let c = all.count in let w = target_within in let a = length-set tree.nodes to.0 (with_name (node_at tree to) goal ino) in let b = length-set (put_name tree to goal ino).nodes from.0 (without_name (node_at (put_name tree to goal ino) from) name) in omega arith));
          };
        }
