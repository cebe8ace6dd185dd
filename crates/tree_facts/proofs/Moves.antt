-- What stands where a rename moves an entry.
use Rattle.std.proofs.Common.{◌≡◌, ◌≢◌, ◌==◌, ◌&&◌, ◌⊎◌, inl, inr, ℕ, Bool, true, false, not, List, [], ◌∷◌, Option, Some, None, Result, Ok, Err, ok_or, IfSome, refl, sym, ap, subst, ◌∙◌, eqb-true, eq-eqb, if◌then◌else◌, nat_eq}
use Rattle.std.specs.Cmp.Lexicographic.{pointwise}
use Rattle.std.proofs.lemmas.Slice.Eq.{bytes_eq-Decides}
use Rattle.std.specs.FinMap as map
use Rattle.std.specs.Bool.{⊤}
use Rattle.cal_base.specs.declared.directory_entry.EntryKind.TheVariants.{Directory as IsDirectory}
use Rattle.cal_base.specs.declared.identity.Ino.{Ino}
use Rattle.tree_law.specs.Tree.{Tree, node_at}
use Rattle.tree_law.specs.PartOf.{kind_of}
use Rattle.tree_law.specs.Resolve.{prefix_of, last_of, looked_up, resolved, parent_of}
use Rattle.tree_law.specs.Rename.{is_directory, is_full_directory, is_at_or_below, replacing, landing, moving, moving_to, move_of}
use Rattle.tree_law.specs.declared.node.Node.{Node}
use Rattle.tree_law.specs.declared.node.Node.TheVariants.{Directory, Regular}
use Rattle.tree_law.specs.declared.rename.Move.{Move}
use Rattle.tree_law.specs.declared.reply.Why.{Why}
use Rattle.tree_law.specs.declared.reply.Why.TheVariants.{NoEnt, NotEmpty, Inval, DirFull}
use Rattle.tree_facts.proofs.Entries.{NamesIt}
use Rattle.tree_facts.proofs.Paths.{has_parent, judged_directory}

-- a node can replace another: a file a file, and a directory an empty one
abbrev pub CanReplace : Option Node → Option Node → Type 0
CanReplace (Some (Directory names)) (Some (Directory others)) = (map.len others == 0) ≡ true
CanReplace (Some (Directory names)) (Some (Regular file)) = ⊥
CanReplace (Some (Directory names)) None = ⊤
CanReplace (Some (Regular file)) (Some (Directory others)) = ⊥
CanReplace (Some (Regular file)) (Some (Regular other)) = ⊤
CanReplace (Some (Regular file)) None = ⊤
CanReplace None target = ⊤

replaces : (node target : Option Node) (move next : Move) → replacing node target move ≡ Ok next → (move ≡ next) × CanReplace node target
replaces (Some (Directory names)) (Some (Directory others)) move next is =
    elim (map.len others == 0) as (λ b. (if b then Ok move else Err NotEmpty) ≡ Ok next → (move ≡ next) × (b ≡ true)) [
      | true ↦ λ e. (cc, refl)
      | false ↦ λ e. absurd (cc)
    ] is
replaces (Some (Directory names)) (Some (Regular file)) move next is = absurd (cc)
replaces (Some (Directory names)) None move next is = (cc, tt)
replaces (Some (Regular file)) (Some (Directory others)) move next is = absurd (cc)
replaces (Some (Regular file)) (Some (Regular other)) move next is = (cc, tt)
replaces (Some (Regular file)) None move next is = (cc, tt)
replaces None target move next is = (cc, tt)

-- the entry comes to a place, where the goal stood for what it replaces, or for nothing
pub record Lands (tree : Tree) (from to ino : Ino) (goal : List ℕ) (move : Move) : Type 0 where
  pub here : move.from ≡ from
  pub beyond : move.to ≡ to
  pub entry : move.ino ≡ ino
  pub other : move.is_same ≡ false
  pub stood : IfSome move.replaced (NamesIt (node_at tree to) goal)
  pub fits : IfSome move.replaced (λ target. CanReplace (node_at tree ino) (node_at tree target))
  pub vacant : move.replaced ≡ None → looked_up (node_at tree to) goal ≡ Err NoEnt
  pub room : move.replaced ≡ None → from.0 ≢ to.0 → is_full_directory (node_at tree to) ≡ false

no_entry : (node : Option Node) (name : List ℕ) (why : Why) → kind_of node ≡ Some IsDirectory → looked_up node name ≡ Err why → looked_up node name ≡ Err NoEnt
no_entry (Some (Directory names)) name why is looked =
    elim (map.get names name) as (λ found. ok_or found NoEnt ≡ Err why → ok_or found NoEnt ≡ Err NoEnt) [
      | Some ino ↦ λ e. absurd (cc)
      | None ↦ λ e. refl
    ] looked
no_entry (Some (Regular file)) name why is looked = absurd (cc)
no_entry None name why is looked = absurd (cc)

room_there : (from to : Ino) (full : Bool) → (not (from.0 == to.0) && full) ≡ false → from.0 ≢ to.0 → full ≡ false
room_there from to full is apart =
    elim (from.0 == to.0) as (λ b. (from.0 == to.0) ≡ b → (not b && full) ≡ false → full ≡ false) [
      | true ↦ λ e. absurd (apart (eqb-true from.0 to.0 e))
      | false ↦ λ e no. no
    ] refl is

pub lands : (tree : Tree) (from to ino : Ino) (goal : List ℕ) (found : Result Ino Why) (move : Move) → kind_of (node_at tree to) ≡ Some IsDirectory → looked_up (node_at tree to) goal ≡ found → landing tree from to ino found ≡ Ok move → Lands tree from to ino goal move
lands tree from to ino goal (Ok target) move directory looked is =
    let made : Move = record { from = from; to = to; ino = ino; replaced = Some target; is_same = false } in
    let r = replaces (node_at tree ino) (node_at tree target) made move is in
    subst (λ (m : Move). Lands tree from to ino goal m) r.0 (record {
      here = refl;
      beyond = refl;
      entry = refl;
      other = refl;
      stood = looked;
      fits = r.1;
      vacant = λ none. absurd (cc);
      room = λ none. absurd (cc);
    })
lands tree from to ino goal (Err why) move directory looked is =
    let made : Move = record { from = from; to = to; ino = ino; replaced = None; is_same = false } in
    elim (not (from.0 == to.0) && is_full_directory (node_at tree to)) as (λ b. (not (from.0 == to.0) && is_full_directory (node_at tree to)) ≡ b → (if b then Err DirFull else Ok made) ≡ Ok move → Lands tree from to ino goal move) [
      | true ↦ λ e no. absurd (cc)
      | false ↦ λ e yes. subst (λ (m : Move). Lands tree from to ino goal m) (let same : made ≡ move = cc in same) (record {
        here = refl;
        beyond = refl;
        entry = refl;
        other = refl;
        stood = tt;
        fits = tt;
        vacant = λ none. no_entry (node_at tree to) goal why directory looked;
        room = λ none apart. room_there from to (is_full_directory (node_at tree to)) e apart;
      })
    ] refl is

-- the two names are those of one entry, or the entry comes to another place, which isn't below it
pub record Goes (tree : Tree) (path goal : List (List ℕ)) (ino from to : Ino) (move : Move) : Type 0 where
  pub lands : Lands tree from to ino (last_of goal) move
  pub apart : from.0 ≡ to.0 → last_of path ≢ last_of goal
  pub outside : (is_directory (node_at tree ino) && is_at_or_below (prefix_of goal) path) ≡ false

abbrev pub same_move : Ino → Ino → Ino → Move
same_move ino from to = record { from = from; to = to; ino = ino; replaced = None; is_same = true }

goes : (tree : Tree) (path goal : List (List ℕ)) (ino from to : Ino) (move : Move) → kind_of (node_at tree to) ≡ Some IsDirectory → moving tree path goal ino from to ≡ Ok move
    → (same_move ino from to ≡ move) ⊎ Goes tree path goal ino from to move
goes tree path goal ino from to move directory is =
    let name : List ℕ = last_of path in
    let last : List ℕ = last_of goal in
    let decides = bytes_eq-Decides name last in
    let landed : Result Move Why = landing tree from to ino (looked_up (node_at tree to) last) in
    let inside : Bool = is_directory (node_at tree ino) && is_at_or_below (prefix_of goal) path in
    elim ((from.0 == to.0) && pointwise nat_eq name last) as (λ b. ((from.0 == to.0) && pointwise nat_eq name last) ≡ b
    → (if b then Ok (same_move ino from to) else (if inside then Err Inval else landed)) ≡ Ok move → (same_move ino from to ≡ move) ⊎ Goes tree path goal ino from to move) [
      | true ↦ λ e yes. inl (cc)
      | false ↦ λ e rest. elim inside as (λ b. inside ≡ b → (if b then Err Inval else landed) ≡ Ok move → (same_move ino from to ≡ move) ⊎ Goes tree path goal ino from to move) [
        | true ↦ λ below no. absurd (cc)
        | false ↦ λ below yes. inr (record {
          lands = lands tree from to ino last (looked_up (node_at tree to) last) move directory refl yes;
          apart = λ here same. (let both : ((from.0 == to.0) && pointwise nat_eq name last) ≡ true = (λ i. eq-eqb from.0 to.0 here i && decides.1 same i) in absurd (cc));
          outside = below;
        })
      ] refl rest
    ] refl is

-- a rename that isn't refused: the entry and its directory, the directory of the goal, and what the move is
pub record IsMove (tree : Tree) (path goal : List (List ℕ)) (move : Move) : Type 0 where
  pub found : resolved tree path ≡ Ok move.ino
  pub parent : parent_of tree path ≡ Ok move.from
  pub named : NamesIt (node_at tree move.from) (last_of path) move.ino
  pub goal_parent : parent_of tree goal ≡ Ok move.to
  pub directory : kind_of (node_at tree move.to) ≡ Some IsDirectory
  pub goes : (same_move move.ino move.from move.to ≡ move) ⊎ Goes tree path goal move.ino move.from move.to move

abbrev IsMoveOf : Tree → List (List ℕ) → List (List ℕ) → Ino → Ino → Ino → Move → Type 0
IsMoveOf tree path goal ino from to move = (move.ino ≡ ino) × (move.from ≡ from) × (move.to ≡ to)

moved_ends : (tree : Tree) (path goal : List (List ℕ)) (ino from to : Ino) (move : Move) → (same_move ino from to ≡ move) ⊎ Goes tree path goal ino from to move → IsMoveOf tree path goal ino from to move
moved_ends tree path goal ino from to move (inl same) = (ap (λ (m : Move). m.ino) (sym same), ap (λ (m : Move). m.from) (sym same), ap (λ (m : Move). m.to) (sym same))
moved_ends tree path goal ino from to move (inr g) = (g.lands.entry, g.lands.here, g.lands.beyond)

as_moved : (tree : Tree) (path goal : List (List ℕ)) (ino from to : Ino) (move : Move) → IsMoveOf tree path goal ino from to move → (same_move ino from to ≡ move) ⊎ Goes tree path goal ino from to move
    → (same_move move.ino move.from move.to ≡ move) ⊎ Goes tree path goal move.ino move.from move.to move
as_moved tree path goal ino from to move ends g =
    subst (λ (i : Ino). (same_move i move.from move.to ≡ move) ⊎ Goes tree path goal i move.from move.to move) (sym ends.0)
    (subst (λ (i : Ino). (same_move ino i move.to ≡ move) ⊎ Goes tree path goal ino i move.to move) (sym ends.1)
    (subst (λ (i : Ino). (same_move ino from i ≡ move) ⊎ Goes tree path goal ino from i move) (sym ends.2) g))

move_to : (tree : Tree) (name : List ℕ) (names goal : List (List ℕ)) (ino from to : Ino) (move : Move) → resolved tree (name ∷ names) ≡ Ok ino → parent_of tree (name ∷ names) ≡ Ok from → parent_of tree goal ≡ Ok to
    → moving tree (name ∷ names) goal ino from to ≡ Ok move → IsMove tree (name ∷ names) goal move
move_to tree name names goal ino from to move is up beyond went =
    let p = has_parent tree name names ino is in
    let same : p.place ≡ from = (let both : Ok p.place ≡ Ok from = sym p.parent ∙ up in cc) in
    let directory = (judged_directory tree (resolved tree (prefix_of goal)) to beyond).1 in
    let g = goes tree (name ∷ names) goal ino from to move directory went in
    let ends = moved_ends tree (name ∷ names) goal ino from to move g in
    record {
      found = is ∙ ap (λ (i : Ino). Ok i) (sym ends.0);
      parent = up ∙ ap (λ (i : Ino). Ok i) (sym ends.1);
      named = subst (λ (i : Ino). NamesIt (node_at tree move.from) (last_of (name ∷ names)) i) (sym ends.0) (subst (λ (i : Ino). NamesIt (node_at tree i) (last_of (name ∷ names)) ino) (same ∙ sym ends.1) p.named);
      goal_parent = beyond ∙ ap (λ (i : Ino). Ok i) (sym ends.2);
      directory = subst (λ (i : Ino). kind_of (node_at tree i) ≡ Some IsDirectory) (sym ends.2) directory;
      goes = as_moved tree (name ∷ names) goal ino from to move ends g;
    }

moving_by : (tree : Tree) (name : List ℕ) (names goal : List (List ℕ)) (a b c : Result Ino Why) (move : Move) → resolved tree (name ∷ names) ≡ a → parent_of tree (name ∷ names) ≡ b → parent_of tree goal ≡ c
    → moving_to tree (name ∷ names) goal a b c ≡ Ok move → IsMove tree (name ∷ names) goal move
moving_by tree name names goal (Ok ino) (Ok from) (Ok to) move is up beyond went = move_to tree name names goal ino from to move is up beyond went
moving_by tree name names goal (Ok ino) (Ok from) (Err why) move is up beyond went = absurd (cc)
moving_by tree name names goal (Ok ino) (Err why) c move is up beyond went = absurd (cc)
moving_by tree name names goal (Err why) b c move is up beyond went = absurd (cc)

pub moves_by : (tree : Tree) (path goal : List (List ℕ)) (move : Move) → move_of tree path goal ≡ Ok move → IsMove tree path goal move
moves_by tree [] goal move is = absurd (cc)
moves_by tree (name ∷ names) [] move is = absurd (cc)
moves_by tree (name ∷ names) (other ∷ others) move is =
    moving_by tree name names (other ∷ others) (resolved tree (name ∷ names)) (parent_of tree (name ∷ names)) (parent_of tree (other ∷ others)) move refl refl refl is

same_stood : (tree : Tree) (path goal : List (List ℕ)) (move : Move) → (same_move move.ino move.from move.to ≡ move) ⊎ Goes tree path goal move.ino move.from move.to move → IfSome move.replaced (NamesIt (node_at tree move.to) (last_of goal))
same_stood tree path goal move (inl same) = subst (λ (r : Option Ino). IfSome r (NamesIt (node_at tree move.to) (last_of goal))) (ap (λ (m : Move). m.replaced) same) tt
same_stood tree path goal move (inr g) = g.lands.stood

-- the goal stood for what is replaced
pub replaced_stood : (tree : Tree) (path goal : List (List ℕ)) (move : Move) → IsMove tree path goal move → IfSome move.replaced (NamesIt (node_at tree move.to) (last_of goal))
replaced_stood tree path goal move m = same_stood tree path goal move m.goes
