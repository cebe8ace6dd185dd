-- Two trees of one shape: where a path is resolved in one, it is in the other, with the same refusals.
use Rattle.std.proofs.Common.{◌≡◌, ◌<◌, ◌==◌, ◌&&◌, ◌++◌, ℕ, Bool, true, false, not, List, [], ◌∷◌, Option, Some, None, Result, Ok, Err, refl, sym, ap, subst, ◌∙◌, if◌then◌else◌}
use Rattle.cal_base.specs.Limits as limits
use Rattle.std.specs.FinMap as map
use Rattle.std.specs.Prelude.{nat_eq, nat_le, is_some, ⊤}
use Rattle.std.specs.Cmp.Lexicographic.{pointwise}
use Rattle.cal_base.specs.declared.identity.Ino.{Ino}
use Rattle.tree_law.specs.Needs.{Need, Touch, end_needs, look_needs, needs_of_want, open_needs, path_needs, stat_needs, touched_file, touched_names, touched_rename, touched_rmdir, touched_unlink, touched_target, touched_places, touches, walk_needs}
use Rattle.tree_law.specs.Rename.{is_at_or_below, is_directory, is_full_directory, landing, move_of, moving, moving_to, replacing}
use Rattle.tree_law.specs.Resolve.{as_directory, as_empty_directory, as_file, file_named, judged, last_of, looked_up, new_place, parent_of, prefix_of, removable, resolved, room_for, walked}
use Rattle.tree_law.specs.Tree.{Tree, node_at, root}
use Rattle.tree_law.specs.declared.call.Call.{Call}
use Rattle.tree_law.specs.declared.call.Call.TheVariants.{Create, Mkdir, Unlink, Rmdir, Rename, Open, Close, Read, Write, Truncate, Stat, Readdir, Fsync}
use Rattle.tree_law.specs.declared.node.Node.{Node}
use Rattle.tree_law.specs.declared.node.Node.TheVariants.{Directory, Regular}
use Rattle.tree_law.specs.declared.rename.Move.{Move}
use Rattle.tree_law.specs.declared.reply.Why.{Why}
use Rattle.tree_law.specs.declared.reply.Why.TheVariants.{DirFull, Inval}
use Rattle.tree_law.specs.declared.request.Want.{Want}
use Rattle.tree_law.specs.declared.request.Want.TheVariants.{Stat as WantStat, Open as WantOpen, Readdir as WantReaddir, Read as WantRead, Write as WantWrite}

-- two nodes of one shape: directories with the same names, two files, or nothing twice
abbrev pub AreAlike : Option Node → Option Node → Type 0
AreAlike (Some (Directory names)) (Some (Directory others)) = names ≡ others
AreAlike (Some (Directory names)) (Some (Regular other)) = ⊥
AreAlike (Some (Directory names)) None = ⊥
AreAlike (Some (Regular file)) (Some (Directory others)) = ⊥
AreAlike (Some (Regular file)) (Some (Regular other)) = ⊤
AreAlike (Some (Regular file)) None = ⊥
AreAlike None (Some (Directory others)) = ⊥
AreAlike None (Some (Regular other)) = ⊥
AreAlike None None = ⊤

-- two trees have nodes of one shape at a number
pub record Meet (a b : Tree) (ino : Ino) : Type 0 where
  pub within : ino.0 < limits.inodes
  pub alike : AreAlike (node_at a ino) (node_at b ino)

-- they do at the root, and at each number that a name of a directory of the second stands for
pub record AreSimilar (a b : Tree) : Type 0 where
  pub at_root : Meet a b root
  pub below : (at : Ino) (name : List ℕ) (ino : Ino) → at.0 < limits.inodes → looked_up (node_at b at) name ≡ Ok ino → Meet a b ino

-- ---- what is asked of two nodes of one shape is answered alike

-- a question whose answer depends on the shape alone
abbrev pub Asks : {A : Type 0} → (Option Node → A) → Type 0
Asks ask = (x y : Option Node) → AreAlike x y → ask x ≡ ask y

shape : {A : Type 0} (ask : Option Node → A) → ((f g : _) → ask (Some (Regular f)) ≡ ask (Some (Regular g))) → Asks ask
shape ask files (Some (Directory names)) (Some (Directory others)) h = λ i. ask (Some (Directory (h i)))
shape ask files (Some (Directory names)) (Some (Regular other)) h = absurd h
shape ask files (Some (Directory names)) None h = absurd h
shape ask files (Some (Regular file)) (Some (Directory others)) h = absurd h
shape ask files (Some (Regular file)) (Some (Regular other)) h = files file other
shape ask files (Some (Regular file)) None h = absurd h
shape ask files None (Some (Directory others)) h = absurd h
shape ask files None (Some (Regular other)) h = absurd h
shape ask files None None h = refl

-- ---- walks

-- two walks end alike: at one inode, where the trees meet, or with one refusal
pub record EndAlike (a b : Tree) (x y : Result Ino Why) : Type 0 where
  pub same : x ≡ y
  pub meet : (ino : Ino) → y ≡ Ok ino → Meet a b ino

pub walks_alike : (a b : Tree) → AreSimilar a b → (names : List (List ℕ)) (at : Result Ino Why) → ((ino : Ino) → at ≡ Ok ino → Meet a b ino) → EndAlike a b (walked a at names) (walked b at names)
walks_alike a b s [] at m = record { same = refl; meet = m }
walks_alike a b s (name ∷ names) (Err why) m = walks_alike a b s names (Err why) (λ ino e. absurd (cc))
walks_alike a b s (name ∷ names) (Ok ino) m =
    let here = m ino refl in
    let same = shape (λ node. looked_up node name) (λ f g. refl) (node_at a ino) (node_at b ino) here.alike in
    subst (λ (r : Result Ino Why). EndAlike a b (walked a r names) (walked b (looked_up (node_at b ino) name) names)) (sym same)
    (walks_alike a b s names (looked_up (node_at b ino) name) (λ next e. s.below ino name next here.within e))

pub resolved_alike : (a b : Tree) → AreSimilar a b → (path : List (List ℕ)) → EndAlike a b (resolved a path) (resolved b path)
resolved_alike a b s path = walks_alike a b s path (Ok root) (λ ino e. (let one : root ≡ ino = cc in subst (Meet a b) one s.at_root))

-- ---- tests of the inode at which a walk ends

abbrev pub Test : Type 0
Test = Option Node → Ino → Result Ino Why

-- a test passes the inode itself, if any
abbrev pub IsOwn : Test → Type 0
IsOwn test = (node : Option Node) (ino other : Ino) → test node ino ≡ Ok other → ino ≡ other

pub judged_alike : (test : Test) → ((ino : Ino) → Asks (λ node. test node ino)) → IsOwn test → (a b : Tree) (x y : Result Ino Why) → EndAlike a b x y → EndAlike a b (judged test a x) (judged test b y)
judged_alike test asks own a b x y ends = subst (λ (r : Result Ino Why). EndAlike a b (judged test a r) (judged test b y)) (sym ends.same) (at_one y ends.meet)
  where
    at_one : (r : Result Ino Why) → ((ino : Ino) → r ≡ Ok ino → Meet a b ino) → EndAlike a b (judged test a r) (judged test b r)
    at_one (Ok ino) meets = record {
      same = asks ino (node_at a ino) (node_at b ino) (meets ino refl).alike;
      meet = λ other e. subst (Meet a b) (own (node_at b ino) ino other e) (meets ino refl);
    }
    at_one (Err why) meets = record { same = refl; meet = λ other e. absurd (cc) }

file_own : IsOwn as_file
file_own (Some (Directory names)) ino other e = absurd (cc)
file_own (Some (Regular file)) ino other e = cc
file_own None ino other e = absurd (cc)

directory_own : IsOwn as_directory
directory_own (Some (Directory names)) ino other e = cc
directory_own (Some (Regular file)) ino other e = absurd (cc)
directory_own None ino other e = absurd (cc)

kept_if : (b : Bool) (ino other : Ino) (why : Why) → (if b then Ok ino else Err why) ≡ Ok other → ino ≡ other
kept_if true ino other why e = cc
kept_if false ino other why e = absurd (cc)

kept_unless : (b c : Bool) (ino other : Ino) (why next : Why) → (if b then Err why else (if c then Err next else Ok ino)) ≡ Ok other → ino ≡ other
kept_unless true c ino other why next e = absurd (cc)
kept_unless false true ino other why next e = absurd (cc)
kept_unless false false ino other why next e = cc

empty_own : IsOwn as_empty_directory
empty_own (Some (Directory names)) ino other e = kept_if (map.len names == 0) ino other _ e
empty_own (Some (Regular file)) ino other e = absurd (cc)
empty_own None ino other e = absurd (cc)

room_own : (name : List ℕ) → IsOwn (room_for name)
room_own name (Some (Directory names)) ino other e = kept_unless (is_some (map.get names name)) (nat_le 1024 (map.len names)) ino other _ _ e
room_own name (Some (Regular file)) ino other e = absurd (cc)
room_own name None ino other e = absurd (cc)

pub parents_alike : (a b : Tree) → AreSimilar a b → (path : List (List ℕ)) → EndAlike a b (parent_of a path) (parent_of b path)
parents_alike a b s path = judged_alike as_directory (λ ino. shape (λ node. as_directory node ino) (λ f g. refl)) directory_own a b _ _ (resolved_alike a b s (prefix_of path))

pub files_alike : (a b : Tree) → AreSimilar a b → (path : List (List ℕ)) → EndAlike a b (file_named a path) (file_named b path)
files_alike a b s path = judged_alike as_file (λ ino. shape (λ node. as_file node ino) (λ f g. refl)) file_own a b _ _ (resolved_alike a b s path)

pub new_places_alike : (a b : Tree) → AreSimilar a b → (path : List (List ℕ)) → EndAlike a b (new_place a path) (new_place b path)
new_places_alike a b s [] = record { same = refl; meet = λ ino e. absurd (cc) }
new_places_alike a b s (name ∷ names) = judged_alike (room_for (last_of (name ∷ names))) (λ ino. shape (λ node. room_for (last_of (name ∷ names)) node ino) (λ f g. refl)) (room_own (last_of (name ∷ names))) a b _ _ (resolved_alike a b s (prefix_of (name ∷ names)))

pub removable_alike : (a b : Tree) → AreSimilar a b → (path : List (List ℕ)) → EndAlike a b (removable a path) (removable b path)
removable_alike a b s [] = record { same = refl; meet = λ ino e. absurd (cc) }
removable_alike a b s (name ∷ names) = judged_alike as_empty_directory (λ ino. shape (λ node. as_empty_directory node ino) (λ f g. refl)) empty_own a b _ _ (resolved_alike a b s (name ∷ names))

-- ---- moves

-- two moves are alike: one move, and where it replaces what stands, the trees meet there; or one refusal
pub record MoveAlike (a b : Tree) (x y : Result Move Why) : Type 0 where
  pub same : x ≡ y
  pub meet : (move : Move) (ino : Ino) → y ≡ Ok move → move.replaced ≡ Some ino → Meet a b ino

replacing_alike : (x y p q : Option Node) (move : Move) → AreAlike x p → AreAlike y q → replacing x y move ≡ replacing p q move
replacing_alike x y p q move h k =
    shape (λ node. replacing node y move) (λ f g. files f g y) x p h ∙ shape (λ node. replacing p node move) (λ f g. targets f g p) y q k
  where
    files : (f g : _) (node : Option Node) → replacing (Some (Regular f)) node move ≡ replacing (Some (Regular g)) node move
    files f g (Some (Directory names)) = refl
    files f g (Some (Regular file)) = refl
    files f g None = refl

    targets : (f g : _) (node : Option Node) → replacing node (Some (Regular f)) move ≡ replacing node (Some (Regular g)) move
    targets f g (Some (Directory names)) = refl
    targets f g (Some (Regular file)) = refl
    targets f g None = refl

-- what replaces moves as it was to
replaced_own : (x y : Option Node) (move other : Move) → replacing x y move ≡ Ok other → move ≡ other
replaced_own (Some (Directory names)) (Some (Directory others)) move other e = kept_move (map.len others == 0) _ e
  where
    kept_move : (b : Bool) (why : Why) → (if b then Ok move else Err why) ≡ Ok other → move ≡ other
    kept_move true why e = cc
    kept_move false why e = absurd (cc)
replaced_own (Some (Directory names)) (Some (Regular file)) move other e = absurd (cc)
replaced_own (Some (Directory names)) None move other e = cc
replaced_own (Some (Regular file)) (Some (Directory others)) move other e = absurd (cc)
replaced_own (Some (Regular file)) (Some (Regular others)) move other e = cc
replaced_own (Some (Regular file)) None move other e = cc
replaced_own None target move other e = cc

landing_alike : (a b : Tree) → AreSimilar a b → (from to ino : Ino) (r : Result Ino Why) → Meet a b to → Meet a b ino → ((target : Ino) → r ≡ Ok target → Meet a b target) → MoveAlike a b (landing a from to ino r) (landing b from to ino r)
landing_alike a b s from to ino (Ok target) at_to at_ino meets =
    let there = meets target refl in
    let move : Move = record { from = from; to = to; ino = ino; replaced = Some target; is_same = false } in
    record {
      same = replacing_alike (node_at a ino) (node_at a target) (node_at b ino) (node_at b target) move at_ino.alike there.alike;
      meet = λ other n e is. (let one : move ≡ other = replaced_own (node_at b ino) (node_at b target) move other e in let both : target ≡ n = cc in subst (Meet a b) both there);
    }
landing_alike a b s from to ino (Err why) at_to at_ino meets =
    let move : Move = record { from = from; to = to; ino = ino; replaced = None; is_same = false } in
    record {
      same = ap (λ (full : Bool). if not (from.0 == to.0) && full then Err DirFull else Ok move) (shape is_full_directory (λ f g. refl) (node_at a to) (node_at b to) at_to.alike);
      meet = λ other n e is. none (not (from.0 == to.0) && is_full_directory (node_at b to)) move other n refl e is;
    }
  where
    none : (full : Bool) (move other : Move) (n : Ino) → move.replaced ≡ None → (if full then Err DirFull else Ok move) ≡ Ok other → other.replaced ≡ Some n → Meet a b n
    none true move other n empty e is = absurd (cc)
    none false move other n empty e is = absurd (cc)

moving_alike : (a b : Tree) → AreSimilar a b → (path goal : List (List ℕ)) (ino from to : Ino) → Meet a b ino → Meet a b to → MoveAlike a b (moving a path goal ino from to) (moving b path goal ino from to)
moving_alike a b s path goal ino from to at_ino at_to =
    let found = shape (λ node. looked_up node (last_of goal)) (λ f g. refl) (node_at a to) (node_at b to) at_to.alike in
    let lands = landing_alike a b s from to ino (looked_up (node_at b to) (last_of goal)) at_to at_ino (λ target e. s.below to (last_of goal) target at_to.within e) in
    let moved = subst (λ (r : Result Ino Why). MoveAlike a b (landing a from to ino r) (landing b from to ino (looked_up (node_at b to) (last_of goal)))) (sym found) lands in
    let kinds = shape is_directory (λ f g. refl) (node_at a ino) (node_at b ino) at_ino.alike in
    step ((from.0 == to.0) && pointwise nat_eq (last_of path) (last_of goal)) (record { from = from; to = to; ino = ino; replaced = None; is_same = true }) refl
    (subst (λ (k : Bool). MoveAlike a b (if k && is_at_or_below (prefix_of goal) path then Err Inval else landing a from to ino (looked_up (node_at a to) (last_of goal))) (if is_directory (node_at b ino) && is_at_or_below (prefix_of goal) path then Err Inval else landing b from to ino (looked_up (node_at b to) (last_of goal)))) (sym kinds)
    (unless (is_directory (node_at b ino) && is_at_or_below (prefix_of goal) path) _ _ moved))
  where
    unless : (bad : Bool) (x y : Result Move Why) → MoveAlike a b x y → MoveAlike a b (if bad then Err Inval else x) (if bad then Err Inval else y)
    unless true x y h = record { same = refl; meet = λ move n e is. absurd (cc) }
    unless false x y h = h

    step : (one : Bool) (move : Move) → move.replaced ≡ None → {x y : Result Move Why} → MoveAlike a b x y → MoveAlike a b (if one then Ok move else x) (if one then Ok move else y)
    step true move empty h = record { same = refl; meet = λ other n e is. absurd (cc) }
    step false move empty h = h

moving_to_alike : (a b : Tree) → AreSimilar a b → (path goal : List (List ℕ)) (x y z : Result Ino Why) → ((ino : Ino) → x ≡ Ok ino → Meet a b ino) → ((ino : Ino) → z ≡ Ok ino → Meet a b ino)
    → MoveAlike a b (moving_to a path goal x y z) (moving_to b path goal x y z)
moving_to_alike a b s path goal (Ok ino) (Ok from) (Ok to) at_x at_z = moving_alike a b s path goal ino from to (at_x ino refl) (at_z to refl)
moving_to_alike a b s path goal (Ok ino) (Ok from) (Err why) at_x at_z = record { same = refl; meet = λ move n e is. absurd (cc) }
moving_to_alike a b s path goal (Ok ino) (Err why) z at_x at_z = record { same = refl; meet = λ move n e is. absurd (cc) }
moving_to_alike a b s path goal (Err why) y z at_x at_z = record { same = refl; meet = λ move n e is. absurd (cc) }

pub moves_alike : (a b : Tree) → AreSimilar a b → (path goal : List (List ℕ)) → MoveAlike a b (move_of a path goal) (move_of b path goal)
moves_alike a b s [] goal = record { same = refl; meet = λ move n e is. absurd (cc) }
moves_alike a b s (name ∷ names) [] = record { same = refl; meet = λ move n e is. absurd (cc) }
moves_alike a b s (name ∷ names) (other ∷ others) =
    let path = name ∷ names in
    let goal = other ∷ others in
    let at = resolved_alike a b s path in
    let from = parents_alike a b s path in
    let to = parents_alike a b s goal in
    let moved = moving_to_alike a b s path goal (resolved b path) (parent_of b path) (parent_of b goal) at.meet to.meet in
    record {
      same = (λ i. moving_to a path goal (at.same i) (from.same i) (to.same i)) ∙ moved.same;
      meet = moved.meet;
    }

-- ---- what a change touches, and what a call needs

touched_target_alike : (a b : Tree) (target : Option Ino) → ((ino : Ino) → target ≡ Some ino → Meet a b ino) → touched_target a target ≡ touched_target b target
touched_target_alike a b (Some ino) meets = ap (λ (d : Bool). if d then (ino, 1) ∷ [] else touched_file ino) (shape is_directory (λ f g. refl) (node_at a ino) (node_at b ino) (meets ino refl).alike)
touched_target_alike a b None meets = refl

touched_rename_alike : (a b : Tree) (r : Result Move Why) → ((move : Move) (ino : Ino) → r ≡ Ok move → move.replaced ≡ Some ino → Meet a b ino) → touched_rename a r ≡ touched_rename b r
touched_rename_alike a b (Ok move) meets = ap (λ (rest : List Touch). if move.is_same then [] else touched_places move.from move.to ++ rest) (touched_target_alike a b move.replaced (λ ino e. meets move ino refl e))
touched_rename_alike a b (Err why) meets = refl

pub touches_alike : (a b : Tree) → AreSimilar a b → (call : Call) → touches a call ≡ touches b call
touches_alike a b s (Create path) = ap touched_names (new_places_alike a b s path).same
touches_alike a b s (Mkdir path) = ap touched_names (new_places_alike a b s path).same
touches_alike a b s (Unlink path) = (λ i. touched_unlink ((files_alike a b s path).same i) ((parents_alike a b s path).same i))
touches_alike a b s (Rmdir path) = (λ i. touched_rmdir ((removable_alike a b s path).same i) ((parents_alike a b s path).same i))
touches_alike a b s (Rename path goal) = ap (touched_rename a) (moves_alike a b s path goal).same ∙ touched_rename_alike a b (move_of b path goal) (moves_alike a b s path goal).meet
touches_alike a b s (Open path mode) = refl
touches_alike a b s (Close fd) = refl
touches_alike a b s (Read fd offset len) = refl
touches_alike a b s (Write fd offset bytes) = refl
touches_alike a b s (Truncate fd size) = refl
touches_alike a b s (Stat path) = refl
touches_alike a b s (Readdir path) = refl
touches_alike a b s (Fsync fd) = refl

walk_needs_alike : (a b : Tree) → AreSimilar a b → (names : List (List ℕ)) (at : Result Ino Why) → ((ino : Ino) → at ≡ Ok ino → Meet a b ino) → walk_needs a at names ≡ walk_needs b at names
walk_needs_alike a b s [] at m = refl
walk_needs_alike a b s (name ∷ names) (Err why) m = refl
walk_needs_alike a b s (name ∷ names) (Ok ino) m =
    let here = m ino refl in
    let looks = shape (λ node. look_needs node ino) (λ f g. refl) (node_at a ino) (node_at b ino) here.alike in
    let found = shape (λ node. looked_up node name) (λ f g. refl) (node_at a ino) (node_at b ino) here.alike in
    (λ i. looks i ++ walk_needs a (found i) names)
    ∙ ap (λ (rest : List Need). look_needs (node_at b ino) ino ++ rest) (walk_needs_alike a b s names (looked_up (node_at b ino) name) (λ next e. s.below ino name next here.within e))

end_needs_alike : (needs : Option Node → Ino → List Need) → ((ino : Ino) → Asks (λ node. needs node ino)) → (a b : Tree) (r : Result Ino Why) → ((ino : Ino) → r ≡ Ok ino → Meet a b ino) → end_needs needs a r ≡ end_needs needs b r
end_needs_alike needs asks a b (Ok ino) meets = asks ino (node_at a ino) (node_at b ino) (meets ino refl).alike
end_needs_alike needs asks a b (Err why) meets = refl

path_needs_alike : (needs : Option Node → Ino → List Need) → ((ino : Ino) → Asks (λ node. needs node ino)) → (a b : Tree) → AreSimilar a b → (path : List (List ℕ)) → path_needs needs a path ≡ path_needs needs b path
path_needs_alike needs asks a b s path =
    let ends = resolved_alike a b s path in
    (λ i. walk_needs_alike a b s path (Ok root) (λ ino e. (let one : root ≡ ino = cc in subst (Meet a b) one s.at_root)) i ++ end_needs needs a (ends.same i))
    ∙ ap (λ (rest : List Need). walk_needs b (Ok root) path ++ rest) (end_needs_alike needs asks a b (resolved b path) ends.meet)

pub wants_alike : (a b : Tree) → AreSimilar a b → (want : Want) → needs_of_want a want ≡ needs_of_want b want
wants_alike a b s (WantStat path) = path_needs_alike stat_needs (λ ino. shape (λ node. stat_needs node ino) (λ f g. refl)) a b s path
wants_alike a b s (WantOpen path) = path_needs_alike open_needs (λ ino. shape (λ node. open_needs node ino) (λ f g. refl)) a b s path
wants_alike a b s (WantReaddir path) = path_needs_alike look_needs (λ ino. shape (λ node. look_needs node ino) (λ f g. refl)) a b s path
wants_alike a b s (WantRead ino) = refl
wants_alike a b s (WantWrite ino) = refl
