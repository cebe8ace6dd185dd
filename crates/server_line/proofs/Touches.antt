-- What the plan of a change touches: Names of directories, and Data and Attr of files.
use Rattle.std.proofs.Common.{◌≡◌, ◌==◌, ◌++◌, ◌∷◌, [], ℕ, nat_lt, nat_le, List, Bool, true, false, Option, Some, None, Result, Ok, Err, if◌then◌else◌, refl, sym, ap, ◌∙◌}
use Rattle.std.specs.List.{All}
use Rattle.std.specs.Prelude.{is_some}
use Rattle.std.proofs.lemmas.List.Elements.{All-append, All-cons, All-nil}
use Rattle.cal_base.specs.declared.identity.Ino.{Ino}
use Rattle.cal_base.specs.declared.identity.ClientId.{ClientId}
use Rattle.inode.specs.declared.inode.Kind.{Kind}
use Rattle.inode.specs.declared.inode.Kind.TheVariants.{File, Dir}
use Rattle.revocation.specs.Formed.{is_of_directory}
use Rattle.std.specs.FinMap as finite
use Rattle.tree_law.specs.Needs.{Touch, touched_names, touched_places, touched_rename, touched_rmdir, touched_target, touched_unlink, touches}
use Rattle.tree_law.specs.Rename.{is_directory, move_of}
use Rattle.tree_law.specs.Resolve.{as_directory, as_empty_directory, as_file, file_named, judged, last_of, new_place, parent_of, prefix_of, removable, resolved, room_for}
use Rattle.tree_law.specs.Tree.{Tree, node_at}
use Rattle.tree_law.specs.declared.call.Call.{Call}
use Rattle.tree_law.specs.declared.call.Call.TheVariants.{Create, Mkdir, Unlink, Rmdir, Rename, Open, Close, Read, Write, Truncate, Stat, Readdir, Fsync}
use Rattle.tree_law.specs.declared.node.Node.{Node}
use Rattle.tree_law.specs.declared.node.Node.TheVariants.{Directory, Regular}
use Rattle.tree_law.specs.declared.rename.Move.{Move}
use Rattle.tree_law.specs.declared.reply.Reply.TheVariants.{Done}
use Rattle.tree_law.specs.declared.reply.Why.{Why}
use Rattle.tree_law.specs.declared.reply.Why.TheVariants.{DirFull, Exist, NotEmpty}
use Rattle.tree_facts.proofs.Moves.{moves_by}
use Rattle.volume.specs.Volume.{Volume}
use Rattle.volume_plan.specs.Plans.{Plan, free_count, if_room, if_there, least_inode, making, making_at, making_if, moving, moving_by, plan, removing_at, short, standing}
use Rattle.volume_plan.specs.Shown.{shown}
use Rattle.cluster_law.specs.Tokens.{touch_of}

module _ (tree : Tree) where
  abbrev dirs : Ino → Bool
  dirs ino = is_directory (node_at tree ino)

  abbrev Fits : Touch → Type 0
  Fits touch = is_of_directory (touch_of touch).1 ≡ dirs (touch_of touch).0

  -- a test that only a directory passes, as itself
  abbrev OfDirectory : (Option Node → Ino → Result Ino Why) → Type 0
  OfDirectory test = (o : Option Node) (ino place : Ino) → test o ino ≡ Ok place → (ino ≡ place) × (is_directory o ≡ true)

  judged-dir : (test : Option Node → Ino → Result Ino Why) → OfDirectory test → (r : Result Ino Why) (place : Ino) → judged test tree r ≡ Ok place → dirs place ≡ true
  judged-dir test each (Ok ino) place e = let h = each (node_at tree ino) ino place e in ap dirs (sym h.0) ∙ h.1
  judged-dir test each (Err why) place e = absurd (cc)

  directory-test : OfDirectory as_directory
  directory-test None ino place e = absurd (cc)
  directory-test (Some (Regular file)) ino place e = absurd (cc)
  directory-test (Some (Directory names)) ino place e = let one : ino ≡ place = cc in (one, refl)

  room-test : (name : List ℕ) → OfDirectory (room_for name)
  room-test name None ino place e = absurd (cc)
  room-test name (Some (Regular file)) ino place e = absurd (cc)
  room-test name (Some (Directory names)) ino place e = by (is_some (finite.get names name)) (nat_le 1024 (finite.len names)) e
    where
      by : (b c : Bool) → ◌≡◌ {A = Result Ino Why} (if b then Err Exist else (if c then Err DirFull else Ok ino)) (Ok place) → (ino ≡ place) × (true ≡ true)
      by true c f = absurd (cc)
      by false true f = absurd (cc)
      by false false f = let one : ino ≡ place = cc in (one, refl)

  empty-test : OfDirectory as_empty_directory
  empty-test None ino place e = absurd (cc)
  empty-test (Some (Regular file)) ino place e = absurd (cc)
  empty-test (Some (Directory names)) ino place e = by (finite.len names == 0) e
    where
      by : (b : Bool) → ◌≡◌ {A = Result Ino Why} (if b then Ok ino else Err NotEmpty) (Ok place) → (ino ≡ place) × (true ≡ true)
      by false f = absurd (cc)
      by true f = let one : ino ≡ place = cc in (one, refl)

  parent-dir : (path : List (List ℕ)) (place : Ino) → parent_of tree path ≡ Ok place → dirs place ≡ true
  parent-dir path place e = judged-dir as_directory directory-test (resolved tree (prefix_of path)) place e

  new-dir : (path : List (List ℕ)) (place : Ino) → new_place tree path ≡ Ok place → dirs place ≡ true
  new-dir [] place e = absurd (cc)
  new-dir (name ∷ names) place e = judged-dir (room_for (last_of (name ∷ names))) (room-test (last_of (name ∷ names))) (resolved tree (prefix_of (name ∷ names))) place e

  removable-dir : (path : List (List ℕ)) (ino : Ino) → removable tree path ≡ Ok ino → dirs ino ≡ true
  removable-dir [] ino e = absurd (cc)
  removable-dir (name ∷ names) ino e = judged-dir as_empty_directory empty-test (resolved tree (name ∷ names)) ino e

  file-not : (r : Result Ino Why) (ino : Ino) → judged as_file tree r ≡ Ok ino → dirs ino ≡ false
  file-not (Err why) ino e = absurd (cc)
  file-not (Ok at) ino e = by (node_at tree at) refl e
    where
      by : (o : Option Node) → node_at tree at ≡ o → as_file o at ≡ Ok ino → dirs ino ≡ false
      by None f g = absurd (cc)
      by (Some (Directory names)) f g = absurd (cc)
      by (Some (Regular file)) f g = let one : at ≡ ino = cc in ap dirs (sym one) ∙ ap is_directory f

  one-dir : (ino : Ino) → dirs ino ≡ true → All Fits ((ino, 1) ∷ [])
  one-dir ino e = All-cons Fits (ino, 1) [] (sym e) (All-nil Fits)

  one-file : (ino : Ino) → dirs ino ≡ false → All Fits ((ino, 2) ∷ (ino, 3) ∷ [])
  one-file ino e = All-cons Fits (ino, 2) ((ino, 3) ∷ []) (sym e) (All-cons Fits (ino, 3) [] (sym e) (All-nil Fits))

  place-fits : (r : Result Ino Why) → ((place : Ino) → r ≡ Ok place → dirs place ≡ true) → All Fits (touched_names r)
  place-fits (Ok place) each = one-dir place (each place refl)
  place-fits (Err why) each = All-nil Fits

  unlink-fits : (r place : Result Ino Why) → ((ino : Ino) → r ≡ Ok ino → dirs ino ≡ false) → ((at : Ino) → place ≡ Ok at → dirs at ≡ true) → All Fits (touched_unlink r place)
  unlink-fits (Ok ino) place file dir = All-append Fits (touched_names place) ((ino, 2) ∷ (ino, 3) ∷ []) (place-fits place dir) (one-file ino (file ino refl))
  unlink-fits (Err why) place file dir = All-nil Fits

  rmdir-fits : (r place : Result Ino Why) → ((ino : Ino) → r ≡ Ok ino → dirs ino ≡ true) → ((at : Ino) → place ≡ Ok at → dirs at ≡ true) → All Fits (touched_rmdir r place)
  rmdir-fits (Ok ino) place gone dir = All-append Fits (touched_names place) ((ino, 1) ∷ []) (place-fits place dir) (one-dir ino (gone ino refl))
  rmdir-fits (Err why) place gone dir = All-nil Fits

  target-fits : (o : Option Ino) → All Fits (touched_target tree o)
  target-fits None = All-nil Fits
  target-fits (Some ino) = by (is_directory (node_at tree ino)) refl
    where
      by : (b : Bool) → dirs ino ≡ b → All Fits (if b then (ino, 1) ∷ [] else (ino, 2) ∷ (ino, 3) ∷ [])
      by true e = one-dir ino e
      by false e = one-file ino e

  places-fit : (from to : Ino) → dirs from ≡ true → dirs to ≡ true → All Fits (touched_places from to)
  places-fit from to f t = by (from.0 == to.0)
    where
      by : (b : Bool) → All Fits (if b then (from, 1) ∷ [] else (from, 1) ∷ (to, 1) ∷ [])
      by true = one-dir from f
      by false = All-cons Fits (from, 1) ((to, 1) ∷ []) (sym f) (one-dir to t)

  rename-fits : (path goal : List (List ℕ)) (r : Result Move Why) → move_of tree path goal ≡ r → All Fits (touched_rename tree r)
  rename-fits path goal (Err why) e = All-nil Fits
  rename-fits path goal (Ok move) e = by move.is_same
    where
      by : (b : Bool) → All Fits (if b then [] else touched_places move.from move.to ++ touched_target tree move.replaced)
      by true = All-nil Fits
      by false =
          let is = moves_by tree path goal move e in
          All-append Fits (touched_places move.from move.to) (touched_target tree move.replaced) (places-fit move.from move.to (parent-dir path move.from is.parent) (parent-dir goal move.to is.goal_parent)) (target-fits move.replaced)

module _ (v : Volume) where
  abbrev OfPlan : Plan → Type 0
  OfPlan p = All (Fits (shown v)) p.touches

  nothing : All (Fits (shown v)) []
  nothing = All-nil (Fits (shown v))

  room-fits : (client : ClientId) (number : ℕ) (p : Plan) → OfPlan p → OfPlan (if_room v client number p)
  room-fits client number p all = by (nat_lt (free_count v) p.needed)
    where
      by : (b : Bool) → OfPlan (if b then short v client number p.touches p.needed else p)
      by true = all
      by false = all

  making-fits : (client : ClientId) (number : ℕ) (r : Result Ino Why) (name : List ℕ) (kind : Kind) → ((place : Ino) → r ≡ Ok place → dirs (shown v) place ≡ true) → OfPlan (making_at v client number r name kind)
  making-fits client number (Err why) name kind each = nothing
  making-fits client number (Ok place) name kind each = by (least_inode v)
    where
      by : (o : Option ℕ) → OfPlan (making_if v client number place name kind o)
      by None = nothing
      by (Some ino) = room-fits client number (making v client number place name kind (record { 0 = ino })) (one-dir (shown v) place (each place refl))

  removing-fits : (client : ClientId) (number : ℕ) (opened : List Ino) (touched : List Touch) (place ino : Result Ino Why) (name : List ℕ) → All (Fits (shown v)) touched → OfPlan (removing_at v client number opened touched place ino name)
  removing-fits client number opened touched (Ok place) (Ok ino) name all = all
  removing-fits client number opened touched (Ok place) (Err why) name all = nothing
  removing-fits client number opened touched (Err why) (Ok ino) name all = nothing
  removing-fits client number opened touched (Err why) (Err other) name all = nothing

  moving-fits : (client : ClientId) (number : ℕ) (opened : List Ino) (touched : List Touch) (r : Result Move Why) (name goal : List ℕ) → All (Fits (shown v)) touched → OfPlan (moving_by v client number opened touched r name goal)
  moving-fits client number opened touched (Err why) name goal all = nothing
  moving-fits client number opened touched (Ok move) name goal all = by move.is_same
    where
      by : (b : Bool) → OfPlan (if b then standing v client number Done else if_room v client number (moving v client number opened touched move name goal))
      by true = nothing
      by false = room-fits client number (moving v client number opened touched move name goal) all

  pub plan-fits : (client : ClientId) (number : ℕ) (call : Call) (opened : List Ino) → OfPlan (plan v client number call opened)
  plan-fits client number (Create path) opened = making-fits client number (new_place (shown v) path) (last_of path) File (new-dir (shown v) path)
  plan-fits client number (Mkdir path) opened = making-fits client number (new_place (shown v) path) (last_of path) Dir (new-dir (shown v) path)
  plan-fits client number (Unlink path) opened =
      removing-fits client number opened (touches (shown v) (Unlink path)) (parent_of (shown v) path) (file_named (shown v) path) (last_of path)
      (unlink-fits (shown v) (file_named (shown v) path) (parent_of (shown v) path) (file-not (shown v) (resolved (shown v) path)) (parent-dir (shown v) path))
  plan-fits client number (Rmdir path) opened =
      removing-fits client number opened (touches (shown v) (Rmdir path)) (parent_of (shown v) path) (removable (shown v) path) (last_of path)
      (rmdir-fits (shown v) (removable (shown v) path) (parent_of (shown v) path) (removable-dir (shown v) path) (parent-dir (shown v) path))
  plan-fits client number (Rename path goal) opened =
      moving-fits client number opened (touches (shown v) (Rename path goal)) (if_there v (move_of (shown v) path goal)) (last_of path) (last_of goal) (rename-fits (shown v) path goal (move_of (shown v) path goal) refl)
  plan-fits client number (Open path mode) opened = nothing
  plan-fits client number (Close fd) opened = nothing
  plan-fits client number (Read fd offset len) opened = nothing
  plan-fits client number (Write fd offset bytes) opened = nothing
  plan-fits client number (Truncate fd size) opened = nothing
  plan-fits client number (Stat path) opened = nothing
  plan-fits client number (Readdir path) opened = nothing
  plan-fits client number (Fsync fd) opened = nothing
