-- Of the files that are open a plan asks of the inode alone that it takes the last name from.
use Rattle.std.proofs.Common.{◌≡◌, ◌||◌, ℕ, Bool, true, false, List, Option, Some, None, Result, Ok, Err, if◌then◌else◌, refl, ap}
use Rattle.std.specs.Prelude.{is_some, option_map}
use Rattle.cal_base.specs.declared.identity.ClientId.{ClientId}
use Rattle.cal_base.specs.declared.identity.Ino.{Ino}
use Rattle.tree_law.specs.Needs.{Touch, touches}
use Rattle.tree_law.specs.Rename.{move_of}
use Rattle.tree_law.specs.Resolve.{file_named, last_of, parent_of, removable}
use Rattle.tree_law.specs.Tree.{node_at}
use Rattle.tree_law.specs.declared.call.Call.{Call}
use Rattle.tree_law.specs.declared.call.Call.TheVariants.{Create, Mkdir, Unlink, Rmdir, Rename, Open, Close, Read, Write, Truncate, Stat, Readdir, Fsync}
use Rattle.tree_law.specs.declared.rename.Move.{Move}
use Rattle.tree_law.specs.declared.reply.Reply.TheVariants.{Done}
use Rattle.tree_law.specs.declared.reply.Why.{Why}
use Rattle.tree_law.specs.declared.reply.Why.TheVariants.{NoEnt}
use Rattle.volume.specs.Volume.{Volume}
use Rattle.volume_edit.specs.Edit.{inode_at}
use Rattle.volume_edit.specs.declared.edit.InodeEdit.{InodeEdit}
use Rattle.volume_plan.specs.Plans.{Plan, answered, growth_moved, if_room, if_there, inode_gone, is_opened, leaving_of, moving_by, nameless, needed_moved, place_entered, plan, removing_at, standing}
use Rattle.volume_plan.specs.Shown.{shown}
use Rattle.server_line.specs.Changed.{inode_found, inode_replaced, unnamed_by}

-- two lists of open files tell the same of an inode, if there is one
abbrev pub AskAlike : List Ino → List Ino → Option Ino → Type 0
AskAlike some others one = (ino : Ino) → one ≡ Some ino → is_opened some ino ≡ is_opened others ino

gone-same : (v : Volume) (some others : List Ino) (ino : Ino) → is_opened some ino ≡ is_opened others ino → inode_gone v some ino ≡ inode_gone v others ino
gone-same v some others ino same = ap (λ (b : Bool). record { ino = ino; inode = nameless (inode_at v.inodes ino.0).kind (inode_at v.inodes ino.0) b }) same

replaced-same : (v : Volume) (some others : List Ino) (o : Option Ino) → AskAlike some others o → option_map (inode_gone v some) o ≡ option_map (inode_gone v others) o
replaced-same v some others (Some ino) same = ap (λ (e : InodeEdit). Some e) (gone-same v some others ino (same ino refl))
replaced-same v some others None same = refl

-- plans by the inode that goes
abbrev removing-by : Volume → ClientId → ℕ → List Touch → Ino → List ℕ → InodeEdit → Plan
removing-by v client number touched place name gone = record {
  edit = record {
    slot = Some (answered v client number Done);
    inode = Some gone;
    growth = None;
    leaving = Some (leaving_of v place name);
    entering = None;
  };
  reply = Done;
  new_ino = None;
  touches = touched;
  needed = 0;
}

abbrev moving-with : Volume → ClientId → ℕ → List Touch → Move → List ℕ → List ℕ → Option InodeEdit → Plan
moving-with v client number touched move name goal gone = record {
  edit = record {
    slot = Some (answered v client number Done);
    inode = gone;
    growth = growth_moved v move name;
    leaving = Some (leaving_of v move.from name);
    entering = Some (record { directory = move.to; place = place_entered v move name goal; entry = record { name = goal; ino = move.ino } });
  };
  reply = Done;
  new_ino = None;
  touches = touched;
  needed = needed_moved v move name;
}

removing-same : (v : Volume) (client : ClientId) (number : ℕ) (some others : List Ino) (touched : List Touch) (place ino : Result Ino Why) (name : List ℕ) → AskAlike some others (inode_found ino)
    → removing_at v client number some touched place ino name ≡ removing_at v client number others touched place ino name
removing-same v client number some others touched (Ok place) (Ok ino) name same = ap (λ (gone : InodeEdit). removing-by v client number touched place name gone) (gone-same v some others ino (same ino refl))
removing-same v client number some others touched (Ok place) (Err why) name same = refl
removing-same v client number some others touched (Err why) (Ok ino) name same = refl
removing-same v client number some others touched (Err why) (Err other) name same = refl

moving-same : (v : Volume) (client : ClientId) (number : ℕ) (some others : List Ino) (touched : List Touch) (r : Result Move Why) (name goal : List ℕ) → AskAlike some others (inode_replaced r)
    → moving_by v client number some touched (if_there v r) name goal ≡ moving_by v client number others touched (if_there v r) name goal
moving-same v client number some others touched (Err why) name goal same = refl
moving-same v client number some others touched (Ok move) name goal same = by (move.is_same || is_some (node_at (shown v) move.ino))
  where
    by : (b : Bool) → moving_by v client number some touched (if b then Ok move else Err NoEnt) name goal ≡ moving_by v client number others touched (if b then Ok move else Err NoEnt) name goal
    by true =
        ap (λ (gone : Option InodeEdit). if move.is_same then standing v client number Done else if_room v client number (moving-with v client number touched move name goal gone)) (replaced-same v some others move.replaced same)
    by false = refl

pub plan-alone : (v : Volume) (client : ClientId) (number : ℕ) (call : Call) (some others : List Ino) → AskAlike some others (unnamed_by v call) → plan v client number call some ≡ plan v client number call others
plan-alone v client number (Create path) some others same = refl
plan-alone v client number (Mkdir path) some others same = refl
plan-alone v client number (Unlink path) some others same = removing-same v client number some others (touches (shown v) (Unlink path)) (parent_of (shown v) path) (file_named (shown v) path) (last_of path) same
plan-alone v client number (Rmdir path) some others same = removing-same v client number some others (touches (shown v) (Rmdir path)) (parent_of (shown v) path) (removable (shown v) path) (last_of path) same
plan-alone v client number (Rename path goal) some others same = moving-same v client number some others (touches (shown v) (Rename path goal)) (move_of (shown v) path goal) (last_of path) (last_of goal) same
plan-alone v client number (Open path mode) some others same = refl
plan-alone v client number (Close fd) some others same = refl
plan-alone v client number (Read fd offset len) some others same = refl
plan-alone v client number (Write fd offset bytes) some others same = refl
plan-alone v client number (Truncate fd size) some others same = refl
plan-alone v client number (Stat path) some others same = refl
plan-alone v client number (Readdir path) some others same = refl
plan-alone v client number (Fsync fd) some others same = refl
