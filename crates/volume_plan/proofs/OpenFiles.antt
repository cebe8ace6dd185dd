-- A plan asks of the files that are open only whether a file is one of them.
use Rattle.std.proofs.Common.{◌≡◌, ◌↔◌, ◌==◌, ℕ, Bool, true, false, List, Option, Some, None, Result, Ok, Err, Contains, if◌then◌else◌, refl, sym, ap, subst}
use Rattle.std.specs.Prelude.{option_map}
use Rattle.std.proofs.lemmas.Bool.{eq-eqb, eqb-true}
use Rattle.std.proofs.lemmas.List.Folds.{Any-from_list_any, list_any-from_Any}
use Rattle.cal_base.specs.declared.identity.ClientId.{ClientId}
use Rattle.cal_base.specs.declared.identity.Ino.{Ino}
use Rattle.tree_law.specs.Needs.{Touch, touches}
use Rattle.tree_law.specs.Rename.{move_of}
use Rattle.tree_law.specs.Resolve.{file_named, last_of, parent_of, removable}
use Rattle.tree_law.specs.declared.call.Call.{Call}
use Rattle.tree_law.specs.declared.call.Call.TheVariants.{Create, Mkdir, Unlink, Rmdir, Rename, Open, Close, Read, Write, Truncate, Stat, Readdir, Fsync}
use Rattle.tree_law.specs.declared.rename.Move.{Move}
use Rattle.tree_law.specs.declared.reply.Reply.TheVariants.{Done}
use Rattle.tree_law.specs.declared.reply.Why.{Why}
use Rattle.volume.specs.Volume.{Volume}
use Rattle.volume_edit.specs.Edit.{inode_at}
use Rattle.volume_edit.specs.declared.edit.InodeEdit.{InodeEdit}
use Rattle.volume_plan.specs.Plans.{Plan, answered, growth_moved, if_room, if_there, inode_gone, is_opened, leaving_of, moving_by, nameless, needed_moved, place_entered, plan, removing_at, standing}
use Rattle.volume_plan.specs.Shown.{shown}

abbrev AskAlike : List Ino → List Ino → Type 0
AskAlike some others = (ino : Ino) → is_opened some ino ≡ is_opened others ino

same_gone : (v : Volume) (some others : List Ino) (ino : Ino) → AskAlike some others → inode_gone v some ino ≡ inode_gone v others ino
same_gone v some others ino same = ap (λ (b : Bool). record { ino = ino; inode = nameless (inode_at v.inodes ino.0).kind (inode_at v.inodes ino.0) b }) (same ino)

same_replaced : (v : Volume) (some others : List Ino) (o : Option Ino) → AskAlike some others → option_map (inode_gone v some) o ≡ option_map (inode_gone v others) o
same_replaced v some others (Some ino) same = ap (λ (e : InodeEdit). Some e) (same_gone v some others ino same)
same_replaced v some others None same = refl

-- plans by the inode that goes
abbrev removing_by : Volume → ClientId → ℕ → List Touch → Ino → List ℕ → InodeEdit → Plan
removing_by v client number touched place name gone = record {
  edit = record {
    slot = Some (answered v client number Done);
    inode = Some gone;
    growth = None;
    leaving = Some (leaving_of v place name);
    entering = None;
  };
  reply = Done;
  new_ino = None;
  touches = touched;
  needed = 0;
}

abbrev moving_with : Volume → ClientId → ℕ → List Touch → Move → List ℕ → List ℕ → Option InodeEdit → Plan
moving_with v client number touched move name goal gone = record {
  edit = record {
    slot = Some (answered v client number Done);
    inode = gone;
    growth = growth_moved v move name;
    leaving = Some (leaving_of v move.from name);
    entering = Some (record { directory = move.to; place = place_entered v move name goal; entry = record { name = goal; ino = move.ino } });
  };
  reply = Done;
  new_ino = None;
  touches = touched;
  needed = needed_moved v move name;
}

same_removing : (v : Volume) (client : ClientId) (number : ℕ) (some others : List Ino) (touched : List Touch) (place ino : Result Ino Why) (name : List ℕ) → AskAlike some others
    → removing_at v client number some touched place ino name ≡ removing_at v client number others touched place ino name
same_removing v client number some others touched (Ok place) (Ok ino) name same = ap (λ (gone : InodeEdit). removing_by v client number touched place name gone) (same_gone v some others ino same)
same_removing v client number some others touched (Ok place) (Err why) name same = refl
same_removing v client number some others touched (Err why) (Ok ino) name same = refl
same_removing v client number some others touched (Err why) (Err other) name same = refl

same_moving : (v : Volume) (client : ClientId) (number : ℕ) (some others : List Ino) (touched : List Touch) (r : Result Move Why) (name goal : List ℕ) → AskAlike some others
    → moving_by v client number some touched r name goal ≡ moving_by v client number others touched r name goal
same_moving v client number some others touched (Err why) name goal same = refl
same_moving v client number some others touched (Ok move) name goal same =
    ap (λ (gone : Option InodeEdit). if move.is_same then standing v client number Done else if_room v client number (moving_with v client number touched move name goal gone)) (same_replaced v some others move.replaced same)

pub same_plan : (v : Volume) (client : ClientId) (number : ℕ) (call : Call) (some others : List Ino) → AskAlike some others → plan v client number call some ≡ plan v client number call others
same_plan v client number (Create path) some others same = refl
same_plan v client number (Mkdir path) some others same = refl
same_plan v client number (Unlink path) some others same = same_removing v client number some others (touches (shown v) (Unlink path)) (parent_of (shown v) path) (file_named (shown v) path) (last_of path) same
same_plan v client number (Rmdir path) some others same = same_removing v client number some others (touches (shown v) (Rmdir path)) (parent_of (shown v) path) (removable (shown v) path) (last_of path) same
same_plan v client number (Rename path goal) some others same = same_moving v client number some others (touches (shown v) (Rename path goal)) (if_there v (move_of (shown v) path goal)) (last_of path) (last_of goal) same
same_plan v client number (Open path mode) some others same = refl
same_plan v client number (Close fd) some others same = refl
same_plan v client number (Read fd offset len) some others same = refl
same_plan v client number (Write fd offset bytes) some others same = refl
same_plan v client number (Truncate fd size) some others same = refl
same_plan v client number (Stat path) some others same = refl
same_plan v client number (Readdir path) some others same = refl
same_plan v client number (Fsync fd) some others same = refl

same_tests : (a b : Bool) → (a ≡ true → b ≡ true) → (b ≡ true → a ≡ true) → a ≡ b
same_tests true b p q = sym (p refl)
same_tests false true p q = q refl
same_tests false false p q = refl

listed : (inos : List Ino) (ino : Ino) → is_opened inos ino ≡ true → Contains inos ino
listed inos ino e =
    let any = Any-from_list_any (λ (other : Ino). other.0 == ino.0) inos e in
    let number : any.1.0 ≡ ino.0 = eqb-true any.1.0 ino.0 any.4 in
    let same : any.1 ≡ ino = ap (λ (n : ℕ). record { 0 = n }) number in
    subst (Contains inos) same (any.0, any.2, any.3)

opened_by : (inos : List Ino) (ino : Ino) → Contains inos ino → is_opened inos ino ≡ true
opened_by inos ino h = list_any-from_Any (λ (other : Ino). other.0 == ino.0) inos (h.0, ino, h.1, h.2, eq-eqb ino.0 ino.0 refl)

-- lists with the same members are asked alike
pub same_members : (some others : List Ino) (ino : Ino) → Contains some ino ↔ Contains others ino → is_opened some ino ≡ is_opened others ino
same_members some others ino same =
    same_tests (is_opened some ino) (is_opened others ino)
    (λ e. opened_by others ino (same.0 (listed some ino e)))
    (λ e. opened_by some ino (same.1 (listed others ino e)))
