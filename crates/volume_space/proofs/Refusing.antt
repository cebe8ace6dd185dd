-- A plan that is refused alters its client's slot alone.
use Rattle.std.proofs.Common.{◌≡◌, ℕ, true, false, List, Option, Some, None, Result, Ok, Err, nat_lt, if◌then◌else◌, refl, sym, ap, ◌∙◌}
use Rattle.cal_base.specs.declared.identity.ClientId.{ClientId}
use Rattle.cal_base.specs.declared.identity.Ino.{Ino}
use Rattle.inode.specs.declared.inode.Kind.{Kind}
use Rattle.inode.specs.declared.inode.Kind.TheVariants.{File, Dir}
use Rattle.tree_law.specs.Needs.{Touch, touches}
use Rattle.tree_law.specs.Rename.{move_of}
use Rattle.tree_law.specs.Resolve.{file_named, last_of, new_place, parent_of, removable}
use Rattle.tree_law.specs.declared.call.Call.{Call}
use Rattle.tree_law.specs.declared.call.Call.TheVariants.{Create, Mkdir, Unlink, Rmdir, Rename, Open, Close, Read, Write, Truncate, Stat, Readdir, Fsync}
use Rattle.tree_law.specs.declared.rename.Move.{Move}
use Rattle.tree_law.specs.declared.reply.Reply.{Reply}
use Rattle.tree_law.specs.declared.reply.Reply.TheVariants.{Done, Refused}
use Rattle.tree_law.specs.declared.reply.Why.{Why}
use Rattle.tree_law.specs.declared.reply.Why.TheVariants.{NoEnt, NoInode, NoSpace}
use Rattle.volume.specs.Volume.{Volume}
use Rattle.volume_edit.specs.Edit.{edited}
use Rattle.volume_edit.specs.declared.edit.Edit.{Edit}
use Rattle.volume_plan.specs.Plans.{Plan, answered, free_count, if_room, if_there, least_inode, making, making_at, making_if, moving, moving_by, plan, removing, removing_at, short, slot_alone, standing}
use Rattle.volume_plan.specs.Shown.{shown}

-- where a plan is refused, it alters the slot alone
abbrev pub RefusesAlone : Volume → ClientId → ℕ → Plan → Type 0
RefusesAlone v client number p = (why : Why) → p.reply ≡ Refused why → p.edit ≡ slot_alone (answered v client number (Refused why))

-- a plan whose edit is that of its reply alone, and one that is done
answers_alone : (v : Volume) (client : ClientId) (number : ℕ) (reply : Reply) (why : Why) → reply ≡ Refused why → slot_alone (answered v client number reply) ≡ slot_alone (answered v client number (Refused why))
answers_alone v client number reply why same = ap (λ (r : Reply). slot_alone (answered v client number r)) same

done_alone : (v : Volume) (client : ClientId) (number : ℕ) (p : Plan) → p.reply ≡ Done → RefusesAlone v client number p
done_alone v client number p done why same = (let both : Done ≡ Refused why = sym done ∙ same in absurd (cc))

if_room_alone : (v : Volume) (client : ClientId) (number : ℕ) (p : Plan) → p.reply ≡ Done → RefusesAlone v client number (if_room v client number p)
if_room_alone v client number p done = elim (nat_lt (free_count v) p.needed) as (λ b. RefusesAlone v client number (if b then short v client number p.touches p.needed else p)) [
  | true ↦ answers_alone v client number (Refused (NoSpace (free_count v) p.needed))
  | false ↦ done_alone v client number p done
]

making_at_alone : (v : Volume) (client : ClientId) (number : ℕ) (at : Result Ino Why) (name : List ℕ) (kind : Kind) → RefusesAlone v client number (making_at v client number at name kind)
making_at_alone v client number (Ok place) name kind = by (least_inode v)
  where
    by : (o : Option ℕ) → RefusesAlone v client number (making_if v client number place name kind o)
    by None = answers_alone v client number (Refused NoInode)
    by (Some ino) = if_room_alone v client number (making v client number place name kind (record { 0 = ino })) refl
making_at_alone v client number (Err why) name kind = answers_alone v client number (Refused why)

removing_at_alone : (v : Volume) (client : ClientId) (number : ℕ) (opened : List Ino) (touched : List Touch) (place ino : Result Ino Why) (name : List ℕ) → RefusesAlone v client number (removing_at v client number opened touched place ino name)
removing_at_alone v client number opened touched (Ok place) (Ok ino) name = done_alone v client number (removing v client number opened touched place ino name) refl
removing_at_alone v client number opened touched (Ok place) (Err why) name = answers_alone v client number (Refused why)
removing_at_alone v client number opened touched (Err why) (Ok ino) name = answers_alone v client number (Refused why)
removing_at_alone v client number opened touched (Err why) (Err other) name = answers_alone v client number (Refused other)

moving_by_alone : (v : Volume) (client : ClientId) (number : ℕ) (opened : List Ino) (touched : List Touch) (r : Result Move Why) (name goal : List ℕ) → RefusesAlone v client number (moving_by v client number opened touched r name goal)
moving_by_alone v client number opened touched (Err why) name goal = answers_alone v client number (Refused why)
moving_by_alone v client number opened touched (Ok move) name goal =
    elim move.is_same as (λ b. RefusesAlone v client number (if b then standing v client number Done else if_room v client number (moving v client number opened touched move name goal))) [
      | true ↦ answers_alone v client number Done
      | false ↦ if_room_alone v client number (moving v client number opened touched move name goal) refl
    ]

pub plan_refused_alone : (v : Volume) (client : ClientId) (number : ℕ) (call : Call) (opened : List Ino) → RefusesAlone v client number (plan v client number call opened)
plan_refused_alone v client number (Create path) opened = making_at_alone v client number (new_place (shown v) path) (last_of path) File
plan_refused_alone v client number (Mkdir path) opened = making_at_alone v client number (new_place (shown v) path) (last_of path) Dir
plan_refused_alone v client number (Unlink path) opened = removing_at_alone v client number opened (touches (shown v) (Unlink path)) (parent_of (shown v) path) (file_named (shown v) path) (last_of path)
plan_refused_alone v client number (Rmdir path) opened = removing_at_alone v client number opened (touches (shown v) (Rmdir path)) (parent_of (shown v) path) (removable (shown v) path) (last_of path)
plan_refused_alone v client number (Rename path goal) opened =
    moving_by_alone v client number opened (touches (shown v) (Rename path goal)) (if_there v (move_of (shown v) path goal)) (last_of path) (last_of goal)
plan_refused_alone v client number (Open path mode) opened = answers_alone v client number (Refused NoEnt)
plan_refused_alone v client number (Close fd) opened = answers_alone v client number (Refused NoEnt)
plan_refused_alone v client number (Read fd offset len) opened = answers_alone v client number (Refused NoEnt)
plan_refused_alone v client number (Write fd offset bytes) opened = answers_alone v client number (Refused NoEnt)
plan_refused_alone v client number (Truncate fd size) opened = answers_alone v client number (Refused NoEnt)
plan_refused_alone v client number (Stat path) opened = answers_alone v client number (Refused NoEnt)
plan_refused_alone v client number (Readdir path) opened = answers_alone v client number (Refused NoEnt)
plan_refused_alone v client number (Fsync fd) opened = answers_alone v client number (Refused NoEnt)

-- so as many blocks are free
pub plan_refused_free : (v : Volume) (client : ClientId) (number : ℕ) (call : Call) (opened : List Ino) (why : Why) → (plan v client number call opened).reply ≡ Refused why → free_count (edited v (plan v client number call opened).edit) ≡ free_count v
plan_refused_free v client number call opened why refused = ap (λ (e : Edit). free_count (edited v e)) (plan_refused_alone v client number call opened why refused)
