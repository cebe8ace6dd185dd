-- The number of a change stands in its client's slot, with its reply.
use Rattle.std.proofs.Common.{◌≡◌, ◌==◌, ◌<◌, ℕ, Bool, true, false, List, Option, Some, None, Result, Ok, Err, nat_lt, refl, ap, ◌∙◌, arith, if◌then◌else◌}
use Rattle.cal_base.specs.Limits as limits
use Rattle.std.proofs.lemmas.Bool.Decides.{nat_tests}
use Rattle.std.proofs.lemmas.List.{get_or-set_same}
use Rattle.cal_base.specs.declared.identity.ClientId.{ClientId}
use Rattle.cal_base.specs.declared.identity.Ino.{Ino}
use Rattle.inode.specs.declared.inode.Kind.{Kind}
use Rattle.inode.specs.declared.inode.Kind.TheVariants.{File, Dir}
use Rattle.request_log.specs.Judge.{judged}
use Rattle.request_log.specs.declared.judge.Judged.TheVariants.{Kept, New, Old}
use Rattle.request_log.specs.declared.slot.Slot.{Slot}
use Rattle.token_kind.specs.declared.flush.Flush.{Flush}
use Rattle.tree_law.specs.Needs.{Touch, touches}
use Rattle.tree_law.specs.Rename.{move_of}
use Rattle.tree_law.specs.Resolve.{file_named, last_of, new_place, parent_of, removable}
use Rattle.tree_law.specs.declared.call.Call.{Call}
use Rattle.tree_law.specs.declared.call.Call.TheVariants.{Create, Mkdir, Unlink, Rmdir, Rename, Open, Close, Read, Write, Truncate, Stat, Readdir, Fsync}
use Rattle.tree_law.specs.declared.rename.Move.{Move}
use Rattle.tree_law.specs.declared.reply.Reply.TheVariants.{Done}
use Rattle.tree_law.specs.declared.reply.Why.{Why}
use Rattle.volume.specs.Volume.{Volume}
use Rattle.volume_edit.specs.Edit.{IsVolume, edited, first_slot, slot_at, with_slot}
use Rattle.volume_edit.specs.declared.edit.SlotEdit.{SlotEdit}
use Rattle.volume_plan.specs.Flushing.{flush_of}
use Rattle.volume_plan.specs.Plans.{Plan, answered, free_count, if_room, if_there, least_inode, making, making_at, making_if, moving, moving_by, plan, removing_at, short, standing}
use Rattle.volume_plan.specs.Shown.{shown}

-- a plan's edit puts the number and the plan's reply
abbrev Answers : Volume → ClientId → ℕ → Plan → Type 0
Answers v client number p = p.edit.slot ≡ Some (answered v client number p.reply)

room_answers : (v : Volume) (client : ClientId) (number : ℕ) (p : Plan) → Answers v client number p → Answers v client number (if_room v client number p)
room_answers v client number p is =
    elim (nat_lt (free_count v) p.needed) as (λ b. Answers v client number (if b then short v client number p.touches p.needed else p)) [
      | true ↦ refl
      | false ↦ is
    ]

making_if_answers : (v : Volume) (client : ClientId) (number : ℕ) (place : Ino) (name : List ℕ) (kind : Kind) (o : Option ℕ) → Answers v client number (making_if v client number place name kind o)
making_if_answers v client number place name kind None = refl
making_if_answers v client number place name kind (Some ino) = room_answers v client number (making v client number place name kind (record { 0 = ino })) refl

making_answers : (v : Volume) (client : ClientId) (number : ℕ) (at : Result Ino Why) (name : List ℕ) (kind : Kind) → Answers v client number (making_at v client number at name kind)
making_answers v client number (Ok place) name kind = making_if_answers v client number place name kind (least_inode v)
making_answers v client number (Err why) name kind = refl

removing_answers : (v : Volume) (client : ClientId) (number : ℕ) (opened : List Ino) (touched : List Touch) (place ino : Result Ino Why) (name : List ℕ) → Answers v client number (removing_at v client number opened touched place ino name)
removing_answers v client number opened touched (Ok place) (Ok ino) name = refl
removing_answers v client number opened touched (Err why) (Ok ino) name = refl
removing_answers v client number opened touched (Ok place) (Err why) name = refl
removing_answers v client number opened touched (Err other) (Err why) name = refl

moving_answers : (v : Volume) (client : ClientId) (number : ℕ) (opened : List Ino) (touched : List Touch) (r : Result Move Why) (name goal : List ℕ) → Answers v client number (moving_by v client number opened touched r name goal)
moving_answers v client number opened touched (Err why) name goal = refl
moving_answers v client number opened touched (Ok move) name goal =
    elim move.is_same as (λ b. Answers v client number (if b then standing v client number Done else if_room v client number (moving v client number opened touched move name goal))) [
      | true ↦ refl
      | false ↦ room_answers v client number (moving v client number opened touched move name goal) refl
    ]

plan_answers : (v : Volume) (client : ClientId) (number : ℕ) (call : Call) (opened : List Ino) → Answers v client number (plan v client number call opened)
plan_answers v client number (Create path) opened = making_answers v client number (new_place (shown v) path) (last_of path) File
plan_answers v client number (Mkdir path) opened = making_answers v client number (new_place (shown v) path) (last_of path) Dir
plan_answers v client number (Unlink path) opened = removing_answers v client number opened (touches (shown v) (Unlink path)) (parent_of (shown v) path) (file_named (shown v) path) (last_of path)
plan_answers v client number (Rmdir path) opened = removing_answers v client number opened (touches (shown v) (Rmdir path)) (parent_of (shown v) path) (removable (shown v) path) (last_of path)
plan_answers v client number (Rename path goal) opened = moving_answers v client number opened (touches (shown v) (Rename path goal)) (if_there v (move_of (shown v) path goal)) (last_of path) (last_of goal)
plan_answers v client number (Open path mode) opened = refl
plan_answers v client number (Close fd) opened = refl
plan_answers v client number (Read fd offset len) opened = refl
plan_answers v client number (Write fd offset bytes) opened = refl
plan_answers v client number (Truncate fd size) opened = refl
plan_answers v client number (Stat path) opened = refl
plan_answers v client number (Readdir path) opened = refl
plan_answers v client number (Fsync fd) opened = refl

-- a slot judges its own number as kept
kept_at : (s : Slot) → judged s s.call ≡ Kept s.reply
kept_at s =
    let same : (s.call == s.call) ≡ true = grind (arith, nat_tests) in
    ap (λ (b : Bool). if b then Kept s.reply else (if nat_lt s.call s.call then Old else New)) same

pub number_is_kept : (v : Volume) (client : ClientId) (number : ℕ) (call : Call) (opened : List Ino) → IsVolume v → client.0 < limits.clients
    → judged (slot_at (edited v (plan v client number call opened).edit).slots client.0) number ≡ Kept (plan v client number call opened).reply
number_is_kept v client number call opened is known =
    let count = is.slot_count in
    let p = plan v client number call opened in
    let put : slot_at (with_slot v.slots p.edit.slot) client.0 ≡ (answered v client number p.reply).slot =
    ap (λ (o : Option SlotEdit). slot_at (with_slot v.slots o) client.0) (plan_answers v client number call opened)
    ∙ get_or-set_same v.slots client.0 (answered v client number p.reply).slot first_slot (omega arith) in
    ap (λ (s : Slot). judged s number) put ∙ kept_at (answered v client number p.reply).slot

pub flush_is_counted : (v : Volume) (client : ClientId) (flush : Flush) → IsVolume v → client.0 < limits.clients → (slot_at (edited v (flush_of v client flush)).slots client.0).flush ≡ flush.number
flush_is_counted v client flush is known =
    let count = is.slot_count in
    ap (λ (s : Slot). s.flush) (get_or-set_same v.slots client.0 _ first_slot (omega arith))
