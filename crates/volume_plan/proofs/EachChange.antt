-- The plan of each change leads to its entry.
use Rattle.std.proofs.Common.{◌≡◌, ℕ, true, false, nat_lt, List, Option, Some, None, Result, Ok, Err, refl, sym, ap, ◌∙◌, if◌then◌else◌}
use Rattle.cal_base.specs.declared.identity.ClientId.{ClientId}
use Rattle.cal_base.specs.declared.identity.Ino.{Ino}
use Rattle.inode.specs.declared.inode.Kind.{Kind}
use Rattle.inode.specs.declared.inode.Kind.TheVariants.{File, Dir}
use Rattle.tree_law.specs.Answer.{answer, made}
use Rattle.tree_law.specs.Legal.{tree_of}
use Rattle.tree_law.specs.Needs.{Touch, touches}
use Rattle.tree_law.specs.Rename.{move_of}
use Rattle.tree_law.specs.Resolve.{file_named, last_of, new_place, parent_of, removable}
use Rattle.tree_law.specs.declared.call.Call.{Call}
use Rattle.tree_law.specs.declared.call.Call.TheVariants.{Create, Mkdir, Unlink, Rmdir, Rename, Open, Close, Read, Write, Truncate, Stat, Readdir, Fsync}
use Rattle.tree_law.specs.declared.entry.Entry.{Entry}
use Rattle.tree_law.specs.declared.rename.Move.{Move}
use Rattle.tree_law.specs.declared.reply.Reply.{Reply}
use Rattle.tree_law.specs.declared.reply.Reply.TheVariants.{Done, Refused}
use Rattle.tree_law.specs.declared.reply.Why.{Why}
use Rattle.tree_law.specs.declared.reply.Why.TheVariants.{NoInode, NoSpace}
use Rattle.volume.specs.Volume.{Volume}
use Rattle.volume_plan.specs.Leads.{IsAsked, Mounted}
use Rattle.volume_plan.specs.Planned.{PlanLeads}
use Rattle.volume_plan.specs.Plans.{Plan, free_count, if_room, if_there, least_inode, making, making_at, making_if, moving, moving_by, plan, removing_at, short, standing}
use Rattle.volume_plan.specs.Shown.{shown}
use Rattle.volume_plan.proofs.Creations.{create_fits, mkdir_fits}
use Rattle.volume_plan.proofs.Leading.{fits_leads}
use Rattle.volume_plan.proofs.RefusedCalls.{refusal_fits}
use Rattle.volume_plan.proofs.Removals.{rmdir_leads, stand_nodes, unlink_leads}
use Rattle.volume_plan.proofs.Renames.{rename_leads}
use Rattle.volume_plan.proofs.ShownAnswers.{same_answer}

-- a change is done or refused
pub data Replies (reply : Reply) : Type 0 where
  is_done : reply ≡ Done → Replies reply
  is_refused : (why : Why) → reply ≡ Refused why → Replies reply

room_replies : (v : Volume) (client : ClientId) (number : ℕ) (p : Plan) → p.reply ≡ Done → Replies (if_room v client number p).reply
room_replies v client number p done = elim (nat_lt (free_count v) p.needed) as (λ b. Replies (if b then short v client number p.touches p.needed else p).reply) [
  | true ↦ is_refused (NoSpace (free_count v) p.needed) refl
  | false ↦ is_done done
]

made_replies : (v : Volume) (client : ClientId) (number : ℕ) (place : Ino) (name : List ℕ) (kind : Kind) (o : Option ℕ) → Replies (making_if v client number place name kind o).reply
made_replies v client number place name kind None = is_refused NoInode refl
made_replies v client number place name kind (Some n) = room_replies v client number (making v client number place name kind (record { 0 = n })) refl

making_replies : (v : Volume) (client : ClientId) (number : ℕ) (r : Result Ino Why) (name : List ℕ) (kind : Kind) → Replies (making_at v client number r name kind).reply
making_replies v client number (Ok place) name kind = made_replies v client number place name kind (least_inode v)
making_replies v client number (Err why) name kind = is_refused why refl

-- an entry goes only where what it names was found
data Removes (reply : Reply) (found : Result Ino Why) : Type 0 where
  is_gone : (ino : Ino) → found ≡ Ok ino → Removes reply found
  stays : (why : Why) → reply ≡ Refused why → Removes reply found

removing_replies : (v : Volume) (client : ClientId) (number : ℕ) (opened : List Ino) (touched : List Touch) (place ino : Result Ino Why) (name : List ℕ) → Removes (removing_at v client number opened touched place ino name).reply ino
removing_replies v client number opened touched (Ok place) (Ok ino) name = is_gone ino refl
removing_replies v client number opened touched (Err why) (Ok ino) name = stays why refl
removing_replies v client number opened touched (Ok place) (Err why) name = stays why refl
removing_replies v client number opened touched (Err first) (Err why) name = stays why refl

moving_replies : (v : Volume) (client : ClientId) (number : ℕ) (opened : List Ino) (touched : List Touch) (r : Result Move Why) (name goal : List ℕ) → Replies (moving_by v client number opened touched r name goal).reply
moving_replies v client number opened touched (Ok move) name goal =
    elim move.is_same as (λ b. Replies (if b then standing v client number Done else if_room v client number (moving v client number opened touched move name goal)).reply) [
      | true ↦ is_done refl
      | false ↦ room_replies v client number (moving v client number opened touched move name goal) refl
    ]
moving_replies v client number opened touched (Err why) name goal = is_refused why refl

module _ (sectors : List (List ℕ)) (v : Volume) (history : List Entry) (client : ClientId) (number : ℕ) (opened : List Ino) (m : Mounted sectors v history) where
  refused_leads : (call : Call) (why : Why) → IsAsked history client number call opened → (plan v client number call opened).reply ≡ Refused why → PlanLeads sectors v history client number call opened
  refused_leads call why a refused = fits_leads sectors v history _ _ m (refusal_fits sectors v history client number opened m call why a refused)

  -- the tree doesn't refuse what is found in the shown tree
  done_by : (call : Call) (found : Result Ino Why) (ino : Ino) → IsAsked history client number call opened → answer (shown v) client call ≡ made found → found ≡ Ok ino → answer (tree_of history) client call ≡ Done
  done_by call found ino a answers is = sym (same_answer sectors v (tree_of history) m.volume (stand_nodes sectors v history m) client call a.change) ∙ answers ∙ ap made is

  pub change_leads : (call : Call) → IsAsked history client number call opened → PlanLeads sectors v history client number call opened
  change_leads (Create path) a = elim (making_replies v client number (new_place (shown v) path) (last_of path) File) [
    | is_done done ↦ fits_leads sectors v history _ _ m (create_fits sectors v history client number opened m path a done)
    | is_refused why refused ↦ refused_leads (Create path) why a refused
  ]
  change_leads (Mkdir path) a = elim (making_replies v client number (new_place (shown v) path) (last_of path) Dir) [
    | is_done done ↦ fits_leads sectors v history _ _ m (mkdir_fits sectors v history client number opened m path a done)
    | is_refused why refused ↦ refused_leads (Mkdir path) why a refused
  ]
  change_leads (Unlink path) a = elim (removing_replies v client number opened (touches (shown v) (Unlink path)) (parent_of (shown v) path) (file_named (shown v) path) (last_of path)) [
    | is_gone ino found ↦ unlink_leads sectors v history client number opened m path a (done_by (Unlink path) (file_named (shown v) path) ino a refl found)
    | stays why refused ↦ refused_leads (Unlink path) why a refused
  ]
  change_leads (Rmdir path) a = elim (removing_replies v client number opened (touches (shown v) (Rmdir path)) (parent_of (shown v) path) (removable (shown v) path) (last_of path)) [
    | is_gone ino found ↦ rmdir_leads sectors v history client number opened m path a (done_by (Rmdir path) (removable (shown v) path) ino a refl found)
    | stays why refused ↦ refused_leads (Rmdir path) why a refused
  ]
  change_leads (Rename path goal) a = elim (moving_replies v client number opened (touches (shown v) (Rename path goal)) (if_there v (move_of (shown v) path goal)) (last_of path) (last_of goal)) [
    | is_done done ↦ rename_leads sectors v history client number path goal opened m a done
    | is_refused why refused ↦ refused_leads (Rename path goal) why a refused
  ]
  change_leads (Open path mode) a = (let c = a.change in absurd (cc))
  change_leads (Close fd) a = (let c = a.change in absurd (cc))
  change_leads (Read fd offset len) a = (let c = a.change in absurd (cc))
  change_leads (Write fd offset bytes) a = (let c = a.change in absurd (cc))
  change_leads (Truncate fd size) a = (let c = a.change in absurd (cc))
  change_leads (Stat path) a = (let c = a.change in absurd (cc))
  change_leads (Readdir path) a = (let c = a.change in absurd (cc))
  change_leads (Fsync fd) a = (let c = a.change in absurd (cc))
