-- A plan's edit is one, and its transaction carries the change out.
use Rattle.std.proofs.Common.{◌≡◌, ◌≤◌, ◌<◌, ◌^◌, ℕ, List, sym, subst}
use Rattle.cal_base.specs.Limits as limits
use Rattle.cal_base.specs.declared.identity.ClientId.{ClientId}
use Rattle.cal_base.specs.declared.identity.Ino.{Ino}
use Rattle.tree_law.specs.declared.call.Call.{Call}
use Rattle.tree_law.specs.declared.entry.Entry.{Entry}
use Rattle.tree_law.specs.declared.entry.Entry.TheVariants.{Call as Called}
use Rattle.volume.specs.Volume.{Volume}
use Rattle.volume.specs.Stands.{AreBlocksKept}
use Rattle.volume_edit.specs.Blocks.{TakesFree}
use Rattle.volume_edit.specs.Edit.{IsEdit, IsVolume}
use Rattle.volume_edit.specs.Homes.{AreHomes}
use Rattle.tree_law.specs.Change.{HasPaths}
use Rattle.volume_plan.specs.Leads.{IsAsked, Leads, Mounted}
use Rattle.volume_plan.specs.Plans.{Plan, plan}
use Rattle.volume_plan.proofs.AllEdits.{plan_edit}
use Rattle.volume_plan.proofs.EachChange.{change_leads}
use Rattle.volume_plan.proofs.TakenFree.{plan_takes}
use Rattle.image.specs.Planning.{plan_of}
use Rattle.image.specs.EntryPlans.{EntryStands}
use Rattle.image.specs.declared.change_plan.ChangePlan.{ChangePlan}

pub planned_edit : (v : Volume) (client : ClientId) (number : ℕ) (call : Call) (opened : List Ino) (p : ChangePlan) → IsVolume v → client.0 < limits.clients → 1 ≤ number → number < 2 ^ 64 → HasPaths call → plan_of p ≡ plan v client number call opened → IsEdit v p.edit
planned_edit v client number call opened p is known some fits paths same =
    subst (λ (q : Plan). IsEdit v q.edit) (sym same) (plan_edit v client number call opened is (record { known = known; from_one = some; fits = fits }) paths)

-- the plan's edit takes free blocks alone
pub planned_takes : (v : Volume) (client : ClientId) (number : ℕ) (call : Call) (opened : List Ino) (p : ChangePlan) → IsVolume v → AreBlocksKept v → plan_of p ≡ plan v client number call opened → TakesFree v p.edit
planned_takes v client number call opened p is kept same = subst (λ (q : Plan). TakesFree v q.edit) (sym same) (plan_takes v client number call opened is kept)

entry_stands : (sectors : List (List ℕ)) (v : Volume) (history : List Entry) (client : ClientId) (number : ℕ) (call : Call) (q : Plan) (homes : List (ℕ × List ℕ)) → Leads sectors v history q.edit (Called client number call q.reply q.new_ino) → AreHomes v q.edit homes → EntryStands sectors v history q.edit homes (Called client number call q.reply q.new_ino)
entry_stands sectors v history client number call q homes leads are = record { next = leads.next; stands = leads.stands homes are }

pub planned_stands : (sectors : List (List ℕ)) (v : Volume) (history : List Entry) (client : ClientId) (number : ℕ) (call : Call) (opened : List Ino) (p : ChangePlan) (homes : List (ℕ × List ℕ)) → plan_of p ≡ plan v client number call opened → AreHomes v p.edit homes
    → Mounted sectors v history → IsAsked history client number call opened → EntryStands sectors v history p.edit homes (Called client number call p.reply p.new_ino)
planned_stands sectors v history client number call opened p homes same are m a =
    entry_stands sectors v history client number call (plan_of p) homes
    (subst (λ (q : Plan). Leads sectors v history q.edit (Called client number call q.reply q.new_ino)) (sym same) (change_leads sectors v history client number opened m call a)) are
