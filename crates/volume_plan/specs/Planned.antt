-- What the plan of a change leads to.
use Rattle.std.specs.Prelude.{ℕ, List}
use Rattle.cal_base.specs.declared.identity.ClientId.{ClientId}
use Rattle.cal_base.specs.declared.identity.Ino.{Ino}
use Rattle.tree_law.specs.declared.call.Call.{Call}
use Rattle.tree_law.specs.declared.entry.Entry.{Entry}
use Rattle.tree_law.specs.declared.entry.Entry.TheVariants.{Call as Called}
use Rattle.volume.specs.Volume.{Volume}
use Rattle.volume_plan.specs.Leads.{Leads}
use Rattle.volume_plan.specs.Plans.{plan}

-- the plan of a change leads to the entry with its reply and its new inode
abbrev pub PlanLeads : List (List ℕ) → Volume → List Entry → ClientId → ℕ → Call → List Ino → Type 0
PlanLeads sectors v history client number call opened =
    Leads sectors v history (plan v client number call opened).edit (Called client number call (plan v client number call opened).reply (plan v client number call opened).new_ino)
