-- How the writes of a step end, by what the port answers.
use Rattle.std.proofs.Common.{◌≡◌, false, ℕ, List, Option, Some, None, Ok, Err, ap, subst, sym, ◌∙◌}
use Rattle.std.specs.Prelude.{Result}
use Rattle.fence.specs.Endings.{EndsAs}
use Rattle.fence.specs.Port.{PortState, accepting_all}
use Rattle.fence.specs.declared.port_halt.PortHalt.{PortHalt}
use Rattle.shared_disk.specs.Disk.{Disk}
use Rattle.shared_disk.specs.declared.stop.Stop.{Stop}
use Rattle.cluster_law.specs.DiskRules.{WritesOn}
use Rattle.cluster_law.specs.Noted.{DiskAt}
use Rattle.cluster_law.specs.declared.step.Halt.{Halt}
use Rattle.server_writes.specs.Ending.{halt_by, halt_of}

-- a port keeps its view
pub view-kept : (port port' : PortState) (old new : Disk) (writes : List (ℕ × List ℕ)) (result : Result (Unit {0}) PortHalt) (done : Unit {0}) → result ≡ Ok done → EndsAs port old writes result port' new
    → ((made : List (ℕ × List ℕ)) → (accepting_all port made).view ≡ port.view) → port'.view ≡ port.view
view-kept port port' old new writes result done is ends keeps = by (subst (λ (r : Result (Unit {0}) PortHalt). EndsAs port old writes r port' new) is ends)
  where
    by : EndsAs port old writes (Ok done) port' new → port'.view ≡ port.view
    by whole = ap (λ (p : PortState). p.view) whole.accepted ∙ keeps writes

-- all was written, or a halt came
pub wrote : (view : ℕ) (planned kept writes : List (ℕ × List ℕ)) (stop : Option Stop) (before after : DiskAt) (result : Result (Unit {0}) PortHalt) (done : Unit {0}) (faults : ℕ) → result ≡ Ok done → writes ≡ kept
    → WritesOn false view planned stop before after kept (halt_by result faults) → WritesOn false view planned stop before after writes None
wrote view planned kept writes stop before after result done faults is same h = subst (λ (ws : List (ℕ × List ℕ)). WritesOn false view planned stop before after ws None) (sym same)
    (subst (λ (r : Result (Unit {0}) PortHalt). WritesOn false view planned stop before after kept (halt_by r faults)) is h)

pub halted-so : (view : ℕ) (planned kept writes : List (ℕ × List ℕ)) (stop : Option Stop) (before after : DiskAt) (result : Result (Unit {0}) PortHalt) (why : PortHalt) (faults counted : ℕ) (halt : Halt) → result ≡ Err why → writes ≡ kept
    → counted ≡ faults → halt ≡ halt_of why counted → WritesOn false view planned stop before after kept (halt_by result faults) → WritesOn false view planned stop before after writes (Some halt)
halted-so view planned kept writes stop before after result why faults counted halt is same count why-is h = subst (λ (x : Halt). WritesOn false view planned stop before after writes (Some x)) (sym (why-is ∙ ap (halt_of why) count))
    (subst (λ (ws : List (ℕ × List ℕ)). WritesOn false view planned stop before after ws (Some (halt_of why faults))) (sym same)
    (subst (λ (r : Result (Unit {0}) PortHalt). WritesOn false view planned stop before after kept (halt_by r faults)) is h))
