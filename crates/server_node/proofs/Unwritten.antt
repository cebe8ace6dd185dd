-- What a step does to the disk that only reads before it writes.
use Rattle.std.proofs.Common.{◌≡◌, ◌≤◌, inr, false, [], ℕ, List, Option, Some, None, take, ap, refl, sym, ◌∙◌, arith}
use Rattle.cluster_law.specs.DiskRules.{IsWithinStop, WritesOn}
use Rattle.cluster_law.specs.Noted.{DiskAt}
use Rattle.cluster_law.specs.declared.step.Halt.{Halt}
use Rattle.cluster_law.specs.declared.step.Halt.TheVariants.{Fenced, Failed, Stopped, Damaged}
use Rattle.server_node.specs.Parts.{IsReadHalt}
use Rattle.server_writes.specs.Ending.{StandsAs}
use Rattle.shared_disk.specs.Disk.{Disk}
use Rattle.shared_disk.specs.declared.stop.Stop.{Stop}

abbrev sectors-in : Option (List (List ℕ)) → List (List ℕ)
sectors-in None = []
sectors-in (Some sectors) = sectors

-- a disk that stayed the same stands with the same sectors and key
same-sectors : (disk new : Disk) (faults faults' : ℕ) (before after : DiskAt) → new ≡ disk → StandsAs disk faults before → StandsAs new faults' after → after.sectors ≡ before.sectors
same-sectors disk new faults faults' before after same b a = ap sectors-in (sym a.told ∙ ap (λ (d : Disk). d.sectors) same ∙ b.told)

same-key : (disk new : Disk) (faults faults' : ℕ) (before after : DiskAt) → new ≡ disk → StandsAs disk faults before → StandsAs new faults' after → after.key ≡ before.key
same-key disk new faults faults' before after same b a = sym a.key ∙ ap (λ (d : Disk). d.key) same ∙ b.key

within-stop : (stop : Option Stop) → IsWithinStop stop []
within-stop None = tt
within-stop (Some stop) = omega arith

take-none : (planned : List (ℕ × List ℕ)) → [] ≡ take 0 planned
take-none planned = refl

-- nothing was written by a step that halted at a read
pub writes-nothing : (view : ℕ) (planned : List (ℕ × List ℕ)) (stop : Option Stop) (disk new : Disk) (faults faults' : ℕ) (before after : DiskAt) (halt : Halt) → new ≡ disk → faults ≤ faults' → IsReadHalt disk view faults halt faults'
    → StandsAs disk faults before → StandsAs new faults' after → WritesOn false view planned stop before after [] (Some halt)
writes-nothing view planned stop disk new faults faults' before after (Fenced mine current) same later cause b a =
    let f = b.count in
    let g = a.count in
    record {
      ends = (cause.mine_is, cause.current_is ∙ b.key, (λ own. cause.other (b.key ∙ own)), refl);
      key = (same-key disk new faults faults' before after same b a, inr refl);
      own = tt;
      sectors = same-sectors disk new faults faults' before after same b a;
      faults = omega (arith, f, g, later);
    }
writes-nothing view planned stop disk new faults faults' before after (Failed count) same later cause b a =
    let f = b.count in
    let g = a.count in
    let rose = cause.2 in
    record {
      ends = (cause.0 ∙ a.count, omega (arith, f, g, rose), take-none planned, within-stop stop);
      key = (same-key disk new faults faults' before after same b a, inr refl);
      own = tt;
      sectors = ([], tt, same-sectors disk new faults faults' before after same b a);
      faults = omega (arith, f, g, later);
    }
writes-nothing view planned stop disk new faults faults' before after Stopped same later cause b a = absurd cause
writes-nothing view planned stop disk new faults faults' before after (Damaged sector) same later cause b a = absurd cause

-- faults of reads before the first write are faults of the step
counts-on : (view : ℕ) (planned : List (ℕ × List ℕ)) (stop : Option Stop) (before after : DiskAt) (faults : ℕ) (writes : List (ℕ × List ℕ)) (halt : Option Halt) → before.faults ≤ faults
    → WritesOn false view planned stop (record { sectors = before.sectors; key = before.key; faults = faults }) after writes halt → WritesOn false view planned stop before after writes halt
counts-on view planned stop before after faults writes None few w = let g = w.faults in record { ends = w.ends; key = w.key; own = tt; sectors = w.sectors; faults = omega (arith, few, g) }
counts-on view planned stop before after faults writes (Some (Fenced mine current)) few w = let g = w.faults in record { ends = w.ends; key = w.key; own = tt; sectors = w.sectors; faults = omega (arith, few, g) }
counts-on view planned stop before after faults writes (Some (Failed count)) few w =
    let g = w.faults in
    let rose = w.ends.1 in
    record { ends = (w.ends.0, omega (arith, few, rose), w.ends.2, w.ends.3); key = w.key; own = tt; sectors = w.sectors; faults = omega (arith, few, g) }
counts-on view planned stop before after faults writes (Some Stopped) few w = let g = w.faults in record { ends = w.ends; key = w.key; own = tt; sectors = w.sectors; faults = omega (arith, few, g) }
counts-on view planned stop before after faults writes (Some (Damaged sector)) few w = let g = w.faults in record { ends = w.ends; key = w.key; own = tt; sectors = w.sectors; faults = omega (arith, few, g) }

-- what was written on a disk that was read before
pub writes-later : (view : ℕ) (planned : List (ℕ × List ℕ)) (stop : Option Stop) (old disk new : Disk) (faults counted faults' : ℕ) (writes : List (ℕ × List ℕ)) (halt : Option Halt) → disk ≡ old → faults ≤ counted
    → ((before after : DiskAt) → StandsAs disk counted before → StandsAs new faults' after → WritesOn false view planned stop before after writes halt)
    → (before after : DiskAt) → StandsAs old faults before → StandsAs new faults' after → WritesOn false view planned stop before after writes halt
writes-later view planned stop old disk new faults counted faults' writes halt same later all before after b a =
    let f = b.count in
    counts-on view planned stop before after counted writes halt (omega (arith, f, later))
    (all (record { sectors = before.sectors; key = before.key; faults = counted }) after (record { told = ap (λ (d : Disk). d.sectors) same ∙ b.told; key = ap (λ (d : Disk). d.key) same ∙ b.key; count = refl }) a)
