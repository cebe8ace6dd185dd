use Rattle.std.proofs.Common.{◌≡◌, ℕ, List, [], ◌∷◌, Some, None, refl, ap, subst, sym, ◌∙◌}
use Rattle.std.specs.Prelude.{IfSome, IfNone, Option}
use Rattle.std.specs.List.{slice_get, slice_set}
use Rattle.std.proofs.lemmas.List.{set-get_or}
use Rattle.std.proofs.lemmas.Option.{get_or_from_slice_get}
use Rattle.shared_disk.specs.Disk.{Disk, after, written_if_told}
use Rattle.shared_disk.specs.Faulty.{FaultyDisk, Leaves}
use Rattle.shared_disk.proofs.fault_disk.FaultDiskPortDisk.write.Goals as goal

-- a sector's own bytes, written to it, change nothing
same_bytes : (sectors : List (List ℕ)) (at : ℕ) (kept : List ℕ) → slice_get sectors at ≡ Some kept → slice_set sectors at kept ≡ sectors
same_bytes sectors at kept h = subst (λ (x : List ℕ). slice_set sectors at x ≡ sectors) (get_or_from_slice_get sectors at kept [] h) (set-get_or sectors at [])

same_if_told : (sectors : Option (List (List ℕ))) (at : ℕ) (kept : List ℕ) → IfSome sectors (λ s. slice_get s at ≡ Some kept) → written_if_told sectors ((at, kept) ∷ []) ≡ sectors
same_if_told None at kept h = refl
same_if_told (Some s) at kept h = ap Some (same_bytes s at kept h)

-- what a failing write left
left_so : (given : Option (List ℕ)) (old new : Disk) (at : ℕ) (bytes : List ℕ) → IfSome given (λ given. bytes ≡ given) → IfNone given (IfSome old.sectors (λ s. slice_get s at ≡ Some bytes)) → new ≡ after old ((at, bytes) ∷ []) → Leaves given old at new
left_so None old new at bytes is stood e = ap (λ (d : Disk). d.sectors) e ∙ same_if_told old.sectors at bytes stood
left_so (Some given) old new at bytes is stood e = e ∙ ap (λ (b : List ℕ). after old ((at, b) ∷ [])) is

pub returns-clause-writes : goal.returns-clause-writes
returns-clause-writes c =
    let same = ap (λ (it : FaultyDisk). it.disk) c.self.view_is ∙ c.is_listed-fails.ensures.disk in
    let made = c.in_ok-write.ensures.writes in
    record {
      own = ap (λ (d : Disk). d.key) (sym same) ∙ made.0;
      left = c.leaves-bytes.result;
      whole = c.leaves-bytes.ensures.whole;
      changed = made.1 ∙ ap (λ (d : Disk). after d ((c.args.sector, c.leaves-bytes.result) ∷ [])) same;
    }

pub returns-clause-left : goal.returns-clause-left
returns-clause-left c =
    let counted = c.is_listed-fails.new.self in
    let e = c.in_ok-write.ensures.writes.1 ∙ ap (λ (it : FaultyDisk). after it.disk ((c.args.sector, c.leaves-bytes.result) ∷ [])) c.self.view_is in
    let left = left_so counted.left counted.disk c.write-2.new.self c.args.sector c.leaves-bytes.result c.leaves-bytes.ensures.given c.leaves-bytes.ensures.kept e in
    λ why. subst (λ (g : Option (List ℕ)). Leaves g c.args.self.now.disk c.args.sector c.write-2.new.self) c.is_listed-fails.ensures.calls.left (subst (λ (d : Disk). Leaves counted.left d c.args.sector c.write-2.new.self) c.is_listed-fails.ensures.disk left)
