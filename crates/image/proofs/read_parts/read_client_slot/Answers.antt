use Rattle.std.proofs.Common.{List, Err, Ok, ◌≡◌, ◌+◌, ℕ, refl, subst, sym}
use Rattle.request_log.specs.Slot.{SpellsSlot}
use Rattle.image.specs.Damage.{HasSlot, LacksSlot}
use Rattle.image.proofs.Reading.{reads_bad, sector_told}
use Rattle.image.proofs.read_parts.read_client_slot.Goals as goal

pub returns-in-Err-read_slot-clause-reads : goal.returns-in-Err-read_slot-clause-reads
returns-in-Err-read_slot-clause-reads g c =
    reads_bad (LacksSlot c.args.client) _ _ _ (20 + c.args.client) _ _ c.in-Ok.ensures.reads (λ s t. (
      refl,
      λ (has : HasSlot s c.args.client). (
          let both : Err c.in-Err-read_slot.field-0 ≡ Ok has.slot =
          c.in-Err-read_slot.ensures.again has.slot (subst (λ (bytes : List ℕ). SpellsSlot bytes has.slot) (sym (sector_told (g.D.PortDisk.means c.args.disk.now) (20 + c.args.client) _ c.in-Ok.ensures.ok s t)) has.spelled) in
          cc),
    ))
