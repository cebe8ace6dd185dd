use Rattle.std.proofs.Common.{List, ℕ, refl, subst, sym}
use Rattle.space_map.specs.SpaceMap.{SpellsMap}
use Rattle.image.specs.Damage.{HasMap, LacksMap}
use Rattle.image.proofs.Mounting.{map_whole}
use Rattle.image.proofs.Reading.{reads_bad, sector_told}
use Rattle.image.proofs.read_parts.read_map.Goals as goal

pub returns-in-Err-read-clause-reads : goal.returns-in-Err-read-clause-reads
returns-in-Err-read-clause-reads g c =
    reads_bad LacksMap _ _ _ 19 _ _ c.in-Ok.ensures.reads (λ s t. (
      refl,
      λ (has : HasMap s).
          c.in-Err-read.ensures.again has.free (subst (λ (bytes : List ℕ). SpellsMap bytes has.free) (sym (sector_told (g.D.PortDisk.means c.args.disk.now) 19 _ c.in-Ok.ensures.ok s t)) has.spelled),
    ))

pub returns-in-Ok-read-clause-kept : goal.returns-in-Ok-read-clause-kept
returns-in-Ok-read-clause-kept g c = λ before. map_whole _ c.in-Ok-read.read c.in-Ok-read.ensures.found
