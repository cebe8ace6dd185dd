use Rattle.std.proofs.Common.{List, Err, Ok, ◌≡◌, ℕ, refl, subst, sym}
use Rattle.volume.specs.Head.{SpellsHead}
use Rattle.image.specs.Damage.{HasHead, LacksHead}
use Rattle.image.proofs.Reading.{reads_bad, sector_told}
use Rattle.image.proofs.read_parts.read_clients.Goals as goal

pub returns-in-Err-read_head-clause-reads : goal.returns-in-Err-read_head-clause-reads
returns-in-Err-read_head-clause-reads g c =
    reads_bad LacksHead _ _ _ 0 _ _ c.in-Ok.ensures.reads (λ s t. (
      refl,
      λ (has : HasHead s). (
          let both : Err c.in-Err-read_head.field-0 ≡ Ok has.clients =
          c.in-Err-read_head.ensures.again has.clients (subst (λ (bytes : List ℕ). SpellsHead bytes has.clients) (sym (sector_told (g.D.PortDisk.means c.args.disk.now) 0 _ c.in-Ok.ensures.ok s t)) has.spelled) in
          cc),
    ))
