use Rattle.std.proofs.Common.{List, ◌≡◌, ◌+◌, ◌∙◌, ℕ, refl, subst, sym}
use Rattle.inode.specs.Inode.{SpellsInode}
use Rattle.inode.specs.declared.inode.Inode.{Inode}
use Rattle.inode.specs.declared.inode.Kind.TheVariants.{Dir}
use Rattle.inode.proofs.InodeLemmas.{same_inode}
use Rattle.journal.specs.Layout.{sector}
use Rattle.image.specs.Damage.{HasInode, LacksInode}
use Rattle.image.proofs.Loading.{is_no_root}
use Rattle.image.proofs.Reading.{reads_bad, sector_told}
use Rattle.image.proofs.read_parts.load_inode.Goals as goal

pub returns-in_default-clause-reads : goal.returns-in_default-clause-reads
returns-in_default-clause-reads g c =
    reads_bad (LacksInode c.args.number) _ _ _ (36 + c.args.number) _ _ c.in-Ok.ensures.reads (λ s t. (
      refl,
      λ (has : HasInode s c.args.number). (
          let ok = c.in_default.ensures.again has.inode (subst (λ (bytes : List ℕ). SpellsInode bytes has.inode) (sym (sector_told (g.D.PortDisk.means c.args.disk.now) (36 + c.args.number) _ c.in-Ok.ensures.ok s t)) has.spelled) in
          c.in_default.not-Ok has.inode (c.in_default.is ∙ ok)),
    ))

pub returns-then-not-may_stand-clause-reads : goal.returns-then-not-may_stand-clause-reads
returns-then-not-may_stand-clause-reads g c =
    let no = is_no_root c.may_stand.result c.args.number c.in-Ok-read_inode.read c.may_stand.ensures c.if-not-may_stand.true in
    reads_bad (LacksInode c.args.number) _ _ _ (36 + c.args.number) _ _ c.in-Ok.ensures.reads (λ s t. (
      refl,
      λ (has : HasInode s c.args.number). (
          let found = subst (λ (bytes : List ℕ). SpellsInode bytes c.in-Ok-read_inode.read) (sector_told (g.D.PortDisk.means c.args.disk.now) (36 + c.args.number) _ c.in-Ok.ensures.ok s t) c.in-Ok-read_inode.ensures.found in
          let same : has.inode ≡ c.in-Ok-read_inode.read = same_inode (sector s (36 + c.args.number)) has.inode c.in-Ok-read_inode.read has.spelled found in
          no.1 (subst (λ (i : Inode). i.kind ≡ Dir) same (has.root no.0))),
    ))

pub returns-clause-ok : goal.returns-clause-ok
returns-clause-ok g c = λ s t. subst (λ (bytes : List ℕ). SpellsInode bytes c.in-Ok-read_inode.read) (sector_told (g.D.PortDisk.means c.args.disk.now) (36 + c.args.number) _ c.in-Ok.ensures.ok s t) c.in-Ok-read_inode.ensures.found
