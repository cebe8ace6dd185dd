use Rattle.std.proofs.Common.{Option, subst, sym}
use Rattle.std.specs.Prelude.{IfSome}
use Rattle.image.specs.Writing.{IsHome}
use Rattle.image.specs.declared.home.Home.{Home}
use Rattle.image.proofs.Writing.{entering_is_home, entering_is_low, leaving_is_home, leaving_is_low}
use Rattle.image.proofs.image.Image.put_blocks.Goals as goal

pub leaving_home-left-requires : goal.leaving_home-left-requires
leaving_home-left-requires c = leaving_is_low c.args.self.now c.args.edit.now _ c.requires.volume c.requires.edit.leaving

pub entering_home-entered-requires : goal.entering_home-entered-requires
entering_home-entered-requires c = entering_is_low c.args.self.now c.args.edit.now _ c.requires.volume c.requires.edit c.requires.edit.entering

pub put_two-requires-clause-first : goal.put_two-requires-clause-first
put_two-requires-clause-first c =
    subst (λ (o : Option Home). IfSome o (IsHome c.args.self.now c.args.edit.now)) (sym c.leaving_home-left.ensures)
    (leaving_is_home c.args.self.now c.args.edit.now _ c.requires.volume c.requires.edit c.requires.edit.leaving)

pub put_two-requires-clause-second : goal.put_two-requires-clause-second
put_two-requires-clause-second c =
    subst (λ (o : Option Home). IfSome o (IsHome c.args.self.now c.args.edit.now)) (sym c.entering_home-entered.ensures)
    (entering_is_home c.args.self.now c.args.edit.now _ c.requires.volume c.requires.edit c.requires.edit.entering)
