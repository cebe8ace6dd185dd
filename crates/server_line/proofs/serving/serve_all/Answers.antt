use Rattle.std.proofs.Common.{◌≢◌, ◌∙◌, Option, arith, sym, subst, true≢false}
use Rattle.cal_base.specs.Limits as limits
use Rattle.token_kind.specs.declared.block.Block.{Block}
use Rattle.server_line.specs.Known.{SeesOwn}
use Rattle.server_line.specs.Served.{GrewBy, Serves, revokes_for}
use Rattle.server_line.proofs.Counting.{grew-most, grew-on}
use Rattle.server_line.proofs.Heads.{rests-blocked, rests-unheaded, serves-at, stopped-few, stopped-goes, stopped-would, went-on}
use Rattle.server_line.proofs.serving.serve_all.Goals as goal

pub loop-alloc-preserved : goal.loop-alloc-preserved
loop-alloc-preserved g c = record {
  goes = went-on (g.D.PortDisk.means c.args.disk.now) c.args.port.now.view c.args.draft.now c.loop-alloc.draft c.loop-alloc.invariant.goes c.serve_head.new.draft c.in-Ok-None.field-0
      (serves-at (g.D.PortDisk.means c.loop-alloc.disk) (g.D.PortDisk.means c.args.disk.now) c.args.port.now.view c.loop-alloc.draft c.serve_head.new.draft c.in-Ok-None.field-0 c.loop-alloc.invariant.same c.in-Ok-None.ensures.serves);
  few = grew-on c.args.draft.now c.loop-alloc.draft c.serve_head.new.draft 0 c.loop-alloc.invariant.few (subst (λ (n : Option Block). GrewBy (revokes_for n) c.loop-alloc.draft c.serve_head.new.draft) c.in-Ok-None.field-0-is c.in-Ok-None.ensures.serves.few);
  same = c.in-Ok-None.ensures.reads.same ∙ c.loop-alloc.invariant.same;
  later = let a = c.in-Ok-None.ensures.reads.later in let b = c.loop-alloc.invariant.later in omega arith;
}

pub returns-in-Ok-Some-clause-goes : goal.returns-in-Ok-Some-clause-goes
returns-in-Ok-Some-clause-goes g c =
    went-on (g.D.PortDisk.means c.args.disk.now) c.args.port.now.view c.args.draft.now c.loop-alloc.draft c.loop-alloc.invariant.goes c.serve_head.new.draft c.in-Ok-Some.field-0
    (serves-at (g.D.PortDisk.means c.loop-alloc.disk) (g.D.PortDisk.means c.args.disk.now) c.args.port.now.view c.loop-alloc.draft c.serve_head.new.draft c.in-Ok-Some.field-0 c.loop-alloc.invariant.same c.in-Ok-Some.ensures.serves)

pub returns-in-Ok-Some-clause-rests : goal.returns-in-Ok-Some-clause-rests
returns-in-Ok-Some-clause-rests g c =
    rests-blocked (g.D.PortDisk.means c.args.disk.now) c.args.port.now.view c.args.draft.now c.loop-alloc.draft c.loop-alloc.invariant.goes (c.has_head.ensures.0 c.loop-alloc-test.true) c.serve_head.new.draft c.in-Ok-Some.block
    (subst (λ (n : Option Block). Serves (λ start. SeesOwn start c.args.port.now.view (g.D.PortDisk.means c.args.disk.now)) ((g.D.PortDisk.means c.args.disk.now).key ≢ c.args.port.now.view) c.loop-alloc.draft c.serve_head.new.draft n) c.in-Ok-Some.field-0-is
    (serves-at (g.D.PortDisk.means c.loop-alloc.disk) (g.D.PortDisk.means c.args.disk.now) c.args.port.now.view c.loop-alloc.draft c.serve_head.new.draft c.in-Ok-Some.field-0 c.loop-alloc.invariant.same c.in-Ok-Some.ensures.serves))

pub returns-in-Ok-Some-clause-few : goal.returns-in-Ok-Some-clause-few
returns-in-Ok-Some-clause-few g c =
    grew-on c.args.draft.now c.loop-alloc.draft c.serve_head.new.draft limits.inodes c.loop-alloc.invariant.few
    (subst (λ (n : Option Block). GrewBy (revokes_for n) c.loop-alloc.draft c.serve_head.new.draft) c.in-Ok-Some.field-0-is c.in-Ok-Some.ensures.serves.few)

pub returns-in-Err-clause-few : goal.returns-in-Err-clause-few
returns-in-Err-clause-few g c = stopped-few c.args.draft.now c.loop-alloc.draft c.serve_head.new.draft c.in-Err.error c.loop-alloc.invariant.few c.in-Err.ensures.stops

pub returns-clause-few : goal.returns-clause-few
returns-clause-few g c = grew-most c.args.draft.now c.loop-alloc.draft 0 limits.inodes (omega arith) c.loop-alloc.invariant.few

pub returns-in-Err-clause-goes : goal.returns-in-Err-clause-goes
returns-in-Err-clause-goes g c =
    stopped-goes (g.D.PortDisk.means c.args.disk.now) c.args.port.now.view c.args.draft.now c.loop-alloc.draft c.loop-alloc.invariant.goes c.serve_head.new.draft c.in-Err.error c.in-Err.ensures.stops

pub returns-in-Err-clause-stops : goal.returns-in-Err-clause-stops
returns-in-Err-clause-stops g c =
    stopped-would (g.D.PortDisk.means c.args.disk.now) c.args.port.now.view c.args.draft.now c.loop-alloc.draft c.loop-alloc.invariant.goes c.serve_head.new.draft c.in-Err.error c.in-Err.ensures.stops

pub returns-clause-rests : goal.returns-clause-rests
returns-clause-rests g c =
    rests-unheaded (g.D.PortDisk.means c.args.disk.now) c.args.port.now.view c.args.draft.now c.loop-alloc.draft c.loop-alloc.invariant.goes (λ has. true≢false (sym (c.has_head.ensures.1 has) ∙ c.loop-alloc-test.false))
