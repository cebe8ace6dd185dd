use Rattle.std.proofs.Common.{◌≡◌, length, take, IsTrue, true, rules, sym, ap, ◌∙◌, subst, arith}
use Rattle.std.specs.List.{All}
use Rattle.std.proofs.Math.Seq.{take-length}
use Rattle.token_kind.specs.declared.«class».Class.TheVariants.{Names}
use Rattle.token_kind.specs.declared.hold.Hold.TheVariants.{None as Nothing}
use Rattle.token_kind.specs.declared.reported.Reported.{Reported}
use Rattle.token_kind.specs.declared.token.Token.{Token}
use Rattle.token_table.specs.Table.{Table, IsGrantable}
use Rattle.rebuild.specs.Collecting.{Collecting}
use Rattle.rebuild.specs.Reports.{judged}
use Rattle.rebuild.proofs.Pieces.{all_next}
use Rattle.rebuild.proofs.collect.Collect.are_grantable.Goals as goal

pub loop-reported-preserved : goal.loop-reported-preserved
loop-reported-preserved c =
    let found = c.is_grantable.ensures.0 (let yes : IsTrue true = search rules in subst IsTrue (sym c.if-not-is_grantable.false) yes) in
    let here = subst (λ (t : Table). IsGrantable t c.args.c c.judged.result) (ap (λ (s : Collecting). s.table) c.self.view_is) found in
    let next = subst (λ (t : Token). IsGrantable c.args.self.now.table c.args.c t) c.judged.ensures here in
    all_next (λ r. IsGrantable c.args.self.now.table c.args.c (judged c.args.flushed r)) c.args.holds.now c.loop-reported.reported-index
    (record { token = record { ino = record { 0 = 0 }; «class» = Names; hold = Nothing }; flush = 0; leave = Nothing }) c.loop-reported-test.true c.loop-reported.invariant next

pub returns : goal.returns
returns c =
    let all : c.loop-reported.reported-index ≡ length c.args.holds.now = omega arith in
    let P : Reported → Type 0 = λ r. IsGrantable c.args.self.now.table c.args.c (judged c.args.flushed r) in
    ((λ yes. subst (All P) (ap (λ i. take i c.args.holds.now) all ∙ take-length c.args.holds.now) c.loop-reported.invariant), (λ may. search rules))
