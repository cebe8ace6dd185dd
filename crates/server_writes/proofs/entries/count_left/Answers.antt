use Rattle.std.proofs.Common.{◌∙◌, refl, arith, ap, sym}
use Rattle.std.proofs.lemmas.List.{take_all}
use Rattle.server_draft.specs.Acts.{acts_of}
use Rattle.server_writes.specs.Halted.{count_left, left_by}
use Rattle.server_writes.proofs.Left.{count_next, none_left}
use Rattle.server_writes.proofs.Planning.{length_is, length_more, length_within}
use Rattle.server_writes.proofs.entries.count_left.Goals as goal

pub loop-act-init : goal.loop-act-init
loop-act-init c = record { before = refl; count = λ view. sym (none_left view c.args.failed c.args.kept.now); small = omega arith }

pub left_by-count-requires : goal.left_by-count-requires
left_by-count-requires c =
    let few = c.requires.few 0 in
    let all = length_is 0 c.args.acts.now in
    let within = length_within c.args.acts.now c.loop-act.act-index _ c.act-item.result c.loop-act-test.true c.act-item.is in
    let before = c.loop-act.invariant.before in
    record { few = omega arith }

pub writes_of-before-requires : goal.writes_of-before-requires
writes_of-before-requires c =
    let few = c.requires.few 0 in
    let all = length_is 0 c.args.acts.now in
    let within = length_within c.args.acts.now c.loop-act.act-index _ c.act-item.result c.loop-act-test.true c.act-item.is in
    omega arith

pub overflow_add-before : goal.overflow_add-before
overflow_add-before c =
    let few = c.requires.few 0 in
    let all = length_is 0 c.args.acts.now in
    let within = length_within c.args.acts.now c.loop-act.act-index _ c.act-item.result c.loop-act-test.true c.act-item.is in
    let before = c.loop-act.invariant.before in
    let own = c.writes_of-before.ensures in
    omega arith

pub loop-act-preserved : goal.loop-act-preserved
loop-act-preserved c =
    let acts = c.args.acts.now in
    let i = c.loop-act.act-index in
    let more = length_more acts i _ c.act-item.result c.loop-act-test.true c.act-item.is in
    let before = c.loop-act.invariant.before in
    let own = c.writes_of-before.ensures in
    let small = c.loop-act.invariant.small in
    let one = c.left_by-count.ensures.small in
    record {
      before = omega arith;
      count = λ view.
          let next = count_next view c.args.failed c.args.kept.now acts i _ c.act-item.result c.loop-act-test.true c.act-item.is in
          let so_far = c.loop-act.invariant.count view in
          let value = c.left_by-count.ensures.value ∙ ap (λ n. left_by c.args.failed c.args.kept.now n c.act-item.result) before in
          omega arith;
      small = omega arith;
    }

pub returns : goal.returns
returns c = λ view. c.loop-act.invariant.count view ∙ ap (λ acts. count_left c.args.failed c.args.kept.now (acts_of view acts)) (take_all c.loop-act.act-index c.args.acts.now c.loop-act-test.false)
