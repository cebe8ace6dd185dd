use Rattle.std.proofs.Common.{arith, ◌∷◌, [], ap, refl, sym, ◌∙◌}
use Rattle.message.specs.declared.message.Message.TheVariants.{Ask}
use Rattle.server_draft.specs.Acts.{acts_of}
use Rattle.server_draft.specs.Draft.{reached}
use Rattle.server_draft.specs.declared.draft.Draft.{Draft}
use Rattle.server_reports.proofs.Asking.{asks-one-more, ends, still}
use Rattle.server_reports.proofs.Counting.{asked-amount, asked-once}
use Rattle.server_reports.proofs.Putting.{asks-well, law-asks, tells-one-more}
use Rattle.server_reports.proofs.collecting.ask_clients.Goals as goal

pub loop-client-smaller : goal.loop-client-smaller
loop-client-smaller c =
    ends c.loop-client.draft c.tell.new.self c.in-Some.client (sym c.in-Some.ensures.next) (ap (λ (d : Draft). d.desk) c.in_ok-tell.ensures.state ∙ c.in-Some.ensures.state)

pub loop-client-preserved : goal.loop-client-preserved
loop-client-preserved c =
    let mid = c.loop-client.draft in
    let new = c.tell.new.self in
    let client = c.in-Some.client in
    let kept = c.loop-client.invariant in
    let state = c.in_ok-tell.ensures.state in
    record {
      few = λ to. let was = kept.few to in let same = asked-amount to mid new client (sym c.in-Some.ensures.next) (ap (λ (d : Draft). d.desk) state ∙ c.in-Some.ensures.state) (c.in_ok-tell.ensures.count to) in omega (arith, was, same);
      state =
          asks-one-more c.args.draft.now mid new client (sym c.in-Some.ensures.next) kept.state (ap (λ (d : Draft). d.image) state) (ap (λ (d : Draft). d.desk) state ∙ c.in-Some.ensures.state);
      acts = tells-one-more (Ask ∷ []) c.args.draft.now.acts mid.acts new.acts client Ask (λ test none. none.0) kept.acts (ap (λ (d : Draft). d.acts) state);
      follows = λ view o start from.
          let follows = kept.follows view o start from in
          c.in_ok-tell.ensures.follows view o start mid follows refl refl (c.in-Some.ensures.like (reached view start mid) follows.like) follows.space
          (asks-well view o start (reached view start mid) (acts_of view mid.acts) client follows.space (sym (law-asks view o start mid follows) ∙ sym c.in-Some.ensures.next));
    }

pub returns-clause-follows : goal.returns-clause-follows
returns-clause-follows c view o start from =
    still view o start c.loop-client.draft c.ask_next.new.self c.in_default.ensures.state (c.loop-client.invariant.follows view o start from)

pub returns-clause-few : goal.returns-clause-few
returns-clause-few c to = asked-once to c.args.draft.now c.loop-client.draft (c.loop-client.invariant.few to)
