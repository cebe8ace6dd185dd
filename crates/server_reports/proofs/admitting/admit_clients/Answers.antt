use Rattle.std.proofs.Common.{◌∷◌, [], refl, ◌∙◌, arith}
use Rattle.message.specs.declared.message.Message.TheVariants.{Admit}
use Rattle.rebuild.specs.Collecting.{client, standing_of}
use Rattle.cluster_law.specs.Asking.{is_whole}
use Rattle.server_reports.proofs.Counting.{admitted-amount, admitted-once}
use Rattle.server_reports.proofs.Admits.{admits-none, admits-one-more, is-first, none-left-to-admit, stays-admitted, with-desk, with-image, with-acts}
use Rattle.server_reports.proofs.Putting.{tells-none}
use Rattle.server_reports.proofs.admitting.admit_clients.Goals as goal

pub loop-number-init : goal.loop-number-init
loop-number-init c =
    let d = c.args.draft.now in
    record {
      desk = refl;
      image = refl;
      acts = tells-none (Admit ∷ []) d.acts;
      few = λ to. omega arith;
      admits = λ view o start follows new admitted nobody. admits-none view o start d follows admitted nobody;
    }

pub loop-number-preserved : goal.loop-number-preserved
loop-number-preserved c =
    let mid = c.loop-number.draft in
    let new = c.admit.new.draft in
    let n = c.loop-number.number in
    let kept = c.loop-number.invariant in
    record {
      desk = with-desk n mid new c.in_ok-admit.ensures.state ∙ kept.desk;
      image = with-image n mid new c.in_ok-admit.ensures.state ∙ kept.image;
      few = λ to. admitted-amount to n c.args.draft.now mid new (kept.few to) (is_whole (standing_of mid.desk.collecting (client n))) c.in_ok-admit.ensures.state;
      acts = with-acts n c.args.draft.now.acts mid new c.in_ok-admit.ensures.state kept.acts;
      admits = λ view o start follows is-new admitted nobody.
          let at = kept.admits view o start follows is-new admitted nobody in
          admits-one-more view o start mid n new at c.in_ok-admit.ensures.state
          (c.in_ok-admit.ensures.follows view o start at.follows is-new (stays-admitted view o start mid n at) (is-first view o start mid n at c.loop-number-test.true));
    }

pub returns-clause-follows : goal.returns-clause-follows
returns-clause-follows c view o start follows new admitted nobody = (c.loop-number.invariant.admits view o start follows new admitted nobody).follows

pub returns-clause-all : goal.returns-clause-all
returns-clause-all c view o start follows new admitted nobody =
    none-left-to-admit view o start c.loop-number.draft (c.loop-number.number) (omega arith) (c.loop-number.invariant.admits view o start follows new admitted nobody)

pub returns-clause-few : goal.returns-clause-few
returns-clause-few c to = admitted-once to c.loop-number.number c.args.draft.now.acts c.loop-number.draft.acts (c.loop-number.invariant.few to)
