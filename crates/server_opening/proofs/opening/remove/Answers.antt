use Rattle.std.proofs.Common.{refl, ap, sym, ◌∙◌, Bool}
use Rattle.cal_base.specs.declared.identity.ClientId.{ClientId}
use Rattle.cluster_law.specs.Removing.{due}
use Rattle.server_draft.specs.declared.draft.Draft.{Draft}
use Rattle.server_opening.proofs.Begun.{begins-still, opens-remove}
use Rattle.server_opening.proofs.Counting.{first-named, remove-few}
use Rattle.server_opening.specs.declared.opening.Coming.TheVariants.{Tick}
use Rattle.server_opening.proofs.opening.remove.Goals as goal

pub returns-clause-opens : goal.returns-clause-opens
returns-clause-opens c = λ view o server out took gone tick.
    let none = ap (λ (d : Draft). d.acts) c.new-draft.ensures.draft in
    let follows = c.new-draft.ensures.follows view o server (begins-still view server c.args.desk c.args.image Tick c.new-draft.result refl out c.new-draft.ensures.draft) in
    let is = c.least_due-gone.ensures.value server (sym out.volume_is) ∙ ap (λ (g : ClientId → Bool). due g server) (sym gone) in
    opens-remove view o server c.remove_one.new.draft took (c.in_ok-remove_one.ensures.follows view o server follows none is tick) (c.in_ok-remove_one.ensures.removed view o server follows none is) (c.in_ok-remove_one.ensures.nobody view none) (c.in_ok-remove_one.ensures.ungranted view none)

pub returns-clause-few : goal.returns-clause-few
returns-clause-few c to = remove-few to c.args.desk c.args.image c.new-draft.result c.remove_one.new.draft c.new-draft.ensures.draft (c.in_ok-remove_one.ensures.few to)

pub returns-clause-names : goal.returns-clause-names
returns-clause-names c names = c.in_ok-remove_one.ensures.names (first-named c.args.desk c.args.image c.new-draft.result c.new-draft.ensures.draft names)
