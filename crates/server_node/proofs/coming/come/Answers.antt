use Rattle.std.proofs.Common.{None, refl, subst, sym}
use Rattle.cluster_law.specs.declared.node.ServerInput.{ServerInput}
use Rattle.server_node.specs.Parts.{Hears}
use Rattle.server_opening.specs.declared.opening.Coming.TheVariants.{Tick as Ticks}
use Rattle.server_node.proofs.Hearing.{hears-tick}
use Rattle.server_node.proofs.coming.come.Goals as goal

pub returns-in_ok-resend_all-in-Tick : goal.returns-in_ok-resend_all-in-Tick
returns-in_ok-resend_all-in-Tick c = λ n node mail image.
    let again = c.in_ok-resend_all-in-Tick.ensures in
    subst (λ (input : ServerInput). Hears n input (record { coming = Ticks; answers = None }) c.resend_all.new.mail) (sym c.in-Tick.is)
    (hears-tick n c.args.mail.now c.args.image.now (record { coming = Ticks; answers = None }) c.resend_all.new.mail refl refl
    (record { sessions = again.sessions; between = again.between; out = again.out; sent = again.sent })
    node mail image)
