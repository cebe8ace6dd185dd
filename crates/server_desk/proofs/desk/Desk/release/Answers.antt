use Rattle.server_desk.proofs.Liking.{lets-go}
use Rattle.server_desk.proofs.desk.Desk.release.Goals as goal

pub returns : goal.returns
returns c =
    lets-go c.self.inside.reports c.release.new.self c.self.inside.line c.answer_all.new.line c.args.client c.args.release.now c.table.result.now c.as_slice.result.now c.table.ensures c.as_slice.ensures c.release.ensures
    c.answer_all.ensures.asked c.answer_all.ensures.requests c.args.self.now c.self.view_is
