use Rattle.token_kind.specs.declared.«class».Class.TheVariants.{Attr, Data}
use Rattle.std.proofs.Common.{◌∷◌, []}
use Rattle.server_desk.proofs.Liking.{lowers}
use Rattle.server_desk.proofs.Together.{lowers-two}
use Rattle.server_desk.proofs.desk.Desk.lower_by_flush.Goals as goal

pub returns : goal.returns
returns c =
    lowers c.self.inside.reports c.lower-2.new.self c.self.inside.line c.answer_all.new.line c.args.client c.args.ino ((Data, c.args.leave_data) ∷ (Attr, c.args.leave_attr) ∷ []) c.table.result.now c.table.ensures
    (lowers-two c.self.inside.reports c.lower.new.self c.lower-2.new.self c.args.client c.args.ino Data Attr c.args.leave_data c.args.leave_attr c.lower.ensures c.lower-2.ensures)
    c.answer_all.ensures.asked c.answer_all.ensures.requests c.args.self.now c.self.view_is
