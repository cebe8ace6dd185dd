use Rattle.std.proofs.Common.{◌≡◌, take}
use Rattle.server_book.specs.Alike.{AnswersAll}
use Rattle.server_desk.proofs.desk.answer_all.Given as goal

abbrev pub invariant-loop-class : goal.invariant-loop-class
invariant-loop-class l = AnswersAll l.fn.table l.client l.ino (take l.class-index l.items) l.fn.line.asked l.line.asked × (l.line.requests ≡ l.fn.line.requests)
