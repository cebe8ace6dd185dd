use Rattle.trace_reader.proofs.Answering.{items_again, items_good, none_again}
use Rattle.trace_reader.proofs.whole.read_items.Goals as goal

pub returns-in_ok-items-in-Ok-clause-is : goal.returns-in_ok-items-in-Ok-clause-is
returns-in_ok-items-in-Ok-clause-is c = items_good c.in_ok-items-in-Ok.items c.in_ok-reading.reading c.read_lines.new.reading c.in_ok-reading.ensures c.in-Ok.ensures.sound c.in_ok-items-in-Ok.ensures

pub returns-in_ok-items-in-Ok-clause-again : goal.returns-in_ok-items-in-Ok-clause-again
returns-in_ok-items-in-Ok-clause-again c = items_again _ c.in_ok-items-in-Ok.items c.in_ok-reading.reading c.read_lines.new.reading c.in_ok-reading.ensures c.in-Ok.ensures.again c.in_ok-items-in-Ok.ensures

pub returns-in-Err-clause-again : goal.returns-in-Err-clause-again
returns-in-Err-clause-again c = none_again _ c.in_ok-reading.reading c.read_lines.new.reading c.in-Err.error c.in_ok-reading.ensures c.in-Err.ensures.again
