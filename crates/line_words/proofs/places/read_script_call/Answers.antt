use Rattle.line_words.proofs.Kept.{good_call, bad_call}
use Rattle.line_words.proofs.places.read_script_call.Goals as goal

pub returns-in-Ok : goal.returns-in-Ok
returns-in-Ok c = good_call c.args.text.now _ c.requires c.in-Ok.ensures

pub returns-in-Err-Bad : goal.returns-in-Err-Bad
returns-in-Err-Bad c = bad_call c.args.text.now _ c.requires (rw c.in-Err-Bad.field-0-is at c.in-Err-Bad.ensures)
