use Rattle.std.proofs.Common.{ℕ, List, ap, ◌∙◌}
use Rattle.script.specs.declared.script.Line.{Line}
use Rattle.script.proofs.LinesRead.{first_is_bad, later_is_bad, all_read}
use Rattle.script.proofs.SpelledScript.{script_spells}
use Rattle.script.specs.Lines.{parts_of}
use Rattle.script.specs.Script.{with_said}
use Rattle.script.proofs.reading.read_script.Goals as goal

pub returns-in-Err-clause-bad : goal.returns-in-Err-clause-bad
returns-in-Err-clause-bad c = first_is_bad _ c.args.bytes.now _ c.cut_line-first.result.rest c.in-Err.error c.cut_line-first.ensures.parts c.cut_line-first.ensures.taken c.in-Err.ensures.bad

pub returns-in-Ok-read_lines-clause-ok : goal.returns-in-Ok-read_lines-clause-ok
returns-in-Ok-read_lines-clause-ok c =
    let begun = c.in_ok-say-in-Ok.ensures ∙ ap (λ (lines : List (ℕ × Line)). with_said (record { clients = 0; window = 4; lines = lines }) 1 c.in-Ok.said) c.new.ensures in
    all_read _ c.args.bytes.now _ c.cut_line-first.result.rest c.in-Ok.said _ _ c.cut_line-first.ensures.parts c.cut_line-first.ensures.taken c.in-Ok.ensures.said begun c.in-Ok-read_lines.ensures.good c.in-Ok-read_lines.ensures.ok

pub returns-in-Err-read_lines-clause-bad : goal.returns-in-Err-read_lines-clause-bad
returns-in-Err-read_lines-clause-bad c = later_is_bad _ c.args.bytes.now _ c.cut_line-first.result.rest c.in-Err-read_lines.error c.cut_line-first.ensures.parts c.cut_line-first.ensures.taken c.in-Ok.said c.in-Ok.ensures.said c.in-Err-read_lines.ensures.bad

pub returns-in-Ok-read_lines-clause-spelled : goal.returns-in-Ok-read_lines-clause-spelled
returns-in-Ok-read_lines-clause-spelled c =
    let begun = c.in_ok-say-in-Ok.ensures ∙ ap (λ (lines : List (ℕ × Line)). with_said (record { clients = 0; window = 4; lines = lines }) 1 c.in-Ok.said) c.new.ensures in
    script_spells c.cut_line-first.result.taken c.cut_line-first.result.text.now (parts_of c.cut_line-first.result.rest) c.in-Ok.said _ _ c.in-Ok.ensures.said begun c.in-Ok-read_lines.ensures.good c.in-Ok-read_lines.ensures.ok
