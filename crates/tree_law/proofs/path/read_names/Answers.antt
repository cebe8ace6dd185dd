use Rattle.std.proofs.Common.{arith, rules}
use Rattle.tree_law.proofs.PathParts.{all_read, no_path_text, too_many, no_name, read_on}
use Rattle.tree_law.proofs.path.read_names.Goals as goal

pub returns-then-len-eq-PATH_NAMES-clause-bad : goal.returns-then-len-eq-PATH_NAMES-clause-bad
returns-then-len-eq-PATH_NAMES-clause-bad c = λ _. no_path_text _ c.requires (too_many _ _ _ c.loop-name.rest.now c.args.text.now c.loop-name.invariant c.cut_at.ensures.parts (omega arith))

pub returns-then-not-is_name-clause-bad : goal.returns-then-not-is_name-clause-bad
returns-then-not-is_name-clause-bad c = λ _. no_path_text _ c.requires (no_name _ _ _ c.loop-name.rest.now c.args.text.now c.loop-name.invariant c.cut_at.ensures.parts (search rules))

pub loop-name-preserved : goal.loop-name-preserved
loop-name-preserved c = read_on _ _ _ _ _ _ _ c.loop-name.invariant (rw c.in-Some.is at c.cut_at.ensures.parts) (omega arith) (search rules) c.in_ok-push.ensures.ok c.in_ok-copy_name.ensures

pub returns-in-None-clause-ok : goal.returns-in-None-clause-ok
returns-in-None-clause-ok c = all_read _ _ (read_on _ _ _ _ _ _ _ c.loop-name.invariant (rw c.in-None.is at c.cut_at.ensures.parts) (omega arith) (search rules) c.in_ok-push.ensures.ok c.in_ok-copy_name.ensures)
