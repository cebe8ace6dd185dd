use Rattle.std.proofs.Common.{sym, ◌∙◌}
use Rattle.tree_law.proofs.NameTests.{name_passes, passes_name}
use Rattle.tree_law.proofs.path.is_name.Goals as goal

pub returns-clause-name : goal.returns-clause-name
returns-clause-name c = (λ passes. passes_name _ (sym c.name_test.ensures ∙ passes), λ is. c.name_test.ensures ∙ name_passes _ is)
