use Rattle.tree_facts.proofs.Renaming.{renamed_file, renamed_goal, renamed_path, renamed_tables}
use Rattle.tree_facts.proofs.law.a_renamed_file_keeps_its_contents.Goals as goal

pub returns-clause-file : goal.returns-clause-file
returns-clause-file c = renamed_file

pub returns-clause-goal : goal.returns-clause-goal
returns-clause-goal c = renamed_goal

pub returns-clause-descriptors : goal.returns-clause-descriptors
returns-clause-descriptors c = renamed_tables

pub returns-clause-path : goal.returns-clause-path
returns-clause-path c = renamed_path
