use Rattle.volume_edit.proofs.Spelling.{same_file, same_file_after}
use Rattle.volume_edit.proofs.law.an_edit_keeps_files.Goals as goal

pub returns-clause-before : goal.returns-clause-before
returns-clause-before c = λ sectors v e homes long spells volume blocks is takes at number inode there file i. same_file sectors v e homes long spells volume blocks is takes at number inode there file i

pub returns-clause-after : goal.returns-clause-after
returns-clause-after c = λ sectors v e homes long spells volume blocks is takes at number inode there other i. same_file_after sectors v e homes long spells volume blocks is takes at number inode there other i
