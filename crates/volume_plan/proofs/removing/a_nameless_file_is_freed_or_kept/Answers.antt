use Rattle.volume_plan.proofs.Removals.{removed_directory, unlinked_file}
use Rattle.volume_plan.proofs.ReplacedFiles.{replaced_inode}
use Rattle.volume_plan.proofs.removing.a_nameless_file_is_freed_or_kept.Goals as goal

pub returns-clause-unlink : goal.returns-clause-unlink
returns-clause-unlink c = unlinked_file

pub returns-clause-rename : goal.returns-clause-rename
returns-clause-rename c = λ sectors v history client number path goal opened move ino m a at some kind. replaced_inode sectors v history client number path goal opened m a move ino at some kind

pub returns-clause-rmdir : goal.returns-clause-rmdir
returns-clause-rmdir c = removed_directory
