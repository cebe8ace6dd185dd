use Rattle.volume_plan.proofs.Creations.{create_fits, mkdir_fits}
use Rattle.volume_plan.proofs.CreationsDone.{create_done, mkdir_done}
use Rattle.volume_plan.proofs.Leading.{fits_leads}
use Rattle.volume_plan.proofs.making.a_creation_stands.Goals as goal

pub returns-clause-file : goal.returns-clause-file
returns-clause-file c = λ sectors v history client number path opened mounted asked done. fits_leads sectors v history _ _ mounted (create_fits sectors v history client number opened mounted path asked done)

pub returns-clause-directory : goal.returns-clause-directory
returns-clause-directory c = λ sectors v history client number path opened mounted asked done. fits_leads sectors v history _ _ mounted (mkdir_fits sectors v history client number opened mounted path asked done)

pub returns-clause-file_is_done : goal.returns-clause-file_is_done
returns-clause-file_is_done c = λ sectors v history client number path opened place free inode mounted at there kind few. create_done sectors v history client number opened mounted path place at free inode there kind few

pub returns-clause-directory_is_done : goal.returns-clause-directory_is_done
returns-clause-directory_is_done c = λ sectors v history client number path opened place free inode mounted at there kind few. mkdir_done sectors v history client number opened mounted path place at free inode there kind few
