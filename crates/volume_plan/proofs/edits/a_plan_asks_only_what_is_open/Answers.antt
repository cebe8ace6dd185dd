use Rattle.volume_plan.proofs.OpenFiles.{same_members, same_plan}
use Rattle.volume_plan.proofs.edits.a_plan_asks_only_what_is_open.Goals as goal

pub returns-clause-asked : goal.returns-clause-asked
returns-clause-asked c = λ v client number call some others same. same_plan v client number call some others same

pub returns-clause-members : goal.returns-clause-members
returns-clause-members c = λ v client number call some others same. same_plan v client number call some others (λ ino. same_members some others ino (same ino))
