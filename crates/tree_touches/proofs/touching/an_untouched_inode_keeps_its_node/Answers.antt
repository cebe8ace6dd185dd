use Rattle.tree_touches.proofs.Classes.{class_stays}
use Rattle.tree_touches.proofs.Untouched.{untouched_stays}
use Rattle.tree_touches.proofs.touching.an_untouched_inode_keeps_its_node.Goals as goal

pub returns-clause-all : goal.returns-clause-all
returns-clause-all c = untouched_stays

pub returns-clause-class : goal.returns-clause-class
returns-clause-class c = class_stays
