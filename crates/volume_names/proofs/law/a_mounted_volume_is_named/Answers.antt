use Rattle.volume_names.proofs.Stood.{stood_named}
use Rattle.volume_names.proofs.law.a_mounted_volume_is_named.Goals as goal

pub returns : goal.returns
returns c = λ sectors v history m. stood_named sectors v history m c.an_inode_has_one_name.ensures.taken c.an_inode_has_one_name.ensures.one
