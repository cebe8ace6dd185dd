use Rattle.std.proofs.Common.{refl}
use Rattle.shared_disk.specs.Disk.{after}
use Rattle.shared_disk.specs.Sectors.{left_of}
use Rattle.shared_disk.proofs.Changes.{keeps_count, length-written}
use Rattle.shared_disk.proofs.law.writes_keep_the_count.Goals as goal

pub returns-clause-whole : goal.returns-clause-whole
returns-clause-whole c = λ s ws. length-written ws s

pub returns-clause-cut : goal.returns-clause-cut
returns-clause-cut c = λ s ws k torn. length-written (left_of ws k torn) s

pub returns-clause-disk : goal.returns-clause-disk
returns-clause-disk c = λ old made. keeps_count old (after old made) made refl
