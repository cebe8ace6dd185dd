use Rattle.volume_edit.proofs.Data.{data_bytes, data_spelled, data_stands}
use Rattle.volume_edit.proofs.blocks.data_goes_to_free_blocks.Goals as goal

pub returns-clause-spells : goal.returns-clause-spells
returns-clause-spells c = λ sectors v writes spells kept free. data_spelled sectors v writes free spells kept

pub returns-clause-bytes : goal.returns-clause-bytes
returns-clause-bytes c = λ sectors v writes spells kept free number inode there i. data_bytes sectors v writes free spells kept number inode there i

pub returns-clause-stands : goal.returns-clause-stands
returns-clause-stands c = λ sectors v history writes stands free. data_stands sectors v history writes free stands
