use Rattle.image.proofs.Standing.{mounted, undamaged}
use Rattle.image.proofs.law.a_mounted_volume_stands.Goals as goal

pub returns-clause-sound : goal.returns-clause-sound
returns-clause-sound c = λ sectors history at replays stands damage. undamaged sectors history at replays stands damage

pub returns-clause-stands : goal.returns-clause-stands
returns-clause-stands c = λ sectors v history long replays stands legal volume spells. mounted sectors v history long replays stands legal volume spells
