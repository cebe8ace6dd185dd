use Rattle.client_book.proofs.Sounding.{stays-sound}
use Rattle.client_book.proofs.steps.a_client_stays_sound.Goals as goal

pub returns : goal.returns
returns c = stays-sound
