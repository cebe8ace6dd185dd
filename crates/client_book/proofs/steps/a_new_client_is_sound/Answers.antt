use Rattle.client_book.proofs.Starting.{first-sound, first-state}
use Rattle.client_book.proofs.steps.a_new_client_is_sound.Goals as goal

pub returns-clause-sound : goal.returns-clause-sound
returns-clause-sound c = first-sound

pub returns-clause-first : goal.returns-clause-first
returns-clause-first c = first-state
