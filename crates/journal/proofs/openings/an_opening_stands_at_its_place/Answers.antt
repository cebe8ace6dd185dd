use Rattle.journal.proofs.OpeningLemmas.{length-commit, opened_place}
use Rattle.journal.proofs.openings.an_opening_stands_at_its_place.Goals as goal

pub returns-clause-length : goal.returns-clause-length
returns-clause-length c = λ hs. length-commit hs

pub returns-clause-place : goal.returns-clause-place
returns-clause-place c = λ hs k torn. opened_place hs k torn
