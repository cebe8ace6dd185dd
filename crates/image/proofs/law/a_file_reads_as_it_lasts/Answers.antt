use Rattle.image.proofs.Standing.{read_is_kept}
use Rattle.image.proofs.law.a_file_reads_as_it_lasts.Goals as goal

pub returns : goal.returns
returns c = λ sectors v history ino file bytes stands small there size first. read_is_kept sectors v history ino file bytes stands small there size first
