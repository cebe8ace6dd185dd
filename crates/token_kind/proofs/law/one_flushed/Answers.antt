use Rattle.token_kind.proofs.FlushLemmas.{same_flushed}
use Rattle.token_kind.proofs.law.one_flushed.Goals as goal

pub returns : goal.returns
returns c = same_flushed
