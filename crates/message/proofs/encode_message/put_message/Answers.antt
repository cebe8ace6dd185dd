use Rattle.message.proofs.Fitting.{contents_fit}
use Rattle.message.proofs.encode_message.put_message.Goals as goal

pub put_grant_items-requires-clause-contents : goal.put_grant_items-requires-clause-contents
put_grant_items-requires-clause-contents c = rw c.as_slice.ensures (contents_fit _ (rw c.in-Grant.is at c.requires).1)
