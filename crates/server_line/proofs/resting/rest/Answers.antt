use Rattle.server_line.proofs.Rested.{rest-serves}
use Rattle.server_line.proofs.resting.rest.Goals as goal

pub returns : goal.returns
returns c =
    rest-serves c.args.draft.now c.revoke.new.self c.args.client c.args.number c.args.blockers.now c.first_block.result c.as_slice.result.now c.as_slice.ensures
    c.in_ok-revoke.ensures.desk c.in_ok-revoke.ensures.image c.in_ok-revoke.ensures.grows c.in_ok-revoke.ensures.acts c.in_ok-revoke.ensures.follows c.in_ok-revoke.ensures.few c.first_block.ensures
