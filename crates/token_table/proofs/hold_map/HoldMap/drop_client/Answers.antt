use Rattle.token_table.proofs.Drops.{hold_at-without_client}
use Rattle.token_table.specs.Table.{key_of}
use Rattle.token_table.proofs.hold_map.HoldMap.drop_client.Goals as goal

pub returns : goal.returns
returns c = rw (← c.self.view_is) (record { holds = λ d ino cls. rw c.drop_holds.ensures (hold_at-without_client c.args.c _ (key_of d ino cls)); order = c.drop_writes.ensures })
