use Rattle.std.proofs.Common.{◌≡◌, filter}
use Rattle.cluster_law.specs.ServerState.{is_present, listing_all}
use Rattle.token_table.specs.Blockers.{clients_below}
use Rattle.server_start.proofs.listing.list_present.Given as goal

abbrev pub invariant-loop-number : goal.invariant-loop-number
invariant-loop-number l = l.desk ≡ record l.fn.desk { collecting = listing_all l.fn.desk.collecting (filter (is_present l.fn.image) (clients_below l.number)) }
