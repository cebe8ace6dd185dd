use Rattle.std.proofs.Common.{nat_lt}
use Rattle.std.proofs.lemmas.Bool.{ltb-true}
use Rattle.std.specs.Prelude.{count_by}
use Rattle.rebuild.specs.Collecting.{first_to_ask, is_asked}
use Rattle.cluster_law.proofs.RuledOut.{given-if}
use Rattle.cluster_law.proofs.refusals.no_more_are_asked_than_the_window_lets.Goals as goal

pub returns-clause-fewer : goal.returns-clause-fewer
returns-clause-fewer c = λ o start server before lane w. ltb-true _ _ (given-if (nat_lt (count_by is_asked server.collecting.standings) server.collecting.window) (first_to_ask server.collecting) (record { 0 = lane.client }) w.collects).0

pub returns-clause-least : goal.returns-clause-least
returns-clause-least c = λ o start server before lane w. (given-if (nat_lt (count_by is_asked server.collecting.standings) server.collecting.window) (first_to_ask server.collecting) (record { 0 = lane.client }) w.collects).1
