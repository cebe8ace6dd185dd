use Rattle.std.proofs.Common.{rules}
use Rattle.packet_links.proofs.Rising.{idle-links}
use Rattle.packet_links.proofs.links.Links.new.Goals as goal

-- src/links.rt:37:9
pub invariant_of-result : goal.invariant_of-result
invariant_of-result c = idle-links c.in_ok-links.links.items (search rules)
