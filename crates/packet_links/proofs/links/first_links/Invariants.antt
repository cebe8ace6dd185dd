use Rattle.std.proofs.Common.{◌≡◌, replicate}
use Rattle.packet_links.specs.Links.{idle_link}
use Rattle.packet_links.proofs.links.first_links.Given as goal

abbrev pub invariant-loop-place : goal.invariant-loop-place
invariant-loop-place l = l.links.items ≡ replicate l._place idle_link
