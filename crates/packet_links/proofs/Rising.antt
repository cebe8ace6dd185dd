-- That the numbers on each link rise.
use Rattle.std.proofs.Common.{◌≡◌, List, All, length, replicate, ap, ◌∙◌, subst, sym}
use Rattle.std.specs.List.Sorted.{IsStrictlySortedBy}
use Rattle.std.proofs.lemmas.List.{length-replicate}
use Rattle.std.proofs.lemmas.List.Elements.{All-replicate}
use Rattle.packet_links.specs.Links.{LinkValue, IsLinks, IsRising, idle_link, link_count}

idle_rises : IsRising idle_link.waiting
unfolding IsStrictlySortedBy
idle_rises = tt

-- links on which nothing waits
pub idle-links : (links : List LinkValue) → links ≡ replicate link_count idle_link → IsLinks links
idle-links links same = record {
  count = ap (λ (xs : List LinkValue). length xs) same ∙ length-replicate link_count idle_link;
  rise = subst (All (λ (link : LinkValue). IsRising link.waiting)) (sym same) (All-replicate (λ (link : LinkValue). IsRising link.waiting) link_count idle_link idle_rises);
}
