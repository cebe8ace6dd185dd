use Rattle.std.proofs.Common.{ap, ◌∙◌}
use Rattle.tree_law.specs.Part.{open_needs_in}
use Rattle.client_cache.specs.Covered.{is_end_met, is_met}
use Rattle.client_cache.proofs.Walks.{met_path}
use Rattle.client_cache.proofs.cache.Cache.open_as.Goals as goal

pub open_at-requires : goal.open_at-requires
open_at-requires c = record {
  met = ap (is_end_met (is_met c.args.self.now) open_needs_in) c.place-at.ensures.value ∙ met_path c.args.self.now open_needs_in c.args.path.now ∙ c.requires;
  bound = c.place-at.ensures.bound;
}
