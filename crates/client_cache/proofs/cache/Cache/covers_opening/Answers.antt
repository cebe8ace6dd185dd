use Rattle.std.proofs.Common.{ap, ◌∙◌}
use Rattle.tree_law.specs.Part.{open_needs_in}
use Rattle.client_cache.specs.Covered.{is_end_met, is_met}
use Rattle.client_cache.proofs.Walks.{met_path}
use Rattle.client_cache.proofs.cache.Cache.covers_opening.Goals as goal

pub returns : goal.returns
returns c =
    c.meets_open.ensures ∙ ap (is_end_met (is_met c.args.self.now) open_needs_in) c.resolve-at.ensures ∙ met_path c.args.self.now open_needs_in c.args.path.now
