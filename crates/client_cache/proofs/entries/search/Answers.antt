use Rattle.std.proofs.Common.{rules, of_calls}
use Rattle.std.specs.Ordering.{nat_cmp}
use Rattle.std.specs.Cmp.Lexicographic.{slice_cmp}
use Rattle.cal_base.specs.declared.directory_entry.DirectoryEntry.{DirectoryEntry}
use Rattle.std.proofs.lemmas.Fn.{always_returns_same}
use Rattle.client_cache.proofs.entries.search.Goals as goal

-- the closure tells how an entry's name stands to the other
pub returns-clause-place : goal.returns-clause-place
returns-clause-place c =
    c.binary_search_by.ensures.position (λ (entry : DirectoryEntry). slice_cmp nat_cmp entry.name c.args.name.now) (always_returns_same _ _ _ (λ a r f called. search (rules, of_calls)))
