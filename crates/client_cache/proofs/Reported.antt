use Rattle.std.proofs.Common.{◌≡◌, ℕ, ◌+◌, List, ◌++◌, refl, sym, ap, ◌∙◌, add-one}
use Rattle.token_kind.specs.declared.reported.Reported.{Reported}
use Rattle.client_cache.specs.Known.{Known}
use Rattle.client_cache.specs.Reports.{reported_at, reported_below}

one_more : (known : Known) (n : ℕ) → reported_below known (n + 1) ≡ reported_below known n ++ reported_at known (record { 0 = n })
unfolding reported_below
one_more known n = rw add-one refl

-- the holds of one inode more
pub reported_below-more : (known : Known) (n : ℕ) (old new : List Reported) → old ≡ reported_below known n → new ≡ old ++ reported_at known (record { 0 = n }) → new ≡ reported_below known (n + 1)
reported_below-more known n old new e step = step ∙ ap (λ holds. holds ++ reported_at known (record { 0 = n })) e ∙ sym (one_more known n)
