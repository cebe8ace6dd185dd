use Rattle.std.proofs.Common.{◌∙◌, ap, Some, nat_eq, rules}
use Rattle.std.specs.List.{find}
use Rattle.std.specs.Cmp.Lexicographic.{pointwise}
use Rattle.client_cache.proofs.NameOrder.{found_at, not_found}
use Rattle.client_cache.proofs.entries.Entries.find.Goals as goal

pub returns-in-Ok : goal.returns-in-Ok
returns-in-Ok c =
    ap Some c.index-entries-place.is
    ∙ found_at _ c.args.name.now c.in-Ok.place _ c.as_slice-entries.ensures.order (search rules) (search rules)
    ∙ ap (find (λ entry. pointwise nat_eq entry.name c.args.name.now)) c.as_slice-entries.ensures.value

pub returns-in-Err : goal.returns-in-Err
returns-in-Err c =
    not_found _ c.args.name.now c.in-Err.field-0 c.as_slice-entries.ensures.order (search rules)
    ∙ ap (find (λ entry. pointwise nat_eq entry.name c.args.name.now)) c.as_slice-entries.ensures.value
