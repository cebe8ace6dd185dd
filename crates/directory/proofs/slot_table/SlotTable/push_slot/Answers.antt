use Rattle.std.proofs.Common.{arith, ◌≡◌, ◌∙◌, ◌++◌, ◌∷◌, [], ap, sym, length, List, Option, None, Some, ℕ}
use Rattle.std.specs.List.{slice_set}
use Rattle.directory.specs.declared.entry.DirEntry.{DirEntry}
use Rattle.directory.proofs.Tables.{put_last}
use Rattle.directory.proofs.slot_table.SlotTable.push_slot.Goals as goal

pub returns-clause-ok : goal.returns-clause-ok
returns-clause-ok c =
    let place : c.len-place.result ≡ length c.args.self.now = (let same = ap length c.self.view_is in let len = c.len-place.ensures in omega arith) in
    c.fill.ensures ∙ ap (λ (xs : List (Option DirEntry)). slice_set xs c.len-place.result (Some c.in-Some.entry)) c.push_empty-2.ensures
    ∙ ap (λ (n : ℕ). slice_set (c.args.self.now ++ None ∷ []) n (Some c.in-Some.entry)) place ∙ put_last c.args.self.now None (Some c.in-Some.entry)
    ∙ ap (λ (x : Option DirEntry). c.args.self.now ++ x ∷ []) (sym c.in-Some.is)
