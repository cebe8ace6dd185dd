use Rattle.std.proofs.Common.{sym}
use Rattle.std.proofs.lemmas.Slice.Eq.{slice_eq-Decides, bytes_eq-Decides}
use Rattle.tree_law.proofs.apply.is_same_list.Goals as goal

pub returns : goal.returns
returns c =
    let decides = slice_eq-Decides bytes_eq-Decides c.args.names.now c.args.others.now c.eq.result c.eq.ensures in
    (λ true. sym (decides.0 true), λ same. decides.1 (sym same))
