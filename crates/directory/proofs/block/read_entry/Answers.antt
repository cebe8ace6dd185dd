use Rattle.std.proofs.Common.{◌≡◌, ◌∙◌, ap, sym, subst, arith, ℕ, true}
use Rattle.tree_law.specs.Path.{IsName}
use Rattle.cal_fields.specs.Padded.{padded}
use Rattle.directory.proofs.SlotBytes.{entry_taken, told}
use Rattle.directory.proofs.block.read_entry.Goals as goal

pub returns-in_default-clause-bad : goal.returns-in_default-clause-bad
returns-in_default-clause-bad c = λ e is spelled.
    let t = told _ _ _ _ e (omega arith) c.parts_of-ino.ensures.parts is spelled in
    absurd (c.in_default.ensures.again e.name (sym t.same_count) (t.same_rest ∙ ap (λ (n : ℕ). padded n e.name) (sym c.parts_of-ino.ensures.length)))

pub returns-then-not-is_name-clause-bad : goal.returns-then-not-is_name-clause-bad
returns-then-not-is_name-clause-bad c = λ e is spelled.
    let t = told _ _ _ _ e (omega arith) c.parts_of-ino.ensures.parts is spelled in
    let same : c.in-Some.name.now ≡ e.name = c.in-Some.ensures.again e.name (sym t.same_count) (t.same_rest ∙ ap (λ (n : ℕ). padded n e.name) (sym c.parts_of-ino.ensures.length)) in
    let yes : c.is_name.result ≡ true = c.is_name.ensures.name.1 (subst IsName (sym same) is.name) in
    cc

pub returns-clause-found : goal.returns-clause-found
returns-clause-found c =
    entry_taken _ _ c.in-Some.name.now _ _ c.parts_of-ino.ensures.parts c.new.ensures c.in-Some.ensures.length c.in-Some.ensures.found c.parts_of-ino.ensures.length

pub returns-then-not-is_entry_ino-clause-bad : goal.returns-then-not-is_entry_ino-clause-bad
returns-then-not-is_entry_ino-clause-bad c = λ e is spelled.
    let t = told _ _ _ _ e (omega arith) c.parts_of-ino.ensures.parts is spelled in
    let from_one = is.from_one in
    let to_511 = is.to_511 in
    let same = t.same_ino in
    let yes : c.is_entry_ino.result ≡ true = c.is_entry_ino.ensures.1 (omega arith, omega arith) in
    cc

pub returns-then-count-gt-NAME_BYTES-clause-bad : goal.returns-then-count-gt-NAME_BYTES-clause-bad
returns-then-count-gt-NAME_BYTES-clause-bad c = λ e is spelled.
    let t = told _ _ _ _ e (omega arith) c.parts_of-ino.ensures.parts is spelled in
    let long = is.name.to_twenty_seven in
    omega (arith, t.same_count)
