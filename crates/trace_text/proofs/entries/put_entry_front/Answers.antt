use Rattle.std.proofs.Common.{◌≡◌, ℕ, List, ◌++◌, append_assoc}
use Rattle.std.specs.Fmt.{decimal}
use Rattle.trace_text.proofs.entries.put_entry_front.Goals as goal

in_turn : (t t1 t2 t3 t4 w1 w2 d2 w3 n : List ℕ) (given client : ℕ) → given ≡ client → t1 ≡ t ++ w1 ++ decimal given → t2 ≡ t1 ++ w2 ++ d2 → t3 ≡ t2 ++ w3 → t4 ≡ t3 ++ n
    → t4 ≡ t ++ (w1 ++ decimal client ++ w2 ++ d2 ++ w3 ++ n)
in_turn t t1 t2 t3 t4 w1 w2 d2 w3 n given client is e1 e2 e3 e4 = rw (e4, e3, e2, e1, is) (simp append_assoc)

pub returns : goal.returns
returns c = in_turn _ _ _ _ _ _ _ _ _ _ _ _ c.from.ensures c.in_ok-put_field.ensures c.in_ok-put_field-2.ensures c.in_ok-put.ensures c.in_ok-put_new_inode.ensures
