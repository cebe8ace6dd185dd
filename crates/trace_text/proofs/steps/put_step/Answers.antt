use Rattle.std.proofs.Common.{◌≡◌, ℕ, List, ◌++◌, append_assoc}
use Rattle.session.specs.declared.packet.Packet.{Packet}
use Rattle.trace_text.specs.Packets.{packets_text}
use Rattle.trace_text.proofs.steps.put_step.Goals as goal

in_turn : (t t1 t2 t3 t4 a b e : List ℕ) (first : ℕ) (sent packets : List Packet) → sent ≡ packets → t1 ≡ t ++ a → t2 ≡ t1 ++ b → t3 ≡ t2 ++ packets_text first sent → t4 ≡ t3 ++ e
    → t4 ≡ t ++ (a ++ b ++ packets_text first packets ++ e)
in_turn t t1 t2 t3 t4 a b e first sent packets is e1 e2 e3 e4 = rw (e4, e3, e2, e1, is) (simp append_assoc)

pub returns : goal.returns
returns c = in_turn _ _ _ _ _ _ _ _ _ _ _ c.as_slice.ensures c.in_ok-put_step_line.ensures c.in_ok-put_deeds.ensures c.in_ok-put_packets.ensures c.in_ok-put_words.ensures
