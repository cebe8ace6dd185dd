-- Packets that are put behind others, by what is left of them.
use Rattle.std.proofs.Common.{◌≡◌, ◌++◌, ◌∷◌, [], List, ap, sym, ◌∙◌}
use Rattle.std.proofs.lemmas.List.{append_assoc}
use Rattle.session.specs.declared.packet.Packet.{Packet}

-- a packet more is put
pub sent-more : (old new left rest : List Packet) (packet : Packet) → left ≡ packet ∷ rest → new ≡ old ++ packet ∷ [] → new ++ rest ≡ old ++ left
sent-more old new left rest packet e put =
    ap (λ (list : List Packet). list ++ rest) put ∙ append_assoc old (packet ∷ []) rest ∙ ap (λ (list : List Packet). old ++ list) (sym e)
