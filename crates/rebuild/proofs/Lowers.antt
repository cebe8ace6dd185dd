use Rattle.std.proofs.Common.{◌<◌, ℕ, ◌+◌, List, length, take, get_or, sym, subst}
use Rattle.std.proofs.lemmas.List.Sums.{fold_more}
use Rattle.cal_base.specs.declared.identity.ClientId.{ClientId}
use Rattle.cal_base.specs.declared.identity.Ino.{Ino}
use Rattle.token_kind.specs.Hold.{lesser_of}
use Rattle.token_kind.specs.declared.«class».Class.{Class}
use Rattle.token_kind.specs.declared.hold.Hold.{Hold}
use Rattle.token_table.specs.Changes.{Sets}
use Rattle.token_table.specs.Series.{Same, with_hold, with_lowered, lowered_token}
use Rattle.token_table.specs.Table.{Table, key_of, held_of}
use Rattle.token_table.proofs.Series.{sets_same}

-- the same table, once one more of the holds is lowered
pub lowers_next : (u v base : Table) (c : ClientId) (ino : Ino) (items : List (Class × Hold)) (i : ℕ) (d : Class × Hold) → i < length items → Same u (with_lowered base c ino (take i items))
    → Sets u v c ino (get_or items i d).0 (lesser_of (held_of u c ino (get_or items i d).0) (get_or items i d).1) → Same v (with_lowered base c ino (take (i + 1) items))
lowers_next u v base c ino items i d within same sets =
    let t = with_lowered base c ino (take i items) in
    let item = get_or items i d in
    let sets' = subst (λ (h : Hold). Sets u v c ino item.0 (lesser_of h item.1)) (same.holds (key_of c ino item.0)) sets in
    subst (Same v) (sym (fold_more (λ w entry. with_hold w c (lowered_token w c ino entry)) base items i d within)) (sets_same u v t c (lowered_token t c ino item) same sets')
