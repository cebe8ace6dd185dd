use Rattle.std.specs.Prelude.{◌≡◌, List, ◌∷◌, ◌++◌, not, filter, fold}
use Rattle.cal_base.specs.declared.identity.ClientId.{ClientId}
use Rattle.cal_base.specs.declared.identity.Ino.{Ino}
use Rattle.token_kind.specs.Hold.{lesser_of}
use Rattle.token_kind.specs.declared.«class».Class.{Class}
use Rattle.token_kind.specs.declared.hold.Hold.{Hold}
use Rattle.token_kind.specs.declared.token.Token.{Token}
use Rattle.token_table.specs.declared.hold_key.HoldKey.{HoldKey}
use Rattle.token_table.specs.Table.{Table, same_client, key_of, hold_at, held_of, is_data_write}
use Rattle.token_table.specs.Changes.{reordered}

-- a table of these holds, with this order of writes
abbrev pub table_of : List (HoldKey × Hold) → List (ClientId × Ino) → Table
table_of holds writes = record { holds = holds; writes = writes }

-- a table in which a client's hold is set: it stands in front, so it is found before one that was there
abbrev pub with_hold : Table → ClientId → Token → Table
with_hold t c token = record {
  holds = (key_of c token.ino token.«class», token.hold) ∷ t.holds;
  writes = reordered t.writes (c, token.ino) (is_data_write token.«class» (held_of t c token.ino token.«class»)) (is_data_write token.«class» token.hold);
}

-- a table in which holds of a client are set, one after the other
abbrev pub with_holds : Table → ClientId → List Token → Table
with_holds t c tokens = fold (λ u token. with_hold u c token) t tokens

-- a client's hold, lowered to the lesser of what it is and a mode
abbrev pub lowered_token : Table → ClientId → Ino → Class × Hold → Token
lowered_token t c ino item = record { ino = ino; «class» = item.0; hold = lesser_of (held_of t c ino item.0) item.1 }

-- a table in which holds of a client on an inode are lowered, one after the other
abbrev pub with_lowered : Table → ClientId → Ino → List (Class × Hold) → Table
with_lowered t c ino items = fold (λ u item. with_hold u c (lowered_token u c ino item)) t items

-- a table in which the Data Write holds of a client are the last that became Write, in the order in which they stood
abbrev pub put_last : Table → ClientId → Table
put_last t c = record t { writes = filter (λ w. not (same_client c w.0)) t.writes ++ filter (λ w. same_client c w.0) t.writes }

-- two tables are the same: each client holds the same, in the same order of writes
pub record Same (t u : Table) : Type 0 where
  pub holds : (q : HoldKey) → hold_at t.holds q ≡ hold_at u.holds q
  pub order : t.writes ≡ u.writes
