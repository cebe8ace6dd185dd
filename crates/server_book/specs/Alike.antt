-- Two servers that hold the same.
use Rattle.std.specs.Prelude.{◌≡◌, ◌∷◌, [], ℕ, List}
use Rattle.cal_base.specs.declared.identity.ClientId.{ClientId}
use Rattle.cal_base.specs.declared.identity.Ino.{Ino}
use Rattle.message.specs.declared.message.Message.TheVariants.{Revoke as Asks}
use Rattle.revocation.specs.Waiting.{asked_at}
use Rattle.token_kind.specs.declared.«class».Class.{Class}
use Rattle.token_kind.specs.declared.hold.Hold.{Hold}
use Rattle.token_kind.specs.declared.revoke.Revoke.{Revoke}
use Rattle.token_table.specs.Series.{Same}
use Rattle.token_table.specs.Table.{Table}
use Rattle.token_table.specs.declared.hold_key.HoldKey.{HoldKey}
use Rattle.cluster_law.specs.Lanes.{Act, Down, Tells}
use Rattle.cluster_law.specs.ServerState.{ServerState, answered_all, table_in}

-- two servers are alike: the same clients stand the same with their reports and hold the same, the same requests
-- wait and the same is asked back, and volume and files are the same
pub record Alike (a b : ServerState) : Type 0 where
  pub standing : record a.collecting { table = table_in b } ≡ b.collecting
  pub table : Same (table_in a) (table_in b)
  pub requests : a.requests ≡ b.requests
  pub asked : (q : HoldKey) → asked_at a.asked q ≡ asked_at b.asked q
  pub volume : a.volume ≡ b.volume
  pub sectors : a.sectors ≡ b.sectors

-- holds of a client on an inode are now these of the table: what was asked of them is answered as far as they
-- are low enough, and all other holds are asked as before
abbrev pub AnswersAll : Table → ClientId → Ino → List (Class × Hold) → List (HoldKey × Hold) → List (HoldKey × Hold) → Type 0
AnswersAll table client ino items old new = (q : HoldKey) → asked_at new q ≡ asked_at (answered_all table client ino items old) q

-- Revokes that are told in order, behind acts that stand newest first
unfoldable pub revoking : ℕ → List (ClientId × Revoke) → List Act → List Act
revoking view [] before = before
revoking view (sent ∷ rest) before = revoking view rest (Tells (record { client = sent.0.0; view = view; way = Down }) (Asks sent.1) ∷ before)
