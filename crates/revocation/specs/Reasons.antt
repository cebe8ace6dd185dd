use Rattle.std.specs.Prelude.{◌≡◌, ◌≤◌, List, All, Contains, Option, Some, None, false}
use Rattle.cal_base.specs.declared.identity.ClientId.{ClientId}
use Rattle.token_kind.specs.Hold.{hold_number}
use Rattle.token_kind.specs.declared.blocker.Blocker.{Blocker}
use Rattle.token_kind.specs.declared.hold.Hold.{Hold}
use Rattle.token_kind.specs.declared.revoke.Revoke.{Revoke}
use Rattle.token_table.specs.Blockers.{is_open}
use Rattle.token_table.specs.declared.hold_key.HoldKey.{HoldKey}
use Rattle.revocation.specs.Waiting.{asked_at}
use Rattle.revocation.specs.Revokes.{key_of_blocker}

-- each item of a Revoke to a client stands for a blocker: of that client and inode, in the item's class and mode
abbrev pub IsOfBlockers : List Blocker → ClientId × Revoke → Type 0
IsOfBlockers blockers sent = All (λ item. Contains blockers (record { client = sent.0; ino = sent.1.ino; «class» = item.0; asked = item.1 })) sent.1.items

-- something is asked, at or below a mode
abbrev pub IsAskedWithin : Option Hold → Hold → Type 0
IsAskedWithin None mode = ⊥
IsAskedWithin (Some asked) mode = hold_number asked ≤ hold_number mode

-- each blocker is asked at or below its mode, Open aside
abbrev pub AreAsked : List (HoldKey × Hold) → List Blocker → Type 0
AreAsked asked blockers = (b : Blocker) → Contains blockers b → is_open b.«class» ≡ false → IsAskedWithin (asked_at asked (key_of_blocker b)) b.asked
