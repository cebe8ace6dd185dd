-- What a server may ask back, and what a client may give up.
use Rattle.std.specs.Prelude.{◌≡◌, ◌≤◌, ℕ, List, [], ◌∷◌, Bool, true, ◌&&◌, nat_lt, length, IsTrue, All}
use Rattle.token_kind.specs.Class.{class_number}
use Rattle.token_kind.specs.Hold.{hold_number}
use Rattle.token_kind.specs.declared.«class».Class.{Class}
use Rattle.token_kind.specs.declared.«class».Class.TheVariants.{Names, Data, Attr, Open}
use Rattle.token_kind.specs.declared.hold.Hold.{Hold}
use Rattle.token_kind.specs.declared.release.Release.{Release}
use Rattle.token_kind.specs.declared.revoke.Revoke.{Revoke}

-- the number of the most that can be left of a hold in a class: Read of Data and Attr, nothing of Names and Open
abbrev pub most_left : Class → ℕ
most_left Names = 0
most_left Data = 1
most_left Attr = 1
most_left Open = 0

-- the numbers of classes rise, from above a number on
abbrev pub classes_rise : ℕ → List (Class × Hold) → Bool
classes_rise above [] = true
classes_rise above (item ∷ items) = nat_lt above (class_number item.0) && classes_rise (class_number item.0) items

-- what a Revoke may ask: one or two classes, Open none of them, by rising number, each with no more than can be left
pub record IsRevoke (r : Revoke) : Type 0 where
  pub some : 1 ≤ length r.items
  pub few : length r.items ≤ 2
  pub rising : IsTrue (classes_rise 0 r.items)
  pub closed : All (λ item. ¬ (item.0 ≡ Open)) r.items
  pub modes : All (λ item. hold_number item.1 ≤ most_left item.0) r.items

-- what a Release may tell: one to three classes, by rising number, each with no more than can be left
pub record IsRelease (r : Release) : Type 0 where
  pub some : 1 ≤ length r.items
  pub few : length r.items ≤ 3
  pub rising : IsTrue (classes_rise 0 r.items)
  pub modes : All (λ item. hold_number item.1 ≤ most_left item.0) r.items
