use Rattle.std.proofs.Common.{◌≡◌, ◌≤◌, ◌⊎◌, inl, inr, List, [], ◌∷◌, ◌++◌, Bool, true, false, not, ◌&&◌, Option, Some, None, if◌then◌else◌, refl, sym, ap, subst, ◌∙◌, true≢false, arith, Contains}
use Rattle.std.specs.List.{All, filter_map, flat_map}
use Rattle.std.proofs.lemmas.List.Elements.{All-append, All-nil, All-contains, Contains-get_or, Contains-append_right}
use Rattle.cal_base.specs.Limits.{clients}
use Rattle.cal_base.specs.declared.identity.ClientId.{ClientId}
use Rattle.cal_base.specs.declared.identity.Ino.{Ino}
use Rattle.token_kind.specs.Class.{has_write}
use Rattle.token_kind.specs.Hold.{conflict, hold_number}
use Rattle.token_kind.specs.Kept.{most_left}
use Rattle.token_kind.specs.declared.blocker.Blocker.{Blocker}
use Rattle.token_kind.specs.declared.«class».Class.{Class}
use Rattle.token_kind.specs.declared.«class».Class.TheVariants.{Names, Data, Attr, Open}
use Rattle.token_kind.specs.declared.hold.Hold.{Hold}
use Rattle.token_kind.specs.declared.hold.Hold.TheVariants.{None as Nothing, Read, Write}
use Rattle.token_kind.specs.declared.token.Token.{Token}
use Rattle.token_table.specs.Blockers.{asked_for, blocker_of, blockers_of, clients_below, toucher_of, touchers_of}
use Rattle.token_table.specs.Table.{Table, IsTable, same_client, held_of, is_held, may_hold}
use Rattle.revocation.specs.Formed.{is_of_directory, AreAskable, AreNeeds, AreTouches}
use Rattle.revocation.proofs.Reasons.{all_gathered}

-- what all that is made of each item has, all have
all_flat : {X Y : Type 0} (f : X → List Y) (P : Y → Type 0) (xs : List X) → ((x : X) → Contains xs x → All P (f x)) → All P (flat_map f xs)
all_flat f P [] each = All-nil P
all_flat f P (x ∷ xs) each =
    All-append P (f x) (flat_map f xs) (each x (Contains-get_or (x ∷ xs) 0 x (omega arith))) (all_flat f P xs (λ y c. each y (Contains-append_right (x ∷ []) xs y c)))

-- what the holder in the way may keep is no more than can be left
low_enough : (cls : Class) (need held : Hold) → may_hold cls held ≡ true → conflict need held ≡ true → hold_number (asked_for need) ≤ most_left cls
low_enough cls Nothing held may c = absurd (true≢false (sym c))
low_enough cls Read Nothing may c = absurd (true≢false (sym c))
low_enough cls Read Read may c = absurd (true≢false (sym c))
low_enough Names Read Write may c = absurd (true≢false (sym may))
low_enough Data Read Write may c = omega arith
low_enough Attr Read Write may c = omega arith
low_enough Open Read Write may c = absurd (true≢false (sym may))
low_enough cls Write held may c = omega arith

-- a blocker that may be asked: to no more than can be left, and of the inode's kind
record MayBeAsked (is_directory : Ino → Bool) (b : Blocker) : Type 0 where
  pub low : hold_number b.asked ≤ most_left b.«class»
  pub kind : is_of_directory b.«class» ≡ is_directory b.ino

askable : (is_directory : Ino → Bool) (blockers : List Blocker) → All (MayBeAsked is_directory) blockers → AreAskable blockers
askable is_directory blockers may = record {
  modes = λ b at. (All-contains (MayBeAsked is_directory) blockers b may at).low;
  kinds = λ b d at also same.
      (All-contains (MayBeAsked is_directory) blockers b may at).kind ∙ ap is_directory same
      ∙ sym (All-contains (MayBeAsked is_directory) blockers d may also).kind;
}

module _ (t : Table) (c : ClientId) (is_directory : Ino → Bool) (table : IsTable t) where
  one_may : (need : Token) → is_of_directory need.«class» ≡ is_directory need.ino → (d : ClientId) (b : Blocker) → blocker_of t c need d ≡ Some b → MayBeAsked is_directory b
  one_may need kind d b e = by (same_client c d) (conflict need.hold (held_of t d need.ino need.«class»)) refl e
    where
      made : Blocker
      made = record { client = d; ino = need.ino; «class» = need.«class»; asked = asked_for need.hold }

      by : (s k : Bool) → conflict need.hold (held_of t d need.ino need.«class») ≡ k
          → (if not s && k then Some (record { client = d; ino = need.ino; «class» = need.«class»; asked = asked_for need.hold }) else None) ≡ Some b → MayBeAsked is_directory b
      by true k g f = absurd (cc)
      by false false g f = absurd (cc)
      by false true g f =
          let one : ◌≡◌ {A = Blocker} (record { client = d; ino = need.ino; «class» = need.«class»; asked = asked_for need.hold }) b = cc in
          subst (MayBeAsked is_directory) one
          (record { low = low_enough need.«class» need.hold (held_of t d need.ino need.«class») (table.modes d need.ino need.«class») g; kind = kind })

  all_may : (needs : List Token) → AreNeeds is_directory needs → All (MayBeAsked is_directory) (blockers_of t c needs)
  all_may needs are =
      all_flat (λ need. filter_map (blocker_of t c need) (clients_below clients)) (MayBeAsked is_directory) needs
      (λ need at. all_gathered (blocker_of t c need) (MayBeAsked is_directory) (one_may need (are need at)) (clients_below clients))

  -- the blockers of a client's needs may be asked
  pub blockers_askable : (needs : List Token) → AreNeeds is_directory needs → AreAskable (blockers_of t c needs)
  blockers_askable needs are = askable is_directory (blockers_of t c needs) (all_may needs are)

module _ (t : Table) (is_directory : Ino → Bool) where
  one_toucher : (touch : Ino × Class) → is_of_directory touch.1 ≡ is_directory touch.0 → (d : ClientId) (b : Blocker) → toucher_of t touch d ≡ Some b → MayBeAsked is_directory b
  one_toucher touch kind d b e = by (is_held (held_of t d touch.0 touch.1)) e
    where
      by : (held : Bool) → (if held then Some (record { client = d; ino = touch.0; «class» = touch.1; asked = Nothing }) else None) ≡ Some b → MayBeAsked is_directory b
      by false f = absurd (cc)
      by true f =
          let one : ◌≡◌ {A = Blocker} (record { client = d; ino = touch.0; «class» = touch.1; asked = Nothing }) b = cc in
          subst (MayBeAsked is_directory) one (record { low = omega arith; kind = kind })

  -- the holders of what a change touches may be asked
  pub touchers_askable : (touches : List (Ino × Class)) → AreTouches is_directory touches → AreAskable (touchers_of t touches)
  touchers_askable touches are = askable is_directory (touchers_of t touches)
      (all_flat (λ touch. filter_map (toucher_of t touch) (clients_below clients)) (MayBeAsked is_directory) touches
      (λ touch at. all_gathered (toucher_of t touch) (MayBeAsked is_directory) (one_toucher touch (are touch at)) (clients_below clients)))
