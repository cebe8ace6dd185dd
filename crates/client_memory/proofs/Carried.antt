-- What a Revoke is about may be remembered, and is left by a flush.
use Rattle.std.specs.Map.{lookup}
use Rattle.std.proofs.Common.{◌≡◌, ◌≤◌, ◌∷◌, [], Some, unwrap_or, Bool, true, false, if◌then◌else◌, List, All, ap, subst, sym, ◌∙◌, arith}
use Rattle.std.proofs.lemmas.List.Elements.{All-head, All-tail}
use Rattle.cal_base.specs.declared.identity.Ino.{Ino}
use Rattle.client_cache.specs.Known.{Known}
use Rattle.token_kind.specs.Hold.{hold_number}
use Rattle.token_kind.specs.Kept.{most_left}
use Rattle.token_kind.specs.declared.«class».Class.{Class}
use Rattle.token_kind.specs.declared.«class».Class.TheVariants.{Names, Data, Attr, Open}
use Rattle.token_kind.specs.declared.hold.Hold.{Hold}
use Rattle.token_kind.specs.declared.hold.Hold.TheVariants.{Read}
use Rattle.cluster_law.specs.Book.{asked_or_read}
use Rattle.cluster_law.specs.Lists.{is_empty}
use Rattle.cluster_law.specs.Tokens.{same_class}
use Rattle.client_book.specs.Memory.{above_in}
use Rattle.client_book.specs.Sound.{IsRemembered}
use Rattle.client_book.proofs.Sounding.{revoke-fewer, some-of}

-- the classes of a Revoke that are held above what it asks may be remembered, if there are any
pub above-remembered : (known : Known) (ino : Ino) (items above : List (Class × Hold)) → above ≡ above_in known ino items → IsRemembered (record { ino = ino; items = items }) → is_empty above ≡ false → IsRemembered (record { ino = ino; items = above })
above-remembered known ino items above made is some =
    subst (λ (list : List (Class × Hold)). IsRemembered (record { ino = ino; items = list })) (sym made)
    (is.0, revoke-fewer _ (record { ino = ino; items = items }) (some-of (above_in known ino items) (subst (λ (list : List (Class × Hold)). is_empty list ≡ false) made some)) is.1)

-- no more can be left of any class than Read
most-read : (cls : Class) → most_left cls ≤ 1
most-read Names = omega arith
most-read Data = omega arith
most-read Attr = omega arith
most-read Open = omega arith

-- what is asked of a class is Read at most, where it is so of each item
pub asked-read : (cls : Class) (items : List (Class × Hold)) → All (λ item. hold_number item.1 ≤ most_left item.0) items → hold_number (asked_or_read cls items) ≤ 1
asked-read cls [] modes = omega arith
asked-read cls (item ∷ items) modes =
    by (same_class cls item.0) (let first = All-head (λ item. hold_number item.1 ≤ most_left item.0) item items modes in let most = most-read item.0 in omega (arith, first, most))
    (asked-read cls items (All-tail (λ item. hold_number item.1 ≤ most_left item.0) item items modes))
  where
    by : (b : Bool) → hold_number item.1 ≤ 1 → hold_number (asked_or_read cls items) ≤ 1 → hold_number (unwrap_or (if b then Some item.1 else lookup (same_class cls) items) Read) ≤ 1
    by true first rest = first
    by false first rest = rest

-- what a flush leaves where a Revoke is behind it
pub leaves-read : (cls : Class) (items given : List (Class × Hold)) (hold : Hold) → hold ≡ asked_or_read cls given → given ≡ items → All (λ item. hold_number item.1 ≤ most_left item.0) items → hold_number hold ≤ 1
leaves-read cls items given hold made same modes = subst (λ (h : Hold). hold_number h ≤ 1) (sym (made ∙ ap (λ (list : List (Class × Hold)). asked_or_read cls list) same)) (asked-read cls items modes)
