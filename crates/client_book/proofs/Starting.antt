-- A client that has done nothing yet.
use Rattle.std.proofs.Common.{◌≡◌, ℕ, false, [], None, get_or, replicate, ap, refl, ◌∙◌, arith, inl, inr}
use Rattle.std.proofs.lemmas.Bool.{cases_lt}
use Rattle.std.proofs.lemmas.List.{get_or-replicate, get_or_past, length-replicate}
use Rattle.std.proofs.lemmas.List.Elements.{All-nil}
use Rattle.cal_base.specs.declared.identity.Ino.{Ino}
use Rattle.client_cache.specs.Holds.{hold_in, no_holds}
use Rattle.client_cache.specs.IsKnown.{IsKnown}
use Rattle.client_cache.specs.Known.{first_known, inode_at, nothing_known}
use Rattle.token_kind.specs.declared.«class».Class.{Class}
use Rattle.token_kind.specs.declared.«class».Class.TheVariants.{Names, Data, Attr, Open}
use Rattle.token_kind.specs.declared.hold.Hold.TheVariants.{None as Nothing}
use Rattle.cluster_law.specs.Book.{empty_book}
use Rattle.cluster_law.specs.ClientState.{first_client}
use Rattle.client_book.specs.Booked.{book_of}
use Rattle.client_book.specs.Client.{state_of}
use Rattle.client_book.specs.Sound.{IsClient, first_value}
use Rattle.client_book.proofs.Stating.{same-books}

-- a list of one thing has it at each place, and past its end where it is the default
all-same : {X : Type 0} (n i : ℕ) (x : X) → get_or (replicate n x) i x ≡ x
all-same n i x = elim (cases_lt i n) as (λ _. get_or (replicate n x) i x ≡ x) [
  | inl below ↦ get_or-replicate n i x x below
  | inr past ↦ get_or_past (replicate n x) i x (let long = length-replicate n x in omega (arith, long))
]

-- nothing is known of any inode at first
nothing-known : (ino : Ino) → inode_at first_known ino ≡ nothing_known
unfolding first_known
nothing-known ino = all-same 512 ino.0 nothing_known

-- so nothing is held, in any class
none-held : (cls : Class) → hold_in no_holds cls ≡ Nothing
none-held Names = refl
none-held Data = refl
none-held Attr = refl
none-held Open = refl

-- its book is empty
first-book : book_of first_known [] ≡ empty_book
unfolding first_known
first-book = same-books _ _ (λ ino cls. ap (λ inode. hold_in inode.holds cls) (nothing-known ino) ∙ none-held cls) refl refl (λ ino. ap (λ inode. inode.file.marks) (nothing-known ino)) refl

-- it is the law's first
pub first-state : state_of first_value ≡ first_client
first-state = λ i. record { moving = false; calls = 0; call = None; request = None; waits = false; book = first-book i }

-- and it is sound
pub first-sound : IsKnown first_value.memory.known → IsClient first_value
unfolding first_known
first-sound known = record {
  sound = record { known = known; tidy = λ ino e. refl; remembered = All-nil _ };
  call = tt;
  request = tt;
  asks = λ e. refl;
}
