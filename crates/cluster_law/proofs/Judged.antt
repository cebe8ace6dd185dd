-- A reported hold, judged by the flushes on the disk, is the hold that counts.
use Rattle.std.proofs.Common.{◌≡◌, ◌&&◌, ◌<◌, ℕ, if◌then◌else◌, Option, Some, None, ap, refl, nat_le}
use Rattle.std.specs.Prelude.{IfSome}
use Rattle.std.proofs.lemmas.Bool.{lt-ltb}
use Rattle.cal_base.specs.declared.identity.Ino.{Ino}
use Rattle.rebuild.specs.Reports.{judged}
use Rattle.token_kind.specs.declared.«class».Class.{Class}
use Rattle.token_kind.specs.declared.«class».Class.TheVariants.{Names, Data, Attr, Open}
use Rattle.token_kind.specs.declared.hold.Hold.{Hold}
use Rattle.cluster_law.specs.Book.{Flushing}
use Rattle.cluster_law.specs.Owed.{reported_as}
use Rattle.cluster_law.specs.Promises.{left_or_held}

pub judged-hold : (done : ℕ) (ino : Ino) (cls : Class) (hold : Hold) (flush : Option Flushing) → IfSome flush (λ f. 0 < f.number) → (judged done (reported_as ino cls hold flush)).hold ≡ left_or_held done cls hold flush
judged-hold done ino Names hold None some = refl
judged-hold done ino Data hold None some = refl
judged-hold done ino Attr hold None some = refl
judged-hold done ino Open hold None some = refl
judged-hold done ino Names hold (Some flush) some = refl
judged-hold done ino Open hold (Some flush) some = refl
judged-hold done ino Data hold (Some flush) some = ap (λ b. if b && nat_le flush.number done then flush.leave_data else hold) (lt-ltb 0 flush.number some)
judged-hold done ino Attr hold (Some flush) some = ap (λ b. if b && nat_le flush.number done then flush.leave_attr else hold) (lt-ltb 0 flush.number some)
