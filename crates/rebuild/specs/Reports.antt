use Rattle.std.specs.Prelude.{◌≡◌, ◌+◌, ℕ, List, ◌&&◌, nat_lt, nat_le, if◌then◌else◌, map, All}
use Rattle.cal_base.specs.declared.identity.ClientId.{ClientId}
use Rattle.cal_base.specs.declared.identity.Ino.{Ino}
use Rattle.token_kind.specs.Hold.{lesser_of}
use Rattle.token_kind.specs.declared.«class».Class.{Class}
use Rattle.token_kind.specs.declared.hold.Hold.{Hold}
use Rattle.token_kind.specs.declared.piece.Piece.{Piece}
use Rattle.token_kind.specs.declared.release.Release.{Release}
use Rattle.token_kind.specs.declared.reported.Reported.{Reported}
use Rattle.token_kind.specs.declared.token.Token.{Token}
use Rattle.token_table.specs.Changes.{Sets, Drops}
use Rattle.token_table.specs.Series.{Same, with_holds, with_lowered, put_last}
use Rattle.token_table.specs.Table.{IsGrantable, held_of}
use Rattle.rebuild.specs.Collecting.{Collecting, standing_of, with_standing}
use Rattle.rebuild.specs.declared.reporting.Reporting.{Reporting}
use Rattle.rebuild.specs.declared.reporting.Reporting.TheVariants.{Asked, Whole, Purged}

-- a reported hold, judged by the number of the client's last committed flush: what an outstanding flush leaves of it, if that flush is committed
abbrev pub judged_hold : Reported → ℕ → Hold
judged_hold r flushed = if nat_lt 0 r.flush && nat_le r.flush flushed then r.leave else r.token.hold

-- the token that a reported hold counts as
abbrev pub judged : ℕ → Reported → Token
judged flushed r = record r.token { hold = judged_hold r flushed }

-- a piece fits: its client was asked, it is the next of that report, and none of its holds conflicts with one that another client reported
pub record Fits (s : Collecting) (c : ClientId) (p : Piece) (flushed : ℕ) : Type 0 where
  pub next : standing_of s c ≡ Asked p.index
  pub apart : All (λ r. IsGrantable s.table c (judged flushed r)) p.holds

-- where a client stands once a piece of its report is taken
abbrev pub after_piece : Piece → Reporting
after_piece p = if p.last then Whole else Asked (p.index + 1)

-- a piece is taken: its client holds what it says, and its Data Write holds come last
pub record Takes (old new : Collecting) (c : ClientId) (p : Piece) (flushed : ℕ) : Type 0 where
  pub standing : record new { table = old.table } ≡ with_standing old c (after_piece p)
  pub table : Same new.table (with_holds (put_last old.table c) c (map (judged flushed) p.holds))

-- a client gave up holds, and all else is the same
pub record Releases (old new : Collecting) (c : ClientId) (r : Release) : Type 0 where
  pub rest : record new { table = old.table } ≡ old
  pub table : Same new.table (with_lowered old.table c r.ino r.items)

-- one hold of a client is lowered to the lesser of what it is and a mode, and all else is the same
pub record Lowers (old new : Collecting) (c : ClientId) (ino : Ino) (cls : Class) (to : Hold) : Type 0 where
  pub rest : record new { table = old.table } ≡ old
  pub table : Sets old.table new.table c ino cls (lesser_of (held_of old.table c ino cls) to)

-- a client is granted what it needs, and all else is the same
pub record Grants (old new : Collecting) (c : ClientId) (tokens : List Token) : Type 0 where
  pub rest : record new { table = old.table } ≡ old
  pub table : Same new.table (with_holds old.table c tokens)

-- a client is purged: it holds nothing, and isn't waited for
pub record Purges (old new : Collecting) (c : ClientId) : Type 0 where
  pub standing : record new { table = old.table } ≡ with_standing old c Purged
  pub table : Drops old.table new.table c
