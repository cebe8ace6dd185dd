-- What a command read and wrote.
use Rattle.std.specs.Prelude.{◌≡◌, ℕ, List, codes, Option}
use Rattle.std.specs.Io.KnownBytes.{prepend_known, append_known}
use Rattle.cal_base.specs.Faults.{Rose}
use Rattle.run_status.specs.Printing.{line}

-- what the source has left and the sink holds, where they tell it, and how often each has failed
pub record Edge : Type 0 where
  pub left : Option (List ℕ)
  pub held : Option (List ℕ)
  pub source_faults : ℕ
  pub sink_faults : ℕ

-- the sink has got this text
abbrev pub Wrote : Edge → Edge → List ℕ → Type 0
Wrote before now text = now.held ≡ append_known before.held text

-- these bytes were taken from the source
abbrev pub Took : Edge → Edge → List ℕ → Type 0
Took before now input = before.left ≡ prepend_known input now.left

-- the source failed while it was read, and that was printed
pub record IsUnread (before now : Edge) : Type 0 where
  pub input : List ℕ
  pub read : Took before now input
  pub rose : Rose before.source_faults now.source_faults
  pub printed : Wrote before now (line (codes "ReadFault"))
