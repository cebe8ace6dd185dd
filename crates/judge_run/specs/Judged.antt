-- How a judgement ends, what it read and what it wrote.
use Rattle.std.specs.Prelude.{◌≡◌, ℕ, List, [], ◌∷◌, take, codes}
use Rattle.cal_base.specs.Faults.{Rose}
use Rattle.run_status.specs.Edge.{Edge, Took, Wrote, IsUnread}
use Rattle.run_status.specs.Printing.{line}
use Rattle.run_status.specs.declared.status.Status.{Status}
use Rattle.run_status.specs.declared.status.Status.TheVariants.{Ok, Usage, BadScript, ReadFault, WriteFault, DiskFault, OutOfMemory, KeyTaken, Illegal as IllegalStatus, BadText}
use Rattle.judge_run.specs.Verdicts.{IsFound, verdict_line}
use Rattle.judge_run.specs.declared.verdict.BadTextWhy.{BadTextWhy}
use Rattle.judge_run.specs.declared.verdict.Counts.{Counts}
use Rattle.judge_run.specs.declared.verdict.Verdict.{Verdict}
use Rattle.judge_run.specs.declared.verdict.Verdict.TheVariants.{Legal, Illegal, Bad}

-- the command is the one word `judge`
abbrev pub IsJudgeCommand : List (List ℕ) → Type 0
IsJudgeCommand words = words ≡ codes "judge" ∷ []

-- this is found of the text that was taken
pub record FoundSo (before now : Edge) (verdict : Verdict) : Type 0 where
  pub text : List ℕ
  pub read : Took before now text
  pub found : IsFound now.left text verdict

-- and it was printed
pub record Told (before now : Edge) (verdict : Verdict) : Type 0 where
  pub found : FoundSo before now verdict
  pub printed : Wrote before now (line (verdict_line verdict))

-- the text is legal: so many entries and answers were told
pub record ToldLegal (before now : Edge) : Type 0 where
  pub counts : Counts
  pub told : Told before now (Legal counts)

-- the line of a number can't come next
pub record ToldIllegal (before now : Edge) : Type 0 where
  pub number : ℕ
  pub told : Told before now (Illegal number)

-- the line of a number is bad
pub record ToldBad (before now : Edge) : Type 0 where
  pub number : ℕ
  pub why : BadTextWhy
  pub told : Told before now (Bad number why)

-- a text that a judgement begins to print
pub data Begins (words : List (List ℕ)) (before now : Edge) : List ℕ → Type 0 where
  usage : ¬ (IsJudgeCommand words) → now.left ≡ before.left → Begins words before now (line (codes "Usage"))
  read_fault : IsJudgeCommand words → Rose before.source_faults now.source_faults → Begins words before now (line (codes "ReadFault"))
  verdict : (verdict : Verdict) → IsJudgeCommand words → FoundSo before now verdict → Begins words before now (line (verdict_line verdict))

-- the sink failed while a text was printed, of which it has got a prefix
pub record IsCutShort (words : List (List ℕ)) (before now : Edge) : Type 0 where
  pub text : List ℕ
  pub begins : Begins words before now text
  pub count : ℕ
  pub rose : Rose before.sink_faults now.sink_faults
  pub printed : Wrote before now (take count text)

-- what each status means; after want of memory nothing was printed
abbrev pub EndsSo : List (List ℕ) → Edge → Edge → Status → Type 0
EndsSo words before now Ok = IsJudgeCommand words × ToldLegal before now
EndsSo words before now IllegalStatus = IsJudgeCommand words × ToldIllegal before now
EndsSo words before now BadText = IsJudgeCommand words × ToldBad before now
EndsSo words before now Usage = ¬ (IsJudgeCommand words) × Wrote before now (line (codes "Usage")) × (now.left ≡ before.left)
EndsSo words before now ReadFault = IsJudgeCommand words × IsUnread before now
EndsSo words before now WriteFault = IsCutShort words before now
EndsSo words before now OutOfMemory = now.held ≡ before.held
EndsSo words before now BadScript = ⊥
EndsSo words before now DiskFault = ⊥
EndsSo words before now KeyTaken = ⊥
