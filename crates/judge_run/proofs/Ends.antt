-- How a judgement ends, from what it read and what it printed.
use Rattle.std.proofs.Common.{◌≡◌, ℕ, List, [], ◌∷◌, length, map, get_or, Err, Bor, refl, sym, ap, ◌∙◌, arith, Bool, nat_eq}
use Rattle.std.specs.Prelude.{codes, IsTrue}
use Rattle.std.specs.Cmp.Lexicographic.{pointwise}
use Rattle.std.proofs.lemmas.Slice.Eq.{bytes_eq-Decides}
use Rattle.cal_base.specs.Faults.{Rose}
use Rattle.cal_base.specs.Sink.{TakesPrefix}
use Rattle.run_status.specs.Code.{status_of}
use Rattle.run_status.specs.Printing.{line, Held, Prints}
use Rattle.run_status.specs.Taking.{Left, IsFailed}
use Rattle.run_status.specs.Edge.{Edge}
use Rattle.run_status.specs.declared.printout.PrintError.{PrintError}
use Rattle.run_status.specs.declared.printout.PrintError.TheVariants.{WriteFault as NotWritten, OutOfMemory as NoRoom}
use Rattle.run_status.specs.declared.status.Status.{Status}
use Rattle.run_status.specs.declared.status.Status.TheVariants.{Ok as Fine, Usage, BadScript, ReadFault, WriteFault, DiskFault, OutOfMemory, KeyTaken, Illegal as IllegalStatus, BadText}
use Rattle.judge_run.specs.Judged.{EndsSo, IsJudgeCommand, FoundSo, IsCutShort, Begins, usage, read_fault, verdict}
use Rattle.judge_run.specs.Passing.{FindsVerdict, TellsVerdict}
use Rattle.judge_run.specs.Verdicts.{verdict_line}
use Rattle.judge_run.specs.declared.verdict.Verdict.{Verdict}
use Rattle.judge_run.specs.declared.verdict.Verdict.TheVariants.{Legal, Illegal, Bad}

-- one word alone
one_word : (words : List (Bor (List ℕ))) (word : Bor (List ℕ)) → length words ≡ 1 → map (λ w. w.now) words ≡ (get_or words 0 word).now ∷ []
one_word [] word one = absurd (omega arith)
one_word (first ∷ []) word one = refl
one_word (first ∷ second ∷ more) word one = absurd (omega arith)

alone : (a b : List ℕ) → a ∷ [] ≡ b ∷ [] → a ≡ b
alone a b e = cc

-- the one word is the command, or not
pub is_command : (words : List (Bor (List ℕ))) (word : Bor (List ℕ)) (same : Bool) → length words ≡ 1 → same ≡ pointwise nat_eq (get_or words 0 word).now (codes "judge")
    → (IsTrue same → IsJudgeCommand (map (λ w. w.now) words)) × (IsJudgeCommand (map (λ w. w.now) words) → IsTrue same)
is_command words word same one is =
    let decides = bytes_eq-Decides (get_or words 0 word).now (codes "judge") in
    let list = one_word words word one in
    (λ true. list ∙ ap (λ (w : List ℕ). w ∷ []) (decides.0 (sym is ∙ true)), λ run. is ∙ decides.1 (alone _ _ (sym list ∙ run)))

abbrev pub edge : Left → Held → Edge
edge source sink = record { left = source.left; held = sink.held; source_faults = source.faults; sink_faults = sink.faults }

cut : (words : List (List ℕ)) (before now : Edge) (text : List ℕ) → Begins words before now text → TakesPrefix before.held text now.held → Rose before.sink_faults now.sink_faults → IsCutShort words before now
cut words before now text begins taken rose = record { text = text; begins = begins; count = taken.taken; rose = rose; printed = taken.grown }

-- the words are no command, and that isn't printed whole
pub usage_failed : (words : List (List ℕ)) (source : Left) (before now : Held) (error : PrintError) (status : Status) → status ≡ status_of error → ¬ (IsJudgeCommand words)
    → Prints before (line (codes "Usage")) (Err error) now → EndsSo words (edge source before) (edge source now) status
usage_failed words source before now NotWritten status e other prints = rw e (cut words (edge source before) (edge source now) _ (usage other refl) prints.0 prints.1)
usage_failed words source before now NoRoom status e other prints = rw e prints.0

-- the source failed, and that isn't printed whole
pub read_fault_failed : (words : List (List ℕ)) (first last : Left) (before now : Held) (error : PrintError) (status : Status) → status ≡ status_of error → IsJudgeCommand words → IsFailed first last
    → Prints before (line (codes "ReadFault")) (Err error) now → EndsSo words (edge first before) (edge last now) status
read_fault_failed words first last before now NotWritten status e is failed prints = rw e (cut words (edge first before) (edge last now) _ (read_fault is failed.rose) prints.0 prints.1)
read_fault_failed words first last before now NoRoom status e is failed prints = rw e prints.0

found_so : (first last : Left) (before now : Held) (found : Verdict) → FindsVerdict first last found → FoundSo (edge first before) (edge last now) found
found_so first last before now found finds = record { text = finds.text; read = finds.read.taken; found = finds.found }

-- what is found was told, or not
pub verdict_ends : (words : List (List ℕ)) (first last : Left) (before now : Held) (found : Verdict) (status : Status) → IsJudgeCommand words → FindsVerdict first last found → TellsVerdict found before status now
    → EndsSo words (edge first before) (edge last now) status
verdict_ends words first last before now (Legal counts) Fine is finds told = (is, record { counts = counts; told = record { found = found_so first last before now _ finds; printed = told.1 } })
verdict_ends words first last before now (Illegal number) IllegalStatus is finds told = (is, record { number = number; told = record { found = found_so first last before now _ finds; printed = told.1 } })
verdict_ends words first last before now (Bad number why) BadText is finds told = (is, record { number = number; why = why; told = record { found = found_so first last before now _ finds; printed = told.1 } })
verdict_ends words first last before now found WriteFault is finds told = cut words (edge first before) (edge last now) (line (verdict_line found)) (verdict found is (found_so first last before now found finds)) told.0 told.1
verdict_ends words first last before now found OutOfMemory is finds told = told
verdict_ends words first last before now (Illegal number) Fine is finds told = absurd (let e = told.0 in cc)
verdict_ends words first last before now (Bad number why) Fine is finds told = absurd (let e = told.0 in cc)
verdict_ends words first last before now (Legal counts) IllegalStatus is finds told = absurd (let e = told.0 in cc)
verdict_ends words first last before now (Bad number why) IllegalStatus is finds told = absurd (let e = told.0 in cc)
verdict_ends words first last before now (Legal counts) BadText is finds told = absurd (let e = told.0 in cc)
verdict_ends words first last before now (Illegal number) BadText is finds told = absurd (let e = told.0 in cc)
verdict_ends words first last before now found Usage is finds told = absurd told
verdict_ends words first last before now found BadScript is finds told = absurd told
verdict_ends words first last before now found ReadFault is finds told = absurd told
verdict_ends words first last before now found DiskFault is finds told = absurd told
verdict_ends words first last before now found KeyTaken is finds told = absurd told
