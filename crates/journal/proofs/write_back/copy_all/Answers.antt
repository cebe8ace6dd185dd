use Rattle.std.proofs.Common.{◌≤◌, ◌<◌, ◌+◌, ◌∷◌, [], ℕ, List, take, drop, slice_index, sym, ◌∙◌, arith, Ok, Err}
use Rattle.std.proofs.lemmas.List.{take-append-drop}
use Rattle.journal.specs.Layout.{body, homes_in, sector, with_contents}
use Rattle.journal.proofs.Attempting.{attempts_then, attempts_early, attempts_as, same_key, same_view}
use Rattle.journal.proofs.Copies.{good_header, home_good, next_copy, with_all}
use Rattle.journal.proofs.write_back.copy_all.Goals as goal

pub copy-requires-clause-home : goal.copy-requires-clause-home
copy-requires-clause-home g c =
    let within : c.loop-i.i < slice_index c.args.header.now 0 = omega (arith, c.requires.count) in
    (home_good c.args.header.now c.loop-i.i c.home_at-home.result c.requires.good within c.home_at-home.ensures).below

pub returns-in_err-copy : goal.returns-in_err-copy
returns-in_err-copy g c =
    let header = c.args.header.now in
    let i = c.loop-i.i in
    let home = c.home_at-home.result in
    let within : i < slice_index header 0 = omega (arith, c.requires.count) in
    let most = (good_header header c.requires.good).few in
    let few : i + 1 ≤ 16 = omega arith in
    let step = attempts_then (λ (s : List (List ℕ)). take (i + 1) (with_contents (homes_in header) (body s))) (λ (s : List (List ℕ)). take i (with_contents (homes_in header) (body s))) (λ (s : List (List ℕ)). (home, sector s (3 + i)) ∷ []) i 1 _ _ _ _ _ _ (Err c.in_err-copy.field-0.0) _ _ _
    (λ s l. next_copy header s i home c.requires.good within c.home_at-home.ensures l) c.loop-i.invariant.attempts c.in_err-copy.ensures in
    attempts_early (λ (s : List (List ℕ)). with_contents (homes_in header) (body s)) (λ (s : List (List ℕ)). take (i + 1) (with_contents (homes_in header) (body s))) (λ (s : List (List ℕ)). drop (i + 1) (with_contents (homes_in header) (body s))) (i + 1) 16 _ _ _ _ c.from_residual.result _ _ _
    (λ s l. sym (take-append-drop (i + 1) (with_contents (homes_in header) (body s)))) few step c.from_residual.ensures.1

pub loop-i-preserved : goal.loop-i-preserved
loop-i-preserved g c =
    let header = c.args.header.now in
    let i = c.loop-i.i in
    let home = c.home_at-home.result in
    let within : i < slice_index header 0 = omega (arith, c.requires.count) in
    let one = c.in_ok-copy.ensures in
    record {
      attempts = attempts_then (λ (s : List (List ℕ)). take (i + 1) (with_contents (homes_in header) (body s))) (λ (s : List (List ℕ)). take i (with_contents (homes_in header) (body s))) (λ (s : List (List ℕ)). (home, sector s (3 + i)) ∷ []) i 1 _ _ _ _ _ _ (Ok tt) _ _ _
          (λ s l. next_copy header s i home c.requires.good within c.home_at-home.ensures l) c.loop-i.invariant.attempts one;
      own = same_key one.tried _ _ _ _ one.ends.makes ∙ c.loop-i.invariant.own ∙ sym (same_view one.tried _ _ _ _ one.ends.makes);
      room = (let h = one.ends.room in let k = one.few in let r = c.loop-i.invariant.room in omega arith);
    }

pub returns : goal.returns
returns g c =
    let header = c.args.header.now in
    let i = c.loop-i.i in
    let done : slice_index header 0 ≤ i = omega (arith, c.requires.count) in
    let most = (good_header header c.requires.good).few in
    let upto = c.loop-i.auto.i-end in
    let few : i ≤ 16 = omega (arith, c.requires.count) in
    attempts_as (λ (s : List (List ℕ)). take i (with_contents (homes_in header) (body s))) (λ (s : List (List ℕ)). with_contents (homes_in header) (body s)) i 16 _ _ _ _ _ _ _
    (λ s l. sym (with_all header s i done)) few c.loop-i.invariant.attempts
