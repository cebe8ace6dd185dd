-- What a port that has written nothing yet makes of writes.
use Rattle.std.proofs.Common.{◌≡◌, ◌<◌, ◌≤◌, ◌∷◌, ◌++◌, [], ℕ, zero, suc, Bool, true, false, nat_eq, if◌then◌else◌, List, length, take, Option, Some, None, Err, inl, inr, refl, sym, ap, subst, ◌∙◌, arith}
use Rattle.std.specs.List.{slice_get}
use Rattle.std.proofs.lemmas.Bool.{eqb-false}
use Rattle.std.proofs.lemmas.List.{length-take-le, take-append-le, take_all}
use Rattle.cal_base.specs.Faults.{counted_up}
use Rattle.cluster_law.specs.DiskRules.{IsWithinStop}
use Rattle.fence.specs.Port.{PortState, Stops, WritesAt, accepting, accepting_all, due}
use Rattle.fence.specs.Writes.{HaltsIn, MakesAll}
use Rattle.fence.specs.declared.port_halt.PortHalt.TheVariants.{Failed}
use Rattle.fence.proofs.EndingLemmas.{counts_and_keeps}
use Rattle.journal.specs.Replay.{replay_length}
use Rattle.shared_disk.specs.Disk.{Disk, after}
use Rattle.shared_disk.specs.Sectors.{left_of}
use Rattle.shared_disk.specs.declared.stop.Stop.{Stop}
use Rattle.server_start.specs.Opening.{IsReady}

-- where no stop is due, one write more may be accepted
one-more : (s : Stop) (p : PortState) → p.stop ≡ Some s → due p ≡ None → p.accepted ≤ s.after → counted_up p.accepted ≤ s.after
one-more s p armed undue few = by (nat_eq s.after p.accepted) refl (subst (λ (o : Option Stop). due (record p { stop = o }) ≡ None) armed undue)
  where
    by : (b : Bool) → nat_eq s.after p.accepted ≡ b → (if b then Some s else None) ≡ None → counted_up p.accepted ≤ s.after
    by true is none = absurd (cc)
    by false is none =
        let apart = eqb-false s.after p.accepted is in
        omega (arith, apart)

-- no more are accepted than the stop lets through
all-few : (s : Stop) (ws : List (ℕ × List ℕ)) (p : PortState) (d : Disk) (p' : PortState) (d' : Disk) → p.stop ≡ Some s → p.accepted ≤ s.after → MakesAll p d ws p' d' → p'.accepted ≤ s.after
all-few s [] p d p' d' armed few made = subst (λ (q : PortState). q.accepted ≤ s.after) (sym made.0) few
all-few s (w ∷ ws) p d p' d' armed few made = all-few s ws (accepting p w) (after d (w ∷ [])) p' d' armed (one-more s p armed made.0.undue few) made.1

-- a write that fails isn't counted
failed-same : (o : Option Stop) (p : PortState) (d : Disk) (at : ℕ) (bytes : List ℕ) (p' : PortState) (d' : Disk) → WritesAt o p d at bytes (Err Failed) p' d' → p' ≡ p
failed-same None p d at bytes p' d' fails = fails.uncounted
failed-same (Some stop) p d at bytes p' d' fails = by stop.torn fails
  where
    by : (torn : Option (List ℕ)) → Stops torn p d at (Err Failed) p' d' → p' ≡ p
    by None fails = let stopped = fails.stopped in absurd (cc)
    by (Some torn) fails = fails.uncounted

failed-few : (s : Stop) (ws : List (ℕ × List ℕ)) (p : PortState) (d : Disk) (p' : PortState) (d' : Disk) → p.stop ≡ Some s → p.accepted ≤ s.after → HaltsIn p d ws Failed p' d' → p'.accepted ≤ s.after
failed-few s [] p d p' d' armed few fails = absurd fails
failed-few s (w ∷ ws) p d p' d' armed few fails = elim fails [
  | inl now ↦ subst (λ (q : PortState). q.accepted ≤ s.after) (sym (failed-same (due p) p d w.0 w.1 p' d' now)) few
  | inr later ↦ failed-few s ws (accepting p w) (after d (w ∷ [])) p' d' armed (one-more s p armed later.0.undue few) later.1
]

-- what a port counts and keeps that accepted these writes first
pub record Made (p : PortState) (ws : List (ℕ × List ℕ)) (p' : PortState) : Type 0 where
  pub kept : p'.kept.writes ≡ ws
  pub accepted : p'.accepted ≡ length ws
  pub view : p'.view ≡ p.view

pub made : (stop : Option Stop) (p : PortState) (ws : List (ℕ × List ℕ)) (p' : PortState) → IsReady stop p → length ws ≤ replay_length → p' ≡ accepting_all p ws → Made p ws p'
made stop p ws p' ready few is =
    let counts = counts_and_keeps ws p in
    let first = ready.accepted in
    let space = ready.space in
    let accepted = counts.accepted (omega arith) in
    record {
      kept =
          ap (λ (q : PortState). q.kept.writes) is
          ∙ ap (λ k. k.writes) counts.kept
          ∙ ap (λ (xs : List (ℕ × List ℕ)). xs ++ take p.kept.space ws) ready.kept
          ∙ take_all p.kept.space ws (omega arith);
      accepted = ap (λ (q : PortState). q.accepted) is ∙ accepted ∙ omega (arith, first, few);
      view = ap (λ (q : PortState). q.view) is ∙ counts.view;
    }

-- so all that it accepted lies before the stop
pub all-within : (stop : Option Stop) (p : PortState) (d : Disk) (ws : List (ℕ × List ℕ)) (p' : PortState) (d' : Disk) → IsReady stop p → MakesAll p d ws p' d' → p'.accepted ≡ length ws → IsWithinStop stop ws
all-within None p d ws p' d' ready all count = tt
all-within (Some s) p d ws p' d' ready all count =
    let first = ready.accepted in
    let few = all-few s ws p d p' d' ready.stop_is (omega (arith, first)) all in
    omega (arith, few, count)

pub failed-within : (stop : Option Stop) (p : PortState) (d : Disk) (ws made : List (ℕ × List ℕ)) (p' : PortState) (d' : Disk) → IsReady stop p → HaltsIn p d ws Failed p' d' → p'.accepted ≡ length made → IsWithinStop stop made
failed-within None p d ws made p' d' ready fails count = tt
failed-within (Some s) p d ws made p' d' ready fails count =
    let first = ready.accepted in
    let few = failed-few s ws p d p' d' ready.stop_is (omega (arith, first)) fails in
    omega (arith, few, count)

-- the first of some writes are the first of these and others
pub front : (ws rest : List (ℕ × List ℕ)) (made : ℕ) → made ≤ length ws → take made ws ≡ take (length (take made ws)) (ws ++ rest)
front ws rest made within =
    sym (ap (λ (n : ℕ). take n (ws ++ rest)) (length-take-le made ws within) ∙ take-append-le made ws rest within)

-- what a torn write leaves behind the first ones
pub record Torn (ws rest : List (ℕ × List ℕ)) (made : ℕ) (bytes : List ℕ) : Type 0 where
  pub next : ℕ × List ℕ
  pub next_is : slice_get (ws ++ rest) made ≡ Some next
  pub left : left_of ws made (Some bytes) ≡ take made ws ++ (next.0, bytes) ∷ []

pub torn : (ws rest : List (ℕ × List ℕ)) (made : ℕ) (bytes : List ℕ) → made < length ws → Torn ws rest made bytes
torn [] rest made bytes within = absurd (omega (arith, within))
torn (w ∷ ws) rest zero bytes within = record { next = w; next_is = refl; left = refl }
torn (w ∷ ws) rest (suc made) bytes within =
    let there = torn ws rest made bytes (omega (arith, within)) in
    record { next = there.next; next_is = there.next_is; left = ap (λ (xs : List (ℕ × List ℕ)). w ∷ xs) there.left }

-- a stop among the first of some writes is one among all
pub stopped-front : (ws rest : List (ℕ × List ℕ)) (made : ℕ) (bytes : Option (List ℕ)) → made < length ws → left_of ws made bytes ≡ left_of (ws ++ rest) made bytes
stopped-front [] rest made bytes within = absurd (omega (arith, within))
stopped-front (w ∷ ws) rest zero None within = refl
stopped-front (w ∷ ws) rest zero (Some bytes) within = refl
stopped-front (w ∷ ws) rest (suc made) bytes within = ap (λ (xs : List (ℕ × List ℕ)). w ∷ xs) (stopped-front ws rest made bytes (omega (arith, within)))

-- and leaves no more than one write beyond
pub left-few : (ws : List (ℕ × List ℕ)) (made : ℕ) (bytes : Option (List ℕ)) → length (left_of ws made bytes) ≤ length ws
left-few [] made bytes = omega arith
left-few (w ∷ ws) zero None = omega arith
left-few (w ∷ ws) zero (Some bytes) = omega arith
left-few (w ∷ ws) (suc made) bytes = let more = left-few ws made bytes in omega (arith, more)
