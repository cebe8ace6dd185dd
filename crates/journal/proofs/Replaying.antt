-- A replay, by what it read.
use Rattle.std.proofs.Common.{◌≡◌, ◌≤◌, ℕ, Bool, true, false, if◌then◌else◌, List, [], ◌∷◌, ◌++◌, Option, Some, None, Result, Ok, Err, refl, sym, ap, ◌∙◌, subst, inl, inr, arith}
use Rattle.std.specs.Prelude.{IsErrAnd, IsSome}
use Rattle.std.proofs.lemmas.Option.{get_or_from_slice_get}
use Rattle.shared_disk.specs.Disk.{Disk, SectorIs}
use Rattle.fence.specs.Port.{PortState}
use Rattle.fence.specs.Writes.{Runs}
use Rattle.fence.specs.declared.port_halt.PortHalt.{PortHalt}
use Rattle.fence.specs.declared.port_halt.PortHalt.TheVariants.{Fenced, Failed, Stopped}
use Rattle.fence.proofs.RunsLemmas.{runs_then}
use Rattle.journal.specs.declared.replay_halt.ReplayHalt.{ReplayHalt}
use Rattle.journal.specs.declared.replay_halt.ReplayHalt.TheVariants.{Fenced as Refenced, Failed as Refailed, Stopped as Restopped, Damaged}
use Rattle.journal.specs.Halts.{halted}
use Rattle.journal.specs.Layout.{body, gate_of, homes_in, is_header, opens, outside, sector, spelled, with_contents}
use Rattle.journal.specs.Commit.{replayed}
use Rattle.shared_disk.specs.Sectors.{written}
use Rattle.journal.specs.Replay.{Attempts, IsFrontOf, replay_writes}
use Rattle.journal.specs.Replays.{Replays, ReplayEnds, IsReplayOf, Judges}
use Rattle.journal.proofs.Law.{replays_closed, replays_open}

pub sector_is : (d : Disk) (at : ℕ) (bytes : List ℕ) → SectorIs d at bytes → (s : List (List ℕ)) → d.sectors ≡ Some s → sector s at ≡ bytes
sector_is d at bytes is s t = get_or_from_slice_get s at bytes [] (is s t)

run_from : (ws : List (ℕ × List ℕ)) (p : PortState) (d : Disk) (f f1 : ℕ) (r : Result (Unit {0}) PortHalt) (p' : PortState) (d' : Disk) (f' : ℕ) → f ≤ f1 → Runs p d f1 ws r p' d' f' → Runs p d f ws r p' d' f'
run_from ws p d f f1 r p' d' f' later a =
    let before : Runs p d f [] (Ok tt) p d f1 = record { makes = (refl, refl); room = omega arith; counted = tt; later = later } in
    runs_then [] ws p d f p d f1 r p' d' f' before a

ends_from : (ws : List (ℕ × List ℕ)) (p : PortState) (d : Disk) (f f1 : ℕ) (r : Result (Unit {0}) ReplayHalt) (p' : PortState) (d' : Disk) (f' : ℕ) → f ≤ f1 → ReplayEnds p d f1 ws r p' d' f' → ReplayEnds p d f ws r p' d' f'
ends_from ws p d f f1 (Ok done) p' d' f' later h = (h.0, run_from ws p d f f1 (Ok tt) p' d' f' later h.1)
ends_from ws p d f f1 (Err (Refenced mine current)) p' d' f' later h = h
ends_from ws p d f f1 (Err Refailed) p' d' f' later h =
    (h.0, elim h.1 [ inl x ↦ inl (run_from ws p d f f1 (Err Failed) p' d' f' later x) | inr x ↦ (let k = x.1 in inr (run_from ws p d f f1 (Ok tt) p' d' f' later x.0, omega arith)) ])
ends_from ws p d f f1 (Err Restopped) p' d' f' later h = (h.0, run_from ws p d f f1 (Err Stopped) p' d' f' later h.1)
ends_from ws p d f f1 (Err (Damaged at)) p' d' f' later h = h

-- after a read, which changed nothing
pub replays_from : (p : PortState) (d : Disk) (f : ℕ) (d1 : Disk) (f1 : ℕ) (r : Result (Unit {0}) ReplayHalt) (p' : PortState) (d' : Disk) (f' : ℕ) → d1 ≡ d → f ≤ f1 → Replays p d1 f1 r p' d' f' → Replays p d f r p' d' f'
replays_from p d f d1 f1 r p' d' f' same later a =
    let b = subst (λ (x : Disk). Replays p x f1 r p' d' f') same a in
    record {
      tried = b.tried;
      ends = ends_from b.tried p d f f1 r p' d' f' later b.ends;
      few = b.few;
      later = (let h = b.later in omega arith);
      told = b.told;
    }

is_some_of : (o : Option (List (List ℕ))) (x : List (List ℕ)) → o ≡ Some x → IsSome o
is_some_of o x e = subst (λ (y : Option (List (List ℕ))). IsSome y) (sym e) refl

-- the gate was read closed
pub replays_shut : (gate : List ℕ) (p : PortState) (d : Disk) (f : ℕ) (d1 : Disk) (f1 : ℕ) → d.key ≡ p.view → SectorIs d 1 gate → opens gate ≡ false → d1 ≡ d → f ≤ f1 → Replays p d f (Ok tt) p d1 f1
replays_shut gate p d f d1 f1 own is shut same later =
    let room = ap (λ (x : Disk). x.room) same in
    record {
      tried = [];
      ends = (own, record { makes = (refl, same); room = omega arith; counted = tt; later = later });
      few = omega arith;
      later = later;
      told = λ s t l.
          let closed : opens (sector s 1) ≡ false = ap opens (sector_is d 1 gate is s t) ∙ shut in
          record {
            rest = [];
            split = ap (λ (b : Bool). if b then spelled s ++ (1, gate_of 0) ∷ [] else []) closed;
            whole = refl;
            judged = is_some_of (replayed s) (outside s) (replays_closed s closed);
          };
    }

damaged_by : (s : List (List ℕ)) → opens (sector s 1) ≡ true → is_header (sector s 2) ≡ false → replayed s ≡ None
damaged_by s o bad =
    ap (λ (b : Bool). if b then (if is_header (sector s 2) then Some (outside (written s (spelled s))) else None) else Some (outside s)) o
    ∙ ap (λ (b : Bool). if b then Some (outside (written s (spelled s))) else None) bad

-- the header was read outside its grammar
pub replays_damaged : (header : List ℕ) (p : PortState) (d : Disk) (f : ℕ) (d1 : Disk) (f1 : ℕ) → d.key ≡ p.view → SectorIs d 2 header → ((s : List (List ℕ)) → d.sectors ≡ Some s → opens (sector s 1) ≡ true) → is_header header ≡ false → d1 ≡ d → f ≤ f1 → Replays p d f (Err (Damaged 2)) p d1 f1
replays_damaged header p d f d1 f1 own is open_gate bad same later =
    record {
      tried = [];
      ends = (own, refl, record { untried = refl; uncounted = refl; unchanged = same });
      few = omega arith;
      later = later;
      told = λ s t l. record {
        rest = replay_writes s;
        split = refl;
        whole = tt;
        judged = damaged_by s (open_gate s t) (ap is_header (sector_is d 2 header is s t) ∙ bad);
      };
    }

-- all that is tried after a good header
abbrev pub tries : List ℕ → List (List ℕ) → List (ℕ × List ℕ)
tries header s = with_contents (homes_in header) (body s) ++ (1, gate_of 0) ∷ []

same_writes : (header : List ℕ) (d : Disk) → SectorIs d 2 header → ((s : List (List ℕ)) → d.sectors ≡ Some s → opens (sector s 1) ≡ true) → (s : List (List ℕ)) → d.sectors ≡ Some s → replay_writes s ≡ tries header s
same_writes header d is open_gate s t =
    ap (λ (b : Bool). if b then spelled s ++ (1, gate_of 0) ∷ [] else []) (open_gate s t) ∙ ap (λ (h : List ℕ). tries h s) (sector_is d 2 header is s t)

-- the homes were written back, and the gate closed
pub replays_all : (header : List ℕ) (p : PortState) (d : Disk) (f : ℕ) (p' : PortState) (d' : Disk) (f' : ℕ) → d.key ≡ p.view → SectorIs d 2 header → ((s : List (List ℕ)) → d.sectors ≡ Some s → opens (sector s 1) ≡ true) → is_header header ≡ true
    → Attempts (tries header) 17 p d f (Ok tt) p' d' f' → Replays p d f (Ok tt) p' d' f'
replays_all header p d f p' d' f' own is open_gate good a = record {
  tried = a.tried;
  ends = (own, a.ends);
  few = a.few;
  later = a.later;
  told = λ s t l. (let x = a.told s t l in record {
    rest = x.rest;
    split = same_writes header d is open_gate s t ∙ x.split;
    whole = x.whole;
    judged = is_some_of (replayed s) _ (replays_open s (spelled s) (open_gate s t) (ap is_header (sector_is d 2 header is s t) ∙ good) refl);
  });
}

front_of : (header : List ℕ) (d : Disk) (tried : List (ℕ × List ℕ)) (cause : PortHalt) (halt : ReplayHalt) → SectorIs d 2 header → ((s : List (List ℕ)) → d.sectors ≡ Some s → opens (sector s 1) ≡ true) → (s : List (List ℕ)) → d.sectors ≡ Some s → IsFrontOf (tries header s) tried (Err cause) → Judges s (Err halt) → IsReplayOf s tried (Err halt)
front_of header d tried cause halt is open_gate s t x j = record { rest = x.rest; split = same_writes header d is open_gate s t ∙ x.split; whole = tt; judged = j }

-- the writing back halted
replays_halted : (cause : PortHalt) (header : List ℕ) (p : PortState) (d : Disk) (f : ℕ) (p' : PortState) (d' : Disk) (f' : ℕ) → d.key ≡ p.view → SectorIs d 2 header → ((s : List (List ℕ)) → d.sectors ≡ Some s → opens (sector s 1) ≡ true)
    → Attempts (tries header) 17 p d f (Err cause) p' d' f' → Replays p d f (Err (halted cause)) p' d' f'
replays_halted (Fenced mine current) header p d f p' d' f' own is open_gate a = absurd a.ends
replays_halted Failed header p d f p' d' f' own is open_gate a = record { tried = a.tried; ends = (own, a.ends); few = a.few; later = a.later; told = λ s t l. front_of header d a.tried Failed Refailed is open_gate s t (a.told s t l) tt }
replays_halted Stopped header p d f p' d' f' own is open_gate a = record { tried = a.tried; ends = (own, a.ends); few = a.few; later = a.later; told = λ s t l. front_of header d a.tried Stopped Restopped is open_gate s t (a.told s t l) tt }

passed_replay : (r : Result (Unit {0}) ReplayHalt) (halt : ReplayHalt) → IsErrAnd r (λ e. e ≡ halt) → r ≡ Err halt
passed_replay (Ok done) halt h = absurd h
passed_replay (Err e) halt h = ap Err h

pub replays_passed : (cause : PortHalt) (header : List ℕ) (p : PortState) (d : Disk) (f : ℕ) (r : Result (Unit {0}) ReplayHalt) (p' : PortState) (d' : Disk) (f' : ℕ) → d.key ≡ p.view → SectorIs d 2 header → ((s : List (List ℕ)) → d.sectors ≡ Some s → opens (sector s 1) ≡ true)
    → Attempts (tries header) 17 p d f (Err cause) p' d' f' → IsErrAnd r (λ e. e ≡ halted cause) → Replays p d f r p' d' f'
replays_passed cause header p d f r p' d' f' own is open_gate a h =
    subst (λ (x : Result (Unit {0}) ReplayHalt). Replays p d f x p' d' f') (sym (passed_replay r (halted cause) h)) (replays_halted cause header p d f p' d' f' own is open_gate a)

pub attempts_from : (all : List (List ℕ) → List (ℕ × List ℕ)) (n : ℕ) (p : PortState) (d d1 : Disk) (f : ℕ) (r : Result (Unit {0}) PortHalt) (p' : PortState) (d' : Disk) (f' : ℕ) → d1 ≡ d → Attempts all n p d1 f r p' d' f' → Attempts all n p d f r p' d' f'
attempts_from all n p d d1 f r p' d' f' same a = subst (λ (x : Disk). Attempts all n p x f r p' d' f') same a
