-- Each cut of a replay leaves the volume as a replay does.
use Rattle.std.proofs.Common.{◌≡◌, ◌≤◌, ◌+◌, ℕ, Bool, true, false, if◌then◌else◌, List, [], ◌∷◌, ◌++◌, length, Option, Some, None, Result, Ok, Err, refl, sym, ap, ◌∙◌, subst, inl, inr, arith}
use Rattle.std.specs.Prelude.{IsTrue}
use Rattle.std.proofs.lemmas.List.{append-nil}
use Rattle.shared_disk.specs.Disk.{Disk, KeepsCount, after}
use Rattle.shared_disk.specs.Homes.{IsTransaction, sectors_of}
use Rattle.shared_disk.specs.Sectors.{written, left_of}
use Rattle.shared_disk.proofs.Changes.{after-nil, keeps_count, left_of-front, left_of-back}
use Rattle.fence.proofs.EndingLemmas.{run_keeps_count}
use Rattle.fence.specs.Port.{PortState}
use Rattle.fence.specs.Writes.{HaltsIn}
use Rattle.fence.specs.declared.port_halt.PortHalt.{PortHalt}
use Rattle.fence.specs.declared.port_halt.PortHalt.TheVariants.{Failed as Portfailed, Stopped as Portstopped}
use Rattle.fence.proofs.RunsLemmas.{all_after, halt_cut}
use Rattle.journal.specs.declared.replay_halt.ReplayHalt.{ReplayHalt}
use Rattle.journal.specs.declared.replay_halt.ReplayHalt.TheVariants.{Fenced, Failed, Stopped, Damaged}
use Rattle.journal.specs.Layout.{body, gate_of, homes_in, is_header, opens, outside, sector, spelled, with_contents}
use Rattle.journal.specs.Commit.{replayed, IsClosed}
use Rattle.journal.specs.Replay.{replay_writes}
use Rattle.journal.specs.Replays.{Replays, KeepsVolume}
use Rattle.journal.proofs.AfterCommit.{last_stands, told_after}
use Rattle.journal.proofs.Copies.{good_header, length-body, length-numbers_in, with_out}
use Rattle.journal.proofs.Law.{Either, Open, Spells, ending, open_replays, replays_closed, gate_closes}
use Rattle.journal.proofs.Moments.{at_cut_open}
use Rattle.journal.proofs.Sectors.{outside_written}
use Rattle.std.specs.Prelude.{slice_index, drop}
use Rattle.cal_base.specs.Limits as limits
use Rattle.shared_disk.specs.Homes.{are_ascending}

sectors_of-with : (ns : List ℕ) (cs : List (List ℕ)) → length ns ≤ length cs → sectors_of (with_contents ns cs) ≡ ns
sectors_of-with [] cs h = refl
sectors_of-with (n ∷ ns) [] h = absurd (omega arith)
sectors_of-with (n ∷ ns) (c ∷ cs) h = ap (λ (xs : List ℕ). n ∷ xs) (sectors_of-with ns cs (omega arith))

length-with : (ns : List ℕ) (cs : List (List ℕ)) → length ns ≤ length cs → length (with_contents ns cs) ≡ length ns
length-with [] cs h = refl
length-with (n ∷ ns) [] h = absurd (omega arith)
length-with (n ∷ ns) (c ∷ cs) h = let e = length-with ns cs (omega arith) in omega arith

-- the journal's body spells a transaction, where its header is in its grammar
record Spelt (s : List (List ℕ)) : Type 0 where
  pub txn : IsTransaction (spelled s)
  pub spells : Spells (spelled s) s

spelt : (s : List (List ℕ)) → length s ≡ limits.sectors → is_header (sector s 2) ≡ true → Spelt s
spelt s l good =
    let g = good_header (sector s 2) good in
    let few = g.few in
    let some = g.some in
    let ns = homes_in (sector s 2) in
    let many : length ns ≡ slice_index (sector s 2) 0 = length-numbers_in (slice_index (sector s 2) 0) (drop 1 (sector s 2)) in
    let long = length-body s l in
    let enough : length ns ≤ length (body s) = omega arith in
    let names = sectors_of-with ns (body s) enough in
    let size = length-with ns (body s) enough in
    record {
      txn = record { some = omega arith; few = omega arith; ascending = subst (λ (xs : List ℕ). IsTrue (are_ascending 0 xs)) (sym names) g.ascending };
      spells = record { long = l; good = good; names = sym names; contents = ap (λ (xs : List ℕ). with_contents xs (body s)) names };
    }

-- the replayed volume of an open gate is the volume with the homes that are spelled
record OpenAt (s volume : List (List ℕ)) : Type 0 where
  pub is : Spelt s
  pub open_now : Open (spelled s) volume s
  pub volume_is : written (outside s) (spelled s) ≡ volume

open_at : (s volume : List (List ℕ)) → length s ≡ limits.sectors → opens (sector s 1) ≡ true → is_header (sector s 2) ≡ true → replayed s ≡ Some volume → OpenAt s volume
open_at s volume l o good h =
    let is = spelt s l good in
    let g = good_header (sector s 2) good in
    let out = outside_written (spelled s) (with_out (homes_in (sector s 2)) (body s) 0 g.ascending) s in
    let first : Open (spelled s) (written (outside s) (spelled s)) s = record { gate = o; spelt = is.spells; ends = out } in
    let both : Some (written (outside s) (spelled s)) ≡ Some volume = sym (open_replays (spelled s) _ s first) ∙ h in
    let same : written (outside s) (spelled s) ≡ volume = cc in
    record { is = is; open_now = record { gate = o; spelt = is.spells; ends = out ∙ same }; volume_is = same }

cut_open : (s volume : List (List ℕ)) (k : ℕ) (t : Option (List ℕ)) → OpenAt s volume → replayed (written s (left_of (spelled s ++ (1, gate_of 0) ∷ []) k t)) ≡ Some volume
cut_open s volume k t a =
    let now = subst (λ (v : List (List ℕ)). Open (spelled s) v s) (sym a.volume_is) a.open_now in
    at_cut_open (Either s (spelled s)) s (spelled s ++ (1, gate_of 0) ∷ []) (ending s (spelled s) s a.is.txn now) k t ∙ ap Some a.volume_is

no_volume : (s volume : List (List ℕ)) → opens (sector s 1) ≡ true → is_header (sector s 2) ≡ false → replayed s ≡ Some volume → ⊥
no_volume s volume o bad h =
    let none : replayed s ≡ None = ap (λ (b : Bool). if b then (if is_header (sector s 2) then Some (outside (written s (spelled s))) else None) else Some (outside s)) o
    ∙ ap (λ (b : Bool). if b then Some (outside (written s (spelled s))) else None) bad in
    absurd (cc)

stable_by : (b g : Bool) (s volume : List (List ℕ)) (k : ℕ) (t : Option (List ℕ)) → length s ≡ limits.sectors → opens (sector s 1) ≡ b → is_header (sector s 2) ≡ g → replayed s ≡ Some volume
    → replayed (written s (left_of (if b then spelled s ++ (1, gate_of 0) ∷ [] else []) k t)) ≡ Some volume
stable_by false g s volume k t l o good h = h
stable_by true true s volume k t l o good h = cut_open s volume k t (open_at s volume l o good h)
stable_by true false s volume k t l o good h = absurd (no_volume s volume o good h)

pub stable : (s volume : List (List ℕ)) (k : ℕ) (t : Option (List ℕ)) → length s ≡ limits.sectors → replayed s ≡ Some volume → replayed (written s (left_of (replay_writes s) k t)) ≡ Some volume
stable s volume k t l h = stable_by (opens (sector s 1)) (is_header (sector s 2)) s volume k t l refl refl h

-- after all of its writes the gate is closed
closed_by : (b : Bool) (s : List (List ℕ)) → length s ≡ limits.sectors → opens (sector s 1) ≡ b → IsClosed (written s (if b then spelled s ++ (1, gate_of 0) ∷ [] else []))
closed_by false s l o = o
closed_by true s l o = ap opens (last_stands (spelled s) s 1 (gate_of 0) (omega arith)) ∙ gate_closes

keeps_at : (s volume : List (List ℕ)) (made : List (ℕ × List ℕ)) (halt : ReplayHalt) (d d' : Disk) → d.sectors ≡ Some s → d' ≡ after d made → replayed (written s made) ≡ Some volume → KeepsVolume volume (Err halt) d'
keeps_at s volume made halt d d' told e law = record { sectors_now = written s made; told = told_after s made d d' told e; replays = law; closed = tt }

keeps_same : (s volume : List (List ℕ)) (halt : ReplayHalt) (d d' : Disk) → d.sectors ≡ Some s → d' ≡ d → replayed s ≡ Some volume → KeepsVolume volume (Err halt) d'
keeps_same s volume halt d d' told e law = record { sectors_now = s; told = ap (λ (x : Disk). x.sectors) e ∙ told; replays = law; closed = tt }

-- a halt within the first of some writes
keeps_cut : (s volume : List (List ℕ)) (tried rest : List (ℕ × List ℕ)) (cause : PortHalt) (halt : ReplayHalt) (p : PortState) (d : Disk) (p' : PortState) (d' : Disk) → d.sectors ≡ Some s → length s ≡ limits.sectors → replayed s ≡ Some volume → replay_writes s ≡ tried ++ rest
    → HaltsIn p d tried cause p' d' → KeepsVolume volume (Err halt) d'
keeps_cut s volume tried rest cause halt p d p' d' told l h split a =
    let c = halt_cut tried p d cause p' d' a in
    let law : replayed (written s (left_of tried c.made c.torn)) ≡ Some volume =
    ap (λ (ws : List (ℕ × List ℕ)). replayed (written s ws)) (sym (left_of-front tried rest c.made c.torn c.some_left) ∙ ap (λ (ws : List (ℕ × List ℕ)). left_of ws c.made c.torn) (sym split)) ∙ stable s volume c.made c.torn l h in
    keeps_at s volume (left_of tried c.made c.torn) halt d d' told c.changed law

none_left : (ws : List (ℕ × List ℕ)) → left_of ws 0 None ≡ []
none_left [] = refl
none_left (w ∷ ws) = refl

-- all of the first writes
front_law : (s volume : List (List ℕ)) (tried rest : List (ℕ × List ℕ)) → length s ≡ limits.sectors → replayed s ≡ Some volume → replay_writes s ≡ tried ++ rest → replayed (written s tried) ≡ Some volume
front_law s volume tried rest l h split =
    let first : tried ≡ left_of (tried ++ rest) (length tried + 0) None = sym (append-nil tried) ∙ ap (λ (ws : List (ℕ × List ℕ)). tried ++ ws) (sym (none_left rest)) ∙ left_of-back tried rest 0 None in
    ap (λ (ws : List (ℕ × List ℕ)). replayed (written s ws)) (first ∙ ap (λ (ws : List (ℕ × List ℕ)). left_of ws (length tried + 0) None) (sym split)) ∙ stable s volume (length tried + 0) None l h

pub replay_keeps : (s volume : List (List ℕ)) (p : PortState) (d : Disk) (f : ℕ) (r : Result (Unit {0}) ReplayHalt) (p' : PortState) (d' : Disk) (f' : ℕ) → Replays p d f r p' d' f' → d.sectors ≡ Some s → length s ≡ limits.sectors → replayed s ≡ Some volume → KeepsVolume volume r d'
replay_keeps s volume p d f (Ok done) p' d' f' a told whole h =
    let x = a.told s told whole in
    let all : replay_writes s ≡ a.tried = x.split ∙ ap (λ (ws : List (ℕ × List ℕ)). a.tried ++ ws) x.whole ∙ append-nil a.tried in
    let law = front_law s volume a.tried x.rest whole h x.split in
    let shut : IsClosed (written s a.tried) = subst (λ (ws : List (ℕ × List ℕ)). IsClosed (written s ws)) all (closed_by (opens (sector s 1)) s whole refl) in
    let both : Some (outside (written s a.tried)) ≡ Some volume = sym (replays_closed (written s a.tried) shut) ∙ law in
    let same : outside (written s a.tried) ≡ volume = cc in
    record {
      sectors_now = written s a.tried;
      told = told_after s a.tried d d' told (all_after a.tried p d p' d' a.ends.1.makes);
      replays = law;
      closed = (shut, same);
    }
replay_keeps s volume p d f (Err (Fenced mine current)) p' d' f' a told whole h = keeps_same s volume (Fenced mine current) d d' told a.ends.1.unchanged h
replay_keeps s volume p d f (Err Failed) p' d' f' a told whole h =
    let x = a.told s told whole in
    elim a.ends.1 [
      | inl y ↦ keeps_cut s volume a.tried x.rest _ Failed p d p' d' told whole h x.split y.makes
      | inr y ↦ keeps_at s volume a.tried Failed d d' told (all_after a.tried p d p' d' y.0.makes) (front_law s volume a.tried x.rest whole h x.split)
    ]
replay_keeps s volume p d f (Err Stopped) p' d' f' a told whole h =
    let x = a.told s told whole in
    keeps_cut s volume a.tried x.rest _ Stopped p d p' d' told whole h x.split a.ends.1.makes
replay_keeps s volume p d f (Err (Damaged at)) p' d' f' a told whole h = keeps_same s volume (Damaged at) d d' told a.ends.2.unchanged h

same_count : (d d' : Disk) → d' ≡ d → KeepsCount d d'
same_count d d' e = keeps_count d d' [] (e ∙ sym (after-nil d))

-- a replay leaves as many sectors as there were
pub replay_keeps_count : (p : PortState) (d : Disk) (f : ℕ) (r : Result (Unit {0}) ReplayHalt) (p' : PortState) (d' : Disk) (f' : ℕ) → Replays p d f r p' d' f' → KeepsCount d d'
replay_keeps_count p d f (Ok done) p' d' f' a = run_keeps_count a.tried p d (Ok tt) p' d' a.ends.1.makes
replay_keeps_count p d f (Err (Fenced mine current)) p' d' f' a = same_count d d' a.ends.1.unchanged
replay_keeps_count p d f (Err Failed) p' d' f' a = elim a.ends.1 [
  | inl y ↦ run_keeps_count a.tried p d (Err Portfailed) p' d' y.makes
  | inr y ↦ run_keeps_count a.tried p d (Ok tt) p' d' y.0.makes
]
replay_keeps_count p d f (Err Stopped) p' d' f' a = run_keeps_count a.tried p d (Err Portstopped) p' d' a.ends.1.makes
replay_keeps_count p d f (Err (Damaged at)) p' d' f' a = same_count d d' a.ends.2.unchanged
