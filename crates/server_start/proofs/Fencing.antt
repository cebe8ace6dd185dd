-- How the opening of a disk ends, by how the fence was taken.
use Rattle.std.proofs.Common.{◌≡◌, ◌≢◌, ◌≤◌, ◌<◌, ◌⊎◌, ◌∷◌, [], ℕ, max, true, List, Option, Some, None, Err, inl, inr, refl, sym, ap, subst, ◌∙◌, arith}
use Rattle.std.proofs.lemmas.Bool.{cases_lt}
use Rattle.cal_base.specs.Faults.{Rose}
use Rattle.cluster_law.specs.DiskRules.{HasKey, IsWithinStop, WritesOn}
use Rattle.cluster_law.specs.Noted.{DiskAt}
use Rattle.cluster_law.specs.declared.node.ServerHalted.{ServerHalted}
use Rattle.cluster_law.specs.declared.step.Halt.{Halt}
use Rattle.cluster_law.specs.declared.step.Halt.TheVariants.{Fenced, Failed, Stopped, Damaged}
use Rattle.fence.specs.Port.{Kept, PortState, Takes, TakesKey}
use Rattle.journal.specs.Replay.{replay_length, replay_writes}
use Rattle.shared_disk.specs.Disk.{Disk}
use Rattle.shared_disk.specs.declared.disk_refusal.DiskRefusal.{DiskRefusal}
use Rattle.shared_disk.specs.declared.disk_refusal.DiskRefusal.TheVariants.{Fenced as Refenced, Failed as Refailed}
use Rattle.shared_disk.specs.declared.stop.Stop.{Stop}
use Rattle.volume.specs.Volume.{Volume}
use Rattle.server_start.specs.Disks.{IsAt, StandsSo}
use Rattle.server_start.specs.Halting.{refusal_halt}
use Rattle.server_start.specs.Opening.{HaltsSo, IsOpen, IsRead, IsReady, IsReplayed}
use Rattle.server_start.specs.declared.opening.Opened.{Opened}

-- a disk with the view's key, and so many faults
abbrev pub with-key : DiskAt → ℕ → ℕ → DiskAt
with-key before key faults = record { sectors = before.sectors; key = key; faults = faults }

no-write : (stop : Option Stop) → IsWithinStop stop []
no-write None = tt
no-write (Some s) = omega arith

-- the fence was refused, since a higher view had fenced the disk
refused : (view : ℕ) (stop : Option Stop) (before : DiskAt) (mine current : ℕ) (f' : ℕ) → mine ≡ view → current ≡ max before.key view → max before.key view ≢ view → before.faults ≤ f'
    → WritesOn true view (replay_writes before.sectors) stop before (with-key before (max before.key view) f') [] (Some (Fenced (record { 0 = mine }) (record { 0 = current })))
refused view stop before mine current f' mine-is current-is other later =
    let higher : view < before.key = above (max before.key view) refl in
    record {
      ends = (mine-is, current-is ∙ omega (arith, higher), (λ same. other (omega (arith, same))), refl);
      key = λ lower. absurd (omega (arith, higher, lower));
      own = higher;
      sectors = refl;
      faults = later;
    }
  where
    above : (top : ℕ) → max before.key view ≡ top → view < before.key
    above top is = elim (cases_lt view before.key) as (λ _. view < before.key) [
      | inl higher ↦ higher
      | inr lower ↦ absurd (other (omega (arith, lower)))
    ]

-- the fence failed
failed : (view : ℕ) (stop : Option Stop) (before : DiskAt) (key f' : ℕ) → (key ≡ view) ⊎ (key ≡ before.key) → Rose before.faults f' → before.faults ≤ f'
    → WritesOn true view (replay_writes before.sectors) stop before (with-key before key f') [] (Some (Failed f'))
failed view stop before key f' is rose later = record {
  ends = (refl, rose, refl, no-write stop);
  key = is;
  own = tt;
  sectors = ([], tt, refl);
  faults = later;
}

-- a failed fence left the key or raised it
left-key : (view key : ℕ) → (max key view ≡ view) ⊎ (max key view ≡ key)
left-key view key = elim (cases_lt view key) as (λ _. (max key view ≡ view) ⊎ (max key view ≡ key)) [
  | inl higher ↦ inr (omega (arith, higher))
  | inr lower ↦ inl (omega (arith, lower))
]

-- the fence was not taken
pub not-taken : (view : ℕ) (stop : Option Stop) (before : DiskAt) (d : Disk) (f : ℕ) (refusal : DiskRefusal) (halted : ServerHalted) (d' : Disk) (f' : ℕ) → IsAt d f before → Takes d view (Err refusal) d' → (refusal ≡ Refailed → Rose f f') → f ≤ f'
    → halted.writes ≡ [] → halted.entries ≡ [] → halted.halt ≡ refusal_halt refusal f' → StandsSo d' f' (HaltsSo view stop before halted)
not-taken view stop before d f refusal halted d' f' is takes rose later none empty halt =
    let now = by refusal takes rose in
    record {
      at = now.at;
      is_at = now.is_at;
      holds = record {
        replays =
            subst (λ (h : Halt). IsReplayed view stop before halted.writes (Some h) now.at) (sym halt)
            (subst (λ (xs : List (ℕ × List ℕ)). IsReplayed view stop before xs (Some (refusal_halt refusal f')) now.at) (sym none) now.holds);
        entries = empty;
      };
    }
  where
    faults : before.faults ≤ f'
    faults = let same = is.faults_are in omega (arith, same, later)

    standing : (key : ℕ) → d'.sectors ≡ d.sectors → key ≡ d'.key → IsAt d' f' (with-key before key f')
    standing key same own = record { sectors = same ∙ is.sectors; key = own; faults_are = refl }

    by : (refusal : DiskRefusal) → Takes d view (Err refusal) d' → (refusal ≡ Refailed → Rose f f') → StandsSo d' f' (IsReplayed view stop before [] (Some (refusal_halt refusal f')))
    by (Refenced mine current) takes rose =
        let top : max before.key view ≡ d'.key = ap (λ (k : ℕ). max k view) is.key ∙ sym (ap (λ (x : Disk). x.key) takes.fenced_is) in
        record {
          at = with-key before (max before.key view) f';
          is_at = standing (max before.key view) (ap (λ (x : Disk). x.sectors) takes.fenced_is) top;
          holds = record {
            writes_on = refused view stop before mine.0 current.0 f' takes.met.mine_is (takes.met.current_is ∙ sym top) (λ same. takes.met.other (sym top ∙ same)) faults;
            keeps = λ own given. given;
          };
        }
    by Refailed takes rose =
        let risen : Rose before.faults f' = (let r = rose refl in let same = is.faults_are in omega (arith, r, same)) in
        elim takes as (λ _. StandsSo d' f' (IsReplayed view stop before [] (Some (Failed f')))) [
          | inl same ↦ record {
            at = with-key before before.key f';
            is_at = standing before.key (ap (λ (x : Disk). x.sectors) same) (is.key ∙ sym (ap (λ (x : Disk). x.key) same));
            holds = record { writes_on = failed view stop before before.key f' (inr refl) risen faults; keeps = λ own given. given };
          }
          | inr raised ↦ record {
            at = with-key before (max before.key view) f';
            is_at = standing (max before.key view) (ap (λ (x : Disk). x.sectors) raised) (ap (λ (k : ℕ). max k view) is.key ∙ sym (ap (λ (x : Disk). x.key) raised));
            holds = record { writes_on = failed view stop before (max before.key view) f' (left-key view before.key) risen faults; keeps = λ own given. given };
          }
        ]

-- the disk as a fence that was taken leaves it
pub taken-at : (view : ℕ) (before : DiskAt) (d : Disk) (f : ℕ) (p : PortState) (d' : Disk) (f' : ℕ) → IsAt d f before → TakesKey d view p d' → IsAt d' f' (with-key before view f')
taken-at view before d f p d' f' is takes = record { sectors = ap (λ (x : Disk). x.sectors) takes.fenced_is ∙ is.sectors; key = sym takes.own; faults_are = refl }

-- what is written from the fence on is what the boot writes
from-fence : (view : ℕ) (planned : List (ℕ × List ℕ)) (stop : Option Stop) (before : DiskAt) (f1 : ℕ) (now : DiskAt) (writes : List (ℕ × List ℕ)) (halt : Option Halt) → max before.key view ≡ view → before.faults ≤ f1
    → WritesOn true view planned stop (with-key before view f1) now writes halt → WritesOn true view planned stop before now writes halt
from-fence view planned stop before f1 now writes None own later on = record {
  ends = on.ends;
  key = key writes on.key;
  own = tt;
  sectors = on.sectors;
  faults = (let more = on.faults in omega (arith, more, later));
}
  where
    key : (writes : List (ℕ × List ℕ)) → HasKey true view view writes None now.key → HasKey true view before.key writes None now.key
    key [] is = λ _. is (omega arith)
    key (w ∷ ws) is = λ _. is (omega arith)
from-fence view planned stop before f1 now writes (Some (Fenced mine current)) own later on = absurd (on.ends.2 refl)
from-fence view planned stop before f1 now writes (Some (Failed faults)) own later on = record {
  ends = (on.ends.0, (let rose = on.ends.1 in omega (arith, rose, later)), on.ends.2, on.ends.3);
  key = key writes on.key;
  own = tt;
  sectors = on.sectors;
  faults = (let more = on.faults in omega (arith, more, later));
}
  where
    key : (writes : List (ℕ × List ℕ)) → HasKey true view view writes (Some (Failed faults)) now.key → HasKey true view before.key writes (Some (Failed faults)) now.key
    key [] is = elim is [ inl there ↦ inl there | inr there ↦ inl there ]
    key (w ∷ ws) is = λ _. is (omega arith)
from-fence view planned stop before f1 now writes (Some Stopped) own later on = record {
  ends = on.ends;
  key = key writes on.key;
  own = tt;
  sectors = on.sectors;
  faults = (let more = on.faults in omega (arith, more, later));
}
  where
    key : (writes : List (ℕ × List ℕ)) → HasKey true view view writes (Some Stopped) now.key → HasKey true view before.key writes (Some Stopped) now.key
    key [] is = λ _. is (omega arith)
    key (w ∷ ws) is = λ _. is (omega arith)
from-fence view planned stop before f1 now writes (Some (Damaged sector)) own later on = record {
  ends = on.ends;
  key = key writes on.key;
  own = tt;
  sectors = on.sectors;
  faults = (let more = on.faults in omega (arith, more, later));
}
  where
    key : (writes : List (ℕ × List ℕ)) → HasKey true view view writes (Some (Damaged sector)) now.key → HasKey true view before.key writes (Some (Damaged sector)) now.key
    key [] is = λ _. is (omega arith)
    key (w ∷ ws) is = λ _. is (omega arith)

-- the key was no higher
pub no-higher : (view : ℕ) (before : DiskAt) (d : Disk) (f : ℕ) (p : PortState) (d' : Disk) → IsAt d f before → TakesKey d view p d' → max before.key view ≡ view
no-higher view before d f p d' is takes = ap (λ (k : ℕ). max k view) is.key ∙ sym (ap (λ (x : Disk). x.key) takes.fenced_is) ∙ takes.own

-- a replay from the fence on is one of the boot
pub replayed-from : (view : ℕ) (stop : Option Stop) (before : DiskAt) (f1 : ℕ) (writes : List (ℕ × List ℕ)) (halt : Option Halt) (now : DiskAt) → max before.key view ≡ view → before.faults ≤ f1
    → IsReplayed view stop (with-key before view f1) writes halt now → IsReplayed view stop before writes halt now
replayed-from view stop before f1 writes halt now own later replays = record {
  writes_on = from-fence view (replay_writes before.sectors) stop before f1 now writes halt own later replays.writes_on;
  keeps = replays.keeps;
}

pub read-from : (view : ℕ) (stop : Option Stop) (before : DiskAt) (f1 : ℕ) (writes : List (ℕ × List ℕ)) (volume : Volume) (now : DiskAt) → max before.key view ≡ view → before.faults ≤ f1
    → IsRead view stop (with-key before view f1) writes volume now → IsRead view stop before writes volume now
read-from view stop before f1 writes volume now own later read = record {
  replays = replayed-from view stop before f1 writes None now own later read.replays;
  mounted = record {
    own = read.mounted.own;
    before_is = read.mounted.before_is;
    after_is = read.mounted.after_is;
    spells = read.mounted.spells;
    is_volume = read.mounted.is_volume;
  };
}

-- a port that was armed and keeps writes in an empty list
pub ready : (stop : Option Stop) (p p1 p2 : PortState) (writes : List (ℕ × List ℕ)) (space : ℕ) → p1 ≡ record p { accepted = 0; stop = stop } → p2 ≡ record p1 { kept = record { writes = writes; space = space } } → writes ≡ [] → replay_length ≤ space
    → IsReady stop p2
ready stop p p1 p2 writes space armed keeps empty room = record {
  accepted = ap (λ (q : PortState). q.accepted) keeps ∙ ap (λ (q : PortState). q.accepted) armed;
  stop_is = ap (λ (q : PortState). q.stop) keeps ∙ ap (λ (q : PortState). q.stop) armed;
  kept = ap (λ (q : PortState). q.kept.writes) keeps ∙ empty;
  space = (let same = ap (λ (q : PortState). q.kept.space) keeps in omega (arith, same, room));
}

-- it is of the view for which it was taken
pub ready-view : (view : ℕ) (stop : Option Stop) (d d' : Disk) (p p1 p2 : PortState) (kept : Kept) → TakesKey d view p d' → p1 ≡ record p { accepted = 0; stop = stop } → p2 ≡ record p1 { kept = kept } → p2.view ≡ view
ready-view view stop d d' p p1 p2 kept takes armed keeps =
    ap (λ (q : PortState). q.view) keeps ∙ ap (λ (q : PortState). q.view) armed ∙ ap (λ (q : PortState). q.view) takes.port_is

-- the room is as it was before the fence
pub room-left : (view : ℕ) (d d' : Disk) (p : PortState) → TakesKey d view p d' → replay_length ≤ d.room → replay_length ≤ d'.room
room-left view d d' p takes room =
    let same = ap (λ (x : Disk). x.room) takes.fenced_is in
    omega (arith, same, room)

-- what was read from the fence on
pub opens : (view at : ℕ) (stop : Option Stop) (before : DiskAt) (f1 : ℕ) (kept : List (ℕ × List ℕ)) (opened : Opened) (volume : Volume) (d' : Disk) (f' : ℕ) → at ≡ view → max before.key view ≡ view → before.faults ≤ f1 → opened.port.view ≡ at → opened.writes ≡ kept
    → StandsSo d' f' (IsRead at stop (with-key before view f1) kept volume) → StandsSo d' f' (IsOpen view stop before opened volume)
opens view at stop before f1 kept opened volume d' f' same own later port writes read =
    let there = subst (λ (xs : List (ℕ × List ℕ)). StandsSo d' f' (IsRead view stop (with-key before view f1) xs volume)) (sym writes) (subst (λ (v : ℕ). StandsSo d' f' (IsRead v stop (with-key before view f1) kept volume)) same read) in
    record {
      at = there.at;
      is_at = there.is_at;
      holds = record { port = port ∙ same; read = read-from view stop before f1 opened.writes volume there.at own later there.holds };
    }

-- or what halted
pub halts : (view at : ℕ) (stop : Option Stop) (before : DiskAt) (f1 : ℕ) (kept : List (ℕ × List ℕ)) (halted : ServerHalted) (d' : Disk) (f' : ℕ) → at ≡ view → max before.key view ≡ view → before.faults ≤ f1 → halted.writes ≡ kept → halted.entries ≡ []
    → StandsSo d' f' (IsReplayed at stop (with-key before view f1) kept (Some halted.halt)) → StandsSo d' f' (HaltsSo view stop before halted)
halts view at stop before f1 kept halted d' f' same own later writes empty read =
    let there = subst (λ (xs : List (ℕ × List ℕ)). StandsSo d' f' (IsReplayed view stop (with-key before view f1) xs (Some halted.halt))) (sym writes) (subst (λ (v : ℕ). StandsSo d' f' (IsReplayed v stop (with-key before view f1) kept (Some halted.halt))) same read) in
    record {
      at = there.at;
      is_at = there.is_at;
      holds = record { replays = replayed-from view stop before f1 halted.writes (Some halted.halt) there.at own later there.holds; entries = empty };
    }
