-- What a replay does to a disk that tells its sectors.
use Rattle.std.proofs.Common.{◌≡◌, ◌<◌, ◌≤◌, ◌∷◌, ◌++◌, [], ℕ, true, List, length, take, Option, Some, None, Result, Ok, Err, append-nil, inl, inr, refl, sym, ap, subst, ◌∙◌, arith}
use Rattle.std.specs.Prelude.{IsSome, unwrap_or}
use Rattle.std.specs.List.{slice_get}
use Rattle.std.proofs.lemmas.List.{length-append, length-take-le, take-append-le, take_all}
use Rattle.cal_base.specs.Limits as limits
use Rattle.cal_base.specs.Faults.{Rose}
use Rattle.cluster_law.specs.DiskRules.{HasKey, IsDueAfter, IsWithinStop, WritesOn}
use Rattle.cluster_law.specs.Noted.{DiskAt}
use Rattle.cluster_law.specs.declared.step.Halt.{Halt}
use Rattle.cluster_law.specs.declared.step.Halt.TheVariants.{Fenced, Failed, Stopped, Damaged}
use Rattle.fence.specs.Port.{PortState}
use Rattle.fence.specs.declared.port_halt.PortHalt.TheVariants.{Failed as PortFailed, Stopped as PortStopped}
use Rattle.fence.proofs.EndingLemmas.{counts_and_keeps, ends_as}
use Rattle.journal.specs.Commit.{replayed}
use Rattle.journal.specs.Layout.{outside}
use Rattle.journal.specs.Replay.{replay_writes}
use Rattle.journal.specs.Replays.{KeepsVolume, Replays}
use Rattle.journal.specs.declared.replay_halt.ReplayHalt.{ReplayHalt}
use Rattle.journal.specs.declared.replay_halt.ReplayHalt.TheVariants.{Fenced as ReplayFenced, Failed as ReplayFailed, Stopped as ReplayStopped, Damaged as ReplayDamaged}
use Rattle.shared_disk.specs.Disk.{Disk, after, written_if_told}
use Rattle.shared_disk.specs.Sectors.{left_of, written}
use Rattle.shared_disk.specs.declared.stop.Stop.{Stop}
use Rattle.shared_disk.proofs.Changes.{after-nil}
use Rattle.volume.specs.Volume.{SpellsVolume, Volume}
use Rattle.server_start.specs.Disks.{IsAt, StandsSo}
use Rattle.server_start.specs.Halting.{replay_halt}
use Rattle.server_start.specs.Opening.{IsReady, IsReplayed}
use Rattle.server_start.proofs.Running.{all-within, failed-within, front, left-few, made, stopped-front, torn}

-- a disk as some changes leave it
abbrev pub changed : DiskAt → List (ℕ × List ℕ) → ℕ → DiskAt
changed before changes faults = record { sectors = written before.sectors changes; key = before.key; faults = faults }

pub changed-at : (before : DiskAt) (d d' : Disk) (f f' : ℕ) (changes : List (ℕ × List ℕ)) → IsAt d f before → d' ≡ after d changes → IsAt d' f' (changed before changes f')
changed-at before d d' f f' changes is same = record {
  sectors = ap (λ (x : Disk). x.sectors) same ∙ ap (λ (o : Option (List (List ℕ))). written_if_told o changes) is.sectors;
  key = is.key ∙ sym (ap (λ (x : Disk). x.key) same);
  faults_are = refl;
}

-- a key that is the view's
pub has-key : (view key key' : ℕ) (writes : List (ℕ × List ℕ)) (halt : Option Halt) → key' ≡ view → HasKey true view key writes halt key'
has-key view key key' [] None own = λ _. own
has-key view key key' [] (Some (Fenced mine current)) own = λ _. own
has-key view key key' [] (Some (Failed faults)) own = inl own
has-key view key key' [] (Some Stopped) own = λ _. own
has-key view key key' [] (Some (Damaged sector)) own = λ _. own
has-key view key key' (write ∷ writes) halt own = λ _. own

-- where a list lies before a stop, the stop isn't due in it
due-after : (stop : Option Stop) (writes : List (ℕ × List ℕ)) → IsWithinStop stop writes → IsDueAfter writes stop
due-after None writes within = tt
due-after (Some s) writes within = within

-- all was written
pub all-on : (view : ℕ) (stop : Option Stop) (before : DiskAt) (planned : List (ℕ × List ℕ)) (f' : ℕ) → before.key ≡ view → before.faults ≤ f' → IsWithinStop stop planned
    → WritesOn true view planned stop before (changed before planned f') planned None
all-on view stop before planned f' own later within = record {
  ends = (refl, due-after stop planned within);
  key = has-key view before.key before.key planned None own;
  own = tt;
  sectors = refl;
  faults = later;
}

-- so many of the writes were made, and then a call failed that left nothing
pub read-failed-on : (view : ℕ) (stop : Option Stop) (before : DiskAt) (planned tried rest : List (ℕ × List ℕ)) (f' : ℕ) → planned ≡ tried ++ rest → before.key ≡ view → Rose before.faults f' → before.faults ≤ f' → IsWithinStop stop tried
    → WritesOn true view planned stop before (changed before tried f') tried (Some (Failed f'))
read-failed-on view stop before planned tried rest f' split own rose later within = record {
  ends = (refl, rose, subst (λ (xs : List (ℕ × List ℕ)). tried ≡ take (length tried) xs) (sym split) (sym (take-append-le (length tried) tried rest (omega arith) ∙ take_all (length tried) tried (omega arith))), within);
  key = has-key view before.key before.key tried (Some (Failed f')) own;
  own = tt;
  sectors = ([], tt, ap (written before.sectors) (sym (append-nil tried)));
  faults = later;
}

-- a write failed
pub write-failed-on : (view : ℕ) (stop : Option Stop) (before : DiskAt) (planned tried rest : List (ℕ × List ℕ)) (made : ℕ) (bytes : List ℕ) (f' : ℕ) → planned ≡ tried ++ rest → before.key ≡ view → Rose before.faults f' → before.faults ≤ f'
    → made < length tried → length bytes ≡ limits.block_size → IsWithinStop stop (take made tried)
    → WritesOn true view planned stop before (changed before (left_of tried made (Some bytes)) f') (take made tried) (Some (Failed f'))
write-failed-on view stop before planned tried rest made bytes f' split own rose later within whole few =
    let there = torn tried rest made bytes within in
    let count = length-take-le made tried (omega (arith, within)) in
    record {
      ends = (refl, rose, subst (λ (xs : List (ℕ × List ℕ)). take made tried ≡ take (length (take made tried)) xs) (sym split) (front tried rest made (omega (arith, within))), few);
      key = has-key view before.key before.key (take made tried) (Some (Failed f')) own;
      own = tt;
      sectors = (
        (there.next.0, bytes) ∷ [],
        (there.next, subst (λ (n : ℕ). slice_get planned n ≡ Some there.next) (sym count) (subst (λ (xs : List (ℕ × List ℕ)). slice_get xs made ≡ Some there.next) (sym split) there.next_is), refl, whole),
        ap (written before.sectors) there.left,
      );
      faults = later;
    }

-- a stop came
pub stopped-on : (view : ℕ) (s : Stop) (before : DiskAt) (planned tried rest : List (ℕ × List ℕ)) (made f' : ℕ) → planned ≡ tried ++ rest → before.key ≡ view → before.faults ≤ f' → made < length tried → s.after ≡ made
    → WritesOn true view planned (Some s) before (changed before (left_of tried made s.torn) f') (left_of tried made s.torn) (Some Stopped)
stopped-on view s before planned tried rest made f' split own later within due =
    let longer = length-append tried rest in
    let count : length planned ≡ length (tried ++ rest) = ap length split in
    record {
      ends = (
        omega (arith, within, due, longer, count),
        stopped-front tried rest made s.torn within ∙ ap (λ (xs : List (ℕ × List ℕ)). left_of xs made s.torn) (sym split) ∙ ap (λ (n : ℕ). left_of planned n s.torn) (sym due),
      );
      key = has-key view before.key before.key (left_of tried made s.torn) (Some Stopped) own;
      own = tt;
      sectors = refl;
      faults = later;
    }

-- the sectors are damaged, once these writes were made
pub damaged-on : (view : ℕ) (stop : Option Stop) (before : DiskAt) (planned tried rest : List (ℕ × List ℕ)) (sector f' : ℕ) → planned ≡ tried ++ rest → before.key ≡ view → before.faults ≤ f' → IsWithinStop stop tried
    → ((volume : Volume) (sectors : List (List ℕ)) → replayed (written before.sectors tried) ≡ Some sectors → SpellsVolume sectors volume → ⊥)
    → WritesOn true view planned stop before (changed before tried f') tried (Some (Damaged sector))
damaged-on view stop before planned tried rest sector f' split own later within bad = record {
  ends = (refl, bad, subst (λ (xs : List (ℕ × List ℕ)). tried ≡ take (length tried) xs) (sym split) (sym (take-append-le (length tried) tried rest (omega arith) ∙ take_all (length tried) tried (omega arith))), within);
  key = has-key view before.key before.key tried (Some (Damaged sector)) own;
  own = tt;
  sectors = refl;
  faults = later;
}

-- what a replay says of the volume
abbrev pub Keeps : Disk → Result (Unit {0}) ReplayHalt → Disk → Type 0
Keeps d r d' = (sectors volume : List (List ℕ)) → d.sectors ≡ Some sectors → length sectors ≡ limits.sectors → replayed sectors ≡ Some volume → KeepsVolume volume r d'

-- the sectors, replayed, stay the same
pub same-volume : (d : Disk) (f : ℕ) (before : DiskAt) (d' : Disk) (f' : ℕ) (after : DiskAt) (r : Result (Unit {0}) ReplayHalt) → IsAt d f before → length before.sectors ≡ limits.sectors → IsAt d' f' after → Keeps d r d'
    → (own : List (List ℕ)) → replayed before.sectors ≡ Some own → replayed after.sectors ≡ Some own
same-volume d f before d' f' after r is whole is' keeps own replays =
    let kept = keeps before.sectors own is.sectors whole replays in
    let same : kept.sectors_now ≡ after.sectors = ap (λ (o : Option (List (List ℕ))). unwrap_or o []) (sym kept.told ∙ is'.sectors) in
    subst (λ (s : List (List ℕ)). replayed s ≡ Some own) same kept.replays

-- how it stands with what was kept, by what that is
stands-with : (view : ℕ) (stop : Option Stop) (before : DiskAt) (kept writes : List (ℕ × List ℕ)) (halt : Option Halt) (d' : Disk) (f' : ℕ) (now : DiskAt) → kept ≡ writes → IsAt d' f' now
    → WritesOn true view (replay_writes before.sectors) stop before now writes halt → ((own : List (List ℕ)) → replayed before.sectors ≡ Some own → replayed now.sectors ≡ Some own)
    → StandsSo d' f' (IsReplayed view stop before kept halt)
stands-with view stop before kept writes halt d' f' now is at on keeps =
    subst (λ (xs : List (ℕ × List ℕ)). StandsSo d' f' (IsReplayed view stop before xs halt)) (sym is) (record { at = now; is_at = at; holds = record { writes_on = on; keeps = keeps } })

-- a replay that halts
pub replay-halts : (stop : Option Stop) (before : DiskAt) (p : PortState) (d : Disk) (f : ℕ) (halt : ReplayHalt) (p' : PortState) (d' : Disk) (f' : ℕ) → IsAt d f before → length before.sectors ≡ limits.sectors → before.key ≡ p.view → IsReady stop p
    → Replays p d f (Err halt) p' d' f' → Keeps d (Err halt) d' → StandsSo d' f' (IsReplayed p.view stop before p'.kept.writes (Some (replay_halt halt f')))
replay-halts stop before p d f (ReplayFenced mine current) p' d' f' is whole own ready replay keeps =
    let other = replay.ends.0.other in
    absurd (other (sym is.key ∙ own))
replay-halts stop before p d f ReplayFailed p' d' f' is whole own ready replay keeps =
    let tells = replay.told before.sectors is.sectors whole in
    let few = replay.few in
    let faults = is.faults_are in
    let later = replay.later in
    elim replay.ends.1 [
      | inl runs ↦
          let fails = ends_as replay.tried p d (Err PortFailed) p' d' runs.makes in
          let within = fails.within in
          let count = length-take-le fails.made replay.tried (omega (arith, within)) in
          let kept = made stop p (take fails.made replay.tried) p' ready (omega (arith, within, few, count)) fails.accepted in
          let now = changed before (left_of replay.tried fails.made (Some fails.left)) f' in
          let at = changed-at before d d' f f' (left_of replay.tried fails.made (Some fails.left)) is fails.changed in
          let rose = runs.counted refl in
          stands-with p.view stop before p'.kept.writes (take fails.made replay.tried) (Some (Failed f')) d' f' now kept.kept at
          (write-failed-on p.view stop before (replay_writes before.sectors) replay.tried tells.rest fails.made fails.left f' tells.split own (omega (arith, rose, faults)) (omega (arith, later, faults)) within fails.whole
          (failed-within stop p d replay.tried (take fails.made replay.tried) p' d' ready runs.makes kept.accepted))
          (same-volume d f before d' f' now (Err ReplayFailed) is whole at keeps)
      | inr ended ↦
          let all = ends_as replay.tried p d (Ok tt) p' d' ended.0.makes in
          let kept = made stop p replay.tried p' ready few all.accepted in
          let now = changed before replay.tried f' in
          let at = changed-at before d d' f f' replay.tried is all.changed in
          let rose = ended.1 in
          stands-with p.view stop before p'.kept.writes replay.tried (Some (Failed f')) d' f' now kept.kept at
          (read-failed-on p.view stop before (replay_writes before.sectors) replay.tried tells.rest f' tells.split own (omega (arith, rose, faults)) (omega (arith, later, faults))
          (all-within stop p d replay.tried p' d' ready ended.0.makes kept.accepted))
          (same-volume d f before d' f' now (Err ReplayFailed) is whole at keeps)
    ]
replay-halts stop before p d f ReplayStopped p' d' f' is whole own ready replay keeps =
    let tells = replay.told before.sectors is.sectors whole in
    let few = replay.few in
    let faults = is.faults_are in
    let later = replay.later in
    let stops = ends_as replay.tried p d (Err PortStopped) p' d' replay.ends.1.makes in
    let within = stops.within in
    let armed : stop ≡ Some stops.stop = sym ready.stop_is ∙ stops.armed in
    let first = made stop p (take stops.made replay.tried) _ ready (let count = length-take-le stops.made replay.tried (omega (arith, within)) in omega (arith, within, few, count)) refl in
    let due : stops.stop.after ≡ stops.made = stops.due ∙ first.accepted ∙ length-take-le stops.made replay.tried (omega (arith, within)) in
    let left = left-few replay.tried stops.made stops.stop.torn in
    let kept = made stop p (left_of replay.tried stops.made stops.stop.torn) p' ready (omega (arith, few, left)) stops.accepted in
    let now = changed before (left_of replay.tried stops.made stops.stop.torn) f' in
    let at = changed-at before d d' f f' (left_of replay.tried stops.made stops.stop.torn) is stops.changed in
    stands-with p.view stop before p'.kept.writes (left_of replay.tried stops.made stops.stop.torn) (Some Stopped) d' f' now kept.kept at
    (subst (λ (o : Option Stop). WritesOn true p.view (replay_writes before.sectors) o before now (left_of replay.tried stops.made stops.stop.torn) (Some Stopped)) (sym armed)
    (stopped-on p.view stops.stop before (replay_writes before.sectors) replay.tried tells.rest stops.made f' tells.split own (omega (arith, later, faults)) within due))
    (same-volume d f before d' f' now (Err ReplayStopped) is whole at keeps)
replay-halts stop before p d f (ReplayDamaged sector) p' d' f' is whole own ready replay keeps =
    let tells = replay.told before.sectors is.sectors whole in
    let faults = is.faults_are in
    let later = replay.later in
    let untouched = replay.ends.2 in
    let now = changed before [] f' in
    let at = changed-at before d d' f f' [] is (untouched.unchanged ∙ sym (after-nil d)) in
    stands-with p.view stop before p'.kept.writes [] (Some (Damaged sector)) d' f' now (ap (λ (q : PortState). q.kept.writes) untouched.uncounted ∙ ready.kept) at
    (damaged-on p.view stop before (replay_writes before.sectors) [] (replay_writes before.sectors) sector f' refl own (omega (arith, later, faults)) (none-within stop)
    (λ volume sectors replays spells. none≢some sectors (sym tells.judged ∙ replays)))
    (same-volume d f before d' f' now (Err (ReplayDamaged sector)) is whole at keeps)
  where
    none-within : (stop : Option Stop) → IsWithinStop stop []
    none-within None = tt
    none-within (Some s) = omega arith

    none≢some : (sectors : List (List ℕ)) → None ≡ Some sectors → ⊥
    none≢some sectors e = absurd (cc)

-- a disk whose journal was replayed: the gate is closed, so that it needs no replay
pub record ReplayedAll (stop : Option Stop) (before : DiskAt) (p : PortState) (p' : PortState) (d' : Disk) (f' : ℕ) : Type 0 where
  pub kept : p'.kept.writes ≡ replay_writes before.sectors
  pub view : p'.view ≡ p.view
  pub within : IsWithinStop stop (replay_writes before.sectors)
  pub at : IsAt d' f' (changed before (replay_writes before.sectors) f')
  pub later : before.faults ≤ f'
  pub own : List (List ℕ)
  pub before_is : replayed before.sectors ≡ Some own
  pub after_is : replayed (written before.sectors (replay_writes before.sectors)) ≡ Some own
  pub outside_is : outside (written before.sectors (replay_writes before.sectors)) ≡ own

-- what is some
record Known (o : Option (List (List ℕ))) : Type 0 where
  value : List (List ℕ)
  is : o ≡ Some value

known : (o : Option (List (List ℕ))) → IsSome o → Known o
known None some = absurd (cc)
known (Some x) some = record { value = x; is = refl }

pub replays-all : (stop : Option Stop) (before : DiskAt) (p : PortState) (d : Disk) (f : ℕ) (p' : PortState) (d' : Disk) (f' : ℕ) → IsAt d f before → length before.sectors ≡ limits.sectors → IsReady stop p
    → Replays p d f (Ok tt) p' d' f' → Keeps d (Ok tt) d' → ReplayedAll stop before p p' d' f'
replays-all stop before p d f p' d' f' is whole ready replay keeps =
    let tells = replay.told before.sectors is.sectors whole in
    let all = ends_as replay.tried p d (Ok tt) p' d' replay.ends.1.makes in
    let few = replay.few in
    let faults = is.faults_are in
    let later = replay.later in
    let kept = made stop p replay.tried p' ready few all.accepted in
    let tried : replay.tried ≡ replay_writes before.sectors = sym (tells.split ∙ ap (λ (xs : List (ℕ × List ℕ)). replay.tried ++ xs) tells.whole ∙ append-nil replay.tried) in
    let own = known (replayed before.sectors) tells.judged in
    let at = subst (λ (xs : List (ℕ × List ℕ)). IsAt d' f' (changed before xs f')) tried (changed-at before d d' f f' replay.tried is all.changed) in
    let volume = keeps before.sectors own.value is.sectors whole own.is in
    let same : volume.sectors_now ≡ written before.sectors (replay_writes before.sectors) = ap (λ (o : Option (List (List ℕ))). unwrap_or o []) (sym volume.told ∙ at.sectors) in
    record {
      kept = kept.kept ∙ tried;
      view = kept.view;
      within = subst (IsWithinStop stop) tried (all-within stop p d replay.tried p' d' ready replay.ends.1.makes kept.accepted);
      at = at;
      later = omega (arith, later, faults);
      own = own.value;
      before_is = own.is;
      after_is = subst (λ (s : List (List ℕ)). replayed s ≡ Some own.value) same volume.replays;
      outside_is = subst (λ (s : List (List ℕ)). outside s ≡ own.value) same volume.closed.1;
    }

-- the port keeps its view
pub same-view : (p : PortState) (d : Disk) (f : ℕ) (p' : PortState) (d' : Disk) (f' : ℕ) → Replays p d f (Ok tt) p' d' f' → p'.view ≡ p.view
same-view p d f p' d' f' replay =
    ap (λ (q : PortState). q.view) (ends_as replay.tried p d (Ok tt) p' d' replay.ends.1.makes).accepted ∙ (counts_and_keeps replay.tried p).view
