-- What a mount says of a disk whose journal was replayed.
use Rattle.std.proofs.Common.{◌≡◌, [], ℕ, true, List, Option, Some, Ok, Err, append-nil, refl, sym, ap, subst, ◌∙◌, arith}
use Rattle.std.specs.Prelude.{unwrap_or}
use Rattle.cluster_law.specs.DiskRules.{WritesOn}
use Rattle.cluster_law.specs.Noted.{DiskAt}
use Rattle.fence.specs.Port.{PortState}
use Rattle.image.specs.Damage.{IsDamage}
use Rattle.image.specs.Mount.{NeverDamaged, ReadsOnly, Told}
use Rattle.image.specs.declared.mount_halt.MountHalt.{MountHalt}
use Rattle.image.specs.declared.mount_halt.MountHalt.TheVariants.{Fenced as MountFenced, Failed as MountFailed, Damaged as MountDamaged}
use Rattle.journal.specs.Layout.{outside}
use Rattle.journal.specs.Replay.{replay_writes}
use Rattle.shared_disk.specs.Disk.{Disk}
use Rattle.shared_disk.specs.Sectors.{written}
use Rattle.shared_disk.specs.declared.stop.Stop.{Stop}
use Rattle.volume.specs.Volume.{SpellsVolume, Volume}
use Rattle.volume_edit.specs.Edit.{IsVolume}
use Rattle.server_start.specs.Disks.{IsAt, StandsSo}
use Rattle.server_start.specs.Halting.{mount_halt}
use Rattle.server_start.specs.Opening.{IsRead, IsReplayed}
use Rattle.server_start.proofs.Replaying.{ReplayedAll, all-on, changed, damaged-on, read-failed-on}

-- where the mount leaves the disk: as the replay did, but for the count of faults
at-mount : (before : DiskAt) (writes : List (ℕ × List ℕ)) (d d' : Disk) (f f' : ℕ) → IsAt d f (changed before writes f) → d' ≡ d → IsAt d' f' (changed before writes f')
at-mount before writes d d' f f' is same = record {
  sectors = ap (λ (x : Disk). x.sectors) same ∙ is.sectors;
  key = is.key ∙ sym (ap (λ (x : Disk). x.key) same);
  faults_are = refl;
}

-- the replay's writes, as the law has them
same-own : (own value : List (List ℕ)) (o now : Option (List (List ℕ))) → o ≡ Some own → now ≡ Some own → o ≡ Some value → now ≡ Some value
same-own own value o now is is' given = is' ∙ sym is ∙ given

-- the volume was mounted
pub mounts : (stop : Option Stop) (before : DiskAt) (p p' : PortState) (d : Disk) (f : ℕ) (volume : Volume) (d' : Disk) (f' : ℕ) → before.key ≡ p.view → ReplayedAll stop before p p' d f → ReadsOnly IsDamage d p'.view f (Ok tt) d' f'
    → Told d (λ sectors. SpellsVolume (outside sectors) volume) → IsVolume volume → StandsSo d' f' (IsRead p.view stop before p'.kept.writes volume)
mounts stop before p p' d f volume d' f' own all reads spells is =
    let later = reads.later in
    let first = all.later in
    subst (λ (xs : List (ℕ × List ℕ)). StandsSo d' f' (IsRead p.view stop before xs volume)) (sym all.kept)
    (record {
      at = changed before (replay_writes before.sectors) f';
      is_at = at-mount before (replay_writes before.sectors) d d' f f' all.at reads.same;
      holds = record {
        replays = record {
          writes_on = all-on p.view stop before (replay_writes before.sectors) f' own (omega (arith, later, first)) all.within;
          keeps = λ value given. same-own all.own value _ _ all.before_is all.after_is given;
        };
        mounted = record {
          own = all.own;
          before_is = all.before_is;
          after_is = all.after_is;
          spells = subst (λ (s : List (List ℕ)). SpellsVolume s volume) all.outside_is (spells _ all.at.sectors);
          is_volume = is;
        };
      };
    })

-- or not
pub not-mounted : (stop : Option Stop) (before : DiskAt) (p p' : PortState) (d : Disk) (f : ℕ) (halt : MountHalt) (d' : Disk) (f' : ℕ) → before.key ≡ p.view → ReplayedAll stop before p p' d f → ReadsOnly IsDamage d p'.view f (Err halt) d' f'
    → Told d (λ sectors. (v : Volume) → SpellsVolume (outside sectors) v → NeverDamaged (Err halt)) → StandsSo d' f' (IsReplayed p.view stop before p'.kept.writes (Some (mount_halt halt f')))
not-mounted stop before p p' d f halt d' f' own all reads never =
    let planned = replay_writes before.sectors in
    subst (λ (xs : List (ℕ × List ℕ)). StandsSo d' f' (IsReplayed p.view stop before xs (Some (mount_halt halt f')))) (sym all.kept)
    (record {
      at = changed before planned f';
      is_at = at-mount before planned d d' f f' all.at reads.same;
      holds = record { writes_on = by halt reads never; keeps = λ value given. same-own all.own value _ _ all.before_is all.after_is given };
    })
  where
    by : (halt : MountHalt) → ReadsOnly IsDamage d p'.view f (Err halt) d' f' → Told d (λ sectors. (v : Volume) → SpellsVolume (outside sectors) v → NeverDamaged (Err halt))
        → WritesOn true p.view (replay_writes before.sectors) stop before (changed before (replay_writes before.sectors) f') (replay_writes before.sectors) (Some (mount_halt halt f'))
    by (MountFenced mine current) reads never =
        let other = reads.ends.other in
        absurd (other (sym all.at.key ∙ own ∙ sym all.view))
    by MountFailed reads never =
        let rose = reads.ends.1 in
        let later = reads.later in
        let first = all.later in
        read-failed-on p.view stop before (replay_writes before.sectors) (replay_writes before.sectors) [] f' (sym (append-nil (replay_writes before.sectors))) own (omega (arith, rose, first)) (omega (arith, later, first)) all.within
    by (MountDamaged sector) reads never =
        let later = reads.later in
        let first = all.later in
        damaged-on p.view stop before (replay_writes before.sectors) (replay_writes before.sectors) [] sector f' (sym (append-nil (replay_writes before.sectors))) own (omega (arith, later, first)) all.within
        (λ volume sectors replays spells.
        let same : sectors ≡ outside (written before.sectors (replay_writes before.sectors)) = ap (λ (o : Option (List (List ℕ))). unwrap_or o []) (sym replays ∙ all.after_is) ∙ sym all.outside_is in
        never _ all.at.sectors volume (subst (λ (s : List (List ℕ)). SpellsVolume s volume) same spells) sector refl)
