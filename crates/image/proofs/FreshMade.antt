-- A format's sectors stand for the empty history by the fresh volume.
use Rattle.std.proofs.Common.{◌≡◌, ◌≤◌, ◌<◌, ◌∙◌, ℕ, zero, suc, Bool, true, List, [], ◌∷◌, length, replicate, get_or, slice_set, Result, Ok, Err, Some, refl, ap, subst, arith}
use Rattle.cal_base.specs.Limits as limits
use Rattle.std.specs.Prelude.{OnOk}
use Rattle.fence.proofs.RunsLemmas.{all_after}
use Rattle.fence.specs.Port.{PortState}
use Rattle.fence.specs.Writes.{Runs}
use Rattle.fence.specs.declared.port_halt.PortHalt.{PortHalt}
use Rattle.inode.specs.declared.inode.Inode.{Inode}
use Rattle.journal.proofs.AfterCommit.{told_after}
use Rattle.journal.specs.Layout.{outside}
use Rattle.request_log.specs.declared.slot.Slot.{Slot}
use Rattle.shared_disk.specs.Disk.{Disk}
use Rattle.shared_disk.proofs.Changes.{length-written}
use Rattle.shared_disk.specs.Sectors.{written}
use Rattle.volume.proofs.Empty.{first_inodes, first_slots, first_stands, first_volume, format_closes, format_replays, no_slots}
use Rattle.volume.proofs.First.{all_free, map_of_free}
use Rattle.volume.specs.Format.{format_writes, root_inode}
use Rattle.volume.specs.Stands.{StandsForHistory}
use Rattle.volume.specs.Volume.{Slots, Volume}
use Rattle.volume_edit.specs.Edit.{free_inode}
use Rattle.image.specs.EntryPlans.{TellsFresh}
use Rattle.image.specs.Image.{fresh_inodes, fresh_map, fresh_slots, fresh_volume, no_directories}

same_slots : first_slots ≡ fresh_slots
unfolding first_slots fresh_slots
same_slots = refl

same_inodes : first_inodes ≡ fresh_inodes
unfolding first_inodes fresh_inodes
same_inodes = refl

same_directories : no_slots ≡ no_directories
unfolding no_slots no_directories
same_directories = refl

same_map : all_free ≡ fresh_map
unfolding fresh_map
same_map = map_of_free

-- the first volume is the fresh one
first_is_fresh : (clients : ℕ) → first_volume clients ≡ fresh_volume clients
first_is_fresh clients = λ i. record { clients = clients; free = same_map i; slots = same_slots i; inodes = same_inodes i; directories = same_directories i }

fresh_stands : (x : List (List ℕ)) (clients : ℕ) → length x ≡ limits.sectors → 1 ≤ clients → clients ≤ 16 → StandsForHistory (outside (written x (format_writes clients))) (fresh_volume clients) []
fresh_stands x clients whole some few = subst (λ (v : Volume). StandsForHistory (outside (written x (format_writes clients))) v []) (first_is_fresh clients) (first_stands x clients whole some few)

-- a whole run of the format's writes
pub run_fresh : (x : List (List ℕ)) (clients : ℕ) (p : PortState) (d : Disk) (f : ℕ) (r : Result (Unit {0}) PortHalt) (p' : PortState) (d' : Disk) (f' : ℕ)
    → Runs p d f (format_writes clients) r p' d' f' → d.sectors ≡ Some x → length x ≡ limits.sectors → 1 ≤ clients → clients ≤ 16 → OnOk r (TellsFresh d' clients)
run_fresh x clients p d f (Ok done) p' d' f' a told whole some few = record {
  sectors = written x (format_writes clients);
  told = told_after x (format_writes clients) d d' told (all_after (format_writes clients) p d p' d' a.makes);
  replays = format_replays x clients whole;
  closed = format_closes x clients whole;
  count = length-written (format_writes clients) x ∙ whole;
  stands = fresh_stands x clients whole some few;
}
run_fresh x clients p d f (Err halt) p' d' f' a told whole some few = tt

-- a list of one thing alone
pub all_same : {A : Type 0} (xs : List A) (a d : A) → ((k : ℕ) → k < length xs → get_or xs k d ≡ a) → xs ≡ replicate (length xs) a
all_same [] a d same = refl
all_same {A = A} (x ∷ xs) a d same =
    let here : x ≡ a = same zero (omega arith) in
    let rest : xs ≡ replicate (length xs) a = all_same xs a d (λ k below. same (suc k) (omega arith)) in
    λ i. here i ∷ rest i

-- the root before the others
set_root : (inode : Inode) → inode ≡ root_inode → slice_set (replicate 512 free_inode) 0 inode ≡ fresh_inodes
unfolding fresh_inodes
set_root inode is = ap (λ (r : Inode). r ∷ replicate limits.last_inode free_inode) is

pub root_put : (inodes : List Inode) (count : ℕ) (inode : Inode) → inodes ≡ replicate count free_inode → count ≡ limits.inodes → inode ≡ root_inode → slice_set inodes 0 inode ≡ fresh_inodes
root_put inodes count inode all size is = ap (λ (xs : List Inode). slice_set xs 0 inode) (all ∙ ap (λ (n : ℕ). replicate n free_inode) size) ∙ set_root inode is

-- the parts of the fresh volume
pub parts_fresh : (clients : ℕ) (free : List Bool) (slots : List Slot) (inodes : List Inode) (directories : List Slots) → free ≡ replicate 2048 true → slots ≡ fresh_slots → inodes ≡ fresh_inodes → directories ≡ no_directories
    → let v : Volume = record { clients = clients; free = free; slots = slots; inodes = inodes; directories = directories } in v ≡ fresh_volume clients
unfolding fresh_map
parts_fresh clients free slots inodes directories a b c d = λ i. record { clients = clients; free = a i; slots = b i; inodes = c i; directories = d i }
