-- The sectors of a format stand for the empty history.
use Rattle.std.proofs.Common.{◌≡◌, ◌<◌, ◌≤◌, ◌+◌, ℕ, zero, suc, true, false, List, [], ◌∷◌, length, replicate, Option, Some, None, Result, Ok, Err, slice_get, slice_index, refl, sym, ap, ◌∙◌, subst, inl, arith, get_or}
use Rattle.std.specs.Prelude.{OnOk}
use Rattle.std.specs.Ordering.{nat_cmp}
use Rattle.std.specs.Cmp.Lexicographic.{slice_cmp}
use Rattle.std.specs.FinMap as map
use Rattle.std.proofs.lemmas.List.{get_or-replicate, length-replicate}
use Rattle.std.proofs.lemmas.Option.{get_or_from_slice_get, slice_get_within}
use Rattle.cal_base.specs.Limits as limits
use Rattle.cal_base.specs.declared.identity.ClientId.{ClientId}
use Rattle.cal_base.specs.declared.identity.Ino.{Ino}
use Rattle.cal_fields.specs.Padded.{zeros}
use Rattle.shared_disk.specs.Disk.{Disk, KeepsCount}
use Rattle.shared_disk.proofs.Changes.{length-written}
use Rattle.fence.proofs.EndingLemmas.{run_keeps_count}
use Rattle.shared_disk.specs.Sectors.{written}
use Rattle.fence.specs.Port.{PortState}
use Rattle.fence.specs.Writes.{Runs}
use Rattle.fence.specs.declared.port_halt.PortHalt.{PortHalt}
use Rattle.fence.proofs.RunsLemmas.{all_after}
use Rattle.directory.specs.Directory.{IsDirectory}
use Rattle.inode.specs.Inode.{SpellsInode}
use Rattle.inode.specs.declared.inode.Inode.{Inode}
use Rattle.inode.specs.declared.inode.Kind.TheVariants.{Dir}
use Rattle.inode.proofs.InodeLemmas.{small_zeros}
use Rattle.journal.specs.Commit.{IsClosed, replayed}
use Rattle.journal.specs.Layout.{opens, outside, sector}
use Rattle.journal.proofs.AfterCommit.{told_after}
use Rattle.journal.proofs.Law.{replays_closed}
use Rattle.request_log.specs.Slot.{SpellsSlot}
use Rattle.request_log.specs.declared.slot.Slot.{Slot}
use Rattle.space_map.specs.SpaceMap.{SpellsMap}
use Rattle.tree_law.specs.Tree.{empty_tree, first_nodes, is_purged, node_at, empty_directory}
use Rattle.tree_law.specs.declared.node.Node.{Node}
use Rattle.volume.specs.Format.{TellsFormatted, blank, format_writes, head_sector, root_inode}
use Rattle.volume.specs.Head.{SpellsHead}
use Rattle.volume.specs.Stands.{AreBlocksKept, Points, Stands, StandsForClient, StandsForDirectory, StandsForHistory, StandsForNode, TellsStanding}
use Rattle.volume.specs.Volume.{Slots, SpellsDirectory, SpellsVolume, Volume}
use Rattle.volume.proofs.First.{all_free, all_free_true, blank_inode, blank_map, blank_slot, free_inode, get_same, no_slot, root_spelled}
use Rattle.volume.proofs.Formatted.{IsFresh, format_gives}

unfoldable pub first_inodes : List Inode
first_inodes = root_inode ∷ replicate 511 free_inode

unfoldable pub first_slots : List Slot
first_slots = replicate 16 no_slot

unfoldable pub no_slots : List Slots
no_slots = replicate 512 []

-- the volume on which nothing has happened yet
abbrev pub first_volume : ℕ → Volume
first_volume clients = record { clients = clients; free = all_free; slots = first_slots; inodes = first_inodes; directories = no_slots }

inodes_count : length first_inodes ≡ 512
unfolding first_inodes
inodes_count = let l = length-replicate {A = Inode} 511 free_inode in omega arith

slots_count : length first_slots ≡ 16
unfolding first_slots
slots_count = length-replicate 16 no_slot

slot_is : (client : ℕ) (slot : Slot) → slice_get first_slots client ≡ Some slot → slot ≡ no_slot
unfolding first_slots
slot_is client slot e = get_same 16 client no_slot slot e

slot_below : (client : ℕ) (slot : Slot) → slice_get first_slots client ≡ Some slot → client < 16
slot_below client slot e = let h = slice_get_within first_slots client slot e in let l = slots_count in omega arith

root_first : (inode : Inode) → slice_get first_inodes 0 ≡ Some inode → inode ≡ root_inode
unfolding first_inodes
root_first inode e = sym (get_or_from_slice_get (root_inode ∷ replicate 511 free_inode) 0 inode inode e)

free_then : (m : ℕ) (inode : Inode) → slice_get first_inodes (suc m) ≡ Some inode → inode ≡ free_inode
unfolding first_inodes
free_then m inode e = get_same 511 m free_inode inode e

free_below : (m : ℕ) (inode : Inode) → slice_get first_inodes (suc m) ≡ Some inode → m < 511
free_below m inode e = let h = slice_get_within first_inodes (suc m) inode e in let l = inodes_count in omega arith

-- no inode names a block
holes_of : (inode : Inode) (blocks : List ℕ) (place : ℕ) → inode.blocks ≡ blocks → slice_index blocks place ≡ 0 → slice_index inode.blocks place ≡ 0
holes_of inode blocks place e h = ap (λ (xs : List ℕ). slice_index xs place) e ∙ h

no_pointer : (number place block : ℕ) → Points first_inodes number place block → ⊥
no_pointer zero place block p =
    let e = holes_of p.inode (replicate limits.file_blocks 0) place (ap (λ (i : Inode). i.blocks) (root_first p.inode p.there)) (small_zeros limits.file_blocks place) in
    let n = p.names in
    omega arith
no_pointer (suc m) place block p =
    let e = holes_of p.inode (replicate limits.file_blocks 0) place (ap (λ (i : Inode). i.blocks) (free_then m p.inode p.there)) (small_zeros limits.file_blocks place) in
    let n = p.names in
    omega arith

blocks_kept : (clients : ℕ) → AreBlocksKept (first_volume clients)
blocks_kept clients = record {
  used = λ block below. (
    (λ e. (let t : false ≡ true = all_free_true block false e in absurd (cc))),
    (λ p. absurd (no_pointer p.number p.place block p.points)),
  );
  apart = λ i j p q block a b. absurd (no_pointer i p block a);
}

no_entries : IsDirectory []
no_entries = record { whole = refl; few = omega arith; entries = λ place e h. absurd (cc); distinct = λ i j a b ha hb same. absurd (cc) }

empty_spelled : (x : List (List ℕ)) (inode : Inode) → inode.size ≡ 0 → SpellsDirectory x inode []
empty_spelled x inode e = record { directory = no_entries; count = omega arith; blocks = λ block h. absurd (omega arith) }

head_spelled : (clients : ℕ) (s : List ℕ) → 1 ≤ clients → clients ≤ limits.clients → s ≡ head_sector clients → SpellsHead s clients
unfolding head_sector
head_spelled clients s some few e = record { some = some; few = few; whole = e }

inode_spelled : (clients : ℕ) (x : List (List ℕ)) → IsFresh clients x → (number : ℕ) (inode : Inode) → slice_get first_inodes number ≡ Some inode → SpellsInode (sector x (36 + number)) inode
inode_spelled clients x f zero inode e =
    subst (λ (i : Inode). SpellsInode (sector x 36) i) (sym (root_first inode e)) (subst (λ (s : List ℕ). SpellsInode s root_inode) (sym f.root) root_spelled)
inode_spelled clients x f (suc m) inode e =
    let place : 37 + m ≡ 36 + suc m = omega arith in
    let there = f.inodes m (free_below m inode e) in
    subst (λ (n : ℕ). SpellsInode (sector x n) inode) place
    (subst (λ (i : Inode). SpellsInode (sector x (37 + m)) i) (sym (free_then m inode e)) (subst (λ (s : List ℕ). SpellsInode s free_inode) (sym there) blank_inode))

slot_spelled : (clients : ℕ) (x : List (List ℕ)) → IsFresh clients x → (client : ℕ) (slot : Slot) → slice_get first_slots client ≡ Some slot → SpellsSlot (sector x (20 + client)) slot
slot_spelled clients x f client slot e =
    let place : 19 + (1 + client) ≡ 20 + client = omega arith in
    let below = slot_below client slot e in
    let there = f.free (1 + client) (omega arith) in
    subst (λ (n : ℕ). SpellsSlot (sector x n) slot) place
    (subst (λ (t : Slot). SpellsSlot (sector x (19 + (1 + client))) t) (sym (slot_is client slot e)) (subst (λ (s : List ℕ). SpellsSlot s no_slot) (sym there) blank_slot))

same_default : {A : Type 0} (n i : ℕ) (a : A) → get_or (replicate {A = A} n a) i a ≡ a
same_default zero i a = refl
same_default (suc n) zero a = refl
same_default (suc n) (suc i) a = same_default n i a

no_slots_at : (number : ℕ) → get_or no_slots number [] ≡ []
unfolding no_slots
no_slots_at number = same_default 512 number []

directory_spelled : (x : List (List ℕ)) (number : ℕ) (inode : Inode) → slice_get first_inodes number ≡ Some inode → inode.kind ≡ Dir → SpellsDirectory x inode (get_or no_slots number [])
directory_spelled x zero inode e dir = subst (λ (s : Slots). SpellsDirectory x inode s) (sym (no_slots_at 0)) (empty_spelled x inode (ap (λ (i : Inode). i.size) (root_first inode e)))
directory_spelled x (suc m) inode e dir = subst (λ (s : Slots). SpellsDirectory x inode s) (sym (no_slots_at (suc m))) (empty_spelled x inode (ap (λ (i : Inode). i.size) (free_then m inode e)))

volume_spelled : (clients : ℕ) (x : List (List ℕ)) → 1 ≤ clients → clients ≤ limits.clients → IsFresh clients x → SpellsVolume x (first_volume clients)
volume_spelled clients x some few f = record {
  head = head_spelled clients (sector x 0) some few f.head;
  map = subst (λ (s : List ℕ). SpellsMap s all_free) (sym (f.free 0 (omega arith))) blank_map;
  slot_count = slots_count;
  slots = λ client slot e. slot_spelled clients x f client slot e;
  inode_count = inodes_count;
  inodes = λ number inode e. inode_spelled clients x f number inode e;
  directories = λ number inode e dir. directory_spelled x number inode e dir;
  root = λ inode e. ap (λ (i : Inode). i.kind) (root_first inode e);
}

-- the empty tree
root_node : node_at empty_tree (record { 0 = 0 }) ≡ Some empty_directory
unfolding empty_tree first_nodes
root_node = refl

no_node : (m : ℕ) → node_at empty_tree (record { 0 = suc m }) ≡ None
unfolding empty_tree first_nodes
no_node m = same_default 511 m None

not_purged : (client : ClientId) → client.0 < 16 → is_purged empty_tree client ≡ false
unfolding empty_tree
not_purged client below = get_or-replicate 16 client.0 false true below

empty_stands : (inode : Inode) → inode.kind ≡ Dir → StandsForDirectory inode [] map.empty
empty_stands inode dir = record {
  kind = dir;
  entries = λ name ino. (
    (λ e. (let n : map.get (map.empty {X = Ino} {R = slice_cmp nat_cmp}) name ≡ None = map.get-empty (slice_cmp nat_cmp) name in absurd (cc))),
    (λ n. (let t = n.there in absurd (cc))),
  );
}

node_stands : (clients : ℕ) (x : List (List ℕ)) (number : ℕ) (inode : Inode) → slice_get first_inodes number ≡ Some inode → StandsForNode x (first_volume clients) empty_tree number inode (node_at empty_tree (record { 0 = number }))
node_stands clients x zero inode e =
    subst (λ (o : Option Node). StandsForNode x (first_volume clients) empty_tree 0 inode o) (sym root_node)
    (subst (λ (s : Slots). StandsForDirectory inode s map.empty) (sym (no_slots_at 0)) (empty_stands inode (ap (λ (i : Inode). i.kind) (root_first inode e))))
node_stands clients x (suc m) inode e =
    subst (λ (o : Option Node). StandsForNode x (first_volume clients) empty_tree (suc m) inode o) (sym (no_node m)) (inl (ap (λ (i : Inode). i.kind) (free_then m inode e)))

client_stands : (client : ClientId) (slot : Slot) → slice_get first_slots client.0 ≡ Some slot → StandsForClient slot empty_tree [] client
client_stands client slot e =
    let same = slot_is client.0 slot e in
    record {
      purged = ap (λ (t : Slot). t.purged) same ∙ sym (not_purged client (slot_below client.0 slot e));
      call = ap (λ (t : Slot). t.call) same;
      reply = ap (λ (t : Slot). t.reply) same;
      flush = ap (λ (t : Slot). t.flush) same;
    }

blank_closed : opens blank ≡ false
unfolding zeros
blank_closed = refl

-- the first volume, of the sectors that a format leaves
pub first_stands : (x : List (List ℕ)) (clients : ℕ) → length x ≡ limits.sectors → 1 ≤ clients → clients ≤ limits.clients → StandsForHistory (outside (written x (format_writes clients))) (first_volume clients) []
first_stands x clients whole some few =
    let formats = format_gives x clients whole in
    record {
      spells = volume_spelled clients (outside (written x (format_writes clients))) some few formats.fresh;
      nodes = λ number inode e. node_stands clients (outside (written x (format_writes clients))) number inode e;
      blocks = blocks_kept clients;
      clients = λ client slot e. client_stands client slot e;
    }

-- a format leaves the gate closed
pub format_closes : (x : List (List ℕ)) (clients : ℕ) → length x ≡ limits.sectors → IsClosed (written x (format_writes clients))
format_closes x clients long = ap opens (format_gives x clients long).gate ∙ blank_closed

pub format_replays : (x : List (List ℕ)) (clients : ℕ) → length x ≡ limits.sectors → replayed (written x (format_writes clients)) ≡ Some (outside (written x (format_writes clients)))
format_replays x clients whole = replays_closed (written x (format_writes clients)) (format_closes x clients whole)

pub format_stands : (x : List (List ℕ)) (clients : ℕ) → length x ≡ limits.sectors → 1 ≤ clients → clients ≤ limits.clients → Stands (written x (format_writes clients)) []
format_stands x clients whole some few = record {
  after = outside (written x (format_writes clients));
  replays = format_replays x clients whole;
  volume = first_volume clients;
  stands = first_stands x clients whole some few;
}

-- a whole run of the format's writes
pub run_stands : (x : List (List ℕ)) (clients : ℕ) (p : PortState) (d : Disk) (f : ℕ) (r : Result (Unit {0}) PortHalt) (p' : PortState) (d' : Disk) (f' : ℕ)
    → Runs p d f (format_writes clients) r p' d' f' → d.sectors ≡ Some x → length x ≡ limits.sectors → 1 ≤ clients → clients ≤ limits.clients → OnOk r (TellsStanding d' [])
run_stands x clients p d f (Ok done) p' d' f' a told whole some few = record {
  sectors = written x (format_writes clients);
  told = told_after x (format_writes clients) d d' told (all_after (format_writes clients) p d p' d' a.makes);
  stands = format_stands x clients whole some few;
}
run_stands x clients p d f (Err halt) p' d' f' a told whole some few = tt

pub run_formatted : (x : List (List ℕ)) (clients : ℕ) (p : PortState) (d : Disk) (f : ℕ) (r : Result (Unit {0}) PortHalt) (p' : PortState) (d' : Disk) (f' : ℕ)
    → Runs p d f (format_writes clients) r p' d' f' → d.sectors ≡ Some x → length x ≡ limits.sectors → OnOk r (TellsFormatted x clients d')
run_formatted x clients p d f (Ok done) p' d' f' a told long = record {
  told = told_after x (format_writes clients) d d' told (all_after (format_writes clients) p d p' d' a.makes);
  closed = format_closes x clients long;
  count = length-written (format_writes clients) x ∙ long;
}
run_formatted x clients p d f (Err halt) p' d' f' a told long = tt

pub runs_keep_count : (ws : List (ℕ × List ℕ)) (p : PortState) (d : Disk) (f : ℕ) (r : Result (Unit {0}) PortHalt) (p' : PortState) (d' : Disk) (f' : ℕ) → Runs p d f ws r p' d' f' → KeepsCount d d'
runs_keep_count ws p d f r p' d' f' a = run_keeps_count ws p d r p' d' a.makes
