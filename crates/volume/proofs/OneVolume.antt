-- Sectors spell one volume.
use Rattle.std.proofs.Common.{◌≡◌, ◌≤◌, ◌<◌, ◌+◌, ◌*◌, ◌/◌, ℕ, zero, suc, List, [], ◌∷◌, length, take, Bool, Option, Some, slice_get, slice_index, refl, sym, ap, ◌∙◌, subst, arith}
use Rattle.std.proofs.lemmas.List.{take_all}
use Rattle.cal_fields.proofs.PaddedLemmas.{padded-cancel}
use Rattle.directory.specs.declared.entry.DirEntry.{DirEntry}
use Rattle.directory.proofs.Laws.{block_follows, one_way}
use Rattle.inode.specs.declared.inode.Inode.{Inode}
use Rattle.inode.proofs.InodeLemmas.{same_inode}
use Rattle.journal.specs.Layout.{sector}
use Rattle.request_log.proofs.SlotLemmas.{same_slot}
use Rattle.space_map.specs.SpaceMap.{SpellsMap, free_blocks}
use Rattle.volume.proofs.HeadLemmas.{same_head}
use Rattle.volume.specs.Volume.{AreSame, SpellsDirectory, SpellsVolume, Volume, pointed, slots_of}

-- lists of one length that are the same at each place
same_each : {X : Type 0} (xs ys : List X) → length xs ≡ length ys → ((i : ℕ) (x y : X) → slice_get xs i ≡ Some x → slice_get ys i ≡ Some y → x ≡ y) → xs ≡ ys
same_each [] [] long same = refl
same_each [] (y ∷ ys) long same = absurd (omega arith)
same_each (x ∷ xs) [] long same = absurd (omega arith)
same_each (x ∷ xs) (y ∷ ys) long same =
    let head : x ≡ y = same 0 x y refl refl in
    let tail : xs ≡ ys = same_each xs ys (omega arith) (λ i a b p q. same (suc i) a b p q) in
    cc

same_map : (s : List ℕ) (a b : List Bool) → SpellsMap s a → SpellsMap s b → a ≡ b
same_map s a b p q = p.blocks ∙ ap free_blocks (padded-cancel 4096 p.bytes q.bytes (p.count ∙ sym q.count) (sym p.whole ∙ q.whole)) ∙ sym q.blocks

same_front : (x : List (List ℕ)) (inode : Inode) (a b : List (Option DirEntry)) → SpellsDirectory x inode a → SpellsDirectory x inode b → length a ≡ length b → (k : ℕ) → 128 * k ≤ length a → take (128 * k) a ≡ take (128 * k) b
same_front x inode a b s t long zero within = refl
same_front x inode a b s t long (suc k) within =
    let before = same_front x inode a b s t long k (omega arith) in
    let bytes = pointed x (slice_index inode.blocks k) in
    let in_a : 128 * k < length a = omega arith in
    let in_b : 128 * k < length b = omega arith in
    let of_a = block_follows a k bytes s.directory in_a (s.blocks k in_a) in
    let of_b = block_follows b k bytes t.directory in_b (t.blocks k in_b) in
    let next : take (128 * k + 128) a ≡ take (128 * k + 128) b = one_way (take (128 * k) a) _ _ bytes of_a (rw (sym before) at of_b) in
    subst (λ (n : ℕ). take n a ≡ take n b) (let e : 128 * k + 128 ≡ 128 * suc k = omega arith in e) next

same_directory : (x : List (List ℕ)) (inode : Inode) (a b : List (Option DirEntry)) → SpellsDirectory x inode a → SpellsDirectory x inode b → a ≡ b
same_directory x inode a b s t =
    let c = s.count in
    let d = t.count in
    let w = s.directory.whole in
    let long : length a ≡ length b = omega arith in
    let all : 128 * (length a / 128) ≡ length a = omega arith in
    let front = same_front x inode a b s t long (length a / 128) (omega arith) in
    sym (take_all (128 * (length a / 128)) a (omega arith)) ∙ front ∙ take_all (128 * (length a / 128)) b (omega arith)

same_inodes : (x : List (List ℕ)) (a b : Volume) → SpellsVolume x a → SpellsVolume x b → a.inodes ≡ b.inodes
same_inodes x a b s t = same_each a.inodes b.inodes (s.inode_count ∙ sym t.inode_count) (λ i p q at_a at_b. same_inode (sector x (36 + i)) p q (s.inodes i p at_a) (t.inodes i q at_b))

pub same_volume : (x : List (List ℕ)) (a b : Volume) → SpellsVolume x a → SpellsVolume x b → AreSame a b
same_volume x a b s t =
    let inodes = same_inodes x a b s t in
    record {
      clients = same_head (sector x 0) a.clients b.clients s.head t.head;
      free = same_map (sector x 19) a.free b.free s.map t.map;
      slots = same_each a.slots b.slots (s.slot_count ∙ sym t.slot_count) (λ i p q at_a at_b. same_slot (sector x (20 + i)) p q (s.slots i p at_a) (t.slots i q at_b));
      inodes = inodes;
      directories = λ number inode at_a dir. same_directory x inode (slots_of a number) (slots_of b number) (s.directories number inode at_a dir)
          (t.directories number inode (subst (λ (is : List Inode). slice_get is number ≡ Some inode) inodes at_a) dir);
    }
