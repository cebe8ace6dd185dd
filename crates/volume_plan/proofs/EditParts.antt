-- The parts of a plan's edit keep a volume within its grammar.
use Rattle.std.proofs.Common.{◌≡◌, ◌≢◌, ◌==◌, ◌≤◌, ◌<◌, ◌^◌, ℕ, zero, suc, true, false, List, [], ◌∷◌, length, replicate, Some, slice_get, get_or, refl, ap, inl, inr, arith}
use Rattle.cal_base.specs.Limits as limits
use Rattle.std.proofs.lemmas.Bool.{cases_lt}
use Rattle.std.proofs.lemmas.Bool.Decides.{nat_tests}
use Rattle.std.proofs.lemmas.List.{length-replicate}
use Rattle.std.proofs.lemmas.List.Quantifiers.{position-Some}
use Rattle.cal_base.specs.declared.identity.ClientId.{ClientId}
use Rattle.change_reply.specs.ReplyBytes.{IsChangeReply}
use Rattle.directory.specs.Directory.{IsDirectory}
use Rattle.inode.specs.Inode.{IsInode}
use Rattle.inode.specs.declared.inode.Inode.{Inode}
use Rattle.inode.specs.declared.inode.Kind.{Kind}
use Rattle.inode.specs.declared.inode.Kind.TheVariants.{Free, File, Dir}
use Rattle.request_log.specs.Slot.{IsSlot}
use Rattle.tree_law.specs.declared.reply.Reply.{Reply}
use Rattle.volume.specs.Volume.{Volume}
use Rattle.volume_edit.specs.Edit.{IsEdit, IsInodeEdit, IsSlotEdit, IsVolume, first_slot, free_inode, inode_at, slot_at}
use Rattle.volume_edit.specs.declared.edit.SlotEdit.{SlotEdit}
use Rattle.volume_plan.specs.Plans.{answered, is_free, least_inode, new_inode, slot_alone}

pub get_there : {X : Type 0} (xs : List X) (i : ℕ) (d : X) → i < length xs → slice_get xs i ≡ Some (get_or xs i d)
get_there [] i d within = absurd (omega arith)
get_there (x ∷ xs) zero d within = refl
get_there (x ∷ xs) (suc i) d within = get_there xs i d (omega arith)

pub get_past : {X : Type 0} (xs : List X) (i : ℕ) (d : X) → length xs ≤ i → get_or xs i d ≡ d
get_past [] i d past = refl
get_past (x ∷ xs) zero d past = absurd (omega arith)
get_past (x ∷ xs) (suc i) d past = get_past xs i d (omega arith)

pub slot_is : (v : Volume) (client : ℕ) → IsVolume v → client < limits.clients → IsSlot (slot_at v.slots client)
slot_is v client is known = let count = is.slot_count in is.slots client (slot_at v.slots client) (get_there v.slots client first_slot (omega arith))

-- the slot of a client with the number and the reply of a change
pub answered_is : (v : Volume) (client : ClientId) (number : ℕ) (reply : Reply) → IsVolume v → client.0 < limits.clients → 1 ≤ number → number < 2 ^ 64 → IsChangeReply reply → IsSlotEdit (answered v client number reply)
answered_is v client number reply is known some fits change = record {
  client = known;
  slot = record {
    call = fits;
    flush = (slot_is v client.0 is known).flush;
    reply = record { change = change; none = λ none. absurd (omega arith) };
  };
}

pub slot_alone_is : (v : Volume) (e : SlotEdit) → IsSlotEdit e → IsEdit v (slot_alone e)
slot_alone_is v e is = record { some = inl refl; slot = is; inode = tt; growth = tt; leaving = tt; entering = tt }

-- a directory is one of the 512 inodes
pub directory_within : (v : Volume) (number : ℕ) → IsVolume v → (inode_at v.inodes number).kind ≡ Dir → number < limits.inodes
directory_within v number is kind =
    elim (cases_lt number 512) [
      | inl below ↦ omega arith
      | inr past ↦
          let count = is.inode_count in
          let none : inode_at v.inodes number ≡ free_inode = get_past v.inodes number free_inode (omega arith) in
          let other : (inode_at v.inodes number).kind ≡ Free = ap (λ (i : Inode). i.kind) none in
          absurd (cc)
    ]

is_free_kind : (kind : Kind) → is_free kind ≡ true → kind ≡ Free
is_free_kind Free e = refl
is_free_kind File e = absurd (cc)
is_free_kind Dir e = absurd (cc)

-- the least free inode is one of 1 to 511, and free
pub record IsNew (v : Volume) (number : ℕ) : Type 0 where
  pub from_one : 1 ≤ number
  pub to_511 : number < limits.inodes
  pub kind : (inode_at v.inodes number).kind ≡ Free

pub least_is : (v : Volume) (number : ℕ) → IsVolume v → least_inode v ≡ Some number → IsNew v number
least_is v number is e =
    let found = position-Some (λ (inode : Inode). is_free inode.kind) v.inodes number free_inode e in
    let count = is.inode_count in
    let kind : (inode_at v.inodes number).kind ≡ Free = is_free_kind (inode_at v.inodes number).kind found.1 in
    record {
      from_one = elim (cases_lt 0 number) [
        | inl above ↦ above
        | inr low ↦
            let root = is.root in
            let first : number ≡ 0 = omega arith in
            let same : (inode_at v.inodes number).kind ≡ (inode_at v.inodes 0).kind = ap (λ (n : ℕ). (inode_at v.inodes n).kind) first in
            absurd (cc)
      ];
      to_511 = let below = found.0 in omega arith;
      kind = kind;
    }

pub is_other : (a b : ℕ) → a ≢ b → (a == b) ≡ false
is_other a b apart = grind (arith, nat_tests)

-- inodes of two kinds are two
pub kinds_apart : (v : Volume) (a b : ℕ) → (inode_at v.inodes a).kind ≢ (inode_at v.inodes b).kind → (a == b) ≡ false
kinds_apart v a b apart = is_other a b (λ same. apart (ap (λ (n : ℕ). (inode_at v.inodes n).kind) same))

pub same_default : {A : Type 0} (n i : ℕ) (a : A) → get_or (replicate {A = A} n a) i a ≡ a
same_default zero i a = refl
same_default (suc n) zero a = refl
same_default (suc n) (suc i) a = same_default n i a

holes : (place : ℕ) → get_or (replicate {A = ℕ} 64 0) place 0 ≡ 0
holes place = same_default 64 place 0

new_file_is : IsInode (new_inode File)
new_file_is = record { count = length-replicate {A = ℕ} 64 0; pointers = λ place. (let hole = holes place in omega arith); allowed = record { size = omega arith; holes = λ place past. holes place } }

new_directory_is : IsInode (new_inode Dir)
new_directory_is = record {
  count = length-replicate {A = ℕ} 64 0;
  pointers = λ place. (let hole = holes place in omega arith);
  allowed = record { named = refl; whole = refl; size = omega arith; blocks = λ place before. absurd (omega arith); holes = λ place past. holes place };
}

pub free_is : IsInode free_inode
free_is = record { count = length-replicate {A = ℕ} 64 0; pointers = λ place. (let hole = holes place in omega arith); allowed = record { named = refl; size = refl; holes = λ place past. holes place } }

pub no_slots : IsDirectory []
no_slots = record { whole = refl; few = omega arith; entries = λ place e h. absurd (cc); distinct = λ i j a b ha hb same. absurd (cc) }

pub new_file_edit : (v : Volume) (number : ℕ) → IsNew v number → IsInodeEdit (record { ino = record { 0 = number }; inode = new_inode File })
new_file_edit v number new = record { from_one = new.from_one; to_511 = (let few = new.to_511 in omega arith); inode = new_file_is; empty = refl }

pub new_directory_edit : (v : Volume) (number : ℕ) → IsNew v number → IsInodeEdit (record { ino = record { 0 = number }; inode = new_inode Dir })
new_directory_edit v number new = record { from_one = new.from_one; to_511 = (let few = new.to_511 in omega arith); inode = new_directory_is; empty = record { directory = no_slots; count = refl } }
