-- Two volumes within their grammar that the same sectors spell are equal.
use Rattle.std.proofs.Common.{◌≡◌, ◌<◌, ℕ, List, [], Some, slice_get, refl, sym, ◌∙◌, subst, arith}
use Rattle.cal_base.specs.Limits as limits
use Rattle.std.proofs.lemmas.List.{ext_get_or}
use Rattle.std.proofs.lemmas.Option.{slice_get-get_or}
use Rattle.inode.specs.declared.inode.Inode.{Inode}
use Rattle.inode.specs.declared.inode.Kind.{Kind}
use Rattle.inode.specs.declared.inode.Kind.TheVariants.{Free, File, Dir}
use Rattle.volume.proofs.OneVolume.{same_volume}
use Rattle.volume.specs.Volume.{AreSame, Slots, SpellsVolume, Volume, slots_of}
use Rattle.volume_edit.specs.Edit.{HasSlots, IsVolume, free_inode, inode_at}

-- an inode other than a directory has no slots
same_slots : (k : Kind) (inode : Inode) (x y : Slots) → (k ≡ Dir → x ≡ y) → HasSlots k inode x → HasSlots k inode y → x ≡ y
same_slots Free inode x y dir p q = p ∙ sym q
same_slots File inode x y dir p q = p ∙ sym q
same_slots Dir inode x y dir p q = dir refl

same_at : (a b : Volume) → AreSame a b → IsVolume a → IsVolume b → (number : ℕ) → number < limits.inodes → slots_of a number ≡ slots_of b number
same_at a b s p q number below =
    let inodes = p.inode_count in
    let inode = inode_at a.inodes number in
    let there : slice_get a.inodes number ≡ Some inode = slice_get-get_or a.inodes number free_inode (omega arith) in
    let too : slice_get b.inodes number ≡ Some inode = subst (λ (is : List Inode). slice_get is number ≡ Some inode) s.inodes there in
    same_slots inode.kind inode (slots_of a number) (slots_of b number) (s.directories number inode there) (p.directories number inode there) (q.directories number inode too)

same_directories : (a b : Volume) → AreSame a b → IsVolume a → IsVolume b → a.directories ≡ b.directories
same_directories a b s p q =
    let long = p.directory_count in
    ext_get_or [] a.directories b.directories (p.directory_count ∙ sym q.directory_count) (λ number within. same_at a b s p q number (omega arith))

pub one_whole : (sectors : List (List ℕ)) (a b : Volume) → SpellsVolume sectors a → SpellsVolume sectors b → IsVolume a → IsVolume b → a ≡ b
one_whole sectors a b s t p q =
    let same = same_volume sectors a b s t in
    let directories = same_directories a b same p q in
    λ i. record { clients = same.clients i; free = same.free i; slots = same.slots i; inodes = same.inodes i; directories = directories i }
