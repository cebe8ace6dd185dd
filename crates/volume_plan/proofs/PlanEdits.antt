-- Each plan's edit keeps a volume within its grammar.
use Rattle.std.proofs.Common.{◌≡◌, ◌⊎◌, ◌==◌, ◌≤◌, ◌<◌, ◌+◌, ◌-◌, ◌^◌, ◌++◌, ◌∷◌, [], ℕ, Bool, true, false, List, length, replicate, Option, Some, None, IfSome, Result, Ok, Err, get_or, refl, sym, ap, ◌∙◌, subst, inl, inr, arith, nat_lt, if◌then◌else◌, length-append}
use Rattle.cal_base.specs.Limits as limits
use Rattle.std.proofs.lemmas.List.{get_or-set_same, length-replicate}
use Rattle.std.proofs.lemmas.Bool.Decides.{nat_tests}
use Rattle.std.proofs.lemmas.List.Sums.{count_by-le-length}
use Rattle.tree_law.specs.Needs.{Touch}
use Rattle.cal_base.specs.declared.identity.ClientId.{ClientId}
use Rattle.cal_base.specs.declared.identity.Ino.{Ino}
use Rattle.change_reply.specs.ReplyBytes.{IsChangeReply}
use Rattle.directory.specs.Directory.{IsAbsent, first_empty}
use Rattle.directory.specs.declared.entry.DirEntry.{DirEntry}
use Rattle.inode.specs.declared.inode.Inode.{Inode}
use Rattle.inode.specs.declared.inode.Kind.{Kind}
use Rattle.inode.specs.declared.inode.Kind.TheVariants.{Free, File, Dir}
use Rattle.tree_law.specs.Path.{IsName, IsPath}
use Rattle.tree_law.specs.Resolve.{last_of, new_place}
use Rattle.tree_law.specs.declared.reply.Reply.TheVariants.{Done, Refused}
use Rattle.tree_law.specs.declared.reply.Why.{Why}
use Rattle.tree_law.specs.declared.reply.Why.TheVariants.{NoInode, NoSpace}
use Rattle.volume.specs.Volume.{Slots, Volume, slots_of}
use Rattle.volume_edit.specs.Edit.{IsEdit, IsGrowth, IsInodeEdit, IsStaying, IsVolume, inode_at, is_edited, with_grown}
use Rattle.volume_edit.specs.declared.edit.Edit.{Edit}
use Rattle.volume_edit.specs.declared.edit.Growth.{Growth}
use Rattle.volume_edit.specs.declared.edit.InodeEdit.{InodeEdit}
use Rattle.volume_plan.specs.Plans.{Plan, answered, blocks_needed, free_count, growth_of, grows, if_room, least_block, least_inode, making, making_at, making_if, new_inode, short, standing}
use Rattle.volume_plan.specs.Shown.{shown}
use Rattle.volume_plan.proofs.EditParts.{IsNew, answered_is, directory_within, is_other, least_is, new_directory_edit, new_file_edit, slot_alone_is}
use Rattle.volume_plan.proofs.FirstFree.{least_free}
use Rattle.volume_plan.proofs.EmptySlots.{Grown, empty_more, grows_is, room_within}
use Rattle.volume_plan.proofs.ChangeWhys.{Refuses, new_place_refuses}
use Rattle.volume_plan.proofs.Rooms.{HasRoom, new_place_room}

-- a client's request in its range
pub record InRange (client : ClientId) (number : ℕ) : Type 0 where
  pub known : client.0 < limits.clients
  pub from_one : 1 ≤ number
  pub fits : number < 2 ^ 64

pub standing_edit : (v : Volume) (client : ClientId) (number : ℕ) (why : Why) → IsVolume v → InRange client number → IsChangeReply (Refused why) → IsEdit v (standing v client number (Refused why)).edit
standing_edit v client number why is r change = slot_alone_is v (answered v client number (Refused why)) (answered_is v client number (Refused why) is r.known r.from_one r.fits change)

-- the slots of a directory that grows
grown_at : (directories : List Slots) (place : Ino) (block : ℕ) → place.0 < length directories → get_or (with_grown directories (Some (record { directory = place; block = block }))) place.0 [] ≡ get_or directories place.0 [] ++ replicate 128 None
grown_at directories place block within = get_or-set_same directories place.0 (get_or directories place.0 [] ++ replicate 128 None) [] within

-- the edit of an inode that is made, an entry for it, and growth where that is needed
abbrev made : Volume → ClientId → ℕ → Ino → List ℕ → Kind → ℕ → Edit
made v client number place name kind ino = (making v client number place name kind (record { 0 = ino })).edit

stays : (v : Volume) (place : Ino) (name : List ℕ) (ino : ℕ) (e : Edit) → IsVolume v → HasRoom v place name → IsNew v ino → (inode : Inode) → e.inode ≡ Some (record { ino = record { 0 = ino }; inode = inode }) → IsStaying v e place.0
stays v place name ino e is room new inode same =
    let dir = room.listed.kind in
    let free = new.kind in
    let apart : (ino == place.0) ≡ false = is_other ino place.0 (λ equal. (let kinds : (inode_at v.inodes ino).kind ≡ (inode_at v.inodes place.0).kind = ap (λ (n : ℕ). (inode_at v.inodes n).kind) equal in absurd (cc))) in
    record {
      to_511 = directory_within v place.0 is dir;
      kind = dir;
      stays = subst (λ (o : Option InodeEdit). is_edited o place.0 ≡ false) (sym same) apart;
    }

-- an entry goes to the first empty slot, or to the first of a new block
record Goes (v : Volume) (place : Ino) (name : List ℕ) (growth : Option Growth) : Type 0 where
  within : first_empty (slots_of v place.0) < length (get_or (with_grown v.directories growth) place.0 [])
  absent : IsAbsent (get_or (with_grown v.directories growth) place.0 []) name

pub record NotGrown (v : Volume) (place : Ino) (slots : Slots) : Type 0 where
  pub same : grows slots ≡ false
  pub none : growth_of v place slots ≡ None

pub record GrownBy (v : Volume) (place : Ino) (slots : Slots) : Type 0 where
  pub block : ℕ
  pub is : growth_of v place slots ≡ Some (record { directory = place; block = block })
  pub within : block < limits.blocks
  pub grown : Grown slots

grown_by : (v : Volume) (place : Ino) (slots : Slots) (block : ℕ) → grows slots ≡ true → least_block v ≡ Some block → growth_of v place slots ≡ Some (record { directory = place; block = block })
grown_by v place slots block e least = rw (e, least) refl

pub growth_there : (v : Volume) (place : Ino) (slots : Slots) → IsVolume v → blocks_needed slots ≤ free_count v → NotGrown v place slots ⊎ GrownBy v place slots
growth_there v place slots is room =
    elim (grows slots) as (λ b. grows slots ≡ b → (if b then 1 else 0) ≤ free_count v → NotGrown v place slots ⊎ GrownBy v place slots) [
      | false ↦ λ e some. inl (record { same = e; none = rw e refl })
      | true ↦ λ e some. (
          let least = least_free v.free (omega arith) in
          let map = is.map in
          let below = least.within in
          inr (record { block = least.block; is = grown_by v place slots least.block e least.is; within = omega arith; grown = grows_is slots e }))
    ] refl room

goes : (v : Volume) (place : Ino) (name : List ℕ) → IsVolume v → HasRoom v place name → NotGrown v place (slots_of v place.0) ⊎ GrownBy v place (slots_of v place.0) → Goes v place name (growth_of v place (slots_of v place.0))
goes v place name is room (inl not) =
    subst (λ (g : Option Growth). Goes v place name g) (sym not.none) (record {
      within = room_within (slots_of v place.0) room.listed.sized.directory.few room.few not.same;
      absent = room.absent;
    })
goes v place name is room (inr by) =
    let count = is.directory_count in
    let below = directory_within v place.0 is room.listed.kind in
    let at = grown_at v.directories place by.block (omega arith) in
    subst (λ (g : Option Growth). Goes v place name g) (sym by.is) (record {
      within =
          (let none = by.grown.none in
          let more : length (slots_of v place.0 ++ replicate {A = Option DirEntry} 128 None) ≡ length (slots_of v place.0) + 128 = length-append (slots_of v place.0) (replicate 128 None) ∙ ap (λ (n : ℕ). length (slots_of v place.0) + n) (length-replicate {A = Option DirEntry} 128 None) in
          subst (λ (s : Slots). first_empty (slots_of v place.0) < length s) (sym at) (omega arith));
      absent = subst (λ (s : Slots). IsAbsent s name) (sym at) (λ other e there. room.absent other e (sym (empty_more (slots_of v place.0) 128 other) ∙ there));
    })

-- an inode of a new file or directory
making_edit : (v : Volume) (client : ClientId) (number : ℕ) (place : Ino) (name : List ℕ) (kind : Kind) (ino : ℕ) → IsVolume v → InRange client number → HasRoom v place name → IsName name → IsNew v ino
    → IsInodeEdit (record { ino = record { 0 = ino }; inode = new_inode kind }) → blocks_needed (slots_of v place.0) ≤ free_count v → IsEdit v (made v client number place name kind ino)
making_edit v client number place name kind ino is r room named new inode enough =
    let cases = growth_there v place (slots_of v place.0) is enough in
    let g = goes v place name is room cases in
    let stay : IsStaying v (made v client number place name kind ino) place.0 = stays v place name ino (made v client number place name kind ino) is room new (new_inode kind) refl in
    record {
      some = inl refl;
      slot = answered_is v client number Done is r.known r.from_one r.fits tt;
      inode = inode;
      growth = growth_is v client number place name kind ino stay cases;
      leaving = tt;
      entering = record {
        directory = stay;
        within = g.within;
        entry = record { name = named; from_one = new.from_one; to_511 = (let few = new.to_511 in omega arith) };
        alone = λ other e there same. absurd (g.absent other e there same);
      };
    }
  where
    growth_is : (v : Volume) (client : ClientId) (number : ℕ) (place : Ino) (name : List ℕ) (kind : Kind) (ino : ℕ) → IsStaying v (made v client number place name kind ino) place.0
        → NotGrown v place (slots_of v place.0) ⊎ GrownBy v place (slots_of v place.0) → IfSome (growth_of v place (slots_of v place.0)) (IsGrowth v (made v client number place name kind ino))
    growth_is v client number place name kind ino stay (inl not) = subst (λ (g : Option Growth). IfSome g (IsGrowth v (made v client number place name kind ino))) (sym not.none) tt
    growth_is v client number place name kind ino stay (inr by) = subst (λ (g : Option Growth). IfSome g (IsGrowth v (made v client number place name kind ino))) (sym by.is) (record {
      directory = stay;
      fewer = by.grown.fewer;
      block = by.within;
      filled = record { directory = refl; place = (let none = by.grown.none in omega arith) };
    })

-- a file or a directory is made
abbrev pub IsMade : Kind → Type 0
IsMade Free = ⊥
IsMade File = Unit {0}
IsMade Dir = Unit {0}

new_edit : (v : Volume) (kind : Kind) (ino : ℕ) → IsMade kind → IsNew v ino → IsInodeEdit (record { ino = record { 0 = ino }; inode = new_inode kind })
new_edit v Free ino made new = absurd made
new_edit v File ino made new = new_file_edit v ino new
new_edit v Dir ino made new = new_directory_edit v ino new

-- the slot alone is altered where blocks are short
short_edit : (v : Volume) (client : ClientId) (number : ℕ) (touched : List Touch) (needed : ℕ) → IsVolume v → InRange client number → needed ≤ 1 → IsEdit v (short v client number touched needed).edit
short_edit v client number touched needed is r few =
    let most = count_by-le-length (λ (b : Bool). b) v.free in
    let map = is.map in
    slot_alone_is v (answered v client number (Refused (NoSpace (free_count v) needed))) (answered_is v client number (Refused (NoSpace (free_count v) needed)) is r.known r.from_one r.fits (omega arith, omega arith))

pub if_room_edit : (v : Volume) (client : ClientId) (number : ℕ) (p : Plan) → IsVolume v → InRange client number → p.needed ≤ 1 → (p.needed ≤ free_count v → IsEdit v p.edit) → IsEdit v (if_room v client number p).edit
if_room_edit v client number p is r few fits =
    elim (nat_lt (free_count v) p.needed) as (λ b. nat_lt (free_count v) p.needed ≡ b → IsEdit v (if b then short v client number p.touches p.needed else p).edit) [
      | true ↦ λ e. short_edit v client number p.touches p.needed is r few
      | false ↦ λ e. fits (grind (arith, nat_tests))
    ] refl

pub needed_few : (slots : Slots) → blocks_needed slots ≤ 1
needed_few slots = elim (grows slots) as (λ b. (if b then 1 else 0) ≤ 1) [
  | true ↦ omega arith
  | false ↦ omega arith
]

making_if_edit : (v : Volume) (client : ClientId) (number : ℕ) (place : Ino) (name : List ℕ) (kind : Kind) (o : Option ℕ) → IsVolume v → InRange client number → HasRoom v place name → IsName name → IsMade kind
    → least_inode v ≡ o → IsEdit v (making_if v client number place name kind o).edit
making_if_edit v client number place name kind None is r room named made none = standing_edit v client number NoInode is r tt
making_if_edit v client number place name kind (Some ino) is r room named made found =
    let new = least_is v ino is found in
    if_room_edit v client number (making v client number place name kind (record { 0 = ino })) is r (needed_few (slots_of v place.0))
    (λ enough. making_edit v client number place name kind ino is r room named new (new_edit v kind ino made new) enough)

making_at_edit : (v : Volume) (client : ClientId) (number : ℕ) (at : Result Ino Why) (name : List ℕ) (kind : Kind) → IsVolume v → InRange client number → Refuses at → ((place : Ino) → at ≡ Ok place → HasRoom v place name × IsName name)
    → IsMade kind → IsEdit v (making_at v client number at name kind).edit
making_at_edit v client number (Err why) name kind is r refuses there made = standing_edit v client number why is r refuses
making_at_edit v client number (Ok place) name kind is r refuses there made =
    let t = there place refl in
    making_if_edit v client number place name kind (least_inode v) is r t.0 t.1 made refl

-- the last name of a path other than the root's is a name
pub last_name : (name : List ℕ) (names : List (List ℕ)) → IsPath (name ∷ names) → IsName (last_of (name ∷ names))
last_name name names path = path.names (length (name ∷ names) - 1) [] (omega arith)

placed_name : (v : Volume) (path : List (List ℕ)) (place : Ino) → IsVolume v → IsPath path → new_place (shown v) path ≡ Ok place → HasRoom v place (last_of path) × IsName (last_of path)
placed_name v [] place is path e = absurd (cc)
placed_name v (name ∷ names) place is path e = (new_place_room v (name ∷ names) place is e, last_name name names path)

-- `create` and `mkdir`
pub make_edit : (v : Volume) (client : ClientId) (number : ℕ) (path : List (List ℕ)) (kind : Kind) → IsVolume v → InRange client number → IsPath path → IsMade kind
    → IsEdit v (making_at v client number (new_place (shown v) path) (last_of path) kind).edit
make_edit v client number path kind is r p made =
    making_at_edit v client number (new_place (shown v) path) (last_of path) kind is r (new_place_refuses (shown v) path) (λ place e. placed_name v path place is p e) made
