-- The edit of `rename` keeps a volume within its grammar: where the entry lands.
use Rattle.std.proofs.Common.{◌≡◌, ◌≢◌, ◌≤◌, ◌<◌, ◌+◌, ◌++◌, ◌∷◌, [], ◌⊎◌, ◌||◌, ℕ, Bool, true, false, List, length, replicate, slice_set, Option, Some, None, IfSome, Result, Ok, Err, is_some, get_or, refl, sym, ap, ◌∙◌, subst, inl, inr, arith, if◌then◌else◌, length-append}
use Rattle.cal_base.specs.Limits as limits
use Rattle.std.proofs.lemmas.Bool.{cases_eq, cases_lt}
use Rattle.std.proofs.lemmas.List.{get_or-set_same, get_or-set_other, length-replicate, length-set, set_past}
use Rattle.cal_base.specs.declared.identity.ClientId.{ClientId}
use Rattle.cal_base.specs.declared.identity.Ino.{Ino}
use Rattle.directory.specs.Block.{entry_at}
use Rattle.directory.specs.Directory.{IsAbsent, first_empty}
use Rattle.directory.specs.declared.entry.DirEntry.{DirEntry}
use Rattle.tree_law.specs.Needs.{Touch}
use Rattle.tree_law.specs.Path.{IsName, IsPath}
use Rattle.tree_law.specs.Rename.{move_of}
use Rattle.tree_law.specs.Resolve.{last_of}
use Rattle.tree_law.specs.Tree.{node_at}
use Rattle.tree_law.specs.declared.rename.Move.{Move}
use Rattle.tree_law.specs.declared.reply.Reply.TheVariants.{Done}
use Rattle.tree_law.specs.declared.reply.Why.{Why}
use Rattle.tree_law.specs.declared.reply.Why.TheVariants.{NoEnt}
use Rattle.volume.specs.Volume.{Slots, Volume, slots_of}
use Rattle.volume_edit.specs.Edit.{IsEdit, IsGrowth, IsStaying, IsVolume, is_edited, with_grown, with_left}
use Rattle.volume_edit.specs.declared.edit.Edit.{Edit}
use Rattle.volume_edit.specs.declared.edit.Growth.{Growth}
use Rattle.volume_edit.specs.declared.edit.Leaving.{Leaving}
use Rattle.volume_plan.specs.Plans.{answered, blocks_needed, if_room, free_count, growth_of, grows, if_there, leaving_of, moving, moving_by, needed_moved, place_of, slots_without, standing}
use Rattle.volume_plan.specs.Shown.{shown}
use Rattle.volume_plan.proofs.EditParts.{answered_is, directory_within, is_other, slot_alone_is}
use Rattle.volume_plan.proofs.EmptySlots.{Grown, emptied, empty_first, empty_more, room_within}
use Rattle.volume_plan.proofs.MoveEdits.{IsFreeGoal, IsGoal, Moves, moves}
use Rattle.volume_plan.proofs.NamesOf.{entry_of}
use Rattle.volume_plan.proofs.PlanEdits.{GrownBy, InRange, NotGrown, growth_there, if_room_edit, last_name, needed_few, standing_edit}
use Rattle.volume_plan.proofs.ChangeWhys.{Refuses, move_of_refuses}
use Rattle.volume_plan.proofs.RemovalEdits.{NamedIn, entry_is, entry_within, gone_edit}
use Rattle.volume_plan.proofs.Rooms.{IsListed}

-- what stands in the slots of a directory from which an entry may have gone stood there before
pub left_keeps : (directories : List Slots) (l : Leaving) (number place : ℕ) (e : DirEntry) → entry_at (get_or (with_left directories (Some l)) number []) place ≡ Some e → entry_at (get_or directories number []) place ≡ Some e
left_keeps directories l number place e there =
    elim (cases_eq number l.directory.0) [
      | inr apart ↦ subst (λ (s : Slots). entry_at s place ≡ Some e) (get_or-set_other directories l.directory.0 number (slice_set (get_or directories l.directory.0 []) l.place None) [] apart) there
      | inl same ↦ subst (λ (k : ℕ). entry_at (get_or directories k []) place ≡ Some e) (sym same) (here (subst (λ (k : ℕ). entry_at (get_or (with_left directories (Some l)) k []) place ≡ Some e) same there))
    ]
  where
    slot : (slots : Slots) (at place : ℕ) (e : DirEntry) → entry_at (slice_set slots at None) place ≡ Some e → entry_at slots place ≡ Some e
    slot slots at place e there =
        elim (cases_eq place at) [
          | inr apart ↦ sym (get_or-set_other slots at place None None apart) ∙ there
          | inl same ↦ (let none = emptied slots at in let here : entry_at (slice_set slots at None) at ≡ Some e = subst (λ (k : ℕ). entry_at (slice_set slots at None) k ≡ Some e) same there in absurd (cc))
        ]

    here : entry_at (get_or (with_left directories (Some l)) l.directory.0 []) place ≡ Some e → entry_at (get_or directories l.directory.0 []) place ≡ Some e
    here there =
        elim (cases_lt l.directory.0 (length directories)) [
          | inl below ↦ slot (get_or directories l.directory.0 []) l.place place e (subst (λ (s : Slots). entry_at s place ≡ Some e) (get_or-set_same directories l.directory.0 (slice_set (get_or directories l.directory.0 []) l.place None) [] below) there)
          | inr past ↦ subst (λ (ds : List Slots). entry_at (get_or ds l.directory.0 []) place ≡ Some e) (set_past directories l.directory.0 (slice_set (get_or directories l.directory.0 []) l.place None) past) there
        ]

-- the slots from which the entry went, in the directory that it leaves and in another
left_other : (v : Volume) (move : Move) (name : List ℕ) → move.from.0 ≢ move.to.0 → slots_without v move name ≡ slots_of v move.to.0
left_other v move name apart = get_or-set_other v.directories move.from.0 move.to.0 _ [] (λ same. apart (sym same))

left_here : (v : Volume) (move : Move) (name : List ℕ) → IsVolume v → move.from.0 ≡ move.to.0 → move.from.0 < limits.inodes → slots_without v move name ≡ slice_set (slots_of v move.from.0) (place_of (slots_of v move.from.0) name) None
left_here v move name is same below =
    let count = is.directory_count in
    subst (λ (k : ℕ). get_or (with_left v.directories (Some (leaving_of v move.from name))) k [] ≡ slice_set (slots_of v move.from.0) (place_of (slots_of v move.from.0) name) None) same
    (get_or-set_same v.directories move.from.0 (slice_set (slots_of v move.from.0) (place_of (slots_of v move.from.0) name) None) [] (omega arith))

-- the slots in which the entry lands, after its leaving and a growth
abbrev slots_at : Volume → Ino → Ino → List ℕ → Option Growth → Slots
slots_at v from to name growth = get_or (with_left (with_grown v.directories growth) (Some (leaving_of v from name))) to.0 []

-- an entry lands in the first empty slot, or in the first of a new block
record Lands (v : Volume) (from to : Ino) (name goal : List ℕ) (growth : Option Growth) : Type 0 where
  within : first_empty (slots_at v from to name None) < length (slots_at v from to name growth)
  absent : IsAbsent (slots_at v from to name growth) goal

record Base (v : Volume) (from to : Ino) (name goal : List ℕ) : Type 0 where
  absent : IsAbsent (slots_at v from to name None) goal
  within : grows (slots_at v from to name None) ≡ false → first_empty (slots_at v from to name None) < length (slots_at v from to name None)
  apart : Grown (slots_at v from to name None) → from.0 ≢ to.0

abbrev moved : Ino → Ino → Ino → Option Ino → Bool → Move
moved from to ino target same = record { from = from; to = to; ino = ino; replaced = target; is_same = same }

base_same : (v : Volume) (from to ino : Ino) (target : Option Ino) (same : Bool) (name : List ℕ) → IsVolume v → NamedIn v from name ino → from.0 ≡ to.0 → first_empty (slots_at v from to name None) < length (slots_at v from to name None)
base_same v from to ino target same name is n equal =
    let below = directory_within v from.0 is n.listed.kind in
    let here = left_here v (moved from to ino target same) name is equal below in
    let place = place_of (slots_of v from.0) name in
    let inside = entry_within v from name ino n in
    let long : length (slice_set (slots_of v from.0) place None) ≡ length (slots_of v from.0) = length-set (slots_of v from.0) place None in
    let first = empty_first (slice_set (slots_of v from.0) place None) place (emptied (slots_of v from.0) place) in
    subst (λ (s : Slots). first_empty s < length s) (sym here) (omega arith)

base : (v : Volume) (from to ino : Ino) (target : Option Ino) (same : Bool) (name goal : List ℕ) → IsVolume v → NamedIn v from name ino → IsListed v to.0 → IsFreeGoal v (moved from to ino target same) goal → Base v from to name goal
base v from to ino target same name goal is n l free = record {
  absent = λ place e there. free.absent place e (left_keeps v.directories (leaving_of v from name) to.0 place e there);
  within = λ stays. elim (cases_eq from.0 to.0) [
    | inl equal ↦ base_same v from to ino target same name is n equal
    | inr apart ↦
        let other = left_other v (moved from to ino target same) name apart in
        subst (λ (s : Slots). first_empty s < length s) (sym other) (room_within (slots_of v to.0) l.sized.directory.few (free.few apart) (subst (λ (s : Slots). grows s ≡ false) other stays))
  ];
  apart = λ grown equal. (let inside = base_same v from to ino target same name is n equal in let none = grown.none in absurd (omega arith));
}

lands : (v : Volume) (from to ino : Ino) (target : Option Ino) (same : Bool) (name goal : List ℕ) → IsVolume v → IsListed v to.0 → Base v from to name goal
    → NotGrown v to (slots_at v from to name None) ⊎ GrownBy v to (slots_at v from to name None) → Lands v from to name goal (growth_of v to (slots_at v from to name None))
lands v from to ino target same name goal is l b (inl not) = subst (λ (g : Option Growth). Lands v from to name goal g) (sym not.none) (record { within = b.within not.same; absent = b.absent })
lands v from to ino target same name goal is l b (inr by) =
    let count = is.directory_count in
    let below = directory_within v to.0 is l.kind in
    let apart = b.apart by.grown in
    let other = left_other v (moved from to ino target same) name apart in
    let grown : Option Growth = Some (record { directory = to; block = by.block }) in
    let at : slots_at v from to name grown ≡ slots_at v from to name None ++ replicate 128 None =
    get_or-set_other (with_grown v.directories grown) from.0 to.0 _ [] (λ equal. apart (sym equal))
    ∙ get_or-set_same v.directories to.0 (slots_of v to.0 ++ replicate 128 None) [] (omega arith)
    ∙ ap (λ (s : Slots). s ++ replicate 128 None) (sym other) in
    let more : length (slots_at v from to name None ++ replicate {A = Option DirEntry} 128 None) ≡ length (slots_at v from to name None) + 128 =
    length-append (slots_at v from to name None) (replicate 128 None) ∙ ap (λ (n : ℕ). length (slots_at v from to name None) + n) (length-replicate {A = Option DirEntry} 128 None) in
    let none = by.grown.none in
    subst (λ (g : Option Growth). Lands v from to name goal g) (sym by.is) (record {
      within = subst (λ (s : Slots). first_empty (slots_at v from to name None) < length s) (sym at) (omega arith);
      absent = subst (λ (s : Slots). IsAbsent s goal) (sym at) (λ place e there. b.absent place e (sym (empty_more (slots_at v from to name None) 128 place) ∙ there));
    })

abbrev edit_of : Volume → ClientId → ℕ → List Ino → List Touch → Ino → Ino → Ino → Option Ino → Bool → List ℕ → List ℕ → Edit
edit_of v client number opened touched from to ino target same name goal = (moving v client number opened touched (moved from to ino target same) name goal).edit

-- no directory is edited as an inode
staying : (v : Volume) (e : Edit) (place : Ino) → IsVolume v → IsListed v place.0 → is_edited e.inode place.0 ≡ false → IsStaying v e place.0
staying v e place is l stays = record { to_511 = directory_within v place.0 is l.kind; kind = l.kind; stays = stays }

-- an entry more: in the first empty slot
adding_edit : (v : Volume) (client : ClientId) (number : ℕ) (opened : List Ino) (touched : List Touch) (from to ino : Ino) (same : Bool) (name goal : List ℕ) → IsVolume v → InRange client number → NamedIn v from name ino → IsListed v to.0
    → IsFreeGoal v (moved from to ino None same) goal → IsName goal → blocks_needed (slots_at v from to name None) ≤ free_count v → IsEdit v (edit_of v client number opened touched from to ino None same name goal)
adding_edit v client number opened touched from to ino same name goal is r n l free named enough =
    let e = edit_of v client number opened touched from to ino None same name goal in
    let b = base v from to ino None same name goal is n l free in
    let cases = growth_there v to (slots_at v from to name None) is enough in
    let lands = lands v from to ino None same name goal is l b cases in
    let entry = entry_is v from name ino n in
    record {
      some = inl refl;
      slot = answered_is v client number Done is r.known r.from_one r.fits tt;
      inode = tt;
      growth = growth_is e refl b (staying v e to is l refl) cases;
      leaving = record { directory = staying v e from is n.listed refl; within = entry_within v from name ino n };
      entering = record {
        directory = staying v e to is l refl;
        within = lands.within;
        entry = record { name = named; from_one = entry.from_one; to_511 = (let few = entry.to_511 in omega arith) };
        alone = λ place other there equal. absurd (lands.absent place other there equal);
      };
    }
  where
    growth_is : (e : Edit) → e ≡ edit_of v client number opened touched from to ino None same name goal → Base v from to name goal → IsStaying v e to.0 → NotGrown v to (slots_at v from to name None) ⊎ GrownBy v to (slots_at v from to name None)
        → IfSome (growth_of v to (slots_at v from to name None)) (IsGrowth v (edit_of v client number opened touched from to ino None same name goal))
    growth_is e equal b stay (inl not) = subst (λ (g : Option Growth). IfSome g (IsGrowth v (edit_of v client number opened touched from to ino None same name goal))) (sym not.none) tt
    growth_is e equal b stay (inr by) =
        let apart = b.apart by.grown in
        let other = left_other v (moved from to ino None same) name apart in
        let long = ap (λ (s : Slots). length s) other in
        let none = by.grown.none in
        let fewer = by.grown.fewer in
        subst (λ (g : Option Growth). IfSome g (IsGrowth v (edit_of v client number opened touched from to ino None same name goal))) (sym by.is) (record {
          directory = staying v (edit_of v client number opened touched from to ino None same name goal) to is l refl;
          fewer = omega arith;
          block = by.within;
          filled = record { directory = refl; place = omega arith };
        })

-- an entry in place of another
replacing_edit : (v : Volume) (client : ClientId) (number : ℕ) (opened : List Ino) (touched : List Touch) (from to ino target : Ino) (same : Bool) (name goal : List ℕ) → IsVolume v → InRange client number → NamedIn v from name ino → IsListed v to.0
    → IsGoal v (moved from to ino (Some target) same) goal target → IsName goal → IsEdit v (edit_of v client number opened touched from to ino (Some target) same name goal)
replacing_edit v client number opened touched from to ino target same name goal is r n l g named =
    let e = edit_of v client number opened touched from to ino (Some target) same name goal in
    let gone = entry_is v to goal target g.named in
    let entry = entry_is v from name ino n in
    let inside = entry_within v to goal target g.named in
    record {
      some = inl refl;
      slot = answered_is v client number Done is r.known r.from_one r.fits tt;
      inode = gone_edit v opened target is gone.from_one (let few = gone.to_511 in omega arith);
      growth = tt;
      leaving = record { directory = staying v e from is n.listed (is_other target.0 from.0 g.from); within = entry_within v from name ino n };
      entering = record {
        directory = staying v e to is l (is_other target.0 to.0 g.to);
        within = left_long (place_of (slots_of v to.0) goal) inside;
        entry = record { name = named; from_one = entry.from_one; to_511 = (let few = entry.to_511 in omega arith) };
        alone = λ place other there equal. l.sized.directory.distinct place (place_of (slots_of v to.0) goal) other (entry_of goal target) (left_keeps v.directories (leaving_of v from name) to.0 place other there) g.named.there equal;
      };
    }
  where
    left_long : (place : ℕ) → place < length (slots_of v to.0) → place < length (slots_at v from to name None)
    left_long place inside =
        elim (cases_eq from.0 to.0) [
          | inr apart ↦ subst (λ (s : Slots). place < length s) (sym (left_other v (moved from to ino None same) name apart)) inside
          | inl equal ↦
              let below = directory_within v from.0 is n.listed.kind in
              let here = left_here v (moved from to ino None same) name is equal below in
              let long : length (slice_set (slots_of v from.0) (place_of (slots_of v from.0) name) None) ≡ length (slots_of v from.0) = length-set (slots_of v from.0) (place_of (slots_of v from.0) name) None in
              let equal_long : length (slots_of v from.0) ≡ length (slots_of v to.0) = ap (λ (k : ℕ). length (slots_of v k)) equal in
              subst (λ (s : Slots). place < length s) (sym here) (omega arith)
        ]

moving_edit : (v : Volume) (client : ClientId) (number : ℕ) (opened : List Ino) (touched : List Touch) (from to ino : Ino) (target : Option Ino) (same : Bool) (name goal : List ℕ) → IsVolume v → InRange client number
    → Moves v (moved from to ino target same) name goal → IsName goal → needed_moved v (moved from to ino target same) name ≤ free_count v → IsEdit v (edit_of v client number opened touched from to ino target same name goal)
moving_edit v client number opened touched from to ino None same name goal is r m named enough = adding_edit v client number opened touched from to ino same name goal is r m.source m.to m.lands named enough
moving_edit v client number opened touched from to ino (Some target) same name goal is r m named enough = replacing_edit v client number opened touched from to ino target same name goal is r m.source m.to m.lands named

moved_few : (v : Volume) (from to ino : Ino) (target : Option Ino) (same : Bool) (name : List ℕ) → needed_moved v (moved from to ino target same) name ≤ 1
moved_few v from to ino None same name = needed_few (slots_at v from to name None)
moved_few v from to ino (Some target) same name = omega arith

moving_by_edit : (v : Volume) (client : ClientId) (number : ℕ) (opened : List Ino) (touched : List Touch) (r : Result Move Why) (name goal : List ℕ) → IsVolume v → InRange client number → Refuses r
    → ((move : Move) → r ≡ Ok move → move.is_same ≡ false → Moves v move name goal × IsName goal)
    → IsEdit v (moving_by v client number opened touched r name goal).edit
moving_by_edit v client number opened touched (Err why) name goal is range refuses there = standing_edit v client number why is range refuses
moving_by_edit v client number opened touched (Ok move) name goal is range refuses there =
    elim move.is_same as (λ b. move.is_same ≡ b → IsEdit v (if b then standing v client number Done else if_room v client number (moving v client number opened touched move name goal)).edit) [
      | true ↦ λ e. slot_alone_is v (answered v client number Done) (answered_is v client number Done is range.known range.from_one range.fits tt)
      | false ↦ λ e. (let t = there move refl e in if_room_edit v client number (moving v client number opened touched move name goal) is range (moved_few v move.from move.to move.ino move.replaced move.is_same name)
          (λ enough. moving_edit v client number opened touched move.from move.to move.ino move.replaced move.is_same name goal is range t.0 t.1 enough))
    ] refl

-- what is moved stands, or is moved to itself
pub record IsThere (v : Volume) (r : Result Move Why) (move : Move) : Type 0 where
  pub is : r ≡ Ok move
  pub some : move.is_same ≡ false → is_some (node_at (shown v) move.ino) ≡ true

there_by : (same some : Bool) (made move : Move) → (if same || some then Ok made else Err NoEnt) ≡ Ok move → (same ≡ false → some ≡ true) × (made ≡ move)
there_by true some made move e = ((λ none. absurd (cc)), (let same : made ≡ move = cc in same))
there_by false true made move e = ((λ none. refl), (let same : made ≡ move = cc in same))
there_by false false made move e = absurd (cc)

pub is_there : (v : Volume) (r : Result Move Why) (move : Move) → if_there v r ≡ Ok move → IsThere v r move
is_there v (Ok made) move e =
    let t = there_by made.is_same (is_some (node_at (shown v) made.ino)) made move e in
    record { is = ap (λ (m : Move). Ok m) t.1; some = subst (λ (m : Move). m.is_same ≡ false → is_some (node_at (shown v) m.ino) ≡ true) t.1 t.0 }
is_there v (Err why) move e = absurd (cc)

there_refuses : (v : Volume) (r : Result Move Why) → Refuses r → Refuses (if_there v r)
there_refuses v (Ok move) refuses = elim (move.is_same || is_some (node_at (shown v) move.ino)) as (λ b. Refuses (if b then Ok move else Err NoEnt)) [
  | true ↦ tt
  | false ↦ tt
]
there_refuses v (Err why) refuses = refuses

goal_name : (v : Volume) (path goal : List (List ℕ)) (move : Move) → IsVolume v → IsPath goal → move_of (shown v) path goal ≡ Ok move → IsName (last_of goal)
goal_name v [] goal move is p e = absurd (cc)
goal_name v (name ∷ names) [] move is p e = absurd (cc)
goal_name v (name ∷ names) (other ∷ others) move is p e = last_name other others p

-- `rename`
pub rename_edit : (v : Volume) (client : ClientId) (number : ℕ) (opened : List Ino) (touched : List Touch) (path goal : List (List ℕ)) → IsVolume v → InRange client number → IsPath goal
    → IsEdit v (moving_by v client number opened touched (if_there v (move_of (shown v) path goal)) (last_of path) (last_of goal)).edit
rename_edit v client number opened touched path goal is range p =
    moving_by_edit v client number opened touched (if_there v (move_of (shown v) path goal)) (last_of path) (last_of goal) is range (there_refuses v (move_of (shown v) path goal) (move_of_refuses (shown v) path goal))
    (λ move e differ. (let t = is_there v (move_of (shown v) path goal) move e in (moves v path goal move is t.is differ (t.some differ), goal_name v path goal move is p t.is)))
