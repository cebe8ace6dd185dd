-- Where the entry of a move lands: in the slot of the name that it replaces, or in the first empty one.
use Rattle.std.proofs.Common.{◌≡◌, ◌≢◌, ◌≤◌, ◌<◌, ◌&&◌, ℕ, zero, suc, Bool, false, nat_lt, List, [], ◌∷◌, length, set, Option, Some, None, IfSome, inl, inr, refl, sym, ap, subst, ◌∙◌, arith, if◌then◌else◌}
use Rattle.cal_base.specs.Limits as limits
use Rattle.std.proofs.lemmas.Bool.{cases_eq, ne_eqb}
use Rattle.std.proofs.lemmas.List.{get_or-set_other, length-set}
use Rattle.std.specs.FinMap as finite
use Rattle.cal_base.specs.declared.identity.Ino.{Ino}
use Rattle.directory.specs.Block.{entry_at}
use Rattle.directory.specs.Directory.{IsAbsent, entry_count, first_empty}
use Rattle.directory.specs.declared.entry.DirEntry.{DirEntry}
use Rattle.tree_law.specs.Names.{Names}
use Rattle.tree_law.specs.Tree.{Tree}
use Rattle.volume.specs.Volume.{Slots, Volume, slots_of}
use Rattle.volume_edit.specs.Edit.{IsVolume}
use Rattle.volume_edit.specs.declared.edit.Growth.{Growth}
use Rattle.volume_plan.specs.Plans.{blocks_needed, free_count, growth_by, growth_of, grows, least_block, place_of}
use Rattle.volume_plan.proofs.Fits.{StandForNodes}
use Rattle.volume_plan.proofs.Leaving.{IsPlaced, placed_at}
use Rattle.volume_plan.proofs.MovedNames.{Moved}
use Rattle.volume_plan.proofs.MovedSlots.{IsLanding, former_placed, slots_then, then_other, then_same, to_directory}
use Rattle.volume_plan.proofs.NamesOf.{entry_of, got_absent, got_names, names_of-len}
use Rattle.volume_plan.proofs.Room.{IsReady, readied, ready_entry, ready_within, with_block}
use Rattle.volume_plan.proofs.SlotEntries.{IsPlaceFor, emptied_none, empty_place, first_empty-none, own_place}

-- ---- an entry that went leaves an empty slot, and all others

pub record IsStill (slots : Slots) (place q : ℕ) (e : DirEntry) : Type 0 where
  pub apart : q ≢ place
  pub there : entry_at slots q ≡ Some e

still_there : (slots : Slots) (place q : ℕ) (e : DirEntry) → entry_at (set slots place None) q ≡ Some e → IsStill slots place q e
still_there slots place q e at = elim (cases_eq q place) [
  | inl same ↦ (let both : None ≡ Some e = sym (emptied_none slots place None refl) ∙ ap (entry_at (set slots place None)) (sym same) ∙ at in absurd (cc))
  | inr apart ↦ record { apart = apart; there = sym (get_or-set_other slots place q None None apart) ∙ at }
]

absent_left : (slots : Slots) (place : ℕ) (name : List ℕ) → IsAbsent slots name → IsAbsent (set slots place None) name
absent_left slots place name absent q e at = absent q e (still_there slots place q e at).there

place_left : (slots : Slots) (place q : ℕ) (name : List ℕ) → q ≢ place → IsPlaceFor slots q name → IsPlaceFor (set slots place None) q name
place_left slots place q name apart p = record {
  within = (let w = p.within in let l = length-set slots place None in omega arith);
  there = λ other at. p.there other (still_there slots place q other at).there;
  alone = λ k other at same. p.alone k other (still_there slots place k other at).there same;
}

first_before : (slots : Slots) (place : ℕ) → place < length slots → entry_at slots place ≡ None → first_empty slots ≤ place
unfolding first_empty
first_before [] place within at = absurd (omega arith)
first_before (None ∷ slots) place within at = omega arith
first_before (Some e ∷ slots) zero within at = absurd (cc)
first_before (Some e ∷ slots) (suc place) within at = (let rest = first_before slots place (omega arith) at in omega arith)

-- with an empty slot no block comes
grows_no : (slots : Slots) → first_empty slots < length slots → grows slots ≡ false
grows_no slots room = ap (λ (b : Bool). b && nat_lt (length slots) 1024) (ne_eqb (first_empty slots) (length slots) (λ same. absurd (omega arith)))

no_growth : (v : Volume) (to : Ino) (slots : Slots) → first_empty slots < length slots → growth_of v to slots ≡ None
no_growth v to slots room = ap (λ (b : Bool). if b then growth_by to (least_block v) else None) (grows_no slots room)

module _ (sectors : List (List ℕ)) (v : Volume) (tree less : Tree) (from to ino : Ino) (replaced : Option Ino) (name goal : List ℕ)
    (is : IsVolume v) (stand : StandForNodes sectors v tree) (r : Moved sectors v tree less from to ino replaced name goal) where
  abbrev then_there : Slots
  then_there = slots_then v from to name

  abbrev slots : Slots
  slots = slots_of v to.0

  abbrev left_place : ℕ
  left_place = place_of (slots_of v from.0) name

  to_placed : from.0 ≡ to.0 → IsPlaced slots name ino left_place
  to_placed same = subst (λ (n : ℕ). IsPlaced (slots_of v n) name ino left_place) same (former_placed sectors v tree less from to ino replaced name goal is stand r)

  -- ---- nothing is replaced: the first empty slot

  absent_then : finite.get r.names goal ≡ None → IsAbsent then_there goal
  absent_then vacant =
      let d = to_directory sectors v tree less from to ino replaced name goal is stand r in
      let absent : IsAbsent slots goal = got_absent slots goal d.sized.directory.distinct (ap (λ (ns : Names). finite.get ns goal) d.same ∙ vacant) in
      elim (cases_eq from.0 to.0) [
        | inl same ↦ subst (λ (xs : Slots). IsAbsent xs goal) (sym (then_same sectors v tree less from to ino replaced name goal is stand r same)) (absent_left slots left_place goal absent)
        | inr apart ↦ subst (λ (xs : Slots). IsAbsent xs goal) (sym (then_other sectors v tree less from to ino replaced name goal is stand r apart)) absent
      ]

  room_same : from.0 ≡ to.0 → first_empty then_there < length then_there
  room_same same =
      let p = to_placed same in
      let empty : entry_at (set slots left_place None) left_place ≡ None = emptied_none slots left_place None refl in
      let within : left_place < length (set slots left_place None) = (let w = p.within in let l = length-set slots left_place None in omega arith) in
      let first = first_before (set slots left_place None) left_place within empty in
      subst (λ (xs : Slots). first_empty xs < length xs) (sym (then_same sectors v tree less from to ino replaced name goal is stand r same)) (omega arith)

  ready_then : (from.0 ≢ to.0 → finite.len r.names < limits.directory_entries) → nat_lt (free_count v) (blocks_needed then_there) ≡ false → IsReady v to then_there (growth_of v to then_there)
  ready_then few enough = elim (cases_eq from.0 to.0) [
    | inl same ↦ subst (λ (o : Option Growth). IsReady v to then_there o) (sym (no_growth v to then_there (room_same same))) (room_same same)
    | inr apart ↦ (let d = to_directory sectors v tree less from to ino replaced name goal is stand r in
        let count : entry_count slots < limits.directory_entries = (let all = sym (names_of-len slots d.sized.directory.distinct) ∙ ap finite.len d.same in let less = few apart in omega arith) in
        readied v to then_there (subst (λ (xs : Slots). entry_count xs < limits.directory_entries) (sym (then_other sectors v tree less from to ino replaced name goal is stand r apart)) count) enough)
  ]

  if_ready : (o : Option Growth) → IsReady v to then_there o → IfSome o (λ grown. IsReady v to then_there (Some grown))
  if_ready (Some x) ready = ready
  if_ready None ready = tt

  behind_then : (o : Option Growth) → IsReady v to then_there o → (from.0 ≡ to.0 → o ≡ None) → IfSome o (λ grown. length slots ≤ first_empty then_there)
  behind_then (Some x) ready alone = elim (cases_eq from.0 to.0) [
    | inl same ↦ (let both : Some x ≡ None = alone same in absurd (cc))
    | inr apart ↦ (let full = ready.full.full in let long = ap length (then_other sectors v tree less from to ino replaced name goal is stand r apart) in omega arith)
  ]
  behind_then None ready alone = tt

  pub lands_alone : finite.get r.names goal ≡ None → (from.0 ≢ to.0 → finite.len r.names < limits.directory_entries) → nat_lt (free_count v) (blocks_needed then_there) ≡ false
      → IsLanding v from to name goal (growth_of v to then_there) (first_empty then_there)
  lands_alone vacant few enough =
      let g : Option Growth = growth_of v to then_there in
      let ready : IsReady v to then_there g = ready_then few enough in
      let alone : from.0 ≡ to.0 → g ≡ None = λ same. no_growth v to then_there (room_same same) in
      record {
        ready = if_ready g ready;
        alone = alone;
        free = empty_place (with_block then_there g) (first_empty then_there) goal (ready_within v to then_there g ready)
            (ready_entry then_there g (first_empty then_there) ∙ first_empty-none then_there)
            (λ q e at. absent_then vacant q e (sym (ready_entry then_there g q) ∙ at));
        behind = behind_then g ready alone;
      }

  -- ---- the slot of the name that is replaced

  pub lands_over : (target : Ino) → finite.get r.names goal ≡ Some target → IsLanding v from to name goal None (place_of slots goal)
  lands_over target stood =
      let d = to_directory sectors v tree less from to ino replaced name goal is stand r in
      let p = placed_at slots goal target d.sized.directory.distinct (got_names slots goal target (ap (λ (ns : Names). finite.get ns goal) d.same ∙ stood)) in
      let own : IsPlaceFor slots (place_of slots goal) goal = own_place slots (place_of slots goal) goal d.sized.directory.distinct (record { entry = entry_of goal target; there = p.there; named = refl }) in
      record {
        ready = tt;
        alone = λ same. refl;
        free = elim (cases_eq from.0 to.0) [
          | inl same ↦ subst (λ (xs : Slots). IsPlaceFor xs (place_of slots goal) goal) (sym (then_same sectors v tree less from to ino replaced name goal is stand r same))
              (place_left slots left_place (place_of slots goal) goal (λ here. r.two same (own.there (entry_of name ino) (ap (entry_at slots) here ∙ (to_placed same).there))) own)
          | inr apart ↦ subst (λ (xs : Slots). IsPlaceFor xs (place_of slots goal) goal) (sym (then_other sectors v tree less from to ino replaced name goal is stand r apart)) own
        ];
        behind = tt;
      }
