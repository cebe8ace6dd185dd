-- The homes of an edit, put one behind the other, are those of the edit.
use Rattle.std.proofs.Common.{◌≡◌, ◌<◌, ◌++◌, ◌∙◌, ℕ, List, [], ◌∷◌, Option, Some, None, sym, ap, subst, arith}
use Rattle.cal_base.specs.Limits as limits
use Rattle.std.specs.Prelude.{IfSome}
use Rattle.std.proofs.lemmas.List.{append_assoc}
use Rattle.volume.specs.Volume.{Volume}
use Rattle.volume_edit.specs.Edit.{IsEdit, IsEntering, IsLeaving, IsVolume, edited}
use Rattle.volume_edit.specs.Homes.{AreHomes, Part, Spell, block_parts, inode_parts, map_parts, parts, slot_parts}
use Rattle.volume_edit.specs.declared.edit.Edit.{Edit}
use Rattle.volume_edit.specs.declared.edit.Entering.{Entering}
use Rattle.volume_edit.specs.declared.edit.Leaving.{Leaving}
use Rattle.volume_edit.proofs.Directories.{each_directory, each_directory_edited}
use Rattle.volume_edit.proofs.Live.{entering_live, leaving_live}
use Rattle.image.specs.Writing.{Adds, IsHome, entering_home, leaving_home}

spell-append : (v : Volume) (ps qs : List Part) (hs ks : List (ℕ × List ℕ)) → Spell v ps hs → Spell v qs ks → Spell v (ps ++ qs) (hs ++ ks)
spell-append v [] qs [] ks a b = b
spell-append v [] qs (h ∷ hs) ks a b = absurd a
spell-append v (p ∷ ps) qs [] ks a b = absurd a
spell-append v (p ∷ ps) qs (h ∷ hs) ks a b = (a.0, spell-append v ps qs hs ks a.1 b)

-- homes behind homes
pub adds_then : (v : Volume) (ps qs : List Part) (a b c : List (ℕ × List ℕ)) → Adds v ps a b → Adds v qs b c → Adds v (ps ++ qs) a c
adds_then v ps qs a b c first second = record {
  homes = first.homes ++ second.homes;
  put = second.put ∙ ap (λ (xs : List (ℕ × List ℕ)). xs ++ second.homes) first.put ∙ append_assoc a first.homes second.homes;
  spell = spell-append v ps qs first.homes second.homes first.spell second.spell;
}

pub are_homes : (v : Volume) (e : Edit) (a b c d homes : List (ℕ × List ℕ)) → a ≡ [] → Adds (edited v e) (map_parts v e) a b → Adds (edited v e) (slot_parts e.slot) b c
    → Adds (edited v e) (inode_parts v e) c d → Adds (edited v e) (block_parts v e) d homes → AreHomes v e homes
are_homes v e a b c d homes none map slot inode block =
    let w = edited v e in
    let all = adds_then w (map_parts v e) _ a b homes map (adds_then w (slot_parts e.slot) _ b c homes slot (adds_then w (inode_parts v e) (block_parts v e) c d homes inode block)) in
    record { spell = subst (λ (xs : List (ℕ × List ℕ)). Spell w (parts v e) xs) (sym (all.put ∙ ap (λ (xs : List (ℕ × List ℕ)). xs ++ all.homes) none)) all.spell }

pub leaving_is_low : (v : Volume) (e : Edit) (o : Option Leaving) → IsVolume v → IfSome o (IsLeaving v e) → IfSome o (λ (l : Leaving). l.place < limits.directory_entries)
leaving_is_low v e None h of = tt
leaving_is_low v e (Some l) h of = let few = (each_directory v h l.directory.0).few in let low = of.within in omega arith

pub entering_is_low : (v : Volume) (e : Edit) (o : Option Entering) → IsVolume v → IsEdit v e → IfSome o (IsEntering v e) → IfSome o (λ (n : Entering). n.place < limits.directory_entries)
entering_is_low v e None h is of = tt
entering_is_low v e (Some n) h is of =
    let few = (each_directory_edited v e h is n.directory.0).few in
    let low = (entering_live v e n h is of).within in
    omega arith

pub leaving_is_home : (v : Volume) (e : Edit) (o : Option Leaving) → IsVolume v → IsEdit v e → IfSome o (IsLeaving v e) → IfSome (leaving_home o) (IsHome v e)
leaving_is_home v e None h is of = tt
leaving_is_home v e (Some l) h is of =
    let live = leaving_live v e l h is of in
    let few = (each_directory_edited v e h is l.directory.0).few in
    let low = live.within in
    record { to_511 = (let few = of.directory.to_511 in omega arith); stays = of.directory.stays; few = omega arith; there = low }

pub entering_is_home : (v : Volume) (e : Edit) (o : Option Entering) → IsVolume v → IsEdit v e → IfSome o (IsEntering v e) → IfSome (entering_home o) (IsHome v e)
entering_is_home v e None h is of = tt
entering_is_home v e (Some n) h is of =
    let live = entering_live v e n h is of in
    let few = (each_directory_edited v e h is n.directory.0).few in
    let low = live.within in
    record { to_511 = (let few = of.directory.to_511 in omega arith); stays = of.directory.stays; few = omega arith; there = low }
