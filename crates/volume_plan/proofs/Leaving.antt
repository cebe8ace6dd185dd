-- An entry goes from a directory: its slots stand for the names without that one.
use Rattle.std.proofs.Common.{◌≡◌, ◌≢◌, ◌<◌, ℕ, Bool, true, false, List, Some, None, inl, inr, cond, set, length, refl, sym, ap, subst, ◌∙◌}
use Rattle.std.proofs.lemmas.Bool.{cases_eq}
use Rattle.std.proofs.lemmas.List.{get_or-set_other, get_or-set_same}
use Rattle.std.specs.Ordering.{eq_by_cmp}
use Rattle.std.specs.Cmp.Lexicographic.{nat_list_cmp_total}
use Rattle.std.specs.FinMap as finite
use Rattle.cal_base.specs.declared.identity.Ino.{Ino}
use Rattle.directory.specs.Block.{entry_at}
use Rattle.directory.specs.Directory.{AreDistinct, Names as NamesInode}
use Rattle.directory.specs.declared.entry.DirEntry.{DirEntry}
use Rattle.inode.specs.declared.inode.Inode.{Inode}
use Rattle.tree_law.specs.Names.{Names}
use Rattle.volume.specs.Stands.{StandsForDirectory}
use Rattle.volume.specs.Volume.{Slots}
use Rattle.volume_plan.specs.Plans.{place_of}
use Rattle.volume_plan.proofs.NamesOf.{apart_names, entry_of, order, place_of-at, same_names, taken_below}

-- the entry of a name that stands
pub record IsPlaced (slots : Slots) (name : List ℕ) (ino : Ino) (place : ℕ) : Type 0 where
  pub there : entry_at slots place ≡ Some (entry_of name ino)
  pub within : place < length slots

pub placed_at : (slots : Slots) (name : List ℕ) (ino : Ino) → AreDistinct slots → NamesInode slots name ino.0 → IsPlaced slots name ino (place_of slots name)
placed_at slots name ino distinct n =
    let found : place_of slots name ≡ n.place = place_of-at slots name n.place (entry_of name ino) distinct n.there refl in
    subst (λ (place : ℕ). IsPlaced slots name ino place) (sym found) (record { there = n.there; within = taken_below slots n.place (entry_of name ino) n.there })

-- another name stands where it stood
stays : (slots : Slots) (name other : List ℕ) (ino next : Ino) (place : ℕ) → IsPlaced slots name ino place → name ≢ other → NamesInode slots other next.0 → NamesInode (set slots place None) other next.0
stays slots name other ino next place p apart n = record {
  place = n.place;
  there = get_or-set_other slots place n.place None None (λ same. (let both : Some (entry_of name ino) ≡ Some (entry_of other next) = sym p.there ∙ ap (entry_at slots) (sym same) ∙ n.there in let one : entry_of name ino ≡ entry_of other next = cc in apart (ap (λ (e : DirEntry). e.name) one))) ∙ n.there;
}

-- what stands then stood before, and isn't the name that went
pub record Stood (slots : Slots) (name other : List ℕ) (next : Ino) : Type 0 where
  pub apart : name ≢ other
  pub stood : NamesInode slots other next.0

stood_before : (slots : Slots) (name other : List ℕ) (ino next : Ino) (place : ℕ) → AreDistinct slots → IsPlaced slots name ino place → NamesInode (set slots place None) other next.0 → Stood slots name other next
stood_before slots name other ino next place distinct p n = elim (cases_eq n.place place) [
  | inl same ↦ (let none : entry_at (set slots place None) n.place ≡ None = ap (entry_at (set slots place None)) same ∙ get_or-set_same slots place None None p.within in
      let both : None ≡ Some (entry_of other next) = sym none ∙ n.there in absurd (cc))
  | inr apart ↦ (let there : entry_at slots n.place ≡ Some (entry_of other next) = sym (get_or-set_other slots place n.place None None apart) ∙ n.there in
      record { apart = λ same. apart (distinct n.place place (entry_of other next) (entry_of name ino) there p.there (sym same)); stood = record { place = n.place; there = there } })
]

-- the names without one
pub got_left : (names : Names) (name other : List ℕ) (next : Ino) → finite.get (finite.remove names name) other ≡ Some next → (name ≢ other) × (finite.get names other ≡ Some next)
got_left names name other next is =
    elim (eq_by_cmp order other name) as (λ b. eq_by_cmp order other name ≡ b → cond b None (finite.get names other) ≡ Some next → (name ≢ other) × (finite.get names other ≡ Some next)) [
      | true ↦ λ t found. absurd (cc)
      | false ↦ λ t found. (λ same. (let tied : eq_by_cmp order other name ≡ true = subst (λ (n : List ℕ). eq_by_cmp order n name ≡ true) same (same_names name) in absurd (cc)), found)
    ] refl (sym (finite.get-remove nat_list_cmp_total names name other) ∙ is)

pub left_got : (names : Names) (name other : List ℕ) (next : Ino) → name ≢ other → finite.get names other ≡ Some next → finite.get (finite.remove names name) other ≡ Some next
left_got names name other next apart is =
    finite.get-remove nat_list_cmp_total names name other
    ∙ ap (λ (b : Bool). cond b None (finite.get names other)) (apart_names other name apart)
    ∙ is

pub left_stands : (inode : Inode) (slots : Slots) (names : Names) (name : List ℕ) (ino : Ino) → AreDistinct slots → StandsForDirectory inode slots names → finite.get names name ≡ Some ino
    → StandsForDirectory inode (set slots (place_of slots name) None) (finite.remove names name)
left_stands inode slots names name ino distinct s got =
    let p = placed_at slots name ino distinct ((s.entries name ino).0 got) in
    record {
      kind = s.kind;
      entries = λ other next. (
        λ is. (let older = got_left names name other next is in stays slots name other ino next (place_of slots name) p older.0 ((s.entries other next).0 older.1)),
        λ is. (let before = stood_before slots name other ino next (place_of slots name) distinct p is in left_got names name other next before.apart ((s.entries other next).1 before.stood)),
      );
    }
