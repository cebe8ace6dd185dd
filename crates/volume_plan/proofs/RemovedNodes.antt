-- A removal: a name goes from its directory, and what it stood for has none then.
use Rattle.std.proofs.Common.{◌≡◌, ◌≢◌, ◌≤◌, ◌<◌, ℕ, false, List, [], set, Option, Some, None, inl, inr, refl, sym, ap, subst, ◌∙◌, arith}
use Rattle.cal_base.specs.Limits as limits
use Rattle.std.proofs.lemmas.Bool.{cases_eq, ne_eqb}
use Rattle.std.proofs.lemmas.List.{get_or-set_other, get_or-set_same}
use Rattle.std.proofs.lemmas.Option.{get_or_from_slice_get, slice_get_within}
use Rattle.std.specs.FinMap as finite
use Rattle.cal_base.specs.declared.identity.ClientId.{ClientId}
use Rattle.cal_base.specs.declared.identity.Ino.{Ino}
use Rattle.inode.specs.Inode.{IsInode}
use Rattle.inode.specs.declared.inode.Inode.{Inode}
use Rattle.tree_law.proofs.IdleLemmas.{node_of}
use Rattle.tree_law.specs.Idle.{is_named, is_open, swept}
use Rattle.tree_law.specs.Names.{Names}
use Rattle.tree_law.specs.Tree.{Tree, node_at}
use Rattle.tree_law.specs.declared.node.Node.{Node}
use Rattle.tree_law.specs.declared.node.Node.TheVariants.{Directory}
use Rattle.volume.specs.Stands.{AreBlocksKept, StandsForDirectory, StandsForNode}
use Rattle.volume.specs.Volume.{Slots, Volume, slots_of}
use Rattle.volume_edit.specs.Blocks.{TakesFree}
use Rattle.volume_edit.specs.Edit.{IsEdit, IsSlotEdit, IsVolume, edited, free_inode, inode_at, is_edited}
use Rattle.volume_edit.specs.declared.edit.Edit.{Edit}
use Rattle.volume_edit.proofs.Inodes.{inode_kept, inode_put, length-inodes}
use Rattle.volume_plan.specs.Plans.{answered, inode_gone, is_opened, place_of, removing}
use Rattle.volume_plan.proofs.Fits.{KeepsFiles, StandForNodes}
use Rattle.volume_plan.proofs.Frames.{SameBytes, keeps_bytes, stands_later}
use Rattle.volume_plan.proofs.Gone.{Loses, gone_edit, gone_points, gone_stands, swept_at}
use Rattle.volume_plan.proofs.Leaving.{left_stands, placed_at}
use Rattle.volume_plan.proofs.NamesOf.{got_names}
use Rattle.volume_plan.specs.Shown.{names_of}
use Rattle.tree_law.specs.declared.reply.Reply.TheVariants.{Done}
use Rattle.volume_plan.proofs.Similar.{directory_there, inode_there, node_there}

-- a tree without a name of a directory, in which nothing else is changed but what the name stood for
pub record Removed (sectors : List (List ℕ)) (v : Volume) (tree less : Tree) (place ino : Ino) (name : List ℕ) : Type 0 where
  pub place_511 : place.0 < limits.inodes
  pub from_one : 1 ≤ ino.0
  pub to_511 : ino.0 < limits.inodes
  pub apart : ino.0 ≢ place.0
  pub names : Names
  pub here : node_at tree place ≡ Some (Directory names)
  pub got : finite.get names name ≡ Some ino
  pub left : node_of less place.0 ≡ Some (Directory (finite.remove names name))
  pub others : (number : ℕ) → number ≢ place.0 → number ≢ ino.0 → node_of less number ≡ node_of tree number
  pub named : (number : ℕ) → number ≢ ino.0 → is_named less number ≡ is_named tree number
  pub loses : Loses sectors (inode_at v.inodes ino.0) tree less ino.0

-- the edit of the plan
abbrev pub removal : Volume → ClientId → ℕ → List Ino → Ino → Ino → List ℕ → Edit
removal v client number opened place ino name = (removing v client number opened [] place ino name).edit

module _ (sectors : List (List ℕ)) (v : Volume) (tree less : Tree) (client : ClientId) (number : ℕ) (opened : List Ino) (place ino : Ino) (name : List ℕ)
    (is : IsVolume v) (stand : StandForNodes sectors v tree) (r : Removed sectors v tree less place ino name) where
  abbrev pub e : Edit
  e = removal v client number opened place ino name

  abbrev pub w : Volume
  w = edited v e

  unedited : (n : ℕ) → n ≢ ino.0 → is_edited e.inode n ≡ false
  unedited n apart = ne_eqb ino.0 n (λ same. apart (sym same))

  place_within : place.0 < limits.inodes
  place_within = (let p = r.place_511 in omega arith)

  ino_within : ino.0 < limits.inodes
  ino_within = (let p = r.to_511 in omega arith)

  -- the edit keeps the volume's grammar, and takes no block
  pub removal_edits : IsSlotEdit (answered v client number Done) → IsInode (inode_at v.inodes ino.0) → IsEdit v e
  removal_edits slot inode =
      let d = directory_there sectors v tree is stand place r.names place_within r.here in
      let got : finite.get (names_of (slots_of v place.0)) name ≡ Some ino = ap (λ (ns : Names). finite.get ns name) d.same ∙ r.got in
      let p = placed_at (slots_of v place.0) name ino d.sized.directory.distinct (got_names (slots_of v place.0) name ino got) in
      record {
        some = inl refl;
        slot = slot;
        inode = gone_edit v opened ino r.from_one (let few = r.to_511 in omega arith) inode;
        growth = tt;
        leaving = record {
          directory = record { to_511 = (let few = r.place_511 in omega arith); kind = d.kind; stays = unedited place.0 (λ same. r.apart (sym same)) };
          within = p.within;
        };
        entering = tt;
      }

  pub removal_takes : AreBlocksKept v → TakesFree v e
  removal_takes kept = record { inode = gone_points v opened ino is kept ino_within; growth = tt }

  -- the slots of each directory
  slots_other : (n : ℕ) → n ≢ place.0 → n ≢ ino.0 → slots_of w n ≡ slots_of v n
  slots_other n from gone =
      get_or-set_other (set v.directories place.0 (set (slots_of v place.0) (place_of (slots_of v place.0) name) None)) ino.0 n [] [] gone
      ∙ get_or-set_other v.directories place.0 n (set (slots_of v place.0) (place_of (slots_of v place.0) name) None) [] from

  slots_place : slots_of w place.0 ≡ set (slots_of v place.0) (place_of (slots_of v place.0) name) None
  slots_place =
      get_or-set_other (set v.directories place.0 (set (slots_of v place.0) (place_of (slots_of v place.0) name) None)) ino.0 place.0 [] [] (λ same. r.apart (sym same))
      ∙ get_or-set_same v.directories place.0 (set (slots_of v place.0) (place_of (slots_of v place.0) name) None) [] (let count = is.directory_count in let within = place_within in omega arith)

  -- each inode stands for what is left
  module _ (others : List (List ℕ)) (keeps : KeepsFiles v sectors others) where
    bytes_there : (n : ℕ) → n < limits.inodes → SameBytes sectors others (inode_at v.inodes n)
    bytes_there n within = keeps_bytes sectors others v n (inode_at v.inodes n) keeps (inode_there v is n within)

    stood : (n : ℕ) → n < limits.inodes → StandsForNode sectors v tree n (inode_at v.inodes n) (node_of tree n)
    stood n within = node_there sectors v tree is stand (record { 0 = n }) within

    other_stands : (n : ℕ) → n < limits.inodes → n ≢ place.0 → n ≢ ino.0 → StandsForNode others w less n (inode_at v.inodes n) (node_of less n)
    other_stands n within from gone =
        subst (λ (node : Option Node). StandsForNode others w less n (inode_at v.inodes n) node) (sym (r.others n from gone))
        (stands_later sectors others v w tree less n (inode_at v.inodes n) (node_of tree n) (slots_other n from gone) (r.named n gone) (bytes_there n within) (stood n within))

    place_stands : StandsForNode others w less place.0 (inode_at v.inodes place.0) (node_of less place.0)
    place_stands =
        let d = directory_there sectors v tree is stand place r.names place_within r.here in
        let s : StandsForDirectory (inode_at v.inodes place.0) (slots_of v place.0) r.names = subst (λ (node : Option Node). StandsForNode sectors v tree place.0 (inode_at v.inodes place.0) node) r.here (stood place.0 place_within) in
        subst (λ (node : Option Node). StandsForNode others w less place.0 (inode_at v.inodes place.0) node) (sym r.left)
        (subst (λ (slots : Slots). StandsForDirectory (inode_at v.inodes place.0) slots (finite.remove r.names name)) (sym slots_place)
        (left_stands (inode_at v.inodes place.0) (slots_of v place.0) r.names name ino d.sized.directory.distinct s r.got))

    gone_there : (is_opened opened ino ≡ false → is_open less ino.0 ≡ false) → StandsForNode others w (swept less) ino.0 (inode_gone v opened ino).inode (node_of (swept less) ino.0)
    gone_there shut = gone_stands sectors others w (inode_at v.inodes ino.0) tree less ino.0 (is_opened opened ino) ino_within (bytes_there ino.0 ino_within) shut r.loses

    kept_there : IsEdit v e → (n : ℕ) → n ≢ ino.0 → StandsForNode others w less n (inode_at v.inodes n) (node_of less n) → StandsForNode others w (swept less) n (inode_at w.inodes n) (node_of (swept less) n)
    kept_there edit n gone s =
        subst (λ (inode : Inode). StandsForNode others w (swept less) n inode (node_of (swept less) n)) (sym (inode_kept v e n (unedited n gone) refl)) (swept_at others w less n (inode_at v.inodes n) s)

    node_stands : IsEdit v e → (is_opened opened ino ≡ false → is_open less ino.0 ≡ false) → (n : ℕ) → n < limits.inodes → StandsForNode others w (swept less) n (inode_at w.inodes n) (node_of (swept less) n)
    node_stands edit shut n within = elim (cases_eq n ino.0) [
      | inl same ↦ subst (λ (m : ℕ). StandsForNode others w (swept less) m (inode_at w.inodes m) (node_of (swept less) m)) (sym same)
          (subst (λ (inode : Inode). StandsForNode others w (swept less) ino.0 inode (node_of (swept less) ino.0)) (sym (inode_put v e (inode_gone v opened ino) is.inode_count edit refl)) (gone_there shut))
      | inr gone ↦ elim (cases_eq n place.0) [
        | inl same ↦ kept_there edit n gone (subst (λ (m : ℕ). StandsForNode others w less m (inode_at v.inodes m) (node_of less m)) (sym same) place_stands)
        | inr from ↦ kept_there edit n gone (other_stands n within from gone)
      ]
    ]

    pub removal_stands : IsEdit v e → (is_opened opened ino ≡ false → is_open less ino.0 ≡ false) → StandForNodes others w (swept less)
    removal_stands edit shut = record {
      node = λ n inode there.
          (let within : n < limits.inodes = (let below = slice_get_within w.inodes n inode there in let count = length-inodes v e in let all = is.inode_count in omega arith) in
          subst (λ (i : Inode). StandsForNode others w (swept less) n i (node_of (swept less) n)) (get_or_from_slice_get w.inodes n inode free_inode there) (node_stands edit shut n within));
    }
