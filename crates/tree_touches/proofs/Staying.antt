-- What stays at a number when idle files go.
use Rattle.std.proofs.Common.{◌≡◌, ◌&&◌, inl, inr, ℕ, Bool, true, false, not, List, Option, refl, ap, ◌∙◌}
use Rattle.std.proofs.lemmas.Bool.{cases_lt}
use Rattle.std.specs.List.{list_any}
use Rattle.tree_law.specs.Tree.{Tree}
use Rattle.tree_law.specs.Idle.{is_idle, is_open, is_named, is_flushed_file, opens_it, swept}
use Rattle.tree_law.specs.declared.descriptor.Descriptor.{Descriptor}
use Rattle.tree_law.specs.declared.node.Node.{Node}
use Rattle.tree_law.proofs.IdleLemmas.{node_of, swept_node_above}
use Rattle.tree_law.proofs.Histories.{IsClean}
use Rattle.tree_facts.proofs.Entries.{NamesIt, is_named_by}
use Rattle.tree_facts.proofs.Reading.{still_there}
use Rattle.tree_touches.proofs.Named.{IsNamedAt, named_at, numbered}

-- a later tree has the same at a number, which is open and named where it was
pub record Stays (tree later : Tree) (k : ℕ) : Type 0 where
  pub node : node_of later k ≡ node_of tree k
  pub opened : is_open tree k ≡ true → is_open later k ≡ true
  pub named : is_named tree k ≡ true → is_named later k ≡ true

pub unaltered : (tree : Tree) (k : ℕ) → Stays tree tree k
unaltered tree k = record { node = refl; opened = λ is. is; named = λ is. is }

busy_by : (f o p n m : Bool) → (o ≡ true → p ≡ true) → (n ≡ true → m ≡ true) → (f && not o && not n) ≡ false → (f && not p && not m) ≡ false
busy_by false o p n m opened named busy = refl
busy_by true true p n m opened named busy = ap (λ (b : Bool). not b && not m) (opened refl)
busy_by true false true n m opened named busy = refl
busy_by true false false true m opened named busy = ap not (named refl)
busy_by true false false false m opened named busy = absurd (cc)

still_busy : (tree later : Tree) (k : ℕ) → Stays tree later k → is_idle tree k ≡ false → is_idle later k ≡ false
still_busy tree later k stays busy =
    ap (λ (node : Option Node). is_flushed_file node && not (is_open later k) && not (is_named later k)) stays.node
    ∙ busy_by (is_flushed_file (node_of tree k)) (is_open tree k) (is_open later k) (is_named tree k) (is_named later k) stays.opened stays.named busy

-- no file is idle before, so this one isn't dropped
pub swept_stays : (tree later : Tree) (k : ℕ) → IsClean tree → Stays tree later k → node_of (swept later) k ≡ node_of tree k
swept_stays tree later k clean stays = elim (cases_lt k 512) [
  | inl below ↦ still_there later k (still_busy tree later k stays (clean k below)) ∙ stays.node
  | inr above ↦ swept_node_above later 512 k above ∙ stays.node
]

-- a number is named where some name that stood for it still does, or another does
pub named_by : (tree later : Tree) (k : ℕ) → ((m : ℕ) (name : List ℕ) → NamesIt (node_of tree m) name (numbered k) → IsNamedAt later.nodes k) → is_named tree k ≡ true → is_named later k ≡ true
named_by tree later k kept is =
    let at = named_at tree k is in
    let next = kept at.place at.name at.names in
    is_named_by later next.place next.name (numbered k) next.names

pub same_tables : (tree later : Tree) (k : ℕ) → later.tables ≡ tree.tables → is_open tree k ≡ true → is_open later k ≡ true
same_tables tree later k same is = ap (λ (tables : List (List (Option Descriptor))). list_any (list_any (opens_it k)) tables) same ∙ is
