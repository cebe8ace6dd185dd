-- What the slots of clients have of a history after a change.
use Rattle.std.proofs.Common.{◌≡◌, ◌≢◌, ◌<◌, ◌==◌, ◌&&◌, ℕ, zero, suc, Bool, true, false, List, [], ◌∷◌, length, get_or, slice_get, Option, Some, None, Result, Ok, Err, inl, inr, refl, sym, ap, subst, ◌∙◌, arith, if◌then◌else◌}
use Rattle.std.proofs.lemmas.Bool.{cases_eq, eq-eqb, eqb-true}
use Rattle.std.proofs.lemmas.Option.{slice_get-get_or}
use Rattle.std.specs.List.{slice_set}
use Rattle.cal_base.specs.declared.identity.ClientId.{ClientId}
use Rattle.cal_base.specs.declared.identity.Ino.{Ino}
use Rattle.request_log.specs.declared.slot.Slot.{Slot}
use Rattle.tree_law.proofs.IdleLemmas.{swept_purged}
use Rattle.tree_law.specs.After.{after, carried_out, with_bytes, with_entry, with_move, with_open, without_directory, without_entry, without_replaced}
use Rattle.tree_law.specs.Legal.{after_call}
use Rattle.tree_law.specs.Rename.{is_directory}
use Rattle.tree_law.specs.Tree.{Tree, is_purged, node_at}
use Rattle.tree_law.specs.declared.call.Call.{Call}
use Rattle.tree_law.specs.declared.call.Call.TheVariants.{Create, Mkdir, Unlink, Rmdir, Rename, Open, Close, Read, Write, Truncate, Stat, Readdir, Fsync}
use Rattle.tree_law.specs.declared.entry.Entry.{Entry}
use Rattle.tree_law.specs.declared.entry.Entry.TheVariants.{Call as Called}
use Rattle.tree_law.specs.declared.mode.Mode.{Mode}
use Rattle.tree_law.specs.declared.node.Node.{Node}
use Rattle.tree_law.specs.declared.rename.Move.{Move}
use Rattle.tree_law.specs.declared.reply.Reply.{Reply}
use Rattle.tree_law.specs.declared.reply.Reply.TheVariants.{Done, Fd, Bytes, Count, File, Dir, Names as Listed, Refused}
use Rattle.tree_law.specs.declared.reply.Why.{Why}
use Rattle.tree_law.specs.Change.{is_change}
use Rattle.volume.specs.Numbers.{Change, last_change}
use Rattle.volume.specs.Stands.{StandsForClient}
use Rattle.volume.specs.Volume.{Volume}
use Rattle.volume_edit.specs.Edit.{first_slot, slot_at}
use Rattle.volume_plan.specs.Plans.{answered}
use Rattle.volume_plan.proofs.Fits.{StandForClients}

-- ---- no call purges a client

entry_purged : (tree : Tree) (place : Result Ino Why) (name : List ℕ) (new : Option Ino) (node : Node) → (with_entry tree place name new node).purged ≡ tree.purged
entry_purged tree (Ok place) name (Some ino) node = refl
entry_purged tree (Ok place) name None node = refl
entry_purged tree (Err why) name new node = refl

left_purged : (tree : Tree) (place : Result Ino Why) (path : List (List ℕ)) → (without_entry tree place path).purged ≡ tree.purged
left_purged tree (Ok place) [] = refl
left_purged tree (Ok place) (name ∷ names) = refl
left_purged tree (Err why) path = refl

removed_purged : (tree : Tree) (ino place : Result Ino Why) (path : List (List ℕ)) → (without_directory tree ino place path).purged ≡ tree.purged
removed_purged tree (Ok ino) place path = left_purged tree place path
removed_purged tree (Err why) place path = refl

replaced_purged : (tree : Tree) (target : Option Ino) → (without_replaced tree target).purged ≡ tree.purged
replaced_purged tree (Some ino) = which (is_directory (node_at tree ino)) _ refl
  where
    which : (b : Bool) (other : Tree) → other.purged ≡ tree.purged → (if b then other else tree).purged ≡ tree.purged
    which true other same = same
    which false other same = refl
replaced_purged tree None = refl

moved_purged : (tree : Tree) (move : Result Move Why) (name goal : List ℕ) → (with_move tree move name goal).purged ≡ tree.purged
moved_purged tree (Ok move) name goal = which move.is_same _ (replaced_purged _ move.replaced)
  where
    which : (b : Bool) (other : Tree) → other.purged ≡ tree.purged → (if b then tree else other).purged ≡ tree.purged
    which true other same = refl
    which false other same = same
moved_purged tree (Err why) name goal = refl

opened_purged : (tree : Tree) (client : ClientId) (fd : Option ℕ) (file : Result Ino Why) (mode : Mode) → (with_open tree client fd file mode).purged ≡ tree.purged
opened_purged tree client (Some fd) (Ok ino) mode = refl
opened_purged tree client (Some fd) (Err why) mode = refl
opened_purged tree client None file mode = refl

bytes_purged : (tree : Tree) (client : ClientId) (change : List ℕ → List ℕ) (file : Result Ino Why) → (with_bytes tree client change file).purged ≡ tree.purged
bytes_purged tree client change (Ok ino) = refl
bytes_purged tree client change (Err why) = refl

carried_purged : (tree : Tree) (client : ClientId) (call : Call) (new : Option Ino) → (carried_out tree client call new).purged ≡ tree.purged
carried_purged tree client (Create path) new = swept_purged _ 512 ∙ entry_purged tree _ _ new _
carried_purged tree client (Mkdir path) new = swept_purged _ 512 ∙ entry_purged tree _ _ new _
carried_purged tree client (Unlink path) new = swept_purged _ 512 ∙ left_purged tree _ path
carried_purged tree client (Rmdir path) new = swept_purged _ 512 ∙ removed_purged tree _ _ path
carried_purged tree client (Rename path goal) new = swept_purged _ 512 ∙ moved_purged tree _ _ _
carried_purged tree client (Open path mode) new = swept_purged _ 512 ∙ opened_purged tree client _ _ mode
carried_purged tree client (Close fd) new = swept_purged _ 512
carried_purged tree client (Read fd offset len) new = refl
carried_purged tree client (Write fd offset bytes) new = swept_purged _ 512 ∙ bytes_purged tree client _ _
carried_purged tree client (Truncate fd size) new = swept_purged _ 512 ∙ bytes_purged tree client _ _
carried_purged tree client (Stat path) new = refl
carried_purged tree client (Readdir path) new = refl
carried_purged tree client (Fsync fd) new = refl

pub called_purged : (tree : Tree) (client : ClientId) (call : Call) (reply : Reply) (new : Option Ino) → (after_call tree client call reply new).purged ≡ tree.purged
called_purged tree client call Done new = carried_purged tree client call new
called_purged tree client call (Fd fd) new = carried_purged tree client call new
called_purged tree client call (Bytes bytes) new = carried_purged tree client call new
called_purged tree client call (Count count) new = carried_purged tree client call new
called_purged tree client call (File size) new = carried_purged tree client call new
called_purged tree client call Dir new = carried_purged tree client call new
called_purged tree client call (Listed names) new = carried_purged tree client call new
called_purged tree client call (Refused why) new = refl

-- ---- slots, one of which is another

slice_get_below : (slots : List Slot) (n : ℕ) (slot : Slot) → slice_get slots n ≡ Some slot → n < length slots
slice_get_below [] n slot there = absurd (cc)
slice_get_below (x ∷ slots) zero slot there = omega arith
slice_get_below (x ∷ slots) (suc n) slot there = (let rest = slice_get_below slots n slot there in omega arith)

-- the slot at a number is the new one, or stood there before
pub slot_same : (slots : List Slot) (m : ℕ) (new slot : Slot) → m < length slots → slice_get (slice_set slots m new) m ≡ Some slot → new ≡ slot
slot_same [] m new slot within there = absurd (omega arith)
slot_same (x ∷ slots) zero new slot within there = cc
slot_same (x ∷ slots) (suc m) new slot within there = slot_same slots m new slot (omega arith) there

pub slot_other : (slots : List Slot) (m n : ℕ) (new : Slot) → n ≢ m → slice_get (slice_set slots m new) n ≡ slice_get slots n
slot_other [] m n new apart = refl
slot_other (x ∷ slots) zero zero new apart = absurd (apart refl)
slot_other (x ∷ slots) zero (suc n) new apart = refl
slot_other (x ∷ slots) (suc m) zero new apart = refl
slot_other (x ∷ slots) (suc m) (suc n) new apart = slot_other slots m n new (λ e. apart (ap suc e))

pub slot_there : (slots : List Slot) (n : ℕ) → n < length slots → slice_get slots n ≡ Some (slot_at slots n)
slot_there slots n within = slice_get-get_or slots n first_slot within

other_client : (n m : ℕ) → m ≢ n → (n == m) ≡ false
other_client n m apart = elim (n == m) as (λ b. (n == m) ≡ b → b ≡ false) [
  | true ↦ λ e. absurd (apart (sym (eqb-true n m e)))
  | false ↦ λ e. refl
] refl

same_purged : (a b : Tree) (client : ClientId) → b.purged ≡ a.purged → is_purged b client ≡ is_purged a client
same_purged a b client same = ap (λ (purged : List Bool). get_or purged client.0 true) same

-- ---- a change that a client makes

module _ (v w : Volume) (tree later : Tree) (history : List Entry) (client : ClientId) (number : ℕ) (call : Call) (reply : Reply) (new : Option Ino) where
  -- the client's own slot has the number and the reply
  own_slot : (other : ClientId) → other.0 ≡ client.0 → is_change call ≡ true → later.purged ≡ tree.purged → StandsForClient (slot_at v.slots client.0) tree history other
      → StandsForClient (answered v client number reply).slot later (Called client number call reply new ∷ history) other
  own_slot other same change purged s =
      let equal : (client.0 == other.0) ≡ true = eq-eqb client.0 other.0 (sym same) in
      let last : last_change other (Called client number call reply new ∷ history) ≡ record { number = number; reply = reply } =
      (λ i. if equal i && change i then record { number = number; reply = reply } else last_change other history) in
      record {
        purged = s.purged ∙ sym (same_purged tree later other purged);
        call = sym (ap (λ (c : Change). c.number) last);
        reply = sym (ap (λ (c : Change). c.reply) last);
        flush = s.flush;
      }

  -- all others are as before
  other_slot : (other : ClientId) (slot : Slot) → other.0 ≢ client.0 → later.purged ≡ tree.purged → StandsForClient slot tree history other
      → StandsForClient slot later (Called client number call reply new ∷ history) other
  other_slot other slot apart purged s =
      let unequal : (client.0 == other.0) ≡ false = other_client client.0 other.0 apart in
      let last : last_change other (Called client number call reply new ∷ history) ≡ last_change other history =
      ap (λ (b : Bool). if b && is_change call then record { number = number; reply = reply } else last_change other history) unequal in
      record {
        purged = s.purged ∙ sym (same_purged tree later other purged);
        call = s.call ∙ sym (ap (λ (c : Change). c.number) last);
        reply = s.reply ∙ sym (ap (λ (c : Change). c.reply) last);
        flush = s.flush;
      }

  -- with the answer in the client's slot all slots stand for the history with the change
  pub clients_answered : client.0 < length v.slots → w.slots ≡ slice_set v.slots client.0 (answered v client number reply).slot → is_change call ≡ true → later.purged ≡ tree.purged
      → StandForClients v tree history → StandForClients w later (Called client number call reply new ∷ history)
  clients_answered within slots change purged stand = record {
    slot = λ other slot there.
        (let at : slice_get (slice_set v.slots client.0 (answered v client number reply).slot) other.0 ≡ Some slot = ap (λ (xs : List Slot). slice_get xs other.0) (sym slots) ∙ there in
        elim (cases_eq other.0 client.0) [
          | inl same ↦ subst (λ (s : Slot). StandsForClient s later (Called client number call reply new ∷ history) other)
              (slot_same v.slots client.0 (answered v client number reply).slot slot within (subst (λ (n : ℕ). slice_get (slice_set v.slots client.0 (answered v client number reply).slot) n ≡ Some slot) same at))
              (own_slot other same change purged (stand.slot other (slot_at v.slots client.0) (ap (slice_get v.slots) same ∙ slot_there v.slots client.0 within)))
          | inr apart ↦ other_slot other slot apart purged (stand.slot other slot (sym (slot_other v.slots client.0 other.0 (answered v client number reply).slot apart) ∙ at))
        ]);
  }

-- the same after a call of the tree
pub clients_called : (v w : Volume) (tree : Tree) (history : List Entry) (client : ClientId) (number : ℕ) (call : Call) (reply : Reply) (new : Option Ino) → client.0 < length v.slots
    → w.slots ≡ slice_set v.slots client.0 (answered v client number reply).slot → is_change call ≡ true → StandForClients v tree history
    → StandForClients w (after tree (Called client number call reply new)) (Called client number call reply new ∷ history)
clients_called v w tree history client number call reply new within slots change stand =
    clients_answered v w tree (after_call tree client call reply new) history client number call reply new within slots change (called_purged tree client call reply new) stand
