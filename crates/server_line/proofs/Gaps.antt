-- What stands between a client and what it wants.
use Rattle.std.proofs.Common.{◌≡◌, ◌+◌, ◌++◌, ◌∷◌, ◌&&◌, [], ℕ, List, Bool, true, false, not, Some, None, filter, map, refl, sym, ap, subst, ◌∙◌, true≢false, if◌then◌else◌}
use Rattle.std.specs.Prelude.{nat_lt}
use Rattle.std.specs.List.{All, filter_map}
use Rattle.std.proofs.lemmas.List.{append-nil}
use Rattle.std.proofs.lemmas.List.Elements.{All-append, All-contains, All-nil}
use Rattle.cal_base.specs.declared.identity.ClientId.{ClientId}
use Rattle.cal_base.specs.declared.identity.Ino.{Ino}
use Rattle.revocation.specs.Formed.{AreAskable, is_of_directory}
use Rattle.revocation.specs.Waiting.{own_blockers}
use Rattle.revocation.specs.Revokes.{revokes_of}
use Rattle.token_kind.specs.Hold.{conflict}
use Rattle.token_kind.specs.declared.blocker.Blocker.{Blocker}
use Rattle.token_kind.specs.declared.hold.Hold.{Hold}
use Rattle.token_kind.specs.declared.hold.Hold.TheVariants.{None as Nothing, Read, Write}
use Rattle.token_kind.specs.declared.«class».Class.{Class}
use Rattle.token_kind.specs.declared.token.Token.{Token}
use Rattle.token_table.specs.Blockers.{asked_for, blocker_of, blockers_of, clients_below, toucher_of, touchers_of}
use Rattle.token_table.specs.Table.{IsGrantable, IsTable, Table, held_of, is_held, same_client}
use Rattle.revocation.proofs.Askable.{blockers_askable}
use Rattle.revocation.proofs.Reasons.{all_gathered}
use Rattle.tree_law.specs.Needs.{needs_of_want}
use Rattle.volume.specs.Volume.{Volume}
use Rattle.volume_plan.specs.Plans.{free_count}
use Rattle.volume_plan.specs.Shown.{shown}
use Rattle.tree_law.specs.declared.request.Asked.TheVariants.{Want as Wants}
use Rattle.tree_law.specs.declared.request.Want.{Want}
use Rattle.cluster_law.specs.Blocking.{blocks, blocks_for, is_shown, lacking, needed, first_write, needs_write, or_space, reserved}
use Rattle.cluster_law.specs.Lists.{is_empty}
use Rattle.cluster_law.specs.ServerState.{ServerState, as_request, table_in}
use Rattle.server_draft.specs.Draft.{IsWithin}
use Rattle.server_draft.specs.declared.draft.Draft.{Draft}
use Rattle.server_line.specs.Blocked.{AreBlockers, CanBeAsked, IsGap}
use Rattle.server_line.specs.Granted.{AreNeeds}
use Rattle.server_line.specs.Known.{known}
use Rattle.server_line.specs.declared.needing.Gap.{Gap}
use Rattle.server_line.specs.declared.resting.Blockers.{Blockers}
use Rattle.cluster_law.specs.Tokens.{token_of}
use Rattle.server_line.proofs.Firsts.{both-empty}
use Rattle.server_line.proofs.Asked.{own-asked}
use Rattle.server_line.proofs.Needs.{of-some}

-- a hold of which something is held is of a client of the cluster and of an inode of the volume
conflict-held : (a b : Hold) → conflict a b ≡ true → is_held b ≡ true
conflict-held Nothing b e = absurd (true≢false (sym e))
conflict-held Read Nothing e = absurd (true≢false (sym e))
conflict-held Read Read e = refl
conflict-held Read Write e = refl
conflict-held Write Nothing e = absurd (true≢false (sym e))
conflict-held Write Read e = refl
conflict-held Write Write e = refl

blocker-within : (t : Table) → IsTable t → (c : ClientId) (need : Token) (d : ClientId) (b : Blocker) → blocker_of t c need d ≡ Some b → IsWithin b
blocker-within t table c need d b e = by (not (same_client c d)) (conflict need.hold (held_of t d need.ino need.«class»)) refl e
  where
    by : (s k : Bool) → conflict need.hold (held_of t d need.ino need.«class») ≡ k
        → (if s && k then Some (record { client = d; ino = need.ino; «class» = need.«class»; asked = asked_for need.hold }) else None) ≡ Some b → IsWithin b
    by false k f g = absurd (cc)
    by true false f g = absurd (cc)
    by true true f g =
        let one : ◌≡◌ {A = Blocker} (record { client = d; ino = need.ino; «class» = need.«class»; asked = asked_for need.hold }) b = cc in
        let in-range = table.within d need.ino need.«class» (conflict-held need.hold (held_of t d need.ino need.«class») f) in
        subst (λ (x : Blocker). IsWithin x) one (record { client = in-range.0; ino = in-range.1 })

toucher-within : (t : Table) → IsTable t → (touch : Ino × Class) (d : ClientId) (b : Blocker) → toucher_of t touch d ≡ Some b → IsWithin b
toucher-within t table touch d b e = by (is_held (held_of t d touch.0 touch.1)) refl e
  where
    by : (k : Bool) → is_held (held_of t d touch.0 touch.1) ≡ k → (if k then Some (record { client = d; ino = touch.0; «class» = touch.1; asked = Nothing }) else None) ≡ Some b → IsWithin b
    by false f g = absurd (cc)
    by true f g =
        let one : ◌≡◌ {A = Blocker} (record { client = d; ino = touch.0; «class» = touch.1; asked = Nothing }) b = cc in
        let in-range = table.within d touch.0 touch.1 f in
        subst (λ (x : Blocker). IsWithin x) one (record { client = in-range.0; ino = in-range.1 })

pub blockers-within : (t : Table) → IsTable t → (c : ClientId) (needs : List Token) → All IsWithin (blockers_of t c needs)
blockers-within t table c [] = All-nil IsWithin
blockers-within t table c (need ∷ needs) =
    All-append IsWithin (filter_map (blocker_of t c need) (clients_below 16)) (blockers_of t c needs)
    (all_gathered (blocker_of t c need) IsWithin (blocker-within t table c need) (clients_below 16)) (blockers-within t table c needs)

pub touchers-within : (t : Table) → IsTable t → (touches : List (Ino × Class)) → All IsWithin (touchers_of t touches)
touchers-within t table [] = All-nil IsWithin
touchers-within t table (touch ∷ touches) =
    All-append IsWithin (filter_map (toucher_of t touch) (clients_below 16)) (touchers_of t touches)
    (all_gathered (toucher_of t touch) IsWithin (toucher-within t table touch) (clients_below 16)) (touchers-within t table touches)

-- what blocks needs may be asked back
pub needs-askable : (t : Table) → IsTable t → (c : ClientId) (v : Volume) (needs : List Token) → AreNeeds v needs → AreAskable (blockers_of t c needs)
needs-askable t table c v needs are = blockers_askable t c are.kinds table needs (λ need among. All-contains (λ (need : Token). is_of_directory need.«class» ≡ are.kinds need.ino) needs need are.of_kind among)

-- where no hold blocks, want of blocks does, or nothing
pub space-all : (server : ServerState) (wanted : ℕ) (holds new : Blockers) (short : Bool) → new.own ≡ holds.own → new.to_ask ≡ first_write (table_in server).writes
    → short ≡ (is_empty (holds.to_ask ++ holds.own) && nat_lt (free_count server.volume) (wanted + reserved server)) → short ≡ true → new.to_ask ++ new.own ≡ or_space server wanted (holds.to_ask ++ holds.own)
space-all server wanted holds new short same is told wants = by (holds.to_ask ++ holds.own) refl (sym told ∙ wants)
  where
    by : (bs : List Blocker) → holds.to_ask ++ holds.own ≡ bs → (is_empty bs && nat_lt (free_count server.volume) (wanted + reserved server)) ≡ true → new.to_ask ++ new.own ≡ or_space server wanted bs
    by (b ∷ bs) e f = absurd (true≢false (sym f))
    by [] e f =
        let both = both-empty holds.to_ask holds.own (ap (λ (l : List Blocker). is_empty l) e) in
        ap (λ (l : List Blocker). new.to_ask ++ l) (same ∙ both.1) ∙ append-nil new.to_ask ∙ is
        ∙ ap (λ (b : Bool). if b then first_write (table_in server).writes else []) (sym f)

pub holds-all : (server : ServerState) (wanted : ℕ) (holds : Blockers) (short : Bool) → short ≡ (is_empty (holds.to_ask ++ holds.own) && nat_lt (free_count server.volume) (wanted + reserved server)) → short ≡ false
    → holds.to_ask ++ holds.own ≡ or_space server wanted (holds.to_ask ++ holds.own)
holds-all server wanted holds short told enough = by (holds.to_ask ++ holds.own) (sym told ∙ enough)
  where
    by : (bs : List Blocker) → (is_empty bs && nat_lt (free_count server.volume) (wanted + reserved server)) ≡ false → bs ≡ or_space server wanted bs
    by (b ∷ bs) f = refl
    by [] f = ap (λ (b : Bool). if b then first_write (table_in server).writes else []) (sym f)

pub none-before : (holds : Blockers) (short other : Bool) → short ≡ (is_empty (holds.to_ask ++ holds.own) && other) → short ≡ true → holds.to_ask ≡ []
none-before holds short other told wants = (both-empty holds.to_ask holds.own (by (is_empty (holds.to_ask ++ holds.own)) (sym told ∙ wants))).0
  where
    by : (b : Bool) → (b && other) ≡ true → b ≡ true
    by true e = refl
    by false e = e

module _ (draft : Draft) (client : ClientId) (want : Want) (needs lacks : List Token) (holds new : Blockers) (wanted : ℕ)
    (table : IsTable draft.desk.collecting.table)
    (needs-are : needs ≡ map token_of (needs_of_want (shown draft.image) want)) (are : AreNeeds draft.image needs)
    (lacks-are : lacks ≡ filter (λ need. not (is_shown draft.desk.collecting.table client need)) needs)
    (wanted-is : wanted ≡ (if needs_write lacks then 16 else 0))
    (others : holds.to_ask ≡ blockers_of draft.desk.collecting.table client lacks)
    (grantable : holds.to_ask ≡ [] → All (IsGrantable draft.desk.collecting.table client) lacks)
    (own : holds.own ≡ own_blockers draft.desk.asked client needs) where
  lacking-is : (sectors : List (List ℕ)) → lacks ≡ lacking (known draft sectors) client want
  lacking-is sectors = lacks-are ∙ ap (filter (λ need. not (is_shown draft.desk.collecting.table client need))) needs-are

  wanted-as : (sectors : List (List ℕ)) (number : ℕ) → wanted ≡ blocks_for (known draft sectors) client number (Wants want)
  wanted-as sectors number = wanted-is ∙ ap (λ (ts : List Token). if needs_write ts then 16 else 0) (lacking-is sectors)

  pub gap-askable : (CanBeAsked holds → CanBeAsked new) → CanBeAsked new
  gap-askable keeps = keeps (record {
    askable = subst (λ (bs : List Blocker). AreAskable bs) (sym others) (needs-askable draft.desk.collecting.table table client draft.image lacks some);
    within = subst (λ (bs : List Blocker). All IsWithin bs) (sym others) (blockers-within draft.desk.collecting.table table client lacks);
  })
    where
      some : AreNeeds draft.image lacks
      some = subst (λ (ts : List Token). AreNeeds draft.image ts) (sym lacks-are) (of-some draft.image (λ need. not (is_shown draft.desk.collecting.table client need)) needs are)

  pub gap-is : (gap : Gap) → gap.lacking ≡ lacks → gap.blockers ≡ new → gap.wanted ≡ wanted → ((sectors : List (List ℕ)) → new.to_ask ++ new.own ≡ or_space (known draft sectors) wanted (holds.to_ask ++ holds.own))
      → new.own ≡ holds.own → (new.to_ask ≡ [] → holds.to_ask ≡ []) → (sectors : List (List ℕ)) (number : ℕ) → IsGap (known draft sectors) client number want gap
  unfolding blocks
  gap-is gap e f g all same some sectors number = record {
    lacks = e ∙ lacking-is sectors;
    wanted_is = g ∙ wanted-as sectors number;
    blocked = subst (λ (b : Blockers). AreBlockers (known draft sectors) (as_request client number (Wants want)) b) (sym f) (record {
      all = sym (all sectors ∙ λ i. or_space (known draft sectors) (wanted-as sectors number i) (blockers-is i ++ own-is i));
      asked = ap (λ (os : List Blocker). revokes_of draft.desk.asked (new.to_ask ++ os)) (same ∙ own) ∙ own-asked draft.desk.asked new.to_ask client needs;
      table = table;
    });
    grantable = λ none. subst (λ (ts : List Token). All (IsGrantable draft.desk.collecting.table client) ts) (sym e) (grantable (some (ap (λ (b : Blockers). b.to_ask) (sym f) ∙ none)));
    needs = subst (λ (ts : List Token). AreNeeds draft.image ts) (sym (e ∙ lacks-are)) (of-some draft.image (λ need. not (is_shown draft.desk.collecting.table client need)) needs are);
  }
    where
      blockers-is : holds.to_ask ≡ blockers_of draft.desk.collecting.table client (lacking (known draft sectors) client want)
      blockers-is = others ∙ ap (blockers_of draft.desk.collecting.table client) (lacking-is sectors)

      own-is : holds.own ≡ own_blockers draft.desk.asked client (needed (known draft sectors) want)
      own-is = own ∙ ap (own_blockers draft.desk.asked client) needs-are
