use Rattle.std.proofs.Common.{◌≡◌, ◌<◌, Bool, true, false, count_by, if◌then◌else◌, refl, sym, ap, subst, ◌∙◌, true≢false}
use Rattle.cal_base.specs.declared.identity.ClientId.{ClientId}
use Rattle.cal_base.specs.declared.identity.Ino.{Ino}
use Rattle.token_kind.specs.Hold.{conflict}
use Rattle.token_kind.specs.declared.«class».Class.{Class}
use Rattle.token_kind.specs.declared.«class».Class.TheVariants.{Names, Data, Attr, Open}
use Rattle.token_kind.specs.declared.hold.Hold.{Hold}
use Rattle.token_kind.specs.declared.hold.Hold.TheVariants.{None as Nothing}
use Rattle.token_table.specs.declared.hold_key.HoldKey.{HoldKey}
use Rattle.token_table.specs.Table.{Table, IsTable, key_of, same_key, same_client, same_write, hold_at, held_of, is_data_write, is_held, may_hold}
use Rattle.token_table.specs.Changes.{Sets, Drops, reordered}
use Rattle.token_table.proofs.Conflicts.{conflict-none, conflict-comm}
use Rattle.token_table.proofs.Keys.{same_key-true, same_key-refl, same_client-refl, same_client-false, same_write-true, same_write-false}
use Rattle.token_table.proofs.Writes.{count_by-reordered_other, count_by-reordered_same, count_by-without_client}

module _ (old new : Table) (c : ClientId) (ino : Ino) (cls : Class) (hold : Hold) (kept : IsTable old) (sets : Sets old new c ino cls hold)
    (agrees : (d : ClientId) → same_client c d ≡ false → conflict hold (held_of old d ino cls) ≡ false)
    (inside : is_held hold ≡ true → (c.0 < 16) × (ino.0 < 512)) (mode : may_hold cls hold ≡ true) where
  -- the hold that was set, beside that of another client
  beside : (k : HoldKey) → key_of c ino cls ≡ k → (e : ClientId) → same_client k.client e ≡ false → conflict hold (hold_at old.holds (key_of e k.ino k.«class»)) ≡ false
  beside k p = subst (λ (k : HoldKey). (e : ClientId) → same_client k.client e ≡ false → conflict hold (hold_at old.holds (key_of e k.ino k.«class»)) ≡ false) p agrees

  clients_apart : (d e : ClientId) (jno : Ino) (other : Class) → same_client d e ≡ false → conflict (held_of new d jno other) (held_of new e jno other) ≡ false
  clients_apart d e jno other ne = rw (sets.holds (key_of d jno other), sets.holds (key_of e jno other)) (by (same_key key (key_of d jno other)) (same_key key (key_of e jno other)) refl refl)
    where
      key : HoldKey
      key = key_of c ino cls

      by : (a b : Bool) → same_key key (key_of d jno other) ≡ a → same_key key (key_of e jno other) ≡ b
          → conflict (if a then hold else held_of old d jno other) (if b then hold else held_of old e jno other) ≡ false
      by true true p r =
          let same : key_of d jno other ≡ key_of e jno other = sym (same_key-true key (key_of d jno other) p) ∙ same_key-true key (key_of e jno other) r in
          absurd (true≢false (sym (same_client-refl d) ∙ ap (λ (k : HoldKey). same_client d k.client) same ∙ ne))
      by true false p r = beside (key_of d jno other) (same_key-true key (key_of d jno other) p) e ne
      by false true p r = conflict-comm (held_of old d jno other) hold ∙ beside (key_of e jno other) (same_key-true key (key_of e jno other) r) d (same_client-false d e ne)
      by false false p r = kept.apart d e jno other ne

  -- the order of writes stays where the hold that was set is not of Data
  writes_stay : (a : Class) → cls ≡ a → ((h : Hold) → is_data_write a h ≡ false) → new.writes ≡ old.writes
  writes_stay a e none =
      sets.order ∙ ap (λ (b : Class). reordered old.writes (c, ino) (is_data_write b (held_of old c ino cls)) (is_data_write b hold)) e
      ∙ ap (λ (b : Bool). reordered old.writes (c, ino) b (is_data_write a hold)) (none (held_of old c ino cls))
      ∙ ap (λ (b : Bool). reordered old.writes (c, ino) false b) (none hold)

  -- where another hold was set, a write stands as often as before
  listed_other : (d : ClientId) (jno : Ino) → same_key (key_of c ino cls) (key_of d jno Data) ≡ false
      → count_by (same_write (d, jno)) new.writes ≡ (if is_data_write Data (held_of old d jno Data) then 1 else 0)
  listed_other d jno ne = by cls refl
    where
      apart_writes : cls ≡ Data → (b : Bool) → same_write (c, ino) (d, jno) ≡ b → b ≡ false
      apart_writes e true w =
          let one : key_of c ino cls ≡ key_of d jno Data =
          ap (λ (a : Class). key_of c ino a) e ∙ ap (λ (v : ClientId × Ino). key_of v.0 v.1 Data) (same_write-true (c, ino) (d, jno) w) in
          absurd (true≢false (sym (same_key-refl (key_of c ino cls)) ∙ ap (same_key (key_of c ino cls)) one ∙ ne))
      apart_writes e false w = refl

      by : (a : Class) → cls ≡ a → count_by (same_write (d, jno)) new.writes ≡ (if is_data_write Data (held_of old d jno Data) then 1 else 0)
      by Names e = ap (count_by (same_write (d, jno))) (writes_stay Names e (λ h. refl)) ∙ kept.listed d jno
      by Data e =
          let ne_w : same_write (c, ino) (d, jno) ≡ false = apart_writes e (same_write (c, ino) (d, jno)) refl in
          rw sets.order (count_by-reordered_other (d, jno) (c, ino) old.writes (is_data_write cls (held_of old c ino cls)) (is_data_write cls hold) ne_w (same_write-false (c, ino) (d, jno) ne_w) ∙ kept.listed d jno)
      by Attr e = ap (count_by (same_write (d, jno))) (writes_stay Attr e (λ h. refl)) ∙ kept.listed d jno
      by Open e = ap (count_by (same_write (d, jno))) (writes_stay Open e (λ h. refl)) ∙ kept.listed d jno

  -- a Data hold that was set stands once where it is Write, and else not
  listed_same : (k : HoldKey) → key_of c ino cls ≡ k → k.«class» ≡ Data → count_by (same_write (k.client, k.ino)) new.writes ≡ (if is_data_write Data hold then 1 else 0)
  listed_same k p = subst (λ (k : HoldKey). k.«class» ≡ Data → count_by (same_write (k.client, k.ino)) new.writes ≡ (if is_data_write Data hold then 1 else 0)) p here
    where
      here : cls ≡ Data → count_by (same_write (c, ino)) new.writes ≡ (if is_data_write Data hold then 1 else 0)
      here e =
          let before : count_by (same_write (c, ino)) old.writes ≡ (if is_data_write cls (held_of old c ino cls) then 1 else 0) =
          subst (λ (a : Class). count_by (same_write (c, ino)) old.writes ≡ (if is_data_write a (held_of old c ino a) then 1 else 0)) (sym e) (kept.listed c ino) in
          let once : count_by (same_write (c, ino)) new.writes ≡ (if is_data_write cls hold then 1 else 0) =
          rw sets.order (count_by-reordered_same (c, ino) old.writes (is_data_write cls (held_of old c ino cls)) (is_data_write cls hold) before) in
          subst (λ (a : Class). count_by (same_write (c, ino)) new.writes ≡ (if is_data_write a hold then 1 else 0)) e once

  listed : (d : ClientId) (jno : Ino) → count_by (same_write (d, jno)) new.writes ≡ (if is_data_write Data (held_of new d jno Data) then 1 else 0)
  listed d jno = rw (sets.holds (key_of d jno Data)) (by (same_key (key_of c ino cls) (key_of d jno Data)) refl)
    where
      by : (b : Bool) → same_key (key_of c ino cls) (key_of d jno Data) ≡ b
          → count_by (same_write (d, jno)) new.writes ≡ (if is_data_write Data (if b then hold else held_of old d jno Data) then 1 else 0)
      by true p = listed_same (key_of d jno Data) (same_key-true (key_of c ino cls) (key_of d jno Data) p) refl
      by false p = listed_other d jno p

  within : (d : ClientId) (jno : Ino) (other : Class) → is_held (held_of new d jno other) ≡ true → (d.0 < 16) × (jno.0 < 512)
  within d jno other held = by (same_key (key_of c ino cls) (key_of d jno other)) refl (ap is_held (sym (sets.holds (key_of d jno other))) ∙ held)
    where
      by : (b : Bool) → same_key (key_of c ino cls) (key_of d jno other) ≡ b → is_held (if same_key (key_of c ino cls) (key_of d jno other) then hold else held_of old d jno other) ≡ true → (d.0 < 16) × (jno.0 < 512)
      by true p h =
          subst (λ (k : HoldKey). (k.client.0 < 16) × (k.ino.0 < 512)) (same_key-true (key_of c ino cls) (key_of d jno other) p)
          (inside (ap (λ (b : Bool). is_held (if b then hold else held_of old d jno other)) (sym p) ∙ h))
      by false p h = kept.within d jno other (ap (λ (b : Bool). is_held (if b then hold else held_of old d jno other)) (sym p) ∙ h)

  modes : (d : ClientId) (jno : Ino) (other : Class) → may_hold other (held_of new d jno other) ≡ true
  modes d jno other = rw (sets.holds (key_of d jno other)) (by (same_key key (key_of d jno other)) refl)
    where
      key : HoldKey
      key = key_of c ino cls

      by : (b : Bool) → same_key key (key_of d jno other) ≡ b → may_hold other (if b then hold else held_of old d jno other) ≡ true
      by true p = subst (λ (k : HoldKey). may_hold k.«class» hold ≡ true) (same_key-true key (key_of d jno other) p) mode
      by false p = kept.modes d jno other

  -- where a hold is set that conflicts with no other client's, the rule of the table is kept
  pub sets_keeps : IsTable new
  sets_keeps = record { apart = clients_apart; listed = listed; within = within; modes = modes }

module _ (old new : Table) (c : ClientId) (kept : IsTable old) (drops : Drops old new c) where
  others_apart : (d e : ClientId) (ino : Ino) (cls : Class) → same_client d e ≡ false → conflict (held_of new d ino cls) (held_of new e ino cls) ≡ false
  others_apart d e ino cls ne = rw (drops.holds d ino cls, drops.holds e ino cls) (by (same_client c d) (same_client c e))
    where
      by : (a b : Bool) → conflict (if a then Nothing else held_of old d ino cls) (if b then Nothing else held_of old e ino cls) ≡ false
      by true b = refl
      by false true = conflict-none (held_of old d ino cls)
      by false false = kept.apart d e ino cls ne

  others_listed : (d : ClientId) (ino : Ino) → count_by (same_write (d, ino)) new.writes ≡ (if is_data_write Data (held_of new d ino Data) then 1 else 0)
  others_listed d ino = rw (drops.order, drops.holds d ino Data, count_by-without_client c d ino old.writes) (by (same_client c d))
    where
      by : (a : Bool) → (if a then 0 else count_by (same_write (d, ino)) old.writes) ≡ (if is_data_write Data (if a then Nothing else held_of old d ino Data) then 1 else 0)
      by true = refl
      by false = kept.listed d ino

  others_within : (d : ClientId) (ino : Ino) (cls : Class) → is_held (held_of new d ino cls) ≡ true → (d.0 < 16) × (ino.0 < 512)
  others_within d ino cls held = by (same_client c d) (ap is_held (sym (drops.holds d ino cls)) ∙ held)
    where
      by : (a : Bool) → is_held (if a then Nothing else held_of old d ino cls) ≡ true → (d.0 < 16) × (ino.0 < 512)
      by true h = absurd (true≢false (sym h))
      by false h = kept.within d ino cls h

  others_modes : (d : ClientId) (ino : Ino) (cls : Class) → may_hold cls (held_of new d ino cls) ≡ true
  others_modes d ino cls = rw (drops.holds d ino cls) (by (same_client c d))
    where
      by : (a : Bool) → may_hold cls (if a then Nothing else held_of old d ino cls) ≡ true
      by true = refl
      by false = kept.modes d ino cls

  -- where a client is dropped, the rule of the table is kept
  pub drops_keeps : IsTable new
  drops_keeps = record { apart = others_apart; listed = others_listed; within = others_within; modes = others_modes }
