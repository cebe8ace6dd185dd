use Rattle.std.proofs.Common.{ℕ, ◌<◌, IsTrue, ◌↔◌, rules, ◌≡◌, ◌++◌, List, [], ◌∷◌, Bool, true, false, Option, Some, None, cond, unwrap_or, if◌then◌else◌, refl, sym, ap, subst, ◌∙◌, true≢false, append-nil, arith}
use Rattle.std.specs.List.{filter_map, cons_option, All, Contains}
use Rattle.std.specs.Map.{lookup}
use Rattle.std.specs.Option.{option_to_list}
use Rattle.std.proofs.lemmas.List.Elements.{All-push, All-contains, Contains-get_or, Contains-append_right}
use Rattle.cal_base.specs.declared.identity.ClientId.{ClientId}
use Rattle.cal_base.specs.declared.identity.Ino.{Ino}
use Rattle.token_kind.specs.declared.«class».Class.{Class}
use Rattle.token_kind.specs.declared.«class».Class.TheVariants.{Names, Data, Attr, Open}
use Rattle.token_kind.specs.declared.hold.Hold.{Hold}
use Rattle.token_kind.specs.declared.hold.Hold.TheVariants.{None as Nothing}
use Rattle.token_table.specs.declared.hold_key.HoldKey.{HoldKey}
use Rattle.token_table.specs.Blockers.{IsOpened, opened_by, has_open}
use Rattle.token_table.specs.Table.{Table, IsTable, is_held, key_of, same_key, hold_at, held_of}
use Rattle.token_table.proofs.Keys.{same_key-true}

module _ (t : Table) where
  -- an Open hold that is found makes its file open
  found_open : (c : ClientId) (i : Ino) (a : Class) (h : Hold) (ino : Ino) → lookup (same_key (key_of c i a)) t.holds ≡ Some h → opened_by (key_of c i a, h) ≡ Some ino → IsOpened t ino
  found_open c i Names h ino found e = absurd (cc)
  found_open c i Data h ino found e = absurd (cc)
  found_open c i Attr h ino found e = absurd (cc)
  found_open c i Open h ino found e = by (is_held h) refl e
    where
      by : (b : Bool) → is_held h ≡ b → (if b then Some i else None) ≡ Some ino → IsOpened t ino
      by true held p =
          let one : i ≡ ino = cc in
          subst (IsOpened t) one (c, ap (λ (o : Option Hold). is_held (unwrap_or o Nothing)) found ∙ held)
      by false held p = absurd (cc)

  -- what is gathered of the entry of a hold that is found is open
  pub opened_more : (inos : List Ino) (k : HoldKey) (h : Hold) (o : Option Ino) → lookup (same_key k) t.holds ≡ Some h → o ≡ opened_by (k, h)
      → All (IsOpened t) inos → All (IsOpened t) (inos ++ option_to_list o)
  opened_more inos k h None found e all = subst (All (IsOpened t)) (sym (append-nil inos)) all
  opened_more inos k h (Some ino) found e all = All-push (IsOpened t) inos ino all (found_open k.client k.ino k.«class» h ino found (sym e))

-- an Open hold is gathered
pub gathered : (c : ClientId) (ino : Ino) (es : List (HoldKey × Hold)) → is_held (hold_at es (key_of c ino Open)) ≡ true → Contains (filter_map opened_by es) ino
gathered c ino [] h = absurd (true≢false (sym h))
gathered c ino (e ∷ es) h = by (same_key key e.0) refl (gathered c ino es)
  where
    key : HoldKey
    key = key_of c ino Open

    rest : List Ino
    rest = filter_map opened_by es

    behind : (o : Option Ino) → Contains rest ino → Contains (cons_option o rest) ino
    behind None there = there
    behind (Some y) there = Contains-append_right (y ∷ []) rest ino there

    by : (b : Bool) → same_key key e.0 ≡ b → (is_held (hold_at es key) ≡ true → Contains rest ino) → Contains (filter_map opened_by (e ∷ es)) ino
    by true p ih =
        let held : is_held e.1 ≡ true = sym (ap (λ (b : Bool). is_held (unwrap_or (cond b (Some e.1) (lookup (same_key key) es)) Nothing)) p) ∙ h in
        let here : opened_by e ≡ Some ino =
        ap (λ (k : HoldKey). opened_by (k, e.1)) (sym (same_key-true key e.0 p)) ∙ ap (λ (b : Bool). if b then Some ino else None) held in
        subst (λ (o : Option Ino). Contains (cons_option o rest) ino) (sym here) (Contains-get_or (ino ∷ rest) 0 ino (omega arith))
    by false p ih =
        behind (opened_by e) (ih (sym (ap (λ (b : Bool). is_held (unwrap_or (cond b (Some e.1) (lookup (same_key key) es)) Nothing)) p) ∙ h))

-- where no client of the cluster has a file open, it is not opened
pub none_opened : (t : Table) → IsTable t → (ino : Ino) (b : Bool) → (b ≡ false → (k : ℕ) → k < 16 → has_open t ino (record { 0 = k }) ≡ false) → IsOpened t ino → IsTrue b
none_opened t table ino true none opened = search rules
none_opened t table ino false none opened =
    let inside = table.within opened.0 ino Open opened.1 in absurd (true≢false (sym opened.1 ∙ none refl opened.0.0 inside.0))

-- what is gathered are exactly the opened inodes
pub are_opened : (t : Table) (inos : List Ino) → All (IsOpened t) inos → ((c : ClientId) (ino : Ino) → is_held (held_of t c ino Open) ≡ true → Contains inos ino)
    → (ino : Ino) → Contains inos ino ↔ IsOpened t ino
are_opened t inos sound complete ino = ((λ here. All-contains (IsOpened t) inos ino sound here), (λ opened. complete opened.0 ino opened.1))
