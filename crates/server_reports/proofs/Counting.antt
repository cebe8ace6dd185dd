-- How many messages a server makes for a client as it collects.
use Rattle.std.proofs.Common.{◌≡◌, ◌≤◌, ◌<◌, ◌+◌, ◌++◌, ◌∷◌, [], inl, inr, ℕ, Bool, true, false, cond, nat_eq, nat_lt, if◌then◌else◌, List, Some, get_or, set, ap, refl, sym, ◌∙◌, arith, rules}
use Rattle.std.proofs.lemmas.Bool.{cases_eq, eq-eqb, ne_eqb}
use Rattle.std.proofs.lemmas.List.{get_or-set_same, get_or-set_other}
use Rattle.cal_base.specs.declared.identity.ClientId.{ClientId}
use Rattle.message.specs.declared.message.Message.TheVariants.{Admit, Ask}
use Rattle.rebuild.specs.Collecting.{asking, client, is_to_ask, next_of}
use Rattle.rebuild.specs.declared.reporting.Reporting.{Reporting}
use Rattle.rebuild.specs.declared.reporting.Reporting.TheVariants.{Unlisted, Asked}
use Rattle.server_desk.specs.Desk.{DeskValue}
use Rattle.server_draft.specs.Acts.{tells, told_to}
use Rattle.server_draft.specs.declared.act.Act.{Act}
use Rattle.server_draft.specs.declared.act.Act.TheVariants.{Tells}
use Rattle.server_draft.specs.declared.draft.Draft.{Draft}
use Rattle.server_draft.proofs.Counting.{counted-one}
use Rattle.server_reports.specs.Reports.{with_admit}
use Rattle.server_reports.proofs.Asking.{next-is}

-- whether a client is to be asked yet, as a number
abbrev pub left_to_ask : ℕ → Draft → ℕ
left_to_ask to d = cond (is_to_ask (get_or d.desk.collecting.standings to Unlisted)) 1 0

-- a client that is asked isn't to be asked any longer
pub asked-amount : (to : ℕ) (mid new : Draft) (c : ClientId) → next_of mid.desk.collecting ≡ Some c → new.desk ≡ record mid.desk { collecting = asking mid.desk.collecting (Some c) }
    → told_to to new.acts ≡ told_to to mid.acts + tells to (Tells c Ask) → told_to to new.acts + left_to_ask to new ≡ told_to to mid.acts + left_to_ask to mid
asked-amount to mid new c is desk count = elim (cases_eq to c.0) [
  | inl same ↦
      let gone : left_to_ask to new ≡ 0 =
      moved ∙ ap (λ (n : ℕ). cond (is_to_ask (get_or (set mid.desk.collecting.standings c.0 (Asked 0)) n Unlisted)) 1 0) same
      ∙ ap (λ (r : Reporting). cond (is_to_ask r) 1 0) (get_or-set_same mid.desk.collecting.standings c.0 (Asked 0) Unlisted (next-is mid.desk.collecting c is).within) in
      let was : left_to_ask to mid ≡ 1 =
      ap (λ (n : ℕ). cond (is_to_ask (get_or mid.desk.collecting.standings n Unlisted)) 1 0) same ∙ ap (λ (r : Reporting). cond (is_to_ask r) 1 0) (next-is mid.desk.collecting c is).listed in
      let told : told_to to new.acts ≡ told_to to mid.acts + 1 = count ∙ ap (λ (b : Bool). told_to to mid.acts + (if b then 1 else 0)) (eq-eqb c.0 to (sym same)) in
      omega (arith, gone, was, told)
  | inr apart ↦
      let stays : left_to_ask to new ≡ left_to_ask to mid =
      moved ∙ ap (λ (r : Reporting). cond (is_to_ask r) 1 0) (get_or-set_other mid.desk.collecting.standings c.0 to (Asked 0) Unlisted apart) in
      let told : told_to to new.acts ≡ told_to to mid.acts + 0 = count ∙ ap (λ (b : Bool). told_to to mid.acts + (if b then 1 else 0)) (ne_eqb c.0 to (λ e. apart (sym e))) in
      omega (arith, stays, told)
]
  where
    moved : left_to_ask to new ≡ cond (is_to_ask (get_or (set mid.desk.collecting.standings c.0 (Asked 0)) to Unlisted)) 1 0
    moved = ap (λ (d : DeskValue). cond (is_to_ask (get_or d.collecting.standings to Unlisted)) 1 0) desk

-- so a client is asked at most once
pub asked-once : (to : ℕ) (old mid : Draft) → told_to to mid.acts + left_to_ask to mid ≤ told_to to old.acts + left_to_ask to old → told_to to mid.acts ≤ told_to to old.acts + 1
asked-once to old mid few = by (is_to_ask (get_or old.desk.collecting.standings to Unlisted)) few
  where
    by : (b : Bool) → told_to to mid.acts + left_to_ask to mid ≤ told_to to old.acts + cond b 1 0 → told_to to mid.acts ≤ told_to to old.acts + 1
    by true few = omega (arith, few)
    by false few = omega (arith, few)

-- whether a client stands below a number, as a number
abbrev pub stands_below : ℕ → ℕ → ℕ
stands_below to n = cond (nat_lt to n) 1 0

-- a client that is admitted is told so, and no other is
admit-told : (to n : ℕ) (mid : Draft) (whole : Bool) → told_to to (with_admit mid (client n) whole).acts ≤ told_to to mid.acts + (if nat_eq n to then 1 else 0)
admit-told to n mid false = by (nat_eq n to)
  where
    by : (b : Bool) → told_to to mid.acts ≤ told_to to mid.acts + (if b then 1 else 0)
    by true = omega arith
    by false = omega arith
admit-told to n mid true = let is = counted-one mid.acts (mid.acts ++ Tells (client n) Admit ∷ []) (Tells (client n) Admit) to refl in omega (arith, is)

-- a client stands below the next number where it stands below a number, or has it
one-further : (to n : ℕ) → stands_below to n + (if nat_eq n to then 1 else 0) ≤ stands_below to (n + 1)
one-further to n = by (nat_lt to n) (nat_eq n to) (nat_lt to (n + 1)) refl refl refl
  where
    by : (a b c : Bool) → nat_lt to n ≡ a → nat_eq n to ≡ b → nat_lt to (n + 1) ≡ c → cond a 1 0 + (if b then 1 else 0) ≤ cond c 1 0
    by true true c e f g = absurd (let low : to < n = search rules in let same : n ≡ to = search rules in omega (arith, low, same))
    by true false true e f g = omega arith
    by true false false e f g = absurd (let low : to < n = search rules in let high : n + 1 ≤ to = search rules in omega (arith, low, high))
    by false true true e f g = omega arith
    by false true false e f g = absurd (let same : n ≡ to = search rules in let high : n + 1 ≤ to = search rules in omega (arith, same, high))
    by false false true e f g = omega arith
    by false false false e f g = omega arith

pub admitted-amount : (to n : ℕ) (old mid new : Draft) → told_to to mid.acts ≤ told_to to old.acts + stands_below to n → (whole : Bool) → new ≡ with_admit mid (client n) whole
    → told_to to new.acts ≤ told_to to old.acts + stands_below to (n + 1)
admitted-amount to n old mid new few whole is =
    let same : told_to to new.acts ≡ told_to to (with_admit mid (client n) whole).acts = ap (λ (d : Draft). told_to to d.acts) is in
    let told = admit-told to n mid whole in
    let further = one-further to n in
    omega (arith, few, same, told, further)

pub admitted-once : (to n : ℕ) (old new : List Act) → told_to to new ≤ told_to to old + stands_below to n → told_to to new ≤ told_to to old + 1
admitted-once to n old new few = by (nat_lt to n) few
  where
    by : (b : Bool) → told_to to new ≤ told_to to old + cond b 1 0 → told_to to new ≤ told_to to old + 1
    by true few = omega (arith, few)
    by false few = omega (arith, few)
