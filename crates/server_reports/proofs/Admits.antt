-- Clients are admitted one after the other.
use Rattle.std.proofs.Common.{◌≡◌, ◌<◌, ◌≤◌, ◌+◌, ◌++◌, ◌∷◌, ◌&&◌, inl, inr, [], ℕ, zero, suc, Bool, true, false, not, nat_eq, if◌then◌else◌, IsTrue, List, Option, Some, None, filter, is_none, is_some, ap, refl, subst, sym, ◌∙◌, arith}
use Rattle.std.proofs.lemmas.Bool.{cases_eq, eq-eqb, false≢true, ne_eqb, true≢false}
use Rattle.std.proofs.lemmas.List.Elements.{filter-append}
use Rattle.cal_base.specs.Limits.{clients}
use Rattle.cal_base.specs.declared.identity.ClientId.{ClientId}
use Rattle.message.specs.declared.message.Message.TheVariants.{Admit}
use Rattle.rebuild.specs.Collecting.{client, missing_of, standing_of}
use Rattle.token_table.specs.Blockers.{clients_below}
use Rattle.cluster_law.specs.Asking.{first_to_admit, is_admit, is_whole, was_told}
use Rattle.cluster_law.specs.Lists.{first_of}
use Rattle.cluster_law.specs.ServerRules.{Occasion}
use Rattle.cluster_law.specs.ServerState.{ServerState, is_admitted}
use Rattle.server_book.proofs.Deciding.{admits}
use Rattle.server_desk.specs.Desk.{DeskValue, with_desk}
use Rattle.server_draft.specs.Acts.{acts_of}
use Rattle.server_draft.specs.Draft.{Follows, TellsOnly, reached}
use Rattle.server_draft.specs.declared.act.Act.{Act}
use Rattle.server_draft.specs.declared.act.Act.TheVariants.{Tells}
use Rattle.server_draft.specs.declared.draft.Draft.{Draft}
use Rattle.server_reports.specs.Reports.{HasAdmittedNobody, with_admit}
use Rattle.server_reports.proofs.Putting.{law-misses, tells-one-more, told-put}

-- where no client below a number passes a test, none is left of them
none-left : (passes : ClientId → Bool) (n : ℕ) → ((c : ClientId) → c.0 < n → passes c ≡ false) → filter passes (clients_below n) ≡ []
unfolding clients_below
none-left passes zero none = refl
none-left passes (suc n) none =
    filter-append passes (clients_below n) (client n ∷ []) ∙ ap (λ (cs : List ClientId). cs ++ filter passes (client n ∷ [])) (none-left passes n (λ c lt. none c (omega arith)))
    ∙ last (passes (client n)) (none (client n) (omega arith))
  where
    last : (b : Bool) → b ≡ false → (if b then client n ∷ [] else []) ≡ []
    last true e = absurd (true≢false e)
    last false e = refl

-- the first of a list stays the first where more stand behind it
first-stays : (xs ys : List ClientId) (c : ClientId) → first_of xs ≡ Some c → first_of (xs ++ ys) ≡ Some c
first-stays [] ys c is = absurd (false≢true (ap (λ (o : Option ClientId). is_some o) is))
first-stays (x ∷ xs) ys c is = is

-- the first client that passes, where none below it does
first-passes : (passes : ClientId → Bool) (n m : ℕ) → n < m → ((c : ClientId) → c.0 < n → passes c ≡ false) → passes (client n) ≡ true → first_of (filter passes (clients_below m)) ≡ Some (client n)
unfolding clients_below
first-passes passes n zero lt none here = absurd (omega arith)
first-passes passes n (suc m) lt none here = elim (cases_eq n m) [
  | inl same ↦ ap first_of (filter-append passes (clients_below m) (client m ∷ []))
      ∙ ap (λ (cs : List ClientId). first_of (cs ++ filter passes (client m ∷ []))) (none-left passes m (λ c below. none c (omega arith)))
      ∙ subst (λ (k : ℕ). first_of (filter passes (client k ∷ [])) ≡ Some (client n)) same (one (passes (client n)) here)
  | inr apart ↦ ap first_of (filter-append passes (clients_below m) (client m ∷ []))
      ∙ first-stays (filter passes (clients_below m)) (filter passes (client m ∷ [])) (client n) (first-passes passes n m (omega arith) none here)
]
  where
    one : (b : Bool) → b ≡ true → first_of (if b then client n ∷ [] else []) ≡ Some (client n)
    one true e = refl
    one false e = absurd (false≢true e)

-- the clients below a number were admitted where their reports are whole, and no other was
pub record AdmitsBelow (n view : ℕ) (o : Occasion) (start : ServerState) (d : Draft) : Type 0 where
  pub follows : Follows view o start d
  pub none_missing : IsTrue (is_none (missing_of d.desk.collecting))
  pub below : (c : ClientId) → c.0 < n → IsTrue (is_whole (standing_of d.desk.collecting c)) → IsTrue (was_told c.0 is_admit (acts_of view d.acts))
  pub above : (c : ℕ) → n ≤ c → was_told c is_admit (acts_of view d.acts) ≡ false

-- a client that is admitted, or isn't, leaves the desk and the image
pub with-desk : (n : ℕ) (mid new : Draft) → new ≡ with_admit mid (client n) (is_whole (standing_of mid.desk.collecting (client n))) → new.desk ≡ mid.desk
with-desk n mid new is = ap (λ (d : Draft). d.desk) is ∙ by (is_whole (standing_of mid.desk.collecting (client n)))
  where
    by : (whole : Bool) → (with_admit mid (client n) whole).desk ≡ mid.desk
    by true = refl
    by false = refl

pub with-image : (n : ℕ) (mid new : Draft) → new ≡ with_admit mid (client n) (is_whole (standing_of mid.desk.collecting (client n))) → new.image ≡ mid.image
with-image n mid new is = ap (λ (d : Draft). d.image) is ∙ by (is_whole (standing_of mid.desk.collecting (client n)))
  where
    by : (whole : Bool) → (with_admit mid (client n) whole).image ≡ mid.image
    by true = refl
    by false = refl

-- nothing is told but Admit
pub with-acts : (n : ℕ) (old : List Act) (mid new : Draft) → new ≡ with_admit mid (client n) (is_whole (standing_of mid.desk.collecting (client n))) → TellsOnly (Admit ∷ []) old mid.acts → TellsOnly (Admit ∷ []) old new.acts
with-acts n old mid new is tells = subst (λ (d : Draft). TellsOnly (Admit ∷ []) old d.acts) (sym is) (by (is_whole (standing_of mid.desk.collecting (client n))))
  where
    by : (whole : Bool) → TellsOnly (Admit ∷ []) old (with_admit mid (client n) whole).acts
    by true = tells-one-more (Admit ∷ []) old mid.acts (mid.acts ++ Tells (client n) Admit ∷ []) (client n) Admit (λ test none. none.0) tells refl
    by false = tells

module _ (view : ℕ) (o : Occasion) (start : ServerState) (d : Draft) where
  -- none is admitted yet
  pub admits-none : Follows view o start d → IsTrue (is_admitted (reached view start d)) → HasAdmittedNobody view d.acts → AdmitsBelow 0 view o start d
  admits-none follows admitted nobody = record {
    follows = follows;
    none_missing = ap (λ (c : Option ClientId). is_none c) (law-misses view o start d follows) ∙ admitted;
    below = λ c lt whole. absurd (omega arith);
    above = λ c le. nobody c;
  }

  -- the law's server is admitted
  pub stays-admitted : (n : ℕ) → AdmitsBelow n view o start d → IsTrue (is_admitted (reached view start d))
  stays-admitted n at = ap (λ (c : Option ClientId). is_none c) (sym (law-misses view o start d at.follows)) ∙ at.none_missing

  -- whom the desk would admit, the law's server would
  law-admits : Follows view o start d → first_of (filter (λ c. is_whole (standing_of d.desk.collecting c) && not (was_told c.0 is_admit (acts_of view d.acts))) (clients_below clients)) ≡ first_to_admit (reached view start d) (acts_of view d.acts)
  law-admits follows = let server = reached view start d in admits (with_desk d.desk server.volume server.sectors) server follows.like (acts_of view d.acts)

  -- none of those below is to be admitted
  done-below : (n : ℕ) → AdmitsBelow n view o start d → (c : ClientId) → c.0 < n → (is_whole (standing_of d.desk.collecting c) && not (was_told c.0 is_admit (acts_of view d.acts))) ≡ false
  done-below n at c lt = by (is_whole (standing_of d.desk.collecting c)) (at.below c lt)
    where
      by : (whole : Bool) → (IsTrue whole → IsTrue (was_told c.0 is_admit (acts_of view d.acts))) → (whole && not (was_told c.0 is_admit (acts_of view d.acts))) ≡ false
      by false told = refl
      by true told = ap not (told refl)

  -- the next one is the first that may be admitted, if its report is whole
  pub is-first : (n : ℕ) → AdmitsBelow n view o start d → n < clients → IsTrue (is_whole (standing_of d.desk.collecting (client n))) → first_to_admit (reached view start d) (acts_of view d.acts) ≡ Some (client n)
  is-first n at lt whole =
      sym (law-admits at.follows)
      ∙ first-passes (λ c. is_whole (standing_of d.desk.collecting c) && not (was_told c.0 is_admit (acts_of view d.acts))) n clients lt (done-below n at)
      (ap (λ (b : Bool). b && not (was_told n is_admit (acts_of view d.acts))) whole ∙ ap not (at.above n (omega arith)))

  -- in the end none may be admitted
  pub none-left-to-admit : (n : ℕ) → clients ≤ n → AdmitsBelow n view o start d → first_to_admit (reached view start d) (acts_of view d.acts) ≡ None
  none-left-to-admit n le at =
      sym (law-admits at.follows)
      ∙ ap first_of (none-left (λ c. is_whole (standing_of d.desk.collecting c) && not (was_told c.0 is_admit (acts_of view d.acts))) clients (λ c lt. done-below n at c (omega arith)))

  -- one client more
  pub admits-one-more : (n : ℕ) (new : Draft) → AdmitsBelow n view o start d → new ≡ with_admit d (client n) (is_whole (standing_of d.desk.collecting (client n))) → Follows view o start new → AdmitsBelow (n + 1) view o start new
  admits-one-more n new at is follows = record {
    follows = follows;
    none_missing = subst (λ (desk : DeskValue). IsTrue (is_none (missing_of desk.collecting))) (sym desk-is) at.none_missing;
    below = λ c lt whole.
        let whole-before = subst (λ (desk : DeskValue). IsTrue (is_whole (standing_of desk.collecting c))) desk-is whole in
        subst (λ (x : Draft). IsTrue (was_told c.0 is_admit (acts_of view x.acts))) (sym is) (below-by (is_whole (standing_of d.desk.collecting (client n))) refl c lt whole-before);
    above = λ c le. ap (λ (x : Draft). was_told c is_admit (acts_of view x.acts)) is ∙ above-by (is_whole (standing_of d.desk.collecting (client n))) c le;
  }
    where
      desk-is : new.desk ≡ d.desk
      desk-is = with-desk n d new is

      told-by : (c : ℕ) → was_told c is_admit (acts_of view (d.acts ++ Tells (client n) Admit ∷ [])) ≡ (if nat_eq n c && true then true else was_told c is_admit (acts_of view d.acts))
      told-by c = told-put view c is_admit d.acts (client n) Admit

      here : (c : ℕ) (b : Bool) → n ≡ c → IsTrue (if nat_eq n c && true then true else b)
      here c b same = ap (λ (x : Bool). if x && true then true else b) (eq-eqb n c same)

      there : (c : ℕ) (b : Bool) → (n ≡ c → ⊥) → (if nat_eq n c && true then true else b) ≡ b
      there c b apart = ap (λ (x : Bool). if x && true then true else b) (ne_eqb n c apart)

      below-by : (whole : Bool) → is_whole (standing_of d.desk.collecting (client n)) ≡ whole → (c : ClientId) → c.0 < n + 1 → IsTrue (is_whole (standing_of d.desk.collecting c))
          → IsTrue (was_told c.0 is_admit (acts_of view (with_admit d (client n) whole).acts))
      below-by true e c lt w = elim (cases_eq n c.0) [
        | inl same ↦ told-by c.0 ∙ here c.0 (was_told c.0 is_admit (acts_of view d.acts)) same
        | inr apart ↦ told-by c.0 ∙ there c.0 (was_told c.0 is_admit (acts_of view d.acts)) apart ∙ at.below c (omega arith) w
      ]
      below-by false e c lt w = elim (cases_eq n c.0) [
        | inl same ↦ absurd (true≢false (sym w ∙ ap (λ (k : ℕ). is_whole (standing_of d.desk.collecting (client k))) (sym same) ∙ e))
        | inr apart ↦ at.below c (omega arith) w
      ]

      above-by : (whole : Bool) (c : ℕ) → n + 1 ≤ c → was_told c is_admit (acts_of view (with_admit d (client n) whole).acts) ≡ false
      above-by true c le = told-by c ∙ there c (was_told c is_admit (acts_of view d.acts)) (λ same. omega arith) ∙ at.above c (omega arith)
      above-by false c le = at.above c (omega arith)
