-- A step asks, and then admits.
use Rattle.std.proofs.Common.{◌≡◌, ◌∷◌, [], ℕ, Bool, true, false, IsTrue, List, Option, None, Some, is_none, is_some, not, ap, refl, sym, ◌∙◌}
use Rattle.std.proofs.lemmas.Bool.{true≢false}
use Rattle.cal_base.specs.declared.identity.ClientId.{ClientId}
use Rattle.message.specs.declared.message.Message.TheVariants.{Ask}
use Rattle.rebuild.specs.Collecting.{missing_of, next_of}
use Rattle.cluster_law.specs.Asking.{first_to_admit, is_admit}
use Rattle.cluster_law.specs.ServerRules.{Collected, Occasion}
use Rattle.cluster_law.specs.ServerState.{ServerState, is_admitted}
use Rattle.server_draft.specs.Acts.{acts_of}
use Rattle.server_draft.specs.Draft.{Follows, TellsOnly, reached}
use Rattle.server_draft.specs.declared.act.Act.{Act}
use Rattle.server_draft.specs.declared.draft.Draft.{Draft}
use Rattle.server_reports.specs.Reports.{HasAdmittedNobody}
use Rattle.server_reports.proofs.Putting.{law-asks, law-misses}

module _ (view : ℕ) (o : Occasion) (start : ServerState) (d : Draft) (follows : Follows view o start d) where
  -- the law's server is admitted where nobody is missing
  pub law-admitted : is_none (missing_of d.desk.collecting) ≡ is_admitted (reached view start d)
  law-admitted = ap (λ (c : Option ClientId). is_none c) (law-misses view o start d follows)

  -- the end of a step at which nobody is left to be asked, and nobody to be admitted
  pub collected : next_of d.desk.collecting ≡ None → (o.was_admitted ≡ false → IsTrue (is_admitted (reached view start d)) → first_to_admit (reached view start d) (acts_of view d.acts) ≡ None)
      → Collected o (reached view start d) (acts_of view d.acts)
  collected asked admitted = record { asked = sym (law-asks view o start d follows) ∙ asked; admitted = admitted }

  -- or while someone is missing
  pub collected-missing : next_of d.desk.collecting ≡ None → is_none (missing_of d.desk.collecting) ≡ false → Collected o (reached view start d) (acts_of view d.acts)
  collected-missing asked missing = collected asked (λ new admitted. absurd (true≢false (sym admitted ∙ sym law-admitted ∙ missing)))

  -- or where nobody was missing before
  pub collected-before : next_of d.desk.collecting ≡ None → o.was_admitted ≡ true → Collected o (reached view start d) (acts_of view d.acts)
  collected-before asked was = collected asked (λ new admitted. absurd (true≢false (sym was ∙ new)))

-- who is asked isn't admitted
pub still-nobody : (view : ℕ) (old new : List Act) → TellsOnly (Ask ∷ []) old new → HasAdmittedNobody view old → HasAdmittedNobody view new
still-nobody view old new tells nobody c = tells.others view c is_admit (refl, tt) ∙ nobody c

-- what a test for nothing answers of who is missing
pub none-by : (missing : Option ClientId) (d : Draft) (answer : Bool) → is_some missing ≡ not answer → missing ≡ missing_of d.desk.collecting → is_none (missing_of d.desk.collecting) ≡ answer
none-by missing d answer tested is = ap (λ (c : Option ClientId). is_none c) (sym is) ∙ by missing answer tested
  where
    by : (c : Option ClientId) (b : Bool) → is_some c ≡ not b → is_none c ≡ b
    by None true e = refl
    by None false e = absurd (true≢false (sym e))
    by (Some c) true e = absurd (true≢false e)
    by (Some c) false e = refl
