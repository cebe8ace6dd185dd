-- What no act of a step does, and what no step leaves that wrote nothing.
use Rattle.std.proofs.Common.{◌≡◌, ◌++◌, ◌∷◌, [], ℕ, Bool, true, false, List, Option, None, if◌then◌else◌, nat_eq, map, option_to_list, ap, refl, ◌∙◌, arith}
use Rattle.std.proofs.lemmas.Bool.{ne_eqb}
use Rattle.cluster_law.specs.DiskRules.{entry_opened_at}
use Rattle.cluster_law.specs.History.{final_acts, final_place}
use Rattle.cluster_law.specs.Lanes as law
use Rattle.cluster_law.specs.Lists.{first_of, onto}
use Rattle.cluster_law.specs.ServerRules.{MountsNothing, entries_of, entry_of}
use Rattle.server_draft.specs.Acts.{act_of, acts_of}
use Rattle.server_draft.specs.declared.act.Act.{Act}
use Rattle.server_draft.specs.declared.act.Act.TheVariants.{Tells, Commits, Drops}
use Rattle.server_writes.specs.Halted.{entries_left, entry_in_doubt}
use Rattle.tree_law.specs.declared.entry.Entry.{Entry}

mounts-onto : (view : ℕ) (acts : List Act) (before : List law.Act) → MountsNothing before → MountsNothing (onto (map (act_of view) acts) before)
mounts-onto view [] before none = none
mounts-onto view (Tells client message ∷ acts) before none = mounts-onto view acts (act_of view (Tells client message) ∷ before) none
mounts-onto view (Commits commit ∷ acts) before none = mounts-onto view acts (act_of view (Commits commit) ∷ before) none
mounts-onto view (Drops ∷ acts) before none = mounts-onto view acts (act_of view Drops ∷ before) none

-- the acts of a draft mount nothing
pub mounts-nothing : (view : ℕ) (acts : List Act) → MountsNothing (acts_of view acts)
unfolding acts_of
mounts-nothing view acts = mounts-onto view acts [] tt

-- where nothing was written no commit is final
none-final : (acts : List law.Act) → entries_of (final_acts [] acts) ≡ []
unfolding final_acts entries_of
none-final [] = refl
none-final (law.Mounts volume ∷ before) = none-final before
none-final (law.Tells lane message ∷ before) = none-final before
none-final (law.Commits commit ∷ before) = none-final before
none-final (law.Drops ∷ before) = none-final before

-- and none is in doubt, since none opens at its first write
none-opens : (acts : List law.Act) → entry_opened_at 0 acts ≡ None
none-opens [] = refl
none-opens (law.Mounts volume ∷ before) = none-opens before
none-opens (law.Tells lane message ∷ before) = none-opens before
none-opens (law.Commits commit ∷ before) =
    let apart : nat_eq (final_place before commit) 0 ≡ false = ne_eqb (final_place before commit) 0 (λ same. omega arith) in
    ap (λ (b : Bool). if b then first_of (entry_of commit.deed) else entry_opened_at 0 before) apart ∙ none-opens before
none-opens (law.Drops ∷ before) = none-opens before

none-in-doubt : (failed : Bool) (acts : List law.Act) → entry_in_doubt failed [] acts ≡ []
none-in-doubt false acts = refl
none-in-doubt true acts = ap (λ (o : Option Entry). option_to_list o) (none-opens acts)

pub none-left : (failed : Bool) (acts : List law.Act) → entries_left failed [] acts ≡ []
none-left failed acts = λ i. none-final acts i ++ none-in-doubt failed acts i
