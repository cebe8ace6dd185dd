-- The acts that are put to others, as the law has them.
use Rattle.std.proofs.Common.{◌≡◌, ◌++◌, ◌∷◌, [], ◌&&◌, inr, ℕ, Bool, true, false, List, IsTrue, if◌then◌else◌, nat_eq, map, ap, refl, subst, sym, ◌∙◌, rules}
use Rattle.std.proofs.lemmas.List.{map-append, append_assoc}
use Rattle.cal_base.specs.declared.identity.ClientId.{ClientId}
use Rattle.message.specs.declared.message.Message.{Message}
use Rattle.token_kind.specs.declared.revoke.Revoke.{Revoke}
use Rattle.cluster_law.specs.Asking.{was_told}
use Rattle.cluster_law.specs.Lanes as law
use Rattle.cluster_law.specs.Lists.{onto}
use Rattle.cluster_law.specs.Removing.{HasDone}
use Rattle.server_book.specs.Alike.{revoking}
use Rattle.server_draft.specs.Acts.{act_of, acts_of, asked_back}
use Rattle.server_draft.specs.Draft.{Grows}
use Rattle.server_draft.specs.declared.act.Act.{Act}
use Rattle.server_draft.specs.declared.act.Act.TheVariants.{Tells}

onto-append : {X : Type 0} (xs ys old : List X) → onto (xs ++ ys) old ≡ onto ys (onto xs old)
onto-append [] ys old = refl
onto-append (x ∷ xs) ys old = onto-append xs ys (x ∷ old)

-- acts that are put to others stand in front of them
pub acts-append : (view : ℕ) (acts more : List Act) → acts_of view (acts ++ more) ≡ onto (map (act_of view) more) (acts_of view acts)
unfolding acts_of
acts-append view acts more = ap (λ (xs : List law.Act). onto xs []) (map-append (act_of view) acts more) ∙ onto-append (map (act_of view) acts) (map (act_of view) more) []

-- and one does
pub acts-one : (view : ℕ) (old new : List Act) (act : Act) → new ≡ old ++ act ∷ [] → acts_of view new ≡ act_of view act ∷ acts_of view old
acts-one view old new act is = ap (acts_of view) is ∙ acts-append view old (act ∷ [])

-- Revokes do, in order
onto-asked : (view : ℕ) (sents : List (ClientId × Revoke)) (before : List law.Act) → onto (map (act_of view) (map asked_back sents)) before ≡ revoking view sents before
unfolding revoking
onto-asked view [] before = refl
onto-asked view (sent ∷ sents) before = onto-asked view sents (act_of view (asked_back sent) ∷ before)

pub acts-asked : (view : ℕ) (old new : List Act) (sents : List (ClientId × Revoke)) → new ≡ old ++ map asked_back sents → acts_of view new ≡ revoking view sents (acts_of view old)
acts-asked view old new sents is = ap (acts_of view) is ∙ acts-append view old (map asked_back sents) ∙ onto-asked view sents (acts_of view old)

-- what was told stays told
stays : (found told : Bool) → IsTrue told → IsTrue (if found then true else told)
stays true told is = refl
stays false told is = is

told-one : (client : ℕ) (test : Message → Bool) (act : law.Act) (before : List law.Act) → IsTrue (was_told client test before) → IsTrue (was_told client test (act ∷ before))
told-one client test (law.Mounts volume) before told = told
told-one client test (law.Tells lane message) before told = stays (nat_eq lane.client client && test message) (was_told client test before) told
told-one client test (law.Commits commit) before told = told
told-one client test law.Drops before told = told

told-onto : (client : ℕ) (test : Message → Bool) (more before : List law.Act) → IsTrue (was_told client test before) → IsTrue (was_told client test (onto more before))
told-onto client test [] before told = told
told-onto client test (act ∷ more) before told = told-onto client test more (act ∷ before) (told-one client test act before told)

pub stays-told : (view client : ℕ) (test : Message → Bool) (old new : List Act) → Grows old new → IsTrue (was_told client test (acts_of view old)) → IsTrue (was_told client test (acts_of view new))
stays-told view client test old new grows told =
    subst (λ (acts : List law.Act). IsTrue (was_told client test acts)) (sym (ap (acts_of view) grows.is ∙ acts-append view old grows.more))
    (told-onto client test (map (act_of view) grows.more) (acts_of view old) told)

-- what is told now was told
pub told-now : (client : ℕ) (test : Message → Bool) (lane : law.Lane) (message : Message) (before : List law.Act) → lane.client ≡ client → IsTrue (test message) → IsTrue (was_told client test (law.Tells lane message ∷ before))
told-now client test lane message before to is =
    subst (λ (b : Bool). IsTrue (if b then true else was_told client test before)) (sym (ap (λ (n : ℕ). nat_eq n client && test message) to ∙ both client (test message) is)) refl
  where
    same : (n : ℕ) → nat_eq n n ≡ true
    same n = search rules

    both : (n : ℕ) (b : Bool) → IsTrue b → (nat_eq n n && b) ≡ true
    both n b is = ap (λ (c : Bool). c && b) (same n) ∙ is

pub told-by : (view : ℕ) (old new : List Act) (client : ClientId) (message : Message) (test : Message → Bool) → new ≡ old ++ Tells client message ∷ [] → IsTrue (test message) → IsTrue (was_told client.0 test (acts_of view new))
told-by view old new client message test more is =
    subst (λ (acts : List law.Act). IsTrue (was_told client.0 test acts)) (sym (acts-one view old new (Tells client message) more))
    (told-now client.0 test (record { client = client.0; view = view; way = law.Down }) message (acts_of view old) refl is)

-- what was done stays done
done-one : (P : law.Deed → Type 0) (act : law.Act) (before : List law.Act) → HasDone P before → HasDone P (act ∷ before)
done-one P (law.Mounts volume) before done = done
done-one P (law.Tells lane message) before done = done
done-one P (law.Commits commit) before done = inr done
done-one P law.Drops before done = done

done-onto : (P : law.Deed → Type 0) (more before : List law.Act) → HasDone P before → HasDone P (onto more before)
done-onto P [] before done = done
done-onto P (act ∷ more) before done = done-onto P more (act ∷ before) (done-one P act before done)

pub stays-done : (P : law.Deed → Type 0) (view : ℕ) (old new : List Act) → Grows old new → HasDone P (acts_of view old) → HasDone P (acts_of view new)
stays-done P view old new grows done =
    subst (λ (acts : List law.Act). HasDone P acts) (sym (ap (acts_of view) grows.is ∙ acts-append view old grows.more))
    (done-onto P (map (act_of view) grows.more) (acts_of view old) done)

-- acts that were put to acts that were put to the first
pub grows-on : (old mid new : List Act) → Grows old mid → Grows mid new → Grows old new
grows-on old mid new first next =
    record { more = first.more ++ next.more; is = next.is ∙ ap (λ (acts : List Act). acts ++ next.more) first.is ∙ append_assoc old first.more next.more }
