-- The files that the table has open, and those that the law names so.
use Rattle.std.proofs.Common.{◌≡◌, ◌≢◌, ◌<◌, ◌++◌, ◌∷◌, ◌⊎◌, inl, inr, [], ℕ, zero, suc, List, Bool, true, false, filter, cond, nat_eq, refl, sym, ap, subst, ◌∙◌, arith, rules}
use Rattle.std.specs.List.{Contains}
use Rattle.std.proofs.lemmas.List.Elements.{All-contains, Contains-append_cases, Contains-append_left, Contains-append_right, Contains-get_or, Contains-push, Contains-push_cases, filter_passes}
use Rattle.std.proofs.lemmas.List.Folds.{Any-from_list_any, list_any-from_Any}
use Rattle.cal_base.specs.declared.identity.ClientId.{ClientId}
use Rattle.cal_base.specs.declared.identity.Ino.{Ino}
use Rattle.token_kind.specs.declared.«class».Class.TheVariants.{Open}
use Rattle.token_table.specs.Blockers.{IsOpened, clients_below, has_open}
use Rattle.token_table.specs.Table.{IsTable, Table}
use Rattle.volume_plan.specs.Plans.{is_opened}
use Rattle.volume_plan.proofs.OpenFiles.{same_members}
use Rattle.cluster_law.specs.Blocking.{is_open_by_some}
use Rattle.cluster_law.specs.Lists.{inodes_below}

none-in : {X : Type 0} (x : X) → Contains [] x → ⊥
none-in x c = let lt = c.1 in absurd (omega arith)

contains-filter : {X : Type 0} (p : X → Bool) (xs : List X) (x : X) → Contains xs x → p x ≡ true → Contains (filter p xs) x
contains-filter p [] x c e = absurd (none-in x c)
contains-filter p (y ∷ ys) x c e = by (Contains-append_cases (y ∷ []) ys x c) (λ rest. contains-filter p ys x rest e)
  where
    behind : (b : Bool) → Contains (filter p ys) x → Contains (cond b (y ∷ filter p ys) (filter p ys)) x
    behind true d = Contains-append_right (y ∷ []) (filter p ys) x d
    behind false d = d

    here : Contains [] x ⊎ (y ≡ x) → Contains (cond (p y) (y ∷ filter p ys) (filter p ys)) x
    here (inl d) = absurd (none-in x d)
    here (inr same) =
        subst (λ (b : Bool). Contains (cond b (y ∷ filter p ys) (filter p ys)) x) (sym (ap p same ∙ e))
        (subst (λ z. Contains (z ∷ filter p ys) x) (sym same) (Contains-get_or (x ∷ filter p ys) 0 x (omega arith)))

    by : Contains (y ∷ []) x ⊎ Contains ys x → (Contains ys x → Contains (filter p ys) x) → Contains (cond (p y) (y ∷ filter p ys) (filter p ys)) x
    by (inl one) later = here (Contains-push_cases [] y x one)
    by (inr rest) later = behind (p y) (later rest)

client-among : (n : ℕ) (c : ClientId) → c.0 < n → Contains (clients_below n) c
unfolding clients_below
client-among zero c lt = absurd (omega arith)
client-among (suc n) c lt = by (nat_eq c.0 n) refl (client-among n c)
  where
    by : (b : Bool) → nat_eq c.0 n ≡ b → (c.0 < n → Contains (clients_below n) c) → Contains (clients_below n ++ record { 0 = n } ∷ []) c
    by true e later = let same : c.0 ≡ n = search rules in subst (λ (m : ℕ). Contains (clients_below n ++ record { 0 = m } ∷ []) c) same (Contains-push (clients_below n) c)
    by false e later = let other : c.0 ≢ n = search rules in Contains-append_left (clients_below n) (record { 0 = n } ∷ []) c (later (omega arith))

inode-among : (n : ℕ) (ino : Ino) → ino.0 < n → Contains (inodes_below n) ino
unfolding inodes_below
inode-among zero ino lt = absurd (omega arith)
inode-among (suc n) ino lt = by (nat_eq ino.0 n) refl (inode-among n ino)
  where
    by : (b : Bool) → nat_eq ino.0 n ≡ b → (ino.0 < n → Contains (inodes_below n) ino) → Contains (inodes_below n ++ record { 0 = n } ∷ []) ino
    by true e later = let same : ino.0 ≡ n = search rules in subst (λ (m : ℕ). Contains (inodes_below n ++ record { 0 = m } ∷ []) ino) same (Contains-push (inodes_below n) ino)
    by false e later = let other : ino.0 ≢ n = search rules in Contains-append_left (inodes_below n) (record { 0 = n } ∷ []) ino (later (omega arith))

open-is : (t : Table) → IsTable t → (ino : Ino) → IsOpened t ino → Contains (filter (is_open_by_some t) (inodes_below 512)) ino
open-is t table ino is =
    let in-range = table.within is.0 ino Open is.1 in
    let at = client-among 16 is.0 in-range.0 in
    contains-filter (is_open_by_some t) (inodes_below 512) ino (inode-among 512 ino in-range.1) (list_any-from_Any (has_open t ino) (clients_below 16) (at.0, is.0, at.1, at.2, is.1))

is-open : (t : Table) (ino : Ino) → Contains (filter (is_open_by_some t) (inodes_below 512)) ino → IsOpened t ino
is-open t ino among =
    let some = All-contains (λ (ino : Ino). is_open_by_some t ino ≡ true) (filter (is_open_by_some t) (inodes_below 512)) ino (filter_passes (is_open_by_some t) (inodes_below 512)) among in
    let any = Any-from_list_any (has_open t ino) (clients_below 16) some in
    (any.1, any.4)

-- a list of an inode alone, or of none, tells of it what the law's list does
pub opened-alone : (t : Table) → IsTable t → (ino : Ino) (none opened : List Ino) → none ≡ [] → opened ≡ none ++ ino ∷ [] → IsOpened t ino → is_opened opened ino ≡ is_opened (filter (is_open_by_some t) (inodes_below 512)) ino
opened-alone t table ino none opened empty is held =
    ap (λ (l : List Ino). is_opened l ino) (is ∙ ap (λ (l : List Ino). l ++ ino ∷ []) empty)
    ∙ same_members (ino ∷ []) (filter (is_open_by_some t) (inodes_below 512)) ino ((λ c. open-is t table ino held), (λ c. Contains-push [] ino))

pub not-opened : (t : Table) (ino : Ino) (opened : List Ino) → opened ≡ [] → (IsOpened t ino → ⊥) → is_opened opened ino ≡ is_opened (filter (is_open_by_some t) (inodes_below 512)) ino
not-opened t ino opened is closed =
    ap (λ (l : List Ino). is_opened l ino) is
    ∙ same_members [] (filter (is_open_by_some t) (inodes_below 512)) ino ((λ c. absurd (none-in ino c)), (λ c. absurd (closed (is-open t ino c))))
