-- The first of what passes a test, among the clients and the inodes below a number.
use Rattle.std.proofs.Common.{◌≡◌, ◌<◌, ◌++◌, ◌∷◌, [], ℕ, zero, suc, Bool, true, false, nat_eq, List, Some, None, cond, ap, refl, subst, sym, ◌∙◌, arith, ◌||◌, ◌&&◌}
use Rattle.std.specs.List.{filter, list_all, list_any}
use Rattle.std.proofs.lemmas.List.Elements.{filter-append}
use Rattle.std.proofs.lemmas.List.Folds.{list_all-append, list_any-append}
use Rattle.std.proofs.lemmas.Bool.{eqb-true, eqb-false}
use Rattle.cal_base.specs.declared.identity.ClientId.{ClientId}
use Rattle.cal_base.specs.declared.identity.Ino.{Ino}
use Rattle.token_table.specs.Blockers.{clients_below}
use Rattle.cluster_law.specs.Lists.{first_of, inodes_below}

-- what stands for the numbers below one, in order
unfoldable below : {X : Type 0} → (ℕ → X) → ℕ → List X
below f zero = []
below f (suc n) = below f n ++ f n ∷ []

first-front : {X : Type 0} (xs ys : List X) (x : X) → first_of xs ≡ Some x → first_of (xs ++ ys) ≡ Some x
first-front [] ys x e = absurd (cc)
first-front (z ∷ zs) ys x e = e

module _ {X : Type 0} (f : ℕ → X) (test : X → Bool) where
  none-below : (n : ℕ) → ((k : ℕ) → k < n → test (f k) ≡ false) → filter test (below f n) ≡ []
  unfolding below
  none-below zero none = refl
  none-below (suc n) none =
      filter-append test (below f n) (f n ∷ [])
      ∙ (λ i. none-below n (λ k lt. none k (omega arith)) i ++ cond (none n (omega arith) i) (f n ∷ []) [])

  first-below : (n k : ℕ) → k < n → test (f k) ≡ true → ((j : ℕ) → j < k → test (f j) ≡ false) → first_of (filter test (below f n)) ≡ Some (f k)
  unfolding below
  first-below zero k lt passes none = absurd (never lt)
    where
      never : k < 0 → ⊥
      never h = omega arith
  first-below (suc n) k lt passes none = ap first_of (filter-append test (below f n) (f n ∷ [])) ∙ by (nat_eq k n) refl (λ less. first-below n k less passes none)
    where
      by : (b : Bool) → nat_eq k n ≡ b → (k < n → first_of (filter test (below f n)) ≡ Some (f k)) → first_of (filter test (below f n) ++ cond (test (f n)) (f n ∷ []) []) ≡ Some (f k)
      by true e earlier =
          subst (λ (m : ℕ). first_of (filter test (below f m) ++ cond (test (f m)) (f m ∷ []) []) ≡ Some (f k)) (eqb-true k n e)
          (λ i. first_of (none-below k none i ++ cond (passes i) (f k ∷ []) []))
      by false e earlier = first-front (filter test (below f n)) (cond (test (f n)) (f n ∷ []) []) (f k) (earlier (less (eqb-false k n e)))
        where
          less : (k ≡ n → ⊥) → k < n
          less differ = omega (arith, differ)

abbrev client-of : ℕ → ClientId
client-of k = record { 0 = k }

abbrev inode-of : ℕ → Ino
inode-of k = record { 0 = k }

clients-are : (n : ℕ) → below client-of n ≡ clients_below n
unfolding below clients_below
clients-are zero = refl
clients-are (suc n) = ap (λ (cs : List ClientId). cs ++ client-of n ∷ []) (clients-are n)

inodes-are : (n : ℕ) → below inode-of n ≡ inodes_below n
unfolding below inodes_below
inodes-are zero = refl
inodes-are (suc n) = ap (λ (is : List Ino). is ++ inode-of n ∷ []) (inodes-are n)

-- no client passes, or one is the first that does
pub no-client : (test : ClientId → Bool) (n : ℕ) → ((k : ℕ) → k < n → test (record { 0 = k }) ≡ false) → first_of (filter test (clients_below n)) ≡ None
no-client test n none = ap (λ (cs : List ClientId). first_of (filter test cs)) (sym (clients-are n)) ∙ ap first_of (none-below client-of test n none)

pub first-client : (test : ClientId → Bool) (n k : ℕ) → k < n → test (record { 0 = k }) ≡ true → ((j : ℕ) → j < k → test (record { 0 = j }) ≡ false) → first_of (filter test (clients_below n)) ≡ Some (record { 0 = k })
first-client test n k lt passes none = ap (λ (cs : List ClientId). first_of (filter test cs)) (sym (clients-are n)) ∙ first-below client-of test n k lt passes none

-- no inode passes, or one is the first that does
pub no-inode : (test : Ino → Bool) (n : ℕ) → ((k : ℕ) → k < n → test (record { 0 = k }) ≡ false) → first_of (filter test (inodes_below n)) ≡ None
no-inode test n none = ap (λ (is : List Ino). first_of (filter test is)) (sym (inodes-are n)) ∙ ap first_of (none-below inode-of test n none)

pub first-inode : (test : Ino → Bool) (n k : ℕ) → k < n → test (record { 0 = k }) ≡ true → ((j : ℕ) → j < k → test (record { 0 = j }) ≡ false) → first_of (filter test (inodes_below n)) ≡ Some (record { 0 = k })
first-inode test n k lt passes none = ap (λ (is : List Ino). first_of (filter test is)) (sym (inodes-are n)) ∙ first-below inode-of test n k lt passes none

or-true : (b : Bool) → (b || true) ≡ true
or-true true = refl
or-true false = refl

and-false : (b : Bool) → (b && false) ≡ false
and-false true = refl
and-false false = refl

never : {k : ℕ} → k < 0 → ⊥
never h = omega arith

-- a test of the clients one by one is a test of them all
module _ (test : ClientId → Bool) where
  pub none-holds : (n : ℕ) → ((k : ℕ) → k < n → test (record { 0 = k }) ≡ false) → list_any test (clients_below n) ≡ false
  unfolding clients_below
  none-holds zero none = refl
  none-holds (suc n) none =
      list_any-append test (clients_below n) (client-of n ∷ [])
      ∙ (λ i. none-holds n (λ k lt. none k (omega arith)) i || (none n (omega arith) i || false))

  pub each-holds : (n : ℕ) → ((k : ℕ) → k < n → test (record { 0 = k }) ≡ true) → list_all test (clients_below n) ≡ true
  unfolding clients_below
  each-holds zero all = refl
  each-holds (suc n) all =
      list_all-append test (clients_below n) (client-of n ∷ [])
      ∙ (λ i. each-holds n (λ k lt. all k (omega arith)) i && (all n (omega arith) i && true))

  pub one-holds : (n k : ℕ) → k < n → test (record { 0 = k }) ≡ true → list_any test (clients_below n) ≡ true
  unfolding clients_below
  one-holds zero k lt passes = absurd (never lt)
  one-holds (suc n) k lt passes = list_any-append test (clients_below n) (client-of n ∷ []) ∙ by (nat_eq k n) refl (λ less. one-holds n k less passes)
    where
      by : (b : Bool) → nat_eq k n ≡ b → (k < n → list_any test (clients_below n) ≡ true) → (list_any test (clients_below n) || (test (client-of n) || false)) ≡ true
      by true e earlier =
          ap (λ (m : ℕ). list_any test (clients_below n) || (test (client-of m) || false)) (sym (eqb-true k n e))
          ∙ ap (λ (b : Bool). list_any test (clients_below n) || (b || false)) passes ∙ or-true (list_any test (clients_below n))
      by false e earlier = ap (λ (b : Bool). b || (test (client-of n) || false)) (earlier (less (eqb-false k n e)))
        where
          less : (k ≡ n → ⊥) → k < n
          less differ = omega (arith, differ)

  pub one-fails : (n k : ℕ) → k < n → test (record { 0 = k }) ≡ false → list_all test (clients_below n) ≡ false
  unfolding clients_below
  one-fails zero k lt fails = absurd (never lt)
  one-fails (suc n) k lt fails = list_all-append test (clients_below n) (client-of n ∷ []) ∙ by (nat_eq k n) refl (λ less. one-fails n k less fails)
    where
      by : (b : Bool) → nat_eq k n ≡ b → (k < n → list_all test (clients_below n) ≡ false) → (list_all test (clients_below n) && (test (client-of n) && true)) ≡ false
      by true e earlier =
          ap (λ (m : ℕ). list_all test (clients_below n) && (test (client-of m) && true)) (sym (eqb-true k n e))
          ∙ ap (λ (b : Bool). list_all test (clients_below n) && (b && true)) fails ∙ and-false (list_all test (clients_below n))
      by false e earlier = ap (λ (b : Bool). b && (test (client-of n) && true)) (earlier (less (eqb-false k n e)))
        where
          less : (k ≡ n → ⊥) → k < n
          less differ = omega (arith, differ)
