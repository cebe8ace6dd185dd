-- The lists of parts of an edit: what holds of each, and the order of their sectors.
use Rattle.std.proofs.Common.{◌≡◌, ◌<◌, ◌≤◌, ◌+◌, ◌++◌, ℕ, List, [], ◌∷◌, length, Option, Some, None, refl, sym, ap, subst, inl, inr, arith}
use Rattle.std.specs.Prelude.{IfSome, ⊤, ◌==◌, if◌then◌else◌, nat_lt}
use Rattle.std.proofs.lemmas.Bool.{cases_eq, cases_lt}
use Rattle.std.proofs.lemmas.Bool.Decides.{nat_tests}
use Rattle.volume.specs.Volume.{Volume}
use Rattle.volume_edit.specs.Homes.{Part, in_order, sector_of}

-- it holds of each part
abbrev pub Each : (Part → Type 0) → List Part → Type 0
Each P [] = ⊤
Each P (part ∷ parts) = P part × Each P parts

pub each-append : (P : Part → Type 0) (xs ys : List Part) → Each P xs → Each P ys → Each P (xs ++ ys)
each-append P [] ys h k = k
each-append P (x ∷ xs) ys h k = (h.0, each-append P xs ys h.1 k)

pub each-front : (P : Part → Type 0) (xs ys : List Part) → Each P (xs ++ ys) → Each P xs
each-front P [] ys h = tt
each-front P (x ∷ xs) ys h = (h.0, each-front P xs ys h.1)

pub each-back : (P : Part → Type 0) (xs ys : List Part) → Each P (xs ++ ys) → Each P ys
each-back P [] ys h = h
each-back P (x ∷ xs) ys h = each-back P xs ys h.1

-- the parts' sectors rise within bounds
abbrev pub Rise : Volume → ℕ → ℕ → List Part → Type 0
Rise v least end [] = ⊤
Rise v least end (part ∷ parts) = (least ≤ sector_of v part) × ((sector_of v part < end) × Rise v (sector_of v part + 1) end parts)

rise_wider : (v : Volume) (parts : List Part) (a b c d : ℕ) → a ≤ b → c ≤ d → Rise v b c parts → Rise v a d parts
rise_wider v [] a b c d low high h = tt
rise_wider v (part ∷ parts) a b c d low high h =
    let from = h.0 in
    let below = h.1.0 in
    (omega arith, (omega arith, rise_wider v parts (sector_of v part + 1) (sector_of v part + 1) c d (omega arith) high h.1.1))

pub rise-append : (v : Volume) (xs ys : List Part) (a b c : ℕ) → a ≤ b → b ≤ c → Rise v a b xs → Rise v b c ys → Rise v a c (xs ++ ys)
rise-append v [] ys a b c low high h k = rise_wider v ys a b c c low (omega arith) k
rise-append v (x ∷ xs) ys a b c low high h k =
    let from = h.0 in
    let below = h.1.0 in
    (omega arith, (omega arith, rise-append v xs ys (sector_of v x + 1) b c (omega arith) high h.1.1 k))

-- how two parts stand
pub data Order (v : Volume) (a b : Part) : Type 0 where
  one : sector_of v a ≡ sector_of v b → in_order v (Some a) (Some b) ≡ a ∷ [] → Order v a b
  up : sector_of v a < sector_of v b → in_order v (Some a) (Some b) ≡ a ∷ b ∷ [] → Order v a b
  down : sector_of v b < sector_of v a → in_order v (Some a) (Some b) ≡ b ∷ a ∷ [] → Order v a b

choose_one : (m n : ℕ) (x y z : List Part) → m ≡ n → (if m == n then x else (if nat_lt m n then y else z)) ≡ x
choose_one m n x y z h = grind (arith, nat_tests)

choose_up : (m n : ℕ) (x y z : List Part) → m < n → (if m == n then x else (if nat_lt m n then y else z)) ≡ y
choose_up m n x y z h = grind (arith, nat_tests)

choose_down : (m n : ℕ) (x y z : List Part) → n < m → (if m == n then x else (if nat_lt m n then y else z)) ≡ z
choose_down m n x y z h = grind (arith, nat_tests)

pub order_of : (v : Volume) (a b : Part) → Order v a b
order_of v a b = elim (cases_eq (sector_of v a) (sector_of v b)) [
  | inl same ↦ one same (choose_one (sector_of v a) (sector_of v b) (a ∷ []) (a ∷ b ∷ []) (b ∷ a ∷ []) same)
  | inr apart ↦ elim (cases_lt (sector_of v a) (sector_of v b)) [
    | inl less ↦ up less (choose_up (sector_of v a) (sector_of v b) (a ∷ []) (a ∷ b ∷ []) (b ∷ a ∷ []) less)
    | inr more ↦ (let greater : sector_of v b < sector_of v a = omega arith in down greater (choose_down (sector_of v a) (sector_of v b) (a ∷ []) (a ∷ b ∷ []) (b ∷ a ∷ []) greater))
  ]
]

-- what holds of both holds of the parts in order
pub each-in_order : (P : Part → Type 0) (v : Volume) (a b : Option Part) → IfSome a P → IfSome b P → Each P (in_order v a b)
each-in_order P v None None h k = tt
each-in_order P v (Some a) None h k = (h, tt)
each-in_order P v None (Some b) h k = (k, tt)
each-in_order P v (Some a) (Some b) h k = elim (order_of v a b) [
  | one same is ↦ subst (Each P) (sym is) (h, tt)
  | up less is ↦ subst (Each P) (sym is) (h, (k, tt))
  | down less is ↦ subst (Each P) (sym is) (k, (h, tt))
]

-- what holds of the parts in order holds of the first
pub of_first : (P : Part → Type 0) (v : Volume) (a : Part) (b : Option Part) → Each P (in_order v (Some a) b) → P a
of_first P v a None h = h.0
of_first P v a (Some b) h = elim (order_of v a b) [
  | one same is ↦ (subst (Each P) is h).0
  | up less is ↦ (subst (Each P) is h).0
  | down less is ↦ (subst (Each P) is h).1.0
]

-- and of the second, or it stands where the first does
pub data Second (P : Part → Type 0) (v : Volume) (a : Option Part) (b : Part) : Type 0 where
  holds : P b → Second P v a b
  shares : (other : Part) → a ≡ Some other → sector_of v other ≡ sector_of v b → P other → Second P v a b

pub of_second : (P : Part → Type 0) (v : Volume) (a : Option Part) (b : Part) → Each P (in_order v a (Some b)) → Second P v a b
of_second P v None b h = holds h.0
of_second P v (Some a) b h = elim (order_of v a b) [
  | one same is ↦ shares a refl same (subst (Each P) is h).0
  | up less is ↦ holds (subst (Each P) is h).1.0
  | down less is ↦ holds (subst (Each P) is h).0
]

-- parts in order rise
pub record Within (v : Volume) (least end : ℕ) (part : Part) : Type 0 where
  pub from : least ≤ sector_of v part
  pub below : sector_of v part < end

pub rise-in_order : (v : Volume) (least end : ℕ) (a b : Option Part) → IfSome a (Within v least end) → IfSome b (Within v least end) → Rise v least end (in_order v a b)
rise-in_order v least end None None h k = tt
rise-in_order v least end (Some a) None h k = (h.from, (h.below, tt))
rise-in_order v least end None (Some b) h k = (k.from, (k.below, tt))
rise-in_order v least end (Some a) (Some b) h k = elim (order_of v a b) [
  | one same is ↦ subst (Rise v least end) (sym is) (h.from, (h.below, tt))
  | up less is ↦ subst (Rise v least end) (sym is) (h.from, (h.below, (omega arith, (k.below, tt))))
  | down less is ↦ subst (Rise v least end) (sym is) (k.from, (k.below, (omega arith, (h.below, tt))))
]

-- there are at most two, and one where there is a first
pub in_order-few : (v : Volume) (a b : Option Part) → length (in_order v a b) ≤ 2
in_order-few v None None = omega arith
in_order-few v (Some a) None = omega arith
in_order-few v None (Some b) = omega arith
in_order-few v (Some a) (Some b) = elim (order_of v a b) [
  | one same is ↦ (let size = ap length is in omega arith)
  | up less is ↦ (let size = ap length is in omega arith)
  | down less is ↦ (let size = ap length is in omega arith)
]

pub in_order-some : (v : Volume) (a : Part) (b : Option Part) → 1 ≤ length (in_order v (Some a) b)
in_order-some v a None = omega arith
in_order-some v a (Some b) = elim (order_of v a b) [
  | one same is ↦ (let size = ap length is in omega arith)
  | up less is ↦ (let size = ap length is in omega arith)
  | down less is ↦ (let size = ap length is in omega arith)
]
