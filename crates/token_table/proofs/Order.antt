use Rattle.std.proofs.Common.{◌≡◌, ℕ, ◌+◌, ◌<◌, ◌≤◌, List, [], ◌∷◌, length, map, Bool, true, false, eqb, rules, ◌||◌, count_by, slice_get, Some, None, if◌then◌else◌, refl, sym, ap, subst, ◌∙◌, true≢false, arith}
use Rattle.std.proofs.lemmas.List.{length-map}
use Rattle.std.specs.List.{AllByRecursion, IsDistinct, list_any}
use Rattle.std.proofs.lemmas.List.Sums.{sum_by-cons}
use Rattle.std.proofs.lemmas.Map.Steps.{length-le_from_distinct_below}
use Rattle.cal_base.specs.declared.identity.ClientId.{ClientId}
use Rattle.cal_base.specs.declared.identity.Ino.{Ino}
use Rattle.token_kind.specs.Hold.{conflict}
use Rattle.token_kind.specs.declared.«class».Class.TheVariants.{Data}
use Rattle.token_kind.specs.declared.hold.Hold.{Hold}
use Rattle.token_kind.specs.declared.hold.Hold.TheVariants.{None as Nothing, Read, Write}
use Rattle.token_table.specs.Table.{Table, IsTable, held_of, is_held, is_data_write, same_client, same_write}
use Rattle.token_table.proofs.Keys.{same_client-true, same_write-refl}

-- how often a write stands, with one more in front
count-cons : (v w : ClientId × Ino) (ws : List (ClientId × Ino)) → count_by (same_write v) (w ∷ ws) ≡ (if same_write v w then 1 else 0) + count_by (same_write v) ws
count-cons v w ws = sum_by-cons (λ x. if same_write v x then 1 else 0) w ws

-- a write in front stands
counted_here : (v w : ClientId × Ino) (ws : List (ClientId × Ino)) → same_write v w ≡ true → count_by (same_write v) (w ∷ ws) ≡ 1 + count_by (same_write v) ws
counted_here v w ws e = count-cons v w ws ∙ ap (λ (b : Bool). (if b then 1 else 0) + count_by (same_write v) ws) e

counted_behind : (v w : ClientId × Ino) (ws : List (ClientId × Ino)) → count_by (same_write v) ws ≤ count_by (same_write v) (w ∷ ws)
counted_behind v w ws = let e : count_by (same_write v) (w ∷ ws) ≡ (if same_write v w then 1 else 0) + count_by (same_write v) ws = count-cons v w ws in omega (arith, e)

-- a count of at least one is of a Data Write hold
pub write_from_count : (h : Hold) (n : ℕ) → 0 < n → n ≡ (if is_data_write Data h then 1 else 0) → h ≡ Write
write_from_count Nothing n some e = absurd (omega arith)
write_from_count Read n some e = absurd (omega arith)
write_from_count Write n some e = refl

-- the first of the order of writes is a Data Write hold
pub first_is_write : (t : Table) → IsTable t → (w : ClientId × Ino) → slice_get t.writes 0 ≡ Some w → held_of t w.0 w.1 Data ≡ Write
first_is_write t table w e = write_from_count (held_of t w.0 w.1 Data) (count_by (same_write w) t.writes) (by t.writes e) (table.listed w.0 w.1)
  where
    by : (ws : List (ClientId × Ino)) → slice_get ws 0 ≡ Some w → 0 < count_by (same_write w) ws
    by [] p = absurd (cc)
    by (v ∷ vs) p =
        let one : v ≡ w = cc in
        let n : count_by (same_write w) (v ∷ vs) ≡ 1 + count_by (same_write w) vs = counted_here w v vs (ap (same_write w) one ∙ same_write-refl w) in omega arith

-- with no write in the order there is no Data Write hold
pub none_is_write : (t : Table) → IsTable t → slice_get t.writes 0 ≡ None → (c : ClientId) (ino : Ino) → is_data_write Data (held_of t c ino Data) ≡ false
none_is_write t table e c ino = by t.writes (is_data_write Data (held_of t c ino Data)) e (table.listed c ino)
  where
    by : (ws : List (ClientId × Ino)) (b : Bool) → slice_get ws 0 ≡ None → count_by (same_write (c, ino)) ws ≡ (if b then 1 else 0) → b ≡ false
    by [] true p q = absurd (omega arith)
    by [] false p q = refl
    by (v ∷ vs) b p q = absurd (cc)

-- writes that stand once at most, with no two on one inode
record AreApart (ws : List (ClientId × Ino)) : Type 0 where
  once : (v : ClientId × Ino) → count_by (same_write v) ws ≤ 1
  files : (v w : ClientId × Ino) → 0 < count_by (same_write v) ws → 0 < count_by (same_write w) ws → eqb v.1.0 w.1.0 ≡ true → same_write w v ≡ true

AreApart-tail : (x : ClientId × Ino) (ws : List (ClientId × Ino)) → AreApart (x ∷ ws) → AreApart ws
AreApart-tail x ws h = record {
  once = λ v. let a : count_by (same_write v) (x ∷ ws) ≤ 1 = h.once v in let b : count_by (same_write v) ws ≤ count_by (same_write v) (x ∷ ws) = counted_behind v x ws in omega arith;
  files = λ v w a b.
      let a' : 0 < count_by (same_write v) (x ∷ ws) = let e : count_by (same_write v) ws ≤ count_by (same_write v) (x ∷ ws) = counted_behind v x ws in omega arith in
      let b' : 0 < count_by (same_write w) (x ∷ ws) = let e : count_by (same_write w) ws ≤ count_by (same_write w) (x ∷ ws) = counted_behind w x ws in omega arith in
      h.files v w a' b';
}

-- a number that is no inode of what stands in a list
none_equal : (n : ℕ) (ys : List (ClientId × Ino)) → ((y : ClientId × Ino) → 0 < count_by (same_write y) ys → eqb n y.1.0 ≡ false) → AllByRecursion (λ m. eqb n m ≡ false) (map (λ (w : ClientId × Ino). w.1.0) ys)
none_equal n [] h = tt
none_equal n (y ∷ ys) h = (
  h y (let e : count_by (same_write y) (y ∷ ys) ≡ 1 + count_by (same_write y) ys = counted_here y y ys (same_write-refl y) in omega arith),
  none_equal n ys (λ z some. h z (let e : count_by (same_write z) ys ≤ count_by (same_write z) (y ∷ ys) = counted_behind z y ys in omega arith)),
)

-- their inodes are distinct
distinct_inodes : (ws : List (ClientId × Ino)) → AreApart ws → IsDistinct eqb (map (λ (w : ClientId × Ino). w.1.0) ws)
unfolding IsDistinct
distinct_inodes [] h = tt
distinct_inodes (x ∷ xs) h = (none_equal x.1.0 xs (λ y some. by y some (eqb x.1.0 y.1.0) refl), distinct_inodes xs (AreApart-tail x xs h))
  where
    by : (y : ClientId × Ino) → 0 < count_by (same_write y) xs → (b : Bool) → eqb x.1.0 y.1.0 ≡ b → b ≡ false
    by y some true e =
        let here : count_by (same_write x) (x ∷ xs) ≡ 1 + count_by (same_write x) xs = counted_here x x xs (same_write-refl x) in
        let first : 0 < count_by (same_write x) (x ∷ xs) = omega arith in
        let behind : count_by (same_write y) xs ≤ count_by (same_write y) (x ∷ xs) = counted_behind y x xs in
        let second : 0 < count_by (same_write y) (x ∷ xs) = omega arith in
        let one : same_write y x ≡ true = h.files x y first second e in
        let twice : count_by (same_write y) (x ∷ xs) ≡ 1 + count_by (same_write y) xs = counted_here y x xs one in
        let most : count_by (same_write y) (x ∷ xs) ≤ 1 = h.once y in
        absurd (omega arith)
    by y some false e = refl

-- an inode that stands is one of what stands in the list
listed_inode : (q : ℕ) (ws : List (ClientId × Ino)) → list_any (eqb q) (map (λ (w : ClientId × Ino). w.1.0) ws) ≡ true → (w : ClientId × Ino) × (0 < count_by (same_write w) ws) × (eqb q w.1.0 ≡ true)
listed_inode q [] h = absurd (true≢false (sym h))
listed_inode q (x ∷ xs) h = by (eqb q x.1.0) refl h (listed_inode q xs)
  where
    by : (b : Bool) → eqb q x.1.0 ≡ b → (b || list_any (eqb q) (map (λ (w : ClientId × Ino). w.1.0) xs)) ≡ true
        → (list_any (eqb q) (map (λ (w : ClientId × Ino). w.1.0) xs) ≡ true → (w : ClientId × Ino) × (0 < count_by (same_write w) xs) × (eqb q w.1.0 ≡ true))
        → (w : ClientId × Ino) × (0 < count_by (same_write w) (x ∷ xs)) × (eqb q w.1.0 ≡ true)
    by true e k ih = (x, let n : count_by (same_write x) (x ∷ xs) ≡ 1 + count_by (same_write x) xs = counted_here x x xs (same_write-refl x) in omega arith, e)
    by false e k ih =
        let r = ih k in
        let n : count_by (same_write r.0) xs ≤ count_by (same_write r.0) (x ∷ xs) = counted_behind r.0 x xs in
        let some : 0 < count_by (same_write r.0) xs = r.1 in
        (r.0, omega arith, r.2)

-- pairs of equal parts are equal
pair : {c d : ClientId} {i j : Ino} → c ≡ d → i ≡ j → ◌≡◌ {A = ClientId × Ino} (c, i) (d, j)
pair p q = cc

module _ (t : Table) (table : IsTable t) where
  is_write : (v : ClientId × Ino) → 0 < count_by (same_write v) t.writes → held_of t v.0 v.1 Data ≡ Write
  is_write v some = write_from_count (held_of t v.0 v.1 Data) (count_by (same_write v) t.writes) some (table.listed v.0 v.1)

  at_most_once : (h : Hold) → (if is_data_write Data h then 1 else 0) ≤ 1
  at_most_once Nothing = omega arith
  at_most_once Read = omega arith
  at_most_once Write = omega arith

  one_client : (v w : ClientId × Ino) → 0 < count_by (same_write v) t.writes → 0 < count_by (same_write w) t.writes → eqb v.1.0 w.1.0 ≡ true → same_write w v ≡ true
  one_client v w a b e = by (same_client w.0 v.0) refl
    where
      same_ino : v.1 ≡ w.1
      same_ino = search rules

      by : (s : Bool) → same_client w.0 v.0 ≡ s → same_write w v ≡ true
      by true s = subst (λ (x : ClientId × Ino). same_write w x ≡ true) (pair (same_client-true w.0 v.0 s) (sym same_ino)) (same_write-refl w)
      by false s =
          let conflicting : conflict (held_of t w.0 v.1 Data) (held_of t v.0 v.1 Data) ≡ true =
          ap (λ (i : Ino). conflict (held_of t w.0 i Data) (held_of t v.0 v.1 Data)) same_ino
          ∙ ap (λ (h : Hold). conflict h (held_of t v.0 v.1 Data)) (is_write w b) ∙ ap (conflict Write) (is_write v a) in
          absurd (true≢false (sym conflicting ∙ table.apart w.0 v.0 v.1 Data s))

  writes_apart : AreApart t.writes
  writes_apart = record { once = λ v. rw (table.listed v.0 v.1) (at_most_once (held_of t v.0 v.1 Data)); files = one_client }

  -- there are at most as many writes as inodes
  pub length-writes : length t.writes ≤ 512
  length-writes = let e : length (map (λ (w : ClientId × Ino). w.1.0) t.writes) ≤ 512 =
      length-le_from_distinct_below (map (λ (w : ClientId × Ino). w.1.0) t.writes) 512 (distinct_inodes t.writes writes_apart) below in
      rw length-map at e
    where
      below : (q : ℕ) → list_any (eqb q) (map (λ (w : ClientId × Ino). w.1.0) t.writes) ≡ true → q < 512
      below q h =
          let r = listed_inode q t.writes h in
          let inside : (r.0.0.0 < 16) × (r.0.1.0 < 512) = table.within r.0.0 r.0.1 Data (ap is_held (is_write r.0 r.1)) in
          let low : r.0.1.0 < 512 = inside.1 in
          let here : eqb q r.0.1.0 ≡ true = r.2 in
          let same : q ≡ r.0.1.0 = search rules in omega arith
