-- Facts on lists, tests and lanes.
use Rattle.std.proofs.Common.{◌≡◌, ◌++◌, ℕ, zero, suc, Bool, true, false, cond, if◌then◌else◌, Option, Some, None, List, [], ◌∷◌, refl, sym, ◌∙◌, subst, nat_eq, ◌&&◌}
use Rattle.std.specs.List.{filter, slice_get}
use Rattle.std.proofs.lemmas.Bool.{eqb-true}
use Rattle.session.specs.declared.packet.Packet.{Packet}
use Rattle.cluster_law.specs.declared.step.Event.{Event}
use Rattle.cluster_law.specs.declared.step.Event.TheVariants.{Start, Deliver, Tick, Crash, NewView, Gone, WriteBack}
use Rattle.cluster_law.specs.Lists.{Each, only_if}
use Rattle.cluster_law.specs.Lanes.{Lane, Way, Up, Down, same_lane, same_way}
use Rattle.cluster_law.specs.Noted.{Noted}
use Rattle.cluster_law.specs.Sessions.{is_lane}
use Rattle.cluster_law.specs.Trace.{packets, delivered_by}

pub each-append : {X : Type 0} (P : X → Type 0) (xs ys : List X) → Each P xs → Each P ys → Each P (xs ++ ys)
each-append P [] ys h k = k
each-append P (x ∷ xs) ys h k = (h.0, each-append P xs ys h.1 k)

pub each-map : {X : Type 0} (P Q : X → Type 0) (xs : List X) → ((x : X) → P x → Q x) → Each P xs → Each Q xs
each-map P Q [] f h = tt
each-map P Q (x ∷ xs) f h = (f x h.0, each-map P Q xs f h.1)

pub each-at : {X : Type 0} (P : X → Type 0) (xs : List X) (i : ℕ) (x : X) → slice_get xs i ≡ Some x → Each P xs → P x
each-at P [] i x e h = cc
each-at P (y ∷ ys) zero x e h = let q : y ≡ x = cc in subst P q h.0
each-at P (y ∷ ys) (suc i) x e h = each-at P ys i x e h.1

pub each-filtered : {X : Type 0} (P : X → Type 0) (test : X → Bool) (xs : List X) → ((x : X) → test x ≡ true → P x) → Each P (filter test xs)
each-filtered P test [] f = tt
each-filtered P test (x ∷ xs) f = kept (test x) refl (each-filtered P test xs f)
  where
    kept : (t : Bool) → test x ≡ t → Each P (filter test xs) → Each P (cond t (x ∷ filter test xs) (filter test xs))
    kept true e h = (f x e, h)
    kept false e h = h

unfiltered : {X : Type 0} (P : X → Type 0) (test : X → Bool) (x : X) (xs rest : List X) (t : Bool) → test x ≡ t → Each P (cond t (x ∷ rest) rest) → ((test x ≡ true → P x) × Each P rest)
unfiltered P test x xs rest true e h = ((λ k. h.0), h.1)
unfiltered P test x xs rest false e h = ((λ k. let c : true ≡ false = sym k ∙ e in cc), h)

pub each-unfiltered : {X : Type 0} (P : X → Type 0) (test : X → Bool) (xs : List X) → Each P (filter test xs) → Each (λ x. test x ≡ true → P x) xs
each-unfiltered P test [] h = tt
each-unfiltered P test (x ∷ xs) h = let q = unfiltered P test x xs (filter test xs) (test x) refl h in (q.0, each-unfiltered P test xs q.1)

pub each-if : {X : Type 0} (P : X → Type 0) (t : Bool) (xs ys : List X) → Each P xs → Each P ys → Each P (if t then xs else ys)
each-if P true xs ys h k = h
each-if P false xs ys h k = k

pub each-one : {X : Type 0} (P : X → Type 0) (t : Bool) (x : X) → P x → Each P (if t then x ∷ [] else [])
each-one P true x h = (h, tt)
each-one P false x h = tt

-- what is in front of a list stays where it is
pub get-append : {X : Type 0} (xs ys : List X) (j : ℕ) (x : X) → slice_get xs j ≡ Some x → slice_get (xs ++ ys) j ≡ Some x
get-append [] ys j x h = cc
get-append (y ∷ xs) ys zero x h = h
get-append (y ∷ xs) ys (suc j) x h = get-append xs ys j x h

-- a packet keeps its number
pub sent-stays : (s : Noted) (earlier : List Noted) (i : ℕ) (p : Packet) → slice_get (packets earlier) i ≡ Some p → slice_get (packets (s ∷ earlier)) i ≡ Some p
unfolding packets
sent-stays s earlier i p h = get-append (packets earlier) s.step.sent i p h

-- a packet that is delivered was sent
pub given-sent : (P : Packet → Type 0) (xs : List Packet) (event : Event) (p : Packet) → Each P xs → delivered_by xs event ≡ Some p → P p
given-sent P xs (Deliver n stop) p h e = each-at P xs n p e h
given-sent P xs (Start client call) p h e = cc
given-sent P xs (Tick node stop) p h e = cc
given-sent P xs (Crash node) p h e = cc
given-sent P xs (NewView server stop) p h e = cc
given-sent P xs (Gone client) p h e = cc
given-sent P xs (WriteBack client fd) p h e = cc

pub only-if-some : {X : Type 0} (test : X → Bool) (o : Option X) (x : X) → only_if test o ≡ Some x → (o ≡ Some x) × (test x ≡ true)
only-if-some test None x h = cc
only-if-some test (Some y) x h = passed (test y) refl h
  where
    passed : (t : Bool) → test y ≡ t → (if t then Some y else None) ≡ Some x → (Some y ≡ Some x) × (test x ≡ true)
    passed true e g = let q : y ≡ x = cc in (g, subst (λ z. test z ≡ true) q e)
    passed false e g = cc

-- two lanes that are the same
pub both-true : (a b : Bool) → (a && b) ≡ true → (a ≡ true) × (b ≡ true)
both-true true b h = (refl, h)
both-true false b h = cc

same-way-is : (a b : Way) → same_way a b ≡ true → a ≡ b
same-way-is Up Up h = refl
same-way-is Up Down h = cc
same-way-is Down Up h = cc
same-way-is Down Down h = refl

same-lane-is : (a b : Lane) → same_lane a b ≡ true → a ≡ b
same-lane-is a b h =
    let q = both-true (nat_eq a.client b.client && nat_eq a.view b.view) (same_way a.way b.way) h in
    let r = both-true (nat_eq a.client b.client) (nat_eq a.view b.view) q.0 in
    let c : a.client ≡ b.client = eqb-true _ _ r.0 in
    let v : a.view ≡ b.view = eqb-true _ _ r.1 in
    let d : a.way ≡ b.way = same-way-is _ _ q.1 in
    λ i. record { client = c i; view = v i; way = d i }

pub one-lane-of : (o : Option Lane) (a b : Lane) → is_lane o a ≡ true → is_lane o b ≡ true → a ≡ b
one-lane-of None a b h k = cc
one-lane-of (Some l) a b h k = sym (same-lane-is l a h) ∙ same-lane-is l b k
