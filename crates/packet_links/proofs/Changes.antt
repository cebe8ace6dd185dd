-- What waits on each link after one of them was changed.
use Rattle.std.proofs.Common.{◌≡◌, ◌≢◌, ◌⊎◌, ◌∷◌, [], inl, inr, ℕ, zero, suc, Bool, true, false, if◌then◌else◌, List, Option, Some, None, Contains, get_or, slice_get, slice_set, refl, sym, ap, subst, ◌∙◌}
use Rattle.std.specs.Option.{option_map}
use Rattle.std.proofs.lemmas.Bool.{cases_eq}
use Rattle.std.proofs.lemmas.Option.{get_or_from_slice_get, slice_get_within}
use Rattle.cal_base.specs.declared.identity.NodeId.{NodeId}
use Rattle.packet_links.specs.Links.{LinkValue, LinksValue, IsLinks, IsPacket, IsRising, Waits, Takes, after_cut, after_mend, after_remove, after_send, changed_at, cut, idle_link, link_at, link_between, mended, removed, sent, waiting_of, with_number}
use Rattle.packet_links.proofs.Numbers.{no_number, put-keeps, put-only, put-there, taken-gone, taken-keeps, taken-only}
use Rattle.packet_links.proofs.Places.{one_link}

set_same : {A : Type 0} (change : A → A) (xs : List A) (i : ℕ) (d : A) → slice_get (slice_set xs i (change (get_or xs i d))) i ≡ option_map change (slice_get xs i)
set_same change [] i d = refl
set_same change (x ∷ xs) zero d = refl
set_same change (x ∷ xs) (suc i) d = set_same change xs i d

set_other : {A : Type 0} (xs : List A) (i j : ℕ) (x : A) → i ≢ j → slice_get (slice_set xs i x) j ≡ slice_get xs j
set_other [] i j x apart = refl
set_other (y ∷ ys) zero zero x apart = absurd (apart refl)
set_other (y ∷ ys) zero (suc j) x apart = refl
set_other (y ∷ ys) (suc i) zero x apart = refl
set_other (y ∷ ys) (suc i) (suc j) x apart = set_other ys i j x (λ e. apart (ap suc e))

-- the link that is changed, and another one
changed-same : (change : LinkValue → LinkValue) (p : Option ℕ) (links : LinksValue) → link_at (changed_at change p links) p ≡ option_map change (link_at links p)
changed-same change None links = refl
changed-same change (Some place) links = set_same change links.links place idle_link

changed-other : (change : LinkValue → LinkValue) (p q : Option ℕ) (links : LinksValue) → p ≢ q → link_at (changed_at change p links) q ≡ link_at links q
changed-other change None q links apart = refl
changed-other change (Some place) None links apart = refl
changed-other change (Some place) (Some other) links apart = set_other links.links place other _ (λ e. apart (ap Some e))

same_place : (p q : Option ℕ) → (p ≡ q) ⊎ (p ≢ q)
same_place None None = inl refl
same_place None (Some q) = inr (λ e. (let both : None ≡ Some q = e in cc))
same_place (Some p) None = inr (λ e. (let both : Some p ≡ None = e in cc))
same_place (Some p) (Some q) = elim (cases_eq p q) as (λ _. (Some p ≡ Some q) ⊎ (Some p ≢ Some q)) [
  | inl same ↦ inl (ap Some same)
  | inr apart ↦ inr (λ e. apart (let both : Some p ≡ Some q = e in cc))
]

-- what waits on a link after a change waited there before, or was brought by the change
pub waits-after : (change : LinkValue → LinkValue) (p q : Option ℕ) (links : LinksValue) (m : ℕ) (Claim : Type 0)
    → (Contains (waiting_of (link_at links q)) m → Claim)
    → (p ≡ q → (link : LinkValue) → link_at links q ≡ Some link → Contains (change link).waiting m → Claim)
    → Contains (waiting_of (link_at (changed_at change p links) q)) m → Claim
waits-after change p q links m Claim before brought w = by (same_place p q)
  where
    here : p ≡ q → (o : Option LinkValue) → link_at links q ≡ o → Contains (waiting_of (option_map change o)) m → Claim
    here same None is c = absurd (no_number m c)
    here same (Some link) is c = brought same link is c

    by : (p ≡ q) ⊎ (p ≢ q) → Claim
    by (inl same) = here same (link_at links q) refl
        (subst (λ (o : Option LinkValue). Contains (waiting_of o) m) (changed-same change q links) (subst (λ (r : Option ℕ). Contains (waiting_of (link_at (changed_at change r links) q)) m) same w))
    by (inr apart) = before (subst (λ (o : Option LinkValue). Contains (waiting_of o) m) (changed-other change p q links apart) w)

-- what waits on a link still waits there after a change that keeps it
pub waits-still : (change : LinkValue → LinkValue) (p q : Option ℕ) (links : LinksValue) (m : ℕ)
    → (p ≡ q → (link : LinkValue) → link_at links q ≡ Some link → Contains link.waiting m → Contains (change link).waiting m)
    → Contains (waiting_of (link_at links q)) m → Contains (waiting_of (link_at (changed_at change p links) q)) m
waits-still change p q links m keeps w = by (same_place p q)
  where
    here : p ≡ q → (o : Option LinkValue) → link_at links q ≡ o → Contains (waiting_of o) m → Contains (waiting_of (option_map change o)) m
    here same None is c = c
    here same (Some link) is c = keeps same link is c

    by : (p ≡ q) ⊎ (p ≢ q) → Contains (waiting_of (link_at (changed_at change p links) q)) m
    by (inl same) = subst (λ (r : Option ℕ). Contains (waiting_of (link_at (changed_at change r links) q)) m) (sym same)
        (subst (λ (o : Option LinkValue). Contains (waiting_of o) m) (sym (changed-same change q links)) (here same (link_at links q) refl w))
    by (inr apart) = subst (λ (o : Option LinkValue). Contains (waiting_of o) m) (sym (changed-other change p q links apart)) w

-- links at one place are between the same nodes
same_link : (from to a b : NodeId) (links : LinksValue) (link : LinkValue) → link_between from to ≡ link_between a b → link_at links (link_between a b) ≡ Some link → (a ≡ from) × (b ≡ to)
same_link from to a b links link same is = by (link_between a b) refl is
  where
    by : (q : Option ℕ) → link_between a b ≡ q → link_at links q ≡ Some link → (a ≡ from) × (b ≡ to)
    by None e at = (let both : None ≡ Some link = at in cc)
    by (Some place) e at = one_link from to a b place (same ∙ e) e

sent-only : (number : ℕ) (link : LinkValue) (m : ℕ) → Contains (sent number link).waiting m → Contains link.waiting m ⊎ (m ≡ number)
sent-only number link m c = by link.is_cut c
  where
    by : (b : Bool) → Contains (if b then link else record link { waiting = with_number number link.waiting }).waiting m → Contains link.waiting m ⊎ (m ≡ number)
    by true there = inl there
    by false there = put-only number link.waiting m there

sent-keeps : (number : ℕ) (link : LinkValue) (m : ℕ) → Contains link.waiting m → Contains (sent number link).waiting m
sent-keeps number link m c = by link.is_cut
  where
    by : (b : Bool) → Contains (if b then link else record link { waiting = with_number number link.waiting }).waiting m
    by true = c
    by false = put-keeps number link.waiting m c

sent-there : (number : ℕ) (link : LinkValue) → link.is_cut ≡ false → Contains (sent number link).waiting number
sent-there number link whole = by link.is_cut whole
  where
    by : (b : Bool) → b ≡ false → Contains (if b then link else record link { waiting = with_number number link.waiting }).waiting number
    by true e = (let both : true ≡ false = e in cc)
    by false e = put-there number link.waiting

-- after a send
pub send-only : (links : LinksValue) (number : ℕ) (from to a b : NodeId) (m : ℕ) → Waits (after_send number from to links) a b m → Waits links a b m ⊎ IsPacket number from to m a b
send-only links number from to a b m = waits-after (sent number) (link_between from to) (link_between a b) links m (Waits links a b m ⊎ IsPacket number from to m a b) (λ w. inl w)
    (λ same link is c. by same link is (sent-only number link m c))
  where
    by : link_between from to ≡ link_between a b → (link : LinkValue) → link_at links (link_between a b) ≡ Some link → Contains link.waiting m ⊎ (m ≡ number) → Waits links a b m ⊎ IsPacket number from to m a b
    by same link is (inl c) = inl (subst (λ (o : Option LinkValue). Contains (waiting_of o) m) (sym is) c)
    by same link is (inr e) = let ends = same_link from to a b links link same is in inr (e, ends.0, ends.1)

pub send-keeps : (links : LinksValue) (number : ℕ) (from to a b : NodeId) (m : ℕ) → Waits links a b m → Waits (after_send number from to links) a b m
send-keeps links number from to a b m = waits-still (sent number) (link_between from to) (link_between a b) links m (λ same link is c. sent-keeps number link m c)

pub send-there : (links : LinksValue) (number : ℕ) (from to : NodeId) → Takes links from to → Waits (after_send number from to links) from to number
send-there links number from to takes = subst (λ (o : Option LinkValue). Contains (waiting_of o) number) (sym (changed-same (sent number) (link_between from to) links ∙ ap (option_map (sent number)) takes.is_there))
    (sent-there number takes.link takes.is_whole)

-- after a removal
pub remove-only : (links : LinksValue) (number : ℕ) (from to a b : NodeId) (m : ℕ) → Waits (after_remove number from to links) a b m → Waits links a b m
remove-only links number from to a b m = waits-after (removed number) (link_between from to) (link_between a b) links m (Waits links a b m) (λ w. w)
    (λ same link is c. subst (λ (o : Option LinkValue). Contains (waiting_of o) m) (sym is) (taken-only number link.waiting m c))

pub remove-keeps : (links : LinksValue) (number : ℕ) (from to a b : NodeId) (m : ℕ) → (IsPacket number from to m a b → ⊥) → Waits links a b m → Waits (after_remove number from to links) a b m
remove-keeps links number from to a b m other = waits-still (removed number) (link_between from to) (link_between a b) links m
    (λ same link is c. taken-keeps number link.waiting m (λ e. other (let ends = same_link from to a b links link same is in (e, ends.0, ends.1))) c)

rising_at : (links : LinksValue) (p : Option ℕ) (link : LinkValue) → IsLinks links.links → link_at links p ≡ Some link → IsRising link.waiting
rising_at links None link are is = (let both : None ≡ Some link = is in cc)
rising_at links (Some place) link are is = subst (λ (x : LinkValue). IsRising x.waiting) (get_or_from_slice_get links.links place link link is)
    (are.rise place link (slice_get_within links.links place link is))

pub remove-gone : (links : LinksValue) (number : ℕ) (from to : NodeId) → IsLinks links.links → Waits (after_remove number from to links) from to number → ⊥
remove-gone links number from to are w = by (link_at links (link_between from to)) refl
    (subst (λ (o : Option LinkValue). Contains (waiting_of o) number) (changed-same (removed number) (link_between from to) links) w)
  where
    by : (o : Option LinkValue) → link_at links (link_between from to) ≡ o → Contains (waiting_of (option_map (removed number) o)) number → ⊥
    by None is c = no_number number c
    by (Some link) is c = taken-gone number link.waiting (rising_at links (link_between from to) link are is) c

-- after a cut
pub cut-only : (links : LinksValue) (from to a b : NodeId) (m : ℕ) → Waits (after_cut from to links) a b m → Waits links a b m
cut-only links from to a b m = waits-after cut (link_between from to) (link_between a b) links m (Waits links a b m) (λ w. w) (λ same link is c. absurd (no_number m c))

pub cut-keeps : (links : LinksValue) (from to a b : NodeId) (m : ℕ) → ((a ≡ from) × (b ≡ to) → ⊥) → Waits links a b m → Waits (after_cut from to links) a b m
cut-keeps links from to a b m other = waits-still cut (link_between from to) (link_between a b) links m (λ same link is c. absurd (other (same_link from to a b links link same is)))

pub cut-nothing : (links : LinksValue) (from to : NodeId) (m : ℕ) → Waits (after_cut from to links) from to m → ⊥
cut-nothing links from to m w = by (link_at links (link_between from to)) (subst (λ (o : Option LinkValue). Contains (waiting_of o) m) (changed-same cut (link_between from to) links) w)
  where
    by : (o : Option LinkValue) → Contains (waiting_of (option_map cut o)) m → ⊥
    by None c = no_number m c
    by (Some link) c = no_number m c

-- after a mending
pub mend-keeps : (links : LinksValue) (from to a b : NodeId) (m : ℕ) → Waits links a b m → Waits (after_mend from to links) a b m
mend-keeps links from to a b m = waits-still mended (link_between from to) (link_between a b) links m (λ same link is c. c)

pub mend-only : (links : LinksValue) (from to a b : NodeId) (m : ℕ) → Waits (after_mend from to links) a b m → Waits links a b m
mend-only links from to a b m = waits-after mended (link_between from to) (link_between a b) links m (Waits links a b m) (λ w. w)
    (λ same link is c. subst (λ (o : Option LinkValue). Contains (waiting_of o) m) (sym is) c)
