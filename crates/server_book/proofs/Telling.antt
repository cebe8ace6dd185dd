-- Revokes that are told one after the other ask what their blockers ask together.
use Rattle.std.proofs.Common.{◌≡◌, ◌⊎◌, inl, inr, List, [], ◌∷◌, Bool, true, false, Option, Some, None, if◌then◌else◌, refl, sym, ap, subst, ◌∙◌}
use Rattle.std.specs.List.{All, cons_option, filter_map}
use Rattle.std.proofs.Common.{Contains, arith}
use Rattle.std.proofs.lemmas.List.Elements.{All-cons, All-contains, All-nil, All-weaker}
use Rattle.cal_base.specs.declared.identity.ClientId.{ClientId}
use Rattle.revocation.specs.Revokes.{asked_after, item_of, items_of, key_of_blocker, lower_asked, owner_of, owners, revoke_of, revoke_with, revokes_of}
use Rattle.revocation.specs.Waiting.{asked_at}
use Rattle.revocation.specs.declared.owner.Owner.{Owner}
use Rattle.revocation.proofs.Formed.{item_found}
use Rattle.token_kind.specs.declared.blocker.Blocker.{Blocker}
use Rattle.token_kind.specs.declared.«class».Class.{Class}
use Rattle.token_kind.specs.declared.«class».Class.TheVariants.{Names, Data, Attr, Open}
use Rattle.token_kind.specs.declared.hold.Hold.{Hold}
use Rattle.token_kind.specs.declared.revoke.Revoke.{Revoke}
use Rattle.token_table.specs.Blockers.{is_open}
use Rattle.token_table.specs.Table.{key_of, same_key}
use Rattle.token_table.specs.declared.hold_key.HoldKey.{HoldKey}
use Rattle.token_table.proofs.Keys.{same_key-refl, same_key-true}
use Rattle.cluster_law.specs.ServerState.{asked_with as asked_in}
use Rattle.server_book.proofs.Lowering.{among-owners, item-says, kept-where-none, kept-where-open, lesser-same}
use Rattle.server_book.proofs.SameAsked.{ask-front}

-- what is asked once some Revokes are told
abbrev pub tell_all : List (ClientId × Revoke) → List (HoldKey × Hold) → List (HoldKey × Hold)
tell_all [] xs = xs
tell_all (sent ∷ rest) xs = tell_all rest (asked_in sent.0 sent.1.ino sent.1.items xs)

abbrev classes : List Class
classes = Names ∷ Data ∷ Attr ∷ []

closed-in : (cls : Class) → is_open cls ≡ false → Contains classes cls
closed-in Names e = (0, omega arith, refl)
closed-in Data e = (1, omega arith, refl)
closed-in Attr e = (2, omega arith, refl)
closed-in Open e = absurd (cc)

-- no Revoke is told where there are no items
told-by : (o : Owner) (items : List (Class × Hold)) (rest : List (ClientId × Revoke)) (xs : List (HoldKey × Hold)) → tell_all (cons_option (revoke_with o items) rest) xs ≡ tell_all rest (asked_in o.client o.ino items xs)
unfolding asked_in
told-by o [] rest xs = refl
told-by o (item ∷ items) rest xs = refl

module _ (before after : HoldKey → Option Hold) (kept : (cls : Class) (q : HoldKey) → item_of cls (before q) (after q) ≡ None → after q ≡ before q) where
  -- each hold is asked as before or as after; and some of those that were asked as before are asked as after
  abbrev pub Between : List (HoldKey × Hold) → Type 0
  Between xs = (q : HoldKey) → (asked_at xs q ≡ before q) ⊎ (asked_at xs q ≡ after q)

  abbrev pub Nearer : List (HoldKey × Hold) → List (HoldKey × Hold) → Type 0
  Nearer xs ys = (q : HoldKey) → (asked_at ys q ≡ after q) ⊎ (asked_at ys q ≡ asked_at xs q)

  nearer-trans : (xs ys zs : List (HoldKey × Hold)) → Nearer xs ys → Nearer ys zs → Nearer xs zs
  nearer-trans xs ys zs one two q = by (two q) (one q)
    where
      by : (asked_at zs q ≡ after q) ⊎ (asked_at zs q ≡ asked_at ys q) → (asked_at ys q ≡ after q) ⊎ (asked_at ys q ≡ asked_at xs q) → (asked_at zs q ≡ after q) ⊎ (asked_at zs q ≡ asked_at xs q)
      by (inl e) f = inl e
      by (inr e) (inl f) = inl (e ∙ f)
      by (inr e) (inr f) = inr (e ∙ f)

  between-next : (xs ys : List (HoldKey × Hold)) → Between xs → Nearer xs ys → Between ys
  between-next xs ys b n q = by (n q) (b q)
    where
      by : (asked_at ys q ≡ after q) ⊎ (asked_at ys q ≡ asked_at xs q) → (asked_at xs q ≡ before q) ⊎ (asked_at xs q ≡ after q) → (asked_at ys q ≡ before q) ⊎ (asked_at ys q ≡ after q)
      by (inl e) f = inr e
      by (inr e) (inl f) = inl (e ∙ f)
      by (inr e) (inr f) = inr (e ∙ f)

  stays-after : (xs ys : List (HoldKey × Hold)) → Nearer xs ys → (q : HoldKey) → asked_at xs q ≡ after q → asked_at ys q ≡ after q
  stays-after xs ys n q e = by (n q)
    where
      by : (asked_at ys q ≡ after q) ⊎ (asked_at ys q ≡ asked_at xs q) → asked_at ys q ≡ after q
      by (inl f) = f
      by (inr f) = f ∙ e

  -- one item is told
  one-told : (xs : List (HoldKey × Hold)) (k : HoldKey) (m : Hold) → Between xs → after k ≡ Some m → lower_asked (before k) m ≡ m
      → Nearer xs ((k, lower_asked (asked_at xs k) m) ∷ xs) × (asked_at ((k, lower_asked (asked_at xs k) m) ∷ xs) k ≡ after k)
  one-told xs k m between is low = (nearer, at)
    where
      value : lower_asked (asked_at xs k) m ≡ m
      value = by (between k)
        where
          by : (asked_at xs k ≡ before k) ⊎ (asked_at xs k ≡ after k) → lower_asked (asked_at xs k) m ≡ m
          by (inl e) = ap (λ (o : Option Hold). lower_asked o m) e ∙ low
          by (inr e) = ap (λ (o : Option Hold). lower_asked o m) (e ∙ is) ∙ lesser-same m

      there : Some (lower_asked (asked_at xs k) m) ≡ after k
      there = ap (λ (h : Hold). Some h) value ∙ sym is

      nearer : Nearer xs ((k, lower_asked (asked_at xs k) m) ∷ xs)
      nearer q = by (same_key k q) refl
        where
          front : asked_at ((k, lower_asked (asked_at xs k) m) ∷ xs) q ≡ (if same_key k q then Some (lower_asked (asked_at xs k) m) else asked_at xs q)
          front = ask-front xs k (lower_asked (asked_at xs k) m) q

          by : (b : Bool) → same_key k q ≡ b → (asked_at ((k, lower_asked (asked_at xs k) m) ∷ xs) q ≡ after q) ⊎ (asked_at ((k, lower_asked (asked_at xs k) m) ∷ xs) q ≡ asked_at xs q)
          by true e = inl (front ∙ ap (λ (b : Bool). if b then Some (lower_asked (asked_at xs k) m) else asked_at xs q) e ∙ there ∙ ap after (same_key-true k q e))
          by false e = inr (front ∙ ap (λ (b : Bool). if b then Some (lower_asked (asked_at xs k) m) else asked_at xs q) e)

      at : asked_at ((k, lower_asked (asked_at xs k) m) ∷ xs) k ≡ after k
      at = ask-front xs k (lower_asked (asked_at xs k) m) k ∙ ap (λ (b : Bool). if b then Some (lower_asked (asked_at xs k) m) else asked_at xs k) (same_key-refl k) ∙ there

  -- the items for some classes of an owner are told
  abbrev pub item_for : Owner → Class → Option (Class × Hold)
  item_for o cls = item_of cls (before (key_of o.client o.ino cls)) (after (key_of o.client o.ino cls))

  abbrev pub IsAfter : Owner → List (HoldKey × Hold) → Class → Type 0
  IsAfter o ys cls = asked_at ys (key_of o.client o.ino cls) ≡ after (key_of o.client o.ino cls)

  abbrev pub AreTold : Owner → List Class → List (HoldKey × Hold) → List (HoldKey × Hold) → Type 0
  AreTold o cs xs ys = Nearer xs ys × All (IsAfter o ys) cs

  pub classes-told : (o : Owner) (cs : List Class) (xs : List (HoldKey × Hold)) → Between xs → AreTold o cs xs (asked_in o.client o.ino (filter_map (item_for o) cs) xs)
  unfolding asked_in
  classes-told o [] xs between = (λ q. inr refl, All-nil (IsAfter o xs))
  classes-told o (c ∷ cs) xs between = by (item_for o c) refl (λ zs bz. classes-told o cs zs bz)
    where
      by : (i : Option (Class × Hold)) → item_for o c ≡ i → ((zs : List (HoldKey × Hold)) → Between zs → AreTold o cs zs (asked_in o.client o.ino (filter_map (item_for o) cs) zs))
          → AreTold o (c ∷ cs) xs (asked_in o.client o.ino (cons_option i (filter_map (item_for o) cs)) xs)
      by None e rest =
          let ys = asked_in o.client o.ino (filter_map (item_for o) cs) xs in
          let r = rest xs between in
          (r.0, All-cons (IsAfter o ys) c cs (stays-after xs ys r.0 (key_of o.client o.ino c) (was (between (key_of o.client o.ino c)))) r.1)
        where
          was : (asked_at xs (key_of o.client o.ino c) ≡ before (key_of o.client o.ino c)) ⊎ (asked_at xs (key_of o.client o.ino c) ≡ after (key_of o.client o.ino c)) → asked_at xs (key_of o.client o.ino c) ≡ after (key_of o.client o.ino c)
          was (inl h) = h ∙ sym (kept c (key_of o.client o.ino c) e)
          was (inr h) = h
      by (Some x) e rest =
          let says = item-says c (before (key_of o.client o.ino c)) (after (key_of o.client o.ino c)) x e in
          let zs = (key_of o.client o.ino x.0, lower_asked (asked_at xs (key_of o.client o.ino x.0)) x.1) ∷ xs in
          let ys = asked_in o.client o.ino (filter_map (item_for o) cs) zs in
          let t = one-told xs (key_of o.client o.ino x.0) x.1 between (subst (λ cls. after (key_of o.client o.ino cls) ≡ Some x.1) (sym says.of) says.now_is) (subst (λ cls. lower_asked (before (key_of o.client o.ino cls)) x.1 ≡ x.1) (sym says.of) says.low) in
          let r = rest zs (between-next xs zs between t.0) in
          (nearer-trans xs zs ys t.0 r.0, All-cons (IsAfter o ys) c cs (stays-after zs ys r.0 (key_of o.client o.ino c) (subst (λ cls. asked_at zs (key_of o.client o.ino cls) ≡ after (key_of o.client o.ino cls)) says.of t.1)) r.1)

  -- a Revoke to an owner is told, or none where it would have no items
  sent-told : (o : Owner) (rest : List (ClientId × Revoke)) (xs : List (HoldKey × Hold)) → tell_all (cons_option (revoke_of before after o) rest) xs ≡ tell_all rest (asked_in o.client o.ino (items_of before after o) xs)
  sent-told o rest xs = told-by o (items_of before after o) rest xs

  abbrev AtOwner : List (HoldKey × Hold) → Owner → Type 0
  AtOwner ys o = All (IsAfter o ys) classes

  owners-told : (os : List Owner) (xs : List (HoldKey × Hold)) → Between xs
      → Nearer xs (tell_all (filter_map (revoke_of before after) os) xs) × All (AtOwner (tell_all (filter_map (revoke_of before after) os) xs)) os
  owners-told [] xs between = (λ q. inr refl, All-nil (AtOwner xs))
  owners-told (o ∷ os) xs between =
      let zs = asked_in o.client o.ino (items_of before after o) xs in
      let ys = tell_all (filter_map (revoke_of before after) os) zs in
      let t = classes-told o classes xs between in
      let r = owners-told os zs (between-next xs zs between t.0) in
      subst (λ (l : List (HoldKey × Hold)). Nearer xs l × All (AtOwner l) (o ∷ os)) (sym (sent-told o (filter_map (revoke_of before after) os) xs))
      (nearer-trans xs zs ys t.0 r.0, All-cons (AtOwner ys) o os (All-weaker (IsAfter o zs) (IsAfter o ys) (λ cls e. stays-after zs ys r.0 (key_of o.client o.ino cls) e) classes t.1) r.1)

-- what is asked once all Revokes for blockers are told is what they ask
pub all-told : (asked : List (HoldKey × Hold)) (bs : List Blocker) (q : HoldKey) → asked_at (tell_all (revokes_of asked bs) asked) q ≡ asked_after asked bs q
all-told asked bs q = by (is_open q.«class») refl
  where
    told : Nearer (asked_at asked) (asked_after asked bs) (λ cls p. kept-where-none cls p bs (asked_at asked p)) asked (tell_all (revokes_of asked bs) asked)
        × All (AtOwner (asked_at asked) (asked_after asked bs) (λ cls p. kept-where-none cls p bs (asked_at asked p)) (tell_all (revokes_of asked bs) asked)) (owners bs)
    told = owners-told (asked_at asked) (asked_after asked bs) (λ cls p. kept-where-none cls p bs (asked_at asked p)) (owners bs) asked (λ p. inl refl)

    -- what isn't asked anew
    same : asked_after asked bs q ≡ asked_at asked q → (asked_at (tell_all (revokes_of asked bs) asked) q ≡ asked_after asked bs q) ⊎ (asked_at (tell_all (revokes_of asked bs) asked) q ≡ asked_at asked q) → asked_at (tell_all (revokes_of asked bs) asked) q ≡ asked_after asked bs q
    same e (inl h) = h
    same e (inr h) = h ∙ sym e

    -- what is
    new : is_open q.«class» ≡ false → (x : Class × Hold) → item_of q.«class» (asked_at asked q) (asked_after asked bs q) ≡ Some x → asked_at (tell_all (revokes_of asked bs) asked) q ≡ asked_after asked bs q
    new closed x e =
        let f = (item_found q.«class» q bs (asked_at asked q) x e).1 in
        let shut : is_open f.b.«class» ≡ false = ap (λ (k : HoldKey). is_open k.«class») f.key ∙ closed in
        let all = All-contains (AtOwner (asked_at asked) (asked_after asked bs) (λ cls p. kept-where-none cls p bs (asked_at asked p)) (tell_all (revokes_of asked bs) asked)) (owners bs) (owner_of f.b) told.1 (among-owners bs f.b f.member) in
        let one : asked_at (tell_all (revokes_of asked bs) asked) (key_of_blocker f.b) ≡ asked_after asked bs (key_of_blocker f.b) =
        All-contains (IsAfter (asked_at asked) (asked_after asked bs) (λ cls p. kept-where-none cls p bs (asked_at asked p)) (owner_of f.b) (tell_all (revokes_of asked bs) asked)) classes f.b.«class» all (closed-in f.b.«class» shut) in
        subst (λ (k : HoldKey). asked_at (tell_all (revokes_of asked bs) asked) k ≡ asked_after asked bs k) f.key one

    item : is_open q.«class» ≡ false → (i : Option (Class × Hold)) → item_of q.«class» (asked_at asked q) (asked_after asked bs q) ≡ i → asked_at (tell_all (revokes_of asked bs) asked) q ≡ asked_after asked bs q
    item closed None e = same (kept-where-none q.«class» q bs (asked_at asked q) e) (told.0 q)
    item closed (Some x) e = new closed x e

    by : (b : Bool) → is_open q.«class» ≡ b → asked_at (tell_all (revokes_of asked bs) asked) q ≡ asked_after asked bs q
    by true e = same (kept-where-open q bs (asked_at asked q) e) (told.0 q)
    by false e = item e (item_of q.«class» (asked_at asked q) (asked_after asked bs q)) refl
