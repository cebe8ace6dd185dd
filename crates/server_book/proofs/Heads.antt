-- The Revokes for what blocks the head of the line keep the rules, each where it is told.
use Rattle.std.proofs.Common.{◌≡◌, ◌≤◌, ◌<◌, ◌⊎◌, inl, inr, ◌+◌, ℕ, List, [], ◌∷◌, ◌++◌, ◌&&◌, Bool, true, false, Option, Some, None, IsTrue, count_by, map, nat_le, nat_lt, if◌then◌else◌, refl, sym, ap, subst, ◌∙◌, true≢false, arith, rules}
use Rattle.std.specs.List.{All, cons_option, list_all}
use Rattle.std.proofs.lemmas.List.Elements.{All-cons, All-head, All-nil, All-tail}
use Rattle.std.proofs.lemmas.List.Folds.{list_all-append}
use Rattle.std.proofs.lemmas.List.Sums.{sum_by-cons}
use Rattle.cal_base.specs.declared.identity.ClientId.{ClientId}
use Rattle.cal_base.specs.declared.identity.Ino.{Ino}
use Rattle.message.specs.declared.message.Message.TheVariants.{Revoke as Asks}
use Rattle.revocation.specs.Revokes.{asked_after, key_of_blocker, owners, revoke_of, revokes_of}
use Rattle.revocation.specs.Waiting.{asked_at, own_blocker, own_blockers}
use Rattle.token_kind.specs.Hold.{hold_number}
use Rattle.token_kind.specs.declared.blocker.Blocker.{Blocker}
use Rattle.token_kind.specs.declared.«class».Class.{Class}
use Rattle.token_kind.specs.declared.«class».Class.TheVariants.{Names, Data, Attr, Open}
use Rattle.token_kind.specs.declared.hold.Hold.{Hold}
use Rattle.token_kind.specs.declared.hold.Hold.TheVariants.{None as Nothing, Read, Write}
use Rattle.token_kind.specs.declared.revoke.Revoke.{Revoke}
use Rattle.token_kind.specs.declared.token.Token.{Token}
use Rattle.token_table.specs.Blockers.{blockers_of}
use Rattle.token_table.specs.Table.{IsTable, Table, held_of, is_data_write, key_of, same_key, same_write}
use Rattle.token_table.specs.declared.hold_key.HoldKey.{HoldKey}
use Rattle.token_table.proofs.Keys.{same_key-true, same_write-refl}
use Rattle.tree_law.specs.Needs.{Need, end_needs, look_needs, open_needs, path_needs, stat_needs, walk_needs}
use Rattle.tree_law.specs.Resolve.{looked_up, resolved}
use Rattle.tree_law.specs.Tree.{Tree, node_at, root}
use Rattle.tree_law.specs.declared.node.Node.{Node}
use Rattle.tree_law.specs.declared.node.Node.TheVariants.{Directory, Regular}
use Rattle.std.proofs.Common.{Result, Ok, Err}
use Rattle.tree_law.specs.declared.reply.Why.{Why}
use Rattle.tree_law.specs.declared.request.Asked.{Asked}
use Rattle.tree_law.specs.declared.request.Asked.TheVariants.{Want as Wants, Change as Alters}
use Rattle.tree_law.specs.declared.request.Request.{Request}
use Rattle.tree_law.specs.declared.request.Want.{Want}
use Rattle.tree_law.specs.declared.request.Want.TheVariants.{Stat, Open as OpenWant, Readdir, Read as ReadWant, Write as WriteWant}
use Rattle.volume_plan.specs.Plans.{free_count}
use Rattle.volume_plan.specs.Shown.{shown}
use Rattle.cluster_law.specs.Asking.{blocks_of, next_revoke}
use Rattle.cluster_law.specs.Blocking.{blocks, blocks_for, first_write, holds_for, lacking, needed, needs_write, or_space, reserved}
use Rattle.cluster_law.specs.Granting.{head}
use Rattle.cluster_law.specs.Lanes.{Act, Down, Lane, Tells}
use Rattle.cluster_law.specs.Lists.{first_of}
use Rattle.cluster_law.specs.ServerRules.{ActsWell, EachAct, HasReserve, Occasion}
use Rattle.cluster_law.specs.ServerState.{ServerState, after_act, after_acts, asked_with as asked_in, is_admitted, table_in}
use Rattle.cluster_law.specs.Tokens.{class_numbered, token_of}
use Rattle.server_book.specs.Alike.{revoking}
use Rattle.server_book.proofs.Steady.{elsewhere, nothing-own}
use Rattle.server_book.proofs.Turning.{after-same, gathered-first, told-once, told-owner}

-- a need isn't one of bytes
abbrev is_other : Class → Bool
is_other Names = true
is_other Data = false
is_other Attr = true
is_other Open = true

abbrev other_need : Need → Bool
other_need need = is_other (class_numbered need.1)

look-other : (o : Option Node) (ino : Ino) → list_all other_need (look_needs o ino) ≡ true
look-other (Some (Directory names)) ino = refl
look-other (Some (Regular file)) ino = refl
look-other None ino = refl

stat-other : (o : Option Node) (ino : Ino) → list_all other_need (stat_needs o ino) ≡ true
stat-other (Some (Directory names)) ino = refl
stat-other (Some (Regular file)) ino = refl
stat-other None ino = refl

open-other : (o : Option Node) (ino : Ino) → list_all other_need (open_needs o ino) ≡ true
open-other (Some (Directory names)) ino = refl
open-other (Some (Regular file)) ino = refl
open-other None ino = refl

walk-other : (tree : Tree) (at : Result Ino Why) (path : List (List ℕ)) → list_all other_need (walk_needs tree at path) ≡ true
walk-other tree (Ok ino) [] = refl
walk-other tree (Err why) [] = refl
walk-other tree (Err why) (name ∷ names) = refl
walk-other tree (Ok ino) (name ∷ names) =
    list_all-append other_need (look_needs (node_at tree ino) ino) (walk_needs tree (looked_up (node_at tree ino) name) names)
    ∙ (λ i. look-other (node_at tree ino) ino i && walk-other tree (looked_up (node_at tree ino) name) names i)

end-other : (needs : Option Node → Ino → List Need) → ((o : Option Node) (ino : Ino) → list_all other_need (needs o ino) ≡ true) → (tree : Tree) (at : Result Ino Why) → list_all other_need (end_needs needs tree at) ≡ true
end-other needs each tree (Ok ino) = each (node_at tree ino) ino
end-other needs each tree (Err why) = refl

path-other : (needs : Option Node → Ino → List Need) → ((o : Option Node) (ino : Ino) → list_all other_need (needs o ino) ≡ true) → (tree : Tree) (path : List (List ℕ)) → list_all other_need (path_needs needs tree path) ≡ true
path-other needs each tree path =
    list_all-append other_need (walk_needs tree (Ok root) path) (end_needs needs tree (resolved tree path))
    ∙ (λ i. walk-other tree (Ok root) path i && end-other needs each tree (resolved tree path) i)

-- all of a list, each for itself
all-of : {X : Type 0} (P : X → Type 0) → ((x : X) → P x) → (xs : List X) → All P xs
all-of P each [] = All-nil P
all-of P each (x ∷ xs) = All-cons P x xs (each x) (all-of P each xs)

all-other : (P : Token → Type 0) → ((t : Token) → is_other t.«class» ≡ true → P t) → (needs : List Need) → list_all other_need needs ≡ true → All P (map token_of needs)
all-other P each [] e = All-nil P
all-other P each (need ∷ needs) e = by (other_need need) refl e (λ h. all-other P each needs h)
  where
    by : (b : Bool) → other_need need ≡ b → (b && list_all other_need needs) ≡ true → (list_all other_need needs ≡ true → All P (map token_of needs)) → All P (map token_of (need ∷ needs))
    by true f g rest = All-cons P (token_of need) (map token_of needs) (each (token_of need) f) (rest g)
    by false f g rest = absurd (true≢false (sym g))

-- blocks are wanting only where a Data Write lacks
write-lacks : (b : Bool) (free kept : ℕ) → kept ≤ free → nat_lt free ((if b then 16 else 0) + kept) ≡ true → b ≡ true
write-lacks true free kept le lt = refl
write-lacks false free kept le lt = let less : free < 0 + kept = search rules in absurd (omega (arith, less, le))

-- the first of the writes is held
first-held : (t : Table) → IsTable t → (w : ClientId × Ino) (ws : List (ClientId × Ino)) → t.writes ≡ w ∷ ws → is_data_write Data (held_of t w.0 w.1 Data) ≡ true
first-held t table w ws e = by (is_data_write Data (held_of t w.0 w.1 Data)) refl
  where
    count : (if is_data_write Data (held_of t w.0 w.1 Data) then 1 else 0) ≡ (if same_write w w then 1 else 0) + count_by (same_write w) ws
    count = sym (table.listed w.0 w.1) ∙ ap (count_by (same_write w)) e ∙ sum_by-cons (λ v. if same_write w v then 1 else 0) w ws

    by : (b : Bool) → is_data_write Data (held_of t w.0 w.1 Data) ≡ b → b ≡ true
    by true f = refl
    by false f =
        let zero-is : 0 ≡ 1 + count_by (same_write w) ws = ap (λ (b : Bool). if b then 1 else 0) (sym f) ∙ count ∙ ap (λ (b : Bool). (if b then 1 else 0) + count_by (same_write w) ws) (same_write-refl w) in
        absurd (omega (arith, zero-is))

-- what is asked of a hold by the write that is asked down
abbrev writing : ClientId × Ino → Blocker
writing w = record { client = w.0; ino = w.1; «class» = Data; asked = Read }

other-key : (w : ClientId × Ino) (c : ClientId) (ino : Ino) (cls : Class) → is_other cls ≡ true → same_key (key_of_blocker (writing w)) (key_of c ino cls) ≡ false
other-key w c ino cls e = by (same_key (key_of_blocker (writing w)) (key_of c ino cls)) refl
  where
    by : (b : Bool) → same_key (key_of_blocker (writing w)) (key_of c ino cls) ≡ b → b ≡ false
    by false f = refl
    by true f = absurd (true≢false (sym e ∙ ap (λ (k : HoldKey). is_other k.«class») (sym (same_key-true (key_of_blocker (writing w)) (key_of c ino cls) f))))

module _ (base : ServerState) (table : IsTable (table_in base)) (reserve : reserved base ≤ free_count base.volume) (c : ClientId) where
  -- by these blockers nothing new is asked of a need
  abbrev Kept : List Blocker → Token → Type 0
  Kept bs need = asked_after base.asked bs (key_of c need.ino need.«class») ≡ asked_at base.asked (key_of c need.ino need.«class»)

  not-key : (w : ClientId × Ino) (need : Token) → is_other need.«class» ≡ true → Kept (writing w ∷ []) need
  not-key w need e = elsewhere (key_of c need.ino need.«class») (asked_at base.asked (key_of c need.ino need.«class»)) (writing w) (other-key w c need.ino need.«class» e)

  read-lacks-none : (ino : Ino) → needs_write (lacking base c (ReadWant ino)) ≡ false
  read-lacks-none ino = by (nat_le 1 (hold_number (held_of (table_in base) c ino Data))) (nat_le 1 (hold_number (held_of (table_in base) c ino Attr))) refl refl
    where
      by : (a b : Bool) → nat_le 1 (hold_number (held_of (table_in base) c ino Data)) ≡ a → nat_le 1 (hold_number (held_of (table_in base) c ino Attr)) ≡ b → needs_write (lacking base c (ReadWant ino)) ≡ false
      by true true e f = rw (e, f) refl
      by true false e f = rw (e, f) refl
      by false true e f = rw (e, f) refl
      by false false e f = rw (e, f) refl

  held-lacks-none : (ino : Ino) → held_of (table_in base) c ino Data ≡ Write → needs_write (lacking base c (WriteWant ino)) ≡ false
  held-lacks-none ino held = by (nat_le 2 (hold_number (held_of (table_in base) c ino Attr))) refl
    where
      by : (b : Bool) → nat_le 2 (hold_number (held_of (table_in base) c ino Attr)) ≡ b → needs_write (lacking base c (WriteWant ino)) ≡ false
      by true f = rw (held, f) refl
      by false f = rw (held, f) refl

  is-write : (h : Hold) → is_data_write Data h ≡ true → h ≡ Write
  is-write Nothing e = absurd (true≢false (sym e))
  is-write Read e = absurd (true≢false (sym e))
  is-write Write e = refl

  -- where the first of the writes is asked down, it is none of the needs
  writes-kept : (want : Want) (w : ClientId × Ino) (ws : List (ClientId × Ino)) → (table_in base).writes ≡ w ∷ ws → needs_write (lacking base c want) ≡ true → All (Kept (writing w ∷ [])) (needed base want)
  writes-kept (Stat path) w ws at lacks = all-other (Kept (writing w ∷ [])) (not-key w) (path_needs stat_needs (shown base.volume) path) (path-other stat_needs stat-other (shown base.volume) path)
  writes-kept (OpenWant path) w ws at lacks = all-other (Kept (writing w ∷ [])) (not-key w) (path_needs open_needs (shown base.volume) path) (path-other open_needs open-other (shown base.volume) path)
  writes-kept (Readdir path) w ws at lacks = all-other (Kept (writing w ∷ [])) (not-key w) (path_needs look_needs (shown base.volume) path) (path-other look_needs look-other (shown base.volume) path)
  writes-kept (ReadWant ino) w ws at lacks = absurd (true≢false (sym lacks ∙ read-lacks-none ino))
  writes-kept (WriteWant ino) w ws at lacks =
      All-cons (Kept (writing w ∷ [])) (record { ino = ino; «class» = Data; hold = Write }) (record { ino = ino; «class» = Attr; hold = Write } ∷ [])
      (elsewhere (key_of c ino Data) (asked_at base.asked (key_of c ino Data)) (writing w) (apart (same_key (key_of_blocker (writing w)) (key_of c ino Data)) refl))
      (All-cons (Kept (writing w ∷ [])) (record { ino = ino; «class» = Attr; hold = Write }) [] (not-key w (record { ino = ino; «class» = Attr; hold = Write }) refl) (All-nil (Kept (writing w ∷ []))))
    where
      apart : (b : Bool) → same_key (key_of_blocker (writing w)) (key_of c ino Data) ≡ b → b ≡ false
      apart false f = refl
      apart true f =
          let one : key_of w.0 w.1 Data ≡ key_of c ino Data = same_key-true (key_of_blocker (writing w)) (key_of c ino Data) f in
          let held : held_of (table_in base) c ino Data ≡ Write = is-write (held_of (table_in base) c ino Data) (subst (λ (k : HoldKey). is_data_write Data (held_of (table_in base) k.client k.ino Data) ≡ true) one (first-held (table_in base) table w ws at)) in
          absurd (true≢false (sym lacks ∙ held-lacks-none ino held))

  -- nothing new is asked of what the caller needs itself
  kept-by : (want : Want) (hs : List Blocker) → blockers_of (table_in base) c (lacking base c want) ++ own_blockers base.asked c (needed base want) ≡ hs
      → All (Kept (or_space base (if needs_write (lacking base c want) then 16 else 0) hs)) (needed base want)
  kept-by want (h ∷ hs) e = all-of (Kept (h ∷ hs)) (λ need. subst (λ (bs : List Blocker). Kept bs need) e (nothing-own (table_in base) base.asked c (lacking base c want) (needed base want) (key_of c need.ino need.«class») refl)) (needed base want)
  kept-by want [] e = space (nat_lt (free_count base.volume) ((if needs_write (lacking base c want) then 16 else 0) + reserved base)) refl
    where
      written : (ws : List (ClientId × Ino)) → (table_in base).writes ≡ ws → needs_write (lacking base c want) ≡ true → All (Kept (first_write ws)) (needed base want)
      written [] at lacks = all-of (Kept []) (λ need. refl) (needed base want)
      written (w ∷ ws) at lacks = writes-kept want w ws at lacks

      space : (b : Bool) → nat_lt (free_count base.volume) ((if needs_write (lacking base c want) then 16 else 0) + reserved base) ≡ b
          → All (Kept (if nat_lt (free_count base.volume) ((if needs_write (lacking base c want) then 16 else 0) + reserved base) then first_write (table_in base).writes else [])) (needed base want)
      space true lt =
          subst (λ (b : Bool). All (Kept (if b then first_write (table_in base).writes else [])) (needed base want)) (sym lt)
          (written (table_in base).writes refl (write-lacks (needs_write (lacking base c want)) (free_count base.volume) (reserved base) reserve lt))
      space false lt = subst (λ (b : Bool). All (Kept (if b then first_write (table_in base).writes else [])) (needed base want)) (sym lt) (all-of (Kept []) (λ need. refl) (needed base want))

  -- what is asked lies between before and after
  abbrev Between : List Blocker → List (HoldKey × Hold) → Type 0
  Between bs xs = (q : HoldKey) → (asked_at xs q ≡ asked_at base.asked q) ⊎ (asked_at xs q ≡ asked_after base.asked bs q)

  own-same : (bs : List Blocker) (xs : List (HoldKey × Hold)) (needs : List Token) → Between bs xs → All (Kept bs) needs → own_blockers xs c needs ≡ own_blockers base.asked c needs
  own-same bs xs [] between all = refl
  own-same bs xs (need ∷ needs) between all =
      (λ i. cons_option (own_blocker c need (same i)) (own-same bs xs needs between (All-tail (Kept bs) need needs all) i))
    where
      same : asked_at xs (key_of c need.ino need.«class») ≡ asked_at base.asked (key_of c need.ino need.«class»)
      same = by (between (key_of c need.ino need.«class»))
        where
          by : (asked_at xs (key_of c need.ino need.«class») ≡ asked_at base.asked (key_of c need.ino need.«class»)) ⊎ (asked_at xs (key_of c need.ino need.«class») ≡ asked_after base.asked bs (key_of c need.ino need.«class»)) → asked_at xs (key_of c need.ino need.«class») ≡ asked_at base.asked (key_of c need.ino need.«class»)
          by (inl h) = h
          by (inr h) = h ∙ All-head (Kept bs) need needs all

  space-same : (xs : List (HoldKey × Hold)) (n : ℕ) (hs : List Blocker) → or_space (record base { asked = xs }) n hs ≡ or_space base n hs
  space-same xs n [] = refl
  space-same xs n (h ∷ hs) = refl

  pub steady : (number : ℕ) (asked : Asked) (xs : List (HoldKey × Hold)) → Between (blocks base (record { client = c; number = number; asked = asked })) xs
      → blocks (record base { asked = xs }) (record { client = c; number = number; asked = asked }) ≡ blocks base (record { client = c; number = number; asked = asked })
  unfolding blocks
  steady number (Alters call) xs between = space-same xs (blocks_for base c number (Alters call)) (holds_for base c number (Alters call))
  steady number (Wants want) xs between =
      space-same xs (blocks_for base c number (Wants want)) (blockers_of (table_in base) c (lacking base c want) ++ own_blockers xs c (needed base want))
      ∙ ap (λ (os : List Blocker). or_space base (blocks_for base c number (Wants want)) (blockers_of (table_in base) c (lacking base c want) ++ os))
      (own-same (blocks base (record { client = c; number = number; asked = Wants want })) xs (needed base want) between
      (kept-by want (blockers_of (table_in base) c (lacking base c want) ++ own_blockers base.asked c (needed base want)) refl))

-- and so for whatever stands at the head
pub steady-of : (base : ServerState) → IsTable (table_in base) → reserved base ≤ free_count base.volume → (o : Option Request) (xs : List (HoldKey × Hold))
    → ((q : HoldKey) → (asked_at xs q ≡ asked_at base.asked q) ⊎ (asked_at xs q ≡ asked_after base.asked (blocks_of base o) q)) → blocks_of (record base { asked = xs }) o ≡ blocks_of base o
steady-of base table reserve None xs between = refl
steady-of base table reserve (Some request) xs between = steady base table reserve request.client request.number request.asked xs between

module _ (P : ServerState → List Act → Act → Type 0) (base : ServerState) (bs : List Blocker)
    (right : (server : ServerState) (before : List Act) (lane : Lane) (revoke : Revoke) → record server { asked = base.asked } ≡ base
    → ((q : HoldKey) → (asked_at server.asked q ≡ asked_at base.asked q) ⊎ (asked_at server.asked q ≡ asked_after base.asked bs q))
    → next_revoke server bs ≡ Some (record { 0 = lane.client }, revoke) → P server before (Tells lane (Asks revoke))) where
  -- what holds of each Revoke where it is the next one, in a server that asks between before and after, holds of all
  pub each-between : (start : ServerState) (view : ℕ) (sents : List (ClientId × Revoke)) (before : List Act) → record (after_acts start before) { asked = base.asked } ≡ base
      → ((q : HoldKey) → (asked_at (after_acts start before).asked q ≡ asked_at base.asked q) ⊎ (asked_at (after_acts start before).asked q ≡ asked_after base.asked bs q))
      → ((q : HoldKey) → asked_after (after_acts start before).asked bs q ≡ asked_after base.asked bs q)
      → revokes_of (after_acts start before).asked bs ≡ sents → EachAct start P before → EachAct start P (revoking view sents before)
  unfolding after_acts after_act revoking
  each-between start view [] before same between after e g = g
  each-between start view (sent ∷ rest) before same between after e g =
      let lane : Lane = record { client = sent.0.0; view = view; way = Down } in
      let xs = (after_acts start before).asked in
      let found = gathered-first (revoke_of (asked_at xs) (asked_after xs bs)) (owners bs) sent rest e in
      each-between start view rest (Tells lane (Asks sent.1) ∷ before) same
      (λ q. nearer xs (asked_in sent.0 sent.1.ino sent.1.items xs) q (between q) (after q) ((told-owner xs bs found.0 sent found.1).0 q))
      (λ q. after-same xs bs found.0 sent found.1 q ∙ after q)
      (told-once xs bs sent rest e)
      (g, right (after_acts start before) before lane sent.1 same between (ap (λ (l : List (ClientId × Revoke)). first_of l) e))
    where
      nearer : (xs ys : List (HoldKey × Hold)) (q : HoldKey) → (asked_at xs q ≡ asked_at base.asked q) ⊎ (asked_at xs q ≡ asked_after base.asked bs q) → asked_after xs bs q ≡ asked_after base.asked bs q
          → (asked_at ys q ≡ asked_after xs bs q) ⊎ (asked_at ys q ≡ asked_at xs q) → (asked_at ys q ≡ asked_at base.asked q) ⊎ (asked_at ys q ≡ asked_after base.asked bs q)
      nearer xs ys q b a (inl h) = inr (h ∙ a)
      nearer xs ys q (inl b) a (inr h) = inl (h ∙ b)
      nearer xs ys q (inr b) a (inr h) = inr (h ∙ b)

-- a Revoke for the head of the line keeps the rules
head-revoke : (o : Occasion) (start base server : ServerState) (before : List Act) (lane : Lane) (revoke : Revoke) → IsTable (table_in base) → IsTrue (is_admitted base) → HasReserve base
    → record server { asked = base.asked } ≡ base
    → ((q : HoldKey) → (asked_at server.asked q ≡ asked_at base.asked q) ⊎ (asked_at server.asked q ≡ asked_after base.asked (blocks_of base (head base)) q))
    → next_revoke server (blocks_of base (head base)) ≡ Some (record { 0 = lane.client }, revoke) → ActsWell o start server before (Tells lane (Asks revoke))
unfolding after_act
head-revoke o start base server before lane revoke table admitted reserve same between next = record {
  grants = tt;
  refuses = tt;
  commits = tt;
  collects = tt;
  revokes = record {
    admitted = subst IsTrue (sym (ap (λ (s : ServerState). is_admitted s) same)) admitted;
    next = inl (ap (next_revoke server) blocked ∙ next);
  };
  removes = tt;
  reserve = subst (λ (s : ServerState). HasReserve s) (sym same) reserve;
}
  where
    blocked : blocks_of server (head server) ≡ blocks_of base (head base)
    blocked = ap (λ (s : ServerState). blocks_of (record s { asked = server.asked }) (head s)) same ∙ steady-of base table (reserve admitted) (head base) server.asked between

pub head-told : (o : Occasion) (start : ServerState) (before : List Act) (view : ℕ) → IsTable (table_in (after_acts start before)) → IsTrue (is_admitted (after_acts start before)) → HasReserve (after_acts start before)
    → EachAct start (ActsWell o start) before
    → EachAct start (ActsWell o start) (revoking view (revokes_of (after_acts start before).asked (blocks_of (after_acts start before) (head (after_acts start before)))) before)
head-told o start before view table admitted reserve g =
    let base = after_acts start before in
    let bs = blocks_of base (head base) in
    each-between (ActsWell o start) base bs
    (λ server b lane revoke same between next. head-revoke o start base server b lane revoke table admitted reserve same between next)
    start view (revokes_of base.asked bs) before refl (λ q. inl refl) (λ q. refl) refl g
