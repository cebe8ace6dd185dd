-- What the folds over a trace have come to, and what goes on a lane by their values.
use Rattle.std.proofs.Common.{◌≡◌, ◌≤◌, ◌++◌, ◌&&◌, ◌+◌, ◌-◌, refl, [], ◌∷◌, true, false, List, Option, Some, None, ℕ, zero, suc, Bool, arith, length, sym, ap, ◌∙◌, nat_eq, subst, if◌then◌else◌}
use Rattle.std.specs.Prelude.{take, drop, not}
use Rattle.std.specs.List.{filter}
use Rattle.std.proofs.lemmas.Bool.{eqb-true}
use Rattle.std.specs.FinMap as map
use Rattle.std.specs.Cmp.Lexicographic.{nat_list_cmp_total}
use Rattle.std.specs.Prelude.{replicate, slice_index_or, is_none}
use Rattle.std.specs.List.{fold}
use Rattle.volume_edit.specs.Edit.{edited, marked_all}
use Rattle.volume_plan.specs.Flushing.{free_from}
use Rattle.volume_plan.specs.Plans.{free_count}
use Rattle.law_rows.specs.ForeignRead.{flushing, with_file}
use Rattle.tree_law.specs.FileState.{FileState}
use Rattle.tree_law.specs.Idle.{is_flushed_file, is_idle, is_named, is_open, swept, swept_below}
use Rattle.tree_law.specs.Names.{Names}
use Rattle.tree_law.specs.declared.descriptor.Descriptor.{Descriptor}
use Rattle.tree_law.specs.declared.node.Node.{Node}
use Rattle.tree_law.specs.declared.node.Node.TheVariants.{Directory, Regular}
use Rattle.law_rows.specs.CreateFile.{a, made}
use Rattle.law_rows.proofs.Lanes.{no-entries}
use Rattle.cal_base.specs.declared.identity.ServerId.TheVariants.{A}
use Rattle.message.specs.declared.message.Message.{Message}
use Rattle.message.specs.Spelling.{message_bytes}
use Rattle.session.specs.declared.packet.Packet.{Packet}
use Rattle.tree_law.specs.Legal.{tree_of}
use Rattle.tree_law.specs.Tree.{Tree}
use Rattle.cluster_law.specs.ClientRules.{Answers, messages_of}
use Rattle.cluster_law.specs.Owed.{owed, tale_of}
use Rattle.cluster_law.specs.Sight.{seen}
use Rattle.std.specs.Prelude.{map as map_list, min}
use Rattle.cluster_law.specs.ClientState.{ClientState, client_after}
use Rattle.cluster_law.specs.Delivery.{again, as_packet, bare, fresh, has_number, is_repeat, packed, packet_on, sent_on}
use Rattle.cluster_law.specs.History.{client_at, history, server_at, sight_at, turn, turn_by}
use Rattle.cluster_law.specs.Lanes.{Down, Lane, Up, Way, back, same_lane, same_way}
use Rattle.cluster_law.specs.Lists.{is_empty, only_if}
use Rattle.cluster_law.specs.Noted.{DiskAt, Noted, Setting, disk_now}
use Rattle.rebuild.specs.Collecting.{Collecting}
use Rattle.tree_law.specs.declared.request.Request.{Request}
use Rattle.token_table.specs.declared.hold_key.HoldKey.{HoldKey}
use Rattle.token_kind.specs.declared.hold.Hold.{Hold}
use Rattle.volume.specs.Volume.{Volume}
use Rattle.cluster_law.specs.DiskRules.{held_now}
use Rattle.cluster_law.specs.Sessions.{Taken, acknowledged, counted, made_now, taken, acked_in, client_view, goes_on, heard, heard_in, made_in, sent_in, sent_with, taken_in}
use Rattle.cluster_law.specs.Trace.{has_crashed, is_client, is_marked, own_sectors, packets, seat, server_of}
use Rattle.law_rows.specs.ForeignRead.{lane}

-- of a lane: the messages made, how many were taken, and how many are known to be taken
pub record Count : Type 0 where
  pub made : List Message
  pub taken : ℕ
  pub acked : ℕ

pub record Counts (w : Setting) (l : Lane) (t : List Noted) (k : Count) : Type 0 where
  pub made : made_in l t ≡ k.made
  pub taken : taken_in w l t ≡ k.taken
  pub acked : acked_in w l t ≡ k.acked

abbrev pub nothing : Count
nothing = record { made = []; taken = 0; acked = 0 }

pub record Known : Type 0 where
  pub packets : List Packet
  pub up0 : Count
  pub down0 : Count
  pub up1 : Count
  pub down1 : Count
  pub client0 : ClientState
  pub client1 : ClientState
  pub collecting : Collecting
  pub requests : List Request
  pub asked : List (HoldKey × Hold)
  pub volume : Volume
  pub tree : Tree
  pub disk : DiskAt

-- all clients run, server A serves view 1, and the folds have these values
pub record At (w : Setting) (t : List Noted) (k : Known) : Type 0 where
  pub packets : packets t ≡ k.packets
  pub seat : seat A t ≡ Some 1
  pub server_of : (v : ℕ) → server_of v t ≡ A
  pub view0 : client_view 0 t ≡ 1
  pub view1 : client_view 1 t ≡ 1
  pub crashed0 : has_crashed 0 t ≡ false
  pub crashed1 : has_crashed 1 t ≡ false
  pub present0 : is_marked (own_sectors w 1 t) 0 ≡ false
  pub present1 : is_marked (own_sectors w 1 t) 1 ≡ false
  pub up0 : Counts w (lane 0 Up) t k.up0
  pub down0 : Counts w (lane 0 Down) t k.down0
  pub up1 : Counts w (lane 1 Up) t k.up1
  pub down1 : Counts w (lane 1 Down) t k.down1
  pub others : (c : ℕ) → nat_eq 0 c ≡ false → nat_eq 1 c ≡ false → made_in (lane c Down) t ≡ []
  pub client0 : client_at w 0 t ≡ k.client0
  pub client1 : client_at w 1 t ≡ k.client1
  pub tree : tree_of (history t) ≡ k.tree
  pub disk : disk_now w t ≡ k.disk
  pub held : held_now t ≡ None
  pub collecting : (server_at w 1 t).collecting ≡ k.collecting
  pub requests : (server_at w 1 t).requests ≡ k.requests
  pub asked : (server_at w 1 t).asked ≡ k.asked
  pub volume : (server_at w 1 t).volume ≡ k.volume

-- what goes on a lane, by the values of the folds before and after the step
abbrev pub repeated : Count → List Packet → List Packet
repeated old sent = filter (is_repeat (sent_with (length old.made) old.acked)) sent

abbrev pub first_sent : Lane → ℕ → Count → Count → List Packet
first_sent l taken old new = packed (λ seq body. packet_on l.way A l seq taken body) (sent_with (length old.made) old.acked) (take (sent_with (length new.made) new.acked - sent_with (length old.made) old.acked) (drop (sent_with (length old.made) old.acked) new.made))

abbrev pub expected : Lane → ℕ → Count → Count → List Packet → Option Packet → List Packet
expected l taken old new sent heard = repeated old sent ++ first_sent l taken old new ++ (if has_number (only_if (goes_on (back l)) heard) && is_empty (repeated old sent ++ first_sent l taken old new) then packet_on l.way A l 0 taken [] ∷ [] else [])

packed-same : (f g : ℕ → List ℕ → Packet) → ((seq : ℕ) (body : List ℕ) → f seq body ≡ g seq body) → (n : ℕ) (ms : List Message) → packed f n ms ≡ packed g n ms
packed-same f g same n [] = refl
packed-same f g same n (m ∷ ms) = rw (same (n + 1) (message_bytes m)) (rw (packed-same f g same (n + 1) ms) refl)

pub sends : (w : Setting) (l : Lane) (s : Noted) (t : List Noted) (old new : Count) (back_taken : ℕ) (p : Option Packet) → Counts w l t old → Counts w l (s ∷ t) new → taken_in w (back l) (s ∷ t) ≡ back_taken → server_of l.view (s ∷ t) ≡ A → heard w t s ≡ p → sent_on l s ≡ expected l back_taken old new (sent_on l s) p → sent_on l s ≡ again w l s t ++ fresh w l s t ++ bare w l s t
unfolding sent_in heard_in
sends w l s t old new back_taken p o n taken server hears e = rw o.made (rw o.acked (rw n.made (rw n.acked (rw taken (rw server (rw hears (rw (packed-same (as_packet w l s t) (λ seq body. packet_on l.way A l seq back_taken body) (λ seq body. rw taken (rw server refl)) (sent_with (length old.made) old.acked) (take (sent_with (length new.made) new.acked - sent_with (length old.made) old.acked) (drop (sent_with (length old.made) old.acked) new.made))) e)))))))

pub no-more : (w : Setting) (l : Lane) (s : Noted) (t : List Noted) (old : Count) → Counts w l t old → repeated old (sent_on l s) ≡ [] → again w l s t ≡ []
unfolding sent_in
no-more w l s t old o e = rw o.made (rw o.acked e)

-- a lane that is the same as one is that one
pub of-lane : (P : Lane → Type 0) (n : ℕ) (way : Way) (l : Lane) → same_lane (lane n way) l ≡ true → P (lane n way) → P l
of-lane P n way l same p = by way l.way l.client l.view same p
  where
    never : false ≡ true → ⊥
    never e = cc

    split : (a b : Bool) → a && b ≡ true → (a ≡ true) × (b ≡ true)
    split true b e = (refl, e)
    split false b e = cc

    at_one : (u : Way) (c v : ℕ) → nat_eq n c && nat_eq 1 v ≡ true → P (record { client = n; view = 1; way = u }) → P (record { client = c; view = v; way = u })
    at_one u c v e q = let f = split (nat_eq n c) (nat_eq 1 v) e in subst (λ d. P (record { client = d; view = v; way = u })) (eqb-true n c f.0) (subst (λ x. P (record { client = n; view = x; way = u })) (eqb-true 1 v f.1) q)

    by : (u x : Way) (c v : ℕ) → nat_eq n c && nat_eq 1 v && same_way u x ≡ true → P (record { client = n; view = 1; way = u }) → P (record { client = c; view = v; way = x })
    by Up Up c v e q = at_one Up c v (split (nat_eq n c && nat_eq 1 v) true e).0 q
    by Up Down c v e q = absurd (never (split (nat_eq n c && nat_eq 1 v) false e).1)
    by Down Up c v e q = absurd (never (split (nat_eq n c && nat_eq 1 v) false e).1)
    by Down Down c v e q = at_one Down c v (split (nat_eq n c && nat_eq 1 v) true e).0 q

pub of-node : (P : ℕ → ℕ → Type 0) (view : ℕ → ℕ) (n c v : ℕ) → nat_eq n c && nat_eq v (view c) ≡ true → view n ≡ 1 → P n 1 → P c v
of-node P view n c v speaking first p =
    let e = both (nat_eq n c) (nat_eq v (view c)) speaking in
    subst (λ d. nat_eq v (view d) ≡ true → P d v) (eqb-true n c e.0) (λ same. subst (λ u. P n u) (sym (eqb-true v (view n) same ∙ first)) p) e.1
  where
    both : (a b : Bool) → a && b ≡ true → (a ≡ true) × (b ≡ true)
    both true b e = (refl, e)
    both false b e = cc

pub of-both : (P : ℕ → Type 0) (c : ℕ) → P 0 → P 1 → (nat_eq 0 c ≡ false → nat_eq 1 c ≡ false → P c) → P c
of-both P c first second others = by (nat_eq 0 c) (nat_eq 1 c) refl refl
  where
    by : (a b : Bool) → nat_eq 0 c ≡ a → nat_eq 1 c ≡ b → P c
    by true b e f = subst P (eqb-true 0 c e) first
    by false true e f = subst P (eqb-true 1 c f) second
    by false false e f = others e f

-- the folds of a lane after one step more
pub counts-next : (w : Setting) (l : Lane) (s : Noted) (t : List Noted) (old : Count) (p : Option Packet) → Counts w l t old → heard w t s ≡ p → Counts w l (s ∷ t) (record { made = old.made ++ made_now l s; taken = counted old.taken (only_if (goes_on l) p); acked = acknowledged old.acked (sent_with (length old.made) old.acked) (only_if (goes_on (back l)) p) })
unfolding made_in taken_in acked_in heard_in
counts-next w l s t old p o e = record { made = rw o.made refl; taken = rw e (rw o.taken refl); acked = rw e (rw o.made (rw o.acked refl)) }

-- a file named `a` is the one thing in the root
abbrev names : Names
names = map.insert map.empty a made

abbrev pub tree_with : FileState → List (List (Option Descriptor)) → Tree
tree_with file tables = record { nodes = Some (Directory names) ∷ Some (Regular file) ∷ replicate 510 None; tables = tables; purged = replicate 16 false }

pub get-a : map.get names a ≡ Some made
get-a = map.get-insert nat_list_cmp_total map.empty a made a ∙ refl

pub entries-a : map.entries names ≡ (a, made) ∷ []
entries-a = map.entries-insert nat_list_cmp_total map.empty a made ∙ rw (no-entries map.empty refl) refl

none-at : (n k : ℕ) → slice_index_or (replicate {A = Option Node} n None) k None ≡ None
none-at zero k = refl
none-at (suc n) zero = refl
none-at (suc n) (suc k) = none-at n k

busy : (file : FileState) (tables : List (List (Option Descriptor))) (k : ℕ) → is_idle (tree_with file tables) k ≡ false
busy file tables zero = refl
busy file tables (suc zero) = by (is_none file.writer) (is_open (tree_with file tables) 1) (is_named (tree_with file tables) 1) (rw entries-a refl)
  where
    by : (x y z : Bool) → z ≡ true → x && not y && not z ≡ false
    by true true z e = refl
    by true false z e = rw e refl
    by false y z e = refl
busy file tables (suc (suc k)) = ap (λ node. is_flushed_file node && not (is_open (tree_with file tables) (suc (suc k))) && not (is_named (tree_with file tables) (suc (suc k)))) (none-at 510 k)

swept-same : (tree : Tree) → ((k : ℕ) → is_idle tree k ≡ false) → (n : ℕ) → swept_below tree n ≡ tree
unfolding swept_below
swept-same tree none zero = refl
swept-same tree none (suc n) = rw (swept-same tree none n) (rw (none n) refl)

pub sweeps : (file : FileState) (tables : List (List (Option Descriptor))) → swept (tree_with file tables) ≡ tree_with file tables
sweeps file tables = swept-same (tree_with file tables) (busy file tables) 512

-- nothing goes on a lane for which nothing was ever made, and of whose session nothing is heard
min-zero : (n : ℕ) → min 0 n ≡ 0
min-zero n = omega arith

pub silent : (w : Setting) (l : Lane) (s : Noted) (t : List Noted) (p : Option Packet) → made_in l t ≡ [] → made_in l (s ∷ t) ≡ [] → heard w t s ≡ p → only_if (goes_on (back l)) p ≡ None → sent_on l s ≡ [] → sent_on l s ≡ again w l s t ++ fresh w l s t ++ bare w l s t
unfolding sent_in heard_in
silent w l s t p none still hears nobody unsent = rw none (rw still (rw hears (rw nobody (rw unsent (rw (min-zero (acked_in w l t + 8)) (rw (min-zero (acked_in w l (s ∷ t) + 8)) refl))))))

-- a client's step by the values of the folds
pub client-next : (w : Setting) (c : ℕ) (s : Noted) (t : List Noted) (tree : Tree) (old : ClientState) (took : Option Taken) → is_client s.step.node c ≡ true → tree_of (history t) ≡ tree → client_at w c t ≡ old → taken w t s ≡ took → client_at w c (s ∷ t) ≡ client_after (seen tree (record { 0 = c })) (seen tree (record { 0 = c })) old (turn_by s.step.event took)
unfolding client_at
client-next w c s t tree old took own e o k = rw own (rw e (rw o (rw k refl)))

pub answers-by : (w : Setting) (c : ℕ) (s : Noted) (t : List Noted) (tree : Tree) (old : ClientState) (took : Option Taken) → tree_of (history t) ≡ tree → client_at w c t ≡ old → taken w t s ≡ took → Answers (seen tree (record { 0 = c })) (seen tree (record { 0 = c })) c old (turn_by s.step.event took) s.step.answer s.step.entries → Answers (sight_at c t) (sight_at c t) c (client_at w c t) (turn w s t) s.step.answer s.step.entries
answers-by w c s t tree old took e o k p = rw e (rw o (rw k p))

pub owes-by : (w : Setting) (c : ℕ) (s : Noted) (t : List Noted) (tree : Tree) (old : ClientState) (took : Option Taken) → tree_of (history t) ≡ tree → client_at w c t ≡ old → taken w t s ≡ took → map_list tale_of (messages_of s.acts) ≡ owed (seen tree (record { 0 = c })) (seen tree (record { 0 = c })) old (turn_by s.step.event took) → map_list tale_of (messages_of s.acts) ≡ owed (sight_at c t) (sight_at c t) (client_at w c t) (turn w s t)
owes-by w c s t tree old took e o k p = rw e (rw o (rw k p))

-- how many blocks are free with the file, and with its bytes
all-free : (n k : ℕ) → fold (λ a x. a + (if x then 1 else 0)) k (replicate n true) ≡ k + n
all-free zero k = omega arith
all-free (suc n) k = all-free n (k + 1) ∙ omega arith

pub free-created : free_count with_file ≡ 2047
unfolding marked_all
free-created = all-free 2047 0

pub free-flushed : free_count (edited with_file flushing) ≡ 2046
unfolding marked_all free_from
free-flushed = all-free 2046 0

pub room : 16 ≤ free_count with_file
room = rw free-created (omega arith)

true-only : (n : ℕ) → length (filter (λ free. free) (replicate n true)) ≡ n
true-only zero = refl
true-only (suc n) = ap suc (true-only n)

pub free-blocks : length (filter (λ free. free) with_file.free) ≡ 2047
unfolding marked_all
free-blocks = true-only 2047
