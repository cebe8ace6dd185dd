-- The writer asks for the bytes, to write: the rules of this step, and the folds after it.
use Rattle.std.proofs.Common.{◌≡◌, ◌++◌, inr, refl, rules, [], ◌∷◌, true, false, List, None, IsTrue, ℕ, Bool, arith, sym, ◌∙◌}
use Rattle.cal_fields.specs.Padded.{padded}
use Rattle.directory.specs.Directory.{first_empty}
use Rattle.token_table.specs.Blockers.{clients_below}
use Rattle.tree_law.specs.Tree.{empty_tree, first_nodes}
use Rattle.volume_plan.specs.Shown.{names_of, shown_nodes}
use Rattle.cluster_law.specs.Blocking.{blocks}
use Rattle.cluster_law.specs.Book.{revoked_all, with_holds, with_items}
use Rattle.cluster_law.specs.ClientRules.{KeepsAnswer, KeepsRelease, messages_of, uses_items}
use Rattle.cluster_law.specs.ClientState.{client_after, hears, reply_in}
use Rattle.cluster_law.specs.Coverage.{is_covered, next_of}
use Rattle.cluster_law.specs.Delivery.{KeepsDelivery, KeepsResend, again, bare, fresh, sent_on, speaks_way}
use Rattle.cluster_law.specs.DiskRules.{KeepsDisk, KeepsHeld}
use Rattle.cluster_law.specs.History.{client_at, final_acts, history, server_at, writes_of_acts}
use Rattle.cluster_law.specs.Lanes.{Down, Lane, Up, Way, same_lane}
use Rattle.cluster_law.specs.Law.{KeepsMechanism}
use Rattle.cluster_law.specs.Noted.{Noted}
use Rattle.cluster_law.specs.Owed.{owed, revoking_all}
use Rattle.cluster_law.specs.Rules.{KeepsEntries, KeepsEvent, KeepsPurge, KeepsService, KeepsUse}
use Rattle.cluster_law.specs.ServerRules.{entries_of}
use Rattle.cluster_law.specs.ServerState.{after_act, after_acts, answered_all, asked_with, hearing, listing_all}
use Rattle.cluster_law.specs.Sessions.{client_view, heard, made_in, taken, told_in}
use Rattle.cluster_law.specs.Trace.{has_crashed, own_sectors, packets, seat, sectors_at, server_of}
use Rattle.law_rows.proofs.Knowing.{At, answers-by, client-next, counts-next, no-more, of-lane, of-node, owes-by, sends}
use Rattle.law_rows.proofs.Lanes.{not-so}
use Rattle.law_rows.specs.ForeignRead.{Homes, lane, starts_write}
use Rattle.law_rows.specs.Formatted.{Sectors, setting}
use Rattle.law_rows.proofs.KnownValues.{known8, known9}

pub heard8 : (s : Sectors) (h : Homes) (t : List Noted) → At (setting 2 s) t (known8 s h) → heard (setting 2 s) t (starts_write s h) ≡ None
unfolding heard
heard8 s h t a = refl

pub taken8 : (s : Sectors) (h : Homes) (t : List Noted) → At (setting 2 s) t (known8 s h) → taken (setting 2 s) t (starts_write s h) ≡ None
unfolding taken
taken8 s h t a = rw (heard8 s h t a) refl

pub client8 : (s : Sectors) (h : Homes) (t : List Noted) → At (setting 2 s) t (known8 s h) → client_at (setting 2 s) 0 ((starts_write s h) ∷ t) ≡ (known9 s h).client0
unfolding client_at client_after reply_in hears next_of is_covered owed messages_of with_items uses_items with_holds revoked_all revoking_all empty_tree first_nodes
client8 s h t a = client-next (setting 2 s) 0 (starts_write s h) t (known8 s h).tree (known8 s h).client0 (None) refl a.tree a.client0 (taken8 s h t a) ∙ refl

pub next8 : (s : Sectors) (h : Homes) (t : List Noted) → At (setting 2 s) t (known8 s h) → At (setting 2 s) ((starts_write s h) ∷ t) (known9 s h)
unfolding padded packets seat server_of client_view has_crashed own_sectors sectors_at made_in told_in client_at server_at history after_acts after_act asked_with answered_all clients_below
next8 s h t a = record {
  packets = rw a.packets refl;
  seat = a.seat;
  server_of = λ v. a.server_of v;
  view0 = a.view0;
  view1 = a.view1;
  crashed0 = a.crashed0;
  crashed1 = a.crashed1;
  present0 = refl;
  present1 = refl;
  up0 = counts-next (setting 2 s) (lane 0 Up) (starts_write s h) t (known8 s h).up0 (None) a.up0 (heard8 s h t a);
  down0 = counts-next (setting 2 s) (lane 0 Down) (starts_write s h) t (known8 s h).down0 (None) a.down0 (heard8 s h t a);
  up1 = counts-next (setting 2 s) (lane 1 Up) (starts_write s h) t (known8 s h).up1 (None) a.up1 (heard8 s h t a);
  down1 = counts-next (setting 2 s) (lane 1 Down) (starts_write s h) t (known8 s h).down1 (None) a.down1 (heard8 s h t a);
  others = λ c e f. rw (a.others c e f) (rw e refl);
  client0 = client8 s h t a;
  client1 = a.client1;
  tree = a.tree;
  disk = refl;
  held = refl;
  collecting = a.collecting;
  requests = a.requests;
  asked = a.asked;
  volume = a.volume;
}

by8 : (s : Sectors) (h : Homes) (t : List Noted) → At (setting 2 s) t (known8 s h) → At (setting 2 s) ((starts_write s h) ∷ t) (known9 s h) → (c v : ℕ) (way : Way) → IsTrue (speaks_way way t (starts_write s h) (record { client = c; view = v; way = way })) → sent_on (record { client = c; view = v; way = way }) (starts_write s h) ≡ again (setting 2 s) (record { client = c; view = v; way = way }) (starts_write s h) t ++ fresh (setting 2 s) (record { client = c; view = v; way = way }) (starts_write s h) t ++ bare (setting 2 s) (record { client = c; view = v; way = way }) (starts_write s h) t
by8 s h t a b c v Up speaking = of-node (λ c v. sent_on (record { client = c; view = v; way = Up }) (starts_write s h) ≡ again (setting 2 s) (record { client = c; view = v; way = Up }) (starts_write s h) t ++ fresh (setting 2 s) (record { client = c; view = v; way = Up }) (starts_write s h) t ++ bare (setting 2 s) (record { client = c; view = v; way = Up }) (starts_write s h) t) (λ c. client_view c ((starts_write s h) ∷ t)) 0 c v speaking b.view0 (sends (setting 2 s) (lane 0 Up) (starts_write s h) t (known8 s h).up0 (known9 s h).up0 2 (None) a.up0 b.up0 b.down0.taken (b.server_of 1) (heard8 s h t a) refl)
by8 s h t a b c v Down speaking = absurd (not-so speaking)

none8 : (s : Sectors) (h : Homes) (t : List Noted) → At (setting 2 s) t (known8 s h) → (l : Lane) → again (setting 2 s) l (starts_write s h) t ≡ []
none8 s h t a l = by (same_lane (lane 0 Up) l) refl
  where
    by : (x : Bool) → same_lane (lane 0 Up) l ≡ x → again (setting 2 s) l (starts_write s h) t ≡ []
    by true e = of-lane (λ l. again (setting 2 s) l (starts_write s h) t ≡ []) 0 Up l e (no-more (setting 2 s) (lane 0 Up) (starts_write s h) t (known8 s h).up0 a.up0 refl)
    by false e = rw e refl

pub delivery8 : (s : Sectors) (h : Homes) (t : List Noted) → At (setting 2 s) t (known8 s h) → At (setting 2 s) ((starts_write s h) ∷ t) (known9 s h) → KeepsDelivery (setting 2 s) (starts_write s h) t
delivery8 s h t a b = record {
  delivered = record {};
  told = inr (((rw b.view0 refl, search rules, ((omega arith, omega arith), omega arith)), record {}));
  sent = λ l speaking runs. by8 s h t a b l.client l.view l.way speaking;
  no_other = (record { lane = lane 0 Up; goes = search rules; speaks_there = rw b.view0 refl }, record {});
  halted = λ e. absurd (not-so e);
  no_repeat = λ l e. none8 s h t a l;
}

pub event8 : (s : Sectors) (h : Homes) (t : List Noted) → At (setting 2 s) t (known8 s h) → KeepsEvent (setting 2 s) (starts_write s h) t
event8 s h t a = record { may = (refl, (search rules, a.crashed0), rw a.client0 refl) }

pub resend8 : (s : Sectors) (h : Homes) (t : List Noted) → At (setting 2 s) t (known8 s h) → KeepsResend (setting 2 s) (starts_write s h) t
resend8 s h t a = record { resent = λ l tick speaking runs. absurd (not-so tick); quiet = λ tick clients. absurd (not-so tick) }

pub used8 : (s : Sectors) (h : Homes) (t : List Noted) → At (setting 2 s) t (known8 s h) → KeepsUse (setting 2 s) (starts_write s h) t
unfolding client_after reply_in hears next_of is_covered owed messages_of with_items uses_items with_holds revoked_all revoking_all empty_tree first_nodes shown_nodes names_of
used8 s h t a = record { client = refl; server = record {} }

pub answer8 : (s : Sectors) (h : Homes) (t : List Noted) → At (setting 2 s) t (known8 s h) → KeepsAnswer (setting 2 s) (starts_write s h) t
unfolding client_after reply_in hears next_of is_covered owed messages_of with_items uses_items with_holds revoked_all revoking_all empty_tree first_nodes shown_nodes names_of
answer8 s h t a = record { client = answers-by (setting 2 s) 0 (starts_write s h) t (known8 s h).tree (known8 s h).client0 (None) a.tree a.client0 (taken8 s h t a) (record { answer_is = refl; entry_is = refl }); others = record {} }

pub release8 : (s : Sectors) (h : Homes) (t : List Noted) → At (setting 2 s) t (known8 s h) → KeepsRelease (setting 2 s) (starts_write s h) t
unfolding client_after reply_in hears next_of is_covered owed messages_of with_items uses_items with_holds revoked_all revoking_all empty_tree first_nodes shown_nodes names_of
release8 s h t a = record { client = owes-by (setting 2 s) 0 (starts_write s h) t (known8 s h).tree (known8 s h).client0 (None) a.tree a.client0 (taken8 s h t a) refl }

pub service8 : (s : Sectors) (h : Homes) (t : List Noted) → At (setting 2 s) t (known8 s h) → KeepsService (setting 2 s) (starts_write s h) t
unfolding client_after after_acts after_act hearing listing_all blocks shown_nodes names_of clients_below asked_with answered_all entries_of final_acts writes_of_acts first_empty has_crashed
service8 s h t a = record { server = record {} }

pub entries8 : (s : Sectors) (h : Homes) (t : List Noted) → At (setting 2 s) t (known8 s h) → KeepsEntries (setting 2 s) (starts_write s h) t
unfolding client_after after_acts after_act hearing listing_all blocks shown_nodes names_of clients_below asked_with answered_all entries_of final_acts writes_of_acts first_empty has_crashed
entries8 s h t a = record { server = record {}; none = record {}; done = (record {}, record {}); head = refl; halted = λ e. refl }

pub purge8 : (s : Sectors) (h : Homes) (t : List Noted) → At (setting 2 s) t (known8 s h) → KeepsPurge (setting 2 s) (starts_write s h) t
purge8 s h t a = record { after_gone = record {} }

pub disk8 : (s : Sectors) (h : Homes) (t : List Noted) → At (setting 2 s) t (known8 s h) → KeepsDisk (setting 2 s) (starts_write s h) t
unfolding client_after after_acts after_act hearing listing_all blocks shown_nodes names_of clients_below asked_with answered_all entries_of final_acts writes_of_acts first_empty has_crashed
disk8 s h t a = record { disk = record { writes = refl; halt = refl; disk = sym a.disk }; meets = record {} }

pub held8 : (s : Sectors) (h : Homes) (t : List Noted) → At (setting 2 s) t (known8 s h) → KeepsHeld (setting 2 s) (starts_write s h) t
held8 s h t a = record { held = sym a.held }

pub keeps8 : (s : Sectors) (h : Homes) (t : List Noted) → At (setting 2 s) t (known8 s h) → KeepsMechanism (setting 2 s) (starts_write s h) t
keeps8 s h t a = record { event = event8 s h t a; delivery = delivery8 s h t a (next8 s h t a); resend = resend8 s h t a; used = used8 s h t a; answer = answer8 s h t a; release = release8 s h t a; service = service8 s h t a; entries = entries8 s h t a; purge = purge8 s h t a; disk = disk8 s h t a; held = held8 s h t a }
