-- The reader asks to open the file: the rules of this step, and the folds after it.
use Rattle.std.proofs.Common.{◌≡◌, ◌++◌, inr, refl, rules, [], ◌∷◌, true, false, List, None, IsTrue, ℕ, Bool, arith, sym, ◌∙◌}
use Rattle.cal_fields.specs.Padded.{padded}
use Rattle.directory.specs.Directory.{first_empty}
use Rattle.token_table.specs.Blockers.{clients_below}
use Rattle.tree_law.specs.Tree.{empty_tree, first_nodes}
use Rattle.volume_plan.specs.Shown.{names_of, shown_nodes}
use Rattle.cluster_law.specs.Blocking.{blocks}
use Rattle.cluster_law.specs.Book.{revoked_all, with_holds, with_items}
use Rattle.cluster_law.specs.ClientRules.{KeepsAnswer, KeepsRelease, messages_of, uses_items}
use Rattle.cluster_law.specs.ClientState.{client_after, hears, reply_in}
use Rattle.cluster_law.specs.Coverage.{is_covered, next_of}
use Rattle.cluster_law.specs.Delivery.{KeepsDelivery, KeepsResend, again, bare, fresh, sent_on, speaks_way}
use Rattle.cluster_law.specs.DiskRules.{KeepsDisk, KeepsHeld}
use Rattle.cluster_law.specs.History.{client_at, final_acts, history, server_at, writes_of_acts}
use Rattle.cluster_law.specs.Lanes.{Down, Lane, Up, Way, same_lane}
use Rattle.cluster_law.specs.Law.{KeepsMechanism}
use Rattle.cluster_law.specs.Noted.{Noted}
use Rattle.cluster_law.specs.Owed.{owed, revoking_all}
use Rattle.cluster_law.specs.Rules.{KeepsEntries, KeepsEvent, KeepsPurge, KeepsService, KeepsUse}
use Rattle.cluster_law.specs.ServerRules.{entries_of}
use Rattle.cluster_law.specs.ServerState.{after_act, after_acts, answered_all, asked_with, hearing, listing_all}
use Rattle.cluster_law.specs.Sessions.{client_view, heard, made_in, taken, told_in}
use Rattle.cluster_law.specs.Trace.{has_crashed, own_sectors, packets, seat, sectors_at, server_of}
use Rattle.law_rows.proofs.Knowing.{At, answers-by, client-next, counts-next, no-more, of-lane, of-node, owes-by, sends}
use Rattle.law_rows.proofs.Lanes.{not-so}
use Rattle.law_rows.specs.ForeignRead.{Homes, lane, reader_starts_open}
use Rattle.law_rows.specs.Formatted.{Sectors, setting}
use Rattle.law_rows.proofs.KnownValues.{known12, known13}

pub heard12 : (s : Sectors) (h : Homes) (t : List Noted) → At (setting 2 s) t (known12 s h) → heard (setting 2 s) t (reader_starts_open s h) ≡ None
unfolding heard
heard12 s h t a = refl

pub taken12 : (s : Sectors) (h : Homes) (t : List Noted) → At (setting 2 s) t (known12 s h) → taken (setting 2 s) t (reader_starts_open s h) ≡ None
unfolding taken
taken12 s h t a = rw (heard12 s h t a) refl

pub client12 : (s : Sectors) (h : Homes) (t : List Noted) → At (setting 2 s) t (known12 s h) → client_at (setting 2 s) 1 ((reader_starts_open s h) ∷ t) ≡ (known13 s h).client1
unfolding client_at client_after reply_in hears next_of is_covered owed messages_of with_items uses_items with_holds revoked_all revoking_all empty_tree first_nodes
client12 s h t a = client-next (setting 2 s) 1 (reader_starts_open s h) t (known12 s h).tree (known12 s h).client1 (None) refl a.tree a.client1 (taken12 s h t a) ∙ refl

pub next12 : (s : Sectors) (h : Homes) (t : List Noted) → At (setting 2 s) t (known12 s h) → At (setting 2 s) ((reader_starts_open s h) ∷ t) (known13 s h)
unfolding padded packets seat server_of client_view has_crashed own_sectors sectors_at made_in told_in client_at server_at history after_acts after_act asked_with answered_all clients_below
next12 s h t a = record {
  packets = rw a.packets refl;
  seat = a.seat;
  server_of = λ v. a.server_of v;
  view0 = a.view0;
  view1 = a.view1;
  crashed0 = a.crashed0;
  crashed1 = a.crashed1;
  present0 = refl;
  present1 = refl;
  up0 = counts-next (setting 2 s) (lane 0 Up) (reader_starts_open s h) t (known12 s h).up0 (None) a.up0 (heard12 s h t a);
  down0 = counts-next (setting 2 s) (lane 0 Down) (reader_starts_open s h) t (known12 s h).down0 (None) a.down0 (heard12 s h t a);
  up1 = counts-next (setting 2 s) (lane 1 Up) (reader_starts_open s h) t (known12 s h).up1 (None) a.up1 (heard12 s h t a);
  down1 = counts-next (setting 2 s) (lane 1 Down) (reader_starts_open s h) t (known12 s h).down1 (None) a.down1 (heard12 s h t a);
  others = λ c e f. rw (a.others c e f) (rw f refl);
  client0 = a.client0;
  client1 = client12 s h t a;
  tree = a.tree;
  disk = refl;
  held = refl;
  collecting = a.collecting;
  requests = a.requests;
  asked = a.asked;
  volume = a.volume;
}

by12 : (s : Sectors) (h : Homes) (t : List Noted) → At (setting 2 s) t (known12 s h) → At (setting 2 s) ((reader_starts_open s h) ∷ t) (known13 s h) → (c v : ℕ) (way : Way) → IsTrue (speaks_way way t (reader_starts_open s h) (record { client = c; view = v; way = way })) → sent_on (record { client = c; view = v; way = way }) (reader_starts_open s h) ≡ again (setting 2 s) (record { client = c; view = v; way = way }) (reader_starts_open s h) t ++ fresh (setting 2 s) (record { client = c; view = v; way = way }) (reader_starts_open s h) t ++ bare (setting 2 s) (record { client = c; view = v; way = way }) (reader_starts_open s h) t
by12 s h t a b c v Up speaking = of-node (λ c v. sent_on (record { client = c; view = v; way = Up }) (reader_starts_open s h) ≡ again (setting 2 s) (record { client = c; view = v; way = Up }) (reader_starts_open s h) t ++ fresh (setting 2 s) (record { client = c; view = v; way = Up }) (reader_starts_open s h) t ++ bare (setting 2 s) (record { client = c; view = v; way = Up }) (reader_starts_open s h) t) (λ c. client_view c ((reader_starts_open s h) ∷ t)) 1 c v speaking b.view1 (sends (setting 2 s) (lane 1 Up) (reader_starts_open s h) t (known12 s h).up1 (known13 s h).up1 0 (None) a.up1 b.up1 b.down1.taken (b.server_of 1) (heard12 s h t a) refl)
by12 s h t a b c v Down speaking = absurd (not-so speaking)

none12 : (s : Sectors) (h : Homes) (t : List Noted) → At (setting 2 s) t (known12 s h) → (l : Lane) → again (setting 2 s) l (reader_starts_open s h) t ≡ []
none12 s h t a l = by (same_lane (lane 1 Up) l) refl
  where
    by : (x : Bool) → same_lane (lane 1 Up) l ≡ x → again (setting 2 s) l (reader_starts_open s h) t ≡ []
    by true e = of-lane (λ l. again (setting 2 s) l (reader_starts_open s h) t ≡ []) 1 Up l e (no-more (setting 2 s) (lane 1 Up) (reader_starts_open s h) t (known12 s h).up1 a.up1 refl)
    by false e = rw e refl

pub delivery12 : (s : Sectors) (h : Homes) (t : List Noted) → At (setting 2 s) t (known12 s h) → At (setting 2 s) ((reader_starts_open s h) ∷ t) (known13 s h) → KeepsDelivery (setting 2 s) (reader_starts_open s h) t
delivery12 s h t a b = record {
  delivered = record {};
  told = inr (((rw b.view1 refl, search rules, ((omega arith, omega arith), search rules)), record {}));
  sent = λ l speaking runs. by12 s h t a b l.client l.view l.way speaking;
  no_other = (record { lane = lane 1 Up; goes = search rules; speaks_there = rw b.view1 refl }, record {});
  halted = λ e. absurd (not-so e);
  no_repeat = λ l e. none12 s h t a l;
}

pub event12 : (s : Sectors) (h : Homes) (t : List Noted) → At (setting 2 s) t (known12 s h) → KeepsEvent (setting 2 s) (reader_starts_open s h) t
event12 s h t a = record { may = (refl, (search rules, a.crashed1), rw a.client1 refl) }

pub resend12 : (s : Sectors) (h : Homes) (t : List Noted) → At (setting 2 s) t (known12 s h) → KeepsResend (setting 2 s) (reader_starts_open s h) t
resend12 s h t a = record { resent = λ l tick speaking runs. absurd (not-so tick); quiet = λ tick clients. absurd (not-so tick) }

pub used12 : (s : Sectors) (h : Homes) (t : List Noted) → At (setting 2 s) t (known12 s h) → KeepsUse (setting 2 s) (reader_starts_open s h) t
unfolding client_after reply_in hears next_of is_covered owed messages_of with_items uses_items with_holds revoked_all revoking_all empty_tree first_nodes shown_nodes names_of
used12 s h t a = record { client = refl; server = record {} }

pub answer12 : (s : Sectors) (h : Homes) (t : List Noted) → At (setting 2 s) t (known12 s h) → KeepsAnswer (setting 2 s) (reader_starts_open s h) t
unfolding client_after reply_in hears next_of is_covered owed messages_of with_items uses_items with_holds revoked_all revoking_all empty_tree first_nodes shown_nodes names_of
answer12 s h t a = record { client = answers-by (setting 2 s) 1 (reader_starts_open s h) t (known12 s h).tree (known12 s h).client1 (None) a.tree a.client1 (taken12 s h t a) (record { answer_is = refl; entry_is = refl }); others = record {} }

pub release12 : (s : Sectors) (h : Homes) (t : List Noted) → At (setting 2 s) t (known12 s h) → KeepsRelease (setting 2 s) (reader_starts_open s h) t
unfolding client_after reply_in hears next_of is_covered owed messages_of with_items uses_items with_holds revoked_all revoking_all empty_tree first_nodes shown_nodes names_of
release12 s h t a = record { client = owes-by (setting 2 s) 1 (reader_starts_open s h) t (known12 s h).tree (known12 s h).client1 (None) a.tree a.client1 (taken12 s h t a) refl }

pub service12 : (s : Sectors) (h : Homes) (t : List Noted) → At (setting 2 s) t (known12 s h) → KeepsService (setting 2 s) (reader_starts_open s h) t
unfolding client_after after_acts after_act hearing listing_all blocks shown_nodes names_of clients_below asked_with answered_all entries_of final_acts writes_of_acts first_empty has_crashed
service12 s h t a = record { server = record {} }

pub entries12 : (s : Sectors) (h : Homes) (t : List Noted) → At (setting 2 s) t (known12 s h) → KeepsEntries (setting 2 s) (reader_starts_open s h) t
unfolding client_after after_acts after_act hearing listing_all blocks shown_nodes names_of clients_below asked_with answered_all entries_of final_acts writes_of_acts first_empty has_crashed
entries12 s h t a = record { server = record {}; none = record {}; done = (record {}, record {}); head = refl; halted = λ e. refl }

pub purge12 : (s : Sectors) (h : Homes) (t : List Noted) → At (setting 2 s) t (known12 s h) → KeepsPurge (setting 2 s) (reader_starts_open s h) t
purge12 s h t a = record { after_gone = record {} }

pub disk12 : (s : Sectors) (h : Homes) (t : List Noted) → At (setting 2 s) t (known12 s h) → KeepsDisk (setting 2 s) (reader_starts_open s h) t
unfolding client_after after_acts after_act hearing listing_all blocks shown_nodes names_of clients_below asked_with answered_all entries_of final_acts writes_of_acts first_empty has_crashed
disk12 s h t a = record { disk = record { writes = refl; halt = refl; disk = sym a.disk }; meets = record {} }

pub held12 : (s : Sectors) (h : Homes) (t : List Noted) → At (setting 2 s) t (known12 s h) → KeepsHeld (setting 2 s) (reader_starts_open s h) t
held12 s h t a = record { held = sym a.held }

pub keeps12 : (s : Sectors) (h : Homes) (t : List Noted) → At (setting 2 s) t (known12 s h) → KeepsMechanism (setting 2 s) (reader_starts_open s h) t
keeps12 s h t a = record { event = event12 s h t a; delivery = delivery12 s h t a (next12 s h t a); resend = resend12 s h t a; used = used12 s h t a; answer = answer12 s h t a; release = release12 s h t a; service = service12 s h t a; entries = entries12 s h t a; purge = purge12 s h t a; disk = disk12 s h t a; held = held12 s h t a }
