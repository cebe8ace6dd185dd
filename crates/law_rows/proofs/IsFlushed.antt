-- The writer hears that its flush is on the disk: the rules of this step, and the folds after it.
use Rattle.std.proofs.Common.{◌≡◌, ◌++◌, inr, refl, rules, [], ◌∷◌, true, false, List, Some, IsTrue, ℕ, Bool, sym, ◌∙◌}
use Rattle.cal_fields.specs.Padded.{padded}
use Rattle.directory.specs.Directory.{first_empty}
use Rattle.message.specs.declared.message.Message.TheVariants.{Flushed}
use Rattle.token_table.specs.Blockers.{clients_below}
use Rattle.tree_law.specs.Tree.{empty_tree, first_nodes}
use Rattle.volume_plan.specs.Shown.{names_of, shown_nodes}
use Rattle.cluster_law.specs.Blocking.{blocks}
use Rattle.cluster_law.specs.Book.{revoked_all, with_holds, with_items}
use Rattle.cluster_law.specs.ClientRules.{KeepsAnswer, KeepsRelease, messages_of, uses_items}
use Rattle.cluster_law.specs.ClientState.{client_after, hears, reply_in}
use Rattle.cluster_law.specs.Coverage.{is_covered, next_of}
use Rattle.cluster_law.specs.Delivery.{KeepsDelivery, KeepsResend, again, bare, fresh, sent_on, speaks_way}
use Rattle.cluster_law.specs.DiskRules.{KeepsDisk, KeepsHeld}
use Rattle.cluster_law.specs.History.{client_at, final_acts, history, server_at, writes_of_acts}
use Rattle.cluster_law.specs.Lanes.{Down, Lane, Up, Way, same_lane}
use Rattle.cluster_law.specs.Law.{KeepsMechanism}
use Rattle.cluster_law.specs.Noted.{Noted}
use Rattle.cluster_law.specs.Owed.{owed, revoking_all}
use Rattle.cluster_law.specs.Rules.{KeepsEntries, KeepsEvent, KeepsPurge, KeepsService, KeepsUse}
use Rattle.cluster_law.specs.ServerRules.{entries_of}
use Rattle.cluster_law.specs.ServerState.{after_act, after_acts, answered_all, asked_with, hearing, listing_all}
use Rattle.cluster_law.specs.Sessions.{client_view, heard, made_in, taken, told_in}
use Rattle.cluster_law.specs.Trace.{has_crashed, own_sectors, packets, seat, sectors_at, server_of}
use Rattle.law_rows.proofs.Knowing.{At, answers-by, client-next, counts-next, no-more, of-lane, of-node, owes-by, sends}
use Rattle.law_rows.proofs.Lanes.{not-so}
use Rattle.law_rows.specs.ForeignRead.{Homes, lane, hears_flushed}
use Rattle.law_rows.specs.Formatted.{Sectors, setting}
use Rattle.law_rows.specs.Packets.{carrying}
use Rattle.law_rows.proofs.KnownValues.{known21, known22}

pub heard21 : (s : Sectors) (h : Homes) (t : List Noted) → At (setting 2 s) t (known21 s h) → heard (setting 2 s) t (hears_flushed s h) ≡ Some (carrying (lane 0 Down) 5 4 (Flushed 1))
unfolding heard
heard21 s h t a = rw a.packets (rw (a.server_of 1) (rw a.view0 refl))

pub taken21 : (s : Sectors) (h : Homes) (t : List Noted) → At (setting 2 s) t (known21 s h) → taken (setting 2 s) t (hears_flushed s h) ≡ Some (record { lane = lane 0 Down; message = Flushed 1 })
unfolding taken
taken21 s h t a = rw (heard21 s h t a) (rw a.down0.taken (rw a.down0.made refl))

pub client21 : (s : Sectors) (h : Homes) (t : List Noted) → At (setting 2 s) t (known21 s h) → client_at (setting 2 s) 0 ((hears_flushed s h) ∷ t) ≡ (known22 s h).client0
unfolding client_at client_after reply_in hears next_of is_covered owed messages_of with_items uses_items with_holds revoked_all revoking_all empty_tree first_nodes
client21 s h t a = client-next (setting 2 s) 0 (hears_flushed s h) t (known21 s h).tree (known21 s h).client0 (Some (record { lane = lane 0 Down; message = Flushed 1 })) refl a.tree a.client0 (taken21 s h t a) ∙ refl

pub next21 : (s : Sectors) (h : Homes) (t : List Noted) → At (setting 2 s) t (known21 s h) → At (setting 2 s) ((hears_flushed s h) ∷ t) (known22 s h)
unfolding padded packets seat server_of client_view has_crashed own_sectors sectors_at made_in told_in client_at server_at history after_acts after_act asked_with answered_all clients_below
next21 s h t a = record {
  packets = rw a.packets refl;
  seat = a.seat;
  server_of = λ v. a.server_of v;
  view0 = rw a.packets (rw (a.server_of 1) (rw a.view0 refl));
  view1 = rw a.packets (rw (a.server_of 1) a.view1);
  crashed0 = a.crashed0;
  crashed1 = a.crashed1;
  present0 = refl;
  present1 = refl;
  up0 = counts-next (setting 2 s) (lane 0 Up) (hears_flushed s h) t (known21 s h).up0 (Some (carrying (lane 0 Down) 5 4 (Flushed 1))) a.up0 (heard21 s h t a);
  down0 = counts-next (setting 2 s) (lane 0 Down) (hears_flushed s h) t (known21 s h).down0 (Some (carrying (lane 0 Down) 5 4 (Flushed 1))) a.down0 (heard21 s h t a);
  up1 = counts-next (setting 2 s) (lane 1 Up) (hears_flushed s h) t (known21 s h).up1 (Some (carrying (lane 0 Down) 5 4 (Flushed 1))) a.up1 (heard21 s h t a);
  down1 = counts-next (setting 2 s) (lane 1 Down) (hears_flushed s h) t (known21 s h).down1 (Some (carrying (lane 0 Down) 5 4 (Flushed 1))) a.down1 (heard21 s h t a);
  others = λ c e f. rw (a.others c e f) refl;
  client0 = client21 s h t a;
  client1 = a.client1;
  tree = a.tree;
  disk = refl;
  held = refl;
  collecting = a.collecting;
  requests = a.requests;
  asked = a.asked;
  volume = a.volume;
}

by21 : (s : Sectors) (h : Homes) (t : List Noted) → At (setting 2 s) t (known21 s h) → At (setting 2 s) ((hears_flushed s h) ∷ t) (known22 s h) → (c v : ℕ) (way : Way) → IsTrue (speaks_way way t (hears_flushed s h) (record { client = c; view = v; way = way })) → sent_on (record { client = c; view = v; way = way }) (hears_flushed s h) ≡ again (setting 2 s) (record { client = c; view = v; way = way }) (hears_flushed s h) t ++ fresh (setting 2 s) (record { client = c; view = v; way = way }) (hears_flushed s h) t ++ bare (setting 2 s) (record { client = c; view = v; way = way }) (hears_flushed s h) t
by21 s h t a b c v Up speaking = of-node (λ c v. sent_on (record { client = c; view = v; way = Up }) (hears_flushed s h) ≡ again (setting 2 s) (record { client = c; view = v; way = Up }) (hears_flushed s h) t ++ fresh (setting 2 s) (record { client = c; view = v; way = Up }) (hears_flushed s h) t ++ bare (setting 2 s) (record { client = c; view = v; way = Up }) (hears_flushed s h) t) (λ c. client_view c ((hears_flushed s h) ∷ t)) 0 c v speaking b.view0 (sends (setting 2 s) (lane 0 Up) (hears_flushed s h) t (known21 s h).up0 (known22 s h).up0 5 (Some (carrying (lane 0 Down) 5 4 (Flushed 1))) a.up0 b.up0 b.down0.taken (b.server_of 1) (heard21 s h t a) refl)
by21 s h t a b c v Down speaking = absurd (not-so speaking)

none21 : (s : Sectors) (h : Homes) (t : List Noted) → At (setting 2 s) t (known21 s h) → (l : Lane) → again (setting 2 s) l (hears_flushed s h) t ≡ []
none21 s h t a l = by (same_lane (lane 0 Up) l) refl
  where
    by : (x : Bool) → same_lane (lane 0 Up) l ≡ x → again (setting 2 s) l (hears_flushed s h) t ≡ []
    by true e = of-lane (λ l. again (setting 2 s) l (hears_flushed s h) t ≡ []) 0 Up l e (no-more (setting 2 s) (lane 0 Up) (hears_flushed s h) t (known21 s h).up0 a.up0 refl)
    by false e = rw e refl

pub delivery21 : (s : Sectors) (h : Homes) (t : List Noted) → At (setting 2 s) t (known21 s h) → At (setting 2 s) ((hears_flushed s h) ∷ t) (known22 s h) → KeepsDelivery (setting 2 s) (hears_flushed s h) t
delivery21 s h t a b = record {
  delivered = rw a.packets refl;
  told = inr (record {});
  sent = λ l speaking runs. by21 s h t a b l.client l.view l.way speaking;
  no_other = (record { lane = lane 0 Up; goes = search rules; speaks_there = rw b.view0 refl }, record {});
  halted = λ e. absurd (not-so e);
  no_repeat = λ l e. none21 s h t a l;
}

pub event21 : (s : Sectors) (h : Homes) (t : List Noted) → At (setting 2 s) t (known21 s h) → KeepsEvent (setting 2 s) (hears_flushed s h) t
event21 s h t a = record { may = (search rules, a.crashed0) }

pub resend21 : (s : Sectors) (h : Homes) (t : List Noted) → At (setting 2 s) t (known21 s h) → KeepsResend (setting 2 s) (hears_flushed s h) t
resend21 s h t a = record { resent = λ l tick speaking runs. absurd (not-so tick); quiet = λ tick clients. absurd (not-so tick) }

pub used21 : (s : Sectors) (h : Homes) (t : List Noted) → At (setting 2 s) t (known21 s h) → KeepsUse (setting 2 s) (hears_flushed s h) t
unfolding client_after reply_in hears next_of is_covered owed messages_of with_items uses_items with_holds revoked_all revoking_all empty_tree first_nodes shown_nodes names_of
used21 s h t a = record { client = rw a.client0 (rw (taken21 s h t a) refl); server = record {} }

pub answer21 : (s : Sectors) (h : Homes) (t : List Noted) → At (setting 2 s) t (known21 s h) → KeepsAnswer (setting 2 s) (hears_flushed s h) t
unfolding client_after reply_in hears next_of is_covered owed messages_of with_items uses_items with_holds revoked_all revoking_all empty_tree first_nodes shown_nodes names_of
answer21 s h t a = record { client = answers-by (setting 2 s) 0 (hears_flushed s h) t (known21 s h).tree (known21 s h).client0 (Some (record { lane = lane 0 Down; message = Flushed 1 })) a.tree a.client0 (taken21 s h t a) (record { answer_is = refl; entry_is = refl }); others = record {} }

pub release21 : (s : Sectors) (h : Homes) (t : List Noted) → At (setting 2 s) t (known21 s h) → KeepsRelease (setting 2 s) (hears_flushed s h) t
unfolding client_after reply_in hears next_of is_covered owed messages_of with_items uses_items with_holds revoked_all revoking_all empty_tree first_nodes shown_nodes names_of
release21 s h t a = record { client = owes-by (setting 2 s) 0 (hears_flushed s h) t (known21 s h).tree (known21 s h).client0 (Some (record { lane = lane 0 Down; message = Flushed 1 })) a.tree a.client0 (taken21 s h t a) refl }

pub service21 : (s : Sectors) (h : Homes) (t : List Noted) → At (setting 2 s) t (known21 s h) → KeepsService (setting 2 s) (hears_flushed s h) t
unfolding client_after after_acts after_act hearing listing_all blocks shown_nodes names_of clients_below asked_with answered_all entries_of final_acts writes_of_acts first_empty has_crashed
service21 s h t a = record { server = record {} }

pub entries21 : (s : Sectors) (h : Homes) (t : List Noted) → At (setting 2 s) t (known21 s h) → KeepsEntries (setting 2 s) (hears_flushed s h) t
unfolding client_after after_acts after_act hearing listing_all blocks shown_nodes names_of clients_below asked_with answered_all entries_of final_acts writes_of_acts first_empty has_crashed
entries21 s h t a = record { server = record {}; none = record {}; done = record {}; head = refl; halted = λ e. refl }

pub purge21 : (s : Sectors) (h : Homes) (t : List Noted) → At (setting 2 s) t (known21 s h) → KeepsPurge (setting 2 s) (hears_flushed s h) t
purge21 s h t a = record { after_gone = record {} }

pub disk21 : (s : Sectors) (h : Homes) (t : List Noted) → At (setting 2 s) t (known21 s h) → KeepsDisk (setting 2 s) (hears_flushed s h) t
unfolding client_after after_acts after_act hearing listing_all blocks shown_nodes names_of clients_below asked_with answered_all entries_of final_acts writes_of_acts first_empty has_crashed
disk21 s h t a = record { disk = record { writes = refl; halt = refl; disk = sym a.disk }; meets = record {} }

pub held21 : (s : Sectors) (h : Homes) (t : List Noted) → At (setting 2 s) t (known21 s h) → KeepsHeld (setting 2 s) (hears_flushed s h) t
held21 s h t a = record { held = sym a.held }

pub keeps21 : (s : Sectors) (h : Homes) (t : List Noted) → At (setting 2 s) t (known21 s h) → KeepsMechanism (setting 2 s) (hears_flushed s h) t
keeps21 s h t a = record { event = event21 s h t a; delivery = delivery21 s h t a (next21 s h t a); resend = resend21 s h t a; used = used21 s h t a; answer = answer21 s h t a; release = release21 s h t a; service = service21 s h t a; entries = entries21 s h t a; purge = purge21 s h t a; disk = disk21 s h t a; held = held21 s h t a }
