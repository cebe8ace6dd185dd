-- The server hears that the reader was granted the open file: the rules of this step, and the folds after it.
use Rattle.std.proofs.Common.{◌≡◌, ◌++◌, inl, inr, refl, [], ◌∷◌, true, false, List, Some, None, IsTrue, ℕ, arith, sym, ap, ◌∙◌, nat_eq, subst}
use Rattle.cal_fields.specs.Padded.{padded}
use Rattle.directory.specs.Directory.{first_empty}
use Rattle.token_table.specs.Blockers.{clients_below}
use Rattle.tree_law.specs.Tree.{empty_tree, first_nodes}
use Rattle.volume_plan.specs.Shown.{names_of, shown_nodes}
use Rattle.cluster_law.specs.Blocking.{blocks}
use Rattle.cluster_law.specs.Book.{revoked_all, with_holds, with_items}
use Rattle.cluster_law.specs.ClientRules.{KeepsAnswer, KeepsRelease, messages_of, uses_items}
use Rattle.cluster_law.specs.ClientState.{client_after, hears, reply_in}
use Rattle.cluster_law.specs.Coverage.{is_covered, next_of}
use Rattle.cluster_law.specs.Delivery.{KeepsDelivery, KeepsResend, again, bare, fresh, sent_on, speaks_way}
use Rattle.cluster_law.specs.DiskRules.{KeepsDisk, KeepsHeld}
use Rattle.cluster_law.specs.History.{before_acts, client_at, final_acts, history, server_at, writes_of_acts}
use Rattle.cluster_law.specs.Lanes.{Down, Lane, Up, Way}
use Rattle.cluster_law.specs.Law.{KeepsMechanism}
use Rattle.cluster_law.specs.Noted.{Noted}
use Rattle.cluster_law.specs.Owed.{owed, revoking_all}
use Rattle.cluster_law.specs.Rules.{KeepsEntries, KeepsEvent, KeepsPurge, KeepsService, KeepsUse}
use Rattle.cluster_law.specs.ServerRules.{entries_of}
use Rattle.cluster_law.specs.ServerState.{after_act, after_acts, answered_all, asked_with, hearing, listing_all}
use Rattle.cluster_law.specs.Sessions.{client_view, heard, made_in, taken, told_in}
use Rattle.cluster_law.specs.Trace.{has_crashed, own_sectors, packets, seat, sectors_at, server_of}
use Rattle.law_rows.proofs.Knowing.{At, counts-next, room, of-both, sends, silent}
use Rattle.law_rows.proofs.Lanes.{not-so, of-server}
use Rattle.law_rows.specs.ForeignRead.{Homes, lane, hears_reader_open, with_file}
use Rattle.law_rows.specs.Formatted.{Sectors, setting}
use Rattle.law_rows.specs.Packets.{acknowledging}
use Rattle.law_rows.proofs.KnownValues.{table_both, collected, known15, known16}

never : true ≡ false → ⊥
never e = cc

pub heard15 : (s : Sectors) (h : Homes) (t : List Noted) → At (setting 2 s) t (known15 s h) → heard (setting 2 s) t (hears_reader_open s h) ≡ Some (acknowledging (lane 1 Up) 1)
unfolding heard
heard15 s h t a = rw a.packets (rw a.seat (rw a.present1 refl))

pub taken15 : (s : Sectors) (h : Homes) (t : List Noted) → At (setting 2 s) t (known15 s h) → taken (setting 2 s) t (hears_reader_open s h) ≡ None
unfolding taken
taken15 s h t a = rw (heard15 s h t a) (rw a.up1.taken refl)

pub begins15 : (s : Sectors) (h : Homes) (t : List Noted) → At (setting 2 s) t (known15 s h) → before_acts (setting 2 s) 1 (hears_reader_open s h) t ≡ record { collecting = collected table_both; requests = []; asked = []; volume = with_file; sectors = own_sectors (setting 2 s) 1 t }
unfolding client_after after_acts after_act hearing listing_all blocks shown_nodes names_of clients_below asked_with answered_all entries_of final_acts writes_of_acts first_empty has_crashed
begins15 s h t a = rw (taken15 s h t a) (rw a.collecting (rw a.requests (rw a.asked (rw a.volume refl))))

ends15 : (s : Sectors) (h : Homes) (t : List Noted) → At (setting 2 s) t (known15 s h) → server_at (setting 2 s) 1 ((hears_reader_open s h) ∷ t) ≡ after_acts (record { collecting = collected table_both; requests = []; asked = []; volume = with_file; sectors = own_sectors (setting 2 s) 1 t }) (hears_reader_open s h).acts
unfolding server_at
ends15 s h t a = rw a.seat (rw (begins15 s h t a) refl)

pub next15 : (s : Sectors) (h : Homes) (t : List Noted) → At (setting 2 s) t (known15 s h) → At (setting 2 s) ((hears_reader_open s h) ∷ t) (known16 s h)
unfolding padded packets seat server_of client_view has_crashed own_sectors sectors_at made_in told_in client_at server_at history after_acts after_act asked_with answered_all clients_below
next15 s h t a = record {
  packets = rw a.packets refl;
  seat = a.seat;
  server_of = λ v. a.server_of v;
  view0 = rw a.packets a.view0;
  view1 = rw a.packets a.view1;
  crashed0 = a.crashed0;
  crashed1 = a.crashed1;
  present0 = refl;
  present1 = refl;
  up0 = counts-next (setting 2 s) (lane 0 Up) (hears_reader_open s h) t (known15 s h).up0 (Some (acknowledging (lane 1 Up) 1)) a.up0 (heard15 s h t a);
  down0 = counts-next (setting 2 s) (lane 0 Down) (hears_reader_open s h) t (known15 s h).down0 (Some (acknowledging (lane 1 Up) 1)) a.down0 (heard15 s h t a);
  up1 = counts-next (setting 2 s) (lane 1 Up) (hears_reader_open s h) t (known15 s h).up1 (Some (acknowledging (lane 1 Up) 1)) a.up1 (heard15 s h t a);
  down1 = counts-next (setting 2 s) (lane 1 Down) (hears_reader_open s h) t (known15 s h).down1 (Some (acknowledging (lane 1 Up) 1)) a.down1 (heard15 s h t a);
  others = λ c e f. rw (a.others c e f) (refl);
  client0 = a.client0;
  client1 = a.client1;
  tree = a.tree;
  disk = refl;
  held = refl;
  collecting = ap (λ x. x.collecting) (ends15 s h t a) ∙ refl;
  requests = ap (λ x. x.requests) (ends15 s h t a) ∙ refl;
  asked = ap (λ x. x.asked) (ends15 s h t a) ∙ refl;
  volume = ap (λ x. x.volume) (ends15 s h t a) ∙ refl;
}

other15 : (s : Sectors) (h : Homes) (t : List Noted) → At (setting 2 s) t (known15 s h) → At (setting 2 s) ((hears_reader_open s h) ∷ t) (known16 s h) → (c : ℕ) → nat_eq 0 c ≡ false → nat_eq 1 c ≡ false → sent_on (lane c Down) (hears_reader_open s h) ≡ again (setting 2 s) (lane c Down) (hears_reader_open s h) t ++ fresh (setting 2 s) (lane c Down) (hears_reader_open s h) t ++ bare (setting 2 s) (lane c Down) (hears_reader_open s h) t
other15 s h t a b c e f = silent (setting 2 s) (lane c Down) (hears_reader_open s h) t (Some (acknowledging (lane 1 Up) 1)) (a.others c e f) (b.others c e f) (heard15 s h t a) (rw f refl) (refl)

here15 : (s : Sectors) (h : Homes) (t : List Noted) → At (setting 2 s) ((hears_reader_open s h) ∷ t) (known16 s h) → (v : ℕ) → IsTrue (speaks_way Down t (hears_reader_open s h) (record { client = 0; view = v; way = Down })) → nat_eq 1 v ≡ true
here15 s h t b v e = subst (λ x. x) (ap (λ x. IsTrue x) (speaks-is v)) e
  where
    speaks-is : (v : ℕ) → speaks_way Down t (hears_reader_open s h) (record { client = 0; view = v; way = Down }) ≡ nat_eq 1 v
    speaks-is v = rw (b.server_of v) (rw b.seat refl)

by15 : (s : Sectors) (h : Homes) (t : List Noted) → At (setting 2 s) t (known15 s h) → At (setting 2 s) ((hears_reader_open s h) ∷ t) (known16 s h) → (c v : ℕ) (way : Way) → IsTrue (speaks_way way t (hears_reader_open s h) (record { client = c; view = v; way = way })) → sent_on (record { client = c; view = v; way = way }) (hears_reader_open s h) ≡ again (setting 2 s) (record { client = c; view = v; way = way }) (hears_reader_open s h) t ++ fresh (setting 2 s) (record { client = c; view = v; way = way }) (hears_reader_open s h) t ++ bare (setting 2 s) (record { client = c; view = v; way = way }) (hears_reader_open s h) t
by15 s h t a b c v Up speaking = absurd (not-so speaking)
by15 s h t a b c v Down speaking = of-server (λ v. sent_on (record { client = c; view = v; way = Down }) (hears_reader_open s h) ≡ again (setting 2 s) (record { client = c; view = v; way = Down }) (hears_reader_open s h) t ++ fresh (setting 2 s) (record { client = c; view = v; way = Down }) (hears_reader_open s h) t ++ bare (setting 2 s) (record { client = c; view = v; way = Down }) (hears_reader_open s h) t) v (here15 s h t b v speaking) (of-both (λ c. sent_on (lane c Down) (hears_reader_open s h) ≡ again (setting 2 s) (lane c Down) (hears_reader_open s h) t ++ fresh (setting 2 s) (lane c Down) (hears_reader_open s h) t ++ bare (setting 2 s) (lane c Down) (hears_reader_open s h) t) c (sends (setting 2 s) (lane 0 Down) (hears_reader_open s h) t (known15 s h).down0 (known16 s h).down0 3 (Some (acknowledging (lane 1 Up) 1)) a.down0 b.down0 b.up0.taken (b.server_of 1) (heard15 s h t a) refl) (sends (setting 2 s) (lane 1 Down) (hears_reader_open s h) t (known15 s h).down1 (known16 s h).down1 1 (Some (acknowledging (lane 1 Up) 1)) a.down1 b.down1 b.up1.taken (b.server_of 1) (heard15 s h t a) refl) (λ e f. other15 s h t a b c e f))

none15 : (s : Sectors) (h : Homes) (t : List Noted) → At (setting 2 s) t (known15 s h) → (l : Lane) → again (setting 2 s) l (hears_reader_open s h) t ≡ []
none15 s h t a l = refl

pub delivery15 : (s : Sectors) (h : Homes) (t : List Noted) → At (setting 2 s) t (known15 s h) → At (setting 2 s) ((hears_reader_open s h) ∷ t) (known16 s h) → KeepsDelivery (setting 2 s) (hears_reader_open s h) t
delivery15 s h t a b = record {
  delivered = rw a.packets refl;
  told = inr (record {});
  sent = λ l speaking runs. by15 s h t a b l.client l.view l.way speaking;
  no_other = record {};
  halted = λ e. absurd (not-so e);
  no_repeat = λ l e. none15 s h t a l;
}

pub event15 : (s : Sectors) (h : Homes) (t : List Noted) → At (setting 2 s) t (known15 s h) → KeepsEvent (setting 2 s) (hears_reader_open s h) t
event15 s h t a = record { may = rw a.seat refl }

pub resend15 : (s : Sectors) (h : Homes) (t : List Noted) → At (setting 2 s) t (known15 s h) → KeepsResend (setting 2 s) (hears_reader_open s h) t
resend15 s h t a = record { resent = λ l tick speaking runs. absurd (not-so tick); quiet = λ tick clients. absurd (not-so tick) }

pub used15 : (s : Sectors) (h : Homes) (t : List Noted) → At (setting 2 s) t (known15 s h) → KeepsUse (setting 2 s) (hears_reader_open s h) t
unfolding client_after reply_in hears next_of is_covered owed messages_of with_items uses_items with_holds revoked_all revoking_all empty_tree first_nodes shown_nodes names_of
used15 s h t a = record { client = record {}; server = rw a.seat (rw (taken15 s h t a) (record {})) }

pub answer15 : (s : Sectors) (h : Homes) (t : List Noted) → At (setting 2 s) t (known15 s h) → KeepsAnswer (setting 2 s) (hears_reader_open s h) t
unfolding client_after reply_in hears next_of is_covered owed messages_of with_items uses_items with_holds revoked_all revoking_all empty_tree first_nodes shown_nodes names_of
answer15 s h t a = record { client = record {}; others = refl }

pub release15 : (s : Sectors) (h : Homes) (t : List Noted) → At (setting 2 s) t (known15 s h) → KeepsRelease (setting 2 s) (hears_reader_open s h) t
unfolding client_after reply_in hears next_of is_covered owed messages_of with_items uses_items with_holds revoked_all revoking_all empty_tree first_nodes shown_nodes names_of
release15 s h t a = record { client = record {} }

pub service15 : (s : Sectors) (h : Homes) (t : List Noted) → At (setting 2 s) t (known15 s h) → KeepsService (setting 2 s) (hears_reader_open s h) t
unfolding client_after after_acts after_act hearing listing_all blocks shown_nodes names_of clients_below asked_with answered_all entries_of final_acts writes_of_acts first_empty has_crashed
service15 s h t a = record {
  server = rw a.seat (record {
    mounts = record {};
    acts = record {};
    reserve = rw (begins15 s h t a) (λ admitted. room);
    ends = rw (begins15 s h t a) (rw (taken15 s h t a) (record {
      taken = record {};
      collected = record { asked = refl; admitted = λ was now. refl };
      line = record { named_is = refl; asked = refl };
      removed = λ tick. absurd (not-so tick);
    }));
  });
}

pub entries15 : (s : Sectors) (h : Homes) (t : List Noted) → At (setting 2 s) t (known15 s h) → KeepsEntries (setting 2 s) (hears_reader_open s h) t
unfolding client_after after_acts after_act hearing listing_all blocks shown_nodes names_of clients_below asked_with answered_all entries_of final_acts writes_of_acts first_empty has_crashed
entries15 s h t a = record { server = rw a.seat refl; none = rw a.seat (record {}); done = record {}; head = rw a.seat (record {}); halted = λ e. absurd (not-so e) }

pub purge15 : (s : Sectors) (h : Homes) (t : List Noted) → At (setting 2 s) t (known15 s h) → KeepsPurge (setting 2 s) (hears_reader_open s h) t
purge15 s h t a = record { after_gone = record {} }

pub disk15 : (s : Sectors) (h : Homes) (t : List Noted) → At (setting 2 s) t (known15 s h) → KeepsDisk (setting 2 s) (hears_reader_open s h) t
unfolding client_after after_acts after_act hearing listing_all blocks shown_nodes names_of clients_below asked_with answered_all entries_of final_acts writes_of_acts first_empty has_crashed
disk15 s h t a = record { disk = rw a.seat (rw a.disk (record { ends = (refl, record {}); key = (refl, inl refl); own = record {}; sectors = refl; faults = omega arith })); meets = rw a.seat (rw a.disk (λ other. absurd (other refl))) }

pub held15 : (s : Sectors) (h : Homes) (t : List Noted) → At (setting 2 s) t (known15 s h) → KeepsHeld (setting 2 s) (hears_reader_open s h) t
held15 s h t a = record { held = sym a.held }

pub keeps15 : (s : Sectors) (h : Homes) (t : List Noted) → At (setting 2 s) t (known15 s h) → KeepsMechanism (setting 2 s) (hears_reader_open s h) t
keeps15 s h t a = record { event = event15 s h t a; delivery = delivery15 s h t a (next15 s h t a); resend = resend15 s h t a; used = used15 s h t a; answer = answer15 s h t a; release = release15 s h t a; service = service15 s h t a; entries = entries15 s h t a; purge = purge15 s h t a; disk = disk15 s h t a; held = held15 s h t a }
