-- The server hears that the writer was granted the bytes: the rules of this step, and the folds after it.
use Rattle.std.proofs.Common.{◌≡◌, ◌++◌, inl, inr, refl, [], ◌∷◌, true, false, List, Some, None, IsTrue, ℕ, arith, sym, ap, ◌∙◌, nat_eq, subst}
use Rattle.cal_fields.specs.Padded.{padded}
use Rattle.directory.specs.Directory.{first_empty}
use Rattle.token_table.specs.Blockers.{clients_below}
use Rattle.tree_law.specs.Tree.{empty_tree, first_nodes}
use Rattle.volume_plan.specs.Shown.{names_of, shown_nodes}
use Rattle.cluster_law.specs.Blocking.{blocks}
use Rattle.cluster_law.specs.Book.{revoked_all, with_holds, with_items}
use Rattle.cluster_law.specs.ClientRules.{KeepsAnswer, KeepsRelease, messages_of, uses_items}
use Rattle.cluster_law.specs.ClientState.{client_after, hears, reply_in}
use Rattle.cluster_law.specs.Coverage.{is_covered, next_of}
use Rattle.cluster_law.specs.Delivery.{KeepsDelivery, KeepsResend, again, bare, fresh, sent_on, speaks_way}
use Rattle.cluster_law.specs.DiskRules.{KeepsDisk, KeepsHeld}
use Rattle.cluster_law.specs.History.{before_acts, client_at, final_acts, history, server_at, writes_of_acts}
use Rattle.cluster_law.specs.Lanes.{Down, Lane, Up, Way}
use Rattle.cluster_law.specs.Law.{KeepsMechanism}
use Rattle.cluster_law.specs.Noted.{Noted}
use Rattle.cluster_law.specs.Owed.{owed, revoking_all}
use Rattle.cluster_law.specs.Rules.{KeepsEntries, KeepsEvent, KeepsPurge, KeepsService, KeepsUse}
use Rattle.cluster_law.specs.ServerRules.{entries_of}
use Rattle.cluster_law.specs.ServerState.{after_act, after_acts, answered_all, asked_with, hearing, listing_all}
use Rattle.cluster_law.specs.Sessions.{client_view, heard, made_in, taken, told_in}
use Rattle.cluster_law.specs.Trace.{has_crashed, own_sectors, packets, seat, sectors_at, server_of}
use Rattle.law_rows.proofs.Knowing.{At, counts-next, room, of-both, sends, silent}
use Rattle.law_rows.proofs.Lanes.{not-so, of-server}
use Rattle.law_rows.specs.ForeignRead.{Homes, lane, hears_write, with_file}
use Rattle.law_rows.specs.Formatted.{Sectors, setting}
use Rattle.law_rows.specs.Packets.{acknowledging}
use Rattle.law_rows.proofs.KnownValues.{table_written, collected, known11, known12}

never : true ≡ false → ⊥
never e = cc

pub heard11 : (s : Sectors) (h : Homes) (t : List Noted) → At (setting 2 s) t (known11 s h) → heard (setting 2 s) t (hears_write s h) ≡ Some (acknowledging (lane 0 Up) 3)
unfolding heard
heard11 s h t a = rw a.packets (rw a.seat (rw a.present0 refl))

pub taken11 : (s : Sectors) (h : Homes) (t : List Noted) → At (setting 2 s) t (known11 s h) → taken (setting 2 s) t (hears_write s h) ≡ None
unfolding taken
taken11 s h t a = rw (heard11 s h t a) (rw a.up0.taken refl)

pub begins11 : (s : Sectors) (h : Homes) (t : List Noted) → At (setting 2 s) t (known11 s h) → before_acts (setting 2 s) 1 (hears_write s h) t ≡ record { collecting = collected table_written; requests = []; asked = []; volume = with_file; sectors = own_sectors (setting 2 s) 1 t }
unfolding client_after after_acts after_act hearing listing_all blocks shown_nodes names_of clients_below asked_with answered_all entries_of final_acts writes_of_acts first_empty has_crashed
begins11 s h t a = rw (taken11 s h t a) (rw a.collecting (rw a.requests (rw a.asked (rw a.volume refl))))

ends11 : (s : Sectors) (h : Homes) (t : List Noted) → At (setting 2 s) t (known11 s h) → server_at (setting 2 s) 1 ((hears_write s h) ∷ t) ≡ after_acts (record { collecting = collected table_written; requests = []; asked = []; volume = with_file; sectors = own_sectors (setting 2 s) 1 t }) (hears_write s h).acts
unfolding server_at
ends11 s h t a = rw a.seat (rw (begins11 s h t a) refl)

pub next11 : (s : Sectors) (h : Homes) (t : List Noted) → At (setting 2 s) t (known11 s h) → At (setting 2 s) ((hears_write s h) ∷ t) (known12 s h)
unfolding padded packets seat server_of client_view has_crashed own_sectors sectors_at made_in told_in client_at server_at history after_acts after_act asked_with answered_all clients_below
next11 s h t a = record {
  packets = rw a.packets refl;
  seat = a.seat;
  server_of = λ v. a.server_of v;
  view0 = rw a.packets a.view0;
  view1 = rw a.packets a.view1;
  crashed0 = a.crashed0;
  crashed1 = a.crashed1;
  present0 = refl;
  present1 = refl;
  up0 = counts-next (setting 2 s) (lane 0 Up) (hears_write s h) t (known11 s h).up0 (Some (acknowledging (lane 0 Up) 3)) a.up0 (heard11 s h t a);
  down0 = counts-next (setting 2 s) (lane 0 Down) (hears_write s h) t (known11 s h).down0 (Some (acknowledging (lane 0 Up) 3)) a.down0 (heard11 s h t a);
  up1 = counts-next (setting 2 s) (lane 1 Up) (hears_write s h) t (known11 s h).up1 (Some (acknowledging (lane 0 Up) 3)) a.up1 (heard11 s h t a);
  down1 = counts-next (setting 2 s) (lane 1 Down) (hears_write s h) t (known11 s h).down1 (Some (acknowledging (lane 0 Up) 3)) a.down1 (heard11 s h t a);
  others = λ c e f. rw (a.others c e f) (refl);
  client0 = a.client0;
  client1 = a.client1;
  tree = a.tree;
  disk = refl;
  held = refl;
  collecting = ap (λ x. x.collecting) (ends11 s h t a) ∙ refl;
  requests = ap (λ x. x.requests) (ends11 s h t a) ∙ refl;
  asked = ap (λ x. x.asked) (ends11 s h t a) ∙ refl;
  volume = ap (λ x. x.volume) (ends11 s h t a) ∙ refl;
}

other11 : (s : Sectors) (h : Homes) (t : List Noted) → At (setting 2 s) t (known11 s h) → At (setting 2 s) ((hears_write s h) ∷ t) (known12 s h) → (c : ℕ) → nat_eq 0 c ≡ false → nat_eq 1 c ≡ false → sent_on (lane c Down) (hears_write s h) ≡ again (setting 2 s) (lane c Down) (hears_write s h) t ++ fresh (setting 2 s) (lane c Down) (hears_write s h) t ++ bare (setting 2 s) (lane c Down) (hears_write s h) t
other11 s h t a b c e f = silent (setting 2 s) (lane c Down) (hears_write s h) t (Some (acknowledging (lane 0 Up) 3)) (a.others c e f) (b.others c e f) (heard11 s h t a) (rw e refl) (refl)

here11 : (s : Sectors) (h : Homes) (t : List Noted) → At (setting 2 s) ((hears_write s h) ∷ t) (known12 s h) → (v : ℕ) → IsTrue (speaks_way Down t (hears_write s h) (record { client = 0; view = v; way = Down })) → nat_eq 1 v ≡ true
here11 s h t b v e = subst (λ x. x) (ap (λ x. IsTrue x) (speaks-is v)) e
  where
    speaks-is : (v : ℕ) → speaks_way Down t (hears_write s h) (record { client = 0; view = v; way = Down }) ≡ nat_eq 1 v
    speaks-is v = rw (b.server_of v) (rw b.seat refl)

by11 : (s : Sectors) (h : Homes) (t : List Noted) → At (setting 2 s) t (known11 s h) → At (setting 2 s) ((hears_write s h) ∷ t) (known12 s h) → (c v : ℕ) (way : Way) → IsTrue (speaks_way way t (hears_write s h) (record { client = c; view = v; way = way })) → sent_on (record { client = c; view = v; way = way }) (hears_write s h) ≡ again (setting 2 s) (record { client = c; view = v; way = way }) (hears_write s h) t ++ fresh (setting 2 s) (record { client = c; view = v; way = way }) (hears_write s h) t ++ bare (setting 2 s) (record { client = c; view = v; way = way }) (hears_write s h) t
by11 s h t a b c v Up speaking = absurd (not-so speaking)
by11 s h t a b c v Down speaking = of-server (λ v. sent_on (record { client = c; view = v; way = Down }) (hears_write s h) ≡ again (setting 2 s) (record { client = c; view = v; way = Down }) (hears_write s h) t ++ fresh (setting 2 s) (record { client = c; view = v; way = Down }) (hears_write s h) t ++ bare (setting 2 s) (record { client = c; view = v; way = Down }) (hears_write s h) t) v (here11 s h t b v speaking) (of-both (λ c. sent_on (lane c Down) (hears_write s h) ≡ again (setting 2 s) (lane c Down) (hears_write s h) t ++ fresh (setting 2 s) (lane c Down) (hears_write s h) t ++ bare (setting 2 s) (lane c Down) (hears_write s h) t) c (sends (setting 2 s) (lane 0 Down) (hears_write s h) t (known11 s h).down0 (known12 s h).down0 3 (Some (acknowledging (lane 0 Up) 3)) a.down0 b.down0 b.up0.taken (b.server_of 1) (heard11 s h t a) refl) (sends (setting 2 s) (lane 1 Down) (hears_write s h) t (known11 s h).down1 (known12 s h).down1 0 (Some (acknowledging (lane 0 Up) 3)) a.down1 b.down1 b.up1.taken (b.server_of 1) (heard11 s h t a) refl) (λ e f. other11 s h t a b c e f))

none11 : (s : Sectors) (h : Homes) (t : List Noted) → At (setting 2 s) t (known11 s h) → (l : Lane) → again (setting 2 s) l (hears_write s h) t ≡ []
none11 s h t a l = refl

pub delivery11 : (s : Sectors) (h : Homes) (t : List Noted) → At (setting 2 s) t (known11 s h) → At (setting 2 s) ((hears_write s h) ∷ t) (known12 s h) → KeepsDelivery (setting 2 s) (hears_write s h) t
delivery11 s h t a b = record {
  delivered = rw a.packets refl;
  told = inr (record {});
  sent = λ l speaking runs. by11 s h t a b l.client l.view l.way speaking;
  no_other = record {};
  halted = λ e. absurd (not-so e);
  no_repeat = λ l e. none11 s h t a l;
}

pub event11 : (s : Sectors) (h : Homes) (t : List Noted) → At (setting 2 s) t (known11 s h) → KeepsEvent (setting 2 s) (hears_write s h) t
event11 s h t a = record { may = rw a.seat refl }

pub resend11 : (s : Sectors) (h : Homes) (t : List Noted) → At (setting 2 s) t (known11 s h) → KeepsResend (setting 2 s) (hears_write s h) t
resend11 s h t a = record { resent = λ l tick speaking runs. absurd (not-so tick); quiet = λ tick clients. absurd (not-so tick) }

pub used11 : (s : Sectors) (h : Homes) (t : List Noted) → At (setting 2 s) t (known11 s h) → KeepsUse (setting 2 s) (hears_write s h) t
unfolding client_after reply_in hears next_of is_covered owed messages_of with_items uses_items with_holds revoked_all revoking_all empty_tree first_nodes shown_nodes names_of
used11 s h t a = record { client = record {}; server = rw a.seat (rw (taken11 s h t a) (record {})) }

pub answer11 : (s : Sectors) (h : Homes) (t : List Noted) → At (setting 2 s) t (known11 s h) → KeepsAnswer (setting 2 s) (hears_write s h) t
unfolding client_after reply_in hears next_of is_covered owed messages_of with_items uses_items with_holds revoked_all revoking_all empty_tree first_nodes shown_nodes names_of
answer11 s h t a = record { client = record {}; others = refl }

pub release11 : (s : Sectors) (h : Homes) (t : List Noted) → At (setting 2 s) t (known11 s h) → KeepsRelease (setting 2 s) (hears_write s h) t
unfolding client_after reply_in hears next_of is_covered owed messages_of with_items uses_items with_holds revoked_all revoking_all empty_tree first_nodes shown_nodes names_of
release11 s h t a = record { client = record {} }

pub service11 : (s : Sectors) (h : Homes) (t : List Noted) → At (setting 2 s) t (known11 s h) → KeepsService (setting 2 s) (hears_write s h) t
unfolding client_after after_acts after_act hearing listing_all blocks shown_nodes names_of clients_below asked_with answered_all entries_of final_acts writes_of_acts first_empty has_crashed
service11 s h t a = record {
  server = rw a.seat (record {
    mounts = record {};
    acts = record {};
    reserve = rw (begins11 s h t a) (λ admitted. room);
    ends = rw (begins11 s h t a) (rw (taken11 s h t a) (record {
      taken = record {};
      collected = record { asked = refl; admitted = λ was now. refl };
      line = record { named_is = refl; asked = refl };
      removed = λ tick. absurd (not-so tick);
    }));
  });
}

pub entries11 : (s : Sectors) (h : Homes) (t : List Noted) → At (setting 2 s) t (known11 s h) → KeepsEntries (setting 2 s) (hears_write s h) t
unfolding client_after after_acts after_act hearing listing_all blocks shown_nodes names_of clients_below asked_with answered_all entries_of final_acts writes_of_acts first_empty has_crashed
entries11 s h t a = record { server = rw a.seat refl; none = rw a.seat (record {}); done = record {}; head = rw a.seat (record {}); halted = λ e. absurd (not-so e) }

pub purge11 : (s : Sectors) (h : Homes) (t : List Noted) → At (setting 2 s) t (known11 s h) → KeepsPurge (setting 2 s) (hears_write s h) t
purge11 s h t a = record { after_gone = record {} }

pub disk11 : (s : Sectors) (h : Homes) (t : List Noted) → At (setting 2 s) t (known11 s h) → KeepsDisk (setting 2 s) (hears_write s h) t
unfolding client_after after_acts after_act hearing listing_all blocks shown_nodes names_of clients_below asked_with answered_all entries_of final_acts writes_of_acts first_empty has_crashed
disk11 s h t a = record { disk = rw a.seat (rw a.disk (record { ends = (refl, record {}); key = (refl, inl refl); own = record {}; sectors = refl; faults = omega arith })); meets = rw a.seat (rw a.disk (λ other. absurd (other refl))) }

pub held11 : (s : Sectors) (h : Homes) (t : List Noted) → At (setting 2 s) t (known11 s h) → KeepsHeld (setting 2 s) (hears_write s h) t
held11 s h t a = record { held = sym a.held }

pub keeps11 : (s : Sectors) (h : Homes) (t : List Noted) → At (setting 2 s) t (known11 s h) → KeepsMechanism (setting 2 s) (hears_write s h) t
keeps11 s h t a = record { event = event11 s h t a; delivery = delivery11 s h t a (next11 s h t a); resend = resend11 s h t a; used = used11 s h t a; answer = answer11 s h t a; release = release11 s h t a; service = service11 s h t a; entries = entries11 s h t a; purge = purge11 s h t a; disk = disk11 s h t a; held = held11 s h t a }
