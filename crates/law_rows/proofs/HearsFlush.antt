-- The server hears that its Flushed was taken: the rules of this step, and the folds after it.
use Rattle.std.proofs.Common.{◌≡◌, ◌++◌, inl, inr, refl, [], ◌∷◌, true, false, List, Some, None, IsTrue, ℕ, arith, sym, ap, ◌∙◌, nat_eq, subst}
use Rattle.cal_fields.specs.Padded.{padded}
use Rattle.directory.specs.Directory.{first_empty}
use Rattle.token_table.specs.Blockers.{clients_below}
use Rattle.tree_law.specs.Tree.{empty_tree, first_nodes}
use Rattle.volume_edit.specs.Edit.{edited}
use Rattle.volume_plan.specs.Shown.{names_of, shown_nodes}
use Rattle.cluster_law.specs.Blocking.{blocks}
use Rattle.cluster_law.specs.Book.{revoked_all, with_holds, with_items}
use Rattle.cluster_law.specs.ClientRules.{KeepsAnswer, KeepsRelease, messages_of, uses_items}
use Rattle.cluster_law.specs.ClientState.{client_after, hears, reply_in}
use Rattle.cluster_law.specs.Coverage.{is_covered, next_of}
use Rattle.cluster_law.specs.Delivery.{KeepsDelivery, KeepsResend, again, bare, fresh, sent_on, speaks_way}
use Rattle.cluster_law.specs.DiskRules.{KeepsDisk, KeepsHeld}
use Rattle.cluster_law.specs.History.{before_acts, client_at, final_acts, history, server_at, writes_of_acts}
use Rattle.cluster_law.specs.Lanes.{Down, Lane, Up, Way}
use Rattle.cluster_law.specs.Law.{KeepsMechanism}
use Rattle.cluster_law.specs.Noted.{Noted}
use Rattle.cluster_law.specs.Owed.{owed, revoking_all}
use Rattle.cluster_law.specs.Rules.{KeepsEntries, KeepsEvent, KeepsPurge, KeepsService, KeepsUse}
use Rattle.cluster_law.specs.ServerRules.{entries_of}
use Rattle.cluster_law.specs.ServerState.{after_act, after_acts, answered_all, asked_with, hearing, listing_all}
use Rattle.cluster_law.specs.Sessions.{client_view, heard, made_in, taken, told_in}
use Rattle.cluster_law.specs.Trace.{has_crashed, own_sectors, packets, seat, sectors_at, server_of}
use Rattle.law_rows.proofs.Knowing.{At, counts-next, of-both, sends, silent}
use Rattle.law_rows.proofs.Lanes.{not-so, of-server}
use Rattle.law_rows.specs.ForeignRead.{Homes, flushing, lane, hears_flush, with_file}
use Rattle.law_rows.specs.Formatted.{Sectors, setting}
use Rattle.law_rows.specs.Packets.{acknowledging}
use Rattle.law_rows.proofs.KnownValues.{table_read, collected, known23, known24}

never : true ≡ false → ⊥
never e = cc

pub heard23 : (s : Sectors) (h : Homes) (t : List Noted) → At (setting 2 s) t (known23 s h) → heard (setting 2 s) t (hears_flush s h) ≡ Some (acknowledging (lane 0 Up) 5)
unfolding heard
heard23 s h t a = rw a.packets (rw a.seat (rw a.present0 refl))

pub taken23 : (s : Sectors) (h : Homes) (t : List Noted) → At (setting 2 s) t (known23 s h) → taken (setting 2 s) t (hears_flush s h) ≡ None
unfolding taken
taken23 s h t a = rw (heard23 s h t a) (rw a.up0.taken refl)

pub begins23 : (s : Sectors) (h : Homes) (t : List Noted) → At (setting 2 s) t (known23 s h) → before_acts (setting 2 s) 1 (hears_flush s h) t ≡ record { collecting = collected table_read; requests = []; asked = []; volume = edited with_file flushing; sectors = own_sectors (setting 2 s) 1 t }
unfolding client_after after_acts after_act hearing listing_all blocks shown_nodes names_of clients_below asked_with answered_all entries_of final_acts writes_of_acts first_empty has_crashed
begins23 s h t a = rw (taken23 s h t a) (rw a.collecting (rw a.requests (rw a.asked (rw a.volume refl))))

ends23 : (s : Sectors) (h : Homes) (t : List Noted) → At (setting 2 s) t (known23 s h) → server_at (setting 2 s) 1 ((hears_flush s h) ∷ t) ≡ after_acts (record { collecting = collected table_read; requests = []; asked = []; volume = edited with_file flushing; sectors = own_sectors (setting 2 s) 1 t }) (hears_flush s h).acts
unfolding server_at
ends23 s h t a = rw a.seat (rw (begins23 s h t a) refl)

pub next23 : (s : Sectors) (h : Homes) (t : List Noted) → At (setting 2 s) t (known23 s h) → At (setting 2 s) ((hears_flush s h) ∷ t) (known24 s h)
unfolding padded packets seat server_of client_view has_crashed own_sectors sectors_at made_in told_in client_at server_at history after_acts after_act asked_with answered_all clients_below
next23 s h t a = record {
  packets = rw a.packets refl;
  seat = a.seat;
  server_of = λ v. a.server_of v;
  view0 = rw a.packets a.view0;
  view1 = rw a.packets a.view1;
  crashed0 = a.crashed0;
  crashed1 = a.crashed1;
  present0 = refl;
  present1 = refl;
  up0 = counts-next (setting 2 s) (lane 0 Up) (hears_flush s h) t (known23 s h).up0 (Some (acknowledging (lane 0 Up) 5)) a.up0 (heard23 s h t a);
  down0 = counts-next (setting 2 s) (lane 0 Down) (hears_flush s h) t (known23 s h).down0 (Some (acknowledging (lane 0 Up) 5)) a.down0 (heard23 s h t a);
  up1 = counts-next (setting 2 s) (lane 1 Up) (hears_flush s h) t (known23 s h).up1 (Some (acknowledging (lane 0 Up) 5)) a.up1 (heard23 s h t a);
  down1 = counts-next (setting 2 s) (lane 1 Down) (hears_flush s h) t (known23 s h).down1 (Some (acknowledging (lane 0 Up) 5)) a.down1 (heard23 s h t a);
  others = λ c e f. rw (a.others c e f) (refl);
  client0 = a.client0;
  client1 = a.client1;
  tree = a.tree;
  disk = refl;
  held = refl;
  collecting = ap (λ x. x.collecting) (ends23 s h t a) ∙ refl;
  requests = ap (λ x. x.requests) (ends23 s h t a) ∙ refl;
  asked = ap (λ x. x.asked) (ends23 s h t a) ∙ refl;
  volume = ap (λ x. x.volume) (ends23 s h t a) ∙ refl;
}

other23 : (s : Sectors) (h : Homes) (t : List Noted) → At (setting 2 s) t (known23 s h) → At (setting 2 s) ((hears_flush s h) ∷ t) (known24 s h) → (c : ℕ) → nat_eq 0 c ≡ false → nat_eq 1 c ≡ false → sent_on (lane c Down) (hears_flush s h) ≡ again (setting 2 s) (lane c Down) (hears_flush s h) t ++ fresh (setting 2 s) (lane c Down) (hears_flush s h) t ++ bare (setting 2 s) (lane c Down) (hears_flush s h) t
other23 s h t a b c e f = silent (setting 2 s) (lane c Down) (hears_flush s h) t (Some (acknowledging (lane 0 Up) 5)) (a.others c e f) (b.others c e f) (heard23 s h t a) (rw e refl) (refl)

here23 : (s : Sectors) (h : Homes) (t : List Noted) → At (setting 2 s) ((hears_flush s h) ∷ t) (known24 s h) → (v : ℕ) → IsTrue (speaks_way Down t (hears_flush s h) (record { client = 0; view = v; way = Down })) → nat_eq 1 v ≡ true
here23 s h t b v e = subst (λ x. x) (ap (λ x. IsTrue x) (speaks-is v)) e
  where
    speaks-is : (v : ℕ) → speaks_way Down t (hears_flush s h) (record { client = 0; view = v; way = Down }) ≡ nat_eq 1 v
    speaks-is v = rw (b.server_of v) (rw b.seat refl)

by23 : (s : Sectors) (h : Homes) (t : List Noted) → At (setting 2 s) t (known23 s h) → At (setting 2 s) ((hears_flush s h) ∷ t) (known24 s h) → (c v : ℕ) (way : Way) → IsTrue (speaks_way way t (hears_flush s h) (record { client = c; view = v; way = way })) → sent_on (record { client = c; view = v; way = way }) (hears_flush s h) ≡ again (setting 2 s) (record { client = c; view = v; way = way }) (hears_flush s h) t ++ fresh (setting 2 s) (record { client = c; view = v; way = way }) (hears_flush s h) t ++ bare (setting 2 s) (record { client = c; view = v; way = way }) (hears_flush s h) t
by23 s h t a b c v Up speaking = absurd (not-so speaking)
by23 s h t a b c v Down speaking = of-server (λ v. sent_on (record { client = c; view = v; way = Down }) (hears_flush s h) ≡ again (setting 2 s) (record { client = c; view = v; way = Down }) (hears_flush s h) t ++ fresh (setting 2 s) (record { client = c; view = v; way = Down }) (hears_flush s h) t ++ bare (setting 2 s) (record { client = c; view = v; way = Down }) (hears_flush s h) t) v (here23 s h t b v speaking) (of-both (λ c. sent_on (lane c Down) (hears_flush s h) ≡ again (setting 2 s) (lane c Down) (hears_flush s h) t ++ fresh (setting 2 s) (lane c Down) (hears_flush s h) t ++ bare (setting 2 s) (lane c Down) (hears_flush s h) t) c (sends (setting 2 s) (lane 0 Down) (hears_flush s h) t (known23 s h).down0 (known24 s h).down0 4 (Some (acknowledging (lane 0 Up) 5)) a.down0 b.down0 b.up0.taken (b.server_of 1) (heard23 s h t a) refl) (sends (setting 2 s) (lane 1 Down) (hears_flush s h) t (known23 s h).down1 (known24 s h).down1 2 (Some (acknowledging (lane 0 Up) 5)) a.down1 b.down1 b.up1.taken (b.server_of 1) (heard23 s h t a) refl) (λ e f. other23 s h t a b c e f))

none23 : (s : Sectors) (h : Homes) (t : List Noted) → At (setting 2 s) t (known23 s h) → (l : Lane) → again (setting 2 s) l (hears_flush s h) t ≡ []
none23 s h t a l = refl

pub delivery23 : (s : Sectors) (h : Homes) (t : List Noted) → At (setting 2 s) t (known23 s h) → At (setting 2 s) ((hears_flush s h) ∷ t) (known24 s h) → KeepsDelivery (setting 2 s) (hears_flush s h) t
delivery23 s h t a b = record {
  delivered = rw a.packets refl;
  told = inr (record {});
  sent = λ l speaking runs. by23 s h t a b l.client l.view l.way speaking;
  no_other = record {};
  halted = λ e. absurd (not-so e);
  no_repeat = λ l e. none23 s h t a l;
}

pub event23 : (s : Sectors) (h : Homes) (t : List Noted) → At (setting 2 s) t (known23 s h) → KeepsEvent (setting 2 s) (hears_flush s h) t
event23 s h t a = record { may = rw a.seat refl }

pub resend23 : (s : Sectors) (h : Homes) (t : List Noted) → At (setting 2 s) t (known23 s h) → KeepsResend (setting 2 s) (hears_flush s h) t
resend23 s h t a = record { resent = λ l tick speaking runs. absurd (not-so tick); quiet = λ tick clients. absurd (not-so tick) }

pub used23 : (s : Sectors) (h : Homes) (t : List Noted) → At (setting 2 s) t (known23 s h) → KeepsUse (setting 2 s) (hears_flush s h) t
unfolding client_after reply_in hears next_of is_covered owed messages_of with_items uses_items with_holds revoked_all revoking_all empty_tree first_nodes shown_nodes names_of
used23 s h t a = record { client = record {}; server = rw a.seat (rw (taken23 s h t a) (record {})) }

pub answer23 : (s : Sectors) (h : Homes) (t : List Noted) → At (setting 2 s) t (known23 s h) → KeepsAnswer (setting 2 s) (hears_flush s h) t
unfolding client_after reply_in hears next_of is_covered owed messages_of with_items uses_items with_holds revoked_all revoking_all empty_tree first_nodes shown_nodes names_of
answer23 s h t a = record { client = record {}; others = refl }

pub release23 : (s : Sectors) (h : Homes) (t : List Noted) → At (setting 2 s) t (known23 s h) → KeepsRelease (setting 2 s) (hears_flush s h) t
unfolding client_after reply_in hears next_of is_covered owed messages_of with_items uses_items with_holds revoked_all revoking_all empty_tree first_nodes shown_nodes names_of
release23 s h t a = record { client = record {} }

pub service23 : (s : Sectors) (h : Homes) (t : List Noted) → At (setting 2 s) t (known23 s h) → KeepsService (setting 2 s) (hears_flush s h) t
unfolding client_after after_acts after_act hearing listing_all blocks shown_nodes names_of clients_below asked_with answered_all entries_of final_acts writes_of_acts first_empty has_crashed
service23 s h t a = record {
  server = rw a.seat (record {
    mounts = record {};
    acts = record {};
    reserve = rw (begins23 s h t a) (λ admitted. omega arith);
    ends = rw (begins23 s h t a) (rw (taken23 s h t a) (record {
      taken = record {};
      collected = record { asked = refl; admitted = λ was now. refl };
      line = record { named_is = refl; asked = refl };
      removed = λ tick. absurd (not-so tick);
    }));
  });
}

pub entries23 : (s : Sectors) (h : Homes) (t : List Noted) → At (setting 2 s) t (known23 s h) → KeepsEntries (setting 2 s) (hears_flush s h) t
unfolding client_after after_acts after_act hearing listing_all blocks shown_nodes names_of clients_below asked_with answered_all entries_of final_acts writes_of_acts first_empty has_crashed
entries23 s h t a = record { server = rw a.seat refl; none = rw a.seat (record {}); done = record {}; head = rw a.seat (record {}); halted = λ e. absurd (not-so e) }

pub purge23 : (s : Sectors) (h : Homes) (t : List Noted) → At (setting 2 s) t (known23 s h) → KeepsPurge (setting 2 s) (hears_flush s h) t
purge23 s h t a = record { after_gone = record {} }

pub disk23 : (s : Sectors) (h : Homes) (t : List Noted) → At (setting 2 s) t (known23 s h) → KeepsDisk (setting 2 s) (hears_flush s h) t
unfolding client_after after_acts after_act hearing listing_all blocks shown_nodes names_of clients_below asked_with answered_all entries_of final_acts writes_of_acts first_empty has_crashed
disk23 s h t a = record { disk = rw a.seat (rw a.disk (record { ends = (refl, record {}); key = (refl, inl refl); own = record {}; sectors = refl; faults = omega arith })); meets = rw a.seat (rw a.disk (λ other. absurd (other refl))) }

pub held23 : (s : Sectors) (h : Homes) (t : List Noted) → At (setting 2 s) t (known23 s h) → KeepsHeld (setting 2 s) (hears_flush s h) t
held23 s h t a = record { held = sym a.held }

pub keeps23 : (s : Sectors) (h : Homes) (t : List Noted) → At (setting 2 s) t (known23 s h) → KeepsMechanism (setting 2 s) (hears_flush s h) t
keeps23 s h t a = record { event = event23 s h t a; delivery = delivery23 s h t a (next23 s h t a); resend = resend23 s h t a; used = used23 s h t a; answer = answer23 s h t a; release = release23 s h t a; service = service23 s h t a; entries = entries23 s h t a; purge = purge23 s h t a; disk = disk23 s h t a; held = held23 s h t a }
