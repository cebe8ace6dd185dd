-- The server grants the writer the bytes: the rules of this step, and the folds after it.
use Rattle.std.proofs.Common.{◌≡◌, ◌++◌, inl, inr, refl, rules, [], ◌∷◌, true, false, List, Some, IsTrue, ℕ, Bool, arith, sym, ap, ◌∙◌, nat_eq, subst}
use Rattle.cal_fields.specs.Padded.{padded}
use Rattle.directory.specs.Directory.{first_empty}
use Rattle.token_table.specs.Blockers.{clients_below}
use Rattle.tree_law.specs.Tree.{empty_tree, first_nodes}
use Rattle.tree_law.specs.declared.request.Asked.TheVariants.{Want as Wants}
use Rattle.tree_law.specs.declared.request.Want.TheVariants.{Write as WriteWant}
use Rattle.volume_plan.specs.Shown.{names_of, shown_nodes}
use Rattle.cluster_law.specs.Blocking.{blocks}
use Rattle.cluster_law.specs.Book.{revoked_all, with_holds, with_items}
use Rattle.cluster_law.specs.ClientRules.{KeepsAnswer, KeepsRelease, messages_of, uses_items}
use Rattle.cluster_law.specs.ClientState.{client_after, hears, reply_in}
use Rattle.cluster_law.specs.Coverage.{is_covered, next_of}
use Rattle.cluster_law.specs.Delivery.{KeepsDelivery, KeepsResend, again, bare, fresh, sent_on, speaks_way}
use Rattle.cluster_law.specs.DiskRules.{KeepsDisk, KeepsHeld}
use Rattle.cluster_law.specs.History.{before_acts, client_at, final_acts, history, server_at, writes_of_acts}
use Rattle.cluster_law.specs.Lanes.{Down, Lane, Up, Way, same_lane}
use Rattle.cluster_law.specs.Law.{KeepsMechanism}
use Rattle.cluster_law.specs.Noted.{Noted}
use Rattle.cluster_law.specs.Owed.{owed, revoking_all}
use Rattle.cluster_law.specs.Rules.{KeepsEntries, KeepsEvent, KeepsPurge, KeepsService, KeepsUse}
use Rattle.cluster_law.specs.ServerRules.{entries_of}
use Rattle.cluster_law.specs.ServerState.{after_act, after_acts, answered_all, as_request, asked_with, hearing, listing_all}
use Rattle.cluster_law.specs.Sessions.{client_view, heard, made_in, taken, told_in}
use Rattle.cluster_law.specs.Trace.{has_crashed, own_sectors, packets, seat, sectors_at, server_of}
use Rattle.law_rows.proofs.Knowing.{At, counts-next, free-created, room, no-more, of-both, of-lane, sends, silent}
use Rattle.law_rows.proofs.Lanes.{not-so, of-server}
use Rattle.law_rows.specs.CreateFile as creating
use Rattle.law_rows.specs.ForeignRead.{Homes, asks_write, lane, grants_to_write, with_file, writer}
use Rattle.law_rows.specs.Formatted.{Sectors, setting}
use Rattle.law_rows.specs.Packets.{carrying}
use Rattle.law_rows.proofs.KnownValues.{table_opened, collected, known9, known10}

never : true ≡ false → ⊥
never e = cc

pub heard9 : (s : Sectors) (h : Homes) (t : List Noted) → At (setting 2 s) t (known9 s h) → heard (setting 2 s) t (grants_to_write s h) ≡ Some (carrying (lane 0 Up) 3 2 asks_write)
unfolding heard
heard9 s h t a = rw a.packets (rw a.seat (rw a.present0 refl))

pub taken9 : (s : Sectors) (h : Homes) (t : List Noted) → At (setting 2 s) t (known9 s h) → taken (setting 2 s) t (grants_to_write s h) ≡ Some (record { lane = lane 0 Up; message = asks_write })
unfolding taken
taken9 s h t a = rw (heard9 s h t a) (rw a.up0.taken (rw a.up0.made refl))

pub begins9 : (s : Sectors) (h : Homes) (t : List Noted) → At (setting 2 s) t (known9 s h) → before_acts (setting 2 s) 1 (grants_to_write s h) t ≡ record { collecting = collected table_opened; requests = as_request writer 3 (Wants (WriteWant creating.made)) ∷ []; asked = []; volume = with_file; sectors = own_sectors (setting 2 s) 1 t }
unfolding client_after after_acts after_act hearing listing_all blocks shown_nodes names_of clients_below asked_with answered_all entries_of final_acts writes_of_acts first_empty has_crashed
begins9 s h t a = rw (taken9 s h t a) (rw a.collecting (rw a.requests (rw a.asked (rw a.volume refl))))

ends9 : (s : Sectors) (h : Homes) (t : List Noted) → At (setting 2 s) t (known9 s h) → server_at (setting 2 s) 1 ((grants_to_write s h) ∷ t) ≡ after_acts (record { collecting = collected table_opened; requests = as_request writer 3 (Wants (WriteWant creating.made)) ∷ []; asked = []; volume = with_file; sectors = own_sectors (setting 2 s) 1 t }) (grants_to_write s h).acts
unfolding server_at
ends9 s h t a = rw a.seat (rw (begins9 s h t a) refl)

pub next9 : (s : Sectors) (h : Homes) (t : List Noted) → At (setting 2 s) t (known9 s h) → At (setting 2 s) ((grants_to_write s h) ∷ t) (known10 s h)
unfolding padded packets seat server_of client_view has_crashed own_sectors sectors_at made_in told_in client_at server_at history after_acts after_act asked_with answered_all clients_below
next9 s h t a = record {
  packets = rw a.packets refl;
  seat = a.seat;
  server_of = λ v. a.server_of v;
  view0 = rw a.packets a.view0;
  view1 = rw a.packets a.view1;
  crashed0 = a.crashed0;
  crashed1 = a.crashed1;
  present0 = refl;
  present1 = refl;
  up0 = counts-next (setting 2 s) (lane 0 Up) (grants_to_write s h) t (known9 s h).up0 (Some (carrying (lane 0 Up) 3 2 asks_write)) a.up0 (heard9 s h t a);
  down0 = counts-next (setting 2 s) (lane 0 Down) (grants_to_write s h) t (known9 s h).down0 (Some (carrying (lane 0 Up) 3 2 asks_write)) a.down0 (heard9 s h t a);
  up1 = counts-next (setting 2 s) (lane 1 Up) (grants_to_write s h) t (known9 s h).up1 (Some (carrying (lane 0 Up) 3 2 asks_write)) a.up1 (heard9 s h t a);
  down1 = counts-next (setting 2 s) (lane 1 Down) (grants_to_write s h) t (known9 s h).down1 (Some (carrying (lane 0 Up) 3 2 asks_write)) a.down1 (heard9 s h t a);
  others = λ c e f. rw (a.others c e f) (rw e refl);
  client0 = a.client0;
  client1 = a.client1;
  tree = a.tree;
  disk = refl;
  held = refl;
  collecting = ap (λ x. x.collecting) (ends9 s h t a) ∙ refl;
  requests = ap (λ x. x.requests) (ends9 s h t a) ∙ refl;
  asked = ap (λ x. x.asked) (ends9 s h t a) ∙ refl;
  volume = ap (λ x. x.volume) (ends9 s h t a) ∙ refl;
}

other9 : (s : Sectors) (h : Homes) (t : List Noted) → At (setting 2 s) t (known9 s h) → At (setting 2 s) ((grants_to_write s h) ∷ t) (known10 s h) → (c : ℕ) → nat_eq 0 c ≡ false → nat_eq 1 c ≡ false → sent_on (lane c Down) (grants_to_write s h) ≡ again (setting 2 s) (lane c Down) (grants_to_write s h) t ++ fresh (setting 2 s) (lane c Down) (grants_to_write s h) t ++ bare (setting 2 s) (lane c Down) (grants_to_write s h) t
other9 s h t a b c e f = silent (setting 2 s) (lane c Down) (grants_to_write s h) t (Some (carrying (lane 0 Up) 3 2 asks_write)) (a.others c e f) (b.others c e f) (heard9 s h t a) (rw e refl) (rw e refl)

here9 : (s : Sectors) (h : Homes) (t : List Noted) → At (setting 2 s) ((grants_to_write s h) ∷ t) (known10 s h) → (v : ℕ) → IsTrue (speaks_way Down t (grants_to_write s h) (record { client = 0; view = v; way = Down })) → nat_eq 1 v ≡ true
here9 s h t b v e = subst (λ x. x) (ap (λ x. IsTrue x) (speaks-is v)) e
  where
    speaks-is : (v : ℕ) → speaks_way Down t (grants_to_write s h) (record { client = 0; view = v; way = Down }) ≡ nat_eq 1 v
    speaks-is v = rw (b.server_of v) (rw b.seat refl)

by9 : (s : Sectors) (h : Homes) (t : List Noted) → At (setting 2 s) t (known9 s h) → At (setting 2 s) ((grants_to_write s h) ∷ t) (known10 s h) → (c v : ℕ) (way : Way) → IsTrue (speaks_way way t (grants_to_write s h) (record { client = c; view = v; way = way })) → sent_on (record { client = c; view = v; way = way }) (grants_to_write s h) ≡ again (setting 2 s) (record { client = c; view = v; way = way }) (grants_to_write s h) t ++ fresh (setting 2 s) (record { client = c; view = v; way = way }) (grants_to_write s h) t ++ bare (setting 2 s) (record { client = c; view = v; way = way }) (grants_to_write s h) t
by9 s h t a b c v Up speaking = absurd (not-so speaking)
by9 s h t a b c v Down speaking = of-server (λ v. sent_on (record { client = c; view = v; way = Down }) (grants_to_write s h) ≡ again (setting 2 s) (record { client = c; view = v; way = Down }) (grants_to_write s h) t ++ fresh (setting 2 s) (record { client = c; view = v; way = Down }) (grants_to_write s h) t ++ bare (setting 2 s) (record { client = c; view = v; way = Down }) (grants_to_write s h) t) v (here9 s h t b v speaking) (of-both (λ c. sent_on (lane c Down) (grants_to_write s h) ≡ again (setting 2 s) (lane c Down) (grants_to_write s h) t ++ fresh (setting 2 s) (lane c Down) (grants_to_write s h) t ++ bare (setting 2 s) (lane c Down) (grants_to_write s h) t) c (sends (setting 2 s) (lane 0 Down) (grants_to_write s h) t (known9 s h).down0 (known10 s h).down0 3 (Some (carrying (lane 0 Up) 3 2 asks_write)) a.down0 b.down0 b.up0.taken (b.server_of 1) (heard9 s h t a) refl) (sends (setting 2 s) (lane 1 Down) (grants_to_write s h) t (known9 s h).down1 (known10 s h).down1 0 (Some (carrying (lane 0 Up) 3 2 asks_write)) a.down1 b.down1 b.up1.taken (b.server_of 1) (heard9 s h t a) refl) (λ e f. other9 s h t a b c e f))

none9 : (s : Sectors) (h : Homes) (t : List Noted) → At (setting 2 s) t (known9 s h) → (l : Lane) → again (setting 2 s) l (grants_to_write s h) t ≡ []
none9 s h t a l = by (same_lane (lane 0 Down) l) refl
  where
    by : (x : Bool) → same_lane (lane 0 Down) l ≡ x → again (setting 2 s) l (grants_to_write s h) t ≡ []
    by true e = of-lane (λ l. again (setting 2 s) l (grants_to_write s h) t ≡ []) 0 Down l e (no-more (setting 2 s) (lane 0 Down) (grants_to_write s h) t (known9 s h).down0 a.down0 refl)
    by false e = rw e refl

pub delivery9 : (s : Sectors) (h : Homes) (t : List Noted) → At (setting 2 s) t (known9 s h) → At (setting 2 s) ((grants_to_write s h) ∷ t) (known10 s h) → KeepsDelivery (setting 2 s) (grants_to_write s h) t
delivery9 s h t a b = record {
  delivered = rw a.packets refl;
  told = inr (((rw (b.server_of 1) (rw b.seat refl), search rules, ((omega arith, omega arith), search rules)), record {}));
  sent = λ l speaking runs. by9 s h t a b l.client l.view l.way speaking;
  no_other = (record { lane = lane 0 Down; goes = search rules; speaks_there = rw (b.server_of 1) (rw b.seat refl) }, record {});
  halted = λ e. absurd (not-so e);
  no_repeat = λ l e. none9 s h t a l;
}

pub event9 : (s : Sectors) (h : Homes) (t : List Noted) → At (setting 2 s) t (known9 s h) → KeepsEvent (setting 2 s) (grants_to_write s h) t
event9 s h t a = record { may = rw a.seat refl }

pub resend9 : (s : Sectors) (h : Homes) (t : List Noted) → At (setting 2 s) t (known9 s h) → KeepsResend (setting 2 s) (grants_to_write s h) t
resend9 s h t a = record { resent = λ l tick speaking runs. absurd (not-so tick); quiet = λ tick clients. absurd (not-so tick) }

pub used9 : (s : Sectors) (h : Homes) (t : List Noted) → At (setting 2 s) t (known9 s h) → KeepsUse (setting 2 s) (grants_to_write s h) t
unfolding client_after reply_in hears next_of is_covered owed messages_of with_items uses_items with_holds revoked_all revoking_all empty_tree first_nodes shown_nodes names_of
used9 s h t a = record { client = record {}; server = rw a.seat (rw (taken9 s h t a) (rw a.volume refl)) }

pub answer9 : (s : Sectors) (h : Homes) (t : List Noted) → At (setting 2 s) t (known9 s h) → KeepsAnswer (setting 2 s) (grants_to_write s h) t
unfolding client_after reply_in hears next_of is_covered owed messages_of with_items uses_items with_holds revoked_all revoking_all empty_tree first_nodes shown_nodes names_of
answer9 s h t a = record { client = record {}; others = refl }

pub release9 : (s : Sectors) (h : Homes) (t : List Noted) → At (setting 2 s) t (known9 s h) → KeepsRelease (setting 2 s) (grants_to_write s h) t
unfolding client_after reply_in hears next_of is_covered owed messages_of with_items uses_items with_holds revoked_all revoking_all empty_tree first_nodes shown_nodes names_of
release9 s h t a = record { client = record {} }

pub service9 : (s : Sectors) (h : Homes) (t : List Noted) → At (setting 2 s) t (known9 s h) → KeepsService (setting 2 s) (grants_to_write s h) t
unfolding client_after after_acts after_act hearing listing_all blocks shown_nodes names_of clients_below asked_with answered_all entries_of final_acts writes_of_acts first_empty has_crashed
service9 s h t a = record {
  server = rw a.seat (record {
    mounts = record {};
    acts = rw (begins9 s h t a) (rw (taken9 s h t a) ((
      record {},
      record {
        grants = record {
          want = WriteWant creating.made;
          admitted = refl;
          head_is = refl;
          unblocked = rw free-created refl;
          room = rw free-created refl;
          lacks = refl;
          each = (record { fresh = refl; content = record { size = refl; each = λ i below. absurd (omega arith) } }, (record { fresh = refl; content = refl }, record {}));
        };
        refuses = record {};
        commits = record {};
        collects = record {};
        revokes = record {};
        removes = record {};
        reserve = λ admitted. room;
      },
    )));
    reserve = rw (begins9 s h t a) (λ admitted. omega arith);
    ends = rw (begins9 s h t a) (rw (taken9 s h t a) (record {
      taken = λ used admitted. absurd (never admitted);
      collected = record { asked = refl; admitted = λ was now. refl };
      line = record { named_is = refl; asked = refl };
      removed = λ tick. absurd (not-so tick);
    }));
  });
}

pub entries9 : (s : Sectors) (h : Homes) (t : List Noted) → At (setting 2 s) t (known9 s h) → KeepsEntries (setting 2 s) (grants_to_write s h) t
unfolding client_after after_acts after_act hearing listing_all blocks shown_nodes names_of clients_below asked_with answered_all entries_of final_acts writes_of_acts first_empty has_crashed
entries9 s h t a = record { server = rw a.seat refl; none = rw a.seat (record {}); done = (record {}, record {}); head = rw a.seat (record {}); halted = λ e. absurd (not-so e) }

pub purge9 : (s : Sectors) (h : Homes) (t : List Noted) → At (setting 2 s) t (known9 s h) → KeepsPurge (setting 2 s) (grants_to_write s h) t
purge9 s h t a = record { after_gone = record {} }

pub disk9 : (s : Sectors) (h : Homes) (t : List Noted) → At (setting 2 s) t (known9 s h) → KeepsDisk (setting 2 s) (grants_to_write s h) t
unfolding client_after after_acts after_act hearing listing_all blocks shown_nodes names_of clients_below asked_with answered_all entries_of final_acts writes_of_acts first_empty has_crashed
disk9 s h t a = record { disk = rw a.seat (rw a.disk (record { ends = (refl, record {}); key = (refl, inl refl); own = record {}; sectors = refl; faults = omega arith })); meets = rw a.seat (rw a.disk (λ other. absurd (other refl))) }

pub held9 : (s : Sectors) (h : Homes) (t : List Noted) → At (setting 2 s) t (known9 s h) → KeepsHeld (setting 2 s) (grants_to_write s h) t
held9 s h t a = record { held = sym a.held }

pub keeps9 : (s : Sectors) (h : Homes) (t : List Noted) → At (setting 2 s) t (known9 s h) → KeepsMechanism (setting 2 s) (grants_to_write s h) t
keeps9 s h t a = record { event = event9 s h t a; delivery = delivery9 s h t a (next9 s h t a); resend = resend9 s h t a; used = used9 s h t a; answer = answer9 s h t a; release = release9 s h t a; service = service9 s h t a; entries = entries9 s h t a; purge = purge9 s h t a; disk = disk9 s h t a; held = held9 s h t a }
