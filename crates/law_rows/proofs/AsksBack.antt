-- The server asks the writer to give up its holds: the rules of this step, and the folds after it.
use Rattle.std.proofs.Common.{◌≡◌, ◌++◌, inl, inr, refl, rules, [], ◌∷◌, true, false, List, Some, IsTrue, ℕ, Bool, arith, sym, ap, ◌∙◌, nat_eq, subst}
use Rattle.cal_fields.specs.Padded.{padded}
use Rattle.directory.specs.Directory.{first_empty}
use Rattle.token_table.specs.Blockers.{clients_below}
use Rattle.tree_law.specs.Tree.{empty_tree, first_nodes}
use Rattle.tree_law.specs.declared.request.Asked.TheVariants.{Want as Wants}
use Rattle.tree_law.specs.declared.request.Want.TheVariants.{Read as ReadWant}
use Rattle.volume_plan.specs.Shown.{names_of, shown_nodes}
use Rattle.cluster_law.specs.Blocking.{blocks}
use Rattle.cluster_law.specs.Book.{revoked_all, with_holds, with_items}
use Rattle.cluster_law.specs.ClientRules.{KeepsAnswer, KeepsRelease, messages_of, uses_items}
use Rattle.cluster_law.specs.ClientState.{client_after, hears, reply_in}
use Rattle.cluster_law.specs.Coverage.{is_covered, next_of}
use Rattle.cluster_law.specs.Delivery.{KeepsDelivery, KeepsResend, again, bare, fresh, sent_on, speaks_way}
use Rattle.cluster_law.specs.DiskRules.{KeepsDisk, KeepsHeld}
use Rattle.cluster_law.specs.History.{before_acts, client_at, final_acts, history, server_at, writes_of_acts}
use Rattle.cluster_law.specs.Lanes.{Down, Lane, Up, Way, same_lane}
use Rattle.cluster_law.specs.Law.{KeepsMechanism}
use Rattle.cluster_law.specs.Noted.{Noted}
use Rattle.cluster_law.specs.Owed.{owed, revoking_all}
use Rattle.cluster_law.specs.Rules.{KeepsEntries, KeepsEvent, KeepsPurge, KeepsService, KeepsUse}
use Rattle.cluster_law.specs.ServerRules.{entries_of}
use Rattle.cluster_law.specs.ServerState.{after_act, after_acts, answered_all, as_request, asked_with, hearing, listing_all}
use Rattle.cluster_law.specs.Sessions.{client_view, heard, made_in, taken, told_in}
use Rattle.cluster_law.specs.Trace.{has_crashed, own_sectors, packets, seat, sectors_at, server_of}
use Rattle.law_rows.proofs.Knowing.{At, counts-next, room, no-more, of-both, of-lane, sends, silent}
use Rattle.law_rows.proofs.Lanes.{not-so, of-server}
use Rattle.law_rows.specs.CreateFile as creating
use Rattle.law_rows.specs.ForeignRead.{Homes, asks_read, lane, reader, asks_back, with_file}
use Rattle.law_rows.specs.Formatted.{Sectors, setting}
use Rattle.law_rows.specs.Packets.{carrying}
use Rattle.law_rows.proofs.KnownValues.{table_both, collected, known17, known18}

never : true ≡ false → ⊥
never e = cc

pub heard17 : (s : Sectors) (h : Homes) (t : List Noted) → At (setting 2 s) t (known17 s h) → heard (setting 2 s) t (asks_back s h) ≡ Some (carrying (lane 1 Up) 2 1 asks_read)
unfolding heard
heard17 s h t a = rw a.packets (rw a.seat (rw a.present1 refl))

pub taken17 : (s : Sectors) (h : Homes) (t : List Noted) → At (setting 2 s) t (known17 s h) → taken (setting 2 s) t (asks_back s h) ≡ Some (record { lane = lane 1 Up; message = asks_read })
unfolding taken
taken17 s h t a = rw (heard17 s h t a) (rw a.up1.taken (rw a.up1.made refl))

pub begins17 : (s : Sectors) (h : Homes) (t : List Noted) → At (setting 2 s) t (known17 s h) → before_acts (setting 2 s) 1 (asks_back s h) t ≡ record { collecting = collected table_both; requests = as_request reader 2 (Wants (ReadWant creating.made)) ∷ []; asked = []; volume = with_file; sectors = own_sectors (setting 2 s) 1 t }
unfolding client_after after_acts after_act hearing listing_all blocks shown_nodes names_of clients_below asked_with answered_all entries_of final_acts writes_of_acts first_empty has_crashed
begins17 s h t a = rw (taken17 s h t a) (rw a.collecting (rw a.requests (rw a.asked (rw a.volume refl))))

ends17 : (s : Sectors) (h : Homes) (t : List Noted) → At (setting 2 s) t (known17 s h) → server_at (setting 2 s) 1 ((asks_back s h) ∷ t) ≡ after_acts (record { collecting = collected table_both; requests = as_request reader 2 (Wants (ReadWant creating.made)) ∷ []; asked = []; volume = with_file; sectors = own_sectors (setting 2 s) 1 t }) (asks_back s h).acts
unfolding server_at
ends17 s h t a = rw a.seat (rw (begins17 s h t a) refl)

pub next17 : (s : Sectors) (h : Homes) (t : List Noted) → At (setting 2 s) t (known17 s h) → At (setting 2 s) ((asks_back s h) ∷ t) (known18 s h)
unfolding padded packets seat server_of client_view has_crashed own_sectors sectors_at made_in told_in client_at server_at history after_acts after_act asked_with answered_all clients_below
next17 s h t a = record {
  packets = rw a.packets refl;
  seat = a.seat;
  server_of = λ v. a.server_of v;
  view0 = rw a.packets a.view0;
  view1 = rw a.packets a.view1;
  crashed0 = a.crashed0;
  crashed1 = a.crashed1;
  present0 = refl;
  present1 = refl;
  up0 = counts-next (setting 2 s) (lane 0 Up) (asks_back s h) t (known17 s h).up0 (Some (carrying (lane 1 Up) 2 1 asks_read)) a.up0 (heard17 s h t a);
  down0 = counts-next (setting 2 s) (lane 0 Down) (asks_back s h) t (known17 s h).down0 (Some (carrying (lane 1 Up) 2 1 asks_read)) a.down0 (heard17 s h t a);
  up1 = counts-next (setting 2 s) (lane 1 Up) (asks_back s h) t (known17 s h).up1 (Some (carrying (lane 1 Up) 2 1 asks_read)) a.up1 (heard17 s h t a);
  down1 = counts-next (setting 2 s) (lane 1 Down) (asks_back s h) t (known17 s h).down1 (Some (carrying (lane 1 Up) 2 1 asks_read)) a.down1 (heard17 s h t a);
  others = λ c e f. rw (a.others c e f) (rw e refl);
  client0 = a.client0;
  client1 = a.client1;
  tree = a.tree;
  disk = refl;
  held = refl;
  collecting = ap (λ x. x.collecting) (ends17 s h t a) ∙ refl;
  requests = ap (λ x. x.requests) (ends17 s h t a) ∙ refl;
  asked = ap (λ x. x.asked) (ends17 s h t a) ∙ refl;
  volume = ap (λ x. x.volume) (ends17 s h t a) ∙ refl;
}

other17 : (s : Sectors) (h : Homes) (t : List Noted) → At (setting 2 s) t (known17 s h) → At (setting 2 s) ((asks_back s h) ∷ t) (known18 s h) → (c : ℕ) → nat_eq 0 c ≡ false → nat_eq 1 c ≡ false → sent_on (lane c Down) (asks_back s h) ≡ again (setting 2 s) (lane c Down) (asks_back s h) t ++ fresh (setting 2 s) (lane c Down) (asks_back s h) t ++ bare (setting 2 s) (lane c Down) (asks_back s h) t
other17 s h t a b c e f = silent (setting 2 s) (lane c Down) (asks_back s h) t (Some (carrying (lane 1 Up) 2 1 asks_read)) (a.others c e f) (b.others c e f) (heard17 s h t a) (rw f refl) (rw e (rw f refl))

here17 : (s : Sectors) (h : Homes) (t : List Noted) → At (setting 2 s) ((asks_back s h) ∷ t) (known18 s h) → (v : ℕ) → IsTrue (speaks_way Down t (asks_back s h) (record { client = 0; view = v; way = Down })) → nat_eq 1 v ≡ true
here17 s h t b v e = subst (λ x. x) (ap (λ x. IsTrue x) (speaks-is v)) e
  where
    speaks-is : (v : ℕ) → speaks_way Down t (asks_back s h) (record { client = 0; view = v; way = Down }) ≡ nat_eq 1 v
    speaks-is v = rw (b.server_of v) (rw b.seat refl)

by17 : (s : Sectors) (h : Homes) (t : List Noted) → At (setting 2 s) t (known17 s h) → At (setting 2 s) ((asks_back s h) ∷ t) (known18 s h) → (c v : ℕ) (way : Way) → IsTrue (speaks_way way t (asks_back s h) (record { client = c; view = v; way = way })) → sent_on (record { client = c; view = v; way = way }) (asks_back s h) ≡ again (setting 2 s) (record { client = c; view = v; way = way }) (asks_back s h) t ++ fresh (setting 2 s) (record { client = c; view = v; way = way }) (asks_back s h) t ++ bare (setting 2 s) (record { client = c; view = v; way = way }) (asks_back s h) t
by17 s h t a b c v Up speaking = absurd (not-so speaking)
by17 s h t a b c v Down speaking = of-server (λ v. sent_on (record { client = c; view = v; way = Down }) (asks_back s h) ≡ again (setting 2 s) (record { client = c; view = v; way = Down }) (asks_back s h) t ++ fresh (setting 2 s) (record { client = c; view = v; way = Down }) (asks_back s h) t ++ bare (setting 2 s) (record { client = c; view = v; way = Down }) (asks_back s h) t) v (here17 s h t b v speaking) (of-both (λ c. sent_on (lane c Down) (asks_back s h) ≡ again (setting 2 s) (lane c Down) (asks_back s h) t ++ fresh (setting 2 s) (lane c Down) (asks_back s h) t ++ bare (setting 2 s) (lane c Down) (asks_back s h) t) c (sends (setting 2 s) (lane 0 Down) (asks_back s h) t (known17 s h).down0 (known18 s h).down0 3 (Some (carrying (lane 1 Up) 2 1 asks_read)) a.down0 b.down0 b.up0.taken (b.server_of 1) (heard17 s h t a) refl) (sends (setting 2 s) (lane 1 Down) (asks_back s h) t (known17 s h).down1 (known18 s h).down1 2 (Some (carrying (lane 1 Up) 2 1 asks_read)) a.down1 b.down1 b.up1.taken (b.server_of 1) (heard17 s h t a) refl) (λ e f. other17 s h t a b c e f))

none17 : (s : Sectors) (h : Homes) (t : List Noted) → At (setting 2 s) t (known17 s h) → (l : Lane) → again (setting 2 s) l (asks_back s h) t ≡ []
none17 s h t a l = by (same_lane (lane 0 Down) l) (same_lane (lane 1 Down) l) refl refl
  where
    by : (x y : Bool) → same_lane (lane 0 Down) l ≡ x → same_lane (lane 1 Down) l ≡ y → again (setting 2 s) l (asks_back s h) t ≡ []
    by true y e f = of-lane (λ l. again (setting 2 s) l (asks_back s h) t ≡ []) 0 Down l e (no-more (setting 2 s) (lane 0 Down) (asks_back s h) t (known17 s h).down0 a.down0 refl)
    by false true e f = of-lane (λ l. again (setting 2 s) l (asks_back s h) t ≡ []) 1 Down l f (no-more (setting 2 s) (lane 1 Down) (asks_back s h) t (known17 s h).down1 a.down1 refl)
    by false false e f = rw e (rw f refl)

pub delivery17 : (s : Sectors) (h : Homes) (t : List Noted) → At (setting 2 s) t (known17 s h) → At (setting 2 s) ((asks_back s h) ∷ t) (known18 s h) → KeepsDelivery (setting 2 s) (asks_back s h) t
delivery17 s h t a b = record {
  delivered = rw a.packets refl;
  told = inr (((rw (b.server_of 1) (rw b.seat refl), search rules, (omega arith, search rules)), record {}));
  sent = λ l speaking runs. by17 s h t a b l.client l.view l.way speaking;
  no_other = (record { lane = lane 0 Down; goes = search rules; speaks_there = rw (b.server_of 1) (rw b.seat refl) }, (record { lane = lane 1 Down; goes = search rules; speaks_there = rw (b.server_of 1) (rw b.seat refl) }, record {}));
  halted = λ e. absurd (not-so e);
  no_repeat = λ l e. none17 s h t a l;
}

pub event17 : (s : Sectors) (h : Homes) (t : List Noted) → At (setting 2 s) t (known17 s h) → KeepsEvent (setting 2 s) (asks_back s h) t
event17 s h t a = record { may = rw a.seat refl }

pub resend17 : (s : Sectors) (h : Homes) (t : List Noted) → At (setting 2 s) t (known17 s h) → KeepsResend (setting 2 s) (asks_back s h) t
resend17 s h t a = record { resent = λ l tick speaking runs. absurd (not-so tick); quiet = λ tick clients. absurd (not-so tick) }

pub used17 : (s : Sectors) (h : Homes) (t : List Noted) → At (setting 2 s) t (known17 s h) → KeepsUse (setting 2 s) (asks_back s h) t
unfolding client_after reply_in hears next_of is_covered owed messages_of with_items uses_items with_holds revoked_all revoking_all empty_tree first_nodes shown_nodes names_of
used17 s h t a = record { client = record {}; server = rw a.seat (rw (taken17 s h t a) (rw a.volume refl)) }

pub answer17 : (s : Sectors) (h : Homes) (t : List Noted) → At (setting 2 s) t (known17 s h) → KeepsAnswer (setting 2 s) (asks_back s h) t
unfolding client_after reply_in hears next_of is_covered owed messages_of with_items uses_items with_holds revoked_all revoking_all empty_tree first_nodes shown_nodes names_of
answer17 s h t a = record { client = record {}; others = refl }

pub release17 : (s : Sectors) (h : Homes) (t : List Noted) → At (setting 2 s) t (known17 s h) → KeepsRelease (setting 2 s) (asks_back s h) t
unfolding client_after reply_in hears next_of is_covered owed messages_of with_items uses_items with_holds revoked_all revoking_all empty_tree first_nodes shown_nodes names_of
release17 s h t a = record { client = record {} }

pub service17 : (s : Sectors) (h : Homes) (t : List Noted) → At (setting 2 s) t (known17 s h) → KeepsService (setting 2 s) (asks_back s h) t
unfolding client_after after_acts after_act hearing listing_all blocks shown_nodes names_of clients_below asked_with answered_all entries_of final_acts writes_of_acts first_empty has_crashed
service17 s h t a = record {
  server = rw a.seat (record {
    mounts = record {};
    acts = rw (begins17 s h t a) (rw (taken17 s h t a) ((
      record {},
      record {
        grants = record {};
        refuses = record {};
        commits = record {};
        collects = record {};
        revokes = record { admitted = refl; next = inl refl };
        removes = record {};
        reserve = λ admitted. room;
      },
    )));
    reserve = rw (begins17 s h t a) (λ admitted. room);
    ends = rw (begins17 s h t a) (rw (taken17 s h t a) (record {
      taken = λ used admitted. absurd (never admitted);
      collected = record { asked = refl; admitted = λ was now. refl };
      line = record { named_is = refl; asked = refl };
      removed = λ tick. absurd (not-so tick);
    }));
  });
}

pub entries17 : (s : Sectors) (h : Homes) (t : List Noted) → At (setting 2 s) t (known17 s h) → KeepsEntries (setting 2 s) (asks_back s h) t
unfolding client_after after_acts after_act hearing listing_all blocks shown_nodes names_of clients_below asked_with answered_all entries_of final_acts writes_of_acts first_empty has_crashed
entries17 s h t a = record { server = rw a.seat refl; none = rw a.seat (record {}); done = (record {}, record {}); head = rw a.seat (record {}); halted = λ e. absurd (not-so e) }

pub purge17 : (s : Sectors) (h : Homes) (t : List Noted) → At (setting 2 s) t (known17 s h) → KeepsPurge (setting 2 s) (asks_back s h) t
purge17 s h t a = record { after_gone = record {} }

pub disk17 : (s : Sectors) (h : Homes) (t : List Noted) → At (setting 2 s) t (known17 s h) → KeepsDisk (setting 2 s) (asks_back s h) t
unfolding client_after after_acts after_act hearing listing_all blocks shown_nodes names_of clients_below asked_with answered_all entries_of final_acts writes_of_acts first_empty has_crashed
disk17 s h t a = record { disk = rw a.seat (rw a.disk (record { ends = (refl, record {}); key = (refl, inl refl); own = record {}; sectors = refl; faults = omega arith })); meets = rw a.seat (rw a.disk (λ other. absurd (other refl))) }

pub held17 : (s : Sectors) (h : Homes) (t : List Noted) → At (setting 2 s) t (known17 s h) → KeepsHeld (setting 2 s) (asks_back s h) t
held17 s h t a = record { held = sym a.held }

pub keeps17 : (s : Sectors) (h : Homes) (t : List Noted) → At (setting 2 s) t (known17 s h) → KeepsMechanism (setting 2 s) (asks_back s h) t
keeps17 s h t a = record { event = event17 s h t a; delivery = delivery17 s h t a (next17 s h t a); resend = resend17 s h t a; used = used17 s h t a; answer = answer17 s h t a; release = release17 s h t a; service = service17 s h t a; entries = entries17 s h t a; purge = purge17 s h t a; disk = disk17 s h t a; held = held17 s h t a }
