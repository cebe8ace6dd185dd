-- The server grants the reader what it opens the file by: the rules of this step, and the folds after it.
use Rattle.std.proofs.Common.{◌≡◌, ◌++◌, inl, inr, refl, rules, [], ◌∷◌, true, false, List, Some, IsTrue, ℕ, Bool, arith, sym, ap, ◌∙◌, nat_eq, subst}
use Rattle.std.specs.List.{All}
use Rattle.cal_fields.specs.Padded.{padded}
use Rattle.directory.specs.Directory.{first_empty}
use Rattle.token_table.specs.Blockers.{clients_below}
use Rattle.tree_law.specs.PartOf.{IsKind}
use Rattle.tree_law.specs.Tree.{empty_tree, first_nodes}
use Rattle.tree_law.specs.declared.request.Asked.TheVariants.{Want as Wants}
use Rattle.tree_law.specs.declared.request.Want.TheVariants.{Open as OpenWant}
use Rattle.volume_plan.specs.Shown.{names_of, shown, shown_nodes}
use Rattle.cluster_law.specs.Blocking.{blocks}
use Rattle.cluster_law.specs.Book.{revoked_all, with_holds, with_items}
use Rattle.cluster_law.specs.ClientRules.{KeepsAnswer, KeepsRelease, messages_of, uses_items}
use Rattle.cluster_law.specs.ClientState.{client_after, hears, reply_in}
use Rattle.cluster_law.specs.Coverage.{is_covered, next_of}
use Rattle.cluster_law.specs.Delivery.{KeepsDelivery, KeepsResend, again, bare, fresh, sent_on, speaks_way}
use Rattle.cluster_law.specs.DiskRules.{KeepsDisk, KeepsHeld}
use Rattle.cluster_law.specs.History.{before_acts, client_at, final_acts, history, server_at, writes_of_acts}
use Rattle.cluster_law.specs.Lanes.{Down, Lane, Up, Way, same_lane}
use Rattle.cluster_law.specs.Law.{KeepsMechanism}
use Rattle.cluster_law.specs.Noted.{Noted}
use Rattle.cluster_law.specs.Owed.{owed, revoking_all}
use Rattle.cluster_law.specs.Rules.{KeepsEntries, KeepsEvent, KeepsPurge, KeepsService, KeepsUse}
use Rattle.cluster_law.specs.ServerRules.{entries_of}
use Rattle.cluster_law.specs.ServerState.{after_act, after_acts, answered_all, as_request, asked_with, hearing, listing_all}
use Rattle.cluster_law.specs.Sessions.{client_view, heard, made_in, taken, told_in}
use Rattle.cluster_law.specs.Trace.{has_crashed, own_sectors, packets, seat, sectors_at, server_of}
use Rattle.law_rows.proofs.Knowing.{At, counts-next, entries-a, free-created, room, get-a, no-more, of-both, of-lane, sends, silent}
use Rattle.law_rows.proofs.Lanes.{not-so, of-server}
use Rattle.law_rows.specs.CreateFile as creating
use Rattle.law_rows.specs.ForeignRead.{Homes, asks_open, lane, listed, reader, grants_reader_to_open, with_file}
use Rattle.law_rows.specs.Formatted.{Sectors, setting}
use Rattle.law_rows.specs.Packets.{carrying}
use Rattle.law_rows.proofs.KnownValues.{table_written, collected, known13, known14}

never : true ≡ false → ⊥
never e = cc

listed-kinds : All (λ entry. IsKind (shown with_file) entry.ino entry.kind) (listed ∷ [])
unfolding shown_nodes names_of
listed-kinds = search rules

pub heard13 : (s : Sectors) (h : Homes) (t : List Noted) → At (setting 2 s) t (known13 s h) → heard (setting 2 s) t (grants_reader_to_open s h) ≡ Some (carrying (lane 1 Up) 1 0 (asks_open 1))
unfolding heard
heard13 s h t a = rw a.packets (rw a.seat (rw a.present1 refl))

pub taken13 : (s : Sectors) (h : Homes) (t : List Noted) → At (setting 2 s) t (known13 s h) → taken (setting 2 s) t (grants_reader_to_open s h) ≡ Some (record { lane = lane 1 Up; message = asks_open 1 })
unfolding taken
taken13 s h t a = rw (heard13 s h t a) (rw a.up1.taken (rw a.up1.made refl))

pub begins13 : (s : Sectors) (h : Homes) (t : List Noted) → At (setting 2 s) t (known13 s h) → before_acts (setting 2 s) 1 (grants_reader_to_open s h) t ≡ record { collecting = collected table_written; requests = as_request reader 1 (Wants (OpenWant (creating.a ∷ []))) ∷ []; asked = []; volume = with_file; sectors = own_sectors (setting 2 s) 1 t }
unfolding client_after after_acts after_act hearing listing_all blocks shown_nodes names_of clients_below asked_with answered_all entries_of final_acts writes_of_acts first_empty has_crashed
begins13 s h t a = rw (taken13 s h t a) (rw a.collecting (rw a.requests (rw a.asked (rw a.volume refl))))

ends13 : (s : Sectors) (h : Homes) (t : List Noted) → At (setting 2 s) t (known13 s h) → server_at (setting 2 s) 1 ((grants_reader_to_open s h) ∷ t) ≡ after_acts (record { collecting = collected table_written; requests = as_request reader 1 (Wants (OpenWant (creating.a ∷ []))) ∷ []; asked = []; volume = with_file; sectors = own_sectors (setting 2 s) 1 t }) (grants_reader_to_open s h).acts
unfolding server_at
ends13 s h t a = rw a.seat (rw (begins13 s h t a) refl)

pub next13 : (s : Sectors) (h : Homes) (t : List Noted) → At (setting 2 s) t (known13 s h) → At (setting 2 s) ((grants_reader_to_open s h) ∷ t) (known14 s h)
unfolding padded packets seat server_of client_view has_crashed own_sectors sectors_at made_in told_in client_at server_at history after_acts after_act asked_with answered_all clients_below
next13 s h t a = record {
  packets = rw a.packets refl;
  seat = a.seat;
  server_of = λ v. a.server_of v;
  view0 = rw a.packets a.view0;
  view1 = rw a.packets a.view1;
  crashed0 = a.crashed0;
  crashed1 = a.crashed1;
  present0 = refl;
  present1 = refl;
  up0 = counts-next (setting 2 s) (lane 0 Up) (grants_reader_to_open s h) t (known13 s h).up0 (Some (carrying (lane 1 Up) 1 0 (asks_open 1))) a.up0 (heard13 s h t a);
  down0 = counts-next (setting 2 s) (lane 0 Down) (grants_reader_to_open s h) t (known13 s h).down0 (Some (carrying (lane 1 Up) 1 0 (asks_open 1))) a.down0 (heard13 s h t a);
  up1 = counts-next (setting 2 s) (lane 1 Up) (grants_reader_to_open s h) t (known13 s h).up1 (Some (carrying (lane 1 Up) 1 0 (asks_open 1))) a.up1 (heard13 s h t a);
  down1 = counts-next (setting 2 s) (lane 1 Down) (grants_reader_to_open s h) t (known13 s h).down1 (Some (carrying (lane 1 Up) 1 0 (asks_open 1))) a.down1 (heard13 s h t a);
  others = λ c e f. rw (a.others c e f) (rw f refl);
  client0 = a.client0;
  client1 = a.client1;
  tree = a.tree;
  disk = refl;
  held = refl;
  collecting = ap (λ x. x.collecting) (ends13 s h t a) ∙ refl;
  requests = ap (λ x. x.requests) (ends13 s h t a) ∙ refl;
  asked = ap (λ x. x.asked) (ends13 s h t a) ∙ refl;
  volume = ap (λ x. x.volume) (ends13 s h t a) ∙ refl;
}

other13 : (s : Sectors) (h : Homes) (t : List Noted) → At (setting 2 s) t (known13 s h) → At (setting 2 s) ((grants_reader_to_open s h) ∷ t) (known14 s h) → (c : ℕ) → nat_eq 0 c ≡ false → nat_eq 1 c ≡ false → sent_on (lane c Down) (grants_reader_to_open s h) ≡ again (setting 2 s) (lane c Down) (grants_reader_to_open s h) t ++ fresh (setting 2 s) (lane c Down) (grants_reader_to_open s h) t ++ bare (setting 2 s) (lane c Down) (grants_reader_to_open s h) t
other13 s h t a b c e f = silent (setting 2 s) (lane c Down) (grants_reader_to_open s h) t (Some (carrying (lane 1 Up) 1 0 (asks_open 1))) (a.others c e f) (b.others c e f) (heard13 s h t a) (rw f refl) (rw f refl)

here13 : (s : Sectors) (h : Homes) (t : List Noted) → At (setting 2 s) ((grants_reader_to_open s h) ∷ t) (known14 s h) → (v : ℕ) → IsTrue (speaks_way Down t (grants_reader_to_open s h) (record { client = 0; view = v; way = Down })) → nat_eq 1 v ≡ true
here13 s h t b v e = subst (λ x. x) (ap (λ x. IsTrue x) (speaks-is v)) e
  where
    speaks-is : (v : ℕ) → speaks_way Down t (grants_reader_to_open s h) (record { client = 0; view = v; way = Down }) ≡ nat_eq 1 v
    speaks-is v = rw (b.server_of v) (rw b.seat refl)

by13 : (s : Sectors) (h : Homes) (t : List Noted) → At (setting 2 s) t (known13 s h) → At (setting 2 s) ((grants_reader_to_open s h) ∷ t) (known14 s h) → (c v : ℕ) (way : Way) → IsTrue (speaks_way way t (grants_reader_to_open s h) (record { client = c; view = v; way = way })) → sent_on (record { client = c; view = v; way = way }) (grants_reader_to_open s h) ≡ again (setting 2 s) (record { client = c; view = v; way = way }) (grants_reader_to_open s h) t ++ fresh (setting 2 s) (record { client = c; view = v; way = way }) (grants_reader_to_open s h) t ++ bare (setting 2 s) (record { client = c; view = v; way = way }) (grants_reader_to_open s h) t
by13 s h t a b c v Up speaking = absurd (not-so speaking)
by13 s h t a b c v Down speaking = of-server (λ v. sent_on (record { client = c; view = v; way = Down }) (grants_reader_to_open s h) ≡ again (setting 2 s) (record { client = c; view = v; way = Down }) (grants_reader_to_open s h) t ++ fresh (setting 2 s) (record { client = c; view = v; way = Down }) (grants_reader_to_open s h) t ++ bare (setting 2 s) (record { client = c; view = v; way = Down }) (grants_reader_to_open s h) t) v (here13 s h t b v speaking) (of-both (λ c. sent_on (lane c Down) (grants_reader_to_open s h) ≡ again (setting 2 s) (lane c Down) (grants_reader_to_open s h) t ++ fresh (setting 2 s) (lane c Down) (grants_reader_to_open s h) t ++ bare (setting 2 s) (lane c Down) (grants_reader_to_open s h) t) c (sends (setting 2 s) (lane 0 Down) (grants_reader_to_open s h) t (known13 s h).down0 (known14 s h).down0 3 (Some (carrying (lane 1 Up) 1 0 (asks_open 1))) a.down0 b.down0 b.up0.taken (b.server_of 1) (heard13 s h t a) refl) (sends (setting 2 s) (lane 1 Down) (grants_reader_to_open s h) t (known13 s h).down1 (known14 s h).down1 1 (Some (carrying (lane 1 Up) 1 0 (asks_open 1))) a.down1 b.down1 b.up1.taken (b.server_of 1) (heard13 s h t a) refl) (λ e f. other13 s h t a b c e f))

none13 : (s : Sectors) (h : Homes) (t : List Noted) → At (setting 2 s) t (known13 s h) → (l : Lane) → again (setting 2 s) l (grants_reader_to_open s h) t ≡ []
none13 s h t a l = by (same_lane (lane 1 Down) l) refl
  where
    by : (x : Bool) → same_lane (lane 1 Down) l ≡ x → again (setting 2 s) l (grants_reader_to_open s h) t ≡ []
    by true e = of-lane (λ l. again (setting 2 s) l (grants_reader_to_open s h) t ≡ []) 1 Down l e (no-more (setting 2 s) (lane 1 Down) (grants_reader_to_open s h) t (known13 s h).down1 a.down1 refl)
    by false e = rw e refl

pub delivery13 : (s : Sectors) (h : Homes) (t : List Noted) → At (setting 2 s) t (known13 s h) → At (setting 2 s) ((grants_reader_to_open s h) ∷ t) (known14 s h) → KeepsDelivery (setting 2 s) (grants_reader_to_open s h) t
delivery13 s h t a b = record {
  delivered = rw a.packets refl;
  told = inr (((rw (b.server_of 1) (rw b.seat refl), search rules, ((omega arith, omega arith), search rules)), record {}));
  sent = λ l speaking runs. by13 s h t a b l.client l.view l.way speaking;
  no_other = (record { lane = lane 1 Down; goes = search rules; speaks_there = rw (b.server_of 1) (rw b.seat refl) }, record {});
  halted = λ e. absurd (not-so e);
  no_repeat = λ l e. none13 s h t a l;
}

pub event13 : (s : Sectors) (h : Homes) (t : List Noted) → At (setting 2 s) t (known13 s h) → KeepsEvent (setting 2 s) (grants_reader_to_open s h) t
event13 s h t a = record { may = rw a.seat refl }

pub resend13 : (s : Sectors) (h : Homes) (t : List Noted) → At (setting 2 s) t (known13 s h) → KeepsResend (setting 2 s) (grants_reader_to_open s h) t
resend13 s h t a = record { resent = λ l tick speaking runs. absurd (not-so tick); quiet = λ tick clients. absurd (not-so tick) }

pub used13 : (s : Sectors) (h : Homes) (t : List Noted) → At (setting 2 s) t (known13 s h) → KeepsUse (setting 2 s) (grants_reader_to_open s h) t
unfolding client_after reply_in hears next_of is_covered owed messages_of with_items uses_items with_holds revoked_all revoking_all empty_tree first_nodes shown_nodes names_of
used13 s h t a = record { client = record {}; server = rw a.seat (rw (taken13 s h t a) refl) }

pub answer13 : (s : Sectors) (h : Homes) (t : List Noted) → At (setting 2 s) t (known13 s h) → KeepsAnswer (setting 2 s) (grants_reader_to_open s h) t
unfolding client_after reply_in hears next_of is_covered owed messages_of with_items uses_items with_holds revoked_all revoking_all empty_tree first_nodes shown_nodes names_of
answer13 s h t a = record { client = record {}; others = refl }

pub release13 : (s : Sectors) (h : Homes) (t : List Noted) → At (setting 2 s) t (known13 s h) → KeepsRelease (setting 2 s) (grants_reader_to_open s h) t
unfolding client_after reply_in hears next_of is_covered owed messages_of with_items uses_items with_holds revoked_all revoking_all empty_tree first_nodes shown_nodes names_of
release13 s h t a = record { client = record {} }

pub service13 : (s : Sectors) (h : Homes) (t : List Noted) → At (setting 2 s) t (known13 s h) → KeepsService (setting 2 s) (grants_reader_to_open s h) t
unfolding client_after after_acts after_act hearing listing_all blocks shown_nodes names_of clients_below asked_with answered_all entries_of final_acts writes_of_acts first_empty has_crashed
service13 s h t a = record {
  server = rw a.seat (record {
    mounts = record {};
    acts = rw (begins13 s h t a) (rw (taken13 s h t a) ((
      record {},
      record {
        grants = record {
          want = OpenWant (creating.a ∷ []);
          admitted = refl;
          head_is = refl;
          unblocked = rw get-a (rw free-created refl);
          room = rw get-a (rw free-created refl);
          lacks = rw get-a refl;
          each = (record { fresh = refl; content = record { same = sym entries-a; kinds = listed-kinds } }, (record { fresh = refl; content = refl }, record {}));
        };
        refuses = record {};
        commits = record {};
        collects = record {};
        revokes = record {};
        removes = record {};
        reserve = λ admitted. room;
      },
    )));
    reserve = rw (begins13 s h t a) (λ admitted. room);
    ends = rw (begins13 s h t a) (rw (taken13 s h t a) (record {
      taken = λ used admitted. absurd (never admitted);
      collected = record { asked = refl; admitted = λ was now. refl };
      line = record { named_is = refl; asked = refl };
      removed = λ tick. absurd (not-so tick);
    }));
  });
}

pub entries13 : (s : Sectors) (h : Homes) (t : List Noted) → At (setting 2 s) t (known13 s h) → KeepsEntries (setting 2 s) (grants_reader_to_open s h) t
unfolding client_after after_acts after_act hearing listing_all blocks shown_nodes names_of clients_below asked_with answered_all entries_of final_acts writes_of_acts first_empty has_crashed
entries13 s h t a = record { server = rw a.seat refl; none = rw a.seat (record {}); done = (record {}, record {}); head = rw a.seat (record {}); halted = λ e. absurd (not-so e) }

pub purge13 : (s : Sectors) (h : Homes) (t : List Noted) → At (setting 2 s) t (known13 s h) → KeepsPurge (setting 2 s) (grants_reader_to_open s h) t
purge13 s h t a = record { after_gone = record {} }

pub disk13 : (s : Sectors) (h : Homes) (t : List Noted) → At (setting 2 s) t (known13 s h) → KeepsDisk (setting 2 s) (grants_reader_to_open s h) t
unfolding client_after after_acts after_act hearing listing_all blocks shown_nodes names_of clients_below asked_with answered_all entries_of final_acts writes_of_acts first_empty has_crashed
disk13 s h t a = record { disk = rw a.seat (rw a.disk (record { ends = (refl, record {}); key = (refl, inl refl); own = record {}; sectors = refl; faults = omega arith })); meets = rw a.seat (rw a.disk (λ other. absurd (other refl))) }

pub held13 : (s : Sectors) (h : Homes) (t : List Noted) → At (setting 2 s) t (known13 s h) → KeepsHeld (setting 2 s) (grants_reader_to_open s h) t
held13 s h t a = record { held = sym a.held }

pub keeps13 : (s : Sectors) (h : Homes) (t : List Noted) → At (setting 2 s) t (known13 s h) → KeepsMechanism (setting 2 s) (grants_reader_to_open s h) t
keeps13 s h t a = record { event = event13 s h t a; delivery = delivery13 s h t a (next13 s h t a); resend = resend13 s h t a; used = used13 s h t a; answer = answer13 s h t a; release = release13 s h t a; service = service13 s h t a; entries = entries13 s h t a; purge = purge13 s h t a; disk = disk13 s h t a; held = held13 s h t a }
