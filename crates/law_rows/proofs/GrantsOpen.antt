-- The server grants the writer what it opens the file by: the rules of this step, and the folds after it.
use Rattle.std.proofs.Common.{◌≡◌, ◌++◌, inl, inr, refl, rules, [], ◌∷◌, true, false, List, Some, IsTrue, ℕ, Bool, arith, sym, ap, ◌∙◌, nat_eq, subst}
use Rattle.std.specs.List.{All}
use Rattle.cal_fields.specs.Padded.{padded}
use Rattle.directory.specs.Directory.{first_empty}
use Rattle.token_table.specs.Blockers.{clients_below}
use Rattle.tree_law.specs.PartOf.{IsKind}
use Rattle.tree_law.specs.Tree.{empty_tree, first_nodes}
use Rattle.tree_law.specs.declared.request.Asked.TheVariants.{Want as Wants}
use Rattle.tree_law.specs.declared.request.Want.TheVariants.{Open as OpenWant}
use Rattle.volume_plan.specs.Shown.{names_of, shown, shown_nodes}
use Rattle.cluster_law.specs.Blocking.{blocks}
use Rattle.cluster_law.specs.Book.{revoked_all, with_holds, with_items}
use Rattle.cluster_law.specs.ClientRules.{KeepsAnswer, KeepsRelease, messages_of, uses_items}
use Rattle.cluster_law.specs.ClientState.{client_after, hears, reply_in}
use Rattle.cluster_law.specs.Coverage.{is_covered, next_of}
use Rattle.cluster_law.specs.Delivery.{KeepsDelivery, KeepsResend, again, bare, fresh, sent_on, speaks_way}
use Rattle.cluster_law.specs.DiskRules.{KeepsDisk, KeepsHeld}
use Rattle.cluster_law.specs.History.{before_acts, client_at, final_acts, history, server_at, writes_of_acts}
use Rattle.cluster_law.specs.Lanes.{Down, Lane, Up, Way, same_lane}
use Rattle.cluster_law.specs.Law.{KeepsMechanism}
use Rattle.cluster_law.specs.Noted.{Noted}
use Rattle.cluster_law.specs.Owed.{owed, revoking_all}
use Rattle.cluster_law.specs.Rules.{KeepsEntries, KeepsEvent, KeepsPurge, KeepsService, KeepsUse}
use Rattle.cluster_law.specs.ServerRules.{entries_of}
use Rattle.cluster_law.specs.ServerState.{after_act, after_acts, answered_all, as_request, asked_with, empty_table, hearing, listing_all}
use Rattle.cluster_law.specs.Sessions.{client_view, heard, made_in, taken, told_in}
use Rattle.cluster_law.specs.Trace.{has_crashed, own_sectors, packets, seat, sectors_at, server_of}
use Rattle.law_rows.proofs.Knowing.{At, counts-next, entries-a, free-created, get-a, no-more, of-both, of-lane, sends, silent}
use Rattle.law_rows.proofs.Lanes.{not-so, of-server}
use Rattle.law_rows.specs.CreateFile as creating
use Rattle.law_rows.specs.ForeignRead.{Homes, asks_open, lane, listed, grants_to_open, with_file, writer}
use Rattle.law_rows.specs.Formatted.{Sectors, setting}
use Rattle.law_rows.specs.Packets.{carrying}
use Rattle.law_rows.proofs.KnownValues.{collected, known5, known6}

never : true ≡ false → ⊥
never e = cc

listed-kinds : All (λ entry. IsKind (shown with_file) entry.ino entry.kind) (listed ∷ [])
unfolding shown_nodes names_of
listed-kinds = search rules

pub heard5 : (s : Sectors) (h : Homes) (t : List Noted) → At (setting 2 s) t (known5 s h) → heard (setting 2 s) t (grants_to_open s h) ≡ Some (carrying (lane 0 Up) 2 1 (asks_open 2))
unfolding heard
heard5 s h t a = rw a.packets (rw a.seat (rw a.present0 refl))

pub taken5 : (s : Sectors) (h : Homes) (t : List Noted) → At (setting 2 s) t (known5 s h) → taken (setting 2 s) t (grants_to_open s h) ≡ Some (record { lane = lane 0 Up; message = asks_open 2 })
unfolding taken
taken5 s h t a = rw (heard5 s h t a) (rw a.up0.taken (rw a.up0.made refl))

pub begins5 : (s : Sectors) (h : Homes) (t : List Noted) → At (setting 2 s) t (known5 s h) → before_acts (setting 2 s) 1 (grants_to_open s h) t ≡ record { collecting = collected empty_table; requests = as_request writer 2 (Wants (OpenWant (creating.a ∷ []))) ∷ []; asked = []; volume = with_file; sectors = own_sectors (setting 2 s) 1 t }
unfolding client_after after_acts after_act hearing listing_all blocks shown_nodes names_of clients_below asked_with answered_all entries_of final_acts writes_of_acts first_empty has_crashed
begins5 s h t a = rw (taken5 s h t a) (rw a.collecting (rw a.requests (rw a.asked (rw a.volume refl))))

ends5 : (s : Sectors) (h : Homes) (t : List Noted) → At (setting 2 s) t (known5 s h) → server_at (setting 2 s) 1 ((grants_to_open s h) ∷ t) ≡ after_acts (record { collecting = collected empty_table; requests = as_request writer 2 (Wants (OpenWant (creating.a ∷ []))) ∷ []; asked = []; volume = with_file; sectors = own_sectors (setting 2 s) 1 t }) (grants_to_open s h).acts
unfolding server_at
ends5 s h t a = rw a.seat (rw (begins5 s h t a) refl)

pub next5 : (s : Sectors) (h : Homes) (t : List Noted) → At (setting 2 s) t (known5 s h) → At (setting 2 s) ((grants_to_open s h) ∷ t) (known6 s h)
unfolding padded packets seat server_of client_view has_crashed own_sectors sectors_at made_in told_in client_at server_at history after_acts after_act asked_with answered_all clients_below
next5 s h t a = record {
  packets = rw a.packets refl;
  seat = a.seat;
  server_of = λ v. a.server_of v;
  view0 = rw a.packets a.view0;
  view1 = rw a.packets a.view1;
  crashed0 = a.crashed0;
  crashed1 = a.crashed1;
  present0 = refl;
  present1 = refl;
  up0 = counts-next (setting 2 s) (lane 0 Up) (grants_to_open s h) t (known5 s h).up0 (Some (carrying (lane 0 Up) 2 1 (asks_open 2))) a.up0 (heard5 s h t a);
  down0 = counts-next (setting 2 s) (lane 0 Down) (grants_to_open s h) t (known5 s h).down0 (Some (carrying (lane 0 Up) 2 1 (asks_open 2))) a.down0 (heard5 s h t a);
  up1 = counts-next (setting 2 s) (lane 1 Up) (grants_to_open s h) t (known5 s h).up1 (Some (carrying (lane 0 Up) 2 1 (asks_open 2))) a.up1 (heard5 s h t a);
  down1 = counts-next (setting 2 s) (lane 1 Down) (grants_to_open s h) t (known5 s h).down1 (Some (carrying (lane 0 Up) 2 1 (asks_open 2))) a.down1 (heard5 s h t a);
  others = λ c e f. rw (a.others c e f) (rw e refl);
  client0 = a.client0;
  client1 = a.client1;
  tree = a.tree;
  disk = refl;
  held = refl;
  collecting = ap (λ x. x.collecting) (ends5 s h t a) ∙ refl;
  requests = ap (λ x. x.requests) (ends5 s h t a) ∙ refl;
  asked = ap (λ x. x.asked) (ends5 s h t a) ∙ refl;
  volume = ap (λ x. x.volume) (ends5 s h t a) ∙ refl;
}

other5 : (s : Sectors) (h : Homes) (t : List Noted) → At (setting 2 s) t (known5 s h) → At (setting 2 s) ((grants_to_open s h) ∷ t) (known6 s h) → (c : ℕ) → nat_eq 0 c ≡ false → nat_eq 1 c ≡ false → sent_on (lane c Down) (grants_to_open s h) ≡ again (setting 2 s) (lane c Down) (grants_to_open s h) t ++ fresh (setting 2 s) (lane c Down) (grants_to_open s h) t ++ bare (setting 2 s) (lane c Down) (grants_to_open s h) t
other5 s h t a b c e f = silent (setting 2 s) (lane c Down) (grants_to_open s h) t (Some (carrying (lane 0 Up) 2 1 (asks_open 2))) (a.others c e f) (b.others c e f) (heard5 s h t a) (rw e refl) (rw e refl)

here5 : (s : Sectors) (h : Homes) (t : List Noted) → At (setting 2 s) ((grants_to_open s h) ∷ t) (known6 s h) → (v : ℕ) → IsTrue (speaks_way Down t (grants_to_open s h) (record { client = 0; view = v; way = Down })) → nat_eq 1 v ≡ true
here5 s h t b v e = subst (λ x. x) (ap (λ x. IsTrue x) (speaks-is v)) e
  where
    speaks-is : (v : ℕ) → speaks_way Down t (grants_to_open s h) (record { client = 0; view = v; way = Down }) ≡ nat_eq 1 v
    speaks-is v = rw (b.server_of v) (rw b.seat refl)

by5 : (s : Sectors) (h : Homes) (t : List Noted) → At (setting 2 s) t (known5 s h) → At (setting 2 s) ((grants_to_open s h) ∷ t) (known6 s h) → (c v : ℕ) (way : Way) → IsTrue (speaks_way way t (grants_to_open s h) (record { client = c; view = v; way = way })) → sent_on (record { client = c; view = v; way = way }) (grants_to_open s h) ≡ again (setting 2 s) (record { client = c; view = v; way = way }) (grants_to_open s h) t ++ fresh (setting 2 s) (record { client = c; view = v; way = way }) (grants_to_open s h) t ++ bare (setting 2 s) (record { client = c; view = v; way = way }) (grants_to_open s h) t
by5 s h t a b c v Up speaking = absurd (not-so speaking)
by5 s h t a b c v Down speaking = of-server (λ v. sent_on (record { client = c; view = v; way = Down }) (grants_to_open s h) ≡ again (setting 2 s) (record { client = c; view = v; way = Down }) (grants_to_open s h) t ++ fresh (setting 2 s) (record { client = c; view = v; way = Down }) (grants_to_open s h) t ++ bare (setting 2 s) (record { client = c; view = v; way = Down }) (grants_to_open s h) t) v (here5 s h t b v speaking) (of-both (λ c. sent_on (lane c Down) (grants_to_open s h) ≡ again (setting 2 s) (lane c Down) (grants_to_open s h) t ++ fresh (setting 2 s) (lane c Down) (grants_to_open s h) t ++ bare (setting 2 s) (lane c Down) (grants_to_open s h) t) c (sends (setting 2 s) (lane 0 Down) (grants_to_open s h) t (known5 s h).down0 (known6 s h).down0 2 (Some (carrying (lane 0 Up) 2 1 (asks_open 2))) a.down0 b.down0 b.up0.taken (b.server_of 1) (heard5 s h t a) refl) (sends (setting 2 s) (lane 1 Down) (grants_to_open s h) t (known5 s h).down1 (known6 s h).down1 0 (Some (carrying (lane 0 Up) 2 1 (asks_open 2))) a.down1 b.down1 b.up1.taken (b.server_of 1) (heard5 s h t a) refl) (λ e f. other5 s h t a b c e f))

none5 : (s : Sectors) (h : Homes) (t : List Noted) → At (setting 2 s) t (known5 s h) → (l : Lane) → again (setting 2 s) l (grants_to_open s h) t ≡ []
none5 s h t a l = by (same_lane (lane 0 Down) l) refl
  where
    by : (x : Bool) → same_lane (lane 0 Down) l ≡ x → again (setting 2 s) l (grants_to_open s h) t ≡ []
    by true e = of-lane (λ l. again (setting 2 s) l (grants_to_open s h) t ≡ []) 0 Down l e (no-more (setting 2 s) (lane 0 Down) (grants_to_open s h) t (known5 s h).down0 a.down0 refl)
    by false e = rw e refl

pub delivery5 : (s : Sectors) (h : Homes) (t : List Noted) → At (setting 2 s) t (known5 s h) → At (setting 2 s) ((grants_to_open s h) ∷ t) (known6 s h) → KeepsDelivery (setting 2 s) (grants_to_open s h) t
delivery5 s h t a b = record {
  delivered = rw a.packets refl;
  told = inr (((rw (b.server_of 1) (rw b.seat refl), search rules, ((omega arith, omega arith), search rules)), record {}));
  sent = λ l speaking runs. by5 s h t a b l.client l.view l.way speaking;
  no_other = (record { lane = lane 0 Down; goes = search rules; speaks_there = rw (b.server_of 1) (rw b.seat refl) }, record {});
  halted = λ e. absurd (not-so e);
  no_repeat = λ l e. none5 s h t a l;
}

pub event5 : (s : Sectors) (h : Homes) (t : List Noted) → At (setting 2 s) t (known5 s h) → KeepsEvent (setting 2 s) (grants_to_open s h) t
event5 s h t a = record { may = rw a.seat refl }

pub resend5 : (s : Sectors) (h : Homes) (t : List Noted) → At (setting 2 s) t (known5 s h) → KeepsResend (setting 2 s) (grants_to_open s h) t
resend5 s h t a = record { resent = λ l tick speaking runs. absurd (not-so tick); quiet = λ tick clients. absurd (not-so tick) }

pub used5 : (s : Sectors) (h : Homes) (t : List Noted) → At (setting 2 s) t (known5 s h) → KeepsUse (setting 2 s) (grants_to_open s h) t
unfolding client_after reply_in hears next_of is_covered owed messages_of with_items uses_items with_holds revoked_all revoking_all empty_tree first_nodes shown_nodes names_of
used5 s h t a = record { client = record {}; server = rw a.seat (rw (taken5 s h t a) refl) }

pub answer5 : (s : Sectors) (h : Homes) (t : List Noted) → At (setting 2 s) t (known5 s h) → KeepsAnswer (setting 2 s) (grants_to_open s h) t
unfolding client_after reply_in hears next_of is_covered owed messages_of with_items uses_items with_holds revoked_all revoking_all empty_tree first_nodes shown_nodes names_of
answer5 s h t a = record { client = record {}; others = refl }

pub release5 : (s : Sectors) (h : Homes) (t : List Noted) → At (setting 2 s) t (known5 s h) → KeepsRelease (setting 2 s) (grants_to_open s h) t
unfolding client_after reply_in hears next_of is_covered owed messages_of with_items uses_items with_holds revoked_all revoking_all empty_tree first_nodes shown_nodes names_of
release5 s h t a = record { client = record {} }

pub service5 : (s : Sectors) (h : Homes) (t : List Noted) → At (setting 2 s) t (known5 s h) → KeepsService (setting 2 s) (grants_to_open s h) t
unfolding client_after after_acts after_act hearing listing_all blocks shown_nodes names_of clients_below asked_with answered_all entries_of final_acts writes_of_acts first_empty has_crashed
service5 s h t a = record {
  server = rw a.seat (record {
    mounts = record {};
    acts = rw (begins5 s h t a) (rw (taken5 s h t a) ((
      record {},
      record {
        grants = record {
          want = OpenWant (creating.a ∷ []);
          admitted = refl;
          head_is = refl;
          unblocked = rw get-a (rw free-created refl);
          room = rw get-a (rw free-created refl);
          lacks = rw get-a refl;
          each = (record { fresh = refl; content = record { same = sym entries-a; kinds = listed-kinds } }, (record { fresh = refl; content = refl }, record {}));
        };
        refuses = record {};
        commits = record {};
        collects = record {};
        revokes = record {};
        removes = record {};
        reserve = λ admitted. omega arith;
      },
    )));
    reserve = rw (begins5 s h t a) (λ admitted. omega arith);
    ends = rw (begins5 s h t a) (rw (taken5 s h t a) (record {
      taken = λ used admitted. absurd (never admitted);
      collected = record { asked = refl; admitted = λ was now. refl };
      line = record { named_is = refl; asked = refl };
      removed = λ tick. absurd (not-so tick);
    }));
  });
}

pub entries5 : (s : Sectors) (h : Homes) (t : List Noted) → At (setting 2 s) t (known5 s h) → KeepsEntries (setting 2 s) (grants_to_open s h) t
unfolding client_after after_acts after_act hearing listing_all blocks shown_nodes names_of clients_below asked_with answered_all entries_of final_acts writes_of_acts first_empty has_crashed
entries5 s h t a = record { server = rw a.seat refl; none = rw a.seat (record {}); done = (record {}, record {}); head = rw a.seat (record {}); halted = λ e. absurd (not-so e) }

pub purge5 : (s : Sectors) (h : Homes) (t : List Noted) → At (setting 2 s) t (known5 s h) → KeepsPurge (setting 2 s) (grants_to_open s h) t
purge5 s h t a = record { after_gone = record {} }

pub disk5 : (s : Sectors) (h : Homes) (t : List Noted) → At (setting 2 s) t (known5 s h) → KeepsDisk (setting 2 s) (grants_to_open s h) t
unfolding client_after after_acts after_act hearing listing_all blocks shown_nodes names_of clients_below asked_with answered_all entries_of final_acts writes_of_acts first_empty has_crashed
disk5 s h t a = record { disk = rw a.seat (rw a.disk (record { ends = (refl, record {}); key = (refl, inl refl); own = record {}; sectors = refl; faults = omega arith })); meets = rw a.seat (rw a.disk (λ other. absurd (other refl))) }

pub held5 : (s : Sectors) (h : Homes) (t : List Noted) → At (setting 2 s) t (known5 s h) → KeepsHeld (setting 2 s) (grants_to_open s h) t
held5 s h t a = record { held = sym a.held }

pub keeps5 : (s : Sectors) (h : Homes) (t : List Noted) → At (setting 2 s) t (known5 s h) → KeepsMechanism (setting 2 s) (grants_to_open s h) t
keeps5 s h t a = record { event = event5 s h t a; delivery = delivery5 s h t a (next5 s h t a); resend = resend5 s h t a; used = used5 s h t a; answer = answer5 s h t a; release = release5 s h t a; service = service5 s h t a; entries = entries5 s h t a; purge = purge5 s h t a; disk = disk5 s h t a; held = held5 s h t a }
