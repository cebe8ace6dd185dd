-- The server commits the flush, and grants the reader the bytes: the rules of this step, and the folds after it.
use Rattle.std.proofs.Common.{◌≡◌, ◌++◌, inl, inr, refl, rules, [], ◌∷◌, true, false, List, Some, IsTrue, ℕ, zero, suc, Bool, arith, length, sym, ap, ◌∙◌, nat_eq, subst}
use Rattle.std.specs.Prelude.{slice_set}
use Rattle.cal_fields.specs.Padded.{padded}
use Rattle.directory.specs.Directory.{first_empty}
use Rattle.message.specs.declared.message.Message.TheVariants.{Flush}
use Rattle.token_table.specs.Blockers.{clients_below}
use Rattle.tree_law.specs.Legal.{tree_of}
use Rattle.shared_disk.specs.Sectors.{written}
use Rattle.std.specs.Prelude.{◌<◌, slice_index, slice_index_or}
use Rattle.volume.specs.Volume.{file_byte}
use Rattle.volume_edit.specs.Edit.{inode_at, marked_all}
use Rattle.volume_plan.specs.Flushing.{free_from}
use Rattle.cluster_law.specs.Granting.{AreBytes}
use Rattle.std.proofs.lemmas.List.{get_or-set_other, get_or-set_same}
use Rattle.tree_law.specs.Tree.{empty_tree, first_nodes}
use Rattle.tree_law.specs.declared.request.Asked.TheVariants.{Want as Wants}
use Rattle.tree_law.specs.declared.request.Want.TheVariants.{Read as ReadWant}
use Rattle.volume_edit.specs.Edit.{edited}
use Rattle.volume_edit.specs.Homes.{AreHomes}
use Rattle.volume_plan.specs.Shown.{names_of, shown_nodes}
use Rattle.cluster_law.specs.Blocking.{blocks}
use Rattle.cluster_law.specs.Book.{revoked_all, with_holds, with_items}
use Rattle.cluster_law.specs.ClientRules.{KeepsAnswer, KeepsRelease, messages_of, uses_items}
use Rattle.cluster_law.specs.ClientState.{client_after, hears, reply_in}
use Rattle.cluster_law.specs.Coverage.{is_covered, next_of}
use Rattle.cluster_law.specs.Delivery.{KeepsDelivery, KeepsResend, again, bare, fresh, sent_on, speaks_way}
use Rattle.cluster_law.specs.DiskRules.{KeepsDisk, KeepsHeld}
use Rattle.cluster_law.specs.History.{before_acts, client_at, final_acts, history, server_at, writes_of_acts}
use Rattle.cluster_law.specs.Lanes.{Down, Lane, Up, Way, same_lane}
use Rattle.cluster_law.specs.Law.{KeepsMechanism}
use Rattle.cluster_law.specs.Noted.{Noted}
use Rattle.cluster_law.specs.Owed.{owed, revoking_all}
use Rattle.cluster_law.specs.Rules.{KeepsEntries, KeepsEvent, KeepsPurge, KeepsService, KeepsUse}
use Rattle.cluster_law.specs.ServerRules.{entries_of}
use Rattle.cluster_law.specs.ServerState.{after_act, after_acts, answered_all, as_request, asked_with, hearing, listing_all}
use Rattle.cluster_law.specs.Sessions.{client_view, heard, made_in, taken, told_in}
use Rattle.cluster_law.specs.Trace.{has_crashed, own_sectors, packets, seat, sectors_at, server_of}
use Rattle.law_rows.proofs.Knowing.{At, counts-next, free-blocks, room, no-more, of-both, of-lane, sends, silent, sweeps}
use Rattle.law_rows.proofs.Lanes.{not-so, of-server}
use Rattle.law_rows.specs.CreateFile as creating
use Rattle.law_rows.specs.ForeignRead.{Homes, flush, flushed_homes, flushing, hi, lane, lays, piece, reader, commits_flush, with_file}
use Rattle.law_rows.specs.Formatted.{Sectors, setting}
use Rattle.law_rows.specs.Packets.{carrying}
use Rattle.law_rows.proofs.KnownValues.{table_both, asked_down, collected, tables_both, flushed, known20, known21}

never : true ≡ false → ⊥
never e = cc

-- the bytes that were laid stand where the flushed inode points
laid-bytes : (own : List (List ℕ)) (h : Homes) → 549 < length own → AreBytes (written (written own lays) (flushed_homes h)) (inode_at (edited with_file flushing).inodes 1) hi
unfolding marked_all free_from
laid-bytes own h long = record { size = refl; each = byte }
  where
    one : List (List ℕ)
    one = slice_set own 549 piece

    two : List (List ℕ)
    two = slice_set one 19 h.map_flushed

    three : List (List ℕ)
    three = slice_set two 20 (0 ∷ h.slot_flushed)

    laid : slice_index_or (slice_set three 37 h.file_flushed) 549 [] ≡ piece
    laid = get_or-set_other three 37 549 h.file_flushed [] (omega arith) ∙ get_or-set_other two 20 549 (0 ∷ h.slot_flushed) [] (omega arith) ∙ get_or-set_other one 19 549 h.map_flushed [] (omega arith) ∙ get_or-set_same own 549 piece [] long

    byte : (i : ℕ) → i < 2 → slice_index hi i ≡ file_byte (written (written own lays) (flushed_homes h)) (inode_at (edited with_file flushing).inodes 1) i
    byte zero below = sym (ap (λ sector. slice_index sector 0) laid)
    byte (suc zero) below = sym (ap (λ sector. slice_index sector 1) laid)
    byte (suc (suc i)) below = absurd (omega arith)

pub heard20 : (s : Sectors) (h : Homes) (t : List Noted) → At (setting 2 s) t (known20 s h) → heard (setting 2 s) t (commits_flush s h) ≡ Some (carrying (lane 0 Up) 4 4 (Flush flush))
unfolding heard
heard20 s h t a = rw a.packets (rw a.seat (rw a.present0 refl))

pub taken20 : (s : Sectors) (h : Homes) (t : List Noted) → At (setting 2 s) t (known20 s h) → taken (setting 2 s) t (commits_flush s h) ≡ Some (record { lane = lane 0 Up; message = Flush flush })
unfolding taken
taken20 s h t a = rw (heard20 s h t a) (rw a.up0.taken (rw a.up0.made refl))

pub begins20 : (s : Sectors) (h : Homes) (t : List Noted) → At (setting 2 s) t (known20 s h) → before_acts (setting 2 s) 1 (commits_flush s h) t ≡ record { collecting = collected table_both; requests = as_request reader 2 (Wants (ReadWant creating.made)) ∷ []; asked = asked_down; volume = with_file; sectors = own_sectors (setting 2 s) 1 t }
unfolding marked_all free_from client_after after_acts after_act hearing listing_all blocks shown_nodes names_of clients_below asked_with answered_all entries_of final_acts writes_of_acts first_empty has_crashed
begins20 s h t a = rw (taken20 s h t a) (rw a.collecting (rw a.requests (rw a.asked (rw a.volume refl))))

ends20 : (s : Sectors) (h : Homes) (t : List Noted) → At (setting 2 s) t (known20 s h) → server_at (setting 2 s) 1 ((commits_flush s h) ∷ t) ≡ after_acts (record { collecting = collected table_both; requests = as_request reader 2 (Wants (ReadWant creating.made)) ∷ []; asked = asked_down; volume = with_file; sectors = own_sectors (setting 2 s) 1 t }) (commits_flush s h).acts
unfolding server_at
ends20 s h t a = rw a.seat (rw (begins20 s h t a) refl)

pub tree20 : (s : Sectors) (h : Homes) (t : List Noted) → At (setting 2 s) t (known20 s h) → tree_of (history ((commits_flush s h) ∷ t)) ≡ (known21 s h).tree
unfolding history empty_tree first_nodes
tree20 s h t a = rw a.tree (sweeps flushed tables_both)

pub next20 : (s : Sectors) (h : Homes) (t : List Noted) → At (setting 2 s) t (known20 s h) → At (setting 2 s) ((commits_flush s h) ∷ t) (known21 s h)
unfolding marked_all free_from padded packets seat server_of client_view has_crashed own_sectors sectors_at made_in told_in client_at server_at history after_acts after_act asked_with answered_all clients_below
next20 s h t a = record {
  packets = rw a.packets refl;
  seat = a.seat;
  server_of = λ v. a.server_of v;
  view0 = rw a.packets a.view0;
  view1 = rw a.packets a.view1;
  crashed0 = a.crashed0;
  crashed1 = a.crashed1;
  present0 = refl;
  present1 = refl;
  up0 = counts-next (setting 2 s) (lane 0 Up) (commits_flush s h) t (known20 s h).up0 (Some (carrying (lane 0 Up) 4 4 (Flush flush))) a.up0 (heard20 s h t a);
  down0 = counts-next (setting 2 s) (lane 0 Down) (commits_flush s h) t (known20 s h).down0 (Some (carrying (lane 0 Up) 4 4 (Flush flush))) a.down0 (heard20 s h t a);
  up1 = counts-next (setting 2 s) (lane 1 Up) (commits_flush s h) t (known20 s h).up1 (Some (carrying (lane 0 Up) 4 4 (Flush flush))) a.up1 (heard20 s h t a);
  down1 = counts-next (setting 2 s) (lane 1 Down) (commits_flush s h) t (known20 s h).down1 (Some (carrying (lane 0 Up) 4 4 (Flush flush))) a.down1 (heard20 s h t a);
  others = λ c e f. rw (a.others c e f) (rw e (rw f refl));
  client0 = a.client0;
  client1 = a.client1;
  tree = tree20 s h t a;
  disk = refl;
  held = refl;
  collecting = ap (λ x. x.collecting) (ends20 s h t a) ∙ refl;
  requests = ap (λ x. x.requests) (ends20 s h t a) ∙ refl;
  asked = ap (λ x. x.asked) (ends20 s h t a) ∙ refl;
  volume = ap (λ x. x.volume) (ends20 s h t a) ∙ refl;
}

other20 : (s : Sectors) (h : Homes) (t : List Noted) → At (setting 2 s) t (known20 s h) → At (setting 2 s) ((commits_flush s h) ∷ t) (known21 s h) → (c : ℕ) → nat_eq 0 c ≡ false → nat_eq 1 c ≡ false → sent_on (lane c Down) (commits_flush s h) ≡ again (setting 2 s) (lane c Down) (commits_flush s h) t ++ fresh (setting 2 s) (lane c Down) (commits_flush s h) t ++ bare (setting 2 s) (lane c Down) (commits_flush s h) t
other20 s h t a b c e f = silent (setting 2 s) (lane c Down) (commits_flush s h) t (Some (carrying (lane 0 Up) 4 4 (Flush flush))) (a.others c e f) (b.others c e f) (heard20 s h t a) (rw e refl) (rw e (rw f refl))

here20 : (s : Sectors) (h : Homes) (t : List Noted) → At (setting 2 s) ((commits_flush s h) ∷ t) (known21 s h) → (v : ℕ) → IsTrue (speaks_way Down t (commits_flush s h) (record { client = 0; view = v; way = Down })) → nat_eq 1 v ≡ true
here20 s h t b v e = subst (λ x. x) (ap (λ x. IsTrue x) (speaks-is v)) e
  where
    speaks-is : (v : ℕ) → speaks_way Down t (commits_flush s h) (record { client = 0; view = v; way = Down }) ≡ nat_eq 1 v
    speaks-is v = rw (b.server_of v) (rw b.seat refl)

by20 : (s : Sectors) (h : Homes) (t : List Noted) → At (setting 2 s) t (known20 s h) → At (setting 2 s) ((commits_flush s h) ∷ t) (known21 s h) → (c v : ℕ) (way : Way) → IsTrue (speaks_way way t (commits_flush s h) (record { client = c; view = v; way = way })) → sent_on (record { client = c; view = v; way = way }) (commits_flush s h) ≡ again (setting 2 s) (record { client = c; view = v; way = way }) (commits_flush s h) t ++ fresh (setting 2 s) (record { client = c; view = v; way = way }) (commits_flush s h) t ++ bare (setting 2 s) (record { client = c; view = v; way = way }) (commits_flush s h) t
by20 s h t a b c v Up speaking = absurd (not-so speaking)
by20 s h t a b c v Down speaking = of-server (λ v. sent_on (record { client = c; view = v; way = Down }) (commits_flush s h) ≡ again (setting 2 s) (record { client = c; view = v; way = Down }) (commits_flush s h) t ++ fresh (setting 2 s) (record { client = c; view = v; way = Down }) (commits_flush s h) t ++ bare (setting 2 s) (record { client = c; view = v; way = Down }) (commits_flush s h) t) v (here20 s h t b v speaking) (of-both (λ c. sent_on (lane c Down) (commits_flush s h) ≡ again (setting 2 s) (lane c Down) (commits_flush s h) t ++ fresh (setting 2 s) (lane c Down) (commits_flush s h) t ++ bare (setting 2 s) (lane c Down) (commits_flush s h) t) c (sends (setting 2 s) (lane 0 Down) (commits_flush s h) t (known20 s h).down0 (known21 s h).down0 4 (Some (carrying (lane 0 Up) 4 4 (Flush flush))) a.down0 b.down0 b.up0.taken (b.server_of 1) (heard20 s h t a) refl) (sends (setting 2 s) (lane 1 Down) (commits_flush s h) t (known20 s h).down1 (known21 s h).down1 2 (Some (carrying (lane 0 Up) 4 4 (Flush flush))) a.down1 b.down1 b.up1.taken (b.server_of 1) (heard20 s h t a) refl) (λ e f. other20 s h t a b c e f))

none20 : (s : Sectors) (h : Homes) (t : List Noted) → At (setting 2 s) t (known20 s h) → (l : Lane) → again (setting 2 s) l (commits_flush s h) t ≡ []
none20 s h t a l = by (same_lane (lane 0 Down) l) (same_lane (lane 1 Down) l) refl refl
  where
    by : (x y : Bool) → same_lane (lane 0 Down) l ≡ x → same_lane (lane 1 Down) l ≡ y → again (setting 2 s) l (commits_flush s h) t ≡ []
    by true y e f = of-lane (λ l. again (setting 2 s) l (commits_flush s h) t ≡ []) 0 Down l e (no-more (setting 2 s) (lane 0 Down) (commits_flush s h) t (known20 s h).down0 a.down0 refl)
    by false true e f = of-lane (λ l. again (setting 2 s) l (commits_flush s h) t ≡ []) 1 Down l f (no-more (setting 2 s) (lane 1 Down) (commits_flush s h) t (known20 s h).down1 a.down1 refl)
    by false false e f = rw e (rw f refl)

pub delivery20 : (s : Sectors) (h : Homes) (t : List Noted) → At (setting 2 s) t (known20 s h) → At (setting 2 s) ((commits_flush s h) ∷ t) (known21 s h) → KeepsDelivery (setting 2 s) (commits_flush s h) t
delivery20 s h t a b = record {
  delivered = rw a.packets refl;
  told = inr (((rw (b.server_of 1) (rw b.seat refl), search rules, ((omega arith, omega arith), search rules)), ((rw (b.server_of 1) (rw b.seat refl), search rules, omega arith), (record {}, record {}))));
  sent = λ l speaking runs. by20 s h t a b l.client l.view l.way speaking;
  no_other = (record { lane = lane 0 Down; goes = search rules; speaks_there = rw (b.server_of 1) (rw b.seat refl) }, (record { lane = lane 1 Down; goes = search rules; speaks_there = rw (b.server_of 1) (rw b.seat refl) }, record {}));
  halted = λ e. absurd (not-so e);
  no_repeat = λ l e. none20 s h t a l;
}

pub event20 : (s : Sectors) (h : Homes) (t : List Noted) → At (setting 2 s) t (known20 s h) → KeepsEvent (setting 2 s) (commits_flush s h) t
event20 s h t a = record { may = rw a.seat refl }

pub resend20 : (s : Sectors) (h : Homes) (t : List Noted) → At (setting 2 s) t (known20 s h) → KeepsResend (setting 2 s) (commits_flush s h) t
resend20 s h t a = record { resent = λ l tick speaking runs. absurd (not-so tick); quiet = λ tick clients. absurd (not-so tick) }

pub used20 : (s : Sectors) (h : Homes) (t : List Noted) → At (setting 2 s) t (known20 s h) → KeepsUse (setting 2 s) (commits_flush s h) t
unfolding client_after reply_in hears next_of is_covered owed messages_of with_items uses_items with_holds revoked_all revoking_all empty_tree first_nodes shown_nodes names_of
used20 s h t a = record { client = record {}; server = rw a.seat (rw (taken20 s h t a) (rw a.collecting (rw a.volume (rw free-blocks refl)))) }

pub answer20 : (s : Sectors) (h : Homes) (t : List Noted) → At (setting 2 s) t (known20 s h) → KeepsAnswer (setting 2 s) (commits_flush s h) t
unfolding client_after reply_in hears next_of is_covered owed messages_of with_items uses_items with_holds revoked_all revoking_all empty_tree first_nodes shown_nodes names_of
answer20 s h t a = record { client = record {}; others = refl }

pub release20 : (s : Sectors) (h : Homes) (t : List Noted) → At (setting 2 s) t (known20 s h) → KeepsRelease (setting 2 s) (commits_flush s h) t
unfolding client_after reply_in hears next_of is_covered owed messages_of with_items uses_items with_holds revoked_all revoking_all empty_tree first_nodes shown_nodes names_of
release20 s h t a = record { client = record {} }

pub service20 : (s : Sectors) (h : Homes) (t : List Noted) → At (setting 2 s) t (known20 s h) → AreHomes with_file flushing (flushed_homes h) → 549 < length (own_sectors (setting 2 s) 1 t) → KeepsService (setting 2 s) (commits_flush s h) t
unfolding marked_all free_from client_after after_acts after_act hearing listing_all blocks shown_nodes names_of clients_below asked_with answered_all entries_of final_acts writes_of_acts first_empty has_crashed
service20 s h t a spelled long = record {
  server = rw a.seat (record {
    mounts = record {};
    acts = rw (begins20 s h t a) (rw (taken20 s h t a) ((
      (
        (
          record {},
          record {
            grants = record {};
            refuses = record {};
            commits = (record { taken = (refl, refl); next = refl; fits = refl; lays_is = refl; edit_is = refl }, spelled);
            collects = record {};
            revokes = record {};
            removes = record {};
            reserve = λ admitted. omega arith;
          },
        ),
        record {
          grants = record {};
          refuses = record {};
          commits = record { flush = flush; taken = (refl, refl); number_is = refl; lasts = omega arith };
          collects = refl;
          revokes = record {};
          removes = record {};
          reserve = λ admitted. omega arith;
        },
      ),
      record {
        grants = record {
          want = ReadWant creating.made;
          admitted = refl;
          head_is = refl;
          unblocked = refl;
          room = refl;
          lacks = refl;
          each = (record { fresh = refl; content = laid-bytes (own_sectors (setting 2 s) 1 t) h long }, (record { fresh = refl; content = refl }, record {}));
        };
        refuses = record {};
        commits = record {};
        collects = record {};
        revokes = record {};
        removes = record {};
        reserve = λ admitted. omega arith;
      },
    )));
    reserve = rw (begins20 s h t a) (λ admitted. room);
    ends = rw (begins20 s h t a) (rw (taken20 s h t a) (record {
      taken = λ used. refl;
      collected = record { asked = refl; admitted = λ was now. refl };
      line = record { named_is = refl; asked = refl };
      removed = λ tick. absurd (not-so tick);
    }));
  });
}

pub entries20 : (s : Sectors) (h : Homes) (t : List Noted) → At (setting 2 s) t (known20 s h) → KeepsEntries (setting 2 s) (commits_flush s h) t
unfolding marked_all free_from client_after after_acts after_act hearing listing_all blocks shown_nodes names_of clients_below asked_with answered_all entries_of final_acts writes_of_acts first_empty has_crashed
entries20 s h t a = record { server = rw a.seat refl; none = rw a.seat (record {}); done = (((record {}, record {}), record {}), record {}); head = rw a.seat (record {}); halted = λ e. absurd (not-so e) }

pub purge20 : (s : Sectors) (h : Homes) (t : List Noted) → At (setting 2 s) t (known20 s h) → KeepsPurge (setting 2 s) (commits_flush s h) t
purge20 s h t a = record { after_gone = (record {}, record {}) }

pub disk20 : (s : Sectors) (h : Homes) (t : List Noted) → At (setting 2 s) t (known20 s h) → KeepsDisk (setting 2 s) (commits_flush s h) t
unfolding marked_all free_from client_after after_acts after_act hearing listing_all blocks shown_nodes names_of clients_below asked_with answered_all entries_of final_acts writes_of_acts first_empty has_crashed
disk20 s h t a = record { disk = rw a.seat (rw a.disk (record { ends = (refl, record {}); key = (refl, inl refl); own = record {}; sectors = refl; faults = omega arith })); meets = rw a.seat (rw a.disk (λ other. absurd (other refl))) }

pub held20 : (s : Sectors) (h : Homes) (t : List Noted) → At (setting 2 s) t (known20 s h) → KeepsHeld (setting 2 s) (commits_flush s h) t
held20 s h t a = record { held = sym a.held }

pub keeps20 : (s : Sectors) (h : Homes) (t : List Noted) → At (setting 2 s) t (known20 s h) → AreHomes with_file flushing (flushed_homes h) → 549 < length (own_sectors (setting 2 s) 1 t) → KeepsMechanism (setting 2 s) (commits_flush s h) t
keeps20 s h t a spelled long = record { event = event20 s h t a; delivery = delivery20 s h t a (next20 s h t a); resend = resend20 s h t a; used = used20 s h t a; answer = answer20 s h t a; release = release20 s h t a; service = service20 s h t a spelled long; entries = entries20 s h t a; purge = purge20 s h t a; disk = disk20 s h t a; held = held20 s h t a }
