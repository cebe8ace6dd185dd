-- The server commits the file: the rules of this step, and the folds after it.
use Rattle.std.proofs.Common.{◌≡◌, ◌++◌, inl, inr, refl, rules, [], ◌∷◌, true, false, List, Some, IsTrue, ℕ, Bool, arith, sym, ap, ◌∙◌, nat_eq, subst}
use Rattle.std.specs.Prelude.{replicate}
use Rattle.std.specs.FinMap as finite
use Rattle.std.proofs.lemmas.List.Elements.{Contains-get_or}
use Rattle.cal_base.specs.declared.identity.Ino.{Ino}
use Rattle.cal_fields.specs.Padded.{padded}
use Rattle.directory.specs.Directory.{first_empty}
use Rattle.inode.specs.declared.inode.Kind.TheVariants.{File}
use Rattle.std.specs.Prelude.{Ok}
use Rattle.token_table.specs.Blockers.{clients_below}
use Rattle.tree_law.specs.FileState.{new_file}
use Rattle.tree_law.specs.Legal.{tree_of}
use Rattle.tree_law.specs.Resolve.{new_place}
use Rattle.tree_law.specs.Tree.{empty_tree, first_nodes, no_descriptors, root}
use Rattle.tree_law.specs.declared.reply.Reply.TheVariants.{Done as Made}
use Rattle.tree_law.specs.declared.request.Asked.TheVariants.{Change as Alters}
use Rattle.volume_edit.specs.Homes.{AreHomes}
use Rattle.volume_plan.specs.Plans.{Plan, making_at, plan}
use Rattle.volume_plan.specs.Shown.{names_of, shown, shown_nodes}
use Rattle.cluster_law.specs.Blocking.{blocks}
use Rattle.cluster_law.specs.Book.{revoked_all, with_holds, with_items}
use Rattle.cluster_law.specs.ClientRules.{KeepsAnswer, KeepsRelease, messages_of, uses_items}
use Rattle.cluster_law.specs.ClientState.{client_after, hears, reply_in}
use Rattle.cluster_law.specs.Coverage.{is_covered, next_of}
use Rattle.cluster_law.specs.Delivery.{KeepsDelivery, KeepsResend, again, bare, fresh, sent_on, speaks_way}
use Rattle.cluster_law.specs.DiskRules.{KeepsDisk, KeepsHeld}
use Rattle.cluster_law.specs.History.{before_acts, client_at, final_acts, history, server_at, writes_of_acts}
use Rattle.cluster_law.specs.Lanes.{Down, Lane, Up, Way, same_lane}
use Rattle.cluster_law.specs.Law.{KeepsMechanism}
use Rattle.cluster_law.specs.Noted.{Noted}
use Rattle.cluster_law.specs.Owed.{owed, revoking_all}
use Rattle.cluster_law.specs.Rules.{KeepsEntries, KeepsEvent, KeepsPurge, KeepsService, KeepsUse}
use Rattle.cluster_law.specs.ServerRules.{entries_of}
use Rattle.cluster_law.specs.ServerState.{after_act, after_acts, answered_all, as_request, asked_with, empty_table, hearing, listing_all}
use Rattle.cluster_law.specs.Sessions.{client_view, heard, made_in, taken, told_in}
use Rattle.cluster_law.specs.Trace.{has_crashed, own_sectors, packets, seat, sectors_at, server_of}
use Rattle.law_rows.proofs.Knowing.{At, counts-next, no-more, of-both, of-lane, sends, silent, sweeps}
use Rattle.law_rows.proofs.Lanes.{not-so, of-server}
use Rattle.law_rows.specs.CreateFile as creating
use Rattle.law_rows.specs.ForeignRead.{Homes, created_homes, lane, commits_create, writer}
use Rattle.law_rows.specs.Formatted.{Sectors, formatted, setting}
use Rattle.law_rows.specs.Packets.{carrying}
use Rattle.law_rows.proofs.KnownValues.{collected, known1, known2}

never : true ≡ false → ⊥
never e = cc

-- the file can be made in the root, which has no names
place-is : new_place (shown (formatted 2)) (creating.a ∷ []) ≡ Ok root
unfolding shown_nodes names_of first_empty
place-is = rw (finite.get-empty _ creating.a) (rw (finite.len-empty _ _) refl)

-- the plan of the change
abbrev planned : Plan
planned = record { edit = creating.creation; reply = Made; new_ino = Some creating.made; touches = (root, 1) ∷ []; needed = 1 }

plan-is : (opened : List Ino) → plan (formatted 2) writer 1 creating.create opened ≡ planned
unfolding shown_nodes names_of first_empty
plan-is opened = ap (λ place. making_at (formatted 2) writer 1 place creating.a File) place-is

pub heard1 : (s : Sectors) (h : Homes) (t : List Noted) → At (setting 2 s) t (known1 s h) → heard (setting 2 s) t (commits_create s h) ≡ Some (carrying (lane 0 Up) 1 0 creating.asked)
unfolding heard
heard1 s h t a = rw a.packets (rw a.seat (rw a.present0 refl))

pub taken1 : (s : Sectors) (h : Homes) (t : List Noted) → At (setting 2 s) t (known1 s h) → taken (setting 2 s) t (commits_create s h) ≡ Some (record { lane = lane 0 Up; message = creating.asked })
unfolding taken
taken1 s h t a = rw (heard1 s h t a) (rw a.up0.taken (rw a.up0.made refl))

pub begins1 : (s : Sectors) (h : Homes) (t : List Noted) → At (setting 2 s) t (known1 s h) → before_acts (setting 2 s) 1 (commits_create s h) t ≡ record { collecting = collected empty_table; requests = as_request writer 1 (Alters creating.create) ∷ []; asked = []; volume = formatted 2; sectors = own_sectors (setting 2 s) 1 t }
unfolding client_after after_acts after_act hearing listing_all blocks shown_nodes names_of clients_below asked_with answered_all entries_of final_acts writes_of_acts first_empty has_crashed
begins1 s h t a = rw (taken1 s h t a) (rw a.collecting (rw a.requests (rw a.asked (rw a.volume refl))))

ends1 : (s : Sectors) (h : Homes) (t : List Noted) → At (setting 2 s) t (known1 s h) → server_at (setting 2 s) 1 ((commits_create s h) ∷ t) ≡ after_acts (record { collecting = collected empty_table; requests = as_request writer 1 (Alters creating.create) ∷ []; asked = []; volume = formatted 2; sectors = own_sectors (setting 2 s) 1 t }) (commits_create s h).acts
unfolding server_at
ends1 s h t a = rw a.seat (rw (begins1 s h t a) refl)

pub tree1 : (s : Sectors) (h : Homes) (t : List Noted) → At (setting 2 s) t (known1 s h) → tree_of (history ((commits_create s h) ∷ t)) ≡ (known2 s h).tree
unfolding history empty_tree first_nodes
tree1 s h t a = rw a.tree (rw (finite.get-empty _ creating.a) (rw (finite.len-empty _ _) (sweeps new_file (replicate 16 no_descriptors))))

pub next1 : (s : Sectors) (h : Homes) (t : List Noted) → At (setting 2 s) t (known1 s h) → At (setting 2 s) ((commits_create s h) ∷ t) (known2 s h)
unfolding padded packets seat server_of client_view has_crashed own_sectors sectors_at made_in told_in client_at server_at history after_acts after_act asked_with answered_all clients_below
next1 s h t a = record {
  packets = rw a.packets refl;
  seat = a.seat;
  server_of = λ v. a.server_of v;
  view0 = rw a.packets a.view0;
  view1 = rw a.packets a.view1;
  crashed0 = a.crashed0;
  crashed1 = a.crashed1;
  present0 = refl;
  present1 = refl;
  up0 = counts-next (setting 2 s) (lane 0 Up) (commits_create s h) t (known1 s h).up0 (Some (carrying (lane 0 Up) 1 0 creating.asked)) a.up0 (heard1 s h t a);
  down0 = counts-next (setting 2 s) (lane 0 Down) (commits_create s h) t (known1 s h).down0 (Some (carrying (lane 0 Up) 1 0 creating.asked)) a.down0 (heard1 s h t a);
  up1 = counts-next (setting 2 s) (lane 1 Up) (commits_create s h) t (known1 s h).up1 (Some (carrying (lane 0 Up) 1 0 creating.asked)) a.up1 (heard1 s h t a);
  down1 = counts-next (setting 2 s) (lane 1 Down) (commits_create s h) t (known1 s h).down1 (Some (carrying (lane 0 Up) 1 0 creating.asked)) a.down1 (heard1 s h t a);
  others = λ c e f. rw (a.others c e f) (rw e refl);
  client0 = a.client0;
  client1 = a.client1;
  tree = tree1 s h t a;
  disk = refl;
  held = refl;
  collecting = ap (λ x. x.collecting) (ends1 s h t a) ∙ refl;
  requests = ap (λ x. x.requests) (ends1 s h t a) ∙ refl;
  asked = ap (λ x. x.asked) (ends1 s h t a) ∙ refl;
  volume = ap (λ x. x.volume) (ends1 s h t a) ∙ refl;
}

other1 : (s : Sectors) (h : Homes) (t : List Noted) → At (setting 2 s) t (known1 s h) → At (setting 2 s) ((commits_create s h) ∷ t) (known2 s h) → (c : ℕ) → nat_eq 0 c ≡ false → nat_eq 1 c ≡ false → sent_on (lane c Down) (commits_create s h) ≡ again (setting 2 s) (lane c Down) (commits_create s h) t ++ fresh (setting 2 s) (lane c Down) (commits_create s h) t ++ bare (setting 2 s) (lane c Down) (commits_create s h) t
other1 s h t a b c e f = silent (setting 2 s) (lane c Down) (commits_create s h) t (Some (carrying (lane 0 Up) 1 0 creating.asked)) (a.others c e f) (b.others c e f) (heard1 s h t a) (rw e refl) (rw e refl)

here1 : (s : Sectors) (h : Homes) (t : List Noted) → At (setting 2 s) ((commits_create s h) ∷ t) (known2 s h) → (v : ℕ) → IsTrue (speaks_way Down t (commits_create s h) (record { client = 0; view = v; way = Down })) → nat_eq 1 v ≡ true
here1 s h t b v e = subst (λ x. x) (ap (λ x. IsTrue x) (speaks-is v)) e
  where
    speaks-is : (v : ℕ) → speaks_way Down t (commits_create s h) (record { client = 0; view = v; way = Down }) ≡ nat_eq 1 v
    speaks-is v = rw (b.server_of v) (rw b.seat refl)

by1 : (s : Sectors) (h : Homes) (t : List Noted) → At (setting 2 s) t (known1 s h) → At (setting 2 s) ((commits_create s h) ∷ t) (known2 s h) → (c v : ℕ) (way : Way) → IsTrue (speaks_way way t (commits_create s h) (record { client = c; view = v; way = way })) → sent_on (record { client = c; view = v; way = way }) (commits_create s h) ≡ again (setting 2 s) (record { client = c; view = v; way = way }) (commits_create s h) t ++ fresh (setting 2 s) (record { client = c; view = v; way = way }) (commits_create s h) t ++ bare (setting 2 s) (record { client = c; view = v; way = way }) (commits_create s h) t
by1 s h t a b c v Up speaking = absurd (not-so speaking)
by1 s h t a b c v Down speaking = of-server (λ v. sent_on (record { client = c; view = v; way = Down }) (commits_create s h) ≡ again (setting 2 s) (record { client = c; view = v; way = Down }) (commits_create s h) t ++ fresh (setting 2 s) (record { client = c; view = v; way = Down }) (commits_create s h) t ++ bare (setting 2 s) (record { client = c; view = v; way = Down }) (commits_create s h) t) v (here1 s h t b v speaking) (of-both (λ c. sent_on (lane c Down) (commits_create s h) ≡ again (setting 2 s) (lane c Down) (commits_create s h) t ++ fresh (setting 2 s) (lane c Down) (commits_create s h) t ++ bare (setting 2 s) (lane c Down) (commits_create s h) t) c (sends (setting 2 s) (lane 0 Down) (commits_create s h) t (known1 s h).down0 (known2 s h).down0 1 (Some (carrying (lane 0 Up) 1 0 creating.asked)) a.down0 b.down0 b.up0.taken (b.server_of 1) (heard1 s h t a) refl) (sends (setting 2 s) (lane 1 Down) (commits_create s h) t (known1 s h).down1 (known2 s h).down1 0 (Some (carrying (lane 0 Up) 1 0 creating.asked)) a.down1 b.down1 b.up1.taken (b.server_of 1) (heard1 s h t a) refl) (λ e f. other1 s h t a b c e f))

none1 : (s : Sectors) (h : Homes) (t : List Noted) → At (setting 2 s) t (known1 s h) → (l : Lane) → again (setting 2 s) l (commits_create s h) t ≡ []
none1 s h t a l = by (same_lane (lane 0 Down) l) refl
  where
    by : (x : Bool) → same_lane (lane 0 Down) l ≡ x → again (setting 2 s) l (commits_create s h) t ≡ []
    by true e = of-lane (λ l. again (setting 2 s) l (commits_create s h) t ≡ []) 0 Down l e (no-more (setting 2 s) (lane 0 Down) (commits_create s h) t (known1 s h).down0 a.down0 refl)
    by false e = rw e refl

pub delivery1 : (s : Sectors) (h : Homes) (t : List Noted) → At (setting 2 s) t (known1 s h) → At (setting 2 s) ((commits_create s h) ∷ t) (known2 s h) → KeepsDelivery (setting 2 s) (commits_create s h) t
delivery1 s h t a b = record {
  delivered = rw a.packets refl;
  told = inr (((rw (b.server_of 1) (rw b.seat refl), search rules, ((omega arith, omega arith), search rules)), (record {}, record {})));
  sent = λ l speaking runs. by1 s h t a b l.client l.view l.way speaking;
  no_other = (record { lane = lane 0 Down; goes = search rules; speaks_there = rw (b.server_of 1) (rw b.seat refl) }, record {});
  halted = λ e. absurd (not-so e);
  no_repeat = λ l e. none1 s h t a l;
}

pub event1 : (s : Sectors) (h : Homes) (t : List Noted) → At (setting 2 s) t (known1 s h) → KeepsEvent (setting 2 s) (commits_create s h) t
event1 s h t a = record { may = rw a.seat refl }

pub resend1 : (s : Sectors) (h : Homes) (t : List Noted) → At (setting 2 s) t (known1 s h) → KeepsResend (setting 2 s) (commits_create s h) t
resend1 s h t a = record { resent = λ l tick speaking runs. absurd (not-so tick); quiet = λ tick clients. absurd (not-so tick) }

pub used1 : (s : Sectors) (h : Homes) (t : List Noted) → At (setting 2 s) t (known1 s h) → KeepsUse (setting 2 s) (commits_create s h) t
unfolding client_after reply_in hears next_of is_covered owed messages_of with_items uses_items with_holds revoked_all revoking_all empty_tree first_nodes shown_nodes names_of
used1 s h t a = record { client = record {}; server = rw a.seat (rw (taken1 s h t a) refl) }

pub answer1 : (s : Sectors) (h : Homes) (t : List Noted) → At (setting 2 s) t (known1 s h) → KeepsAnswer (setting 2 s) (commits_create s h) t
unfolding client_after reply_in hears next_of is_covered owed messages_of with_items uses_items with_holds revoked_all revoking_all empty_tree first_nodes shown_nodes names_of
answer1 s h t a = record { client = record {}; others = refl }

pub release1 : (s : Sectors) (h : Homes) (t : List Noted) → At (setting 2 s) t (known1 s h) → KeepsRelease (setting 2 s) (commits_create s h) t
unfolding client_after reply_in hears next_of is_covered owed messages_of with_items uses_items with_holds revoked_all revoking_all empty_tree first_nodes shown_nodes names_of
release1 s h t a = record { client = record {} }

pub service1 : (s : Sectors) (h : Homes) (t : List Noted) → At (setting 2 s) t (known1 s h) → AreHomes (formatted 2) creating.creation (created_homes h) → KeepsService (setting 2 s) (commits_create s h) t
unfolding client_after after_acts after_act hearing listing_all blocks shown_nodes names_of clients_below asked_with answered_all entries_of final_acts writes_of_acts first_empty has_crashed
service1 s h t a spelled = record {
  server = rw a.seat (record {
    mounts = record {};
    acts = rw (begins1 s h t a) (rw (taken1 s h t a) ((
      (
        record {},
        record {
          grants = record {};
          refuses = record {};
          commits = (
            record {
              call = creating.create;
              admitted = refl;
              head_is = refl;
              call_is = refl;
              new = omega arith;
              unblocked = rw (finite.get-empty _ creating.a) (rw (finite.len-empty _ _) refl);
              reply_is = sym (ap (λ p. p.reply) (plan-is []));
              new_ino_is = sym (ap (λ p. p.new_ino) (plan-is []));
              edit_is = sym (ap (λ p. p.edit) (plan-is []));
              lays_none = refl;
            },
            spelled,
          );
          collects = record {};
          revokes = record {};
          removes = record {};
          reserve = λ admitted. omega arith;
        },
      ),
      record {
        grants = record {};
        refuses = record {};
        commits = record { call = creating.create; admitted = refl; head_is = refl; number_is = refl; reply_is = refl };
        collects = record {};
        revokes = record {};
        removes = record {};
        reserve = λ admitted. omega arith;
      },
    )));
    reserve = rw (begins1 s h t a) (λ admitted. omega arith);
    ends = rw (begins1 s h t a) (rw (taken1 s h t a) (record {
      taken = λ used admitted. absurd (never admitted);
      collected = record { asked = refl; admitted = λ was now. refl };
      line = record { named_is = refl; asked = refl };
      removed = λ tick. absurd (not-so tick);
    }));
  });
}

pub entries1 : (s : Sectors) (h : Homes) (t : List Noted) → At (setting 2 s) t (known1 s h) → KeepsEntries (setting 2 s) (commits_create s h) t
unfolding client_after after_acts after_act hearing listing_all blocks shown_nodes names_of clients_below asked_with answered_all entries_of final_acts writes_of_acts first_empty has_crashed
entries1 s h t a = record { server = rw a.seat refl; none = rw a.seat (record {}); done = ((record {}, record {}), record { call = creating.create; new_ino = Some creating.made; stands = Contains-get_or (creating.entry ∷ history t) 0 creating.entry (omega arith) }); head = rw a.seat (record {}); halted = λ e. absurd (not-so e) }

pub purge1 : (s : Sectors) (h : Homes) (t : List Noted) → At (setting 2 s) t (known1 s h) → KeepsPurge (setting 2 s) (commits_create s h) t
purge1 s h t a = record { after_gone = (record {}, record {}) }

pub disk1 : (s : Sectors) (h : Homes) (t : List Noted) → At (setting 2 s) t (known1 s h) → KeepsDisk (setting 2 s) (commits_create s h) t
unfolding client_after after_acts after_act hearing listing_all blocks shown_nodes names_of clients_below asked_with answered_all entries_of final_acts writes_of_acts first_empty has_crashed
disk1 s h t a = record { disk = rw a.seat (rw a.disk (record { ends = (refl, record {}); key = (refl, inl refl); own = record {}; sectors = refl; faults = omega arith })); meets = rw a.seat (rw a.disk (λ other. absurd (other refl))) }

pub held1 : (s : Sectors) (h : Homes) (t : List Noted) → At (setting 2 s) t (known1 s h) → KeepsHeld (setting 2 s) (commits_create s h) t
held1 s h t a = record { held = sym a.held }

pub keeps1 : (s : Sectors) (h : Homes) (t : List Noted) → At (setting 2 s) t (known1 s h) → AreHomes (formatted 2) creating.creation (created_homes h) → KeepsMechanism (setting 2 s) (commits_create s h) t
keeps1 s h t a spelled = record { event = event1 s h t a; delivery = delivery1 s h t a (next1 s h t a); resend = resend1 s h t a; used = used1 s h t a; answer = answer1 s h t a; release = release1 s h t a; service = service1 s h t a spelled; entries = entries1 s h t a; purge = purge1 s h t a; disk = disk1 s h t a; held = held1 s h t a }
