-- What each step answers, sends and commits as a file is created.
use Rattle.std.proofs.Common.{◌≡◌, inl, refl, rules, [], ◌∷◌, true, false, List, Some, ℕ, arith, sym, ap}
use Rattle.std.specs.FinMap as map
use Rattle.directory.specs.Directory.{first_empty}
use Rattle.token_table.specs.Blockers.{clients_below}
use Rattle.cal_base.specs.declared.identity.Ino.{Ino}
use Rattle.std.proofs.lemmas.List.Elements.{Contains-get_or}
use Rattle.inode.specs.declared.inode.Kind.TheVariants.{File}
use Rattle.tree_law.specs.Resolve.{new_place}
use Rattle.std.specs.Prelude.{Ok}
use Rattle.tree_law.specs.declared.reply.Reply.TheVariants.{Done as Made}
use Rattle.volume_edit.specs.Homes.{AreHomes}
use Rattle.volume_plan.specs.Plans.{Plan, making_at, plan}
use Rattle.tree_law.specs.Tree.{empty_tree, first_nodes, root}
use Rattle.volume_plan.specs.Shown.{names_of, shown, shown_nodes}
use Rattle.cluster_law.specs.Blocking.{blocks}
use Rattle.cluster_law.specs.Book.{with_items}
use Rattle.cluster_law.specs.ClientRules.{KeepsAnswer, KeepsRelease, messages_of, uses_items}
use Rattle.cluster_law.specs.ClientState.{client_after, hears, reply_in}
use Rattle.cluster_law.specs.Coverage.{is_covered, next_of}
use Rattle.cluster_law.specs.DiskRules.{KeepsDisk, KeepsHeld}
use Rattle.cluster_law.specs.History.{client_at, final_acts, history, server_at, writes_of_acts}
use Rattle.cluster_law.specs.Owed.{owed}
use Rattle.cluster_law.specs.Rules.{KeepsEntries, KeepsEvent, KeepsPurge, KeepsService, KeepsUse}
use Rattle.cluster_law.specs.ServerRules.{entries_of}
use Rattle.cluster_law.specs.ServerState.{after_act, after_acts, hearing, listing_all}
use Rattle.cluster_law.specs.Sessions.{client_view, heard, heard_in, made_in, taken, taken_in, told_in}
use Rattle.cluster_law.specs.Trace.{has_crashed, own_sectors, packets, seat, sectors_at, server_of, views}
use Rattle.law_rows.proofs.Lanes.{not-so}
use Rattle.law_rows.specs.Formatted.{Sectors, formatted, setting}
use Rattle.law_rows.specs.CreateFile.{a, answers, commits, create, creation, entry, first, made, starts}

-- the file can be made in the root, which has no names
place-is : new_place (shown (formatted 1)) (a ∷ []) ≡ Ok root
unfolding shown_nodes names_of first_empty
place-is = rw (map.get-empty _ a) (rw (map.len-empty _ _) refl)

-- the plan of the change
abbrev planned : Plan
planned = record { edit = creation; reply = Made; new_ino = Some made; touches = (root, 1) ∷ []; needed = 1 }

plan-is : (opened : List Ino) → plan (formatted 1) first 1 create opened ≡ planned
unfolding shown_nodes names_of first_empty
plan-is opened = ap (λ place. making_at (formatted 1) first 1 place a File) place-is

pub event0 : (s : Sectors) (homes : List (ℕ × List ℕ)) → KeepsEvent (setting 1 s) (starts s) []
unfolding client_at reply_in hears next_of is_covered history empty_tree first_nodes client_after taken owed messages_of heard seat sectors_at own_sectors packets server_of views taken_in heard_in made_in told_in client_view with_items uses_items has_crashed server_at after_acts after_act hearing listing_all blocks shown_nodes names_of clients_below first_empty
event0 s homes = record { may = (refl, ((search rules), refl), refl) }

pub answer0 : (s : Sectors) (homes : List (ℕ × List ℕ)) → KeepsAnswer (setting 1 s) (starts s) []
unfolding client_at reply_in hears next_of is_covered history empty_tree first_nodes client_after taken owed messages_of heard seat sectors_at own_sectors packets server_of views taken_in heard_in made_in told_in client_view with_items uses_items has_crashed server_at after_acts after_act hearing listing_all blocks shown_nodes names_of clients_below first_empty
answer0 s homes = record { client = record { answer_is = refl; entry_is = refl }; others = record {} }

pub release0 : (s : Sectors) (homes : List (ℕ × List ℕ)) → KeepsRelease (setting 1 s) (starts s) []
unfolding client_at reply_in hears next_of is_covered history empty_tree first_nodes client_after taken owed messages_of heard seat sectors_at own_sectors packets server_of views taken_in heard_in made_in told_in client_view with_items uses_items has_crashed server_at after_acts after_act hearing listing_all blocks shown_nodes names_of clients_below first_empty
release0 s homes = record { client = refl }

pub used0 : (s : Sectors) (homes : List (ℕ × List ℕ)) → KeepsUse (setting 1 s) (starts s) []
unfolding client_at reply_in hears next_of is_covered history empty_tree first_nodes client_after taken owed messages_of heard seat sectors_at own_sectors packets server_of views taken_in heard_in made_in told_in client_view with_items uses_items has_crashed server_at after_acts after_act hearing listing_all blocks shown_nodes names_of clients_below first_empty
used0 s homes = record { client = refl; server = record {} }

pub entries0 : (s : Sectors) (homes : List (ℕ × List ℕ)) → KeepsEntries (setting 1 s) (starts s) []
unfolding client_at reply_in hears next_of is_covered history empty_tree first_nodes client_after taken owed messages_of heard seat sectors_at own_sectors packets server_of views taken_in heard_in made_in told_in client_view with_items uses_items has_crashed server_at after_acts after_act hearing listing_all blocks shown_nodes names_of clients_below entries_of final_acts
entries0 s homes = record { server = record {}; none = record {}; done = (record {}, record {}); head = refl; halted = λ e. refl }

pub purge0 : (s : Sectors) (homes : List (ℕ × List ℕ)) → KeepsPurge (setting 1 s) (starts s) []
purge0 s homes = record { after_gone = record {} }

pub disk0 : (s : Sectors) (homes : List (ℕ × List ℕ)) → KeepsDisk (setting 1 s) (starts s) []
unfolding client_at reply_in hears next_of is_covered history empty_tree first_nodes client_after taken owed messages_of heard seat sectors_at own_sectors packets server_of views taken_in heard_in made_in told_in client_view with_items uses_items has_crashed server_at after_acts after_act hearing listing_all blocks shown_nodes names_of clients_below writes_of_acts
disk0 s homes = record { disk = record { writes = refl; halt = refl; disk = refl }; meets = record {} }

pub held0 : (s : Sectors) (homes : List (ℕ × List ℕ)) → KeepsHeld (setting 1 s) (starts s) []
held0 s homes = record { held = refl }

pub service0 : (s : Sectors) (homes : List (ℕ × List ℕ)) → KeepsService (setting 1 s) (starts s) []
service0 s homes = record { server = record {} }

pub event1 : (s : Sectors) (homes : List (ℕ × List ℕ)) → KeepsEvent (setting 1 s) (commits s homes) (starts s ∷ [])
unfolding client_at reply_in hears next_of is_covered history empty_tree first_nodes client_after taken owed messages_of heard seat sectors_at own_sectors packets server_of views taken_in heard_in made_in told_in client_view with_items uses_items has_crashed server_at after_acts after_act hearing listing_all blocks shown_nodes names_of clients_below first_empty
event1 s homes = record { may = refl }

pub answer1 : (s : Sectors) (homes : List (ℕ × List ℕ)) → KeepsAnswer (setting 1 s) (commits s homes) (starts s ∷ [])
unfolding client_at reply_in hears next_of is_covered history empty_tree first_nodes client_after taken owed messages_of heard seat sectors_at own_sectors packets server_of views taken_in heard_in made_in told_in client_view with_items uses_items has_crashed server_at after_acts after_act hearing listing_all blocks shown_nodes names_of clients_below first_empty
answer1 s homes = record { client = record {}; others = refl }

pub release1 : (s : Sectors) (homes : List (ℕ × List ℕ)) → KeepsRelease (setting 1 s) (commits s homes) (starts s ∷ [])
unfolding client_at reply_in hears next_of is_covered history empty_tree first_nodes client_after taken owed messages_of heard seat sectors_at own_sectors packets server_of views taken_in heard_in made_in told_in client_view with_items uses_items has_crashed server_at after_acts after_act hearing listing_all blocks shown_nodes names_of clients_below first_empty
release1 s homes = record { client = record {} }

pub used1 : (s : Sectors) (homes : List (ℕ × List ℕ)) → KeepsUse (setting 1 s) (commits s homes) (starts s ∷ [])
unfolding client_at reply_in hears next_of is_covered history empty_tree first_nodes client_after taken owed messages_of heard seat sectors_at own_sectors packets server_of views taken_in heard_in made_in told_in client_view with_items uses_items has_crashed server_at after_acts after_act hearing listing_all blocks shown_nodes names_of clients_below first_empty
used1 s homes = record { client = record {}; server = refl }

pub entries1 : (s : Sectors) (homes : List (ℕ × List ℕ)) → KeepsEntries (setting 1 s) (commits s homes) (starts s ∷ [])
unfolding client_at reply_in hears next_of is_covered history empty_tree first_nodes client_after taken owed messages_of heard seat sectors_at own_sectors packets server_of views taken_in heard_in made_in told_in client_view with_items uses_items has_crashed server_at after_acts after_act hearing listing_all blocks shown_nodes names_of clients_below entries_of final_acts
entries1 s homes = record { server = refl; none = record {}; done = ((record {}, record {}), record { call = create; new_ino = Some made; stands = Contains-get_or (entry ∷ []) 0 entry (omega arith) }); head = record {}; halted = λ e. refl }

pub purge1 : (s : Sectors) (homes : List (ℕ × List ℕ)) → KeepsPurge (setting 1 s) (commits s homes) (starts s ∷ [])
purge1 s homes = record { after_gone = (record {}, record {}) }

pub disk1 : (s : Sectors) (homes : List (ℕ × List ℕ)) → KeepsDisk (setting 1 s) (commits s homes) (starts s ∷ [])
unfolding client_at reply_in hears next_of is_covered history empty_tree first_nodes client_after taken owed messages_of heard seat sectors_at own_sectors packets server_of views taken_in heard_in made_in told_in client_view with_items uses_items has_crashed server_at after_acts after_act hearing listing_all blocks shown_nodes names_of clients_below writes_of_acts
disk1 s homes = record { disk = record { ends = (refl, record {}); key = (refl, inl refl); own = record {}; sectors = refl; faults = omega arith }; meets = λ other. absurd (other refl) }

pub held1 : (s : Sectors) (homes : List (ℕ × List ℕ)) → KeepsHeld (setting 1 s) (commits s homes) (starts s ∷ [])
held1 s homes = record { held = refl }

pub event2 : (s : Sectors) (homes : List (ℕ × List ℕ)) → KeepsEvent (setting 1 s) (answers s homes) (commits s homes ∷ starts s ∷ [])
unfolding client_at reply_in hears next_of is_covered history empty_tree first_nodes client_after taken owed messages_of heard seat sectors_at own_sectors packets server_of views taken_in heard_in made_in told_in client_view with_items uses_items has_crashed server_at after_acts after_act hearing listing_all blocks shown_nodes names_of clients_below first_empty
event2 s homes = record { may = (search rules, refl) }

pub answer2 : (s : Sectors) (homes : List (ℕ × List ℕ)) → KeepsAnswer (setting 1 s) (answers s homes) (commits s homes ∷ starts s ∷ [])
unfolding client_at reply_in hears next_of is_covered history empty_tree first_nodes client_after taken owed messages_of heard seat sectors_at own_sectors packets server_of views taken_in heard_in made_in told_in client_view with_items uses_items has_crashed server_at after_acts after_act hearing listing_all blocks shown_nodes names_of clients_below first_empty
answer2 s homes = record { client = record { answer_is = refl; entry_is = refl }; others = record {} }

pub release2 : (s : Sectors) (homes : List (ℕ × List ℕ)) → KeepsRelease (setting 1 s) (answers s homes) (commits s homes ∷ starts s ∷ [])
unfolding client_at reply_in hears next_of is_covered history empty_tree first_nodes client_after taken owed messages_of heard seat sectors_at own_sectors packets server_of views taken_in heard_in made_in told_in client_view with_items uses_items has_crashed server_at after_acts after_act hearing listing_all blocks shown_nodes names_of clients_below first_empty
release2 s homes = record { client = refl }

pub used2 : (s : Sectors) (homes : List (ℕ × List ℕ)) → KeepsUse (setting 1 s) (answers s homes) (commits s homes ∷ starts s ∷ [])
unfolding client_at reply_in hears next_of is_covered history empty_tree first_nodes client_after taken owed messages_of heard seat sectors_at own_sectors packets server_of views taken_in heard_in made_in told_in client_view with_items uses_items has_crashed server_at after_acts after_act hearing listing_all blocks shown_nodes names_of clients_below first_empty
used2 s homes = record { client = refl; server = record {} }

pub entries2 : (s : Sectors) (homes : List (ℕ × List ℕ)) → KeepsEntries (setting 1 s) (answers s homes) (commits s homes ∷ starts s ∷ [])
unfolding client_at reply_in hears next_of is_covered history empty_tree first_nodes client_after taken owed messages_of heard seat sectors_at own_sectors packets server_of views taken_in heard_in made_in told_in client_view with_items uses_items has_crashed server_at after_acts after_act hearing listing_all blocks shown_nodes names_of clients_below entries_of final_acts
entries2 s homes = record { server = record {}; none = record {}; done = record {}; head = refl; halted = λ e. refl }

pub purge2 : (s : Sectors) (homes : List (ℕ × List ℕ)) → KeepsPurge (setting 1 s) (answers s homes) (commits s homes ∷ starts s ∷ [])
purge2 s homes = record { after_gone = record {} }

pub disk2 : (s : Sectors) (homes : List (ℕ × List ℕ)) → KeepsDisk (setting 1 s) (answers s homes) (commits s homes ∷ starts s ∷ [])
unfolding client_at reply_in hears next_of is_covered history empty_tree first_nodes client_after taken owed messages_of heard seat sectors_at own_sectors packets server_of views taken_in heard_in made_in told_in client_view with_items uses_items has_crashed server_at after_acts after_act hearing listing_all blocks shown_nodes names_of clients_below writes_of_acts
disk2 s homes = record { disk = record { writes = refl; halt = refl; disk = refl }; meets = record {} }

pub held2 : (s : Sectors) (homes : List (ℕ × List ℕ)) → KeepsHeld (setting 1 s) (answers s homes) (commits s homes ∷ starts s ∷ [])
held2 s homes = record { held = refl }

pub service2 : (s : Sectors) (homes : List (ℕ × List ℕ)) → KeepsService (setting 1 s) (answers s homes) (commits s homes ∷ starts s ∷ [])
service2 s homes = record { server = record {} }

pub service1 : (s : Sectors) (homes : List (ℕ × List ℕ)) → AreHomes (formatted 1) creation homes → KeepsService (setting 1 s) (commits s homes) (starts s ∷ [])
unfolding client_at reply_in hears next_of is_covered history empty_tree first_nodes client_after taken owed messages_of heard seat sectors_at own_sectors packets server_of views taken_in heard_in made_in told_in client_view with_items uses_items has_crashed server_at after_acts after_act hearing listing_all blocks shown_nodes names_of clients_below first_empty
service1 s homes spelled = record {
  server = record {
    mounts = record {};
    acts = (
      (
        record {},
        record {
          grants = record {};
          refuses = record {};
          commits = (
            record {
              call = create;
              admitted = refl;
              head_is = refl;
              call_is = refl;
              new = omega arith;
              unblocked = rw (map.get-empty _ a) (rw (map.len-empty _ _) refl);
              reply_is = sym (ap (λ p. p.reply) (plan-is []));
              new_ino_is = sym (ap (λ p. p.new_ino) (plan-is []));
              edit_is = sym (ap (λ p. p.edit) (plan-is []));
              lays_none = refl;
            },
            spelled,
          );
          collects = record {};
          revokes = record {};
          removes = record {};
          reserve = λ admitted. omega arith;
        },
      ),
      record {
        grants = record {};
        refuses = record {};
        commits = record { call = create; admitted = refl; head_is = refl; number_is = refl; reply_is = refl };
        collects = record {};
        revokes = record {};
        removes = record {};
        reserve = λ admitted. omega arith;
      },
    );
    reserve = λ admitted. omega arith;
    ends = record {
      taken = λ used admitted. absurd (never admitted);
      collected = record { asked = refl; admitted = λ was now. refl };
      line = record { named_is = refl; asked = refl };
      removed = λ tick. absurd (not-so tick);
    };
  };
}
  where
    never : true ≡ false → ⊥
    never e = cc
