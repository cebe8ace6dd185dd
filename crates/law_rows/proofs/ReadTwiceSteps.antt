-- What each step answers, sends and grants.
use Rattle.std.proofs.Common.{◌≡◌, inl, refl, rules, [], ◌∷◌, true, false, arith}
use Rattle.std.specs.FinMap as map
use Rattle.std.proofs.lemmas.List.Elements.{All-nil}
use Rattle.token_table.specs.Blockers.{clients_below}
use Rattle.tree_law.specs.Tree.{empty_tree, first_nodes}
use Rattle.volume_plan.specs.Shown.{names_of, shown_nodes}
use Rattle.cluster_law.specs.Blocking.{blocks}
use Rattle.cluster_law.specs.Book.{with_items}
use Rattle.cluster_law.specs.ClientRules.{KeepsAnswer, KeepsRelease, messages_of, uses_items}
use Rattle.cluster_law.specs.ClientState.{client_after, hears, reply_in}
use Rattle.cluster_law.specs.Coverage.{is_covered, next_of}
use Rattle.cluster_law.specs.DiskRules.{KeepsDisk, KeepsHeld}
use Rattle.cluster_law.specs.History.{client_at, final_acts, history, server_at, writes_of_acts}
use Rattle.cluster_law.specs.Owed.{owed}
use Rattle.tree_law.specs.declared.request.Want.TheVariants.{Readdir as WantsNames}
use Rattle.cluster_law.specs.Rules.{KeepsEntries, KeepsEvent, KeepsPurge, KeepsService, KeepsUse}
use Rattle.cluster_law.specs.ServerRules.{entries_of}
use Rattle.cluster_law.specs.ServerState.{after_act, after_acts, hearing, listing_all}
use Rattle.cluster_law.specs.Sessions.{client_view, heard, heard_in, made_in, taken, taken_in, told_in}
use Rattle.cluster_law.specs.Trace.{has_crashed, own_sectors, packets, seat, sectors_at, server_of, views}
use Rattle.law_rows.proofs.Lanes.{no-entries, not-so}
use Rattle.law_rows.specs.Formatted.{Sectors, setting}
use Rattle.law_rows.specs.ReadTwice.{answers, answers_again, grants, starts}

pub event0 : (s : Sectors) → KeepsEvent (setting 1 s) (starts s) []
unfolding client_at reply_in hears next_of is_covered history empty_tree first_nodes client_after taken owed messages_of heard seat sectors_at own_sectors packets server_of views taken_in heard_in made_in told_in client_view with_items uses_items has_crashed server_at after_acts after_act hearing listing_all blocks shown_nodes names_of clients_below
event0 s = record { may = (refl, ((search rules), refl), refl) }

pub answer0 : (s : Sectors) → KeepsAnswer (setting 1 s) (starts s) []
unfolding client_at reply_in hears next_of is_covered history empty_tree first_nodes client_after taken owed messages_of heard seat sectors_at own_sectors packets server_of views taken_in heard_in made_in told_in client_view with_items uses_items has_crashed server_at after_acts after_act hearing listing_all blocks shown_nodes names_of clients_below
answer0 s = record { client = record { answer_is = refl; entry_is = refl }; others = record {} }

pub release0 : (s : Sectors) → KeepsRelease (setting 1 s) (starts s) []
unfolding client_at reply_in hears next_of is_covered history empty_tree first_nodes client_after taken owed messages_of heard seat sectors_at own_sectors packets server_of views taken_in heard_in made_in told_in client_view with_items uses_items has_crashed server_at after_acts after_act hearing listing_all blocks shown_nodes names_of clients_below
release0 s = record { client = refl }

pub used0 : (s : Sectors) → KeepsUse (setting 1 s) (starts s) []
unfolding client_at reply_in hears next_of is_covered history empty_tree first_nodes client_after taken owed messages_of heard seat sectors_at own_sectors packets server_of views taken_in heard_in made_in told_in client_view with_items uses_items has_crashed server_at after_acts after_act hearing listing_all blocks shown_nodes names_of clients_below
used0 s = record { client = refl; server = record {} }

pub entries0 : (s : Sectors) → KeepsEntries (setting 1 s) (starts s) []
unfolding client_at reply_in hears next_of is_covered history empty_tree first_nodes client_after taken owed messages_of heard seat sectors_at own_sectors packets server_of views taken_in heard_in made_in told_in client_view with_items uses_items has_crashed server_at after_acts after_act hearing listing_all blocks shown_nodes names_of entries_of final_acts
entries0 s = record { server = record {}; none = record {}; done = (record {}, record {}); head = refl; halted = λ e. refl }

pub purge0 : (s : Sectors) → KeepsPurge (setting 1 s) (starts s) []
purge0 s = record { after_gone = record {} }

pub disk0 : (s : Sectors) → KeepsDisk (setting 1 s) (starts s) []
unfolding client_at reply_in hears next_of is_covered history empty_tree first_nodes client_after taken owed messages_of heard seat sectors_at own_sectors packets server_of views taken_in heard_in made_in told_in client_view with_items uses_items has_crashed server_at after_acts after_act hearing listing_all blocks shown_nodes names_of writes_of_acts
disk0 s = record { disk = record { writes = refl; halt = refl; disk = refl }; meets = record {} }

pub held0 : (s : Sectors) → KeepsHeld (setting 1 s) (starts s) []
held0 s = record { held = refl }

pub service0 : (s : Sectors) → KeepsService (setting 1 s) (starts s) []
service0 s = record { server = record {} }

pub event1 : (s : Sectors) → KeepsEvent (setting 1 s) (grants s) (starts s ∷ [])
unfolding client_at reply_in hears next_of is_covered history empty_tree first_nodes client_after taken owed messages_of heard seat sectors_at own_sectors packets server_of views taken_in heard_in made_in told_in client_view with_items uses_items has_crashed server_at after_acts after_act hearing listing_all blocks shown_nodes names_of clients_below
event1 s = record { may = refl }

pub answer1 : (s : Sectors) → KeepsAnswer (setting 1 s) (grants s) (starts s ∷ [])
unfolding client_at reply_in hears next_of is_covered history empty_tree first_nodes client_after taken owed messages_of heard seat sectors_at own_sectors packets server_of views taken_in heard_in made_in told_in client_view with_items uses_items has_crashed server_at after_acts after_act hearing listing_all blocks shown_nodes names_of clients_below
answer1 s = record { client = record {}; others = refl }

pub release1 : (s : Sectors) → KeepsRelease (setting 1 s) (grants s) (starts s ∷ [])
unfolding client_at reply_in hears next_of is_covered history empty_tree first_nodes client_after taken owed messages_of heard seat sectors_at own_sectors packets server_of views taken_in heard_in made_in told_in client_view with_items uses_items has_crashed server_at after_acts after_act hearing listing_all blocks shown_nodes names_of clients_below
release1 s = record { client = record {} }

pub used1 : (s : Sectors) → KeepsUse (setting 1 s) (grants s) (starts s ∷ [])
unfolding client_at reply_in hears next_of is_covered history empty_tree first_nodes client_after taken owed messages_of heard seat sectors_at own_sectors packets server_of views taken_in heard_in made_in told_in client_view with_items uses_items has_crashed server_at after_acts after_act hearing listing_all blocks shown_nodes names_of clients_below
used1 s = record { client = record {}; server = refl }

pub entries1 : (s : Sectors) → KeepsEntries (setting 1 s) (grants s) (starts s ∷ [])
unfolding client_at reply_in hears next_of is_covered history empty_tree first_nodes client_after taken owed messages_of heard seat sectors_at own_sectors packets server_of views taken_in heard_in made_in told_in client_view with_items uses_items has_crashed server_at after_acts after_act hearing listing_all blocks shown_nodes names_of entries_of final_acts
entries1 s = record { server = refl; none = record {}; done = (record {}, record {}); head = record {}; halted = λ e. refl }

pub purge1 : (s : Sectors) → KeepsPurge (setting 1 s) (grants s) (starts s ∷ [])
purge1 s = record { after_gone = record {} }

pub disk1 : (s : Sectors) → KeepsDisk (setting 1 s) (grants s) (starts s ∷ [])
unfolding client_at reply_in hears next_of is_covered history empty_tree first_nodes client_after taken owed messages_of heard seat sectors_at own_sectors packets server_of views taken_in heard_in made_in told_in client_view with_items uses_items has_crashed server_at after_acts after_act hearing listing_all blocks shown_nodes names_of writes_of_acts
disk1 s = record { disk = record { ends = (refl, record {}); key = (refl, inl refl); own = record {}; sectors = refl; faults = omega arith }; meets = λ other. absurd (other refl) }

pub held1 : (s : Sectors) → KeepsHeld (setting 1 s) (grants s) (starts s ∷ [])
held1 s = record { held = refl }

pub event2 : (s : Sectors) → KeepsEvent (setting 1 s) (answers s) (grants s ∷ starts s ∷ [])
unfolding client_at reply_in hears next_of is_covered history empty_tree first_nodes client_after taken owed messages_of heard seat sectors_at own_sectors packets server_of views taken_in heard_in made_in told_in client_view with_items uses_items has_crashed server_at after_acts after_act hearing listing_all blocks shown_nodes names_of clients_below
event2 s = record { may = (search rules, refl) }

pub answer2 : (s : Sectors) → KeepsAnswer (setting 1 s) (answers s) (grants s ∷ starts s ∷ [])
unfolding client_at reply_in hears next_of is_covered history empty_tree first_nodes client_after taken owed messages_of heard seat sectors_at own_sectors packets server_of views taken_in heard_in made_in told_in client_view with_items uses_items has_crashed server_at after_acts after_act hearing listing_all blocks shown_nodes names_of clients_below
answer2 s = record { client = record { answer_is = rw (no-entries map.empty refl) refl; entry_is = rw (no-entries map.empty refl) refl }; others = record {} }

pub release2 : (s : Sectors) → KeepsRelease (setting 1 s) (answers s) (grants s ∷ starts s ∷ [])
unfolding client_at reply_in hears next_of is_covered history empty_tree first_nodes client_after taken owed messages_of heard seat sectors_at own_sectors packets server_of views taken_in heard_in made_in told_in client_view with_items uses_items has_crashed server_at after_acts after_act hearing listing_all blocks shown_nodes names_of clients_below
release2 s = record { client = refl }

pub used2 : (s : Sectors) → KeepsUse (setting 1 s) (answers s) (grants s ∷ starts s ∷ [])
unfolding client_at reply_in hears next_of is_covered history empty_tree first_nodes client_after taken owed messages_of heard seat sectors_at own_sectors packets server_of views taken_in heard_in made_in told_in client_view with_items uses_items has_crashed server_at after_acts after_act hearing listing_all blocks shown_nodes names_of clients_below
used2 s = record { client = refl; server = record {} }

pub entries2 : (s : Sectors) → KeepsEntries (setting 1 s) (answers s) (grants s ∷ starts s ∷ [])
unfolding client_at reply_in hears next_of is_covered history empty_tree first_nodes client_after taken owed messages_of heard seat sectors_at own_sectors packets server_of views taken_in heard_in made_in told_in client_view with_items uses_items has_crashed server_at after_acts after_act hearing listing_all blocks shown_nodes names_of entries_of final_acts
entries2 s = record { server = record {}; none = record {}; done = record {}; head = refl; halted = λ e. refl }

pub purge2 : (s : Sectors) → KeepsPurge (setting 1 s) (answers s) (grants s ∷ starts s ∷ [])
purge2 s = record { after_gone = (record {}, record {}) }

pub disk2 : (s : Sectors) → KeepsDisk (setting 1 s) (answers s) (grants s ∷ starts s ∷ [])
unfolding client_at reply_in hears next_of is_covered history empty_tree first_nodes client_after taken owed messages_of heard seat sectors_at own_sectors packets server_of views taken_in heard_in made_in told_in client_view with_items uses_items has_crashed server_at after_acts after_act hearing listing_all blocks shown_nodes names_of writes_of_acts
disk2 s = record { disk = record { writes = refl; halt = refl; disk = refl }; meets = record {} }

pub held2 : (s : Sectors) → KeepsHeld (setting 1 s) (answers s) (grants s ∷ starts s ∷ [])
held2 s = record { held = refl }

pub service2 : (s : Sectors) → KeepsService (setting 1 s) (answers s) (grants s ∷ starts s ∷ [])
service2 s = record { server = record {} }

pub event3 : (s : Sectors) → KeepsEvent (setting 1 s) (answers_again s) (answers s ∷ grants s ∷ starts s ∷ [])
unfolding client_at reply_in hears next_of is_covered history empty_tree first_nodes client_after taken owed messages_of heard seat sectors_at own_sectors packets server_of views taken_in heard_in made_in told_in client_view with_items uses_items has_crashed server_at after_acts after_act hearing listing_all blocks shown_nodes names_of clients_below
event3 s = record { may = (refl, ((search rules), refl), refl) }

pub answer3 : (s : Sectors) → KeepsAnswer (setting 1 s) (answers_again s) (answers s ∷ grants s ∷ starts s ∷ [])
unfolding client_at reply_in hears next_of is_covered history empty_tree first_nodes client_after taken owed messages_of heard seat sectors_at own_sectors packets server_of views taken_in heard_in made_in told_in client_view with_items uses_items has_crashed server_at after_acts after_act hearing listing_all blocks shown_nodes names_of clients_below
answer3 s = record { client = record { answer_is = rw (no-entries map.empty refl) refl; entry_is = rw (no-entries map.empty refl) refl }; others = record {} }

pub release3 : (s : Sectors) → KeepsRelease (setting 1 s) (answers_again s) (answers s ∷ grants s ∷ starts s ∷ [])
unfolding client_at reply_in hears next_of is_covered history empty_tree first_nodes client_after taken owed messages_of heard seat sectors_at own_sectors packets server_of views taken_in heard_in made_in told_in client_view with_items uses_items has_crashed server_at after_acts after_act hearing listing_all blocks shown_nodes names_of clients_below
release3 s = record { client = refl }

pub used3 : (s : Sectors) → KeepsUse (setting 1 s) (answers_again s) (answers s ∷ grants s ∷ starts s ∷ [])
unfolding client_at reply_in hears next_of is_covered history empty_tree first_nodes client_after taken owed messages_of heard seat sectors_at own_sectors packets server_of views taken_in heard_in made_in told_in client_view with_items uses_items has_crashed server_at after_acts after_act hearing listing_all blocks shown_nodes names_of clients_below
used3 s = record { client = refl; server = record {} }

pub entries3 : (s : Sectors) → KeepsEntries (setting 1 s) (answers_again s) (answers s ∷ grants s ∷ starts s ∷ [])
unfolding client_at reply_in hears next_of is_covered history empty_tree first_nodes client_after taken owed messages_of heard seat sectors_at own_sectors packets server_of views taken_in heard_in made_in told_in client_view with_items uses_items has_crashed server_at after_acts after_act hearing listing_all blocks shown_nodes names_of entries_of final_acts
entries3 s = record { server = record {}; none = record {}; done = record {}; head = refl; halted = λ e. refl }

pub purge3 : (s : Sectors) → KeepsPurge (setting 1 s) (answers_again s) (answers s ∷ grants s ∷ starts s ∷ [])
purge3 s = record { after_gone = (record {}, record {}) }

pub disk3 : (s : Sectors) → KeepsDisk (setting 1 s) (answers_again s) (answers s ∷ grants s ∷ starts s ∷ [])
unfolding client_at reply_in hears next_of is_covered history empty_tree first_nodes client_after taken owed messages_of heard seat sectors_at own_sectors packets server_of views taken_in heard_in made_in told_in client_view with_items uses_items has_crashed server_at after_acts after_act hearing listing_all blocks shown_nodes names_of writes_of_acts
disk3 s = record { disk = record { writes = refl; halt = refl; disk = refl }; meets = record {} }

pub held3 : (s : Sectors) → KeepsHeld (setting 1 s) (answers_again s) (answers s ∷ grants s ∷ starts s ∷ [])
held3 s = record { held = refl }

pub service3 : (s : Sectors) → KeepsService (setting 1 s) (answers_again s) (answers s ∷ grants s ∷ starts s ∷ [])
service3 s = record { server = record {} }

pub service1 : (s : Sectors) → KeepsService (setting 1 s) (grants s) (starts s ∷ [])
unfolding client_at reply_in hears next_of is_covered history empty_tree first_nodes client_after taken owed messages_of heard seat sectors_at own_sectors packets server_of views taken_in heard_in made_in told_in client_view with_items uses_items has_crashed server_at after_acts after_act hearing listing_all blocks shown_nodes names_of clients_below
service1 s = record {
  server = record {
    mounts = record {};
    acts = (
      record {},
      record {
        grants = record {
          want = WantsNames [];
          admitted = refl;
          head_is = refl;
          unblocked = refl;
          room = refl;
          lacks = refl;
          each = (record { fresh = refl; content = record { same = rw (no-entries map.empty refl) refl; kinds = All-nil _ } }, record {});
        };
        refuses = record {};
        commits = record {};
        collects = record {};
        revokes = record {};
        removes = record {};
        reserve = λ admitted. omega arith;
      },
    );
    reserve = λ admitted. omega arith;
    ends = record {
      taken = λ used admitted. absurd (never admitted);
      collected = record { asked = refl; admitted = λ was now. refl };
      line = record { named_is = refl; asked = refl };
      removed = λ tick. absurd (not-so tick);
    };
  };
}
  where
    never : true ≡ false → ⊥
    never e = cc
