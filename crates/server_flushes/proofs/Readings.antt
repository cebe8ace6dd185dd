-- What is read off how a flush stands.
use Rattle.std.proofs.Common.{◌≡◌, ◌≤◌, ◌+◌, ◌&&◌, ◌||◌, [], ℕ, Bool, true, false, nat_eq, nat_le, not, List, Option, Some, None, is_some, is_none, length, IsTrue, ap, refl, subst, sym, ◌∙◌}
use Rattle.std.proofs.lemmas.Bool.{and_parts, eqb-true, leb-true, true≢false}
use Rattle.std.proofs.lemmas.List.Sums.{length-filter}
use Rattle.cal_base.specs.declared.identity.ClientId.{ClientId}
use Rattle.message.specs.declared.message.Message.TheVariants.{Flush as FlushOf}
use Rattle.token_kind.specs.Hold.{hold_number}
use Rattle.token_kind.specs.declared.«class».Class.TheVariants.{Data}
use Rattle.token_kind.specs.declared.flush.Flush.{Flush}
use Rattle.token_kind.specs.declared.hold.Hold.{Hold}
use Rattle.token_kind.specs.declared.hold.Hold.TheVariants.{None as Nothing, Read, Write}
use Rattle.token_table.specs.Table.{held_of}
use Rattle.volume.specs.Volume.{Volume}
use Rattle.volume_plan.specs.Plans.{free_count}
use Rattle.cluster_law.specs.ServerRules.{Occasion}
use Rattle.cluster_law.specs.ServerState.{ServerState, after_acts, free_blocks, is_admitted, is_file, is_writing, last_flush, table_in, uses_flush, uses_new_flush}
use Rattle.server_book.proofs.Deciding.{used, used-new-flush}
use Rattle.server_desk.specs.Desk.{with_desk}
use Rattle.server_draft.specs.Acts.{acts_of}
use Rattle.server_draft.specs.Draft.{Follows, reached}
use Rattle.server_draft.specs.declared.act.Act.{Act}
use Rattle.server_draft.specs.declared.draft.Draft.{Draft}
use Rattle.server_flushes.specs.Flushes.{knowing, standing_by, standing_in}
use Rattle.server_flushes.specs.declared.standing.Standing.TheVariants.{Lasts, Next, PassedOver}

-- one that lasts has a number at or below the last
lasts-by : (a b : Bool) → Lasts ≡ standing_by a b → a ≡ true
lasts-by true b is = refl
lasts-by false true is = absurd (cc)
lasts-by false false is = absurd (cc)

pub lasts : (server : ServerState) (client : ClientId) (flush : Flush) → Lasts ≡ standing_in server client flush → nat_le flush.number (last_flush server client) ≡ true
lasts server client flush is = lasts-by (nat_le flush.number (last_flush server client)) (nat_eq flush.number (last_flush server client + 1) && uses_new_flush server client flush) is

-- one that is next has the number behind the last, and may be committed
next-by : (a b : Bool) → standing_by a b ≡ Next → b ≡ true
next-by true b is = absurd (cc)
next-by false true is = refl
next-by false false is = absurd (cc)

pub record MayCommit (server : ServerState) (client : ClientId) (flush : Flush) : Type 0 where
  pub next : flush.number ≡ last_flush server client + 1
  pub new : IsTrue (uses_new_flush server client flush)
  pub file : IsTrue (is_file server flush.ino)
  pub writing : held_of (table_in server) client flush.ino Data ≡ Write
  pub enough : length flush.pieces ≤ free_count server.volume

write-by : (hold : Hold) → nat_eq (hold_number hold) 2 ≡ true → hold ≡ Write
write-by Nothing is = absurd (cc)
write-by Read is = absurd (cc)
write-by Write is = refl

pub may-commit : (server : ServerState) (client : ClientId) (flush : Flush) → standing_in server client flush ≡ Next → MayCommit server client flush
may-commit server client flush is =
    let last = last_flush server client in
    let both = and_parts (nat_eq flush.number (last + 1)) (uses_new_flush server client flush) (next-by (nat_le flush.number last) (nat_eq flush.number (last + 1) && uses_new_flush server client flush) is) in
    let enough = and_parts (is_admitted server && is_file server flush.ino && is_writing server client flush.ino) (nat_le (length flush.pieces) (free_blocks server)) both.1 in
    let writing = and_parts (is_admitted server && is_file server flush.ino) (is_writing server client flush.ino) enough.0 in
    let file = and_parts (is_admitted server) (is_file server flush.ino) writing.0 in
    record {
      next = eqb-true flush.number (last + 1) both.0;
      new = both.1;
      file = file.1;
      writing = write-by (held_of (table_in server) client flush.ino Data) writing.1;
      enough = subst (λ (n : ℕ). length flush.pieces ≤ n) (length-filter (λ free. free) server.volume.free) (leb-true (length flush.pieces) (free_blocks server) enough.1);
    }

-- one that is passed over isn't used
passed-by : (a b : Bool) → PassedOver ≡ standing_by a b → (a || b) ≡ false
passed-by true b is = absurd (cc)
passed-by false true is = absurd (cc)
passed-by false false is = refl

pub passed : (server : ServerState) (client : ClientId) (flush : Flush) → PassedOver ≡ standing_in server client flush → uses_flush server client flush ≡ false
passed server client flush is = passed-by (nat_le flush.number (last_flush server client)) (nat_eq flush.number (last_flush server client + 1) && uses_new_flush server client flush) is

-- and another is
pub lasts-used : (server : ServerState) (client : ClientId) (flush : Flush) → Lasts ≡ standing_in server client flush → uses_flush server client flush ≡ true
lasts-used server client flush is = ap (λ (b : Bool). b || nat_eq flush.number (last_flush server client + 1) && uses_new_flush server client flush) (lasts server client flush is)

next-used-by : (a b : Bool) → b ≡ true → (a || b) ≡ true
next-used-by true b is = refl
next-used-by false b is = is

pub next-used : (server : ServerState) (client : ClientId) (flush : Flush) → standing_in server client flush ≡ Next → uses_flush server client flush ≡ true
next-used server client flush is =
    let last = last_flush server client in
    next-used-by (nat_le flush.number last) (nat_eq flush.number (last + 1) && uses_new_flush server client flush) (next-by (nat_le flush.number last) (nat_eq flush.number (last + 1) && uses_new_flush server client flush) is)

-- before its first act a draft has reached the server from which it began
pub starts-here : (view : ℕ) (start : ServerState) (d : Draft) → d.acts ≡ [] → reached view start d ≡ start
unfolding acts_of after_acts
starts-here view start d none = ap (λ (acts : List Act). after_acts start (acts_of view acts)) none

module _ (view : ℕ) (o : Occasion) (start : ServerState) (d : Draft) (follows : Follows view o start d) (client : ClientId) (flush : Flush) where
  -- what a draft knows of a flush is what the law's server does
  pub law-uses : uses_flush (knowing d) client flush ≡ uses_flush (reached view start d) client flush
  law-uses =
      let server = reached view start d in
      ap (λ (v : Volume). uses_flush (with_desk d.desk v []) client flush) follows.volume ∙ used (with_desk d.desk server.volume server.sectors) server follows.like client (FlushOf flush)

  pub law-uses-new : uses_new_flush (knowing d) client flush ≡ uses_new_flush (reached view start d) client flush
  law-uses-new =
      let server = reached view start d in
      ap (λ (v : Volume). uses_new_flush (with_desk d.desk v []) client flush) follows.volume ∙ used-new-flush (with_desk d.desk server.volume server.sectors) server follows.like client flush

  pub law-last : last_flush (knowing d) client ≡ last_flush (reached view start d) client
  law-last = ap (λ (v : Volume). last_flush (with_desk d.desk v []) client) follows.volume

  -- so it is used at the start of a step just where the draft has it so
  pub start-uses : d.acts ≡ [] → uses_flush start client flush ≡ uses_flush (knowing d) client flush
  start-uses none = sym (law-uses ∙ ap (λ (s : ServerState). uses_flush s client flush) (starts-here view start d none))

-- where all reports are in and the client may write the file, it is the free blocks that decide
pub by-room : (server : ServerState) (client : ClientId) (flush : Flush) (len free : ℕ) → IsTrue (is_admitted server) → IsTrue (is_file server flush.ino) → IsTrue (is_writing server client flush.ino) → len ≡ length flush.pieces → free ≡ free_count server.volume
    → nat_le len free ≡ uses_new_flush server client flush
by-room server client flush len free admitted file writing len-is free-is =
    (λ i. nat_le (len-is i) (free-is i)) ∙ ap (λ (n : ℕ). nat_le (length flush.pieces) n) (sym (length-filter (λ free. free) server.volume.free))
    ∙ sym (λ i. admitted i && file i && writing i && nat_le (length flush.pieces) (free_blocks server))

-- nobody is missing where a test for nothing says so
pub none-by : (missing : Option ClientId) (answer : Bool) → is_some missing ≡ not answer → answer ≡ true → is_none missing ≡ true
none-by None answer tested is = refl
none-by (Some c) answer tested is = absurd (true≢false (tested ∙ ap not is))
