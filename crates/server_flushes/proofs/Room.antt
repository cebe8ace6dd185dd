-- A flush that is committed leaves room for what is held.
use Rattle.std.proofs.Common.{◌≡◌, ◌≤◌, ◌+◌, ◌*◌, ◌∷◌, [], ℕ, true, false, not, if◌then◌else◌, List, length, filter, ap, refl, sym, ◌∙◌, arith}
use Rattle.std.proofs.lemmas.List.Filters.{length-filter_both}
use Rattle.std.proofs.lemmas.List.Sums.{length-filter}
use Rattle.cal_base.specs.declared.identity.ClientId.{ClientId}
use Rattle.cal_base.specs.declared.identity.Ino.{Ino}
use Rattle.token_kind.specs.Flush.{IsFlush}
use Rattle.token_kind.specs.Hold.{hold_number, lesser_of}
use Rattle.token_kind.specs.declared.«class».Class.TheVariants.{Attr, Data}
use Rattle.token_kind.specs.declared.flush.Flush.{Flush}
use Rattle.token_kind.specs.declared.hold.Hold.{Hold}
use Rattle.token_kind.specs.declared.hold.Hold.TheVariants.{None as Nothing, Read, Write}
use Rattle.token_table.specs.Changes.{reordered}
use Rattle.token_table.specs.Series.{with_lowered}
use Rattle.token_table.specs.Table.{IsTable, Table, held_of, is_data_write, same_write}
use Rattle.volume.specs.Stands.{AreBlocksKept}
use Rattle.volume_edit.specs.Edit.{IsVolume, edited}
use Rattle.volume_plan.specs.Flushing.{flush_of}
use Rattle.volume_plan.specs.Plans.{free_count}
use Rattle.volume_space.proofs.Taking.{flush_takes_pieces}
use Rattle.cluster_law.specs.Blocking.{reserved}
use Rattle.cluster_law.specs.ServerState.{ServerState, left_by, lowering, table_in}
use Rattle.server_book.proofs.SameTables.{same-lowered}
use Rattle.server_desk.specs.Desk.{DeskValue, IsLike}

-- a hold of at most Read is no Data Write hold
read-at-most : (hold : Hold) → hold_number hold ≤ 1 → is_data_write Data hold ≡ false
read-at-most Nothing le = refl
read-at-most Read le = refl
read-at-most Write le = absurd (omega arith)

-- a Data Write hold stands once in the order of writes
stands-once : (t : Table) (c : ClientId) (ino : Ino) → IsTable t → held_of t c ino Data ≡ Write → length (filter (same_write (c, ino)) t.writes) ≡ 1
stands-once t c ino table held = length-filter (same_write (c, ino)) t.writes ∙ table.listed c ino ∙ ap (λ (h : Hold). if is_data_write Data h then 1 else 0) held

-- where it is lowered, one fewer does
one-fewer : (t : Table) (c : ClientId) (ino : Ino) (leave_data leave_attr : Hold) → IsTable t → held_of t c ino Data ≡ Write → hold_number leave_data ≤ 1
    → length (with_lowered t c ino ((Data, leave_data) ∷ (Attr, leave_attr) ∷ [])).writes + 1 ≡ length t.writes
one-fewer t c ino leave_data leave_attr table held low =
    let was : is_data_write Data (held_of t c ino Data) ≡ true = ap (is_data_write Data) held in
    let is : is_data_write Data (lesser_of (held_of t c ino Data) leave_data) ≡ false = ap (λ (h : Hold). is_data_write Data (lesser_of h leave_data)) held ∙ read-at-most leave_data low in
    let left : reordered t.writes (c, ino) (is_data_write Data (held_of t c ino Data)) (is_data_write Data (lesser_of (held_of t c ino Data) leave_data)) ≡ filter (λ w. not (same_write (c, ino) w)) t.writes
    = λ i. reordered t.writes (c, ino) (was i) (is i) in
    counted (length (filter (same_write (c, ino)) t.writes)) (length (filter (λ w. not (same_write (c, ino) w)) t.writes)) (length t.writes) _ (ap length left) (stands-once t c ino table held)
    (length-filter_both (same_write (c, ino)) (λ w. not (same_write (c, ino) w)) (λ w. refl) t.writes)
  where
    counted : (one rest all now : ℕ) → now ≡ rest → one ≡ 1 → one + rest ≡ all → now + 1 ≡ all
    counted one rest all now is once both = omega arith

-- the law's table is lowered alike
law-fewer : (desk : DeskValue) (server : ServerState) (client : ClientId) (flush : Flush) → IsLike desk server → IsTable desk.collecting.table → held_of desk.collecting.table client flush.ino Data ≡ Write → IsFlush flush
    → length (table_in (lowering server client flush.ino (left_by flush))).writes + 1 ≡ length (table_in server).writes
law-fewer desk server client flush like table held is =
    ap (λ (ws : List (ClientId × Ino)). length ws + 1) (sym (same-lowered desk.collecting.table (table_in server) client flush.ino (left_by flush) like.table).order)
    ∙ one-fewer desk.collecting.table client flush.ino flush.leave_data flush.leave_attr table held is.leave_data ∙ ap (λ (ws : List (ClientId × Ino)). length ws) like.table.order

-- so there is room for what is held after the commit
pub room-left : (desk : DeskValue) (server : ServerState) (client : ClientId) (flush : Flush) → IsLike desk server → IsTable desk.collecting.table → held_of desk.collecting.table client flush.ino Data ≡ Write → IsFlush flush
    → IsVolume server.volume → AreBlocksKept server.volume → reserved server ≤ free_count server.volume
    → reserved (lowering server client flush.ino (left_by flush)) ≤ free_count (edited server.volume (flush_of server.volume client flush))
room-left desk server client flush like table held is volume kept space =
    enough (length (table_in (lowering server client flush.ino (left_by flush))).writes) (length (table_in server).writes) (free_count server.volume) (free_count (edited server.volume (flush_of server.volume client flush))) (length flush.pieces)
    (law-fewer desk server client flush like table held is) (flush_takes_pieces server.volume client flush volume kept) is.few space
  where
    enough : (fewer writes free left pieces : ℕ) → fewer + 1 ≡ writes → free ≤ left + pieces → pieces ≤ 16 → 16 * writes ≤ free → 16 * fewer ≤ left
    enough fewer writes free left pieces less takes few all = omega arith
