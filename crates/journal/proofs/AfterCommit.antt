-- What a commit leaves, by the run of its writes.
use Rattle.std.proofs.Common.{◌≡◌, ◌<◌, ℕ, Bool, true, if◌then◌else◌, List, [], ◌∷◌, ◌++◌, length, Option, Some, None, Result, Ok, Err, refl, sym, ap, ◌∙◌, subst, arith}
use Rattle.std.specs.Prelude.{OnOk, OnErr}
use Rattle.std.specs.List.{slice_set}
use Rattle.std.proofs.lemmas.List.{length-set}
use Rattle.cal_base.specs.Limits as limits
use Rattle.shared_disk.specs.Disk.{Disk, after, written_if_told}
use Rattle.shared_disk.specs.Homes.{IsTransaction}
use Rattle.shared_disk.specs.Sectors.{written, left_of}
use Rattle.shared_disk.proofs.Changes.{written-append}
use Rattle.fence.specs.Port.{PortState}
use Rattle.fence.specs.Writes.{Runs, IsCut}
use Rattle.fence.specs.declared.port_halt.PortHalt.{PortHalt}
use Rattle.fence.proofs.RunsLemmas.{all_after, halt_cut}
use Rattle.journal.specs.Layout.{sector, outside, opens, gate_of, header_of, contents_at}
use Rattle.journal.specs.Commit.{commit_writes, replayed, opened, opens_gate, before_or_after, IsClosed, IsBeforeOrAfter, IsCommitted}
use Rattle.journal.proofs.Moments.{at_cut, choice_true}
use Rattle.journal.proofs.Sectors.{sector_same, length_written}
use Rattle.journal.proofs.Law.{Either, each_moment, body_writes, gate_opens, gate_closes, replays_closed}

pub ok_after : (ws : List (ℕ × List ℕ)) (p : PortState) (d : Disk) (f : ℕ) (r : Result (Unit {0}) PortHalt) (p' : PortState) (d' : Disk) (f' : ℕ) → Runs p d f ws r p' d' f' → OnOk r (d' ≡ after d ws)
ok_after ws p d f (Ok done) p' d' f' a = all_after ws p d p' d' a.makes
ok_after ws p d f (Err halt) p' d' f' a = tt

pub err_cut : (ws : List (ℕ × List ℕ)) (p : PortState) (d : Disk) (f : ℕ) (r : Result (Unit {0}) PortHalt) (p' : PortState) (d' : Disk) (f' : ℕ) → Runs p d f ws r p' d' f' → OnErr r (IsCut d ws d')
err_cut ws p d f (Ok done) p' d' f' a = tt
err_cut ws p d f (Err halt) p' d' f' a = halt_cut ws p d halt p' d' a.makes

-- a stop after the last write leaves all
pub left_all : (ws : List (ℕ × List ℕ)) → left_of ws (length ws) None ≡ ws
left_all [] = refl
left_all (w ∷ ws) = ap (λ (xs : List (ℕ × List ℕ)). w ∷ xs) (left_all ws)

pub told_after : (s : List (List ℕ)) (made : List (ℕ × List ℕ)) (d d' : Disk) → d.sectors ≡ Some s → d' ≡ after d made → d'.sectors ≡ Some (written s made)
told_after s made d d' told e = ap (λ (x : Disk). x.sectors) e ∙ ap (λ (o : Option (List (List ℕ))). written_if_told o made) told

leaves : (s : List (List ℕ)) (hs made : List (ℕ × List ℕ)) (d d' : Disk) → d.sectors ≡ Some s → d' ≡ after d made → replayed (written s made) ≡ Some (before_or_after s hs made) → IsBeforeOrAfter s hs d d'
leaves s hs made d d' told e law = record { made = made; changes = ap (λ (x : Disk). x.changes) e; left = told_after s made d d' told e; replays = law }

pub law_at : (s : List (List ℕ)) (hs : List (ℕ × List ℕ)) (k : ℕ) (t : Option (List ℕ)) → length s ≡ limits.sectors → IsClosed s → IsTransaction hs → replayed (written s (left_of (commit_writes hs) k t)) ≡ Some (before_or_after s hs (left_of (commit_writes hs) k t))
law_at s hs k t whole closed txn = at_cut (Either s hs) s (commit_writes hs) (each_moment s hs whole closed txn) k t

law_all : (s : List (List ℕ)) (hs : List (ℕ × List ℕ)) → length s ≡ limits.sectors → IsClosed s → IsTransaction hs → replayed (written s (commit_writes hs)) ≡ Some (before_or_after s hs (commit_writes hs))
law_all s hs whole closed txn =
    subst (λ (ws : List (ℕ × List ℕ)). replayed (written s ws) ≡ Some (before_or_after s hs ws)) (left_all (commit_writes hs)) (law_at s hs (length (commit_writes hs)) None whole closed txn)

pub commit_leaves : (s : List (List ℕ)) (hs : List (ℕ × List ℕ)) (p : PortState) (d : Disk) (f : ℕ) (r : Result (Unit {0}) PortHalt) (p' : PortState) (d' : Disk) (f' : ℕ) → Runs p d f (commit_writes hs) r p' d' f'
    → d.sectors ≡ Some s → length s ≡ limits.sectors → IsClosed s → IsTransaction hs → IsBeforeOrAfter s hs d d'
commit_leaves s hs p d f (Ok done) p' d' f' a told whole closed txn =
    leaves s hs (commit_writes hs) d d' told (all_after (commit_writes hs) p d p' d' a.makes) (law_all s hs whole closed txn)
commit_leaves s hs p d f (Err halt) p' d' f' a told whole closed txn =
    let c = halt_cut (commit_writes hs) p d halt p' d' a.makes in
    leaves s hs (left_of (commit_writes hs) c.made c.torn) d d' told c.changed (law_at s hs c.made c.torn whole closed txn)

opened_gate : (xs ys : List (ℕ × List ℕ)) → opened (xs ++ (1, gate_of 1) ∷ ys) ≡ true
opened_gate [] ys = ap (λ (b : Bool). if b then true else opened ys) gate_opens
opened_gate (x ∷ xs) ys = ap (λ (b : Bool). if opens_gate x.0 x.1 then true else b) (opened_gate xs ys) ∙ choice_true (opens_gate x.0 x.1)

-- the last write stands
pub last_stands : (ws : List (ℕ × List ℕ)) (x : List (List ℕ)) (i : ℕ) (g : List ℕ) → i < length x → sector (written x (ws ++ (i, g) ∷ [])) i ≡ g
last_stands [] x i g h = sector_same x i g h
last_stands (w ∷ ws) x i g h = let e = length-set x w.0 w.1 in last_stands ws (slice_set x w.0 w.1) i g (omega arith)

commit_closes : (s : List (List ℕ)) (hs : List (ℕ × List ℕ)) → length s ≡ limits.sectors → IsClosed (written s (commit_writes hs))
commit_closes s hs long =
    let x = slice_set s 2 (header_of hs) in
    let z = slice_set (written x (contents_at 3 hs)) 1 (gate_of 1) in
    let a : length x ≡ length s = length-set s 2 (header_of hs) in
    let b : length (written x (contents_at 3 hs)) ≡ length x = length_written (contents_at 3 hs) x in
    let e : length z ≡ length (written x (contents_at 3 hs)) = length-set (written x (contents_at 3 hs)) 1 (gate_of 1) in
    let split = written-append x (contents_at 3 hs) ((1, gate_of 1) ∷ (hs ++ (1, gate_of 0) ∷ [])) in
    ap (λ (y : List (List ℕ)). opens (sector y 1)) (sym split) ∙ ap opens (last_stands hs z 1 (gate_of 0) (omega arith)) ∙ gate_closes

pub commit_ends : (s : List (List ℕ)) (hs : List (ℕ × List ℕ)) (p : PortState) (d : Disk) (f : ℕ) (r : Result (Unit {0}) PortHalt) (p' : PortState) (d' : Disk) (f' : ℕ) → Runs p d f (commit_writes hs) r p' d' f'
    → d.sectors ≡ Some s → length s ≡ limits.sectors → IsClosed s → IsTransaction hs → OnOk r (IsCommitted s hs d')
commit_ends s hs p d f (Ok done) p' d' f' a told whole closed txn =
    let now = written s (commit_writes hs) in
    let shut = commit_closes s hs whole in
    let law = law_all s hs whole closed txn in
    let gate_opened = opened_gate (body_writes hs) (hs ++ (1, gate_of 0) ∷ []) in
    let chosen : before_or_after s hs (commit_writes hs) ≡ written (outside s) hs = ap (λ (b : Bool). if b then written (outside s) hs else outside s) gate_opened in
    let same : Some (outside now) ≡ Some (written (outside s) hs) = sym (replays_closed now shut) ∙ law ∙ ap Some chosen in
    record {
      sectors_now = now;
      told = told_after s (commit_writes hs) d d' told (all_after (commit_writes hs) p d p' d' a.makes);
      closed = shut;
      outside_is = cc;
    }
commit_ends s hs p d f (Err halt) p' d' f' a told whole closed txn = tt
