-- Which commits the kept writes show to be opened.
use Rattle.std.proofs.Common.{◌≡◌, ◌≢◌, ◌⊎◌, ◌≤◌, ◌<◌, ◌+◌, ◌*◌, ℕ, zero, suc, Bool, true, false, ◌&&◌, if◌then◌else◌, List, [], ◌∷◌, ◌++◌, length, take, get_or, Option, Some, None, Result, Ok, Err, refl, sym, ap, ◌∙◌, subst, inl, inr, arith, length-append}
use Rattle.std.proofs.lemmas.Bool.{ne_eqb}
use Rattle.std.proofs.lemmas.List.{append-nil, length-take-le, take_all}
use Rattle.cal_base.specs.Limits as limits
use Rattle.shared_disk.specs.Disk.{Disk, KeepsCount, after}
use Rattle.shared_disk.specs.Homes.{IsTransaction}
use Rattle.shared_disk.specs.Sectors.{written, left_of}
use Rattle.shared_disk.proofs.Changes.{after-nil}
use Rattle.fence.specs.Port.{PortState, accepting_all}
use Rattle.fence.specs.Writes.{Runs}
use Rattle.fence.specs.Endings.{EndsAs}
use Rattle.fence.specs.declared.port_halt.PortHalt.{PortHalt}
use Rattle.fence.specs.declared.port_halt.PortHalt.TheVariants.{Fenced, Failed, Stopped}
use Rattle.fence.proofs.EndingLemmas.{ends_as, counts_and_keeps, run_keeps_count}
use Rattle.journal.specs.Layout.{contents_at, gate_of, opens, outside}
use Rattle.journal.specs.Commit.{IsClosed, commit_writes, opened, opens_gate, replayed}
use Rattle.journal.specs.Opened.{TellsOpening, opened_at, opening_place}
use Rattle.journal.proofs.AfterCommit.{law_at, left_all, told_after}
use Rattle.journal.proofs.Law.{body_writes, gate_opens}
use Rattle.journal.proofs.Moments.{Each}

-- a write elsewhere doesn't open the gate
elsewhere : (at : ℕ) (bytes : List ℕ) → at ≢ 1 → opens_gate at bytes ≡ false
elsewhere at bytes other = ap (λ (b : Bool). b && opens bytes) (ne_eqb at 1 other)

chosen : (b : Bool) → (if b then true else false) ≡ b
chosen true = refl
chosen false = refl

-- of writes to other sectors and then one that opens the gate, cut anywhere, some opened it exactly where that one stands and opens it
at_place : (xs ys : List (ℕ × List ℕ)) (g : List ℕ) (j : ℕ) (t : Option (List ℕ)) → opens g ≡ true → Each (λ i. i ≢ 1) xs
    → opened (left_of (xs ++ (1, g) ∷ ys) j t) ≡ opened_at (left_of (xs ++ (1, g) ∷ ys) j t) (length xs)
at_place [] ys g zero None o apart = refl
at_place [] ys g zero (Some t) o apart = chosen (opens_gate 1 t)
at_place [] ys g (suc j) t o apart = ap (λ (b : Bool). if b then true else opened (left_of ys j t)) o ∙ sym o
at_place (x ∷ xs) ys g zero None o apart = refl
at_place (x ∷ xs) ys g zero (Some t) o apart = ap (λ (b : Bool). if b then true else false) (elsewhere x.0 t apart.0)
at_place (x ∷ xs) ys g (suc j) t o apart =
    ap (λ (b : Bool). if b then true else opened (left_of (xs ++ (1, g) ∷ ys) j t)) (elsewhere x.0 x.1 apart.0) ∙ at_place xs ys g j t o apart.1

contents_apart : (hs : List (ℕ × List ℕ)) (at : ℕ) → 2 ≤ at → Each (λ i. i ≢ 1) (contents_at at hs)
contents_apart [] at low = tt
contents_apart (h ∷ hs) at low = ((λ e. omega arith), contents_apart hs (suc at) (omega arith))

length-contents : (hs : List (ℕ × List ℕ)) (at : ℕ) → length (contents_at at hs) ≡ length hs
length-contents [] at = refl
length-contents (h ∷ hs) at = let e = length-contents hs (suc at) in omega arith

pub opened_place : (hs : List (ℕ × List ℕ)) (j : ℕ) (t : Option (List ℕ)) → opened (left_of (commit_writes hs) j t) ≡ opened_at (left_of (commit_writes hs) j t) (opening_place (length hs))
opened_place hs j t =
    let place : length (body_writes hs) ≡ opening_place (length hs) = (let e = length-contents hs 3 in omega arith) in
    subst (λ (n : ℕ). opened (left_of (commit_writes hs) j t) ≡ opened_at (left_of (commit_writes hs) j t) n) place
    (at_place (body_writes hs) (hs ++ (1, gate_of 0) ∷ []) (gate_of 1) j t gate_opens ((λ e. omega arith), contents_apart hs 3 (omega arith)))

pub length-commit : (hs : List (ℕ × List ℕ)) → length (commit_writes hs) ≡ 2 * length hs + 3
length-commit hs =
    let a = length-contents hs 3 in
    let b = length-append hs ((1, gate_of 0) ∷ []) in
    let c = length-append (contents_at 3 hs) ((1, gate_of 1) ∷ (hs ++ (1, gate_of 0) ∷ [])) in
    omega arith

length-left : (ws : List (ℕ × List ℕ)) (k : ℕ) (t : Option (List ℕ)) → length (left_of ws k t) ≤ length ws
length-left [] k t = omega arith
length-left (w ∷ ws) zero None = omega arith
length-left (w ∷ ws) zero (Some t) = omega arith
length-left (w ∷ ws) (suc k) t = let e = length-left ws k t in omega arith

length-take-some : (ws : List (ℕ × List ℕ)) (k : ℕ) → length (take k ws) ≤ length ws
length-take-some ws zero = omega arith
length-take-some [] (suc k) = omega arith
length-take-some (w ∷ ws) (suc k) = let e = length-take-some ws k in omega arith

-- by the write at the place
pub opened_there : (ws : List (ℕ × List ℕ)) (n : ℕ) → n < length ws → opened_at ws n ≡ opens_gate (get_or ws n (0, [])).0 (get_or ws n (0, [])).1
opened_there [] n h = absurd (omega arith)
opened_there (w ∷ ws) zero h = refl
opened_there (w ∷ ws) (suc n) h = opened_there ws n (omega arith)

pub opened_past : (ws : List (ℕ × List ℕ)) (n : ℕ) → length ws ≤ n → opened_at ws n ≡ false
opened_past [] n h = refl
opened_past (w ∷ ws) zero h = absurd (omega arith)
opened_past (w ∷ ws) (suc n) h = opened_past ws n (omega arith)

-- behind other writes
behind : (earlier ws : List (ℕ × List ℕ)) (n : ℕ) → opened_at (earlier ++ ws) (length earlier + n) ≡ opened_at ws n
behind [] ws n = ap (opened_at ws) (let e : length {A = ℕ × List ℕ} [] + n ≡ n = omega arith in e)
behind (x ∷ xs) ws n = ap (opened_at (x ∷ (xs ++ ws))) (let e : length (x ∷ xs) + n ≡ suc (length xs + n) = omega arith in e) ∙ behind xs ws n

-- what a failed write left counts at its own place alone
untorn : (ws : List (ℕ × List ℕ)) (k n : ℕ) (t : List ℕ) → k ≢ n → opened_at (left_of ws k (Some t)) n ≡ opened_at (take k ws) n
untorn [] zero n t other = refl
untorn [] (suc k) n t other = refl
untorn (w ∷ ws) zero zero t other = absurd (other refl)
untorn (w ∷ ws) zero (suc n) t other = refl
untorn (w ∷ ws) (suc k) zero t other = refl
untorn (w ∷ ws) (suc k) (suc n) t other = untorn ws k n t (λ e. other (ap suc e))

-- what is kept where there is room
kept_is : (p p' : PortState) (made : List (ℕ × List ℕ)) → length made ≤ p.kept.space → p' ≡ accepting_all p made → p'.kept.writes ≡ p.kept.writes ++ made
kept_is p p' made room e =
    ap (λ (q : PortState). q.kept.writes) e
    ∙ ap (λ k. k.writes) (counts_and_keeps made p).kept
    ∙ ap (λ (xs : List (ℕ × List ℕ)). p.kept.writes ++ xs) (take_all p.kept.space made room)

-- the volume is as it was or has the homes
either_way : (s : List (List ℕ)) (hs : List (ℕ × List ℕ)) (now : List (List ℕ)) (b : Bool) → replayed now ≡ Some (if b then written (outside s) hs else outside s)
    → (replayed now ≡ Some (written (outside s) hs)) ⊎ (replayed now ≡ Some (outside s))
either_way s hs now true e = inl e
either_way s hs now false e = inr e

-- the kept writes are those that were made
tells_made : (s : List (List ℕ)) (hs kept before : List (ℕ × List ℕ)) (k : ℕ) (t : Option (List ℕ)) (r : Result (Unit {0}) PortHalt) (d d' : Disk)
    → d.sectors ≡ Some s → length s ≡ limits.sectors → IsClosed s → IsTransaction hs
    → d' ≡ after d (left_of (commit_writes hs) k t) → kept ≡ before ++ left_of (commit_writes hs) k t → TellsOpening s hs (length before) r kept d'
tells_made s hs kept before k t r d d' told long closed txn e is =
    let made = left_of (commit_writes hs) k t in
    let n = opening_place (length hs) in
    let law = law_at s hs k t long closed txn in
    let shown : opened made ≡ opened_at kept (length before + n) = opened_place hs k t ∙ sym (behind before made n) ∙ ap (λ (xs : List (ℕ × List ℕ)). opened_at xs (length before + n)) (sym is) in
    record {
      now = written s made;
      told = told_after s made d d' told e;
      exact = λ other. law ∙ ap (λ (b : Bool). Some (if b then written (outside s) hs else outside s)) shown;
      either = either_way s hs (written s made) (opened made) law;
    }

-- a write failed, which isn't kept
tells_failed : (s : List (List ℕ)) (hs kept before : List (ℕ × List ℕ)) (k : ℕ) (t : List ℕ) (d d' : Disk)
    → d.sectors ≡ Some s → length s ≡ limits.sectors → IsClosed s → IsTransaction hs → k < length (commit_writes hs)
    → d' ≡ after d (left_of (commit_writes hs) k (Some t)) → kept ≡ before ++ take k (commit_writes hs) → TellsOpening s hs (length before) (Err Failed) kept d'
tells_failed s hs kept before k t d d' told long closed txn within e is =
    let made = left_of (commit_writes hs) k (Some t) in
    let n = opening_place (length hs) in
    let law = law_at s hs k (Some t) long closed txn in
    let count : length kept ≡ length before + k = (let a = ap (λ (xs : List (ℕ × List ℕ)). length xs) is in let b = length-append before (take k (commit_writes hs)) in let c = length-take-le k (commit_writes hs) (omega arith) in omega arith) in
    record {
      now = written s made;
      told = told_after s made d d' told e;
      exact = λ other.
          let apart : k ≢ n = (λ same. other refl (count ∙ ap (λ (m : ℕ). length before + m) same)) in
          let shown : opened made ≡ opened_at kept (length before + n) =
          opened_place hs k (Some t) ∙ untorn (commit_writes hs) k n t apart ∙ sym (behind before (take k (commit_writes hs)) n) ∙ ap (λ (xs : List (ℕ × List ℕ)). opened_at xs (length before + n)) (sym is) in
          law ∙ ap (λ (b : Bool). Some (if b then written (outside s) hs else outside s)) shown;
      either = either_way s hs (written s made) (opened made) law;
    }

pub tells_opening : (s : List (List ℕ)) (hs : List (ℕ × List ℕ)) (p : PortState) (d : Disk) (f : ℕ) (r : Result (Unit {0}) PortHalt) (p' : PortState) (d' : Disk) (f' : ℕ) → Runs p d f (commit_writes hs) r p' d' f'
    → d.sectors ≡ Some s → length s ≡ limits.sectors → IsClosed s → IsTransaction hs → 2 * length hs + 3 ≤ p.kept.space → TellsOpening s hs (length p.kept.writes) r p'.kept.writes d'
tells_opening s hs p d f (Ok done) p' d' f' a told long closed txn room =
    let e = ends_as (commit_writes hs) p d (Ok tt) p' d' a.makes in
    let all = left_all (commit_writes hs) in
    let count = length-commit hs in
    tells_made s hs p'.kept.writes p.kept.writes (length (commit_writes hs)) None (Ok tt) d d' told long closed txn
    (e.changed ∙ ap (after d) (sym all)) (kept_is p p' (commit_writes hs) (omega arith) e.accepted ∙ ap (λ (xs : List (ℕ × List ℕ)). p.kept.writes ++ xs) (sym all))
tells_opening s hs p d f (Err (Fenced mine current)) p' d' f' a told long closed txn room =
    let e = ends_as (commit_writes hs) p d (Err (Fenced mine current)) p' d' a.makes in
    tells_made s hs p'.kept.writes p.kept.writes 0 None (Err (Fenced mine current)) d d' told long closed txn
    (e.unchanged ∙ sym (after-nil d)) (ap (λ (q : PortState). q.kept.writes) e.uncounted ∙ sym (append-nil p.kept.writes))
tells_opening s hs p d f (Err Failed) p' d' f' a told long closed txn room =
    let e = ends_as (commit_writes hs) p d (Err Failed) p' d' a.makes in
    let count = length-commit hs in
    let few = length-take-some (commit_writes hs) e.made in
    tells_failed s hs p'.kept.writes p.kept.writes e.made e.left d d' told long closed txn e.within e.changed (kept_is p p' (take e.made (commit_writes hs)) (omega arith) e.accepted)
tells_opening s hs p d f (Err Stopped) p' d' f' a told long closed txn room =
    let e = ends_as (commit_writes hs) p d (Err Stopped) p' d' a.makes in
    let count = length-commit hs in
    let few = length-left (commit_writes hs) e.made e.stop.torn in
    tells_made s hs p'.kept.writes p.kept.writes e.made e.stop.torn (Err Stopped) d d' told long closed txn e.changed (kept_is p p' (left_of (commit_writes hs) e.made e.stop.torn) (omega arith) e.accepted)

-- of a run's writes alone
pub runs_end_as : (ws : List (ℕ × List ℕ)) (p : PortState) (d : Disk) (f : ℕ) (r : Result (Unit {0}) PortHalt) (p' : PortState) (d' : Disk) (f' : ℕ) → Runs p d f ws r p' d' f' → EndsAs p d ws r p' d'
runs_end_as ws p d f r p' d' f' a = ends_as ws p d r p' d' a.makes

pub runs_keep_count : (ws : List (ℕ × List ℕ)) (p : PortState) (d : Disk) (f : ℕ) (r : Result (Unit {0}) PortHalt) (p' : PortState) (d' : Disk) (f' : ℕ) → Runs p d f ws r p' d' f' → KeepsCount d d'
runs_keep_count ws p d f r p' d' f' a = run_keeps_count ws p d r p' d' a.makes
