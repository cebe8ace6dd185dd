-- The homes of a transaction, written back from the journal's body.
use Rattle.std.proofs.Common.{◌≡◌, ◌≢◌, ◌≤◌, ◌<◌, ◌+◌, ◌*◌, ℕ, zero, suc, true, ◌&&◌, nat_le, nat_eq, List, [], ◌∷◌, ◌++◌, length, take, drop, get_or, slice_index, Result, Ok, Err, refl, sym, ap, ◌∙◌, subst, inl, inr, arith, add-one, length-drop}
use Rattle.std.specs.Prelude.{IsTrue, OnOk}
use Rattle.std.specs.List.{list_all}
use Rattle.std.proofs.lemmas.Bool.{leb-true}
use Rattle.std.proofs.lemmas.List.{drop-drop, get_or-drop, get_or-take, length-take-le, take_all}
use Rattle.std.proofs.lemmas.Option.{get_or_from_slice_get}
use Rattle.cal_base.specs.Limits as limits
use Rattle.byteorder.specs.Endian.{big_number}
use Rattle.shared_disk.specs.Disk.{Disk, SectorIs}
use Rattle.shared_disk.specs.Homes.{are_ascending}
use Rattle.shared_disk.specs.Sectors.{written}
use Rattle.fence.specs.Port.{PortState}
use Rattle.fence.specs.Writes.{Runs}
use Rattle.fence.specs.declared.port_halt.PortHalt.{PortHalt}
use Rattle.fence.proofs.RunsLemmas.{runs_then}
use Rattle.journal.specs.Layout.{body, homes_in, is_header, numbers_in, sector, with_contents}
use Rattle.journal.specs.Replay.{Attempts}
use Rattle.journal.proofs.Attempting.{run_ends}
use Rattle.journal.proofs.Headers.{and_left, and_right, HomeIs, next_home}
use Rattle.journal.proofs.Moments.{Each}
use Rattle.journal.proofs.Sectors.{IsOutside, sector_written}

on_ok : {P : Type 0} → (r : Result (Unit {0}) PortHalt) → P → OnOk r P
on_ok (Ok done) x = x
on_ok (Err halt) x = tt

-- a content was read, and written to its home or not
pub copied : (from home : ℕ) (content : List ℕ) (p : PortState) (d : Disk) (f : ℕ) (d1 : Disk) (f1 : ℕ) (r : Result (Unit {0}) PortHalt) (p' : PortState) (d' : Disk) (f' : ℕ)
    → d.key ≡ p.view → SectorIs d from content → d1 ≡ d → f ≤ f1 → Runs p d1 f1 ((home, content) ∷ []) r p' d' f' → Attempts (λ s. (home, sector s from) ∷ []) 1 p d f r p' d' f'
copied from home content p d f d1 f1 r p' d' f' own is same later a =
    let room = ap (λ (x : Disk). x.room) same in
    let before : Runs p d f [] (Ok tt) p d1 f1 = record { makes = (refl, same); room = omega arith; counted = tt; later = later } in
    let whole = runs_then [] ((home, content) ∷ []) p d f p d1 f1 r p' d' f' before a in
    record {
      tried = (home, content) ∷ [];
      ends = run_ends ((home, content) ∷ []) p d f r p' d' f' own whole;
      few = omega arith;
      later = whole.later;
      told = λ s t l. record {
        rest = [];
        split = ap (λ (c : List ℕ). (home, c) ∷ []) (get_or_from_slice_get s from content [] (is s t));
        whole = on_ok r refl;
      };
    }

-- the homes of a header that is in its grammar
pub record GoodHeader (header : List ℕ) : Type 0 where
  pub few : slice_index header 0 ≤ 16
  pub some : 1 ≤ slice_index header 0
  pub ascending : IsTrue (are_ascending 0 (homes_in header))

pub good_header : (header : List ℕ) → is_header header ≡ true → GoodHeader header
good_header header h =
    let count = slice_index header 0 in
    let a = and_left (nat_le 1 count && nat_le count 16 && are_ascending 0 (homes_in header)) (list_all (λ byte. nat_eq byte 0) (drop (1 + 4 * count) header)) h in
    let b = and_left (nat_le 1 count && nat_le count 16) (are_ascending 0 (homes_in header)) a in
    record {
      few = leb-true count 16 (and_right (nat_le 1 count) (nat_le count 16) b);
      some = leb-true 1 count (and_left (nat_le 1 count) (nat_le count 16) b);
      ascending = and_right (nat_le 1 count && nat_le count 16) (are_ascending 0 (homes_in header)) a;
    }

home_of : (ns : List ℕ) (least i : ℕ) → IsTrue (are_ascending least ns) → i < length ns → HomeIs (get_or ns i 0)
home_of [] least i h less = absurd (omega arith)
home_of (n ∷ ns) least zero h less = (next_home least n ns h).good
home_of (n ∷ ns) least (suc i) h less = home_of ns (n + 1) i (next_home least n ns h).others (omega arith)

pub length-numbers_in : (n : ℕ) (bytes : List ℕ) → length (numbers_in n bytes) ≡ n
length-numbers_in zero bytes = refl
length-numbers_in (suc n) bytes = let e = length-numbers_in n (drop 4 bytes) in omega arith

number_at : (n i : ℕ) (bytes : List ℕ) → i < n → get_or (numbers_in n bytes) i 0 ≡ big_number 4 (drop (4 * i) bytes)
number_at zero i bytes h = absurd (omega arith)
number_at (suc n) zero bytes h = refl
number_at (suc n) (suc i) bytes h = number_at n i (drop 4 bytes) (omega arith) ∙ ap (big_number 4) (drop-drop (4 * i) 4 bytes ∙ ap (λ (k : ℕ). drop k bytes) (let e : 4 + 4 * i ≡ 4 * suc i = omega arith in e))

pub home_number : (header : List ℕ) (i : ℕ) → i < slice_index header 0 → get_or (homes_in header) i 0 ≡ big_number 4 (drop (1 + 4 * i) header)
home_number header i h = number_at (slice_index header 0) i (drop 1 header) h ∙ ap (big_number 4) (drop-drop (4 * i) 1 header)

pub home_good : (header : List ℕ) (i home : ℕ) → is_header header ≡ true → i < slice_index header 0 → home ≡ big_number 4 (drop (1 + 4 * i) header) → HomeIs home
home_good header i home good h e =
    subst HomeIs (home_number header i h ∙ sym e) (home_of (homes_in header) 0 i (good_header header good).ascending (let l = length-numbers_in (slice_index header 0) (drop 1 header) in omega arith))

-- one home with its content more
with_suc : (hs : List ℕ) (cs : List (List ℕ)) (i : ℕ) → i < length hs → i < length cs → take (suc i) (with_contents hs cs) ≡ take i (with_contents hs cs) ++ (get_or hs i 0, get_or cs i []) ∷ []
with_suc [] cs i a b = absurd (omega arith)
with_suc (h ∷ hs) [] i a b = absurd (omega arith)
with_suc (h ∷ hs) (c ∷ cs) zero a b = refl
with_suc (h ∷ hs) (c ∷ cs) (suc i) a b = ap (λ (ws : List (ℕ × List ℕ)). (h, c) ∷ ws) (with_suc hs cs i (omega arith) (omega arith))

with_next : (hs : List ℕ) (cs : List (List ℕ)) (i : ℕ) → i < length hs → i < length cs → take (i + 1) (with_contents hs cs) ≡ take i (with_contents hs cs) ++ (get_or hs i 0, get_or cs i []) ∷ []
with_next hs cs i a b = rw add-one (with_suc hs cs i a b)

pub with_out : (hs : List ℕ) (cs : List (List ℕ)) (least : ℕ) → IsTrue (are_ascending least hs) → Each IsOutside (with_contents hs cs)
with_out [] cs least h = tt
with_out (x ∷ hs) [] least h = tt
with_out (x ∷ hs) (c ∷ cs) least h = let next = next_home least x hs h in (next.good.place, with_out hs cs (x + 1) next.others)

each_take : (C : ℕ → Type 0) (ws : List (ℕ × List ℕ)) (i : ℕ) → Each C ws → Each C (take i ws)
each_take C ws zero h = tt
each_take C [] (suc i) h = tt
each_take C (w ∷ ws) (suc i) h = (h.0, each_take C ws i h.1)

apart : (ws : List (ℕ × List ℕ)) (j : ℕ) → 1 ≤ j → j < 19 → Each IsOutside ws → Each (λ i. j ≢ i) ws
apart [] j low high h = tt
apart (w ∷ ws) j low high h = ((λ e. elim h.0 [ inl none ↦ omega arith | inr far ↦ omega arith ]), apart ws j low high h.1)

body_at : (s : List (List ℕ)) (i : ℕ) → i < 16 → get_or (body s) i [] ≡ sector s (3 + i)
body_at s i h = get_or-drop 3 (take 19 s) i [] ∙ get_or-take 19 s (3 + i) [] (omega arith)

pub length-body : (s : List (List ℕ)) → length s ≡ limits.sectors → length (body s) ≡ 16
length-body s l = let t = length-take-le 19 s (omega arith) in let d = length-drop 3 (take 19 s) in omega arith

-- the next home is written with what stands in its place of the body, also after the homes before it
pub next_copy : (header : List ℕ) (s : List (List ℕ)) (i home : ℕ) → is_header header ≡ true → i < slice_index header 0 → home ≡ big_number 4 (drop (1 + 4 * i) header) → length s ≡ limits.sectors
    → take (i + 1) (with_contents (homes_in header) (body s)) ≡ take i (with_contents (homes_in header) (body s)) ++ (home, sector (written s (take i (with_contents (homes_in header) (body s)))) (3 + i)) ∷ []
next_copy header s i home good h e l =
    let g = good_header header good in
    let few = g.few in
    let hs = homes_in header in
    let before = take i (with_contents hs (body s)) in
    let many = length-numbers_in (slice_index header 0) (drop 1 header) in
    let long = length-body s l in
    let out = each_take IsOutside (with_contents hs (body s)) i (with_out hs (body s) 0 g.ascending) in
    let content : get_or (body s) i [] ≡ sector (written s before) (3 + i) =
    body_at s i (omega arith) ∙ sym (sector_written before (3 + i) (apart before (3 + i) (omega arith) (omega arith) out) s) in
    with_next hs (body s) i (omega arith) (omega arith)
    ∙ ap (λ (n : ℕ). before ++ (n, get_or (body s) i []) ∷ []) (home_number header i h ∙ sym e)
    ∙ ap (λ (c : List ℕ). before ++ (home, c) ∷ []) content

-- all of them
pub with_all : (header : List ℕ) (s : List (List ℕ)) (i : ℕ) → slice_index header 0 ≤ i → take i (with_contents (homes_in header) (body s)) ≡ with_contents (homes_in header) (body s)
with_all header s i h = take_all i (with_contents (homes_in header) (body s)) (let a = shorter (homes_in header) (body s) in let l = length-numbers_in (slice_index header 0) (drop 1 header) in omega arith)
  where
    shorter : (hs : List ℕ) (cs : List (List ℕ)) → length (with_contents hs cs) ≤ length hs
    shorter [] cs = omega arith
    shorter (x ∷ hs) [] = omega arith
    shorter (x ∷ hs) (c ∷ cs) = let e = shorter hs cs in omega arith
