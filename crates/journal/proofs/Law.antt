-- Each cut of a commit replays to the volume before it, or to that with all homes.
use Rattle.std.proofs.Common.{◌≡◌, ◌≢◌, ◌⊎◌, ◌≤◌, ◌<◌, ◌+◌, ℕ, suc, Bool, true, false, if◌then◌else◌, List, [], ◌∷◌, ◌++◌, length, take, drop, get_or, Some, None, refl, sym, ap, ◌∙◌, subst, inl, inr, arith, drop-cons}
use Rattle.std.specs.Prelude.{IsTrue}
use Rattle.std.specs.List.{slice_set}
use Rattle.std.proofs.lemmas.List.{length-take-le, get_or-take, length-set}
use Rattle.cal_base.specs.Limits as limits
use Rattle.cal_fields.specs.Padded.{padded}
use Rattle.shared_disk.specs.Homes.{IsTransaction, are_ascending, sectors_of}
use Rattle.shared_disk.specs.Sectors.{written}
use Rattle.journal.specs.Layout.{sector, body, outside, opens, is_header, homes_in, header_of, gate_of, contents_at, with_contents, spelled}
use Rattle.journal.specs.Commit.{commit_writes, replayed, IsClosed}
use Rattle.journal.proofs.Moments.{Each, Among, Throughout, flag, kept, stays}
use Rattle.journal.proofs.Headers.{homes_read, header_read, next_home}
use Rattle.journal.proofs.Sectors.{IsOutside, IsInside, outside_inside, outside_written, overwritten, sector_other, sector_same, sector_written, length_written, body_apart}

-- what a replay leaves, by what the gate and the body say
pub replays_open : (x : List (List ℕ)) (hs : List (ℕ × List ℕ)) → opens (sector x 1) ≡ true → is_header (sector x 2) ≡ true → spelled x ≡ hs → replayed x ≡ Some (outside (written x hs))
replays_open x hs o good e =
    ap (λ (b : Bool). if b then (if is_header (sector x 2) then Some (outside (written x (spelled x))) else None) else Some (outside x)) o
    ∙ ap (λ (b : Bool). if b then Some (outside (written x (spelled x))) else None) good
    ∙ ap (λ (ws : List (ℕ × List ℕ)). Some (outside (written x ws))) e

pub replays_closed : (x : List (List ℕ)) → opens (sector x 1) ≡ false → replayed x ≡ Some (outside x)
replays_closed x o = ap (λ (b : Bool). if b then (if is_header (sector x 2) then Some (outside (written x (spelled x))) else None) else Some (outside x)) o

-- the header and the contents spell a transaction
pub record Spells (hs : List (ℕ × List ℕ)) (x : List (List ℕ)) : Type 0 where
  pub long : length x ≡ limits.sectors
  pub good : is_header (sector x 2) ≡ true
  pub names : homes_in (sector x 2) ≡ sectors_of hs
  pub contents : with_contents (sectors_of hs) (body x) ≡ hs

pub spells : (hs : List (ℕ × List ℕ)) (x : List (List ℕ)) → Spells hs x → spelled x ≡ hs
spells hs x s = ap (λ (ns : List ℕ). with_contents ns (body x)) s.names ∙ s.contents

-- a write to the volume or to the gate leaves that
pub stays_spelled : (hs : List (ℕ × List ℕ)) (x : List (List ℕ)) (i : ℕ) (t : List ℕ) → IsOutside i ⊎ (i ≡ 1) → 2 ≢ i → Spells hs x → Spells hs (slice_set x i t)
stays_spelled hs x i t apart other s =
    let same = sector_other x i 2 t other in
    record {
      long = length-set x i t ∙ s.long;
      good = ap is_header same ∙ s.good;
      names = ap homes_in same ∙ s.names;
      contents = ap (with_contents (sectors_of hs)) (body_apart x i t apart) ∙ s.contents;
    }

-- a transaction is written to the journal's body: each content to its place
above : (hs : List (ℕ × List ℕ)) (at j : ℕ) → j < at → Each (λ i. j ≢ i) (contents_at at hs)
above [] at j less = tt
above (h ∷ hs) at j less = ((λ e. omega arith), above hs (suc at) j (omega arith))

contents_read : (hs : List (ℕ × List ℕ)) (at : ℕ) (x : List (List ℕ)) → at + length hs ≤ 19 → 19 ≤ length x → with_contents (sectors_of hs) (drop at (take 19 (written x (contents_at at hs)))) ≡ hs
contents_read [] at x few long = refl
contents_read (h ∷ hs) at x few long =
    let y = slice_set x at h.1 in
    let z = written y (contents_at (suc at) hs) in
    let same : length y ≡ length x = length-set x at h.1 in
    let all : length z ≡ length y = length_written (contents_at (suc at) hs) y in
    let front : length (take 19 z) ≡ 19 = length-take-le 19 z (omega arith) in
    let first : get_or (take 19 z) at [] ≡ h.1 = get_or-take 19 z at [] (omega arith) ∙ sector_written (contents_at (suc at) hs) at (above hs (suc at) at (omega arith)) y ∙ sector_same x at h.1 (omega arith) in
    ap (with_contents (h.0 ∷ sectors_of hs)) (drop-cons (take 19 z) at [] (omega arith))
    ∙ ap (λ (c : List ℕ). (h.0, c) ∷ with_contents (sectors_of hs) (drop (suc at) (take 19 z))) first
    ∙ ap (λ (ws : List (ℕ × List ℕ)). h ∷ ws) (contents_read hs (suc at) y (omega arith) (omega arith))

-- the writes of the journal's body
abbrev pub body_writes : List (ℕ × List ℕ) → List (ℕ × List ℕ)
body_writes hs = (2, header_of hs) ∷ contents_at 3 hs

body_spells : (s : List (List ℕ)) (hs : List (ℕ × List ℕ)) → length s ≡ limits.sectors → length hs ≤ 16 → IsTransaction hs → Spells hs (written s (body_writes hs))
body_spells s hs long few t =
    let y = slice_set s 2 (header_of hs) in
    let same : length y ≡ length s = length-set s 2 (header_of hs) in
    let stands = sector_written (contents_at 3 hs) 2 (above hs 3 2 (omega arith)) y ∙ sector_same s 2 (header_of hs) (omega arith) in
    record {
      long = length_written (contents_at 3 hs) y ∙ same ∙ long;
      good = ap is_header stands ∙ header_read hs t;
      names = ap homes_in stands ∙ homes_read hs t;
      contents = contents_read hs 3 y (omega arith) (omega arith);
    }

-- what holds before the gate is opened
record Quiet (s : List (List ℕ)) (x : List (List ℕ)) : Type 0 where
  pub gate : sector x 1 ≡ sector s 1
  pub rest : outside x ≡ outside s

-- sectors of the journal's body
record IsBody (i : ℕ) : Type 0 where
  pub low : 2 ≤ i
  pub high : i < 19

stays_quiet : (s : List (List ℕ)) (x : List (List ℕ)) (i : ℕ) (t : List ℕ) → IsBody i → Quiet s x → Quiet s (slice_set x i t)
stays_quiet s x i t c q =
    let low = c.low in
    record {
      gate = sector_other x i 1 t (λ e. omega arith) ∙ q.gate;
      rest = outside_inside x i t (record { low = omega arith; high = c.high }) ∙ q.rest;
    }

contents_low : (hs : List (ℕ × List ℕ)) (at : ℕ) → 2 ≤ at → at + length hs ≤ 19 → Each IsBody (contents_at at hs)
contents_low [] at low h = tt
contents_low (x ∷ xs) at low h = (record { low = low; high = omega arith }, contents_low xs (suc at) (omega arith) (omega arith))

-- a home of this transaction
pub record IsHomeOf (hs : List (ℕ × List ℕ)) (i : ℕ) : Type 0 where
  pub out : IsOutside i
  pub among : Among i hs

homes_each : (hs gs : List (ℕ × List ℕ)) (least : ℕ) → IsTrue (are_ascending least (sectors_of gs)) → ((i : ℕ) → Among i gs → Among i hs) → Each (IsHomeOf hs) gs
homes_each hs [] least up f = tt
homes_each hs (g ∷ gs) least up f =
    let next = next_home least g.0 (sectors_of gs) up in
    (record { out = next.good.place; among = f g.0 (inl refl) }, homes_each hs gs (g.0 + 1) next.others (λ i m. f i (inr m)))

pub homes_out : (gs : List (ℕ × List ℕ)) (least : ℕ) → IsTrue (are_ascending least (sectors_of gs)) → Each IsOutside gs
homes_out [] least up = tt
homes_out (g ∷ gs) least up = let next = next_home least g.0 (sectors_of gs) up in (next.good.place, homes_out gs (g.0 + 1) next.others)

not-one : (i : ℕ) → IsOutside i → i ≢ 1
not-one i h e = elim h [ inl none ↦ omega arith | inr far ↦ omega arith ]

not-two : (i : ℕ) → IsOutside i → 2 ≢ i
not-two i h e = elim h [ inl none ↦ omega arith | inr far ↦ omega arith ]

-- what holds while the gate is open: the volume will be this
pub record Open (hs : List (ℕ × List ℕ)) (done : List (List ℕ)) (x : List (List ℕ)) : Type 0 where
  pub gate : opens (sector x 1) ≡ true
  pub spelt : Spells hs x
  pub ends : outside (written x hs) ≡ done

pub stays_open : (hs : List (ℕ × List ℕ)) (done : List (List ℕ)) (x : List (List ℕ)) (i : ℕ) (t : List ℕ) → IsHomeOf hs i → Open hs done x → Open hs done (slice_set x i t)
stays_open hs done x i t c o = record {
  gate = ap opens (sector_other x i 1 t (λ e. not-one i c.out (sym e))) ∙ o.gate;
  spelt = stays_spelled hs x i t (inl c.out) (not-two i c.out) o.spelt;
  ends = ap outside (overwritten hs x i t c.among) ∙ o.ends;
}

pub open_replays : (hs : List (ℕ × List ℕ)) (done x : List (List ℕ)) → Open hs done x → replayed x ≡ Some done
open_replays hs done x o = replays_open x hs o.gate o.spelt.good (spells hs x o.spelt) ∙ ap Some o.ends

-- the gate is written, whatever is left in it
at_gate : (hs : List (ℕ × List ℕ)) (x done : List (List ℕ)) (g : List ℕ) (b : Bool) → IsTransaction hs → Spells hs x → written (outside x) hs ≡ done → opens g ≡ b → replayed (slice_set x 1 g) ≡ Some (if b then done else outside x)
at_gate hs x done g true t s e o =
    let long = s.long in
    let inside : IsInside 1 = record { low = omega arith; high = omega arith } in
    let y = slice_set x 1 g in
    open_replays hs done y (record {
      gate = ap opens (sector_same x 1 g (omega arith)) ∙ o;
      spelt = stays_spelled hs x 1 g (inr refl) (λ h. omega arith) s;
      ends = outside_written hs (homes_out hs 0 t.ascending) y ∙ ap (λ (v : List (List ℕ)). written v hs) (outside_inside x 1 g inside) ∙ e;
    })
at_gate hs x done g false t s e o =
    let long = s.long in
    replays_closed (slice_set x 1 g) (ap opens (sector_same x 1 g (omega arith)) ∙ o) ∙ ap Some (outside_inside x 1 g (record { low = omega arith; high = omega arith }))

-- the volume at a moment of a commit: before it, or with its homes
abbrev pub Either : List (List ℕ) → List (ℕ × List ℕ) → Bool → List (List ℕ) → Type 0
Either s hs b x = replayed x ≡ Some (if b then written (outside s) hs else outside s)

choose_first : (v w : List (List ℕ)) (b : Bool) → (if b then w else v) ≡ (if (if b then true else false) then w else v)
choose_first v w true = refl
choose_first v w false = refl

choose_last : (w : List (List ℕ)) (v : List (List ℕ)) (b : Bool) → (if b then w else w) ≡ (if (if b then true else true) then w else v)
choose_last w v true = refl
choose_last w v false = refl

pub gate_opens : opens (gate_of 1) ≡ true
unfolding padded
gate_opens = refl

pub gate_closes : opens (gate_of 0) ≡ false
unfolding padded
gate_closes = refl

-- from the open gate on: the homes, and the closed gate
pub ending : (s : List (List ℕ)) (hs : List (ℕ × List ℕ)) (x : List (List ℕ)) → IsTransaction hs → Open hs (written (outside s) hs) x → Throughout (Either s hs) true x (hs ++ (1, gate_of 0) ∷ [])
ending s hs x t o =
    let done = written (outside s) hs in
    let each = homes_each hs hs 0 t.ascending (λ i m. m) in
    kept (Open hs done) (IsHomeOf hs) true (λ i b c. stays true i b (inr refl)) (stays_open hs done) (Either s hs) (λ y q. open_replays hs done y q) hs each ((1, gate_of 0) ∷ []) x o
    (λ y is q.
    let out : outside y ≡ done = ap outside is ∙ o.ends in
    let torn : (g : List ℕ) → Either s hs (flag true 1 g) (slice_set y 1 g) =
    λ g. at_gate hs y done g (opens g) t q.spelt (sym (outside_written hs (homes_out hs 0 t.ascending) y) ∙ q.ends) refl
    ∙ ap Some (ap (λ (v : List (List ℕ)). if opens g then done else v) out ∙ choose_last done (outside s) (opens g)) in
    (open_replays hs done y q, torn, torn (gate_of 0)))

-- each moment of a commit
pub each_moment : (s : List (List ℕ)) (hs : List (ℕ × List ℕ)) → length s ≡ limits.sectors → IsClosed s → IsTransaction hs → Throughout (Either s hs) false s (commit_writes hs)
each_moment s hs w closed t =
    let count = w in
    let few = t.few in
    let low : Each IsBody (body_writes hs) = (record { low = omega arith; high = omega arith }, contents_low hs 3 (omega arith) (omega arith)) in
    kept (Quiet s) IsBody false (λ i b c. stays false i b (inl (let l = c.low in λ e. omega arith))) (stays_quiet s) (Either s hs)
    (λ x q. replays_closed x (ap opens q.gate ∙ closed) ∙ ap Some q.rest) (body_writes hs) low ((1, gate_of 1) ∷ (hs ++ (1, gate_of 0) ∷ [])) s (record { gate = refl; rest = refl })
    (λ y is q.
    let spelt : Spells hs y = subst (Spells hs) (sym is) (body_spells s hs count few t) in
    let long = spelt.long in
    let done = written (outside s) hs in
    let first : written (outside y) hs ≡ done = ap (λ (v : List (List ℕ)). written v hs) q.rest in
    let torn : (g : List ℕ) → Either s hs (flag false 1 g) (slice_set y 1 g) =
    λ g. at_gate hs y done g (opens g) t spelt first refl
    ∙ ap Some (ap (λ (v : List (List ℕ)). if opens g then done else v) q.rest ∙ choose_first (outside s) done (opens g)) in
    let after : Open hs done (slice_set y 1 (gate_of 1)) = record {
      gate = ap opens (sector_same y 1 (gate_of 1) (omega arith)) ∙ gate_opens;
      spelt = stays_spelled hs y 1 (gate_of 1) (inr refl) (λ h. omega arith) spelt;
      ends = outside_written hs (homes_out hs 0 t.ascending) (slice_set y 1 (gate_of 1))
          ∙ ap (λ (v : List (List ℕ)). written v hs) (outside_inside y 1 (gate_of 1) (record { low = omega arith; high = omega arith })) ∙ first;
    } in
    let rest = subst (λ (b : Bool). Throughout (Either s hs) (if b then true else false) (slice_set y 1 (gate_of 1)) (hs ++ (1, gate_of 0) ∷ [])) (sym gate_opens) (ending s hs _ t after) in
    (replays_closed y (ap opens q.gate ∙ closed) ∙ ap Some q.rest, torn, rest))
