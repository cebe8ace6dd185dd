-- Runs of writes, one after the other.
use Rattle.std.proofs.Common.{◌≡◌, ◌≤◌, ◌<◌, ◌+◌, ℕ, suc, List, [], ◌∷◌, ◌++◌, length, Option, Some, None, Result, Ok, Err, refl, sym, ap, ◌∙◌, subst, inl, inr, arith, length-append}
use Rattle.std.specs.Prelude.{IfErr, IsErrAnd, take, drop, get_or}
use Rattle.std.proofs.lemmas.List.{take_more, take-append-drop}
use Rattle.cal_base.specs.Faults.{Rose}
use Rattle.shared_disk.specs.Disk.{Disk, after}
use Rattle.shared_disk.specs.Sectors.{left_of}
use Rattle.shared_disk.specs.declared.stop.Stop.{Stop}
use Rattle.shared_disk.proofs.Changes.{after-append, after-nil}
use Rattle.fence.specs.Port.{PortState, due, PortWrites, WritesAt, Stops}
use Rattle.fence.specs.Writes.{MakesAll, HaltsIn, Makes, Runs, IsCut}
use Rattle.fence.specs.declared.port_halt.PortHalt.{PortHalt}
use Rattle.fence.specs.declared.port_halt.PortHalt.TheVariants.{Fenced, Failed, Stopped}

-- an accepted write: no stop was due
free-at : (o : Option Stop) (p : PortState) (d : Disk) (at : ℕ) (bytes : List ℕ) (p' : PortState) (d' : Disk) → due p ≡ o → WritesAt o p d at bytes (Ok tt) p' d' → MakesAll p d ((at, bytes) ∷ []) p' d'
free-at None p d at bytes p' d' e w = (record { own = w.own; undue = e }, (w.counted, w.changed))
free-at (Some stop) p d at bytes p' d' e w = not-stopped stop.torn p d at bytes p' d' w
  where
    not-stopped : (t : Option (List ℕ)) (p : PortState) (d : Disk) (at : ℕ) (bytes : List ℕ) (p' : PortState) (d' : Disk) → Stops t p d at (Ok tt) p' d' → MakesAll p d ((at, bytes) ∷ []) p' d'
    not-stopped None p d at bytes p' d' w = let h = w.stopped in absurd (cc)
    not-stopped (Some t) p d at bytes p' d' w = absurd w

pub makes_one : (p : PortState) (d : Disk) (at : ℕ) (bytes : List ℕ) (r : Result (Unit {0}) PortHalt) (p' : PortState) (d' : Disk) → PortWrites p d at bytes r p' d' → Makes p d ((at, bytes) ∷ []) r p' d'
makes_one p d at bytes (Ok done) p' d' w = free-at (due p) p d at bytes p' d' refl w
makes_one p d at bytes (Err halt) p' d' w = inl w

all_all : (xs ys : List (ℕ × List ℕ)) (p : PortState) (d : Disk) (p1 : PortState) (d1 : Disk) (p2 : PortState) (d2 : Disk) → MakesAll p d xs p1 d1 → MakesAll p1 d1 ys p2 d2 → MakesAll p d (xs ++ ys) p2 d2
all_all [] ys p d p1 d1 p2 d2 h k = subst (λ (q : PortState). MakesAll q d ys p2 d2) h.0 (subst (λ (e : Disk). MakesAll p1 e ys p2 d2) h.1 k)
all_all (x ∷ xs) ys p d p1 d1 p2 d2 h k = (h.0, all_all xs ys _ _ p1 d1 p2 d2 h.1 k)

all_halts : (xs ys : List (ℕ × List ℕ)) (p : PortState) (d : Disk) (p1 : PortState) (d1 : Disk) (halt : PortHalt) (p2 : PortState) (d2 : Disk) → MakesAll p d xs p1 d1 → HaltsIn p1 d1 ys halt p2 d2 → HaltsIn p d (xs ++ ys) halt p2 d2
all_halts [] ys p d p1 d1 halt p2 d2 h k = subst (λ (q : PortState). HaltsIn q d ys halt p2 d2) h.0 (subst (λ (e : Disk). HaltsIn p1 e ys halt p2 d2) h.1 k)
all_halts (x ∷ xs) ys p d p1 d1 halt p2 d2 h k = inr (h.0, all_halts xs ys _ _ p1 d1 halt p2 d2 h.1 k)

halts_early : (xs ys : List (ℕ × List ℕ)) (p : PortState) (d : Disk) (halt : PortHalt) (p2 : PortState) (d2 : Disk) → HaltsIn p d xs halt p2 d2 → HaltsIn p d (xs ++ ys) halt p2 d2
halts_early [] ys p d halt p2 d2 h = absurd h
halts_early (x ∷ xs) ys p d halt p2 d2 h = elim h [ inl w ↦ inl w | inr k ↦ inr (k.0, halts_early xs ys _ _ halt p2 d2 k.1) ]

makes_then : (xs ys : List (ℕ × List ℕ)) (p : PortState) (d : Disk) (p1 : PortState) (d1 : Disk) (r : Result (Unit {0}) PortHalt) (p2 : PortState) (d2 : Disk) → MakesAll p d xs p1 d1 → Makes p1 d1 ys r p2 d2 → Makes p d (xs ++ ys) r p2 d2
makes_then xs ys p d p1 d1 (Ok done) p2 d2 h k = all_all xs ys p d p1 d1 p2 d2 h k
makes_then xs ys p d p1 d1 (Err halt) p2 d2 h k = all_halts xs ys p d p1 d1 halt p2 d2 h k

rose_later : (a b c : ℕ) → a ≤ b → Rose b c → Rose a c
rose_later a b c h k = omega arith

counted_then : (a b c : ℕ) (r : Result (Unit {0}) PortHalt) → a ≤ b → IfErr r (λ why. why ≡ Failed → Rose b c) → IfErr r (λ why. why ≡ Failed → Rose a c)
counted_then a b c (Ok done) h k = tt
counted_then a b c (Err why) h k = λ e. rose_later a b c h (k e)

-- nothing was to be written
pub runs_nothing : (p : PortState) (d : Disk) (f : ℕ) → Runs p d f [] (Ok tt) p d f
runs_nothing p d f = record { makes = (refl, refl); room = omega arith; counted = tt; later = omega arith }

-- all of the first writes, and then the others
pub runs_then : (xs ys : List (ℕ × List ℕ)) (p : PortState) (d : Disk) (f : ℕ) (p1 : PortState) (d1 : Disk) (f1 : ℕ) (r : Result (Unit {0}) PortHalt) (p2 : PortState) (d2 : Disk) (f2 : ℕ)
    → Runs p d f xs (Ok tt) p1 d1 f1 → Runs p1 d1 f1 ys r p2 d2 f2 → Runs p d f (xs ++ ys) r p2 d2 f2
runs_then xs ys p d f p1 d1 f1 r p2 d2 f2 a b = record {
  makes = makes_then xs ys p d p1 d1 r p2 d2 a.makes b.makes;
  room = (let h = a.room in let k = b.room in omega (arith, length-append xs ys));
  counted = counted_then f f1 f2 r a.later b.counted;
  later = (let h = a.later in let k = b.later in omega arith);
}

-- a halt within the first writes is one within all
pub runs_early : (xs ys : List (ℕ × List ℕ)) (p : PortState) (d : Disk) (f : ℕ) (halt : PortHalt) (p1 : PortState) (d1 : Disk) (f1 : ℕ)
    → Runs p d f xs (Err halt) p1 d1 f1 → Runs p d f (xs ++ ys) (Err halt) p1 d1 f1
runs_early xs ys p d f halt p1 d1 f1 a = record {
  makes = halts_early xs ys p d halt p1 d1 a.makes;
  room = (let h = a.room in omega (arith, length-append xs ys));
  counted = a.counted;
  later = a.later;
}

-- what all writes leave
pub all_after : (ws : List (ℕ × List ℕ)) (p : PortState) (d : Disk) (p' : PortState) (d' : Disk) → MakesAll p d ws p' d' → d' ≡ after d ws
all_after [] p d p' d' h = h.1 ∙ sym (after-nil d)
all_after (w ∷ ws) p d p' d' h = all_after ws _ _ p' d' h.1 ∙ after-append d (w ∷ []) ws

unmade : (d d' : Disk) (w : ℕ × List ℕ) (ws : List (ℕ × List ℕ)) → d' ≡ d → IsCut d (w ∷ ws) d'
unmade d d' w ws e = record { made = 0; torn = None; some_left = omega arith; changed = e ∙ sym (after-nil d) }

torn_at : (d d' : Disk) (w : ℕ × List ℕ) (ws : List (ℕ × List ℕ)) (t : List ℕ) → d' ≡ after d ((w.0, t) ∷ []) → IsCut d (w ∷ ws) d'
torn_at d d' w ws t e = record { made = 0; torn = Some t; some_left = omega arith; changed = e }

cut_at : (o : Option Stop) (p : PortState) (d : Disk) (w : ℕ × List ℕ) (ws : List (ℕ × List ℕ)) (halt : PortHalt) (p' : PortState) (d' : Disk) → WritesAt o p d w.0 w.1 (Err halt) p' d' → IsCut d (w ∷ ws) d'
cut_at None p d w ws (Fenced mine current) p' d' h = unmade d d' w ws h.unchanged
cut_at None p d w ws Failed p' d' h = torn_at d d' w ws h.leaves.left h.leaves.changed
cut_at None p d w ws Stopped p' d' h = absurd h
cut_at (Some stop) p d w ws halt p' d' h = cut_stop stop.torn p d w ws halt p' d' h
  where
    cut_stop : (t : Option (List ℕ)) (p : PortState) (d : Disk) (w : ℕ × List ℕ) (ws : List (ℕ × List ℕ)) (halt : PortHalt) (p' : PortState) (d' : Disk) → Stops t p d w.0 (Err halt) p' d' → IsCut d (w ∷ ws) d'
    cut_stop None p d w ws halt p' d' h = unmade d d' w ws h.unchanged
    cut_stop (Some t) p d w ws (Fenced mine current) p' d' h = unmade d d' w ws h.unchanged
    cut_stop (Some t) p d w ws Failed p' d' h = torn_at d d' w ws h.leaves.left h.leaves.changed
    cut_stop (Some t) p d w ws Stopped p' d' h = torn_at d d' w ws t h.changed

cut_later : (d d' : Disk) (w : ℕ × List ℕ) (ws : List (ℕ × List ℕ)) → IsCut (after d (w ∷ [])) ws d' → IsCut d (w ∷ ws) d'
cut_later d d' w ws c = record {
  made = suc c.made;
  torn = c.torn;
  some_left = (let h = c.some_left in omega arith);
  changed = c.changed ∙ after-append d (w ∷ []) (left_of ws c.made c.torn);
}

-- a halt leaves a cut
pub halt_cut : (ws : List (ℕ × List ℕ)) (p : PortState) (d : Disk) (halt : PortHalt) (p' : PortState) (d' : Disk) → HaltsIn p d ws halt p' d' → IsCut d ws d'
halt_cut [] p d halt p' d' h = absurd h
halt_cut (w ∷ ws) p d halt p' d' h = elim h [ inl a ↦ cut_at (due p) p d w ws halt p' d' a | inr k ↦ cut_later d d' w ws (halt_cut ws _ _ halt p' d' k.1) ]

-- at most one of the room was used
room_at : (o : Option Stop) (p : PortState) (d : Disk) (at : ℕ) (bytes : List ℕ) (r : Result (Unit {0}) PortHalt) (p' : PortState) (d' : Disk) → WritesAt o p d at bytes r p' d' → d.room ≤ d'.room + 1
room_at None p d at bytes (Ok done) p' d' w = room_after d d' at bytes w.changed
  where
    room_after : (d d' : Disk) (at : ℕ) (t : List ℕ) → d' ≡ after d ((at, t) ∷ []) → d.room ≤ d'.room + 1
    room_after d d' at t e = let h = ap (λ (x : Disk). x.room) e in omega arith
room_at None p d at bytes (Err (Fenced mine current)) p' d' w = let h = ap (λ (x : Disk). x.room) w.unchanged in omega arith
room_at None p d at bytes (Err Failed) p' d' w = let h = ap (λ (x : Disk). x.room) w.leaves.changed in omega arith
room_at None p d at bytes (Err Stopped) p' d' w = absurd w
room_at (Some stop) p d at bytes r p' d' w = room_stop stop.torn p d at r p' d' w
  where
    room_stop : (t : Option (List ℕ)) (p : PortState) (d : Disk) (at : ℕ) (r : Result (Unit {0}) PortHalt) (p' : PortState) (d' : Disk) → Stops t p d at r p' d' → d.room ≤ d'.room + 1
    room_stop None p d at r p' d' w = let h = ap (λ (x : Disk). x.room) w.unchanged in omega arith
    room_stop (Some t) p d at (Ok done) p' d' w = absurd w
    room_stop (Some t) p d at (Err (Fenced mine current)) p' d' w = let h = ap (λ (x : Disk). x.room) w.unchanged in omega arith
    room_stop (Some t) p d at (Err Failed) p' d' w = let h = ap (λ (x : Disk). x.room) w.leaves.changed in omega arith
    room_stop (Some t) p d at (Err Stopped) p' d' w = let h = ap (λ (x : Disk). x.room) w.changed in omega arith

-- one write
pub runs_one : (p : PortState) (d : Disk) (f at : ℕ) (bytes : List ℕ) (r : Result (Unit {0}) PortHalt) (p' : PortState) (d' : Disk) (f' : ℕ)
    → PortWrites p d at bytes r p' d' → IfErr r (λ why. why ≡ Failed → Rose f f') → f ≤ f' → Runs p d f ((at, bytes) ∷ []) r p' d' f'
runs_one p d f at bytes r p' d' f' w c l = record {
  makes = makes_one p d at bytes r p' d' w;
  room = room_at (due p) p d at bytes r p' d' w;
  counted = c;
  later = l;
}

-- an error that `?` passes on
pub passed_on : (r : Result (Unit {0}) PortHalt) (halt : PortHalt) → IsErrAnd r (λ e. e ≡ halt) → r ≡ Err halt
passed_on (Ok done) halt h = absurd h
passed_on (Err e) halt h = ap Err h

-- one write more of a list
pub runs_more : (ws : List (ℕ × List ℕ)) (i : ℕ) (p : PortState) (d : Disk) (f : ℕ) (p1 : PortState) (d1 : Disk) (f1 : ℕ) (r : Result (Unit {0}) PortHalt) (p2 : PortState) (d2 : Disk) (f2 : ℕ)
    → i < length ws → Runs p d f (take i ws) (Ok tt) p1 d1 f1 → Runs p1 d1 f1 (get_or ws i (0, []) ∷ []) r p2 d2 f2 → Runs p d f (take (i + 1) ws) r p2 d2 f2
runs_more ws i p d f p1 d1 f1 r p2 d2 f2 within a b =
    subst (λ (xs : List (ℕ × List ℕ)). Runs p d f xs r p2 d2 f2) (sym (take_more ws i (0, []) within)) (runs_then (take i ws) (get_or ws i (0, []) ∷ []) p d f p1 d1 f1 r p2 d2 f2 a b)

-- a halt within the first writes of a list
pub runs_within : (ws : List (ℕ × List ℕ)) (i : ℕ) (p : PortState) (d : Disk) (f : ℕ) (halt : PortHalt) (p1 : PortState) (d1 : Disk) (f1 : ℕ) → Runs p d f (take i ws) (Err halt) p1 d1 f1 → Runs p d f ws (Err halt) p1 d1 f1
runs_within ws i p d f halt p1 d1 f1 a =
    subst (λ (xs : List (ℕ × List ℕ)). Runs p d f xs (Err halt) p1 d1 f1) (take-append-drop i ws) (runs_early (take i ws) (drop i ws) p d f halt p1 d1 f1 a)

-- a run that halted, by an error that `?` passed on
pub runs_passed : (ws : List (ℕ × List ℕ)) (p : PortState) (d : Disk) (f : ℕ) (halt : PortHalt) (r : Result (Unit {0}) PortHalt) (p' : PortState) (d' : Disk) (f' : ℕ)
    → Runs p d f ws (Err halt) p' d' f' → IsErrAnd r (λ e. e ≡ halt) → Runs p d f ws r p' d' f'
runs_passed ws p d f halt r p' d' f' a h = subst (λ (x : Result (Unit {0}) PortHalt). Runs p d f ws x p' d' f') (sym (passed_on r halt h)) a
