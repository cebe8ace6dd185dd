-- Calls that read and write, one after the other.
use Rattle.std.proofs.Common.{◌≡◌, ◌≢◌, ◌≤◌, ◌+◌, ℕ, List, [], ◌∷◌, ◌++◌, length, Option, Some, None, Result, Ok, Err, refl, sym, ap, ◌∙◌, subst, inl, inr, arith, append_assoc, length-append}
use Rattle.std.specs.Prelude.{OnOk, IsErrAnd}
use Rattle.std.proofs.lemmas.List.{append-nil}
use Rattle.cal_base.specs.Limits as limits
use Rattle.shared_disk.specs.Disk.{Disk, after}
use Rattle.shared_disk.specs.Sectors.{written}
use Rattle.shared_disk.specs.declared.stop.Stop.{Stop}
use Rattle.fence.specs.Port.{PortState, accepting, due, WritesAt, Stops}
use Rattle.fence.specs.Writes.{Runs, HaltsIn, MakesAll}
use Rattle.fence.specs.declared.port_halt.PortHalt.{PortHalt}
use Rattle.fence.specs.declared.port_halt.PortHalt.TheVariants.{Fenced, Failed, Stopped}
use Rattle.fence.proofs.RunsLemmas.{all_after, runs_then, runs_nothing, passed_on}
use Rattle.journal.specs.Replay.{Ends, Attempts}
use Rattle.journal.proofs.AfterCommit.{told_after}
use Rattle.journal.proofs.Sectors.{length_written}
use Rattle.cal_base.specs.declared.identity.View.{View}

fenced_at : (o : Option Stop) (p : PortState) (d : Disk) (at : ℕ) (bytes : List ℕ) (mine current : View) (p' : PortState) (d' : Disk) → WritesAt o p d at bytes (Err (Fenced mine current)) p' d' → d.key ≢ p.view
fenced_at None p d at bytes mine current p' d' w = w.met.other
fenced_at (Some stop) p d at bytes mine current p' d' w = fenced_stop stop.torn p d at mine current p' d' w
  where
    fenced_stop : (t : Option (List ℕ)) (p : PortState) (d : Disk) (at : ℕ) (mine current : View) (p' : PortState) (d' : Disk) → Stops t p d at (Err (Fenced mine current)) p' d' → d.key ≢ p.view
    fenced_stop None p d at mine current p' d' w = let h = w.stopped in absurd (cc)
    fenced_stop (Some t) p d at mine current p' d' w = w.met.other

-- a write is refused only where the key is another
pub fenced_other : (ws : List (ℕ × List ℕ)) (p : PortState) (d : Disk) (mine current : View) (p' : PortState) (d' : Disk) → HaltsIn p d ws (Fenced mine current) p' d' → d.key ≢ p.view
fenced_other [] p d mine current p' d' h = absurd h
fenced_other (w ∷ ws) p d mine current p' d' h = elim h [ inl a ↦ fenced_at (due p) p d w.0 w.1 mine current p' d' a | inr k ↦ fenced_other ws (accepting p w) (after d (w ∷ [])) mine current p' d' k.1 ]

-- the key and the view stay
pub same_view : (ws : List (ℕ × List ℕ)) (p : PortState) (d : Disk) (p' : PortState) (d' : Disk) → MakesAll p d ws p' d' → p'.view ≡ p.view
same_view [] p d p' d' h = ap (λ (q : PortState). q.view) h.0
same_view (w ∷ ws) p d p' d' h = same_view ws (accepting p w) (after d (w ∷ [])) p' d' h.1

pub same_key : (ws : List (ℕ × List ℕ)) (p : PortState) (d : Disk) (p' : PortState) (d' : Disk) → MakesAll p d ws p' d' → d'.key ≡ d.key
same_key ws p d p' d' h = ap (λ (e : Disk). e.key) (all_after ws p d p' d' h)

-- a run of writes, under the port's key
pub run_ends : (ws : List (ℕ × List ℕ)) (p : PortState) (d : Disk) (f : ℕ) (r : Result (Unit {0}) PortHalt) (p' : PortState) (d' : Disk) (f' : ℕ) → d.key ≡ p.view → Runs p d f ws r p' d' f' → Ends p d f ws r p' d' f'
run_ends ws p d f (Ok done) p' d' f' own a = a
run_ends ws p d f (Err (Fenced mine current)) p' d' f' own a = fenced_other ws p d mine current p' d' a.makes own
run_ends ws p d f (Err Failed) p' d' f' own a = inl a
run_ends ws p d f (Err Stopped) p' d' f' own a = a

-- and after other writes
pub then_ends : (xs ys : List (ℕ × List ℕ)) (p : PortState) (d : Disk) (f : ℕ) (p1 : PortState) (d1 : Disk) (f1 : ℕ) (r : Result (Unit {0}) PortHalt) (p2 : PortState) (d2 : Disk) (f2 : ℕ)
    → Runs p d f xs (Ok tt) p1 d1 f1 → Ends p1 d1 f1 ys r p2 d2 f2 → Ends p d f (xs ++ ys) r p2 d2 f2
then_ends xs ys p d f p1 d1 f1 (Ok done) p2 d2 f2 a b = runs_then xs ys p d f p1 d1 f1 (Ok tt) p2 d2 f2 a b
then_ends xs ys p d f p1 d1 f1 (Err (Fenced mine current)) p2 d2 f2 a b = absurd b
then_ends xs ys p d f p1 d1 f1 (Err Failed) p2 d2 f2 a b =
    let l = a.later in
    elim b [ inl x ↦ inl (runs_then xs ys p d f p1 d1 f1 (Err Failed) p2 d2 f2 a x) | inr x ↦ (let h = x.1 in inr (runs_then xs ys p d f p1 d1 f1 (Ok tt) p2 d2 f2 a x.0, omega arith)) ]
then_ends xs ys p d f p1 d1 f1 (Err Stopped) p2 d2 f2 a b = runs_then xs ys p d f p1 d1 f1 (Err Stopped) p2 d2 f2 a b

-- nothing was tried yet
pub attempts_nothing : (all : List (List ℕ) → List (ℕ × List ℕ)) (p : PortState) (d : Disk) (f : ℕ) → ((s : List (List ℕ)) → all s ≡ []) → Attempts all 0 p d f (Ok tt) p d f
attempts_nothing all p d f none = record { tried = []; ends = runs_nothing p d f; few = omega arith; later = omega arith; told = λ s t l. record { rest = []; split = none s; whole = refl } }

-- a call, and after Ok another
pub attempts_then : (all first second : List (List ℕ) → List (ℕ × List ℕ)) (m n : ℕ) (p : PortState) (d : Disk) (f : ℕ) (p1 : PortState) (d1 : Disk) (f1 : ℕ) (r : Result (Unit {0}) PortHalt) (p2 : PortState) (d2 : Disk) (f2 : ℕ)
    → ((s : List (List ℕ)) → length s ≡ limits.sectors → all s ≡ first s ++ second (written s (first s)))
    → Attempts first m p d f (Ok tt) p1 d1 f1 → Attempts second n p1 d1 f1 r p2 d2 f2 → Attempts all (m + n) p d f r p2 d2 f2
attempts_then all first second m n p d f p1 d1 f1 r p2 d2 f2 joined a b =
    record {
      tried = a.tried ++ b.tried;
      ends = then_ends a.tried b.tried p d f p1 d1 f1 r p2 d2 f2 a.ends b.ends;
      few = (let h = a.few in let k = b.few in omega (arith, length-append a.tried b.tried));
      later = (let h = a.later in let k = b.later in omega arith);
      told = λ s t l.
          let x = a.told s t l in
          let made : first s ≡ a.tried = x.split ∙ ap (λ (ys : List (ℕ × List ℕ)). a.tried ++ ys) x.whole ∙ append-nil a.tried in
          let y = b.told (written s a.tried) (told_after s a.tried d d1 t (all_after a.tried p d p1 d1 a.ends.makes)) (length_written a.tried s ∙ l) in
          record {
            rest = y.rest;
            split = joined s l
                ∙ ap (λ (ws : List (ℕ × List ℕ)). ws ++ second (written s ws)) made
                ∙ ap (λ (ws : List (ℕ × List ℕ)). a.tried ++ ws) y.split
                ∙ sym (append_assoc a.tried b.tried y.rest);
            whole = y.whole;
          };
    }

-- a call that halted, within more
pub attempts_early : (all first : List (List ℕ) → List (ℕ × List ℕ)) (more : List (List ℕ) → List (ℕ × List ℕ)) (m n : ℕ) (p : PortState) (d : Disk) (f : ℕ) (halt : PortHalt) (r : Result (Unit {0}) PortHalt) (p1 : PortState) (d1 : Disk) (f1 : ℕ)
    → ((s : List (List ℕ)) → length s ≡ limits.sectors → all s ≡ first s ++ more s) → m ≤ n → Attempts first m p d f (Err halt) p1 d1 f1 → IsErrAnd r (λ e. e ≡ halt) → Attempts all n p d f r p1 d1 f1
attempts_early all first more m n p d f halt r p1 d1 f1 joined less a h =
    let early : Attempts all n p d f (Err halt) p1 d1 f1 = record {
      tried = a.tried;
      ends = a.ends;
      few = (let k = a.few in omega arith);
      later = a.later;
      told = λ s t l. (let x = a.told s t l in record {
        rest = x.rest ++ more s;
        split = joined s l ∙ ap (λ (ws : List (ℕ × List ℕ)). ws ++ more s) x.split ∙ append_assoc a.tried x.rest (more s);
        whole = tt;
      });
    } in
    subst (λ (x : Result (Unit {0}) PortHalt). Attempts all n p d f x p1 d1 f1) (sym (passed_on r halt h)) early

-- the same writes, otherwise said, and at most more of them
pub attempts_as : (all again : List (List ℕ) → List (ℕ × List ℕ)) (m n : ℕ) (p : PortState) (d : Disk) (f : ℕ) (r : Result (Unit {0}) PortHalt) (p1 : PortState) (d1 : Disk) (f1 : ℕ)
    → ((s : List (List ℕ)) → length s ≡ limits.sectors → again s ≡ all s) → m ≤ n → Attempts all m p d f r p1 d1 f1 → Attempts again n p d f r p1 d1 f1
attempts_as all again m n p d f r p1 d1 f1 same less a = record {
  tried = a.tried;
  ends = a.ends;
  few = (let k = a.few in omega arith);
  later = a.later;
  told = λ s t l. (let x = a.told s t l in record { rest = x.rest; split = same s l ∙ x.split; whole = x.whole });
}

on_ok_any : {P : Type 0} → (r : Result (Unit {0}) PortHalt) → P → OnOk r P
on_ok_any (Ok done) x = x
on_ok_any (Err halt) x = tt

-- a run of writes that are known
pub attempts_writes : (ws : List (ℕ × List ℕ)) (n : ℕ) (p : PortState) (d : Disk) (f : ℕ) (r : Result (Unit {0}) PortHalt) (p1 : PortState) (d1 : Disk) (f1 : ℕ)
    → d.key ≡ p.view → length ws ≤ n → Runs p d f ws r p1 d1 f1 → Attempts (λ s. ws) n p d f r p1 d1 f1
attempts_writes ws n p d f r p1 d1 f1 own few a = record {
  tried = ws;
  ends = run_ends ws p d f r p1 d1 f1 own a;
  few = few;
  later = a.later;
  told = λ s t l. record { rest = []; split = sym (append-nil ws); whole = on_ok_any r refl };
}
