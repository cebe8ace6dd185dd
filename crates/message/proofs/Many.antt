-- Reading so many items in turn.
use Rattle.std.proofs.Common.{◌≡◌, ◌∷◌, ◌++◌, [], ℕ, suc, List, Ok, Err, refl, sym, ap, ◌∙◌, append_assoc, append-nil}
use Rattle.message.specs.Reading.{Read, ◌>>=◌, many_at}
use Rattle.message.specs.Decoding.{Stopped}
use Rattle.message.specs.declared.stop.Stop.{Stop}
use Rattle.message.specs.declared.stop.Stop.TheVariants.{OutOfMemory, Outside}

-- items, and those that are read behind them
abbrev pub prepend : {A : Type 0} → List A → Read (List A) → Read (List A)
prepend front read = read >>= λ xs. Ok (front ++ xs.0, xs.1)

-- some items are read, and so many are left, which together are the whole
pub record ReadsOn {A S : Type 0} (item : S → List ℕ → Read A) (seen : A → S) (left : ℕ) (before : S) (rest : List ℕ) (front : List A) (whole : Read (List A)) : Type 0 where
  pub is : prepend front (many_at item seen left before rest) ≡ whole

prepend_none : {A : Type 0} (read : Read (List A)) → prepend [] read ≡ read
prepend_none (Ok x) = refl
prepend_none (Err e) = refl

prepend_more : {A : Type 0} (front : List A) (x : A) (read : Read (List A)) → prepend front (read >>= λ xs. Ok (x ∷ xs.0, xs.1)) ≡ prepend (front ++ x ∷ []) read
prepend_more front x (Ok xs) = ap (λ ys. Ok (ys, xs.1)) (sym (append_assoc front (x ∷ []) xs.0))
prepend_more front x (Err e) = refl

-- nothing is read yet
pub none_read : {A S : Type 0} (item : S → List ℕ → Read A) (seen : A → S) (count left : ℕ) (before : S) (rest : List ℕ) → left ≡ count
    → ReadsOn item seen left before rest [] (many_at item seen count before rest)
none_read item seen count left before rest same = record { is = rw same (prepend_none (many_at item seen count before rest)) }

-- one more is read
pub one_more : {A S : Type 0} (item : S → List ℕ → Read A) (seen : A → S) (left after : ℕ) (before next : S) (rest behind : List ℕ) (front longer : List A) (x : A) (whole : Read (List A))
    → ReadsOn item seen left before rest front whole → left ≡ suc after → item before rest ≡ Ok (x, behind) → longer ≡ front ++ x ∷ [] → next ≡ seen x
    → ReadsOn item seen after next behind longer whole
unfolding many_at
one_more item seen left after before next rest behind front longer x whole so count read pushed last =
    let step : many_at item seen left before rest ≡ (many_at item seen after next behind >>= λ xs. Ok (x ∷ xs.0, xs.1)) =
    ap (λ n. many_at item seen n before rest) count ∙ rw (read, last) refl in
    record { is = rw pushed (sym (prepend_more front x (many_at item seen after next behind)) ∙ ap (prepend front) (sym step) ∙ so.is) }

-- the next is wrong
pub next_is_wrong : {A S : Type 0} (item : S → List ℕ → Read A) (seen : A → S) (left after : ℕ) (before : S) (rest : List ℕ) (front : List A) (whole : Read (List A)) (fault : ℕ)
    → ReadsOn item seen left before rest front whole → left ≡ suc after → item before rest ≡ Err fault → whole ≡ Err fault
unfolding many_at
next_is_wrong item seen left after before rest front whole fault so count read =
    let step : many_at item seen left before rest ≡ Err fault = ap (λ n. many_at item seen n before rest) count ∙ rw read refl in
    sym so.is ∙ ap (prepend front) step

-- reading stops at the next
pub next_stops : {A S : Type 0} (item : S → List ℕ → Read A) (seen : A → S) (left after : ℕ) (before : S) (rest : List ℕ) (front : List A) (whole : Read (List A)) (stop : Stop)
    → ReadsOn item seen left before rest front whole → left ≡ suc after → Stopped stop (item before rest) → Stopped stop whole
next_stops item seen left after before rest front whole OutOfMemory so count stopped = tt
next_stops item seen left after before rest front whole (Outside fault) so count stopped = next_is_wrong item seen left after before rest front whole fault so count stopped

-- all are read
pub all_read : {A S : Type 0} (item : S → List ℕ → Read A) (seen : A → S) (left : ℕ) (before : S) (rest : List ℕ) (front : List A) (whole : Read (List A))
    → ReadsOn item seen left before rest front whole → left ≡ 0 → whole ≡ Ok (front, rest)
unfolding many_at
all_read item seen left before rest front whole so none =
    let step : many_at item seen left before rest ≡ Ok ([], rest) = ap (λ n. many_at item seen n before rest) none in
    sym so.is ∙ ap (prepend front) step ∙ ap (λ xs. Ok (xs, rest)) (append-nil front)
