-- Bytes taken from a source piece by piece.
use Rattle.std.proofs.Common.{◌≡◌, ◌≤◌, ◌++◌, ℕ, List, [], length, Option, Some, None, refl, sym, ap, ◌∙◌, subst, arith, append_assoc, inl, inr}
use Rattle.std.specs.Io.KnownBytes.{prepend_known}
use Rattle.cal_base.specs.Faults.{Rose}
use Rattle.run_status.specs.Taking.{Left, IsTaken}
use Rattle.cluster_run.specs.Reading.{IsReadAll, WhyUnread, IsPiece, IsNoPiece}
use Rattle.cluster_run.specs.declared.reading.ReadError.{ReadError}
use Rattle.cluster_run.specs.declared.reading.ReadError.TheVariants.{ReadFault, OutOfMemory}

prepend_known-prepend : (a b : List ℕ) (known : Option (List ℕ)) → prepend_known a (prepend_known b known) ≡ prepend_known (a ++ b) known
prepend_known-prepend a b None = refl
prepend_known-prepend a b (Some bytes) = ap Some (sym (append_assoc a b bytes))

prepend_known-nil : (known : Option (List ℕ)) → prepend_known [] known ≡ known
prepend_known-nil None = refl
prepend_known-nil (Some bytes) = refl

-- these bytes were taken so far
pub record IsTakenSo (old : Left) (bytes : List ℕ) (now : Left) : Type 0 where
  pub read : IsTaken old bytes now
  pub few : length bytes ≤ 67108865

pub none_taken : (old : Left) (bytes : List ℕ) → bytes ≡ [] → IsTakenSo old bytes old
none_taken old bytes is = rw is (record { read = record { taken = sym (prepend_known-nil old.left); later = omega arith }; few = omega arith })

joined : (old between now : Left) (bytes piece : List ℕ) → IsTaken old bytes between → IsTaken between piece now → IsTaken old (bytes ++ piece) now
joined old between now bytes piece first second = record {
  taken = first.taken ∙ ap (prepend_known bytes) second.taken ∙ prepend_known-prepend bytes piece now.left;
  later = omega (arith, first.later, second.later);
}

pub taken_more : (old between now : Left) (bytes longer : List ℕ) (count : ℕ) → IsTakenSo old bytes between → IsPiece between bytes longer now count → IsTakenSo old longer now
taken_more old between now bytes longer count so piece = record {
  read = subst (λ (all : List ℕ). IsTaken old all now) (sym piece.behind) (joined old between now bytes piece.piece so.read piece.read);
  few = piece.few;
}

pub all_taken : (old between now : Left) (bytes longer : List ℕ) (count : ℕ) → IsTakenSo old bytes between → IsPiece between bytes longer now count → count ≡ 0 → IsReadAll old longer now
all_taken old between now bytes longer count so piece none = record { read = (taken_more old between now bytes longer count so piece).read; ended = inl (piece.ended none) }

pub too_many : (old now : Left) (bytes : List ℕ) → IsTakenSo old bytes now → ¬ (length bytes ≤ 67108864) → IsReadAll old bytes now
too_many old now bytes so many = let small = so.few in record { read = so.read; ended = inr (omega arith) }

pub unread : (old between now : Left) (bytes : List ℕ) (error : ReadError) → IsTakenSo old bytes between → IsNoPiece between now error → WhyUnread old now error
unread old between now bytes ReadFault so none = record {
  bytes = bytes;
  read = record { taken = so.read.taken ∙ ap (prepend_known bytes) (sym none.0); later = let a = so.read.later in let b = none.2 in omega arith };
  rose = let a = so.read.later in let b : Rose between.faults now.faults = none.1 in omega arith;
}
unread old between now bytes OutOfMemory so none = let a = so.read.later in let b : between.faults ≤ now.faults = none in omega arith
