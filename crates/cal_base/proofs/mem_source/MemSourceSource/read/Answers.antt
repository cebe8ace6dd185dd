use Rattle.std.proofs.Common.{◌≡◌, Some, ℕ, ◌+◌, ◌≤◌, List, take, drop, length, length-drop, min, arith, ap, sym}
use Rattle.std.proofs.lemmas.List.{drop-drop, drop_all, take-append-drop}
use Rattle.cal_base.specs.Source.{Reads}
use Rattle.cal_base.proofs.mem_source.MemSourceSource.read.Goals as goal

-- a read from memory takes the next n bytes
reads_next : (left rest bytes buffer : List ℕ) (at n : ℕ) → drop at bytes ≡ left → rest ≡ left → at ≤ length bytes → n ≡ min (length rest) (length buffer) → take n buffer ≡ take n rest → Reads (Some left) (Some (drop (at + n) bytes)) n buffer
reads_next left rest bytes buffer at n is same inside count front = record {
  within = omega arith;
  taken = ap Some (rw (front, same, ← is, ← drop-drop n at bytes) (sym (take-append-drop n (drop at bytes))));
  ended = λ none room. drop_all (at + n) bytes (omega (arith, length-drop at bytes, ap length is, ap length same));
}

pub returns-clause-reads : goal.returns-clause-reads
returns-clause-reads c = reads_next _ _ _ _ _ _ c.self.view_is c.rest.ensures c.self.invariant c.copy_front-count.ensures.count c.copy_front-count.ensures.front
