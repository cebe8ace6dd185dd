-- What is left of a step that halted.
use Rattle.std.proofs.Common.{◌≡◌, ◌≤◌, ◌<◌, ◌+◌, ◌++◌, ◌∷◌, [], ◌&&◌, ◌||◌, ℕ, zero, suc, Bool, true, false, if◌then◌else◌, nat_eq, List, Option, Some, None, length, take, get_or, refl, sym, ap, ◌∙◌, inl, inr, arith, append_assoc, length-append}
use Rattle.std.specs.Prelude.{option_to_list}
use Rattle.std.proofs.lemmas.Bool.{ne_eqb, eqb-true, eq-eqb, or_cases, or_parts, or_left, and_parts, cases_lt, cases_Bool, true≢false}
use Rattle.std.proofs.lemmas.List.{append-nil, take_all, take-append-le}
use Rattle.journal.specs.Commit.{commit_writes}
use Rattle.journal.specs.Layout.{gate_of}
use Rattle.journal.specs.Opened.{opened_at, opening_place}
use Rattle.journal.proofs.Headers.{length-contents_at}
use Rattle.journal.proofs.Law.{body_writes, gate_opens}
use Rattle.journal.proofs.OpeningLemmas.{opened_past}
use Rattle.shared_disk.specs.Sectors.{left_of}
use Rattle.cal_base.specs.declared.identity.Ino.{Ino}
use Rattle.tree_law.specs.declared.entry.Entry.{Entry}
use Rattle.tree_law.specs.declared.reply.Reply.{Reply}
use Rattle.tree_law.specs.declared.request.Asked.{Asked}
use Rattle.tree_law.specs.declared.request.Asked.TheVariants.{Want as Wants, Change as Alters}
use Rattle.tree_law.specs.declared.request.Request.{Request}
use Rattle.cluster_law.specs.DiskRules.{entry_opened_at}
use Rattle.cluster_law.specs.History.{final_acts, final_place, writes_of, writes_of_acts}
use Rattle.cluster_law.specs.Lanes as law
use Rattle.cluster_law.specs.Lanes.{Mounts, Tells, Commits, Drops}
use Rattle.cluster_law.specs.Lists.{first_of}
use Rattle.cluster_law.specs.ServerRules.{change_entry, entries_of, entry_of}
use Rattle.server_draft.specs.Acts.{act_of, acts_of, deed_of}
use Rattle.server_draft.specs.declared.act.Act.{Act}
use Rattle.server_draft.specs.declared.act.Act.TheVariants.{Tells as PlanTells, Commits as PlanCommits, Drops as PlanDrops}
use Rattle.server_writes.specs.Halted.{AreLeft, count_left, entries_left, entry_in_doubt, left_by, may_stand}
use Rattle.server_writes.proofs.Planning.{acts_more, length_by, length_is, no_acts, planned, taken_more}

-- a write that was made stands as it was meant
opened_before : (ws : List (ℕ × List ℕ)) (k n : ℕ) (t : Option (List ℕ)) → n < k → opened_at (left_of ws k t) n ≡ opened_at ws n
opened_before [] k n t h = refl
opened_before (w ∷ ws) zero n t h = absurd (omega arith)
opened_before (w ∷ ws) (suc k) zero t h = refl
opened_before (w ∷ ws) (suc k) (suc n) t h = opened_before ws k n t (omega arith)

behind : (xs ws : List (ℕ × List ℕ)) (n : ℕ) → opened_at (xs ++ ws) (length xs + n) ≡ opened_at ws n
behind [] ws n = ap (opened_at ws) (let e : length {A = ℕ × List ℕ} [] + n ≡ n = omega arith in e)
behind (x ∷ xs) ws n = ap (opened_at (x ∷ (xs ++ ws))) (let e : length (x ∷ xs) + n ≡ suc (length xs + n) = omega arith in e) ∙ behind xs ws n

-- a commit opens its gate at its place
opens_there : (homes rest : List (ℕ × List ℕ)) → opened_at (commit_writes homes ++ rest) (opening_place (length homes)) ≡ true
opens_there homes rest =
    let body = body_writes homes in
    let last = homes ++ (1, gate_of 0) ∷ [] in
    let place : opening_place (length homes) ≡ length body + 0 = (let e = length-contents_at homes 3 in omega arith) in
    ap (λ (ws : List (ℕ × List ℕ)). opened_at ws (opening_place (length homes))) (append_assoc body ((1, gate_of 1) ∷ last) rest)
    ∙ ap (opened_at (body ++ (((1, gate_of 1) ∷ last) ++ rest))) place
    ∙ behind body (((1, gate_of 1) ∷ last) ++ rest) 0
    ∙ gate_opens

-- the same behind other writes
opens_behind : (earlier rest : List (ℕ × List ℕ)) (commit : law.Commit) → opened_at ((earlier ++ writes_of commit) ++ rest) (length earlier + length commit.lays + opening_place (length commit.homes)) ≡ true
opens_behind earlier rest commit =
    let lays = commit.lays in
    let n = opening_place (length commit.homes) in
    let all = commit_writes commit.homes ++ rest in
    let split : (earlier ++ (lays ++ commit_writes commit.homes)) ++ rest ≡ earlier ++ (lays ++ all) =
    append_assoc earlier (lays ++ commit_writes commit.homes) rest ∙ ap (λ (ws : List (ℕ × List ℕ)). earlier ++ ws) (append_assoc lays (commit_writes commit.homes) rest) in
    let place : length earlier + length lays + n ≡ length earlier + (length lays + n) = omega arith in
    ap (λ (ws : List (ℕ × List ℕ)). opened_at ws (length earlier + length lays + n)) split
    ∙ ap (opened_at (earlier ++ (lays ++ all))) place
    ∙ behind earlier (lays ++ all) (length lays + n)
    ∙ behind lays all n
    ∙ opens_there commit.homes rest

-- the opening of a commit lies among its own writes
place_within : (before : List law.Act) (commit : law.Commit) → final_place before commit < length (writes_of_acts (Commits commit ∷ before))
unfolding writes_of_acts
place_within before commit = let e = length-append (writes_of_acts before) (writes_of commit) in let f = length_by commit in omega arith

length_left : (ws : List (ℕ × List ℕ)) (k : ℕ) (t : Option (List ℕ)) → length (left_of ws k t) ≤ k + 1
length_left [] k t = omega arith
length_left (w ∷ ws) zero None = omega arith
length_left (w ∷ ws) zero (Some t) = omega arith
length_left (w ∷ ws) (suc k) t = let e = length_left ws k t in omega arith

-- no commit opens past its writes
none_opened : (acts : List law.Act) (place : ℕ) → length (writes_of_acts acts) ≤ place → entry_opened_at place acts ≡ None
unfolding writes_of_acts
none_opened [] place h = refl
none_opened (Mounts volume ∷ before) place h = none_opened before place h
none_opened (Tells lane message ∷ before) place h = none_opened before place h
none_opened (Drops ∷ before) place h = none_opened before place h
none_opened (Commits commit ∷ before) place h =
    let e = length-append (writes_of_acts before) (writes_of commit) in
    let f = length_by commit in
    let apart : nat_eq (final_place before commit) place ≡ false = ne_eqb (final_place before commit) place (λ same. omega arith) in
    ap (λ (b : Bool). if b then first_of (entry_of commit.deed) else entry_opened_at place before) apart ∙ none_opened before place (omega arith)

-- all commits of some acts are final, and count
record AreFinal (failed : Bool) (kept : List (ℕ × List ℕ)) (acts : List law.Act) : Type 0 where
  final : entries_of (final_acts kept acts) ≡ entries_of acts
  count : count_left failed kept acts ≡ length (entries_of acts)

one_final : (failed : Bool) (kept : List (ℕ × List ℕ)) (commit : law.Commit) (before : List law.Act) → opened_at kept (final_place before commit) ≡ true → AreFinal failed kept before → AreFinal failed kept (Commits commit ∷ before)
unfolding final_acts count_left entries_of
one_final failed kept commit before opened_is all =
    let place = final_place before commit in
    let entries = entry_of commit.deed in
    let stands : may_stand failed kept place ≡ true = or_left (opened_at kept place) (failed && nat_eq place (length kept)) opened_is in
    record {
      final =
          ap (λ (b : Bool). entries_of (if b then Commits commit ∷ final_acts kept before else final_acts kept before)) opened_is
          ∙ ap (λ (es : List Entry). es ++ entries) all.final;
      count =
          ap (λ (b : Bool). count_left failed kept before + (if b then length entries else 0)) stands
          ∙ ap (λ (n : ℕ). n + length entries) all.count
          ∙ sym (length-append (entries_of before) entries);
    }

-- where their writes were made, they are
are_final : (failed : Bool) (kept : List (ℕ × List ℕ)) (acts : List law.Act) (rest : List (ℕ × List ℕ)) (k : ℕ) (t : Option (List ℕ))
    → kept ≡ left_of (writes_of_acts acts ++ rest) k t → length (writes_of_acts acts) ≤ k → AreFinal failed kept acts
unfolding writes_of_acts final_acts count_left entries_of
are_final failed kept [] rest k t e h = record { final = refl; count = refl }
are_final failed kept (Mounts volume ∷ before) rest k t e h = let all = are_final failed kept before rest k t e h in record { final = all.final; count = all.count }
are_final failed kept (Tells lane message ∷ before) rest k t e h = let all = are_final failed kept before rest k t e h in record { final = all.final; count = all.count }
are_final failed kept (Drops ∷ before) rest k t e h = let all = are_final failed kept before rest k t e h in record { final = all.final; count = all.count }
are_final failed kept (Commits commit ∷ before) rest k t e h =
    let earlier = writes_of_acts before in
    let own = writes_of commit in
    let place = final_place before commit in
    let within = place_within before commit in
    let long = length-append earlier own in
    let opened_is : opened_at kept place ≡ true =
    ap (λ (ws : List (ℕ × List ℕ)). opened_at ws place) e
    ∙ opened_before ((earlier ++ own) ++ rest) k place t (omega arith)
    ∙ opens_behind earlier rest commit in
    let all = are_final failed kept before (own ++ rest) k t (e ∙ ap (λ (ws : List (ℕ × List ℕ)). left_of ws k t) (append_assoc earlier own rest)) (omega arith) in
    one_final failed kept commit before opened_is all

-- at most all entries count
few_left : (failed : Bool) (kept : List (ℕ × List ℕ)) (acts : List law.Act) → count_left failed kept acts ≤ length (entries_of acts)
unfolding count_left entries_of
few_left failed kept [] = omega arith
few_left failed kept (Mounts volume ∷ before) = few_left failed kept before
few_left failed kept (Tells lane message ∷ before) = few_left failed kept before
few_left failed kept (Drops ∷ before) = few_left failed kept before
few_left failed kept (Commits commit ∷ before) =
    let e = few_left failed kept before in
    let f = length-append (entries_of before) (entry_of commit.deed) in
    let g : (b : Bool) → (if b then length (entry_of commit.deed) else 0) ≤ length (entry_of commit.deed) = λ b. elim b as (λ b. (if b then length (entry_of commit.deed) else 0) ≤ length (entry_of commit.deed)) [ true ↦ omega arith | false ↦ omega arith ] in
    let h = g (may_stand failed kept (final_place before commit)) in
    omega arith

-- a commit has one entry or none
one_change : (request : Request) (reply : Reply) (new_ino : Option Ino) (asked : Asked) → option_to_list (first_of (change_entry asked request reply new_ino)) ≡ change_entry asked request reply new_ino
one_change request reply new_ino (Wants want) = refl
one_change request reply new_ino (Alters call) = refl

one_entry : (deed : law.Deed) → option_to_list (first_of (entry_of deed)) ≡ entry_of deed
one_entry (law.Changes request reply new_ino) = one_change request reply new_ino request.asked
one_entry (law.Flushes client flush) = refl
one_entry (law.Purges client) = refl
one_entry (law.Reaps ino) = refl

-- a commit that doesn't count adds nothing
left_out : (failed : Bool) (kept : List (ℕ × List ℕ)) (commit : law.Commit) (before : List law.Act) → may_stand failed kept (final_place before commit) ≡ false
    → take (count_left failed kept before) (entries_of before) ≡ entries_left failed kept before
    → take (count_left failed kept (Commits commit ∷ before)) (entries_of (Commits commit ∷ before)) ≡ entries_left failed kept (Commits commit ∷ before)
unfolding count_left entries_of final_acts
left_out failed kept commit before out h =
    let place = final_place before commit in
    let entries = entry_of commit.deed in
    let parts = or_parts (opened_at kept place) (failed && nat_eq place (length kept)) out in
    let count : count_left failed kept before + (if may_stand failed kept place then length entries else 0) ≡ count_left failed kept before =
    ap (λ (b : Bool). count_left failed kept before + (if b then length entries else 0)) out ∙ (omega arith) in
    let doubt : (f : Bool) → (f && nat_eq place (length kept)) ≡ false → entry_in_doubt f kept (Commits commit ∷ before) ≡ entry_in_doubt f kept before = no_doubt kept commit before in
    ap (λ (n : ℕ). take n (entries_of before ++ entries)) count
    ∙ take-append-le (count_left failed kept before) (entries_of before) entries (few_left failed kept before)
    ∙ h
    ∙ sym (
    ap (λ (b : Bool). entries_of (if b then Commits commit ∷ final_acts kept before else final_acts kept before) ++ entry_in_doubt failed kept (Commits commit ∷ before)) parts.0
    ∙ ap (λ (es : List Entry). entries_of (final_acts kept before) ++ es) (doubt failed parts.1)
    )
  where
    no_doubt : (kept : List (ℕ × List ℕ)) (commit : law.Commit) (before : List law.Act) (f : Bool) → (f && nat_eq (final_place before commit) (length kept)) ≡ false → entry_in_doubt f kept (Commits commit ∷ before) ≡ entry_in_doubt f kept before
    no_doubt kept commit before false e = refl
    no_doubt kept commit before true e = ap (λ (b : Bool). option_to_list (if b then first_of (entry_of commit.deed) else entry_opened_at (length kept) before)) e

-- the last commit that counts: those before are final, and its entry is the last, be it final or in doubt
takes_all : (failed : Bool) (kept : List (ℕ × List ℕ)) (commit : law.Commit) (before : List law.Act) → may_stand failed kept (final_place before commit) ≡ true → AreFinal failed kept before
    → take (count_left failed kept (Commits commit ∷ before)) (entries_of (Commits commit ∷ before)) ≡ entries_of before ++ entry_of commit.deed
unfolding count_left entries_of
takes_all failed kept commit before stands all =
    let entries = entry_of commit.deed in
    let e = length-append (entries_of before) entries in
    let count : count_left failed kept before + (if may_stand failed kept (final_place before commit) then length entries else 0) ≡ length (entries_of before ++ entries) =
    ap (λ (b : Bool). count_left failed kept before + (if b then length entries else 0)) stands ∙ ap (λ (n : ℕ). n + length entries) all.count ∙ sym e in
    ap (λ (n : ℕ). take n (entries_of before ++ entries)) count ∙ take_all (length (entries_of before ++ entries)) (entries_of before ++ entries) (omega arith)

left_final : (failed : Bool) (kept : List (ℕ × List ℕ)) (commit : law.Commit) (before : List law.Act) → opened_at kept (final_place before commit) ≡ true → AreFinal failed kept before
    → entries_left failed kept (Commits commit ∷ before) ≡ entries_of before ++ entry_of commit.deed
unfolding entries_of final_acts writes_of_acts
left_final failed kept commit before opened_is all =
    let place = final_place before commit in
    let entries = entry_of commit.deed in
    let past : place < length kept = elim (cases_lt place (length kept)) [ inl h ↦ h | inr h ↦ absurd (true≢false (sym opened_is ∙ opened_past kept place h)) ] in
    ap (λ (b : Bool). entries_of (if b then Commits commit ∷ final_acts kept before else final_acts kept before) ++ entry_in_doubt failed kept (Commits commit ∷ before)) opened_is
    ∙ ap (λ (es : List Entry). (es ++ entries) ++ entry_in_doubt failed kept (Commits commit ∷ before)) all.final
    ∙ ap (λ (es : List Entry). (entries_of before ++ entries) ++ es) (no_doubt failed past)
    ∙ append-nil (entries_of before ++ entries)
  where
    no_doubt : (f : Bool) → final_place before commit < length kept → entry_in_doubt f kept (Commits commit ∷ before) ≡ []
    no_doubt false past = refl
    no_doubt true past =
        let apart : nat_eq (final_place before commit) (length kept) ≡ false = ne_eqb (final_place before commit) (length kept) (λ same. omega arith) in
        ap (λ (b : Bool). option_to_list (if b then first_of (entry_of commit.deed) else entry_opened_at (length kept) before)) apart
        ∙ ap option_to_list (none_opened before (length kept) (omega arith))

left_in_doubt : (kept : List (ℕ × List ℕ)) (commit : law.Commit) (before : List law.Act) → opened_at kept (final_place before commit) ≡ false → final_place before commit ≡ length kept → AreFinal true kept before
    → entries_left true kept (Commits commit ∷ before) ≡ entries_of before ++ entry_of commit.deed
unfolding entries_of final_acts
left_in_doubt kept commit before shut same all =
    let here : nat_eq (final_place before commit) (length kept) ≡ true = eq-eqb (final_place before commit) (length kept) same in
    ap (λ (b : Bool). entries_of (if b then Commits commit ∷ final_acts kept before else final_acts kept before) ++ entry_in_doubt true kept (Commits commit ∷ before)) shut
    ∙ ap (λ (es : List Entry). es ++ entry_in_doubt true kept (Commits commit ∷ before)) all.final
    ∙ ap (λ (b : Bool). entries_of before ++ option_to_list (if b then first_of (entry_of commit.deed) else entry_opened_at (length kept) before)) here
    ∙ ap (λ (es : List Entry). entries_of before ++ es) (one_entry commit.deed)

left_last : (failed : Bool) (kept : List (ℕ × List ℕ)) (commit : law.Commit) (before : List law.Act) → may_stand failed kept (final_place before commit) ≡ true → AreFinal failed kept before
    → entries_left failed kept (Commits commit ∷ before) ≡ entries_of before ++ entry_of commit.deed
left_last failed kept commit before stands all = by_opening (opened_at kept (final_place before commit)) failed refl stands all
  where
    by_opening : (o f : Bool) → opened_at kept (final_place before commit) ≡ o → (o || (f && nat_eq (final_place before commit) (length kept))) ≡ true → AreFinal f kept before
        → entries_left f kept (Commits commit ∷ before) ≡ entries_of before ++ entry_of commit.deed
    by_opening true f e s all = left_final f kept commit before e all
    by_opening false true e s all = left_in_doubt kept commit before e (eqb-true (final_place before commit) (length kept) s) all
    by_opening false false e s all = absurd (true≢false (sym s))

-- a commit that counts is not past what was kept
stands_within : (failed : Bool) (kept : List (ℕ × List ℕ)) (place : ℕ) → may_stand failed kept place ≡ true → place ≤ length kept
stands_within failed kept place stands = elim (or_cases (opened_at kept place) (failed && nat_eq place (length kept)) stands) [
  | inl opened_is ↦ elim (cases_lt place (length kept)) [ inl h ↦ omega arith | inr h ↦ absurd (true≢false (sym opened_is ∙ opened_past kept place h)) ]
  | inr held ↦ (let same = eqb-true place (length kept) (and_parts failed (nat_eq place (length kept)) held).1 in omega arith)
]

-- the first so many entries are those that are left
pub first_are_left : (failed : Bool) (kept : List (ℕ × List ℕ)) (acts : List law.Act) (rest : List (ℕ × List ℕ)) (k : ℕ) (t : Option (List ℕ))
    → kept ≡ left_of (writes_of_acts acts ++ rest) k t → take (count_left failed kept acts) (entries_of acts) ≡ entries_left failed kept acts
unfolding writes_of_acts final_acts count_left entries_of
first_are_left true kept [] rest k t e = refl
first_are_left false kept [] rest k t e = refl
first_are_left true kept (Mounts volume ∷ before) rest k t e = first_are_left true kept before rest k t e
first_are_left false kept (Mounts volume ∷ before) rest k t e = first_are_left false kept before rest k t e
first_are_left true kept (Tells lane message ∷ before) rest k t e = first_are_left true kept before rest k t e
first_are_left false kept (Tells lane message ∷ before) rest k t e = first_are_left false kept before rest k t e
first_are_left true kept (Drops ∷ before) rest k t e = first_are_left true kept before rest k t e
first_are_left false kept (Drops ∷ before) rest k t e = first_are_left false kept before rest k t e
first_are_left failed kept (Commits commit ∷ before) rest k t e =
    let earlier = writes_of_acts before in
    let own = writes_of commit in
    let place = final_place before commit in
    let same = e ∙ ap (λ (ws : List (ℕ × List ℕ)). left_of ws k t) (append_assoc earlier own rest) in
    let few = length_left ((earlier ++ own) ++ rest) k t in
    let long = ap (λ (ws : List (ℕ × List ℕ)). length ws) e in
    elim (cases_Bool (may_stand failed kept place)) [
      | inl stands ↦ (
          let within = stands_within failed kept place stands in
          let all = are_final failed kept before (own ++ rest) k t same (omega arith) in
          takes_all failed kept commit before stands all ∙ sym (left_last failed kept commit before stands all)
          )
      | inr out ↦ left_out failed kept commit before out (first_are_left failed kept before (own ++ rest) k t same)
    ]

-- the count of the acts so far, and of the next one
count_more : (view : ℕ) (failed : Bool) (kept : List (ℕ × List ℕ)) (x : Act) (before : List law.Act) (n : ℕ) → length (writes_of_acts before) ≡ n
    → count_left failed kept (act_of view x ∷ before) ≡ count_left failed kept before + left_by failed kept n x
unfolding count_left
count_more view failed kept (PlanTells client message) before n e = omega arith
count_more view failed kept PlanDrops before n e = omega arith
count_more view failed kept (PlanCommits commit) before n e =
    ap (λ (m : ℕ). count_left failed kept before + (if may_stand failed kept (m + length commit.lays + opening_place (length commit.homes)) then length (entry_of (deed_of commit.deed)) else 0)) e

pub count_next : (view : ℕ) (failed : Bool) (kept : List (ℕ × List ℕ)) (xs : List Act) (i : ℕ) (d x : Act) → i < length xs → x ≡ get_or xs i d
    → count_left failed kept (acts_of view (take (i + 1) xs)) ≡ count_left failed kept (acts_of view (take i xs)) + left_by failed kept (length (planned (take i xs))) x
count_next view failed kept xs i d x within is =
    ap (λ (acts : List Act). count_left failed kept (acts_of view acts)) (taken_more xs i d x within is)
    ∙ ap (count_left failed kept) (acts_more view (take i xs) x)
    ∙ count_more view failed kept x (acts_of view (take i xs)) (length (planned (take i xs))) (length_is view (take i xs))

pub none_left : (view : ℕ) (failed : Bool) (kept : List (ℕ × List ℕ)) → count_left failed kept (acts_of view []) ≡ 0
unfolding count_left
none_left view failed kept = ap (count_left failed kept) (no_acts view)

-- the entries that are left of all
pub taken_left : (failed : Bool) (kept : List (ℕ × List ℕ)) (acts : List law.Act) (entries : List Entry) → AreLeft (writes_of_acts acts) kept → entries ≡ entries_of acts → take (count_left failed kept acts) entries ≡ entries_left failed kept acts
taken_left failed kept acts entries left is =
    ap (take (count_left failed kept acts)) is
    ∙ first_are_left failed kept acts [] left.made left.torn (left.kept_is ∙ ap (λ (ws : List (ℕ × List ℕ)). left_of ws left.made left.torn) (sym (append-nil (writes_of_acts acts))))
