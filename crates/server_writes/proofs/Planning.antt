-- The writes and the entries of acts, one act after the other.
use Rattle.std.proofs.Common.{◌≡◌, ◌≤◌, ◌<◌, ◌+◌, ◌*◌, ◌++◌, ◌∷◌, [], ℕ, List, length, map, take, drop, get_or, refl, sym, ap, ◌∙◌, arith, append_assoc, length-append}
use Rattle.std.specs.Prelude.{OnErr, Result, Ok, Err}
use Rattle.std.proofs.lemmas.List.{append-nil, take_all, take_more, take-append-drop}
use Rattle.journal.specs.Commit.{commit_writes}
use Rattle.journal.proofs.OpeningLemmas.{length-commit}
use Rattle.cluster_law.specs.History.{writes_of, writes_of_acts}
use Rattle.cluster_law.specs.Lanes as law
use Rattle.cluster_law.specs.Lists.{onto}
use Rattle.cluster_law.specs.ServerRules.{entries_of}
use Rattle.server_draft.specs.Acts.{act_of, acts_of}
use Rattle.server_draft.specs.declared.act.Act.{Act}
use Rattle.server_draft.specs.declared.act.Act.TheVariants.{Tells, Commits, Drops}
use Rattle.server_writes.specs.Planned.{writes_by, entry_by}

onto-append : {X : Type 0} (xs ys old : List X) → onto (xs ++ ys) old ≡ onto ys (onto xs old)
onto-append [] ys old = refl
onto-append (x ∷ xs) ys old = onto-append xs ys (x ∷ old)

map-append : (view : ℕ) (xs ys : List Act) → map (act_of view) (xs ++ ys) ≡ map (act_of view) xs ++ map (act_of view) ys
map-append view [] ys = refl
map-append view (x ∷ xs) ys = ap (λ (done : List law.Act). act_of view x ∷ done) (map-append view xs ys)

-- one act more stands first for the law
pub acts_more : (view : ℕ) (xs : List Act) (x : Act) → acts_of view (xs ++ x ∷ []) ≡ act_of view x ∷ acts_of view xs
unfolding acts_of
acts_more view xs x = ap (λ (done : List law.Act). onto done []) (map-append view xs (x ∷ [])) ∙ onto-append (map (act_of view) xs) (act_of view x ∷ []) []

pub no_acts : (view : ℕ) → acts_of view [] ≡ []
unfolding acts_of
no_acts view = refl

pub writes_more : (view : ℕ) (x : Act) (before : List law.Act) → writes_of_acts (act_of view x ∷ before) ≡ writes_of_acts before ++ writes_by x
unfolding writes_of_acts
writes_more view (Tells client message) before = sym (append-nil (writes_of_acts before))
writes_more view (Commits commit) before = refl
writes_more view Drops before = sym (append-nil (writes_of_acts before))

pub entries_more : (view : ℕ) (x : Act) (before : List law.Act) → entries_of (act_of view x ∷ before) ≡ entries_of before ++ entry_by x
unfolding entries_of
entries_more view (Tells client message) before = sym (append-nil (entries_of before))
entries_more view (Commits commit) before = refl
entries_more view Drops before = sym (append-nil (entries_of before))

-- the writes of acts in order
abbrev pub planned : List Act → List (ℕ × List ℕ)
planned [] = []
planned (x ∷ xs) = writes_by x ++ planned xs

planned_behind : (view : ℕ) (xs : List Act) (old : List law.Act) → writes_of_acts (onto (map (act_of view) xs) old) ≡ writes_of_acts old ++ planned xs
planned_behind view [] old = sym (append-nil (writes_of_acts old))
planned_behind view (x ∷ xs) old =
    planned_behind view xs (act_of view x ∷ old)
    ∙ ap (λ (ws : List (ℕ × List ℕ)). ws ++ planned xs) (writes_more view x old)
    ∙ append_assoc (writes_of_acts old) (writes_by x) (planned xs)

pub planned_is : (view : ℕ) (xs : List Act) → writes_of_acts (acts_of view xs) ≡ planned xs
unfolding acts_of writes_of_acts
planned_is view xs = planned_behind view xs []

planned-append : (xs ys : List Act) → planned (xs ++ ys) ≡ planned xs ++ planned ys
planned-append [] ys = refl
planned-append (x ∷ xs) ys = ap (λ (ws : List (ℕ × List ℕ)). writes_by x ++ ws) (planned-append xs ys) ∙ sym (append_assoc (writes_by x) (planned xs) (planned ys))

pub planned_split : (i : ℕ) (xs : List Act) → planned xs ≡ planned (take i xs) ++ planned (drop i xs)
planned_split i xs = ap planned (sym (take-append-drop i xs)) ∙ planned-append (take i xs) (drop i xs)

-- the act at a place, and those so far with it
pub taken_more : (xs : List Act) (i : ℕ) (d x : Act) → i < length xs → x ≡ get_or xs i d → take (i + 1) xs ≡ take i xs ++ x ∷ []
taken_more xs i d x within is = take_more xs i d within ∙ ap (λ (y : Act). take i xs ++ y ∷ []) (sym is)

pub planned_more : (xs : List Act) (i : ℕ) (d x : Act) → i < length xs → x ≡ get_or xs i d → planned (take (i + 1) xs) ≡ planned (take i xs) ++ writes_by x
planned_more xs i d x within is =
    ap planned (taken_more xs i d x within is)
    ∙ planned-append (take i xs) (x ∷ [])
    ∙ ap (λ (ws : List (ℕ × List ℕ)). planned (take i xs) ++ ws) (append-nil (writes_by x))

pub length_more : (xs : List Act) (i : ℕ) (d x : Act) → i < length xs → x ≡ get_or xs i d → length (planned (take (i + 1) xs)) ≡ length (planned (take i xs)) + length (writes_by x)
length_more xs i d x within is = ap (λ (ws : List (ℕ × List ℕ)). length ws) (planned_more xs i d x within is) ∙ length-append (planned (take i xs)) (writes_by x)

pub length_within : (xs : List Act) (i : ℕ) (d x : Act) → i < length xs → x ≡ get_or xs i d → length (planned (take i xs)) + length (writes_by x) ≤ length (planned xs)
length_within xs i d x within is =
    let e = ap (λ (ws : List (ℕ × List ℕ)). length ws) (planned_split (i + 1) xs) in
    let f = length-append (planned (take (i + 1) xs)) (planned (drop (i + 1) xs)) in
    let g = length_more xs i d x within is in
    omega arith

pub length_is : (view : ℕ) (xs : List Act) → length (writes_of_acts (acts_of view xs)) ≡ length (planned xs)
length_is view xs = ap (λ (ws : List (ℕ × List ℕ)). length ws) (planned_is view xs)

pub length_by : (commit : law.Commit) → length (writes_of commit) ≡ length commit.lays + (2 * length commit.homes + 3)
length_by commit = let e = length-append commit.lays (commit_writes commit.homes) in let f = length-commit commit.homes in omega arith

pub no_entries : (view : ℕ) → entries_of (acts_of view []) ≡ []
unfolding entries_of
no_entries view = ap entries_of (no_acts view)

-- the entries of the acts so far, and of the next one
pub entries_next : (view : ℕ) (xs : List Act) (i : ℕ) (d x : Act) → i < length xs → x ≡ get_or xs i d → entries_of (acts_of view (take (i + 1) xs)) ≡ entries_of (acts_of view (take i xs)) ++ entry_by x
entries_next view xs i d x within is =
    ap (λ (acts : List Act). entries_of (acts_of view acts)) (taken_more xs i d x within is)
    ∙ ap entries_of (acts_more view (take i xs) x)
    ∙ entries_more view x (acts_of view (take i xs))

-- all acts were met
pub planned_whole : (view : ℕ) (xs : List Act) (i : ℕ) → length xs ≤ i → planned (take i xs) ≡ writes_of_acts (acts_of view xs)
planned_whole view xs i h = ap planned (take_all i xs h) ∙ sym (planned_is view xs)

-- a fact stands also where a result is an error
pub on_err : {T E P : Type 0} (r : Result T E) → P → OnErr r P
on_err (Ok done) h = tt
on_err (Err why) h = h
