-- What a want needs: each need can be granted, at most one is Data Write, and an inode is a directory or a file.
use Rattle.std.proofs.Common.{◌≡◌, ◌≤◌, ◌<◌, ◌∷◌, ◌⊎◌, inl, inr, [], ℕ, List, Bool, true, false, Option, Some, None, Result, Ok, Err, length, map, filter, cond, refl, sym, ap, subst, ◌∙◌, true≢false, arith, rules, nat_lt}
use Rattle.std.specs.List.{All}
use Rattle.std.proofs.lemmas.List.{get_or_past, length-append, length-map}
use Rattle.std.proofs.lemmas.List.Elements.{All-append, All-cons, All-filter, All-head, All-map, All-nil, All-tail, All-weaker}
use Rattle.cal_base.specs.declared.identity.Ino.{Ino}
use Rattle.revocation.specs.Formed.{is_of_directory}
use Rattle.token_kind.specs.declared.token.Token.{Token}
use Rattle.token_kind.specs.declared.«class».Class.TheVariants.{Names, Data, Attr, Open}
use Rattle.token_table.specs.Table.{is_data_write}
use Rattle.tree_law.specs.Needs.{Need, end_needs, look_needs, needs_of_want, open_needs, path_needs, stat_needs, walk_needs}
use Rattle.tree_law.specs.Rename.{is_directory}
use Rattle.tree_law.specs.Resolve.{looked_up, resolved}
use Rattle.tree_law.specs.Tree.{node_at, root}
use Rattle.tree_law.specs.declared.node.Node.{Node}
use Rattle.tree_law.specs.declared.node.Node.TheVariants.{Directory, Regular}
use Rattle.tree_law.specs.declared.reply.Why.{Why}
use Rattle.tree_law.specs.declared.request.Want.{Want}
use Rattle.tree_law.specs.declared.request.Want.TheVariants.{Stat, Open as OpenWant, Readdir, Read as ReadWant, Write as WriteWant}
use Rattle.revocation.specs.Waiting.{IsWant}
use Rattle.inode.specs.declared.inode.Inode.{Inode}
use Rattle.volume.specs.Volume.{Volume, slots_of}
use Rattle.volume_edit.specs.Edit.{IsVolume, free_inode, inode_at}
use Rattle.volume_plan.specs.Shown.{shown, shown_as}
use Rattle.volume_plan.proofs.ShownNodes.{shown_at}
use Rattle.image.specs.Needed.{needed}
use Rattle.token_kind.specs.Class.{class_number}
use Rattle.token_kind.specs.Hold.{hold_number}
use Rattle.token_kind.specs.declared.«class».Class.{Class}
use Rattle.token_kind.specs.declared.hold.Hold.{Hold}
use Rattle.token_kind.specs.declared.hold.Hold.TheVariants.{None as Nothing, Read, Write}
use Rattle.cluster_law.specs.Tokens.{class_numbered, hold_numbered, token_of}
use Rattle.server_line.specs.Granted.{AreNeeds, IsNeed, names_in}

-- a need as it may be, where this tells which inodes are directories
record IsOf (v : Volume) (kinds : Ino → Bool) (need : Token) : Type 0 where
  need_is : IsNeed v need
  kind : is_of_directory need.«class» ≡ kinds need.ino
  reads : is_data_write need.«class» need.hold ≡ false

abbrev writes : Token → Bool
writes need = is_data_write need.«class» need.hold

none-left : {X : Type 0} (p : X → Bool) (xs : List X) → All (λ x. p x ≡ false) xs → length (filter p xs) ≡ 0
none-left p [] all = refl
none-left p (x ∷ xs) all = by (p x) (All-head (λ x. p x ≡ false) x xs all) (none-left p xs (All-tail (λ x. p x ≡ false) x xs all))
  where
    by : (b : Bool) → b ≡ false → length (filter p xs) ≡ 0 → length (cond b (x ∷ filter p xs) (filter p xs)) ≡ 0
    by true e n = absurd (true≢false e)
    by false e n = n

fewer-left : {X : Type 0} (p : X → Bool) (xs : List X) → length (filter p xs) ≤ length xs
fewer-left p [] = omega arith
fewer-left p (x ∷ xs) = by (p x) (fewer-left p xs)
  where
    by : (b : Bool) → length (filter p xs) ≤ length xs → length (cond b (x ∷ filter p xs) (filter p xs)) ≤ length (x ∷ xs)
    by true le = omega arith
    by false le = omega arith

fewer-of-some : {X : Type 0} (p q : X → Bool) (xs : List X) → length (filter p (filter q xs)) ≤ length (filter p xs)
fewer-of-some p q [] = omega arith
fewer-of-some p q (x ∷ xs) = by (q x) (p x) refl (fewer-of-some p q xs)
  where
    by : (b c : Bool) → p x ≡ c → length (filter p (filter q xs)) ≤ length (filter p xs) → length (filter p (cond b (x ∷ filter q xs) (filter q xs))) ≤ length (cond c (x ∷ filter p xs) (filter p xs))
    by true true e le = rw e (omega arith)
    by true false e le = rw e le
    by false true e le = omega arith
    by false false e le = le

module _ (v : Volume) (volume : IsVolume v) where
  abbrev dirs : Ino → Bool
  dirs ino = is_directory (node_at (shown v) ino)

  abbrev Fine : Need → Type 0
  Fine need = IsOf v dirs (token_of need)

  -- what the volume shows is one of its inodes
  shown-within : (ino : Ino) (node : Node) → node_at (shown v) ino ≡ Some node → ino.0 < 512
  shown-within ino node e = by (nat_lt ino.0 512) refl
    where
      by : (b : Bool) → nat_lt ino.0 512 ≡ b → ino.0 < 512
      by true f = search rules
      by false f =
          let past : 512 ≤ ino.0 = search rules in
          let count : length v.inodes ≡ 512 = volume.inode_count in
          let free : inode_at v.inodes ino.0 ≡ free_inode = get_or_past v.inodes ino.0 free_inode (omega arith) in
          let none : node_at (shown v) ino ≡ None = shown_at v ino.0 volume ∙ ap (λ (i : Inode). shown_as i.kind i.named (slots_of v ino.0)) free in
          absurd (cc)

  file-needs : (ino : Ino) (o : Option Node) → node_at (shown v) ino ≡ o → All Fine (stat_needs o ino) × All Fine (open_needs o ino)
  file-needs ino None e = (All-nil Fine, All-nil Fine)
  file-needs ino (Some (Directory names)) e = (All-nil Fine, All-nil Fine)
  file-needs ino (Some (Regular file)) e =
      let within = shown-within ino (Regular file) e in
      let kind : false ≡ dirs ino = sym (ap is_directory e) in (
        All-cons Fine (ino, 3, 1) [] (record { need_is = record { ino = within; mode = refl; named = λ f. absurd (cc) }; kind = kind; reads = refl }) (All-nil Fine),
        All-cons Fine (ino, 4, 1) [] (record { need_is = record { ino = within; mode = refl; named = λ f. absurd (cc) }; kind = kind; reads = refl }) (All-nil Fine),
      )

  names-needs : (ino : Ino) (o : Option Node) → node_at (shown v) ino ≡ o → All Fine (look_needs o ino)
  names-needs ino None e = All-nil Fine
  names-needs ino (Some (Regular file)) e = All-nil Fine
  names-needs ino (Some (Directory names)) e =
      let kind : dirs ino ≡ true = ap is_directory e in
      All-cons Fine (ino, 1, 1) [] (record { need_is = record { ino = shown-within ino (Directory names) e; mode = refl; named = λ f. kind }; kind = sym kind; reads = refl }) (All-nil Fine)

  walks : (at : Result Ino Why) (path : List (List ℕ)) → All Fine (walk_needs (shown v) at path)
  walks at [] = All-nil Fine
  walks (Ok ino) (name ∷ names) =
      All-append Fine (look_needs (node_at (shown v) ino) ino) (walk_needs (shown v) (looked_up (node_at (shown v) ino) name) names) (names-needs ino (node_at (shown v) ino) refl)
      (walks (looked_up (node_at (shown v) ino) name) names)
  walks (Err why) (name ∷ names) = All-nil Fine

  ends : (needs : Option Node → Ino → List Need) → ((ino : Ino) → All Fine (needs (node_at (shown v) ino) ino)) → (r : Result Ino Why) → All Fine (end_needs needs (shown v) r)
  ends needs each (Ok ino) = each ino
  ends needs each (Err why) = All-nil Fine

  paths : (needs : Option Node → Ino → List Need) → ((ino : Ino) → All Fine (needs (node_at (shown v) ino) ino)) → (path : List (List ℕ)) → All Fine (path_needs needs (shown v) path)
  paths needs each path = All-append Fine (walk_needs (shown v) (Ok root) path) (end_needs needs (shown v) (resolved (shown v) path)) (walks (Ok root) path) (ends needs each (resolved (shown v) path))

  walk-count : (at : Result Ino Why) (path : List (List ℕ)) → length (walk_needs (shown v) at path) ≤ length path
  walk-count at [] = omega arith
  walk-count (Ok ino) (name ∷ names) =
      let one = look-count (node_at (shown v) ino) ino in
      let rest = walk-count (looked_up (node_at (shown v) ino) name) names in
      let both = length-append (look_needs (node_at (shown v) ino) ino) (walk_needs (shown v) (looked_up (node_at (shown v) ino) name) names) in
      omega arith
    where
      look-count : (o : Option Node) (ino : Ino) → length (look_needs o ino) ≤ 1
      look-count None ino = omega arith
      look-count (Some (Directory names)) ino = omega arith
      look-count (Some (Regular file)) ino = omega arith
  walk-count (Err why) (name ∷ names) = omega arith

  of-path : (needs : Option Node → Ino → List Need) → ((ino : Ino) → All Fine (needs (node_at (shown v) ino) ino)) → ((o : Option Node) (ino : Ino) → length (needs o ino) ≤ 1) → (path : List (List ℕ)) → length path ≤ 16
      → AreNeeds v (map token_of (path_needs needs (shown v) path))
  of-path needs each one path few =
      let all = All-map (IsOf v dirs) token_of (path_needs needs (shown v) path) (paths needs each path) in
      record {
        each = All-weaker (IsOf v dirs) (IsNeed v) (λ need f. f.need_is) (map token_of (path_needs needs (shown v) path)) all;
        count = count;
        kinds = dirs;
        of_kind = All-weaker (IsOf v dirs) (λ need. is_of_directory need.«class» ≡ dirs need.ino) (λ need f. f.kind) (map token_of (path_needs needs (shown v) path)) all;
        writes = let none = none-left writes (map token_of (path_needs needs (shown v) path)) (All-weaker (IsOf v dirs) (λ need. writes need ≡ false) (λ need f. f.reads) (map token_of (path_needs needs (shown v) path)) all) in omega arith;
      }
    where
      end-count : (r : Result Ino Why) → length (end_needs needs (shown v) r) ≤ 1
      end-count (Ok ino) = one (node_at (shown v) ino) ino
      end-count (Err why) = omega arith

      count : length (map token_of (path_needs needs (shown v) path)) ≤ 17
      count =
          let w = walk-count (Ok root) path in
          let e = end-count (resolved (shown v) path) in
          let both = length-append (walk_needs (shown v) (Ok root) path) (end_needs needs (shown v) (resolved (shown v) path)) in
          let mapped = length-map (path_needs needs (shown v) path) token_of in
          omega arith

  stat-count : (o : Option Node) (ino : Ino) → length (stat_needs o ino) ≤ 1
  stat-count None ino = omega arith
  stat-count (Some (Directory names)) ino = omega arith
  stat-count (Some (Regular file)) ino = omega arith

  open-count : (o : Option Node) (ino : Ino) → length (open_needs o ino) ≤ 1
  open-count None ino = omega arith
  open-count (Some (Directory names)) ino = omega arith
  open-count (Some (Regular file)) ino = omega arith

  names-count : (o : Option Node) (ino : Ino) → length (look_needs o ino) ≤ 1
  names-count None ino = omega arith
  names-count (Some (Directory names)) ino = omega arith
  names-count (Some (Regular file)) ino = omega arith

  of-file : (ino : Ino) (hold : ℕ) → ino.0 < 512 → (hold ≡ 1) ⊎ (hold ≡ 2) → AreNeeds v (map token_of ((ino, 2, hold) ∷ (ino, 3, hold) ∷ []))
  of-file ino hold within (inl e) = subst (λ (h : ℕ). AreNeeds v (map token_of ((ino, 2, h) ∷ (ino, 3, h) ∷ []))) (sym e) (record {
    each = All-cons (IsNeed v) (token_of (ino, 2, 1)) (token_of (ino, 3, 1) ∷ []) (record { ino = within; mode = refl; named = λ f. absurd (cc) }) (All-cons (IsNeed v) (token_of (ino, 3, 1)) [] (record { ino = within; mode = refl; named = λ f. absurd (cc) }) (All-nil (IsNeed v)));
    count = omega arith;
    kinds = λ ino. false;
    of_kind = All-cons (λ (need : Token). is_of_directory need.«class» ≡ false) (token_of (ino, 2, 1)) (token_of (ino, 3, 1) ∷ []) refl (All-cons (λ (need : Token). is_of_directory need.«class» ≡ false) (token_of (ino, 3, 1)) [] refl (All-nil (λ (need : Token). is_of_directory need.«class» ≡ false)));
    writes = omega arith;
  })
  of-file ino hold within (inr e) = subst (λ (h : ℕ). AreNeeds v (map token_of ((ino, 2, h) ∷ (ino, 3, h) ∷ []))) (sym e) (record {
    each = All-cons (IsNeed v) (token_of (ino, 2, 2)) (token_of (ino, 3, 2) ∷ []) (record { ino = within; mode = refl; named = λ f. absurd (cc) }) (All-cons (IsNeed v) (token_of (ino, 3, 2)) [] (record { ino = within; mode = refl; named = λ f. absurd (cc) }) (All-nil (IsNeed v)));
    count = omega arith;
    kinds = λ ino. false;
    of_kind = All-cons (λ (need : Token). is_of_directory need.«class» ≡ false) (token_of (ino, 2, 2)) (token_of (ino, 3, 2) ∷ []) refl (All-cons (λ (need : Token). is_of_directory need.«class» ≡ false) (token_of (ino, 3, 2)) [] refl (All-nil (λ (need : Token). is_of_directory need.«class» ≡ false)));
    writes = omega arith;
  })

  pub of-want : (want : Want) → IsWant want → names_in want ≤ 16 → AreNeeds v (map token_of (needs_of_want (shown v) want))
  of-want (Stat path) is few = of-path stat_needs (λ ino. (file-needs ino (node_at (shown v) ino) refl).0) stat-count path few
  of-want (OpenWant path) is few = of-path open_needs (λ ino. (file-needs ino (node_at (shown v) ino) refl).1) open-count path few
  of-want (Readdir path) is few = of-path look_needs (λ ino. names-needs ino (node_at (shown v) ino) refl) names-count path few
  of-want (ReadWant ino) is few = of-file ino 1 is (inl refl)
  of-want (WriteWant ino) is few = of-file ino 2 is (inr refl)

-- some of the needs are needs
pub of-some : (v : Volume) (p : Token → Bool) (needs : List Token) → AreNeeds v needs → AreNeeds v (filter p needs)
of-some v p needs are = record {
  each = All-filter p (IsNeed v) needs are.each;
  count = let le = fewer-left p needs in let few = are.count in omega arith;
  kinds = are.kinds;
  of_kind = All-filter p (λ (need : Token). is_of_directory need.«class» ≡ are.kinds need.ino) needs are.of_kind;
  writes = let le = fewer-of-some writes p needs in let one = are.writes in omega arith;
}

-- a token by the numbers of its class and its hold
again : (need : Token) → token_of (needed need) ≡ need
again need = by need.«class» need.hold refl refl
  where
    by : (cls : Class) (hold : Hold) → need.«class» ≡ cls → need.hold ≡ hold → ◌≡◌ {A = Token} (record { ino = need.ino; «class» = class_numbered (class_number cls); hold = hold_numbered (hold_number hold) }) (record { ino = need.ino; «class» = cls; hold = hold })
    by Names Nothing e f = refl
    by Names Read e f = refl
    by Names Write e f = refl
    by Data Nothing e f = refl
    by Data Read e f = refl
    by Data Write e f = refl
    by Attr Nothing e f = refl
    by Attr Read e f = refl
    by Attr Write e f = refl
    by Open Nothing e f = refl
    by Open Read e f = refl
    by Open Write e f = refl

pub all-again : (needs : List Token) → needs ≡ map token_of (map needed needs)
all-again [] = refl
all-again (need ∷ needs) = λ i. sym (again need) i ∷ all-again needs i

-- what is needed, as tokens
pub read-back : (v : Volume) (want : Want) (needs : List Token) → map needed needs ≡ needs_of_want (shown v) want → needs ≡ map token_of (needs_of_want (shown v) want)
read-back v want needs e = all-again needs ∙ ap (map token_of) e

pub are-needs : (v : Volume) (want : Want) (needs : List Token) (count : ℕ) → map needed needs ≡ needs_of_want (shown v) want → IsVolume v → IsWant want → count ≡ names_in want → count ≤ 16 → AreNeeds v needs
are-needs v want needs count e volume is counted few =
    subst (λ (ts : List Token). AreNeeds v ts) (sym (read-back v want needs e)) (of-want v volume want is (subst (λ (n : ℕ). n ≤ 16) counted few))
