-- What a report of all holds lists.
use Rattle.std.proofs.Common.{◌≡◌, ◌+◌, ◌*◌, ◌<◌, ◌≤◌, ◌^◌, ◌++◌, ◌∷◌, ◌⊎◌, inl, inr, ℕ, zero, suc, Bool, true, false, cond, if◌then◌else◌, List, [], length, Option, Some, None, All, Contains, find, get_or, refl, sym, subst, ◌∙◌, arith, nat_eq}
use Rattle.std.specs.List.{AllPairs}
use Rattle.std.proofs.lemmas.Bool.{cases_lt, true≢false}
use Rattle.std.proofs.lemmas.List.{append-nil, append_assoc, get_or_past, length-append}
use Rattle.std.proofs.lemmas.List.Elements.{All-nil, All-push, Contains-append_left, Contains-append_right, Contains-get_or}
use Rattle.std.proofs.lemmas.List.Quantifiers.{all_pairs_push}
use Rattle.cal_base.specs.Limits.{inodes}
use Rattle.cal_base.specs.declared.identity.Ino.{Ino}
use Rattle.token_kind.specs.Class.{class_number}
use Rattle.token_kind.specs.Flush.{IsFlush}
use Rattle.token_kind.specs.Hold.{hold_number, is_held}
use Rattle.token_kind.specs.Token.{IsReported, may_hold}
use Rattle.token_kind.specs.declared.«class».Class.{Class}
use Rattle.token_kind.specs.declared.«class».Class.TheVariants.{Names, Data, Attr, Open}
use Rattle.token_kind.specs.declared.flush.Flush.{Flush}
use Rattle.token_kind.specs.declared.hold.Hold.{Hold}
use Rattle.token_kind.specs.declared.hold.Hold.TheVariants.{None as Nothing, Read, Write}
use Rattle.token_kind.specs.declared.reported.Reported.{Reported}
use Rattle.client_cache.specs.declared.cached_inode.CachedInode.{CachedInode}
use Rattle.client_cache.specs.Holds.{hold_in}
use Rattle.client_cache.specs.IsKnown.{IsCached, IsKnown}
use Rattle.client_cache.specs.Known.{Known, flush_at, inode_at, is_flush_of, nothing_known}
use Rattle.client_cache.specs.Reports.{IsListedBefore, IsReport, class_place, flush_leaves, flush_number, report_at, reported, reported_at, reported_below, reports}
use Rattle.client_cache.proofs.KnownLemmas.{cached_at}

at_most_read : (cls : Class) (hold : Hold) → hold_number hold ≤ 1 → may_hold cls hold ≡ true
at_most_read cls Nothing low = refl
at_most_read cls Read low = refl
at_most_read cls Write low = absurd (omega (arith, low))

any_data : (hold : Hold) → may_hold Data hold ≡ true
any_data Nothing = refl
any_data Read = refl
any_data Write = refl

any_attr : (hold : Hold) → may_hold Attr hold ≡ true
any_attr Nothing = refl
any_attr Read = refl
any_attr Write = refl

-- a class of an inode is held so
held_may : (cls : Class) (inode : CachedInode) → IsCached inode → may_hold cls (hold_in inode.holds cls) ≡ true
held_may Names inode is = at_most_read Names inode.holds.names is.names
held_may Data inode is = any_data inode.holds.contents
held_may Attr inode is = any_attr inode.holds.attr
held_may Open inode is = at_most_read Open inode.holds.«open» is.«open»

left_may : (cls : Class) (flush : Option Flush) → may_hold cls (flush_leaves cls flush) ≡ true
left_may Names flush = refl
left_may Data None = refl
left_may Data (Some flush) = any_data flush.leave_data
left_may Attr None = refl
left_may Attr (Some flush) = any_attr flush.leave_attr
left_may Open flush = refl

-- an outstanding flush is one that a message spells
record MayBeFlush (flush : Option Flush) : Type 0 where
  number : (f : Flush) → flush ≡ Some f → 1 ≤ f.number
  fits : (f : Flush) → flush ≡ Some f → f.number < 2 ^ 64

some_same : (f g : Flush) → ◌≡◌ {A = Option Flush} (Some f) (Some g) → f ≡ g
some_same f g e = cc

found_flush : (flushes : List Flush) (ino : Ino) → All IsFlush flushes → MayBeFlush (find (is_flush_of ino) flushes)
found_flush [] ino are = record { number = λ f e. absurd (cc); fits = λ f e. absurd (cc) }
found_flush (flush ∷ flushes) ino are = by (nat_eq flush.ino.0 ino.0) (found_flush flushes ino (λ k d within. are (suc k) d (omega (arith, within))))
  where
    first : IsFlush flush
    first = are 0 flush (omega arith)

    by : (b : Bool) → MayBeFlush (find (is_flush_of ino) flushes) → MayBeFlush (cond b (Some flush) (find (is_flush_of ino) flushes))
    by true others = record {
      number = λ f e. subst (λ (g : Flush). 1 ≤ g.number) (some_same flush f e) first.number;
      fits = λ f e. subst (λ (g : Flush). g.number < 2 ^ 64) (some_same flush f e) first.fits;
    }
    by false others = others

number_fits : (cls : Class) (flush : Option Flush) → MayBeFlush flush → flush_number cls flush < 2 ^ 64
number_fits Names flush may = omega arith
number_fits Data None may = omega arith
number_fits Data (Some flush) may = may.fits flush refl
number_fits Attr None may = omega arith
number_fits Attr (Some flush) may = may.fits flush refl
number_fits Open flush may = omega arith

none_left : (cls : Class) (flush : Option Flush) → MayBeFlush flush → flush_number cls flush ≡ 0 → flush_leaves cls flush ≡ Nothing
none_left Names flush may e = refl
none_left Data None may e = refl
none_left Data (Some flush) may e = let some = may.number flush refl in absurd (omega (arith, some, e))
none_left Attr None may e = refl
none_left Attr (Some flush) may e = let some = may.number flush refl in absurd (omega (arith, some, e))
none_left Open flush may e = refl

formed_at : (known : Known) (ino : Ino) (cls : Class) → IsKnown known → ino.0 < inodes → is_held (hold_in (inode_at known ino).holds cls) ≡ true → IsReported (report_at known ino cls)
formed_at known ino cls is inside held =
    let may = found_flush known.flushes ino is.flushes in
    record {
      ino = inside;
      held = held;
      modes = record { hold = held_may cls (inode_at known ino) (cached_at known ino is); leave = left_may cls (flush_at known ino) };
      flush = number_fits cls (flush_at known ino) may;
      no_flush = none_left cls (flush_at known ino) may;
    }

-- holds that are listed up to a place
record Listed (known : Known) (place : ℕ) (holds : List Reported) : Type 0 where
  formed : All IsReported holds
  each : All (λ r. r ≡ report_at known r.token.ino r.token.«class») holds
  order : AllPairs IsListedBefore holds
  below : All (λ r. class_place r.token ≤ place) holds
  few : length holds ≤ place

-- the class at the next place
listed_more : (known : Known) (ino : Ino) (cls : Class) (place : ℕ) (holds : List Reported) → IsKnown known → ino.0 < inodes → ino.0 * 4 + class_number cls ≡ place + 1
    → Listed known place holds → Listed known (place + 1) (holds ++ reported known ino cls)
listed_more known ino cls place holds is inside next listed = by (is_held (hold_in (inode_at known ino).holds cls)) refl
  where
    hold : Reported
    hold = report_at known ino cls

    up : (k : ℕ) (d : Reported) → k < length holds → class_place (get_or holds k d).token ≤ place + 1
    up k d within = let low : class_place (get_or holds k d).token ≤ place = listed.below k d within in omega arith

    before : (k : ℕ) (d : Reported) → k < length holds → IsListedBefore (get_or holds k d) hold
    before k d within = let low : class_place (get_or holds k d).token ≤ place = listed.below k d within in omega (arith, low, next)

    by : (b : Bool) → is_held (hold_in (inode_at known ino).holds cls) ≡ b → Listed known (place + 1) (holds ++ (if b then hold ∷ [] else []))
    by true held = record {
      formed = All-push IsReported holds hold listed.formed (formed_at known ino cls is inside held);
      each = All-push (λ r. r ≡ report_at known r.token.ino r.token.«class») holds hold listed.each refl;
      order = all_pairs_push IsListedBefore holds hold listed.order before;
      below = All-push (λ r. class_place r.token ≤ place + 1) holds hold up (omega (arith, next));
      few = (let more = length-append holds (hold ∷ []) in let low = listed.few in omega (arith, more, low));
    }
    by false held = subst (Listed known (place + 1)) (sym (append-nil holds)) (record {
      formed = listed.formed;
      each = listed.each;
      order = listed.order;
      below = up;
      few = (let low = listed.few in omega (arith, low));
    })

listed_inode : (known : Known) (ino : Ino) (place : ℕ) (holds : List Reported) → IsKnown known → ino.0 < inodes → place ≡ ino.0 * 4 → Listed known place holds → Listed known (place + 4) (holds ++ reported_at known ino)
listed_inode known ino place holds is inside at listed =
    let names = reported known ino Names in
    let data_hold = reported known ino Data in
    let attr = reported known ino Attr in
    let open_hold = reported known ino Open in
    let one = listed_more known ino Names place holds is inside (omega (arith, at)) listed in
    let two = listed_more known ino Data (place + 1) (holds ++ names) is inside (omega (arith, at)) one in
    let three = listed_more known ino Attr (place + 1 + 1) ((holds ++ names) ++ data_hold) is inside (omega (arith, at)) two in
    let four = listed_more known ino Open (place + 1 + 1 + 1) (((holds ++ names) ++ data_hold) ++ attr) is inside (omega (arith, at)) three in
    let joined : (((holds ++ names) ++ data_hold) ++ attr) ++ open_hold ≡ holds ++ reported_at known ino = simp append_assoc refl in
    let count : place + 1 + 1 + 1 + 1 ≡ place + 4 = omega arith in
    subst (λ (p : ℕ). Listed known p (holds ++ reported_at known ino)) count (subst (Listed known (place + 1 + 1 + 1 + 1)) joined four)

listed_below : (known : Known) (n : ℕ) → IsKnown known → n ≤ inodes → Listed known (n * 4) (reported_below known n)
unfolding reported_below
listed_below known zero is within = record { formed = All-nil _; each = All-nil _; order = λ i j d lower inside. absurd (omega (arith, inside)); below = All-nil _; few = omega arith }
listed_below known (suc n) is within =
    let count : n * 4 + 4 ≡ suc n * 4 = omega arith in
    subst (λ (p : ℕ). Listed known p (reported_below known (suc n))) count
    (listed_inode known (record { 0 = n }) (n * 4) (reported_below known n) is (omega (arith, within)) refl (listed_below known n is (omega (arith, within))))

-- what is held stands among the holds of its inode
held_at : (known : Known) (ino : Ino) (cls : Class) → is_held (hold_in (inode_at known ino).holds cls) ≡ true → Contains (reported known ino cls) (report_at known ino cls)
held_at known ino cls held = by (is_held (hold_in (inode_at known ino).holds cls)) held
  where
    by : (b : Bool) → b ≡ true → Contains (if b then report_at known ino cls ∷ [] else []) (report_at known ino cls)
    by true e = Contains-get_or (report_at known ino cls ∷ []) 0 (report_at known ino cls) (omega arith)
    by false e = absurd (cc)

among : (known : Known) (ino : Ino) (cls : Class) (x : Reported) → Contains (reported known ino cls) x → Contains (reported_at known ino) x
among known ino Names x at = Contains-append_left (reported known ino Names) _ x at
among known ino Data x at = Contains-append_right (reported known ino Names) _ x (Contains-append_left (reported known ino Data) _ x at)
among known ino Attr x at =
    Contains-append_right (reported known ino Names) _ x (Contains-append_right (reported known ino Data) _ x (Contains-append_left (reported known ino Attr) _ x at))
among known ino Open x at =
    Contains-append_right (reported known ino Names) _ x (Contains-append_right (reported known ino Data) _ x (Contains-append_right (reported known ino Attr) _ x at))

below_or_at : (m n : ℕ) → m < suc n → (m < n) ⊎ (m ≡ n)
below_or_at m n within = by (cases_lt m n)
  where
    by : (m < n) ⊎ (n ≤ m) → (m < n) ⊎ (m ≡ n)
    by (inl low) = inl low
    by (inr high) = inr (omega (arith, within, high))

all_below : (known : Known) (n : ℕ) (ino : Ino) (cls : Class) → ino.0 < n → is_held (hold_in (inode_at known ino).holds cls) ≡ true → Contains (reported_below known n) (report_at known ino cls)
unfolding reported_below
all_below known zero ino cls within held = absurd (omega (arith, within))
all_below known (suc n) ino cls within held = by (λ low. all_below known n ino cls low held) (below_or_at ino.0 n within)
  where
    by : (ino.0 < n → Contains (reported_below known n) (report_at known ino cls)) → (ino.0 < n) ⊎ (ino.0 ≡ n) → Contains (reported_below known n ++ reported_at known (record { 0 = n })) (report_at known ino cls)
    by below (inl low) = Contains-append_left (reported_below known n) _ (report_at known ino cls) (below low)
    by below (inr same) = subst (λ (k : ℕ). Contains (reported_below known n ++ reported_at known (record { 0 = k })) (report_at known ino cls)) same
        (Contains-append_right (reported_below known n) (reported_at known ino) (report_at known ino cls) (among known ino cls (report_at known ino cls) (held_at known ino cls held)))

-- nothing is held past the volume
inside_held : (known : Known) (ino : Ino) (cls : Class) → IsKnown known → is_held (hold_in (inode_at known ino).holds cls) ≡ true → ino.0 < inodes
inside_held known ino cls is held = by (cases_lt ino.0 inodes)
  where
    nothing : (cls : Class) → is_held (hold_in nothing_known.holds cls) ≡ false
    nothing Names = refl
    nothing Data = refl
    nothing Attr = refl
    nothing Open = refl

    by : (ino.0 < inodes) ⊎ (inodes ≤ ino.0) → ino.0 < inodes
    by (inl low) = low
    by (inr high) =
        let past : inode_at known ino ≡ nothing_known = get_or_past known.inodes ino.0 nothing_known (let count = is.inodes in omega (arith, high, count)) in
        let held_past : is_held (hold_in nothing_known.holds cls) ≡ true = subst (λ (inode : CachedInode). is_held (hold_in inode.holds cls) ≡ true) past held in
        absurd (true≢false (sym held_past ∙ nothing cls))

pub is_report : (known : Known) (holds : List Reported) → IsKnown known → holds ≡ reports known → IsReport known holds
is_report known holds is same =
    let listed = listed_below known inodes is (omega arith) in
    subst (IsReport known) (sym same) (record {
      formed = listed.formed;
      each = listed.each;
      all = λ ino cls held. all_below known inodes ino cls (inside_held known ino cls is held) held;
      order = listed.order;
      few = listed.few;
    })
