-- What is known changes as the book does.
use Rattle.std.proofs.Common.{◌≡◌, ◌&&◌, ◌∷◌, [], ◌++◌, ◌+◌, ◌<◌, ℕ, Bool, true, false, if◌then◌else◌, List, ap, refl, sym, subst, ◌∙◌, rules, arith, nat_eq, map, length, slice_set, slice_index_or}
use Rattle.std.proofs.lemmas.Bool.{eqb-true}
use Rattle.std.proofs.lemmas.List.{map-append}
use Rattle.cal_base.specs.declared.identity.Ino.{Ino}
use Rattle.client_cache.specs.Changes.{after_lower, after_start, after_take, cleaned, forgotten, granted, holding, leaving, left_with, lowered, raised, with_content}
use Rattle.client_cache.specs.Holds.{hold_in, with_hold as with_hold_in}
use Rattle.client_cache.specs.Known.{Known, inode_at, nothing_known}
use Rattle.client_cache.specs.declared.cached_inode.CachedInode.{CachedInode}
use Rattle.delayed_write.specs.Marks.{no_marks}
use Rattle.token_kind.specs.declared.«class».Class.{Class}
use Rattle.token_kind.specs.declared.«class».Class.TheVariants.{Names, Data, Attr, Open}
use Rattle.token_kind.specs.declared.flush.Flush.{Flush}
use Rattle.token_kind.specs.Hold.{hold_number, lesser_of}
use Rattle.token_kind.specs.declared.content.Content.{Content}
use Rattle.token_kind.specs.declared.content.Content.TheVariants.{Nothing as Empty, Names as Entries, Bytes, Size}
use Rattle.token_kind.specs.declared.grant_item.GrantItem.{GrantItem}
use Rattle.token_kind.specs.declared.hold.Hold.{Hold}
use Rattle.token_kind.specs.declared.hold.Hold.TheVariants.{None as Nothing, Read, Write}
use Rattle.token_kind.specs.declared.revoke.Revoke.{Revoke}
use Rattle.cluster_law.specs.Book.{Book, leaving as booked_leaving, leaving_at, with_flush, with_hold, with_token}
use Rattle.cluster_law.specs.Tokens.{same_class}
use Rattle.client_book.specs.Booked.{KeepsMarks, book_of, flushing_of}

-- two books that are the same in each part are one
pub same-books : (a b : Book) → ((ino : Ino) (cls : Class) → a.holds ino cls ≡ b.holds ino cls) → a.flushing ≡ b.flushing → a.remembered ≡ b.remembered → ((ino : Ino) → a.marks ino ≡ b.marks ino) → a.flushes ≡ b.flushes → a ≡ b
same-books a b holds flushing remembered marks flushes = λ i. record { holds = λ ino cls. holds ino cls i; flushing = flushing i; remembered = remembered i; marks = λ ino. marks ino i; flushes = flushes i }

-- an inode after one was put in its place, or in another's
pub put-at : (known : Known) (at ino : Ino) (inode : CachedInode) → at.0 < length known.inodes
    → slice_index_or (slice_set known.inodes at.0 inode) ino.0 nothing_known ≡ (if nat_eq ino.0 at.0 then inode else inode_at known ino)
put-at known at ino inode lt = by (nat_eq ino.0 at.0) refl
  where
    by : (b : Bool) → nat_eq ino.0 at.0 ≡ b → slice_index_or (slice_set known.inodes at.0 inode) ino.0 nothing_known ≡ (if b then inode else inode_at known ino)
    by true e = subst (λ n. slice_index_or (slice_set known.inodes at.0 inode) n nothing_known ≡ inode) (sym (eqb-true ino.0 at.0 e)) (search rules)
    by false e = search rules

-- a flush starts
pub start : (known : Known) (remembered : List Revoke) (flush : Flush) → flush.ino.0 < length known.inodes → flush.number ≡ known.last_flush + 1
    → book_of (after_start known flush) remembered ≡ with_flush (book_of known remembered) flush.ino flush.leave_data flush.leave_attr
start known remembered flush lt number = same-books _ _ holds flushing refl marks refl
  where
    holds : (ino : Ino) (cls : Class) → hold_in (inode_at (after_start known flush) ino).holds cls ≡ hold_in (inode_at known ino).holds cls
    holds ino cls = ap (λ inode. hold_in inode.holds cls) (put-at known flush.ino ino (cleaned (inode_at known flush.ino)) lt) ∙ by (nat_eq ino.0 flush.ino.0) refl
      where
        by : (b : Bool) → nat_eq ino.0 flush.ino.0 ≡ b → hold_in (if b then cleaned (inode_at known flush.ino) else inode_at known ino).holds cls ≡ hold_in (inode_at known ino).holds cls
        by true e = ap (λ n. hold_in (slice_index_or known.inodes n nothing_known).holds cls) (sym (eqb-true ino.0 flush.ino.0 e))
        by false e = refl

    flushing : map flushing_of (known.flushes ++ flush ∷ []) ≡ map flushing_of known.flushes ++ record { number = known.last_flush + 1; ino = flush.ino; leave_data = flush.leave_data; leave_attr = flush.leave_attr } ∷ []
    flushing = map-append flushing_of known.flushes (flush ∷ []) ∙ ap (λ n. map flushing_of known.flushes ++ record { number = n; ino = flush.ino; leave_data = flush.leave_data; leave_attr = flush.leave_attr } ∷ []) number

    marks : (ino : Ino) → (inode_at (after_start known flush) ino).file.marks ≡ (if nat_eq ino.0 flush.ino.0 then no_marks else (inode_at known ino).file.marks)
    marks ino = ap (λ inode. inode.file.marks) (put-at known flush.ino ino (cleaned (inode_at known flush.ino)) lt) ∙ by (nat_eq ino.0 flush.ino.0)
      where
        by : (b : Bool) → (if b then cleaned (inode_at known flush.ino) else inode_at known ino).file.marks ≡ (if b then no_marks else (inode_at known ino).file.marks)
        by true = refl
        by false = refl

-- a hold that is set in a class, seen in any class
with-in : (holds : _) (cls k : Class) (hold : Hold) → hold_in (with_hold_in holds cls hold) k ≡ (if same_class k cls then hold else hold_in holds k)
with-in holds Names Names hold = refl
with-in holds Names Data hold = refl
with-in holds Names Attr hold = refl
with-in holds Names Open hold = refl
with-in holds Data Names hold = refl
with-in holds Data Data hold = refl
with-in holds Data Attr hold = refl
with-in holds Data Open hold = refl
with-in holds Attr Names hold = refl
with-in holds Attr Data hold = refl
with-in holds Attr Attr hold = refl
with-in holds Attr Open hold = refl
with-in holds Open Names hold = refl
with-in holds Open Data hold = refl
with-in holds Open Attr hold = refl
with-in holds Open Open hold = refl

forgotten-holds : (cls : Class) (inode : CachedInode) → (forgotten cls inode).holds ≡ inode.holds
forgotten-holds Names inode = refl
forgotten-holds Data inode = refl
forgotten-holds Attr inode = refl
forgotten-holds Open inode = refl

pub left-in : (cls k : Class) (hold : Hold) (inode : CachedInode) → hold_in (left_with cls hold inode).holds k ≡ (if same_class k cls then hold else hold_in inode.holds k)
left-in cls k Nothing inode = ap (λ holds. hold_in holds k) (forgotten-holds cls (holding inode cls Nothing)) ∙ with-in inode.holds cls k Nothing
left-in cls k Read inode = with-in inode.holds cls k Read
left-in cls k Write inode = with-in inode.holds cls k Write

-- what is forgotten with a hold takes no marks along, but with Data, of which nothing may be marked then
abbrev pub LosesNoMarks : Class → CachedInode → Type 0
LosesNoMarks Names inode = Unit {0}
LosesNoMarks Data inode = inode.file.marks ≡ no_marks
LosesNoMarks Attr inode = Unit {0}
LosesNoMarks Open inode = Unit {0}

pub left-marks : (cls : Class) (hold : Hold) (inode : CachedInode) → LosesNoMarks cls inode → (left_with cls hold inode).file.marks ≡ inode.file.marks
left-marks Names Nothing inode e = refl
left-marks Data Nothing inode e = sym e
left-marks Attr Nothing inode e = refl
left-marks Open Nothing inode e = refl
left-marks cls Read inode e = refl
left-marks cls Write inode e = refl

pub without-marks : (cls : Class) (inode : CachedInode) → inode.file.marks ≡ no_marks → LosesNoMarks cls inode
without-marks Names inode e = record {}
without-marks Data inode e = e
without-marks Attr inode e = record {}
without-marks Open inode e = record {}

pub lesser-lower : (hold to : Hold) → hold_number to < hold_number hold → lesser_of hold to ≡ to
lesser-lower Nothing to lt = absurd (none lt)
  where
    none : {n : ℕ} → n < 0 → ⊥
    none h = omega arith
lesser-lower Read Nothing lt = refl
lesser-lower Read Read lt = refl
lesser-lower Read Write lt = absurd (not-less lt)
  where
    not-less : 2 < 1 → ⊥
    not-less h = omega arith
lesser-lower Write to lt = refl

-- one hold of an inode is another, and nothing is marked of it
pub one-hold : (known : Known) (remembered : List Revoke) (ino : Ino) (cls : Class) (hold : Hold) (inode : CachedInode) → ino.0 < length known.inodes
    → ((k : Class) → hold_in inode.holds k ≡ (if same_class k cls then hold else hold_in (inode_at known ino).holds k)) → inode.file.marks ≡ (inode_at known ino).file.marks
    → book_of (record { inodes = slice_set known.inodes ino.0 inode; table = known.table; flushes = known.flushes; last_flush = known.last_flush }) remembered
    ≡ record (book_of known remembered) { holds = with_hold (book_of known remembered).holds ino cls hold }
one-hold known remembered ino cls hold inode lt set marked = same-books _ _ holds refl refl marks refl
  where
    holds : (i : Ino) (k : Class) → hold_in (slice_index_or (slice_set known.inodes ino.0 inode) i.0 nothing_known).holds k ≡ with_hold (book_of known remembered).holds ino cls hold i k
    holds i k = ap (λ x. hold_in x.holds k) (put-at known ino i inode lt) ∙ by (nat_eq i.0 ino.0) refl
      where
        by : (b : Bool) → nat_eq i.0 ino.0 ≡ b → hold_in (if b then inode else inode_at known i).holds k ≡ (if b && same_class k cls then hold else hold_in (inode_at known i).holds k)
        by true e = set k ∙ ap (λ n. if same_class k cls then hold else hold_in (slice_index_or known.inodes n nothing_known).holds k) (sym (eqb-true i.0 ino.0 e))
        by false e = refl

    marks : (i : Ino) → (slice_index_or (slice_set known.inodes ino.0 inode) i.0 nothing_known).file.marks ≡ (inode_at known i).file.marks
    marks i = ap (λ x. x.file.marks) (put-at known ino i inode lt) ∙ by (nat_eq i.0 ino.0) refl
      where
        by : (b : Bool) → nat_eq i.0 ino.0 ≡ b → (if b then inode else inode_at known i).file.marks ≡ (inode_at known i).file.marks
        by true e = marked ∙ ap (λ n. (slice_index_or known.inodes n nothing_known).file.marks) (sym (eqb-true i.0 ino.0 e))
        by false e = refl

-- a hold is lowered to what is no more than it
pub lower-to : (known : Known) (remembered : List Revoke) (ino : Ino) (cls : Class) (to : Hold) → ino.0 < length known.inodes → LosesNoMarks cls (inode_at known ino) → lesser_of (hold_in (inode_at known ino).holds cls) to ≡ to
    → book_of (after_lower known ino cls to) remembered ≡ record (book_of known remembered) { holds = with_hold (book_of known remembered).holds ino cls to }
lower-to known remembered ino cls to lt clear less =
    one-hold known remembered ino cls to (lowered cls to (inode_at known ino)) lt
    (λ k. ap (λ hold. hold_in (left_with cls hold (inode_at known ino)).holds k) less ∙ left-in cls k to (inode_at known ino))
    (left-marks cls (lesser_of (hold_in (inode_at known ino).holds cls) to) (inode_at known ino) clear)

pub lower : (known : Known) (remembered : List Revoke) (ino : Ino) (cls : Class) (to : Hold) → ino.0 < length known.inodes → (inode_at known ino).file.marks ≡ no_marks → hold_number to < hold_number (hold_in (inode_at known ino).holds cls)
    → book_of (after_lower known ino cls to) remembered ≡ record (book_of known remembered) { holds = with_hold (book_of known remembered).holds ino cls to }
lower known remembered ino cls to lt clear less = lower-to known remembered ino cls to lt (without-marks cls (inode_at known ino) clear) (lesser-lower _ to less)

-- an item of a Grant is taken
leaves : (ino : Ino) (cls : Class) (hold : Hold) (flush : Flush) → flushing_of (raised ino cls hold flush) ≡ leaving_at ino cls hold (flushing_of flush)
leaves ino cls hold flush = by (nat_eq flush.ino.0 ino.0) cls
  where
    by : (b : Bool) (c : Class) → flushing_of (if b then leaving c hold flush else flush) ≡ (if b then booked_leaving c hold (flushing_of flush) else flushing_of flush)
    by false c = refl
    by true Names = refl
    by true Data = refl
    by true Attr = refl
    by true Open = refl

all-leave : (ino : Ino) (cls : Class) (hold : Hold) (flushes : List Flush) → map flushing_of (map (raised ino cls hold) flushes) ≡ map (leaving_at ino cls hold) (map flushing_of flushes)
all-leave ino cls hold [] = refl
all-leave ino cls hold (flush ∷ flushes) = λ i. leaves ino cls hold flush i ∷ all-leave ino cls hold flushes i

content-holds : (inode : CachedInode) (content : Content) → (with_content inode content).holds ≡ inode.holds
content-holds inode Empty = refl
content-holds inode (Entries entries) = refl
content-holds inode (Bytes bytes) = refl
content-holds inode (Size size) = refl

content-marks : (inode : CachedInode) (content : Content) → KeepsMarks inode content → (with_content inode content).file.marks ≡ inode.file.marks
content-marks inode Empty e = refl
content-marks inode (Entries entries) e = refl
content-marks inode (Bytes bytes) e = sym e
content-marks inode (Size size) e = refl

pub take_item : (known : Known) (remembered : List Revoke) (item : GrantItem) → item.ino.0 < length known.inodes → KeepsMarks (inode_at known item.ino) item.content
    → book_of (after_take known item) remembered ≡ with_token (book_of known remembered) item.ino item.«class» item.hold
take_item known remembered item lt kept =
    let inode = granted (inode_at known item.ino) item.«class» item.hold item.content in
    let one = one-hold known remembered item.ino item.«class» item.hold inode lt
    (λ k. with-in (with_content (inode_at known item.ino) item.content).holds item.«class» k item.hold ∙ ap (λ holds. if same_class k item.«class» then item.hold else hold_in holds k) (content-holds (inode_at known item.ino) item.content))
    (content-marks (inode_at known item.ino) item.content kept) in
    λ i. record (one i) { flushing = all-leave item.ino item.«class» (lesser_of item.hold Read) known.flushes i }
