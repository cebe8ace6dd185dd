-- What a client has in memory goes on with a Revoke, a Flushed, a Grant and a write-back as its book does.
use Rattle.std.proofs.Common.{◌≡◌, ◌&&◌, not, ◌∷◌, [], ◌<◌, ℕ, Bool, true, false, if◌then◌else◌, List, Option, Some, None, ap, refl, sym, subst, ◌∙◌, rules, arith, nat_eq, nat_lt, map, filter, find, length, slice_set, option_map}
use Rattle.std.proofs.lemmas.Bool.{eqb-true, lt-ltb, ltb-true}
use Rattle.std.proofs.lemmas.List.{length-set}
use Rattle.cal_base.specs.declared.identity.Ino.{Ino}
use Rattle.client_cache.specs.Changes.{after_flushed, after_lower, after_start, after_take, flush_numbered, flushed_inode, is_expected, left_with, lowered, new_flush, without_flush as without_known}
use Rattle.client_cache.specs.Holds.{hold_in}
use Rattle.client_cache.specs.Known.{Known, inode_at, is_settled}
use Rattle.client_cache.specs.declared.cached_inode.CachedInode.{CachedInode}
use Rattle.delayed_write.specs.Marks.{no_marks}
use Rattle.token_kind.specs.Class.{class_number}
use Rattle.token_kind.specs.Hold.{hold_number, is_held as is_held_hold, lesser_of}
use Rattle.token_kind.specs.Kept.{classes_rise}
use Rattle.token_kind.specs.declared.«class».Class.{Class}
use Rattle.token_kind.specs.declared.«class».Class.TheVariants.{Names, Data, Attr, Open}
use Rattle.token_kind.specs.declared.content.Content.{Content}
use Rattle.token_kind.specs.declared.content.Content.TheVariants.{Nothing as Empty, Names as Entries, Bytes, Size}
use Rattle.token_kind.specs.declared.flush.Flush.{Flush}
use Rattle.token_kind.specs.declared.grant_item.GrantItem.{GrantItem}
use Rattle.token_kind.specs.declared.hold.Hold.{Hold}
use Rattle.token_kind.specs.declared.hold.Hold.TheVariants.{None as Nothing, Read, Write}
use Rattle.token_kind.specs.declared.revoke.Revoke.{Revoke}
use Rattle.cluster_law.specs.Book.{Book, Lowering, Ignores, Remembers, Flushes, Lowers, after_flush as after_flush_booked, flushed, flush_numbered as flush_booked, is_bare, is_flushing, lowered_by, lowering, revoked, revoked_all, with_flush, with_holds, with_item, with_items, with_token}
use Rattle.cluster_law.specs.ClientState.{written_back}
use Rattle.cluster_law.specs.Lists.{Each, is_empty}
use Rattle.cluster_law.specs.Sight.{Sight}
use Rattle.cluster_law.specs.Tokens.{same_class}
use Rattle.client_book.specs.Booked.{book_of, flushing_of, sight_of}
use Rattle.client_book.specs.Memory.{FitItems, FitsFlushed, IsReady, Memory, above_in, after_flush_in, book_in, flushed_in, is_behind, item_in, items_in, lower_all, lowered_in, lowering_in, revoked_all_in, revoked_in, written_back_in}
use Rattle.client_book.proofs.Answering.{done}
use Rattle.client_book.proofs.Covering.{settled}
use Rattle.client_book.proofs.Stating.{left-in, left-marks, lower, put-at, start, take_item, without-marks}

-- items that are held strictly above what they ask
abbrev pub AreAbove : Known → Ino → List (Class × Hold) → Type 0
AreAbove known ino items = Each (λ item. hold_number item.1 < hold_number (hold_in (inode_at known ino).holds item.0)) items

-- a class that comes later in rising order is another
later-class : (a b : Class) → nat_lt (class_number a) (class_number b) ≡ true → same_class b a ≡ false
later-class Names Names e = cc
later-class Names Data e = refl
later-class Names Attr e = refl
later-class Names Open e = refl
later-class Data Names e = cc
later-class Data Data e = cc
later-class Data Attr e = refl
later-class Data Open e = refl
later-class Attr Names e = cc
later-class Attr Data e = cc
later-class Attr Attr e = cc
later-class Attr Open e = refl
later-class Open Names e = cc
later-class Open Data e = cc
later-class Open Attr e = cc
later-class Open Open e = cc

both : (a b : Bool) → a ≡ true → b ≡ true → a && b ≡ true
both true b e f = f
both false b e f = cc

parts : (a b : Bool) → a && b ≡ true → (a ≡ true) × (b ≡ true)
parts true b e = (refl, e)
parts false b e = cc

-- what a lowering leaves at its inode
lowered-at : (known : Known) (ino : Ino) (cls : Class) (to : Hold) → ino.0 < length known.inodes → inode_at (after_lower known ino cls to) ino ≡ lowered cls to (inode_at known ino)
lowered-at known ino cls to lt = put-at known ino ino (lowered cls to (inode_at known ino)) lt ∙ ap (λ b. if b then lowered cls to (inode_at known ino) else inode_at known ino) (same ino.0)
  where
    same : (n : ℕ) → nat_eq n n ≡ true
    same n = search rules

-- what rises from a number on rises from any below it
rise-below : (a b : ℕ) (items : List (Class × Hold)) → nat_lt a b ≡ true → classes_rise b items ≡ true → classes_rise a items ≡ true
rise-below a b [] less rise = refl
rise-below a b (item ∷ items) less rise =
    let rises = parts (nat_lt b (class_number item.0)) (classes_rise (class_number item.0) items) rise in
    both (nat_lt a (class_number item.0)) (classes_rise (class_number item.0) items) (lt-ltb a (class_number item.0) (through a b (class_number item.0) (ltb-true a b less) (ltb-true b (class_number item.0) rises.0))) rises.1
  where
    through : (a b c : ℕ) → a < b → b < c → a < c
    through a b c h k = omega arith

pub rise-filter : (test : Class × Hold → Bool) (from : ℕ) (items : List (Class × Hold)) → classes_rise from items ≡ true → classes_rise from (filter test items) ≡ true
rise-filter test from [] rise = refl
rise-filter test from (item ∷ items) rise =
    let rises = parts (nat_lt from (class_number item.0)) (classes_rise (class_number item.0) items) rise in
    by (test item) rises.0 (rise-filter test (class_number item.0) items rises.1)
  where
    by : (b : Bool) → nat_lt from (class_number item.0) ≡ true → classes_rise (class_number item.0) (filter test items) ≡ true → classes_rise from (if b then item ∷ filter test items else filter test items) ≡ true
    by true less rest = both (nat_lt from (class_number item.0)) (classes_rise (class_number item.0) (filter test items)) less rest
    by false less rest = rise-below from (class_number item.0) (filter test items) less rest

-- a class above stays as it was when a lower one is lowered
above-stays : (known : Known) (ino : Ino) (cls : Class) (to : Hold) (items : List (Class × Hold)) → ino.0 < length known.inodes → classes_rise (class_number cls) items ≡ true → AreAbove known ino items → AreAbove (after_lower known ino cls to) ino items
above-stays known ino cls to [] lt rise each = record {}
above-stays known ino cls to (item ∷ items) lt rise each =
    let rises = parts (nat_lt (class_number cls) (class_number item.0)) (classes_rise (class_number item.0) items) rise in
    let other = later-class cls item.0 rises.0 in
    let stays : hold_in (inode_at (after_lower known ino cls to) ino).holds item.0 ≡ hold_in (inode_at known ino).holds item.0 =
    ap (λ inode. hold_in inode.holds item.0) (lowered-at known ino cls to lt)
    ∙ left-in cls item.0 (lesser_of (hold_in (inode_at known ino).holds cls) to) (inode_at known ino)
    ∙ ap (λ b. if b then lesser_of (hold_in (inode_at known ino).holds cls) to else hold_in (inode_at known ino).holds item.0) other in
    (subst (λ hold. hold_number item.1 < hold_number hold) (sym stays) each.0, above-stays known ino cls to items lt (rise-below (class_number cls) (class_number item.0) items rises.0 rises.1) each.1)

-- the classes that a Revoke is about are held above what it asks
above-each : (known : Known) (ino : Ino) (asked : List (Class × Hold)) → AreAbove known ino (above_in known ino asked)
above-each known ino [] = record {}
above-each known ino (item ∷ asked) = by (nat_lt (hold_number item.1) (hold_number (hold_in (inode_at known ino).holds item.0))) refl (above-each known ino asked)
  where
    by : (b : Bool) → nat_lt (hold_number item.1) (hold_number (hold_in (inode_at known ino).holds item.0)) ≡ b → AreAbove known ino (above_in known ino asked) → AreAbove known ino (if b then item ∷ above_in known ino asked else above_in known ino asked)
    by true e rest = (ltb-true _ _ e, rest)
    by false e rest = rest

-- holds that are strictly above are lowered
lowers : (known : Known) (remembered : List Revoke) (ino : Ino) (items : List (Class × Hold)) (from : ℕ) → ino.0 < length known.inodes → (inode_at known ino).file.marks ≡ no_marks → classes_rise from items ≡ true → AreAbove known ino items
    → book_of (lower_all known ino items) remembered ≡ record (book_of known remembered) { holds = with_holds (book_of known remembered).holds ino items }
unfolding lower_all with_holds
lowers known remembered ino [] from lt clear rise each = refl
lowers known remembered ino (item ∷ items) from lt clear rise each =
    let rises = parts (nat_lt from (class_number item.0)) (classes_rise (class_number item.0) items) rise in
    let next = after_lower known ino item.0 item.1 in
    let longer : ino.0 < length next.inodes = subst (λ n. ino.0 < n) (sym (length-set known.inodes ino.0 (lowered item.0 item.1 (inode_at known ino)))) lt in
    let clearer : (inode_at next ino).file.marks ≡ no_marks = ap (λ inode. inode.file.marks) (lowered-at known ino item.0 item.1 lt) ∙ left-marks item.0 (lesser_of (hold_in (inode_at known ino).holds item.0) item.1) (inode_at known ino) (without-marks item.0 (inode_at known ino) clear) ∙ clear in
    lowers next remembered ino items (class_number item.0) longer clearer rises.1 (above-stays known ino item.0 item.1 items lt rises.1 each.1)
    ∙ ap (λ (b : Book). record b { holds = with_holds b.holds ino items }) (lower known remembered ino item.0 item.1 lt clear each.0)

-- a Revoke is carried out in the same way
pub lowering-same : (m : Memory) (sight : Sight) (ino : Ino) (asked : List (Class × Hold)) → sight.unflushed ino ≡ (inode_at m.known ino).file.unflushed → lowering sight (book_in m) ino asked ≡ lowering_in m.known ino asked
lowering-same m sight ino asked e =
    ap (λ b. if is_empty (above_in m.known ino asked) then Ignores else if b then Remembers else if sight.unflushed ino then Flushes else Lowers) (settled m.known m.remembered ino)
    ∙ ap (λ b. if is_empty (above_in m.known ino asked) then Ignores else if not (is_settled m.known ino) then Remembers else if b then Flushes else Lowers) e

clean-where : (known : Known) (ino : Ino) (asked : List (Class × Hold)) → lowering_in known ino asked ≡ Lowers → (inode_at known ino).file.unflushed ≡ false
clean-where known ino asked e = by (is_empty (above_in known ino asked)) (is_settled known ino) (inode_at known ino).file.unflushed e
  where
    by : (a b c : Bool) → (if a then Ignores else if not b then Remembers else if c then Flushes else Lowers) ≡ Lowers → c ≡ false
    by true b c e = cc
    by false false c e = cc
    by false true true e = cc
    by false true false e = refl

pub revokes : (m : Memory) (sight : Sight) (ino : Ino) (asked : List (Class × Hold)) → ino.0 < length m.known.inodes → classes_rise 0 asked ≡ true → sight.unflushed ino ≡ (inode_at m.known ino).file.unflushed → ((inode_at m.known ino).file.unflushed ≡ false → (inode_at m.known ino).file.marks ≡ no_marks)
    → book_in (revoked_in m ino asked) ≡ revoked sight (book_in m) ino asked
revokes m sight ino asked lt rise same clear =
    by (lowering_in m.known ino asked) refl
  where
    body : (l : Lowering) → lowering_in m.known ino asked ≡ l → book_in (lowered_in l m ino (above_in m.known ino asked)) ≡ lowered_by l (book_in m) ino (above_in m.known ino asked)
    body Ignores e = refl
    body Remembers e = refl
    body Flushes e = start m.known m.remembered (new_flush m.known ino _ _) lt refl
    body Lowers e = lowers m.known m.remembered ino (above_in m.known ino asked) 0 lt (clear (clean-where m.known ino asked e)) (rise-filter _ 0 asked rise) (above-each m.known ino asked)

    by : (l : Lowering) → lowering_in m.known ino asked ≡ l → book_in (revoked_in m ino asked) ≡ revoked sight (book_in m) ino asked
    by l e =
        ap (λ l. book_in (lowered_in l m ino (above_in m.known ino asked))) e
        ∙ body l e
        ∙ sym (ap (λ l. lowered_by l (book_in m) ino (above_in m.known ino asked)) (lowering-same m sight ino asked same ∙ e))

pub left-flushed : (cls : Class) (hold : Hold) (inode : CachedInode) → inode.file.unflushed ≡ false → (left_with cls hold inode).file.unflushed ≡ false
left-flushed Names Nothing inode e = e
left-flushed Data Nothing inode e = refl
left-flushed Attr Nothing inode e = e
left-flushed Open Nothing inode e = e
left-flushed cls Read inode e = e
left-flushed cls Write inode e = e

-- it stays so where another inode is put that is so too
ready-put : (known : Known) (at i : Ino) (inode : CachedInode) (flushes : List Flush) (last : ℕ) → at.0 < length known.inodes → inode.file.unflushed ≡ false → inode.file.marks ≡ no_marks → IsReady known i
    → IsReady (record { inodes = slice_set known.inodes at.0 inode; table = known.table; flushes = flushes; last_flush = last }) i
ready-put known at i inode flushes last lt clean clear ready = record {
  within = subst (λ n. i.0 < n) (sym (length-set known.inodes at.0 inode)) ready.within;
  flushed_is = ap (λ x. x.file.unflushed) (put-at known at i inode lt) ∙ by (nat_eq i.0 at.0);
  clear = ap (λ x. x.file.marks) (put-at known at i inode lt) ∙ marked (nat_eq i.0 at.0);
}
  where
    by : (b : Bool) → (if b then inode else inode_at known i).file.unflushed ≡ false
    by true = clean
    by false = ready.flushed_is

    marked : (b : Bool) → (if b then inode else inode_at known i).file.marks ≡ no_marks
    marked true = clear
    marked false = ready.clear

ready-lowered : (known : Known) (at i : Ino) (cls : Class) (to : Hold) → IsReady known at → IsReady known i → IsReady (after_lower known at cls to) i
ready-lowered known at i cls to here ready =
    ready-put known at i (lowered cls to (inode_at known at)) known.flushes known.last_flush here.within
    (left-flushed cls _ (inode_at known at) here.flushed_is)
    (left-marks cls _ (inode_at known at) (without-marks cls (inode_at known at) here.clear) ∙ here.clear) ready

ready-all : (known : Known) (at i : Ino) (items : List (Class × Hold)) → IsReady known at → IsReady known i → IsReady (lower_all known at items) i
unfolding lower_all
ready-all known at i [] here ready = ready
ready-all known at i (item ∷ items) here ready = ready-all (after_lower known at item.0 item.1) at i items (ready-lowered known at at item.0 item.1 here here) (ready-lowered known at i item.0 item.1 here ready)

ready-revoked : (m : Memory) (at i : Ino) (asked : List (Class × Hold)) → IsReady m.known at → IsReady m.known i → IsReady (revoked_in m at asked).known i
ready-revoked m at i asked here ready = by (lowering_in m.known at asked)
  where
    by : (l : Lowering) → IsReady (lowered_in l m at (above_in m.known at asked)).known i
    by Ignores = ready
    by Remembers = ready
    by Flushes = ready-put m.known at i _ _ _ here.within refl refl ready
    by Lowers = ready-all m.known at i (above_in m.known at asked) here ready

-- Revokes that may be carried out one after the other
abbrev pub AreReady : Known → Sight → List Revoke → Type 0
AreReady known sight list = Each (λ revoke. IsReady known revoke.ino × (sight.unflushed revoke.ino ≡ false) × (classes_rise 0 revoke.items ≡ true)) list

pub all-ready : (m : Memory) (sight : Sight) (at : Ino) (asked : List (Class × Hold)) (list : List Revoke) → IsReady m.known at → AreReady m.known sight list → AreReady (revoked_in m at asked).known sight list
all-ready m sight at asked [] here each = record {}
all-ready m sight at asked (revoke ∷ list) here each = ((ready-revoked m at revoke.ino asked here each.0.0, each.0.1, each.0.2), all-ready m sight at asked list here each.1)

revokes-all : (m : Memory) (sight : Sight) (list : List Revoke) → AreReady m.known sight list → book_in (revoked_all_in m list) ≡ revoked_all sight (book_in m) list
unfolding revoked_all_in revoked_all
revokes-all m sight [] each = refl
revokes-all m sight (revoke ∷ list) each =
    let ready = each.0.0 in
    revokes-all (revoked_in m revoke.ino revoke.items) sight list (all-ready m sight revoke.ino revoke.items list ready each.1)
    ∙ ap (λ b. revoked_all sight b list) (revokes m sight revoke.ino revoke.items ready.within each.0.2 (each.0.1 ∙ sym ready.flushed_is) (λ e. ready.clear))

-- a Flushed of a flush that is under way
pub found-same : (number : ℕ) (flushes : List Flush) → find (λ flush. nat_eq flush.number number) (map flushing_of flushes) ≡ option_map flushing_of (find (λ flush. nat_eq flush.number number) flushes)
found-same number [] = refl
found-same number (f ∷ fs) = by (nat_eq f.number number) (found-same number fs)
  where
    by : (b : Bool) → find (λ flush. nat_eq flush.number number) (map flushing_of fs) ≡ option_map flushing_of (find (λ flush. nat_eq flush.number number) fs)
        → (if b then Some (flushing_of f) else find (λ flush. nat_eq flush.number number) (map flushing_of fs)) ≡ option_map flushing_of (if b then Some f else find (λ flush. nat_eq flush.number number) fs)
    by true rest = refl
    by false rest = rest

pub found-number : (number : ℕ) (flushes : List Flush) (flush : Flush) → find (λ flush. nat_eq flush.number number) flushes ≡ Some flush → flush.number ≡ number
found-number number [] flush e = cc
found-number number (f ∷ fs) flush e = by (nat_eq f.number number) refl e (found-number number fs flush)
  where
    by : (b : Bool) → nat_eq f.number number ≡ b → (if b then Some f else find (λ flush. nat_eq flush.number number) fs) ≡ Some flush → (find (λ flush. nat_eq flush.number number) fs ≡ Some flush → flush.number ≡ number) → flush.number ≡ number
    by true t e rest = subst (λ g. g.number ≡ number) (given e) (eqb-true f.number number t)
      where
        given : Some f ≡ Some flush → f ≡ flush
        given e = search rules
    by false t e rest = rest e

-- what is behind a flush
pub behind-ready : (known : Known) (sight : Sight) (ino : Ino) (list : List Revoke) → IsReady known ino → sight.unflushed ino ≡ false → Each (λ revoke. classes_rise 0 revoke.items ≡ true) list → AreReady known sight (filter (is_behind ino) list)
behind-ready known sight ino [] ready clean rise = record {}
behind-ready known sight ino (revoke ∷ list) ready clean rise = by (nat_eq revoke.ino.0 ino.0) refl (behind-ready known sight ino list ready clean rise.1)
  where
    by : (b : Bool) → nat_eq revoke.ino.0 ino.0 ≡ b → AreReady known sight (filter (is_behind ino) list) → AreReady known sight (if b then revoke ∷ filter (is_behind ino) list else filter (is_behind ino) list)
    by true e rest =
        let same : ino ≡ revoke.ino = λ i. record { 0 = sym (eqb-true revoke.ino.0 ino.0 e) i } in
        ((subst (λ i. IsReady known i) same ready, subst (λ i. sight.unflushed i ≡ false) same clean, rise.0), rest)
    by false e rest = rest

pub ready-flushed : (known : Known) (flush : Flush) → IsReady known flush.ino → flush_numbered known flush.number ≡ Some flush → IsReady (after_flushed known flush.number) flush.ino
ready-flushed known flush ready found =
    subst (λ o. IsReady (without_known known flush.number o) flush.ino) (sym found)
    (ready-put known flush.ino flush.ino (flushed_inode flush.leave_data flush.leave_attr (inode_at known flush.ino)) _ _ ready.within
    (left-flushed Attr flush.leave_attr (left_with Data flush.leave_data (inode_at known flush.ino)) (left-flushed Data flush.leave_data (inode_at known flush.ino) ready.flushed_is))
    (left-marks Attr flush.leave_attr (left_with Data flush.leave_data (inode_at known flush.ino)) (record {}) ∙ left-marks Data flush.leave_data (inode_at known flush.ino) ready.clear ∙ ready.clear) ready)

pub flushes-end : (m : Memory) (number : ℕ) → FitsFlushed m.known (flush_numbered m.known number) → Each (λ revoke. classes_rise 0 revoke.items ≡ true) m.remembered → book_in (flushed_in m number) ≡ flushed (sight_of m.known) (book_in m) number
flushes-end m number fits rise = by (flush_numbered m.known number) refl fits
  where
    shown : flush_booked (book_in m) number ≡ option_map flushing_of (flush_numbered m.known number)
    shown = found-same number m.known.flushes

    by : (o : Option Flush) → flush_numbered m.known number ≡ o → FitsFlushed m.known o → book_in (flushed_in m number) ≡ flushed (sight_of m.known) (book_in m) number
    by None e fits =
        ap (λ o. book_in (after_flush_in m number o)) e ∙ sym (ap (λ o. after_flush_booked (sight_of m.known) (book_in m) o) (shown ∙ ap (option_map flushing_of) e))
    by (Some flush) e ready =
        let same = found-number number m.known.flushes flush e in
        let found : flush_numbered m.known flush.number ≡ Some flush = subst (λ n. flush_numbered m.known n ≡ Some flush) (sym same) e in
        let left : Memory = record { known = after_flushed m.known flush.number; remembered = filter (λ revoke. not (is_behind flush.ino revoke)) m.remembered } in
        ap (λ o. book_in (after_flush_in m number o)) e
        ∙ ap (λ n. book_in (after_flush_in m n (Some flush))) (sym same)
        ∙ revokes-all left (sight_of m.known) (filter (is_behind flush.ino) m.remembered) (behind-ready left.known (sight_of m.known) flush.ino m.remembered (ready-flushed m.known flush ready found) ready.flushed_is rise)
        ∙ ap (λ b. revoked_all (sight_of m.known) b (filter (is_behind flush.ino) m.remembered)) (done m.known m.remembered flush found ready.within ready.clear)
        ∙ sym (ap (λ o. after_flush_booked (sight_of m.known) (book_in m) o) (shown ∙ ap (option_map flushing_of) e))

-- the items of a Grant
pub held-same : (hold : Hold) → nat_lt 0 (hold_number hold) ≡ is_held_hold hold
held-same Nothing = refl
held-same Read = refl
held-same Write = refl

expected-same : (inode : CachedInode) (cls : Class) (content : Content) → (is_bare content && not (same_class cls Open) && not (nat_lt 0 (hold_number (hold_in inode.holds cls)))) ≡ not (is_expected inode cls content)
expected-same inode Names Empty = ap not (held-same inode.holds.names)
expected-same inode Data Empty = ap not (held-same inode.holds.contents)
expected-same inode Attr Empty = ap not (held-same inode.holds.attr)
expected-same inode Open Empty = refl
expected-same inode Names (Entries entries) = refl
expected-same inode Data (Entries entries) = refl
expected-same inode Attr (Entries entries) = refl
expected-same inode Open (Entries entries) = refl
expected-same inode Names (Bytes bytes) = refl
expected-same inode Data (Bytes bytes) = refl
expected-same inode Attr (Bytes bytes) = refl
expected-same inode Open (Bytes bytes) = refl
expected-same inode Names (Size size) = refl
expected-same inode Data (Size size) = refl
expected-same inode Attr (Size size) = refl
expected-same inode Open (Size size) = refl

pub items-taken : (known : Known) (remembered : List Revoke) (items : List GrantItem) → FitItems known items → book_of (items_in known items) remembered ≡ with_items (book_of known remembered) items
unfolding items_in with_items FitItems
items-taken known remembered [] fit = refl
items-taken known remembered (item ∷ items) fit =
    items-taken (item_in known item) remembered items fit.1
    ∙ ap (λ b. with_items b items) (by (is_expected (inode_at known item.ino) item.«class» item.content) refl)
  where
    by : (b : Bool) → is_expected (inode_at known item.ino) item.«class» item.content ≡ b → book_of (item_in known item) remembered ≡ with_item (book_of known remembered) item
    by true e =
        ap (λ b. book_of (if b then after_take known item else known) remembered) e
        ∙ take_item known remembered item fit.0.0 fit.0.1
        ∙ sym (ap (λ b. if b then book_of known remembered else with_token (book_of known remembered) item.ino item.«class» item.hold) (expected-same (inode_at known item.ino) item.«class» item.content ∙ ap not e))
    by false e =
        ap (λ b. book_of (if b then after_take known item else known) remembered) e
        ∙ sym (ap (λ b. if b then book_of known remembered else with_token (book_of known remembered) item.ino item.«class» item.hold) (expected-same (inode_at known item.ino) item.«class» item.content ∙ ap not e))

-- a file is written back
pub writes-back : (m : Memory) (file : Option Ino) → ((ino : Ino) → file ≡ Some ino → ino.0 < length m.known.inodes) → book_in (written_back_in m file) ≡ written_back (sight_of m.known) (book_in m) file
writes-back m None lt = refl
writes-back m (Some ino) lt = by (inode_at m.known ino).file.unflushed refl (is_settled m.known ino) refl
  where
    started : Memory
    started = record { known = after_start m.known (new_flush m.known ino Read Read); remembered = m.remembered }

    chosen : (a b c : Bool) → c ≡ not b → book_in (if a then (if b then started else m) else m) ≡ (if a && not c then with_flush (book_in m) ino Read Read else book_in m)
    chosen true true false e = start m.known m.remembered (new_flush m.known ino Read Read) (lt ino refl) refl
    chosen true false true e = refl
    chosen false b c e = refl
    chosen true true true e = cc
    chosen true false false e = cc

    by : (a : Bool) → (inode_at m.known ino).file.unflushed ≡ a → (b : Bool) → is_settled m.known ino ≡ b → book_in (written_back_in m (Some ino)) ≡ written_back (sight_of m.known) (book_in m) (Some ino)
    by a ea b eb = chosen (inode_at m.known ino).file.unflushed (is_settled m.known ino) (is_flushing (book_in m) ino) (settled m.known m.remembered ino)
