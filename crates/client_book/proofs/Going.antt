-- What is known goes on with a call as the law says of its book.
use Rattle.std.proofs.Common.{◌≡◌, ◌&&◌, ◌||◌, not, ◌∷◌, [], ◌++◌, ◌+◌, ℕ, Bool, true, false, if◌then◌else◌, List, Option, Some, None, Result, Ok, Err, ap, refl, sym, subst, ◌∙◌, nat_le, map, length}
use Rattle.std.specs.List.{list_any}
use Rattle.cal_base.specs.declared.directory_entry.EntryKind.{EntryKind}
use Rattle.cal_base.specs.declared.directory_entry.EntryKind.TheVariants.{File as IsFile, Directory as IsDirectory}
use Rattle.cal_base.specs.declared.identity.Ino.{Ino}
use Rattle.client_cache.specs.Covered.{covered, is_synced as is_synced_known, stays_open, target_of, truncate_room, write_room}
use Rattle.client_cache.specs.Holds.{is_held}
use Rattle.client_cache.specs.Known.{Known, inode_at, is_settled, known_if, part_of}
use Rattle.client_cache.specs.Next.{file_if_any as file_known, last_close, next_of as next_known, next_on, next_uncovered}
use Rattle.client_cache.specs.declared.next_step.Next.TheVariants.{Answer, Waits, Flushes, Asks}
use Rattle.token_kind.specs.Hold.{hold_number}
use Rattle.token_kind.specs.declared.hold.Hold.{Hold}
use Rattle.token_kind.specs.declared.hold.Hold.TheVariants.{None as Nothing, Read as Holds_read, Write as Holds_write}
use Rattle.std.specs.Option.{option_map}
use Rattle.tree_law.specs.Descriptors.{opened, readable, within_limit, writable}
use Rattle.tree_law.specs.Needs.{Need, want_open, want_read, want_write}
use Rattle.tree_law.specs.Tree.{least_unused}
use Rattle.tree_law.specs.Part.{Part, Place, end_needs_in, found_in, look_needs_in, looked_up_in, needs_of_want_in, open_needs_in, resolved_in, root_place, stat_needs_in, walk_needs_in, walked_in}
use Rattle.tree_law.specs.declared.call.Call.{Call}
use Rattle.tree_law.specs.declared.call.Call.TheVariants.{Create, Mkdir, Unlink, Rmdir, Rename, Open, Close, Read, Write, Truncate, Stat, Readdir, Fsync}
use Rattle.tree_law.specs.declared.reply.Why.{Why}
use Rattle.token_kind.specs.declared.revoke.Revoke.{Revoke}
use Rattle.cluster_law.specs.Book.{Book, has_room, is_flushing}
use Rattle.cluster_law.specs.Coverage.{awaits_flush, awaits_one, closing, has_names, is_of_names, is_enough, making_room, next_of, syncing, uncovered}
use Rattle.cluster_law.specs.Sight.{file_if_any, if_last}
use Rattle.cluster_law.specs.Tokens.{class_numbered, token_of}
use Rattle.client_book.specs.Booked.{book_of, sight_of}
use Rattle.client_book.proofs.Covering.{covers, settled}

-- what waits for a flush among some needs and others; and whether all names among them are held
any-append : (book : Book) (xs ys : List Need) → list_any (awaits_flush book) (map token_of (xs ++ ys)) ≡ list_any (awaits_flush book) (map token_of xs) || list_any (awaits_flush book) (map token_of ys)
any-append book [] ys = refl
any-append book (x ∷ xs) ys = by (awaits_flush book (token_of x)) (any-append book xs ys)
  where
    by : (b : Bool) → list_any (awaits_flush book) (map token_of (xs ++ ys)) ≡ list_any (awaits_flush book) (map token_of xs) || list_any (awaits_flush book) (map token_of ys)
        → b || list_any (awaits_flush book) (map token_of (xs ++ ys)) ≡ (b || list_any (awaits_flush book) (map token_of xs)) || list_any (awaits_flush book) (map token_of ys)
    by true rest = refl
    by false rest = rest

-- a name that is needed is held
abbrev pub is_named : Book → Need → Bool
is_named book need = not (is_of_names (class_numbered need.1)) || is_enough book (token_of need)

names-append : (book : Book) (xs ys : List Need) → has_names book (map token_of (xs ++ ys)) ≡ has_names book (map token_of xs) && has_names book (map token_of ys)
names-append book [] ys = refl
names-append book (x ∷ xs) ys = by (is_named book x) (names-append book xs ys)
  where
    by : (b : Bool) → has_names book (map token_of (xs ++ ys)) ≡ has_names book (map token_of xs) && has_names book (map token_of ys)
        → b && has_names book (map token_of (xs ++ ys)) ≡ (b && has_names book (map token_of xs)) && has_names book (map token_of ys)
    by true rest = rest
    by false rest = refl

-- the names on a way wait for no flush
any-looks : (book : Book) (ino : Ino) (kind : EntryKind) → list_any (awaits_flush book) (map token_of (look_needs_in ino kind)) ≡ false
any-looks book ino IsDirectory = refl
any-looks book ino IsFile = refl

any-opens : (book : Book) (ino : Ino) (kind : EntryKind) → list_any (awaits_flush book) (map token_of (open_needs_in ino kind)) ≡ false
any-opens book ino IsDirectory = refl
any-opens book ino IsFile = refl

neither : (a b : Bool) → a ≡ false → b ≡ false → a || b ≡ false
neither false b e f = f
neither true b e f = cc

any-walk : (book : Book) (part : Part) (at : Option (Result Place Why)) (names : List (List ℕ)) → list_any (awaits_flush book) (map token_of (walk_needs_in part at names)) ≡ false
any-walk book part at [] = refl
any-walk book part (Some (Ok place)) (name ∷ names) =
    any-append book (look_needs_in place.0 place.1) (walk_needs_in part (looked_up_in part place.0 place.1 name) names)
    ∙ neither _ _ (any-looks book place.0 place.1) (any-walk book part (looked_up_in part place.0 place.1 name) names)
any-walk book part (Some (Err why)) (name ∷ names) = refl
any-walk book part None (name ∷ names) = refl

any-end : (book : Book) (needs : Ino → EntryKind → List Need) → ((ino : Ino) (kind : EntryKind) → list_any (awaits_flush book) (map token_of (needs ino kind)) ≡ false) → (at : Option (Result Place Why)) → list_any (awaits_flush book) (map token_of (end_needs_in needs at)) ≡ false
any-end book needs none (Some (Ok place)) = none place.0 place.1
any-end book needs none (Some (Err why)) = refl
any-end book needs none None = refl

-- a way that was walked to its end went through directories whose names are held
walked-none : (part : Part) (names : List (List ℕ)) → walked_in part None names ≡ None
walked-none part [] = refl
walked-none part (name ∷ names) = walked-none part names

both-held : (a b : Bool) → a ≡ true → b ≡ true → a && b ≡ true
both-held true b e f = f
both-held false b e f = cc

module _ (known : Known) (remembered : List Revoke) where
  look-held : (ino : Ino) (kind : EntryKind) (name : List ℕ) (names : List (List ℕ)) (place : Place) → walked_in (part_of known) (looked_up_in (part_of known) ino kind name) names ≡ Some (Ok place)
      → has_names (book_of known remembered) (map token_of (look_needs_in ino kind)) ≡ true
  look-held ino IsFile name names place e = refl
  look-held ino IsDirectory name names place e = by (inode_at known ino).holds.names refl
    where
      absent : is_held (inode_at known ino).holds.names ≡ false → ⊥
      absent h =
          let gone : walked_in (part_of known) None names ≡ Some (Ok place) = subst (λ b. walked_in (part_of known) (option_map (λ entries. found_in entries name) (known_if b (inode_at known ino).entries)) names ≡ Some (Ok place)) h e in
          let none : None ≡ Some (Ok place) = sym (walked-none (part_of known) names) ∙ gone in
          cc

      by : (hold : Hold) → (inode_at known ino).holds.names ≡ hold → has_names (book_of known remembered) (map token_of (look_needs_in ino IsDirectory)) ≡ true
      by Nothing h = absurd (absent (ap is_held h))
      by Holds_read h = ap (λ hold. nat_le 1 (hold_number hold) && true) h
      by Holds_write h = ap (λ hold. nat_le 1 (hold_number hold) && true) h

  walk-held : (at : Option (Result Place Why)) (names : List (List ℕ)) (place : Place) → walked_in (part_of known) at names ≡ Some (Ok place) → has_names (book_of known remembered) (map token_of (walk_needs_in (part_of known) at names)) ≡ true
  walk-held at [] place e = refl
  walk-held (Some (Ok p)) (name ∷ names) place e =
      names-append (book_of known remembered) (look_needs_in p.0 p.1) (walk_needs_in (part_of known) (looked_up_in (part_of known) p.0 p.1 name) names)
      ∙ both-held _ _ (look-held p.0 p.1 name names place e) (walk-held (looked_up_in (part_of known) p.0 p.1 name) names place e)
  walk-held (Some (Err why)) (name ∷ names) place e = refl
  walk-held None (name ∷ names) place e = refl

  abbrev book : Book
  book = book_of known remembered

  abbrev part : Part
  part = part_of known

  -- a call on a file waits while a flush of it is under way; else it starts one where room is wanting and
  -- something is unflushed, or asks
  pick : (settled room unflushed waits : Bool) (ino : Ino) → waits ≡ not settled
      → (if settled then (if not room && unflushed then Flushes ino else Asks) else Waits) ≡ (if true && (waits || (waits || false)) then Waits else if room then Asks else if unflushed then Flushes ino else Asks)
  pick true true unflushed false ino e = refl
  pick true false true false ino e = refl
  pick true false false false ino e = refl
  pick false room unflushed true ino e = refl
  pick true room unflushed true ino e = cc
  pick false room unflushed false ino e = cc

  read-on : (file : Result Ino Why) → next_on known false (file_known file) ≡ (if awaits_one book (map token_of (needs_of_want_in part (want_read file))) then Waits else Asks)
  read-on (Ok ino) = pick (is_settled known ino) true (inode_at known ino).file.unflushed (is_flushing book ino) ino (settled known remembered ino)
  read-on (Err why) = refl

  write-on : (fd offset : ℕ) (bytes : List ℕ) (file : Result Ino Why) → next_on known (not (write_room known offset (length bytes) file)) (file_known file)
      ≡ (if awaits_one book (map token_of (needs_of_want_in part (want_write file))) then Waits else if has_room (sight_of known) book (Write fd offset bytes) (file_if_any file) then Asks else making_room (sight_of known) (file_if_any file))
  write-on fd offset bytes (Ok ino) = pick (is_settled known ino) (write_room known offset (length bytes) (Ok ino)) (inode_at known ino).file.unflushed (is_flushing book ino) ino (settled known remembered ino)
  write-on fd offset bytes (Err why) = refl

  cut-on : (fd size : ℕ) (file : Result Ino Why) → next_on known (not (truncate_room known size file)) (file_known file)
      ≡ (if awaits_one book (map token_of (needs_of_want_in part (want_write file))) then Waits else if has_room (sight_of known) book (Truncate fd size) (file_if_any file) then Asks else making_room (sight_of known) (file_if_any file))
  cut-on fd size (Ok ino) = pick (is_settled known ino) (truncate_room known size (Ok ino)) (inode_at known ino).file.unflushed (is_flushing book ino) ino (settled known remembered ino)
  cut-on fd size (Err why) = refl

  -- a call that nothing waits for asks
  asks-where : (named waits : Bool) → waits ≡ false → Asks ≡ (if named && waits then Waits else Asks)
  asks-where true false e = refl
  asks-where false false e = refl
  asks-where named true e = cc

  abbrev way : List (List ℕ) → List Need
  way path = walk_needs_in part root_place path

  way-none : (path : List (List ℕ)) (ends : List Need) → list_any (awaits_flush book) (map token_of ends) ≡ false → list_any (awaits_flush book) (map token_of (way path ++ ends)) ≡ false
  way-none path ends e = any-append book (way path) ends ∙ neither _ _ (any-walk book part root_place path) e

  settled-file : (settled named waits flushing : Bool) (unflushed : Bool) (ino : Ino) → named ≡ true → waits ≡ flushing → flushing ≡ not settled
      → (if settled then (if false && unflushed then Flushes ino else Asks) else Waits) ≡ (if named && waits then Waits else Asks)
  settled-file true true false false unflushed ino e f g = refl
  settled-file false true true true unflushed ino e f g = refl
  settled-file settled false waits flushing unflushed ino e f g = cc
  settled-file settled true true false unflushed ino e f g = cc
  settled-file settled true false true unflushed ino e f g = cc
  settled-file true true true true unflushed ino e f g = cc
  settled-file false true false false unflushed ino e f g = cc

  or-false : (b : Bool) → false || (b || false) ≡ b
  or-false true = refl
  or-false false = refl

  one-wait : (a b : Bool) → a ≡ false → a || (b || false) ≡ b
  one-wait false b e = or-false b
  one-wait true b e = cc

  stat-on : (path : List (List ℕ)) (at : Option (Result Place Why)) → walked_in part root_place path ≡ at → next_on known false (target_of at) ≡ (if awaits_one book (map token_of (way path ++ end_needs_in stat_needs_in at)) then Waits else Asks)
  stat-on path (Some (Ok (ino, IsFile))) e =
      settled-file (is_settled known ino) _ _ (is_flushing book ino) (inode_at known ino).file.unflushed ino
      (names-append book (way path) ((ino, 3, 1) ∷ []) ∙ both-held _ _ (walk-held root_place path (ino, IsFile) e) refl)
      (any-append book (way path) ((ino, 3, 1) ∷ []) ∙ one-wait _ (is_flushing book ino) (any-walk book part root_place path))
      (settled known remembered ino)
  stat-on path (Some (Ok (ino, IsDirectory))) e = asks-where _ _ (way-none path [] refl)
  stat-on path (Some (Err why)) e = asks-where _ _ (way-none path [] refl)
  stat-on path None e = asks-where _ _ (way-none path [] refl)

  open-on : (path : List (List ℕ)) (fd : Option ℕ) → Asks ≡ (if awaits_one book (map token_of (needs_of_want_in part (want_open fd path))) then Waits else Asks)
  open-on path None = refl
  open-on path (Some fd) = asks-where _ _ (way-none path (end_needs_in open_needs_in (resolved_in part path)) (any-end book open_needs_in (any-opens book) (resolved_in part path)))

  close-on : (file : Result Ino Why) → stays_open known file ≡ false → last_close file ≡ closing (if_last (sight_of known) (file_if_any file))
  close-on (Ok ino) e = sym (ap (λ b. closing (if b then None else Some ino)) e)
  close-on (Err why) e = cc

  sync-on : (file : Result Ino Why) → is_synced_known known file ≡ false → next_on known true (file_known file) ≡ syncing book (file_if_any file)
  sync-on (Ok ino) e = by (is_settled known ino) (inode_at known ino).file.unflushed (is_flushing book ino) e (settled known remembered ino)
    where
      by : (settled unflushed waits : Bool) → not unflushed && settled ≡ false → waits ≡ not settled → (if settled then (if true && unflushed then Flushes ino else Asks) else Waits) ≡ (if waits then Waits else Flushes ino)
      by true true false e f = refl
      by false unflushed true e f = refl
      by true false waits e f = cc
      by true true true e f = cc
      by false unflushed false e f = cc
  sync-on (Err why) e = cc

  without : (call : Call) → covered known call ≡ false → next_uncovered known call ≡ uncovered (sight_of known) book call
  without (Create path) e = refl
  without (Mkdir path) e = refl
  without (Unlink path) e = refl
  without (Rmdir path) e = refl
  without (Rename path goal) e = refl
  without (Open path mode) e = open-on path (least_unused known.table)
  without (Close fd) e = close-on (opened known.table fd) e
  without (Read fd offset len) e = read-on (readable known.table fd)
  without (Write fd offset bytes) e = write-on fd offset bytes (within_limit (offset + length bytes) (writable known.table fd))
  without (Truncate fd size) e = cut-on fd size (within_limit size (writable known.table fd))
  without (Stat path) e = stat-on path (resolved_in part path) refl
  without (Readdir path) e = asks-where _ _ (way-none path (end_needs_in look_needs_in (resolved_in part path)) (any-end book look_needs_in (any-looks book) (resolved_in part path)))
  without (Fsync fd) e = sync-on (opened known.table fd) e

  pub goes : (call : Call) → next_known known call ≡ next_of (sight_of known) book call
  unfolding next_of
  goes call = by (covered known call) refl
    where
      by : (b : Bool) → covered known call ≡ b → next_known known call ≡ next_of (sight_of known) book call
      by true e = ap (λ b. if b then Answer else next_uncovered known call) e ∙ sym (ap (λ b. if b then Answer else uncovered (sight_of known) book call) (sym (covers known remembered call) ∙ e))
      by false e = ap (λ b. if b then Answer else next_uncovered known call) e ∙ without call e ∙ sym (ap (λ b. if b then Answer else uncovered (sight_of known) book call) (sym (covers known remembered call) ∙ e))
