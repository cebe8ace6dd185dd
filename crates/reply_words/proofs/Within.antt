-- What is read of a reply can answer its call.
use Rattle.std.proofs.Common.{◌≡◌, ◌≤◌, ℕ, suc, zero, true, List, [], ◌∷◌, All, refl, subst, arith, Result, Ok, codes, bytes_eq}
use Rattle.std.specs.List.{list_all}
use Rattle.std.proofs.lemmas.Bool.{and_parts}
use Rattle.tree_law.specs.Path.{IsName}
use Rattle.tree_law.specs.NameTest.{is_name}
use Rattle.tree_law.proofs.NameTests.{passes_name}
use Rattle.tree_law.specs.declared.reply.Reply.{Reply}
use Rattle.tree_law.specs.declared.reply.Reply.TheVariants.{Done, Fd, Bytes, Count, File, Dir, Names, Refused}
use Rattle.tree_law.specs.declared.reply.Why.{Why}
use Rattle.tree_law.specs.declared.reply.Why.TheVariants.{Exist, NoEnt, NotDir, IsDir, NotEmpty, Inval, Busy, MFile, BadF, FBig, NoSpace, NoInode, DirFull}
use Rattle.line_words.specs.Outcome.{outside, then_read}
use Rattle.line_words.specs.Words.{words, first_as, last_as}
use Rattle.line_words.specs.declared.read_error.OutOfForm.{OutOfForm}
use Rattle.line_words.proofs.Ranges.{no_value, is_value, first_read, passed, choice, first_within, last_within, number_to_within, hex_within}
use Rattle.reply_words.specs.Limits.{IsWhy, IsReplyTelling, AreBytes}
use Rattle.reply_words.specs.Telling.{alone, behind_count, blocks_of, byte_of, bytes_of, names_of, no_space, number32_of, other_why, outcome_of, path_why, refusal_of, stat_of, why_of, words_said, reply_said}
use Rattle.reply_words.specs.declared.tells.Tells.{Tells}
use Rattle.reply_words.specs.declared.tells.Tells.TheVariants.{Nothing, Descriptor, Contents, Length, Kind, Listing}

-- refusals

abbrev IsGood : Result Why OutOfForm → Type 0
IsGood r = (why : Why) → r ≡ Ok why → IsWhy why

good : (one : Why) → IsWhy one → IsGood (Ok one)
good one h why e = is_value IsWhy one why (Ok one) refl h e

bad : IsGood outside
bad why e = absurd (no_value (record {}) why outside refl e)

path_good : (word : List ℕ) → IsGood (path_why word)
path_good word =
    choice IsGood (bytes_eq word (codes "EEXIST")) _ _ (good Exist tt)
    (choice IsGood (bytes_eq word (codes "ENOENT")) _ _ (good NoEnt tt)
    (choice IsGood (bytes_eq word (codes "ENOTDIR")) _ _ (good NotDir tt)
    (choice IsGood (bytes_eq word (codes "EISDIR")) _ _ (good IsDir tt)
    (choice IsGood (bytes_eq word (codes "ENOTEMPTY")) _ _ (good NotEmpty tt)
    (choice IsGood (bytes_eq word (codes "EINVAL")) _ _ (good Inval tt) bad)))))

other_good : (word : List ℕ) → IsGood (other_why word)
other_good word =
    choice IsGood (bytes_eq word (codes "EBUSY")) _ _ (good Busy tt)
    (choice IsGood (bytes_eq word (codes "EMFILE")) _ _ (good MFile tt)
    (choice IsGood (bytes_eq word (codes "EBADF")) _ _ (good BadF tt)
    (choice IsGood (bytes_eq word (codes "EFBIG")) _ _ (good FBig tt)
    (choice IsGood (bytes_eq word (codes "NOINODE")) _ _ (good NoInode tt)
    (choice IsGood (bytes_eq word (codes "DIRFULL")) _ _ (good DirFull tt) (path_good word))))))

abbrev AreBlocks : ℕ → Type 0
AreBlocks count = count ≤ 65535

space_good : (words : List (List ℕ)) → IsGood (no_space words)
space_good words why e =
    let free = first_read (first_as blocks_of words) _ why e in
    let needed = first_read (last_as blocks_of free.first.1) _ why free.rest in
    is_value IsWhy (NoSpace free.first.0 needed.first) why _ refl
    (first_within AreBlocks blocks_of (number_to_within 65535) words free.first free.is, last_within AreBlocks blocks_of (number_to_within 65535) free.first.1 needed.first needed.is)
    needed.rest

alone_good : (r : Result Why OutOfForm) (words : List (List ℕ)) → IsGood r → IsGood (alone r words)
alone_good r [] h = h
alone_good r (word ∷ more) h = bad

why_good : (word : List ℕ) (behind : List (List ℕ)) → IsGood (why_of word behind)
why_good word behind = choice IsGood (bytes_eq word (codes "NOSPACE")) _ _ (space_good behind) (alone_good (other_why word) behind (other_good word))

-- replies

abbrev Fits : Tells → Result Reply OutOfForm → Type 0
Fits told r = (reply : Reply) → r ≡ Ok reply → IsReplyTelling told reply

fits : (told : Tells) (one : Reply) → IsReplyTelling told one → Fits told (Ok one)
fits told one h reply e = is_value (IsReplyTelling told) one reply (Ok one) refl h e

misfits : (told : Tells) → Fits told outside
misfits told reply e = absurd (no_value (record {}) reply outside refl e)

then_fits : {T : Type 0} (told : Tells) (r : Result T OutOfForm) (next : T → Result Reply OutOfForm) → ((value : T) → r ≡ Ok value → Fits told (next value)) → Fits told (then_read r next)
then_fits told r next h reply e = let one = first_read r next reply e in h one.first one.is reply one.rest

alone_fits : (told : Tells) (r : Result Reply OutOfForm) (words : List (List ℕ)) → Fits told r → Fits told (alone r words)
alone_fits told r [] h = h
alone_fits told r (word ∷ more) h = misfits told

bytes_within : (words : List (List ℕ)) (bytes : List ℕ) → bytes_of words ≡ Ok bytes → AreBytes bytes
bytes_within [] bytes e = is_value AreBytes [] bytes (Ok []) refl (λ k d l. absurd (omega arith)) e
bytes_within (word ∷ []) bytes e = hex_within word bytes e
bytes_within (word ∷ next ∷ more) bytes e = absurd (no_value (record {}) bytes outside refl e)

are_names : (names : List (List ℕ)) → list_all is_name names ≡ true → All IsName names
are_names [] h k d l = absurd (omega arith)
are_names (name ∷ names) h zero d l = passes_name name (and_parts (is_name name) (list_all is_name names) h).0
are_names (name ∷ names) h (suc k) d l = are_names names (and_parts (is_name name) (list_all is_name names) h).1 k d (omega arith)

names_within : (words names : List (List ℕ)) → names_of words ≡ Ok names → All IsName names
names_within words names e =
    let through = passed (list_all is_name words) words names e in
    subst (λ (l : List (List ℕ)). All IsName l) through.1 (are_names words through.0)

abbrev IsNumber32 : ℕ → Type 0
IsNumber32 number = number ≤ 4294967295

stat_fits : (words : List (List ℕ)) → Fits Kind (stat_of words)
stat_fits [] = misfits Kind
stat_fits (word ∷ behind) =
    choice (Fits Kind) (bytes_eq word (codes "file")) _ _
    (then_fits Kind (last_as number32_of behind) _ (λ size e. fits Kind (File size) (last_within IsNumber32 number32_of (number_to_within 4294967295) behind size e)))
    (choice (Fits Kind) (bytes_eq word (codes "dir")) _ _ (alone_fits Kind (Ok Dir) behind (fits Kind Dir tt)) (misfits Kind))

outcome_fits : (told : Tells) (words : List (List ℕ)) → Fits told (outcome_of told words)
outcome_fits Nothing words = alone_fits Nothing (Ok Done) words (fits Nothing Done tt)
outcome_fits Descriptor words = then_fits Descriptor (last_as byte_of words) _ (λ fd e. fits Descriptor (Fd fd) (last_within (λ n. n ≤ 255) byte_of (number_to_within 255) words fd e))
outcome_fits Contents words = then_fits Contents (behind_count words) _ (λ behind f. then_fits Contents (bytes_of behind) _ (λ bytes e. fits Contents (Bytes bytes) (bytes_within behind bytes e)))
outcome_fits Length words = then_fits Length (last_as number32_of words) _ (λ count e. fits Length (Count count) (last_within IsNumber32 number32_of (number_to_within 4294967295) words count e))
outcome_fits Kind words = stat_fits words
outcome_fits Listing words = then_fits Listing (behind_count words) _ (λ behind f. then_fits Listing (names_of behind) _ (λ names e. fits Listing (Names names) (names_within behind names e)))

refusal_fits : (told : Tells) (word : List ℕ) (behind : List (List ℕ)) → Fits told (refusal_of word behind)
refusal_fits told word behind = then_fits told (why_of word behind) _ (λ why e. fits told (Refused why) (why_good word behind why e))

words_fit : (told : Tells) (words : List (List ℕ)) → Fits told (words_said told words)
words_fit told [] = misfits told
words_fit told (word ∷ behind) = choice (Fits told) (bytes_eq word (codes "ok")) _ _ (outcome_fits told behind) (refusal_fits told word behind)

pub said_within : (told : Tells) (text : List ℕ) (reply : Reply) → reply_said told text ≡ Ok reply → IsReplyTelling told reply
unfolding reply_said
said_within told text reply e = words_fit told (words text) reply e
