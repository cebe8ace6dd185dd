-- A reply that can answer a call is read back from its text.
use Rattle.std.proofs.Common.{◌≡◌, ◌*◌, ◌≤◌, ◌++◌, ℕ, suc, Bool, true, List, [], ◌∷◌, length, All, cond, refl, sym, ap, ◌∙◌, arith, Ok, decimal, codes}
use Rattle.std.specs.List.{list_all, join_with_byte}
use Rattle.std.proofs.lemmas.List.{length-append, append-nil, append_assoc}
use Rattle.tree_law.specs.Path.{IsName}
use Rattle.tree_law.specs.NameTest.{is_name}
use Rattle.tree_law.proofs.NameTests.{name_passes}
use Rattle.tree_law.specs.declared.reply.Reply.{Reply}
use Rattle.tree_law.specs.declared.reply.Reply.TheVariants.{Done, Fd, Bytes, Count, File, Dir, Names, Refused}
use Rattle.tree_law.specs.declared.reply.Why.{Why}
use Rattle.tree_law.specs.declared.reply.Why.TheVariants.{Exist, NoEnt, NotDir, IsDir, NotEmpty, Inval, Busy, MFile, BadF, FBig, NoSpace, NoInode, DirFull}
use Rattle.reply_text.specs.Text.{hex_text, spaced, why_text, reply_text}
use Rattle.script.specs.Spelling.{IsWide}
use Rattle.line_words.specs.Outcome.{outside, then_read}
use Rattle.line_words.specs.Values.{hex_of}
use Rattle.line_words.specs.Words.{words, first_as}
use Rattle.line_words.proofs.Joined.{are_free, and_both, words_joined}
use Rattle.line_words.proofs.Ranges.{no_value}
use Rattle.line_words.proofs.Reading.{chain, first_is}
use Rattle.line_words.proofs.Valued.{number_to_is, hex_is, hex_free}
use Rattle.line_words.proofs.WordsFree.{number_free, name_free}
use Rattle.reply_words.specs.Limits.{IsWhy, IsReplyTelling}
use Rattle.reply_words.specs.Telling.{blocks_of, byte_of, no_space, number32_of, words_said, reply_said}
use Rattle.reply_words.specs.declared.tells.Tells.{Tells}
use Rattle.reply_words.specs.declared.tells.Tells.TheVariants.{Nothing, Descriptor, Contents, Length, Kind, Listing}

-- the words of a reply

abbrev why_words : Why → List (List ℕ)
why_words Exist = codes "EEXIST" ∷ []
why_words NoEnt = codes "ENOENT" ∷ []
why_words NotDir = codes "ENOTDIR" ∷ []
why_words IsDir = codes "EISDIR" ∷ []
why_words NotEmpty = codes "ENOTEMPTY" ∷ []
why_words Inval = codes "EINVAL" ∷ []
why_words Busy = codes "EBUSY" ∷ []
why_words MFile = codes "EMFILE" ∷ []
why_words BadF = codes "EBADF" ∷ []
why_words FBig = codes "EFBIG" ∷ []
why_words (NoSpace free needed) = codes "NOSPACE" ∷ decimal free ∷ decimal needed ∷ []
why_words NoInode = codes "NOINODE" ∷ []
why_words DirFull = codes "DIRFULL" ∷ []

abbrev bytes_words : List ℕ → List (List ℕ)
bytes_words [] = codes "0" ∷ []
bytes_words (byte ∷ bytes) = decimal (length (byte ∷ bytes)) ∷ hex_text (byte ∷ bytes) ∷ []

abbrev words_of : Reply → List (List ℕ)
words_of Done = codes "ok" ∷ []
words_of (Fd fd) = codes "ok" ∷ decimal fd ∷ []
words_of (Bytes bytes) = codes "ok" ∷ bytes_words bytes
words_of (Count count) = codes "ok" ∷ decimal count ∷ []
words_of (File size) = codes "ok" ∷ codes "file" ∷ decimal size ∷ []
words_of Dir = codes "ok" ∷ codes "dir" ∷ []
words_of (Names names) = codes "ok" ∷ decimal (length names) ∷ names
words_of (Refused why) = why_words why

-- the text is these words with one space between each two

joined_spaced : (word : List ℕ) (more : List (List ℕ)) → join_with_byte 32 (word ∷ more) ≡ word ++ spaced more
joined_spaced word [] = sym (append-nil word)
joined_spaced word (next ∷ more) = ap (λ (text : List ℕ). word ++ 32 ∷ text) (joined_spaced next more)

why_joined : (why : Why) → join_with_byte 32 (why_words why) ≡ why_text why
why_joined Exist = refl
why_joined NoEnt = refl
why_joined NotDir = refl
why_joined IsDir = refl
why_joined NotEmpty = refl
why_joined Inval = refl
why_joined Busy = refl
why_joined MFile = refl
why_joined BadF = refl
why_joined FBig = refl
why_joined (NoSpace free needed) = ap (λ (text : List ℕ). codes "NOSPACE " ++ text) (sym (append_assoc (decimal free) (codes " ") (decimal needed)))
why_joined NoInode = refl
why_joined DirFull = refl

joined : (reply : Reply) → join_with_byte 32 (words_of reply) ≡ reply_text reply
joined Done = refl
joined (Fd fd) = refl
joined (Bytes []) = refl
joined (Bytes (byte ∷ bytes)) = ap (λ (text : List ℕ). codes "ok " ++ text) (sym (append_assoc (decimal (length (byte ∷ bytes))) (codes " ") (hex_text (byte ∷ bytes))))
joined (Count count) = refl
joined (File size) = refl
joined Dir = refl
joined (Names names) = ap (λ (text : List ℕ). codes "ok " ++ text) (joined_spaced (decimal (length names)) names)
joined (Refused why) = why_joined why

-- no word has a space

names_free : (names : List (List ℕ)) → All IsName names → are_free names ≡ true
names_free [] h = refl
names_free (name ∷ names) h = and_both _ _ (name_free name (h 0 [] (omega arith))) (names_free names (λ k d l. h (suc k) d (omega arith)))

why_free : (why : Why) → IsWhy why → are_free (why_words why) ≡ true
why_free Exist h = refl
why_free NoEnt h = refl
why_free NotDir h = refl
why_free IsDir h = refl
why_free NotEmpty h = refl
why_free Inval h = refl
why_free Busy h = refl
why_free MFile h = refl
why_free BadF h = refl
why_free FBig h = refl
why_free (NoSpace free needed) h = and_both _ _ refl (and_both _ _ (number_free free (omega (arith, h.0))) (and_both _ _ (number_free needed (omega (arith, h.1))) refl))
why_free NoInode h = refl
why_free DirFull h = refl

-- as many as the text has bytes

some_more : (one two : List ℕ) → length two ≤ length (one ++ two)
some_more one two = omega (arith, length-append one two)

names_few : (names : List (List ℕ)) → length names ≤ length (spaced names)
names_few [] = omega arith
names_few (name ∷ names) = omega (arith, names_few names, length-append name (spaced names))

hex_length : (bytes : List ℕ) → length (hex_text bytes) ≡ 2 * length bytes
hex_length [] = refl
hex_length (byte ∷ bytes) = omega (arith, hex_length bytes)

names_wide : (names : List (List ℕ)) → IsWide (length (reply_text (Names names))) → IsWide (length names)
names_wide names h = omega (arith, h, names_few names, length-append (decimal (length names)) (spaced names))

bytes_wide : (byte : ℕ) (bytes : List ℕ) → IsWide (length (reply_text (Bytes (byte ∷ bytes)))) → IsWide (length (byte ∷ bytes))
bytes_wide byte bytes h =
    let all = byte ∷ bytes in
    omega (arith, h, hex_length all, length-append (decimal (length all) ++ codes " ") (hex_text all))

free : (told : Tells) (reply : Reply) → IsReplyTelling told reply → IsWide (length (reply_text reply)) → are_free (words_of reply) ≡ true
free Nothing Done h w = refl
free Descriptor (Fd fd) h w = and_both _ _ refl (and_both _ _ (number_free fd (omega (arith, h))) refl)
free Contents (Bytes []) h w = refl
free Contents (Bytes (byte ∷ bytes)) h w = and_both _ _ refl (and_both _ _ (number_free (length (byte ∷ bytes)) (bytes_wide byte bytes w)) (and_both _ _ (hex_free (byte ∷ bytes) h) refl))
free Length (Count count) h w = and_both _ _ refl (and_both _ _ (number_free count (omega (arith, h))) refl)
free Kind (File size) h w = and_both _ _ refl (and_both _ _ refl (and_both _ _ (number_free size (omega (arith, h))) refl))
free Kind Dir h w = refl
free Listing (Names names) h w = and_both _ _ refl (and_both _ _ (number_free (length names) (names_wide names w)) (names_free names h))
free told (Refused why) h w = why_free why h
free told reply h w = absurd h

-- the words are read back

names_are : (names : List (List ℕ)) → All IsName names → list_all is_name names ≡ true
names_are [] h = refl
names_are (name ∷ names) h = and_both _ _ (name_passes name (h 0 [] (omega arith))) (names_are names (λ k d l. h (suc k) d (omega arith)))

no_space_is : (free needed : ℕ) → free ≤ 65535 → needed ≤ 65535 → no_space (decimal free ∷ decimal needed ∷ []) ≡ Ok (NoSpace free needed)
no_space_is free needed hf hn =
    let by-needed = decimal needed ∷ [] in
    chain (first_as blocks_of (decimal free ∷ by-needed)) (free, by-needed) _ _ (first_is blocks_of (decimal free) by-needed free (number_to_is 65535 free hf (omega arith)))
    (chain (blocks_of (decimal needed)) needed _ _ (number_to_is 65535 needed hn (omega arith)) refl)

why_is : (told : Tells) (why : Why) → IsWhy why → words_said told (why_words why) ≡ Ok (Refused why)
why_is told Exist h = refl
why_is told NoEnt h = refl
why_is told NotDir h = refl
why_is told IsDir h = refl
why_is told NotEmpty h = refl
why_is told Inval h = refl
why_is told Busy h = refl
why_is told MFile h = refl
why_is told BadF h = refl
why_is told FBig h = refl
why_is told (NoSpace free needed) h = chain (no_space (decimal free ∷ decimal needed ∷ [])) (NoSpace free needed) _ _ (no_space_is free needed h.0 h.1) refl
why_is told NoInode h = refl
why_is told DirFull h = refl

said : (told : Tells) (reply : Reply) → IsReplyTelling told reply → words_said told (words_of reply) ≡ Ok reply
said Nothing Done h = refl
said Descriptor (Fd fd) h = chain (byte_of (decimal fd)) fd _ _ (number_to_is 255 fd h (omega arith)) refl
said Contents (Bytes []) h = refl
said Contents (Bytes (byte ∷ bytes)) h = chain (hex_of (hex_text (byte ∷ bytes))) (byte ∷ bytes) _ _ (hex_is (byte ∷ bytes) h) refl
said Length (Count count) h = chain (number32_of (decimal count)) count _ _ (number_to_is 4294967295 count h (omega arith)) refl
said Kind (File size) h = chain (number32_of (decimal size)) size _ _ (number_to_is 4294967295 size h (omega arith)) refl
said Kind Dir h = refl
said Listing (Names names) h = ap (λ (b : Bool). then_read (cond b (Ok names) outside) (λ names. Ok (Names names))) (names_are names h)
said told (Refused why) h = why_is told why h
said told reply h = absurd h

read_joined : (told : Tells) (parts : List (List ℕ)) (reply : Reply) → are_free parts ≡ true → words_said told parts ≡ Ok reply → words_said told (words (join_with_byte 32 parts)) ≡ Ok reply
read_joined told [] reply h e = absurd (no_value (record {}) reply outside refl e)
read_joined told (word ∷ behind) reply h e = ap (words_said told) (words_joined word behind h) ∙ e

pub said_again : (told : Tells) (reply : Reply) → IsReplyTelling told reply → IsWide (length (reply_text reply)) → reply_said told (reply_text reply) ≡ Ok reply
unfolding reply_said
said_again told reply h w =
    ap (λ (text : List ℕ). words_said told (words text)) (sym (joined reply)) ∙ read_joined told (words_of reply) reply (free told reply h w) (said told reply h)
