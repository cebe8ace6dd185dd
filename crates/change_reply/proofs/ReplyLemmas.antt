use Rattle.std.proofs.Common.{◌≡◌, ◌≢◌, ◌==◌, ◌+◌, ◌<◌, ◌≤◌, ◌/◌, ◌%◌, ◌∷◌, ◌++◌, [], ℕ, true, false, List, Option, Some, None, Result, Ok, Err, length, drop, slice_index, refl, sym, ap, ◌∙◌, arith, length-append, append_assoc, length-drop, suc, ◌⊎◌, inl, inr}
use Rattle.std.specs.Prelude.{IsErr, IsOk, IfOk, IfSome, nat_lt, if◌then◌else◌}
use Rattle.std.proofs.lemmas.List.{drop_at}
use Rattle.std.proofs.lemmas.Bool.Decides.{nat_tests}
use Rattle.byteorder.specs.Endian.{big_number}
use Rattle.cal_fields.specs.BigEndian.{big_endian}
use Rattle.cal_fields.proofs.BigEndianLemmas.{number-big_endian, length-big_endian}
use Rattle.tree_law.specs.declared.reply.Reply.{Reply}
use Rattle.tree_law.specs.declared.reply.Reply.TheVariants.{Done, Fd, Bytes, Count, File, Dir, Names, Refused}
use Rattle.tree_law.specs.declared.reply.Why.TheVariants.{Exist, NoEnt, NotDir, IsDir, NotEmpty, Inval, Busy, MFile, BadF, FBig, NoSpace, NoInode, DirFull}
use Rattle.change_reply.specs.declared.take.BadReply.{BadReply}
use Rattle.change_reply.specs.declared.take.BadReply.TheVariants.{Short}
use Rattle.change_reply.specs.ReplyBytes.{reply_bytes, IsChangeReply}
use Rattle.change_reply.proofs.Numbers.{number_fits, number_takes, drop_fits}
use Rattle.change_reply.specs.ReplyAt.{plain_reply, no_space_at, plain_at, reply_at}

-- no byte, no reply
pub reply_of_none : (bytes : List ℕ) → length bytes < 1 → reply_at bytes ≡ Err Short
unfolding reply_at
reply_of_none [] few = refl
reply_of_none (byte ∷ rest) few = absurd (omega arith)

-- an 11 begins want of blocks
pub reply_of_eleven : (bytes rest : List ℕ) (byte : ℕ) → bytes ≡ byte ∷ rest → byte ≡ 11 → reply_at bytes ≡ no_space_at rest
unfolding reply_at
reply_of_eleven bytes rest byte is eleven = rw (is, eleven) refl

-- any other byte stands by itself
pub reply_of_byte : (bytes rest : List ℕ) (byte : ℕ) (reply : Option Reply) → bytes ≡ byte ∷ rest → byte ≢ 11 → reply ≡ plain_reply byte
    → reply_at bytes ≡ plain_at reply rest
unfolding reply_at
reply_of_byte bytes rest byte reply is other plain =
    let apart : (byte == 11) ≡ false = grind (arith) in
    rw (is, plain) (rw apart refl)

-- what stands behind a number
pub length_behind : (width number : ℕ) (bytes rest : List ℕ) → bytes ≡ big_endian width number ++ rest → length bytes ≡ width + length rest
length_behind width number bytes rest is = omega (arith, ap length is, length-append (big_endian width number) rest, length-big_endian width number)

-- what doesn't fail gives something
pub gives : {A B : Type 0} (r : Result A B) → (IsErr r → ⊥) → IsOk r
gives (Ok x) h = refl
gives (Err e) h = absurd (h refl)

-- two numbers make want of blocks
pub no_space_of_two : (bytes rest after : List ℕ) (free needed : ℕ) → bytes ≡ big_endian 2 free ++ rest → rest ≡ big_endian 2 needed ++ after
    → free < 65536 → needed < 65536 → no_space_at bytes ≡ Ok (Refused (NoSpace free needed), after)
unfolding big_endian
no_space_of_two bytes rest after free needed one two f n =
    let whole : bytes ≡ big_endian 2 free ++ (big_endian 2 needed ++ after) = one ∙ ap (λ (xs : List ℕ). big_endian 2 free ++ xs) two in
    let enough : (nat_lt (length bytes) 4) ≡ false = grind (arith, length_behind 2 free bytes rest one, length_behind 2 needed rest after two) in
    let first : big_number 2 bytes ≡ free = ap (big_number 2) one ∙ number-big_endian 2 free rest f in
    let behind : drop 2 bytes ≡ rest = ap (drop 2) one ∙ drop_at (big_endian 2 free) rest 2 (length-big_endian 2 free) in
    let second : big_number 2 (drop 2 bytes) ≡ needed = ap (big_number 2) (behind ∙ two) ∙ number-big_endian 2 needed after n in
    let left : drop 4 bytes ≡ after = ap (drop 4) whole ∙ drop_at (big_endian 2 free ++ big_endian 2 needed) after 4 refl in
    rw enough (rw (first, second, left) refl)

-- two bytes of a number
pub two_bytes : (number : ℕ) → number < 65536 → (number / 256) ∷ (number % 256) ∷ [] ≡ big_endian 2 number
unfolding big_endian
two_bytes number fits =
    let high : number / 256 % 256 ≡ number / 256 = omega arith in
    let low : number / 1 % 256 ≡ number % 256 = omega arith in
    rw (high, low) refl

-- a choice by a number has what both sides have
pick : (P : Option Reply → Type 0) (byte number : ℕ) (x y : Option Reply) → (byte ≡ number → P x) → P y → P (if byte == number then x else y)
pick P byte number x y hit miss =
    elim (byte == number) as (λ b. (byte == number) ≡ b → P (if b then x else y)) [
      | true ↦ λ e. hit (grind (arith, nat_tests, e))
      | false ↦ λ e. miss
    ] refl

-- a byte that stands by itself is the one spelling of its reply
abbrev IsSpelled : ℕ → Option Reply → Type 0
IsSpelled byte o = IfSome o (λ reply. IsChangeReply reply × (reply_bytes reply ≡ byte ∷ []))

plain_takes : (byte : ℕ) → IsSpelled byte (plain_reply byte)
unfolding plain_reply
plain_takes byte =
    pick (IsSpelled byte) byte 0 _ _ (λ e. (tt, rw e refl)) (
    pick (IsSpelled byte) byte 1 _ _ (λ e. (tt, rw e refl)) (
    pick (IsSpelled byte) byte 2 _ _ (λ e. (tt, rw e refl)) (
    pick (IsSpelled byte) byte 3 _ _ (λ e. (tt, rw e refl)) (
    pick (IsSpelled byte) byte 4 _ _ (λ e. (tt, rw e refl)) (
    pick (IsSpelled byte) byte 5 _ _ (λ e. (tt, rw e refl)) (
    pick (IsSpelled byte) byte 6 _ _ (λ e. (tt, rw e refl)) (
    pick (IsSpelled byte) byte 7 _ _ (λ e. (tt, rw e refl)) (
    pick (IsSpelled byte) byte 12 _ _ (λ e. (tt, rw e refl)) (
    pick (IsSpelled byte) byte 13 _ _ (λ e. (tt, rw e refl)) tt)))))))))

-- what a reader gives is one value
abbrev pub plain : Reply → Result Reply BadReply
plain x = Ok x

abbrev pub given : Reply × List ℕ → Result (Reply × List ℕ) BadReply
given x = Ok x

ok_same : (x y : Reply × List ℕ) → given x ≡ given y → x ≡ y
ok_same x y e = cc

drop-drop : (bytes : List ℕ) → drop 2 (drop 2 bytes) ≡ drop 4 bytes
drop-drop [] = refl
drop-drop (a ∷ []) = refl
drop-drop (a ∷ b ∷ bytes) = refl

-- four bytes and more spell want of blocks
no_space_spelled : (bytes rest : List ℕ) (reply : Reply) → 4 ≤ length bytes → ((i : ℕ) → slice_index bytes i < 256)
    → Refused (NoSpace (big_number 2 bytes) (big_number 2 (drop 2 bytes))) ≡ reply → drop 4 bytes ≡ rest
    → IsChangeReply reply × (11 ∷ bytes ≡ reply_bytes reply ++ rest)
no_space_spelled bytes rest reply enough fits is behind =
    let free = big_number 2 bytes in
    let needed = big_number 2 (drop 2 bytes) in
    let back : drop 2 bytes ≡ big_endian 2 needed ++ drop 2 (drop 2 bytes) = number_takes 2 (drop 2 bytes) (omega (arith, length-drop 2 bytes)) (drop_fits 2 bytes fits) in
    let last : drop 2 (drop 2 bytes) ≡ rest = drop-drop bytes ∙ behind in
    let front : bytes ≡ big_endian 2 free ++ drop 2 bytes = number_takes 2 bytes (omega arith) fits in
    let whole : bytes ≡ big_endian 2 free ++ big_endian 2 needed ++ rest =
    front ∙ ap (λ (xs : List ℕ). big_endian 2 free ++ xs) (back ∙ ap (λ (xs : List ℕ). big_endian 2 needed ++ xs) last)
    ∙ sym (append_assoc (big_endian 2 free) (big_endian 2 needed) rest) in
    rw (← is) ((number_fits 2 bytes fits, number_fits 2 (drop 2 bytes) (drop_fits 2 bytes fits)), ap (λ (xs : List ℕ). 11 ∷ xs) whole)

-- four bytes and more are two numbers and what stands behind them
no_space_takes : (bytes rest : List ℕ) (reply : Reply) → ((i : ℕ) → slice_index bytes i < 256) → no_space_at bytes ≡ Ok (reply, rest)
    → IsChangeReply reply × (11 ∷ bytes ≡ reply_bytes reply ++ rest)
no_space_takes bytes rest reply fits e =
    let read : Result (Reply × List ℕ) BadReply = Ok (reply, rest) in
    elim (nat_lt (length bytes) 4) as (λ b. (nat_lt (length bytes) 4) ≡ b → (if b then Err Short
    else Ok (Refused (NoSpace (big_number 2 bytes) (big_number 2 (drop 2 bytes))), drop 4 bytes)) ≡ read
    → IsChangeReply reply × (11 ∷ bytes ≡ reply_bytes reply ++ rest)) [
      | true ↦ λ few same. absurd cc
      | false ↦ λ few same. let both = ok_same _ _ same in no_space_spelled bytes rest reply (grind (arith, nat_tests, few)) fits (ap (λ (p : Reply × List ℕ). p.0) both) (ap (λ (p : Reply × List ℕ). p.1) both)
    ] refl e

plain_spelled : (byte : ℕ) (o : Option Reply) (bytes rest : List ℕ) (reply : Reply) → IsSpelled byte o → plain_at o bytes ≡ Ok (reply, rest)
    → IsChangeReply reply × (byte ∷ bytes ≡ reply_bytes reply ++ rest)
plain_spelled byte None bytes rest reply spelled e = absurd cc
plain_spelled byte (Some found) bytes rest reply spelled e =
    let both = ok_same _ _ e in
    let is : found ≡ reply = ap (λ (p : Reply × List ℕ). p.0) both in
    let behind : bytes ≡ rest = ap (λ (p : Reply × List ℕ). p.1) both in
    rw (← is, ← behind) (spelled.0, ap (λ (xs : List ℕ). xs ++ bytes) (sym spelled.1))

-- what is read is a reply of a change, and its bytes stand at the front
pub reply_takes : (bytes rest : List ℕ) (reply : Reply) → ((i : ℕ) → slice_index bytes i < 256) → reply_at bytes ≡ Ok (reply, rest)
    → IsChangeReply reply × (bytes ≡ reply_bytes reply ++ rest)
unfolding reply_at
reply_takes [] rest reply fits e = absurd cc
reply_takes (byte ∷ bytes) rest reply fits e =
    let read : Result (Reply × List ℕ) BadReply = Ok (reply, rest) in
    elim (byte == 11) as (λ b. (byte == 11) ≡ b → (if b then no_space_at bytes else plain_at (plain_reply byte) bytes) ≡ read
    → IsChangeReply reply × (byte ∷ bytes ≡ reply_bytes reply ++ rest)) [
      | true ↦ λ eleven same. let is : byte ≡ 11 = grind (arith, nat_tests, eleven) in rw is (no_space_takes bytes rest reply (λ i. fits (suc i)) same)
      | false ↦ λ other same. plain_spelled byte (plain_reply byte) bytes rest reply (plain_takes byte) same
    ] refl e

-- the bytes of a reply of a change are read as that reply
pub reply_again : (reply : Reply) (rest : List ℕ) → IsChangeReply reply → reply_at (reply_bytes reply ++ rest) ≡ Ok (reply, rest)
unfolding reply_at plain_reply
reply_again Done rest is = refl
reply_again (Refused NoEnt) rest is = refl
reply_again (Refused NotDir) rest is = refl
reply_again (Refused IsDir) rest is = refl
reply_again (Refused Exist) rest is = refl
reply_again (Refused Inval) rest is = refl
reply_again (Refused NotEmpty) rest is = refl
reply_again (Refused Busy) rest is = refl
reply_again (Refused (NoSpace free needed)) rest is =
    no_space_of_two _ (big_endian 2 needed ++ rest) rest free needed (append_assoc (big_endian 2 free) (big_endian 2 needed) rest) refl is.0 is.1
reply_again (Refused NoInode) rest is = refl
reply_again (Refused DirFull) rest is = refl
reply_again (Refused MFile) rest is = absurd is
reply_again (Refused BadF) rest is = absurd is
reply_again (Refused FBig) rest is = absurd is
reply_again (Fd fd) rest is = absurd is
reply_again (Bytes bytes) rest is = absurd is
reply_again (Count count) rest is = absurd is
reply_again (File size) rest is = absurd is
reply_again Dir rest is = absurd is
reply_again (Names names) rest is = absurd is

-- one reading gives one reply
pub read_is : (a b : Reply) (xs ys : List ℕ) → given (a, xs) ≡ given (b, ys) → (plain a ≡ plain b) × (xs ≡ ys)
read_is a b xs ys e = let both = ok_same _ _ e in (ap (λ (p : Reply × List ℕ). plain p.0) both, ap (λ (p : Reply × List ℕ). p.1) both)

pub not_read : {P : Type 0} (bad : BadReply) (x : Reply × List ℕ) → Err bad ≡ given x → P
not_read bad x e = absurd cc

-- what holds of a result follows for it
pub weaken : {A B : Type 0} {P Q : A → Type 0} (r : Result A B) → ((x : A) → P x → Q x) → IfOk r P → IfOk r Q
weaken (Ok x) f h = f x h
weaken (Err e) f h = tt

pub same_read : (a b : Reply) (xs ys : List ℕ) → given (a, xs) ≡ given (b, ys) → (a ≡ b) × (xs ≡ ys)
same_read a b xs ys e = let both = ok_same _ _ e in (ap (λ (p : Reply × List ℕ). p.0) both, ap (λ (p : Reply × List ℕ). p.1) both)

-- a reply of a change has one byte, or five
pub lengths : (reply : Reply) → IsChangeReply reply → (length (reply_bytes reply) ≡ 1) ⊎ (length (reply_bytes reply) ≡ 5)
lengths Done is = inl refl
lengths (Refused NoEnt) is = inl refl
lengths (Refused NotDir) is = inl refl
lengths (Refused IsDir) is = inl refl
lengths (Refused Exist) is = inl refl
lengths (Refused Inval) is = inl refl
lengths (Refused NotEmpty) is = inl refl
lengths (Refused Busy) is = inl refl
lengths (Refused (NoSpace free needed)) is =
    inr (omega (arith, length-append (big_endian 2 free) (big_endian 2 needed), length-big_endian 2 free, length-big_endian 2 needed))
lengths (Refused NoInode) is = inl refl
lengths (Refused DirFull) is = inl refl
lengths (Refused MFile) is = absurd is
lengths (Refused BadF) is = absurd is
lengths (Refused FBig) is = absurd is
lengths (Fd fd) is = absurd is
lengths (Bytes bytes) is = absurd is
lengths (Count count) is = absurd is
lengths (File size) is = absurd is
lengths Dir is = absurd is
lengths (Names names) is = absurd is
