-- Of the replies that a tree allows to a call no two are written alike.
use Rattle.std.proofs.Common.{◌≡◌, ◌+◌, ◌<◌, ◌≤◌, ◌++◌, ◌^◌, ℕ, Bool, true, false, List, [], ◌∷◌, length, get_or, Result, Ok, Err, codes, refl, sym, ap, ◌∙◌, subst, inl, inr, arith, rules, if◌then◌else◌, decimal}
use Rattle.std.proofs.lemmas.Fmt.{decimal_injective}
use Rattle.std.proofs.lemmas.List.{append_cancel_left, append_cancel_right}
use Rattle.cal_base.specs.declared.identity.ClientId.{ClientId}
use Rattle.cal_base.specs.declared.identity.Ino.{Ino}
use Rattle.tree_law.specs.Tree.{Tree, table_of}
use Rattle.tree_law.specs.Resolve.{new_place}
use Rattle.tree_law.specs.Rename.{move_of}
use Rattle.tree_law.specs.Descriptors.{within_limit, writable}
use Rattle.tree_law.specs.Answer.{answer}
use Rattle.tree_law.specs.Legal.{IsAllowed, IsWantOfRoom, blocks_of_move, blocks_wanted, unless_refused}
use Rattle.tree_law.specs.declared.call.Call.{Call}
use Rattle.tree_law.specs.declared.call.Call.TheVariants.{Create, Mkdir, Rename, Write, Truncate}
use Rattle.tree_law.specs.declared.rename.Move.{Move}
use Rattle.tree_law.specs.declared.reply.Reply.{Reply}
use Rattle.tree_law.specs.declared.reply.Reply.TheVariants.{Done, Fd, Bytes, Count, File, Dir, Names, Refused}
use Rattle.tree_law.specs.declared.reply.Why.{Why}
use Rattle.tree_law.specs.declared.reply.Why.TheVariants.{Exist, NoEnt, NotDir, IsDir, NotEmpty, Inval, Busy, MFile, BadF, FBig, NoSpace, NoInode, DirFull}
use Rattle.reply_text.specs.Plain.{IsPlainReply, IsPlainWhy}
use Rattle.reply_text.specs.Text.{bytes_text, reply_text, why_text}
use Rattle.reply_text.proofs.PlainAnswers.{plain_answer}

-- what tells no want of room doesn't begin with 'N'
plain_why_begins : (why : Why) → IsPlainWhy why → get_or (why_text why) 0 0 ≡ 78 → ⊥
plain_why_begins Exist plain is = absurd (omega arith)
plain_why_begins NoEnt plain is = absurd (omega arith)
plain_why_begins NotDir plain is = absurd (omega arith)
plain_why_begins IsDir plain is = absurd (omega arith)
plain_why_begins NotEmpty plain is = absurd (omega arith)
plain_why_begins Inval plain is = absurd (omega arith)
plain_why_begins Busy plain is = absurd (omega arith)
plain_why_begins MFile plain is = absurd (omega arith)
plain_why_begins BadF plain is = absurd (omega arith)
plain_why_begins FBig plain is = absurd (omega arith)
plain_why_begins (NoSpace free needed) plain is = plain
plain_why_begins NoInode plain is = plain
plain_why_begins DirFull plain is = absurd (omega arith)

bytes_begin : (bytes : List ℕ) → get_or (bytes_text bytes) 0 0 ≡ 78 → ⊥
bytes_begin [] is = absurd (omega arith)
bytes_begin (byte ∷ bytes) is = absurd (omega arith)

plain_begins : (reply : Reply) → IsPlainReply reply → get_or (reply_text reply) 0 0 ≡ 78 → ⊥
plain_begins Done plain is = absurd (omega arith)
plain_begins (Fd fd) plain is = absurd (omega arith)
plain_begins (Bytes bytes) plain is = bytes_begin bytes is
plain_begins (Count count) plain is = absurd (omega arith)
plain_begins (File size) plain is = absurd (omega arith)
plain_begins Dir plain is = absurd (omega arith)
plain_begins (Names names) plain is = absurd (omega arith)
plain_begins (Refused why) plain is = plain_why_begins why plain is

-- want of room begins with 'N'
want_begins : (tree : Tree) (client : ClientId) (call : Call) (reply : Reply) → IsWantOfRoom tree client call reply → get_or (reply_text reply) 0 0 ≡ 78
want_begins tree client call (Refused NoInode) want = refl
want_begins tree client call (Refused (NoSpace free needed)) want = refl
want_begins tree client call _ want = absurd (search rules)

-- a call wants 16 blocks at most
few_unless : (blocks : ℕ) (place : Result Ino Why) → blocks ≤ 16 → unless_refused blocks place ≤ 16
few_unless blocks (Ok ino) few = few
few_unless blocks (Err why) few = omega arith

one_or_none : (more : Bool) → (if more then 1 else 0) ≤ 16
one_or_none true = omega arith
one_or_none false = omega arith

few_of_move : (moving : Result Move Why) → blocks_of_move moving ≤ 16
few_of_move (Ok move) = one_or_none _
few_of_move (Err why) = omega arith

few_wanted : (tree : Tree) (client : ClientId) (call : Call) → blocks_wanted tree client call ≤ 16
few_wanted tree client (Create path) = few_unless 1 (new_place tree path) (omega arith)
few_wanted tree client (Mkdir path) = few_unless 1 (new_place tree path) (omega arith)
few_wanted tree client (Rename path goal) = few_of_move (move_of tree path goal)
few_wanted tree client (Write fd offset bytes) = few_unless 16 (within_limit (offset + length bytes) (writable (table_of tree client) fd)) (omega arith)
few_wanted tree client (Truncate fd size) = few_unless 16 (within_limit size (writable (table_of tree client) fd)) (omega arith)
few_wanted tree client _ = omega arith

-- free and needed blocks are told apart by their text
same_free : (free other needed : ℕ) → free < 2 ^ 64 → other < 2 ^ 64 → why_text (NoSpace free needed) ≡ why_text (NoSpace other needed) → free ≡ other
same_free free other needed small small_other same =
    decimal_injective free other small small_other (append_cancel_left (codes "NOSPACE ") (decimal free) (decimal other) (append_cancel_right (codes "NOSPACE " ++ decimal free) (codes "NOSPACE " ++ decimal other) (codes " ") (append_cancel_right (codes "NOSPACE " ++ decimal free ++ codes " ") (codes "NOSPACE " ++ decimal other ++ codes " ") (decimal needed) same)))

one_space : (most free needed other others : ℕ) → most ≤ 16 → free < needed → needed ≡ most → other < others → others ≡ most → why_text (NoSpace free needed) ≡ why_text (NoSpace other others) → Refused (NoSpace free needed) ≡ Refused (NoSpace other others)
one_space most free needed other others few less is less_other is_other same =
    let one : others ≡ needed = omega arith in
    let small : free < 2 ^ 64 = omega arith in
    let small_other : other < 2 ^ 64 = omega arith in
    let same_needed = subst (λ (n : ℕ). why_text (NoSpace free needed) ≡ why_text (NoSpace other n)) one same in
    let same = same_free free other needed small small_other same_needed in
    ap (λ (n : ℕ). Refused (NoSpace n needed)) same ∙ ap (λ (n : ℕ). Refused (NoSpace other n)) (sym one)

unlike : (third other : ℕ) → third ≡ 73 → other ≡ 83 → third ≡ other → ⊥
unlike third other e es is = omega arith

third_apart : (free needed : ℕ) → why_text NoInode ≡ why_text (NoSpace free needed) → ⊥
third_apart free needed same = unlike (get_or (why_text NoInode) 2 0) (get_or (why_text (NoSpace free needed)) 2 0) refl refl (ap (λ (l : List ℕ). get_or l 2 0) same)

-- two that tell want of room
one_want : (tree : Tree) (client : ClientId) (call : Call) (reply other : Reply) → IsWantOfRoom tree client call reply → IsWantOfRoom tree client call other → reply_text reply ≡ reply_text other → reply ≡ other
one_want tree client call (Refused NoInode) (Refused NoInode) want wants same = refl
one_want tree client call (Refused NoInode) (Refused (NoSpace free needed)) want wants same = absurd (third_apart free needed same)
one_want tree client call (Refused (NoSpace free needed)) (Refused NoInode) want wants same = absurd (third_apart free needed (sym same))
one_want tree client call (Refused (NoSpace free needed)) (Refused (NoSpace other others)) want wants same =
    one_space (blocks_wanted tree client call) free needed other others (few_wanted tree client call) want.0 want.1 wants.0 wants.1 same
one_want tree client call (Refused _) (Refused _) want wants same = absurd (search rules)
one_want tree client call _ _ want wants same = absurd (search rules)

-- the tree's own answer and one that tells want of room
apart : (tree : Tree) (client : ClientId) (call : Call) (own other : Reply) → own ≡ answer tree client call → IsWantOfRoom tree client call other → reply_text own ≡ reply_text other → ⊥
apart tree client call own other is want same =
    plain_begins own (subst IsPlainReply (sym is) (plain_answer tree client call)) (ap (λ (l : List ℕ). get_or l 0 0) same ∙ want_begins tree client call other want)

pub one_reply : (tree : Tree) (client : ClientId) (call : Call) (reply other : Reply) → IsAllowed tree client call reply → IsAllowed tree client call other → reply_text reply ≡ reply_text other → reply ≡ other
one_reply tree client call reply other (inl is) (inl is_other) same = is ∙ sym is_other
one_reply tree client call reply other (inl is) (inr want) same = absurd (apart tree client call reply other is want same)
one_reply tree client call reply other (inr want) (inl is) same = absurd (apart tree client call other reply is want (sym same))
one_reply tree client call reply other (inr want) (inr wants) same = one_want tree client call reply other want wants same
