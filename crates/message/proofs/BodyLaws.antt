-- Messages, against their spellings.
use Rattle.std.proofs.Common.{◌≡◌, ◌==◌, ◌<◌, ◌^◌, ◌∷◌, ◌++◌, [], ℕ, suc, List, Result, Ok, Err, refl, sym, ap, ◌∙◌, append_assoc, append-nil}
use Rattle.std.specs.Prelude.{IfOk}
use Rattle.cal_fields.specs.BigEndian.{big_endian}
use Rattle.change_reply.specs.ReplyAt.{reply_at as change_reply_at}
use Rattle.change_reply.specs.ReplyBytes.{IsChangeReply, reply_bytes}
use Rattle.change_reply.specs.declared.take.BadReply.{BadReply}
use Rattle.change_reply.specs.declared.take.BadReply.TheVariants.{Unknown, Short}
use Rattle.change_reply.proofs.ReplyLemmas.{reply_again as change_reply_again, reply_takes as change_reply_takes}
use Rattle.tree_law.specs.declared.reply.Reply.{Reply}
use Rattle.message.specs.declared.message.Message.{Message}
use Rattle.message.specs.declared.message.Message.TheVariants.{Acquire, Grant, Refuse, Change, Done, Flush, Flushed, Revoke, Release, Ask, Piece, Wait, Admit}
use Rattle.message.specs.Reading.{Read, byte_at, number_at, placed}
use Rattle.message.specs.Field.{call_number_at, client_at}
use Rattle.message.specs.Calls.{change_at, want_at}
use Rattle.message.specs.Tokens.{flush_at, grant_items_at, piece_at, release_at, revoke_at}
use Rattle.message.specs.Decoding.{Answers}
use Rattle.message.specs.declared.read.DecodeError.{DecodeError}
use Rattle.message.specs.declared.read.DecodeError.TheVariants.{BadMessage, OutOfMemory}
use Rattle.message.specs.Bodies.{body_of, message_at, message_of, refuse_at, reply_at, reply_read}
use Rattle.token_kind.specs.Flush.{IsFlush}
use Rattle.token_kind.specs.Kept.{IsRelease, IsRevoke}
use Rattle.message.specs.Range.{AreGrantItems, IsChange, IsInode, IsMessage, IsNumber, IsPiece, IsWant}
use Rattle.message.specs.Spelling.{change_bytes, flush_bytes, grant_items_bytes, message_bytes, piece_bytes, release_bytes, revoke_bytes, want_bytes}
use Rattle.message.proofs.Branches.{branch_takes, mapped_again, two_again, two_takes}
use Rattle.message.proofs.CallLaws.{behind, change_again, change_takes, want_again, want_takes}
use Rattle.message.proofs.Exact.{Again, IsBytes, Takes, Took, begin, byte_takes, number_take, on, then_ok}
use Rattle.message.proofs.FieldLaws.{call_number_again, call_number_takes, client_again, client_takes, from_eq, pick}
use Rattle.message.proofs.Front.{number_is}
use Rattle.message.proofs.Parts.{bind_ok, given, ok_same}
use Rattle.message.proofs.RecordLaws.{flush_again, flush_takes, piece_again, piece_takes, release_again, release_takes, revoke_again, revoke_takes}
use Rattle.message.proofs.TokenLaws.{grant_items_again, grant_items_takes}

suffix_fits : (a b : List ℕ) → IsBytes (a ++ b) → IsBytes b
suffix_fits [] b fits = fits
suffix_fits (x ∷ a) b fits = suffix_fits a b (λ i. fits (suc i))

reply_was_read : (field : List ℕ) (r : Result (Reply × List ℕ) BadReply) (x : Reply × List ℕ) → reply_read field r ≡ Ok x → r ≡ Ok x
reply_was_read field (Ok y) x e = ap (λ (p : Reply × List ℕ). let r : Result (Reply × List ℕ) BadReply = Ok p in r) (ok_same _ _ e)
reply_was_read field (Err Unknown) x e = absurd cc
reply_was_read field (Err Short) x e = absurd cc

reply_takes : Takes reply_at reply_bytes IsChangeReply
reply_takes bytes x fits e =
    let both = change_reply_takes bytes x.1 x.0 fits (reply_was_read bytes (change_reply_at bytes) x e) in
    record { is = both.1; good = both.0; fits = suffix_fits (reply_bytes x.0) x.1 (rw (← both.1) fits) }

reply_again : Again reply_at reply_bytes IsChangeReply
reply_again reply rest good = ap (reply_read (reply_bytes reply ++ rest)) (change_reply_again reply rest good)

refuse_takes : (kind : ℕ) (rest : List ℕ) (x : Message × List ℕ) → kind ≡ 3 → IsBytes rest → refuse_at rest ≡ Ok x → Took message_bytes IsMessage (kind ∷ rest) x
refuse_takes kind rest x is fits e =
    let number = bind_ok (call_number_at rest) _ x e in
    let number_took = call_number_takes rest number.0 fits number.1 in
    let free = bind_ok (number_at 2 number.0.1) _ x number.2 in
    let free_took = number_take 2 number.0.1 free.0 number_took.fits free.1 in
    let needed = bind_ok (number_at 2 free.0.1) _ x free.2 in
    let needed_took = number_take 2 free.0.1 needed.0 free_took.fits needed.1 in
    rw (← ok_same _ _ needed.2) (record {
      is = ap (λ k. k ∷ rest) is ∙ ap (λ (r : List ℕ). 3 ∷ r) (on (on (begin number_took) free_took) needed_took).is;
      good = (number_took.good, free_took.good, needed_took.good);
      fits = needed_took.fits;
    })

refuse_again : (number free needed : ℕ) (rest : List ℕ) → IsNumber number → free < 2 ^ 16 → needed < 2 ^ 16
    → refuse_at ((big_endian 8 number ++ big_endian 2 free ++ big_endian 2 needed) ++ rest) ≡ Ok (Refuse number free needed, rest)
refuse_again number free needed rest good free_fits needed_fits =
    let a = big_endian 8 number in
    let b = big_endian 2 free in
    let c = big_endian 2 needed in
    ap refuse_at (append_assoc (a ++ b) c rest ∙ append_assoc a b (c ++ rest))
    ∙ then_ok _ _ (number, b ++ (c ++ rest)) _ (call_number_again number (b ++ (c ++ rest)) good)
    (then_ok _ _ (free, c ++ rest) _ (number_is 2 free _ (c ++ rest) free_fits refl)
    (then_ok _ _ (needed, rest) _ (number_is 2 needed _ rest needed_fits refl) refl))

plain_takes : (n : ℕ) (message : Message) → n ∷ [] ≡ message_bytes message → IsMessage message → (kind : ℕ) (rest : List ℕ) (x : Message × List ℕ) → kind ≡ n → IsBytes rest
    → given (message, rest) ≡ given x → Took message_bytes IsMessage (kind ∷ rest) x
plain_takes n message spelled good kind rest x is fits e =
    rw (← ok_same _ _ e) (record { is = ap (λ k. k ∷ rest) is ∙ ap (λ (t : List ℕ). t ++ rest) spelled; good = good; fits = fits })

body_takes : (field : List ℕ) (kind : ℕ) (rest : List ℕ) (x : Message × List ℕ) → IsBytes rest → body_of field kind rest ≡ Ok x → Took message_bytes IsMessage (kind ∷ rest) x
body_takes field kind rest x fits =
    let P : Read Message → Type 0 = λ read. read ≡ Ok x → Took message_bytes IsMessage (kind ∷ rest) x in
    pick P (kind == 1) _ _ (λ t e. two_takes call_number_at want_at Acquire (big_endian 8) IsNumber want_bytes IsWant message_bytes IsMessage 1 call_number_takes want_takes (λ a b. refl) (λ a b g h. (g, h)) kind rest x (from_eq kind 1 t) fits e) (λ f.
    pick P (kind == 2) _ _ (λ t e. two_takes call_number_at grant_items_at Grant (big_endian 8) IsNumber grant_items_bytes AreGrantItems message_bytes IsMessage 2 call_number_takes grant_items_takes (λ a b. refl) (λ a b g h. (g, h)) kind rest x (from_eq kind 2 t) fits e) (λ f.
    pick P (kind == 3) _ _ (λ t e. refuse_takes kind rest x (from_eq kind 3 t) fits e) (λ f.
    pick P (kind == 4) _ _ (λ t e. two_takes call_number_at change_at Change (big_endian 8) IsNumber change_bytes IsChange message_bytes IsMessage 4 call_number_takes change_takes (λ a b. refl) (λ a b g h. (g, h)) kind rest x (from_eq kind 4 t) fits e) (λ f.
    pick P (kind == 5) _ _ (λ t e. two_takes call_number_at reply_at Done (big_endian 8) IsNumber reply_bytes IsChangeReply message_bytes IsMessage 5 call_number_takes reply_takes (λ a b. refl) (λ a b g h. (g, h)) kind rest x (from_eq kind 5 t) fits e) (λ f.
    pick P (kind == 6) _ _ (λ t e. branch_takes flush_at Flush flush_bytes IsFlush message_bytes IsMessage 6 flush_takes (λ b. refl) (λ b g. g) kind rest x (from_eq kind 6 t) fits e) (λ f.
    pick P (kind == 7) _ _ (λ t e. branch_takes (number_at 8) Flushed (big_endian 8) (λ n. n < 256 ^ 8) message_bytes IsMessage 7 (number_take 8) (λ b. refl) (λ b g. g) kind rest x (from_eq kind 7 t) fits e) (λ f.
    pick P (kind == 8) _ _ (λ t e. branch_takes revoke_at Revoke revoke_bytes (λ r. IsInode r.ino × IsRevoke r) message_bytes IsMessage 8 revoke_takes (λ b. refl) (λ b g. g) kind rest x (from_eq kind 8 t) fits e) (λ f.
    pick P (kind == 9) _ _ (λ t e. branch_takes release_at Release release_bytes (λ r. IsInode r.ino × IsRelease r) message_bytes IsMessage 9 release_takes (λ b. refl) (λ b g. g) kind rest x (from_eq kind 9 t) fits e) (λ f.
    pick P (kind == 10) _ _ (λ t e. plain_takes 10 Ask refl tt kind rest x (from_eq kind 10 t) fits e) (λ f.
    pick P (kind == 11) _ _ (λ t e. branch_takes piece_at Piece piece_bytes IsPiece message_bytes IsMessage 11 piece_takes (λ b. refl) (λ b g. g) kind rest x (from_eq kind 11 t) fits e) (λ f.
    pick P (kind == 12) _ _ (λ t e. two_takes call_number_at client_at Wait (big_endian 8) IsNumber (λ client. client.0 ∷ []) (λ client. client.0 < 16) message_bytes IsMessage 12 call_number_takes client_takes (λ a b. refl) (λ a b g h. (g, h)) kind rest x (from_eq kind 12 t) fits e) (λ f.
    pick P (kind == 13) _ _ (λ t e. plain_takes 13 Admit refl tt kind rest x (from_eq kind 13 t) fits e) (λ f e. absurd cc)))))))))))))

pub message_takes : Takes message_at message_bytes IsMessage
unfolding message_at
message_takes bytes x fits e =
    let kind = bind_ok (byte_at bytes) _ x e in
    let took = byte_takes bytes kind.0 fits kind.1 in
    behind bytes kind.0.0 kind.0.1 x took.is (body_takes bytes kind.0.0 kind.0.1 x took.fits kind.2)

pub message_again : Again message_at message_bytes IsMessage
unfolding message_at byte_at
message_again (Acquire number want) rest good = two_again call_number_at want_at Acquire (big_endian 8) IsNumber want_bytes IsWant call_number_again want_again number want rest good.0 good.1
message_again (Grant number items) rest good = two_again call_number_at grant_items_at Grant (big_endian 8) IsNumber grant_items_bytes AreGrantItems call_number_again grant_items_again number items rest good.0 good.1
message_again (Refuse number free needed) rest good = refuse_again number free needed rest good.0 good.1 good.2
message_again (Change number call) rest good = two_again call_number_at change_at Change (big_endian 8) IsNumber change_bytes IsChange call_number_again change_again number call rest good.0 good.1
message_again (Done number reply) rest good = two_again call_number_at reply_at Done (big_endian 8) IsNumber reply_bytes IsChangeReply call_number_again reply_again number reply rest good.0 good.1
message_again (Flush flush) rest good = mapped_again flush_at Flush flush_bytes IsFlush flush_again flush rest good
message_again (Flushed number) rest good = then_ok _ _ (number, rest) _ (number_is 8 number _ rest good refl) refl
message_again (Revoke revoke) rest good = mapped_again revoke_at Revoke revoke_bytes (λ r. IsInode r.ino × IsRevoke r) revoke_again revoke rest good
message_again (Release release) rest good = mapped_again release_at Release release_bytes (λ r. IsInode r.ino × IsRelease r) release_again release rest good
message_again Ask rest good = refl
message_again (Piece piece) rest good = mapped_again piece_at Piece piece_bytes IsPiece piece_again piece rest good
message_again (Wait number client) rest good = two_again call_number_at client_at Wait (big_endian 8) IsNumber (λ client. client.0 ∷ []) (λ client. client.0 < 16) call_number_again client_again number client rest good.0 good.1
message_again Admit rest good = refl

placed_ok : (bytes : List ℕ) (r : Read Message) (message : Message) → placed bytes r ≡ Ok message → r ≡ Ok (message, [])
placed_ok bytes (Err left) message e = absurd cc
placed_ok bytes (Ok (value, [])) message e = ap (λ (m : Message). let r : Read Message = Ok (m, []) in r) (ok_same _ _ e)
placed_ok bytes (Ok (value, byte ∷ rest)) message e = absurd cc

-- what is read is spelled so, and is in range
pub spelled : (bytes : List ℕ) (message : Message) → IsBytes bytes → message_of bytes ≡ Ok message → IsMessage message × (bytes ≡ message_bytes message)
unfolding message_of
spelled bytes message fits e =
    let took = message_takes bytes (message, []) fits (placed_ok bytes (message_at bytes) message e) in
    (took.good, took.is ∙ append-nil (message_bytes message))

-- what is spelled is read again
pub again : (message : Message) → IsMessage message → message_of (message_bytes message) ≡ Ok message
unfolding message_of
again message good =
    let bytes = message_bytes message in
    let read : message_at bytes ≡ Ok (message, []) = ap message_at (sym (append-nil bytes)) ∙ message_again message [] good in
    ap (placed bytes) read

-- what is answered is spelled so
pub answers_spelled : (bytes : List ℕ) (result : Result Message DecodeError) → IsBytes bytes → Answers result (message_of bytes) → IfOk result (λ message. IsMessage message × (bytes ≡ message_bytes message))
answers_spelled bytes (Ok message) fits e = spelled bytes message fits e
answers_spelled bytes (Err (BadMessage at)) fits e = tt
answers_spelled bytes (Err OutOfMemory) fits e = tt

-- what is spelled is answered
pub answers_again : (bytes : List ℕ) (result : Result Message DecodeError) (message : Message) → IsMessage message → bytes ≡ message_bytes message → Answers result (message_of bytes) → Answers result (Ok message)
answers_again bytes result message good is e = rw (ap message_of is ∙ again message good) at e
