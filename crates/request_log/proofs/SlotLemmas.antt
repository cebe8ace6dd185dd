-- The bytes of a slot.
use Rattle.std.proofs.Common.{◌≡◌, ◌≢◌, ◌+◌, ◌-◌, ◌^◌, ◌<◌, ◌≤◌, ◌++◌, ℕ, Bool, true, false, List, [], ◌∷◌, length, refl, sym, ap, subst, ◌∙◌, arith, append_assoc, length-append, inl, inr}
use Rattle.std.proofs.lemmas.Bool.{cases_eq}
use Rattle.std.proofs.lemmas.Bool.Decides.{nat_tests}
use Rattle.cal_base.specs.Limits.{block_size}
use Rattle.cal_fields.specs.BigEndian.{big_endian}
use Rattle.cal_fields.specs.Padded.{padded, zeros}
use Rattle.cal_fields.proofs.BigEndianLemmas.{big_endian-cancel, length-big_endian}
use Rattle.cal_fields.proofs.PaddedLemmas.{length-padded, length-zeros, padded-cancel}
use Rattle.tree_law.specs.declared.reply.Reply.{Reply}
use Rattle.tree_law.specs.declared.reply.Reply.TheVariants.{Done}
use Rattle.change_reply.specs.ReplyAt.{reply_at}
use Rattle.change_reply.specs.ReplyBytes.{IsChangeReply, reply_bytes}
use Rattle.change_reply.proofs.ReplyLemmas.{lengths, reply_again, same_read}
use Rattle.request_log.specs.declared.slot.Slot.{Slot}
use Rattle.request_log.specs.Kept.{IsLast, StandsBehind}
use Rattle.cal_fields.specs.Flag.{bool_byte}
use Rattle.request_log.specs.Slot.{SpellsSlot, head_bytes, head_size, kept_bytes}

bool_byte-cancel : (a b : Bool) → bool_byte a ≡ bool_byte b → a ≡ b
bool_byte-cancel false false e = refl
bool_byte-cancel false true e = absurd (omega arith)
bool_byte-cancel true false e = absurd (omega arith)
bool_byte-cancel true true e = refl

pub bool_byte_small : (b : Bool) → bool_byte b < 2
bool_byte_small false = omega arith
bool_byte_small true = omega arith

pub length-head_bytes : (purged call flush size : ℕ) → length (head_bytes purged call flush size) ≡ head_size
length-head_bytes purged call flush size =
    omega (
      arith,
      length-append ((purged ∷ big_endian 8 call) ++ big_endian 8 flush) (big_endian 2 size),
      length-append (purged ∷ big_endian 8 call) (big_endian 8 flush),
      length-big_endian 8 call,
      length-big_endian 8 flush,
      length-big_endian 2 size,
    )

-- the head, number by number
pub head_is : (purged call flush size : ℕ) (rest : List ℕ) → head_bytes purged call flush size ++ rest ≡ purged ∷ (big_endian 8 call ++ (big_endian 8 flush ++ (big_endian 2 size ++ rest)))
head_is purged call flush size rest =
    append_assoc ((purged ∷ big_endian 8 call) ++ big_endian 8 flush) (big_endian 2 size) rest
    ∙ append_assoc (purged ∷ big_endian 8 call) (big_endian 8 flush) (big_endian 2 size ++ rest)

-- what a head tells
pub record SameHead (p c f s : ℕ) (xs : List ℕ) (q d g t : ℕ) (ys : List ℕ) : Type 0 where
  pub purged : p ≡ q
  pub call : c ≡ d
  pub flush : f ≡ g
  pub size : s ≡ t
  pub rest : xs ≡ ys

pub head_bytes-cancel : (p c f s : ℕ) (xs : List ℕ) (q d g t : ℕ) (ys : List ℕ) → c < 2 ^ 64 → d < 2 ^ 64 → f < 2 ^ 64 → g < 2 ^ 64 → s < 2 ^ 16 → t < 2 ^ 16
    → head_bytes p c f s ++ xs ≡ head_bytes q d g t ++ ys → SameHead p c f s xs q d g t ys
head_bytes-cancel p c f s xs q d g t ys fc fd ff fg fs ft e =
    let all : (p ∷ (big_endian 8 c ++ (big_endian 8 f ++ (big_endian 2 s ++ xs)))) ≡ (q ∷ (big_endian 8 d ++ (big_endian 8 g ++ (big_endian 2 t ++ ys)))) =
    sym (head_is p c f s xs) ∙ e ∙ head_is q d g t ys in
    let purged : p ≡ q = cc in
    let behind : big_endian 8 c ++ (big_endian 8 f ++ (big_endian 2 s ++ xs)) ≡ big_endian 8 d ++ (big_endian 8 g ++ (big_endian 2 t ++ ys)) = cc in
    let call = big_endian-cancel 8 c d (big_endian 8 f ++ (big_endian 2 s ++ xs)) (big_endian 8 g ++ (big_endian 2 t ++ ys)) (omega arith) (omega arith) behind in
    let flush = big_endian-cancel 8 f g (big_endian 2 s ++ xs) (big_endian 2 t ++ ys) (omega arith) (omega arith) call.1 in
    let size = big_endian-cancel 2 s t xs ys (omega arith) (omega arith) flush.1 in
    record { purged = purged; call = call.0; flush = flush.0; size = size.0; rest = size.1 }

-- a head, and a piece behind it with zeros behind that, is a whole sector
pub padded_behind : (head piece : List ℕ) (n m : ℕ) → length head + m ≡ n → padded n (head ++ piece) ≡ head ++ padded m piece
unfolding padded
padded_behind head piece n m size =
    let same : n - length (head ++ piece) ≡ m - length piece = omega (arith, length-append head piece) in
    append_assoc head piece (zeros (n - length (head ++ piece))) ∙ ap (λ (k : ℕ). head ++ (piece ++ zeros k)) same

-- behind a number above 0 a reply has its bytes, and behind 0 it has none
pub kept_some : (call : ℕ) (reply : Reply) → call ≢ 0 → kept_bytes call reply ≡ reply_bytes reply
kept_some call reply some = grind (arith, nat_tests)

pub kept_none : (call : ℕ) (reply : Reply) → call ≡ 0 → kept_bytes call reply ≡ []
kept_none call reply none = grind (arith, nat_tests)

pub length-kept_bytes : (call : ℕ) (reply : Reply) → IsChangeReply reply → length (kept_bytes call reply) ≤ 5
length-kept_bytes call reply is = elim (cases_eq call 0) [
  | inl none ↦ (let size = ap length (kept_none call reply none) in omega arith)
  | inr some ↦ (let size = ap length (kept_some call reply some) in elim (lengths reply is) [ inl one ↦ omega arith | inr five ↦ omega arith ])
]

-- the reply of a change, and the one behind a number above 0
pub stands_last : (call size : ℕ) (behind : List ℕ) (reply : Reply) → call ≢ 0 → IsLast size behind reply → StandsBehind call size behind reply
stands_last call size behind reply some l =
    let same = kept_some call reply some in
    record {
      kept = record { change = l.change; none = λ none. absurd (some none) };
      long = l.long ∙ ap length (sym same);
      whole = l.whole ∙ ap (padded (length behind)) (sym same);
    }

pub last_stands : (call size : ℕ) (behind : List ℕ) (reply : Reply) → call ≢ 0 → StandsBehind call size behind reply → IsLast size behind reply
last_stands call size behind reply some s =
    let same = kept_some call reply some in
    record { change = s.kept.change; long = s.long ∙ ap length same; whole = s.whole ∙ ap (padded (length behind)) same }

padded-nil : (size : ℕ) → padded size [] ≡ zeros size
unfolding padded
padded-nil size = (let all : size - 0 ≡ size = omega arith in ap zeros all)

-- no reply behind 0
pub stands_none : (call size : ℕ) (behind : List ℕ) → call ≡ 0 → size ≡ 0 → behind ≡ zeros (length behind) → StandsBehind call size behind Done
stands_none call size behind none long whole =
    let same = kept_none call Done none in
    record {
      kept = record { change = tt; none = λ _. refl };
      long = long ∙ ap length (sym same);
      whole = whole ∙ sym (padded-nil (length behind)) ∙ ap (padded (length behind)) (sym same);
    }

pub none_stands : (call size : ℕ) (behind : List ℕ) (reply : Reply) → call ≡ 0 → StandsBehind call size behind reply → (size ≡ 0) × (behind ≡ zeros (length behind))
none_stands call size behind reply none s =
    let same = kept_none call reply none in
    (s.long ∙ ap length same, s.whole ∙ ap (padded (length behind)) same ∙ padded-nil (length behind))

-- a reply that was taken, behind which zeros stand
pub last_taken : (behind rest : List ℕ) (size : ℕ) (reply : Reply) → IsChangeReply reply → behind ≡ reply_bytes reply ++ rest → length behind - length rest ≡ size → rest ≡ zeros (length rest)
    → IsLast size behind reply
unfolding padded
last_taken behind rest size reply is taken long none =
    let whole = ap length taken ∙ length-append (reply_bytes reply) rest in
    let left : length rest ≡ length behind - length (reply_bytes reply) = omega arith in
    record { change = is; long = omega arith; whole = taken ∙ ap (λ (xs : List ℕ). reply_bytes reply ++ xs) (none ∙ ap zeros left) }

-- the last reply and the zeros behind it, to be taken
pub last_parts : (size : ℕ) (behind : List ℕ) (reply : Reply) → IsLast size behind reply → behind ≡ reply_bytes reply ++ zeros (length behind - length (reply_bytes reply))
unfolding padded
last_parts size behind reply l = l.whole

-- a reply that a slot keeps is told by its bytes
pub same_kept : (call size : ℕ) (behind : List ℕ) (a b : Reply) → StandsBehind call size behind a → StandsBehind call size behind b → a ≡ b
same_kept call size behind a b s t = elim (cases_eq call 0) [
  | inl none ↦ s.kept.none none ∙ sym (t.kept.none none)
  | inr some ↦ (
      let l = last_stands call size behind a some s in
      let m = last_stands call size behind b some t in
      let same : reply_bytes a ≡ reply_bytes b = padded-cancel (length behind) (reply_bytes a) (reply_bytes b) (sym l.long ∙ m.long) (sym l.whole ∙ m.whole) in
      (same_read a b [] [] (sym (reply_again a [] l.change) ∙ ap (λ (xs : List ℕ). reply_at (xs ++ [])) same ∙ reply_again b [] m.change)).0)
]

-- what the front and the rest of a sector tell of the slot that it spells
pub told : (sector behind : List ℕ) (p c f s : ℕ) (slot : Slot) → sector ≡ head_bytes p c f s ++ behind → length behind ≡ block_size - head_size → c < 2 ^ 64 → f < 2 ^ 64 → s < 2 ^ 16 → SpellsSlot sector slot
    → SameHead p c f s behind (bool_byte slot.purged) slot.call slot.flush (length (kept_bytes slot.call slot.reply)) (padded (length behind) (kept_bytes slot.call slot.reply))
told sector behind p c f s slot head left fc ff fs spells =
    let kept = kept_bytes slot.call slot.reply in
    let few = length-kept_bytes slot.call slot.reply spells.slot.reply.change in
    let front = length-head_bytes (bool_byte slot.purged) slot.call slot.flush (length kept) in
    let parts = padded_behind (head_bytes (bool_byte slot.purged) slot.call slot.flush (length kept)) kept block_size (length behind) (omega arith) in
    head_bytes-cancel p c f s behind (bool_byte slot.purged) slot.call slot.flush (length kept) (padded (length behind) kept) fc spells.slot.call ff spells.slot.flush fs (omega arith)
    (sym head ∙ spells.whole ∙ parts)

pub told_kept : (sector behind : List ℕ) (p c f s : ℕ) (slot : Slot) → sector ≡ head_bytes p c f s ++ behind → length behind ≡ block_size - head_size → c < 2 ^ 64 → f < 2 ^ 64 → s < 2 ^ 16 → SpellsSlot sector slot
    → StandsBehind c s behind slot.reply
told_kept sector behind p c f s slot head left fc ff fs spells =
    let t = told sector behind p c f s slot head left fc ff fs spells in
    subst (λ (n : ℕ). StandsBehind n s behind slot.reply) (sym t.call) (record { kept = spells.slot.reply; long = t.size; whole = t.rest })

made : (a b : Slot) → a.purged ≡ b.purged → a.call ≡ b.call → a.flush ≡ b.flush → a.reply ≡ b.reply → a ≡ b
made a b p c f r =
    let build : Bool → ℕ → ℕ → Reply → Slot = λ p c f r. record { purged = p; call = c; flush = f; reply = r } in
    ap (λ (x : Bool). build x a.call a.flush a.reply) p
    ∙ ap (λ (x : ℕ). build b.purged x a.flush a.reply) c
    ∙ ap (λ (x : ℕ). build b.purged b.call x a.reply) f
    ∙ ap (λ (x : Reply). build b.purged b.call b.flush x) r

-- the slot that is read is the one that is spelled
pub same_read_slot : (sector behind : List ℕ) (p c f s : ℕ) (purged : Bool) (reply : Reply) (slot : Slot) → sector ≡ head_bytes p c f s ++ behind → length behind ≡ block_size - head_size → c < 2 ^ 64 → f < 2 ^ 64 → s < 2 ^ 16
    → p ≡ bool_byte purged → StandsBehind c s behind reply → SpellsSlot sector slot → record { purged = purged; call = c; flush = f; reply = reply } ≡ slot
same_read_slot sector behind p c f s purged reply slot head left fc ff fs is stands spells =
    let t = told sector behind p c f s slot head left fc ff fs spells in
    made (record { purged = purged; call = c; flush = f; reply = reply }) slot (bool_byte-cancel purged slot.purged (sym is ∙ t.purged)) t.call t.flush
    (same_kept c s behind reply slot.reply stands (told_kept sector behind p c f s slot head left fc ff fs spells))

-- what is read is spelled
pub read_spells : (sector behind : List ℕ) (p c f s : ℕ) (purged : Bool) (reply : Reply) → sector ≡ head_bytes p c f s ++ behind → length behind ≡ block_size - head_size → c < 2 ^ 64 → f < 2 ^ 64
    → p ≡ bool_byte purged → StandsBehind c s behind reply → SpellsSlot sector (record { purged = purged; call = c; flush = f; reply = reply })
read_spells sector behind p c f s purged reply head left fc ff is stands =
    let kept = kept_bytes c reply in
    let front = length-head_bytes (bool_byte purged) c f (length kept) in
    let same : head_bytes p c f s ≡ head_bytes (bool_byte purged) c f (length kept) = ap (λ (x : ℕ). head_bytes x c f s) is ∙ ap (λ (x : ℕ). head_bytes (bool_byte purged) c f x) stands.long in
    record {
      slot = record { call = fc; flush = ff; reply = stands.kept };
      whole = head ∙ ap (λ (xs : List ℕ). xs ++ behind) same ∙ ap (λ (xs : List ℕ). head_bytes (bool_byte purged) c f (length kept) ++ xs) stands.whole
          ∙ sym (padded_behind (head_bytes (bool_byte purged) c f (length kept)) kept block_size (length behind) (omega arith));
    }

-- a sector spells one slot
pub same_slot : (sector : List ℕ) (a b : Slot) → SpellsSlot sector a → SpellsSlot sector b → a ≡ b
same_slot sector a b s t =
    let kept = kept_bytes a.call a.reply in
    let few = length-kept_bytes a.call a.reply s.slot.reply.change in
    let front = length-head_bytes (bool_byte a.purged) a.call a.flush (length kept) in
    let behind = padded (block_size - head_size) kept in
    let left : length behind ≡ block_size - head_size = length-padded (block_size - head_size) kept (omega arith) in
    let head : sector ≡ head_bytes (bool_byte a.purged) a.call a.flush (length kept) ++ behind = s.whole ∙ padded_behind (head_bytes (bool_byte a.purged) a.call a.flush (length kept)) kept 4096 4077 (omega arith) in
    same_read_slot sector behind (bool_byte a.purged) a.call a.flush (length kept) a.purged a.reply b head left s.slot.call s.slot.flush (omega arith) refl
    (record { kept = s.slot.reply; long = refl; whole = ap (λ (n : ℕ). padded n kept) (sym left) }) t

-- the last reply ends where zeros begin
pub last_ends : (behind rest : List ℕ) (size : ℕ) (reply : Reply) → IsLast size behind reply → rest ≡ zeros (length behind - length (reply_bytes reply))
    → (length behind - length rest ≡ size) × (rest ≡ zeros (length rest))
last_ends behind rest size reply l left =
    let whole = ap length (last_parts size behind reply l) ∙ length-append (reply_bytes reply) (zeros (length behind - length (reply_bytes reply))) in
    let count : length rest ≡ length behind - length (reply_bytes reply) = ap length left ∙ length-zeros (length behind - length (reply_bytes reply)) in
    let zeroes = length-zeros (length behind - length (reply_bytes reply)) in
    let long = l.long in
    (omega arith, left ∙ ap zeros (sym count))
