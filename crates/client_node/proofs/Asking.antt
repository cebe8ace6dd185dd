-- An Ask has one spelling.
use Rattle.std.proofs.Common.{◌≡◌, ◌∷◌, [], ℕ, Bool, true, false, arith, List, Result, Ok, Err, ap, refl, subst, sym, length, nat_eq, slice_index_or}
use Rattle.std.specs.Bool.{Decides}
use Rattle.std.proofs.lemmas.Bool.Decides.{Decides-eqb}
use Rattle.message.specs.Bodies.{message_at, message_of}
use Rattle.message.specs.Range.{IsMessage}
use Rattle.message.specs.Reading.{byte_at}
use Rattle.message.specs.Spelling.{message_bytes}
use Rattle.message.specs.declared.message.Message.{Message}
use Rattle.message.specs.declared.message.Message.TheVariants.{Acquire, Grant, Refuse, Change, Done, Flush, Flushed, Revoke, Release, Ask, Piece, Wait, Admit}
use Rattle.client_node.specs.Node.{is_ask, message_if}

-- bytes that don't spell an Ask spell another message or none
other : (r : Result Message ℕ) → (r ≡ Ok Ask → ⊥) → is_ask (message_if r) ≡ false
other (Err at) bad = refl
other (Ok (Acquire number want)) bad = refl
other (Ok (Grant number items)) bad = refl
other (Ok (Refuse number free needed)) bad = refl
other (Ok (Change number call)) bad = refl
other (Ok (Done number reply)) bad = refl
other (Ok (Flush flush)) bad = refl
other (Ok (Flushed number)) bad = refl
other (Ok (Revoke revoke)) bad = refl
other (Ok (Release release)) bad = refl
other (Ok Ask) bad = absurd (bad refl)
other (Ok (Piece piece)) bad = refl
other (Ok (Wait number client)) bad = refl
other (Ok Admit) bad = refl

read_so : is_ask (message_if (message_of (10 ∷ []))) ≡ true
unfolding message_of message_at byte_at
read_so = refl

not_both : (r : Bool) → r ≡ false → r ≡ true → ⊥
not_both false is bad = absurd (cc)
not_both true is bad = absurd (cc)

-- what is read of bytes is spelled so
abbrev pub SpellsOnce : List ℕ → Type 0
SpellsOnce bytes = (message : Message) → message_of bytes ≡ Ok message → IsMessage message × (bytes ≡ message_bytes message)

-- bytes spell an Ask exactly where they are its spelling
asks : (bytes : List ℕ) (r : Bool) → SpellsOnce bytes → Decides r (bytes ≡ 10 ∷ []) → r ≡ is_ask (message_if (message_of bytes))
asks bytes true spelled decides = subst (λ (xs : List ℕ). true ≡ is_ask (message_if (message_of xs))) (sym (decides.0 refl)) (sym read_so)
asks bytes false spelled decides = sym (other (message_of bytes) (λ is. not_both false refl (decides.1 (spelled Ask is).1)))

one_byte : (bytes : List ℕ) → length bytes ≡ 1 → nat_eq (slice_index_or bytes 0 0) 10 ≡ true → bytes ≡ 10 ∷ []
one_byte [] count first = absurd (omega (arith, count))
one_byte (x ∷ []) count first = ap (λ y. y ∷ []) ((Decides-eqb x 10).0 first)
one_byte (x ∷ y ∷ ys) count first = absurd (omega (arith, count))

-- which is one byte
pub asks_by_byte : (bytes : List ℕ) → length bytes ≡ 1 → SpellsOnce bytes → nat_eq (slice_index_or bytes 0 0) 10 ≡ is_ask (message_if (message_of bytes))
asks_by_byte bytes count spelled = asks bytes _ spelled (one_byte bytes count, λ same. ap (λ (xs : List ℕ). nat_eq (slice_index_or xs 0 0) 10) same)

pub asks_by_count : (bytes : List ℕ) → (length bytes ≡ 1 → ⊥) → SpellsOnce bytes → nat_eq (length bytes) 1 ≡ is_ask (message_if (message_of bytes))
asks_by_count bytes count spelled = asks bytes _ spelled ((λ one. absurd (count ((Decides-eqb (length bytes) 1).0 one))), λ same. ap (λ (xs : List ℕ). nat_eq (length xs) 1) same)
