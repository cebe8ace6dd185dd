-- The words of a text that is put together of words and a text behind them.
use Rattle.std.proofs.Common.{◌≡◌, ◌==◌, ◌++◌, ◌<◌, ℕ, true, List, [], ◌∷◌, length, refl, sym, ap, ◌∙◌, arith, Ok}
use Rattle.std.specs.List.{join_with_byte}
use Rattle.std.proofs.lemmas.Bool.{and_parts}
use Rattle.std.proofs.lemmas.List.Splits.{length-slice_split}
use Rattle.line_words.specs.Words.{words}
use Rattle.line_words.proofs.Joined.{is_free, are_free, and_both, words_joined, words_free}
use Rattle.line_words.proofs.Kept.{text_again}
use Rattle.trace_lines.specs.Words.{text_left}

pub some_words : (text : List ℕ) → 0 < length (words text)
some_words text = omega (arith, length-slice_split (λ byte. byte == 32) text)

taken : (parts : List (List ℕ)) → 0 < length parts → text_left parts ≡ Ok (join_with_byte 32 parts)
taken [] h = absurd (omega (arith, h))
taken (part ∷ parts) h = refl

-- all words of a text are the text
pub text_taken : (text : List ℕ) → text_left (words text) ≡ Ok text
text_taken text = taken (words text) (some_words text) ∙ ap (λ (t : List ℕ). Ok t) (text_again text)

-- words, a space behind each, and a text behind these
abbrev pub before : List (List ℕ) → List ℕ → List ℕ
before [] text = text
before (word ∷ front) text = word ++ (32 ∷ before front text)

behind : (word : List ℕ) (parts : List (List ℕ)) → 0 < length parts → join_with_byte 32 (word ∷ parts) ≡ word ++ (32 ∷ join_with_byte 32 parts)
behind word [] h = absurd (omega (arith, h))
behind word (part ∷ parts) h = refl

next_is : (word text : List ℕ) → is_free word ≡ true → words (word ++ (32 ∷ text)) ≡ word ∷ words text
next_is word text h =
    ap (λ (t : List ℕ). words (word ++ (32 ∷ t))) (sym (text_again text))
    ∙ ap words (sym (behind word (words text) (some_words text)))
    ∙ words_joined word (words text) (and_both _ _ h (words_free text))

-- the words in front, and those of the text
pub front_is : (front : List (List ℕ)) (text : List ℕ) → are_free front ≡ true → words (before front text) ≡ front ++ words text
front_is [] text h = refl
front_is (word ∷ front) text h =
    let both = and_parts (is_free word) (are_free front) h in
    next_is word (before front text) both.0 ∙ ap (λ (parts : List (List ℕ)). word ∷ parts) (front_is front text both.1)

pub one_is : (word : List ℕ) → is_free word ≡ true → words word ≡ word ∷ []
one_is word h = words_joined word [] (and_both _ _ h refl)

-- the words in front and the last one
pub all_are : (front : List (List ℕ)) (last : List ℕ) → are_free front ≡ true → is_free last ≡ true → words (before front last) ≡ front ++ (last ∷ [])
all_are front last h e = front_is front last h ∙ ap (λ (parts : List (List ℕ)). front ++ parts) (one_is last e)
