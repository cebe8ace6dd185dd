use Rattle.std.proofs.Common.{◌≡◌, ◌<◌, ◌++◌, ◌^◌, ℕ, List, [], ◌∷◌, length, take, drop, slice_index, sym, ap, ◌∙◌, arith, length-append}
use Rattle.std.proofs.lemmas.List.{take_at, drop_at}
use Rattle.cal_fields.specs.BigEndian.{big_endian}
use Rattle.cal_fields.proofs.BigEndianLemmas.{big_endian-cancel, length-big_endian}
use Rattle.cal_fields.proofs.PaddedLemmas.{padded-cancel}
use Rattle.volume.specs.Head.{SpellsHead, head_fields, mark}

-- what the bytes of a head tell
pub record AreSame (ma mb : List ℕ) (sa sb ca cb : ℕ) : Type 0 where
  pub mark : ma ≡ mb
  pub sectors : sa ≡ sb
  pub clients : ca ≡ cb

pub same_fields : (ma mb : List ℕ) (sa sb ca cb : ℕ) → length ma ≡ 8 → length mb ≡ 8 → sa < 256 ^ 4 → sb < 256 ^ 4
    → ma ++ (big_endian 4 sa ++ ca ∷ []) ≡ mb ++ (big_endian 4 sb ++ cb ∷ []) → AreSame ma mb sa sb ca cb
same_fields ma mb sa sb ca cb la lb fa fb e =
    let behind_a = big_endian 4 sa ++ ca ∷ [] in
    let behind_b = big_endian 4 sb ++ cb ∷ [] in
    let marks : ma ≡ mb = sym (take_at ma behind_a 8 la) ∙ ap (take 8) e ∙ take_at mb behind_b 8 lb in
    let rests : behind_a ≡ behind_b = sym (drop_at ma behind_a 8 la) ∙ ap (drop 8) e ∙ drop_at mb behind_b 8 lb in
    let split = big_endian-cancel 4 sa sb (ca ∷ []) (cb ∷ []) fa fb rests in
    record { mark = marks; sectors = split.0; clients = ap (λ (xs : List ℕ). slice_index xs 0) split.1 }

-- the fields of a head are 13 bytes
pub length-head_fields : (clients : ℕ) → length (head_fields clients) ≡ 13
length-head_fields clients = omega (arith, length-append (big_endian 4 2596) (clients ∷ []), length-big_endian 4 2596)

-- the fields of a head tell the count of clients
pub same_clients : (a b : ℕ) → head_fields a ≡ head_fields b → a ≡ b
same_clients a b e = let same = same_fields mark mark 2596 2596 a b (omega arith) (omega arith) (omega arith) (omega arith) e in same.clients

-- a sector spells the head of one count
pub same_head : (sector : List ℕ) (a b : ℕ) → SpellsHead sector a → SpellsHead sector b → a ≡ b
same_head sector a b s t = same_clients a b (padded-cancel 4096 (head_fields a) (head_fields b) (length-head_fields a ∙ sym (length-head_fields b)) (sym s.whole ∙ t.whole))
