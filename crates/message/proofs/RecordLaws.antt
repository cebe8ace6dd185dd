-- Flushes, revokes, releases and reports, against their spellings.
use Rattle.std.proofs.Common.{◌≡◌, ◌+◌, ◌<◌, ◌≤◌, ◌^◌, ◌∷◌, ◌++◌, [], ℕ, List, length, refl, sym, ap, ◌∙◌, arith, append_assoc}
use Rattle.std.specs.List.{flat_map}
use Rattle.cal_fields.specs.BigEndian.{big_endian}
use Rattle.token_kind.specs.Class.{class_number}
use Rattle.cal_base.specs.Blocks.{block_count}
use Rattle.token_kind.specs.Flush.{IsFlush}
use Rattle.token_kind.specs.Hold.{hold_number}
use Rattle.token_kind.specs.Kept.{IsRelease, IsRevoke}
use Rattle.token_kind.specs.Token.{IsReported}
use Rattle.token_kind.specs.declared.release.Release.{Release}
use Rattle.token_kind.specs.declared.revoke.Revoke.{Revoke}
use Rattle.cal_base.specs.declared.identity.Ino.{Ino}
use Rattle.token_kind.specs.declared.«class».Class.{Class}
use Rattle.token_kind.specs.declared.«class».Class.TheVariants.{Data, Attr}
use Rattle.token_kind.specs.declared.hold.Hold.{Hold}
use Rattle.message.specs.Reading.{byte_field, many_at, number_at}
use Rattle.message.specs.Field.{call_number_at, class_at, flag_at, held_of, inode_at, left_of, size_at, up_to}
use Rattle.message.specs.Tokens.{block_at, blocks_at, flush_at, kept_at, kept_items_at, piece_at, release_at, reported_at, revoke_at}
use Rattle.message.specs.Range.{IsInode, IsPiece}
use Rattle.message.specs.Spelling.{block_bytes, flag_byte, flush_bytes, flush_head_bytes, inode_bytes, items_bytes, piece_bytes, release_bytes, reported_bytes, revoke_bytes}
use Rattle.message.proofs.Exact.{Again, Takes, begin, many_again, many_takes, number_take, on, then_ok}
use Rattle.message.proofs.FieldLaws.{call_number_again, call_number_takes, count_again, count_takes, inode_again, inode_takes, size_again, size_takes}
use Rattle.message.proofs.Front.{number_is}
use Rattle.message.proofs.InTurn.{AreBlocks, AreKept, IsBlock, all_alike, alike_all, blocks_rise, blocks_whole, closed_within, kept_closed, kept_modes, kept_rise, rising_blocks, rising_kept, to_four}
use Rattle.message.proofs.KindLaws.{class_again, class_takes, flag_again, flag_takes, held_again, held_takes, kept_again, kept_takes, left_again, left_takes}
use Rattle.message.proofs.Parts.{bind_ok, ok_same}
use Rattle.message.proofs.TokenLaws.{SomeKept, block_again, block_takes, kept_items_again, kept_items_takes, regroup5}

asked_kept : (revoke : Revoke) → IsRevoke revoke → SomeKept 2 3 revoke.items
asked_kept revoke is = (is.some, is.few, rising_kept 3 0 revoke.items is.rising (closed_within revoke.items is.closed) is.modes)

kept_asked : (ino : Ino) (items : List (Class × Hold)) → SomeKept 2 3 items → IsRevoke (record { ino = ino; items = items })
kept_asked ino items are = record { some = are.0; few = are.1; rising = kept_rise 3 0 items are.2; closed = kept_closed 0 items are.2; modes = kept_modes 3 0 items are.2 }

told_kept : (release : Release) → IsRelease release → SomeKept 3 4 release.items
told_kept release is = (is.some, is.few, rising_kept 4 0 release.items is.rising (λ k d h. to_four _) is.modes)

kept_told : (ino : Ino) (items : List (Class × Hold)) → SomeKept 3 4 items → IsRelease (record { ino = ino; items = items })
kept_told ino items are = record { some = are.0; few = are.1; rising = kept_rise 4 0 items are.2; modes = kept_modes 4 0 items are.2 }

pub revoke_takes : Takes revoke_at revoke_bytes (λ revoke. IsInode revoke.ino × IsRevoke revoke)
unfolding revoke_at
revoke_takes bytes x fits e =
    let ino = bind_ok (inode_at bytes) _ x e in
    let inode = inode_takes bytes ino.0 fits ino.1 in
    let items = bind_ok (kept_items_at 2 3 ino.0.1) _ x ino.2 in
    let took = kept_items_takes 2 3 ino.0.1 items.0 inode.fits items.1 in
    rw (← ok_same _ _ items.2) (record { is = (on (begin inode) took).is; good = (inode.good, kept_asked ino.0.0 items.0.0 took.good); fits = took.fits })

pub revoke_again : Again revoke_at revoke_bytes (λ revoke. IsInode revoke.ino × IsRevoke revoke)
unfolding revoke_at
revoke_again revoke rest good =
    ap revoke_at (append_assoc (inode_bytes revoke.ino) (items_bytes revoke.items) rest)
    ∙ then_ok _ _ (revoke.ino, items_bytes revoke.items ++ rest) _ (inode_again revoke.ino (items_bytes revoke.items ++ rest) good.0)
    (then_ok _ _ (revoke.items, rest) _ (kept_items_again 2 3 revoke.items rest (asked_kept revoke good.1)) refl)

pub release_takes : Takes release_at release_bytes (λ release. IsInode release.ino × IsRelease release)
unfolding release_at
release_takes bytes x fits e =
    let ino = bind_ok (inode_at bytes) _ x e in
    let inode = inode_takes bytes ino.0 fits ino.1 in
    let items = bind_ok (kept_items_at 3 4 ino.0.1) _ x ino.2 in
    let took = kept_items_takes 3 4 ino.0.1 items.0 inode.fits items.1 in
    rw (← ok_same _ _ items.2) (record { is = (on (begin inode) took).is; good = (inode.good, kept_told ino.0.0 items.0.0 took.good); fits = took.fits })

pub release_again : Again release_at release_bytes (λ release. IsInode release.ino × IsRelease release)
unfolding release_at
release_again release rest good =
    ap release_at (append_assoc (inode_bytes release.ino) (items_bytes release.items) rest)
    ∙ then_ok _ _ (release.ino, items_bytes release.items ++ rest) _ (inode_again release.ino (items_bytes release.items ++ rest) good.0)
    (then_ok _ _ (release.items, rest) _ (kept_items_again 3 4 release.items rest (told_kept release good.1)) refl)

reported_takes : Takes reported_at reported_bytes IsReported
unfolding reported_at reported_bytes
reported_takes bytes x fits e =
    let ino = bind_ok (inode_at bytes) _ x e in
    let inode = inode_takes bytes ino.0 fits ino.1 in
    let of = bind_ok (class_at ino.0.1) _ x ino.2 in
    let class_took = class_takes ino.0.1 of.0 inode.fits of.1 in
    let hold = bind_ok (byte_field (held_of of.0.0) of.0.1) _ x of.2 in
    let hold_took = held_takes of.0.0 of.0.1 hold.0 class_took.fits hold.1 in
    let flush = bind_ok (number_at 8 hold.0.1) _ x hold.2 in
    let flush_took = number_take 8 hold.0.1 flush.0 hold_took.fits flush.1 in
    let leave = bind_ok (byte_field (left_of of.0.0 flush.0.0) flush.0.1) _ x flush.2 in
    let leave_took = left_takes of.0.0 flush.0.0 flush.0.1 leave.0 flush_took.fits leave.1 in
    rw (← ok_same _ _ leave.2) (record {
      is = (on (on (on (on (begin inode) class_took) hold_took) flush_took) leave_took).is;
      good = record {
        ino = inode.good;
        held = hold_took.good.0;
        modes = record { hold = hold_took.good.1; leave = leave_took.good.1 };
        flush = flush_took.good;
        no_flush = leave_took.good.0;
      };
      fits = leave_took.fits;
    })

reported_again : Again reported_at reported_bytes IsReported
unfolding reported_at reported_bytes
reported_again reported rest good =
    let a = inode_bytes reported.token.ino in
    let b = class_number reported.token.class ∷ [] in
    let c = hold_number reported.token.hold ∷ [] in
    let d = big_endian 8 reported.flush in
    let e = hold_number reported.leave ∷ [] in
    ap reported_at (regroup5 a b c d e rest)
    ∙ then_ok _ _ (reported.token.ino, b ++ (c ++ (d ++ (e ++ rest)))) _ (inode_again reported.token.ino (b ++ (c ++ (d ++ (e ++ rest)))) good.ino)
    (then_ok _ _ (reported.token.class, c ++ (d ++ (e ++ rest))) _ (class_again reported.token.class (c ++ (d ++ (e ++ rest))) tt)
    (then_ok _ _ (reported.token.hold, d ++ (e ++ rest)) _ (held_again reported.token.class reported.token.hold (d ++ (e ++ rest)) (good.held, good.modes.hold))
    (then_ok _ _ (reported.flush, e ++ rest) _ (number_is 8 reported.flush _ (e ++ rest) good.flush refl)
    (then_ok _ _ (reported.leave, rest) _ (left_again reported.token.class reported.flush reported.leave rest (good.no_flush, good.modes.leave)) refl))))

regroup4 : (a b c d rest : List ℕ) → (a ++ b ++ c ++ d) ++ rest ≡ a ++ (b ++ (c ++ (d ++ rest)))
regroup4 a b c d rest = simp append_assoc refl

pub piece_takes : Takes piece_at piece_bytes IsPiece
unfolding piece_at piece_bytes
piece_takes bytes x fits e =
    let index = bind_ok (number_at 2 bytes) _ x e in
    let indexed = number_take 2 bytes index.0 fits index.1 in
    let last = bind_ok (flag_at index.0.1) _ x index.2 in
    let last_took = flag_takes index.0.1 last.0 indexed.fits last.1 in
    let count = bind_ok (byte_field (up_to 32) last.0.1) _ x last.2 in
    let counted = count_takes 32 last.0.1 count.0 last_took.fits count.1 in
    let holds = bind_ok (many_at {S = Unit {0}} (λ before. reported_at) (λ hold. tt) count.0.0 tt count.0.1) _ x count.2 in
    let took = many_takes {S = Unit {0}} (λ before. reported_at) (λ hold. tt) reported_bytes (λ before. IsReported) (λ s. reported_takes) count.0.0 tt count.0.1 holds.0 counted.fits holds.1 in
    let front = big_endian 2 index.0.0 ++ (flag_byte last.0.0 ∷ []) in
    rw (← ok_same _ _ holds.2) (record {
      is = (on (on (on (begin indexed) last_took) counted) took.1).is ∙ ap (λ n. (front ++ (n ∷ []) ++ flat_map reported_bytes holds.0.0) ++ holds.0.1) (sym took.0);
      good = record { index = indexed.good; count = (let c = counted.good in omega (arith, c, took.0)); each = alike_all IsReported holds.0.0 took.1.good };
      fits = took.1.fits;
    })

pub piece_again : Again piece_at piece_bytes IsPiece
unfolding piece_at piece_bytes
piece_again piece rest good =
    let a = big_endian 2 piece.index in
    let b = flag_byte piece.last ∷ [] in
    let c = length piece.holds ∷ [] in
    let d = flat_map reported_bytes piece.holds in
    ap piece_at (regroup4 a b c d rest)
    ∙ then_ok _ _ (piece.index, b ++ (c ++ (d ++ rest))) _ (number_is 2 piece.index _ (b ++ (c ++ (d ++ rest))) good.index refl)
    (then_ok _ _ (piece.last, c ++ (d ++ rest)) _ (flag_again piece.last (c ++ (d ++ rest)) tt)
    (then_ok _ _ (length piece.holds, d ++ rest) _ (count_again 32 (length piece.holds) (d ++ rest) good.count)
    (then_ok _ _ (piece.holds, rest) _ (many_again {S = Unit {0}} (λ before. reported_at) (λ hold. tt) reported_bytes (λ before. IsReported) (λ s. reported_again) piece.holds tt rest (all_alike IsReported piece.holds good.each)) refl)))

regroup8 : (a b c d e f g h rest : List ℕ) → (a ++ b ++ c ++ d ++ e ++ f ++ g ++ h) ++ rest ≡ a ++ (b ++ (c ++ (d ++ (e ++ (f ++ (g ++ (h ++ rest)))))))
regroup8 a b c d e f g h rest = simp append_assoc refl

abbrev pieces_bytes : List (ℕ × List ℕ) → List ℕ
pieces_bytes pieces = (length pieces ∷ []) ++ flat_map block_bytes pieces

abbrev ArePieces : ℕ → List (ℕ × List ℕ) → Type 0
ArePieces blocks pieces = (length pieces ≤ 16) × AreBlocks blocks 0 pieces

pieces_takes : (blocks : ℕ) → Takes (blocks_at blocks) pieces_bytes (ArePieces blocks)
unfolding blocks_at
pieces_takes blocks bytes x fits e =
    let count = bind_ok (byte_field (up_to 16) bytes) _ x e in
    let counted = count_takes 16 bytes count.0 fits count.1 in
    let pieces = many_takes (block_at blocks) (λ block. block.0 + 1) block_bytes (IsBlock blocks) (block_takes blocks) count.0.0 0 count.0.1 x counted.fits count.2 in
    record {
      is = (on (begin counted) pieces.1).is ∙ ap (λ n. ((n ∷ []) ++ flat_map block_bytes x.0) ++ x.1) (sym pieces.0);
      good = ((let c = counted.good in omega (arith, c, pieces.0)), pieces.1.good);
      fits = pieces.1.fits;
    }

pieces_again : (blocks : ℕ) → Again (blocks_at blocks) pieces_bytes (ArePieces blocks)
unfolding blocks_at
pieces_again blocks pieces rest good =
    then_ok _ _ (length pieces, flat_map block_bytes pieces ++ rest) _ (count_again 16 (length pieces) (flat_map block_bytes pieces ++ rest) good.0)
    (many_again (block_at blocks) (λ block. block.0 + 1) block_bytes (IsBlock blocks) (block_again blocks) pieces 0 rest good.1)

pub flush_takes : Takes flush_at flush_bytes IsFlush
unfolding flush_at flush_bytes flush_head_bytes
flush_takes bytes x fits e =
    let number = bind_ok (call_number_at bytes) _ x e in
    let number_took = call_number_takes bytes number.0 fits number.1 in
    let ino = bind_ok (inode_at number.0.1) _ x number.2 in
    let inode = inode_takes number.0.1 ino.0 number_took.fits ino.1 in
    let size = bind_ok (size_at 262144 ino.0.1) _ x ino.2 in
    let size_took = size_takes 262144 ino.0.1 size.0 inode.fits size.1 in
    let cut = bind_ok (size_at size.0.0 size.0.1) _ x size.2 in
    let cut_took = size_takes size.0.0 size.0.1 cut.0 size_took.fits cut.1 in
    let leave_data = bind_ok (kept_at Data cut.0.1) _ x cut.2 in
    let data_took = kept_takes Data cut.0.1 leave_data.0 cut_took.fits leave_data.1 in
    let leave_attr = bind_ok (kept_at Attr leave_data.0.1) _ x leave_data.2 in
    let attr_took = kept_takes Attr leave_data.0.1 leave_attr.0 data_took.fits leave_attr.1 in
    let pieces = bind_ok (blocks_at (block_count size.0.0) leave_attr.0.1) _ x leave_attr.2 in
    let pieces_took = pieces_takes (block_count size.0.0) leave_attr.0.1 pieces.0 attr_took.fits pieces.1 in
    let front = on (on (on (on (on (begin number_took) inode) size_took) cut_took) data_took) attr_took in
    let texts = big_endian 8 number.0.0 ++ inode_bytes ino.0.0 ++ big_endian 4 size.0.0 ++ big_endian 4 cut.0.0 ++ (hold_number leave_data.0.0 ∷ []) ++ (hold_number leave_attr.0.0 ∷ []) in
    rw (← ok_same _ _ pieces.2) (record {
      is = (on front pieces_took).is ∙ ap (λ (t : List ℕ). t ++ pieces.0.1) (sym (append_assoc texts (length pieces.0.0 ∷ []) (flat_map block_bytes pieces.0.0)));
      good = record {
        number = number_took.good.0;
        fits = number_took.good.1;
        ino = inode.good;
        size = size_took.good;
        cut = cut_took.good;
        leave_data = data_took.good;
        leave_attr = attr_took.good;
        few = pieces_took.good.0;
        rising = blocks_rise (block_count size.0.0) 0 pieces.0.0 pieces_took.good.1;
        whole = blocks_whole (block_count size.0.0) 0 pieces.0.0 pieces_took.good.1;
      };
      fits = pieces_took.fits;
    })

pub flush_again : Again flush_at flush_bytes IsFlush
unfolding flush_at flush_bytes flush_head_bytes
flush_again flush rest good =
    let a = big_endian 8 flush.number in
    let b = inode_bytes flush.ino in
    let c = big_endian 4 flush.size in
    let d = big_endian 4 flush.cut in
    let e = hold_number flush.leave_data ∷ [] in
    let f = hold_number flush.leave_attr ∷ [] in
    let g = length flush.pieces ∷ [] in
    let h = flat_map block_bytes flush.pieces in
    let small : flush.size < 2 ^ 32 = (let s = good.size in omega (arith, s)) in
    ap flush_at (regroup8 a b c d e f g h rest)
    ∙ then_ok _ _ (flush.number, b ++ (c ++ (d ++ (e ++ (f ++ (g ++ (h ++ rest))))))) _ (call_number_again flush.number (b ++ (c ++ (d ++ (e ++ (f ++ (g ++ (h ++ rest))))))) (good.number, good.fits))
    (then_ok _ _ (flush.ino, c ++ (d ++ (e ++ (f ++ (g ++ (h ++ rest)))))) _ (inode_again flush.ino (c ++ (d ++ (e ++ (f ++ (g ++ (h ++ rest)))))) good.ino)
    (then_ok _ _ (flush.size, d ++ (e ++ (f ++ (g ++ (h ++ rest))))) _ (size_again 262144 (omega arith) flush.size (d ++ (e ++ (f ++ (g ++ (h ++ rest))))) good.size)
    (then_ok _ _ (flush.cut, e ++ (f ++ (g ++ (h ++ rest)))) _ (size_again flush.size small flush.cut (e ++ (f ++ (g ++ (h ++ rest)))) good.cut)
    (then_ok _ _ (flush.leave_data, f ++ (g ++ (h ++ rest))) _ (kept_again Data flush.leave_data (f ++ (g ++ (h ++ rest))) good.leave_data)
    (then_ok _ _ (flush.leave_attr, g ++ (h ++ rest)) _ (kept_again Attr flush.leave_attr (g ++ (h ++ rest)) good.leave_attr)
    (then_ok _ _ (flush.pieces, rest) _ (pieces_again (block_count flush.size) flush.pieces rest (good.few, rising_blocks (block_count flush.size) 0 flush.pieces good.rising good.whole)) refl))))))
