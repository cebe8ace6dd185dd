-- Tokens, flushes and reports, against their spellings.
use Rattle.std.proofs.Common.{◌≡◌, ◌≤◌, ◌∷◌, ◌++◌, [], ℕ, Bool, true, false, List, length, refl, sym, ap, ◌∙◌, arith, append_assoc}
use Rattle.std.specs.List.{flat_map}
use Rattle.cal_fields.specs.BigEndian.{big_endian}
use Rattle.token_kind.specs.Class.{class_number}
use Rattle.token_kind.specs.Hold.{hold_number}
use Rattle.token_kind.specs.declared.«class».Class.{Class}
use Rattle.token_kind.specs.declared.«class».Class.TheVariants.{Names, Data, Attr, Open}
use Rattle.token_kind.specs.declared.content.Content.TheVariants.{Nothing as NoContent, Names as Entries, Bytes, Size}
use Rattle.token_kind.specs.declared.hold.Hold.{Hold}
use Rattle.message.specs.Reading.{byte_field, number_at, take_at}
use Rattle.message.specs.Field.{class_at, fresh_of, hold_of, inode_at, next_class_of, one_to, size_at}
use Rattle.message.specs.Names.{entries_at}
use Rattle.message.specs.Tokens.{block_at, bytes_at, content_at, fresh_content_at, grant_item_at, grant_items_at, index_at, kept_at, kept_item_at, kept_items_at}
use Rattle.message.specs.Range.{AreGrantItems, IsContent, IsFreshContent, IsGrantItem}
use Rattle.message.specs.Spelling.{block_bytes, content_bytes, entries_bytes, flag_byte, grant_item_bytes, grant_items_bytes, inode_bytes, item_bytes, items_bytes}
use Rattle.message.proofs.Branches.{mapped_again, mapped_takes}
use Rattle.message.proofs.Exact.{Again, Takes, begin, bytes_take, many_again, many_takes, number_take, on, then_ok}
use Rattle.message.proofs.FieldLaws.{count_from_one_again, count_from_one_takes, inode_again, inode_takes, size_again, size_takes}
use Rattle.message.proofs.Front.{bytes_are, number_is}
use Rattle.message.proofs.InTurn.{AreKept, IsBlock, IsKept, alike_all, all_alike}
use Rattle.message.proofs.KindLaws.{class_again, class_takes, fresh_again, fresh_takes, hold_again, hold_takes, index_again, index_takes, kept_again, kept_takes, next_class_again, next_class_takes}
use Rattle.message.proofs.NameLaws.{CountedEntries, entries_again, entries_takes}
use Rattle.message.proofs.Parts.{bind_ok, ok_same}

contents_takes : Takes bytes_at (λ bytes. big_endian 4 (length bytes) ++ bytes) (λ bytes. length bytes ≤ 262144)
contents_takes bytes x fits e =
    let count = bind_ok (size_at 262144 bytes) _ x e in
    let counted = size_takes 262144 bytes count.0 fits count.1 in
    let took = bytes_take count.0.0 count.0.1 x counted.fits count.2 in
    record {
      is = (on (begin counted) took).is ∙ ap (λ n. (big_endian 4 n ++ x.0) ++ x.1) (sym took.good);
      good = (let limit = counted.good in let same = took.good in omega (arith, limit, same));
      fits = took.fits;
    }

contents_again : Again bytes_at (λ bytes. big_endian 4 (length bytes) ++ bytes) (λ bytes. length bytes ≤ 262144)
contents_again contents rest good =
    ap bytes_at (append_assoc (big_endian 4 (length contents)) contents rest)
    ∙ then_ok _ _ (length contents, contents ++ rest) _ (size_again 262144 (omega arith) (length contents) (contents ++ rest) good)
    (bytes_are contents (contents ++ rest) rest (length contents) refl refl)

fresh_content_takes : (of : Class) → Takes (fresh_content_at of) content_bytes (IsFreshContent of)
fresh_content_takes Names = mapped_takes entries_at Entries entries_bytes CountedEntries content_bytes (IsFreshContent Names) entries_takes (λ b. refl) (λ b good. good)
fresh_content_takes Data = mapped_takes bytes_at Bytes (λ bytes. big_endian 4 (length bytes) ++ bytes) (λ bytes. length bytes ≤ 262144) content_bytes (IsFreshContent Data) contents_takes (λ b. refl) (λ b good. good)
fresh_content_takes Attr = mapped_takes (size_at 262144) Size (big_endian 4) (λ size. size ≤ 262144) content_bytes (IsFreshContent Attr) (size_takes 262144) (λ b. refl) (λ b good. good)
fresh_content_takes Open = λ bytes x fits e. rw (← ok_same _ _ e) (record { is = refl; good = tt; fits = fits })

fresh_content_again : (of : Class) → Again (fresh_content_at of) content_bytes (IsFreshContent of)
fresh_content_again Names (Entries entries) rest good = mapped_again entries_at Entries entries_bytes CountedEntries entries_again entries rest good
fresh_content_again Names NoContent rest good = absurd good
fresh_content_again Names (Bytes contents) rest good = absurd good
fresh_content_again Names (Size size) rest good = absurd good
fresh_content_again Data (Entries entries) rest good = absurd good
fresh_content_again Data NoContent rest good = absurd good
fresh_content_again Data (Bytes contents) rest good = mapped_again bytes_at Bytes (λ bytes. big_endian 4 (length bytes) ++ bytes) (λ bytes. length bytes ≤ 262144) contents_again contents rest good
fresh_content_again Data (Size size) rest good = absurd good
fresh_content_again Attr (Entries entries) rest good = absurd good
fresh_content_again Attr NoContent rest good = absurd good
fresh_content_again Attr (Bytes contents) rest good = absurd good
fresh_content_again Attr (Size size) rest good = mapped_again (size_at 262144) Size (big_endian 4) (λ size. size ≤ 262144) (size_again 262144 (omega arith)) size rest good
fresh_content_again Open (Entries entries) rest good = absurd good
fresh_content_again Open NoContent rest good = refl
fresh_content_again Open (Bytes contents) rest good = absurd good
fresh_content_again Open (Size size) rest good = absurd good

content_takes : (of : Class) (fresh : Bool) → Takes (content_at of fresh) content_bytes (IsContent of fresh)
unfolding content_at
content_takes of true bytes x fits e = let took = fresh_content_takes of bytes x fits e in record { is = took.is; good = took.good; fits = took.fits }
content_takes of false bytes x fits e = rw (← ok_same _ _ e) (record { is = refl; good = refl; fits = fits })

content_again : (of : Class) (fresh : Bool) → Again (content_at of fresh) content_bytes (IsContent of fresh)
unfolding content_at
content_again of true content rest good = fresh_content_again of content rest good
content_again of false content rest good = rw good refl

pub regroup5 : (a b c d e rest : List ℕ) → (a ++ b ++ c ++ d ++ e) ++ rest ≡ a ++ (b ++ (c ++ (d ++ (e ++ rest))))
regroup5 a b c d e rest = simp append_assoc refl

pub grant_item_takes : Takes grant_item_at grant_item_bytes IsGrantItem
unfolding grant_item_at grant_item_bytes
grant_item_takes bytes x fits e =
    let ino = bind_ok (inode_at bytes) _ x e in
    let inode = inode_takes bytes ino.0 fits ino.1 in
    let of = bind_ok (class_at ino.0.1) _ x ino.2 in
    let class_took = class_takes ino.0.1 of.0 inode.fits of.1 in
    let hold = bind_ok (byte_field (hold_of of.0.0) of.0.1) _ x of.2 in
    let hold_took = hold_takes of.0.0 of.0.1 hold.0 class_took.fits hold.1 in
    let fresh = bind_ok (byte_field (fresh_of of.0.0) hold.0.1) _ x hold.2 in
    let fresh_took = fresh_takes of.0.0 hold.0.1 fresh.0 hold_took.fits fresh.1 in
    let content = bind_ok (content_at of.0.0 fresh.0.0 fresh.0.1) _ x fresh.2 in
    let content_took = content_takes of.0.0 fresh.0.0 fresh.0.1 content.0 fresh_took.fits content.1 in
    rw (← ok_same _ _ content.2) (record {
      is = (on (on (on (on (begin inode) class_took) hold_took) fresh_took) content_took).is;
      good = record { ino = inode.good; hold = hold_took.good; fresh = fresh_took.good; content = content_took.good };
      fits = content_took.fits;
    })

pub grant_item_again : Again grant_item_at grant_item_bytes IsGrantItem
unfolding grant_item_at grant_item_bytes
grant_item_again item rest good =
    let a = inode_bytes item.ino in
    let b = class_number item.class ∷ [] in
    let c = hold_number item.hold ∷ [] in
    let d = flag_byte item.fresh ∷ [] in
    let e = content_bytes item.content in
    ap grant_item_at (regroup5 a b c d e rest)
    ∙ then_ok _ _ (item.ino, b ++ (c ++ (d ++ (e ++ rest)))) _ (inode_again item.ino (b ++ (c ++ (d ++ (e ++ rest)))) good.ino)
    (then_ok _ _ (item.class, c ++ (d ++ (e ++ rest))) _ (class_again item.class (c ++ (d ++ (e ++ rest))) tt)
    (then_ok _ _ (item.hold, d ++ (e ++ rest)) _ (hold_again item.class item.hold (d ++ (e ++ rest)) good.hold)
    (then_ok _ _ (item.fresh, e ++ rest) _ (fresh_again item.class item.fresh (e ++ rest) good.fresh)
    (then_ok _ _ (item.content, rest) _ (content_again item.class item.fresh item.content rest good.content) refl))))

pub grant_items_takes : Takes grant_items_at grant_items_bytes AreGrantItems
unfolding grant_items_at grant_items_bytes
grant_items_takes bytes x fits e =
    let count = bind_ok (number_at 2 bytes) _ x e in
    let counted = number_take 2 bytes count.0 fits count.1 in
    let items = many_takes {S = Unit {0}} (λ before. grant_item_at) (λ item. tt) grant_item_bytes (λ before. IsGrantItem) (λ s. grant_item_takes) count.0.0 tt count.0.1 x counted.fits count.2 in
    record {
      is = (on (begin counted) items.1).is ∙ ap (λ n. (big_endian 2 n ++ flat_map grant_item_bytes x.0) ++ x.1) (sym items.0);
      good = record { count = (let c = counted.good in omega (arith, c, items.0)); each = alike_all IsGrantItem x.0 items.1.good };
      fits = items.1.fits;
    }

pub grant_items_again : Again grant_items_at grant_items_bytes AreGrantItems
unfolding grant_items_at grant_items_bytes
grant_items_again items rest good =
    ap grant_items_at (append_assoc (big_endian 2 (length items)) (flat_map grant_item_bytes items) rest)
    ∙ then_ok _ _ (length items, flat_map grant_item_bytes items ++ rest) _ (number_is 2 (length items) _ _ good.count refl)
    (many_again {S = Unit {0}} (λ before. grant_item_at) (λ item. tt) grant_item_bytes (λ before. IsGrantItem) (λ s. grant_item_again) items tt rest (all_alike IsGrantItem items good.each))

pub block_takes : (blocks least : ℕ) → Takes (block_at blocks least) block_bytes (IsBlock blocks least)
unfolding block_at
block_takes blocks least bytes x fits e =
    let index = bind_ok (index_at blocks least bytes) _ x e in
    let indexed = index_takes blocks least bytes index.0 fits index.1 in
    let block = bind_ok (take_at 4096 index.0.1) _ x index.2 in
    let took = bytes_take 4096 index.0.1 block.0 indexed.fits block.1 in
    rw (← ok_same _ _ block.2) (record {
      is = (on (begin indexed) took).is;
      good = record { ascending = indexed.good.0; within = indexed.good.1; size = took.good };
      fits = took.fits;
    })

pub block_again : (blocks least : ℕ) → Again (block_at blocks least) block_bytes (IsBlock blocks least)
unfolding block_at
block_again blocks least block rest good =
    then_ok _ _ (block.0, block.1 ++ rest) _ (index_again blocks least block.0 (block.1 ++ rest) (good.ascending, good.within))
    (then_ok _ _ (block.1, rest) _ (bytes_are block.1 (block.1 ++ rest) rest 4096 good.size refl) refl)

pub kept_item_takes : (last before : ℕ) → Takes (kept_item_at last before) item_bytes (IsKept last before)
unfolding kept_item_at
kept_item_takes last before bytes x fits e =
    let of = bind_ok (byte_field (next_class_of last before) bytes) _ x e in
    let class_took = next_class_takes last before bytes of.0 fits of.1 in
    let hold = bind_ok (kept_at of.0.0 of.0.1) _ x of.2 in
    let hold_took = kept_takes of.0.0 of.0.1 hold.0 class_took.fits hold.1 in
    rw (← ok_same _ _ hold.2) (record {
      is = (on (begin class_took) hold_took).is;
      good = record { ascending = class_took.good.0; within = class_took.good.1; hold = hold_took.good };
      fits = hold_took.fits;
    })

pub kept_item_again : (last before : ℕ) → Again (kept_item_at last before) item_bytes (IsKept last before)
unfolding kept_item_at
kept_item_again last before item rest good =
    then_ok _ _ (item.0, hold_number item.1 ∷ rest) _ (next_class_again last before item.0 (hold_number item.1 ∷ rest) (good.ascending, good.within))
    (then_ok _ _ (item.1, rest) _ (kept_again item.0 item.1 rest good.hold) refl)

-- so many classes, rising, up to a last one
abbrev pub SomeKept : ℕ → ℕ → List (Class × Hold) → Type 0
SomeKept limit last items = (1 ≤ length items) × (length items ≤ limit) × AreKept last 0 items

pub kept_items_takes : (limit last : ℕ) → Takes (kept_items_at limit last) items_bytes (SomeKept limit last)
unfolding kept_items_at items_bytes
kept_items_takes limit last bytes x fits e =
    let count = bind_ok (byte_field (one_to limit) bytes) _ x e in
    let counted = count_from_one_takes limit bytes count.0 fits count.1 in
    let items = many_takes (kept_item_at last) (λ item. class_number item.0) item_bytes (IsKept last) (kept_item_takes last) count.0.0 0 count.0.1 x counted.fits count.2 in
    record {
      is = (on (begin counted) items.1).is ∙ ap (λ n. ((n ∷ []) ++ flat_map item_bytes x.0) ++ x.1) (sym items.0);
      good = ((let c = counted.good.0 in omega (arith, c, items.0)), (let c = counted.good.1 in omega (arith, c, items.0)), items.1.good);
      fits = items.1.fits;
    }

pub kept_items_again : (limit last : ℕ) → Again (kept_items_at limit last) items_bytes (SomeKept limit last)
unfolding kept_items_at items_bytes
kept_items_again limit last items rest good =
    then_ok _ _ (length items, flat_map item_bytes items ++ rest) _ (count_from_one_again limit (length items) (flat_map item_bytes items ++ rest) (good.0, good.1))
    (many_again (kept_item_at last) (λ item. class_number item.0) item_bytes (IsKept last) (kept_item_again last) items 0 rest good.2)
