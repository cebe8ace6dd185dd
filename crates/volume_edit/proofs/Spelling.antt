-- Where the homes of an edit are written the sectors spell the edited volume, and the bytes of files stay.
use Rattle.std.proofs.Common.{◌≡◌, ◌≢◌, ◌+◌, ◌/◌, ◌%◌, ℕ, zero, suc, List, length, Some, slice_get, slice_index, refl, sym, ap, ◌∙◌, subst, arith}
use Rattle.cal_base.specs.Limits as limits
use Rattle.std.specs.Prelude.{◌==◌, if◌then◌else◌, option_map}
use Rattle.std.proofs.lemmas.Option.{get_or_from_slice_get, slice_get-get_or}
use Rattle.inode.specs.declared.inode.Inode.{Inode}
use Rattle.inode.specs.declared.inode.Kind.TheVariants.{Dir, File}
use Rattle.journal.specs.Layout.{sector}
use Rattle.shared_disk.specs.Sectors.{written}
use Rattle.volume.specs.Stands.{AreBlocksKept, Points}
use Rattle.volume.specs.Volume.{SpellsVolume, Volume, byte_behind, file_byte}
use Rattle.volume_edit.specs.Blocks.{TakesFree}
use Rattle.volume_edit.specs.Edit.{IsEdit, IsVolume, edited, free_inode, inode_at}
use Rattle.volume_edit.specs.Homes.{AreHomes, block_parts, entering_part, leaving_part}
use Rattle.volume_edit.specs.declared.edit.Edit.{Edit}
use Rattle.volume_edit.proofs.PartLists.{Each, each-in_order}
use Rattle.volume_edit.proofs.Pointers.{other_inode}
use Rattle.volume_edit.proofs.PartCases.{Apart, if_entering, if_leaving}
use Rattle.volume_edit.proofs.BlocksKept.{edited_blocks}
use Rattle.volume_edit.proofs.Grammar.{edited_volume}
use Rattle.volume_edit.proofs.Live.{IsLive}
use Rattle.volume_edit.proofs.SpelledParts.{Given, all_spelled, as_before, enters_live, inode_below, leaves_live, map_below, slot_below}

pub edited_spelled : (sectors : List (List ℕ)) (v : Volume) (e : Edit) (homes : List (ℕ × List ℕ)) → length sectors ≡ limits.sectors → SpellsVolume sectors v → IsVolume v → AreBlocksKept v → IsEdit v e → TakesFree v e → AreHomes v e homes
    → SpellsVolume (written sectors homes) (edited v e)
edited_spelled sectors v e homes long spells volume blocks edit takes at =
    all_spelled sectors v e homes (record { long = long; spells = spells; volume = volume; kept = blocks; edit = edit; takes = takes; at = at })

-- a byte of a file, where the sector behind a pointer is as before
same_byte : (a b : List (List ℕ)) (pointer i : ℕ) → ((block : ℕ) → pointer ≡ block + 1 → sector a (547 + pointer) ≡ sector b (547 + pointer)) → byte_behind a pointer i ≡ byte_behind b pointer i
same_byte a b zero i same = refl
same_byte a b (suc block) i same =
    ap (λ (s : List ℕ). if suc block == 0 then 0 else slice_index s (i % 4096)) (same block (let e : suc block ≡ block + 1 = omega arith in e))

not_dir : (inode other : Inode) → other ≡ inode → inode.kind ≡ File → other.kind ≢ Dir
not_dir inode other same file dir = (let both : File ≡ Dir = sym file ∙ (ap (λ (x : Inode). x.kind) (sym same) ∙ dir) in absurd (cc))

-- a block of a file is no home
file_apart : (x : List (List ℕ)) (v : Volume) (e : Edit) (homes : List (ℕ × List ℕ)) (g : Given x v e homes) (number place block : ℕ) → Points v.inodes number place block → (inode_at v.inodes number).kind ≢ Dir
    → Each (Apart (edited v e) (547 + (block + 1))) (block_parts v e)
file_apart x v e homes g number place block points other =
    each-in_order (Apart (edited v e) (547 + (block + 1))) (edited v e) (option_map leaving_part e.leaving) (option_map entering_part e.entering)
    (if_leaving (Apart (edited v e) (547 + (block + 1))) e.leaving (λ l made same.
    other_inode v e g.volume g.kept g.edit g.takes l.directory.0 (l.place / 128) number place block (leaves_live x v e homes g l made) points other (omega arith)))
    (if_entering (Apart (edited v e) (547 + (block + 1))) e.entering (λ n made same.
    other_inode v e g.volume g.kept g.edit g.takes n.directory.0 (n.place / 128) number place block (enters_live x v e homes g n made) points other (omega arith)))

pub same_file : (sectors : List (List ℕ)) (v : Volume) (e : Edit) (homes : List (ℕ × List ℕ)) → length sectors ≡ limits.sectors → SpellsVolume sectors v → IsVolume v → AreBlocksKept v → IsEdit v e → TakesFree v e → AreHomes v e homes
    → (number : ℕ) (inode : Inode) → slice_get v.inodes number ≡ Some inode → inode.kind ≡ File → (i : ℕ) → file_byte (written sectors homes) inode i ≡ file_byte sectors inode i
same_file sectors v e homes long spells volume blocks edit takes at number inode there file i =
    let g : Given sectors v e homes = record { long = long; spells = spells; volume = volume; kept = blocks; edit = edit; takes = takes; at = at } in
    let other = not_dir inode (inode_at v.inodes number) (get_or_from_slice_get v.inodes number inode free_inode there) file in
    same_byte (written sectors homes) sectors (slice_index inode.blocks (i / 4096)) i (λ block names.
    let j = 547 + (block + 1) in
    let apart = file_apart sectors v e homes g number (i / 4096) block (record { inode = inode; there = there; names = names }) other in
    let same : sector (written sectors homes) j ≡ sector sectors j =
    as_before sectors v e homes g j (map_below sectors v e homes g j (omega arith)) (slot_below sectors v e homes g j (omega arith)) (inode_below sectors v e homes g j (omega arith)) apart in
    subst (λ (p : ℕ). sector (written sectors homes) (547 + p) ≡ sector sectors (547 + p)) (sym names) same)

-- after the edit, too, no block of a directory is one of another inode
other_then : (w : Volume) → IsVolume w → AreBlocksKept w → (a i number place block : ℕ) → IsLive w a i → Points w.inodes number place block → (inode_at w.inodes number).kind ≢ Dir
    → slice_index (inode_at w.inodes a).blocks i ≢ block + 1
other_then w is kept a i number place block live points other names =
    let inodes = is.inode_count in
    let low = live.to_511 in
    let at_a : Points w.inodes a i block = record { inode = inode_at w.inodes a; there = slice_get-get_or w.inodes a free_inode (omega arith); names = names } in
    let one = kept.apart a number i place block at_a points in
    other (subst (λ (n : ℕ). (inode_at w.inodes n).kind ≡ Dir) one.0 live.kind)

file_apart_then : (x : List (List ℕ)) (v : Volume) (e : Edit) (homes : List (ℕ × List ℕ)) (g : Given x v e homes) (number place block : ℕ) → Points (edited v e).inodes number place block
    → (inode_at (edited v e).inodes number).kind ≢ Dir → Each (Apart (edited v e) (547 + (block + 1))) (block_parts v e)
file_apart_then x v e homes g number place block points other =
    let is = edited_volume v e g.volume g.edit in
    let kept = edited_blocks v e g.volume g.kept g.edit g.takes in
    each-in_order (Apart (edited v e) (547 + (block + 1))) (edited v e) (option_map leaving_part e.leaving) (option_map entering_part e.entering)
    (if_leaving (Apart (edited v e) (547 + (block + 1))) e.leaving (λ l made same.
    other_then (edited v e) is kept l.directory.0 (l.place / 128) number place block (leaves_live x v e homes g l made) points other (omega arith)))
    (if_entering (Apart (edited v e) (547 + (block + 1))) e.entering (λ n made same.
    other_then (edited v e) is kept n.directory.0 (n.place / 128) number place block (enters_live x v e homes g n made) points other (omega arith)))

kind_at : (inode other : Inode) → other ≡ inode → inode.kind ≢ Dir → other.kind ≢ Dir
kind_at inode other same apart dir = apart (ap (λ (x : Inode). x.kind) (sym same) ∙ dir)

pub same_file_after : (sectors : List (List ℕ)) (v : Volume) (e : Edit) (homes : List (ℕ × List ℕ)) → length sectors ≡ limits.sectors → SpellsVolume sectors v → IsVolume v → AreBlocksKept v → IsEdit v e → TakesFree v e → AreHomes v e homes
    → (number : ℕ) (inode : Inode) → slice_get (edited v e).inodes number ≡ Some inode → inode.kind ≢ Dir → (i : ℕ) → file_byte (written sectors homes) inode i ≡ file_byte sectors inode i
same_file_after sectors v e homes long spells volume blocks edit takes at number inode there apart i =
    let g : Given sectors v e homes = record { long = long; spells = spells; volume = volume; kept = blocks; edit = edit; takes = takes; at = at } in
    let other = kind_at inode (inode_at (edited v e).inodes number) (get_or_from_slice_get (edited v e).inodes number inode free_inode there) apart in
    same_byte (written sectors homes) sectors (slice_index inode.blocks (i / 4096)) i (λ block names.
    let j = 547 + (block + 1) in
    let apart = file_apart_then sectors v e homes g number (i / 4096) block (record { inode = inode; there = there; names = names }) other in
    let same : sector (written sectors homes) j ≡ sector sectors j =
    as_before sectors v e homes g j (map_below sectors v e homes g j (omega arith)) (slot_below sectors v e homes g j (omega arith)) (inode_below sectors v e homes g j (omega arith)) apart in
    subst (λ (p : ℕ). sector (written sectors homes) (547 + p) ≡ sector sectors (547 + p)) (sym names) same)
