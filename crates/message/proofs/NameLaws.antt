-- Names, paths, entries and calls, against their spellings.
use Rattle.std.proofs.Common.{◌≡◌, ◌<◌, ◌^◌, ◌==◌, ◌≤◌, ◌∷◌, ◌++◌, [], ℕ, Bool, true, false, ◌&&◌, List, length, All, refl, sym, ap, ◌∙◌, arith, append_assoc}
use Rattle.std.specs.Bool.{Decides}
use Rattle.std.specs.List.{flat_map, list_all}
use Rattle.std.specs.Str.{bytes_eq}
use Rattle.std.proofs.lemmas.Bool.Decides.{nat_tests}
use Rattle.std.proofs.lemmas.List.Elements.{All-tail}
use Rattle.std.proofs.lemmas.Slice.Eq.{bytes_eq-Decides}
use Rattle.cal_fields.specs.BigEndian.{big_endian}
use Rattle.cal_base.specs.declared.directory_entry.DirectoryEntry.{DirectoryEntry}
use Rattle.tree_law.specs.Entries.{AreEntries, is_before}
use Rattle.tree_law.specs.NameTest.{is_name}
use Rattle.tree_law.specs.Path.{IsName, IsPath}
use Rattle.tree_law.proofs.EntryOrder.{before_passes, passes_before}
use Rattle.tree_law.proofs.NameTests.{name_passes, passes_name}
use Rattle.message.specs.Reading.{byte_field, number_at, take_at}
use Rattle.message.specs.Field.{entry_kind_of, inode_at, one_to, up_to}
use Rattle.message.specs.Names.{entries_at, entry_at, name_at, name_by, path_at}
use Rattle.message.specs.Spelling.{entries_bytes, entry_bytes, entry_kind_byte, inode_bytes, name_bytes, path_bytes}
use Rattle.message.proofs.Exact.{Again, Takes, begin, bytes_take, on, many_again, many_takes, number_take, then_ok}
use Rattle.message.proofs.FieldLaws.{count_again, count_from_one_again, count_from_one_takes, count_takes, inode_again, inode_takes, to_le}
use Rattle.message.proofs.Front.{bytes_are, number_is}
use Rattle.message.proofs.InTurn.{IsEntry, all_alike, behind_entries, entries_behind}
use Rattle.message.proofs.KindLaws.{entry_kind_again, entry_kind_takes}
use Rattle.message.proofs.Parts.{and_ok, bind_ok, meant_ok, ok_same}
use Rattle.message.proofs.Paths.{passed, path_is}

-- a name of a kind that its test tells
pub name_by_takes : (test : List ℕ → Bool) → Takes (name_by test) name_bytes (λ name. test name ≡ true)
unfolding name_by
name_by_takes test bytes x fits e =
    let count = bind_ok (byte_field (one_to 27) bytes) _ x e in
    let counted = count_from_one_takes 27 bytes count.0 fits count.1 in
    let name = bind_ok (take_at count.0.0 count.0.1) _ x count.2 in
    let named = bytes_take count.0.0 count.0.1 name.0 counted.fits name.1 in
    let is = meant_ok _ _ _ x name.2 in
    let good = passed (test name.0.0) name.0.0 x.0 is.0 in
    let whole : bytes ≡ name_bytes name.0.0 ++ name.0.1 = (on (begin counted) named).is ∙ ap (λ n. (n ∷ name.0.0) ++ name.0.1) (sym named.good) in
    record {
      is = whole ∙ ap (λ (n : List ℕ). name_bytes n ++ name.0.1) good.1 ∙ ap (λ (r : List ℕ). name_bytes x.0 ++ r) is.1;
      good = rw (← good.1) good.0;
      fits = rw (← is.1) named.fits;
    }

pub name_by_again : (test : List ℕ → Bool) → Again (name_by test) name_bytes (λ name. ((1 ≤ length name) × (length name ≤ 27)) × (test name ≡ true))
unfolding name_by
name_by_again test name rest good =
    then_ok _ _ (length name, name ++ rest) _ (count_from_one_again 27 (length name) (name ++ rest) good.0)
    (then_ok _ _ (name, rest) _ (bytes_are name (name ++ rest) rest (length name) refl refl) (rw (good.1) refl))

pub name_takes : Takes name_at name_bytes IsName
name_takes bytes x fits e =
    let took = name_by_takes is_name bytes x fits e in
    record { is = took.is; good = passes_name x.0 took.good; fits = took.fits }

pub name_again : Again name_at name_bytes IsName
name_again name rest good = name_by_again is_name name rest ((good.from_one, good.to_twenty_seven), name_passes name good)

pub path_takes : Takes path_at path_bytes IsPath
unfolding path_at path_bytes
path_takes bytes x fits e =
    let count = bind_ok (byte_field (up_to 16) bytes) _ x e in
    let counted = count_takes 16 bytes count.0 fits count.1 in
    let names = many_takes {S = Unit {0}} (λ before. name_at) (λ name. tt) name_bytes (λ before. IsName) (λ s. name_takes) count.0.0 tt count.0.1 x counted.fits count.2 in
    record {
      is = (on (begin counted) names.1).is ∙ ap (λ n. ((n ∷ []) ++ flat_map name_bytes x.0) ++ x.1) (sym names.0);
      good = path_is bytes x.1 x.0 e;
      fits = names.1.fits;
    }

pub path_again : Again path_at path_bytes IsPath
unfolding path_at path_bytes
path_again path rest good =
    then_ok _ _ (length path, flat_map name_bytes path ++ rest) _ (count_again 16 (length path) (flat_map name_bytes path ++ rest) good.to_sixteen)
    (many_again {S = Unit {0}} (λ before. name_at) (λ name. tt) name_bytes (λ before. IsName) (λ s. name_again) path tt rest (all_alike IsName path good.names))

pub entry_takes : (before : List ℕ) → Takes (entry_at before) entry_bytes (IsEntry before)
unfolding entry_at entry_bytes
entry_takes before bytes x fits e =
    let name = bind_ok (name_by (λ name. is_name name && is_before before name) bytes) _ x e in
    let named = name_by_takes _ bytes name.0 fits name.1 in
    let ino = bind_ok (inode_at name.0.1) _ x name.2 in
    let inode = inode_takes name.0.1 ino.0 named.fits ino.1 in
    let kind = bind_ok (byte_field entry_kind_of ino.0.1) _ x ino.2 in
    let kinds = entry_kind_takes ino.0.1 kind.0 inode.fits kind.1 in
    let both = and_ok _ _ named.good in
    rw (← ok_same _ _ kind.2) (record {
      is = (on (on (begin named) inode) kinds).is;
      good = record { name = passes_name name.0.0 both.0; sorted = passes_before before name.0.0 both.1; ino = inode.good };
      fits = kinds.fits;
    })

regroup3 : (a b c rest : List ℕ) → (a ++ b ++ c) ++ rest ≡ a ++ (b ++ (c ++ rest))
regroup3 a b c rest = append_assoc (a ++ b) c rest ∙ append_assoc a b (c ++ rest)

pub entry_again : (before : List ℕ) → Again (entry_at before) entry_bytes (IsEntry before)
unfolding entry_at entry_bytes
entry_again before entry rest good =
    let a = name_bytes entry.name in
    let b = inode_bytes entry.ino in
    let c = entry_kind_byte entry.kind ∷ [] in
    ap (entry_at before) (regroup3 a b c rest)
    ∙ then_ok _ _ (entry.name, b ++ (c ++ rest)) _ (name_by_again (λ name. is_name name && is_before before name) entry.name (b ++ (c ++ rest)) ((good.name.from_one, good.name.to_twenty_seven), rw (name_passes entry.name good.name, before_passes before entry.name good.sorted) refl))
    (then_ok _ _ (entry.ino, c ++ rest) _ (inode_again entry.ino (c ++ rest) good.ino)
    (then_ok _ _ (entry.kind, rest) _ (entry_kind_again entry.kind rest tt) refl))

-- as many entries as a count can tell
abbrev pub CountedEntries : List DirectoryEntry → Type 0
CountedEntries entries = (length entries < 2 ^ 16) × AreEntries entries

pub entries_takes : Takes entries_at entries_bytes CountedEntries
unfolding entries_at entries_bytes
entries_takes bytes x fits e =
    let count = bind_ok (number_at 2 bytes) _ x e in
    let counted = number_take 2 bytes count.0 fits count.1 in
    let entries = many_takes entry_at (λ entry. entry.name) entry_bytes IsEntry entry_takes count.0.0 [] count.0.1 x counted.fits count.2 in
    record {
      is = (on (begin counted) entries.1).is ∙ ap (λ n. (big_endian 2 n ++ flat_map entry_bytes x.0) ++ x.1) (sym entries.0);
      good = ((let c = counted.good in omega (arith, c, entries.0)), behind_entries x.0 entries.1.good);
      fits = entries.1.fits;
    }

pub entries_again : Again entries_at entries_bytes CountedEntries
unfolding entries_at entries_bytes
entries_again entries rest good =
    ap entries_at (append_assoc (big_endian 2 (length entries)) (flat_map entry_bytes entries) rest)
    ∙ then_ok _ _ (length entries, flat_map entry_bytes entries ++ rest) _ (number_is 2 (length entries) _ _ good.0 refl)
    (many_again entry_at (λ entry. entry.name) entry_bytes IsEntry entry_again entries [] rest (entries_behind entries good.1))
