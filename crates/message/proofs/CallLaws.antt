-- Calls, against their spellings.
use Rattle.std.proofs.Common.{◌≡◌, ◌==◌, ◌∷◌, ℕ, List, Ok, refl, ◌∙◌}
use Rattle.tree_law.specs.Path.{IsPath}
use Rattle.tree_law.specs.declared.call.Call.{Call}
use Rattle.tree_law.specs.declared.call.Call.TheVariants.{Create, Mkdir, Unlink, Rmdir, Rename, Open as OpenCall, Close, Read as ReadCall, Write as WriteCall, Truncate, Stat as StatCall, Readdir as ReaddirCall, Fsync}
use Rattle.tree_law.specs.declared.request.Want.{Want}
use Rattle.tree_law.specs.declared.request.Want.TheVariants.{Stat, Open, Readdir, Read as ReadWant, Write as WriteWant}
use Rattle.message.specs.Reading.{Read, byte_at}
use Rattle.message.specs.Field.{inode_at}
use Rattle.message.specs.Names.{path_at}
use Rattle.message.specs.Calls.{change_at, change_of, want_at, want_of}
use Rattle.message.specs.Range.{IsChange, IsInode, IsWant}
use Rattle.message.specs.Spelling.{change_bytes, inode_bytes, path_bytes, want_bytes}
use Rattle.message.proofs.Branches.{branch_takes, mapped_again, two_again, two_takes}
use Rattle.message.proofs.Exact.{Again, IsBytes, Takes, Took, byte_takes}
use Rattle.message.proofs.FieldLaws.{from_eq, inode_again, inode_takes, pick}
use Rattle.message.proofs.NameLaws.{path_again, path_takes}
use Rattle.message.proofs.Parts.{bind_ok}

-- what stands behind a byte that was read
pub behind : {A : Type 0} {text : A → List ℕ} {Good : A → Type 0} (bytes : List ℕ) (kind : ℕ) (rest : List ℕ) (x : A × List ℕ) → bytes ≡ kind ∷ rest → Took text Good (kind ∷ rest) x → Took text Good bytes x
behind bytes kind rest x is took = record { is = is ∙ took.is; good = took.good; fits = took.fits }

want_of_takes : (field : List ℕ) (kind : ℕ) (rest : List ℕ) (x : Want × List ℕ) → IsBytes rest → want_of field kind rest ≡ Ok x → Took want_bytes IsWant (kind ∷ rest) x
want_of_takes field kind rest x fits =
    let P : Read Want → Type 0 = λ read. read ≡ Ok x → Took want_bytes IsWant (kind ∷ rest) x in
    pick P (kind == 1) _ _ (λ t e. branch_takes path_at Stat path_bytes IsPath want_bytes IsWant 1 path_takes (λ p. refl) (λ p is. is) kind rest x (from_eq kind 1 t) fits e) (λ f.
    pick P (kind == 2) _ _ (λ t e. branch_takes path_at Open path_bytes IsPath want_bytes IsWant 2 path_takes (λ p. refl) (λ p is. is) kind rest x (from_eq kind 2 t) fits e) (λ f.
    pick P (kind == 3) _ _ (λ t e. branch_takes path_at Readdir path_bytes IsPath want_bytes IsWant 3 path_takes (λ p. refl) (λ p is. is) kind rest x (from_eq kind 3 t) fits e) (λ f.
    pick P (kind == 4) _ _ (λ t e. branch_takes inode_at ReadWant inode_bytes IsInode want_bytes IsWant 4 inode_takes (λ i. refl) (λ i is. is) kind rest x (from_eq kind 4 t) fits e) (λ f.
    pick P (kind == 5) _ _ (λ t e. branch_takes inode_at WriteWant inode_bytes IsInode want_bytes IsWant 5 inode_takes (λ i. refl) (λ i is. is) kind rest x (from_eq kind 5 t) fits e) (λ f e. absurd cc)))))

pub want_takes : Takes want_at want_bytes IsWant
unfolding want_at
want_takes bytes x fits e =
    let kind = bind_ok (byte_at bytes) _ x e in
    let took = byte_takes bytes kind.0 fits kind.1 in
    behind bytes kind.0.0 kind.0.1 x took.is (want_of_takes bytes kind.0.0 kind.0.1 x took.fits kind.2)

pub want_again : Again want_at want_bytes IsWant
unfolding want_at byte_at
want_again (Stat path) rest good = mapped_again path_at Stat path_bytes IsPath path_again path rest good
want_again (Open path) rest good = mapped_again path_at Open path_bytes IsPath path_again path rest good
want_again (Readdir path) rest good = mapped_again path_at Readdir path_bytes IsPath path_again path rest good
want_again (ReadWant ino) rest good = mapped_again inode_at ReadWant inode_bytes IsInode inode_again ino rest good
want_again (WriteWant ino) rest good = mapped_again inode_at WriteWant inode_bytes IsInode inode_again ino rest good

change_of_takes : (field : List ℕ) (kind : ℕ) (rest : List ℕ) (x : Call × List ℕ) → IsBytes rest → change_of field kind rest ≡ Ok x → Took change_bytes IsChange (kind ∷ rest) x
change_of_takes field kind rest x fits =
    let P : Read Call → Type 0 = λ read. read ≡ Ok x → Took change_bytes IsChange (kind ∷ rest) x in
    pick P (kind == 1) _ _ (λ t e. branch_takes path_at Create path_bytes IsPath change_bytes IsChange 1 path_takes (λ p. refl) (λ p is. (refl, is)) kind rest x (from_eq kind 1 t) fits e) (λ f.
    pick P (kind == 2) _ _ (λ t e. branch_takes path_at Mkdir path_bytes IsPath change_bytes IsChange 2 path_takes (λ p. refl) (λ p is. (refl, is)) kind rest x (from_eq kind 2 t) fits e) (λ f.
    pick P (kind == 3) _ _ (λ t e. branch_takes path_at Unlink path_bytes IsPath change_bytes IsChange 3 path_takes (λ p. refl) (λ p is. (refl, is)) kind rest x (from_eq kind 3 t) fits e) (λ f.
    pick P (kind == 4) _ _ (λ t e. branch_takes path_at Rmdir path_bytes IsPath change_bytes IsChange 4 path_takes (λ p. refl) (λ p is. (refl, is)) kind rest x (from_eq kind 4 t) fits e) (λ f.
    pick P (kind == 5) _ _ (λ t e. two_takes path_at path_at Rename path_bytes IsPath path_bytes IsPath change_bytes IsChange 5 path_takes path_takes (λ p q. refl) (λ p q is_p is_q. (refl, (is_p, is_q))) kind rest x (from_eq kind 5 t) fits e) (λ f e. absurd cc)))))

pub change_takes : Takes change_at change_bytes IsChange
unfolding change_at
change_takes bytes x fits e =
    let kind = bind_ok (byte_at bytes) _ x e in
    let took = byte_takes bytes kind.0 fits kind.1 in
    behind bytes kind.0.0 kind.0.1 x took.is (change_of_takes bytes kind.0.0 kind.0.1 x took.fits kind.2)

pub change_again : Again change_at change_bytes IsChange
unfolding change_at byte_at
change_again (Create path) rest good = mapped_again path_at Create path_bytes IsPath path_again path rest good.1
change_again (Mkdir path) rest good = mapped_again path_at Mkdir path_bytes IsPath path_again path rest good.1
change_again (Unlink path) rest good = mapped_again path_at Unlink path_bytes IsPath path_again path rest good.1
change_again (Rmdir path) rest good = mapped_again path_at Rmdir path_bytes IsPath path_again path rest good.1
change_again (Rename old_path new_path) rest good = two_again path_at path_at Rename path_bytes IsPath path_bytes IsPath path_again path_again old_path new_path rest good.1.0 good.1.1
change_again (OpenCall path mode) rest good = let none = good.0 in absurd cc
change_again (Close fd) rest good = let none = good.0 in absurd cc
change_again (ReadCall fd offset len) rest good = let none = good.0 in absurd cc
change_again (WriteCall fd offset bytes) rest good = let none = good.0 in absurd cc
change_again (Truncate fd size) rest good = let none = good.0 in absurd cc
change_again (StatCall path) rest good = let none = good.0 in absurd cc
change_again (ReaddirCall path) rest good = let none = good.0 in absurd cc
change_again (Fsync fd) rest good = let none = good.0 in absurd cc
