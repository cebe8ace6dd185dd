-- The fields, against their spellings.
use Rattle.std.proofs.Common.{◌≡◌, ◌==◌, ◌<◌, ◌≤◌, ◌^◌, ◌∷◌, [], ℕ, Bool, true, false, ◌&&◌, Some, refl, ap, arith}
use Rattle.std.specs.Prelude.{nat_lt, nat_le, if◌then◌else◌}
use Rattle.std.proofs.lemmas.Bool.Decides.{nat_tests}
use Rattle.cal_base.specs.declared.identity.ClientId.{ClientId}
use Rattle.cal_base.specs.declared.identity.Ino.{Ino}
use Rattle.cal_fields.specs.BigEndian.{big_endian}
use Rattle.message.specs.Reading.{byte_field}
use Rattle.message.specs.Field.{call_number_at, client_at, client_of, from_one, inode_at, inode_of, one_to, size_at, up_to}
use Rattle.message.specs.Range.{IsInode, IsNumber}
use Rattle.message.specs.Spelling.{inode_bytes}
use Rattle.message.proofs.Exact.{Again, Takes, byte_field_again, byte_field_takes, number_field_again, number_field_takes}
use Rattle.message.proofs.Parts.{and_ok}
use Rattle.message.proofs.Paths.{passed, from_le}

pub some_same : {A : Type 0} (x y : A) → (Some x ≡ Some y) → x ≡ y
some_same x y e = cc

-- a choice, by its test
pub pick : {A : Type 0} (P : A → Type 0) (b : Bool) (x y : A) → (b ≡ true → P x) → (b ≡ false → P y) → P (if b then x else y)
pick P true x y hit miss = hit refl
pick P false x y hit miss = miss refl

pub from_eq : (a b : ℕ) → (a == b) ≡ true → a ≡ b
from_eq a b e = grind (arith, nat_tests)

pub from_lt : (a b : ℕ) → nat_lt a b ≡ true → a < b
from_lt a b e = grind (arith, nat_tests)

pub to_le : (a b : ℕ) → a ≤ b → nat_le a b ≡ true
to_le a b h = grind (arith, nat_tests)

pub to_lt : (a b : ℕ) → a < b → nat_lt a b ≡ true
to_lt a b h = grind (arith, nat_tests)

pub call_number_takes : Takes call_number_at (big_endian 8) IsNumber
call_number_takes = number_field_takes 8 from_one (λ n. n) IsNumber (λ n a fits means.
    let good = passed (nat_lt 0 n) n a means in (good.1, (let some = from_lt 0 n good.0 in omega (arith, some, good.1), let same = good.1 in omega (arith, fits, same))))

pub call_number_again : Again call_number_at (big_endian 8) IsNumber
call_number_again = number_field_again 8 from_one (λ n. n) IsNumber (λ a good. (omega (arith, good.1), rw (to_lt 0 a (omega (arith, good.0))) refl))

pub inode_takes : Takes inode_at inode_bytes IsInode
inode_takes = number_field_takes 4 inode_of (λ ino. ino.0) IsInode (λ n a fits means.
    let good = passed (nat_lt n 512) (record { 0 = n }) a means in
    (ap (λ (ino : Ino). ino.0) good.1, (let small = from_lt n 512 good.0 in let same = ap (λ (ino : Ino). ino.0) good.1 in omega (arith, small, same))))

pub inode_again : Again inode_at inode_bytes IsInode
inode_again = number_field_again 4 inode_of (λ ino. ino.0) IsInode (λ a good. (omega (arith, good), rw (to_lt a.0 512 good) refl))

pub client_takes : Takes client_at (λ client. client.0 ∷ []) (λ client. client.0 < 16)
client_takes = byte_field_takes client_of (λ client. client.0) (λ client. client.0 < 16) (λ n a fits means.
    let good = passed (nat_lt n 16) (record { 0 = n }) a means in
    (ap (λ (client : ClientId). client.0) good.1, (let small = from_lt n 16 good.0 in let same = ap (λ (client : ClientId). client.0) good.1 in omega (arith, small, same))))

pub client_again : Again client_at (λ client. client.0 ∷ []) (λ client. client.0 < 16)
client_again = byte_field_again client_of (λ client. client.0) (λ client. client.0 < 16) (λ a good. rw (to_lt a.0 16 good) refl)

pub size_takes : (limit : ℕ) → Takes (size_at limit) (big_endian 4) (λ size. size ≤ limit)
size_takes limit = number_field_takes 4 (up_to limit) (λ n. n) (λ size. size ≤ limit) (λ n a fits means.
    let good = passed (nat_le n limit) n a means in (good.1, (let small = from_le n limit good.0 in omega (arith, small, good.1))))

pub size_again : (limit : ℕ) → limit < 2 ^ 32 → Again (size_at limit) (big_endian 4) (λ size. size ≤ limit)
size_again limit fits = number_field_again 4 (up_to limit) (λ n. n) (λ size. size ≤ limit) (λ a good. (omega (arith, good, fits), rw (to_le a limit good) refl))

pub count_takes : (limit : ℕ) → Takes (byte_field (up_to limit)) (λ n. n ∷ []) (λ n. n ≤ limit)
count_takes limit = byte_field_takes (up_to limit) (λ n. n) (λ n. n ≤ limit) (λ n a fits means.
    let good = passed (nat_le n limit) n a means in (good.1, (let small = from_le n limit good.0 in omega (arith, small, good.1))))

pub count_again : (limit : ℕ) → Again (byte_field (up_to limit)) (λ n. n ∷ []) (λ n. n ≤ limit)
count_again limit = byte_field_again (up_to limit) (λ n. n) (λ n. n ≤ limit) (λ a good. rw (to_le a limit good) refl)

pub count_from_one_takes : (limit : ℕ) → Takes (byte_field (one_to limit)) (λ n. n ∷ []) (λ n. (1 ≤ n) × (n ≤ limit))
count_from_one_takes limit = byte_field_takes (one_to limit) (λ n. n) (λ n. (1 ≤ n) × (n ≤ limit)) (λ n a fits means.
    let good = passed (nat_lt 0 n && nat_le n limit) n a means in
    let both = and_ok _ _ good.0 in
    (good.1, (let some = from_lt 0 n both.0 in omega (arith, some, good.1), let small = from_le n limit both.1 in omega (arith, small, good.1))))

pub count_from_one_again : (limit : ℕ) → Again (byte_field (one_to limit)) (λ n. n ∷ []) (λ n. (1 ≤ n) × (n ≤ limit))
count_from_one_again limit = byte_field_again (one_to limit) (λ n. n) (λ n. (1 ≤ n) × (n ≤ limit)) (λ a good.
    rw (to_lt 0 a (omega (arith, good.0)), to_le a limit good.1) refl)
