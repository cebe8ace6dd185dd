use Rattle.std.specs.Prelude.{ℕ, refl}
use Rattle.std.specs.Ordering.{nat_cmp}
use Rattle.std.specs.Cmp.Lexicographic.{slice_cmp}
use Rattle.std.specs.Coded.{Coded, code_by, coded_ℕ, coded_list}
use Rattle.std.specs.FinMap as map
use Rattle.cal_base.specs.declared.identity.Ino.{Ino}

-- a directory: a finite map from names, in the order of their bytes, to inode numbers
abbrev pub Names : Type 0
Names = map.FinMap (slice_cmp nat_cmp) Ino

abbrev pub ino_code : Coded Ino
ino_code = code_by ℕ coded_ℕ (λ ino. ino.0) (λ number. record { 0 = number }) (λ _. refl)

abbrev pub names_code : Coded Names
names_code = map.code (coded_list coded_ℕ) ino_code
