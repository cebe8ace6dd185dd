-- What has a length that its field can tell.
use Rattle.std.specs.Prelude.{◌<◌, ◌≤◌, ◌^◌, ℕ, List, length, All}
use Rattle.cal_base.specs.Limits.{file_size, name_bytes}
use Rattle.token_kind.specs.declared.content.Content.{Content}
use Rattle.token_kind.specs.declared.content.Content.TheVariants.{Nothing, Names, Bytes, Size}

abbrev pub NameFits : List ℕ → Type 0
NameFits name = length name ≤ name_bytes

abbrev pub ContentFits : Content → Type 0
ContentFits Nothing = Unit {0}
ContentFits (Names entries) = (length entries < 2 ^ 16) × All (λ entry. NameFits entry.name) entries
ContentFits (Bytes contents) = length contents ≤ file_size
ContentFits (Size size) = Unit {0}
