-- The word of an inode has no space.
use Rattle.std.proofs.Common.{◌≡◌, true, refl, arith, Option, Some, None}
use Rattle.cal_base.specs.declared.identity.Ino.{Ino}
use Rattle.text_lines.specs.Spelling.{new_word, IsNew}
use Rattle.line_words.proofs.Joined.{is_free}
use Rattle.line_words.proofs.WordsFree.{number_free}

pub new_free : (new : Option Ino) → IsNew new → is_free (new_word new) ≡ true
new_free None h = refl
new_free (Some ino) h = number_free ino.0 (omega (arith, h.1))
