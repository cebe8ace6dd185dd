-- A token as a need.
use Rattle.tree_law.specs.Needs.{Need}
use Rattle.token_kind.specs.Class.{class_number}
use Rattle.token_kind.specs.Hold.{hold_number}
use Rattle.token_kind.specs.declared.token.Token.{Token}

abbrev pub needed : Token → Need
needed token = (token.ino, class_number token.class, hold_number token.hold)
