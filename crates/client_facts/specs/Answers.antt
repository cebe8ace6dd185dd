-- What a client has answered by itself.
use Rattle.std.specs.Prelude.{◌≡◌, true, Some}
use Rattle.client_cache.specs.Covered.{is_answerable}
use Rattle.client_cache.specs.Known.{Known, part_of}
use Rattle.tree_law.specs.Part.{answer_in}
use Rattle.tree_law.specs.declared.call.Call.{Call}
use Rattle.tree_law.specs.declared.reply.Reply.{Reply}

-- a client may carry out a call by itself, and this is the reply that the cache gives
pub record IsAnswered (known : Known) (call : Call) (reply : Reply) : Type 0 where
  pub by_cache : is_answerable known call ≡ true
  pub replied : answer_in (part_of known) call ≡ Some reply
