use Rattle.std.proofs.Common.{◌≤◌, refl, Ok, ap, arith}
use Rattle.request_log.proofs.SlotLemmas.{bool_byte_small, read_spells, same_read_slot, told, told_kept}
use Rattle.request_log.proofs.read.read_slot.Goals as goal

pub returns-in_default-clause-again : goal.returns-in_default-clause-again
returns-in_default-clause-again c = λ slot spells.
    let t = told c.args.from.now _ _ _ _ _ slot c.head_of-head.ensures.head c.head_of-head.ensures.length (omega arith) (omega arith) (omega arith) spells in
    let small = bool_byte_small slot.purged in
    let same = t.purged in
    let large : 2 ≤ c.head_of-head.result.purged = c.in_default.ensures.bad.0 refl in
    absurd (omega arith)

pub returns-in-Err-clause-again : goal.returns-in-Err-clause-again
returns-in-Err-clause-again c = λ slot spells.
    absurd (c.in-Err.ensures.bad slot.reply (told_kept c.args.from.now _ _ _ _ _ slot c.head_of-head.ensures.head c.head_of-head.ensures.length (omega arith) (omega arith) (omega arith) spells))

pub returns-in-Ok-kept_reply-clause-again : goal.returns-in-Ok-kept_reply-clause-again
returns-in-Ok-kept_reply-clause-again c = λ slot spells.
    ap Ok (same_read_slot c.args.from.now _ _ _ _ _ _ _ slot c.head_of-head.ensures.head c.head_of-head.ensures.length (omega arith) (omega arith) (omega arith) c.in-Ok.ensures.found c.in-Ok-kept_reply.ensures.found spells)

pub returns-in-Ok-kept_reply-clause-found : goal.returns-in-Ok-kept_reply-clause-found
returns-in-Ok-kept_reply-clause-found c =
    read_spells c.args.from.now _ _ _ _ _ _ _ c.head_of-head.ensures.head c.head_of-head.ensures.length (omega arith) (omega arith) c.in-Ok.ensures.found c.in-Ok-kept_reply.ensures.found
