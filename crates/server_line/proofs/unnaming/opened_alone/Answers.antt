use Rattle.std.proofs.Common.{◌≡◌, ◌∙◌, false, true, sym, true≢false, rules}
use Rattle.server_line.proofs.Opened.{not-opened, opened-alone}
use Rattle.server_line.proofs.unnaming.opened_alone.Goals as goal

pub returns-then-not-is_opened : goal.returns-then-not-is_opened
returns-then-not-is_opened c = λ table.
    let closed : c.is_opened.result ≡ false = search rules in
    not-opened c.args.table.now c.args.ino c.new-opened.result c.new-opened.ensures (λ held. true≢false (sym (c.is_opened.ensures.1 held) ∙ closed))

pub returns : goal.returns
returns c = λ table.
    let held : c.is_opened.result ≡ true = search rules in
    opened-alone c.args.table.now table c.args.ino c.new-opened.result c.push.new.self c.new-opened.ensures c.in_ok-push.ensures.ok (c.is_opened.ensures.0 held)
