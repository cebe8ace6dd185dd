use Rattle.std.proofs.Common.{◌<◌, List, map, sym, ap, ◌∙◌, subst}
use Rattle.std.specs.List.{All}
use Rattle.std.proofs.lemmas.List.Elements.{All-map}
use Rattle.token_kind.specs.declared.reported.Reported.{Reported}
use Rattle.token_kind.specs.declared.token.Token.{Token}
use Rattle.token_table.specs.Table.{Table, IsGrantable, IsToken}
use Rattle.rebuild.specs.Collecting.{Collecting}
use Rattle.rebuild.specs.Reports.{judged}
use Rattle.rebuild.proofs.Reported.{judged_tokens}
use Rattle.rebuild.proofs.collect.Collect.take_piece.Goals as goal

pub grant_all-requires-clause-apart : goal.grant_all-requires-clause-apart
grant_all-requires-clause-apart c =
    let tokens = c.as_slice-2.ensures.value ∙ c.in_ok-tokens.ensures ∙ ap (map (judged c.args.slot.now.flush)) c.as_slice.ensures in
    let here = subst (λ (t : Table). All (λ (r : Reported). IsGrantable t c.args.c (judged c.args.slot.now.flush r)) c.args.p.now.holds) (ap (λ (s : Collecting). s.table) (sym c.self.view_is)) c.requires.fits.apart in
    subst (λ (ts : List Token). All (IsGrantable c.self.inside.table c.args.c) ts) (sym tokens) (All-map (IsGrantable c.self.inside.table c.args.c) (judged c.args.slot.now.flush) c.args.p.now.holds here)

pub grant_all-requires-clause-inodes : goal.grant_all-requires-clause-inodes
grant_all-requires-clause-inodes c =
    let tokens = c.as_slice-2.ensures.value ∙ c.in_ok-tokens.ensures ∙ ap (map (judged c.args.slot.now.flush)) c.as_slice.ensures in
    subst (λ (ts : List Token). All (λ (t : Token). t.ino.0 < 512) ts) (sym tokens) (All-map (λ (t : Token). t.ino.0 < 512) (judged c.args.slot.now.flush) c.args.p.now.holds c.requires.inodes)

pub grant_all-requires-clause-modes : goal.grant_all-requires-clause-modes
grant_all-requires-clause-modes c =
    let tokens = c.as_slice-2.ensures.value ∙ c.in_ok-tokens.ensures ∙ ap (map (judged c.args.slot.now.flush)) c.as_slice.ensures in
    subst (λ (ts : List Token). All IsToken ts) (sym tokens) (judged_tokens c.args.slot.now.flush c.args.p.now.holds c.requires.modes)
