use Rattle.std.proofs.Common.{refl, sym, ◌∙◌}
use Rattle.std.proofs.lemmas.Bool.{leb-true, true≢false}
use Rattle.server_flushes.specs.Flushes.{knowing}
use Rattle.server_flushes.proofs.Readings.{lasts, lasts-used, next-used, passed, start-uses}
use Rattle.server_flushes.proofs.Tellings.{committed-named, counted, nothing-told, nothing-told-yet, told-named, told-then}
use Rattle.server_flushes.proofs.flushing.take_flush.Goals as goal

pub returns-in_ok-tell_flushed-in-Lasts-clause-follows : goal.returns-in_ok-tell_flushed-in-Lasts-clause-follows
returns-in_ok-tell_flushed-in-Lasts-clause-follows c view o start follows none took =
    let d = c.args.draft.now in
    c.in_ok-tell_flushed-in-Lasts.ensures.follows view o start c.args.flush follows took refl
    (leb-true _ _ (lasts (knowing d) c.args.client c.args.flush c.in-Lasts.ensures.standing)) (nothing-told view c.args.client.0 d.acts none)

pub returns-in_ok-tell_flushed-in-Lasts-clause-passes : goal.returns-in_ok-tell_flushed-in-Lasts-clause-passes
returns-in_ok-tell_flushed-in-Lasts-clause-passes c view o start follows none unused =
    let d = c.args.draft.now in
    absurd (true≢false (sym (lasts-used (knowing d) c.args.client c.args.flush c.in-Lasts.ensures.standing) ∙ sym (start-uses view o start d follows c.args.client c.args.flush none) ∙ unused))

pub returns-in_ok-tell_flushed-in-Next-clause-follows : goal.returns-in_ok-tell_flushed-in-Next-clause-follows
returns-in_ok-tell_flushed-in-Next-clause-follows c view o start follows none took =
    let d = c.args.draft.now in
    let new = c.commit_flush.new.draft in
    let commits = c.in_ok-commit_flush-in-Next.ensures.commits in
    c.in_ok-tell_flushed-in-Next.ensures.follows view o start c.args.flush (c.in_ok-commit_flush-in-Next.ensures.follows view o start follows none took) took refl
    (counted c.args.client c.args.flush d new commits c.in-Next.ensures.volume c.requires.client) (nothing-told-yet view c.args.client.0 c.args.client c.args.flush d new commits none)

pub returns-in_ok-tell_flushed-in-Next-clause-passes : goal.returns-in_ok-tell_flushed-in-Next-clause-passes
returns-in_ok-tell_flushed-in-Next-clause-passes c view o start follows none unused =
    let d = c.args.draft.now in
    absurd (true≢false (sym (next-used (knowing d) c.args.client c.args.flush (sym c.in-Next.ensures.standing)) ∙ sym (start-uses view o start d follows c.args.client c.args.flush none) ∙ unused))

pub returns-in-PassedOver-clause-told : goal.returns-in-PassedOver-clause-told
returns-in-PassedOver-clause-told c view o start follows none used =
    let d = c.args.draft.now in
    absurd (true≢false (sym used ∙ start-uses view o start d follows c.args.client c.args.flush none ∙ passed (knowing d) c.args.client c.args.flush c.in-PassedOver.ensures.standing))

pub returns-in_ok-tell_flushed-in-Lasts-clause-names : goal.returns-in_ok-tell_flushed-in-Lasts-clause-names
returns-in_ok-tell_flushed-in-Lasts-clause-names c names = told-named c.args.draft.now c.tell_flushed.new.draft c.args.client c.args.flush.number c.in_ok-tell_flushed-in-Lasts.ensures.state names

pub returns-in_ok-tell_flushed-in-Next-clause-few : goal.returns-in_ok-tell_flushed-in-Next-clause-few
returns-in_ok-tell_flushed-in-Next-clause-few c to =
    told-then c.args.client c.args.flush c.args.draft.now c.commit_flush.new.draft c.tell_flushed-in-Next.new.draft to c.in_ok-commit_flush-in-Next.ensures.commits (c.in_ok-tell_flushed-in-Next.ensures.few to)

pub returns-in_ok-tell_flushed-in-Next-clause-names : goal.returns-in_ok-tell_flushed-in-Next-clause-names
returns-in_ok-tell_flushed-in-Next-clause-names c names =
    told-named c.commit_flush.new.draft c.tell_flushed-in-Next.new.draft c.args.client c.args.flush.number c.in_ok-tell_flushed-in-Next.ensures.state
    (committed-named c.args.client c.args.flush c.args.draft.now c.commit_flush.new.draft c.in_ok-commit_flush-in-Next.ensures.commits c.in-Next.ensures.volume names)
