use Rattle.cluster_law.proofs.refusals.each_is_told_once.Goals as goal

pub returns-clause-wait : goal.returns-clause-wait
returns-clause-wait c = λ o start server before lane number least w. w.collects.once

pub returns-clause-missing : goal.returns-clause-missing
returns-clause-missing c = λ o start server before lane number least w. w.collects.least_is

pub returns-clause-flushed : goal.returns-clause-flushed
returns-clause-flushed c = λ o start server before lane number w. w.collects

pub returns-clause-lasts : goal.returns-clause-lasts
returns-clause-lasts c = λ o start server before lane number w. w.commits.lasts

pub returns-clause-admitted : goal.returns-clause-admitted
returns-clause-admitted c = λ o start server before lane w. w.collects.new
