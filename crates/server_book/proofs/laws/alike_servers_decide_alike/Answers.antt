use Rattle.server_book.proofs.Deciding.{admits, admitted, blocked, blocked-head, head-same, holders, lacks, missing, next, orphan, plans, purged, revoked, short, used, wanted}
use Rattle.server_book.proofs.laws.alike_servers_decide_alike.Goals as goal

pub returns-clause-missing : goal.returns-clause-missing
returns-clause-missing c = missing

pub returns-clause-next : goal.returns-clause-next
returns-clause-next c = next

pub returns-clause-admitted : goal.returns-clause-admitted
returns-clause-admitted c = admitted

pub returns-clause-admits : goal.returns-clause-admits
returns-clause-admits c = λ a b before alike. admits a b alike before

pub returns-clause-head : goal.returns-clause-head
returns-clause-head c = head-same

pub returns-clause-used : goal.returns-clause-used
returns-clause-used c = λ a b client message alike. used a b alike client message

pub returns-clause-lacked : goal.returns-clause-lacked
returns-clause-lacked c = λ a b client want alike. lacks a b alike client want

pub returns-clause-plans : goal.returns-clause-plans
returns-clause-plans c = λ a b client number call alike. plans a b alike client number call

pub returns-clause-blockers : goal.returns-clause-blockers
returns-clause-blockers c = λ a b request alike. blocked a b alike request

pub returns-clause-blockers_of_head : goal.returns-clause-blockers_of_head
returns-clause-blockers_of_head c = blocked-head

pub returns-clause-wanted : goal.returns-clause-wanted
returns-clause-wanted c = λ a b client number asked alike. wanted a b alike client number asked

pub returns-clause-short : goal.returns-clause-short
returns-clause-short c = λ a b request alike. short a b alike request

pub returns-clause-revoked : goal.returns-clause-revoked
returns-clause-revoked c = λ a b blockers alike. revoked a b alike blockers

pub returns-clause-purged : goal.returns-clause-purged
returns-clause-purged c = λ a b gone alike. purged a b alike gone

pub returns-clause-orphan : goal.returns-clause-orphan
returns-clause-orphan c = orphan

pub returns-clause-holders : goal.returns-clause-holders
returns-clause-holders c = λ a b o alike. holders a b alike o
