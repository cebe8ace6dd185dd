use Rattle.client_book.proofs.Amounts.{messages-amount}
use Rattle.client_book.proofs.Counting.{calls-stepped, last-stepped}
use Rattle.client_book.proofs.steps.counts_grow_slowly.Goals as goal

pub returns-clause-calls : goal.returns-clause-calls
returns-clause-calls c = calls-stepped

pub returns-clause-flushes : goal.returns-clause-flushes
returns-clause-flushes c = last-stepped

pub returns-clause-messages : goal.returns-clause-messages
returns-clause-messages c = messages-amount
