-- What an act writes, and the entry that it makes.
use Rattle.std.specs.Prelude.{[], ℕ, List}
use Rattle.tree_law.specs.declared.entry.Entry.{Entry}
use Rattle.cluster_law.specs.History.{writes_of}
use Rattle.cluster_law.specs.ServerRules.{entry_of}
use Rattle.server_draft.specs.Acts.{commit_of, deed_of}
use Rattle.server_draft.specs.declared.act.Act.{Act}
use Rattle.server_draft.specs.declared.act.Act.TheVariants.{Tells, Commits, Drops}

-- the writes of an act: the blocks that a commit lays, and then those of its transaction
abbrev pub writes_by : Act → List (ℕ × List ℕ)
writes_by (Tells client message) = []
writes_by (Commits commit) = writes_of (commit_of commit)
writes_by Drops = []

-- and its entry, or none
abbrev pub entry_by : Act → List Entry
entry_by (Tells client message) = []
entry_by (Commits commit) = entry_of (deed_of commit.deed)
entry_by Drops = []
