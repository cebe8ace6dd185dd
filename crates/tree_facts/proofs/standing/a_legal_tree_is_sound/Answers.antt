use Rattle.tree_facts.proofs.OpenedFiles.{history_descriptors}
use Rattle.tree_facts.proofs.SoundNodes.{history_within, history_writers}
use Rattle.tree_facts.proofs.standing.a_legal_tree_is_sound.Goals as goal

pub returns-clause-within : goal.returns-clause-within
returns-clause-within c = history_within

pub returns-clause-writers : goal.returns-clause-writers
returns-clause-writers c = history_writers

pub returns-clause-descriptors : goal.returns-clause-descriptors
returns-clause-descriptors c = history_descriptors
