-- The law: what each step of a cluster keeps.
use Rattle.std.specs.Prelude.{◌≡◌, List, [], ◌∷◌, length}
use Rattle.cal_base.specs.Limits.{sectors}
use Rattle.journal.specs.Commit.{IsClosed}
use Rattle.volume.specs.Volume.{SpellsVolume}
use Rattle.volume_edit.specs.Edit.{IsVolume}
use Rattle.cluster_law.specs.declared.step.TraceStep.{TraceStep}
use Rattle.cluster_law.specs.ClientRules.{KeepsAnswer, KeepsRelease}
use Rattle.cluster_law.specs.Delivery.{KeepsDelivery, KeepsResend}
use Rattle.cluster_law.specs.DiskRules.{KeepsDisk, KeepsHeld}
use Rattle.cluster_law.specs.Noted.{DiskAt, Setting, Noted, disk_now, steps_of}
use Rattle.cluster_law.specs.Promises.{DiskStands, LegalHistory, OnceEach, TokensApart, WhatGoes}
use Rattle.cluster_law.specs.Rules.{KeepsEntries, KeepsEvent, KeepsPurge, KeepsService, KeepsUse}

-- how the format leaves a cluster: under key 1, with the gate closed, and a volume that its sectors spell
pub record IsFormatted (w : Setting) : Type 0 where
  pub key : w.first.key ≡ 1
  pub closed : IsClosed w.first.sectors
  pub count : length w.first.sectors ≡ sectors
  pub spells : SpellsVolume w.first.sectors w.volume
  pub volume : IsVolume w.volume

-- the mechanism of a step: how nodes work
pub record KeepsMechanism (w : Setting) (s : Noted) (earlier : List Noted) : Type 0 where
  pub event : KeepsEvent w s earlier
  pub delivery : KeepsDelivery w s earlier
  pub resend : KeepsResend w s earlier
  pub used : KeepsUse w s earlier
  pub answer : KeepsAnswer w s earlier
  pub release : KeepsRelease w s earlier
  pub service : KeepsService w s earlier
  pub entries : KeepsEntries w s earlier
  pub purge : KeepsPurge w s earlier
  pub disk : KeepsDisk w s earlier
  pub held : KeepsHeld w s earlier

-- what a user may rely on after a step
pub record KeepsPromises (w : Setting) (s : Noted) (earlier : List Noted) : Type 0 where
  pub once : OnceEach w s earlier
  pub legal : LegalHistory w s earlier
  pub goes : WhatGoes w s earlier
  pub apart : TokensApart w s earlier
  pub stands : DiskStands w s earlier

pub record KeepsLaw (w : Setting) (s : Noted) (earlier : List Noted) : Type 0 where
  pub mechanism : KeepsMechanism w s earlier
  pub promises : KeepsPromises w s earlier

-- each step keeps all of it
abbrev pub Keeps : Setting → List Noted → Type 0
Keeps w [] = Unit {0}
Keeps w (s ∷ earlier) = Keeps w earlier × KeepsLaw w s earlier

-- printed steps, in order, that come from a cluster and leave its disk so: there are notes beside them with which
-- each step keeps the law
pub record IsCluster (w : Setting) (steps : List TraceStep) (disk : DiskAt) : Type 0 where
  pub formatted : IsFormatted w
  pub notes : List Noted
  pub steps_are : steps_of notes ≡ steps
  pub disk_is : disk_now w notes ≡ disk
  pub keeps : Keeps w notes
