-- What may be lowered.
use Rattle.std.specs.Prelude.{◌≡◌, false, ⊤}
use Rattle.cal_base.specs.declared.identity.Ino.{Ino}
use Rattle.client_cache.specs.Known.{Known, inode_at}
use Rattle.token_kind.specs.declared.«class».Class.{Class}
use Rattle.token_kind.specs.declared.«class».Class.TheVariants.{Names, Data, Attr, Open}

-- Data and Attr are lowered where nothing of the file is unflushed
abbrev pub MayLower : Known → Ino → Class → Type 0
MayLower known ino Names = ⊤
MayLower known ino Data = (inode_at known ino).file.unflushed ≡ false
MayLower known ino Attr = (inode_at known ino).file.unflushed ≡ false
MayLower known ino Open = ⊤
