-- What a removal leaves of the requests and the names, and how many messages it makes.
use Rattle.std.proofs.Common.{◌≡◌, ◌≤◌, ◌+◌, [], ℕ, true, false, not, Bool, List, length, ap, refl, subst, sym, ◌∙◌, arith}
use Rattle.std.proofs.lemmas.Bool.{false≢true}
use Rattle.std.proofs.lemmas.List.Filters.{length-filter_both}
use Rattle.cal_base.specs.Limits as limits
use Rattle.cal_base.specs.declared.identity.ClientId.{ClientId}
use Rattle.cal_base.specs.declared.identity.Ino.{Ino}
use Rattle.image.specs.Image.{is_nameless, is_orphan}
use Rattle.inode.specs.declared.inode.Kind.{Kind}
use Rattle.inode.specs.declared.inode.Kind.TheVariants.{Free, File, Dir}
use Rattle.tree_law.specs.declared.request.Request.{Request}
use Rattle.token_table.specs.Table.{same_client}
use Rattle.volume.specs.Volume.{Volume}
use Rattle.volume_edit.specs.Edit.{IsVolume, edited, inode_at}
use Rattle.volume_edit.specs.declared.edit.Edit.{Edit}
use Rattle.volume_plan.specs.Plans.{purge_of, reap_of}
use Rattle.volume_names.specs.Named.{AreNamed}
use Rattle.volume_names.proofs.Plans.{alone_named, reap_named}
use Rattle.cluster_law.specs.ServerState.{ServerState, purging}
use Rattle.server_book.proofs.Moving.{alike-refl}
use Rattle.server_desk.specs.Desk.{DeskValue, IsLike, with_desk}
use Rattle.server_draft.specs.Acts.{told_to}
use Rattle.server_draft.specs.declared.act.Act.{Act}
use Rattle.server_draft.specs.declared.draft.Draft.{Draft}

-- a purge takes requests away, and puts none
pub requests-fewer : (old new : Draft) (desk : DeskValue) (client : ClientId) → ((server : ServerState) → IsLike old.desk server → IsLike desk (purging server client)) → new.desk ≡ desk
    → length new.desk.requests ≤ length old.desk.requests
requests-fewer old new desk client purges is =
    let like = purges (with_desk old.desk old.image []) (alike-refl (with_desk old.desk old.image [])) in
    let same = ap (λ (d : DeskValue). length d.requests) is ∙ ap (λ (requests : List Request). length requests) like.requests in
    let both = length-filter_both (λ (r : Request). same_client client r.client) (λ (r : Request). not (same_client client r.client)) (λ r. refl) old.desk.requests in
    omega (arith, same, both)

-- a purge changes no name
pub purged-named : (old new : Draft) (client : ClientId) (edit : Edit) → new.image ≡ edited old.image edit → edit ≡ purge_of old.image client → AreNamed old.image → AreNamed new.image
purged-named old new client edit image is names = subst (λ (v : Volume). AreNamed v) (sym (image ∙ ap (edited old.image) is)) (alone_named old.image _ names)

-- an orphan is a file without a name
nameless-file : (k : Kind) (named : Bool) → is_nameless k named ≡ true → k ≡ File
nameless-file Free named is = absurd (false≢true is)
nameless-file File named is = refl
nameless-file Dir named is = absurd (false≢true is)

nameless-named : (k : Kind) (named : Bool) → is_nameless k named ≡ true → named ≡ false
nameless-named Free named is = absurd (false≢true is)
nameless-named File true is = absurd (false≢true is)
nameless-named File false is = refl
nameless-named Dir named is = absurd (false≢true is)

-- so its freeing changes none either
pub freed-named : (old new : Draft) (ino : Ino) (edit : Edit) → IsVolume old.image → is_orphan (inode_at old.image.inodes ino.0) ≡ true → new.image ≡ edited old.image edit → edit ≡ reap_of ino → AreNamed old.image → AreNamed new.image
freed-named old new ino edit volume orphan image is names =
    let inode = inode_at old.image.inodes ino.0 in
    subst (λ (v : Volume). AreNamed v) (sym (image ∙ ap (edited old.image) is))
    (reap_named old.image ino volume names (nameless-file inode.kind inode.named orphan) (nameless-named inode.kind inode.named orphan))

-- nor does what leaves the volume
pub left-named : (old new : Draft) → new.image ≡ old.image → AreNamed old.image → AreNamed new.image
left-named old new image names = subst (λ (v : Volume). AreNamed v) (sym image) names

-- who is told nothing isn't told too much
pub none-few : (to : ℕ) (old new : List Act) → told_to to new ≡ told_to to old → told_to to new ≤ told_to to old + limits.inodes
none-few to old new same = omega (arith, same)
