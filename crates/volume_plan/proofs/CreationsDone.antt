-- A creation that the tree doesn't refuse is done where there are an inode and as many blocks as it needs.
use Rattle.std.proofs.Common.{◌≡◌, ◌≤◌, ◌<◌, ◌+◌, ℕ, zero, suc, Bool, true, false, not, nat_lt, List, [], ◌∷◌, length, slice_get, Option, Some, None, Result, Ok, Err, cond, refl, sym, ap, subst, ◌∙◌, arith, if◌then◌else◌}
use Rattle.std.proofs.lemmas.Bool.{lt-ltb, ltb-true}
use Rattle.std.specs.List.{position_or_len}
use Rattle.cal_base.specs.declared.identity.ClientId.{ClientId}
use Rattle.cal_base.specs.declared.identity.Ino.{Ino}
use Rattle.inode.specs.declared.inode.Inode.{Inode}
use Rattle.inode.specs.declared.inode.Kind.{Kind}
use Rattle.inode.specs.declared.inode.Kind.TheVariants.{Free, File, Dir}
use Rattle.tree_law.specs.Legal.{tree_of}
use Rattle.tree_law.specs.Resolve.{last_of, new_place}
use Rattle.tree_law.specs.declared.call.Call.TheVariants.{Create, Mkdir}
use Rattle.tree_law.specs.declared.entry.Entry.{Entry}
use Rattle.tree_law.specs.declared.reply.Reply.TheVariants.{Done}
use Rattle.tree_law.specs.declared.reply.Why.{Why}
use Rattle.volume.specs.Volume.{Volume}
use Rattle.volume_plan.specs.Leads.{Mounted}
use Rattle.volume_plan.specs.Plans.{Plan, free_count, if_room, is_free, least_inode, making, making_at, making_if, plan, short}
use Rattle.volume_plan.specs.Shown.{shown}
use Rattle.volume_plan.proofs.Removals.{stand_nodes}
use Rattle.volume_plan.proofs.Similar.{same_new_place}

-- where one passes, a first one does
passing_first : (inodes : List Inode) (number : ℕ) (inode : Inode) → slice_get inodes number ≡ Some inode → is_free inode.kind ≡ true → position_or_len (λ i. is_free i.kind) inodes < length inodes
passing_first [] number inode there free = absurd (cc)
passing_first (x ∷ inodes) zero inode there free =
    let one : is_free x.kind ≡ true = cc in
    subst (λ (b : Bool). cond (not b) (1 + position_or_len (λ i. is_free i.kind) inodes) 0 < suc (length inodes)) (sym one) (omega arith)
passing_first (x ∷ inodes) (suc number) inode there free =
    let rest = passing_first inodes number inode there free in
    elim (is_free x.kind) as (λ b. cond (not b) (1 + position_or_len (λ i. is_free i.kind) inodes) 0 < suc (length inodes)) [ true ↦ omega arith | false ↦ omega arith ]

least_there : (v : Volume) (number : ℕ) (inode : Inode) → slice_get v.inodes number ≡ Some inode → inode.kind ≡ Free → least_inode v ≡ Some (position_or_len (λ i. is_free i.kind) v.inodes)
least_there v number inode there free =
    ap (λ (b : Bool). cond b (Some (position_or_len (λ i. is_free i.kind) v.inodes)) None) (lt-ltb _ _ (passing_first v.inodes number inode there (ap is_free free)))

room_done : (v : Volume) (client : ClientId) (number : ℕ) (p : Plan) → p.reply ≡ Done → (if_room v client number p).needed ≤ free_count v → (if_room v client number p).reply ≡ Done
room_done v client number p done few =
    elim (nat_lt (free_count v) p.needed) as (λ b. nat_lt (free_count v) p.needed ≡ b → (if b then short v client number p.touches p.needed else p).needed ≤ free_count v → (if b then short v client number p.touches p.needed else p).reply ≡ Done) [
      | true ↦ λ less enough. (let below = ltb-true (free_count v) p.needed less in absurd (omega arith))
      | false ↦ λ less enough. done
    ] refl few

made_done : (v : Volume) (client : ClientId) (number : ℕ) (place : Ino) (name : List ℕ) (kind : Kind) (o : Option ℕ) (n : ℕ) → o ≡ Some n → (making_if v client number place name kind o).needed ≤ free_count v → (making_if v client number place name kind o).reply ≡ Done
made_done v client number place name kind None n least few = absurd (cc)
made_done v client number place name kind (Some k) n least few = room_done v client number (making v client number place name kind (record { 0 = k })) refl few

making_done : (v : Volume) (client : ClientId) (number : ℕ) (r : Result Ino Why) (place : Ino) (name : List ℕ) (kind : Kind) (n : ℕ) → r ≡ Ok place → least_inode v ≡ Some n → (making_at v client number r name kind).needed ≤ free_count v → (making_at v client number r name kind).reply ≡ Done
making_done v client number (Ok other) place name kind n at least few = made_done v client number other name kind (least_inode v) n least few
making_done v client number (Err why) place name kind n at least few = absurd (cc)

module _ (sectors : List (List ℕ)) (v : Volume) (history : List Entry) (client : ClientId) (number : ℕ) (opened : List Ino) (m : Mounted sectors v history) (path : List (List ℕ)) (place : Ino) (at : new_place (tree_of history) path ≡ Ok place)
    (free : ℕ) (inode : Inode) (there : slice_get v.inodes free ≡ Some inode) (kind : inode.kind ≡ Free) where
  creation_done : (made : Kind) → (making_at v client number (new_place (shown v) path) (last_of path) made).needed ≤ free_count v → (making_at v client number (new_place (shown v) path) (last_of path) made).reply ≡ Done
  creation_done made few =
      making_done v client number (new_place (shown v) path) place (last_of path) made (position_or_len (λ i. is_free i.kind) v.inodes)
      ((same_new_place sectors v (tree_of history) m.volume (stand_nodes sectors v history m) path).same ∙ at) (least_there v free inode there kind) few

  pub create_done : (plan v client number (Create path) opened).needed ≤ free_count v → (plan v client number (Create path) opened).reply ≡ Done
  create_done few = creation_done File few

  pub mkdir_done : (plan v client number (Mkdir path) opened).needed ≤ free_count v → (plan v client number (Mkdir path) opened).reply ≡ Done
  mkdir_done few = creation_done Dir few
