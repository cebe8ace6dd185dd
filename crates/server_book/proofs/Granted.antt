-- What a server may grant, refuse, commit and tell, an alike one may.
use Rattle.std.proofs.Common.{◌∷◌, [], ◌<◌, ◌≤◌, ◌+◌, List, Bool, true, false, not, Option, IsTrue, ℕ, ap, subst, sym, ◌∙◌}
use Rattle.cal_base.specs.declared.identity.ClientId.{ClientId}
use Rattle.cal_base.specs.declared.identity.Ino.{Ino}
use Rattle.message.specs.declared.message.Message.TheVariants.{Acquire, Grant, Refuse, Change, Done, Flush, Flushed, Revoke, Release, Ask, Piece, Wait, Admit}
use Rattle.token_kind.specs.declared.«class».Class.{Class}
use Rattle.token_kind.specs.declared.«class».Class.TheVariants.{Names, Data, Attr, Open}
use Rattle.token_kind.specs.declared.content.Content.{Content}
use Rattle.token_kind.specs.declared.content.Content.TheVariants.{Nothing as Empty, Names as Entries, Bytes, Size}
use Rattle.token_kind.specs.declared.flush.Flush.{Flush as FlushRecord}
use Rattle.token_kind.specs.declared.grant_item.GrantItem.{GrantItem}
use Rattle.token_kind.specs.declared.hold.Hold.{Hold}
use Rattle.tree_law.specs.Tree.{node_at}
use Rattle.tree_law.specs.declared.reply.Reply.{Reply}
use Rattle.tree_law.specs.declared.request.Asked.TheVariants.{Want as Wants}
use Rattle.tree_law.specs.declared.request.Request.{Request}
use Rattle.volume_edit.specs.Edit.{inode_at, slot_at}
use Rattle.volume_edit.specs.Homes.{AreHomes}
use Rattle.volume_plan.specs.Flushing.{blocks_for as blocks_to_lay, data_writes, flush_of}
use Rattle.volume_plan.specs.Plans.{Plan, free_count}
use Rattle.volume_plan.specs.Shown.{shown}
use Rattle.cluster_law.specs.Book.{is_held}
use Rattle.cluster_law.specs.Granting.{AreBytes, AreEntriesOf, CommitsChange, CommitsDeed, CommitsFlush, CommitsWell, DropsOld, Grants, GrantsWell, IsContent, IsFreshContent, IsItem, Refuses, RefusesWell, TellsDone, TellsFlushed}
use Rattle.cluster_law.specs.Lanes.{Act, Mounts, Tells, Commits, Drops, Commit, Deed, Changes, Flushes, Purges, Reaps}
use Rattle.cluster_law.specs.Lists.{Each}
use Rattle.cluster_law.specs.ServerState.{ServerState, as_request, is_admitted}
use Rattle.cluster_law.specs.Sessions.{Taken}
use Rattle.server_book.specs.Alike.{Alike}
use Rattle.server_book.proofs.Deciding.{admitted, blocked, changed, flushes, head-same, held-same, lacks, plans, short, used-new-flush, wanted}

module _ (a b : ServerState) (alike : Alike a b) where
  pub is-admitted : IsTrue (is_admitted a) → IsTrue (is_admitted b)
  is-admitted h = subst IsTrue (admitted a b alike) h

  -- what comes with an item
  fresh-content : (ino : Ino) (cls : Class) (content : Content) → IsFreshContent a ino cls content → IsFreshContent b ino cls content
  fresh-content ino Names (Entries entries) h = subst (λ v. AreEntriesOf (shown v) (node_at (shown v) ino) entries) alike.volume h
  fresh-content ino Names Empty h = h
  fresh-content ino Names (Bytes bytes) h = h
  fresh-content ino Names (Size size) h = h
  fresh-content ino Data (Bytes bytes) h =
      subst (λ v. AreBytes b.sectors (inode_at v.inodes ino.0) bytes) alike.volume (subst (λ ss. AreBytes ss (inode_at a.volume.inodes ino.0) bytes) alike.sectors h)
  fresh-content ino Data Empty h = h
  fresh-content ino Data (Entries entries) h = h
  fresh-content ino Data (Size size) h = h
  fresh-content ino Attr (Size size) h = h ∙ ap (λ v. (inode_at v.inodes ino.0).size) alike.volume
  fresh-content ino Attr Empty h = h
  fresh-content ino Attr (Entries entries) h = h
  fresh-content ino Attr (Bytes bytes) h = h
  fresh-content ino Open content h = h

  any-content : (fresh : Bool) (ino : Ino) (cls : Class) (content : Content) → IsContent fresh a ino cls content → IsContent fresh b ino cls content
  any-content true ino cls content h = fresh-content ino cls content h
  any-content false ino cls content h = h

  items-stay : (client : ClientId) (items : List GrantItem) → Each (IsItem a client) items → Each (IsItem b client) items
  items-stay client [] h = h
  items-stay client (item ∷ items) h = (
    record {
      fresh = h.0.fresh ∙ ap (λ (m : Hold). not (is_held m)) (held-same a b alike client item.ino item.«class»);
      content = any-content item.fresh item.ino item.«class» item.content h.0.content;
    },
    items-stay client items h.1,
  )

  -- a Grant, and a Refuse
  grant : (client : ClientId) (number : ℕ) (items : List GrantItem) → Grants a client number items → Grants b client number items
  grant client number items g =
      let request = as_request client number (Wants g.want) in
      record {
        want = g.want;
        admitted = is-admitted g.admitted;
        head_is = sym (head-same a b alike) ∙ g.head_is;
        unblocked = sym (blocked a b alike request) ∙ g.unblocked;
        room = sym (short a b alike request) ∙ g.room;
        lacks = g.lacks ∙ lacks a b alike client g.want;
        each = items-stay client items g.each;
      }

  pub grants-well : (act : Act) → GrantsWell a act → GrantsWell b act
  grants-well (Mounts volume) h = h
  grants-well (Tells lane (Acquire number want)) h = h
  grants-well (Tells lane (Grant number items)) h = grant (record { 0 = lane.client }) number items h
  grants-well (Tells lane (Refuse number free needed)) h = h
  grants-well (Tells lane (Change number call)) h = h
  grants-well (Tells lane (Done number reply)) h = h
  grants-well (Tells lane (Flush flush)) h = h
  grants-well (Tells lane (Flushed number)) h = h
  grants-well (Tells lane (Revoke revoke)) h = h
  grants-well (Tells lane (Release release)) h = h
  grants-well (Tells lane Ask) h = h
  grants-well (Tells lane (Piece piece)) h = h
  grants-well (Tells lane (Wait number least)) h = h
  grants-well (Tells lane Admit) h = h
  grants-well (Commits commit) h = h
  grants-well Drops h = h

  refuse : (client : ClientId) (number free needed : ℕ) → Refuses a client number free needed → Refuses b client number free needed
  refuse client number free needed g =
      let request = as_request client number (Wants g.want) in
      record {
        want = g.want;
        admitted = is-admitted g.admitted;
        head_is = sym (head-same a b alike) ∙ g.head_is;
        lacks = subst IsTrue (short a b alike request) g.lacks;
        free_is = g.free_is ∙ ap free_count alike.volume;
        wanted_is = g.wanted_is ∙ wanted a b alike client number (Wants g.want);
      }

  pub refuses-well : (act : Act) → RefusesWell a act → RefusesWell b act
  refuses-well (Mounts volume) h = h
  refuses-well (Tells lane (Acquire number want)) h = h
  refuses-well (Tells lane (Grant number items)) h = h
  refuses-well (Tells lane (Refuse number free needed)) h = refuse (record { 0 = lane.client }) number free needed h
  refuses-well (Tells lane (Change number call)) h = h
  refuses-well (Tells lane (Done number reply)) h = h
  refuses-well (Tells lane (Flush flush)) h = h
  refuses-well (Tells lane (Flushed number)) h = h
  refuses-well (Tells lane (Revoke revoke)) h = h
  refuses-well (Tells lane (Release release)) h = h
  refuses-well (Tells lane Ask) h = h
  refuses-well (Tells lane (Piece piece)) h = h
  refuses-well (Tells lane (Wait number least)) h = h
  refuses-well (Tells lane Admit) h = h
  refuses-well (Commits commit) h = h
  refuses-well Drops h = h

  -- commits
  change : (asked : Request) (reply : Reply) (new_ino : Option Ino) (commit : Commit) → CommitsChange a asked reply new_ino commit → CommitsChange b asked reply new_ino commit
  change asked reply new_ino commit g = record {
    call = g.call;
    admitted = is-admitted g.admitted;
    head_is = sym (head-same a b alike) ∙ g.head_is;
    call_is = g.call_is;
    new = subst (λ n. n < asked.number) (changed a b alike asked.client) g.new;
    unblocked = sym (blocked a b alike asked) ∙ g.unblocked;
    reply_is = g.reply_is ∙ ap (λ (p : Plan). p.reply) (plans a b alike asked.client asked.number g.call);
    new_ino_is = g.new_ino_is ∙ ap (λ (p : Plan). p.new_ino) (plans a b alike asked.client asked.number g.call);
    edit_is = g.edit_is ∙ ap (λ (p : Plan). p.edit) (plans a b alike asked.client asked.number g.call);
    lays_none = g.lays_none;
  }

  flush-commit : (took : Option Taken) (client : ClientId) (flush : FlushRecord) (commit : Commit) → CommitsFlush a took client flush commit → CommitsFlush b took client flush commit
  flush-commit took client flush commit g = record {
    taken = g.taken;
    next = g.next ∙ ap (λ n. n + 1) (flushes a b alike client);
    fits = subst IsTrue (used-new-flush a b alike client flush) g.fits;
    lays_is = g.lays_is ∙ ap (λ v. data_writes (blocks_to_lay v flush) flush.pieces) alike.volume;
    edit_is = g.edit_is ∙ ap (λ v. flush_of v client flush) alike.volume;
  }

  deed-commit : (took : Option Taken) (deed : Deed) (commit : Commit) → CommitsDeed a took deed commit → CommitsDeed b took deed commit
  deed-commit took (Changes asked reply new_ino) commit h = change asked reply new_ino commit h
  deed-commit took (Flushes client flush) commit h = flush-commit took (record { 0 = client }) flush commit h
  deed-commit took (Purges client) commit h = h
  deed-commit took (Reaps ino) commit h = h

  done : (client : ClientId) (number : ℕ) (reply : Reply) → TellsDone a client number reply → TellsDone b client number reply
  done client number reply g = record {
    call = g.call;
    admitted = is-admitted g.admitted;
    head_is = sym (head-same a b alike) ∙ g.head_is;
    number_is = sym (changed a b alike client) ∙ g.number_is;
    reply_is = ap (λ v. (slot_at v.slots client.0).reply) (sym alike.volume) ∙ g.reply_is;
  }

  told-flushed : (took : Option Taken) (client : ClientId) (number : ℕ) → TellsFlushed a took client number → TellsFlushed b took client number
  told-flushed took client number g = record {
    flush = g.flush;
    taken = g.taken;
    number_is = g.number_is;
    lasts = subst (λ n. number ≤ n) (flushes a b alike client) g.lasts;
  }

  dropped : DropsOld a → DropsOld b
  dropped g = record {
    old = g.old;
    call = g.call;
    admitted = is-admitted g.admitted;
    head_is = sym (head-same a b alike) ∙ g.head_is;
    call_is = g.call_is;
    below = subst (λ n. g.old.number < n) (changed a b alike g.old.client) g.below;
  }

  pub commits-well : (took : Option Taken) (act : Act) → CommitsWell took a act → CommitsWell took b act
  commits-well took (Mounts volume) h = h
  commits-well took (Tells lane (Acquire number want)) h = h
  commits-well took (Tells lane (Grant number items)) h = h
  commits-well took (Tells lane (Refuse number free needed)) h = h
  commits-well took (Tells lane (Change number call)) h = h
  commits-well took (Tells lane (Done number reply)) h = done (record { 0 = lane.client }) number reply h
  commits-well took (Tells lane (Flush flush)) h = h
  commits-well took (Tells lane (Flushed number)) h = told-flushed took (record { 0 = lane.client }) number h
  commits-well took (Tells lane (Revoke revoke)) h = h
  commits-well took (Tells lane (Release release)) h = h
  commits-well took (Tells lane Ask) h = h
  commits-well took (Tells lane (Piece piece)) h = h
  commits-well took (Tells lane (Wait number least)) h = h
  commits-well took (Tells lane Admit) h = h
  commits-well took (Commits commit) h = (deed-commit took commit.deed commit h.0, subst (λ v. AreHomes v commit.edit commit.homes) alike.volume h.1)
  commits-well took Drops h = dropped h
