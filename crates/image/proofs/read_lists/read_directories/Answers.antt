use Rattle.std.proofs.Common.{arith, sym}
use Rattle.std.proofs.lemmas.List.{length-set}
use Rattle.std.proofs.lemmas.Option.{slice_get-get_or}
use Rattle.image.specs.Damage.{FirstBlock, IsNodeRead, LacksBlock}
use Rattle.image.specs.Mount.{IsNode}
use Rattle.image.proofs.Listing.{blocks_stand, nodes_all, pair_more}
use Rattle.image.proofs.Reading.{reads_none, reads_ok, reads_then, reads_widen, told_before}
use Rattle.image.proofs.read_lists.read_directories.Goals as goal

pub loop-number-init : goal.loop-number-init
loop-number-init g c = record {
  reads = reads_none FirstBlock _ _ _ c.requires.own;
  read = λ s t number inode slots below. absurd (omega arith);
  nodes = λ number inode slots below. absurd (omega arith);
  count = c.requires.directory_count;
}

pub read_directory-requires-clause-stands : goal.read_directory-requires-clause-stands
read_directory-requires-clause-stands g c =
    let all = c.requires.inode_count in
    let test = c.loop-number-test.true in
    c.requires.stand c.loop-number.number _ test (slice_get-get_or c.args.inodes.now c.loop-number.number _ (omega arith))

pub read_directory-requires-clause-spelled : goal.read_directory-requires-clause-spelled
read_directory-requires-clause-spelled g c = λ s t.
    let all = c.requires.inode_count in
    let test = c.loop-number-test.true in
    c.requires.read s (told_before _ (g.D.PortDisk.means c.args.disk.now) s (sym c.loop-number.invariant.reads.same) t) c.loop-number.number _ test
    (slice_get-get_or c.args.inodes.now c.loop-number.number _ (omega arith))

pub loop-number-preserved : goal.loop-number-preserved
loop-number-preserved g c =
    let i = c.loop-number.invariant in
    let count = i.count in
    let all = c.requires.inode_count in
    let test = c.loop-number-test.true in
    let now = c.in-Ok.ensures in
    record {
      reads = reads_then FirstBlock _ _ _ _ _ _ _ _ i.reads (reads_ok (LacksBlock c.loop-number.number) FirstBlock _ _ _ _ _ now.reads);
      read = λ s t. pair_more (IsNodeRead s) c.args.inodes.now c.loop-number.directories c.loop-number.number _ _ (now.ok s (told_before (g.D.PortDisk.means c.args.disk.now) _ s i.reads.same t)) (i.read s t);
      nodes = pair_more IsNode c.args.inodes.now c.loop-number.directories c.loop-number.number _ _ now.node i.nodes;
      count = (let size = length-set c.loop-number.directories c.loop-number.number c.read_directory.new.directory in omega arith);
    }

pub returns-in-Err-clause-reads : goal.returns-in-Err-clause-reads
returns-in-Err-clause-reads g c =
    let i = c.loop-number.invariant in
    let count = i.count in
    let all = c.requires.inode_count in
    let test = c.loop-number-test.true in
    reads_then FirstBlock _ _ _ _ _ _ _ _ i.reads (reads_widen (LacksBlock c.loop-number.number) FirstBlock _ _ _ _ _ _ (λ s at t lacks. record {
      number = c.loop-number.number;
      within = test;
      before = blocks_stand s c.args.inodes.now c.loop-number.directories c.loop-number.number (omega arith) (omega arith) (i.read s (told_before _ _ s (sym i.reads.same) t));
      lacks = lacks;
    }) c.in-Err.ensures.reads)

pub returns-clause-ok : goal.returns-clause-ok
returns-clause-ok g c = λ s t number inode slots below.
    let test = c.loop-number-test.false in
    c.loop-number.invariant.read s t number inode slots (omega arith)

pub returns-clause-nodes : goal.returns-clause-nodes
returns-clause-nodes g c =
    let test = c.loop-number-test.false in
    let all = c.requires.inode_count in
    nodes_all c.loop-number.number c.args.inodes.now c.loop-number.directories (omega arith) c.loop-number.invariant.nodes
