use Rattle.std.proofs.Common.{◌∙◌, ◌<◌, ◌≤◌, length, arith}
use Rattle.image.proofs.Shown.{directory_shown, file_shown, free_shown, past_shown}
use Rattle.image.proofs.image.Image.node.Goals as goal

pub returns-in-Dir-clause-node : goal.returns-in-Dir-clause-node
returns-in-Dir-clause-node c =
    let low : c.args.ino.0 < length c.self.inside.inodes.items = omega arith in
    directory_shown _ _ c.args.ino _ _ c.self.invariant.volume c.self.view_is low c.index.ensures c.in-Dir.is c.index-in-Dir.ensures

pub returns-in-File-clause-node : goal.returns-in-File-clause-node
returns-in-File-clause-node c =
    let low : c.args.ino.0 < length c.self.inside.inodes.items = omega arith in
    c.file_node.ensures ∙ file_shown _ _ c.args.ino _ _ c.self.invariant.volume c.self.view_is low c.index.ensures c.index-in-File.ensures c.in-File.is

pub returns-in-Free-clause-node : goal.returns-in-Free-clause-node
returns-in-Free-clause-node c =
    let low : c.args.ino.0 < length c.self.inside.inodes.items = omega arith in
    free_shown _ _ c.args.ino _ c.self.invariant.volume c.self.view_is low c.index.ensures c.in-Free.is

pub returns-then-number-len-clause-node : goal.returns-then-number-len-clause-node
returns-then-number-len-clause-node c =
    let past : length c.self.inside.inodes.items ≤ c.args.ino.0 = omega arith in
    past_shown _ _ c.args.ino c.self.invariant.volume c.self.view_is past
