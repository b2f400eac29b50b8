use Rattle.std.proofs.Common.{rules}
use Rattle.search.proofs.Frontier.{used_le}
use Rattle.search.proofs.breadth_first.scan.Goals as goal

pub overflow_add-depth : goal.overflow_add-depth
overflow_add-depth g c =
    let s = c.requires.ready.queue.sound c.args.head c.requires.below in
    let u = used_le _ _ _ _ c.requires.ready.queue in
    search rules
