-- `queue::hand_out` is right: the least of the three numbers is how many entries are taken, and the oldest so many are copied. Assumes nothing.
use mathlib.Core.Path.{sym, ap, ◌∙◌}
use native.Mathlib.Omega.{arith}
use lib.ListN.{length}
use Rattle.little.specs.Little.{put}
use Rattle.rules.specs.Queue.{joined}
use Rattle.queue.proofs.QueueLaws.{taken-few, taken-count, taken-entries}
use Rattle.queue.proofs.hand_out.Goals as goal

pub returns : goal.returns
returns c =
    let a = c.args in
    let few = taken-few a.area.now a.r a.asked (length a.buffer.now) _ _ _ c.fill_of.ensures c.min-fits.ensures c.min-m.ensures in
    let count = taken-count a.area.now a.r a.asked (length a.buffer.now) _ _ _ c.fill_of.ensures c.min-fits.ensures c.min-m.ensures in
    let entries = taken-entries a.area.now a.r a.asked (length a.buffer.now) _ _ _ c.fill_of.ensures c.min-fits.ensures c.min-m.ensures in
    (count, omega (arith, few, c.requires), c.take_entries.ensures ∙ ap (λ es. put a.buffer.now 0 (joined es)) (sym entries))
