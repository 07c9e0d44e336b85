-- The engine that holds marks in words counts those that are pending. Assumes nothing.
use mathlib.Core.Path.{◌∙◌}
use Prim.Native.Nat.{◌+◌}
use native.Mathlib.Omega.{arith}
use Rattle.writes.proofs.CountLaws.{share-counted}
use Rattle.writes.proofs.InWordsNotes.count.Goals as goal

pub returns : goal.returns
returns c us e = let a = c.args in c.count_span.ensures ∙ share-counted a.marks.now a.base (a.base + a.n) a.n us (omega arith) e
