-- What is read of the input and not yet taken in.
use Rattle.std.specs.Prelude.{ℕ, List, ◌-◌, take, drop}
use Rattle.std.specs.declared.io.traits.Read.{Ghosts}
use Rattle.lines.specs.declared.Lines.{Lines}

abbrev pub unread : {A : Type 0} {most : ℕ} {reads : Ghosts A} → Lines A most reads → List ℕ
unread l = take (l.input.end - l.input.at) (drop l.input.at l.input.bytes)
