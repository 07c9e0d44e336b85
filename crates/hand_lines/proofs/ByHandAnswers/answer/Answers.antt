-- `hand_lines::ByHand` plays safely: a line that was read asks for a call within its bounds.
use Rattle.listing.proofs.BoundLaws.{read-bounded}
use Rattle.hand_lines.proofs.ByHandAnswers.answer.Goals as goal

pub play-requires : goal.play-requires
play-requires g c = read-bounded _ _ c.read_line-line.ensures
