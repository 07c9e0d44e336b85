-- `playing::Player::play_line` is safe: a line that was read asks for a call within its bounds.
use Rattle.listing.proofs.BoundLaws.{read-bounded}
use Rattle.playing.proofs.Player.play_line.Goals as goal

pub play-requires : goal.play-requires
play-requires g c = read-bounded _ _ c.read_line.ensures
