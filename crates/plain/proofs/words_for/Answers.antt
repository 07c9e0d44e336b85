-- `plain::words_for` is right. Assumes nothing.
use Rattle.plain.proofs.AreaLaws.{words_right, words-wrong}
use Rattle.plain.proofs.words_for.Goals as goal

pub returns-then-bytes-eq-AREA_BYTES : goal.returns-then-bytes-eq-AREA_BYTES
returns-then-bytes-eq-AREA_BYTES c = words_right _ c.if-bytes-eq-AREA_BYTES.true

pub returns-else-bytes-eq-AREA_BYTES : goal.returns-else-bytes-eq-AREA_BYTES
returns-else-bytes-eq-AREA_BYTES c = words-wrong _ c.if-bytes-eq-AREA_BYTES.false
