-- `state_bytes::judge` is right because it makes the three tests of `state_rules`, the third by halves of the sizes, where no sum can wrap.
use Rattle.state_bytes.proofs.Cases.{judge-short, judge-version, judge-nvme, judge-vendor, judge-odd, judge-long, judge-whole}
use Rattle.state_bytes.proofs.judge.Goals as goal
use Rattle.state_bytes.proofs.judge.Goals.{then-whole-lt48-via-then-whole-lt48, then-whole-lt48-via-else-whole-lt48+then-number_of-ne0, then-whole-lt48-via-else-whole-lt48+else-number_of-ne0+then-number_of-ne0-2, then-whole-lt48-via-else-whole-lt48+else-number_of-ne0+else-number_of-ne0-2+then-number_of-ne0-3}
use Rattle.state_bytes.proofs.judge.Goals.{then-behind-ne0-via-then-behind-ne0, then-behind-ne0-via-else-behind-ne0+then-dwords-nvme}

pub returns-then-whole-lt48 : goal.returns-then-whole-lt48
returns-then-whole-lt48 c =
    elim c.then-whole-lt48.branch [
      | then-whole-lt48-via-then-whole-lt48 w ↦ search judge-short
      | then-whole-lt48-via-else-whole-lt48+then-number_of-ne0 w ↦ search judge-version
      | then-whole-lt48-via-else-whole-lt48+else-number_of-ne0+then-number_of-ne0-2 w ↦ search judge-nvme
      | then-whole-lt48-via-else-whole-lt48+else-number_of-ne0+else-number_of-ne0-2+then-number_of-ne0-3 w ↦ search judge-vendor
    ]

pub returns-then-behind-ne0 : goal.returns-then-behind-ne0
returns-then-behind-ne0 c =
    elim c.then-behind-ne0.branch [
      | then-behind-ne0-via-then-behind-ne0 w ↦ search judge-odd
      | then-behind-ne0-via-else-behind-ne0+then-dwords-nvme w ↦ search judge-long
    ]

pub returns : goal.returns
returns c = search judge-whole
