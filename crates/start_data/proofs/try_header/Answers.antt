-- `start_data::try_header` is right because it makes the tests of `header_tests` in their order.
use Rattle.start_data.proofs.Cases.{read-header-short, read-header-version, read-header-whole}
use Rattle.start_data.proofs.try_header.Goals as goal

pub returns-then-s-lt8 : goal.returns-then-s-lt8
returns-then-s-lt8 c = search (read-header-short)

pub returns-then-s-ne0 : goal.returns-then-s-ne0
returns-then-s-ne0 c = search (read-header-version)

pub returns : goal.returns
returns c = search (read-header-whole)
