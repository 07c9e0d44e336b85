-- `start_data::read_start` is right because it goes on from the header's answer and makes the tests of `read_tests` that are left, in their order.
use Rattle.start_data.proofs.Answers.{start-read}
use Rattle.start_data.proofs.Cases.{read-start-refused, read-start-there, read-start-many, read-start-short, read-start-whole}
use Rattle.start_data.proofs.read_start.Goals as goal

pub returns-in_default : goal.returns-in_default
returns-in_default c = search (start-read, read-start-refused)

pub returns-then-listed-gt16 : goal.returns-then-listed-gt16
returns-then-listed-gt16 c = search (start-read, read-start-many)

pub overflow_sub-stop : goal.overflow_sub-stop
overflow_sub-stop c = search read-start-there

pub returns-then-s-n : goal.returns-then-s-n
returns-then-s-n c = search (start-read, read-start-short)

pub returns : goal.returns
returns c = search (start-read, read-start-whole)
