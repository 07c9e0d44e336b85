-- `start_data::try_write` is right because it makes the tests of `write_tests` in their order, and what it stores is the header and then the ranges.
use borrow.Author.Rules.{rules}
use Rattle.start_data.proofs.Cases.{write-start-many, write-start-short, write-start-whole}
use Rattle.start_data.proofs.try_write.Goals as goal

pub returns-then-count-gt16 : goal.returns-then-count-gt16
returns-then-count-gt16 c = let all = write-start-many _ _ _ _ (search rules) in record { number = all.0; bytes = all.1 }

pub returns-then-buffer-n : goal.returns-then-buffer-n
returns-then-buffer-n c = let all = write-start-short _ _ _ _ (search rules) (search rules) in record { number = all.0; bytes = all.1 }

pub returns : goal.returns
returns c = let all = write-start-whole _ _ _ _ _ _ (search rules) (search rules) (search rules) c.put_header.ensures c.put_ranges.ensures in record { number = all.0; bytes = all.1 }
