-- `listing::line_of` is right because it goes by the word as `call_line` does, and by how many numbers there are as `takes_count` does.
use Rattle.std.proofs.Common.{arith, ◌∙◌}
use Rattle.listing.proofs.CallLaws.{dev_line, start_line, stop_line, write_line, recv_line, susp_line, resume_line, identifiers-fit, lengths-fit}
use Rattle.listing.proofs.line_of.Goals as goal

pub identifiers_of-requires-clause-fit : goal.identifiers_of-requires-clause-fit
identifiers_of-requires-clause-fit c = identifiers-fit _ _ c.in-Dev-len5-up.is-0 c.requires

pub ranges_of-requires-clause-fit : goal.ranges_of-requires-clause-fit
ranges_of-requires-clause-fit c = lengths-fit _ _ c.in-Start-len2-up.is-0 c.requires

pub returns-in-Dev-len5-up : goal.returns-in-Dev-len5-up
returns-in-Dev-len5-up c = rw (c.identifiers_of.ensures, c.no_ranges.ensures) (dev_line _ _ c.in-Dev-len5-up.is-0 c.in-Dev-len5-up.len_at_least c.if-identifiers-le8.true)

pub returns-in-Start-len2-up : goal.returns-in-Start-len2-up
returns-in-Start-len2-up c = rw c.ranges_of.ensures (start_line _ _ c.in-Start-len2-up.is-0 c.in-Start-len2-up.len_at_least c.if-pairs-le32.true c.if-pairs-eq0.true)

pub returns-in-Stop-len1 : goal.returns-in-Stop-len1
returns-in-Stop-len1 c = c.plain.ensures ∙ stop_line c.args.word c.args.numbers.now c.in-Stop-len1.is-0 (omega arith)

pub returns-in-Write-len3 : goal.returns-in-Write-len3
returns-in-Write-len3 c = c.plain-in-Write-len3.ensures ∙ write_line c.args.word c.args.numbers.now c.in-Write-len3.is-0 (omega arith)

pub returns-in-Recv-len2 : goal.returns-in-Recv-len2
returns-in-Recv-len2 c = c.plain-in-Recv-len2.ensures ∙ recv_line c.args.word c.args.numbers.now c.in-Recv-len2.is-0 (omega arith)

pub returns-in-Susp-len2 : goal.returns-in-Susp-len2
returns-in-Susp-len2 c = c.plain-in-Susp-len2.ensures ∙ susp_line c.args.word c.args.numbers.now c.in-Susp-len2.is-0 (omega arith)

pub returns-in-Resume-len1 : goal.returns-in-Resume-len1
returns-in-Resume-len1 c = c.plain-in-Resume-len1.ensures ∙ resume_line c.args.word c.args.numbers.now c.in-Resume-len1.is-0 (omega arith)
