-- One law for each return; no write changes the buffer's length.
use Rattle.std.proofs.Common.{arith, rules}
use Rattle.capi_room.proofs.Rooms.{room_ways}
use Rattle.capi_report.proofs.Pairs.{long-report}
use Rattle.capi_report.proofs.yasmurekh_report.Goals as goal

pub returns-then-out-lt66-clause-told : goal.returns-then-out-lt66-clause-told
returns-then-out-lt66-clause-told c = search (room_ways, rules)

pub returns-then-out-lt66-clause-answer : goal.returns-then-out-lt66-clause-answer
returns-then-out-lt66-clause-answer c = search (room_ways, rules)

pub returns-clause-told : goal.returns-clause-told
returns-clause-told c = search (room_ways, rules)

pub returns-clause-answer : goal.returns-clause-answer
returns-clause-answer c =
    long-report _ _ _ _ _ 66 _ _ _ _ _ _ (omega arith) c.report_refusal-checked.ensures.0 c.report_refusal-checked.ensures.1 c.number_told.ensures c.file_bytes.ensures c.put_pairs-count.ensures.count c.put_pairs-count.ensures.words
