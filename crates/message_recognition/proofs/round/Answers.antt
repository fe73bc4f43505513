-- The goals of `round` that the laws of this crate close.
use Rattle.message_recognition.proofs.Rounds.{start-below, over_fits, over-end, used_fits, rest-is, run_fits, one_fits, sum_fits, number_is, used-is, round_is}
use Rattle.std.proofs.Common.{rules}
use Rattle.message_recognition.proofs.round.Goals as goal

pub overflow_sub-result-2 : goal.overflow_sub-result-2
overflow_sub-result-2 c = search (start-below, over_fits, over-end, used_fits, rest-is, run_fits, one_fits, sum_fits, number_is, used-is, round_is, rules)

pub returns : goal.returns
returns c = search (start-below, over_fits, over-end, used_fits, rest-is, run_fits, one_fits, sum_fits, number_is, used-is, round_is, rules)
