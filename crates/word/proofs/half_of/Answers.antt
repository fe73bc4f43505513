-- The goals of `half_of` that the laws of this crate close.
use Rattle.word.proofs.Bits.{words}
use Rattle.std.proofs.Common.{rules}
use Rattle.word.proofs.half_of.Goals as goal

pub returns-then-high : goal.returns-then-high
returns-then-high c = search (words, rules)

pub returns : goal.returns
returns c = search (words, rules)
