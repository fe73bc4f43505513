-- k ones are at most 52, so 16 x 2^k fits.
use Rattle.std.proofs.Common.{arith}
use lib.Count.{ones-le}
use Rattle.message.proofs.Entries.{size_fits, few_files, many_files}
use Rattle.message.proofs.aligned.Goals as goal

pub overflow_shl-size : goal.overflow_shl-size
overflow_shl-size c = omega (arith, ones-le 52 _ c.requires.1)

pub returns-then-size-lt4096 : goal.returns-then-size-lt4096
returns-then-size-lt4096 c = few_files _ _ _ (omega (arith, size_fits c.args.mask c.requires.1)) c.if-size-lt4096.true

pub returns : goal.returns
returns c = many_files _ _ _ (omega (arith, size_fits c.args.mask c.requires.1)) c.if-size-lt4096.false
