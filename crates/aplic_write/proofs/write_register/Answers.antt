-- The goals of `write_register` that the laws of this crate close.
use Rattle.aplic_words.proofs.States.{beyond}
use Rattle.aplic_write.proofs.Writes.{writes, changed}
use Rattle.register.proofs.Known.{knowing}
use Rattle.std.proofs.Common.{rules}
use Rattle.aplic_write.proofs.write_register.Goals as goal

pub returns-in-DomainCfg-clause-ignored : goal.returns-in-DomainCfg-clause-ignored
returns-in-DomainCfg-clause-ignored c = search (beyond, writes, changed, knowing, rules)

pub returns-in-SourceCfg-clause-ignored : goal.returns-in-SourceCfg-clause-ignored
returns-in-SourceCfg-clause-ignored c = search (beyond, writes, changed, knowing, rules)

pub returns-in-OfBits-clause-beyond : goal.returns-in-OfBits-clause-beyond
returns-in-OfBits-clause-beyond c = search (beyond, writes, changed, knowing, rules)

pub returns-in-OfBits-clause-ignored : goal.returns-in-OfBits-clause-ignored
returns-in-OfBits-clause-ignored c = search (beyond, writes, changed, knowing, rules)

pub returns-in-Target-clause-ignored : goal.returns-in-Target-clause-ignored
returns-in-Target-clause-ignored c = search (beyond, writes, changed, knowing, rules)
