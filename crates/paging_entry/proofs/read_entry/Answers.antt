-- The goal of `read_entry` where a page is aligned.
use Rattle.paging_entry.proofs.CodeLaws.{entry_ways}
use Rattle.std.proofs.Common.{rules}
use Rattle.paging_entry.proofs.read_entry.Goals as goal

pub returns-then-page-size-eq0 : goal.returns-then-page-size-eq0
returns-then-page-size-eq0 c = search (entry_ways, rules)
