-- Some number is left where one is found, and fewer after it.
use Rattle.std.proofs.Common.{rules}
use Rattle.aplic_hart.proofs.Left.{some_left, less_left}
use Rattle.aplic_hart.proofs.WaitingIterator.next.Goals as goal

pub drop_first-self-requires : goal.drop_first-self-requires
drop_first-self-requires c = some_left _ _ c.first_of-i.ensures c.if-i-lt64.true

pub returns-then-i-lt64-clause-goes : goal.returns-then-i-lt64-clause-goes
returns-then-i-lt64-clause-goes c = record {
  on = λ f. (search rules, search rules, less_left _ _ _ c.first_of-i.ensures c.if-i-lt64.true c.drop_first-self.ensures);
  keeps = search rules;
  rests = λ f. search rules;
}
