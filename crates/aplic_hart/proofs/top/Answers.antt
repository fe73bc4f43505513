-- One look at each number: the first, one more, and none left.
use Rattle.std.proofs.Common.{refl, ap, ◌∙◌}
use Rattle.aplic_hart.specs.declared.Waiting.{Waiting}
use Rattle.aplic_hart.proofs.Harts.{top-first, top-taken, top-ended}
use Rattle.aplic_hart.proofs.top.Goals as goal

pub loop-i-init : goal.loop-i-init
loop-i-init c = (c.requires, top-first _ _ _ _ _ _ (ap (λ (x : Waiting). x.left) c.into_iter-i-iterator.ensures.into_iter_gives ∙ c.above_zero.ensures) c.limit-best.ensures refl)

pub loop-i-preserved : goal.loop-i-preserved
loop-i-preserved c = (c.requires, top-taken _ _ _ _ _ c.loop-i.invariant.1 _ _ _ _ c.in-Some.ensures.steps c.target_in.ensures c.better-best.ensures)

pub returns : goal.returns
returns c = top-ended _ _ _ _ _ c.loop-i.invariant.1 _ c.next.new.self.left c.in-None.ensures.steps c.top_word.ensures
