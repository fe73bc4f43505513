-- After each turn the packing is that of the rounds done, each of which takes a run from the rest of the mask.
use Rattle.message_recognition.proofs.Rounds.{Counting}
use Rattle.message_recognition.proofs.pack.Given as goal

abbrev pub invariant-loop-p : goal.invariant-loop-p
invariant-loop-p l = Counting l.fn.x l.fn.mask l.done l.p

abbrev pub decreases-loop-p : goal.decreases-loop-p
decreases-loop-p l = l.p.rest
