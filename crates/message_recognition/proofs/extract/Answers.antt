-- `extract` gives the number that `pack` makes.
use Rattle.message_recognition.proofs.Rounds.{extract-below}
use Rattle.message_recognition.proofs.extract.Goals as goal

pub returns : goal.returns
returns c = let e = c.pack.ensures.0 in (e, rw e (extract-below _ _))
