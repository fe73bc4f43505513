-- The goals of `leaf_place` that the laws of this crate close.
use Rattle.directory_walk.proofs.Pointers.{pointers_ways}
use Rattle.std.proofs.Common.{rules}
use Rattle.std.proofs.lemmas.Result.{err_from_is_err_and}
use Rattle.directory_walk.proofs.leaf_place.Goals as goal

pub returns-in_err-a : goal.returns-in_err-a
returns-in_err-a c =
    let p = err_from_is_err_and c.from_residual.result c.from_residual.ensures.1 in
    rw (p.1, p.2) (search (pointers_ways, c.in_err-a.was, rules))

pub returns-in_err-table : goal.returns-in_err-table
returns-in_err-table c =
    let p = err_from_is_err_and c.from_residual-in_err-table.result c.from_residual-in_err-table.ensures.1 in
    rw (p.1, p.2) (search (pointers_ways, c.in_ok-a.was, c.in_err-table.was, rules))

pub loop-n-preserved : goal.loop-n-preserved
loop-n-preserved c = search (pointers_ways, c.in_ok-a.was, c.in_ok-table.was, rules)

pub returns : goal.returns
returns c = search (pointers_ways, rules)
