-- The goals of `device_place` that the laws of this crate close.
use Rattle.directory_device.proofs.Device.{device_place_ways}
use Rattle.std.proofs.Common.{rules}
use Rattle.std.proofs.lemmas.Result.{err_from_is_err_and}
use Rattle.directory_device.proofs.device_place.Goals as goal

pub returns-in_err-table : goal.returns-in_err-table
returns-in_err-table c =
    let p = err_from_is_err_and c.from_residual.result c.from_residual.ensures.1 in
    rw (p.1, p.2) (search (device_place_ways, c.in_err-table.was, rules))

pub loop-n-preserved : goal.loop-n-preserved
loop-n-preserved c = search (device_place_ways, c.in_ok-table.was, rules)

pub returns : goal.returns
returns c = search (device_place_ways, rules)
