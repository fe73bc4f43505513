-- The mask of a context that passed the checks is below 2^52.
use Rattle.std.proofs.Common.{arith}
use Rattle.directory_context.proofs.Device.{mask-small}
use Rattle.directory_device.proofs.checked_device.Goals as goal

pub decode-requires : goal.decode-requires
decode-requires c = omega (arith, mask-small _ _ c.device_misconfigured.ensures c.if-device_misconfigured.false)
