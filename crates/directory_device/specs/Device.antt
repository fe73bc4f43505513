-- The device directory (003, "Process to locate the Device-context").
use Rattle.std.specs.Prelude.{ℕ, ◌+◌, ◌-◌, ◌*◌, Err, Ok}
use Rattle.memory.specs.Choice.{pick}
use Rattle.memory.specs.Walk.{Walk, done, bind}
use Rattle.paging.specs.Stages.{direct}
use Rattle.paging_entry.specs.Purpose.{Translation}
use Rattle.directory_entry.specs.declared.Tree.TheVariants.{Device}
use Rattle.directory_entry.specs.Entries.{misconfigured, context_word, context_from}
use Rattle.directory_walk.specs.Pointers.{leaf_place}
use Rattle.directory_context.specs.declared.DeviceContext.{DeviceContext}
use Rattle.directory_context.specs.Device.{device_misconfigured, decoded_of}
use Rattle.directory_device.specs.Found.{DeviceFound}

abbrev pub checked_device : ℕ → DeviceContext → DeviceFound
checked_device a c = pick (device_misconfigured c) (Err (misconfigured Device)) (Ok (decoded_of a c))

abbrev pub device_word : ℕ → (ℕ → Walk DeviceFound) → Walk DeviceFound
device_word a k = context_word Device Err a k

-- steps 8 to 10: the context at an address
unfoldable pub device_context_at : ℕ → Walk DeviceFound
device_context_at a =
    context_from Device Err a
    (λ tc.
    device_word (a + 8)
    (λ iohgatp.
    device_word (a + 16)
    (λ ta.
    device_word (a + 24)
    (λ fsc.
    device_word (a + 32)
    (λ msiptp.
    device_word (a + 40)
    (λ mask.
    device_word (a + 48)
    (λ pattern.
    device_word (a + 56)
    (λ reserved.
    done
    (checked_device a
    (record { tc = tc; iohgatp = iohgatp; ta = ta; fsc = fsc; msiptp = msiptp; mask = mask; pattern = pattern; reserved = reserved }))))))))))

abbrev pub on_device_place : Translation → Walk DeviceFound
on_device_place (Err f) = done (Err f)
on_device_place (Ok a) = device_context_at a

-- the context of a device, from a root page and a number of levels; the directory's entries lie where their addresses say
unfoldable pub device_context_of : ℕ → ℕ → ℕ → Walk DeviceFound
device_context_of levels root d = bind (leaf_place Device d direct (levels - 1) (root * 4096)) on_device_place
