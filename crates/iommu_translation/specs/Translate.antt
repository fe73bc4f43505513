-- 003, "Process to translate an IOVA", steps 1 to 20, as a walk of loads.
use Rattle.std.specs.Prelude.{ℕ, ◌-◌, ◌^◌, Bool, ◌&&◌, eqb, ltb, is_none, Err, Ok, None, Some}
use Rattle.std.specs.declared.result.Result.{Result}
use Rattle.memory.specs.Choice.{pick}
use Rattle.memory.specs.Walk.{Walk, done, bind}
use Rattle.causes.specs.Causes.{access_fault, fault_at, disallowed}
use Rattle.causes.specs.declared.Access.{Access}
use Rattle.causes.specs.declared.FaultInfo.{FaultInfo}
use Rattle.causes.specs.declared.Stage.TheVariants.{Directory}
use Rattle.std.specs.declared.option.Option.{Option}
use Rattle.paging.specs.Table.{StageTable}
use Rattle.message_recognition.specs.Table.{Messages}
use Rattle.paging_entry.specs.declared.Purpose.TheVariants.{SecondStage}
use Rattle.paging_entry.specs.Purpose.{Translation}
use Rattle.paging_entry.specs.Entry.{pages_for}
use Rattle.paging.specs.Stages.{first_stage_of, second_stage_of}
use Rattle.directory_entry.specs.declared.Tree.TheVariants.{Device}
use Rattle.directory_entry.specs.Entries.{too_wide}
use Rattle.directory_context.specs.declared.DecodedContext.{DecodedContext}
use Rattle.directory_device.specs.Found.{DeviceFound}
use Rattle.directory_device.specs.Device.{device_context_of}
use Rattle.directory_process.specs.Found.{PageTableInfo}
use Rattle.directory_process.specs.Process.{first_table_of}
use Rattle.message_recognition.specs.Recognition.{recognised}
use Rattle.message.specs.Table.{MessageFound, message_of}
use Rattle.message.specs.declared.Message.TheVariants.{Redirect, Record}
use Rattle.iommu_refusals.specs.declared.Settings.{Settings}
use Rattle.iommu_refusals.specs.declared.DeviceRequest.{DeviceRequest}
use Rattle.iommu_translation.specs.declared.Outcome.{Outcome}
use Rattle.iommu_translation.specs.declared.Outcome.TheVariants.{Translated, Redirected, Recorded}

-- what the tables say of a request: an outcome, or a fault
abbrev pub OutcomeFound : Type 0
OutcomeFound = Result Outcome FaultInfo

-- "An address of 2^56 or more that no stage translates is an access fault", of the directory stage
unfoldable pub untranslated : Access → ℕ → OutcomeFound
untranslated x a = pick (ltb a (2 ^ 56)) (Ok (Translated a)) (Err (fault_at Directory (access_fault x)))

-- a recorded message carries the addresses of its device context and of its message entry (02, Req 06)
abbrev pub on_message : ℕ → MessageFound → OutcomeFound
on_message context (Err f) = Err f
on_message context (Ok (Redirect a)) = Ok (Redirected a)
on_message context (Ok (Record d entry)) = Ok (Recorded (record { destination = d; context = context; entry = entry }))

abbrev pub on_second : Translation → OutcomeFound
on_second (Err f) = Err f
on_second (Ok a) = Ok (Translated a)

-- step 18 applies: "msiptp.MODE != Off", and the guest address is recognised
unfoldable pub message_table : Option Messages → ℕ → Option Messages
message_table None a = None
message_table (Some t) a = pick (recognised t.mask t.pattern a) (Some t) None

-- by the message table, step 18, and else step 19
abbrev pub guest_by : DecodedContext → Access → ℕ → Option Messages → Walk OutcomeFound
guest_by c x a (Some t) = bind (message_of t.page t.mask x a) (λ m. done (on_message c.address m))
guest_by c x a None = bind (second_stage_of c.second SecondStage x a) (λ t. done (on_second t))

-- steps 18 and 19, for the guest address after the first stage
unfoldable pub guest_of : DecodedContext → Access → ℕ → Walk OutcomeFound
guest_of c x a = guest_by c x a (message_table c.messages a)

abbrev pub on_first : DecodedContext → Access → Translation → Walk OutcomeFound
on_first c x (Err f) = done (Err f)
on_first c x (Ok a) = guest_of c x a

-- steps 17 to 20, with the first stage's table and SUM
unfoldable pub stages_of : DecodedContext → DeviceRequest → Option StageTable → Bool → Walk OutcomeFound
stages_of c q f sum =
    pick (is_none f && is_none c.second)
    (done (untranslated q.access q.address))
    (bind
    (first_stage_of f c.second q.access (pages_for q.supervisor sum q.access) q.address)
    (on_first c q.access))

abbrev pub on_info : DecodedContext → DeviceRequest → PageTableInfo → Walk OutcomeFound
on_info c q (Err f) = done (Err f)
on_info c q (Ok s) = stages_of c q s.table s.sum

-- steps 7 to 20, with the device context
abbrev pub on_device : DeviceRequest → DeviceFound → Walk OutcomeFound
on_device q (Err f) = done (Err f)
on_device q (Ok c) = bind (first_table_of c q.process q.supervisor q.access) (on_info c q)

-- "2, 3, 4 are one, two, three levels"
abbrev pub directory_levels : ℕ → ℕ
directory_levels mode = mode - 1

-- steps 5 to 20, with a directory
unfoldable pub directory_of : Settings → DeviceRequest → Walk OutcomeFound
directory_of s q =
    pick (too_wide Device (directory_levels s.mode) q.device)
    (done (Err disallowed))
    (bind (device_context_of (directory_levels s.mode) s.root q.device) (on_device q))

-- steps 1 to 20: "0 Off (cause 256), 1 Bare (address unchanged, no message recognition)"
unfoldable pub translate_of : Settings → DeviceRequest → Walk OutcomeFound
translate_of s q =
    pick (eqb s.mode 0)
    (done (Err (fault_at Directory 256)))
    (pick (eqb s.mode 1) (done (untranslated q.access q.address)) (directory_of s q))
