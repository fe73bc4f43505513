-- The whole request: the checks, the walk, and the finish; the answer, the bytes after, and the addresses read.
use Rattle.std.specs.Prelude.{ℕ, ◌+◌, ◌*◌, ◌/◌, ◌%◌, ◌<◌, ◌≡◌, Bool, true, ◌&&◌, ◌||◌, not, List, [], ◌∷◌, eqb, leb, length, Result, Err, Ok}
use Rattle.memory.specs.Choice.{pick}
use Rattle.memory.specs.Bits.{bits}
use Rattle.memory.specs.declared.Starts.{Starts}
use Rattle.memory.specs.Window.{Window, Lent, inside, lent, holds, byte_at, memory}
use Rattle.memory.specs.Walk.{run, trace}
use Rattle.causes.specs.Causes.{is_write}
use Rattle.interrupt_file.specs.File.{after_store}
use Rattle.refusal.specs.declared.Refusal.{Refusal}
use Rattle.refusal.specs.declared.Refusal.TheVariants.{FileOutside, FileOverTables}
use Rattle.refusal.specs.Checks.{check, first_bad, unless_refused}
use Rattle.iommu_refusals.specs.declared.Settings.{Settings}
use Rattle.iommu_refusals.specs.declared.DeviceRequest.{DeviceRequest}
use Rattle.iommu_translation.specs.declared.Recording.{Recording}
use Rattle.iommu_translation.specs.declared.Outcome.{Outcome}
use Rattle.iommu_translation.specs.Translate.{OutcomeFound}
use Rattle.iommu_translation.specs.declared.Outcome.TheVariants.{Recorded}
use Rattle.iommu_files.specs.declared.Answer.{Answer}
use Rattle.iommu_files.specs.declared.Answer.TheVariants.{Translated, Redirected, Stored, Discarded, Fault, Refused, Taken}
use Rattle.iommu_refusals.specs.Refusals.{is_lent_file, request_refusal}
use Rattle.iommu_translation.specs.Translate.{translate_of}
use Rattle.iommu_files.specs.Answers.{refused}
use Rattle.iommu_files.specs.Files.{changed_at}

-- the four bytes of a data value reversed
abbrev pub reversed : ℕ → ℕ
reversed d = bits d 7 0 * 0x1000000 + bits d 15 8 * 0x10000 + bits d 23 16 * 0x100 + bits d 31 24

-- "its identity the data value, at page offset 4 with the four bytes reversed"
abbrev pub identity_of : DeviceRequest → ℕ → ℕ
identity_of q d = pick (eqb (q.address % 4096) 4) (reversed d) d

-- "Stored exactly when it is a 4-byte write at page offset 0 (little-endian) or 4 (big-endian) and the identity is at most 2,047"
unfoldable pub storable_as : DeviceRequest → ℕ → Bool
storable_as q identity =
    is_write q.access
    && (eqb q.length 4 && ((eqb (q.address % 4096) 0 || eqb (q.address % 4096) 4) && leb identity 2047))

abbrev pub storable : DeviceRequest → ℕ → Bool
storable q d = storable_as q (identity_of q d)

-- the 4 KiB page in which a file lies holds all of some bytes
abbrev pub page_holds : ℕ → ℕ → ℕ → Bool
page_holds file a size = inside (file / 4096 * 4096) 4096 a size

-- "its file lies in the 4 KiB page that holds the request's device context or its message entry" (02, Req 06), which have 64 bytes and 16
abbrev pub over_tables : Recording → Bool
over_tables r = page_holds r.destination.file r.context 64 || page_holds r.destination.file r.entry 16

-- the checks of a store: "a storable message whose file is outside the window (last of all)"; "Refuse a store with 2012 .. This comes after 2007" (02, Req 06). n and m are the windows' lengths
abbrev pub store_refusal : Starts → ℕ → ℕ → Recording → Result (Unit {0}) Refusal
store_refusal starts n m r =
    first_bad
    (check FileOutside (not (is_lent_file starts n m r.destination.file))
    ∷ check FileOverTables (over_tables r)
    ∷ [])

-- the answer from what the tables say: "other accesses under M = 1 are discarded, before 2007 is looked at"
unfoldable pub finish : Starts → ℕ → ℕ → DeviceRequest → ℕ → OutcomeFound → Answer
finish starts n m q d (Ok (Outcome.Translated a)) = Translated a
finish starts n m q d (Ok (Outcome.Redirected a)) = Redirected a
finish starts n m q d (Err f) = Fault f
finish starts n m q d (Ok (Recorded r)) = pick (storable q d) (unless_refused (store_refusal starts n m r) refused (Stored r.destination)) Discarded

-- the answer to a request with its data value, on the bytes of both windows
unfoldable pub request_of : Settings → List ℕ → List ℕ → DeviceRequest → ℕ → Answer
request_of s first second q d =
    unless_refused (request_refusal s (length first) (length second) q) refused
    (finish s.starts (length first) (length second) q d (run (memory (lent s.starts first second)) (translate_of s q)))

-- a file's identity made pending
abbrev pub stored_at : Starts → List ℕ → List ℕ → ℕ → ℕ → Lent
stored_at starts first second file n = changed_at starts first second file (λ start bytes. after_store start bytes file n)

-- "Only answers 2 and 6 may change the window": what is lent after, from the answer; "a store changes at most one byte of one window"
abbrev pub stored_by : Starts → List ℕ → List ℕ → DeviceRequest → ℕ → Answer → Lent
stored_by starts first second q d (Stored e) = stored_at starts first second e.file (identity_of q d)
stored_by starts first second q d (Translated a) = lent starts first second
stored_by starts first second q d (Redirected a) = lent starts first second
stored_by starts first second q d Discarded = lent starts first second
stored_by starts first second q d (Fault f) = lent starts first second
stored_by starts first second q d (Refused r) = lent starts first second
stored_by starts first second q d (Taken w) = lent starts first second

unfoldable pub after_request : Settings → List ℕ → List ℕ → DeviceRequest → ℕ → Lent
unfolding request_of
after_request s first second q d = stored_by s.starts first second q d (request_of s first second q d)

-- the addresses of the doublewords that a request reads as tables: none where a check refuses it first
unfoldable pub reads_of : Settings → List ℕ → List ℕ → DeviceRequest → List ℕ
reads_of s first second q =
    unless_refused (request_refusal s (length first) (length second) q) (λ r. []) (trace (memory (lent s.starts first second)) (translate_of s q))

-- two windows have the same bytes in the doubleword at an address, where the first of them holds it
abbrev pub SameIn : Window → Window → ℕ → Type 0
SameIn w v p = holds w p 8 ≡ true → (k : ℕ) → k < 8 → byte_at w (p + k) ≡ byte_at v (p + k)

-- what is lent has the same bytes in each doubleword that is read at an address of a list, in each window
abbrev pub SameAt : Lent → Lent → List ℕ → Type 0
SameAt l k [] = Unit {0}
SameAt l k (p ∷ ps) = SameIn l.first k.first p × SameIn l.second k.second p × SameAt l k ps
