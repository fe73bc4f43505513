-- Refusals, each list in 01's order ("Given exactly when (checked in this order)"). Sums are of natural numbers: nothing wraps.
use Rattle.std.specs.Prelude.{ℕ, ◌+◌, ◌%◌, ◌^◌, Bool, false, ◌&&◌, ◌||◌, not, [], ◌∷◌, Result, eqb, leb, ltb, None, Some, is_none}
use Rattle.memory.specs.declared.Starts.{Starts}
use Rattle.directory_process.specs.Found.{ProcessId}
use Rattle.interrupt_file.specs.File.{is_file}
use Rattle.refusal.specs.declared.Refusal.{Refusal}
use Rattle.refusal.specs.declared.Refusal.TheVariants.{BadWindows, BadDirectory, BadDevice, BadProcess, NoProcess, BadLength, NoFile, BadIdentity, Overlap}
use Rattle.refusal.specs.Checks.{check, first_bad}
use Rattle.iommu_refusals.specs.declared.Settings.{Settings}
use Rattle.iommu_refusals.specs.declared.DeviceRequest.{DeviceRequest}

-- 2001 of a window: "window start or length no multiple of 4,096, or start + length > 2^56"
unfoldable pub bad_window : ℕ → ℕ → Bool
bad_window start len = not (eqb (start % 4096) 0) || (not (eqb (len % 4096) 0) || ltb (2 ^ 56) (start + len))

-- "2001, which now covers both windows" (02, Req 05); n and m are their lengths
abbrev pub bad_windows : Starts → ℕ → ℕ → Bool
bad_windows starts n m = bad_window starts.first n || bad_window starts.second m

-- 2011: "If they overlap"; "An empty window overlaps nothing"
unfoldable pub overlap : Starts → ℕ → ℕ → Bool
overlap starts n m =
    not (eqb n 0) && (not (eqb m 0) && (ltb starts.first (starts.second + m) && ltb starts.second (starts.first + n)))

-- a file that lies in either window: "Loads and 2007 and 2008 consider both"
abbrev pub is_lent_file : Starts → ℕ → ℕ → ℕ → Bool
is_lent_file starts n m file = is_file starts.first n file || is_file starts.second m file

-- 2002: "directory mode > 4, or root page number >= 2^44"
abbrev pub bad_directory : ℕ → ℕ → Bool
bad_directory mode root = ltb 4 mode || leb (2 ^ 44) root

-- 2004: "process_id present and >= 2^20"
abbrev pub bad_process : ProcessId → Bool
bad_process None = false
bad_process (Some p) = leb (2 ^ 20) p

abbrev pub absent : ProcessId → Bool
absent p = is_none p

-- 2006: "length 0, or (address mod 4,096) + length > 4,096"
abbrev pub bad_length : ℕ → ℕ → Bool
bad_length address len = eqb len 0 || ltb 4096 (address % 4096 + len)

-- the checks of a request before any table is read; 2007 and 2012 come last of all, in `finish`
unfoldable pub request_refusal : Settings → ℕ → ℕ → DeviceRequest → Result (Unit {0}) Refusal
request_refusal s n m q =
    first_bad
    (check BadWindows (bad_windows s.starts n m)
    ∷ check Overlap (overlap s.starts n m)
    ∷ check BadDirectory (bad_directory s.mode s.root)
    ∷ check BadDevice (leb (2 ^ 24) q.device)
    ∷ check BadProcess (bad_process q.process)
    ∷ check NoProcess (q.supervisor && absent q.process)
    ∷ check BadLength (bad_length q.address q.length)
    ∷ [])

-- "Takes check 2001, 2008, 2009", with 2011 "checked just after 2001"; of one identity, "with 2009 as before" (02, Req 12)
unfoldable pub take_refusal : Starts → ℕ → ℕ → ℕ → ℕ → Result (Unit {0}) Refusal
take_refusal starts n m file identity =
    first_bad
    (check BadWindows (bad_windows starts n m)
    ∷ check Overlap (overlap starts n m)
    ∷ check NoFile (not (is_lent_file starts n m file))
    ∷ check BadIdentity (ltb 2047 identity)
    ∷ [])

-- of many: "Refusal 2009 now means a doubleword number above 31" (02, Req 12)
unfoldable pub take_many_refusal : Starts → ℕ → ℕ → ℕ → ℕ → Result (Unit {0}) Refusal
take_many_refusal starts n m file d =
    first_bad
    (check BadWindows (bad_windows starts n m)
    ∷ check Overlap (overlap starts n m)
    ∷ check NoFile (not (is_lent_file starts n m file))
    ∷ check BadIdentity (ltb 31 d)
    ∷ [])

-- "reports 2001, 2008", and 2011 likewise
unfoldable pub report_refusal : Starts → ℕ → ℕ → ℕ → Result (Unit {0}) Refusal
report_refusal starts n m file =
    first_bad
    (check BadWindows (bad_windows starts n m)
    ∷ check Overlap (overlap starts n m)
    ∷ check NoFile (not (is_lent_file starts n m file))
    ∷ [])
