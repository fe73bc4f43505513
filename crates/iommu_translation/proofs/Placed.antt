-- What a recorded message carries: addresses that were read, of entries that lie whole in one page. Assumes nothing.
use Rattle.std.specs.Prelude.{Err, Ok, None, Some, is_none}
use Prim.Native.Nat.{ℕ, ◌%◌, ◌^◌}
use mathlib.Core.Bool.{Bool, true, false, ◌&&◌}
use mathlib.Core.Path.{◌≡◌, sym, subst}
use lib.Dec.{eqb, ltb}
use Rattle.memory.specs.Choice.{pick}
use Rattle.memory.specs.Load.{Load}
use Rattle.memory.specs.Walk.{Walk, bind, run}
use Rattle.memory.proofs.Walks.{Read, run_bind, run-pick}
use Rattle.causes.specs.Causes.{access_fault, fault_at}
use Rattle.causes.specs.declared.Access.{Access}
use Rattle.causes.specs.declared.FaultInfo.{FaultInfo}
use Rattle.causes.specs.declared.Stage.TheVariants.{Directory}
use Rattle.std.specs.declared.option.Option.{Option}
use Rattle.paging.specs.Table.{StageTable}
use Rattle.message_recognition.specs.Table.{Messages}
use Rattle.paging_entry.specs.declared.Purpose.TheVariants.{SecondStage}
use Rattle.paging_entry.specs.Purpose.{Translation}
use Rattle.paging_entry.specs.Entry.{pages_for}
use Rattle.paging.specs.Stages.{first_stage_of, second_stage_of}
use Rattle.directory_entry.specs.declared.Tree.TheVariants.{Device}
use Rattle.directory_entry.specs.Entries.{too_wide}
use Rattle.directory_context.specs.declared.DecodedContext.{DecodedContext}
use Rattle.directory_device.specs.Found.{DeviceFound}
use Rattle.directory_device.specs.Device.{device_context_of}
use Rattle.directory_device.proofs.Placed.{ContextPlaced, device-placed}
use Rattle.directory_process.specs.Found.{PageTableInfo}
use Rattle.directory_process.specs.declared.FirstStage.{FirstStage}
use Rattle.directory_process.specs.Process.{first_table_of}
use Rattle.message.specs.Table.{MessageFound, message_of}
use Rattle.message.specs.declared.Destination.{Destination}
use Rattle.message.specs.declared.Message.TheVariants.{Redirect, Record}
use Rattle.message.proofs.Placed.{EntryPlaced, message-placed}
use Rattle.iommu_refusals.specs.declared.Settings.{Settings}
use Rattle.iommu_refusals.specs.declared.DeviceRequest.{DeviceRequest}
use Rattle.iommu_translation.specs.declared.Recording.{Recording}
use Rattle.iommu_translation.specs.declared.Outcome.TheVariants.{Translated, Redirected, Recorded}
use Rattle.iommu_translation.specs.Translate.{OutcomeFound, untranslated, message_table, guest_by, guest_of, stages_of, on_device, directory_levels, directory_of, translate_of}

-- file, context and entry lie at multiples of their sizes; the last two were read
pub record Placed (m : ℕ → Load) (r : Recording) : Type 0 where
  pub file : r.destination.file % 512 ≡ 0
  pub context : r.context % 64 ≡ 0
  pub context_read : Read m r.context
  pub entry : r.entry % 16 ≡ 0
  pub entry_read : Read m r.entry

abbrev AllPlaced : (ℕ → Load) → OutcomeFound → Type 0
AllPlaced m (Ok (Recorded r)) = Placed m r
AllPlaced m (Ok (Translated a)) = Unit {0}
AllPlaced m (Ok (Redirected a)) = Unit {0}
AllPlaced m (Err f) = Unit {0}

module _ (m : ℕ → Load) where
  abbrev P : OutcomeFound → Type 0
  P = AllPlaced m

  -- one walk, and then another, by the cases of what the first gives
  after : {A : Type 0} (w : Walk A) (f : A → Walk OutcomeFound) → P (run m (f (run m w))) → P (run m (bind w f))
  after w f h = subst P (sym (run_bind m w f)) h

  after-message : (w : Walk MessageFound) (f : MessageFound → Walk OutcomeFound) → EntryPlaced m (run m w) → ((k : FaultInfo) → P (run m (f (Err k)))) → ((a : ℕ) → P (run m (f (Ok (Redirect a)))))
      → ((d : Destination) (at : ℕ) → EntryPlaced m (Ok (Record d at)) → P (run m (f (Ok (Record d at))))) → P (run m (bind w f))
  after-message w f e x y z = after w f (go (run m w) e)
    where
      go : (k : MessageFound) → EntryPlaced m k → P (run m (f k))
      go (Err k) h = x k
      go (Ok (Redirect a)) h = y a
      go (Ok (Record d at)) h = z d at h

  after-stage : (w : Walk Translation) (f : Translation → Walk OutcomeFound) → ((k : FaultInfo) → P (run m (f (Err k)))) → ((a : ℕ) → P (run m (f (Ok a)))) → P (run m (bind w f))
  after-stage w f x y = after w f (go (run m w))
    where
      go : (t : Translation) → P (run m (f t))
      go (Err k) = x k
      go (Ok a) = y a

  after_info : (w : Walk PageTableInfo) (f : PageTableInfo → Walk OutcomeFound) → ((k : FaultInfo) → P (run m (f (Err k)))) → ((s : FirstStage) → P (run m (f (Ok s))))
      → P (run m (bind w f))
  after_info w f x y = after w f (go (run m w))
    where
      go : (i : PageTableInfo) → P (run m (f i))
      go (Err k) = x k
      go (Ok s) = y s

  after-device : (w : Walk DeviceFound) (f : DeviceFound → Walk OutcomeFound) → ContextPlaced m (run m w) → ((k : FaultInfo) → P (run m (f (Err k))))
      → ((c : DecodedContext) → ContextPlaced m (Ok c) → P (run m (f (Ok c)))) → P (run m (bind w f))
  after-device w f e x y = after w f (go (run m w) e)
    where
      go : (d : DeviceFound) → ContextPlaced m d → P (run m (f d))
      go (Err k) h = x k
      go (Ok c) h = y c h

  untranslated-placed : (x : Access) (a : ℕ) → P (untranslated x a)
  unfolding untranslated
  untranslated-placed x a = go (ltb a (2 ^ 56))
    where
      go : (b : Bool) → P (pick b (Ok (Translated a)) (Err (fault_at Directory (access_fault x))))
      go true = tt
      go false = tt

  module _ (c : DecodedContext) (placed : ContextPlaced m (Ok c)) where
    guest-placed : (x : Access) (a : ℕ) → P (run m (guest_of c x a))
    unfolding guest_of
    guest-placed x a = go (message_table c.messages a)
      where
        go : (y : Option Messages) → P (run m (guest_by c x a y))
        go (Some t) =
            after-message (message_of t.page t.mask x a) _ (message-placed m x a t.page t.mask) (λ k. tt) (λ b. tt)
            (λ d at h. record { file = h.0; context = placed.0; context_read = placed.1; entry = h.1; entry_read = h.2 })
        go None = after-stage (second_stage_of c.second SecondStage x a) _ (λ k. tt) (λ b. tt)

    stages-placed : (q : DeviceRequest) (f : Option StageTable) (sum : Bool) → P (run m (stages_of c q f sum))
    unfolding stages_of
    stages-placed q f sum =
        run-pick m P (is_none f && is_none c.second) _ _
        (untranslated-placed q.access q.address)
        (after-stage (first_stage_of f c.second q.access (pages_for q.supervisor sum q.access) q.address) _ (λ k. tt) (guest-placed q.access))

    device_led : (q : DeviceRequest) → P (run m (on_device q (Ok c)))
    device_led q = after_info (first_table_of c q.process q.supervisor q.access) _ (λ k. tt) (λ s. stages-placed q s.table s.sum)

  directory-placed : (s : Settings) (q : DeviceRequest) → P (run m (directory_of s q))
  unfolding directory_of
  directory-placed s q =
      run-pick m P (too_wide Device (directory_levels s.mode) q.device) _ _ tt
      (after-device (device_context_of (directory_levels s.mode) s.root q.device) _ (device-placed m (directory_levels s.mode) s.root q.device) (λ k. tt)
      (λ c h. device_led c h q))

  all_placed : (s : Settings) (q : DeviceRequest) → P (run m (translate_of s q))
  unfolding translate_of
  all_placed s q =
      run-pick m P (eqb s.mode 0) _ _ tt
      (run-pick m P (eqb s.mode 1) _ _ (untranslated-placed q.access q.address) (directory-placed s q))

  -- of every request whose message is recorded
  pub recorded-placed : (s : Settings) (q : DeviceRequest) (r : Recording) → run m (translate_of s q) ≡ Ok (Recorded r) → Placed m r
  recorded-placed s q r e = subst P e (all_placed s q)
