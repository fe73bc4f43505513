-- The walk of a request, by the ways through each of its steps. Assumes nothing.
use Rattle.std.specs.Prelude.{Err, Ok, None, Some, is_none}
use Prim.Native.Nat.{ℕ, ◌-◌, ◌<◌, ◌≤◌, ◌^◌}
use mathlib.Core.Bool.{Bool, true, false, ◌&&◌}
use mathlib.Core.Path.{◌≡◌, refl, sym, ap, ◌∙◌}
use borrow.Author.Tests.{lt-ltb, le-ltb, ne_eqb}
use Rattle.memory.specs.Load.{Load}
use Rattle.memory.specs.declared.Starts.{Starts}
use Rattle.memory.specs.Window.{Lent, lent, memory}
use Rattle.memory.specs.Code.{Sound, turned_starts}
use Rattle.memory.proofs.Order.{turned-memory}
use Rattle.memory.specs.Walk.{done, run}
use Rattle.memory.proofs.Walks.{run_bind, then, at}
use Rattle.causes.specs.Causes.{access_fault, fault_at, disallowed}
use Rattle.causes.specs.declared.Access.{Access}
use Rattle.causes.specs.declared.Stage.TheVariants.{Directory}
use Rattle.causes.specs.declared.FaultInfo.{FaultInfo}
use Rattle.std.specs.declared.option.Option.{Option}
use Rattle.paging.specs.Table.{StageTable}
use Rattle.message_recognition.specs.Table.{Messages}
use Rattle.paging_entry.specs.declared.Purpose.TheVariants.{SecondStage}
use Rattle.paging_entry.specs.Purpose.{Translation}
use Rattle.paging_entry.specs.declared.Pages.{Pages}
use Rattle.paging_entry.specs.Entry.{pages_for}
use Rattle.paging.specs.Stages.{first_stage_of, second_stage_of}
use Rattle.paging.specs.Code.{raw_walk}
use Rattle.paging.proofs.CodeLaws.{second_walks, second-bare}
use Rattle.paging_entry.specs.declared.LeafTest.{LeafTest}
use Rattle.paging_entry.specs.declared.Pages.TheVariants.{User}
use Rattle.paging_entry.specs.declared.Raw.{Raw}
use Rattle.paging_entry.specs.Code.{test_of, code_of, told_by, Tight}
use Rattle.directory_entry.specs.declared.Tree.TheVariants.{Device}
use Rattle.directory_entry.specs.Entries.{too_wide}
use Rattle.directory_context.specs.declared.DecodedContext.{DecodedContext}
use Rattle.directory_device.specs.Found.{DeviceFound}
use Rattle.directory_device.specs.Device.{device_context_of}
use Rattle.directory_process.specs.Found.{PageTableInfo}
use Rattle.directory_process.specs.declared.FirstStage.{FirstStage}
use Rattle.directory_process.specs.Process.{first_table_of}
use Rattle.message_recognition.specs.Recognition.{recognised}
use Rattle.message.specs.Table.{MessageFound, message_of}
use Rattle.message.specs.declared.Message.{Message}
use Rattle.iommu_refusals.specs.declared.Settings.{Settings}
use Rattle.iommu_refusals.specs.declared.DeviceRequest.{DeviceRequest}
use Rattle.iommu_translation.specs.declared.Outcome.{Outcome}
use Rattle.iommu_translation.specs.declared.Outcome.TheVariants.{Translated}
use Rattle.iommu_translation.specs.Translate.{OutcomeFound, untranslated, on_message, on_second, message_table, guest_by, guest_of, on_first, stages_of, on_info, on_device, directory_of, translate_of}

-- an address that no stage translates
pub passed-low : (x : Access) (a : ℕ) → a < 72057594037927936 → Ok (Translated a) ≡ untranslated x a
unfolding untranslated
passed-low x a h = simp (lt-ltb a (2 ^ 56) h)

pub stopped-high : (x : Access) (a c : ℕ) → 72057594037927936 ≤ a → c ≡ access_fault x → Err (fault_at Directory c) ≡ untranslated x a
unfolding untranslated
stopped-high x a c h e = simp (le-ltb a (2 ^ 56) h, e)

pub ruleset untranslated_ways = (passed-low, stopped-high)

-- a message by its case, and a fault as it is
pub message-told : (k : ℕ) (m n : Message) (o : Outcome) → m ≡ n → Ok o ≡ on_message k (Ok n) → Ok o ≡ on_message k (Ok m)
message-told k m n o e h = h ∙ sym (ap (λ (y : Message). on_message k (Ok y)) e)

-- the message table
module _ (o : Option Messages) (a : ℕ) where
  pub no_table : o ≡ None → None ≡ message_table o a
  unfolding message_table
  no_table h = simp h

  module _ (t : Messages) (h : o ≡ Some t) (r : Bool) (hr : r ≡ recognised t.mask t.pattern a) where
    pub a-message : r ≡ true → Some t ≡ message_table o a
    unfolding message_table
    a-message k = simp (h, ← hr, k)

    pub no-message : r ≡ false → None ≡ message_table o a
    unfolding message_table
    no-message k = simp (h, ← hr, k)

pub ruleset message_ways = (no_table, a-message, no-message)

module _ (m : ℕ → Load) (c : DecodedContext) (x : Access) (a : ℕ) (o : OutcomeFound) (y : Option Messages) (hy : y ≡ message_table c.messages a) where
  pub guest-goes : o ≡ run m (guest_by c x a y) → o ≡ run m (guest_of c x a)
  unfolding guest_of
  guest-goes e = e ∙ ap (λ (k : Option Messages). run m (guest_by c x a k)) hy

  module _ (t : Messages) (ht : y ≡ Some t) (r : MessageFound) (hr : r ≡ run m (message_of t.page t.mask x a)) where
    -- by the message, so that whatever is done with one shows at its case
    told-message : (k : MessageFound) → k ≡ run m (message_of t.page t.mask x a) → o ≡ on_message c.address k → o ≡ run m (guest_by c x a (Some t))
    told-message (Err f) h e = rw (run_bind, ← h) e
    told-message (Ok (Message.Redirect b)) h e = rw (run_bind, ← h) e
    told-message (Ok (Message.Record d p)) h e = rw (run_bind, ← h) e

    by-message : o ≡ on_message c.address r → o ≡ run m (guest_of c x a)
    by-message e = guest-goes (told-message r hr e ∙ sym (ap (λ (k : Option Messages). run m (guest_by c x a k)) ht))

    pub message-fault : (f : FaultInfo) → r ≡ Err f → o ≡ Err f → o ≡ run m (guest_of c x a)
    message-fault f h e = by-message (e ∙ sym (ap (on_message c.address) h))

    pub message-goes : (n : Message) → r ≡ Ok n → o ≡ on_message c.address (Ok n) → o ≡ run m (guest_of c x a)
    message-goes n h e = by-message (e ∙ sym (ap (on_message c.address) h))

  module _ (ht : y ≡ None) (r : Translation) (hr : r ≡ run m (second_stage_of c.second SecondStage x a)) where
    told-second : o ≡ on_second r → o ≡ run m (guest_of c x a)
    told-second e =
        guest-goes
        (then m (second_stage_of c.second SecondStage x a) (λ k. done (on_second k)) hr e
        ∙ sym (ap (λ (k : Option Messages). run m (guest_by c x a k)) ht))

    pub second-fault : (f : FaultInfo) → r ≡ Err f → o ≡ Err f → o ≡ run m (guest_of c x a)
    second-fault f h e = told-second (e ∙ sym (ap on_second h))

    pub second-goes : (b : ℕ) → r ≡ Ok b → o ≡ Ok (Translated b) → o ≡ run m (guest_of c x a)
    second-goes b h e = told-second (e ∙ sym (ap on_second h))

pub ruleset guest_ways = (message-fault, message-goes, second-fault, second-goes)

-- both stages
module _ (m : ℕ → Load) (c : DecodedContext) (q : DeviceRequest) (f : Option StageTable) (sum : Bool) (p s : Bool) (hp : p ≡ is_none f) (hs : s ≡ is_none c.second) where
  pub stages-none : (o : OutcomeFound) → (p && s) ≡ true → o ≡ untranslated q.access q.address → o ≡ run m (stages_of c q f sum)
  unfolding stages_of
  stages-none o t e = e ∙ simp (← hp, ← hs, t)

  module _ (t : (p && s) ≡ false) (pages : Pages) (hg : pages ≡ pages_for q.supervisor sum q.access) (r : Translation)
      (hr : r ≡ run m (first_stage_of f c.second q.access pages q.address)) where
    both : {o : OutcomeFound} → o ≡ run m (on_first c q.access r) → o ≡ run m (stages_of c q f sum)
    unfolding stages_of
    both e =
        then m (first_stage_of f c.second q.access (pages_for q.supervisor sum q.access) q.address) (on_first c q.access)
        (hr ∙ ap (λ (p : Pages). run m (first_stage_of f c.second q.access p q.address)) hg)
        e
        ∙ simp (← hp, ← hs, t)

    pub stages-fault : (k : FaultInfo) → r ≡ Err k → Err k ≡ run m (stages_of c q f sum)
    stages-fault k e = both (at m (on_first c q.access) e refl)

    pub stages-guest : (a : ℕ) (o : OutcomeFound) → r ≡ Ok a → o ≡ run m (guest_of c q.access a) → o ≡ run m (stages_of c q f sum)
    stages-guest a o e w = both (at m (on_first c q.access) e w)

pub ruleset stages_ways = (stages-none, stages-fault, stages-guest)

-- with the device context
module _ (m : ℕ → Load) (c : DecodedContext) (q : DeviceRequest) (i : PageTableInfo)
    (hi : i ≡ run m (first_table_of c q.process q.supervisor q.access)) where
  informed : {o : OutcomeFound} → o ≡ run m (on_info c q i) → o ≡ run m (on_device q (Ok c))
  informed e = then m (first_table_of c q.process q.supervisor q.access) (on_info c q) hi e

  pub context-fault : (k : FaultInfo) → i ≡ Err k → Err k ≡ run m (on_device q (Ok c))
  context-fault k e = informed (at m (on_info c q) e refl)

  pub context-goes : (s : FirstStage) (o : OutcomeFound) → i ≡ Ok s → o ≡ run m (stages_of c q s.table s.sum) → o ≡ run m (on_device q (Ok c))
  context-goes s o e h = informed (at m (on_info c q) e h)

pub ruleset info_ways = (context-fault, context-goes)

-- with a directory
module _ (m : ℕ → Load) (s : Settings) (q : DeviceRequest) (w : Bool) (hw : w ≡ too_wide Device (s.mode - 1) q.device) where
  pub device-wide : (v : FaultInfo) → w ≡ true → v ≡ disallowed → Err v ≡ run m (directory_of s q)
  unfolding directory_of
  device-wide v t e = simp (← hw, t, e)

  module _ (t : w ≡ false) (d : DeviceFound) (hd : d ≡ run m (device_context_of (s.mode - 1) s.root q.device)) where
    -- by what is found, so that whatever is done with it shows at its case
    located : {o : OutcomeFound} → o ≡ run m (on_device q d) → o ≡ run m (directory_of s q)
    unfolding directory_of
    located e = go d hd e
      where
        go : (k : DeviceFound) {o : OutcomeFound} → k ≡ run m (device_context_of (s.mode - 1) s.root q.device) → o ≡ run m (on_device q k) → o ≡ run m (directory_of s q)
        go (Err f) h e = rw (← hw, t, run_bind, ← h) e
        go (Ok c) h e = rw (← hw, t, run_bind, ← h) e

    pub device-fault : (k : FaultInfo) → d ≡ Err k → Err k ≡ run m (directory_of s q)
    device-fault k e = located (at m (on_device q) e refl)

    pub device-goes : (c : DecodedContext) (o : OutcomeFound) → d ≡ Ok c → o ≡ run m (on_device q (Ok c)) → o ≡ run m (directory_of s q)
    device-goes c o e h = located (at m (on_device q) e h)

pub ruleset directory_ways = (device-wide, device-fault, device-goes)

-- the modes
module _ (m : ℕ → Load) (s : Settings) (q : DeviceRequest) where
  pub mode-off : s.mode ≡ 0 → Err (fault_at Directory 256) ≡ run m (translate_of s q)
  unfolding translate_of
  mode-off h = simp h

  pub mode-bare : (o : OutcomeFound) → s.mode ≡ 1 → o ≡ untranslated q.access q.address → o ≡ run m (translate_of s q)
  unfolding translate_of
  mode-bare o h e = e ∙ simp h

  pub mode-levels : (o : OutcomeFound) → (s.mode ≡ 0 → ⊥) → (s.mode ≡ 1 → ⊥) → o ≡ run m (directory_of s q) → o ≡ run m (translate_of s q)
  unfolding translate_of
  mode-levels o h k e = e ∙ simp (ne_eqb s.mode 0 h, ne_eqb s.mode 1 k)

pub ruleset mode_ways = (mode-off, mode-bare, mode-levels)

-- the windows in the other order
module _ (l : Lent) (sound : Sound l) (starts : Starts) where
  abbrev before : Starts
  before = record { first = l.first.start; second = l.second.start }

  pub memory-turned : starts ≡ turned_starts before → memory (lent starts l.second.bytes l.first.bytes) ≡ memory l
  memory-turned h = ap (λ (k : Starts). memory (lent k l.second.bytes l.first.bytes)) h ∙ turned-memory before l.first.bytes l.second.bytes sound.apart

-- the second stage's walk, by the number of its end
pub second-by : (m : ℕ → Load) (s : Option StageTable) (g : StageTable) (x : Access) (a : ℕ) (t : Translation) (l : LeafTest) (n : ℕ) (r : Raw) → s ≡ Some g → l ≡ test_of x User
    → r ≡ run m (raw_walk g.scheme l a g.root) → Tight r → n ≡ code_of r → t ≡ told_by SecondStage x n → t ≡ run m (second_stage_of s SecondStage x a)
second-by m s g x a t l n r h hl hr ht hn e =
    second_walks m g SecondStage x a t x l n r refl hl hr ht hn e ∙ sym (ap (λ (k : Option StageTable). run m (second_stage_of k SecondStage x a)) h)

pub ruleset second_ways = (second-by, second-bare)
