-- What SUM changes (02, Req 02), with the tables and the request as they are. Assumes nothing.
use Rattle.std.specs.Prelude.{Err, is_none}
use Prim.Native.Nat.{ℕ}
use mathlib.Core.Bool.{Bool, true, false, ◌&&◌}
use mathlib.Core.Path.{◌≡◌, refl, ap}
use Rattle.memory.specs.Choice.{pick}
use Rattle.memory.specs.Load.{Load}
use Rattle.memory.specs.Walk.{Walk, done, bind, run}
use Rattle.memory.proofs.Walks.{run_bind}
use Rattle.causes.specs.Causes.{page_fault, fault_at}
use Rattle.causes.specs.declared.Access.{Access}
use Rattle.causes.specs.declared.Access.TheVariants.{Read, Write, Execute}
use Rattle.causes.specs.declared.Stage.TheVariants.{First}
use Rattle.std.specs.declared.option.Option.{Option}
use Rattle.paging.specs.Table.{StageTable}
use Rattle.paging_entry.specs.declared.Pages.{Pages}
use Rattle.paging_entry.specs.declared.Pages.TheVariants.{Supervisor, Any}
use Rattle.paging_entry.specs.Purpose.{Translation}
use Rattle.paging_entry.specs.Entry.{pages_for}
use Rattle.paging.specs.Stages.{first_stage_of}
use Rattle.paging.proofs.StagesLaws.{Opens, same, opens-on, opens_by, first-opens}
use Rattle.directory_context.specs.declared.DecodedContext.{DecodedContext}
use Rattle.iommu_refusals.specs.declared.DeviceRequest.{DeviceRequest}
use Rattle.iommu_translation.specs.Translate.{OutcomeFound, untranslated, on_first, stages_of}

module _ (c : DecodedContext) (q : DeviceRequest) (f : Option StageTable) where
  -- both stages, with the first-stage pages that may be used
  abbrev under : Pages → Walk OutcomeFound
  under pages =
      pick (is_none f && is_none c.second)
      (done (untranslated q.access q.address))
      (bind (first_stage_of f c.second q.access pages q.address) (on_first c q.access))

  -- a user's request and a read-for-execute: nothing
  pub sum_user : q.supervisor ≡ false → stages_of c q f true ≡ stages_of c q f false
  unfolding stages_of
  sum_user h = ap under (simp h)

  pub sum_execute : q.access ≡ Execute → stages_of c q f true ≡ stages_of c q f false
  unfolding stages_of
  sum_execute h = ap under (simp h (either q.supervisor))
    where
      either : (s : Bool) → pages_for s true Execute ≡ pages_for s false Execute
      either true = refl
      either false = refl

  module _ (m : ℕ → Load) where
    -- the first stage's page fault
    abbrev barred : OutcomeFound
    barred = Err (fault_at First (page_fault q.access))

    pages-open : Opens barred (run m (under Supervisor)) (run m (under Any))
    pages-open = go (is_none f && is_none c.second)
      where
        first : Pages → Walk Translation
        first pages = first_stage_of f c.second q.access pages q.address

        go : (b : Bool) → Opens barred
            (run m (pick b (done (untranslated q.access q.address)) (bind (first Supervisor) (on_first c q.access))))
            (run m (pick b (done (untranslated q.access q.address)) (bind (first Any) (on_first c q.access))))
        go true = same refl
        go false =
            opens_by (run_bind m (first Supervisor) (on_first c q.access)) (run_bind m (first Any) (on_first c q.access))
            (opens-on (λ (t : Translation). run m (on_first c q.access t)) (first-opens m q.access q.address f c.second))

    -- any request: the outcome stays, or was the first stage's page fault
    pub sum-opens : Opens barred (run m (stages_of c q f false)) (run m (stages_of c q f true))
    unfolding stages_of
    sum-opens = go q.supervisor q.access
      where
        go : (s : Bool) (x : Access) → Opens barred (run m (under (pages_for s false x))) (run m (under (pages_for s true x)))
        go false x = same refl
        go true Read = pages-open
        go true Write = pages-open
        go true Execute = same refl
