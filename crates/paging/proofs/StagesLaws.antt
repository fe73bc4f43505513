-- What SUM changes in a walk: the same answer, or one in place of a page fault. Assumes nothing.
use Rattle.std.specs.Prelude.{Err, None, Ok, Some}
use Rattle.std.proofs.Common.{◌≡◌, ℕ, zero, suc, ◌*◌, ◌%◌, ◌^◌, Bool, true, false, not, ◌&&◌, eqb, sym, refl, ap, ◌∙◌}
use Rattle.memory.specs.Choice.{pick}
use Rattle.memory.specs.Load.{Load}
use Rattle.memory.specs.Walk.{Walk, done, run}
use Rattle.memory.proofs.Walks.{run_bind}
use Rattle.causes.specs.declared.Access.{Access}
use Rattle.paging_scheme.specs.declared.Scheme.{Scheme}
use Rattle.paging.specs.Table.{StageTable}
use Rattle.std.specs.declared.option.Option.{Option}
use Rattle.paging_entry.specs.declared.Pages.TheVariants.{Supervisor, Any}
use Rattle.paging_entry.specs.declared.Leaf.{Leaf}
use Rattle.paging_entry.specs.declared.Entry.{Entry}
use Rattle.paging_entry.specs.declared.Entry.TheVariants.{Faulty, Table, Maps}
use Rattle.paging_entry.specs.declared.Lookup.{Lookup}
use Rattle.paging_entry.specs.Purpose.{Translation}
use Rattle.paging_entry.specs.Purpose.{Step}
use Rattle.std.specs.declared.ops.ControlFlow.TheVariants.{Break, Continue}
use Rattle.paging_scheme.specs.Scheme.{levels_of, legal_of}
use Rattle.paging_entry.specs.Entry.{entry_of, permits, allows, mapped_by}
use Rattle.paging_entry.specs.Entry.{faulted, on_entry, on_load}
use Rattle.paging.specs.Levels.{on_place, on_step, entry_at, level_step, levels, walk_of}
use Rattle.paging.specs.Stages.{entry_place, device_lookup, first_stage_of}

-- a is b, or a is one answer, `barred`, in whose place b stands
pub data Opens {A : Type 0} (barred a b : A) : Type 0 where
  same : a ≡ b → Opens barred a b
  opened : a ≡ barred → Opens barred a b

pub opens-on : {A B : Type 0} (f : A → B) {barred a b : A} → Opens barred a b → Opens (f barred) (f a) (f b)
opens-on f (same e) = same (ap f e)
opens-on f (opened e) = opened (ap f e)

pub opens_by : {A : Type 0} {barred a b x y : A} → x ≡ a → y ≡ b → Opens barred a b → Opens barred x y
opens_by p q (same e) = same (p ∙ e ∙ sym q)
opens_by p q (opened e) = opened (p ∙ e)

-- a leaf by A, U, its permission and its alignment
by-u : (a u p al : Bool) (t f : Translation) → Opens f (pick ((a && (not u && p)) && al) t f) (pick ((a && (true && p)) && al) t f)
by-u a false p al t f = same refl
by-u true true p al t f = opened refl
by-u false true p al t f = opened refl

-- a supervisor's walk of its own pages, and of all
module _ (m : ℕ → Load) (x : Access) (a : ℕ) where
  abbrev own : Lookup
  own = device_lookup x Supervisor a

  abbrev all : Lookup
  all = device_lookup x Any a

  leaf-opens : (n : ℕ) (l : Leaf) → Opens (faulted own) (mapped_by own n l) (mapped_by all n l)
  unfolding mapped_by allows
  leaf-opens n l = by-u l.a l.u (permits x l) (eqb (l.page % 2 ^ (9 * n)) 0) _ _

  entry-opens : (n : ℕ) (d : Entry) → Opens (Break (faulted own)) (on_entry own n d) (on_entry all n d)
  entry-opens n Faulty = same refl
  entry-opens n (Table page) = same refl
  entry-opens n (Maps l) = opens-on Break (leaf-opens n l)

  load-opens : (n : ℕ) (v : Load) → Opens (Break (faulted own)) (on_load own n v) (on_load all n v)
  unfolding on_load
  load-opens n None = same refl
  load-opens n (Some e) = entry-opens n (entry_of e)

  place-opens : (n : ℕ) (t : Translation) → Opens (Break (faulted own)) (run m (on_place own n t)) (run m (on_place all n t))
  place-opens n (Err f) = same refl
  place-opens n (Ok p) = load-opens n (m p)

  module _ (s : Scheme) (locate : ℕ → Walk Translation) where
    level-opens : (n table : ℕ) → Opens (Break (faulted own)) (run m (level_step s own locate n table)) (run m (level_step s all locate n table))
    unfolding level_step
    level-opens n table =
        opens_by (run_bind m (locate (entry_at s own n table)) (on_place own n)) (run_bind m (locate (entry_at s all n table)) (on_place all n))
        (place-opens n (run m (locate (entry_at s own n table))))

    -- a turn, where the levels below open
    module _ (n : ℕ) (below : (page : ℕ) → Opens (faulted own) (run m (levels s own locate n page)) (run m (levels s all locate n page))) where
      step-opens : (t : Step) → Opens (faulted own) (run m (on_step (levels s own locate n) t)) (run m (on_step (levels s all locate n) t))
      step-opens (Break k) = same refl
      step-opens (Continue page) = below page

      turn_opens : (t u : Step) → Opens (Break (faulted own)) t u → Opens (faulted own) (run m (on_step (levels s own locate n) t)) (run m (on_step (levels s all locate n) u))
      turn_opens t u (same e) = opens_by refl (sym (ap (λ (k : Step). run m (on_step (levels s all locate n) k)) e)) (step-opens t)
      turn_opens t u (opened e) = opened (ap (λ (k : Step). run m (on_step (levels s own locate n) k)) e)

    levels-open : (n table : ℕ) → Opens (faulted own) (run m (levels s own locate n table)) (run m (levels s all locate n table))
    unfolding levels
    levels-open zero table = same refl
    levels-open (suc n) table =
        opens_by (run_bind m (level_step s own locate n table) (on_step (levels s own locate n))) (run_bind m (level_step s all locate n table) (on_step (levels s all locate n)))
        (turn_opens n (levels-open n) (run m (level_step s own locate n table)) (run m (level_step s all locate n table)) (level-opens n table))

  -- the first stage under SUM, where it opens user pages, and without it
  pub first-opens : (f g : Option StageTable) → Opens (faulted own) (run m (first_stage_of f g x Supervisor a)) (run m (first_stage_of f g x Any a))
  unfolding first_stage_of walk_of
  first-opens None g = same refl
  first-opens (Some f) g = go (legal_of f.scheme a)
    where
      go : (legal : Bool) → Opens (faulted own)
          (run m (pick legal (levels f.scheme own (entry_place g own) (levels_of f.scheme) f.root) (done (faulted own))))
          (run m (pick legal (levels f.scheme all (entry_place g all) (levels_of f.scheme) f.root) (done (faulted all))))
      go true = levels-open f.scheme (entry_place g own) (levels_of f.scheme) f.root
      go false = same refl
