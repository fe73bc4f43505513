-- The first stage keeps the offset in a 4 KiB page: the device's address, by which the store rule looks at the offset, has the guest address's. Assumes nothing.
use Rattle.std.specs.Prelude.{Err, None, Ok, Some}
use Rattle.std.proofs.Common.{◌≡◌, ℕ, zero, suc, ◌+◌, ◌*◌, ◌%◌, ◌^◌, Bool, true, false, ◌&&◌, eqb, sym, refl, ap, ◌∙◌, subst, add_comm}
use native.Mathlib.Nat.{mul-add-mod_self_right}
use lib.Pow.{mod-mod-pow}
use Rattle.memory.specs.Choice.{pick}
use Rattle.memory.specs.Load.{Load}
use Rattle.memory.specs.Walk.{Walk, done, run}
use Rattle.memory.proofs.Walks.{run_bind}
use Rattle.causes.specs.declared.Access.{Access}
use Rattle.paging_scheme.specs.declared.Scheme.{Scheme}
use Rattle.paging.specs.Table.{StageTable}
use Rattle.std.specs.declared.option.Option.{Option}
use Rattle.paging_entry.specs.declared.Pages.{Pages}
use Rattle.paging_entry.specs.declared.Leaf.{Leaf}
use Rattle.paging_entry.specs.declared.Entry.{Entry}
use Rattle.paging_entry.specs.declared.Entry.TheVariants.{Faulty, Table, Maps}
use Rattle.paging_entry.specs.declared.Lookup.{Lookup}
use Rattle.paging_entry.specs.Purpose.{Translation}
use Rattle.paging_entry.specs.Purpose.{Step}
use Rattle.std.specs.declared.ops.ControlFlow.TheVariants.{Break, Continue}
use Rattle.paging_scheme.specs.Scheme.{levels_of, legal_of}
use Rattle.paging_entry.specs.Entry.{faulted, entry_of, allows, mapped_by, on_entry, on_load}
use Rattle.paging.specs.Levels.{on_place, on_step, entry_at, level_step, levels, walk_of}
use Rattle.paging.specs.Stages.{entry_place, device_lookup, first_stage_of}

-- an address that is reached has the offset of a
abbrev pub SameOffset : ℕ → Translation → Type 0
SameOffset a (Ok p) = p % 4096 ≡ a % 4096
SameOffset a (Err f) = Unit {0}

abbrev SameStop : ℕ → Step → Type 0
SameStop a (Break t) = SameOffset a t
SameStop a (Continue table) = Unit {0}

page-offset : (page a n : ℕ) → (page * 4096 + a % 2 ^ (12 + 9 * n)) % 4096 ≡ a % 4096
page-offset page a n =
    mul-add-mod_self_right page 4096 (a % 2 ^ (12 + 9 * n))
    ∙ ap (λ (k : ℕ). a % 2 ^ k % 4096) (add_comm 12 (9 * n))
    ∙ mod-mod-pow a (9 * n) 12

module _ (m : ℕ → Load) (q : Lookup) where
  leaf-keeps : (n : ℕ) (l : Leaf) → SameOffset q.address (mapped_by q n l)
  unfolding mapped_by
  leaf-keeps n l = go (allows q l && eqb (l.page % 2 ^ (9 * n)) 0)
    where
      go : (b : Bool) → SameOffset q.address (pick b (Ok (l.page * 4096 + q.address % 2 ^ (12 + 9 * n))) (faulted q))
      go true = page-offset l.page q.address n
      go false = tt

  entry-keeps : (n : ℕ) (d : Entry) → SameStop q.address (on_entry q n d)
  entry-keeps n Faulty = tt
  entry-keeps n (Table page) = tt
  entry-keeps n (Maps l) = leaf-keeps n l

  load-keeps : (n : ℕ) (v : Load) → SameStop q.address (on_load q n v)
  unfolding on_load
  load-keeps n None = tt
  load-keeps n (Some e) = entry-keeps n (entry_of e)

  place-keeps : (n : ℕ) (t : Translation) → SameStop q.address (run m (on_place q n t))
  place-keeps n (Err f) = tt
  place-keeps n (Ok p) = load-keeps n (m p)

  module _ (s : Scheme) (locate : ℕ → Walk Translation) where
    level-keeps : (n table : ℕ) → SameStop q.address (run m (level_step s q locate n table))
    unfolding level_step
    level-keeps n table =
        subst (λ (t : Step). SameStop q.address t) (sym (run_bind m (locate (entry_at s q n table)) (on_place q n)))
        (place-keeps n (run m (locate (entry_at s q n table))))

    step_keeps : (n : ℕ) → ((page : ℕ) → SameOffset q.address (run m (levels s q locate n page))) → (t : Step) → SameStop q.address t
        → SameOffset q.address (run m (on_step (levels s q locate n) t))
    step_keeps n below (Break t) h = h
    step_keeps n below (Continue page) h = below page

    levels-keep : (n table : ℕ) → SameOffset q.address (run m (levels s q locate n table))
    unfolding levels
    levels-keep zero table = tt
    levels-keep (suc n) table =
        subst (λ (t : Translation). SameOffset q.address t) (sym (run_bind m (level_step s q locate n table) (on_step (levels s q locate n))))
        (step_keeps n (levels-keep n) (run m (level_step s q locate n table)) (level-keeps n table))

-- the guest address after the first stage has the device's offset
pub first-keeps : (m : ℕ → Load) (f g : Option StageTable) (x : Access) (pages : Pages) (a : ℕ) → SameOffset a (run m (first_stage_of f g x pages a))
unfolding first_stage_of walk_of
first-keeps m None g x pages a = refl
first-keeps m (Some f) g x pages a = go (legal_of f.scheme a)
  where
    go : (legal : Bool) → SameOffset a
        (run m (pick legal (levels f.scheme (device_lookup x pages a) (entry_place g (device_lookup x pages a)) (levels_of f.scheme) f.root) (done (faulted (device_lookup x pages a)))))
    go true = levels-keep m (device_lookup x pages a) f.scheme (entry_place g (device_lookup x pages a)) (levels_of f.scheme) f.root
    go false = tt
