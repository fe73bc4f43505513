-- The change in pending bits over all files of both windows: every store and every successful take counts. Assumes nothing.
use Prim.Native.Nat.{ℕ, ◌+◌, ◌/◌, ◌%◌, ◌^◌}
use mathlib.Core.Path.{◌≡◌, refl, ap₂, sym, ◌∙◌}
use mathlib.Core.Bool.{Bool, true, false, ◌||◌}
use mathlib.Core.List.{List, [], ◌∷◌}
use lib.ListN.{length}
use Rattle.std.specs.Prelude.{Result, Ok, Err}
use Rattle.refusal.specs.declared.Refusal.{Refusal}
use Rattle.refusal.specs.Checks.{unless_refused}
use Rattle.memory.specs.Window.{Lent}
use Rattle.iommu_refusals.specs.Refusals.{is_lent_file}
use Rattle.iommu_files.specs.declared.Answer.{Answer}
use Rattle.iommu_files.specs.declared.Answer.TheVariants.{Translated, Redirected, Stored, Discarded, Fault, Refused, Taken}
use Rattle.iommu_files.specs.Answers.{numbers_of, refused}
use Rattle.iommu_files.specs.Files.{answered_at, take_many_of}
use Rattle.iommu.specs.Operations.{Op, request, take, take_many, answer_of}
use Rattle.ledger.specs.Places.{Side, first_window, second_window, Place, place, lies_in, is_place}
use Rattle.ledger.specs.Machine.{routines, history}
use Rattle.ledger.specs.Ledger.{pending_in}
use Rattle.ledger.specs.Sums.{total, among, Places, op_stores, op_takes, added_up}
use Rattle.ledger.specs.Closes.{AllCounted, take_many_refused, account_after, pending_after}
use Rattle.ledger.specs.Whole.{all_files}
use Rattle.ledger.proofs.Answering.{starts, xs, ys, stored-storing, many-passed}
use Rattle.ledger.proofs.Ones.{one_weight}
use Rattle.memory.proofs.Truth.{true-false}
use Rattle.ledger.proofs.Keeping.{Same, same-held, step_same}
use Rattle.ledger.proofs.Files.{files_different, files_are, files_all}
use Rattle.ledger.proofs.Corollaries.{change}
use Rattle.ledger.proofs.Closing.{routines_faithful, closes}

-- any file
abbrev pub every : ℕ → Bool
every file = true

-- a list that has every file of what is lent
module _ (files : List Place) where
  abbrev Full : Lent → Type 0
  Full l = (p : Place) → is_place l p ≡ true → among files p.file ≡ true

  full-after : (l k : Lent) → ((s : Side) → Same l k s) → Full l → Full k
  full-after l k s f p h = f p (same-held k l p (record { place = sym (s p.side).place; long = sym (s p.side).long }) h)

  module _ (l : Lent) (full : Full l) where
    -- a file that lies in either window is there
    full-lent : (file : ℕ) → is_lent_file (starts l) (length (xs l)) (length (ys l)) file ≡ true → among files file ≡ true
    full-lent file h = go (lies_in l.first file) (lies_in l.second file) refl refl h
      where
        go : (a b : Bool) → lies_in l.first file ≡ a → lies_in l.second file ≡ b → (a || b) ≡ true → among files file ≡ true
        go true b e f z = full (place first_window file) e
        go false true e f z = full (place second_window file) f
        go false false e f z = absurd (true-false (sym z))

    op-store : (o : Op) → op_stores (among files) o (numbers_of (answer_of l o)) ≡ op_stores every o (numbers_of (answer_of l o))
    op-store (request mode root q value) = go (answer_of l (request mode root q value)) refl
      where
        go : (a : Answer) → answer_of l (request mode root q value) ≡ a
            → op_stores (among files) (request mode root q value) (numbers_of a) ≡ op_stores every (request mode root q value) (numbers_of a)
        go (Stored d) e = rw (full-lent d.file (stored-storing l mode root q value d e).within)
        go (Translated a) e = refl
        go (Redirected a) e = refl
        go Discarded e = refl
        go (Fault f) e = refl
        go (Refused r) e = refl
        go (Taken w) e = refl
    op-store (take f i) = refl
    op-store (take_many f d mask) = refl

    many-take : (f d mask : ℕ)
        → op_takes (among files) (take_many f d mask) (numbers_of (answer_of l (take_many f d mask))) ≡ op_takes every (take_many f d mask) (numbers_of (answer_of l (take_many f d mask)))
    unfolding take_many_of
    many-take f d mask = go (take_many_refused l f d) refl
      where
        go : (r : Result (Unit {0}) Refusal) → take_many_refused l f d ≡ r
            → op_takes (among files) (take_many f d mask) (numbers_of (unless_refused r refused (Taken (answered_at (starts l) (xs l) (ys l) f d mask))))
            ≡ op_takes every (take_many f d mask) (numbers_of (unless_refused r refused (Taken (answered_at (starts l) (xs l) (ys l) f d mask))))
        go (Ok tt) e = rw (full-lent f (many-passed l f d e).1)
        go (Err r) e = refl

    op-take : (o : Op) → op_takes (among files) o (numbers_of (answer_of l o)) ≡ op_takes every o (numbers_of (answer_of l o))
    op-take (request mode root q value) = refl
    op-take (take f i) = one_weight l f i (among files) ∙ many-take f (i / 64) (2 ^ (i % 64)) ∙ sym (one_weight l f i every)
    op-take (take_many f d mask) = many-take f d mask

  all-stores : (l : Lent) (ops : List Op) → Full l → added_up routines (op_stores (among files)) (history routines l ops) ≡ added_up routines (op_stores every) (history routines l ops)
  unfolding history added_up
  all-stores l [] f = refl
  all-stores l (o ∷ os) f =
      ap₂ ◌+◌ (op-store l f o) (all-stores (routines.after l o) os (full-after l (routines.after l o) (step_same routines routines_faithful l o tt) f))

  all-takes : (l : Lent) (ops : List Op) → Full l → added_up routines (op_takes (among files)) (history routines l ops) ≡ added_up routines (op_takes every) (history routines l ops)
  unfolding history added_up
  all-takes l [] f = refl
  all-takes l (o ∷ os) f =
      ap₂ ◌+◌ (op-take l f o) (all-takes (routines.after l o) os (full-after l (routines.after l o) (step_same routines routines_faithful l o tt) f))

pub counted-all : (l : Lent) (ops : List Op) (places : List Place) → Places l places → AllCounted routines l ops places
counted-all l ops [] w = tt
counted-all l ops (p ∷ ps) w = (record { within = w.0; counts = tt }, counted-all l ops ps w.1)

-- pending bits of both windows at the start + requests answered 2 ≡ takes answered 6 with 1, and answered bits of takes of many + merged stores + pending bits at the end
pub change-whole : (l : Lent) (ops : List Op)
    → total (all_files l) (pending_in l) + added_up routines (op_stores every) (history routines l ops)
    ≡ added_up routines (op_takes every) (history routines l ops) + total (all_files l) (λ p n. (account_after routines l ops p n).merged)
    + total (all_files l) (pending_after routines l ops)
change-whole l ops =
    rw (← all-stores (all_files l) l ops (files_all l), ← all-takes (all_files l) l ops (files_all l))
    (change routines l ops (closes l ops) (all_files l) (files_different l) (counted-all l ops (all_files l) (files_are l)))
