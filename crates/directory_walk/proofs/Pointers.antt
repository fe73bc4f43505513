-- A turn of the walk over non-leaf entries, over plain values. Assumes nothing.
use Rattle.std.specs.Prelude.{Err, Ok, None, Some}
use Prim.Native.Nat.{ℕ, suc, ◌+◌, ◌-◌, ◌*◌, ◌<◌, ◌≤◌, ◌^◌}
use native.Mathlib.Omega.{arith}
use mathlib.Core.Path.{◌≡◌, refl, sym, ap, ◌∙◌}
use Rattle.memory.specs.Load.{Load}
use Rattle.memory.specs.Walk.{Walk, run}
use Rattle.memory.proofs.Walks.{then, loads, at}
use Rattle.causes.specs.declared.Access.{Access}
use Rattle.causes.specs.declared.Access.TheVariants.{Read}
use Rattle.causes.specs.declared.FaultInfo.{FaultInfo}
use Rattle.paging.specs.Stages.{second_stage_of}
use Rattle.paging.specs.Code.{raw_walk, Within}
use Rattle.std.specs.declared.option.Option.{Option}
use Rattle.paging.specs.Table.{StageTable}
use Rattle.paging.proofs.CodeLaws.{second_walks, told-within}
use Rattle.paging_entry.specs.declared.LeafTest.{LeafTest}
use Rattle.paging_entry.specs.declared.Pages.TheVariants.{User}
use Rattle.paging_entry.specs.declared.Purpose.TheVariants.{ProcessEntry}
use Rattle.paging_entry.specs.declared.Raw.{Raw}
use Rattle.paging_entry.specs.Code.{test_of, code_of, told_by, Tight}
use Rattle.paging_entry.specs.Purpose.{Translation}
use Rattle.directory_entry.specs.declared.Tree.{Tree}
use Rattle.directory_entry.specs.Entries.{directory_index, pointer_of, leaf_size}
use Rattle.directory_entry.specs.Code.{Below}
use Rattle.directory_entry.proofs.Entries.{found_below}
use Rattle.directory_walk.specs.Pointers.{guest_place, on_pointed, on_pointer_place, leaf_place}

-- where an entry lies with a second stage that is off
pub place-bare : (m : ℕ → Load) (g : Option StageTable) (x : Access) (a : ℕ) → g ≡ None → Ok a ≡ run m (guest_place g x a)
unfolding second_stage_of
place-bare m g x a h = simp h

pub place-own : (a : ℕ) → a ≤ a + 2 ^ 57
place-own a = omega arith

-- and where it is on, by the number of its walk's end
pub place_walks : (m : ℕ → Load) (s : Option StageTable) (g : StageTable) (x : Access) (a : ℕ) (t : Translation) (l : LeafTest) (n : ℕ) (r : Raw) → s ≡ Some g → l ≡ test_of Read User
    → r ≡ run m (raw_walk g.scheme l a g.root) → Tight r → n ≡ code_of r → t ≡ told_by ProcessEntry x n → t ≡ run m (guest_place s x a)
place_walks m s g x a t l n r h hl hr ht hn e =
    second_walks m g ProcessEntry x a t Read l n r refl hl hr ht hn e ∙ sym (ap (λ (k : Option StageTable). run m (guest_place k x a)) h)

pub ruleset place_ways = (place-bare, place-own, place_walks, told-within)

one_less : (left : ℕ) → 1 < left → suc (left - 1 - 1) ≡ left - 1
one_less left p = omega arith

none_left : (left : ℕ) → left ≤ 1 → left - 1 ≡ 0
none_left left p = omega arith

-- with left - 1 levels above the leaf, wherever an entry lies: i is the index there, r where the entry lies, w the whole walk's answer
module _ (m : ℕ → Load) (t : Tree) (id : ℕ) (place : ℕ → Walk Translation) (left table i : ℕ) (r w : Translation)
    (hw : run m (leaf_place t id place (left - 1) table) ≡ w) where
  pub pointers_end : left ≤ 1 → (k : ℕ) → i ≡ directory_index t id 0 → k ≡ leaf_size t * i → r ≡ run m (place (table + k)) → r ≡ w
  unfolding leaf_place
  pointers_end p k hi hk hr =
      hr
      ∙ ap (λ n. run m (place (table + n))) (hk ∙ ap (λ n. leaf_size t * n) hi)
      ∙ sym (ap (λ n. run m (leaf_place t id place n table)) (none_left left p))
      ∙ hw

  module _ (p : 1 < left) (hi : i ≡ directory_index t id (left - 1)) (hr : r ≡ run m (place (table + 8 * i))) where
    abbrev rest : ℕ → Walk Translation
    rest = leaf_place t id place (left - 1 - 1)

    turned : {y : Translation} → y ≡ run m (on_pointer_place t rest r) → y ≡ w
    unfolding leaf_place
    turned e =
        then m (place (table + 8 * directory_index t id (suc (left - 1 - 1)))) (on_pointer_place t rest)
        (hr ∙ ap (λ j. run m (place (table + 8 * j))) (hi ∙ ap (directory_index t id) (sym (one_less left p)))) e
        ∙ ap (λ k. run m (leaf_place t id place k table)) (one_less left p)
        ∙ hw

    pub pointers_unplaced : (f : FaultInfo) → r ≡ Err f → Err f ≡ w
    pointers_unplaced f e = turned (at m (on_pointer_place t rest) e refl)

    module _ (a : ℕ) (v : Load) (y : Translation) (ha : r ≡ Ok a) (hv : v ≡ m a) (hy : y ≡ pointer_of t v) where
      placed : {z : Translation} → z ≡ run m (on_pointed rest y) → z ≡ w
      placed e =
          turned
          (at m (on_pointer_place t rest) ha
          (loads m a (λ u. on_pointed rest (pointer_of t u)) hv (at m (on_pointed rest) (sym hy) e)))

      pub pointers_stop : (f : FaultInfo) → y ≡ Err f → Err f ≡ w
      pointers_stop f e = placed (at m (on_pointed rest) e refl)

      pub pointers_go : (k : ℕ) → y ≡ Ok k → run m (leaf_place t id place (left - 1 - 1) k) ≡ w
      pointers_go k e = placed (at m (on_pointed rest) e refl)

-- where an entry lies is no number too large for what follows
placed_below : (b : ℕ) (r : Translation) → b < 2 ^ 57 → Within b r → Below (2 ^ 60) r
placed_below b (Ok a) l h = omega arith
placed_below b (Err f) l h = tt

pub leaf-below : (table k : ℕ) (r : Translation) → table < 2 ^ 56 → k < 2 ^ 15 → Within (table + k) r → Below (2 ^ 60) r
leaf-below table k r h l s = placed_below (table + k) r (omega arith) s

pub ruleset pointers_ways = (pointers_end, pointers_unplaced, pointers_stop, pointers_go, found_below, leaf-below)
