-- A non-leaf entry, and the first doubleword of a context, over plain values; for both directories. Assumes nothing.
use Rattle.std.specs.Prelude.{Err, None, Ok, Some}
use Prim.Native.Nat.{ℕ, ◌+◌, ◌*◌, ◌<◌, ◌≤◌, ◌^◌}
use native.Mathlib.Omega.{arith}
use mathlib.Core.Bool.{Bool, true, false, not, ◌||◌, ◌&&◌}
use mathlib.Core.Path.{◌≡◌, refl, sym, ap, ◌∙◌, subst}
use lib.Dec.{eqb, leb}
use borrow.Author.Tests.{not-true, not-false, eq-eqb, ne_eqb, le-leb, lt-leb}
use Rattle.memory.specs.Choice.{pick}
use Rattle.memory.specs.Bits.{bits, bit, any_set}
use Rattle.memory.specs.Load.{Load}
use Rattle.memory.specs.Walk.{Walk, done, on_value, run}
use Rattle.memory.proofs.Tests.{or2}
use Rattle.memory.proofs.Walks.{loads, at}
use Rattle.causes.specs.declared.FaultInfo.{FaultInfo}
use Rattle.paging_entry.specs.Purpose.{Translation}
use Rattle.directory_entry.specs.declared.Tree.{Tree}
use Rattle.directory_entry.specs.declared.Tree.TheVariants.{Device, Process}
use Rattle.directory_entry.specs.Code.{Below}
use Rattle.directory_entry.specs.Entries.{load_fault, invalid, misconfigured, pointer_of, by_level, directory_index, leaf_size, too_wide, context_from}

-- which entry
module _ (t : Tree) (id n a b c r : ℕ) (h : r ≡ by_level n a b c) where
  fields : {x y z : ℕ} → a ≡ x → b ≡ y → c ≡ z → r ≡ by_level n x y z
  fields p q s = h ∙ simp (p, q, s)

  pub index-device : t ≡ Device → a ≡ bits id 5 0 → b ≡ bits id 14 6 → c ≡ bits id 23 15 → r ≡ directory_index t id n
  index-device e p q s = fields p q s ∙ sym (ap (λ k. directory_index k id n) e)

  pub index-process : t ≡ Process → a ≡ bits id 7 0 → b ≡ bits id 16 8 → c ≡ bits id 19 17 → r ≡ directory_index t id n
  index-process e p q s = fields p q s ∙ sym (ap (λ k. directory_index k id n) e)

pub index-own : (t : Tree) (id n r : ℕ) → t ≡ Process → r ≡ directory_index Process id n → r ≡ directory_index t id n
index-own t id n r e h = h ∙ sym (ap (λ k. directory_index k id n) e)

pub ruleset directory_index_ways = (index-device, index-process, index-own)

-- a process's, by the shift of its level
module _ (id n : ℕ) where
  pub process-leaf : (r : ℕ) → n ≡ 0 → r ≡ bits id 7 0 → r ≡ directory_index Process id n
  process-leaf r e h = h ∙ simp (eq-eqb n 0 e)

  module _ (o : n ≡ 0 → ⊥) (s x r : ℕ) (hs : s ≡ pick (eqb n 1) 8 17) (hx : x ≡ bits id 19 0) (hr : r ≡ bits x (s + 8) s) where
    pub process-above : r ≡ directory_index Process id n
    process-above = hr ∙ go (eqb n 1) hs ∙ simp (ne_eqb n 0 o)
      where
        go : (b : Bool) → s ≡ pick b 8 17 → bits x (s + 8) s ≡ pick b (bits id 16 8) (bits id 19 17)
        go true e = simp (e, hx) (omega arith)
        go false e = simp (e, hx) (omega arith)

    pub process-narrow : r < 512
    process-narrow = go (eqb n 1) hs
      where
        go : (b : Bool) → s ≡ pick b 8 17 → r < 512
        go true e = let h : r ≡ bits x 16 8 = hr ∙ simp e in omega (arith, h)
        go false e = let h : r ≡ bits x 25 17 = hr ∙ simp e in omega (arith, h)

pub ruleset process_index_ways = (process-leaf, process-above, process-narrow)

-- how far into its table
module _ (t : Tree) (i : ℕ) where
  pub leaf-device : t ≡ Device → 64 * i ≡ leaf_size t * i
  leaf-device e = simp e

  pub leaf-process : t ≡ Process → 16 * i ≡ leaf_size t * i
  leaf-process e = simp e

pub ruleset leaf_ways = (leaf-device, leaf-process)

pub wide-all : (t : Tree) (levels id : ℕ) → 2 < levels → false ≡ too_wide t levels id
unfolding too_wide
wide-all t levels id h = simp (lt-leb levels 1 (omega arith), lt-leb levels 2 h)

module _ (t : Tree) (levels id j : ℕ) (few : levels ≤ 2) (hj : j ≡ directory_index t id 2) where
  pub wide-third : (j ≡ 0 → ⊥) → true ≡ too_wide t levels id
  unfolding too_wide
  wide-third h = simp (le-leb levels 2 few, ← hj, ne_eqb j 0 h) (sym (or_true (leb levels 1 && not (eqb (directory_index t id 1) 0))))
    where
      or_true : (b : Bool) → (b || true) ≡ true
      or_true true = refl
      or_true false = refl

  pub wide-second : (i : ℕ) → j ≡ 0 → i ≡ directory_index t id 1 → (leb levels 1 && not (eqb i 0)) ≡ too_wide t levels id
  unfolding too_wide
  wide-second i h hi = simp (le-leb levels 2 few, ← hj, eq-eqb j 0 h, ← hi) (sym (or_false (leb levels 1 && not (eqb i 0))))
    where
      or_false : (b : Bool) → (b || false) ≡ b
      or_false true = refl
      or_false false = refl

pub ruleset wide_ways = (wide-all, wide-third, wide-second)

-- a non-leaf
module _ (t : Tree) (v : Load) (f : FaultInfo) where
  pub entry-unread : v ≡ None → f ≡ load_fault t → Err f ≡ pointer_of t v
  unfolding pointer_of
  entry-unread e h = simp (e, h)

module _ (t : Tree) (v : Load) (e : ℕ) (he : v ≡ Some e) (b : Bool) (hb : b ≡ bit e 0) where
  pub entry-invalid : (f : FaultInfo) → not b ≡ true → f ≡ invalid t → Err f ≡ pointer_of t v
  unfolding pointer_of
  entry-invalid f s h = simp (he, ← hb, not-true b s, h)

  module _ (x y : Bool) (hx : x ≡ any_set e 9 1) (hy : y ≡ any_set e 63 54) (s : not b ≡ false) where
    pub entry-wrong : (f : FaultInfo) → (x || y) ≡ true → f ≡ misconfigured t → Err f ≡ pointer_of t v
    unfolding pointer_of
    entry-wrong f w h = simp (he, ← hb, not-false b s, sym (or2 hx hy) ∙ w, h)

    pub entry_points : (n : ℕ) → (x || y) ≡ false → n ≡ bits e 53 10 → Ok (n * 4096) ≡ pointer_of t v
    unfolding pointer_of
    entry_points n w h = simp (he, ← hb, not-false b s, sym (or2 hx hy) ∙ w, ← h)

pub entry-below : (e n : ℕ) → n ≡ bits e 53 10 → n * 4096 < 2 ^ 56
entry-below e n h = omega arith

pub ruleset pointer_ways = (entry-unread, entry-invalid, entry-wrong, entry_points, entry-below)

-- the first doubleword of a context: `rest` is what follows it
module _ {A : Type 0} (m : ℕ → Load) (t : Tree) (answer : FaultInfo → A) (a : ℕ) (rest : ℕ → Walk A) (v : Load) (hv : v ≡ m a) where
  abbrev after : ℕ → Walk A
  after w = pick (bit w 0) (rest w) (done (answer (invalid t)))

  abbrev got : Load → Walk A
  got = on_value (done (answer (load_fault t))) after

  pub context-unread : {x : A} → v ≡ None → x ≡ answer (load_fault t) → x ≡ run m (context_from t answer a rest)
  context-unread e h = loads m a got hv (at m got e h)

  module _ (w : ℕ) (ev : v ≡ Some w) (b : Bool) (hb : b ≡ bit w 0) where
    tested : {q : Bool} {x : A} → b ≡ q → x ≡ run m (pick q (rest w) (done (answer (invalid t)))) → x ≡ run m (context_from t answer a rest)
    tested s e = loads m a got hv (at m got ev (at m (λ q. pick q (rest w) (done (answer (invalid t)))) (sym hb ∙ s) e))

    pub context-invalid : {x : A} → not b ≡ true → x ≡ answer (invalid t) → x ≡ run m (context_from t answer a rest)
    context-invalid s h = tested (not-true b s) h

    pub context-valid : {x : A} → not b ≡ false → x ≡ run m (rest w) → x ≡ run m (context_from t answer a rest)
    context-valid s h = tested (not-false b s) h

-- the address that was found, if any, is small
pub found_below : (n : ℕ) (y : Translation) (a : ℕ) → y ≡ Ok a → Below n y → a < n
found_below n y a e h = subst (Below n) e h
