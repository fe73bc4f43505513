-- What 2011 says: the windows overlap exactly when some byte's address is in both. Assumes nothing.
use Prim.Native.Nat.{ℕ, ◌+◌, ◌≤◌, ◌<◌}
use mathlib.Core.Bool.{Bool, true, false, not}
use mathlib.Core.Logic.{◌↔◌}
use mathlib.Core.Path.{◌≡◌, refl}
use native.Mathlib.Omega.{arith}
use borrow.Author.Tests.{ne_eqb, le-leb, lt-ltb, leb-true, leb-false, ltb-true, eqb-false}
use lib.Dec.{eqb, leb, ltb}
use Rattle.memory.specs.declared.Starts.{Starts}
use Rattle.memory.specs.Window.{inside}
use Rattle.memory.proofs.Truth.{and_true}
use Rattle.memory.specs.Code.{Disjoint}
use Rattle.iommu_refusals.specs.Refusals.{overlap}

module _ (starts : Starts) (n m : ℕ) where
  -- a byte's address is in both
  abbrev pub Shared : Type 0
  Shared = (a : ℕ) × (inside starts.first n a 1 ≡ true) × (inside starts.second m a 1 ≡ true)

  shared : Shared → overlap starts n m ≡ true
  unfolding overlap
  shared s =
      let a = s.0 in
      let p = and_true (leb starts.first a) _ s.1 in
      let q = and_true (leb starts.second a) _ s.2 in
      let p0 = leb-true starts.first a p.0 in
      let p1 = leb-true (a + 1) (starts.first + n) p.1 in
      let q0 = leb-true starts.second a q.0 in
      let q1 = leb-true (a + 1) (starts.second + m) q.1 in
      simp (
        ne_eqb n 0 (λ z. omega arith),
        ne_eqb m 0 (λ z. omega arith),
        lt-ltb starts.first (starts.second + m) (omega arith),
        lt-ltb starts.second (starts.first + n) (omega arith),
      )

  -- the later of the two starts is in both
  in_both : (b : Bool) → leb starts.first starts.second ≡ b → starts.first < starts.second + m → starts.second < starts.first + n
      → (n ≡ 0 → ⊥) → (m ≡ 0 → ⊥) → Shared
  in_both true e h k x y =
      let l = leb-true starts.first starts.second e in (
        starts.second,
        simp (le-leb starts.first starts.second l, le-leb (starts.second + 1) (starts.first + n) (omega arith)),
        simp (le-leb starts.second starts.second (omega arith), le-leb (starts.second + 1) (starts.second + m) (some m y)),
      )
    where
      some : (z : ℕ) → (z ≡ 0 → ⊥) → starts.second + 1 ≤ starts.second + z
      some z c = omega arith
  in_both false e h k x y =
      let l = leb-false starts.first starts.second e in (
        starts.first,
        simp (le-leb starts.first starts.first (omega arith), le-leb (starts.first + 1) (starts.first + n) (some n x)),
        simp (le-leb starts.second starts.first (omega arith), le-leb (starts.first + 1) (starts.second + m) (omega arith)),
      )
    where
      some : (z : ℕ) → (z ≡ 0 → ⊥) → starts.first + 1 ≤ starts.first + z
      some z c = omega arith

  pub overlap_shares : (overlap starts n m ≡ true) ↔ Shared
  unfolding overlap
  overlap_shares = (there, shared)
    where
      nonzero : (x : ℕ) (b : Bool) → eqb x 0 ≡ b → not b ≡ true → x ≡ 0 → ⊥
      nonzero x false e h = eqb-false x 0 e
      nonzero x true e h = λ z. no h
        where
          no : false ≡ true → ⊥
          no k = let z : ◌≡◌ {A = ℕ} 0 1 = cc in omega arith

      there : overlap starts n m ≡ true → Shared
      there h =
          let a = and_true (not (eqb n 0)) _ h in
          let b = and_true (not (eqb m 0)) _ a.1 in
          let c = and_true (ltb starts.first (starts.second + m)) _ b.1 in
          in_both _ refl (ltb-true starts.first (starts.second + m) c.0) (ltb-true starts.second (starts.first + n) c.1)
          (nonzero n (eqb n 0) refl a.0) (nonzero m (eqb m 0) refl b.0)

  -- where they don't, no doubleword lies in both
  pub apart_words : overlap starts n m ≡ false → Disjoint starts n m
  apart_words e a h k =
      let p = and_true (leb starts.first a) _ h in
      let q = and_true (leb starts.second a) _ k in
      let p0 = leb-true starts.first a p.0 in
      let p1 = leb-true (a + 8) (starts.first + n) p.1 in
      let q0 = leb-true starts.second a q.0 in
      let q1 = leb-true (a + 8) (starts.second + m) q.1 in
      let first : inside starts.first n a 1 ≡ true = simp (le-leb starts.first a p0, le-leb (a + 1) (starts.first + n) (omega arith)) in
      let second : inside starts.second m a 1 ≡ true = simp (le-leb starts.second a q0, le-leb (a + 1) (starts.second + m) (omega arith)) in
      let t = shared (a, first, second) in
      let z : ◌≡◌ {A = ℕ} 0 1 = cc in
      omega arith
