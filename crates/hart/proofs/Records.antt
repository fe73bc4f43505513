-- The record and its keys, by the tests that the code makes. Assumes nothing.
use Prim.Native.Nat.{ℕ, ◌+◌, ◌*◌, ◌/◌, ◌%◌, ◌<◌, ◌≤◌}
use mathlib.Core.Bool.{Bool, true, false, ◌&&◌}
use mathlib.Core.Path.{◌≡◌, refl}
use native.Mathlib.Nat.{div-one}
use native.Mathlib.Omega.{arith}
use borrow.Author.Tests.{eq-eqb, ne_eqb, lt-ltb, le-ltb}
use lib.Dec.{eqb}
use Rattle.memory.proofs.Choices.{no-is}
use Rattle.word.specs.Word.{digit}
use Rattle.register.specs.declared.HartRegister.{HartRegister}
use Rattle.register.specs.declared.HartRegister.TheVariants.{IDelivery, IForce, IThreshold, TopI}
use Rattle.hart.specs.declared.Hart.{Hart}
use Rattle.hart.specs.Hart.{resting, wrote_of, key_of}
use Rattle.hart.specs.Kept.{record_of, kept_of, better_of}

-- ---- a record in a word
pub record_is : (w : ℕ) → ◌≡◌ {A = Hart} (record { delivery = eqb (w % 2) 1; force = eqb (w / 2 % 2) 1; threshold = w / 256 % 256 }) (record_of w)
unfolding record_of
record_is w = rw div-one

pub kept-is : (x : Hart) (a b : ℕ) → a ≡ digit x.delivery → b ≡ digit x.force → a + b * 2 + x.threshold % 256 * 256 ≡ kept_of x
unfolding kept_of
kept-is x a b p q = rw (p, q)

-- what is kept comes back
pub same_record : (x : Hart) → x.threshold < 256 → record_of (kept_of x) ≡ x
unfolding record_of kept_of
same_record x l = go x.delivery x.force x.threshold l
  where
    low : (a b t : ℕ) → a < 2 → b < 2 → t < 256 → ((a + b * 2 + t % 256 * 256) / 1 % 2 ≡ a) × ((a + b * 2 + t % 256 * 256) / 2 % 2 ≡ b) × ((a + b * 2 + t % 256 * 256) / 256 % 256 ≡ t)
    low a b t p q r = (omega arith, omega arith, omega arith)

    go : (d f : Bool) (t : ℕ) → t < 256 → ◌≡◌ {A = Hart}
        (record {
          delivery = eqb ((digit d + digit f * 2 + t % 256 * 256) / 1 % 2) 1;
          force = eqb ((digit d + digit f * 2 + t % 256 * 256) / 2 % 2) 1;
          threshold = (digit d + digit f * 2 + t % 256 * 256) / 256 % 256;
        })
        (record { delivery = d; force = f; threshold = t })
    go true true t h = let p = low 1 1 t (omega arith) (omega arith) h in rw (p.0, p.1, p.2)
    go true false t h = let p = low 1 0 t (omega arith) (omega arith) h in rw (p.0, p.1, p.2)
    go false true t h = let p = low 0 1 t (omega arith) (omega arith) h in rw (p.0, p.1, p.2)
    go false false t h = let p = low 0 0 t (omega arith) (omega arith) h in rw (p.0, p.1, p.2)

pub record_small : (w : ℕ) → (record_of w).threshold < 256
unfolding record_of
record_small w = omega arith

pub record_rests : record_of 0 ≡ resting
unfolding record_of
record_rests = refl

pub wrote-small : (k : HartRegister) (v : ℕ) (x : Hart) → x.threshold < 256 → (wrote_of k v x).threshold < 256
unfolding wrote_of
wrote-small IDelivery v x l = l
wrote-small IForce v x l = l
wrote-small IThreshold v x l = omega arith
wrote-small TopI v x l = l

pub ruleset keeping = (record_is, kept-is)

-- ---- a write
module _ (x : Hart) (k : HartRegister) (v : ℕ) where
  pub wrote-delivery : k ≡ IDelivery → ◌≡◌ {A = Hart} (record { delivery = eqb (v % 2) 1; force = x.force; threshold = x.threshold }) (wrote_of k v x)
  unfolding wrote_of
  wrote-delivery e = rw (e, div-one)

  pub wrote-force : k ≡ IForce → ◌≡◌ {A = Hart} (record { delivery = x.delivery; force = eqb (v % 2) 1; threshold = x.threshold }) (wrote_of k v x)
  unfolding wrote_of
  wrote-force e = rw (e, div-one)

  pub wrote-threshold : k ≡ IThreshold → ◌≡◌ {A = Hart} (record { delivery = x.delivery; force = x.force; threshold = v % 256 }) (wrote_of k v x)
  unfolding wrote_of
  wrote-threshold e = rw (e, div-one)

  pub wrote-top : k ≡ TopI → x ≡ wrote_of k v x
  unfolding wrote_of
  wrote-top e = rw e

pub ruleset written = (wrote-delivery, wrote-force, wrote-threshold, wrote-top)

-- ---- keys
module _ (hart i target best : ℕ) where
  key_is : target % 256 * 64 + i ≡ key_of i target
  key_is = rw div-one

  pub better-yes : target / 0x4_0000 % 0x4000 ≡ hart → target % 256 * 64 + i < best → target % 256 * 64 + i ≡ better_of hart i target best
  unfolding better_of
  better-yes e l = rw (div-one, eq-eqb _ _ e, lt-ltb _ _ l)

  pub better-not : best ≤ target % 256 * 64 + i → best ≡ better_of hart i target best
  unfolding better_of
  better-not l = rw (div-one, le-ltb _ _ l) (no-is _ _ _ _ (off (eqb (target / 0x4_0000 % 0x4000) hart)) refl)
    where
      off : (b : Bool) → b && false ≡ false
      off true = refl
      off false = refl

  pub better_else : (target / 0x4_0000 % 0x4000 ≡ hart → ⊥) → best ≡ better_of hart i target best
  unfolding better_of
  better_else n = rw (ne_eqb _ _ n)

pub ruleset betters = (better-yes, better-not, better_else)
