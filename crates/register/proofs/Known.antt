-- A register with a source's number is that of a source, one with a hart's that of a hart. Assumes nothing.
use mathlib.Core.Bool.{Bool, true, false}
use mathlib.Core.Path.{◌≡◌, refl, sym, ◌∙◌, subst}
use Prim.Native.Nat.{ℕ, ◌<◌, ◌≤◌, ◌/◌, ◌%◌, ◌-◌}
use native.Mathlib.Omega.{arith}
use borrow.Author.Tests.{eqb-true, eqb-false, ltb-true, ltb-false}
use Rattle.memory.specs.Choice.{pick}
use Rattle.register.specs.declared.BitRegister.{BitRegister}
use Rattle.register.specs.declared.Register.{Register}
use Rattle.register.specs.declared.Register.TheVariants.{DomainCfg, SourceCfg, OfBits, Target, Nothing}
use Rattle.register.specs.declared.HartRegister.{HartRegister}
use Rattle.register.specs.declared.Idc.{Idc}
use Rattle.register.specs.declared.Idc.TheVariants.{OfHart, ClaimI, Reserved}
use Rattle.register.specs.Register.{pending_register, enable_register, register_of, idc_of}

abbrev Inside : ℕ → Type 0
Inside n = (0 < n) × (n < 64)

-- the number that a register carries is a source
Known : Register → Type 0
Known DomainCfg = Unit {0}
Known (SourceCfg n) = Inside n
Known (OfBits b) = Unit {0}
Known (Target n) = Inside n
Known Nothing = Unit {0}

domain : Known DomainCfg
unfolding Known
domain = tt

of_bits : (b : BitRegister) → Known (OfBits b)
unfolding Known
of_bits b = tt

nothing : Known Nothing
unfolding Known
nothing = tt

source : (o : ℕ) → o % 4 ≡ 0 → (o ≡ 0 → ⊥) → o < 0x100 → Known (SourceCfg (o / 4))
unfolding Known
source o a n h = (omega (arith, a, n), omega arith)

target : (o : ℕ) → 0x3004 ≤ o → o < 0x3100 → Known (Target ((o - 0x3000) / 4))
unfolding Known
target o l h = (omega arith, omega arith)

-- a choice of which each way is known under its test
by_test : (b : Bool) (x y : Register) → (b ≡ true → Known x) → (b ≡ false → Known y) → Known (pick b x y)
by_test true x y f g = f refl
by_test false x y f g = g refl

bits_or : (b : Bool) (x : BitRegister) (y : Register) → Known y → Known (pick b (OfBits x) y)
bits_or b x y q = by_test b (OfBits x) y (λ e. of_bits x) (λ e. q)

known-pending : (o : ℕ) → Known (pending_register o)
unfolding pending_register
known-pending o = search (bits_or, nothing) depth 8

known-enable : (o : ℕ) → Known (enable_register o)
unfolding enable_register
known-enable o = search (bits_or, nothing) depth 8

known : (o : ℕ) → Known (register_of o)
unfolding register_of
known o = search (by_test, bits_or, domain, nothing, known-pending, known-enable, source, target, eqb-true, eqb-false, ltb-true, ltb-false) depth 12

module _ (o n : ℕ) (g : Register) (p : g ≡ register_of o) where
  source_known : g ≡ SourceCfg n → Inside n
  unfolding Known
  source_known q = subst Known (sym p ∙ q) (known o)

  target-known : g ≡ Target n → Inside n
  unfolding Known
  target-known q = subst Known (sym p ∙ q) (known o)

  pub source-above : g ≡ SourceCfg n → 0 < n
  source-above q = (source_known q).0

  pub source-below : g ≡ SourceCfg n → n < 64
  source-below q = (source_known q).1

  pub target-above : g ≡ Target n → 0 < n
  target-above q = (target-known q).0

  pub target_below : g ≡ Target n → n < 64
  target_below q = (target-known q).1

-- ---- harts
Held : Idc → Type 0
Held (OfHart h k) = h < 16
Held (ClaimI h) = h < 16
Held Reserved = Unit {0}

of_hart : (o : ℕ) (k : HartRegister) → 0x4000 ≤ o → o < 0x4200 → Held (OfHart ((o - 0x4000) / 32) k)
unfolding Held
of_hart o k l h = omega arith

claim : (o : ℕ) → 0x4000 ≤ o → o < 0x4200 → Held (ClaimI ((o - 0x4000) / 32))
unfolding Held
claim o l h = omega arith

reserved : Held Reserved
unfolding Held
reserved = tt

by_place : (b : Bool) (x y : Idc) → (b ≡ true → Held x) → (b ≡ false → Held y) → Held (pick b x y)
by_place true x y f g = f refl
by_place false x y f g = g refl

held : (o : ℕ) → Held (idc_of o)
unfolding idc_of
held o = search (by_place, of_hart, claim, reserved, ltb-true, ltb-false) depth 12

module _ (o n : ℕ) (g : Idc) (p : g ≡ idc_of o) where
  pub hart-below : (k : HartRegister) → g ≡ OfHart n k → n < 16
  unfolding Held
  hart-below k q = subst Held (sym p ∙ q) (held o)

  pub claim-below : g ≡ ClaimI n → n < 16
  unfolding Held
  claim-below q = subst Held (sym p ∙ q) (held o)

pub ruleset knowing = (source-above, source-below, target-above, target_below, hart-below, claim-below)
