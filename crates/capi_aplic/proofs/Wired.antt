-- The domain's face, by the tests that the code makes. Assumes nothing.
use Prim.Native.Nat.{ℕ, ◌<◌, ◌≤◌}
use mathlib.Core.Bool.{Bool}
use mathlib.Core.List.{List}
use mathlib.Core.Path.{◌≡◌, refl, sym, ap, ◌∙◌}
use lib.ListN.{length, set}
use borrow.Author.Tests.{lt-ltb, le-ltb}
use Rattle.std.specs.Prelude.{Option, None}
use Rattle.refusal.specs.declared.Refusal.{Refusal}
use Rattle.refusal.specs.declared.Refusal.TheVariants.{BadWindows, BadDirectory, BadDevice, BadProcess, NoProcess, BadLength, FileOutside, NoFile, BadIdentity, UnknownNumber, Overlap, FileOverTables, BadQueue, NotInDomain}
use Rattle.refusal.specs.Refusal.{number_of}
use Rattle.aplic_calls.specs.declared.Msi.{Msi}
use Rattle.word.specs.Word.{digit}
use Rattle.capi_aplic.specs.Wired.{domain_status, room_status, under_status, with_sent}

module _ (state : List ℕ) where
  pub state-short : (t : ℕ) → length state < 87 → 1 ≡ domain_status state t
  unfolding domain_status
  state-short t h = simp (lt-ltb (length state) 87 h)

  pub state-long : (r t : ℕ) → 87 ≤ length state → r ≡ t → r ≡ domain_status state t
  unfolding domain_status
  state-long r t h e = simp (le-ltb (length state) 87 h) e

module _ (n : ℕ) (out : List ℕ) where
  pub room-short : (t : ℕ) → length out < n → 1 ≡ room_status n out t
  unfolding room_status
  room-short t h = simp (lt-ltb (length out) n h)

  pub room-long : (r t : ℕ) → n ≤ length out → r ≡ t → r ≡ room_status n out t
  unfolding room_status
  room-long r t h e = simp (le-ltb (length out) n h) e

module _ {A : Type 0} (before after : A) where
  pub left-short : before ≡ under_status 1 before after
  unfolding under_status
  left-short = refl

  pub left-done : (x : A) → x ≡ after → x ≡ under_status 0 before after
  unfolding under_status
  left-done x e = e

  left-at : (e : Refusal) → before ≡ under_status (number_of e) before after
  unfolding under_status
  left-at BadWindows = refl
  left-at BadDirectory = refl
  left-at BadDevice = refl
  left-at BadProcess = refl
  left-at NoProcess = refl
  left-at BadLength = refl
  left-at FileOutside = refl
  left-at NoFile = refl
  left-at BadIdentity = refl
  left-at UnknownNumber = refl
  left-at Overlap = refl
  left-at FileOverTables = refl
  left-at BadQueue = refl
  left-at NotInDomain = refl

  pub left-number : (e : Refusal) (x : ℕ) → x ≡ number_of e → before ≡ under_status x before after
  left-number e x p = left-at e ∙ ap (λ (k : ℕ). under_status k before after) (sym p)

-- what holds of a refusal where there is none
pub refused_none : {A : Type 0} (x y : A) → (◌≡◌ {A = ℕ} 0 0 → ⊥) → x ≡ y
refused_none x y h = absurd (h refl)

-- ---- what is sent
pub sent_by : (out x : List ℕ) (s t : Option Msi) → s ≡ t → x ≡ with_sent out t → x ≡ with_sent out s
sent_by out x s t e p = p ∙ ap (with_sent out) (sym e)

pub sent_told : (out x : List ℕ) (s t : Option Msi) → x ≡ with_sent out s → s ≡ t → x ≡ under_status 0 out (with_sent out t)
sent_told out x s t e p = left-done out (with_sent out t) x (e ∙ ap (with_sent out) p)

pub value_told : (out : List ℕ) (x y : ℕ) → x ≡ y → set out 0 x ≡ under_status 0 out (set out 0 y)
value_told out x y p = left-done out (set out 0 y) (set out 0 x) (ap (set out 0) p)

pub flag_told : (out : List ℕ) (x : ℕ) (a b : Bool) → x ≡ digit a → a ≡ b → set out 0 x ≡ under_status 0 out (set out 0 (digit b))
flag_told out x a b p q = value_told out x (digit b) (p ∙ ap digit q)

pub idle_kept : {A : Type 0} (x y : A) (s t : Option Msi) → s ≡ t → (s ≡ None → x ≡ y) → t ≡ None → x ≡ y
idle_kept x y s t e f h = f (e ∙ h)

pub ruleset wired_ways = (state-short, state-long, room-short, room-long, left-short, left-done, left-number, refused_none)
