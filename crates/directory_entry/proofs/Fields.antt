-- Tests of a mode. Assumes nothing.
use Prim.Native.Nat.{ℕ}
use mathlib.Core.Bool.{Bool, ◌||◌}
use mathlib.Core.Path.{◌≡◌, sym, ap, ◌∙◌}
use lib.Dec.{eqb}
use Rattle.directory_entry.specs.Fields.{root_mode_of, bare_of, scheme_mode, valid_mode, first_scheme, second_scheme}
use Rattle.memory.proofs.Choices.{picks}
use Rattle.paging_scheme.specs.declared.Scheme.{Scheme}

pub bare-is : (w v : ℕ) → v ≡ root_mode_of w → eqb v 0 ≡ bare_of w
bare-is w v h = ap (λ n. eqb n 0) h

pub valid-is : (w v : ℕ) (b s : Bool) → b ≡ bare_of w → v ≡ root_mode_of w → s ≡ scheme_mode v → (b || s) ≡ valid_mode w
valid-is w v b s p h k = ap (λ t. t || s) p ∙ ap (λ t. bare_of w || t) (k ∙ ap scheme_mode h)

pub ruleset mode-tests = (bare-is, valid-is)

-- the scheme of a mode that is known
pub first-at : (mode k : ℕ) (s : Scheme) → mode ≡ k → s ≡ first_scheme k → s ≡ first_scheme mode
first-at mode k s e h = h ∙ sym (ap first_scheme e)

pub second_at : (mode k : ℕ) (s : Scheme) → mode ≡ k → s ≡ second_scheme k → s ≡ second_scheme mode
second_at mode k s e h = h ∙ sym (ap second_scheme e)

pub ruleset first_scheme_ways = (first-at, picks)

pub ruleset second_scheme_ways = (second_at, picks)
