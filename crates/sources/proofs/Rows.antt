-- One source taken out of the words and put back, and the lowest that waits. Assumes nothing.
use mathlib.Core.Path.{◌≡◌, refl, ap, ◌∙◌}
use mathlib.Core.Bool.{Bool, true, false, ◌&&◌}
use Prim.Native.Nat.{ℕ, ◌<◌}
use lib.Bits.{bit_and}
use lib.Dec.{eqb}
use Rattle.memory.specs.Choice.{pick}
use Rattle.word.specs.Word.{contains, put_of, only, lowest}
use Rattle.word.proofs.Bits.{bit-put, bit_and_lem, lowest_ext}
use Rattle.source.specs.declared.Mode.{Mode}
use Rattle.source.specs.declared.Mode.TheVariants.{Inactive, Detached, Edge1, Edge0, Level1, Level0}
use Rattle.source.specs.declared.Source.{Source}
use Rattle.source.specs.Source.{mode_from, wired_of, level_of, low_of}
use Rattle.sources.specs.declared.Sources.{Sources}
use Rattle.sources.specs.Sources.{source_of, Acts, lined, first_waiting}

mode-bits : (m : Mode) → mode_from (wired_of m) (level_of m) (low_of m) ≡ m
mode-bits Inactive = refl
mode-bits Detached = refl
mode-bits Edge1 = refl
mode-bits Edge0 = refl
mode-bits Level1 = refl
mode-bits Level0 = refl

module _ (s : Sources) (n : ℕ) (x : Source) (bw bl bo : Bool) (w v l y p e : ℕ) (in_n : n < 64)
    (hbw : bw ≡ wired_of x.mode) (hbl : bl ≡ level_of x.mode) (hbo : bo ≡ low_of x.mode)
    (hw : w ≡ put_of s.wired n bw) (hv : v ≡ put_of s.level n bl) (hl : l ≡ put_of s.low n bo)
    (hy : y ≡ put_of s.wires n x.wire) (hp : p ≡ put_of s.pending n x.pending) (he : e ≡ put_of s.enable n x.enable) where
  bit_of : (i : ℕ) (y z : ℕ) (b : Bool) → y ≡ put_of z n b → contains y i ≡ pick (eqb i n) b (contains z i)
  bit_of i y z b h = ap (λ (k : ℕ). contains k i) h ∙ bit-put i z n b in_n

  pub placed : Acts (only n) (lined x) s (record { wired = w; level = v; low = l; wires = y; pending = p; enable = e })
  unfolding Acts source_of only
  placed i t _ _ =
      rw (
        bit_of i w s.wired (wired_of x.mode) (hw ∙ ap (put_of s.wired n) hbw),
        bit_of i v s.level (level_of x.mode) (hv ∙ ap (put_of s.level n) hbl),
        bit_of i l s.low (low_of x.mode) (hl ∙ ap (put_of s.low n) hbo),
        bit_of i y s.wires x.wire hy,
        bit_of i p s.pending x.pending hp,
        bit_of i e s.enable x.enable he,
      ) (go (eqb i n))
    where
      go : (b : Bool)
          → ◌≡◌ {A = Source}
          (record {
            mode = mode_from (pick b (wired_of x.mode) (contains s.wired i)) (pick b (level_of x.mode) (contains s.level i)) (pick b (low_of x.mode) (contains s.low i));
            wire = pick b x.wire (contains s.wires i);
            pending = pick b x.pending (contains s.pending i);
            enable = pick b x.enable (contains s.enable i);
            target = t;
          })
          (pick b (lined x (source_of s i t)) (source_of s i t))
      go true = rw (mode-bits x.mode)
      go false = refl

pub first-waits : (s : Sources) (r : ℕ) → r ≡ lowest 63 1 (contains (bit_and s.pending s.enable)) → r ≡ first_waiting s
unfolding first_waiting
first-waits s r e = e ∙ lowest_ext 63 1 (contains (bit_and s.pending s.enable)) (λ i. contains s.pending i && contains s.enable i) (λ i a b. bit_and_lem i s.pending s.enable)

pub ruleset rows = (placed, first-waits)
