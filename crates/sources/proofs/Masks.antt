-- Calls on all sources of a mask: each bit of the words is what the rules make of its source, by truth tables. Assumes nothing.
use mathlib.Core.Path.{◌≡◌, refl, sym, ap, ◌∙◌}
use mathlib.Core.Bool.{Bool, true, false, not, ◌&&◌, ◌||◌}
use Prim.Native.Nat.{ℕ, ◌<◌}
use lib.Bits.{bit_and, bit_or, bit_xor}
use Rattle.memory.specs.Bits.{without}
use Rattle.memory.specs.Choice.{pick}
use Rattle.memory.proofs.Truth.{Row, every, same, is_same}
use Rattle.word.specs.Word.{contains, is_source, set_of}
use Rattle.word.proofs.Bits.{is_source_lem, other, bit_and_lem, bit_or_lem, bit_xor_lem, bit-without, bit-set}
use Rattle.source.specs.declared.Delivery.{Delivery}
use Rattle.source.specs.declared.Delivery.TheVariants.{Direct, Message}
use Rattle.source.specs.declared.Source.{Source}
use Rattle.source.specs.Source.{direct_of, mode_from, active_of, rectified, input, setip, clrip, new_pending, raised, lowered, allowed, sensed}
use Rattle.sources.specs.declared.Sources.{Sources}
use Rattle.sources.specs.Sources.{source_of, Acts, Inputs}

abbrev pub mk : Bool → Bool → Bool → Bool → Bool → Bool → ℕ → Source
mk wd lv lo wi p en t = record { mode = mode_from wd lv lo; wire = wi; pending = p; enable = en; target = t }

-- six bits of a source and a mask's, at every row
abbrev Same : Row 6 → Row 6 → Row 6
Same f g a b c d e h = same (f a b c d e h) (g a b c d e h)

-- ---- the rectified input
abbrev pub input' : Bool → Bool → Bool → Bool
input' wd lo wi = wd && other wi lo

input-bits : (wd lv lo wi : Bool) → input' wd lo wi ≡ rectified (mode_from wd lv lo) wi
input-bits wd lv lo wi = is_same _ _ (every 4 (λ wd lv lo wi. same (input' wd lo wi) (rectified (mode_from wd lv lo) wi)) refl wd lv lo wi)

pub inputs_are : (s : Sources) → Inputs s (bit_and s.wired (bit_xor s.wires s.low))
unfolding Inputs source_of
inputs_are s i t = simp (bit_and_lem, bit_xor_lem) (input-bits (contains s.wired i) (contains s.level i) (contains s.low i) (contains s.wires i))

-- ---- a source whose pending bit alone changes
pub row_of : (m wd lv lo wi p en q : Bool) (t : ℕ) (f : Source → Source)
    → q ≡ pick m (f (mk wd lv lo wi p en t)).pending p
    → f (mk wd lv lo wi p en t) ≡ mk wd lv lo wi (f (mk wd lv lo wi p en t)).pending en t
    → mk wd lv lo wi q en t ≡ pick m (f (mk wd lv lo wi p en t)) (mk wd lv lo wi p en t)
row_of true wd lv lo wi p en q t f e h = ap (λ (x : Bool). mk wd lv lo wi x en t) e ∙ sym h
row_of false wd lv lo wi p en q t f e h = ap (λ (x : Bool). mk wd lv lo wi x en t) e

-- the bits of a mask, and what the rules make of a source, in each delivery mode
abbrev pub raise' : Bool → Row 6
raise' di m wd lv lo wi p = m && ((wd || lo) && not ((wd && lv) && not (other wi lo && not di))) || p

abbrev pub lower' : Bool → Row 6
lower' di m wd lv lo wi p = p && not (m && ((wd || lo) && not ((wd && lv) && di)))

abbrev pub raised' : Delivery → Row 6
raised' d m wd lv lo wi p = pick m (new_pending d (mode_from wd lv lo) (setip (rectified (mode_from wd lv lo) wi)) p) p

abbrev pub lowered' : Delivery → Row 6
lowered' d m wd lv lo wi p = pick m (new_pending d (mode_from wd lv lo) clrip p) p

pub raise-bits : (d : Delivery) (m wd lv lo wi p : Bool) → raise' (direct_of d) m wd lv lo wi p ≡ raised' d m wd lv lo wi p
raise-bits Direct m wd lv lo wi p = is_same _ _ (every 6 (Same (raise' true) (raised' Direct)) refl m wd lv lo wi p)
raise-bits Message m wd lv lo wi p = is_same _ _ (every 6 (Same (raise' false) (raised' Message)) refl m wd lv lo wi p)

pub lower-bits : (d : Delivery) (m wd lv lo wi p : Bool) → lower' (direct_of d) m wd lv lo wi p ≡ lowered' d m wd lv lo wi p
lower-bits Direct m wd lv lo wi p = is_same _ _ (every 6 (Same (lower' true) (lowered' Direct)) refl m wd lv lo wi p)
lower-bits Message m wd lv lo wi p = is_same _ _ (every 6 (Same (lower' false) (lowered' Message)) refl m wd lv lo wi p)

-- each row of a formula for the pending bit is what a rule makes of the source
abbrev pub EachRow : Row 6 → (Source → Source) → Type 0
EachRow f rule =
    (m wd lv lo wi p en : Bool) (t : ℕ) → mk wd lv lo wi (f m wd lv lo wi p) en t ≡ pick m (rule (mk wd lv lo wi p en t)) (mk wd lv lo wi p en t)

-- with other pending bits
abbrev pub pended : Sources → ℕ → Sources
pended s p = record { wired = s.wired; level = s.level; low = s.low; wires = s.wires; pending = p; enable = s.enable }

-- e has every source in direct delivery, and none in message delivery; row: what the truth table makes of one source
module _ (s : Sources) (d : Delivery) (mask e : ℕ) (b : Bool) (hb : b ≡ direct_of d) (he : (i : ℕ) → is_source i ≡ true → contains e i ≡ b) where
  direct-at : (i : ℕ) → 0 < i → i < 64 → contains e i ≡ direct_of d
  direct-at i p q = he i (is_source_lem i p q) ∙ hb

  abbrev pub Raises : Type 0
  Raises =
      (h a o : ℕ) → h ≡ without (bit_xor s.wires s.low) e → a ≡ without (bit_and s.wired s.level) h → o ≡ without (bit_or s.wired s.low) a
      → Acts (contains mask) (raised d) s (pended s (bit_or (bit_and mask o) s.pending))

  pub raises_by : EachRow (raise' (direct_of d)) (raised d) → Raises
  unfolding Acts source_of
  raises_by row h a o hh ha ho i t p q =
      rw (ho, ha, hh) (simp (bit_or_lem, bit_and_lem, bit-without, bit_xor_lem, direct-at i p q) (row (contains mask i) (contains s.wired i) (contains s.level i) (contains s.low i) (contains s.wires i) (contains s.pending i) (contains s.enable i) t))

  abbrev pub Lowers : Type 0
  Lowers =
      (o z : ℕ) → o ≡ without (bit_or s.wired s.low) (bit_and (bit_and s.wired s.level) e) → z ≡ without s.pending (bit_and mask o) → Acts (contains mask) (lowered d) s (pended s z)

  pub lowers_by : EachRow (lower' (direct_of d)) (lowered d) → Lowers
  unfolding Acts source_of
  lowers_by row o z ho hz i t p q =
      rw (hz, ho) (simp (bit_or_lem, bit_and_lem, bit-without, direct-at i p q) (row (contains mask i) (contains s.wired i) (contains s.level i) (contains s.low i) (contains s.wires i) (contains s.pending i) (contains s.enable i) t))

-- ---- enable bits
active_bits : (wd lv lo : Bool) → wd || lo ≡ active_of (mode_from wd lv lo)
active_bits wd lv lo = is_same _ _ (every 3 (λ wd lv lo. same (wd || lo) (active_of (mode_from wd lv lo))) refl wd lv lo)

allow-row : (m wd lv lo wi p en : Bool) (t : ℕ) → mk wd lv lo wi p (m && (wd || lo) || en) t ≡ pick m (allowed true (mk wd lv lo wi p en t)) (mk wd lv lo wi p en t)
unfolding allowed
allow-row false wd lv lo wi p en t = refl
allow-row true wd lv lo wi p en t = ap (λ (x : Bool). mk wd lv lo wi p (x || en) t) (active_bits wd lv lo)

forbid-row : (m wd lv lo wi p en : Bool) (t : ℕ) → mk wd lv lo wi p (en && not m) t ≡ pick m (allowed false (mk wd lv lo wi p en t)) (mk wd lv lo wi p en t)
unfolding allowed
forbid-row true wd lv lo wi p true t = refl
forbid-row true wd lv lo wi p false t = refl
forbid-row false wd lv lo wi p true t = refl
forbid-row false wd lv lo wi p false t = refl

abbrev enabled : Sources → ℕ → Sources
enabled s e = record { wired = s.wired; level = s.level; low = s.low; wires = s.wires; pending = s.pending; enable = e }

module _ (s : Sources) (mask : ℕ) where
  pub allows : Acts (contains mask) (allowed true) s (enabled s (bit_or (bit_and mask (bit_or s.wired s.low)) s.enable))
  unfolding Acts source_of
  allows i t _ _ =
      simp (bit_or_lem, bit_and_lem) (allow-row (contains mask i) (contains s.wired i) (contains s.level i) (contains s.low i) (contains s.wires i) (contains s.pending i) (contains s.enable i) t)

  pub forbids : (q : ℕ) → q ≡ without s.enable mask → Acts (contains mask) (allowed false) s (enabled s q)
  unfolding Acts source_of
  forbids q hq i t _ _ =
      rw hq (simp bit-without (forbid-row (contains mask i) (contains s.wired i) (contains s.level i) (contains s.low i) (contains s.wires i) (contains s.pending i) (contains s.enable i) t))

-- ---- a wire
abbrev pub wire' : Bool → Bool → Bool → Bool
wire' m on wi = pick on (wi || m) (wi && not m)

abbrev pub sense' : Bool → Row 7
sense' di m on wd lv lo wi p =
    (m && (wd && lv)) && (input' wd lo (wire' m on wi) && di) || (input' wd lo (wire' m on wi) && not (input' wd lo wi) || p) && not ((m && (wd && lv)) && not (input' wd lo (wire' m on wi)))

abbrev pub told : Delivery → Row 7
told d m on wd lv lo wi p = pick m (new_pending d (mode_from wd lv lo) (input (rectified (mode_from wd lv lo) wi) (rectified (mode_from wd lv lo) on)) p) p

pub sense-bits : (d : Delivery) (m on wd lv lo wi p : Bool) → sense' (direct_of d) m on wd lv lo wi p ≡ told d m on wd lv lo wi p
sense-bits Direct m on wd lv lo wi p = is_same _ _ (every 7 (λ m on wd lv lo wi p. same (sense' true m on wd lv lo wi p) (told Direct m on wd lv lo wi p)) refl m on wd lv lo wi p)
sense-bits Message m on wd lv lo wi p = is_same _ _ (every 7 (λ m on wd lv lo wi p. same (sense' false m on wd lv lo wi p) (told Message m on wd lv lo wi p)) refl m on wd lv lo wi p)

pub wire-bits : (m on wi : Bool) → wire' m on wi ≡ pick m on wi
wire-bits m on wi = is_same _ _ (every 3 (λ m on wi. same (wire' m on wi) (pick m on wi)) refl m on wi)

abbrev pub EachSense : Delivery → Bool → Type 0
EachSense d on =
    (m wd lv lo wi p en : Bool) (t : ℕ)
    → mk wd lv lo (wire' m on wi) (sense' (direct_of d) m on wd lv lo wi p) en t ≡ pick m (sensed d on (mk wd lv lo wi p en t)) (mk wd lv lo wi p en t)

module _ (s : Sources) (d : Delivery) (mask e : ℕ) (on b : Bool) (hb : b ≡ direct_of d) (he : (i : ℕ) → is_source i ≡ true → contains e i ≡ b) where
  abbrev pub Senses : Type 0
  Senses =
      (w r f q : ℕ) → w ≡ set_of s.wires mask on
      → r ≡ without (bit_and s.wired (bit_xor w s.low)) (bit_and s.wired (bit_xor s.wires s.low))
      → f ≡ without (bit_and mask (bit_and s.wired s.level)) (bit_and s.wired (bit_xor w s.low))
      → q ≡ without (bit_or r s.pending) f
      → Acts (contains mask) (sensed d on) s
      (record { wired = s.wired; level = s.level; low = s.low; wires = w; pending = bit_or (bit_and (bit_and mask (bit_and s.wired s.level)) (bit_and (bit_and s.wired (bit_xor w s.low)) e)) q; enable = s.enable })

  pub senses_by : EachSense d on → Senses
  unfolding Acts source_of
  senses_by row w r f q hw hr hf hq i t p k =
      rw (hq, hr, hf, hw)
      (simp (bit_or_lem, bit_and_lem, bit-without, bit_xor_lem, bit-set, he i (is_source_lem i p k) ∙ hb) (row (contains mask i) (contains s.wired i) (contains s.level i) (contains s.low i) (contains s.wires i) (contains s.pending i) (contains s.enable i) t))
