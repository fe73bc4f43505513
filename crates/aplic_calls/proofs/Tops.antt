-- The top interrupt of a hart, found by one look at each source that waits, wherever the targets are kept. Assumes nothing.
use mathlib.Core.Path.{◌≡◌, refl, sym, ap, ◌∙◌, subst}
use mathlib.Core.Bool.{Bool, true, false, ◌&&◌, ◌||◌}
use Prim.Native.Nat.{ℕ, zero, suc, ◌+◌, ◌-◌, ◌*◌, ◌/◌, ◌%◌, ◌<◌, ◌≤◌}
use native.Mathlib.Omega.{arith}
use borrow.Author.Tests.{eq-eqb, lt-ltb, eqb-true, eqb-false, ltb-true, ltb-false}
use lib.Bits.{bit_and}
use lib.Dec.{eqb, ltb}
use Rattle.memory.specs.Choice.{pick}
use Rattle.word.specs.Word.{contains, is_source, lowest}
use Rattle.memory.proofs.Truth.{and_true}
use Rattle.word.proofs.Bits.{never, within, is_source_lem, bit_and_lem, even_up, even-zero, some-bit, clear-lowest, clear_less, lowest-from, lowest-found, lowest-before, lowest-is, lowest-none}
use Rattle.hart.specs.Hart.{hart_index, priority, passes, key_of, keys, top_word}
use Rattle.hart.specs.Kept.{limit_of, better_of}
use Rattle.source.specs.declared.Source.{Source}
use Rattle.source.specs.Table.{Table}
use Rattle.sources.specs.declared.Sources.{Sources}
use Rattle.sources.specs.Sources.{source_of, Common, table_with}
use Rattle.aplic_calls.specs.Direct.{contributes, leads, top_at}
use Rattle.aplic_calls.proofs.Tables.{row_at}

-- ---- keys
key_source : (i target : ℕ) → i < 64 → key_of i target % 64 ≡ i
key_source i target l = omega arith

key_below : (i target : ℕ) → i < 64 → key_of i target < keys
key_below i target l = omega arith

-- a key below the limit is one that passes, and the other way round
limit-passes : (th i target : ℕ) → key_of i target < limit_of th → passes th (priority target) ≡ true
unfolding limit_of passes
limit-passes th i target l = go (eqb th 0) refl l
  where
    go : (b : Bool) → eqb th 0 ≡ b → key_of i target < pick b keys (th * 64) → b || ltb (priority target) th ≡ true
    go true e k = refl
    go false e k = lt-ltb (priority target) th (omega arith)

passes-limit : (th i target : ℕ) → i < 64 → passes th (priority target) ≡ true → key_of i target < limit_of th
unfolding limit_of passes
passes-limit th i target l e = go (eqb th 0) e
  where
    go : (b : Bool) → b || ltb (priority target) th ≡ true → key_of i target < pick b keys (th * 64)
    go true q = key_below i target l
    go false q = let k : priority target < th = ltb-true _ _ q in omega (arith, k)

limit-none : (th : ℕ) → top_word (limit_of th) ≡ 0
unfolding top_word limit_of
limit-none th = go (eqb th 0)
  where
    go : (b : Bool) → pick (eqb (pick b keys (th * 64) % 64) 0) 0 (pick b keys (th * 64) % 64 * 65536 + pick b keys (th * 64) / 64 % 256) ≡ 0
    go true = refl
    go false = let e : th * 64 % 64 ≡ 0 = omega arith in rw e

keys_none : top_word (0 + keys) ≡ 0
unfolding top_word
keys_none = refl

module _ (co : Common) (s : Sources) (targets : ℕ → ℕ) (h th : ℕ) where
  abbrev t : Table
  t = table_with co s targets

  abbrev waits : ℕ
  waits = bit_and s.pending s.enable

  -- ---- a source that contributes
  record Counts (i : ℕ) : Type 0 where
    waiting : contains waits i ≡ true
    mine : hart_index (targets i) ≡ h
    passed : passes th (priority (targets i)) ≡ true

  counts_of : (i : ℕ) → contributes h th (source_of s i (targets i)) ≡ true → Counts i
  unfolding contributes source_of
  counts_of i e =
      let a = and_true _ _ e in
      let b = and_true _ _ a.1 in
      record { waiting = bit_and_lem i s.pending s.enable ∙ a.0; mine = eqb-true _ _ b.0; passed = b.1 }

  counts-is : (i : ℕ) → Counts i → contributes h th (source_of s i (targets i)) ≡ true
  unfolding contributes source_of
  counts-is i c = rw (sym (bit_and_lem i s.pending s.enable) ∙ c.waiting, eq-eqb _ _ c.mine, c.passed)

  -- ---- a key that leads
  record Lead (k : ℕ) : Type 0 where
    from : 0 < k % 64
    counts : Counts (k % 64)
    own : key_of (k % 64) (targets (k % 64)) ≡ k

  lead_of : (k : ℕ) → leads h th t k ≡ true → Lead k
  unfolding leads source_of
  lead_of k e =
      let a = and_true _ _ e in
      let w = within (k % 64) a.0 in
      let r : t.row (k % 64) ≡ source_of s (k % 64) (targets (k % 64)) = sym (row_at co s s targets (k % 64) w.0 w.1) in
      let b = and_true _ _ a.1 in
      record {
        from = w.0;
        counts = counts_of (k % 64) (ap (contributes h th) (sym r) ∙ b.0);
        own = ap (λ (x : Source). key_of (k % 64) x.target) (sym r) ∙ eqb-true _ _ b.1;
      }

  lead_at : (k i : ℕ) → k % 64 ≡ i → 0 < i → i < 64 → Counts i → key_of i (targets i) ≡ k → leads h th t k ≡ true
  unfolding leads source_of
  lead_at k i e a b c q =
      let r : t.row i ≡ source_of s i (targets i) = sym (row_at co s s targets i a b) in
      rw e (all (is_source i) _ _ (is_source_lem i a b) (ap (contributes h th) r ∙ counts-is i c) (eq-eqb _ _ (ap (λ (x : Source). key_of i x.target) r ∙ q)))
    where
      all : (x y z : Bool) → x ≡ true → y ≡ true → z ≡ true → x && (y && z) ≡ true
      all x y z p q r = rw (p, q, r)

  lead_is : (i : ℕ) → 0 < i → i < 64 → Counts i → leads h th t (key_of i (targets i)) ≡ true
  lead_is i a b c = lead_at (key_of i (targets i)) i (key_source i (targets i) b) a b c refl

  -- ---- the loop: `best` is the limit or a key that leads, and no source that was looked at has a lower one
  pub data Found (best : ℕ) : Type 0 where
    none : best ≡ limit_of th → Found best
    one : leads h th t best ≡ true → Found best

  pub record Looked (left best i : ℕ) : Type 0 where
    pub next : i ≡ lowest 63 1 (contains left)
    pub found : Found best
    pub low : best ≤ limit_of th
    pub least : (j : ℕ) → 0 < j → j < 64 → contains waits j ≡ true → contains left j ≡ false → hart_index (targets j) ≡ h → best ≤ key_of j (targets j)
    pub part : (j : ℕ) → 0 < j → contains left j ≡ true → contains waits j ≡ true
    pub even : contains left 0 ≡ false

  pub looked_first : (left best i : ℕ) → left ≡ waits / 2 * 2 → best ≡ limit_of th → i ≡ lowest 63 1 (contains left) → Looked left best i
  looked_first left best i q e f =
      let same : (j : ℕ) → 0 < j → contains left j ≡ contains waits j = λ j a. ap (λ (x : ℕ). contains x j) q ∙ even_up waits j a in
      record {
        next = f;
        found = none e;
        low = omega (arith, e);
        least = λ j a b w l m. absurd (never (sym l ∙ same j a ∙ w));
        part = λ j a e. sym (same j a) ∙ e;
        even = ap (λ (x : ℕ). contains x 0) q ∙ even-zero waits;
      }

  module _ (left best i : ℕ) (p : Looked left best i) (l : i < 64) where
    there : contains left i ≡ true
    there = ap (contains left) p.next ∙ lowest-found 63 1 (contains left) (omega (arith, p.next))

    from_one : 0 < i
    from_one = omega (arith, p.next, lowest-from 63 1 (contains left))

    pub looked_some : 0 < left
    looked_some = some-bit i left there

    pub looked_less : (left' : ℕ) → left' ≡ bit_and left (left - 1) → left' < left
    looked_less left' e = omega (arith, e, clear_less left looked_some)

    -- i is the lowest that is left
    none_below : (k : ℕ) → k < i → contains left k ≡ false
    none_below zero b = p.even
    none_below (suc k) b = lowest-before 63 1 (contains left) (suc k) (omega arith) (omega (arith, p.next))

    cleared : (j : ℕ) → contains (bit_and left (left - 1)) j ≡ pick (eqb j i) false (contains left j)
    cleared j = clear-lowest i j left there none_below

    -- the sources looked at are those before, and i
    data Seen (j : ℕ) : Type 0 where
      before : contains left j ≡ false → Seen j
      last : j ≡ i → Seen j

    looked_at : (j : ℕ) → contains (bit_and left (left - 1)) j ≡ false → Seen j
    looked_at j e = go (eqb j i) refl (sym (cleared j) ∙ e)
      where
        go : (b : Bool) → eqb j i ≡ b → pick b false (contains left j) ≡ false → Seen j
        go true q f = last (eqb-true j i q)
        go false q f = before f

    part_left : (j : ℕ) → contains (bit_and left (left - 1)) j ≡ true → contains left j ≡ true
    part_left j e = go (eqb j i) (sym (cleared j) ∙ e)
      where
        go : (b : Bool) → pick b false (contains left j) ≡ true → contains left j ≡ true
        go true z = absurd (never z)
        go false z = z

    part-even : contains (bit_and left (left - 1)) 0 ≡ false
    part-even = cleared 0 ∙ go (eqb 0 i)
      where
        go : (b : Bool) → pick b false (contains left 0) ≡ false
        go true = refl
        go false = p.even

    -- i is taken, or passed over
    taken : hart_index (targets i) ≡ h → key_of i (targets i) < best → (n : ℕ) → n ≡ lowest 63 1 (contains (bit_and left (left - 1))) → Looked (bit_and left (left - 1)) (key_of i (targets i)) n
    taken m k n e =
        let c : Counts i = record { waiting = p.part i from_one there; mine = m; passed = limit-passes th i (targets i) (omega (arith, p.low)) } in
        record {
          next = e;
          found = one (lead_is i from_one l c);
          low = omega (arith, p.low);
          least = λ j a b w f mj. at j (looked_at j f) a b w mj;
          part = λ j a f. p.part j a (part_left j f);
          even = part-even;
        }
      where
        at : (j : ℕ) → Seen j → 0 < j → j < 64 → contains waits j ≡ true → hart_index (targets j) ≡ h → key_of i (targets i) ≤ key_of j (targets j)
        at j (before f) a b w mj = omega (arith, p.least j a b w f mj)
        at j (last q) a b w mj = rw q (omega arith)

    passed_over : (hart_index (targets i) ≡ h → best ≤ key_of i (targets i)) → (n : ℕ) → n ≡ lowest 63 1 (contains (bit_and left (left - 1))) → Looked (bit_and left (left - 1)) best n
    passed_over k n e =
        record {
          next = e;
          found = p.found;
          low = p.low;
          least = λ j a b w f mj. at j (looked_at j f) a b w mj;
          part = λ j a f. p.part j a (part_left j f);
          even = part-even;
        }
      where
        at : (j : ℕ) → Seen j → 0 < j → j < 64 → contains waits j ≡ true → hart_index (targets j) ≡ h → best ≤ key_of j (targets j)
        at j (before f) a b w mj = p.least j a b w f mj
        at j (last q) a b w mj = subst (λ (x : ℕ). best ≤ key_of x (targets x)) (sym q) (k (subst (λ (x : ℕ). hart_index (targets x) ≡ h) q mj))

    step : (r n : ℕ) → r ≡ better_of h i (targets i) best → n ≡ lowest 63 1 (contains (bit_and left (left - 1))) → Looked (bit_and left (left - 1)) r n
    unfolding better_of
    step r n e f = subst (λ (x : ℕ). Looked (bit_and left (left - 1)) x n) (sym e) (go (eqb (hart_index (targets i)) h) refl (ltb (key_of i (targets i)) best) refl)
      where
        go : (a : Bool) → eqb (hart_index (targets i)) h ≡ a → (b : Bool) → ltb (key_of i (targets i)) best ≡ b → Looked (bit_and left (left - 1)) (pick (a && b) (key_of i (targets i)) best) n
        go true m true k = taken (eqb-true _ _ m) (ltb-true _ _ k) n f
        go true m false k = passed_over (λ x. ltb-false _ _ k) n f
        go false m b k = passed_over (λ x. absurd (eqb-false _ _ m x)) n f

    pub looked_next : (r n left' : ℕ) → r ≡ better_of h i (targets i) best → left' ≡ bit_and left (left - 1) → n ≡ lowest 63 1 (contains left') → Looked left' r n
    looked_next r n left' e q f = subst (λ (x : ℕ). Looked x r n) (sym q) (step r n e (subst (λ (x : ℕ). n ≡ lowest 63 1 (contains x)) q f))

  -- ---- after it
  module _ (left best i : ℕ) (p : Looked left best i) (l : 64 ≤ i) where
    none_left : (j : ℕ) → 0 < j → j < 64 → contains left j ≡ false
    none_left j a b = lowest-before 63 1 (contains left) j (omega arith) (omega (arith, p.next))

    -- no lower key leads
    above : (k : ℕ) → Lead k → best ≤ k
    above k d =
        let c = d.counts in
        let w : k % 64 < 64 = omega arith in
        omega (arith, d.own, p.least (k % 64) d.from w c.waiting (none_left (k % 64) d.from w) c.mine)

    no_lower : (k : ℕ) → k < best → leads h th t k ≡ false
    no_lower k b = go (leads h th t k) refl
      where
        go : (x : Bool) → leads h th t k ≡ x → x ≡ false
        go true e = absurd (omega (arith, above k (lead_of k e)))
        go false e = refl

    -- every key that leads is below the limit
    below-limit : (k : ℕ) → Lead k → k < limit_of th
    below-limit k d = let w : k % 64 < 64 = omega arith in omega (arith, d.own, passes-limit th (k % 64) (targets (k % 64)) w d.counts.passed)

    none-leads : best ≡ limit_of th → (k : ℕ) → leads h th t k ≡ false
    none-leads e k = go (leads h th t k) refl
      where
        go : (x : Bool) → leads h th t k ≡ x → x ≡ false
        go true q = let d = lead_of k q in absurd (omega (arith, above k d, below-limit k d, e))
        go false q = refl

    done : Found best → top_word best ≡ top_word (lowest keys 0 (leads h th t))
    done (none e) = ap top_word e ∙ limit-none th ∙ sym (ap top_word (lowest-none keys 0 (leads h th t) (λ j a b. none-leads e j)) ∙ keys_none)
    done (one e) =
        let d = lead_of best e in
        let w : best % 64 < 64 = omega arith in
        let b : best < 0 + keys = omega (arith, d.own, key_below (best % 64) (targets (best % 64)) w) in
        ap top_word (sym (lowest-is keys 0 best (leads h th t) (omega arith) b e (λ j x y. no_lower j y)))

    pub looked_done : (r : ℕ) → r ≡ top_word best → r ≡ top_at h th t
    unfolding top_at
    looked_done r e = e ∙ done p.found

pub ruleset looks = (looked_first, looked_next, looked_some, looked_less, looked_done)
