-- What a write makes of the table that the words stand for. Assumes nothing.
use mathlib.Core.Path.{◌≡◌, refl, sym, ap, ◌∙◌, subst, fun_ext}
use mathlib.Core.Bool.{Bool, true, false}
use mathlib.Core.List.{List, [], ◌∷◌}
use Prim.Native.Nat.{ℕ, zero, suc, ◌+◌, ◌*◌, ◌/◌, ◌%◌, ◌<◌, ◌≤◌}
use native.Mathlib.Omega.{arith}
use borrow.Author.Tests.{not-true, lt-ltb, le-ltb}
use lib.Dec.{eqb}
use lib.ListN.{get_or, set, length, length-set}
use lib.Seq.{get_or-set_other}
use Rattle.memory.specs.Bits.{bits}
use Rattle.memory.specs.Choice.{pick}
use Rattle.memory.proofs.Choices.{yes-is, no-is}
use Rattle.word.specs.Word.{is_source, only}
use Rattle.word.proofs.Bits.{never}
use Rattle.register.specs.declared.BitRegister.{BitRegister}
use Rattle.register.specs.declared.HartRegister.{HartRegister}
use Rattle.register.specs.declared.Register.{Register}
use Rattle.register.specs.declared.Register.TheVariants.{DomainCfg, SourceCfg, OfBits, Target, Nothing}
use Rattle.register.specs.declared.Idc.{Idc}
use Rattle.register.specs.declared.Idc.TheVariants.{OfHart}
use Rattle.register.specs.Register.{register_of, idc_of}
use Rattle.hart.specs.declared.Hart.{Hart}
use Rattle.hart.specs.Hart.{wrote_of}
use Rattle.hart.specs.Kept.{kept_of}
use Rattle.hart.proofs.Records.{wrote-small}
use Rattle.source.specs.declared.Delivery.{Delivery}
use Rattle.source.specs.declared.Delivery.TheVariants.{Direct, Message}
use Rattle.source.specs.declared.Source.{Source}
use Rattle.source.specs.Source.{direct_of, active_of, mode_of, configured, first_target, aimed, target_of}
use Rattle.source.specs.Table.{quiet, act}
use Rattle.sources.specs.declared.Sources.{Sources}
use Rattle.sources.specs.Sources.{source_of, table_with, Acts, lined}
use Rattle.aplic_calls.specs.Direct.{write_hart, ignores_idc}
use Rattle.aplic_calls.specs.Calls.{concerned, change, enabled_by, write_register, ignores_register, ignores}
use Rattle.aplic_calls.proofs.Tables.{same-table, configured-table, aimed-table, written}
use Rattle.aplic_calls.proofs.Claims.{unserved-write}
use Rattle.aplic_calls.proofs.Claims.{wrote-is}
use Rattle.aplic_words.specs.State.{enable_in, sources_in, delivery_in, target_in, record_in, common_in, table_in, with_sources}
use Rattle.aplic_words.proofs.States.{six, put_target_lem, put-words, same-records, put_common, table-set, hart-put, put_all, hart-there, record_low, not-message, served, unserved}

-- ---- targets are words of 32 bits
configured-small : (d : Delivery) (v : ℕ) (y : Source) → y.target < 0x1_0000_0000 → (configured d v y).target < 0x1_0000_0000
unfolding configured
configured-small d v y h = go (active_of (mode_of v)) (active_of y.mode)
  where
    first : (d : Delivery) → first_target d < 0x1_0000_0000
    first Direct = omega arith
    first Message = omega arith

    go : (a b : Bool) → pick a (pick b y.target (first_target d)) 0 < 0x1_0000_0000
    go true true = h
    go true false = first d
    go false b = omega arith

aimed-small : (d : Delivery) (v : ℕ) (y : Source) → y.target < 0x1_0000_0000 → (aimed d v y).target < 0x1_0000_0000
unfolding aimed
aimed-small d v y h = go (active_of y.mode)
  where
    wide : (a b : ℕ) → a < 0x4000 → b < 0x100 → a * 0x4_0000 + b < 0x1_0000_0000
    wide a b p q = omega arith

    prio : (b : Bool) → pick b 1 (bits v 7 0) < 0x100
    prio true = omega arith
    prio false = omega arith

    field : (a b : ℕ) → a < 0x10_0000 → b < 0x800 → a * 0x1000 + b < 0x1_0000_0000
    field a b p q = omega arith

    kept : (d : Delivery) → target_of d v < 0x1_0000_0000
    kept Direct = wide (bits v 31 18) (pick (eqb (bits v 7 0) 0) 1 (bits v 7 0)) (omega arith) (prio (eqb (bits v 7 0) 0))
    kept Message = field (bits v 31 12) (bits v 10 0) (omega arith) (omega arith)

    go : (a : Bool) → pick a (target_of d v) y.target < 0x1_0000_0000
    go true = kept d
    go false = h

target_small : (ws : List ℕ) (n : ℕ) → target_in ws n < 0x1_0000_0000
unfolding target_in
target_small ws n = omega arith

row_target : (s : Sources) (n t : ℕ) → (source_of s n t).target ≡ t
unfolding source_of
row_target s n t = refl

-- ---- one source, and registers of bits
module _ (ws : List ℕ) (long : 87 ≤ length ws) (s : Sources) (hs : s ≡ sources_in ws) where
  -- one source
  module _ (n v t : ℕ) (x y : Source) (from : 0 < n) (below : n < 64) (ht : t ≡ target_in ws n) (hy : y ≡ source_of s n t) where
    row-there : y ≡ source_of (sources_in ws) n (target_in ws n)
    row-there = hy ∙ ap (λ (k : ℕ). source_of s n k) ht ∙ ap (λ (z : Sources). source_of z n (target_in ws n)) hs

    small : y.target < 0x1_0000_0000
    small = omega (arith, ap (λ (z : Source). z.target) hy, row_target s n t, ht, target_small ws n)

    pub configure-goes : (d : Delivery) (r : Sources) (mid out : List ℕ) → d ≡ delivery_in ws → x ≡ configured d v y → Acts (only n) (lined x) s r → mid ≡ with_sources ws r → out ≡ set mid (7 + n) x.target
        → table_in out ≡ act (only n) (configured (delivery_in ws) v) (table_in ws)
    unfolding table_in
    configure-goes d r mid out hd hx' a hm ho =
        let hx : x ≡ configured (delivery_in ws) v y = hx' ∙ ap (λ (m : Delivery). configured m v y) hd in
        let k : length (with_sources ws r) ≡ length ws = six length (λ l i z h. length-set l i z) ws r in
        let w : x.target < 0x1_0000_0000 = omega (arith, ap (λ (z : Source). z.target) hx, configured-small (delivery_in ws) v y small) in
        let p = put-words ws r long in
        let q : target_in (with_sources ws r) ≡ target_in ws = fun_ext (put_target_lem ws r) in
        ap table_in (ho ∙ ap (λ (l : List ℕ). set l (7 + n) x.target) hm)
        ∙ table-set (with_sources ws r) n x.target from below (omega (arith, k, long)) w
        ∙ rw (p.0, put_common ws r long, q) (configured-table (common_in ws) s r (target_in ws) (λ i. pick (eqb i n) x.target (target_in ws i)) n (configured (delivery_in ws) v) x
        (hx ∙ ap (configured (delivery_in ws) v) (hy ∙ ap (λ (k : ℕ). source_of s n k) ht)) (λ i. refl) a)
        ∙ ap (λ (z : Sources). act (only n) (configured (delivery_in ws) v) (table_with (common_in ws) z (target_in ws))) hs

    pub aim-goes : (d : Delivery) (out : List ℕ) → d ≡ delivery_in ws → x ≡ aimed d v y → out ≡ set ws (7 + n) x.target → table_in out ≡ act (only n) (aimed (delivery_in ws) v) (table_in ws)
    unfolding table_in
    aim-goes d out hd hx' ho =
        let hx : x ≡ aimed (delivery_in ws) v y = hx' ∙ ap (λ (m : Delivery). aimed m v y) hd in
        let w : x.target < 0x1_0000_0000 = omega (arith, ap (λ (z : Source). z.target) hx, aimed-small (delivery_in ws) v y small) in
        ap table_in ho ∙ table-set ws n x.target from below (omega (arith, long)) w
        ∙ aimed-table (common_in ws) (sources_in ws) (target_in ws) (λ i. pick (eqb i n) x.target (target_in ws i)) n v x (hx ∙ ap (aimed (delivery_in ws) v) row-there) (λ i. refl)

  -- a write to a register of bits
  pub write_bits_lem : (d : Delivery) (o v : ℕ) (g : Register) (b : BitRegister) (r : Sources) (out : List ℕ) → d ≡ delivery_in ws → g ≡ register_of o → g ≡ OfBits b → Acts (concerned b v) (change d b) s r → out ≡ with_sources ws r
      → table_in out ≡ write_register (register_of o) v (table_in ws)
  unfolding write_register table_with table_in
  write_bits_lem d o v g b r out hd p q a e =
      written o v g p (OfBits b) (table_in ws) (table_in out) q (put_all ws long s hs (change (delivery_in ws) b) (concerned b v) r out (subst (λ (m : Delivery). Acts (concerned b v) (change m b) s r) hd a) e)

-- ---- the other arms of a write
module _ (ws : List ℕ) (o v : ℕ) (g : Register) (p : g ≡ register_of o) where
  pub write-nothing : g ≡ Nothing → table_in ws ≡ write_register (register_of o) v (table_in ws)
  unfolding write_register
  write-nothing q = written o v g p Nothing (table_in ws) _ q refl

  pub write-source : (n : ℕ) (out : List ℕ) → g ≡ SourceCfg n → table_in out ≡ act (only n) (configured (delivery_in ws) v) (table_in ws) → table_in out ≡ write_register (register_of o) v (table_in ws)
  unfolding write_register table_in table_with
  write-source n out q e = written o v g p (SourceCfg n) (table_in ws) _ q e

  pub write-target : (n : ℕ) (out : List ℕ) → g ≡ Target n → table_in out ≡ act (only n) (aimed (delivery_in ws) v) (table_in ws) → table_in out ≡ write_register (register_of o) v (table_in ws)
  unfolding write_register table_in table_with
  write-target n out q e = written o v g p (Target n) (table_in ws) _ q e

pub write-domain : (ws : List ℕ) (o v : ℕ) (g : Register) → 87 ≤ length ws → g ≡ register_of o → g ≡ DomainCfg → table_in (set ws 0 (v / 256 % 2)) ≡ write_register (register_of o) v (table_in ws)
unfolding write_register enabled_by table_in table_with enable_in sources_in target_in delivery_in
write-domain [] o v g l p q = absurd (omega arith)
write-domain (w ∷ ws) o v g l p q =
    written o v g p DomainCfg (table_in (w ∷ ws)) _ q (same-table _ _ _ _ _ _ _ _ refl (ap (λ (x : ℕ). eqb x 1) twice) (same-records (v / 256 % 2 ∷ ws) (w ∷ ws) (λ h k. get_or-set_other (w ∷ ws) 0 (71 + h) (v / 256 % 2) 0 (λ e. omega arith))) (λ i. ap (λ (x : ℕ). pick (is_source i) (source_of (sources_in (w ∷ ws)) i x) quiet) (kept i)))
  where
    twice : v / 256 % 2 % 2 ≡ v / 256 % 2
    twice = omega arith

    kept : (i : ℕ) → target_in (v / 256 % 2 ∷ ws) i ≡ target_in (w ∷ ws) i
    kept i = same_target (7 + i) (omega arith)
      where
        same_target : (k : ℕ) → 0 < k → get_or (v / 256 % 2 ∷ ws) k 0 % 0x1_0000_0000 ≡ get_or (w ∷ ws) k 0 % 0x1_0000_0000
        same_target zero h = absurd (omega arith)
        same_target (suc k) h = refl

-- ---- what is ignored changes no word
module _ (o : ℕ) (g : Register) (p : g ≡ register_of o) (xs ys : List ℕ) where
  ignored_by : (h : Register) → g ≡ h → ignores_register h ≡ false → ignores_register (register_of o) ≡ true → xs ≡ ys
  ignored_by h q n e = absurd (never (sym n ∙ ap ignores_register (sym q ∙ p) ∙ e))

  pub changed-domain : g ≡ DomainCfg → ignores_register (register_of o) ≡ true → xs ≡ ys
  unfolding ignores_register
  changed-domain q = ignored_by DomainCfg q refl

  pub changed-source : (n : ℕ) → g ≡ SourceCfg n → ignores_register (register_of o) ≡ true → xs ≡ ys
  unfolding ignores_register
  changed-source n q = ignored_by (SourceCfg n) q refl

  pub changed-bits : (b : BitRegister) → g ≡ OfBits b → ignores_register (register_of o) ≡ true → xs ≡ ys
  unfolding ignores_register
  changed-bits b q = ignored_by (OfBits b) q refl

  pub changed-target : (n : ℕ) → g ≡ Target n → ignores_register (register_of o) ≡ true → xs ≡ ys
  unfolding ignores_register
  changed-target n q = ignored_by (Target n) q refl

pub ruleset changed = (changed-domain, changed-source, changed-bits, changed-target)

-- ---- the IDC structures
module _ (ws : List ℕ) (o : ℕ) (g : Idc) (p : g ≡ idc_of o) where
  module _ (xs ys : List ℕ) where
    -- a hart's register where the mode is message
    pub changed-hart : (h : ℕ) (k : HartRegister) → g ≡ OfHart h k → (direct_of (delivery_in ws) ≡ false → xs ≡ ys) → ignores_idc (delivery_in ws) (idc_of o) ≡ true → xs ≡ ys
    unfolding ignores_idc
    changed-hart h k q f e = f (not-true (direct_of (delivery_in ws)) (ap (ignores_idc (delivery_in ws)) (sym q ∙ p) ∙ e))

-- by the span of the offset
module _ (d : Delivery) (o : ℕ) (xs ys : List ℕ) where
  pub low_ignored : o < 0x4000 → (ignores_register (register_of o) ≡ true → xs ≡ ys) → ignores d o ≡ true → xs ≡ ys
  unfolding ignores
  low_ignored l f e = f (yes-is _ _ _ _ (lt-ltb o 0x4000 l) refl ∙ e)

  pub high_ignored : 0x4000 ≤ o → (ignores_idc d (idc_of o) ≡ true → xs ≡ ys) → ignores d o ≡ true → xs ≡ ys
  unfolding ignores
  high_ignored l f e = f (no-is _ _ _ _ (le-ltb o 0x4000 l) refl ∙ e)

pub ruleset ignoring = (low_ignored, high_ignored)

-- ---- a hart's registers
module _ (ws : List ℕ) (d : Delivery) (hd : d ≡ delivery_in ws) (b : Bool) (hb : b ≡ direct_of d) (h : ℕ) (below : h < 16) where
  pub hart_ignored : (k : HartRegister) (v : ℕ) → b ≡ false → table_in ws ≡ write_hart h k v (table_in ws)
  hart_ignored k v e = unserved-write (table_in ws) h (unserved ws d hd b hb h below e) k v

  pub hart-written : (x : Hart) → x ≡ record_in ws h → (k : HartRegister) (v : ℕ) (y : Hart) (out : List ℕ) → b ≡ true → 87 ≤ length ws → y ≡ wrote_of k v x → out ≡ set ws (71 + h) (kept_of y) → table_in out ≡ write_hart h k v (table_in ws)
  hart-written x hx k v y out e long hy ho =
      let low : x.threshold < 256 = rw hx (record_low ws h) in
      ap table_in ho ∙ hart-put ws h y long below (rw hy (wrote-small k v x low)) ∙ wrote-is (table_in ws) h (served ws d hd b hb h below e) k v x y (hx ∙ hart-there ws h below) hy

pub ruleset hart_writes = (hart-written, hart_ignored, not-message)

pub ruleset ones = (configure-goes, aim-goes)

pub ruleset writes = (write-nothing, write-domain, write_bits_lem, write-source, write-target)
