-- Harts of a table: their registers, claims and signals, by the tests that the code makes. Assumes nothing.
use mathlib.Core.Path.{◌≡◌, refl, sym, ap, ap₂, ◌∙◌, fun_ext}
use mathlib.Core.Bool.{Bool, true, false, not, ◌&&◌, ◌||◌}
use Prim.Native.Nat.{ℕ, ◌<◌, ◌/◌, ◌%◌}
use native.Mathlib.Decide.{dec_lt}
use native.Mathlib.Omega.{arith}
use borrow.Author.Tests.{eq-eqb, ne_eqb, eqb-true, lt-ltb, le-ltb, ltb-true}
use lib.Dec.{eqb, ltb}
use Rattle.memory.specs.Choice.{pick}
use Rattle.memory.proofs.Choices.{yes-is, no-is}
use Rattle.word.specs.Word.{only, digit}
use Rattle.register.specs.declared.HartRegister.{HartRegister}
use Rattle.register.specs.declared.HartRegister.TheVariants.{IDelivery, IForce, IThreshold, TopI}
use Rattle.register.specs.declared.Idc.{Idc}
use Rattle.register.specs.declared.Idc.TheVariants.{OfHart, ClaimI, Reserved}
use Rattle.register.specs.Register.{idc_of}
use Rattle.hart.specs.declared.Hart.{Hart}
use Rattle.std.specs.Prelude.{Result, Ok, Err}
use Rattle.refusal.specs.declared.Refusal.{Refusal}
use Rattle.hart.specs.Hart.{wrote_of, unforced, hart_refusal, in_domain}
use Rattle.hart.proofs.Refusals.{has-it, has-not}
use Rattle.source.specs.Source.{direct_of, handed}
use Rattle.source.specs.Table.{Table, act}
use Rattle.aplic_calls.specs.Direct.{serves, with_hart, top_at, topi, claim_table, claim_hart, claimed, claim_value, write_hart, read_hart, write_idc, read_idc, claimed_by, signalled, tells}

pub below_of : (h r : ℕ) → r ≡ hart_refusal h → r ≡ 0 → h < 16
unfolding hart_refusal
below_of h r e z = go (dec_lt h 16)
  where
    go : Dec (h < 16) → h < 16
    go (yes p) = p
    go (no p) = absurd (omega (arith, sym z ∙ e ∙ ap (λ (b : Bool). pick b 0 2014) (le-ltb h 16 (omega arith))))

pub below_ok : (h : ℕ) (r : Result Unit Refusal) (u : Unit) → r ≡ in_domain (ltb h 16) tt → r ≡ Ok u → h < 16
below_ok h r u e k = ltb-true h 16 (has-it (ltb h 16) tt r u e k)

-- a record put in its own place
pub with_own : (t : Table) (h : ℕ) → with_hart h (t.hart h) t ≡ t
unfolding with_hart
with_own t h = ap (λ (f : ℕ → Hart). record { delivery = t.delivery; enable = t.enable; row = t.row; hart = f }) (fun_ext (λ k. go k (eqb k h) refl))
  where
    go : (k : ℕ) (b : Bool) → eqb k h ≡ b → pick b (t.hart h) (t.hart k) ≡ t.hart k
    go k true e = ap t.hart (sym (eqb-true k h e))
    go k false e = refl

module _ (t : Table) (h : ℕ) where
  -- ---- which hart is served
  pub serve_yes : (b : Bool) → h < 16 → b ≡ direct_of t.delivery → b ≡ true → serves h t ≡ true
  unfolding serves
  serve_yes b l hb e = rw (lt-ltb h 16 l, sym hb ∙ e)

  pub serve_mode : (b : Bool) → b ≡ direct_of t.delivery → b ≡ false → serves h t ≡ false
  unfolding serves
  serve_mode b hb e = rw (sym hb ∙ e) (go (ltb h 16))
    where
      go : (x : Bool) → x && false ≡ false
      go true = refl
      go false = refl

  pub serve_refused : (r : ℕ) → r ≡ hart_refusal h → (r ≡ 0 → ⊥) → serves h t ≡ false
  unfolding serves hart_refusal
  serve_refused r e z = go (ltb h 16) e
    where
      go : (b : Bool) → r ≡ pick b 0 2014 → b && direct_of t.delivery ≡ false
      go true p = absurd (z p)
      go false p = refl

  pub serve_past : ltb h 16 ≡ false → serves h t ≡ false
  unfolding serves
  serve_past e = rw e

  pub serve-err : (r : Result Unit Refusal) (e : Refusal) → r ≡ in_domain (ltb h 16) tt → r ≡ Err e → serves h t ≡ false
  unfolding serves
  serve-err r e p q = rw (has-not (ltb h 16) tt r e p q)

  -- ---- a hart that isn't served
  module _ (no : serves h t ≡ false) where
    pub unserved-topi : (th : ℕ) → 0 ≡ topi h th t
    unfolding topi
    unserved-topi th = no-is _ _ _ _ no refl

    pub unserved-table : (th : ℕ) → t ≡ claim_table h th t
    unfolding claim_table
    unserved-table th = yes-is _ _ _ _ (eq-eqb _ _ (sym (unserved-topi th))) refl

    pub unserved-hart : (x : Hart) → x ≡ claim_hart h x t
    unfolding claim_hart
    unserved-hart x = no-is _ _ _ _ no refl

    pub unserved-claim : t ≡ claimed h t
    unfolding claimed
    unserved-claim = no-is _ _ _ _ no refl

    pub unserved-value : 0 ≡ claim_value h t
    unfolding claim_value
    unserved-value = unserved-topi (t.hart h).threshold

    pub unserved-write : (k : HartRegister) (v : ℕ) → t ≡ write_hart h k v t
    unfolding write_hart
    unserved-write k v = no-is _ _ _ _ no refl

    pub unserved-read : (k : HartRegister) → 0 ≡ read_hart h k t
    unfolding read_hart
    unserved-read k = no-is _ _ _ _ no refl

    pub unserved-signal : false ≡ signalled h t
    unfolding signalled
    unserved-signal = sym (off _ _ no)
      where
        off : (a b : Bool) → a ≡ false → a && b ≡ false
        off a b e = rw e

  -- ---- a hart that is served
  module _ (yes : serves h t ≡ true) where
    -- a claim by hart h with the record x
    module _ (x : Hart) (v : ℕ) (hv : v ≡ top_at h x.threshold t) where
      pub top-served : v ≡ topi h x.threshold t
      unfolding topi
      top-served = yes-is _ _ _ _ yes hv

      module _ (z : v ≡ 0) where
        zero : eqb (topi h x.threshold t) 0 ≡ true
        zero = eq-eqb _ _ (sym top-served ∙ z)

        pub nothing-topi : 0 ≡ topi h x.threshold t
        nothing-topi = sym z ∙ top-served

        pub nothing-table : t ≡ claim_table h x.threshold t
        unfolding claim_table
        nothing-table = yes-is _ _ _ _ zero refl

        pub nothing-hart : (y : Hart) → y ≡ unforced x → y ≡ claim_hart h x t
        unfolding claim_hart
        nothing-hart y e = yes-is _ _ _ _ yes (yes-is _ _ _ _ zero e)

      module _ (z : v ≡ 0 → ⊥) where
        some : eqb (topi h x.threshold t) 0 ≡ false
        some = ne_eqb _ _ (λ e. z (top-served ∙ e))

        pub taken-hart : x ≡ claim_hart h x t
        unfolding claim_hart
        taken-hart = yes-is _ _ _ _ yes (no-is _ _ _ _ some refl)

        pub taken-table : (u : Table) → u ≡ act (only (v / 0x1_0000 % 1024)) (handed t.delivery) t → u ≡ claim_table h x.threshold t
        unfolding claim_table
        taken-table u e = no-is _ _ _ _ some (e ∙ ap (λ (w : ℕ). act (only (w / 0x1_0000 % 1024)) (handed t.delivery) t) top-served)

    pub wrote-is : (k : HartRegister) (v : ℕ) (x y : Hart) → x ≡ t.hart h → y ≡ wrote_of k v x → with_hart h y t ≡ write_hart h k v t
    unfolding write_hart
    wrote-is k v x y hx hy = yes-is _ _ _ _ yes (ap (λ (z : Hart). with_hart h z t) (hy ∙ ap (wrote_of k v) hx))

    -- what a register of the record tells
    module _ (k : HartRegister) (x : Hart) (hx : x ≡ t.hart h) where
      tells-by : (c : HartRegister) (v : ℕ) → k ≡ c → v ≡ tells c x (top_at h x.threshold t) → v ≡ read_hart h k t
      unfolding read_hart
      tells-by c v q e = yes-is _ _ _ _ yes (e ∙ ap₂ (λ (a : HartRegister) (z : Hart). tells a z (top_at h z.threshold t)) (sym q) hx)

      pub tells-delivery : (v : ℕ) → k ≡ IDelivery → v ≡ digit x.delivery → v ≡ read_hart h k t
      unfolding tells
      tells-delivery v q e = tells-by IDelivery v q e

      pub tells-force : (v : ℕ) → k ≡ IForce → v ≡ digit x.force → v ≡ read_hart h k t
      unfolding tells
      tells-force v q e = tells-by IForce v q e

      pub tells-threshold : k ≡ IThreshold → x.threshold ≡ read_hart h k t
      unfolding tells
      tells-threshold q = tells-by IThreshold x.threshold q refl

      pub tells-top : (v : ℕ) → k ≡ TopI → v ≡ top_at h x.threshold t → v ≡ read_hart h k t
      unfolding tells
      tells-top v q e = tells-by TopI v q e

    -- the signal
    module _ (x : Hart) (hx : x ≡ t.hart h) where
      value-is : (v : ℕ) → v ≡ top_at h x.threshold t → v ≡ claim_value h t
      unfolding claim_value
      value-is v e = top-served x v e ∙ ap (λ (z : Hart). topi h z.threshold t) hx

      signal-by : (a b : Bool) → t.enable && x.delivery ≡ a → x.force || not (eqb (claim_value h t) 0) ≡ b → a && b ≡ signalled h t
      unfolding signalled
      signal-by a b p q =
          sym (ap (λ (r : Bool). r && ((t.enable && (t.hart h).delivery) && ((t.hart h).force || not (eqb (claim_value h t) 0)))) yes
          ∙ ap (λ (z : Hart). (t.enable && z.delivery) && (z.force || not (eqb (claim_value h t) 0))) (sym hx)
          ∙ ap₂ (λ (u w : Bool). u && w) p q)

      module _ (on : t.enable && x.delivery ≡ true) where
        pub table_forced : x.force ≡ true → true ≡ signalled h t
        table_forced f = signal-by true true on (ap (λ (b : Bool). b || not (eqb (claim_value h t) 0)) f)

        pub table-top : (v : ℕ) → x.force ≡ false → v ≡ top_at h x.threshold t → not (eqb v 0) ≡ signalled h t
        table-top v f e = signal-by true (not (eqb v 0)) on (ap (λ (b : Bool). b || not (eqb (claim_value h t) 0)) f ∙ ap (λ (n : ℕ). not (eqb n 0)) (sym (value-is v e)))

      pub table-off : t.enable && x.delivery ≡ false → false ≡ signalled h t
      table-off e = signal-by false _ e refl

-- a claim with the record that the table has for the hart
pub claimed_by_lem : (t u : Table) (h : ℕ) (y : Hart) → y ≡ claim_hart h (t.hart h) t → u ≡ claim_table h (t.hart h).threshold t → with_hart h y u ≡ claimed h t
unfolding claimed
claimed_by_lem t u h y hy hu = go (serves h t) refl
  where
    go : (b : Bool) → serves h t ≡ b → with_hart h y u ≡ pick b (with_hart h (claim_hart h (t.hart h) t) (claim_table h (t.hart h).threshold t)) t
    go true e = ap₂ (λ (z : Hart) (w : Table). with_hart h z w) hy hu
    go false e =
        ap₂ (λ (z : Hart) (w : Table). with_hart h z w) (hy ∙ sym (unserved-hart t h e (t.hart h))) (hu ∙ sym (unserved-table t h e (t.hart h).threshold))
        ∙ with_own t h

-- a claim leaves the threshold alone
pub claim-small : (t : Table) (h : ℕ) (x : Hart) → x.threshold < 256 → (claim_hart h x t).threshold < 256
unfolding claim_hart unforced
claim-small t h x l = go (serves h t) (eqb (topi h x.threshold t) 0)
  where
    go : (b c : Bool) → (pick b (pick c (unforced x) x) x).threshold < 256
    go true true = l
    go true false = l
    go false c = l

-- ---- by what an offset names in the IDC structures
module _ (o v : ℕ) (g : Idc) (p : g ≡ idc_of o) (t : Table) where
  written-by : (h : Idc) (x : Table) → g ≡ h → x ≡ write_idc h v t → x ≡ write_idc (idc_of o) v t
  written-by h x q e = e ∙ ap (λ (k : Idc). write_idc k v t) (sym q ∙ p)

  told_by_lem : (h : Idc) → g ≡ h → v ≡ read_idc h t → v ≡ read_idc (idc_of o) t
  told_by_lem h q e = e ∙ ap (λ (k : Idc). read_idc k t) (sym q ∙ p)

  pub write_hart_lem : (h : ℕ) (k : HartRegister) (x : Table) → g ≡ OfHart h k → x ≡ write_hart h k v t → x ≡ write_idc (idc_of o) v t
  unfolding write_idc
  write_hart_lem h k x q e = written-by (OfHart h k) x q e

  pub write-claim : (h : ℕ) → g ≡ ClaimI h → t ≡ write_idc (idc_of o) v t
  unfolding write_idc
  write-claim h q = written-by (ClaimI h) t q refl

  pub write-reserved : g ≡ Reserved → t ≡ write_idc (idc_of o) v t
  unfolding write_idc
  write-reserved q = written-by Reserved t q refl

  pub read_hart_lem : (h : ℕ) (k : HartRegister) → g ≡ OfHart h k → v ≡ read_hart h k t → v ≡ read_idc (idc_of o) t
  unfolding read_idc
  read_hart_lem h k q e = told_by_lem (OfHart h k) q e

  pub read-claim : (h : ℕ) → g ≡ ClaimI h → v ≡ claim_value h t → v ≡ read_idc (idc_of o) t
  unfolding read_idc
  read-claim h q e = told_by_lem (ClaimI h) q e

  pub read-reserved : g ≡ Reserved → v ≡ 0 → v ≡ read_idc (idc_of o) t
  unfolding read_idc
  read-reserved q e = told_by_lem Reserved q e

module _ (o : ℕ) (g : Idc) (p : g ≡ idc_of o) (t : Table) where
  left_by : (h : Idc) (x : Table) → g ≡ h → x ≡ claimed_by h t → x ≡ claimed_by (idc_of o) t
  left_by h x q e = e ∙ ap (λ (k : Idc). claimed_by k t) (sym q ∙ p)

  pub left-hart : (h : ℕ) (k : HartRegister) → g ≡ OfHart h k → t ≡ claimed_by (idc_of o) t
  unfolding claimed_by
  left-hart h k q = left_by (OfHart h k) t q refl

  pub left-claim : (h : ℕ) (x : Table) → g ≡ ClaimI h → x ≡ claimed h t → x ≡ claimed_by (idc_of o) t
  unfolding claimed_by
  left-claim h x q e = left_by (ClaimI h) x q e

  pub left-reserved : g ≡ Reserved → t ≡ claimed_by (idc_of o) t
  unfolding claimed_by
  left-reserved q = left_by Reserved t q refl

pub ruleset idc_writes = (write_hart_lem, write-claim, write-reserved)

pub ruleset idc_reads = (read_hart_lem, read-claim, read-reserved)

pub ruleset lefts = (left-hart, left-claim, left-reserved)
