-- What a hart's registers, claims and signal make of the table that the words stand for, and tell of it. Assumes nothing.
use mathlib.Core.Path.{◌≡◌, refl, sym, ap, ◌∙◌, subst}
use mathlib.Core.Bool.{Bool, true, false, not, ◌&&◌}
use mathlib.Core.List.{List}
use Prim.Native.Nat.{ℕ, ◌+◌, ◌-◌, ◌*◌, ◌/◌, ◌%◌, ◌<◌, ◌≤◌}
use native.Mathlib.Omega.{arith}
use borrow.Author.Tests.{not-true, not-false}
use lib.Bits.{bit_and}
use Rattle.std.specs.Prelude.{Some, None}
use Rattle.aplic_hart.specs.Takes.{Takes}
use lib.Dec.{eqb}
use lib.ListN.{get_or, set, drop, length}
use Rattle.memory.specs.Bits.{bits}
use Rattle.memory.specs.Choice.{pick}
use Rattle.word.specs.Word.{contains, is_source, only, digit, lowest}
use Rattle.memory.proofs.Truth.{and_true}
use Rattle.register.specs.declared.HartRegister.{HartRegister}
use Rattle.register.specs.declared.HartRegister.TheVariants.{IDelivery, IForce, IThreshold, TopI}
use Rattle.hart.specs.declared.Hart.{Hart}
use Rattle.hart.specs.Hart.{unforced, top_word}
use Rattle.hart.specs.Kept.{kept_of, limit_of, better_of}
use Rattle.source.specs.declared.Delivery.{Delivery}
use Rattle.source.specs.declared.Source.{Source}
use Rattle.source.specs.Source.{direct_of, lowered, handed}
use Rattle.source.specs.Table.{Table, act}
use Rattle.sources.specs.declared.Sources.{Sources}
use Rattle.sources.specs.Sources.{Acts}
use Rattle.aplic_calls.specs.Direct.{with_hart, top_at, topi, claim_table, claim_hart, claimed, claim_value, read_hart, signalled}
use Rattle.aplic_calls.proofs.Tables.{acts_ext, handed-is}
use Rattle.aplic_calls.proofs.Tops.{Looked, looked_first, looked_next, looked_done}
use Rattle.aplic_calls.proofs.Claims.{with_own, unserved-topi, unserved-table, unserved-claim, unserved-value, unserved-read, unserved-signal}
use Rattle.aplic_calls.proofs.Claims.{top-served, nothing-table, nothing-hart, taken-hart, taken-table, claimed_by_lem, tells-delivery, tells-force, tells-threshold, tells-top, table_forced, table-top, table-off}
use Rattle.aplic_words.specs.State.{enable_in, sources_in, delivery_in, target_in, record_in, common_in, table_in, with_sources}
use Rattle.aplic_words.proofs.States.{hart-put, put_all, mode-there, enable-there, hart-there, record_low, beyond_record, served, unserved}

-- ---- harts
-- a record with a threshold
abbrev under : ℕ → Hart
under th = record { delivery = false; force = false; threshold = th }

-- a take leaves the records
claim-harts : (t : Table) (h th : ℕ) → (claim_table h th t).hart h ≡ t.hart h
unfolding claim_table
claim-harts t h th = go (eqb (topi h th t) 0)
  where
    go : (b : Bool) → (pick b t (act (only (bits (topi h th t) 25 16)) (handed t.delivery) t)).hart h ≡ t.hart h
    go true = refl
    go false = refl

pub claim-beyond : (ws mid out : List ℕ) (h : ℕ) (x : ℕ) → h < 16 → drop 87 mid ≡ drop 87 ws → out ≡ set mid (71 + h) x → drop 87 out ≡ drop 87 ws
claim-beyond ws mid out h x l e p = beyond_record mid out h x l p ∙ e

module _ (ws : List ℕ) where
  -- the loop
  pub top-first : (h th left best i : ℕ) → left ≡ bit_and (get_or ws 5 0) (get_or ws 6 0) / 2 * 2 → best ≡ limit_of th → i ≡ lowest 63 1 (contains left) → Looked (common_in ws) (sources_in ws) (target_in ws) h th left best i
  unfolding sources_in
  top-first h th left best i e = looked_first (common_in ws) (sources_in ws) (target_in ws) h th left best i e

  module _ (h th left best i : ℕ) (p : Looked (common_in ws) (sources_in ws) (target_in ws) h th left best i) where
    pub top-next : (r n t left' : ℕ) → i < 64 → t ≡ target_in ws i → r ≡ better_of h i t best → left' ≡ bit_and left (left - 1) → n ≡ lowest 63 1 (contains left')
        → Looked (common_in ws) (sources_in ws) (target_in ws) h th left' r n
    top-next r n t left' l ht hr = looked_next (common_in ws) (sources_in ws) (target_in ws) h th left best i p l r n left' (hr ∙ ap (λ (x : ℕ). better_of h i x best) ht)

    pub top-done : (r : ℕ) → 64 ≤ i → r ≡ top_word best → r ≡ top_at h th (table_in ws)
    unfolding table_in
    top-done r l = looked_done (common_in ws) (sources_in ws) (target_in ws) h th left best i p l r

  module _ (h th left best : ℕ) (p : Looked (common_in ws) (sources_in ws) (target_in ws) h th left best (lowest 63 1 (contains left))) where
    pub top-taken : (i r t rest : ℕ) → Takes left (Some i) rest → t ≡ target_in ws i → r ≡ better_of h i t best → Looked (common_in ws) (sources_in ws) (target_in ws) h th rest r (lowest 63 1 (contains rest))
    top-taken i r t rest k ht hr =
        let q : Looked (common_in ws) (sources_in ws) (target_in ws) h th left best i = subst (λ (x : ℕ). Looked (common_in ws) (sources_in ws) (target_in ws) h th left best x) (sym k.0) p in
        top-next h th left best i q r (lowest 63 1 (contains rest)) t rest k.1 ht hr k.2 refl

    pub top-ended : (r rest : ℕ) → Takes left None rest → r ≡ top_word best → r ≡ top_at h th (table_in ws)
    top-ended r rest k e = top-done h th left best (lowest 63 1 (contains left)) p r k e

  module _ (d : Delivery) (hd : d ≡ delivery_in ws) (b : Bool) (hb : b ≡ direct_of d) where
    module _ (h : ℕ) (below : h < 16) where
      pub hart-silent : (k : HartRegister) → b ≡ false → 0 ≡ read_hart h k (table_in ws)
      hart-silent k e = unserved-read (table_in ws) h (unserved ws d hd b hb h below e) k

      pub claim-silent : b ≡ false → 0 ≡ claim_value h (table_in ws)
      claim-silent e = unserved-value (table_in ws) h (unserved ws d hd b hb h below e)

      pub claim_ignored : b ≡ false → table_in ws ≡ claimed h (table_in ws)
      claim_ignored e = unserved-claim (table_in ws) h (unserved ws d hd b hb h below e)

      -- the top interrupt under a threshold is taken
      pub take-silent : (th : ℕ) → b ≡ false → 0 ≡ topi h th (table_in ws)
      take-silent th e = unserved-topi (table_in ws) h (unserved ws d hd b hb h below e) th

      pub take_ignored : (th : ℕ) → b ≡ false → table_in ws ≡ claim_table h th (table_in ws)
      take_ignored th e = unserved-table (table_in ws) h (unserved ws d hd b hb h below e) th

      module _ (e : b ≡ true) (th v : ℕ) (hv : v ≡ top_at h th (table_in ws)) where
        pub take-value : v ≡ topi h th (table_in ws)
        take-value = top-served (table_in ws) h (served ws d hd b hb h below e) (under th) v hv

        pub take_none : v ≡ 0 → table_in ws ≡ claim_table h th (table_in ws)
        take_none n = nothing-table (table_in ws) h (served ws d hd b hb h below e) (under th) v hv n

        pub take-goes : (mask : ℕ) (s r : Sources) (out : List ℕ) → (v ≡ 0 → ⊥) → 87 ≤ length ws → s ≡ sources_in ws → ((i : ℕ) → is_source i ≡ true → contains mask i ≡ only (v / 0x1_0000 % 1024) i)
            → Acts (contains mask) (lowered d) s r → out ≡ with_sources ws r → table_in out ≡ claim_table h th (table_in ws)
        take-goes mask s r out n long hs m a ho =
            taken-table (table_in ws) h (served ws d hd b hb h below e) (under th) v hv n (table_in out)
            (put_all ws long s hs (lowered d) (only (v / 0x1_0000 % 1024)) r out (acts_ext (contains mask) (only (v / 0x1_0000 % 1024)) (lowered d) s r m a) ho
            ∙ ap (λ (f : Source → Source). act (only (v / 0x1_0000 % 1024)) f (table_in ws)) (handed-is d ∙ ap handed (hd ∙ mode-there ws)))

      module _ (x : Hart) (hx : x ≡ record_in ws h) where
        own : x ≡ (table_in ws).hart h
        own = hx ∙ hart-there ws h below

        low : x.threshold < 256
        low = rw hx (record_low ws h)

        module _ (k : HartRegister) (e : b ≡ true) where
          pub hart-delivery : (v : ℕ) → k ≡ IDelivery → v ≡ digit x.delivery → v ≡ read_hart h k (table_in ws)
          hart-delivery v q p = tells-delivery (table_in ws) h (served ws d hd b hb h below e) k x own v q p

          pub hart-force : (v : ℕ) → k ≡ IForce → v ≡ digit x.force → v ≡ read_hart h k (table_in ws)
          hart-force v q p = tells-force (table_in ws) h (served ws d hd b hb h below e) k x own v q p

          pub hart-threshold : k ≡ IThreshold → x.threshold ≡ read_hart h k (table_in ws)
          hart-threshold q = tells-threshold (table_in ws) h (served ws d hd b hb h below e) k x own q

          pub hart-top : (v : ℕ) → k ≡ TopI → v ≡ top_at h x.threshold (table_in ws) → v ≡ read_hart h k (table_in ws)
          hart-top v q p = tells-top (table_in ws) h (served ws d hd b hb h below e) k x own v q p

        -- a claim, by what the take of the top interrupt left
        pub claim_value_lem : (v : ℕ) → v ≡ topi h x.threshold (table_in ws) → v ≡ claim_value h (table_in ws)
        unfolding claim_value
        claim_value_lem v hv = hv ∙ ap (λ (z : Hart). topi h z.threshold (table_in ws)) own

        module _ (e : b ≡ true) (v : ℕ) (hv : v ≡ topi h x.threshold (table_in ws)) (mid : List ℕ) (hm : table_in mid ≡ claim_table h x.threshold (table_in ws)) where
          top-is : v ≡ top_at h x.threshold (table_in ws)
          top-is = hv ∙ sym (top-served (table_in ws) h (served ws d hd b hb h below e) x _ refl)

          -- the record's own place, unless it is unforced
          whole : (y : Hart) (u : Table) → y ≡ claim_hart h x (table_in ws) → u ≡ claim_table h x.threshold (table_in ws) → with_hart h y u ≡ claimed h (table_in ws)
          whole y u hy hu =
              claimed_by_lem (table_in ws) u h y (hy ∙ ap (λ (z : Hart). claim_hart h z (table_in ws)) own) (hu ∙ ap (λ (z : Hart). claim_table h z.threshold (table_in ws)) own)

          pub claim-none : (y : Hart) (out : List ℕ) → v ≡ 0 → 87 ≤ length ws → length mid ≡ length ws → y ≡ unforced x → out ≡ set mid (71 + h) (kept_of y) → table_in out ≡ claimed h (table_in ws)
          unfolding unforced
          claim-none y out n long same hy ho =
              ap table_in ho ∙ hart-put mid h y (omega (arith, long, same)) below (rw hy low) ∙ whole y (table_in mid) (nothing-hart (table_in ws) h (served ws d hd b hb h below e) x v top-is n y hy) hm

          pub claim-took : (v ≡ 0 → ⊥) → table_in mid ≡ claimed h (table_in ws)
          claim-took n =
              sym (with_own (table_in mid) h)
              ∙ whole ((table_in mid).hart h) (table_in mid) (ap (λ (t : Table). t.hart h) hm ∙ claim-harts (table_in ws) h x.threshold ∙ sym own ∙ taken-hart (table_in ws) h (served ws d hd b hb h below e) x v top-is n) hm

        -- the signal
        module _ (ie : Bool) (hi : ie ≡ enable_in ws) where
          on-there : ie && x.delivery ≡ (table_in ws).enable && x.delivery
          on-there = ap (λ (z : Bool). z && x.delivery) (hi ∙ enable-there ws)

          module _ (e : b && (ie && x.delivery) ≡ true) where
            both : (b ≡ true) × ((table_in ws).enable && x.delivery ≡ true)
            both = let p = and_true _ _ e in (p.0, sym on-there ∙ p.1)

            pub signal_forced : x.force ≡ true → true ≡ signalled h (table_in ws)
            signal_forced f = table_forced (table_in ws) h (served ws d hd b hb h below both.0) x own both.1 f

            pub signal-top : (v : ℕ) → x.force ≡ false → v ≡ top_at h x.threshold (table_in ws) → not (eqb v 0) ≡ signalled h (table_in ws)
            signal-top v f q = table-top (table_in ws) h (served ws d hd b hb h below both.0) x own both.1 v f q

          pub signal-off : b && (ie && x.delivery) ≡ false → false ≡ signalled h (table_in ws)
          signal-off e = go b refl e
            where
              go : (z : Bool) → b ≡ z → z && (ie && x.delivery) ≡ false → false ≡ signalled h (table_in ws)
              go true p q = table-off (table_in ws) h (served ws d hd b hb h below p) x own (sym on-there ∙ q)
              go false p q = unserved-signal (table_in ws) h (unserved ws d hd b hb h below p)

pub ruleset hart_reads = (not-true, not-false, hart-silent, hart-delivery, hart-force, hart-threshold, hart-top)

pub ruleset takes = (take-silent, take_ignored, take-value, take_none, take-goes)

pub ruleset claim_values = (claim-silent, claim_value_lem)

pub ruleset claim_tables = (claim_ignored, claim-none, claim-took)

pub ruleset signals = (signal_forced, signal-top, signal-off)
