-- Tables of words and targets, wherever these are kept: what a change of the words makes of the table. Assumes nothing.
use mathlib.Core.Path.{◌≡◌, refl, sym, ap, ◌∙◌, fun_ext}
use mathlib.Core.Bool.{Bool, true, false, not, ◌&&◌}
use Prim.Native.Nat.{ℕ, ◌<◌, ◌≤◌}
use native.Mathlib.Omega.{arith}
use borrow.Author.Tests.{eqb-true, lt-ltb, le-ltb}
use lib.Dec.{eqb, ltb}
use Rattle.memory.specs.Choice.{pick}
use Rattle.memory.proofs.Choices.{yes-is, no-is}
use Rattle.word.specs.Word.{contains, is_source, half, chosen, only}
use Rattle.word.proofs.Bits.{within, is_source_lem, lowest_ext, lowest-from, half_ext}
use Rattle.register.specs.declared.BitRegister.{BitRegister}
use Rattle.register.specs.declared.BitRegister.TheVariants.{SetIp, SetIpNum, InClrIp, ClrIpNum, SetIe, SetIeNum, ClrIe, ClrIeNum}
use Rattle.register.specs.declared.Register.{Register}
use Rattle.register.specs.Register.{register_of, idc_of}
use Rattle.hart.specs.declared.Hart.{Hart}
use Rattle.source.specs.declared.Delivery.{Delivery}
use Rattle.source.specs.declared.Delivery.TheVariants.{Direct, Message}
use Rattle.source.specs.declared.Mode.{Mode}
use Rattle.source.specs.declared.Mode.TheVariants.{Inactive, Detached, Edge1, Edge0, Level1, Level0}
use Rattle.source.specs.declared.Source.{Source}
use Rattle.source.specs.Source.{direct_of, clrip, delivered, new_pending, input_of, sensed, raised, lowered, handed, allowed, aimed}
use Rattle.source.specs.Table.{Table, quiet, act}
use Rattle.sources.specs.declared.Sources.{Sources}
use Rattle.sources.specs.Sources.{source_of, Common, table_with, Acts, Inputs, lined, first_waiting}
use Rattle.aplic_calls.specs.declared.Msi.{Msi}
use Rattle.std.specs.Prelude.{Some, None, Result, Err}
use Rattle.refusal.specs.declared.Refusal.{Refusal}
use Rattle.hart.specs.Hart.{in_domain}
use Rattle.hart.proofs.Refusals.{has-not}
use Rattle.aplic_calls.specs.Direct.{write_idc, read_idc, claimed_by}
use Rattle.aplic_calls.specs.Calls.{concerned, change, write_register, write_table, read_bits, read_register, read_table, after_read, waiting, top_of, forwards, sends, forward_table, sent_of, msi_of, wire_table, wire_refusal}
use Rattle.aplic_calls.specs.Code.{Shows}

pub same-table : (d e : Delivery) (x y : Bool) (f g : ℕ → Source) (u v : ℕ → Hart) → d ≡ e → x ≡ y → u ≡ v → ((i : ℕ) → f i ≡ g i)
    → ◌≡◌ {A = Table} (record { delivery = d; enable = x; row = f; hart = u }) (record { delivery = e; enable = y; row = g; hart = v })
same-table d e x y f g u v p q k r = let h : f ≡ g = fun_ext r in rw (p, q, k, h)

-- ---- sources chosen in two ways
pub acts_ext : (sel sel' : ℕ → Bool) (f : Source → Source) (s r : Sources) → ((i : ℕ) → is_source i ≡ true → sel i ≡ sel' i) → Acts sel f s r → Acts sel' f s r
unfolding Acts
acts_ext sel sel' f s r h a i t p q = a i t p q ∙ ap (λ (b : Bool). pick b (f (source_of s i t)) (source_of s i t)) (h i (is_source_lem i p q))

-- ---- the arms of a write to a register of bits
module _ (s r : Sources) (d : Delivery) (v mask : ℕ) (b : BitRegister) where
  arm : (sel : ℕ → Bool) (f : Source → Source) → ((i : ℕ) → is_source i ≡ true → contains mask i ≡ sel i) → sel ≡ concerned b v → f ≡ change d b → Acts (contains mask) f s r → Acts (concerned b v) (change d b) s r
  arm sel f h p q a = rw (sym p, sym q) (acts_ext (contains mask) sel f s r h a)

  module _ (high : Bool) (h : (i : ℕ) → is_source i ≡ true → contains mask i ≡ chosen high v i) where
    pub arm-setip : b ≡ SetIp high → Acts (contains mask) (raised d) s r → Acts (concerned b v) (change d b) s r
    unfolding concerned change
    arm-setip e a = arm (chosen high v) (raised d) h (ap (λ (x : BitRegister). concerned x v) (sym e)) (ap (change d) (sym e)) a

    pub arm-clrip : b ≡ InClrIp high → Acts (contains mask) (lowered d) s r → Acts (concerned b v) (change d b) s r
    unfolding concerned change
    arm-clrip e a = arm (chosen high v) (lowered d) h (ap (λ (x : BitRegister). concerned x v) (sym e)) (ap (change d) (sym e)) a

    pub arm_setie : b ≡ SetIe high → Acts (contains mask) (allowed true) s r → Acts (concerned b v) (change d b) s r
    unfolding concerned change
    arm_setie e a = arm (chosen high v) (allowed true) h (ap (λ (x : BitRegister). concerned x v) (sym e)) (ap (change d) (sym e)) a

    pub arm_clrie : b ≡ ClrIe high → Acts (contains mask) (allowed false) s r → Acts (concerned b v) (change d b) s r
    unfolding concerned change
    arm_clrie e a = arm (chosen high v) (allowed false) h (ap (λ (x : BitRegister). concerned x v) (sym e)) (ap (change d) (sym e)) a

  module _ (h : (i : ℕ) → is_source i ≡ true → contains mask i ≡ only v i) where
    pub arm_setipnum : b ≡ SetIpNum → Acts (contains mask) (raised d) s r → Acts (concerned b v) (change d b) s r
    unfolding concerned change
    arm_setipnum e a = arm (only v) (raised d) h (ap (λ (x : BitRegister). concerned x v) (sym e)) (ap (change d) (sym e)) a

    pub arm_clripnum : b ≡ ClrIpNum → Acts (contains mask) (lowered d) s r → Acts (concerned b v) (change d b) s r
    unfolding concerned change
    arm_clripnum e a = arm (only v) (lowered d) h (ap (λ (x : BitRegister). concerned x v) (sym e)) (ap (change d) (sym e)) a

    pub arm_setienum : b ≡ SetIeNum → Acts (contains mask) (allowed true) s r → Acts (concerned b v) (change d b) s r
    unfolding concerned change
    arm_setienum e a = arm (only v) (allowed true) h (ap (λ (x : BitRegister). concerned x v) (sym e)) (ap (change d) (sym e)) a

    pub arm_clrienum : b ≡ ClrIeNum → Acts (contains mask) (allowed false) s r → Acts (concerned b v) (change d b) s r
    unfolding concerned change
    arm_clrienum e a = arm (only v) (allowed false) h (ap (λ (x : BitRegister). concerned x v) (sym e)) (ap (change d) (sym e)) a

pub ruleset bit_arms = (arm-setip, arm-clrip, arm_setie, arm_clrie, arm_setipnum, arm_clripnum, arm_setienum, arm_clrienum)

-- ---- what a register of bits shows
field_row : (s : Sources) (co : Common) (targets : ℕ → ℕ) (p : Source → Bool) (i : ℕ) → p quiet ≡ false → is_source i && p (source_of s i (targets i)) ≡ p ((table_with co s targets).row i)
unfolding table_with
field_row s co targets p i z = go (is_source i)
  where
    go : (b : Bool) → b && p (source_of s i (targets i)) ≡ p (pick b (source_of s i (targets i)) quiet)
    go true = refl
    go false = sym z

module _ (s : Sources) (b : BitRegister) (x : ℕ) where
  shown : (c : BitRegister) → b ≡ c → Shows c s x → Shows b s x
  shown c e h = rw e h

  module _ (high : Bool) where
    pub show-pending : b ≡ SetIp high → x ≡ half high (λ i. is_source i && contains s.pending i) → Shows b s x
    unfolding Shows read_bits source_of
    show-pending e h = shown (SetIp high) e (λ co targets. h ∙ half_ext high _ _ (λ i. row co targets i))
      where
        row : (co : Common) (targets : ℕ → ℕ) (i : ℕ) → is_source i && contains s.pending i ≡ ((table_with co s targets).row i).pending
        row co targets i = field_row s co targets (λ y. y.pending) i refl

    pub show-enable : b ≡ SetIe high → x ≡ half high (λ i. is_source i && contains s.enable i) → Shows b s x
    unfolding Shows read_bits source_of
    show-enable e h = shown (SetIe high) e (λ co targets. h ∙ half_ext high _ _ (λ i. row co targets i))
      where
        row : (co : Common) (targets : ℕ → ℕ) (i : ℕ) → is_source i && contains s.enable i ≡ ((table_with co s targets).row i).enable
        row co targets i = field_row s co targets (λ y. y.enable) i refl

    pub show-inputs : (w : ℕ) → Inputs s w → b ≡ InClrIp high → x ≡ half high (λ i. is_source i && contains w i) → Shows b s x
    unfolding Shows read_bits Inputs
    show-inputs w k e h =
        shown (InClrIp high) e (λ co targets. h ∙ half_ext high _ _ (λ i. ap (λ (c : Bool). is_source i && c) (k i (targets i)) ∙ field_row s co targets input_of i refl))

  pub show_setipnum : b ≡ SetIpNum → x ≡ 0 → Shows b s x
  unfolding Shows read_bits
  show_setipnum e h = shown SetIpNum e (λ co targets. h)

  pub show_clripnum : b ≡ ClrIpNum → x ≡ 0 → Shows b s x
  unfolding Shows read_bits
  show_clripnum e h = shown ClrIpNum e (λ co targets. h)

  pub show_setienum : b ≡ SetIeNum → x ≡ 0 → Shows b s x
  unfolding Shows read_bits
  show_setienum e h = shown SetIeNum e (λ co targets. h)

  pub show_clrie : (high : Bool) → b ≡ ClrIe high → x ≡ 0 → Shows b s x
  unfolding Shows read_bits
  show_clrie high e h = shown (ClrIe high) e (λ co targets. h)

  pub show_clrienum : b ≡ ClrIeNum → x ≡ 0 → Shows b s x
  unfolding Shows read_bits
  show_clrienum e h = shown ClrIeNum e (λ co targets. h)

pub ruleset shows = (show-pending, show-enable, show-inputs, show_setipnum, show_clripnum, show_setienum, show_clrie, show_clrienum)

-- ---- a table's rows
module _ (co : Common) (s r : Sources) (targets : ℕ → ℕ) where
  pub row_at : (n : ℕ) → 0 < n → n < 64 → source_of s n (targets n) ≡ (table_with co s targets).row n
  unfolding table_with
  row_at n a b = rw (is_source_lem n a b)

  pub acts-table : (sel : ℕ → Bool) (f : Source → Source) → Acts sel f s r → table_with co r targets ≡ act sel f (table_with co s targets)
  unfolding table_with Acts
  acts-table sel f a = same-table _ _ _ _ _ _ _ _ refl refl refl (λ i. go i (is_source i) refl)
    where
      go : (i : ℕ) (b : Bool) → is_source i ≡ b
          → pick b (source_of r i (targets i)) quiet ≡ pick (b && sel i) (f (pick b (source_of s i (targets i)) quiet)) (pick b (source_of s i (targets i)) quiet)
      go i true k = let w = within i k in a i (targets i) w.0 w.1
      go i false k = refl

  -- one source is changed, its target too
  module _ (targets' : ℕ → ℕ) (n : ℕ) (f : Source → Source) (x : Source) (hx : x ≡ f (source_of s n (targets n))) (ht : (i : ℕ) → targets' i ≡ pick (eqb i n) x.target (targets i)) where
    one_table : ((i : ℕ) → 0 < i → i < 64 → source_of r i (targets' i) ≡ pick (eqb i n) x (source_of s i (targets i))) → table_with co r targets' ≡ act (only n) f (table_with co s targets)
    unfolding table_with only
    one_table h = same-table _ _ _ _ _ _ _ _ refl refl refl (λ i. go i (is_source i) refl)
      where
        at : (i : ℕ) (c : Bool) → eqb i n ≡ c → pick c x (source_of s i (targets i)) ≡ pick c (f (source_of s i (targets i))) (source_of s i (targets i))
        at i true e = hx ∙ ap (λ (j : ℕ). f (source_of s j (targets j))) (sym (eqb-true i n e))
        at i false e = refl

        go : (i : ℕ) (b : Bool) → is_source i ≡ b
            → pick b (source_of r i (targets' i)) quiet ≡ pick (b && eqb i n) (f (pick b (source_of s i (targets i)) quiet)) (pick b (source_of s i (targets i)) quiet)
        go i true k = let w = within i k in h i w.0 w.1 ∙ at i (eqb i n) refl
        go i false k = refl

    pub configured-table : Acts (only n) (lined x) s r → table_with co r targets' ≡ act (only n) f (table_with co s targets)
    unfolding Acts only source_of
    configured-table a = one_table (λ i p q. a i (targets' i) p q ∙ rw (ht i) (go i (eqb i n)))
      where
        go : (i : ℕ) (c : Bool)
            → pick c (lined x (source_of s i (pick c x.target (targets i)))) (source_of s i (pick c x.target (targets i))) ≡ pick c x (source_of s i (targets i))
        go i true = refl
        go i false = refl

-- one source's target alone is changed
pub aimed-table : (co : Common) (s : Sources) (targets targets' : ℕ → ℕ) (n v : ℕ) (x : Source) → x ≡ aimed co.delivery v (source_of s n (targets n)) → ((i : ℕ) → targets' i ≡ pick (eqb i n) x.target (targets i))
    → table_with co s targets' ≡ act (only n) (aimed co.delivery v) (table_with co s targets)
unfolding source_of aimed
aimed-table co s targets targets' n v x hx ht = one_table co s s targets targets' n (aimed co.delivery v) x hx ht (λ i p q. rw (ht i) (go i (eqb i n) refl))
  where
    go : (i : ℕ) (c : Bool) → eqb i n ≡ c → source_of s i (pick c x.target (targets i)) ≡ pick c x (source_of s i (targets i))
    go i true e = rw (eqb-true i n e, hx)
    go i false e = refl

-- ---- by the register that an offset names
module _ (o v : ℕ) (g : Register) (p : g ≡ register_of o) where
  pub written : (h : Register) (t x : Table) → g ≡ h → x ≡ write_register h v t → x ≡ write_register (register_of o) v t
  written h t x q e = e ∙ ap (λ (k : Register). write_register k v t) (sym q ∙ p)

  pub told : (h : Register) (t : Table) → g ≡ h → v ≡ read_register h t → v ≡ read_register (register_of o) t
  told h t q e = e ∙ ap (λ (k : Register). read_register k t) (sym q ∙ p)

-- below 0x4000, and from there on
module _ (o : ℕ) (t : Table) where
  module _ (l : o < 0x4000) where
    pub low-written : (v : ℕ) (x : Table) → x ≡ write_register (register_of o) v t → x ≡ write_table o v t
    unfolding write_table
    low-written v x e = yes-is _ _ _ _ (lt-ltb o 0x4000 l) e

    pub low_told : (v : ℕ) → v ≡ read_register (register_of o) t → v ≡ read_table o t
    unfolding read_table
    low_told v e = yes-is _ _ _ _ (lt-ltb o 0x4000 l) e

    pub low-left : t ≡ after_read o t
    unfolding after_read claimed_by idc_of
    low-left = rw (lt-ltb o 0x4000 l)

  module _ (l : 0x4000 ≤ o) where
    pub high-written : (v : ℕ) (x : Table) → x ≡ write_idc (idc_of o) v t → x ≡ write_table o v t
    unfolding write_table
    high-written v x e = no-is _ _ _ _ (le-ltb o 0x4000 l) e

    pub high-told : (v : ℕ) → v ≡ read_idc (idc_of o) t → v ≡ read_table o t
    unfolding read_table
    high-told v e = no-is _ _ _ _ (le-ltb o 0x4000 l) e

    pub high-left : (x : Table) → x ≡ claimed_by (idc_of o) t → x ≡ after_read o t
    unfolding after_read
    high-left x e = e

pub ruleset spans = (low-written, low_told, low-left, high-written, high-told, high-left)

-- what is no source's is left alone
pub outside : (n : ℕ) (f : Source → Source) (t : Table) → is_source n ≡ false → t ≡ act (only n) f t
unfolding only
outside n f t h = same-table _ _ _ _ _ _ _ _ refl refl refl (λ i. go i (eqb i n) refl)
  where
    go : (i : ℕ) (c : Bool) → eqb i n ≡ c → t.row i ≡ pick (is_source i && c) (f (t.row i)) (t.row i)
    go i true e = rw (eqb-true i n e, h)
    go i false e = both (is_source i)
      where
        both : (b : Bool) → t.row i ≡ pick (b && false) (f (t.row i)) (t.row i)
        both true = refl
        both false = refl

-- a wire
module _ (co : Common) (s : Sources) (targets : ℕ → ℕ) (n : ℕ) (level : Bool) where
  pub wired-table : (mask : ℕ) (r : Sources) → ((i : ℕ) → is_source i ≡ true → contains mask i ≡ only n i) → Acts (contains mask) (sensed co.delivery level) s r → table_with co r targets ≡ wire_table n level (table_with co s targets)
  unfolding wire_table table_with
  wired-table mask r h a = acts-table co s r targets (only n) (sensed co.delivery level) (acts_ext (contains mask) (only n) (sensed co.delivery level) s r h a)

refused-outside : (n r : ℕ) → r ≡ wire_refusal n → (r ≡ 0 → ⊥) → is_source n ≡ false
unfolding wire_refusal
refused-outside n r e z = go (is_source n) e
  where
    go : (b : Bool) → r ≡ pick b 0 2014 → b ≡ false
    go true p = absurd (z p)
    go false p = refl

pub unwired_table : (t : Table) (n r : ℕ) (level : Bool) → r ≡ wire_refusal n → (r ≡ 0 → ⊥) → t ≡ wire_table n level t
unfolding wire_table
unwired_table t n r level e z = outside n (sensed t.delivery level) t (refused-outside n r e z)

pub unwired-err : (t : Table) (n : ℕ) (level : Bool) (r : Result Unit Refusal) (e : Refusal) → r ≡ in_domain (is_source n) tt → r ≡ Err e → t ≡ wire_table n level t
unfolding wire_table
unwired-err t n level r e h k = outside n (sensed t.delivery level) t (has-not (is_source n) tt r e h k)

-- a forward with nothing to send
pub kept_table : (t : Table) → sends t ≡ false → t ≡ forward_table t
unfolding forward_table
kept_table t e = no-is _ _ _ _ e refl

pub kept-sent : (t : Table) → sends t ≡ false → None ≡ sent_of t
unfolding sent_of
kept-sent t e = no-is _ _ _ _ e refl

-- a forward, and a claim, clears as a write of in_clrip does
pub handed-is : (d : Delivery) → lowered d ≡ handed d
unfolding lowered handed
handed-is d = fun_ext (λ s. ap (λ (p : Bool). record { mode = s.mode; wire = s.wire; pending = p; enable = s.enable; target = s.target }) (go s.mode s.pending))
  where
    level : (e : Delivery) (p : Bool) → new_pending e Level1 clrip p ≡ new_pending e Level1 delivered p
    level Direct p = refl
    level Message p = refl

    go : (m : Mode) (p : Bool) → new_pending d m clrip p ≡ new_pending d m delivered p
    go Inactive p = refl
    go Detached p = refl
    go Edge1 p = refl
    go Edge0 p = refl
    go Level1 p = level d p
    go Level0 p = level d p

module _ (co : Common) (s : Sources) (targets : ℕ → ℕ) where
  pub top-is : first_waiting s ≡ top_of (table_with co s targets)
  unfolding top_of first_waiting source_of
  top-is = lowest_ext 63 1 _ (waiting (table_with co s targets)) (λ i a b. ap (λ (x : Source). x.pending && x.enable) (row_at co s s targets i (omega arith) (omega arith)))

  -- by what the code tests: the domain's enable, and not direct delivery
  module _ (b : Bool) (hb : b ≡ direct_of co.delivery) where
    test_is : co.enable && not b ≡ co.enable && forwards co.delivery
    test_is = ap (λ (x : Bool). co.enable && x) (ap not hb ∙ go co.delivery)
      where
        go : (d : Delivery) → not (direct_of d) ≡ forwards d
        go Direct = refl
        go Message = refl

    pub none-sent : co.enable && not b ≡ false → sends (table_with co s targets) ≡ false
    unfolding sends table_with
    none-sent e = off _ _ (sym test_is ∙ e)
      where
        off : (x y : Bool) → x ≡ false → x && y ≡ false
        off x y p = rw p

  module _ (n : ℕ) (hn : n ≡ first_waiting s) where
    first-from : 0 < n
    unfolding first_waiting
    first-from = omega (arith, hn, lowest-from 63 1 (λ i. contains s.pending i && contains s.enable i))

    pub none-waits : 64 ≤ n → sends (table_with co s targets) ≡ false
    unfolding sends
    none-waits l = off
      where
        none : (a b : Bool) → b ≡ false → a && b ≡ false
        none true b e = e
        none false b e = refl

        off : ((table_with co s targets).enable && forwards (table_with co s targets).delivery) && ltb (top_of (table_with co s targets)) 64 ≡ false
        off = none ((table_with co s targets).enable && forwards (table_with co s targets).delivery) (ltb (top_of (table_with co s targets)) 64) (le-ltb (top_of (table_with co s targets)) 64 (omega (arith, hn, top-is)))

    module _ (b : Bool) (hb : b ≡ direct_of co.delivery) (e : co.enable && not b ≡ true) (l : n < 64) where
      sending : sends (table_with co s targets) ≡ true
      unfolding sends table_with
      sending = both _ _ (sym (test_is b hb) ∙ e) (lt-ltb (top_of (table_with co s targets)) 64 (omega (arith, hn, top-is)))
        where
          both : (x y : Bool) → x ≡ true → y ≡ true → x && y ≡ true
          both x y p q = rw (p, q)

      pub forwarded_table : (mask : ℕ) (r : Sources) → ((i : ℕ) → is_source i ≡ true → contains mask i ≡ only n i) → Acts (contains mask) (lowered co.delivery) s r → table_with co r targets ≡ forward_table (table_with co s targets)
      unfolding forward_table table_with
      forwarded_table mask r h a =
          yes-is _ _ _ _ sending
          (acts-table co s r targets (only n) (lowered co.delivery) (acts_ext (contains mask) (only n) (lowered co.delivery) s r h a)
          ∙ ap (λ (f : Source → Source). act (only n) f (table_with co s targets)) (handed-is co.delivery)
          ∙ ap (λ (k : ℕ). act (only k) (handed co.delivery) (table_with co s targets)) (hn ∙ top-is))

      pub forwarded_sent : (m : Msi) → m ≡ msi_of (targets n) → Some m ≡ sent_of (table_with co s targets)
      unfolding sent_of source_of
      forwarded_sent m hm =
          yes-is _ _ _ _ sending
          (ap Some (hm ∙ ap (λ (x : Source). msi_of x.target) (row_at co s s targets n first-from l) ∙ ap (λ (k : ℕ). msi_of ((table_with co s targets).row k).target) (hn ∙ top-is)))
