-- A page-table entry and its step, by the tests that the code makes. Assumes nothing.
use Rattle.std.specs.Prelude.{Err, None, Ok, Some}
use Prim.Native.Nat.{ℕ, ◌+◌, ◌*◌, ◌/◌, ◌%◌, ◌^◌, ◌<◌, ◌≤◌}
use mathlib.Core.Bool.{Bool, true, false, not, ◌&&◌}
use mathlib.Core.Path.{◌≡◌, refl, sym, ap, ◌∙◌}
use native.Mathlib.Omega.{arith}
use native.Mathlib.Nat.{mod-lt}
use lib.Dec.{eqb}
use lib.Pow.{pow_mono, pow-add, pow_pos}
use lib.Arith.{mod-mul}
use borrow.Author.Tests.{lt-ltb, le-ltb, eq-eqb, ne_eqb}
use Rattle.memory.specs.Choice.{pick}
use Rattle.memory.specs.Bits.{bits, bit}
use Rattle.memory.specs.Load.{Load}
use Rattle.causes.specs.Causes.{fault_at}
use Rattle.causes.specs.declared.Access.{Access}
use Rattle.causes.specs.declared.Access.TheVariants.{Read, Write, Execute}
use Rattle.causes.specs.declared.Stage.{Stage}
use Rattle.causes.specs.declared.FaultInfo.{FaultInfo}
use Rattle.paging_entry.specs.declared.Purpose.{Purpose}
use Rattle.paging_entry.specs.declared.Pages.{Pages}
use Rattle.paging_entry.specs.declared.Pages.TheVariants.{User, Supervisor, Any}
use Rattle.paging_entry.specs.declared.LeafTest.{LeafTest}
use Rattle.paging_entry.specs.Purpose.{Step}
use Rattle.std.specs.declared.ops.ControlFlow.TheVariants.{Break}
use Rattle.paging_entry.specs.declared.Raw.{Raw}
use Rattle.paging_entry.specs.declared.Raw.TheVariants.{Arrive, Unread}
use Rattle.paging_entry.specs.Purpose.{page_fault_of, access_fault_of}
use Rattle.causes.specs.Causes.{is_execute}
use Rattle.paging_entry.specs.Code.{sound_bits, table_bits, access_bits, owner_mask, owner_want, test_of, leaf_bits, raw_load, to_step, faulty_end, told_by}
use Rattle.paging_entry.specs.Entry.{entry_page, pages_for}

-- what a purpose's faults are
pub page_fault-is : (p r : Purpose) (x : Access) (f : FaultInfo) → p ≡ r → f ≡ page_fault_of r x → f ≡ page_fault_of p x
page_fault-is p r x f e h = h ∙ sym (ap (λ (y : Purpose). page_fault_of y x) e)

pub access_fault-is : (p r : Purpose) (x : Access) (f : FaultInfo) → p ≡ r → f ≡ access_fault_of r x → f ≡ access_fault_of p x
access_fault-is p r x f e h = h ∙ sym (ap (λ (y : Purpose). access_fault_of y x) e)

pub fault_with : (s : Stage) (c d : ℕ) → c ≡ d → fault_at s c ≡ fault_at s d
fault_with s c d e = ap (fault_at s) e

pub fault-by : (s : Stage) (c d : ℕ) (f : FaultInfo) → f ≡ fault_at s c → c ≡ d → f ≡ fault_at s d
fault-by s c d f h e = h ∙ ap (fault_at s) e

pub ruleset fault_ways = (page_fault-is, access_fault-is, fault_with, fault-by)

-- a loaded entry, by the tests that the code makes
pub raw_violates : (t : LeafTest) (a n : ℕ) (v : Load) → v ≡ None → Unread ≡ raw_load t a n v
unfolding raw_load
raw_violates t a n v e = sym (ap (raw_load t a n) e)

-- a page of level n is aligned by its number, or by its address
page-aligned : (page n : ℕ) → page * 4096 % 2 ^ (12 + 9 * n) ≡ page % 2 ^ (9 * n) * 4096
page-aligned page n =
    let e : 2 ^ (12 + 9 * n) ≡ 2 ^ (9 * n) * 4096 = ap (λ (k : ℕ). 2 ^ k) (omega arith) ∙ pow-add 2 (9 * n) 12 in
    let d : page * 4096 / 4096 ≡ page = omega arith in
    let r : page * 4096 % 4096 ≡ 0 = omega arith in
    ap (λ (k : ℕ). page * 4096 % k) e ∙ mod-mul (page * 4096) {m = 2 ^ (9 * n)} {c = 4096} (pow_pos (9 * n)) (omega arith)
    ∙ ap (λ (k : ℕ). k % 2 ^ (9 * n) * 4096 + page * 4096 % 4096) d
    ∙ omega (arith, r)

module _ (t : LeafTest) (a n e page : ℕ) (v : Load) (hv : v ≡ Some e) (hp : page ≡ entry_page e) (b : Bool) (hb : b ≡ table_bits e) where
  pub raw_points : b ≡ true → Raw.Next page ≡ raw_load t a n v
  unfolding raw_load
  raw_points y = ap Raw.Next hp ∙ simp (hv, ← hb, y)

  module _ (o : b ≡ false) (f : Bool) (hf : f ≡ leaf_bits e t) where
    pub raw_refuses : f ≡ false → Raw.Faulty ≡ raw_load t a n v
    unfolding raw_load
    raw_refuses y = simp (hv, ← hb, o, ← hf, y)

    module _ (y : f ≡ true) (size shift : ℕ) (hs : size ≡ 2 ^ shift) (hn : shift ≡ 12 + 9 * n) where
      span : size ≡ 2 ^ (12 + 9 * n)
      span = hs ∙ ap (λ (k : ℕ). 2 ^ k) hn

      aligned-is : page * 4096 % size ≡ entry_page e % 2 ^ (9 * n) * 4096
      aligned-is = ap (λ (k : ℕ). page * 4096 % k) span ∙ page-aligned page n ∙ ap (λ (k : ℕ). k % 2 ^ (9 * n) * 4096) hp

      pub raw-misaligned : (page * 4096 % size ≡ 0 → ⊥) → Raw.Faulty ≡ raw_load t a n v
      unfolding raw_load
      raw-misaligned r = simp (hv, ← hb, o, ← hf, y, ne_eqb (entry_page e % 2 ^ (9 * n)) 0 (λ z. r (aligned-is ∙ omega (arith, z))))

      pub raw-arrives : page * 4096 % size ≡ 0 → Arrive (page * 4096 + a % size) ≡ raw_load t a n v
      unfolding raw_load
      raw-arrives r =
          ap (λ (k : ℕ). Arrive (page * 4096 + a % k)) span
          ∙ ap (λ (k : ℕ). Arrive (k * 4096 + a % 2 ^ (12 + 9 * n))) hp
          ∙ simp (hv, ← hb, o, ← hf, y, eq-eqb (entry_page e % 2 ^ (9 * n)) 0 (omega (arith, aligned-is, r)))

-- its bounds
module _ (e page : ℕ) (hp : page ≡ entry_page e) where
  pub page_tight : page < 2 ^ 44
  page_tight = omega arith

  pub page_fits : page * 4096 < 2 ^ 64
  page_fits = omega arith

  module _ (a n size shift : ℕ) (h : n < 5) (hs : size ≡ 2 ^ shift) (hn : shift ≡ 12 + 9 * n) (p : 0 < size) where
    pub arrive_tight : page * 4096 + a % size < 2 ^ 57
    arrive_tight =
        let k : size ≤ 2 ^ 48 = omega (arith, hs, pow_mono {i = shift} {j = 48} (omega (arith, hn))) in
        let r : a % size < 2 ^ 48 = omega (arith, mod-lt a p, k) in
        let q : page * 4096 < 2 ^ 56 = omega arith in
        omega (arith, q, r)

    pub arrive_fits : page * 4096 + a % size < 2 ^ 64
    arrive_fits = omega (arith, arrive_tight)

pub shift_small : (n shift : ℕ) → n < 5 → shift ≡ 12 + 9 * n → shift < 64
shift_small n shift h e = omega arith

pub ruleset entry_ways = (raw_violates, raw_points, raw_refuses, raw-misaligned, raw-arrives, page_tight, page_fits, arrive_tight, arrive_fits, shift_small)

pub stepped-is : (p : Purpose) (x : Access) (r k : Raw) (t : Step) → r ≡ k → t ≡ to_step p x k → t ≡ to_step p x r
stepped-is p x r k t e h = h ∙ sym (ap (to_step p x) e)

abbrev stop : FaultInfo → Step
stop f = Break (Err f)

pub page-stop : (p : Purpose) (x : Access) (f : FaultInfo) → f ≡ page_fault_of p x → stop f ≡ stop (page_fault_of p x)
page-stop p x f e = ap stop e

pub access-stop : (p : Purpose) (x : Access) (f : FaultInfo) → f ≡ access_fault_of p x → stop f ≡ stop (access_fault_of p x)
access-stop p x f e = ap stop e

pub ruleset step_ways = (stepped-is, page-stop, access-stop)

-- a walk's end, by its number
module _ (p : Purpose) (x : Access) (r : ℕ) where
  pub told-address : r < faulty_end → Ok r ≡ told_by p x r
  told-address h = simp (lt-ltb r faulty_end h)

  pub told_faulty : (f : FaultInfo) → faulty_end ≤ r → r ≡ faulty_end → f ≡ page_fault_of p x → Err f ≡ told_by p x r
  told_faulty f h z e = simp (e, le-ltb r faulty_end h, eq-eqb r faulty_end z)

  pub told-unread : (f : FaultInfo) → faulty_end ≤ r → (r ≡ faulty_end → ⊥) → f ≡ access_fault_of p x → Err f ≡ told_by p x r
  told-unread f h z e = simp (e, le-ltb r faulty_end h, ne_eqb r faulty_end z)

pub ruleset told_ways = (told-address, told_faulty, told-unread)

-- the pages for a request, by the tests that the code makes
pages-table : (v s : Bool) (x : Access) → pick v (pick (s && not (is_execute x)) Any Supervisor) User ≡ pages_for v s x
pages-table false s x = refl
pages-table true false x = refl
pages-table true true Read = refl
pages-table true true Write = refl
pages-table true true Execute = refl

module _ (v s f : Bool) (x : Access) (hf : f ≡ is_execute x) (t : v ≡ true) where
  supervised : {b : Bool} → (s && not f) ≡ b → pick b Any Supervisor ≡ pages_for v s x
  supervised h =
      ap (λ (b : Bool). pick b Any Supervisor) (sym h ∙ ap (λ (g : Bool). s && not g) hf)
      ∙ ap (λ (b : Bool). pick b (pick (s && not (is_execute x)) Any Supervisor) User) (sym t)
      ∙ pages-table v s x

  pub pages-any : (s && not f) ≡ true → Any ≡ pages_for v s x
  pages-any h = supervised h

  pub pages-own : (s && not f) ≡ false → Supervisor ≡ pages_for v s x
  pages-own h = supervised h

pub pages_user : (v s : Bool) (x : Access) → v ≡ false → User ≡ pages_for v s x
pages_user v s x t = sym (ap (λ (k : Bool). pages_for k s x) t)

pub ruleset pages_ways = (pages-any, pages-own, pages_user)

-- the joined tests
pub sound-is : (e f : ℕ) (v : Bool) → v ≡ bit e 0 → f ≡ bits e 63 54 → (v && eqb f 0) ≡ sound_bits e
sound-is e f v h k = simp (h, k)

pub test_is : (x : Access) (pages : Pages) (n m w : ℕ) → n ≡ access_bits x → m ≡ owner_mask pages → w ≡ owner_want pages
    → ◌≡◌ {A = LeafTest} (record { mask = 0xFFC0000000000041 + n + m; want = 0x41 + n + w }) (test_of x pages)
test_is x pages n m w hn hm hw = rw (hn, hm, hw)

pub table_is : (e : ℕ) (s r w x u a d : Bool) → s ≡ sound_bits e → r ≡ bit e 1 → w ≡ bit e 2 → x ≡ bit e 3 → u ≡ bit e 4 → a ≡ bit e 6 → d ≡ bit e 7
    → (s && not r && not w && not x && not u && not a && not d) ≡ table_bits e
unfolding table_bits
table_is e s r w x u a d hs hr hw hx hu ha hd = simp (hs, hr, hw, hx, hu, ha, hd)

pub ruleset bit_ways = (sound-is, test_is, table_is)
