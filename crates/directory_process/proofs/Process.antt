-- The process directory and the first stage that it gives, over plain values. Assumes nothing.
use Rattle.std.specs.Prelude.{Err, None, Ok, Some}
use Prim.Native.Nat.{ℕ, ◌+◌, ◌-◌, ◌*◌}
use mathlib.Core.Bool.{Bool, true, false, ◌&&◌, ◌||◌, not}
use lib.Dec.{leb}
use mathlib.Core.Path.{◌≡◌, refl, sym, ap, ◌∙◌}
use borrow.Author.Tests.{not-true, not-false}
use Rattle.memory.specs.Choice.{pick}
use Rattle.memory.specs.Bits.{bit}
use Rattle.memory.specs.Load.{Load}
use Rattle.memory.specs.Walk.{Walk, done, on_value, run}
use Rattle.memory.proofs.Choices.{yes-by, no-by}
use Rattle.memory.proofs.Walks.{then, loads, at}
use Rattle.causes.specs.Causes.{disallowed}
use Rattle.causes.specs.declared.Access.{Access}
use Rattle.causes.specs.declared.FaultInfo.{FaultInfo}
use Rattle.std.specs.declared.option.Option.{Option}
use Rattle.paging.specs.Table.{StageTable}
use Rattle.paging_entry.specs.Purpose.{Translation}
use Rattle.directory_entry.specs.declared.Tree.TheVariants.{Process}
use Rattle.directory_entry.specs.Entries.{load_fault, invalid, misconfigured, too_wide, context_word}
use Rattle.directory_entry.specs.Fields.{root_mode_of, root_page_of, bare_of, first_table, bare_table}
use Rattle.directory_entry.proofs.Entries.{context-unread, context-invalid, context-valid, found_below}
use Rattle.directory_walk.specs.Pointers.{guest_place, leaf_place}
use Rattle.directory_context.specs.declared.DecodedContext.{DecodedContext}
use Rattle.directory_context.specs.declared.ProcessContext.{ProcessContext}
use Rattle.directory_context.specs.Process.{process_misconfigured}
use Rattle.directory_process.specs.Found.{ProcessId, PageTableInfo, stage_of}
use Rattle.directory_process.specs.Process.{checked_process, process_context_at, on_process_place, process_context_of, process_table, process_too_wide, first_table_of}
use Rattle.directory_process.specs.Code.{wanted_of}

-- by the checks and ENS
module _ (s : Bool) (c : ProcessContext) (q : Bool) (hq : q ≡ process_misconfigured c) where
  abbrev on_passed : PageTableInfo
  on_passed = pick (s && not (bit c.ta 1)) (Err disallowed) (Ok (stage_of (first_table c.fsc) (bit c.ta 2)))

  pub process-wrong : (f : FaultInfo) → q ≡ true → f ≡ misconfigured Process → Err f ≡ checked_process s c
  process-wrong f r h = yes-by (process_misconfigured c) q (Err f) (Err (misconfigured Process)) on_passed hq r (ap Err h)

  module _ (r : q ≡ false) (n : Bool) (hn : n ≡ bit c.ta 1) where
    supervised : {b : Bool} {z : PageTableInfo} → (s && not n) ≡ b → z ≡ pick b (Err disallowed) (Ok (stage_of (first_table c.fsc) (bit c.ta 2))) → z ≡ checked_process s c
    supervised {z = z} t h =
        no-by (process_misconfigured c) q z (Err (misconfigured Process)) on_passed hq r
        (h ∙ ap (λ b. pick b (Err disallowed) (Ok (stage_of (first_table c.fsc) (bit c.ta 2)))) (sym t ∙ ap (λ b. s && not b) hn))

    pub process-refused : (d : FaultInfo) → (s && not n) ≡ true → d ≡ disallowed → Err d ≡ checked_process s c
    process-refused d t h = supervised t (ap Err h)

    pub process-passes : (t : Option StageTable) (v : Bool) → (s && not n) ≡ false → t ≡ first_table c.fsc → v ≡ bit c.ta 2 → Ok (stage_of t v) ≡ checked_process s c
    process-passes t v u h w = supervised u (ap (λ (y : Option StageTable). Ok (stage_of y v)) h ∙ ap (λ (y : Bool). Ok (stage_of (first_table c.fsc) y)) w)

pub ruleset process_checked_ways = (process-wrong, process-refused, process-passes)

-- the ways out of reading a context
module _ (s : Bool) (a ta : ℕ) where
  abbrev last : ℕ → Walk PageTableInfo
  last fsc = done (checked_process s (record { ta = ta; fsc = fsc }))

  abbrev rest : Walk PageTableInfo
  rest = context_word Process Err (a + 8) last

module _ (m : ℕ → Load) (s : Bool) (a : ℕ) (v : Load) (hv : v ≡ m a) where
  pub process-unread : (f : FaultInfo) → v ≡ None → f ≡ load_fault Process → Err f ≡ run m (process_context_at s a)
  unfolding process_context_at
  process-unread f e h = context-unread m Process Err a (rest s a) v hv e (ap Err h)

  module _ (ta : ℕ) (ev : v ≡ Some ta) (b : Bool) (hb : b ≡ bit ta 0) where
    pub process-invalid : (f : FaultInfo) → not b ≡ true → f ≡ invalid Process → Err f ≡ run m (process_context_at s a)
    unfolding process_context_at
    process-invalid f t h = context-invalid m Process Err a (rest s a) v hv ta ev b hb t (ap Err h)

    module _ (t : not b ≡ false) (u : Load) (hu : u ≡ m (a + 8)) where
      abbrev got : Load → Walk PageTableInfo
      got = on_value (done (Err (load_fault Process))) (last s a ta)

      second : {x : PageTableInfo} → x ≡ run m (got u) → x ≡ run m (process_context_at s a)
      unfolding process_context_at
      second e = context-valid m Process Err a (rest s a) v hv ta ev b hb t (loads m (a + 8) got hu e)

      pub process-cut : (f : FaultInfo) → u ≡ None → f ≡ load_fault Process → Err f ≡ run m (process_context_at s a)
      process-cut f e h = second (at m got e (ap Err h))

      pub process-read : (fsc : ℕ) (x : PageTableInfo) → u ≡ Some fsc → x ≡ checked_process s (record { ta = ta; fsc = fsc }) → x ≡ run m (process_context_at s a)
      process-read fsc x e h = second (at m got e h)

pub ruleset process_context_ways = (process-unread, process-invalid, process-cut, process-read)

-- the first stage of a process, by where its context lies
module _ (m : ℕ → Load) (c : DecodedContext) (s : Bool) (x : Access) (p : ℕ) (b : Bool) (hb : b ≡ bare_of c.fsc) where
  pub table-bare : (t : Option StageTable) → b ≡ true → t ≡ bare_table → Ok (stage_of t false) ≡ run m (process_table c s x p)
  unfolding process_table
  table-bare t e h = at m (λ q. pick q (done (Ok (stage_of bare_table false))) (process_context_of c s x p)) (sym hb ∙ e) (ap (λ (k : Option StageTable). Ok (stage_of k false)) h)

  module _ (o : b ≡ false) (levels root : ℕ) (r : Translation) (hl : levels ≡ root_mode_of c.fsc) (hp : root ≡ root_page_of c.fsc)
      (hr : r ≡ run m (leaf_place Process p (guest_place c.second x) (levels - 1) (root * 4096))) where
    placed : {z : PageTableInfo} → z ≡ run m (on_process_place s r) → z ≡ run m (process_table c s x p)
    unfolding process_table process_context_of
    placed e =
        at m (λ q. pick q (done (Ok (stage_of bare_table false))) (process_context_of c s x p)) (sym hb ∙ o)
        (then m (leaf_place Process p (guest_place c.second x) (root_mode_of c.fsc - 1) (root_page_of c.fsc * 4096)) (on_process_place s)
        (hr
        ∙ ap (λ n. run m (leaf_place Process p (guest_place c.second x) (n - 1) (root * 4096))) hl
        ∙ ap (λ n. run m (leaf_place Process p (guest_place c.second x) (root_mode_of c.fsc - 1) (n * 4096))) hp)
        e)

    pub table_unplaced : (f : FaultInfo) → r ≡ Err f → Err f ≡ run m (process_table c s x p)
    table_unplaced f e = placed (at m (on_process_place s) e refl)

    pub table-found : (a : ℕ) (z : PageTableInfo) → r ≡ Ok a → z ≡ run m (process_context_at s a) → z ≡ run m (process_table c s x p)
    table-found a z e h = placed (at m (on_process_place s) e h)

pub ruleset table_ways = (table-bare, table_unplaced, table-found, found_below)

-- "(a Bare process directory sets no width)"
pub wide_is : (fsc p : ℕ) (b : Bool) (k : ℕ) (w : Bool) → b ≡ bare_of fsc → k ≡ root_mode_of fsc → w ≡ too_wide Process k p → (not b && w) ≡ process_too_wide fsc p
wide_is fsc p b k w hb hk hw = ap (λ q. not q && w) hb ∙ ap (λ q. not (bare_of fsc) && q) (hw ∙ ap (λ n. too_wide Process n p) hk)

-- process 0 is never too wide
zero_fits : (fsc : ℕ) → process_too_wide fsc 0 ≡ false
unfolding too_wide
zero_fits fsc = none (not (bare_of fsc)) (leb (root_mode_of fsc) 1) (leb (root_mode_of fsc) 2)
  where
    none : (n a b : Bool) → (n && ((a && false) || (b && false))) ≡ false
    none false a b = refl
    none true false false = refl
    none true false true = refl
    none true true false = refl
    none true true true = refl

-- which first stage a request has
module _ (m : ℕ → Load) (c : DecodedContext) (process : ProcessId) (s : Bool) (x : Access) where
  pub given-refused : (p : ℕ) (d : FaultInfo) → process ≡ Some p → not c.pdtv ≡ true → d ≡ disallowed → Err d ≡ run m (first_table_of c process s x)
  unfolding first_table_of
  given-refused p d e t h = at m (λ i. first_table_of c i s x) e (simp (not-true c.pdtv t, h))

  pub absent-first : (t : Option StageTable) → process ≡ None → not c.pdtv ≡ true → t ≡ first_table c.fsc → Ok (stage_of t false) ≡ run m (first_table_of c process s x)
  unfolding first_table_of
  absent-first t e u h = at m (λ i. first_table_of c i s x) e (simp (not-true c.pdtv u, h))

  abbrev on_wanted : ProcessId → Walk PageTableInfo
  on_wanted (Some p) = pick (process_too_wide c.fsc p) (done (Err disallowed)) (process_table c s x p)
  on_wanted None = done (Ok (stage_of bare_table false))

  is-wanted : c.pdtv ≡ true → (i : ProcessId) → run m (on_wanted (wanted_of c.dpe i)) ≡ run m (first_table_of c i s x)
  unfolding first_table_of
  is-wanted t (Some p) = simp t
  is-wanted t None = go c.dpe
    where
      go : (d : Bool) → run m (on_wanted (pick d (Some 0) None)) ≡ run m (pick c.pdtv (pick d (process_table c s x 0) (done (Ok (stage_of bare_table false)))) (done (Ok (stage_of (first_table c.fsc) false))))
      go true = simp (t, zero_fits c.fsc)
      go false = simp t

  module _ (t : not c.pdtv ≡ false) (w : ProcessId) (hw : w ≡ wanted_of c.dpe process) where
    wanted : {z : PageTableInfo} → z ≡ run m (on_wanted w) → z ≡ run m (first_table_of c process s x)
    wanted h = h ∙ ap (λ i. run m (on_wanted i)) hw ∙ is-wanted (not-false c.pdtv t) process

    pub none-wanted : (n : Option StageTable) → w ≡ None → n ≡ bare_table → Ok (stage_of n false) ≡ run m (first_table_of c process s x)
    none-wanted n e h = wanted (at m on_wanted e (ap (λ (t : Option StageTable). Ok (stage_of t false)) h))

    module _ (p : ℕ) (e : w ≡ Some p) (v : Bool) (hv : v ≡ process_too_wide c.fsc p) where
      pub wanted-wide : (d : FaultInfo) → v ≡ true → d ≡ disallowed → Err d ≡ run m (first_table_of c process s x)
      wanted-wide d u h = wanted (at m on_wanted e (simp (← hv, u, h)))

      pub wanted-table : (z : PageTableInfo) → v ≡ false → z ≡ run m (process_table c s x p) → z ≡ run m (first_table_of c process s x)
      wanted-table z u h = wanted (at m on_wanted e (h ∙ simp (← hv, u)))

pub ruleset first_table_ways = (given-refused, absent-first, none-wanted, wanted-wide, wanted-table)
