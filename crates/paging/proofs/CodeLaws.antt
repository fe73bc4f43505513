-- The walks by the ways through a level and a turn, as the code makes them: once for any scheme and any way to an entry. Assumes nothing.
use Rattle.std.specs.Prelude.{Err, Ok, None, Some}
use Rattle.std.proofs.Common.{◌≡◌, ℕ, suc, ◌+◌, ◌-◌, ◌*◌, ◌/◌, ◌^◌, ◌<◌, ◌≤◌, Bool, true, false, not, eqb, sym, refl, ap, ◌∙◌, subst, arith, le-ltb, lt-ltb}
use borrow.Author.Tests.{not-true, not-false}
use Rattle.memory.specs.Load.{Load}
use Rattle.memory.specs.Choice.{pick}
use Rattle.memory.specs.Walk.{Walk, done, run}
use Rattle.memory.proofs.Walks.{then, loads, at}
use Rattle.causes.specs.declared.Access.{Access}
use Rattle.causes.specs.declared.Access.TheVariants.{Read}
use Rattle.causes.specs.declared.FaultInfo.{FaultInfo}
use Rattle.paging_scheme.specs.declared.Scheme.{Scheme}
use Rattle.paging_scheme.specs.Scheme.{levels_of, signed_of, legal_of, index_of}
use Rattle.paging_scheme.proofs.CodeLaws.{root-top, guest-legal, guest_illegal, guest-root-index}
use Rattle.paging_entry.specs.declared.Purpose.{Purpose}
use Rattle.paging_entry.specs.declared.Purpose.TheVariants.{FirstStage, FirstStageEntry}
use Rattle.paging_entry.specs.declared.Pages.{Pages}
use Rattle.paging_entry.specs.declared.Pages.TheVariants.{User}
use Rattle.paging_entry.specs.declared.Lookup.{Lookup}
use Rattle.paging_entry.specs.declared.LeafTest.{LeafTest}
use Rattle.paging_entry.specs.declared.Raw.{Raw}
use Rattle.paging_entry.specs.declared.Raw.TheVariants.{Arrive, Unread}
use Rattle.paging_entry.specs.Purpose.{Translation}
use Rattle.paging_entry.specs.Purpose.{Step}
use Rattle.std.specs.declared.ops.ControlFlow.TheVariants.{Break, Continue}
use Rattle.paging_entry.specs.Purpose.{asked_of, page_fault_of, access_fault_of}
use Rattle.paging_entry.specs.Entry.{faulted, on_load}
use Rattle.paging_entry.specs.Code.{test_of, raw_load, to_step, told_of, faulty_end, unread_end, code_of, told_by, Tight}
use Rattle.paging_entry.proofs.EntryLaws.{tested, coded}
use Rattle.paging.specs.Table.{StageTable}
use Rattle.std.specs.declared.option.Option.{Option}
use Rattle.paging.specs.Levels.{on_place, on_step, level_step, levels, walk_of}
use Rattle.paging.specs.Stages.{guest_lookup, second_stage_of, entry_place, device_lookup, first_stage_of}
use Rattle.paging.specs.Code.{on_raw, raw_levels, raw_walk, Near, Within, Small, step_at, levels_at}
use Rattle.paging.proofs.LevelsLaws.{raw-whole}

one_less : (left : ℕ) → 0 < left → suc (left - 1) ≡ left
one_less left p = omega arith

none_left : (left : ℕ) → left ≤ 0 → left ≡ 0
none_left left p = omega arith

-- a turn of the walk of entries that lie where their addresses say, at level n: w is the end of the whole walk
module _ (m : ℕ → Load) (s : Scheme) (t : LeafTest) (a n table i at : ℕ) (v : Load) (r w : Raw)
    (hi : i ≡ index_of s a n) (ha : at ≡ table * 4096 + 8 * i) (hv : v ≡ m at) (hr : r ≡ raw_load t a n v)
    (hw : run m (raw_levels s t a (suc n) table) ≡ w) where
  turned : (k : Raw) → r ≡ k → run m (on_raw (raw_levels s t a n) k) ≡ w
  unfolding raw_levels
  turned k e =
      ap (λ (y : Raw). run m (on_raw (raw_levels s t a n) y)) (sym e ∙ hr ∙ ap (raw_load t a n) (hv ∙ ap m ha ∙ ap (λ (j : ℕ). m (table * 4096 + 8 * j)) hi))
      ∙ hw

  pub raw-goes : (k shift : ℕ) → r ≡ Raw.Next k → shift ≡ 12 + 9 * n → 21 ≤ shift → run m (raw_levels s t a (suc (n - 1)) k) ≡ w
  raw-goes k shift e hs z = ap (λ (j : ℕ). run m (raw_levels s t a j k)) (one_less n (omega arith)) ∙ turned (Raw.Next k) e

  -- a non-leaf at the last level
  no-leaf : (k : ℕ) → r ≡ Raw.Next k → n ≡ 0 → Raw.Faulty ≡ w
  unfolding raw_levels
  no-leaf k e z = sym (ap (λ (j : ℕ). run m (raw_levels s t a j k)) z) ∙ turned (Raw.Next k) e

  -- the end, as a number and in its bounds
  pub code_last : (k shift : ℕ) → r ≡ Raw.Next k → shift ≡ 12 + 9 * n → shift < 21 → faulty_end ≡ code_of w
  code_last k shift e hs z = ap code_of (no-leaf k e (omega arith))

  pub end-last : (k shift : ℕ) → r ≡ Raw.Next k → shift ≡ 12 + 9 * n → shift < 21 → Tight w
  end-last k shift e hs z = subst Tight (no-leaf k e (omega arith)) tt

  pub code_arrived : (k : ℕ) → r ≡ Arrive k → k ≡ code_of w
  code_arrived k e = ap code_of (turned (Arrive k) e)

  pub code_faulted : r ≡ Raw.Faulty → faulty_end ≡ code_of w
  code_faulted e = ap code_of (turned Raw.Faulty e)

  pub code_unread : r ≡ Unread → unread_end ≡ code_of w
  code_unread e = ap code_of (turned Unread e)

  pub end_arrived : (k : ℕ) → r ≡ Arrive k → Tight r → Tight w
  end_arrived k e h = subst Tight (e ∙ turned (Arrive k) e) h

  pub end-faulted : r ≡ Raw.Faulty → Tight w
  end-faulted e = subst Tight (turned Raw.Faulty e) tt

  pub end-unread : r ≡ Unread → Tight w
  end-unread e = subst Tight (turned Unread e) tt

-- before the loop
module _ (m : ℕ → Load) (s : Scheme) (t : LeafTest) (a root : ℕ) where
  begun : {b : Bool} → legal_of s a ≡ b → run m (pick b (raw_levels s t a (levels_of s) root) (done Raw.Faulty)) ≡ run m (raw_walk s t a root)
  unfolding raw_walk
  begun e = ap (λ (b : Bool). run m (pick b (raw_levels s t a (levels_of s) root) (done Raw.Faulty))) (sym e)

  pub raw-starts : (l : ℕ) → legal_of s a ≡ true → l ≡ levels_of s → 0 < l → run m (raw_levels s t a (suc (l - 1)) root) ≡ run m (raw_walk s t a root)
  raw-starts l h e p = ap (λ (k : ℕ). run m (raw_levels s t a k root)) (one_less l p ∙ e) ∙ begun h

  -- an address that isn't legal
  pub code_illegal : legal_of s a ≡ false → faulty_end ≡ code_of (run m (raw_walk s t a root))
  code_illegal l = ap code_of (begun l)

  pub end_illegal : legal_of s a ≡ false → Tight (run m (raw_walk s t a root))
  end_illegal l = subst Tight (begun l) tt

pub tight_next : (r : Raw) (k : ℕ) → r ≡ Raw.Next k → Tight r → k < 2 ^ 44
tight_next r k e h = subst Tight e h

pub root-index : (s : Scheme) (a i l : ℕ) → i ≡ index_of s a (levels_of s - 1) → l ≡ levels_of s → i ≡ index_of s a (l - 1)
root-index s a i l h e = h ∙ ap (λ (k : ℕ). index_of s a (k - 1)) (sym e)

pub top-is : (s : Scheme) (top l : ℕ) → top ≡ 12 + 9 * (levels_of s - 1) → l ≡ levels_of s → top ≡ 12 + 9 * (l - 1)
top-is s top l h e = h ∙ ap (λ (k : ℕ). 12 + 9 * (k - 1)) (sym e)

-- the level and its shift go down together
pub less_still : (n k : ℕ) → n < k → n - 1 < k
less_still n k h = omega arith

pub some_left : (n shift : ℕ) → shift ≡ 12 + 9 * n → 21 ≤ shift → 1 ≤ n
some_left n shift e h = omega arith

pub shift_down : (n shift : ℕ) → shift ≡ 12 + 9 * n → 21 ≤ shift → shift - 9 ≡ 12 + 9 * (n - 1)
shift_down n shift e h = omega arith

pub below_root : (n shift l : ℕ) → shift ≡ 12 + 9 * n → 21 ≤ shift → n < l → n - 1 + 1 < l
below_root n shift l e h k = omega arith

pub ruleset raw_ways = (raw-goes, code_last, end-last, code_arrived, code_faulted, code_unread, end_arrived, end-faulted, end-unread, raw-starts, tight_next, root-index, top-is, less_still, some_left, shift_down, below_root)

-- the walk of a guest address, by its root's index
module _ (m : ℕ → Load) (s : Scheme) (t : LeafTest) (a root l top : ℕ) (h : signed_of s ≡ false) (hl : l ≡ levels_of s) (ht : top ≡ 3 + 9 * l) (far : 2047 < a / 2 ^ top) where
  pub code_beyond : faulty_end ≡ code_of (run m (raw_walk s t a root))
  code_beyond = code_illegal m s t a root (guest_illegal s a l top h hl ht far)

  pub end-beyond : Tight (run m (raw_walk s t a root))
  end-beyond = end_illegal m s t a root (guest_illegal s a l top h hl ht far)

pub index-small : (i : ℕ) → i ≤ 2047 → i < 2048
index-small i h = omega arith

pub ruleset guest_ways = (code_beyond, end-beyond, root-top, guest-legal, guest-root-index, index-small)

-- the walk of the device's address, by whether it is legal
module _ (m : ℕ → Load) (s : Scheme) (t : LeafTest) (a root : ℕ) (b : Bool) (hb : b ≡ legal_of s a) (y : not b ≡ true) where
  pub code_barred : faulty_end ≡ code_of (run m (raw_walk s t a root))
  code_barred = code_illegal m s t a root (sym hb ∙ not-true b y)

  pub end-barred : Tight (run m (raw_walk s t a root))
  end-barred = end_illegal m s t a root (sym hb ∙ not-true b y)

pub legal_so : (s : Scheme) (a : ℕ) (b : Bool) → b ≡ legal_of s a → not b ≡ false → legal_of s a ≡ true
legal_so s a b h y = sym h ∙ not-false b y

pub index-there : (s : Scheme) (a i l : ℕ) → i ≡ index_of s a (l - 1) → l ≡ levels_of s → i ≡ index_of s a (levels_of s - 1)
index-there s a i l h e = h ∙ ap (λ (k : ℕ). index_of s a (k - 1)) e

pub ruleset device_ways = (code_barred, end-barred, root-top, legal_so, index-there)

-- the second stage's walk, by the number of its end
module _ (m : ℕ → Load) (g : StageTable) (p : Purpose) (x : Access) (a : ℕ) where
  pub second_walks : (t : Translation) (k : Access) (l : LeafTest) (n : ℕ) (r : Raw) → k ≡ asked_of p x → l ≡ test_of k User
      → r ≡ run m (raw_walk g.scheme l a g.root) → Tight r → n ≡ code_of r → t ≡ told_by p x n → t ≡ run m (second_stage_of (Some g) p x a)
  unfolding second_stage_of
  second_walks t k l n r hk hl hr ht hn e =
      e ∙ ap (told_by p x) hn ∙ coded p x r ht
      ∙ ap (told_of p x) (hr ∙ ap (λ (y : LeafTest). run m (raw_walk g.scheme y a g.root)) (hl ∙ ap (λ (y : Access). test_of y User) hk))
      ∙ raw-whole m g.scheme (guest_lookup p x a) g.root

pub second-bare : (m : ℕ → Load) (g : Option StageTable) (p : Purpose) (x : Access) (a : ℕ) → g ≡ None → Ok a ≡ run m (second_stage_of g p x a)
unfolding second_stage_of
second-bare m g p x a h = simp h

within_of : (a : ℕ) (p : Purpose) (x : Access) (r : Raw) → Tight r → Within a (told_of p x r)
within_of a p x (Arrive b) h = omega arith
within_of a p x (Raw.Next t) h = tt
within_of a p x Raw.Faulty h = tt
within_of a p x Unread h = tt

pub told-within : (a : ℕ) (p : Purpose) (x : Access) (n : ℕ) (r : Raw) (t : Translation) → t ≡ told_by p x n → n ≡ code_of r → Tight r → Within a t
told-within a p x n r t e k h = subst (Within a) (sym (e ∙ ap (told_by p x) k ∙ coded p x r h)) (within_of a p x r h)

pub bare-within : (a : ℕ) → a ≤ a + 2 ^ 57
bare-within a = omega arith

pub ruleset second_ways = (second-bare, second_walks, told-within, bare-within)

told-stop : (p : Purpose) (x : Access) (r : ℕ) → faulty_end ≤ r → (f : FaultInfo) × (told_by p x r ≡ Err f)
told-stop p x r l = go (eqb r faulty_end) refl
  where
    go : (b : Bool) → eqb r faulty_end ≡ b → (f : FaultInfo) × (told_by p x r ≡ Err f)
    go true z = (page_fault_of p x, simp (le-ltb r faulty_end l, z))
    go false z = (access_fault_of p x, simp (le-ltb r faulty_end l, z))

-- a level whose entry lies at a guest address, `there`: `place` is the end of the second stage's walk to it
module _ (m : ℕ → Load) (q : Lookup) (g : StageTable) (n there place : ℕ) (w : Raw) (l : LeafTest) (hl : l ≡ test_of Read User)
    (hw : w ≡ run m (raw_walk g.scheme l there g.root)) (hT : Tight w) (hp : place ≡ code_of w) where
  found : (t : Translation) → t ≡ told_by FirstStageEntry q.access place → t ≡ run m (entry_place (Some g) q there)
  found t e = second_walks m g FirstStageEntry q.access there t Read l place w refl hl hw hT hp e

  pub level-stops : (t : Translation) → faulty_end ≤ place → t ≡ told_by FirstStageEntry q.access place → Break t ≡ run m (step_at q (entry_place (Some g) q) n there)
  unfolding step_at
  level-stops t far e =
      let f = told-stop FirstStageEntry q.access place far in
      then m (entry_place (Some g) q there) (on_place q n) (found t e) (at m (on_place q n) (e ∙ f.1) (ap Break (e ∙ f.1)))

  pub level-steps : (v : Load) (t : LeafTest) (r : Raw) (x : Step) → place < faulty_end → v ≡ m place
      → t ≡ test_of (asked_of q.purpose q.access) q.pages → r ≡ raw_load t q.address n v → x ≡ to_step q.purpose q.access r → x ≡ run m (step_at q (entry_place (Some g) q) n there)
  unfolding step_at
  level-steps v t r x near hv ht hr hx =
      then m (entry_place (Some g) q there) (on_place q n) (found (Ok place) (simp (lt-ltb place faulty_end near)))
      (loads m place (λ y. done (on_load q n y)) hv
      (hx ∙ ap (to_step q.purpose q.access) (hr ∙ ap (λ (y : LeafTest). raw_load y q.address n v) ht) ∙ tested q n v))

pub stop-small : (p : Purpose) (x : Access) (r : ℕ) (t : Translation) → faulty_end ≤ r → t ≡ told_by p x r → Near t
stop-small p x r t l e = let f = told-stop p x r l in subst Near (sym (e ∙ f.1)) tt

small_of : (p : Purpose) (x : Access) (r : Raw) → Tight r → Small (to_step p x r)
small_of p x (Arrive a) h = h
small_of p x (Raw.Next t) h = h
small_of p x Raw.Faulty h = tt
small_of p x Unread h = tt

pub step_small : (p : Purpose) (x : Access) (r : Raw) (t : Step) → t ≡ to_step p x r → Tight r → Small t
step_small p x r t e h = subst Small (sym e) (small_of p x r h)

pub ruleset level_ways = (level-stops, level-steps, stop-small, step_small)

-- a turn over levels, before the entry of level n at `there`: the whole walk has l levels from a root
module _ (m : ℕ → Load) (s : Scheme) (q : Lookup) (locate : ℕ → Walk Translation) (n there l root : ℕ) (t : Step)
    (ht : t ≡ run m (step_at q locate n there)) (hw : run m (levels_at q locate s n there) ≡ run m (levels s q locate l root)) where
  stepped-on : {x : Translation} → x ≡ run m (on_step (levels s q locate n) t) → x ≡ run m (levels s q locate l root)
  unfolding levels_at
  stepped-on e = then m (step_at q locate n there) (on_step (levels s q locate n)) ht e ∙ hw

  pub walk_stops : (a : Translation) → t ≡ Break a → a ≡ run m (levels s q locate l root)
  walk_stops a e = stepped-on (at m (on_step (levels s q locate n)) e refl)

  -- a non-leaf at the last level
  pub walk_last : (x : Translation) (k shift : ℕ) → t ≡ Continue k → shift ≡ 12 + 9 * n → shift < 21 → x ≡ faulted q → x ≡ run m (levels s q locate l root)
  unfolding levels
  walk_last x k shift e hs z y =
      let none : n ≡ 0 = omega (arith, hs) in
      stepped-on (at m (on_step (levels s q locate n)) e (y ∙ ap (λ (j : ℕ). run m (levels s q locate j k)) (sym none)))

  pub walk_goes : (k shift i next : ℕ) → t ≡ Continue k → shift ≡ 12 + 9 * n → 21 ≤ shift → i ≡ index_of s q.address (n - 1) → next ≡ k * 4096 + 8 * i
      → run m (levels_at q locate s (n - 1) next) ≡ run m (levels s q locate l root)
  unfolding levels level_step step_at levels_at
  walk_goes k shift i next e hs z hi ha =
      let more : suc (n - 1) ≡ n = omega (arith, hs) in
      stepped-on
      (at m (on_step (levels s q locate n)) e
      (ap (λ (j : ℕ). run m (levels_at q locate s (n - 1) j)) (ha ∙ ap (λ (j : ℕ). k * 4096 + 8 * j) hi) ∙ ap (λ (j : ℕ). run m (levels s q locate j k)) more))

pub walk_starts : (m : ℕ → Load) (s : Scheme) (q : Lookup) (locate : ℕ → Walk Translation) (l i root there : ℕ) → l ≡ levels_of s → 0 < l → i ≡ index_of s q.address (levels_of s - 1)
    → there ≡ root * 4096 + 8 * i → run m (levels_at q locate s (l - 1) there) ≡ run m (levels s q locate (levels_of s) root)
unfolding levels level_step step_at levels_at
walk_starts m s q locate l i root there hl p hi ha =
    ap (λ (j : ℕ). run m (levels_at q locate s (l - 1) j)) (ha ∙ ap (λ (j : ℕ). root * 4096 + 8 * j) (hi ∙ ap (λ (k : ℕ). index_of s q.address (k - 1)) (sym hl)))
    ∙ ap (λ (j : ℕ). run m (levels s q locate j root)) (one_less l p ∙ hl)

pub small-next : (t : Step) (k : ℕ) → t ≡ Continue k → Small t → k < 2 ^ 44
small-next t k e h = subst Small e h

pub test_asked : (q : Lookup) (t : LeafTest) (k : Access) → t ≡ test_of k q.pages → k ≡ asked_of q.purpose q.access
    → t ≡ test_of (asked_of q.purpose q.access) q.pages
test_asked q t k h e = h ∙ ap (λ (y : Access). test_of y q.pages) e

pub ruleset walk_ways = (walk_stops, walk_last, walk_goes, walk_starts, small-next, test_asked)

-- the whole of it, by whether the address is legal
module _ (m : ℕ → Load) (s : Scheme) (q : Lookup) (locate : ℕ → Walk Translation) (root : ℕ) (legal : Bool) (t : Translation) (hl : legal ≡ legal_of s q.address) where
  pub nested_illegal : not legal ≡ true → t ≡ faulted q → t ≡ run m (walk_of s q locate root)
  unfolding walk_of
  nested_illegal y e = e ∙ simp (← hl, not-true legal y)

  pub nested_walks : not legal ≡ false → t ≡ run m (levels s q locate (levels_of s) root) → t ≡ run m (walk_of s q locate root)
  unfolding walk_of
  nested_walks y e = e ∙ simp (← hl, not-false legal y)

pub ruleset nested_ways = (nested_illegal, nested_walks, root-top, index-there, test_asked)

-- the first stage
module _ (m : ℕ → Load) (first g : Option StageTable) (x : Access) (pages : Pages) (a : ℕ) where
  pub first-bare : first ≡ None → Ok a ≡ run m (first_stage_of first g x pages a)
  unfolding first_stage_of
  first-bare h = simp h

  module _ (f : StageTable) (h : first ≡ Some f) where
    pub first_nested : (t : Translation) (k : StageTable) → g ≡ Some k → t ≡ run m (walk_of f.scheme (device_lookup x pages a) (entry_place (Some k) (device_lookup x pages a)) f.root)
        → t ≡ run m (first_stage_of first g x pages a)
    unfolding first_stage_of
    first_nested t k e d = d ∙ simp (h, e)

    -- "First-stage entries lie at guest addresses when the second stage is on", else where their addresses say
    pub first-direct : (t : Translation) (l : LeafTest) (n : ℕ) (r : Raw) → g ≡ None → l ≡ test_of x pages → r ≡ run m (raw_walk f.scheme l a f.root)
        → Tight r → n ≡ code_of r → t ≡ told_by FirstStage x n → t ≡ run m (first_stage_of first g x pages a)
    unfolding first_stage_of second_stage_of
    first-direct t l n r b hl e ht hn k =
        k ∙ ap (told_by FirstStage x) hn ∙ coded FirstStage x r ht ∙ ap (told_of FirstStage x) (e ∙ ap (λ (y : LeafTest). run m (raw_walk f.scheme y a f.root)) hl)
        ∙ raw-whole m f.scheme (device_lookup x pages a) f.root
        ∙ simp (h, b)

pub ruleset first_ways = (first-bare, first_nested, first-direct)
