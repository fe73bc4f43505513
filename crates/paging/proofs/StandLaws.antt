-- A walk that goes on in the other window where it leaves one says what the walk of both says. Assumes nothing.
use Rattle.std.specs.Prelude.{None, Some}
use Rattle.std.proofs.Common.{◌≡◌, ℕ, zero, suc, ◌+◌, ◌-◌, ◌*◌, ◌%◌, ◌^◌, ◌<◌, ◌≤◌, Bool, true, false, not, ◌&&◌, eqb, List, length, sym, refl, ap, ◌∙◌, subst, mod-lt, arith, pow_pos, pow_mono}
use borrow.Author.Tests.{not-true, not-false}
use Rattle.memory.specs.Load.{Load}
use Rattle.memory.specs.declared.Starts.{Starts}
use Rattle.memory.specs.Choice.{pick}
use Rattle.memory.specs.Walk.{done, run}
use Rattle.memory.specs.Window.{Window, Lent, inside, holds, doubleword, window_at, lent, load_in, memory}
use Rattle.memory.specs.Code.{Walkable, load_at, turned_starts}
use Rattle.memory.proofs.Offsets.{offset-load}
use Rattle.memory.proofs.Order.{turned-memory, turned_walkable, first_load, no-load}
use Rattle.paging_scheme.specs.declared.Scheme.{Scheme}
use Rattle.paging_scheme.specs.declared.Scheme.TheVariants.{Sv39, Sv48, Sv57, Sv39x4, Sv48x4, Sv57x4}
use Rattle.paging_scheme.specs.Scheme.{levels_of, legal_of, page_bits_of, index_of}
use Rattle.paging_entry.specs.declared.LeafTest.{LeafTest}
use Rattle.paging_entry.specs.declared.Raw.{Raw}
use Rattle.paging_entry.specs.declared.Raw.TheVariants.{Arrive, Next, Faulty, Unread}
use Rattle.paging_entry.specs.Entry.{entry_page}
use Rattle.paging_entry.specs.Code.{table_bits, leaf_bits, raw_load, faulty_end, unread_end, code_of, Tight}
use Rattle.paging.specs.declared.Stand.{Stand}
use Rattle.paging.specs.declared.Stand.TheVariants.{End, Left}
use Rattle.paging.proofs.CodeLaws.{raw-starts}
use Rattle.paging.specs.Code.{on_raw, raw_levels, raw_walk, raw_from, on_near, near_walk, resumed, Standing}

-- a turn in a window, at level n before the entry at `at`: w is where the whole walk in it stands
module _ (s : Scheme) (t : LeafTest) (a start n shift d : ℕ) (xs : List ℕ) (v : Load) (r : Raw) (w : Stand)
    (end : start + length xs ≤ 2 ^ 64) (hd : d < 2 ^ 64) (hv : v ≡ load_at xs d) (hr : r ≡ raw_load t a n v)
    (hs : shift ≡ 12 + 9 * n) (hw : near_walk s t a (window_at start xs) n ((d + start) % 2 ^ 64) ≡ w) where
  abbrev at : ℕ
  at = (d + start) % 2 ^ 64

  read : r ≡ raw_load t a n (load_in (window_at start xs) at None)
  read = hr ∙ ap (raw_load t a n) (hv ∙ offset-load start d xs end hd)

  pub stand_goes : (k e i : ℕ) → r ≡ Next k → 21 ≤ shift → i ≡ index_of s a (n - 1) → (e + start) % 2 ^ 64 ≡ k * 4096 + 8 * i
      → near_walk s t a (window_at start xs) (n - 1) ((e + start) % 2 ^ 64) ≡ w
  unfolding near_walk
  stand_goes k e i h z hi he =
      let more : suc (n - 1) ≡ n = omega (arith, hs) in
      ap (near_walk s t a (window_at start xs) (n - 1)) (he ∙ ap (λ (j : ℕ). k * 4096 + 8 * j) hi)
      ∙ go (n - 1) (sym h ∙ read ∙ ap (λ (j : ℕ). raw_load t a j (load_in (window_at start xs) at None)) (sym more))
      (ap (λ (j : ℕ). near_walk s t a (window_at start xs) j at) more ∙ hw)
    where
      go : (j : ℕ) → Next k ≡ raw_load t a (suc j) (load_in (window_at start xs) at None) → near_walk s t a (window_at start xs) (suc j) at ≡ w
          → near_walk s t a (window_at start xs) j (k * 4096 + 8 * index_of s a j) ≡ w
      go j f g = ap (on_near s t a (window_at start xs) (λ table. near_walk s t a (window_at start xs) j (table * 4096 + 8 * index_of s a j)) (suc j) at) f ∙ g

  -- where it stops
  turned : (k : Raw) (x : Stand) → r ≡ k → ((next : ℕ → Stand) → on_near s t a (window_at start xs) next n at k ≡ x) → x ≡ w
  unfolding near_walk
  turned k x e f = go n (sym e ∙ read) hw f
    where
      go : (j : ℕ) → k ≡ raw_load t a j (load_in (window_at start xs) at None) → near_walk s t a (window_at start xs) j at ≡ w
          → ((next : ℕ → Stand) → on_near s t a (window_at start xs) next j at k ≡ x) → x ≡ w
      go zero h g f = sym (f (λ table. End faulty_end)) ∙ ap (on_near s t a (window_at start xs) (λ table. End faulty_end) zero at) h ∙ g
      go (suc j) h g f =
          sym (f (λ table. near_walk s t a (window_at start xs) j (table * 4096 + 8 * index_of s a j)))
          ∙ ap (on_near s t a (window_at start xs) (λ table. near_walk s t a (window_at start xs) j (table * 4096 + 8 * index_of s a j)) (suc j) at) h ∙ g

  pub stand_last : (k : ℕ) → r ≡ Next k → shift < 21 → End faulty_end ≡ w
  unfolding near_walk
  stand_last k h z = go n (omega (arith, hs)) (sym h ∙ read) hw
    where
      go : (j : ℕ) → j ≡ 0 → Next k ≡ raw_load t a j (load_in (window_at start xs) at None) → near_walk s t a (window_at start xs) j at ≡ w → End faulty_end ≡ w
      go zero p f g = ap (on_near s t a (window_at start xs) (λ table. End faulty_end) zero at) f ∙ g
      go (suc j) p f g = absurd (omega arith)

  pub stand_arrived : (k : ℕ) → r ≡ Arrive k → End k ≡ w
  stand_arrived k e = turned (Arrive k) (End k) e (λ next. refl)

  pub stand_faulted : r ≡ Faulty → End faulty_end ≡ w
  stand_faulted e = turned Faulty (End faulty_end) e (λ next. refl)

  pub stand_left : (p : ℕ) → r ≡ Unread → p ≡ at → Left n shift p ≡ w
  stand_left p e hp = ap (λ (k : ℕ). Left n k p) hs ∙ ap (Left n (page_bits_of n)) hp ∙ turned Unread (Left n (page_bits_of n) at) e (λ next. refl)

pub stand_begins : (s : Scheme) (t : LeafTest) (a start n d place : ℕ) (xs : List ℕ) → (d + start) % 2 ^ 64 ≡ place
    → near_walk s t a (window_at start xs) n ((d + start) % 2 ^ 64) ≡ near_walk s t a (window_at start xs) n place
stand_begins s t a start n d place xs h = ap (near_walk s t a (window_at start xs) n) h

-- where an entry lies in a window
pub entry_offset-is : (start table i o d : ℕ) → table < 2 ^ 44 → i < 2048 → (o + start) % 2 ^ 64 ≡ 8 * i → d ≡ (table * 4096 + o) % 2 ^ 64
    → (d + start) % 2 ^ 64 ≡ table * 4096 + 8 * i
entry_offset-is start table i o d ht hi ho hd = omega arith

pub ruleset stand_ways = (stand_goes, stand_last, stand_arrived, stand_faulted, stand_left, stand_begins)

-- a loaded entry: what it leads to is in bounds, and known where the load is no violation
tight_load : (t : LeafTest) (a n : ℕ) (v : Load) → n < 5 → Tight (raw_load t a n v)
unfolding raw_load
tight_load t a n None h = tt
tight_load t a n (Some e) h = go (table_bits e) (leaf_bits e t && eqb (entry_page e % 2 ^ (9 * n)) 0)
  where
    page : entry_page e < 2 ^ 44
    page = omega arith

    arrives : entry_page e * 4096 + a % 2 ^ (12 + 9 * n) < 2 ^ 57
    arrives =
        let k : 2 ^ (12 + 9 * n) ≤ 2 ^ 48 = pow_mono {i = 12 + 9 * n} {j = 48} (omega arith) in
        let r : a % 2 ^ (12 + 9 * n) < 2 ^ (12 + 9 * n) = mod-lt a (pow_pos (12 + 9 * n)) in
        let q : entry_page e * 4096 < 2 ^ 56 = omega arith in
        omega (arith, k, r, q)

    go : (b c : Bool) → Tight (pick b (Next (entry_page e)) (pick c (Arrive (entry_page e * 4096 + a % 2 ^ (12 + 9 * n))) Faulty))
    go true c = page
    go false true = arrives
    go false false = tt

abbrev Known : Raw → Type 0
Known (Arrive p) = Unit {0}
Known (Next table) = Unit {0}
Known Faulty = Unit {0}
Known Unread = ⊥

known-load : (t : LeafTest) (a n e : ℕ) → Known (raw_load t a n (Some e))
unfolding raw_load
known-load t a n e = go (table_bits e) (leaf_bits e t && eqb (entry_page e % 2 ^ (9 * n)) 0)
  where
    go : (b c : Bool) → Known (pick b (Next (entry_page e)) (pick c (Arrive (entry_page e * 4096 + a % 2 ^ (12 + 9 * n))) Faulty))
    go true c = tt
    go false true = tt
    go false false = tt

-- the end of a walk is in bounds
module _ (m : ℕ → Load) (s : Scheme) (t : LeafTest) (a : ℕ) where
  tight_levels : (n table : ℕ) → n ≤ 5 → Tight (run m (raw_levels s t a n table))
  unfolding raw_levels
  tight_levels zero table h = tt
  tight_levels (suc n) table h =
      go (λ page. tight_levels n page (omega arith)) (raw_load t a n (m (table * 4096 + 8 * index_of s a n))) (tight_load t a n (m (table * 4096 + 8 * index_of s a n)) (omega arith))
    where
      go : ((page : ℕ) → Tight (run m (raw_levels s t a n page))) → (r : Raw) → Tight r → Tight (run m (on_raw (raw_levels s t a n) r))
      go below (Arrive p) k = k
      go below (Next page) k = below page
      go below Faulty k = tt
      go below Unread k = tt

  pub tight_walk : (root : ℕ) → Tight (run m (raw_walk s t a root))
  unfolding raw_walk
  tight_walk root = go (legal_of s a)
    where
      few : (z : Scheme) → levels_of z ≤ 5
      few Sv39 = omega arith
      few Sv48 = omega arith
      few Sv57 = omega arith
      few Sv39x4 = omega arith
      few Sv48x4 = omega arith
      few Sv57x4 = omega arith

      go : (b : Bool) → Tight (run m (pick b (raw_levels s t a (levels_of s) root) (done Faulty)))
      go true = tight_levels (levels_of s) root (few s)
      go false = tt

-- where a walk in one window stands
module _ (s : Scheme) (t : LeafTest) (a : ℕ) (w : Window) where
  -- before an entry that the window doesn't hold
  abbrev Misses : Stand → Type 0
  Misses (End end) = Unit {0}
  Misses (Left n shift at) = holds w at 8 ≡ false

  abbrev missed : ℕ → ℕ
  missed at = pick (holds w at 8) 0 1

  -- and, where it held the first, at a lower level
  abbrev Lower : ℕ → ℕ → Stand → Type 0
  Lower n at (End end) = Unit {0}
  Lower n at (Left level shift place) = 2 * level < 2 * n + missed at

  module _ (n at : ℕ) (next : ℕ → Stand) where
    by_read : (P : Stand → Type 0) → (holds w at 8 ≡ false → P (Left n (page_bits_of n) at)) → (holds w at 8 ≡ true → (k : ℕ) → P (next k)) → ((end : ℕ) → P (End end))
        → P (on_near s t a w next n at (raw_load t a n (load_in w at None)))
    unfolding raw_load
    by_read P left goes ends = go (holds w at 8) refl
      where
        known : (e : ℕ) → holds w at 8 ≡ true → (r : Raw) → Known r → P (on_near s t a w next n at r)
        known e h (Arrive p) k = ends p
        known e h (Next table) k = goes h table
        known e h Faulty k = ends faulty_end
        known e h Unread k = absurd k

        go : (b : Bool) → holds w at 8 ≡ b → P (on_near s t a w next n at (raw_load t a n (pick b (Some (doubleword w.bytes (at - w.start))) None)))
        go true h = known 0 h (raw_load t a n (Some (doubleword w.bytes (at - w.start)))) (known-load t a n (doubleword w.bytes (at - w.start)))
        go false h = left h

  near_misses : (n at : ℕ) → Misses (near_walk s t a w n at)
  unfolding near_walk
  near_misses zero at = by_read zero at (λ table. End faulty_end) Misses (λ h. h) (λ h k. tt) (λ end. tt)
  near_misses (suc n) at =
      by_read (suc n) at (λ table. near_walk s t a w n (table * 4096 + 8 * index_of s a n)) Misses (λ h. h) (λ h k. near_misses n (k * 4096 + 8 * index_of s a n)) (λ end. tt)

  few-missed : (at : ℕ) → missed at ≤ 1
  few-missed at = go (holds w at 8)
    where
      go : (b : Bool) → pick b 0 1 ≤ 1
      go true = omega arith
      go false = omega arith

  near-lower : (n at : ℕ) → Lower n at (near_walk s t a w n at)
  unfolding near_walk
  near-lower zero at = by_read zero at (λ table. End faulty_end) (Lower zero at) here (λ h k. tt) (λ end. tt)
    where
      here : holds w at 8 ≡ false → 2 * 0 < 2 * 0 + missed at
      here h = let e : missed at ≡ 1 = simp h in omega (arith, e)
  near-lower (suc n) at =
      by_read (suc n) at (λ table. near_walk s t a w n (table * 4096 + 8 * index_of s a n)) (Lower (suc n) at) here
      (λ h k. below (k * 4096 + 8 * index_of s a n) (near_walk s t a w n (k * 4096 + 8 * index_of s a n)) (near-lower n (k * 4096 + 8 * index_of s a n))) (λ end. tt)
    where
      here : holds w at 8 ≡ false → 2 * suc n < 2 * suc n + missed at
      here h = let e : missed at ≡ 1 = simp h in omega (arith, e)

      below : (place : ℕ) (x : Stand) → Lower n place x → Lower (suc n) at x
      below place (End end) h = tt
      below place (Left level shift p) h = let e = few-missed place in omega arith

  -- from there on it is the walk of any memory that has all of the window
  module _ (m : ℕ → Load) (has : (b : ℕ) → holds w b 8 ≡ true → m b ≡ load_in w b None) where
    on_read : (n at : ℕ) (next : ℕ → Stand) → ((k : ℕ) → code_of (run m (raw_levels s t a n k)) ≡ resumed s t a m (next k)) → (r : Raw) → r ≡ raw_load t a n (m at)
        → code_of (run m (on_raw (raw_levels s t a n) r)) ≡ resumed s t a m (on_near s t a w next n at r)
    on_read n at next h (Arrive p) e = refl
    on_read n at next h (Next k) e = h k
    on_read n at next h Faulty e = refl
    on_read n at next h Unread e = ap (λ (y : Raw). code_of (run m (on_raw (raw_levels s t a n) y))) e

    near_step : (n at : ℕ) (next : ℕ → Stand) → ((k : ℕ) → code_of (run m (raw_levels s t a n k)) ≡ resumed s t a m (next k))
        → code_of (run m (raw_from s t a n at)) ≡ resumed s t a m (on_near s t a w next n at (raw_load t a n (load_in w at None)))
    unfolding raw_load
    near_step n at next h = go (holds w at 8) refl
      where
        go : (b : Bool) → holds w at 8 ≡ b → code_of (run m (raw_from s t a n at)) ≡ resumed s t a m (on_near s t a w next n at (raw_load t a n (pick b (Some (doubleword w.bytes (at - w.start))) None)))
        go true e =
            let v : m at ≡ Some (doubleword w.bytes (at - w.start)) = has at e ∙ ap (λ (b : Bool). pick b (Some (doubleword w.bytes (at - w.start))) None) e in
            ap (λ (x : Load). code_of (run m (on_raw (raw_levels s t a n) (raw_load t a n x)))) v
            ∙ on_read n at next h (raw_load t a n (Some (doubleword w.bytes (at - w.start)))) (ap (raw_load t a n) (sym v))
        go false e = refl

    pub near-run : (n at : ℕ) → code_of (run m (raw_from s t a n at)) ≡ resumed s t a m (near_walk s t a w n at)
    unfolding near_walk raw_levels
    near-run zero at = near_step zero at (λ table. End faulty_end) (λ k. refl)
    near-run (suc n) at = near_step (suc n) at (λ table. near_walk s t a w n (table * 4096 + 8 * index_of s a n)) (λ k. near-run n (k * 4096 + 8 * index_of s a n))

-- a turn over both windows, the near one first: e is the end of the whole walk
module _ (s : Scheme) (t : LeafTest) (a n at e : ℕ) (order : Starts) (near far : List ℕ) (l : Lent) (stand : Stand)
    (same : memory (lent order near far) ≡ memory l) (hs : stand ≡ near_walk s t a (window_at order.first near) n at)
    (he : code_of (run (memory l) (raw_from s t a n at)) ≡ e) where
  abbrev here : Window
  here = window_at order.first near

  stands : resumed s t a (memory l) stand ≡ e
  stands =
      ap (resumed s t a (memory l)) hs
      ∙ sym (near-run s t a here (memory l) (λ b h. sym (ap (λ (m : ℕ → Load). m b) same) ∙ first_load order near far b h) n at)
      ∙ he

  pub turn_ends : (end : ℕ) → stand ≡ End end → end ≡ e
  turn_ends end h = ap (resumed s t a (memory l)) (sym h) ∙ stands

  module _ (level low place : ℕ) (h : stand ≡ Left level low place) where
    pub turn_left : code_of (run (memory l) (raw_from s t a level place)) ≡ e
    turn_left = ap (resumed s t a (memory l)) (sym h) ∙ stands

    -- neither holds the entry
    pub turn_unread : (b : Bool) → b ≡ inside order.second (length far) place 8 → not b ≡ true → unread_end ≡ e
    unfolding raw_load
    turn_unread b hb y =
        let miss = subst (Misses s t a here) (sym hs ∙ h) (near_misses s t a here n at) in
        let gone : memory l place ≡ None = sym (ap (λ (m : ℕ → Load). m place) same) ∙ no-load order near far place miss (sym hb ∙ not-true b y) in
        sym (ap (λ (v : Load). code_of (run (memory l) (on_raw (raw_levels s t a level) (raw_load t a level v)))) gone) ∙ turn_left

    -- the other does: a level less, or the same in a window that holds it
    pub turn_less : (turned : Starts) (b : Bool) → turned ≡ turned_starts order → b ≡ inside order.second (length far) place 8 → not b ≡ false
        → 2 * level + pick (inside turned.first (length far) place 8) 0 1 < 2 * n + pick (inside order.first (length near) at 8) 0 1
    turn_less turned b ht hb y =
        let less = subst (Lower s t a here n at) (sym hs ∙ h) (near-lower s t a here n at) in
        let there : inside turned.first (length far) place 8 ≡ true = ap (λ (k : Starts). inside k.first (length far) place 8) ht ∙ sym hb ∙ not-false b y in
        let held : ◌≡◌ {A = ℕ} (pick (inside turned.first (length far) place 8) 0 1) 0 = ap (λ (k : Bool). pick {A = ℕ} k 0 1) there in
        omega (arith, less, held)

    pub left-level : Standing s stand → level < 5
    left-level k = (subst (Standing s) h k).0

    pub left_deep : Standing s stand → level < levels_of s
    left_deep k = (subst (Standing s) h k).1

    pub left-shift : Standing s stand → low ≡ 12 + 9 * level
    left-shift k = (subst (Standing s) h k).2

-- the windows in the other order
module _ (order other : Starts) (near far : List ℕ) (l : Lent) (ht : other ≡ turned_starts order) where
  pub other_walkable : Walkable order (length near) (length far) → Walkable other (length far) (length near)
  other_walkable w = subst (λ (k : Starts). Walkable k (length far) (length near)) (sym ht) (turned_walkable order (length near) (length far) w)

  pub other-memory : Walkable order (length near) (length far) → memory (lent order near far) ≡ memory l → memory (lent other far near) ≡ memory l
  other-memory w e = ap (λ (k : Starts). memory (lent k far near)) ht ∙ turned-memory order near far w.apart ∙ e

-- before the first
pub stand_starts : (m : ℕ → Load) (s : Scheme) (t : LeafTest) (a root l i at : ℕ) → legal_of s a ≡ true → l ≡ levels_of s → 0 < l → i ≡ index_of s a (levels_of s - 1) → at ≡ root * 4096 + 8 * i
    → code_of (run m (raw_from s t a (l - 1) at)) ≡ code_of (run m (raw_walk s t a root))
unfolding raw_levels
stand_starts m s t a root l i at h hl p hi ha =
    ap (λ (k : ℕ). code_of (run m (raw_from s t a (l - 1) k))) (ha ∙ ap (λ (j : ℕ). root * 4096 + 8 * j) (hi ∙ ap (λ (k : ℕ). index_of s a (k - 1)) (sym hl)))
    ∙ ap code_of (raw-starts m s t a root l h hl p)

pub ruleset turn_ways = (turn_ends, turn_left, turn_unread, turn_less, left-level, left_deep, left-shift, other_walkable, other-memory, stand_starts, tight_walk)
