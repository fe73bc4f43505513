-- A window's doublewords by their offsets, which wrap below its start. Assumes nothing.
use Rattle.std.proofs.Common.{◌≡◌, ℕ, ◌+◌, ◌-◌, ◌%◌, ◌^◌, ◌<◌, ◌≤◌, Bool, true, false, ltb, leb, List, [], length, take, drop, sym, refl, ap, ◌∙◌, add-zero, arith, ltb-false, ltb-true, le-ltb, lt-ltb, le-leb, leb-false, leb-true}
use borrow.Author.Tests.{lt-leb}
use Rattle.memory.specs.Choice.{pick}
use Rattle.memory.specs.Window.{inside, doubleword, window_at, lent, part_in, part_of, load_in}
use Rattle.memory.specs.Code.{Walkable, part_at, load_of, load_at}
use Rattle.memory.specs.declared.Starts.{Starts}
use Rattle.memory.specs.Load.{Load}
use Rattle.std.specs.Prelude.{Some, None}
use Rattle.memory.proofs.Choices.{yes-is, no-is}
use Rattle.memory.proofs.Loads.{held_low, held_high, part-word, part-long}

-- the part in each case, by the room of the window
module _ (xs : List ℕ) (d size r : ℕ) (some : 0 < size) (hr : r ≡ length xs + 1 - size) where
  pub at_held : d < r → take (d + size - d) (drop d xs) ≡ part_at xs d size
  at_held h =
      let e : d + size - d ≡ size = omega arith in
      ap (λ n. take n (drop d xs)) e ∙ yes-is (leb (d + size) (length xs)) _ _ _ (le-leb (d + size) (length xs) (omega (arith, hr))) refl

  pub at_none : r ≤ d → take (0 - 0) (drop 0 xs) ≡ part_at xs d size
  at_none h = no-is (leb (d + size) (length xs)) _ _ _ (lt-leb (d + size) (length xs) (omega (arith, hr))) refl

  pub part_fits : d < r → length xs < 2 ^ 64 → d + size < 2 ^ 64
  part_fits h f = omega (arith, hr)

  pub part_end : d < r → d + size ≤ length xs
  part_end h = omega (arith, hr)

pub ruleset part_ways = (at_held, at_none, part_fits, part_end)

-- the doubleword in an entry's bytes
pub loaded-none : (e : List ℕ) → length e < 8 → None ≡ load_of e
loaded-none e h = yes-is (ltb (length e) 8) _ _ _ (lt-ltb (length e) 8 h) refl

pub loaded_word : (e : List ℕ) (v : ℕ) → 8 ≤ length e → v ≡ doubleword e 0 → Some v ≡ load_of e
loaded_word e v h hv = ap Some hv ∙ no-is (ltb (length e) 8) _ _ _ (le-ltb (length e) 8 h) refl

pub ruleset loaded_ways = (loaded-none, loaded_word)

-- a load at an offset, by its part
pub load_at-part : (xs e : List ℕ) (d : ℕ) (v : Load) → e ≡ part_at xs d 8 → v ≡ load_of e → v ≡ load_at xs d
load_at-part xs e d v he hv = hv ∙ ap load_of he ∙ go (leb (d + 8) (length xs)) refl
  where
    go : (b : Bool) → leb (d + 8) (length xs) ≡ b → load_of (pick b (take 8 (drop d xs)) []) ≡ pick b (Some (doubleword xs d)) None
    go true t =
        let l = part-long xs d 8 (leb-true (d + 8) (length xs) t) in
        sym (no-is (ltb (length (take 8 (drop d xs))) 8) _ _ _ (le-ltb (length (take 8 (drop d xs))) 8 (omega (arith, l))) refl)
        ∙ ap Some (part-word xs d 8 0 (omega arith) ∙ ap (doubleword xs) (add-zero d))
    go false t = refl

-- the load at an offset is the window's load at the address
module _ (start d : ℕ) (xs : List ℕ) (end : start + length xs ≤ 2 ^ 64) (hd : d < 2 ^ 64) where
  abbrev at : ℕ
  at = (d + start) % 2 ^ 64

  pub offset-load : load_at xs d ≡ load_in (window_at start xs) at None
  offset-load = go (leb (d + 8) (length xs)) refl
    where
      beyond : length xs < d + 8 → (b : Bool) → inside start (length xs) at 8 ≡ b → None ≡ pick b (Some (doubleword xs (at - start))) None
      beyond h true t =
          let lo = held_low start (length xs) at 8 true (sym t) refl in
          let hi = held_high start (length xs) at 8 true (sym t) refl in
          absurd (omega arith)
      beyond h false t = refl

      go : (b : Bool) → leb (d + 8) (length xs) ≡ b → pick b (Some (doubleword xs d)) None ≡ load_in (window_at start xs) at None
      go true t =
          let h = leb-true (d + 8) (length xs) t in
          let e : at ≡ d + start = omega arith in
          let i : d ≡ at - start = omega arith in
          let lo : start ≤ at = omega arith in
          let hi : at + 8 ≤ start + length xs = omega arith in
          ap (λ n. Some (doubleword xs n)) i ∙ simp (le-leb start at lo, le-leb (at + 8) (start + length xs) hi)
      go false t = beyond (leb-false (d + 8) (length xs) t) (inside start (length xs) at 8) refl

-- the part at an offset is the window's at the address
module _ (start d size : ℕ) (xs : List ℕ) (some : 0 < size) (end : start + length xs ≤ 2 ^ 64) (hd : d < 2 ^ 64) where
  abbrev there : ℕ
  there = (d + start) % 2 ^ 64

  pub offset-part : part_at xs d size ≡ part_in (window_at start xs) there size []
  offset-part = go (leb (d + size) (length xs)) refl
    where
      beyond : length xs < d + size → (b : Bool) → inside start (length xs) there size ≡ b → [] ≡ pick b (take size (drop (there - start) xs)) []
      beyond h true t =
          let lo = held_low start (length xs) there size true (sym t) refl in
          let hi = held_high start (length xs) there size true (sym t) refl in
          absurd (omega arith)
      beyond h false t = refl

      go : (b : Bool) → leb (d + size) (length xs) ≡ b → pick b (take size (drop d xs)) [] ≡ part_in (window_at start xs) there size []
      go true t =
          let h = leb-true (d + size) (length xs) t in
          let i : d ≡ there - start = omega arith in
          let lo : start ≤ there = omega arith in
          let hi : there + size ≤ start + length xs = omega arith in
          ap (λ n. take size (drop n xs)) i ∙ simp (le-leb start there lo, le-leb (there + size) (start + length xs) hi)
      go false t = beyond (leb-false (d + size) (length xs) t) (inside start (length xs) there size) refl

-- an entry's bytes: in the first window, or else in the second
module _ (starts : Starts) (xs ys : List ℕ) (a d size : ℕ) (x : List ℕ) (some : 0 < size) (w : Walkable starts (length xs) (length ys)) (hd : d < 2 ^ 64)
    (at : (d + starts.first) % 2 ^ 64 ≡ a) (hx : x ≡ part_at xs d size) where
  in_first_lem : x ≡ part_in (window_at starts.first xs) a size []
  in_first_lem = hx ∙ offset-part starts.first d size xs some w.first_end hd ∙ ap (λ (k : ℕ). part_in (window_at starts.first xs) k size []) at

  pub entry_first : size ≤ length x → x ≡ part_of (lent starts xs ys) a size
  unfolding part_of
  entry_first h = go (inside starts.first (length xs) a size) in_first_lem
    where
      go : (b : Bool) → x ≡ pick b (take size (drop (a - starts.first) xs)) [] → x ≡ pick b (take size (drop (a - starts.first) xs)) (part_in (window_at starts.second ys) a size [])
      go true e = e
      go false e = absurd (let z : length x ≡ 0 = ap length e in omega (arith, z))

  pub entry-second : (y : List ℕ) (k : ℕ) → length x < size → k < 2 ^ 64 → (k + starts.second) % 2 ^ 64 ≡ a → y ≡ part_at ys k size → y ≡ part_of (lent starts xs ys) a size
  unfolding part_of
  entry-second y k h hk there hy = in_second ∙ go (inside starts.first (length xs) a size) refl in_first_lem
    where
      in_second : y ≡ part_in (window_at starts.second ys) a size []
      in_second = hy ∙ offset-part starts.second k size ys some w.second_end hk ∙ ap (λ (j : ℕ). part_in (window_at starts.second ys) j size []) there

      go : (b : Bool) → inside starts.first (length xs) a size ≡ b → x ≡ pick b (take size (drop (a - starts.first) xs)) []
          → part_in (window_at starts.second ys) a size [] ≡ pick b (take size (drop (a - starts.first) xs)) (part_in (window_at starts.second ys) a size [])
      go true t e =
          let hi = held_high starts.first (length xs) a size true (sym t) refl in
          let l = part-long xs (a - starts.first) size hi in
          let z : length x ≡ size = ap length e ∙ l in
          absurd (omega (arith, z))
      go false t e = refl

pub ruleset entry_ways = (entry_first, entry-second)

-- whether an entry lies in a window, by its offset and the window's room
pub offset-within : (start len a size d r : ℕ) → 0 < size → start + len ≤ 2 ^ 64 → d < 2 ^ 64 → (d + start) % 2 ^ 64 ≡ a → r ≡ len + 1 - size → ltb d r ≡ inside start len a size
offset-within start len a size d r some end hd e hr = go (ltb d r) refl
  where
    outside : r ≤ d → (b : Bool) → inside start len a size ≡ b → false ≡ b
    outside h false t = refl
    outside h true t = let lo = held_low start len a size true (sym t) refl in let hi = held_high start len a size true (sym t) refl in absurd (omega (arith, e, hr))

    go : (b : Bool) → ltb d r ≡ b → b ≡ inside start len a size
    go true t =
        let h = ltb-true d r t in
        let lo : start ≤ a = omega (arith, e, hr) in
        let hi : a + size ≤ start + len = omega (arith, e, hr) in
        simp (le-leb start a lo, le-leb (a + size) (start + len) hi)
    go false t = outside (ltb-false d r t) (inside start len a size) refl
