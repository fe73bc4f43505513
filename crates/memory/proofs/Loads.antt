-- An entry's bytes and the doublewords in them, over both windows. Assumes nothing.
use Rattle.std.proofs.Common.{◌≡◌, ℕ, ◌+◌, ◌-◌, ◌/◌, ◌%◌, ◌^◌, ◌<◌, ◌≤◌, Bool, true, false, ltb, leb, List, [], ◌∷◌, length, get_or, take, drop, set, sym, refl, ap, ◌∙◌, subst, ap₂, add-zero, arith, length-drop, length-take-le, get_or-drop, get_or-take, ltb-false, ltb-true, leb-true}
use Rattle.memory.specs.Choice.{pick}
use Rattle.memory.specs.Window.{inside, doubleword, Window, Lent, lent, holds, part_of, memory}
use Rattle.memory.specs.Code.{eight, load_of}
use Rattle.memory.specs.declared.Starts.{Starts}
use Rattle.memory.specs.Load.{Load}
use Rattle.std.specs.Prelude.{Some, None}
use Rattle.memory.proofs.Truth.{and_true}

-- what a test that holds says of a part's ends
module _ (start len a size : ℕ) (b : Bool) (hb : b ≡ inside start len a size) (t : b ≡ true) where
  both : (leb start a ≡ true) × (leb (a + size) (start + len) ≡ true)
  both = and_true (leb start a) (leb (a + size) (start + len)) (sym hb ∙ t)

  pub held_low : start ≤ a
  held_low = leb-true start a both.0

  pub held_high : a - start + size ≤ len
  held_high = let lo = held_low in let hi = leb-true (a + size) (start + len) both.1 in omega arith

  pub held_fits : len < 2 ^ 64 → a - start + size < 2 ^ 64
  held_fits f = let h = held_high in omega arith

-- the bytes of a doubleword, wherever they stand
pub same-doubleword : (xs ys : List ℕ) (i j : ℕ) → ((k : ℕ) → k < 8 → get_or xs (i + k) 0 ≡ get_or ys (j + k) 0) → doubleword xs i ≡ doubleword ys j
same-doubleword xs ys i j h =
    let b0 : get_or xs i 0 ≡ get_or ys j 0 = ap (λ n. get_or xs n 0) (sym (add-zero i)) ∙ h 0 (omega arith) ∙ ap (λ n. get_or ys n 0) (add-zero j) in
    rw (b0, h 1 (omega arith), h 2 (omega arith), h 3 (omega arith), h 4 (omega arith), h 5 (omega arith), h 6 (omega arith), h 7 (omega arith))

-- eight bytes that are each written, one after another
pub eight-put : (xs : List ℕ) (v : ℕ) → length xs ≡ 8
    → set (set (set (set (set (set (set (set xs 0 (v % 256)) 1 (v / 2 ^ 8 % 256)) 2 (v / 2 ^ 16 % 256)) 3 (v / 2 ^ 24 % 256)) 4 (v / 2 ^ 32 % 256)) 5 (v / 2 ^ 40 % 256)) 6 (v / 2 ^ 48 % 256)) 7 (v / 2 ^ 56 % 256)
    ≡ eight v
unfolding eight
eight-put (a ∷ b ∷ c ∷ d ∷ e ∷ f ∷ g ∷ h ∷ []) v l = refl
eight-put [] v l = absurd (omega arith)
eight-put (a ∷ []) v l = absurd (omega arith)
eight-put (a ∷ b ∷ []) v l = absurd (omega arith)
eight-put (a ∷ b ∷ c ∷ []) v l = absurd (omega arith)
eight-put (a ∷ b ∷ c ∷ d ∷ []) v l = absurd (omega arith)
eight-put (a ∷ b ∷ c ∷ d ∷ e ∷ []) v l = absurd (omega arith)
eight-put (a ∷ b ∷ c ∷ d ∷ e ∷ f ∷ []) v l = absurd (omega arith)
eight-put (a ∷ b ∷ c ∷ d ∷ e ∷ f ∷ g ∷ []) v l = absurd (omega arith)
eight-put (a ∷ b ∷ c ∷ d ∷ e ∷ f ∷ g ∷ h ∷ i ∷ xs) v l = absurd (omega arith)

-- a doubleword of an entry is one of the window
pub part-word : (xs : List ℕ) (i size k : ℕ) → k + 8 ≤ size → doubleword (take size (drop i xs)) k ≡ doubleword xs (i + k)
part-word xs i size k room = same-doubleword (take size (drop i xs)) xs k (i + k) byte
  where
    byte : (n : ℕ) → n < 8 → get_or (take size (drop i xs)) (k + n) 0 ≡ get_or xs (i + k + n) 0
    byte n h =
        get_or-take size (drop i xs) (k + n) 0 (omega arith) ∙ get_or-drop i xs (k + n) 0
        ∙ ap (λ m. get_or xs m 0) (let e : i + (k + n) ≡ i + k + n = omega arith in e)

pub part-long : (xs : List ℕ) (i size : ℕ) → i + size ≤ length xs → length (take size (drop i xs)) ≡ size
part-long xs i size h = length-take-le size (drop i xs) (let d = length-drop i xs in omega arith)

-- the doubleword at an address b in an entry at a, where each window that has it has the whole entry
module _ (l : Lent) (a size b k : ℕ) (place : b ≡ a + k) (room : k + 8 ≤ size)
    (f : holds l.first b 8 ≡ holds l.first a size) (g : holds l.second b 8 ≡ holds l.second a size) where
  abbrev cut : Window → List ℕ
  cut w = take size (drop (a - w.start) w.bytes)

  abbrev at : Window → Load
  at w = Some (doubleword w.bytes (b - w.start))

  word : (w : Window) → holds w a size ≡ true → Some (doubleword (cut w) k) ≡ at w
  word w h =
      let lo = held_low w.start (length w.bytes) a size true (sym h) refl in
      let e : a - w.start + k ≡ b - w.start = omega arith in
      ap Some (part-word w.bytes (a - w.start) size k room ∙ ap (doubleword w.bytes) e)

  long : (w : Window) → holds w a size ≡ true → length (cut w) ≡ size
  long w h = part-long w.bytes (a - w.start) size (held_high w.start (length w.bytes) a size true (sym h) refl)

  by_both : {x : Load} → x ≡ pick (holds l.first a size) (at l.first) (pick (holds l.second a size) (at l.second) None) → x ≡ memory l b
  unfolding memory
  by_both e = e ∙ sym (ap₂ (λ p q. pick p (at l.first) (pick q (at l.second) None)) f g)

  pub whole_word : size ≤ length (part_of l a size) → Some (doubleword (part_of l a size) k) ≡ memory l b
  unfolding part_of
  whole_word h = by_both (go (holds l.first a size) (holds l.second a size) refl refl h)
    where
      go : (p q : Bool) → holds l.first a size ≡ p → holds l.second a size ≡ q → size ≤ length (pick p (cut l.first) (pick q (cut l.second) []))
          → Some (doubleword (pick p (cut l.first) (pick q (cut l.second) [])) k) ≡ pick p (at l.first) (pick q (at l.second) None)
      go true q hp hq n = word l.first hp
      go false true hp hq n = word l.second hq
      go false false hp hq n = absurd (omega arith)

  pub whole-none : length (part_of l a size) < size → None ≡ memory l b
  unfolding part_of
  whole-none h = by_both (go (holds l.first a size) (holds l.second a size) refl refl h)
    where
      go : (p q : Bool) → holds l.first a size ≡ p → holds l.second a size ≡ q → length (pick p (cut l.first) (pick q (cut l.second) [])) < size
          → None ≡ pick p (at l.first) (pick q (at l.second) None)
      go true q hp hq n = let e = long l.first hp in absurd (omega arith)
      go false true hp hq n = let e = long l.second hq in absurd (omega arith)
      go false false hp hq n = refl

-- a load, by its part of eight bytes
module _ (l : Lent) (a : ℕ) (e : List ℕ) (he : e ≡ part_of l a 8) where
  same : a ≡ a + 0
  same = sym (add-zero a)

  pub load_part : (v : Load) → v ≡ load_of e → v ≡ memory l a
  load_part v hv = hv ∙ go (ltb (length e) 8) refl
    where
      go : (b : Bool) → ltb (length e) 8 ≡ b → pick b None (Some (doubleword e 0)) ≡ memory l a
      go true t = whole-none l a 8 a 0 same (omega arith) refl refl (subst (λ (x : List ℕ). length x < 8) he (ltb-true (length e) 8 t))
      go false t =
          ap (λ x. Some (doubleword x 0)) he ∙ whole_word l a 8 a 0 same (omega arith) refl refl (subst (λ (x : List ℕ). 8 ≤ length x) he (ltb-false (length e) 8 t))

-- the part has all its bytes where a window holds them
module _ (starts : Starts) (xs ys : List ℕ) (a size : ℕ) where
  pub part-long-first : inside starts.first (length xs) a size ≡ true → length (part_of (lent starts xs ys) a size) ≡ size
  unfolding part_of
  part-long-first e = simp e (part-long xs (a - starts.first) size (held_high starts.first (length xs) a size true (sym e) refl))

  pub part-long-second : inside starts.first (length xs) a size ≡ false → inside starts.second (length ys) a size ≡ true
      → length (part_of (lent starts xs ys) a size) ≡ size
  unfolding part_of
  part-long-second f e = simp (f, e) (part-long ys (a - starts.second) size (held_high starts.second (length ys) a size true (sym e) refl))
