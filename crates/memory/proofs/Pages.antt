-- Windows are whole pages: an entry, or a file, lies whole in one window or in none. Assumes nothing.
use Rattle.std.proofs.Common.{◌≡◌, ℕ, ◌+◌, ◌*◌, ◌/◌, ◌%◌, ◌<◌, ◌≤◌, Bool, true, false, ◌&&◌, leb, List, length, sym, refl, ap, ◌∙◌, ap₂, mul_assoc, mul-le-mul_left, mul-one, mul-add, arith, le-leb, leb-false, leb-true}
use Rattle.memory.specs.Window.{inside, doubleword, lent, holds, part_of, memory}
use Rattle.memory.specs.Code.{Paged}
use Rattle.memory.specs.declared.Starts.{Starts}
use Rattle.std.specs.Prelude.{Some, None}
use Rattle.memory.proofs.Loads.{whole_word, whole-none}

leb-same : (a b c d : ℕ) → (a ≤ b → c ≤ d) → (c ≤ d → a ≤ b) → leb a b ≡ leb c d
leb-same a b c d f g = go (leb a b) refl
  where
    go : (t : Bool) → leb a b ≡ t → t ≡ leb c d
    go true e = sym (le-leb c d (f (leb-true a b e)))
    go false e = back (leb c d) refl
      where
        back : (u : Bool) → leb c d ≡ u → false ≡ u
        back false h = refl
        back true h = let p = leb-false a b e in let q = g (leb-true c d h) in absurd (omega arith)

-- a multiple of u that is at most another and a part of u is at most that other
step : (u s i k : ℕ) → k < u → u * s ≤ u * i + k → u * s ≤ u * i
step u s i k h le = go (leb s i) refl
  where
    go : (t : Bool) → leb s i ≡ t → u * s ≤ u * i
    go true e = mul-le-mul_left u (leb-true s i e)
    go false e =
        let less = leb-false s i e in
        let more : i + 1 ≤ s = omega arith in
        let p = mul-le-mul_left u more in
        let d : u * (i + 1) ≡ u * i + u = mul-add u i 1 ∙ ap (λ n. u * i + n) (mul-one u) in
        absurd (omega arith)

-- entries of `size` bytes, `c` of them a page; n of the bytes of entry i, from k on
module _ (size c : ℕ) (page : size * c ≡ 4096) (start len i k n : ℕ) (hs : start % 4096 ≡ 0) (hl : len % 4096 ≡ 0) (some : 0 < n) (room : k + n ≤ size) where
  multiple : (x : ℕ) → x % 4096 ≡ 0 → x ≡ size * (c * (x / 4096))
  multiple x h = let e : x ≡ 4096 * (x / 4096) = omega arith in e ∙ ap (λ p. p * (x / 4096)) (sym page) ∙ mul_assoc size c (x / 4096)

  -- they lie in a window exactly when the whole entry does
  pub whole : inside start len (size * i + k) n ≡ inside start len (size * i) size
  whole = ap₂ (λ p q. p && q) low high
    where
      low : leb start (size * i + k) ≡ leb start (size * i)
      low =
          leb-same start (size * i + k) start (size * i)
          (λ h. let e = multiple start hs in let p = step size (c * (start / 4096)) i k (omega arith) (omega arith) in omega arith)
          (λ h. omega arith)

      high : leb (size * i + k + n) (start + len) ≡ leb (size * i + size) (start + len)
      high =
          leb-same (size * i + k + n) (start + len) (size * i + size) (start + len)
          (λ h.
          let z : (start + len) % 4096 ≡ 0 = omega arith in
          let e = multiple (start + len) z in
          let d : size * (i + 1) ≡ size * i + size = mul-add size i 1 ∙ ap (λ m. size * i + m) (mul-one size) in
          end (leb (i + 1) (c * ((start + len) / 4096))) refl e d h)
          (λ h. omega arith)
        where
          end : (t : Bool) → leb (i + 1) (c * ((start + len) / 4096)) ≡ t → start + len ≡ size * (c * ((start + len) / 4096))
              → size * (i + 1) ≡ size * i + size → size * i + k + n ≤ start + len → size * i + size ≤ start + len
          end true t e d h = let p = mul-le-mul_left size (leb-true (i + 1) (c * ((start + len) / 4096)) t) in omega arith
          end false t e d h =
              let less = leb-false (i + 1) (c * ((start + len) / 4096)) t in
              let less1 : c * ((start + len) / 4096) ≤ i = omega arith in
              let p = mul-le-mul_left size less1 in absurd (omega arith)

-- the doublewords of an entry, in two windows of whole pages
module _ (starts : Starts) (xs ys : List ℕ) (paged : Paged starts (length xs) (length ys)) (size c : ℕ) (page : size * c ≡ 4096)
    (a i k : ℕ) (at : a ≡ size * i) (room : k + 8 ≤ size) where
  in_first_lem : holds (lent starts xs ys).first (a + k) 8 ≡ holds (lent starts xs ys).first a size
  in_first_lem =
      ap (λ b. inside starts.first (length xs) (b + k) 8) at ∙ whole size c page starts.first (length xs) i k 8 paged.0 paged.1 (omega arith) room
      ∙ ap (λ b. inside starts.first (length xs) b size) (sym at)

  in_second : holds (lent starts xs ys).second (a + k) 8 ≡ holds (lent starts xs ys).second a size
  in_second =
      ap (λ b. inside starts.second (length ys) (b + k) 8) at
      ∙ whole size c page starts.second (length ys) i k 8 paged.2 paged.3 (omega arith) room
      ∙ ap (λ b. inside starts.second (length ys) b size) (sym at)

  pub paged-word : size ≤ length (part_of (lent starts xs ys) a size) → Some (doubleword (part_of (lent starts xs ys) a size) k) ≡ memory (lent starts xs ys) (a + k)
  paged-word h = whole_word (lent starts xs ys) a size (a + k) k refl room in_first_lem in_second h

  pub paged-none : length (part_of (lent starts xs ys) a size) < size → None ≡ memory (lent starts xs ys) (a + k)
  paged-none h = whole-none (lent starts xs ys) a size (a + k) k refl room in_first_lem in_second h
