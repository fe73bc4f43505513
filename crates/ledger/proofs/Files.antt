-- The list of all files of both windows: they are different, they are files of what is lent, and every file is among them. Assumes nothing.
use Prim.Native.Nat.{ℕ, zero, suc, ◌+◌, ◌-◌, ◌*◌, ◌/◌, ◌%◌, ◌≤◌, ◌<◌}
use mathlib.Core.Path.{◌≡◌, refl, sym, ap, subst, ◌∙◌}
use mathlib.Core.List.{List, [], ◌∷◌, ◌++◌}
use mathlib.Core.Bool.{Bool, true, false, ◌&&◌, ◌||◌}
use native.Mathlib.Omega.{arith}
use native.Mathlib.Decide.{ℕ_discrete}
use borrow.Author.Tests.{eq-eqb, ne_eqb}
use lib.Dec.{eqb}
use lib.ListN.{length}
use Rattle.memory.specs.Window.{Lent}
use Rattle.interrupt_file.proofs.Files.{file-at, is_file_lem}
use Rattle.ledger.specs.Places.{Side, first_window, second_window, window_of, Place, place, same_side, same_place, lies_in, is_place}
use Rattle.ledger.specs.Sums.{listed, among, Different, Places}
use Rattle.ledger.specs.Whole.{files_from, first_file, window_files, all_files}
use Rattle.memory.proofs.Truth.{true-false}

and_no : (b : Bool) → (b && false) ≡ false
and_no true = refl
and_no false = refl

module _ (s : Side) where
  below : (x a k : ℕ) → x < a → listed (files_from s a k) (place s x) ≡ false
  unfolding files_from
  below x a zero l = refl
  below x a (suc k) l = rw (ne_eqb x a (λ e. omega arith), and_no (same_side s s)) (below x (a + 512) k (omega arith))

  from_different : (a k : ℕ) → Different (files_from s a k)
  unfolding files_from
  from_different a zero = tt
  from_different a (suc k) = (below a (a + 512) k (omega arith), from_different (a + 512) k)

  from_all : (file a k : ℕ) → file % 512 ≡ 0 → a % 512 ≡ 0 → a ≤ file → file < a + k * 512 → among (files_from s a k) file ≡ true
  unfolding files_from
  from_all file a zero f p q r = absurd (omega arith)
  from_all file a (suc k) f p q r = go (λ h. from_all file (a + 512) k f (omega arith) h (omega arith)) (ℕ_discrete file a)
    where
      go : (a + 512 ≤ file → among (files_from s (a + 512) k) file ≡ true) → Dec (file ≡ a) → eqb file a || among (files_from s (a + 512) k) file ≡ true
      go ih (yes e) = rw (eq-eqb file a e)
      go ih (no d) = rw (ne_eqb file a d) (ih (next file a f p q d))
        where
          next : (file a : ℕ) → file % 512 ≡ 0 → a % 512 ≡ 0 → a ≤ file → (file ≡ a → ⊥) → a + 512 ≤ file
          next file a f p q d = omega arith

  -- of a window w of what is lent
  module _ (l : Lent) where
    abbrev start : ℕ
    start = (window_of l s).start

    abbrev len : ℕ
    len = length (window_of l s).bytes

    from_files : (a k : ℕ) → a % 512 ≡ 0 → start ≤ a → k * 512 ≤ start + len - a → Places l (files_from s a k)
    unfolding files_from
    from_files a zero p q r = tt
    from_files a (suc k) p q r =
        (sym (is_file_lem (record { aligned = p; after = q; within = omega arith })), from_files (a + 512) k (omega arith) (omega arith) (omega arith))

    first-aligned : first_file start % 512 ≡ 0
    unfolding first_file
    first-aligned = omega arith

    first-after : start ≤ first_file start
    unfolding first_file
    first-after = omega arith

    first-least : (file : ℕ) → file % 512 ≡ 0 → start ≤ file → first_file start ≤ file
    unfolding first_file
    first-least file f h = omega arith

    window_different : Different (window_files s start len)
    unfolding window_files
    window_different = from_different (first_file start) ((start + len - first_file start) / 512)

    window_files_lem : Places l (window_files s start len)
    unfolding window_files
    window_files_lem = from_files (first_file start) ((start + len - first_file start) / 512) first-aligned first-after (omega arith)

    window-all : (file : ℕ) → lies_in (window_of l s) file ≡ true → among (window_files s start len) file ≡ true
    unfolding window_files
    window-all file h =
        let f = file-at h in
        from_all file (first_file start) ((start + len - first_file start) / 512) f.aligned first-aligned
        (first-least file f.aligned f.after) (last-file (start + len) (first_file start) file f.within)
      where
        last-file : (end first file : ℕ) → file + 512 ≤ end → file < first + (end - first) / 512 * 512
        last-file end first file h = omega arith

-- two lists as one
places_append : (l : Lent) (ps qs : List Place) → Places l ps → Places l qs → Places l (ps ++ qs)
places_append l [] qs v w = w
places_append l (p ∷ ps) qs v w = (v.0, places_append l ps qs v.1 w)

among_append : (ps qs : List Place) (file : ℕ) → among (ps ++ qs) file ≡ (among ps file || among qs file)
among_append [] qs file = refl
among_append (p ∷ ps) qs file = ap (λ (b : Bool). eqb file p.file || b) (among_append ps qs file) ∙ or_assoc (eqb file p.file) (among ps file) (among qs file)
  where
    or_assoc : (a b c : Bool) → (a || (b || c)) ≡ ((a || b) || c)
    or_assoc true b c = refl
    or_assoc false b c = refl

-- all of one side
abbrev Sided : Side → List Place → Type 0
Sided s [] = Unit {0}
Sided s (p ∷ ps) = (p.side ≡ s) × Sided s ps

from_sided : (s : Side) (a k : ℕ) → Sided s (files_from s a k)
unfolding files_from
from_sided s a zero = tt
from_sided s a (suc k) = (refl, from_sided s (a + 512) k)

-- a file of the first window is none of a list of the second's
elsewhere-at : (file : ℕ) (qs : List Place) → Sided second_window qs → listed qs (place first_window file) ≡ false
elsewhere-at file [] w = refl
elsewhere-at file (q ∷ qs) w = rw w.0 (elsewhere-at file qs w.1)

elsewhere : (p : Place) (qs : List Place) → p.side ≡ first_window → Sided second_window qs → listed qs p ≡ false
elsewhere p qs e w = subst (λ (s : Side). listed qs (place s p.file) ≡ false) (sym e) (elsewhere-at p.file qs w)

listed_append : (ps qs : List Place) (p : Place) → listed ps p ≡ false → listed qs p ≡ false → listed (ps ++ qs) p ≡ false
listed_append [] qs p e f = f
listed_append (r ∷ ps) qs p e f = go (same_place p r) (listed ps p) refl refl e (λ h. listed_append ps qs p h f)
  where
    go : (a b : Bool) → same_place p r ≡ a → listed ps p ≡ b → (a || b) ≡ false → (listed ps p ≡ false → listed (ps ++ qs) p ≡ false) → (same_place p r || listed (ps ++ qs) p) ≡ false
    go true b x y z ih = absurd (true-false z)
    go false true x y z ih = absurd (true-false z)
    go false false x y z ih = rw x (ih y)

sides_different : (ps qs : List Place) → Sided first_window ps → Sided second_window qs → Different ps → Different qs → Different (ps ++ qs)
sides_different [] qs v w d e = e
sides_different (p ∷ ps) qs v w d e = (listed_append ps qs p d.0 (elsewhere p qs v.0 w), sides_different ps qs v.1 w d.1 e)

window_sided : (s : Side) (start len : ℕ) → Sided s (window_files s start len)
unfolding window_files
window_sided s start len = from_sided s (first_file start) ((start + len - first_file start) / 512)

module _ (l : Lent) where
  abbrev ones : List Place
  ones = window_files first_window l.first.start (length l.first.bytes)

  abbrev twos : List Place
  twos = window_files second_window l.second.start (length l.second.bytes)

  pub files_different : Different (all_files l)
  unfolding all_files
  files_different =
      sides_different ones twos (window_sided first_window l.first.start (length l.first.bytes)) (window_sided second_window l.second.start (length l.second.bytes)) (window_different first_window l) (window_different second_window l)

  pub files_are : Places l (all_files l)
  unfolding all_files
  files_are = places_append l ones twos (window_files_lem first_window l) (window_files_lem second_window l)

  pub files_all : (p : Place) → is_place l p ≡ true → among (all_files l) p.file ≡ true
  unfolding all_files
  files_all p h = among_append ones twos p.file ∙ go p.side h
    where
      or_true : (b : Bool) → (b || true) ≡ true
      or_true true = refl
      or_true false = refl

      go : (s : Side) → lies_in (window_of l s) p.file ≡ true → (among ones p.file || among twos p.file) ≡ true
      go first_window k = rw (window-all first_window l p.file k)
      go second_window k = rw (window-all second_window l p.file k) (or_true (among ones p.file))
