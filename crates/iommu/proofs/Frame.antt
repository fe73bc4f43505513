-- The frame law of a request: its answer, and what it reads, come from the doublewords that it reads alone, in windows of the same places and lengths. Assumes nothing.
use Prim.Native.Nat.{ℕ, ◌+◌, ◌-◌, ◌<◌}
use mathlib.Core.Bool.{Bool, true, false}
use mathlib.Core.List.{List, [], ◌∷◌}
use mathlib.Core.Path.{◌≡◌, refl, sym, ap, ap₂, ◌∙◌}
use native.Mathlib.Omega.{arith}
use borrow.Author.Tests.{leb-true}
use lib.Dec.{leb}
use lib.ListN.{length, get_or}
use Rattle.std.specs.Prelude.{Result, Ok, Err, None, Some}
use Rattle.memory.specs.Choice.{pick}
use Rattle.memory.specs.Load.{Load}
use Rattle.memory.specs.declared.Starts.{Starts}
use Rattle.memory.specs.Window.{inside, doubleword, window_at, lent, load_in, memory}
use Rattle.memory.specs.Walk.{run, trace}
use Rattle.memory.proofs.Truth.{and_true}
use Rattle.memory.proofs.Loads.{same-doubleword}
use Rattle.memory.proofs.Walks.{Agree, nil, cons, run_agree, trace-agree}
use Rattle.refusal.specs.declared.Refusal.{Refusal}
use Rattle.refusal.specs.Checks.{unless_refused}
use Rattle.iommu_refusals.specs.declared.Settings.{Settings}
use Rattle.iommu_refusals.specs.declared.DeviceRequest.{DeviceRequest}
use Rattle.iommu_refusals.specs.Refusals.{request_refusal}
use Rattle.iommu_translation.specs.Translate.{OutcomeFound}
use Rattle.iommu_translation.specs.Translate.{translate_of}
use Rattle.iommu_files.specs.declared.Answer.{Answer}
use Rattle.iommu_files.specs.Answers.{refused}
use Rattle.iommu.specs.Request.{finish, request_of, reads_of, SameIn, SameAt}

-- one window: a load of it, or what the other gives
module _ (start : ℕ) (us vs : List ℕ) (long : length us ≡ length vs) (p : ℕ) (h : SameIn (window_at start us) (window_at start vs) p) where
  same_word : inside start (length us) p 8 ≡ true → doubleword us (p - start) ≡ doubleword vs (p - start)
  same_word e = same-doubleword us vs (p - start) (p - start) byte
    where
      byte : (k : ℕ) → k < 8 → get_or us (p - start + k) 0 ≡ get_or vs (p - start + k) 0
      byte k l =
          let lo = leb-true start p (and_true (leb start p) _ e).0 in
          let i : p + k - start ≡ p - start + k = omega arith in
          ap (λ n. get_or us n 0) (sym i) ∙ h e k l ∙ ap (λ n. get_or vs n 0) i

  same_in : (x y : Load) → x ≡ y → load_in (window_at start us) p x ≡ load_in (window_at start vs) p y
  same_in x y e = go (inside start (length us) p 8) refl ∙ ap (λ (n : ℕ). pick (inside start n p 8) (Some (doubleword vs (p - start))) y) long
    where
      go : (b : Bool) → inside start (length us) p 8 ≡ b → pick b (Some (doubleword us (p - start))) x ≡ pick b (Some (doubleword vs (p - start))) y
      go true t = ap Some (same_word t)
      go false t = e

module _ (starts : Starts) (us vs xs ys : List ℕ) (p : length us ≡ length xs) (q : length vs ≡ length ys) where
  same_load : (a : ℕ) → SameIn (window_at starts.first us) (window_at starts.first xs) a → SameIn (window_at starts.second vs) (window_at starts.second ys) a
      → memory (lent starts us vs) a ≡ memory (lent starts xs ys) a
  unfolding memory
  same_load a h k = same_in starts.first us xs p a h _ _ (same_in starts.second vs ys q a k None None refl)

  agree : (ps : List ℕ) → SameAt (lent starts us vs) (lent starts xs ys) ps → Agree (memory (lent starts us vs)) (memory (lent starts xs ys)) ps
  agree [] h = nil
  agree (a ∷ ps) h = cons (same_load a h.0 h.1) (agree ps h.2)

-- THE FRAME LAW
module _ (s : Settings) (us vs xs ys : List ℕ) (q : DeviceRequest) (d : ℕ) (long : length us ≡ length xs) (wide : length vs ≡ length ys) where
  abbrev old : ℕ → Load
  old = memory (lent s.starts us vs)

  abbrev new : ℕ → Load
  new = memory (lent s.starts xs ys)

  abbrev ends : (ℕ → Load) → ℕ → ℕ → Result (Unit {0}) Refusal → Answer
  ends m n k r = unless_refused r refused (finish s.starts n k q d (run m (translate_of s q)))

  by_refusal : (r : Result (Unit {0}) Refusal) → SameAt (lent s.starts us vs) (lent s.starts xs ys) (unless_refused r (λ k. []) (trace old (translate_of s q)))
      → (ends old (length us) (length vs) r ≡ ends new (length xs) (length ys) r)
      × (unless_refused r (λ k. []) (trace old (translate_of s q)) ≡ unless_refused r (λ k. []) (trace new (translate_of s q)))
  by_refusal (Ok u) g =
      let a = agree s.starts us vs xs ys long wide _ g in (
        ap₂ (λ (n : ℕ) (o : OutcomeFound). finish s.starts n (length vs) q d o) long (run_agree old new (translate_of s q) a)
            ∙ ap (λ (n : ℕ). finish s.starts (length xs) n q d (run new (translate_of s q))) wide,
        trace-agree old new (translate_of s q) a,
      )
  by_refusal (Err r) g = (refl, refl)

  pub request-frame : SameAt (lent s.starts us vs) (lent s.starts xs ys) (reads_of s us vs q)
      → (request_of s us vs q d ≡ request_of s xs ys q d) × (reads_of s us vs q ≡ reads_of s xs ys q)
  unfolding request_of reads_of
  request-frame h =
      let p = by_refusal (request_refusal s (length us) (length vs) q) h in
      let same : request_refusal s (length us) (length vs) q ≡ request_refusal s (length xs) (length ys) q = ap₂ (λ (n k : ℕ). request_refusal s n k q) long wide in (
        p.0 ∙ ap (ends new (length xs) (length ys)) same,
        p.1 ∙ ap (λ (r : Result (Unit {0}) Refusal). unless_refused r (λ k. []) (trace new (translate_of s q))) same,
      )
