-- The device context's checks, by the groups that the code makes of them. Assumes nothing.
use Prim.Native.Nat.{ℕ, ◌%◌}
use mathlib.Core.Bool.{Bool, true, false, ◌&&◌, not, ◌||◌}
use mathlib.Core.List.{List, [], ◌∷◌, ◌++◌}
use mathlib.Core.Path.{◌≡◌, refl, sym, ap, ◌∙◌}
use native.Mathlib.Omega.{arith}
use borrow.Author.Tests.{le-leb, eqb-true, not-false}
use lib.Dec.{eqb, ltb, leb}
use Rattle.memory.specs.Choice.{any}
use Rattle.memory.specs.Bits.{bits, any_set}
use Rattle.memory.proofs.Tests.{less_is, or3, or_list}
use Rattle.directory_entry.specs.Fields.{root_mode_of, root_page_of, bare_of, scheme_mode, valid_mode}
use Rattle.directory_context.specs.declared.DeviceContext.{DeviceContext}
use Rattle.directory_context.specs.Device.{pdtv, dpe, guest_page_bits, device_misconfigured}
use Rattle.directory_context.specs.Code.{control_tests, table_tests, first_tests, second_tests}

module _ (c : DeviceContext) where
  -- the list is the groups together
  pub device_checks : (x y z u : Bool) → x ≡ any (control_tests c) → y ≡ any (table_tests c) → z ≡ any (first_tests c) → u ≡ any (second_tests c) → (((x || y) || z) || u) ≡ device_misconfigured c
  unfolding device_misconfigured
  device_checks x y z u p q r s =
      or_list ((control_tests c ++ table_tests c) ++ first_tests c) (second_tests c)
      (or_list (control_tests c ++ table_tests c) (first_tests c) (or_list (control_tests c) (table_tests c) p q) r)
      s

  -- by PDTV, then DPE
  module _ (p : Bool) (hp : p ≡ pdtv c) where
    abbrev firsts : Bool → Bool → Bool → Bool → Bool
    firsts q l v d = any ((q && not l) ∷ (not q && not v) ∷ (not q && d) ∷ [])

    by-pdtv : {q x : Bool} → p ≡ q → x ≡ firsts q (leb (root_mode_of c.fsc) 3) (valid_mode c.fsc) (dpe c) → x ≡ any (first_tests c)
    by-pdtv t h = h ∙ ap (λ q. firsts q (leb (root_mode_of c.fsc) 3) (valid_mode c.fsc) (dpe c)) (sym t ∙ hp)

    pub first-process : (v : ℕ) → p ≡ true → v ≡ root_mode_of c.fsc → ltb 3 v ≡ any (first_tests c)
    first-process v t h = by-pdtv t (less_is 3 v ∙ ap (λ n. not (leb n 3)) h ∙ go (not (leb (root_mode_of c.fsc) 3)))
      where
        go : (a : Bool) → a ≡ any ((true && a) ∷ false ∷ false ∷ [])
        go true = refl
        go false = refl

    pub first-dpe : (d : Bool) → p ≡ false → d ≡ dpe c → d ≡ true → true ≡ any (first_tests c)
    first-dpe d t h s = by-pdtv t (go (valid_mode c.fsc) ∙ ap (λ e. firsts false (leb (root_mode_of c.fsc) 3) (valid_mode c.fsc) e) (sym s ∙ h))
      where
        go : (v : Bool) → true ≡ any (false ∷ not v ∷ true ∷ [])
        go true = refl
        go false = refl

    pub first-mode : (d v : Bool) → p ≡ false → d ≡ dpe c → d ≡ false → v ≡ valid_mode c.fsc → not v ≡ any (first_tests c)
    first-mode d v t h s k =
        by-pdtv t (ap not k ∙ go (not (valid_mode c.fsc)) ∙ ap (λ e. firsts false (leb (root_mode_of c.fsc) 3) (valid_mode c.fsc) e) (sym s ∙ h))
      where
        go : (a : Bool) → a ≡ any (false ∷ a ∷ false ∷ [])
        go true = refl
        go false = refl

  -- by iohgatp's mode
  module _ (b : Bool) (hb : b ≡ bare_of c.iohgatp) where
    abbrev seconds : Bool → Bool
    seconds q =
        any
        (not (q || scheme_mode (root_mode_of c.iohgatp))
        ∷ not (leb (root_mode_of c.msiptp) 1)
        ∷ (not q && not (eqb (root_page_of c.iohgatp % 4) 0))
        ∷ (q && not (bare_of c.msiptp))
        ∷ [])

    by_bare : {q x : Bool} → b ≡ q → x ≡ seconds q → x ≡ any (second_tests c)
    by_bare t h = h ∙ ap seconds (sym t ∙ hb)

    pub second-off : (n : Bool) → b ≡ true → n ≡ bare_of c.msiptp → not n ≡ any (second_tests c)
    second-off n t h = by_bare t (ap not h ∙ go (bare_of c.msiptp) (leb (root_mode_of c.msiptp) 1) off)
      where
        off : bare_of c.msiptp ≡ true → leb (root_mode_of c.msiptp) 1 ≡ true
        off e = le-leb (root_mode_of c.msiptp) 1 (let z : root_mode_of c.msiptp ≡ 0 = eqb-true (root_mode_of c.msiptp) 0 e in omega arith)

        go : (n l : Bool) → (n ≡ true → l ≡ true) → not n ≡ any (false ∷ not l ∷ false ∷ not n ∷ [])
        go true l f = ap (λ k. any (false ∷ not k ∷ false ∷ false ∷ [])) (sym (f refl))
        go false true f = refl
        go false false f = refl

    pub second-on : (v : Bool) (k p : ℕ) → b ≡ false → v ≡ valid_mode c.iohgatp → k ≡ root_mode_of c.msiptp → p ≡ root_page_of c.iohgatp → ((not v || ltb 1 k) || not (eqb (p % 4) 0)) ≡ any (second_tests c)
    second-on v k p t hv hk hp =
        by_bare t
        (or3 (ap not hv ∙ ap (λ q. not (q || scheme_mode (root_mode_of c.iohgatp))) (sym hb ∙ t)) (less_is 1 k ∙ ap (λ n. not (leb n 1)) hk) (ap (λ n. not (eqb (n % 4) 0)) hp))

pub ruleset device_tests = (device_checks, first-process, first-dpe, first-mode, second-off, second-on)

-- where no test of a list holds, none of its parts has one that does
clear : (xs ys : List Bool) → any (xs ++ ys) ≡ false → (any xs ≡ false) × (any ys ≡ false)
clear [] ys e = (refl, e)
clear (true ∷ xs) ys e = let z : ◌≡◌ {A = ℕ} 0 1 = cc in absurd (omega arith)
clear (false ∷ xs) ys e = clear xs ys e

third : (a b x : Bool) (xs : List Bool) → any (a ∷ b ∷ x ∷ xs) ≡ false → x ≡ false
third a b true xs e = (clear (a ∷ b ∷ []) (true ∷ xs) e).1
third a b false xs e = refl

-- a context that passes has no mask bit above those of a guest page number
pub mask-small : (c : DeviceContext) (q : Bool) → q ≡ device_misconfigured c → q ≡ false → bits c.mask 63 guest_page_bits ≡ 0
unfolding device_misconfigured
mask-small c q h t =
    let e = (clear (control_tests c) (table_tests c) (clear (control_tests c ++ table_tests c) (first_tests c ++ second_tests c) (sym h ∙ t)).0).1 in
    eqb-true (bits c.mask 63 guest_page_bits) 0
    (not-false (eqb (bits c.mask 63 guest_page_bits) 0)
    (third (any_set c.fsc 59 44) (any_set c.msiptp 59 44) (any_set c.mask 63 guest_page_bits) (any_set c.pattern 63 guest_page_bits ∷ any_set c.reserved 63 0 ∷ []) e))
