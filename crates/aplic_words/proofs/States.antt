-- What a change of lent words makes of the table that they stand for. Assumes nothing.
use mathlib.Core.Path.{◌≡◌, refl, sym, ap, ap₂, ◌∙◌, fun_ext}
use mathlib.Core.Bool.{Bool, true, false}
use mathlib.Core.List.{List, [], ◌∷◌}
use Prim.Native.Nat.{ℕ, zero, suc, ◌+◌, ◌*◌, ◌%◌, ◌<◌, ◌≤◌}
use native.Mathlib.Nat.{mod-eq_of_lt}
use native.Mathlib.Omega.{arith}
use borrow.Author.Tests.{eqb-true, eqb-false, lt-ltb, ltb-true}
use lib.Dec.{eqb, ltb}
use lib.ListN.{get_or, set, length, drop, replicate, length-replicate}
use lib.Seq.{get_or-set_same, get_or-set_other}
use Rattle.memory.specs.Choice.{pick}
use Rattle.memory.proofs.Choices.{pick_same, yes-is}
use Rattle.word.specs.Word.{is_source, digit}
use Rattle.word.proofs.Bits.{never, within, zero-digit}
use Rattle.hart.specs.declared.Hart.{Hart}
use Rattle.hart.specs.Hart.{resting}
use Rattle.hart.specs.Kept.{record_of, kept_of}
use Rattle.hart.proofs.Records.{same_record, record_small, record_rests}
use Rattle.source.specs.declared.Delivery.{Delivery}
use Rattle.source.specs.declared.Delivery.TheVariants.{Direct, Message}
use Rattle.source.specs.declared.Source.{Source}
use Rattle.source.specs.Source.{direct_of}
use Rattle.source.specs.Table.{quiet, start_of, act}
use Rattle.sources.specs.declared.Sources.{Sources}
use Rattle.sources.specs.Sources.{source_of, table_with, Acts}
use Rattle.aplic_calls.specs.Direct.{serves, with_hart}
use Rattle.aplic_calls.proofs.Tables.{same-table, acts-table}
use Rattle.aplic_calls.proofs.Claims.{serve_yes, serve_mode}
use Rattle.aplic_words.specs.State.{enable_in, sources_in, delivery_in, target_in, record_in, common_in, table_in, mode_word, made_of, with_sources}

-- ---- words
pub drop-set : (n k v : ℕ) (ws : List ℕ) → k < n → drop n (set ws k v) ≡ drop n ws
drop-set zero k v ws l = absurd (omega arith)
drop-set (suc n) k v [] l = refl
drop-set (suc n) zero v (w ∷ ws) l = refl
drop-set (suc n) (suc k) v (w ∷ ws) l = drop-set n k v ws (omega arith)

-- six words put, seen through a function f that no one of them changes
pub six : {B : Type 0} (f : List ℕ → B) → ((ws : List ℕ) (k v : ℕ) → k < 7 → f (set ws k v) ≡ f ws) → (ws : List ℕ) (s : Sources) → f (with_sources ws s) ≡ f ws
unfolding with_sources
six f h ws s =
    let a : List ℕ = set ws 1 s.wired in
    let b : List ℕ = set a 2 s.level in
    let c : List ℕ = set b 3 s.low in
    let d : List ℕ = set c 4 s.wires in
    let e : List ℕ = set d 5 s.pending in
    h e 6 s.enable (omega arith) ∙ h d 5 s.pending (omega arith) ∙ h c 4 s.wires (omega arith) ∙ h b 3 s.low (omega arith) ∙ h a 2 s.level (omega arith)
    ∙ h ws 1 s.wired (omega arith)

module _ (ws : List ℕ) (s : Sources) where
  pub put-beyond : drop 87 (with_sources ws s) ≡ drop 87 ws
  put-beyond = six (drop 87) (λ ws k v l. drop-set 87 k v ws (omega arith)) ws s

  kept_at : (i : ℕ) → 6 < i → get_or (with_sources ws s) i 0 ≡ get_or ws i 0
  kept_at i l = six (λ ws. get_or ws i 0) (λ ws k v h. get_or-set_other ws k i v 0 (λ e. omega arith)) ws s

  pub put_target_lem : (n : ℕ) → target_in (with_sources ws s) n ≡ target_in ws n
  unfolding target_in
  put_target_lem n = ap (λ (x : ℕ). x % 0x1_0000_0000) (kept_at (7 + n) (omega arith))

pub put-words : (ws : List ℕ) (s : Sources) → 87 ≤ length ws → (sources_in (with_sources ws s) ≡ s) × (enable_in (with_sources ws s) ≡ enable_in ws)
unfolding with_sources sources_in enable_in
put-words [] s l = absurd (omega arith)
put-words (a ∷ []) s l = absurd (omega arith)
put-words (a ∷ b ∷ []) s l = absurd (omega arith)
put-words (a ∷ b ∷ c ∷ []) s l = absurd (omega arith)
put-words (a ∷ b ∷ c ∷ d ∷ []) s l = absurd (omega arith)
put-words (a ∷ b ∷ c ∷ d ∷ e ∷ []) s l = absurd (omega arith)
put-words (a ∷ b ∷ c ∷ d ∷ e ∷ f ∷ []) s l = absurd (omega arith)
put-words (a ∷ b ∷ c ∷ d ∷ e ∷ f ∷ g ∷ ws) s l = (refl, refl)

-- ---- what the sources have in common is the same where its words are
abbrev harts : List ℕ → ℕ → Hart
harts ws h = pick (ltb h 16) (record_in ws h) resting

pub same-records : (ws vs : List ℕ) → ((h : ℕ) → h < 16 → get_or ws (71 + h) 0 ≡ get_or vs (71 + h) 0) → harts ws ≡ harts vs
unfolding record_in
same-records ws vs e = fun_ext (λ h. go h (ltb h 16) refl)
  where
    go : (h : ℕ) (b : Bool) → ltb h 16 ≡ b → pick b (record_in ws h) resting ≡ pick b (record_in vs h) resting
    go h true q = ap (λ (x : ℕ). record_of (x % 0x1_0000_0000)) (e h (ltb-true h 16 q))
    go h false q = refl

pub same_common : (ws vs : List ℕ) → enable_in ws ≡ enable_in vs → get_or ws 7 0 ≡ get_or vs 7 0 → ((h : ℕ) → h < 16 → get_or ws (71 + h) 0 ≡ get_or vs (71 + h) 0) → common_in ws ≡ common_in vs
unfolding delivery_in
same_common ws vs e m r =
    let h : harts ws ≡ harts vs = same-records ws vs r in
    let d : delivery_in ws ≡ delivery_in vs = ap (λ (x : ℕ). pick (eqb (x % 2) 1) Direct Message) m in
    rw (e, d, h)

pub put_common : (ws : List ℕ) (s : Sources) → 87 ≤ length ws → common_in (with_sources ws s) ≡ common_in ws
put_common ws s l = same_common (with_sources ws s) ws (put-words ws s l).1 (kept_at ws s 7 (omega arith)) (λ h k. kept_at ws s (71 + h) (omega arith))

-- the words' table with other sources' bits
pub table-put : (ws : List ℕ) (s : Sources) → 87 ≤ length ws → table_in (with_sources ws s) ≡ table_with (common_in ws) s (target_in ws)
unfolding table_in
table-put ws s l =
    let h : target_in (with_sources ws s) ≡ target_in ws = fun_ext (put_target_lem ws s) in
    rw ((put-words ws s l).0, put_common ws s l, h)

-- ---- a word is put above the sources' bits
module _ (ws : List ℕ) (p v : ℕ) (high : 6 < p) where
  words-set : (sources_in (set ws p v) ≡ sources_in ws) × (enable_in (set ws p v) ≡ enable_in ws)
  unfolding sources_in enable_in
  words-set = (rw (at 1 (omega arith), at 2 (omega arith), at 3 (omega arith), at 4 (omega arith), at 5 (omega arith), at 6 (omega arith)), rw (at 0 (omega arith)))
    where
      at : (i : ℕ) → i < 7 → get_or (set ws p v) i 0 ≡ get_or ws i 0
      at i k = get_or-set_other ws p i v 0 (λ e. omega arith)

-- ---- a target is put
module _ (ws : List ℕ) (n t : ℕ) (from : 0 < n) (below : n < 64) (l : 7 + n < length ws) (small : t < 0x1_0000_0000) where
  target-set : (i : ℕ) → target_in (set ws (7 + n) t) i ≡ pick (eqb i n) t (target_in ws i)
  unfolding target_in
  target-set i = go (eqb i n) refl
    where
      go : (b : Bool) → eqb i n ≡ b → get_or (set ws (7 + n) t) (7 + i) 0 % 0x1_0000_0000 ≡ pick b t (get_or ws (7 + i) 0 % 0x1_0000_0000)
      go true e = rw (eqb-true i n e, get_or-set_same ws (7 + n) t 0 l) (mod-eq_of_lt small)
      go false e = ap (λ (x : ℕ). x % 0x1_0000_0000) (get_or-set_other ws (7 + n) (7 + i) t 0 (λ k. eqb-false i n e (omega arith)))

  target_common : common_in (set ws (7 + n) t) ≡ common_in ws
  target_common =
      same_common (set ws (7 + n) t) ws (words-set ws (7 + n) t (omega arith)).1 (get_or-set_other ws (7 + n) 7 t 0 (λ e. omega arith))
      (λ h k. get_or-set_other ws (7 + n) (71 + h) t 0 (λ e. omega arith))

  pub table-set : table_in (set ws (7 + n) t) ≡ table_with (common_in ws) (sources_in ws) (λ i. pick (eqb i n) t (target_in ws i))
  unfolding table_in
  table-set =
      let h : target_in (set ws (7 + n) t) ≡ (λ i. pick (eqb i n) t (target_in ws i)) = fun_ext target-set in
      rw ((words-set ws (7 + n) t (omega arith)).0, target_common, h)

-- ---- a record is put
pub record_put : (ws : List ℕ) (p k : ℕ) (x : Hart) → k ≡ kept_of x → set ws p k ≡ set ws p (kept_of x)
record_put ws p k x e = ap (set ws p) e

kept_low : (y : Hart) → kept_of y % 0x1_0000_0000 ≡ kept_of y
unfolding kept_of
kept_low y = go y.delivery y.force
  where
    go : (a b : Bool) → (digit a + digit b * 2 + y.threshold % 256 * 256) % 0x1_0000_0000 ≡ digit a + digit b * 2 + y.threshold % 256 * 256
    go true true = omega arith
    go true false = omega arith
    go false true = omega arith
    go false false = omega arith

module _ (ws : List ℕ) (h : ℕ) (y : Hart) (long : 87 ≤ length ws) (below : h < 16) (small : y.threshold < 256) where
  abbrev put : List ℕ
  put = set ws (71 + h) (kept_of y)

  record_there : record_in put h ≡ y
  unfolding record_in
  record_there = ap (λ (x : ℕ). record_of (x % 0x1_0000_0000)) (get_or-set_same ws (71 + h) (kept_of y) 0 (omega arith)) ∙ ap record_of (kept_low y) ∙ same_record y small

  record_other : (k : ℕ) → (k ≡ h → ⊥) → record_in put k ≡ record_in ws k
  unfolding record_in
  record_other k n = ap (λ (x : ℕ). record_of (x % 0x1_0000_0000)) (get_or-set_other ws (71 + h) (71 + k) (kept_of y) 0 (λ e. n (omega arith)))

  hart-set : (k : ℕ) → harts put k ≡ pick (eqb k h) y (harts ws k)
  hart-set k = go (eqb k h) refl
    where
      go : (b : Bool) → eqb k h ≡ b → harts put k ≡ pick b y (harts ws k)
      go true e = let q : k ≡ h = eqb-true k h e in rw (q, lt-ltb h 16 below) record_there
      go false e = ap (λ (x : Hart). pick (ltb k 16) x resting) (record_other k (eqb-false k h e))

  row_kept : (i : ℕ) → i < 64 → target_in put i ≡ target_in ws i
  unfolding target_in
  row_kept i l = ap (λ (x : ℕ). x % 0x1_0000_0000) (get_or-set_other ws (71 + h) (7 + i) (kept_of y) 0 (λ e. omega arith))

  mode-kept : delivery_in put ≡ delivery_in ws
  unfolding delivery_in
  mode-kept = ap (λ (x : ℕ). pick (eqb (x % 2) 1) Direct Message) (get_or-set_other ws (71 + h) 7 (kept_of y) 0 (λ e. omega arith))

  pub hart-put : table_in put ≡ with_hart h y (table_in ws)
  unfolding table_in table_with with_hart
  hart-put =
      let w = words-set ws (71 + h) (kept_of y) (omega arith) in
      same-table _ _ _ _ _ _ _ _ mode-kept w.1 (fun_ext hart-set) (λ i. go i (is_source i) refl w.0)
    where
      go : (i : ℕ) (b : Bool) → is_source i ≡ b → sources_in put ≡ sources_in ws → pick b (source_of (sources_in put) i (target_in put i)) quiet ≡ pick b (source_of (sources_in ws) i (target_in ws i)) quiet
      go i true k e = ap₂ (λ (x : Sources) (t : ℕ). source_of x i t) e (row_kept i (within i k).1)
      go i false k e = refl

-- ---- sources' bits are put after an act on some sources
module _ (ws : List ℕ) (long : 87 ≤ length ws) (s : Sources) (hs : s ≡ sources_in ws) where
  pub put_all : (f : Source → Source) (sel : ℕ → Bool) (r : Sources) (out : List ℕ) → Acts sel f s r → out ≡ with_sources ws r → table_in out ≡ act sel f (table_in ws)
  unfolding table_in
  put_all f sel r out a e =
      ap table_in e ∙ table-put ws r long ∙ acts-table (common_in ws) s r (target_in ws) sel f a ∙ ap (λ (x : Sources). act sel f (table_with (common_in ws) x (target_in ws))) hs

-- ---- no word beyond the 87th changes
pub beyond-put : (ws out : List ℕ) (s : Sources) → out ≡ with_sources ws s → drop 87 out ≡ drop 87 ws
beyond-put ws out s e = ap (drop 87) e ∙ put-beyond ws s

pub beyond-target : (ws out : List ℕ) (n t : ℕ) → n < 64 → out ≡ set ws (7 + n) t → drop 87 out ≡ drop 87 ws
beyond-target ws out n t l e = ap (drop 87) e ∙ drop-set 87 (7 + n) t ws (omega arith)

pub beyond-both : (ws mid out : List ℕ) (s : Sources) (n t : ℕ) → n < 64 → mid ≡ with_sources ws s → out ≡ set mid (7 + n) t → drop 87 out ≡ drop 87 ws
beyond-both ws mid out s n t l p e = beyond-target mid out n t l e ∙ beyond-put ws mid s p

pub beyond-domain : (ws : List ℕ) (v : ℕ) → drop 87 (set ws 0 v) ≡ drop 87 ws
beyond-domain ws v = drop-set 87 0 v ws (omega arith)

pub beyond_record : (ws out : List ℕ) (h : ℕ) (x : ℕ) → h < 16 → out ≡ set ws (71 + h) x → drop 87 out ≡ drop 87 ws
beyond_record ws out h x l e = ap (drop 87) e ∙ drop-set 87 (71 + h) x ws (omega arith)

-- ---- what a table has of the words
module _ (ws : List ℕ) where
  pub mode-there : delivery_in ws ≡ (table_in ws).delivery
  unfolding table_in table_with
  mode-there = refl

  pub enable-there : enable_in ws ≡ (table_in ws).enable
  unfolding table_in table_with
  enable-there = refl

  pub hart-there : (h : ℕ) → h < 16 → record_in ws h ≡ (table_in ws).hart h
  unfolding table_in table_with
  hart-there h l = yes-is _ _ _ _ (lt-ltb h 16 l) refl

  pub record_low : (h : ℕ) → (record_in ws h).threshold < 256
  unfolding record_in
  record_low h = record_small _

  module _ (d : Delivery) (hd : d ≡ delivery_in ws) (b : Bool) (hb : b ≡ direct_of d) where
    mode-is : b ≡ direct_of (table_in ws).delivery
    mode-is = hb ∙ ap direct_of (hd ∙ mode-there)

    -- where the delivery mode is direct, nothing is promised of message delivery
    pub not-message : (xs ys : List ℕ) → b ≡ true → direct_of (delivery_in ws) ≡ false → xs ≡ ys
    not-message xs ys e f = absurd (never (sym f ∙ sym (hb ∙ ap direct_of hd) ∙ e))

    module _ (h : ℕ) (below : h < 16) where
      pub served : b ≡ true → serves h (table_in ws) ≡ true
      served e = serve_yes (table_in ws) h b below mode-is e

      pub unserved : b ≡ false → serves h (table_in ws) ≡ false
      unserved e = serve_mode (table_in ws) h b mode-is e

pub ruleset beyond = (beyond-put, beyond-target, beyond-both, beyond-domain, beyond_record)

-- ---- words that are all zero but for the delivery mode are the start
zero_word : (n i : ℕ) → ◌≡◌ {A = ℕ} (get_or (replicate n 0) i 0) 0
zero_word zero i = refl
zero_word (suc n) zero = refl
zero_word (suc n) (suc i) = zero_word n i

module _ (d : Delivery) (n : ℕ) (long : 87 ≤ n) where
  made_else : (i : ℕ) → (i ≡ 7 → ⊥) → ◌≡◌ {A = ℕ} (get_or (made_of d n) i 0) 0
  unfolding made_of
  made_else i e = get_or-set_other (replicate n 0) 7 i (mode_word d) 0 e ∙ zero_word n i

  made_mode : delivery_in (made_of d n) ≡ d
  unfolding delivery_in made_of
  made_mode = ap (λ (x : ℕ). pick (eqb (x % 2) 1) Direct Message) (get_or-set_same (replicate n 0) 7 (mode_word d) 0 (omega (arith, length-replicate {A = ℕ} n 0))) ∙ go d
    where
      go : (d : Delivery) → pick (eqb (mode_word d % 2) 1) Direct Message ≡ d
      go Direct = refl
      go Message = refl

  made_rests : (h : ℕ) → harts (made_of d n) h ≡ resting
  unfolding record_in
  made_rests h = ap (λ (x : Hart). pick (ltb h 16) x resting) (ap (λ (x : ℕ). record_of (x % 0x1_0000_0000)) (made_else (71 + h) (λ e. omega arith)) ∙ record_rests) ∙ pick_same (ltb h 16) resting

  pub made_start : table_in (made_of d n) ≡ start_of d
  unfolding table_in table_with source_of enable_in sources_in target_in
  made_start = same-table _ _ _ _ _ _ _ _ made_mode (rw (made_else 0 (λ e. omega arith))) (fun_ext made_rests) (λ i. go i (is_source i) refl)
    where
      at : (i : ℕ) → 0 < i → ◌≡◌ {A = ℕ} (get_or (made_of d n) (7 + i) 0) 0
      at i l = made_else (7 + i) (λ e. omega arith)

      go : (i : ℕ) (b : Bool) → is_source i ≡ b → pick b (source_of (sources_in (made_of d n)) i (target_in (made_of d n) i)) quiet ≡ quiet
      go i true k =
          rw (made_else 1 (λ e. omega arith), made_else 2 (λ e. omega arith), made_else 3 (λ e. omega arith), made_else 4 (λ e. omega arith), made_else 5 (λ e. omega arith), made_else 6 (λ e. omega arith), at i (within i k).0, zero-digit i)
      go i false k = refl
