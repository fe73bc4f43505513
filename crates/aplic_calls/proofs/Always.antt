-- What document 002 says of every source holds after every run, in both delivery modes. Assumes nothing.
use mathlib.Core.Path.{◌≡◌, refl, ◌∙◌}
use mathlib.Core.Bool.{Bool, true, false, not, ◌&&◌, ◌||◌}
use mathlib.Core.List.{List, [], ◌∷◌}
use Prim.Native.Nat.{ℕ, ◌+◌, ◌*◌, ◌/◌, ◌%◌, ◌^◌, ◌<◌}
use native.Mathlib.Omega.{arith}
use borrow.Author.Tests.{eqb-false}
use lib.Dec.{eqb, ltb}
use Rattle.memory.specs.Bits.{bits}
use Rattle.memory.specs.Choice.{pick}
use Rattle.word.specs.Word.{is_source, only}
use Rattle.word.proofs.Bits.{never}
use Rattle.register.specs.declared.BitRegister.{BitRegister}
use Rattle.register.specs.declared.BitRegister.TheVariants.{SetIp, SetIpNum, InClrIp, ClrIpNum, SetIe, SetIeNum, ClrIe, ClrIeNum}
use Rattle.register.specs.declared.Register.{Register}
use Rattle.register.specs.declared.Register.TheVariants.{DomainCfg, SourceCfg, OfBits, Target, Nothing}
use Rattle.register.specs.declared.Idc.{Idc}
use Rattle.register.specs.declared.Idc.TheVariants.{OfHart, ClaimI, Reserved}
use Rattle.register.specs.Register.{register_of, idc_of}
use Rattle.hart.specs.Hart.{priority, wrote_of}
use Rattle.source.specs.declared.Delivery.{Delivery}
use Rattle.source.specs.declared.Delivery.TheVariants.{Direct, Message}
use Rattle.source.specs.declared.Mode.{Mode}
use Rattle.source.specs.declared.Mode.TheVariants.{Inactive, Detached, Edge1, Edge0, Level1, Level0}
use Rattle.source.specs.declared.Source.{Source}
use Rattle.source.specs.Source.{mode_of, active_of, rectified, Event, input, setip, clrip, delivered, new_pending, rises, befalls, sensed, raised, lowered, handed, allowed, configured, configured_pending, configured_target, first_target, aimed, target_of}
use Rattle.source.specs.Table.{Table, start_of, act}
use Rattle.aplic_calls.specs.Direct.{serves, with_hart, topi, claim_table, claim_hart, claimed, write_hart, write_idc, claimed_by}
use Rattle.aplic_calls.specs.Calls.{wire_table, concerned, change, enabled_by, write_register, write_table, after_read, forward_table, sends, top_of}
use Rattle.aplic_calls.specs.declared.Call.{Call}
use Rattle.aplic_calls.specs.declared.Call.TheVariants.{Wire, Write, Read, Forward, Claim, Signal}
use Rattle.aplic_calls.specs.Run.{after, after_all}
use Rattle.aplic_calls.specs.Always.{LevelSound, PrioritySound, SoundAs, Sound}

abbrev Fine : Delivery → Source → Type 0
Fine d s = SoundAs d s.mode s

abbrev mk : Mode → Bool → Bool → Bool → ℕ → Source
mk m w p e t = record { mode = m; wire = w; pending = p; enable = e; target = t }

last : (b : Bool) → b && false ≡ false
last true = refl
last false = refl

-- ---- a level-sensitive source, by the values of its input
level-sensed : (d : Delivery) (was now p : Bool) → LevelSound d now (new_pending d Level1 (input was now) p)
level-sensed Direct was true p = refl
level-sensed Direct was false p = refl
level-sensed Message was true p = last (rises was true || p)
level-sensed Message was false p = refl

level-raised : (d : Delivery) (i p : Bool) → LevelSound d i p → LevelSound d i (new_pending d Level1 (setip i) p)
level-raised Direct i p h = h
level-raised Message true p h = refl
level-raised Message false p h = h

level-lowered : (d : Delivery) (i p : Bool) → LevelSound d i p → LevelSound d i (new_pending d Level1 clrip p)
level-lowered Direct i p h = h
level-lowered Message i p h = refl

level-handed : (d : Delivery) (i p : Bool) → LevelSound d i p → LevelSound d i (new_pending d Level1 delivered p)
level-handed Direct i p h = h
level-handed Message i p h = refl

-- ---- a priority is never 0
first-prior : (d : Delivery) → PrioritySound d (first_target d)
first-prior Direct = omega arith
first-prior Message = tt

aimed-prior : (d : Delivery) (v : ℕ) → PrioritySound d (target_of d v)
aimed-prior Direct v = go (eqb (bits v 7 0) 0) refl
  where
    low : (a p : ℕ) → p < 256 → (a * 2 ^ 18 + p) / 1 % 256 ≡ p
    low a p l = omega arith

    go : (b : Bool) → eqb (bits v 7 0) 0 ≡ b → 0 < priority (bits v 31 18 * 2 ^ 18 + pick b 1 (bits v 7 0))
    go true e = omega (arith, low (bits v 31 18) 1 (omega arith))
    go false e = let n : (bits v 7 0 ≡ 0 → ⊥) = eqb-false (bits v 7 0) 0 e in omega (arith, n, low (bits v 31 18) (bits v 7 0) (omega arith))
aimed-prior Message v = tt

-- of an active source
prior_of : (d : Delivery) (m : Mode) (w p e : Bool) (t : ℕ) → active_of m ≡ true → Fine d (mk m w p e t) → PrioritySound d t
prior_of d Inactive w p e t a h = absurd (never a)
prior_of d Detached w p e t a h = h
prior_of d Edge1 w p e t a h = h
prior_of d Edge0 w p e t a h = h
prior_of d Level1 w p e t a h = h.1
prior_of d Level0 w p e t a h = h.1

level-set : (d : Delivery) (i : Bool) → LevelSound d i i
level-set Direct i = refl
level-set Message true = refl
level-set Message false = refl

-- ---- each change keeps a source sound
module _ (d : Delivery) where
  sensed-at : (now : Bool) (m : Mode) (w p e : Bool) (t : ℕ) → Fine d (mk m w p e t) → Fine d (sensed d now (mk m w p e t))
  unfolding sensed
  sensed-at now Inactive w p e t h = h
  sensed-at now Detached w p e t h = h
  sensed-at now Edge1 w p e t h = h
  sensed-at now Edge0 w p e t h = h
  sensed-at now Level1 w p e t h = (level-sensed d w now p, h.1)
  sensed-at now Level0 w p e t h = (level-sensed d (not w) (not now) p, h.1)

  -- an event e that keeps a level-sensitive source sound keeps every source so
  befalls-at : (e : Bool → Event) → ((i p : Bool) → LevelSound d i p → LevelSound d i (new_pending d Level1 (e i) p)) → (m : Mode) (w p en : Bool) (t : ℕ) → Fine d (mk m w p en t)
      → Fine d (befalls d (e (rectified m w)) (mk m w p en t))
  befalls-at e keep Inactive w p en t h = h
  befalls-at e keep Detached w p en t h = h
  befalls-at e keep Edge1 w p en t h = h
  befalls-at e keep Edge0 w p en t h = h
  befalls-at e keep Level1 w p en t h = (keep w p h.0, h.1)
  befalls-at e keep Level0 w p en t h = (keep (not w) p h.0, h.1)

  raised_at : (s : Source) → Fine d s → Fine d (raised d s)
  unfolding raised
  raised_at s h = befalls-at setip (level-raised d) s.mode s.wire s.pending s.enable s.target h

  lowered-at : (s : Source) → Fine d s → Fine d (lowered d s)
  unfolding lowered
  lowered-at s h = befalls-at (λ i. clrip) (level-lowered d) s.mode s.wire s.pending s.enable s.target h

  handed-at : (s : Source) → Fine d s → Fine d (handed d s)
  unfolding handed
  handed-at s h = befalls-at (λ i. delivered) (level-handed d) s.mode s.wire s.pending s.enable s.target h

  allowed_at : (on : Bool) (m : Mode) (w p e : Bool) (t : ℕ) → Fine d (mk m w p e t) → Fine d (allowed on (mk m w p e t))
  unfolding allowed
  allowed_at true Inactive w p e t h = h
  allowed_at false Inactive w p e t h = (h.0, refl, h.2)
  allowed_at on Detached w p e t h = h
  allowed_at on Edge1 w p e t h = h
  allowed_at on Edge0 w p e t h = h
  allowed_at on Level1 w p e t h = h
  allowed_at on Level0 w p e t h = h

  aimed-at : (v : ℕ) (m : Mode) (w p e : Bool) (t : ℕ) → Fine d (mk m w p e t) → Fine d (aimed d v (mk m w p e t))
  unfolding aimed
  aimed-at v Inactive w p e t h = h
  aimed-at v Detached w p e t h = aimed-prior d v
  aimed-at v Edge1 w p e t h = aimed-prior d v
  aimed-at v Edge0 w p e t h = aimed-prior d v
  aimed-at v Level1 w p e t h = (h.0, aimed-prior d v)
  aimed-at v Level0 w p e t h = (h.0, aimed-prior d v)

  configured-at : (v : ℕ) (s : Source) → Fine d s → Fine d (configured d v s)
  unfolding configured
  configured-at v s h = go (mode_of v)
    where
      prior : (b : Bool) → active_of s.mode ≡ b → PrioritySound d (pick b s.target (first_target d))
      prior true e = prior_of d s.mode s.wire s.pending s.enable s.target e h
      prior false e = first-prior d

      go : (m : Mode) → Fine d (mk m s.wire (configured_pending m (rectified m s.wire) s.pending) (active_of m && s.enable) (configured_target d s.mode m s.target))
      go Inactive = (refl, refl, refl)
      go Detached = prior (active_of s.mode) refl
      go Edge1 = prior (active_of s.mode) refl
      go Edge0 = prior (active_of s.mode) refl
      go Level1 = (level-set d s.wire, prior (active_of s.mode) refl)
      go Level0 = (level-set d (not s.wire), prior (active_of s.mode) refl)

-- a change that keeps every source sound
abbrev Keeps : Delivery → (Source → Source) → Type 0
Keeps d f = (s : Source) → Fine d s → Fine d (f s)

keeps-change : (d : Delivery) (b : BitRegister) → Keeps d (change d b)
unfolding change
keeps-change d (SetIp high) s h = raised_at d s h
keeps-change d SetIpNum s h = raised_at d s h
keeps-change d (InClrIp high) s h = lowered-at d s h
keeps-change d ClrIpNum s h = lowered-at d s h
keeps-change d (SetIe high) s h = allowed_at d true s.mode s.wire s.pending s.enable s.target h
keeps-change d SetIeNum s h = allowed_at d true s.mode s.wire s.pending s.enable s.target h
keeps-change d (ClrIe high) s h = allowed_at d false s.mode s.wire s.pending s.enable s.target h
keeps-change d ClrIeNum s h = allowed_at d false s.mode s.wire s.pending s.enable s.target h

acts : (sel : ℕ → Bool) (f : Source → Source) (t : Table) → Keeps t.delivery f → Sound t → Sound (act sel f t)
acts sel f t keep h i = go (is_source i && sel i)
  where
    go : (b : Bool) → Fine t.delivery (pick b (f (t.row i)) (t.row i))
    go true = keep (t.row i) (h i)
    go false = h i

written : (g : Register) (v : ℕ) (t : Table) → Sound t → Sound (write_register g v t)
unfolding write_register enabled_by
written DomainCfg v t h = h
written (SourceCfg n) v t h = acts (only n) (configured t.delivery v) t (λ s k. configured-at t.delivery v s k) h
written (OfBits b) v t h = acts (concerned b v) (change t.delivery b) t (keeps-change t.delivery b) h
written (Target n) v t h = acts (only n) (aimed t.delivery v) t (λ s k. aimed-at t.delivery v s.mode s.wire s.pending s.enable s.target k) h
written Nothing v t h = h

idc_written : (g : Idc) (v : ℕ) (t : Table) → Sound t → Sound (write_idc g v t)
unfolding write_idc write_hart with_hart
idc_written (OfHart n k) v t h = go (serves n t)
  where
    go : (b : Bool) → Sound (pick b (with_hart n (wrote_of k v (t.hart n)) t) t)
    go true = h
    go false = h
idc_written (ClaimI n) v t h = h
idc_written Reserved v t h = h

by_span : (b : Bool) (x y : Table) → Sound x → Sound y → Sound (pick b x y)
by_span true x y p q = p
by_span false x y p q = q

claim-kept : (n : ℕ) (t : Table) → Sound t → Sound (claimed n t)
unfolding claimed with_hart claim_table
claim-kept n t h = go (serves n t) (eqb (topi n (t.hart n).threshold t) 0)
  where
    go : (b c : Bool)
        → Sound (pick b (with_hart n (claim_hart n (t.hart n) t) (pick c t (act (only (bits (topi n (t.hart n).threshold t) 25 16)) (handed t.delivery) t))) t)
    go true true = h
    go true false = acts (only (bits (topi n (t.hart n).threshold t) 25 16)) (handed t.delivery) t (λ s k. handed-at t.delivery s k) h
    go false c = h

read_kept : (g : Idc) (t : Table) → Sound t → Sound (claimed_by g t)
unfolding claimed_by
read_kept (OfHart n k) t h = h
read_kept (ClaimI n) t h = claim-kept n t h
read_kept Reserved t h = h

kept : (t : Table) (c : Call) → Sound t → Sound (after t c)
unfolding wire_table write_table after_read forward_table
kept t (Wire n level) h = acts (only n) (sensed t.delivery level) t (λ s k. sensed-at t.delivery level s.mode s.wire s.pending s.enable s.target k) h
kept t (Write o v) h = by_span (ltb o 0x4000) _ _ (written (register_of o) v t h) (idc_written (idc_of o) v t h)
kept t (Read o) h = read_kept (idc_of o) t h
kept t (Claim n) h = claim-kept n t h
kept t (Signal n) h = h
kept t Forward h = go (sends t)
  where
    go : (b : Bool) → Sound (pick b (act (only (top_of t)) (handed t.delivery) t) t)
    go true = acts (only (top_of t)) (handed t.delivery) t (λ s k. handed-at t.delivery s k) h
    go false = h

pub sound-kept : (t : Table) (cs : List Call) → Sound t → Sound (after_all t cs)
sound-kept t [] h = h
sound-kept t (c ∷ cs) h = sound-kept (after t c) cs (kept t c h)

-- after every run from the start, in both delivery modes
pub always_sound : (d : Delivery) (cs : List Call) → Sound (after_all (start_of d) cs)
always_sound d cs = sound-kept (start_of d) cs (λ i. (refl, refl, refl))

-- ---- "The mode is fixed when the domain is made" (02): no call changes it
span-mode : (b : Bool) (x y : Table) (d : Delivery) → x.delivery ≡ d → y.delivery ≡ d → (pick b x y).delivery ≡ d
span-mode true x y d p q = p
span-mode false x y d p q = q

register_mode : (g : Register) (v : ℕ) (t : Table) → (write_register g v t).delivery ≡ t.delivery
unfolding write_register enabled_by
register_mode DomainCfg v t = refl
register_mode (SourceCfg n) v t = refl
register_mode (OfBits b) v t = refl
register_mode (Target n) v t = refl
register_mode Nothing v t = refl

idc_mode : (g : Idc) (v : ℕ) (t : Table) → (write_idc g v t).delivery ≡ t.delivery
unfolding write_idc write_hart with_hart
idc_mode (OfHart n k) v t = span-mode (serves n t) _ _ _ refl refl
idc_mode (ClaimI n) v t = refl
idc_mode Reserved v t = refl

claim-mode : (n : ℕ) (t : Table) → (claimed n t).delivery ≡ t.delivery
unfolding claimed with_hart claim_table
claim-mode n t = span-mode (serves n t) _ _ _ (span-mode (eqb (topi n (t.hart n).threshold t) 0) _ _ _ refl refl) refl

read-mode : (g : Idc) (t : Table) → (claimed_by g t).delivery ≡ t.delivery
unfolding claimed_by
read-mode (OfHart n k) t = refl
read-mode (ClaimI n) t = claim-mode n t
read-mode Reserved t = refl

call_mode : (t : Table) (c : Call) → (after t c).delivery ≡ t.delivery
unfolding wire_table write_table after_read forward_table
call_mode t (Wire n level) = refl
call_mode t (Write o v) = span-mode (ltb o 0x4000) _ _ _ (register_mode (register_of o) v t) (idc_mode (idc_of o) v t)
call_mode t (Read o) = read-mode (idc_of o) t
call_mode t Forward = span-mode (sends t) _ _ _ refl refl
call_mode t (Claim n) = claim-mode n t
call_mode t (Signal n) = refl

pub mode_fixed : (t : Table) (cs : List Call) → (after_all t cs).delivery ≡ t.delivery
mode_fixed t [] = refl
mode_fixed t (c ∷ cs) = mode_fixed (after t c) cs ∙ call_mode t c
