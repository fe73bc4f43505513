-- The face, by the tests that the code makes. Assumes nothing.
use Prim.Native.Nat.{ℕ, ◌<◌, ◌≤◌}
use mathlib.Core.List.{List}
use mathlib.Core.Path.{◌≡◌, refl, sym, ap, ◌∙◌}
use lib.Dec.{leb}
use lib.ListN.{length, set}
use Rattle.std.specs.Prelude.{Option, Some, None}
use borrow.Author.Tests.{lt-ltb, le-ltb}
use Rattle.memory.specs.Window.{Lent, lent, Leaves}
use Rattle.causes.specs.declared.Access.{Access}
use Rattle.directory_process.specs.Found.{ProcessId}
use Rattle.refusal.specs.declared.Refusal.TheVariants.{UnknownNumber}
use Rattle.refusal.specs.Refusal.{number_of}
use Rattle.iommu_refusals.specs.declared.Settings.{Settings}
use Rattle.iommu_refusals.specs.declared.DeviceRequest.{DeviceRequest}
use Rattle.iommu_files.specs.declared.Answer.{Answer}
use Rattle.iommu_files.specs.declared.Answer.TheVariants.{Refused}
use Rattle.iommu_files.specs.declared.Numbers.{Numbers}
use Rattle.iommu_files.specs.Answers.{numbers_of, Answered}
use Rattle.iommu.specs.Request.{request_of, after_request}
use Rattle.iommu_files.proofs.Files.{unchanged, left-same}
use Rattle.capi_room.specs.Room.{fitting}
use Rattle.capi_room.proofs.Rooms.{short-kept, long-changed}
use Rattle.capi_iommu.specs.Face.{chosen_of, process_of, stage_of, with_answer, chosen_face, chosen_bytes, request_face, after_face}

pub answer-put : (out : List ℕ) (a : Answer) (n : Numbers) (g : ℕ) → n ≡ numbers_of a → g ≡ stage_of a
    → set (set (set (set (set out 0 n.kind) 1 n.first) 2 n.second) 3 n.third) 4 g ≡ with_answer out a
answer-put out a n g h e =
    ap (λ (m : Numbers). set (set (set (set (set out 0 m.kind) 1 m.first) 2 m.second) 3 m.third) 4 g) h
    ∙ ap (λ (k : ℕ). set (set (set (set (set out 0 (numbers_of a).kind) 1 (numbers_of a).first) 2 (numbers_of a).second) 3 (numbers_of a).third) 4 k) e

-- what a short buffer keeps, and a long one lets change
pub short-left : (n : ℕ) (out : List ℕ) (l k : Lent) → length out < n → Leaves (fitting n out l k) l.first.bytes l.second.bytes
short-left n out l k h = left-same l (fitting n out l k) _ _ (short-kept n out l k h) (record { of_first = refl; of_second = refl })

pub long-left : (n : ℕ) (out : List ℕ) (l k : Lent) (us vs : List ℕ) → n ≤ length out → Leaves k us vs → Leaves (fitting n out l k) us vs
long-left n out l k us vs h e = left-same k (fitting n out l k) us vs (long-changed n out l k k h refl) e

-- a request, by what its numbers name
module _ (s : Settings) (xs ys : List ℕ) (device process flags access address len value : ℕ) (k : Option Access) (hk : k ≡ chosen_of access) where
  abbrev answer : Answer
  answer = request_face (lent s.starts xs ys) s.mode s.root device process flags access address len value

  abbrev left : Lent
  left = after_face (lent s.starts xs ys) s.mode s.root device process flags access address len value

  pub access-unknown : (n : ℕ) → k ≡ None → n ≡ number_of UnknownNumber → Refused n ≡ answer
  unfolding request_face
  access-unknown n e h = ap Refused h ∙ ap (chosen_face (lent s.starts xs ys) s.mode s.root device process flags access address len value) (sym e ∙ hk)

  pub unknown-bytes : k ≡ None → Leaves left xs ys
  unfolding after_face
  unknown-bytes e =
      left-same (lent s.starts xs ys) _ xs ys (ap (chosen_bytes (lent s.starts xs ys) s.mode s.root device process flags access address len value) (sym e ∙ hk))
      (unchanged s.starts xs ys)

  module _ (x : Access) (e : k ≡ Some x) where
    pub flags-unknown : (n : ℕ) → 3 < flags → n ≡ number_of UnknownNumber → Refused n ≡ answer
    unfolding request_face
    flags-unknown n h z = simp (← hk, e, lt-ltb 3 flags h, z)

    pub flags-bytes : 3 < flags → Leaves left xs ys
    unfolding after_face
    flags-bytes h = left-same (lent s.starts xs ys) _ xs ys (simp (← hk, e, lt-ltb 3 flags h)) (unchanged s.starts xs ys)

    module _ (h : flags ≤ 3) (p : ProcessId) (hp : p ≡ process_of flags process) where
      abbrev request : DeviceRequest
      request = record { device = device; process = p; supervisor = leb 2 flags; access = x; address = address; length = len }

      pub face-answers : (a : Answer) → Answered a (request_of s xs ys request value) → a ≡ answer
      unfolding request_face
      face-answers a w = w.same ∙ simp (hp, ← hk, e, le-ltb 3 flags h)

      pub face-bytes : (us vs : List ℕ) → Leaves (after_request s xs ys request value) us vs → Leaves left us vs
      unfolding after_face
      face-bytes us vs w = left-same (after_request s xs ys request value) _ us vs (simp (hp, ← hk, e, le-ltb 3 flags h)) w

pub ruleset face_ways = (access-unknown, unknown-bytes, flags-unknown, flags-bytes, face-answers, face-bytes)

-- under settings that are the same
module _ (s t : Settings) (e : s ≡ t) (xs ys : List ℕ) (device process flags access address len value : ℕ) where
  pub same_answer : (a : Answer) → a ≡ request_face (lent s.starts xs ys) s.mode s.root device process flags access address len value
      → a ≡ request_face (lent t.starts xs ys) t.mode t.root device process flags access address len value
  same_answer a h = h ∙ ap (λ (u : Settings). request_face (lent u.starts xs ys) u.mode u.root device process flags access address len value) e

  pub same_left : (us vs : List ℕ) → Leaves (after_face (lent s.starts xs ys) s.mode s.root device process flags access address len value) us vs
      → Leaves (after_face (lent t.starts xs ys) t.mode t.root device process flags access address len value) us vs
  same_left us vs h =
      left-same _ _ us vs (ap (λ (u : Settings). after_face (lent u.starts xs ys) u.mode u.root device process flags access address len value) e) h

pub long-answer : (n : ℕ) (out before x : List ℕ) (a b : Answer) → n ≤ length out → x ≡ with_answer out a → a ≡ b → x ≡ fitting n out before (with_answer out b)
long-answer n out before x a b h e k = long-changed n out before (with_answer out b) x h (e ∙ ap (with_answer out) k)

pub long-answered : (n : ℕ) (out before x : List ℕ) (a b : Answer) → n ≤ length out → x ≡ with_answer out a → Answered a b → x ≡ fitting n out before (with_answer out b)
long-answered n out before x a b h e k = long-answer n out before x a b h e k.same

pub ruleset answer_ways = (short-left, long-left, long-answered)
