-- Reports of a file before and after a list of calls differ by the ledger's counts. Assumes nothing.
use Prim.Native.Nat.{ℕ, ◌+◌, ◌-◌, ◌/◌, ◌%◌, ◌^◌}
use mathlib.Core.Path.{◌≡◌, refl, sym, ap, subst, ◌∙◌}
use mathlib.Core.Bool.{Bool, true, false, not}
use mathlib.Core.List.{List, [], ◌∷◌}
use native.Mathlib.Omega.{arith}
use lib.Dec.{eqb}
use lib.ListN.{length, drop, take as list_take}
use Rattle.std.specs.Prelude.{Result, Ok, Err}
use Rattle.memory.specs.Choice.{pick}
use Rattle.refusal.specs.declared.Refusal.{Refusal}
use Rattle.refusal.specs.declared.Refusal.TheVariants.{NoFile}
use Rattle.refusal.specs.Checks.{unless_refused}
use Rattle.memory.specs.Window.{Lent, inside, lent, part_of}
use Rattle.memory.proofs.Truth.{and_true, no_way}
use Rattle.interrupt_file.specs.File.{is_file, after_store, after_take_many}
use Rattle.interrupt_file.specs.Report.{count_of, file_report}
use Rattle.interrupt_file.specs.declared.Report.{Report}
use Rattle.interrupt_file.proofs.Bytes.{Bytes, store_bytes}
use Rattle.interrupt_file.proofs.Many.{taken-bytes}
use Rattle.interrupt_file.proofs.Files.{file-at}
use Rattle.iommu_files.specs.declared.Answer.{Answer}
use Rattle.iommu_files.specs.declared.Answer.TheVariants.{Translated, Redirected, Stored, Discarded, Fault, Refused, Taken}
use Rattle.iommu_refusals.specs.Refusals.{bad_windows, overlap, is_lent_file, report_refusal}
use Rattle.iommu.specs.Request.{identity_of, stored_by, after_request}
use Rattle.iommu_files.specs.Files.{changed_at, many_taken_at, after_take_many_of, report_of}
use Rattle.iommu_files.proofs.Files.{report_made}
use Rattle.iommu.specs.Operations.{Op, request, take, take_many, starts_of, answer_of, after_of}
use Rattle.ledger.specs.Places.{Side, first_window, second_window, window_of, Place, lies_in, is_place}
use Rattle.ledger.specs.Machine.{routines, left_by, history}
use Rattle.ledger.specs.Ledger.{pending_in}
use Rattle.ledger.specs.Sums.{of_file, total, among, op_stores, op_takes, added_up}
use Rattle.ledger.specs.Closes.{take_many_refused, left, account_after, pending_after}
use Rattle.ledger.proofs.Keeping.{same-held, list_same}
use Rattle.ledger.proofs.Answering.{starts, xs, ys, Apart, windows-apart}
use Rattle.ledger.proofs.Ones.{one_leaves}
use Rattle.ledger.proofs.Sides.{both-overlap}
use Rattle.ledger.proofs.Closing.{routines_faithful, routines_granted, closes}
use Rattle.ledger.proofs.Corollaries.{change}
use Rattle.ledger.proofs.Whole.{counted-all}
use Rattle.ledger.proofs.Reported.{pending-counted}

-- in each window
abbrev pub AllBytes : Lent → Type 0
AllBytes l = (s : Side) → Bytes (window_of l s).bytes

bytes-pick : (t : Bool) (u v : List ℕ) → Bytes u → Bytes v → Bytes (pick t u v)
bytes-pick true u v h k = h
bytes-pick false u v h k = k

changed-bytes : (l : Lent) (f : ℕ) (change : ℕ → List ℕ → List ℕ) → ((start : ℕ) (bytes : List ℕ) → Bytes bytes → Bytes (change start bytes))
    → AllBytes l → AllBytes (changed_at (starts l) (xs l) (ys l) f change)
changed-bytes l f change c h first_window = bytes-pick (lies_in l.first f) _ _ (c l.first.start (xs l) (h first_window)) (h first_window)
changed-bytes l f change c h second_window = bytes-pick (lies_in l.first f) _ _ (h second_window) (c l.second.start (ys l) (h second_window))

own-bytes : (l : Lent) → AllBytes l → AllBytes (lent (starts l) (xs l) (ys l))
own-bytes l h first_window = h first_window
own-bytes l h second_window = h second_window

many-bytes : (l : Lent) (f d mask : ℕ) → AllBytes l → AllBytes (after_of l (take_many f d mask))
unfolding after_take_many_of
many-bytes l f d mask h = go (take_many_refused l f d)
  where
    go : (r : Result (Unit {0}) Refusal) → AllBytes (unless_refused r (λ k. lent (starts l) (xs l) (ys l)) (many_taken_at (starts l) (xs l) (ys l) f d mask))
    go (Ok u) = changed-bytes l f (λ start bytes. after_take_many start bytes f d mask) (λ start bytes. taken-bytes start bytes f d mask 64) h
    go (Err r) = own-bytes l h

op_bytes : (l : Lent) (o : Op) → AllBytes l → AllBytes (after_of l o)
unfolding after_request
op_bytes l (request mode root q value) h = go (answer_of l (request mode root q value))
  where
    go : (a : Answer) → AllBytes (stored_by (starts l) (xs l) (ys l) q value a)
    go (Stored d) = changed-bytes l d.file (λ start bytes. after_store start bytes d.file (identity_of q value)) (λ start bytes. store_bytes start bytes d.file (identity_of q value)) h
    go (Translated a) = own-bytes l h
    go (Redirected a) = own-bytes l h
    go Discarded = own-bytes l h
    go (Fault f) = own-bytes l h
    go (Refused r) = own-bytes l h
    go (Taken w) = own-bytes l h
op_bytes l (take f i) h = subst AllBytes (one_leaves l f i) (many-bytes l f (i / 64) (2 ^ (i % 64)) h)
op_bytes l (take_many f d mask) h = many-bytes l f d mask h

pub left-bytes : (l : Lent) (ops : List Op) → AllBytes l → AllBytes (left_by routines l ops)
unfolding left_by
left-bytes l [] h = h
left-bytes l (o ∷ os) h = left-bytes (after_of l o) os (op_bytes l o h)

abbrev pub report_refused : Lent → ℕ → Result (Unit {0}) Refusal
report_refused l file = report_refusal (starts_of l) (length l.first.bytes) (length l.second.bytes) file

abbrev pub report_in : Lent → ℕ → Report
report_in l file = report_of (starts_of l) l.first.bytes l.second.bytes file

report-passed : (l : Lent) (file : ℕ) → report_refused l file ≡ Ok tt → Apart l × (is_lent_file (starts l) (length (xs l)) (length (ys l)) file ≡ true)
unfolding report_refusal
report-passed l file e =
    let w = windows-apart (bad_windows (starts l) (length (xs l)) (length (ys l))) (overlap (starts l) (length (xs l)) (length (ys l))) _ e in
    (w.0, go (is_lent_file (starts l) (length (xs l)) (length (ys l)) file) refl w.1)
  where
    go : (f : Bool) → is_lent_file (starts l) (length (xs l)) (length (ys l)) file ≡ f → ◌≡◌ {A = Result (Unit {0}) Refusal} (pick (not f) (Err NoFile) (Ok tt)) (Ok tt)
        → is_lent_file (starts l) (length (xs l)) (length (ys l)) file ≡ true
    go true h z = h
    go false h z = absurd (no_way cc)

-- the bytes of a file of one window, where the windows are apart
part-is : (l : Lent) (p : Place) → Apart l → is_place l p ≡ true
    → part_of l p.file 512 ≡ list_take 512 (drop (p.file - (window_of l p.side).start) (window_of l p.side).bytes)
unfolding part_of is_file
part-is l p a h = go p.side h
  where
    inn : (s : Side) → lies_in (window_of l s) p.file ≡ true → inside (window_of l s).start (length (window_of l s).bytes) p.file 512 ≡ true
    inn s k = (and_true (eqb (p.file % 512) 0) _ k).1

    out : lies_in l.second p.file ≡ true → inside l.first.start (length l.first.bytes) p.file 512 ≡ false
    out k = other (inside l.first.start (length l.first.bytes) p.file 512) refl
      where
        other : (b : Bool) → inside l.first.start (length l.first.bytes) p.file 512 ≡ b → inside l.first.start (length l.first.bytes) p.file 512 ≡ false
        other false e = e
        other true e = absurd (both-overlap l p.file (rw ((and_true (eqb (p.file % 512) 0) _ k).0, e)) k a)

    go : (s : Side) → lies_in (window_of l s) p.file ≡ true → part_of l p.file 512 ≡ list_take 512 (drop (p.file - (window_of l s).start) (window_of l s).bytes)
    go first_window k = rw (inn first_window k)
    go second_window k = rw (out k, inn second_window k)

-- the count of a report that is not refused
reported : (l : Lent) (p : Place) → AllBytes l → is_place l p ≡ true → report_refused l p.file ≡ Ok tt → (report_in l p.file).count ≡ of_file (pending_in l p)
reported l p h i z =
    let f = file-at i in
    let a = (report-passed l p.file z).0 in
    ap (λ (r : Report). r.count) (sym (report_made (starts l) (xs l) (ys l) p.file (Ok tt) (sym z) (file_report (part_of l p.file 512)) tt (part_of l p.file 512) refl refl refl))
    ∙ ap (λ (e : List ℕ). count_of e 32) (part-is l p a i)
    ∙ sym (pending-counted (window_of l p.side).bytes (h p.side) (window_of l p.side).start p.file f.after)

total-one : (p : Place) (g : Place → ℕ → ℕ) → total (p ∷ []) g ≡ of_file (g p)
unfolding total
total-one p g = omega arith

-- a file's count before + its stores ≡ its successful takes + its merged stores + its count after
pub reports-close : (l : Lent) (ops : List Op) (p : Place) → AllBytes l → is_place l p ≡ true → report_refused l p.file ≡ Ok tt
    → (report_in l p.file).count + added_up routines (op_stores (among (p ∷ []))) (history routines l ops)
    ≡ added_up routines (op_takes (among (p ∷ []))) (history routines l ops) + of_file (λ n. (account_after routines l ops p n).merged)
    + (report_in (left routines l ops) p.file).count
reports-close l ops p h i z =
    let after = left_by routines l ops in
    let s = list_same routines routines_faithful l ops (routines_granted l ops) in
    let r : report_refused after p.file ≡ Ok tt = rw ((s first_window).place, (s first_window).long, (s second_window).place, (s second_window).long) z in
    omega (
      arith,
      reported l p h i z,
      reported after p (left-bytes l ops h) (same-held l after p (s p.side) i) r,
      change routines l ops (closes l ops) (p ∷ []) (refl, tt) (counted-all l ops (p ∷ []) (i, tt)),
      total-one p (pending_in l),
      total-one p (pending_after routines l ops),
      total-one p (λ q n. (account_after routines l ops q n).merged),
    )
