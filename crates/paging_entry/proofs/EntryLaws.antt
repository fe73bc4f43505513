-- The tests of an entry's bits, and the steps without causes, say what the definitions say. Assumes nothing.
use Rattle.std.specs.Prelude.{None, Ok, Some}
use Prim.Native.Nat.{ℕ, ◌+◌, ◌*◌, ◌%◌, ◌^◌}
use mathlib.Core.Bool.{Bool, true, false, not, ◌&&◌}
use mathlib.Core.Path.{◌≡◌, refl, ap, ◌∙◌}
use native.Mathlib.Omega.{arith}
use borrow.Author.Tests.{lt-ltb}
use lib.Dec.{eqb}
use Rattle.memory.specs.Choice.{pick}
use Rattle.memory.specs.Bits.{bits, bit}
use Rattle.memory.specs.Load.{Load}
use Rattle.causes.specs.declared.Access.{Access}
use Rattle.causes.specs.declared.Access.TheVariants.{Read, Write, Execute}
use Rattle.paging_entry.specs.declared.Purpose.{Purpose}
use Rattle.paging_entry.specs.declared.Lookup.{Lookup}
use Rattle.paging_entry.specs.declared.Leaf.{Leaf}
use Rattle.paging_entry.specs.declared.Entry.{Entry}
use Rattle.paging_entry.specs.declared.Entry.TheVariants.{Table, Maps}
use Rattle.paging_entry.specs.Purpose.{Step}
use Rattle.std.specs.declared.ops.ControlFlow.TheVariants.{Break, Continue}
use Rattle.paging_entry.specs.declared.Raw.{Raw}
use Rattle.paging_entry.specs.declared.Raw.TheVariants.{Arrive, Next, Faulty, Unread}
use Rattle.paging_scheme.specs.Scheme.{page_bits_of}
use Rattle.paging_entry.specs.Purpose.{asked_of}
use Rattle.paging_entry.specs.Entry.{entry_page, kind_of, entry_of, permits, owned_by, allows, mapped_by}
use Rattle.paging_entry.specs.Entry.{faulted, on_entry, on_load}
use Rattle.paging_entry.proofs.MaskLaws.{permit_of, leaf_bits_lem}
use Rattle.paging_entry.specs.Code.{test_of, table_bits, raw_load, to_step, told_of, faulty_end, code_of, told_by, Tight}

-- an entry's step, for the access k that the page must permit
abbrev on_kind : Lookup → ℕ → Access → Entry → Step
on_kind q n k Entry.Faulty = Break (faulted q)
on_kind q n k (Table t) = Continue t
on_kind q n k (Maps l) =
    Break
    (pick (l.a && (owned_by q.pages l && permits k l) && eqb (l.page % 2 ^ (9 * n)) 0)
    (Ok (l.page * 4096 + q.address % 2 ^ page_bits_of n))
    (faulted q))

is-kind : (q : Lookup) (n : ℕ) (d : Entry) → on_kind q n (asked_of q.purpose q.access) d ≡ on_entry q n d
unfolding mapped_by allows
is-kind q n Entry.Faulty = refl
is-kind q n (Table t) = refl
is-kind q n (Maps l) = refl

module _ (q : Lookup) (n page : ℕ) where
  abbrev place : ℕ
  place = page * 4096 + q.address % 2 ^ page_bits_of n

  abbrev leaf : Bool → Bool → Bool → Bool → Bool → Bool → Leaf
  leaf r w x u a d = record { r = r; w = w; x = x; u = u; a = a; d = d; page = page }

  abbrev step : Raw → Step
  step k = to_step q.purpose q.access k

  -- the joined tests of a leaf, and the nested ones
  joined : (a o p al : Bool) → step (pick (a && o && p && al) (Arrive place) Faulty) ≡ Break (pick (a && (o && p) && al) (Ok place) (faulted q))
  joined false o p al = refl
  joined true false p al = refl
  joined true true false al = refl
  joined true true true false = refl
  joined true true true true = refl

  dead : (a o al : Bool) → step (pick (a && o && false && al) (Arrive place) Faulty) ≡ Break (faulted q)
  dead false o al = refl
  dead true false al = refl
  dead true true al = refl

  abbrev al : Bool
  al = eqb (page % 2 ^ (9 * n)) 0

  abbrev left : (v z r w x u a d : Bool) → Access → Step
  left v z r w x u a d k =
      step
      (pick (v && z && not r && not w && not x && not u && not a && not d)
      (Next page)
      (pick (v && z && a && owned_by q.pages (leaf r w x u a d) && permit_of k r w x d && al) (Arrive place) Faulty))

  abbrev right : (v z r w x u a d : Bool) → Access → Step
  right v z r w x u a d k = on_kind q n k (pick v (pick (not z) Entry.Faulty (kind_of page (leaf r w x u a d))) Entry.Faulty)

  table_of-bits : (v z r w x u a d : Bool) (k : Access) → left v z r w x u a d k ≡ right v z r w x u a d k
  table_of-bits false z r w x u a d k = refl
  table_of-bits true false r w x u a d k = refl
  table_of-bits true true true w x u a d Read = joined a (owned_by q.pages (leaf true w x u a d)) true al
  table_of-bits true true true w x u a d Write = joined a (owned_by q.pages (leaf true w x u a d)) (w && d) al
  table_of-bits true true true w true u a d Execute = joined a (owned_by q.pages (leaf true w true u a d)) true al
  table_of-bits true true true w false u a d Execute = joined a (owned_by q.pages (leaf true w false u a d)) false al
  table_of-bits true true false true x u a d Read = dead a (owned_by q.pages (leaf false true x u a d)) al
  table_of-bits true true false true x u a d Write = dead a (owned_by q.pages (leaf false true x u a d)) al
  table_of-bits true true false true true u a d Execute = dead a (owned_by q.pages (leaf false true true u a d)) al
  table_of-bits true true false true false u a d Execute = dead a (owned_by q.pages (leaf false true false u a d)) al
  table_of-bits true true false false true u a d Read = joined a (owned_by q.pages (leaf false false true u a d)) false al
  table_of-bits true true false false true u a d Write = joined a (owned_by q.pages (leaf false false true u a d)) false al
  table_of-bits true true false false true u a d Execute = joined a (owned_by q.pages (leaf false false true u a d)) true al
  table_of-bits true true false false false true a d Read = dead a (owned_by q.pages (leaf false false false true a d)) al
  table_of-bits true true false false false true a d Write = dead a (owned_by q.pages (leaf false false false true a d)) al
  table_of-bits true true false false false true a d Execute = dead a (owned_by q.pages (leaf false false false true a d)) al
  table_of-bits true true false false false false true d Read = dead true (owned_by q.pages (leaf false false false false true d)) al
  table_of-bits true true false false false false true d Write = dead true (owned_by q.pages (leaf false false false false true d)) al
  table_of-bits true true false false false false true d Execute = dead true (owned_by q.pages (leaf false false false false true d)) al
  table_of-bits true true false false false false false true k = refl
  table_of-bits true true false false false false false false k = refl

-- a loaded entry
pub tested : (q : Lookup) (n : ℕ) (v : Load) → to_step q.purpose q.access (raw_load (test_of (asked_of q.purpose q.access) q.pages) q.address n v) ≡ on_load q n v
unfolding raw_load on_load entry_of table_bits
tested q n None = refl
tested q n (Some e) =
    let k = asked_of q.purpose q.access in
    ap (λ (b : Bool). step q n (entry_page e) (pick (table_bits e) (Next (entry_page e)) (pick (b && al q n (entry_page e)) (Arrive (place q n (entry_page e))) Faulty))) (leaf_bits_lem k q.pages e)
    ∙ table_of-bits q n (entry_page e) (bit e 0) (eqb (bits e 63 54) 0) (bit e 1) (bit e 2) (bit e 3) (bit e 4) (bit e 6) (bit e 7) (asked_of q.purpose q.access)
    ∙ is-kind q n (entry_of e)

-- the number of a walk's end says what the end says
pub coded : (p : Purpose) (x : Access) (r : Raw) → Tight r → told_by p x (code_of r) ≡ told_of p x r
coded p x (Arrive a) h = simp (lt-ltb a faulty_end (omega arith))
coded p x (Next t) h = refl
coded p x Faulty h = refl
coded p x Unread h = refl
