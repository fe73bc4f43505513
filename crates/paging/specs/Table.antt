-- A page table.
use Rattle.std.specs.Prelude.{ℕ}
use Rattle.paging_scheme.specs.declared.Scheme.{Scheme}

-- its scheme, and its root's page
pub record StageTable : Type 0 where
  pub scheme : Scheme
  pub root : ℕ
