-- The limits of document 01's refusals, in one table. Its further limits, those of the schemes, stand in `worked_larger`.
use Rattle.std.specs.Prelude.{ℕ, ◌-◌, ◌^◌, Bool, List, [], ◌∷◌}
use Rattle.interrupt_file.specs.File.{is_file}
use Rattle.iommu_refusals.specs.Refusals.{bad_window, bad_length}
use Rattle.worked_rows.specs.Rows.{Row, row, one}

abbrev limit : ℕ → Bool → ℕ → Row
limit n b e = row n (one b ∷ []) (e ∷ [])

unfoldable pub limits : List Row
limits =  -- an empty window at the very top is legal, and so is one that ends there (D10); no sum wraps
    limit 1 (bad_window (2 ^ 56) 0) 0
    ∷ limit 2 (bad_window (2 ^ 56 - 4096) 4096) 0
    ∷ limit 3 (bad_window (2 ^ 56) 4096) 1
    ∷ limit 4 (bad_window (2 ^ 64 - 4096) 8192) 1
    -- the last and the first file of a window, and those beside it
    ∷ limit 5 (is_file 0x1000 4096 0x1e00) 1
    ∷ limit 6 (is_file 0x1000 4096 0x2000) 0
    ∷ limit 7 (is_file 0x1000 4096 0xe00) 0
    -- a length to the end of the page, one more, and one that would wrap
    ∷ limit 8 (bad_length 0xffc 4) 0
    ∷ limit 9 (bad_length 0xffd 4) 1
    ∷ limit 10 (bad_length 0xfff (2 ^ 64 - 1)) 1
    ∷ []
