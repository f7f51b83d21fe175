-- The numbers of 16 bits in bytes.
use Rattle.std.proofs.Common.{◌≡◌, ℕ, zero, suc, ◌+◌, ◌*◌, ◌<◌, ◌≤◌, List, [], ◌∷◌, ◌-◌, length, drop, get_or, refl, arith, slice_index}
use Rattle.std.proofs.lemmas.List.{get_or-drop, drop-drop}
use Rattle.plan_table.specs.Reading.{cells_of, parts_from}

-- number k stands in bytes 2 k and 2 k + 1
pub cell_is : (bytes : List ℕ) (k : ℕ) → 2 * k + 2 ≤ length bytes
    → get_or (cells_of bytes) k 0 ≡ 256 * slice_index bytes (2 * k) + slice_index bytes (2 * k + 1)
cell_is [] k below = absurd (omega arith)
cell_is (a ∷ []) k below = absurd (omega arith)
cell_is (a ∷ b ∷ rest) zero below = refl
cell_is (a ∷ b ∷ rest) (suc k) below =
    let first : 2 * suc k ≡ suc (suc (2 * k)) = omega arith in
    let second : suc (suc (2 * k)) + 1 ≡ suc (suc (2 * k + 1)) = omega arith in
    rw (first, second) (cell_is rest k (omega arith))

-- a number past others
pub cell_past : (cells : List ℕ) (at k : ℕ) → get_or (drop at cells) k 0 ≡ get_or cells (at + k) 0
cell_past cells at k = get_or-drop at cells k 0

-- one part more is read
pub next_part : {P : Type 0} (from : List ℕ → P) (width many k at : ℕ) (cells : List ℕ) → k < many
    → parts_from from width (many - k) (drop (at + width * k) cells)
    ≡ from (drop (at + width * k) cells) ∷ parts_from from width (many - (k + 1)) (drop (at + width * (k + 1)) cells)
next_part from width many k at cells below =
    let one : many - k ≡ suc (many - (k + 1)) = omega arith in
    let on : at + width * k + width ≡ at + width * (k + 1) = grind arith in
    rw (one, drop-drop width (at + width * k) cells, on) refl
