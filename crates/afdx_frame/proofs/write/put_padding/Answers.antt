use Rattle.afdx_frame.proofs.Names.{take-take, ◌≡◌, ℕ, ◌+◌, ◌≤◌, List, ◌++◌, length, take, replicate, arith, length-take-le, take-replicate, take-append-add}
use Rattle.afdx_frame.proofs.write.put_padding.Goals as goal

-- The first of more zeros.
fewer : (bytes front : List ℕ) (end padding : ℕ) → length front ≡ end → padding ≤ 25
    → take (end + 25) bytes ≡ front ++ replicate 25 0
    → take (end + padding) bytes ≡ front ++ replicate padding 0
fewer bytes front end padding is few all = grind (arith, take-take, take-append-add front (replicate 25 0) padding, take-replicate {X = ℕ} padding 25 0)

pub returns-then-padding-gt0 : goal.returns-then-padding-gt0
returns-then-padding-gt0 c = grind (arith, fewer, length-take-le)
