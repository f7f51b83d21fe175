use Rattle.afdx_frame.proofs.Names.{arith, ℕ, zero, suc, List, ◌≡◌, ◌≤◌, ◌+◌, ◌-◌, [], ◌∷◌, ◌/◌, ◌%◌, length, set, length-take, drop_all}
use borrow.Rule.Slice.PartMut.{put_mid}
use Rattle.afdx_frame.proofs.field.set_word.Goals as goal

-- Two bytes that are put over a list are set.
word_put : (at : ℕ) (xs : List ℕ) (high low : ℕ) → at + 2 ≤ length xs
    → put_mid at 2 xs (high ∷ low ∷ []) ≡ set (set xs at high) (at + 1) low
word_put zero [] high low within = absurd (omega arith)
word_put zero (x ∷ []) high low within = absurd (omega arith)
word_put zero (x ∷ y ∷ xs) high low within = grind arith
word_put (suc at) [] high low within = absurd (omega arith)
word_put (suc at) (x ∷ xs) high low within = let rest = word_put at xs high low (omega arith) in grind arith

pub returns : goal.returns
returns c =
    let two : c.args.i + 2 - c.args.i ≡ 2 = omega arith in
    let word : c.write_u16.new.buf ≡ c.args.word / 256 % 256 ∷ c.args.word % 256 ∷ [] = grind (arith, drop_all, length-take) in
    rw (two, word) (word_put c.args.i c.args.out.now _ _ (omega arith))
