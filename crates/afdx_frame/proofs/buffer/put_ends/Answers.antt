use Rattle.afdx_frame.proofs.Names.{take-append-drop, take-append-le, take_all, ℕ, ◌≡◌, ◌≤◌, ◌+◌, ◌-◌, ◌++◌, ◌∙◌, List, length, take, drop, ap, sym, arith, append_assoc, length-take-le, length-drop, take-append-add}
use Rattle.afdx_frame.proofs.buffer.put_ends.Goals as goal

-- A beginning of a beginning.
shorter : (n m : ℕ) (xs : List ℕ) → n ≤ m → m ≤ length xs → take n (take m xs) ≡ take n xs
shorter n m xs le within =
    let many = length-take-le {A = ℕ} m xs within in
    sym (take-append-le n (take m xs) (drop m xs) (omega (arith, many))) ∙ ap (take n) (take-append-drop m xs)

-- What lies before the second copy is as the first left it.
before_last : (old mid bytes : List ℕ) (at step rest : ℕ) → rest ≤ step → step ≤ length bytes → at + step ≤ length mid
    → at ≤ length old → take (at + step) mid ≡ take at old ++ take step bytes → take (at + rest) mid ≡ take at old ++ take rest bytes
before_last old mid bytes at step rest le few within room is =
    sym (shorter (at + rest) (at + step) mid (omega arith) within) ∙ ap (take (at + rest)) is
    ∙ rw (length-take-le {A = ℕ} at old room) at (take-append-add (take at old) (take step bytes) rest)
    ∙ ap (λ (xs : List ℕ). take at old ++ xs) (shorter rest step bytes le few)

-- Both copies together.
both : (old mid new bytes last : List ℕ) (at step rest : ℕ) → rest ≤ step → step ≤ length bytes → rest ≤ length bytes
    → at + step ≤ length mid → at ≤ length old → take (at + step) mid ≡ take at old ++ take step bytes → last ≡ drop rest bytes
    → take (at + rest + length last) new ≡ take (at + rest) mid ++ last → take (at + length bytes) new ≡ take at old ++ bytes
both old mid new bytes last at step rest le few part within room first is second =
    let left = length-drop {A = ℕ} rest bytes in
    let end : at + rest + length last ≡ at + length bytes = rw is (omega (arith, left)) in
    sym (ap (λ (n : ℕ). take n new) end) ∙ second
    ∙ ap (λ (xs : List ℕ). xs ++ last) (before_last old mid bytes at step rest le few within room first)
    ∙ append_assoc (take at old) (take rest bytes) last
    ∙ ap (λ (xs : List ℕ). take at old ++ xs) (ap (λ (xs : List ℕ). take rest bytes ++ xs) is ∙ take-append-drop rest bytes)

pub returns : goal.returns
returns c = both c.args.out.now c.put.new.out _ c.args.bytes.now _ c.args.at c.args.step (length c.args.bytes.now - c.args.step) (omega arith)
    (omega arith) (omega arith) (omega arith) (omega arith) (grind (arith, length-take-le)) (grind (arith, take_all, length-drop)) c.put-2.ensures
