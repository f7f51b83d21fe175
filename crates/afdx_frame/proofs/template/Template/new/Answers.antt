use Rattle.afdx_frame.proofs.Names.{◌≡◌, ℕ, ◌∷◌, [], ◌++◌, ◌∙◌, List, ap, arith, length, get_or, refl, append-nil, addresses, link_header, unfilled, two_bytes, word_sum, drop, take}
use Rattle.afdx_frame.proofs.template.Template.new.Goals as goal

-- The four bytes of an address, before others.
four_of : (xs ys : List ℕ) → length xs ≡ 4 → get_or xs 0 0 ∷ get_or xs 1 0 ∷ get_or xs 2 0 ∷ get_or xs 3 0 ∷ ys ≡ xs ++ ys
four_of (a ∷ b ∷ c ∷ d ∷ []) ys long = refl
four_of xs ys long = grind arith

pub invariant_of-result : goal.invariant_of-result
unfolding link_header addresses unfilled
invariant_of-result c =
    let long : length c.destination.result ≡ 4 = grind arith in
    let ports = two_bytes c.args.port.now.source ++ two_bytes c.args.port.now.destination in
    let sent : take 8 (drop 26 c.set_word-5.new.out) ≡ addresses c.args.end_system c.args.port.now =
    rw (c.set_word-5.ensures, c.set_word-4.ensures, c.set_word-3.ensures, c.set_word-2.ensures, c.set_word.ensures, four_of c.destination.result [] long, append-nil, c.destination.ensures) refl in
    record {
      port_is = grind arith;
      headers_are = rw (c.set_word-5.ensures, c.set_word-4.ensures, c.set_word-3.ensures, c.set_word-2.ensures, c.set_word.ensures, four_of c.destination.result ports long, c.destination.ensures) refl;
      sum_is = c.word_sum.ensures.value ∙ ap word_sum sent;
      most = grind arith;
    }
