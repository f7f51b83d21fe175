use Rattle.afdx_frame.proofs.Names.{◌≡◌, refl, arith, word_sum, addresses, header_front, internet_header, link_header, unfilled}
use Rattle.afdx_frame.proofs.Filled.{set_one, set_two}
use Rattle.afdx_frame.proofs.write.put_headers.Goals as goal

pub returns : goal.returns
unfolding unfilled link_header internet_header header_front
returns c =
    let of = c.args.template.now in
    let sum : c.template.inside.sum ≡ word_sum (addresses of.end_system of.port) = grind arith in
    rw (
      c.set_word-4.ensures,
      c.set_word-3.ensures,
      c.set_word-2.ensures,
      c.set_word.ensures,
      c.complement.ensures,
      sum,
      c.front_sum.ensures.value,
      c.interface.ensures,
      c.fragment_word.ensures.value,
    ) (set_two 38 _ _ 24 _ _ refl refl (set_two 38 _ _ 20 _ _ refl refl
    (set_two 38 _ _ 18 _ _ refl refl (set_two 38 _ _ 16 _ _ refl refl (set_one 38 _ _ 11 _ refl c.put.ensures)))))
