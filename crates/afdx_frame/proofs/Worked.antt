-- The worked cases of the laws, by computation.
use Rattle.afdx_frame.proofs.Names.{[], ◌∷◌, refl, arith, inr, checksum, udp_checksum, cutting, piece_at, pieces_left, A, addresses, header_front, internet_header, link_header, udp_header, datagram, unnumbered, udp_sum, fragments_at, IsPiece, IsWordChanged, ChecksOneHeader, CutsInTwo, KeepsTwoPieces, long_sent, TurnsOneFrame, SaysItsFields, GrowsByOne, CutsBoth, TurnsThreeFragments, ThreePieces, MissesTheMiddle, ChecksThreeDatagrams, first_datagram, damaged_datagram, demo_port, demo_port_is}
use Rattle.afdx_frame.proofs.Says.{says}

pub checks_one_header : ChecksOneHeader
unfolding checksum
checks_one_header = search arith

pub cuts_in_two : CutsInTwo
unfolding cutting
cuts_in_two = record {
  cut = refl;
  is = grind arith;
  loose = λ is. let t = is.tight 1 refl in absurd (omega arith);
  narrow = grind arith;
}

pub keeps_two_pieces : KeepsTwoPieces
unfolding cutting
keeps_two_pieces = grind arith

pub turns_one_frame : TurnsOneFrame
unfolding checksum addresses header_front internet_header link_header udp_header datagram unnumbered
turns_one_frame = search arith

-- The second piece meets what a frame needs.
piece_is : IsPiece 41 (piece_at 25 49 24)
unfolding cutting
piece_is = grind arith

pub says_its_fields : SaysItsFields
unfolding unnumbered link_header internet_header header_front
says_its_fields = search (arith, demo_port_is, piece_is, says 1 demo_port long_sent.bytes 0 (piece_at 25 49 24) A 1 demo_port_is (omega arith) piece_is)

pub grows_by_one : GrowsByOne
unfolding checksum addresses header_front internet_header link_header udp_header datagram unnumbered cutting fragments_at
grows_by_one = search arith

pub cuts_both : CutsBoth
unfolding checksum addresses header_front internet_header link_header udp_header datagram unnumbered cutting pieces_left fragments_at
cuts_both = grind arith

pub turns_three_fragments : TurnsThreeFragments
unfolding checksum addresses header_front internet_header link_header udp_header datagram unnumbered cutting fragments_at
turns_three_fragments = search arith

pub three_pieces : ThreePieces
unfolding cutting
three_pieces = grind arith

pub misses_the_middle : MissesTheMiddle
unfolding cutting
misses_the_middle = grind arith

-- The last byte is a word of its own.
one_changed : IsWordChanged first_datagram damaged_datagram
one_changed = record {
  words = 4;
  front = 0x03 ∷ 0xe8 ∷ 0x07 ∷ 0xd0 ∷ 0x00 ∷ 0x09 ∷ 0x07 ∷ 0x42 ∷ [];
  old = 0x01 ∷ [];
  new = 0x02 ∷ [];
  rest = [];
  before_is = refl;
  after_is = refl;
  in_words = refl;
  one_word = inr (refl, refl);
  as_long = refl;
  other = λ same. omega arith;
}

pub checks_three_datagrams : ChecksThreeDatagrams
unfolding addresses datagram udp_checksum udp_header udp_sum
checks_three_datagrams = search (arith, one_changed)
