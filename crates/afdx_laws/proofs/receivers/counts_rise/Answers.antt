use Rattle.afdx_laws.proofs.Names.{arith, checksum, addresses, header_front, internet_header, link_header, udp_header, datagram, unnumbered, counts_more, CountsTwo}
use Rattle.afdx_laws.proofs.receivers.counts_rise.Goals as goal

counts_two : CountsTwo
unfolding checksum addresses header_front internet_header link_header udp_header datagram unnumbered
counts_two = grind arith

pub returns : goal.returns
returns c = grind (arith, counts_more, counts_two)
