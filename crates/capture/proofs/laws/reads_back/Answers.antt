use Rattle.capture.proofs.Names.{block_content, block_size, body_of, content_of, enhanced, enhanced_content, first_option, half, header_blocks, in_order, interface_block, interface_content, next, options_in, packet_block, packet_blocks, read_within, refl, section_block, section_content, section_unit, size_of, time_of, unit_of, with_option, with_options, with_packet_losses, word}
use Rattle.capture.proofs.ReadBacks.{reads_back}
use Rattle.capture.proofs.laws.reads_back.Goals as goal

pub returns-clause-back : goal.returns-clause-back
returns-clause-back c = reads_back

pub returns-clause-worked : goal.returns-clause-worked
unfolding half word section_block interface_block packet_block packet_blocks header_blocks in_order unit_of section_unit size_of block_size with_option first_option with_options time_of enhanced with_packet_losses options_in enhanced_content section_content interface_content block_content body_of content_of next read_within
returns-clause-worked c = record { order = refl; packets = refl; read = refl }
