-- The fields of a frame of the layout.
use Rattle.std.specs.Prelude.{ℕ, ◌+◌, ◌-◌, ◌*◌, ◌%◌, ◌≤◌, ◌||◌, not, Bool, List, slice_index, slice_range}
use Rattle.afdx_frame.specs.Checksum.{word_sum}
use Rattle.afdx_frame.specs.Frame.{offset_modulus}
use Rattle.afdx_frame.specs.Header.{number_in}
use Rattle.afdx_frame.specs.Profile.{word_at, total_length, fragment_field, has_more, is_icmp}
use Rattle.judge.specs.Types.{Fields}

-- The fields of a frame. The piece: the identification, the place and the length in bytes, and whether more follow (RFC
-- 791, 3.1). The flow: the partition, the destination address as a number of 32 bits, and the UDP ports.
unfoldable pub fields_of : List ℕ → Fields
fields_of frame = record {
  number = number_in frame;
  piece = record {
    ident = word_at frame 18;
    start = 8 * (fragment_field frame % offset_modulus);
    len = total_length frame - 20;
    more = has_more frame;
  };
  icmp = is_icmp frame;
  flow = record {
    partition = slice_index frame 29;
    address = 65536 * word_at frame 30 + word_at frame 32;
    source = word_at frame 34;
    destination = word_at frame 36;
  };
  udp_len = word_at frame 38;
  udp_sum = word_at frame 40;
  sum = word_sum (slice_range frame 34 (14 + total_length frame)) % 65535;
  ends = word_sum (slice_range frame 26 34);
}

-- a frame has the last piece of a message
abbrev pub ends_message : Fields → Bool
ends_message fields = not (fields.piece.more || fields.icmp)

-- no sum of these numbers exceeds 32 bits
pub record AreSmall (fields : Fields) : Type 0 where
  pub start : fields.piece.start ≤ 65528
  pub len : fields.piece.len ≤ 1500
  pub ends : fields.ends ≤ 524280
