-- Each frame gives back the fields that it was written with.
use Rattle.afdx_frame.proofs.Names.{◌≡◌, ℕ, ◌+◌, ◌%◌, ◌<◌, Option, Some, None, List, length, refl, arith, ◌-◌, ◌/◌, ◌≤◌, true, [], ◌∷◌, ◌++◌, take, drop, get_or, replicate, max, sym, ap, ◌∙◌, append_assoc, slice_index, nat_le, PortPlan, Piece, word_sum, checksum, addresses, header_front, internet_header, interface_byte, link_header, datagram, unnumbered, frame_of, fragment_word, drop-drop, drop_at, take_at, length-take, length-drop, get_or-drop, get_or_append_left, get_or-replicate, get_or_push, get_or-append_right, length-replicate, identification, Net, word_at, total_length, fragment_field, HasLinkHeader, HasAddresses, HasZeroPadding, IsFrameOf, IsPiece, Says, length-append, IsPort}
use Rattle.afdx_frame.proofs.Datagram.{length-udp_header}

-- The two addresses have eight bytes.
pub length-addresses : (end_system : ℕ) (port : PortPlan) → IsPort port → length (addresses end_system port) ≡ 8
unfolding addresses
length-addresses end_system port is = grind arith

-- An internet header has 20 bytes.
pub length-internet : (end_system : ℕ) (port : PortPlan) (ident : ℕ) (piece : Piece) → IsPort port
    → length (internet_header end_system port ident piece) ≡ 20
unfolding internet_header header_front
length-internet end_system port ident piece is = grind (arith, length-addresses)

-- A checksum is below 65,535.
checksum_range : (sum : ℕ) → checksum sum < 65535
unfolding checksum
checksum_range sum = omega arith

-- a sum with its checksum is a multiple of 65,535
checksum_closes : (sum total : ℕ) → total ≡ sum + checksum sum → total % 65535 ≡ 0
unfolding checksum
checksum_closes sum total is = omega arith

-- The sum of the words of an internet header.
header_sum : (end_system : ℕ) (port : PortPlan) (ident : ℕ) (piece : Piece)
    → word_sum (internet_header end_system port ident piece)
    ≡ word_sum (header_front ident piece) + word_sum (addresses end_system port) + checksum
    (word_sum (header_front ident piece) + word_sum (addresses end_system port))
unfolding internet_header header_front addresses
header_sum end_system port ident piece = grind (arith, checksum_range)

-- The words of an internet header add up to a multiple of 65,535.
pub header_closes : (end_system : ℕ) (port : PortPlan) (ident : ℕ) (piece : Piece)
    → word_sum (internet_header end_system port ident piece) % 65535 ≡ 0
header_closes end_system port ident piece = checksum_closes _ _ (header_sum end_system port ident piece)

module _ (end_system : ℕ) (port : PortPlan) (message : List ℕ) (place : ℕ) (piece : Piece) (net : Net) (number : ℕ) where
  abbrev frame : List ℕ
  frame = frame_of end_system port message place piece net number

  abbrev header : List ℕ
  header = internet_header end_system port (identification place port.sub) piece

  abbrev payload : List ℕ
  payload = take piece.len (drop piece.start (datagram end_system port message))

  -- the padding and the sequence number
  abbrev tail : List ℕ
  tail = replicate (25 - piece.len) 0 ++ number ∷ []

  link_ok : HasLinkHeader frame
  unfolding unnumbered link_header
  link_ok = grind arith

  pub total_ok : piece.len ≤ 1479 → total_length frame ≡ 20 + piece.len
  unfolding unnumbered link_header internet_header header_front
  total_ok h = omega arith

  vl_ok : port.vl.0 < 65536 → word_at frame 4 ≡ port.vl.0
  unfolding unnumbered link_header
  vl_ok h = omega arith

  ident_ok : word_at frame 18 ≡ identification place port.sub
  unfolding unnumbered link_header internet_header header_front
  ident_ok = omega arith

  fragment_ok : fragment_word piece < 65536 → fragment_field frame ≡ fragment_word piece
  unfolding unnumbered link_header internet_header header_front
  fragment_ok h = omega arith

  constants_ok : (slice_index frame 14 ≡ 69) × (slice_index frame 15 ≡ 0) × (slice_index frame 22 ≡ 1) ×
      (slice_index frame 23 ≡ 17)
  unfolding unnumbered link_header internet_header header_front
  constants_ok = (refl, refl, refl, refl)

  addresses_ok : (unicast : Option (List ℕ)) → IsPort (record port { unicast = unicast })
      → HasAddresses (frame_of end_system (record port { unicast = unicast }) message place piece net number)
  unfolding unnumbered link_header internet_header header_front addresses
  addresses_ok None is = grind arith
  addresses_ok (Some []) is = grind arith
  addresses_ok (Some (first ∷ rest)) is = grind arith

  length-payload : piece.start + piece.len ≤ 8 + length message → length payload ≡ piece.len
  unfolding datagram
  length-payload within = grind (arith, length-udp_header, length-append, length-take, length-drop)

  -- The frame from its internet header on.
  behind_link : drop 14 frame ≡ header ++ (payload ++ tail)
  unfolding unnumbered link_header
  behind_link = simp append_assoc

  -- The frame from its piece on.
  behind_header : IsPort port → drop 34 frame ≡ payload ++ tail
  behind_header is = sym (drop-drop 20 14 frame) ∙ ap (drop 20) behind_link
      ∙ drop_at header (payload ++ tail) 20 (grind (arith, length-internet))

  checksum_ok : IsPort port → word_sum (take 20 (drop 14 frame)) % 65535 ≡ 0
  checksum_ok is =
      let front = take_at header (payload ++ tail) 20
      (grind (arith, length-internet)) in
      grind (arith, behind_link, header_closes)

  pub payload_says : IsPort port → piece.start + piece.len ≤ 8 + length message
      → take piece.len (drop 34 frame) ≡ take piece.len (drop piece.start (datagram end_system port message))
  payload_says is within = grind (arith, behind_header, take_at, length-payload)

  pub length-frame : IsPort port → piece.start + piece.len ≤ 8 + length message → length frame ≡ max 60 (35 + piece.len)
  length-frame is within = grind (arith, length-payload, length-append, length-replicate, length-drop 34 frame, behind_header)

  padding_ok : IsPort port → piece.start + piece.len ≤ 8 + length message → piece.len ≤ 1479 → HasZeroPadding frame
  padding_ok is within most k from below =
      let total = total_ok most in
      let size = length-frame is within in
      let part = length-payload within in
      let zeros : List ℕ = replicate (25 - piece.len) 0 in
      let many = length-replicate {A = ℕ} (25 - piece.len) 0 in
      let last : get_or tail (k - 34 - length payload) 0 ≡ 0 =
      get_or_append_left zeros (number ∷ []) 0 (k - 34 - length payload) (omega arith)
      ∙ get_or-replicate (25 - piece.len) (k - 34 - length payload) 0 0 (omega arith) in
      grind (arith, get_or-drop 34 frame (k - 34) 0, behind_header is, get_or-append_right payload tail (k - 34) 0, last)

  number_ok : slice_index frame (length frame - 1) ≡ number
  number_ok = grind (arith, get_or_push, length-append)

  flags_ok : IsPiece (length message) piece → length message ≤ 8192
      → (fragment_field frame < 16384) × (fragment_field frame % 8192 ≡ piece.start / 8) ×
      (nat_le 8192 (fragment_field frame) ≡ piece.more) × (8192 ≤ fragment_field frame → piece.more ≡ true)
  flags_ok is most = grind (arith, fragment_ok)

  pub says : IsPort port → length message ≤ 8192 → IsPiece (length message) piece
      → Says frame port.vl.0 (identification place port.sub) port.sub piece number
  says is most piece_is =
      let within = piece_is.within in
      let len = piece_is.len in
      let flags = flags_ok piece_is most in
      let total = total_ok len.1 in
      let size = length-frame is within in
      let ident = ident_ok in
      record {
        frame = record {
          size = (omega arith, omega arith);
          link = link_ok;
          internet = record {
            version = (constants_ok.0, constants_ok.1);
            total = omega arith;
            flags = flags.0;
            units = grind arith;
            within = grind arith;
            protocol = (constants_ok.2, constants_ok.3);
            checksum = checksum_ok is;
          };
          fits = omega arith;
          addresses = addresses_ok port.unicast is;
          padding = padding_ok is within len.1;
        };
        vl_says = vl_ok is.vl;
        ident_says = ident_ok;
        sub_says = omega arith;
        offset_says = flags.1;
        more_says = flags.2;
        number_says = number_ok;
      }

  interface_ok : slice_index frame 11 ≡ interface_byte net
  unfolding unnumbered link_header
  interface_ok = refl

  pub header_says : IsPort port → piece.start + piece.len ≤ 8 + length message → IsFrameOf port.vl.0 port.sub number net frame
  header_says is within = grind (arith, ident_ok, length-frame, vl_ok, number_ok, interface_ok)
