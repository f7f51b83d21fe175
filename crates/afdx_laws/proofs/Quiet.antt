-- A frame in which the judge finds nothing: what it says, what its message tells, and that it brings the next piece of one.
use Rattle.afdx_laws.proofs.JudgeNames.{none_both, All-contains, Contains, Fields, HasLink, Head, IsFrame, IsLink, IsPlan, IsPort, Joining, LinkPlan, List, Net, None, Ok, Option, Piece, PieceIn, Plan, PortPlan, Some, UdpSum, VlId, address_number, addresses, ap, arith, begun, cases_Bool, cases_lt, datagram, destination_address, drop, end_deviation, false, fields_of, first_port, fragment_deviation, fragment_field, get_or, get_or-append_right, get_or_append_left, get_or_past, head_after, head_now, head_of, head_with, ident_of, identification, inl, inr, interface_byte, interface_on, is_of_port, is_towards, judge_sub, length, length-append, length-drop, length-take, length_deviation, link_in, link_plan_at, max, message_deviation, names, nat_le, nat_tests, new_sub, next_of, on_link, place_of, port_deviation, position, position-Some, refl, right_sum, size_deviation, slice_index, step_of, sym, take, take-append-drop, total_length, true, two_bytes, udp_checksum, udp_field, udp_header, udp_sum, word_at, word_sum, word_sum-append, ℕ, [], ◌%◌, ◌*◌, ◌++◌, ◌+◌, ◌-◌, ◌/◌, ◌<◌, ◌==◌, ◌∙◌, ◌≡◌, ◌≤◌, ◌⊎◌}
use Rattle.afdx_laws.proofs.Message.{IsGood, head_first, head_later, port_at, room_at}
use Rattle.afdx_laws.proofs.ReadFrames.{IsRead, address_part, bytes_are, bytes_at, find_says, part_at, port_says, same_id, word_is}

-- the bytes that came of a message, as what is kept of them tells
pub record Tells (end_system : ℕ) (port : PortPlan) (given : List ℕ) (head : Head) : Type 0 where
  pub port_is : head.port ≡ port
  pub long : 8 ≤ length given
  pub octets : (i : ℕ) → get_or given i 0 < 256
  pub source : word_at given 0 ≡ port.source
  pub destination : word_at given 2 ≡ port.destination
  pub udp_len : head.udp_len ≡ word_at given 4
  pub udp_sum_is : head.udp_sum ≡ word_at given 6
  pub sum : head.sum ≡ (word_sum (addresses end_system port) + word_sum given + (65535 - word_at given 6)) % 65535

-- with one more piece
pub tells_more : (end_system : ℕ) (port : PortPlan) (given body : List ℕ) (head : Head) (fields : Fields)
    → Tells end_system port given head → length given % 2 ≡ 0 → ((i : ℕ) → get_or body i 0 < 256) → fields.sum ≡ word_sum body % 65535
    → Tells end_system port (given ++ body) (head_with head fields)
tells_more end_system port given body head fields tells even octets sum =
    let here = λ (i : ℕ) (below : i < 8). get_or_append_left given body 0 i (omega (arith, tells.long)) in
    let both = word_sum-append (length given / 2) given body (omega arith) in
    let small : (i : ℕ) → get_or (given ++ body) i 0 < 256 =
    λ i. grind (arith, nat_tests, cases_lt i (length given), get_or_append_left, get_or-append_right, tells.octets i, octets (i - length given)) in
    grind (arith, nat_tests, here 0, here 1, here 2, here 3, here 4, here 5, here 6, here 7, both, small, length-append)

-- the checksum that is right is the datagram's
field_back : (how : UdpSum) (ends words field len sum : ℕ) → field < 65536
    → field ≡ udp_field how ((ends + (words + field) + (65535 - field)) % 65535 + 17 + len) → sum ≡ ends + (17 + len) + words
    → udp_field how sum ≡ field
unfolding udp_checksum
field_back how ends words field len sum small is all = grind (arith, nat_tests)

-- a message without a finding
pub record IsWhole (end_system : ℕ) (port : PortPlan) (given : List ℕ) : Type 0 where
  pub datagram_is : datagram end_system port (drop 8 given) ≡ given
  pub some : 1 ≤ length (drop 8 given)
  pub most : length (drop 8 given) ≤ port.max

pub none_says : (len : ℕ) (head : Head) → message_deviation false len head ≡ None
    → (head.udp_len ≡ len) × (1 ≤ len - 8) × (len - 8 ≤ head.port.max) × (head.udp_sum ≡ right_sum head len)
unfolding message_deviation
none_says len head none = grind (arith, nat_tests)

-- eight bytes as four words
four_words : (given : List ℕ) (a b c d : ℕ) → ((i : ℕ) → get_or given i 0 < 256) → word_at given 0 ≡ a → word_at given 2 ≡ b
    → word_at given 4 ≡ c → word_at given 6 ≡ d → two_bytes a ++ two_bytes b ++ two_bytes c ++ two_bytes d ≡ bytes_at given 0 8
four_words given a b c d small is_a is_b is_c is_d = grind (arith, nat_tests, word_is)

parts : (given : List ℕ) → 8 ≤ length given → bytes_at given 0 8 ++ drop 8 given ≡ given
parts given long = ap (λ (xs : List ℕ). xs ++ drop 8 given) (sym (bytes_are 8 0 given (omega arith))) ∙ take-append-drop 8 given

header_back : (end_system : ℕ) (port : PortPlan) (given : List ℕ) (head : Head) → IsPort port → Tells end_system port given head
    → message_deviation false (length given) head ≡ None → udp_header end_system port (drop 8 given) ≡ bytes_at given 0 8
unfolding udp_header udp_sum
header_back end_system port given head is_port tells none =
    let said = none_says (length given) head none in
    let size : word_at given 4 ≡ 8 + length (drop 8 given) = omega (arith, length-drop 8 given, tells.udp_len, tells.long, said.0) in
    let words = ap word_sum (parts given tells.long) in
    let others : ℕ = word_at given 0 + word_at given 2 + word_at given 4 + word_sum (drop 8 given) in
    let whole : word_sum given ≡ others + word_at given 6 = omega (arith, words) in
    let kept : head.sum ≡ (word_sum (addresses end_system port) + (others + word_at given 6) + (65535 - word_at given 6)) % 65535 =
    rw whole at tells.sum in
    let sent : word_at given 6 ≡ udp_field port.checksum ((word_sum (addresses end_system port) + (others + word_at given 6)
    + (65535 - word_at given 6)) % 65535 + 17 + length given) =
    sym tells.udp_sum_is ∙ said.3 ∙ ap (λ (p : PortPlan). udp_field p.checksum (head.sum + 17 + length given)) tells.port_is
    ∙ ap (λ (n : ℕ). udp_field port.checksum (n + 17 + length given)) kept in
    let field : word_at given 6 ≡ udp_field port.checksum (udp_sum end_system port (drop 8 given)) =
    sym (field_back port.checksum (word_sum (addresses end_system port)) others (word_at given 6) (length given) _
    (omega (arith, tells.octets 6, tells.octets 7)) sent (omega (arith, length-drop 8 given, tells.source, tells.destination, size, tells.long))) in
    four_words given _ _ _ _ tells.octets tells.source tells.destination size field

pub tells_whole : (end_system : ℕ) (port : PortPlan) (given : List ℕ) (head : Head) → IsPort port → Tells end_system port given head
    → message_deviation false (length given) head ≡ None → IsWhole end_system port given
unfolding datagram
tells_whole end_system port given head is_port tells none =
    let said = none_says (length given) head none in
    grind (arith, nat_tests, said, header_back, parts, length-drop, tells.port_is)

-- ---- its link

-- a frame is of a link of the plan, and for a network of it
pub record IsPlaced (plan : Plan) (k : ℕ) (net : Net) (frame : List ℕ) : Type 0 where
  pub end_system : word_at frame 9 ≡ plan.end_system
  pub within : k < length plan.links
  pub link : link_in frame ≡ (link_plan_at plan.links k).id.0
  pub on : names net (link_plan_at plan.links k).networks ≡ true
  pub interface : slice_index frame 11 ≡ interface_byte net

on_says : (plan : Plan) (vl : VlId) (net : Net) (frame : List ℕ) (k : ℕ) (found : Option ℕ) → on_link plan vl net frame found ≡ Ok k
    → (found ≡ Some k) × (slice_index frame 11 ≡ interface_on (link_plan_at plan.links k) net)
on_says plan vl net frame k found is = grind (arith, nat_tests)

place_says : (plan : Plan) (net : Net) (frame : List ℕ) (k : ℕ) → place_of plan net frame ≡ Ok k → (word_at frame 9 ≡ plan.end_system)
    × (on_link plan (record { 0 = link_in frame }) net frame (position (λ (link : LinkPlan). link.id.0 == link_in frame) plan.links) ≡ Ok k)
unfolding place_of
place_says plan net frame k is = grind (arith, nat_tests)

named : (link : LinkPlan) (net : Net) (byte : ℕ) → byte ≡ interface_on link net → (byte ≡ 32) ⊎ (byte ≡ 64)
    → (names net link.networks ≡ true) × (byte ≡ interface_byte net)
named link net byte is one = grind (arith, cases_Bool)

pub placed_says : (plan : Plan) (net : Net) (frame : List ℕ) (k : ℕ) → place_of plan net frame ≡ Ok k → IsFrame frame → IsPlaced plan k net frame
placed_says plan net frame k is profile =
    let place = place_says plan net frame k is in
    let on = on_says plan (record { 0 = link_in frame }) net frame k _ place.1 in
    let at = position-Some (λ (link : LinkPlan). link.id.0 == link_in frame) plan.links k (link_plan_at [] 0) on.0 in
    let at_on = named (link_plan_at plan.links k) net (slice_index frame 11) on.1 profile.link.interface in
    grind (arith, nat_tests, place, at, at_on)

-- a frame of the profile, of a link of the plan, and no longer than its Lmax
pub record IsAdmitted (plan : Plan) (k : ℕ) (net : Net) (frame : List ℕ) : Type 0 where
  pub profile : IsFrame frame
  pub placed : IsPlaced plan k net frame
  pub sized : size_deviation (link_plan_at plan.links k) (length frame) ≡ None

-- The judge finds nothing in a frame of bytes. Its header checksum isn't 65,535, which no sender computes: a receiver, and
-- the judge, take it for 0.
pub record IsQuiet (plan : Plan) (k s : ℕ) (net : Net) (joining : Joining) (frame : List ℕ) : Type 0 where
  pub octets : (i : ℕ) → slice_index frame i < 256
  pub sum : word_at frame 24 ≡ 65535 → ⊥
  pub admitted : IsAdmitted plan k net frame
  pub of_sub : judge_sub (fields_of frame) ≡ s
  pub good : IsGood (room_at plan k) (port_at plan k frame) (fields_of frame) joining

-- ---- its piece

-- the piece that a frame says
abbrev pub piece_in : List ℕ → Piece
piece_in frame = record {
  start = 8 * (fragment_field frame % 8192);
  len = total_length frame - 20;
  more = nat_le 8192 (fragment_field frame);
}

-- its content
abbrev pub body_in : List ℕ → List ℕ
body_in frame = take (total_length frame - 20) (drop 34 frame)

pub length_says : (room : ℕ) (piece : PieceIn) → length_deviation room piece ≡ None → piece.len ≤ room
    → (piece.more ≡ true → piece.len ≡ step_of room) × (piece.more ≡ false → 0 < piece.start → room < step_of room + piece.len)
unfolding length_deviation
length_says room piece none fits = grind (arith, nat_tests)

pub record Fits (room : ℕ) (fields : Fields) (joining : Joining) : Type 0 where
  pub start : (n : ℕ) → next_of joining ≡ Some n → fields.piece.start ≡ n
  pub ident : (n : ℕ) → ident_of joining ≡ Some n → fields.piece.ident ≡ n
  pub towards : (head : Head) → begun joining ≡ Some head → is_towards fields.flow head.port ≡ true
  pub len : length_deviation room fields.piece ≡ None

pub fits_says : (room : ℕ) (fields : Fields) (joining : Joining) → fragment_deviation false room fields joining ≡ None → Fits room fields joining
unfolding fragment_deviation
fits_says room fields joining none = grind (arith, nat_tests, none_both, cases_Bool)

-- a frame of a port is read
pub reads : (plan : Plan) (k s : ℕ) (net : Net) (joining : Joining) (frame : List ℕ) (port : PortPlan) (ident : ℕ)
    → IsQuiet plan k s net joining frame → (fields_of frame).piece.ident ≡ ident → port.vl.0 ≡ (link_plan_at plan.links k).id.0
    → is_towards (fields_of frame).flow port ≡ true → IsRead plan.end_system port net ident (piece_in frame) frame
unfolding fields_of
reads plan k s net joining frame port ident quiet ident_is link towards =
    let profile : IsFrame frame = quiet.admitted.profile in
    let placed = quiet.admitted.placed in
    let link_is = placed.link ∙ sym link in
    let partition : slice_index frame 29 ≡ port.partition = grind (arith, nat_tests) in
    let address : 65536 * word_at frame 30 + word_at frame 32 ≡ address_number (destination_address port) = grind (arith, nat_tests) in
    assumption

-- ---- its port

-- the port of a first piece
pub record IsFound (ports : List PortPlan) (vl : VlId) (fields : Fields) : Type 0 where
  pub port : PortPlan
  pub found : first_port false ports vl fields ≡ Some port
  pub member : Contains ports port
  pub its : is_of_port false vl.0 (judge_sub fields) fields.flow port ≡ true

pub found_says : (ports : List PortPlan) (vl : VlId) (fields : Fields) → port_deviation fields (first_port false ports vl fields) ≡ None
    → fields.piece.start ≡ 0 → IsFound ports vl fields
found_says ports vl fields none first = grind (arith, nat_tests, find_says)

-- between two messages
pub record IsBetween (s place : ℕ) (joining : Joining) : Type 0 where
  pub next : next_of joining ≡ Some 0
  pub ident : ident_of joining ≡ Some (identification place s)

-- a port sends on a sub-VL
pub record IsSender (plan : Plan) (k s : ℕ) (port : PortPlan) : Type 0 where
  pub member : Contains plan.ports port
  pub over : port.vl.0 ≡ (link_plan_at plan.links k).id.0
  pub its : port.sub ≡ s

-- within a message of a port, of which these bytes came
pub record IsWithin (plan : Plan) (k s place : ℕ) (given : List ℕ) (port : PortPlan) (joining : Joining) : Type 0 where
  pub next : next_of joining ≡ Some (length given)
  pub ident : ident_of joining ≡ Some (identification place s)
  pub head : Head
  pub begun_is : begun joining ≡ Some head
  pub tells : Tells plan.end_system port given head
  pub sender : IsSender plan k s port
  pub units : length given % 8 ≡ 0

-- a frame brings the next piece of a message of a port, of which these bytes came
pub record Brings (plan : Plan) (k s : ℕ) (net : Net) (place : ℕ) (given : List ℕ) (port : PortPlan) (joining : Joining)
    (frame : List ℕ) : Type 0 where
  pub read : IsRead plan.end_system port net (identification place s) (piece_in frame) frame
  pub start : (piece_in frame).start ≡ length given
  pub head : Head
  pub known : head_now (port_at plan k frame) (fields_of frame) joining ≡ Some head
  pub tells : Tells plan.end_system port (given ++ body_in frame) head
  pub sender : IsSender plan k s port
  pub units : length given % 8 ≡ 0

-- the bytes of a part
part_octets : (f : List ℕ) (n m : ℕ) → ((i : ℕ) → get_or f i 0 < 256) → (i : ℕ) → get_or (take n (drop m f)) i 0 < 256
part_octets f n m octets i = elim (cases_lt i n) [
  | inl inside ↦ rw (← part_at f (take n (drop m f)) n m i refl inside) (octets (m + i))
  | inr past ↦ rw (get_or_past (take n (drop m f)) i 0 (omega (arith, length-take n (drop m f)))) (omega arith)
]

fits_in : (link : LinkPlan) (len : ℕ) → size_deviation link len ≡ None → len + 4 ≤ link.lmax
fits_in link len none = grind (arith, nat_tests)

-- a last piece ends a message without a finding
pub ends_says : (piece : PieceIn) (known : Option Head) (head : Head) → end_deviation false piece known ≡ None → piece.more ≡ false
    → known ≡ Some head → message_deviation false (piece.start + piece.len) head ≡ None
ends_says piece known head none last is = grind (arith, nat_tests)

module _ {plan : Plan} {k s : ℕ} {net : Net} {joining : Joining} {frame : List ℕ} (valid : IsPlan plan) (within : k < length plan.links)
    (quiet : IsQuiet plan k s net joining frame) where
  link_is : IsLink (link_plan_at plan.links k)
  link_is = valid.each_link k _ within

  pub size : (1 ≤ (piece_in frame).len) × (length frame ≡ max 60 (35 + (piece_in frame).len)) × ((piece_in frame).len ≤ room_at plan k)
      × (length (body_in frame) ≡ (piece_in frame).len)
  size =
      let small = fits_in (link_plan_at plan.links k) (length frame) quiet.admitted.sized in
      let total = quiet.admitted.profile.internet.total in
      let whole = quiet.admitted.profile.fits in
      let most = link_is.lmax in (
        omega arith,
        omega arith,
        omega arith,
        omega (arith, length-take (total_length frame - 20) (drop 34 frame), length-drop 34 frame),
      )

  sum_is : (fields_of frame).sum ≡ word_sum (body_in frame) % 65535
  unfolding fields_of
  sum_is = grind (arith, nat_tests, quiet.admitted.profile)

  fits : Fits (room_at plan k) (fields_of frame) joining
  fits = fits_says (room_at plan k) (fields_of frame) joining quiet.good.fits

  -- what a first piece tells of its message
  tells_first : (port : PortPlan) (ident : ℕ) → IsPort port → IsRead plan.end_system port net ident (piece_in frame) frame
      → 8 ≤ length (body_in frame) → (fields_of frame).flow.source ≡ port.source → (fields_of frame).flow.destination ≡ port.destination
      → Tells plan.end_system port (body_in frame) (head_of port (fields_of frame))
  unfolding fields_of
  tells_first port ident is_port read long source destination =
      let here = λ (j : ℕ) (below : j < 8). part_at frame (body_in frame) (total_length frame - 20) 34 j refl (omega (arith, size)) in
      let ends : word_sum (take 8 (drop 26 frame)) ≡ word_sum (addresses plan.end_system port) =
      ap word_sum (bytes_are 8 26 frame (omega (arith, size)) ∙ address_part plan.end_system port net ident (piece_in frame) frame is_port read) in
      let octets = part_octets frame (total_length frame - 20) 34 quiet.octets in
      grind (arith, nat_tests, here 0, here 1, here 2, here 3, here 4, here 5, here 6, here 7, ends, sum_is, octets)

  -- a first piece has the UDP header
  long_first : (port : PortPlan) → port_at plan k frame ≡ Some port
      → (fields_of frame).piece.start ≡ 0 → 8 ≤ length (body_in frame)
  unfolding fields_of
  long_first port found first = elim (cases_Bool (fields_of frame).piece.more) [
    | inl more ↦ let step = (length_says (room_at plan k) (fields_of frame).piece fits.len (omega (arith, size))).0 more in
        omega (arith, size, link_is.lmax)
    | inr last ↦
        let ends = ends_says (fields_of frame).piece _ _ quiet.good.ends last (head_first _ port (fields_of frame) joining first found) in
        omega (arith, size, first, none_says _ _ ends)
  ]

  -- a first piece
  pub brings_first : {place : ℕ} → IsBetween s place joining → (port : PortPlan) × Brings plan k s net place [] port joining frame
  unfolding fields_of
  brings_first between =
      let first : (fields_of frame).piece.start ≡ 0 = fits.start 0 between.next in
      let found = found_says plan.ports (link_plan_at plan.links k).id (fields_of frame) quiet.good.of_port first in
      let says = port_says (link_plan_at plan.links k).id.0 (judge_sub (fields_of frame)) (fields_of frame).flow found.port found.its in
      let is_port = All-contains IsPort plan.ports found.port valid.each_port found.member in
      let read = reads plan k s net joining frame found.port _ quiet (fits.ident _ between.ident) says.0 says.4 in (
        found.port,
        record {
          read = read;
          start = first;
          head = head_of found.port (fields_of frame);
          known = head_first _ found.port (fields_of frame) joining first found.found;
          tells = tells_first found.port _ is_port read (long_first found.port found.found first) says.2 says.3;
          sender = record { member = found.member; over = says.0; its = says.1 ∙ quiet.of_sub };
          units = refl;
        },
      )

  -- a later piece
  pub brings_later : {place : ℕ} {given : List ℕ} {port : PortPlan} → IsWithin plan k s place given port joining
      → Brings plan k s net place given port joining frame
  unfolding fields_of
  brings_later {given = given} {port = port} is =
      let start : (fields_of frame).piece.start ≡ length given = fits.start _ is.next in
      let towards : is_towards (fields_of frame).flow port ≡ true = rw is.tells.port_is at (fits.towards is.head is.begun_is) in
      let behind : head_after (begun joining) (fields_of frame) ≡ Some (head_with is.head (fields_of frame)) = rw is.begun_is refl in
      record {
        read = reads plan k s net joining frame port _ quiet (fits.ident _ is.ident) is.sender.over towards;
        start = start;
        head = head_with is.head (fields_of frame);
        known = head_later _ (fields_of frame) joining (omega (arith, is.tells.long)) ∙ behind;
        tells = tells_more plan.end_system port given (body_in frame) is.head (fields_of frame) is.tells (omega (arith, is.units))
            (part_octets frame (total_length frame - 20) 34 quiet.octets) sum_is;
        sender = is.sender;
        units = is.units;
      }

-- The sub-VL of a first frame in which nothing is found is one of its link.
pub first_of_sub : (plan : Plan) (k s : ℕ) (net : Net) (frame : List ℕ) → IsPlan plan
    → IsQuiet plan k s net (new_sub false false s).joining frame → s < (link_plan_at plan.links k).sub_vls
first_of_sub plan k s net frame valid quiet =
    let placed = quiet.admitted.placed in
    let between : IsBetween s 0 (new_sub false false s).joining = record { next = refl; ident = ap Some (omega (arith, quiet.of_sub)) } in
    let brings = brings_first valid placed.within quiet between in
    let sender = brings.1.sender in
    let link = All-contains (HasLink plan.links) plan.ports brings.0 valid.linked sender.member in
    let same = valid.links_apart link.at k link.within placed.within (link.over.id ∙ same_id _ _ sender.over) in
    omega (arith, sender.its, link.over.sub, ap (λ (i : ℕ). (link_plan_at plan.links i).sub_vls) same)
