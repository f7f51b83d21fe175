-- A piece of a message that the judge hears when it is due: nothing is wrong with it, and what is known after it is true.
use Rattle.afdx_laws.proofs.JudgeNames.{Contains, Fields, Flow, Generated, Head, Identification, IfSome, IsAllowed, IsPiece, IsPlan, Joining, List, FragmentMisfit, None, Offset, Option, Piece, PieceIn, Plan, PortPlan, Sent, Some, UdpSum, VlId, addresses, addresses_deviation, ap, arith, begun, cases_Bool, cases_eq, cases_lt, checksums_pass, datagram, drop, end_deviation, false, fields_of, first_port, fragment_deviation, head_after, head_now, head_of, head_with, ident_before, ident_of, identification, if_known, is_of_port, is_towards, joined, judge_sub, length, length-append, length-take, length-udp_header, length_deviation, link_plan_at, message_deviation, misfit_if, nat_tests, next_of, piece_at, port_deviation, refl, right_sum, room_of, step_of, suc, take, take-add, take_all, true, udp_checksum, udp_field, udp_sum, word_sum, word_sum-append, ℕ, ◌%◌, ◌+◌, ◌-◌, ◌/◌, ◌<◌, ◌∙◌, ◌≡◌, ◌≤◌, ◌⊎◌}
use Rattle.afdx_laws.proofs.ReadFrames.{Carries, port_found, sum_field}

-- what is known of a message of which `start` bytes came
abbrev pub head_at : ℕ → PortPlan → List ℕ → ℕ → Head
head_at end_system port message start = record {
  port = port;
  udp_len = 8 + length message;
  udp_sum = sum_field end_system port message;
  sum = (word_sum (addresses end_system port) + word_sum (take start (datagram end_system port message))
      + (65535 - sum_field end_system port message)) % 65535;
}

-- nothing that is known of a message is false
pub record IsTrue (ident start : ℕ) (head : Head) (joining : Joining) : Type 0 where
  pub next_is : IfSome (next_of joining) (λ n. n ≡ start)
  pub ident_is : IfSome (ident_of joining) (λ n. n ≡ ident)
  pub head_is : IfSome (begun joining) (λ h. h ≡ head)
  pub alone : ident_before joining ≡ None

-- the sum of the words with one more piece
sum_more : (xs : List ℕ) (start len : ℕ) → start % 2 ≡ 0 → start ≤ length xs
    → word_sum (take (start + len) xs) ≡ word_sum (take start xs) + word_sum (take len (drop start xs))
sum_more xs start len even inside = rw (take-add start len xs) (word_sum-append (start / 2) (take start xs) (take len (drop start xs))
    (omega (arith, length-take start xs)))

length-datagram : (end_system : ℕ) (port : PortPlan) (message : List ℕ) → length (datagram end_system port message) ≡ 8 + length message
unfolding datagram
length-datagram end_system port message = grind (arith, length-append, length-udp_header)

-- a sum that a checksum closes gives the checksum again, modulo 65,535 and without it
field_again : (how : UdpSum) (sum rest len : ℕ) → (how ≡ Generated → (rest + (17 + len)) % 65535 ≡ 0)
    → udp_field how ((rest + (65535 - udp_field how sum)) % 65535 + 17 + len) ≡ udp_field how sum
unfolding udp_checksum
field_again how sum rest len closes = grind (arith, nat_tests)

-- The sum of a whole message gives its checksum.
pub right_field : (end_system : ℕ) (port : PortPlan) (message : List ℕ)
    → right_sum (head_at end_system port message (8 + length message)) (8 + length message) ≡ sum_field end_system port message
right_field end_system port message =
    let size = length-datagram end_system port message in
    let all : take (8 + length message) (datagram end_system port message) ≡ datagram end_system port message =
    grind (arith, take_all) in
    rw all (field_again port.checksum (udp_sum end_system port message) _ _
    (λ is. omega (arith, checksums_pass end_system port message is)))

module _ {end_system : ℕ} {port : PortPlan} {message : List ℕ} {place : ℕ} {piece : Piece} {fields : Fields}
    (carries : Carries end_system port message place piece fields) where
  pub towards : is_towards fields.flow port ≡ true
  towards = grind (arith, nat_tests)

  pub its_port : piece.start ≡ 0 → is_of_port false port.vl.0 port.sub fields.flow port ≡ true
  its_port first = grind (arith, nat_tests)

  pub later_head : piece.start % 2 ≡ 0 → piece.start ≤ 8 + length message
      → head_with (head_at end_system port message piece.start) fields ≡ head_at end_system port message (piece.start + piece.len)
  later_head even inside = grind (arith, nat_tests, sum_more, length-datagram, sum_field)

-- The next piece is a step, or all that is left.
pub record IsNext (room n start : ℕ) (piece : Piece) : Type 0 where
  pub start_is : piece.start ≡ start
  pub len_is : ((piece.more ≡ true) × (piece.len ≡ step_of room) × (room < n - start))
      ⊎ ((piece.more ≡ false) × (piece.len ≡ n - start) × (n - start ≤ room))

pub next_piece : (room n start : ℕ) → IsNext room n start (piece_at room n start)
next_piece room n start = grind (arith, cases_lt, nat_tests)

pub piece_is : (room size start : ℕ) (piece : Piece) → IsNext room (8 + size) start piece → 25 ≤ room → room ≤ 1479
    → start < 8 + size → start % 8 ≡ 0 → IsPiece size piece
piece_is room size start piece is least most inside units = grind arith

-- the length of a piece that the cutting gives
pub cut_length : (room n start : ℕ) (given : Piece) (piece : PieceIn) → 8 ≤ room → IsNext room n start given
    → (0 < start → room < step_of room + (n - start)) → piece.start ≡ given.start → piece.len ≡ given.len → piece.more ≡ given.more
    → length_deviation room piece ≡ None
unfolding length_deviation
cut_length room n start given piece least next tight start_is len_is more_is = grind (arith, nat_tests)

-- what is known after a piece
pub more_joined : (piece : PieceIn) (head : Option Head) → piece.more ≡ true → (next_of (joined false piece head) ≡ Some (piece.start + piece.len))
    × (ident_of (joined false piece head) ≡ Some piece.ident) × (begun (joined false piece head) ≡ head)
    × (ident_before (joined false piece head) ≡ None)
more_joined piece head more = rw more (refl, refl, refl, refl)

pub last_joined : (piece : PieceIn) (head : Option Head) → piece.more ≡ false → (next_of (joined false piece head) ≡ Some 0)
    × (ident_of (joined false piece head) ≡ Some ((piece.ident + 4) % 65536)) × (begun (joined false piece head) ≡ None)
    × (ident_before (joined false piece head) ≡ None)
last_joined piece head last = grind (arith, nat_tests)

-- the room of a link's frames
abbrev pub room_at : Plan → ℕ → ℕ
room_at plan k = room_of (link_plan_at plan.links k).lmax

-- the port of a frame's first piece
abbrev pub port_at : Plan → ℕ → List ℕ → Option PortPlan
port_at plan k frame = first_port false plan.ports (link_plan_at plan.links k).id (fields_of frame)

-- what is known after a frame
abbrev pub joining_after : Plan → ℕ → List ℕ → Joining → Joining
joining_after plan k frame joining = joined false (fields_of frame).piece (head_now (port_at plan k frame) (fields_of frame) joining)

-- nothing is wrong with a piece
pub record IsGood (room : ℕ) (port : Option PortPlan) (fields : Fields) (joining : Joining) : Type 0 where
  pub of_port : port_deviation fields port ≡ None
  pub fits : fragment_deviation false room fields joining ≡ None
  pub ends : end_deviation false fields.piece (head_now port fields joining) ≡ None

-- a piece of a message is due
pub record IsDue (plan : Plan) (k sub : ℕ) (sent : Sent) (start : ℕ) : Type 0 where
  pub allowed : IsAllowed plan k sub sent
  pub inside : start < 8 + length sent.bytes
  pub units : start % 8 ≡ 0
  pub tight : 0 < start → room_at plan k < step_of (room_at plan k) + (8 + length sent.bytes - start)

-- what is known while it is due
abbrev pub IsTrueAt : Plan → ℕ → Sent → (place start : ℕ) → Joining → Type 0
IsTrueAt plan sub sent place start joining =
    IsTrue (identification place sub) start (head_at plan.end_system sent.port sent.bytes start) joining

-- what is not false is no deviation
no_misfit : (how : FragmentMisfit) (wanted : Option ℕ) (n seen : ℕ) → IfSome wanted (λ m. m ≡ n) → seen ≡ n → misfit_if how wanted seen ≡ None
no_misfit how wanted n seen is same = grind (arith, nat_tests)

no_stranger : (known : Option Head) (head : Head) (flow : Flow) → IfSome known (λ h. h ≡ head) → is_towards flow head.port ≡ true
    → addresses_deviation known flow ≡ None
no_stranger known head flow is of_port = grind (arith, nat_tests)

ends_well : (known : Option Head) (head : Head) (len : ℕ) → IfSome known (λ h. h ≡ head) → message_deviation false len head ≡ None
    → if_known false len known ≡ None
ends_well known head len is well = grind (arith, nat_tests)

-- a whole message
message_ok : (end_system : ℕ) (port : PortPlan) (message : List ℕ) → 1 ≤ length message → length message ≤ port.max
    → message_deviation false (8 + length message) (head_at end_system port message (8 + length message)) ≡ None
unfolding message_deviation
message_ok end_system port message some most = rw (right_field end_system port message) (grind (arith, nat_tests))

pub head_first : (port : Option PortPlan) (its : PortPlan) (fields : Fields) (joining : Joining) → fields.piece.start ≡ 0 → port ≡ Some its
    → head_now port fields joining ≡ Some (head_of its fields)
unfolding head_now
head_first port its fields joining first found = grind (arith, nat_tests)

pub head_later : (port : Option PortPlan) (fields : Fields) (joining : Joining) → 0 < fields.piece.start
    → head_now port fields joining ≡ head_after (begun joining) fields
unfolding head_now
head_later port fields joining later = grind (arith, nat_tests)

ends_if_last : (piece : PieceIn) (known : Option Head) → (piece.more ≡ false → if_known false (piece.start + piece.len) known ≡ None)
    → end_deviation false piece known ≡ None
ends_if_last piece known last = grind (arith, cases_Bool)

-- the port of a first piece
pub first_found : (plan : Plan) (port : PortPlan) (vl : VlId) (fields : Fields) → IsPlan plan → Contains plan.ports port
    → fields.piece.start ≡ 0 → vl.0 ≡ port.vl.0 → judge_sub fields ≡ port.sub
    → is_of_port false port.vl.0 port.sub fields.flow port ≡ true → first_port false plan.ports vl fields ≡ Some port
first_found plan port vl fields valid member first link of_sub its = grind (arith, port_found)

-- a piece that is due is heard
pub record IsHeard (plan : Plan) (k sub : ℕ) (sent : Sent) (place start : ℕ) (joining : Joining) (piece : Piece) (fields : Fields)
    (port : Option PortPlan) : Type 0 where
  pub due : IsDue plan k sub sent start
  pub known : IsTrueAt plan sub sent place start joining
  pub next : IsNext (room_at plan k) (8 + length sent.bytes) start piece
  pub carried : Carries plan.end_system sent.port sent.bytes place piece fields
  pub found : start ≡ 0 → port ≡ Some sent.port

module _ {plan : Plan} {k sub : ℕ} {sent : Sent} {place start : ℕ} {joining : Joining} {piece : Piece} {fields : Fields}
    {port : Option PortPlan} (heard : IsHeard plan k sub sent place start joining piece fields port) where
  its_start : fields.piece.start ≡ start
  its_start = heard.carried.start ∙ heard.next.start_is

  its_ident : fields.piece.ident ≡ identification place sub
  its_ident = heard.carried.ident ∙ ap (identification place) heard.due.allowed.queued.its

  port_fits : port_deviation fields port ≡ None
  port_fits = grind (arith, nat_tests, cases_eq, its_start)

  piece_fits : 25 ≤ room_at plan k → fragment_deviation false (room_at plan k) fields joining ≡ None
  unfolding fragment_deviation
  piece_fits least = rw (
    no_misfit Offset (next_of joining) start fields.piece.start heard.known.next_is its_start,
    no_misfit Identification (ident_of joining) _ fields.piece.ident heard.known.ident_is its_ident,
    heard.known.alone,
    no_stranger (begun joining) _ fields.flow heard.known.head_is (towards heard.carried),
    cut_length (room_at plan k) (8 + length sent.bytes) start piece fields.piece (omega arith) heard.next heard.due.tight
        heard.carried.start heard.carried.len heard.carried.more,
  ) refl

  head_true : IfSome (head_now port fields joining) (λ h. h ≡ head_at plan.end_system sent.port sent.bytes (start + piece.len))
  head_true = grind (arith, nat_tests, cases_eq, head_first, its_start, head_later, later_head)

  message_fits : end_deviation false fields.piece (head_now port fields joining) ≡ None
  message_fits = ends_if_last fields.piece (head_now port fields joining) (λ last.
      let all : start + piece.len ≡ 8 + length sent.bytes = grind (arith, heard.next, heard.due, heard.carried) in
      let whole : fields.piece.start + fields.piece.len ≡ 8 + length sent.bytes = omega (arith, its_start, heard.carried.len) in
      rw whole (ends_well (head_now port fields joining) _ _ (rw all at head_true)
      (message_ok plan.end_system sent.port sent.bytes heard.due.allowed.queued.some heard.due.allowed.most)))

  pub good : 25 ≤ room_at plan k → IsGood (room_at plan k) port fields joining
  good least = record { of_port = port_fits; fits = piece_fits least; ends = message_fits }

  pub true_after : piece.more ≡ true
      → IsTrueAt plan sub sent place (start + piece.len) (joined false fields.piece (head_now port fields joining))
  true_after more = grind (arith, nat_tests, its_start, its_ident, head_true)

  pub true_behind : piece.more ≡ false → (head : Head)
      → IsTrue (identification (suc place) sub) 0 head (joined false fields.piece (head_now port fields joining))
  true_behind last head = grind (arith, nat_tests, last_joined, its_ident)
