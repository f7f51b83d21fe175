-- What the judge reads of the frame of a piece, and the frame that is read: they are one. The link and the port that the judge
-- finds for a frame of a valid plan.
use Rattle.afdx_laws.proofs.JudgeNames.{All, All-append, All-contains, All-drop, All-take, AllZip, AreSameFlow, Bool, Contains, Fields, Flow, IfSome, IsFrame, IsPiece, IsPlan, IsPort, IsUnicast, LinkPlan, List, Net, Ok, Option, Piece, Plan, PortPlan, Some, UdpSum, VlId, address_number, addresses, ap, append_assoc, arith, blanked, both_ways, cases_Bool, checksum, datagram, destination_address, destination_of, drop, drop-cons, drop-drop, eq-eqb, false, fields_of, find, fragment_field, frame_of, get_or, get_or-drop, get_or-replicate, get_or-take, get_or_append_left, header_front, identification, inl, inr, interface_byte, internet_header, is_of_port, is_towards, judge_sub, length, length-addresses, length-drop, length-replicate, length-take, length-udp_header, link_header, link_in, link_plan_at, max, more_in, names, nat_le, nat_tests, ne_eqb, number_in, payload_says, place_of, port_of, position, position_or_len_is, refl, remove, replicate, same_number_lists, says, slice_index, sub_in, suc, sym, take, take-add, take_at, take_datagram, those_with, total_length, total_ok, true, two_bytes, udp_checksum, udp_field, udp_header, udp_sum, unnumbered, word_at, word_sum, zero, ℕ, [], ◌%◌, ◌*◌, ◌++◌, ◌+◌, ◌-◌, ◌/◌, ◌<◌, ◌==◌, ◌∙◌, ◌∷◌, ◌≡◌, ◌≢◌, ◌≤◌}

pub back_none : {X : Type 0} (xs ys : List X) → xs ++ ys ≡ [] → ys ≡ []
back_none [] ys none = none
back_none (x ∷ xs) ys none = absurd (cc (none))

-- an element of a number, and another, at the front of a list
pub with_own : {X : Type 0} (f : X → ℕ) (n : ℕ) (x : X) (xs : List X) → f x ≡ n → those_with f n (x ∷ xs) ≡ x ∷ those_with f n xs
with_own f n x xs its = rw (eq-eqb (f x) n its) refl

pub with_other : {X : Type 0} (f : X → ℕ) (n : ℕ) (x : X) (xs : List X) → f x ≢ n → those_with f n (x ∷ xs) ≡ those_with f n xs
with_other f n x xs other = rw (ne_eqb (f x) n other) refl

-- the one member that passes is found
find_one : {X : Type 0} (p : X → Bool) (xs : List X) (x : X) → Contains xs x → p x ≡ true
    → ((y : X) → Contains xs y → p y ≡ true → y ≡ x) → find p xs ≡ Some x
find_one p [] x member passes only = absurd (omega (arith, member.1))
find_one p (y ∷ ys) x member passes only = elim (cases_Bool (p y)) [
  | inl is ↦ rw (is, only y (0, omega arith, refl) is) refl
  | inr isnt ↦ rw isnt (find_one p ys x (behind isnt member) passes (λ z in_z. only z (suc in_z.0, omega (arith, in_z.1), in_z.2)))
]
  where
    behind : p y ≡ false → Contains (y ∷ ys) x → Contains ys x
    behind isnt (zero, below, here) = absurd (both_ways (p y) isnt (ap p here ∙ passes))
    behind isnt (suc k, below, here) = (k, omega arith, here)

-- what is found is a member that passes
pub find_says : {X : Type 0} (p : X → Bool) (xs : List X) (x : X) → find p xs ≡ Some x → Contains xs x × (p x ≡ true)
find_says p [] x is = cc
find_says p (y ∷ ys) x is = elim (cases_Bool (p y)) [
  | inl passes ↦ let same : y ≡ x = cc (rw passes at is) in ((0, omega arith, same), rw (← same) passes)
  | inr fails ↦ let behind = find_says p ys x (rw fails at is) in ((suc behind.0.0, omega (arith, behind.0.1), behind.0.2), behind.1)
]

-- two elements at one place
pub zip_at : {X Y : Type 0} (R : X → Y → Type 0) (xs : List X) (ys : List Y) (i : ℕ) (d : X) (e : Y) → AllZip R xs ys → i < length ys
    → R (get_or xs i d) (get_or ys i e)
zip_at R xs [] i d e zip inside = absurd (omega arith)
zip_at R [] (y ∷ ys) i d e zip inside = absurd zip
zip_at R (x ∷ xs) (y ∷ ys) zero d e zip inside = zip.0
zip_at R (x ∷ xs) (y ∷ ys) (suc i) d e zip inside = zip_at R xs ys i d e zip.1 (omega arith)

pub all_removed : {X : Type 0} (P : X → Type 0) (xs : List X) (i : ℕ) → All P xs → All P (remove xs i)
all_removed P xs i all = All-append P (take i xs) (drop (suc i) xs) (All-take P i xs all) (All-drop P (suc i) xs all)

-- four bytes
pub record IsAddress (address : List ℕ) : Type 0 where
  pub four : length address ≡ 4
  pub bytes : (get_or address 0 0 < 256) × (get_or address 1 0 < 256) × (get_or address 2 0 < 256) × (get_or address 3 0 < 256)

-- addresses with one number are one
pub one_address : (s t : List ℕ) → IsAddress s → IsAddress t → address_number s ≡ address_number t → s ≡ t
one_address s t is_s is_t same = grind (arith, nat_tests, same_number_lists)

-- a destination is an address
pub destination_is : (vl : ℕ) (unicast : Option (List ℕ)) → IfSome unicast IsUnicast → IsAddress (destination_of vl unicast)
destination_is vl unicast is = grind (arith, nat_tests)

pub same_id : (v w : VlId) → v.0 ≡ w.0 → v ≡ w
same_id v w same = ap (λ (n : ℕ). let id : VlId = record { 0 = n } in id) same

-- what a first piece says of its port
pub port_says : (vl sub : ℕ) (flow : Flow) (port : PortPlan) → is_of_port false vl sub flow port ≡ true → (port.vl.0 ≡ vl)
    × (port.sub ≡ sub) × (flow.source ≡ port.source) × (flow.destination ≡ port.destination) × (is_towards flow port ≡ true)
port_says vl sub flow port its = grind (arith, nat_tests)

-- two ports of a first piece are one
same_flow : (p q : PortPlan) (vl sub : ℕ) (flow : Flow) → is_of_port false vl sub flow p ≡ true → is_of_port false vl sub flow q ≡ true
    → IsPort p → IsPort q → AreSameFlow p q
same_flow p q vl sub flow of_p of_q is_p is_q = grind (arith, nat_tests, port_says, same_id, one_address, destination_is)

-- A first piece's port is found.
pub port_found : (plan : Plan) (port : PortPlan) (flow : Flow) → IsPlan plan → Contains plan.ports port
    → is_of_port false port.vl.0 port.sub flow port ≡ true → port_of false plan.ports port.vl.0 port.sub flow ≡ Some port
port_found plan port flow valid member its = find_one (is_of_port false port.vl.0 port.sub flow) plan.ports port member its only
  where
    only : (other : PortPlan) → Contains plan.ports other → is_of_port false port.vl.0 port.sub flow other ≡ true → other ≡ port
    only other among passes = valid.flows_apart other port among member (same_flow other port port.vl.0 port.sub flow passes its
        (All-contains IsPort plan.ports other valid.each_port among) (All-contains IsPort plan.ports port valid.each_port member))

-- A link's place is found.
link_found : (plan : Plan) (k : ℕ) → IsPlan plan → k < length plan.links
    → position (λ (link : LinkPlan). link.id.0 == (link_plan_at plan.links k).id.0) plan.links ≡ Some k
link_found plan k valid within = grind (arith, nat_tests, position_or_len_is, ne_eqb, same_id)

-- A frame's link is found.
pub place_found : (plan : Plan) (k : ℕ) (net : Net) (frame : List ℕ) → IsPlan plan → k < length plan.links
    → names net (link_plan_at plan.links k).networks ≡ true → word_at frame 9 ≡ plan.end_system
    → link_in frame ≡ (link_plan_at plan.links k).id.0 → slice_index frame 11 ≡ interface_byte net → place_of plan net frame ≡ Ok k
unfolding place_of
place_found plan k net frame valid within on source link interface =
    let found = link_found plan k valid within in
    rw (source, link, found) (grind (arith, nat_tests))

-- the checksum field of a message
abbrev pub sum_field : ℕ → PortPlan → List ℕ → ℕ
sum_field end_system port message = udp_field port.checksum (udp_sum end_system port message)

-- the UDP header of a first piece
pub record CarriesHeader (end_system : ℕ) (port : PortPlan) (message : List ℕ) (fields : Fields) : Type 0 where
  pub source : fields.flow.source ≡ port.source
  pub destination : fields.flow.destination ≡ port.destination
  pub udp_len : fields.udp_len ≡ 8 + length message
  pub udp_sum : fields.udp_sum ≡ sum_field end_system port message

pub record Carries (end_system : ℕ) (port : PortPlan) (message : List ℕ) (place : ℕ) (piece : Piece)
    (fields : Fields) : Type 0 where
  pub ident : fields.piece.ident ≡ identification place port.sub
  pub start : fields.piece.start ≡ piece.start
  pub len : fields.piece.len ≡ piece.len
  pub more : fields.piece.more ≡ piece.more
  pub partition : fields.flow.partition ≡ port.partition
  pub address : fields.flow.address ≡ address_number (destination_address port)
  pub sum : fields.sum ≡ word_sum (take piece.len (drop piece.start (datagram end_system port message))) % 65535
  pub ends : fields.ends ≡ word_sum (addresses end_system port)
  pub header : piece.start ≡ 0 → CarriesHeader end_system port message fields

-- a checksum field has 16 bits
udp_field_range : (how : UdpSum) (sum : ℕ) → udp_field how sum < 65536
unfolding udp_checksum
udp_field_range how sum = grind (arith, nat_tests)

-- an element of a part
pub part_at : (xs ys : List ℕ) (n m j : ℕ) → take n (drop m xs) ≡ ys → j < n → get_or xs (m + j) 0 ≡ get_or ys j 0
part_at xs ys n m j is below = grind (arith, get_or-take, get_or-drop)

-- a frame of the profile has no flag but more fragments
pub more_of : (frame : List ℕ) → fragment_field frame < 16384 → (fields_of frame).piece.more ≡ more_in frame
unfolding fields_of
more_of frame flags = ap (nat_le 8192) (omega arith)

module _ (end_system : ℕ) (port : PortPlan) (message : List ℕ) (place : ℕ) (piece : Piece) (net : Net) (number : ℕ) where
  abbrev frame : List ℕ
  frame = frame_of end_system port message place piece net number

  pub source_ok : end_system < 65536 → word_at frame 9 ≡ end_system
  unfolding unnumbered link_header
  source_ok small = omega arith

  ends_are : IsPort port → take 8 (drop 26 frame) ≡ addresses end_system port
  unfolding unnumbered link_header internet_header header_front
  ends_are is = simp append_assoc (take_at (addresses end_system port) _ 8 (grind (arith, length-addresses)))

  partition_is : slice_index frame 29 ≡ port.partition
  unfolding unnumbered link_header internet_header header_front addresses
  partition_is = refl

  address_at : IsPort port → (j : ℕ) → j < 4 → slice_index frame (30 + j) ≡ get_or (destination_address port) j 0
  unfolding addresses
  address_at is j below = grind (arith, part_at frame (addresses end_system port) 8 26 (4 + j), ends_are, get_or-drop)

  header_at : IsPort port → IsPiece (length message) piece → piece.start ≡ 0 → (j : ℕ) → j < 8
      → slice_index frame (34 + j) ≡ get_or (udp_header end_system port message) j 0
  header_at is piece_is first j below =
      let long : 8 ≤ piece.len = piece_is.header.0 first in
      let eight = length-udp_header end_system port message in
      part_at frame (take piece.len (drop piece.start (datagram end_system port message))) piece.len 34 j
      (payload_says end_system port message place piece net number is piece_is.within) (omega arith)
      ∙ ap (λ (bytes : List ℕ). get_or bytes j 0) (take_datagram piece.start piece.len end_system port message first long)
      ∙ get_or_append_left (udp_header end_system port message) (take (piece.len - 8) message) 0 j (omega arith)

  header_is : IsPort port → length message ≤ 8192 → IsPiece (length message) piece → piece.start ≡ 0
      → CarriesHeader end_system port message (fields_of frame)
  unfolding fields_of udp_header
  header_is is most piece_is first =
      let at = header_at is piece_is first in
      let range = udp_field_range port.checksum (udp_sum end_system port message) in
      grind (arith, at 0, at 1, at 2, at 3, at 4, at 5, at 6, at 7, range)

  pub carries : IsPort port → length message ≤ 8192 → IsPiece (length message) piece
      → Carries end_system port message place piece (fields_of frame)
  unfolding fields_of
  carries is most piece_is =
      let s = says end_system port message place piece net number is most piece_is in
      let total = total_ok end_system port message place piece net number piece_is.len.1 in
      let body = payload_says end_system port message place piece net number is piece_is.within in
      let at = address_at is in
      let many : 14 + total_length frame - 34 ≡ piece.len = omega arith in
      record {
        ident = s.ident_says;
        start = omega arith;
        len = omega arith;
        more = more_of frame s.frame.internet.flags ∙ s.more_says;
        partition = partition_is;
        address = omega (arith, at 0 (omega arith), at 1 (omega arith), at 2 (omega arith), at 3 (omega arith));
        sum = ap (λ (xs : List ℕ). word_sum xs % 65535) (rw (many) body);
        ends = ap word_sum (ends_are is);
        header = header_is is most piece_is;
      }

pub number_of : (frame : List ℕ) → (fields_of frame).number ≡ number_in frame
unfolding fields_of
number_of frame = refl

pub sub_of_frame : (frame : List ℕ) → judge_sub (fields_of frame) ≡ sub_in frame
unfolding fields_of
sub_of_frame frame = refl

pub sub_few : (frame : List ℕ) → judge_sub (fields_of frame) < 4
sub_few frame = omega arith

-- the elements from one on, as many as there are
abbrev pub bytes_at : List ℕ → ℕ → ℕ → List ℕ
bytes_at f i zero = []
bytes_at f i (suc n) = get_or f i 0 ∷ bytes_at f (suc i) n

pub bytes_are : (n i : ℕ) (f : List ℕ) → i + n ≤ length f → take n (drop i f) ≡ bytes_at f i n
bytes_are zero i f inside = refl
bytes_are (suc n) i f inside = rw (drop-cons f i 0 (omega arith)) (ap (λ (xs : List ℕ). get_or f i 0 ∷ xs) (bytes_are n (suc i) f (omega arith)))

-- zeros alone
zeros_are : (n : ℕ) (xs : List ℕ) → length xs ≡ n → ((j : ℕ) → j < length xs → get_or xs j 0 ≡ 0) → xs ≡ replicate n 0
zeros_are n xs size zeros = grind (arith, nat_tests, same_number_lists, length-replicate, get_or-replicate)

-- what the judge reads in a frame of a port
pub record IsRead (end_system : ℕ) (port : PortPlan) (net : Net) (ident : ℕ) (piece : Piece) (f : List ℕ) : Type 0 where
  pub octets : (i : ℕ) → slice_index f i < 256
  pub profile : IsFrame f
  pub sum : word_at f 24 ≡ 65535 → ⊥
  pub end_system_is : word_at f 9 ≡ end_system
  pub link_is : link_in f ≡ port.vl.0
  pub interface : slice_index f 11 ≡ interface_byte net
  pub ident_is : word_at f 18 ≡ ident
  pub offset : 8 * (fragment_field f % 8192) ≡ piece.start
  pub len : total_length f - 20 ≡ piece.len
  pub more : nat_le 8192 (fragment_field f) ≡ piece.more
  pub partition : slice_index f 29 ≡ port.partition
  pub address : 65536 * word_at f 30 + word_at f 32 ≡ address_number (destination_address port)

-- the frame of a piece with this content, without its sequence number
abbrev pub framed : ℕ → PortPlan → Net → ℕ → Piece → List ℕ → List ℕ
framed end_system port net ident piece body = link_header port.vl.0 end_system net
    ++ internet_header end_system port ident piece ++ body ++ replicate (25 - piece.len) 0

-- the two bytes of a word
pub word_is : (a b n : ℕ) → 256 * a + b ≡ n → a < 256 → b < 256 → (a ≡ n / 256 % 256) × (b ≡ n % 256)
word_is a b n is high low = omega arith

only_checksum : (rest c : ℕ) → (rest + c) % 65535 ≡ 0 → c < 65535 → c ≡ checksum rest
unfolding checksum
only_checksum rest c closes small = omega arith

module _ (end_system : ℕ) (port : PortPlan) (net : Net) (ident : ℕ) (piece : Piece) (f : List ℕ) (is_port : IsPort port)
    (read : IsRead end_system port net ident piece f) where
  link_part : bytes_at f 0 14 ≡ link_header port.vl.0 end_system net
  unfolding link_header
  link_part =
      let link = word_is (get_or f 4 0) (get_or f 5 0) port.vl.0 read.link_is (read.octets 4) (read.octets 5) in
      let source = word_is (get_or f 9 0) (get_or f 10 0) end_system read.end_system_is (read.octets 9) (read.octets 10) in
      cc

  front_part : bytes_at f 14 10 ≡ header_front ident piece
  unfolding header_front
  front_part = grind (arith, nat_tests, word_is)

  pub address_part : bytes_at f 26 8 ≡ addresses end_system port
  unfolding addresses
  address_part =
      let system = word_is (get_or f 9 0) (get_or f 10 0) end_system read.end_system_is (read.octets 9) (read.octets 10) in
      let destination : bytes_at f 30 4 ≡ destination_address port =
      one_address (bytes_at f 30 4) (destination_address port)
      (record { four = refl; bytes = (read.octets 30, read.octets 31, read.octets 32, read.octets 33) })
      (destination_is port.vl.0 port.unicast is_port.unicast)
      (omega (arith, read.address)) in
      cc

  sum_part : bytes_at f 24 2 ≡ two_bytes (checksum (word_sum (header_front ident piece) + word_sum (addresses end_system port)))
  unfolding checksum
  sum_part =
      let closes = rw (bytes_are 20 14 f (omega (arith, read.profile.size))) at read.profile.internet.checksum in
      let front = ap word_sum front_part in
      let ends = ap word_sum address_part in
      let small = read.octets in
      let word : word_at f 24 ≡ checksum (word_sum (header_front ident piece) + word_sum (addresses end_system port)) =
      only_checksum _ _ (omega arith) (grind (arith, small 24, small 25, read.sum)) in
      let is = word_is (get_or f 24 0) (get_or f 25 0) _ word (small 24) (small 25) in
      cc

  pub total_is : total_length f ≡ 20 + piece.len
  total_is = omega (arith, read.len, read.profile.internet.total)

  pub size_is : length f ≡ max 60 (35 + piece.len)
  size_is = omega (arith, total_is, read.profile.fits)

  head_part : bytes_at f 0 34 ≡ link_header port.vl.0 end_system net ++ internet_header end_system port ident piece
  unfolding internet_header
  head_part = rw (← sum_part, ← front_part, ← address_part, ← link_part) refl

  padding_part : take (25 - piece.len) (drop (34 + piece.len) f) ≡ replicate (25 - piece.len) 0
  padding_part = zeros_are (25 - piece.len) (take (25 - piece.len) (drop (34 + piece.len) f))
      (omega (arith, length-take (25 - piece.len) (drop (34 + piece.len) f), length-drop (34 + piece.len) f, size_is))
      (λ j below. let inside : j < 25 - piece.len = omega (arith, length-take (25 - piece.len) (drop (34 + piece.len) f)) in
      sym (part_at f _ (25 - piece.len) (34 + piece.len) j refl inside)
      ∙ read.profile.padding (34 + piece.len + j) (omega (arith, total_is)) (omega (arith, size_is)))

  pub rebuilt : blanked f ≡ framed end_system port net ident piece (take piece.len (drop 34 f))
  rebuilt =
      let size : length f - 1 ≡ 34 + (piece.len + (25 - piece.len)) = omega (arith, size_is) in
      let front : take 34 f ≡ link_header port.vl.0 end_system net ++ internet_header end_system port ident piece =
      bytes_are 34 0 f (omega (arith, size_is)) ∙ head_part in
      let behind : drop piece.len (drop 34 f) ≡ drop (34 + piece.len) f = drop-drop piece.len 34 f in
      rw (size, take-add 34 (piece.len + (25 - piece.len)) f, take-add piece.len (25 - piece.len) (drop 34 f), behind, padding_part, front)
      (simp append_assoc)
