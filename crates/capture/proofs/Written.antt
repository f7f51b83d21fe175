-- The blocks that are written, as a reading takes them.
use Rattle.capture.proofs.Names.{A, B, Block, Blocks, Entry, Fits, GREATEST_UNIT, Interface, List, Little, Net, None, Ok, Progress, Some, ap, append-nil, arith, block, block_content, block_size, body_of, content_of, drop, drop-append_seam, drop-drop, enhanced, eq-eqb, filled, interface_of, known, le-ltb, length, length-append, little_number-reads_back, moved, network_of, next, nothing_lost, number_at, or_stop, packet_body, packet_for, refl, section_type, size_of, slice_range, sym, take-append_seam, take_all, time_of, unit_of, word, [], ℕ, ◌%◌, ◌*◌, ◌++◌, ◌+◌, ◌-◌, ◌/◌, ◌<◌, ◌>>=◌, ◌^◌, ◌∙◌, ◌∷◌, ◌≡◌, ◌≤◌, drop_all, fill, content, enhanced_content, options_in, packet_options, telling, with_packet_losses}
use Rattle.capture.proofs.Packets.{length-packet_body}

-- a reading in a little-endian section
abbrev pub in_section : List Interface → Progress
in_section interfaces = record { format = Blocks Little; interfaces = interfaces; lost_before = 0 }

length-word : (x : ℕ) → length (word x) ≡ 4
unfolding word
length-word x = refl

pub length-block : (kind : ℕ) (body : List ℕ) → length (block kind body) ≡ 12 + length body
length-block kind body = simp (length-append, length-word) (omega arith)

-- its type, its length in front, its length at the end, and its body
kind_is : (kind : ℕ) (body : List ℕ) → kind < 2 ^ 32 → number_at Little 4 0 (block kind body) ≡ kind
unfolding word
kind_is kind body lt = little_number-reads_back 4 kind (word (12 + length body) ++ (body ++ word (12 + length body))) lt

length_is : (kind : ℕ) (body : List ℕ) → 12 + length body < 2 ^ 32 → number_at Little 4 4 (block kind body)
    ≡ 12 + length body
unfolding word
length_is kind body lt = little_number-reads_back 4 (12 + length body) (body ++ word (12 + length body)) lt

inside_is : (kind : ℕ) (body : List ℕ) → slice_range (block kind body) 8 (8 + length body) ≡ body
unfolding word
inside_is kind body =
    let len : 8 + length body - 8 ≡ length body = omega arith in
    rw (len, take-append_seam) refl

tail_is : (kind : ℕ) (body : List ℕ) → drop (8 + length body) (block kind body) ≡ word (12 + length body)
unfolding word
tail_is kind body =
    let split : drop (8 + length body) (block kind body) ≡ drop (length body) (drop 8 (block kind body)) =
    sym (drop-drop (length body) 8 (block kind body)) in
    split ∙ drop-append_seam body (word (12 + length body))

end_is : (kind : ℕ) (body : List ℕ) → 12 + length body < 2 ^ 32
    → number_at Little 4 (8 + length body) (block kind body) ≡ 12 + length body
unfolding word
end_is kind body lt =
    ap (λ (l : List ℕ). number_at Little 4 0 l) (tail_is kind body ∙ sym (append-nil (word (12 + length body))))
    ∙ little_number-reads_back 4 (12 + length body) [] lt

-- a step over bytes by what they read as
unit_is : (bytes : List ℕ) (kind : ℕ) → number_at Little 4 0 bytes ≡ kind → (kind ≡ section_type → ⊥)
    → unit_of (Blocks Little) bytes ≡ Ok (Block Little)
unfolding unit_of
unit_is bytes kind is other = grind arith

size_is : (bytes : List ℕ) (len : ℕ) → number_at Little 4 4 bytes ≡ len → 12 ≤ len → len ≤ GREATEST_UNIT → len % 4 ≡ 0
    → size_of (Block Little) bytes ≡ Ok len
unfolding size_of block_size
size_is bytes len is least most even = grind arith

content_is : (p : Progress) (bytes body : List ℕ) (kind to : ℕ) → number_at Little 4 0 bytes ≡ kind
    → length bytes ≡ to + 4
    → number_at Little 4 to bytes ≡ to + 4 → slice_range bytes 8 to ≡ body
    → content_of p (Block Little) bytes ≡ block_content p Little kind body
unfolding content_of body_of
content_is p bytes body kind to is len end inside =
    let at : length bytes - 4 ≡ to = omega arith in
    rw (at, end, len, inside, is, eq-eqb (to + 4) (to + 4) refl) refl

step_is : (interfaces : List Interface) (bytes body : List ℕ) (kind to : ℕ) → number_at Little 4 0 bytes ≡ kind
    → (kind ≡ section_type → ⊥) → number_at Little 4 4 bytes ≡ to + 4 → length bytes ≡ to + 4 → 8 ≤ to
    → to + 4 ≤ GREATEST_UNIT → (to + 4) % 4 ≡ 0 → number_at Little 4 to bytes ≡ to + 4 → slice_range bytes 8 to ≡ body
    → next (in_section interfaces) bytes
    ≡ or_stop (block_content (in_section interfaces) Little kind body) >>= (λ does. Ok (moved (to + 4) does))
unfolding next
step_is interfaces bytes body kind to is other front len least most even end inside =
    rw (
      le-ltb (length bytes) 12 (omega arith),
      unit_is bytes kind is other,
      size_is bytes (to + 4) front (omega arith) most even,
      le-ltb (length bytes) (to + 4) (omega arith),
      take_all (to + 4) bytes (omega arith),
      content_is (in_section interfaces) bytes body kind to is len end inside,
    ) refl

-- a step takes a block by its type and its body
pub block_next : (kind : ℕ) (body : List ℕ) (interfaces : List Interface) → kind < 2 ^ 32 → (kind ≡ section_type → ⊥)
    → 12 + length body ≤ GREATEST_UNIT → (12 + length body) % 4 ≡ 0
    → next (in_section interfaces) (block kind body)
    ≡ or_stop (block_content (in_section interfaces) Little kind body) >>= (λ does. Ok (moved (12 + length body) does))
block_next kind body interfaces lt other most even =
    let to : ℕ = 8 + length body in
    let len : 12 + length body ≡ to + 4 = omega arith in
    let small : 12 + length body < 2 ^ 32 = omega arith in
    step_is interfaces (block kind body) body kind to (kind_is kind body lt) other (length_is kind body small ∙ len)
    (length-block kind body ∙ len) (omega arith) (omega arith) (omega arith) (end_is kind body small ∙ len)
    (inside_is kind body)
    ∙ ap (λ (n : ℕ). or_stop (block_content (in_section interfaces) Little kind body) >>= (λ does. Ok (moved n does))) (sym len)

-- the interfaces that are written
abbrev pub interface_for : Net → Interface
interface_for net = record { name = Some net; limit = 1514; resolution = 6; offset = 0; fcs = None; losses = nothing_lost }

abbrev pub both : List Interface
both = interface_for A ∷ interface_for B ∷ []

few_interfaces : (net : Net) → interface_of net < 2
few_interfaces net = grind arith

-- times are written in microseconds
time_read : (net : Net) (at ticks : ℕ) → ticks ≡ at → time_of (interface_for net) ticks ≡ Ok (at * 1000)
unfolding time_of
time_read net at ticks is =
    let nanos : ticks * 1000000000 / 1000000 + 0 * 1000000000 ≡ at * 1000 = omega arith in
    rw nanos refl

known_read : (net : Net) → known both (interface_of net) ≡ Ok (interface_for net)
known_read A = refl
known_read B = refl

network_read : (net : Net) → network_of both (interface_of net) ≡ Some net
network_read A = refl
network_read B = refl

-- a packet, by what its body reads as
packet_by : (net : Net) (e : Entry) (body : List ℕ) → number_at Little 4 0 body ≡ interface_of net
    → number_at Little 4 4 body * 2 ^ 32 + number_at Little 4 8 body ≡ e.at → number_at Little 4 12 body
    ≡ length e.frame
    → number_at Little 4 16 body ≡ length e.frame → 20 + length e.frame ≤ length body
    → slice_range body 20 (20 + length e.frame) ≡ e.frame → enhanced Little both body ≡ Ok (packet_for net e)
unfolding enhanced
packet_by net e body interface at captured original within bytes =
    rw (
      interface,
      captured,
      original,
      bytes,
      le-ltb (length body) 20 (omega arith),
      known_read net,
      le-ltb (length body) (20 + length e.frame) within,
      time_read net e.at (number_at Little 4 4 body * 2 ^ 32 + number_at Little 4 8 body) at,
      network_read net,
    ) refl

-- a packet that is written
packet_is_read : (net : Net) (e : Entry) → Fits e
    → enhanced Little both (packet_body (interface_of net) e) ≡ Ok (packet_for net e)
unfolding word
packet_is_read net e fits =
    let i : ℕ = interface_of net in
    let few : i < 2 = few_interfaces net in
    let len : ℕ = length e.frame in
    let frame : List ℕ = filled e.frame in
    let high : number_at Little 4 4 (packet_body i e) ≡ e.at / 2 ^ 32 =
    little_number-reads_back 4 (e.at / 2 ^ 32) (word (e.at % 2 ^ 32) ++ (word len ++ (word len ++ frame)))
    (omega arith) in
    let low : number_at Little 4 8 (packet_body i e) ≡ e.at % 2 ^ 32 =
    little_number-reads_back 4 (e.at % 2 ^ 32) (word len ++ (word len ++ frame)) (omega arith) in
    packet_by net e (packet_body i e)
    (little_number-reads_back 4 i (word (e.at / 2 ^ 32) ++ (word (e.at % 2 ^ 32) ++ (word len ++
    (word len ++ frame)))) (omega arith))
    (omega (arith, high, low)) (little_number-reads_back 4 len (word len ++ frame) (omega arith))
    (little_number-reads_back 4 len frame (omega arith)) (omega (arith, length-packet_body i e))
    (let same : 20 + len - 20 ≡ len = omega arith in rw (same, take-append_seam) refl)

-- a packet that is written has no options, so it tells of no losses
tells_nothing : (net : Net) (e : Entry) → packet_options Little (packet_body (interface_of net) e) ≡ []
    → telling (interface_of net) (with_packet_losses Little (packet_body (interface_of net) e)) (in_section both)
    ≡ in_section both
unfolding with_packet_losses options_in
tells_nothing A e none = rw none refl
tells_nothing B e none = rw none refl

no_options : (net : Net) (e : Entry) → Fits e → packet_options Little (packet_body (interface_of net) e) ≡ []
unfolding word
no_options net e fits =
    let i : ℕ = interface_of net in
    let len : ℕ = length e.frame in
    let captured : number_at Little 4 12 (packet_body i e) ≡ len =
    little_number-reads_back 4 len (word len ++ filled e.frame) (omega arith) in
    rw captured (drop_all (20 + (len + fill len)) (packet_body i e) (omega (arith, length-packet_body i e)))

-- the content of a packet's block
pub packet_content : (net : Net) (e : Entry) → Fits e
    → enhanced_content (in_section both) Little (packet_body (interface_of net) e)
    ≡ Ok (content (in_section both) (Some (packet_for net e)))
unfolding enhanced_content
packet_content net e fits =
    rw (packet_is_read net e fits, tells_nothing net e (no_options net e fits)) refl
