-- How many fragments messages have.
use Rattle.afdx_laws.proofs.RunNames.{ℕ, suc, zero, ◌≡◌, ◌+◌, ◌-◌, ◌≤◌, List, [], ◌∷◌, ◌++◌, length, arith, refl, ap, inl, inr, All, Contains, cases_lt, length-append, length-map, append_assoc, step_of, cutting, cut_by, pieces_from, Plan, IsAllowed, link_plan_at, room_of, Sent, fragments_at, fragments_from, LinkPlan, PortPlan, pieces_of, port_pieces, pieces_on, most_pieces, div_ceil, sum_by, sum_by-cons, max_bounds, Net}

ceil_less : (a s : ℕ) → 1 ≤ a → 1 ≤ s → div_ceil a s ≡ 1 + div_ceil (a - s) s
ceil_less a s some step = grind arith

ceil_mono : (a b s : ℕ) → 1 ≤ s → a ≤ b → div_ceil a s ≤ div_ceil b s
ceil_mono a b s step le = grind arith

-- the number of pieces of some bytes
cut_count : (turns room n : ℕ) → 8 ≤ room → 1 ≤ n → n ≤ turns → length (cut_by turns room n) ≡ 1 + div_ceil (n - room) (step_of room)
cut_count zero room n wide some few = absurd (omega arith)
cut_count (suc turns) room n wide some few =
    elim (cases_lt room n) [
      | inl more ↦
          let rest = cut_count turns room (n - step_of room) wide (omega arith) (omega arith) in
          let part = ceil_less (n - room) (step_of room) (omega arith) (omega arith) in
          grind arith
      | inr fits ↦
          grind arith
    ]

pieces_count : (lengths : List ℕ) (start : ℕ) → length (pieces_from start lengths) ≡ length lengths
pieces_count [] start = refl
pieces_count (len ∷ rest) start = ap suc (pieces_count rest (start + len))

pub message_pieces : (end_system room : ℕ) (net : Net) (place : ℕ) (sent : Sent) → 8 ≤ room
    → length (fragments_at end_system room net place sent) ≡ pieces_of room (length sent.bytes)
unfolding fragments_at cutting
message_pieces end_system room net place sent wide = grind (arith, length-map, pieces_count, cut_count)

pub pieces_mono : (room a b : ℕ) → 8 ≤ room → a ≤ b → pieces_of room a ≤ pieces_of room b
pieces_mono room a b wide le =
    let more = ceil_mono (8 + a - room) (8 + b - room) (step_of room) (omega arith) (omega arith) in
    omega arith

-- the number of fragments of messages
abbrev pub pieces_in : ℕ → List Sent → ℕ
pieces_in room messages = sum_by (λ (m : Sent). pieces_of room (length m.bytes)) messages

pub fragments_count : (end_system room : ℕ) (net : Net) (place : ℕ) (messages : List Sent) → 8 ≤ room
    → length (fragments_from end_system room net place messages) ≡ pieces_in room messages
fragments_count end_system room net place [] wide = refl
fragments_count end_system room net place (m ∷ later) wide =
    let own = message_pieces end_system room net place m wide in
    let parts = length-append (fragments_at end_system room net place m) (fragments_from end_system room net (suc place) later) in
    let whole = sum_by-cons (λ (sent : Sent). pieces_of room (length sent.bytes)) m later in
    let rest = fragments_count end_system room net (suc place) later wide in
    omega arith

pub fragments_both : (end_system room : ℕ) (net : Net) (place : ℕ) (xs ys : List Sent) → fragments_from end_system room net place (xs ++ ys)
    ≡ fragments_from end_system room net place xs ++ fragments_from end_system room net (place + length xs) ys
fragments_both end_system room net place [] ys = grind arith
fragments_both end_system room net place (x ∷ xs) ys =
    grind (arith, append_assoc, fragments_both end_system room net (suc place) xs ys)

-- a port needs at most as many fragments per message as the neediest of its sub-VL
pub port_most : (link : LinkPlan) (ports : List PortPlan) (port : PortPlan) → Contains ports port → port.vl.0 ≡ link.id.0
    → port_pieces link port ≤ most_pieces link port.sub ports
port_most link ports port inside over =
    let Few : PortPlan → Type 0 = λ p. pieces_on link port.sub p ≤ most_pieces link port.sub ports in
    let all : All Few ports = λ i d lt. max_bounds (most_pieces link port.sub) (pieces_on link port.sub) refl (λ x xs. refl) ports i d lt in
    grind arith

-- a message needs at most as many fragments as the greatest of its port
pub own_pieces : (plan : Plan) (k s : ℕ) (m : Sent) → 8 ≤ room_of (link_plan_at plan.links k).lmax → IsAllowed plan k s m
    → pieces_of (room_of (link_plan_at plan.links k).lmax) (length m.bytes) ≤ port_pieces (link_plan_at plan.links k) m.port
own_pieces plan k s m wide of = pieces_mono _ (length m.bytes) m.port.max wide of.most
