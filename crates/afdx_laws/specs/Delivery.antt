-- The receiving end: from the fragments of a link to datagrams, and from its frames to the messages of its sub-VLs.
use Rattle.std.specs.Prelude.{◌≡◌, ℕ, suc, ◌%◌, ◌≤◌, nat_eq, if◌then◌else◌, Option, Some, None, List, [], ◌∷◌, ◌++◌, length, map, take, All, ◌-◌, ◌<◌, nat_le, drop, nat_lt}
use Rattle.afdx_plan.specs.Plan.{identification, IsPort}
use Rattle.afdx_frame.specs.Reassembly.{Fragment, Buffer, empty, put, datagram_in, fragments_of}
use Rattle.afdx_legal.specs.Streams.{those_with, IsPrefixOf}
use Rattle.afdx_frame.specs.declared.net.Net.{Net}
use Rattle.afdx_frame.specs.declared.net.Net.TheVariants.{A, B}
use Rattle.afdx_frame.specs.Profile.{word_at, total_length, fragment_field}
use Rattle.afdx_frame.specs.Header.{sub_in, number_in, twin_of}
use Rattle.afdx_frame.specs.Fragments.{Sent, blanked, fragments}
use Rattle.afdx_legal.specs.Legal.{AreTwins}
use Rattle.afdx_laws.specs.Receiver.{Tolerance, IsFitFor, begin, received, carried, IsStream, AreCarried, most_carried, IsNear}
use Rattle.afdx_laws.specs.Loss.{AreClose, next_alone, frames_at}

-- a buffer for each identification
abbrev pub with_buffer : ℕ → Buffer → (ℕ → Buffer) → ℕ → Buffer
with_buffer key buffer buffers k = if nat_eq k key then buffer else buffers k

-- a buffer that gave its datagram is emptied
abbrev pub kept_in : Buffer → Option (List ℕ) → Buffer
kept_in buffer None = buffer
kept_in buffer (Some datagram) = empty

abbrev pub given : ℕ → Option (List ℕ) → List (ℕ × List ℕ) → List (ℕ × List ℕ)
given key None later = later
given key (Some datagram) later = (key, datagram) ∷ later

-- the datagrams that these fragments complete, each with its identification
abbrev pub delivered : (ℕ → Buffer) → List (ℕ × Fragment) → List (ℕ × List ℕ)
delivered buffers [] = []
delivered buffers (e ∷ es) =
    given e.0 (datagram_in (put (buffers e.0) e.1))
    (delivered (with_buffer e.0
    (kept_in (put (buffers e.0) e.1) (datagram_in (put (buffers e.0) e.1))) buffers) es)

-- the entries of a sub-VL, which is the identification modulo 4
abbrev pub of_sub : {X : Type 0} → ℕ → List (ℕ × X) → List (ℕ × X)
of_sub {X} sub entries = those_with (λ (e : ℕ × X). e.0 % 4) sub entries

abbrev pub keyed : ℕ → List Fragment → List (ℕ × Fragment)
keyed key fragments = map (λ (f : Fragment). (key, f)) fragments

-- the fragments of a sub-VL's datagrams from a place on, with their identifications
abbrev pub sent_from : ℕ → ℕ → ℕ → List (List ℕ) → List (ℕ × Fragment)
sent_from room sub place [] = []
sent_from room sub place (datagram ∷ later) =
    keyed (identification place sub) (fragments_of room datagram)
    ++ sent_from room sub (suc place) later

abbrev pub HasByte : List ℕ → Type 0
HasByte datagram = 1 ≤ length datagram

-- The first datagrams of a sub-VL are given, in order and each once, and all datagrams whose fragments all came.
abbrev pub AreGiven : (room sub : ℕ) → List (List ℕ) → List (ℕ × Fragment) → Type 0
AreGiven room sub datagrams came = (many : ℕ)
    × (map (λ (e : ℕ × List ℕ). e.1) (of_sub sub (delivered (λ key. empty) came))
    ≡ take many datagrams)
    × ((j : ℕ) → j ≤ length datagrams
    → length (sent_from room sub 0 (take j datagrams)) ≤ length (of_sub sub came) → j ≤ many)

-- A receiver gives a sub-VL's first datagrams if the fragments received of the sub-VL are the first of its datagrams'
-- fragments, in order, among fragments of other sub-VLs.
abbrev pub InOrder : Type 0
InOrder = (room sub : ℕ) (datagrams : List (List ℕ)) (came : List (ℕ × Fragment)) → 8 ≤ room → All HasByte datagrams
    → IsPrefixOf (of_sub sub came) (sent_from room sub 0 datagrams) → AreGiven room sub datagrams came

-- the identification and the fragment that a frame carries (RFC 791, 3.1)
abbrev pub fragment_in : List ℕ → ℕ × Fragment
fragment_in frame = (
  word_at frame 18,
  record {
    offset = fragment_field frame % 8192;
    more = nat_le 8192 (fragment_field frame);
    bytes = take (total_length frame - 20) (drop 34 frame);
  },
)

-- a sub-VL's messages in a link's frames: its reassembled datagrams without the 8 bytes of their UDP header (RFC 768)
abbrev pub messages_in : ℕ → List (List ℕ) → List (List ℕ)
messages_in sub frames = map (λ (e : ℕ × List ℕ). drop 8 e.1)
    (of_sub sub (delivered (λ key. empty) (map fragment_in frames)))

-- a message that a port of this sub-VL may send
pub record IsSent (sub : ℕ) (sent : Sent) : Type 0 where
  pub port : IsPort sent.port
  pub its : sent.port.sub ≡ sub
  pub some : 1 ≤ length sent.bytes
  pub most : length sent.bytes ≤ 8192

-- an end system and the room of a piece on a link, within the bounds of every valid plan
pub record IsLinkOf (end_system room : ℕ) : Type 0 where
  pub numbered : end_system < 65536
  pub least : 25 ≤ room
  pub greatest : room ≤ 1479

-- Of a link's stream on a network, a sub-VL's frames are the first fragments of its accepted messages.
pub record IsSending (end_system room sub : ℕ) (accepted : List Sent) (net : Net) (stream : List (List ℕ))
    : Type 0 where
  pub link : IsLinkOf end_system room
  pub sent : All (IsSent sub) accepted
  pub frames : IsStream stream
  pub first : IsPrefixOf (map blanked (those_with sub_in sub stream)) (fragments end_system room net accepted)

-- Messages are the first accepted ones, in order and each once, and among them are all whose fragments are in `frames`.
pub record AreFirst (end_system room sub : ℕ) (accepted : List Sent) (frames messages : List (List ℕ)) : Type 0 where
  pub many : ℕ
  pub are : messages ≡ take many (map (λ (sent : Sent). sent.bytes) accepted)
  pub all : (j : ℕ) → j ≤ length accepted
      → length (fragments end_system room A (take j accepted)) ≤ length (those_with sub_in sub frames) → j ≤ many

-- The receiver's messages are the first accepted ones, and all whose fragments one network carried.
abbrev pub MessagesArrive : Type 0
MessagesArrive = (end_system room sub lag : ℕ) (tolerance : Tolerance) (accepted : List Sent) (net : Net)
    (stream : List (List ℕ)) (arrivals : List (Net × List ℕ)) → IsSending end_system room sub accepted net stream
    → IsFitFor lag tolerance → AreCarried lag stream arrivals
    → AreFirst end_system room sub accepted (take (most_carried arrivals) stream)
    (messages_in sub (received number_in tolerance begin arrivals))

-- The first messages arrive even if one network loses, repeats and reorders frames, if the other carries them all and
-- only the next number is new to the receiver.
abbrev pub DespiteLoss : Type 0
DespiteLoss = (end_system room sub check : ℕ) (whole : Net) (accepted : List Sent) (net : Net)
    (stream : List (List ℕ)) (came : List (Net × ℕ)) → IsSending end_system room sub accepted net stream
    → 1 ≤ check → AreClose whole (length stream) 0 0 came
    → AreFirst end_system room sub accepted (take (length (carried whole came)) stream)
    (messages_in sub (received number_in (next_alone check) begin (frames_at stream came)))

-- a frame has a network's interface identifier
abbrev pub IsOfNet : Net → List ℕ → Type 0
IsOfNet net frame = twin_of net frame ≡ frame

-- a link's frames as sent to a network: numbered, with the network's interface identifier; a sub-VL's frames are the
-- first fragments of its accepted messages
pub record IsHanded (end_system room sub : ℕ) (accepted : List Sent) (net : Net) (handed : List (List ℕ)) : Type 0 where
  pub frames : IsStream handed
  pub own : All (IsOfNet net) handed
  pub first : IsPrefixOf (map blanked (those_with sub_in sub handed)) (fragments end_system room net accepted)

-- the longer of two lists, the first if they are as long
abbrev pub longer : List (List ℕ) → List (List ℕ) → List (List ℕ)
longer a b = if nat_lt (length a) (length b) then b else a

-- a link's frames as sent to both networks
pub record AreHanded (end_system room sub : ℕ) (accepted : List Sent) (a b : List (List ℕ)) : Type 0 where
  pub link : IsLinkOf end_system room
  pub sent : All (IsSent sub) accepted
  pub on_a : IsHanded end_system room sub accepted A a
  pub on_b : IsHanded end_system room sub accepted B b
  pub twins : AreTwins twin_of a b

-- arrivals from two networks in their order: each network carried a prefix of its list, `a` or `b`
pub record AreCarriedOf (lag : ℕ) (a b : List (List ℕ)) (arrivals : List (Net × List ℕ)) : Type 0 where
  pub on_a : IsPrefixOf (carried A arrivals) a
  pub on_b : IsPrefixOf (carried B arrivals) b
  pub near : IsNear lag arrivals

-- Each network carries some beginning of what it was sent, and the two are near to each other. Then the receiver's
-- messages of a sub-VL are the first accepted ones, in order and each once, and all whose fragments one network
-- carried.
abbrev pub HandedArrive : Type 0
HandedArrive = (end_system room sub lag : ℕ) (tolerance : Tolerance) (accepted : List Sent)
    (a b : List (List ℕ)) (arrivals : List (Net × List ℕ)) → AreHanded end_system room sub accepted a b
    → IsFitFor lag tolerance → AreCarriedOf lag a b arrivals
    → AreFirst end_system room sub accepted (take (most_carried arrivals) (longer a b))
    (messages_in sub (received number_in tolerance begin arrivals))

-- The first messages of what was sent to two networks arrive even if one network loses, repeats and reorders frames, if
-- the other carries them all and only the next number is new to the receiver. A network and a place in the longer list
-- denote a frame: the network's twin of the frame at that place.
abbrev pub HandedDespiteLoss : Type 0
HandedDespiteLoss = (end_system room sub check : ℕ) (whole : Net) (accepted : List Sent)
    (a b : List (List ℕ)) (came : List (Net × ℕ)) → AreHanded end_system room sub accepted a b
    → 1 ≤ check → AreClose whole (length (longer a b)) 0 0 came
    → AreFirst end_system room sub accepted (take (length (carried whole came)) (longer a b))
    (messages_in sub
    (received number_in (next_alone check) begin (frames_at (longer a b) came)))
