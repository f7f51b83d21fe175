-- The buffers that a receiver needs to reassemble the messages of a link: their number and their size.
use Rattle.std.specs.Prelude.{◌≡◌, ℕ, ◌%◌, ◌≤◌, None, List, [], ◌∷◌, length, map, All, Bool, true, false, take, Some}
use Rattle.std.specs.List.{range_with_len}
use Rattle.afdx_plan.specs.Config.{Plan}
use Rattle.afdx_frame.specs.declared.net.Net.{Net}
use Rattle.afdx_frame.specs.Header.{number_in}
use Rattle.afdx_frame.specs.Fragments.{Sent}
use Rattle.afdx_frame.specs.Reassembly.{Fragment, Buffer, empty, put, datagram_in}
use Rattle.redundant_mux.specs.Lines.{Entry}
use Rattle.afdx_legal.specs.Streams.{IsPrefixOf}
use Rattle.afdx_legal.specs.Legal.{Accepted}
use Rattle.afdx_frame.specs.declared.net.Net.TheVariants.{A, B}
use Rattle.afdx_laws.specs.Receiver.{Tolerance, IsFitFor, begin, received}
use Rattle.afdx_laws.specs.Loss.{AreClose, next_alone, frames_at}
use Rattle.afdx_laws.specs.Delivery.{with_buffer, kept_in, of_sub, sent_from, HasByte, fragment_in, AreHanded, AreCarriedOf, delivered, AreGiven}
use Rattle.afdx_laws.specs.Plans.{id_at, frames_of, longer_of, IsHandedOver}
use Rattle.afdx_laws.specs.Rows.{BothFail}
use Rattle.afdx_laws.specs.WorkedDelivery.{front_frame, back_frame, four_arrivals, plain_receiver}

abbrev pub buffers_after : (ℕ → Buffer) → List (ℕ × Fragment) → ℕ → Buffer
buffers_after buffers [] = buffers
buffers_after buffers (e ∷ es) = buffers_after (with_buffer e.0
    (kept_in (put (buffers e.0) e.1) (datagram_in (put (buffers e.0) e.1))) buffers) es

-- Of the buffers of a sub-VL, which is the identification modulo 4, all but one are empty, and none has a
-- byte after the first `most`.
pub record HoldsOne (sub most : ℕ) (buffers : ℕ → Buffer) : Type 0 where
  pub key : ℕ
  pub others : (k : ℕ) → k % 4 ≡ sub → (k ≡ key → ⊥) → buffers k ≡ empty
  pub within : (k : ℕ) → k % 4 ≡ sub → (i : ℕ) → most ≤ i → (buffers k).byte_at i ≡ None

abbrev pub HasUpTo : ℕ → List ℕ → Type 0
HasUpTo most datagram = length datagram ≤ most

-- If the fragments received of a sub-VL are the first of its datagrams' fragments, in order, among fragments of other
-- sub-VLs, one buffer of the greatest datagram is enough for it at any time.
abbrev pub OneBuffer : Type 0
OneBuffer = (room sub most : ℕ) (datagrams : List (List ℕ)) (came : List (ℕ × Fragment)) → 8 ≤ room
    → All HasByte datagrams → All (HasUpTo most) datagrams
    → IsPrefixOf (of_sub sub came) (sent_from room sub 0 datagrams)
    → HoldsOne sub most (buffers_after (λ key. empty) came)

abbrev pub buffers_in : List (List ℕ) → ℕ → Buffer
buffers_in frames = buffers_after (λ key. empty) (map fragment_in frames)

-- one buffer of 8,200 bytes is enough for a sub-VL: the UDP header's 8 and a message's 8,192
abbrev pub IsOneEnough : ℕ → List (List ℕ) → Type 0
IsOneEnough sub frames = HoldsOne sub 8200 (buffers_in frames)

-- One buffer for each sub-VL is enough for the frames that a receiver accepts if each network carries a prefix of what
-- it was sent over a link and the two are near. One is enough at any time, as what came so far is also such a prefix.
abbrev pub HandedNeedOne : Type 0
HandedNeedOne = (end_system room sub lag : ℕ) (tolerance : Tolerance) (accepted : List Sent)
    (a b : List (List ℕ)) (arrivals : List (Net × List ℕ)) → AreHanded end_system room sub accepted a b
    → IsFitFor lag tolerance → AreCarriedOf lag a b arrivals
    → IsOneEnough sub (received number_in tolerance begin arrivals)

-- One buffer is enough for each sub-VL of each link of a valid plan, if the frames were transmitted legally.
abbrev pub LegalNeedOne : Type 0
LegalNeedOne = (plan : Plan) (accepted : Accepted) (a b : List Entry) (k sub lag : ℕ) (tolerance : Tolerance)
    (arrivals : List (Net × List ℕ)) → IsHandedOver plan accepted a b k sub → IsFitFor lag tolerance
    → AreCarriedOf lag (frames_of (id_at plan k) a) (frames_of (id_at plan k) b) arrivals
    → IsOneEnough sub (received number_in tolerance begin arrivals)

-- One buffer is enough even if one network loses, repeats and reorders frames, if the other carries them all and only
-- the next number is new to the receiver.
abbrev pub LegalNeedOneDespite : Type 0
LegalNeedOneDespite = (plan : Plan) (accepted : Accepted) (a b : List Entry) (k sub check : ℕ) (whole : Net)
    (came : List (Net × ℕ)) → IsHandedOver plan accepted a b k sub → 1 ≤ check
    → AreClose whole (length (longer_of (id_at plan k) a b)) 0 0 came → IsOneEnough sub
    (received number_in (next_alone check) begin (frames_at (longer_of (id_at plan k) a b) came))

-- A worked reassembly, of pieces of up to 8 bytes: sub-VL 0 sends a datagram of 20 bytes and one of 12, and sub-VL 1
-- one of a single byte between them. The last fragment is lost. Then the buffers that it needs.

-- the datagrams of sub-VL 0
abbrev pub two_datagrams : List (List ℕ)
two_datagrams = range_with_len 1 20 ∷ range_with_len 21 12 ∷ []

-- a fragment of a datagram of bytes that count up, with its identification
abbrev pub piece : (key offset : ℕ) → Bool → (first len : ℕ) → ℕ × Fragment
piece key offset more first len = (key, record { offset = offset; more = more; bytes = range_with_len first len })

-- the five fragments that arrive, with their identifications
abbrev pub five_fragments : List (ℕ × Fragment)
five_fragments = piece 0 0 true 1 8
    ∷ piece 1 0 false 7 1
    ∷ piece 0 1 true 9 8
    ∷ piece 0 2 false 17 4
    ∷ piece 4 0 true 21 8
    ∷ []

-- The five fragments meet the premises of the law of order. The first datagram is given; the second lacks a fragment
-- and is not.
pub record FirstIsGiven : Type 0 where
  pub some : All HasByte two_datagrams
  pub first : IsPrefixOf (of_sub 0 five_fragments) (sent_from 8 0 0 two_datagrams)
  pub given : map (λ (e : ℕ × List ℕ). e.1) (of_sub 0 (delivered (λ key. empty) five_fragments))
      ≡ take 1 two_datagrams
  pub all : (j : ℕ) → j ≤ length two_datagrams
      → length (sent_from 8 0 0 (take j two_datagrams)) ≤ length (of_sub 0 five_fragments) → j ≤ 1

-- the fragments of the second datagram alone
abbrev pub second_came : List (ℕ × Fragment)
second_came = piece 4 0 true 21 8 ∷ piece 4 1 false 29 4 ∷ []

-- a datagram of no byte, and one of a byte
abbrev pub one_without_bytes : List (List ℕ)
one_without_bytes = [] ∷ (7 ∷ []) ∷ []

abbrev pub eight_bytes : List (List ℕ)
eight_bytes = range_with_len 1 8 ∷ []

-- If the first datagram is lost, the second is given first. A datagram of no byte has no fragment, and is not given.
-- With room for 7 bytes no piece has a byte, and an empty datagram is given.
pub record NeedsOrder : Type 0 where
  pub lost : BothFail (IsPrefixOf (of_sub 0 second_came) (sent_from 8 0 0 two_datagrams))
      (AreGiven 8 0 two_datagrams second_came)
  pub none : BothFail (All HasByte one_without_bytes)
      (AreGiven 8 0 one_without_bytes (sent_from 8 0 0 one_without_bytes))
  pub none_first : IsPrefixOf (of_sub 0 (sent_from 8 0 0 one_without_bytes)) (sent_from 8 0 0 one_without_bytes)
  pub small_some : All HasByte eight_bytes
  pub small_first : IsPrefixOf (of_sub 0 (sent_from 7 0 0 eight_bytes)) (sent_from 7 0 0 eight_bytes)
  pub small : BothFail (8 ≤ 7) (AreGiven 7 0 eight_bytes (sent_from 7 0 0 eight_bytes))

-- the first fragments of two datagrams of sub-VL 0, which no transmitter sends in this order
abbrev pub two_begun : List (ℕ × Fragment)
two_begun = piece 0 0 true 1 8 ∷ piece 4 0 true 21 8 ∷ []

-- the first two fragments of the first datagram, of 20 bytes
abbrev pub two_of_three : List (ℕ × Fragment)
two_of_three = piece 0 0 true 1 8 ∷ piece 0 1 true 9 8 ∷ []

-- The second datagram of sub-VL 0 waits for its last fragment, with 8 bytes; the other buffers gave their datagrams. If
-- two datagrams of one sub-VL are begun, one buffer is not enough.
pub record HoldsTheSecond : Type 0 where
  pub first : buffers_after (λ key. empty) five_fragments 0 ≡ empty
  pub other : buffers_after (λ key. empty) five_fragments 1 ≡ empty
  pub second : (buffers_after (λ key. empty) five_fragments 4).byte_at 0 ≡ Some 21
  pub begun : (buffers_after (λ key. empty) two_begun 0).byte_at 0 ≡ Some 1
  pub both : (buffers_after (λ key. empty) two_begun 4).byte_at 0 ≡ Some 21

-- Each premise is needed. If two datagrams of one sub-VL are begun at once, the fragments are no prefix, and two
-- buffers hold bytes. A buffer of 8 bytes is not enough for a datagram of 20.
pub record NeedsInTurn : Type 0 where
  pub some : All HasByte two_datagrams
  pub size : All (HasUpTo 20) two_datagrams
  pub begun : BothFail (IsPrefixOf (of_sub 0 two_begun) (sent_from 8 0 0 two_datagrams))
      (HoldsOne 0 20 (buffers_after (λ key. empty) two_begun))
  pub first : IsPrefixOf (of_sub 0 two_of_three) (sent_from 8 0 0 two_datagrams)
  pub small : BothFail (All (HasUpTo 8) two_datagrams) (HoldsOne 0 8 (buffers_after (λ key. empty) two_of_three))

-- The first frame of the worked delivery fills a buffer with the 24 bytes of its fragment. With the second frame the
-- message is given, and the buffer is empty.
pub record HoldsAFrame : Type 0 where
  pub last : (buffers_in (front_frame A ∷ []) 0).byte_at 23 ≡ Some 170
  pub next : (buffers_in (front_frame A ∷ []) 0).byte_at 24 ≡ None
  pub given : buffers_in (front_frame A ∷ back_frame B ∷ []) 0 ≡ empty
  pub enough : IsOneEnough 0 (received number_in plain_receiver begin four_arrivals)
