-- A worked delivery: the demonstration port sends 41 bytes over a link with frames of up to 64 bytes, so two frames.
-- Network B lags by one frame, and then leads. Then runs of a receiver for which only the next number is new.
use Rattle.std.specs.Prelude.{◌≡◌, ℕ, List, [], ◌∷◌, replicate, take, Some, ◌++◌, map, ◌≤◌, length}
use Rattle.afdx_plan.specs.Demo.{demo_port}
use Rattle.afdx_frame.specs.declared.net.Net.{Net}
use Rattle.afdx_frame.specs.declared.net.Net.TheVariants.{A, B}
use Rattle.afdx_frame.specs.Cutting.{piece_at}
use Rattle.afdx_frame.specs.Frame.{frame_of}
use Rattle.afdx_frame.specs.Fragments.{Sent}
use Rattle.afdx_frame.specs.Header.{number_in, twin_of}
use Rattle.afdx_plan.specs.Plan.{sequence_number}
use Rattle.afdx_laws.specs.Receiver.{Tolerance, IsFitFor, begin, received, State, most_carried, IsStream, AreCarried, IsOnce, carried}
use Rattle.afdx_laws.specs.Loss.{next_alone, AreWithin, AreClose, IsMasked, BeginsFirst, frames_at, one_lost}
use Rattle.afdx_laws.specs.Delivery.{messages_in, AreFirst, IsSending, AreHanded, AreCarriedOf, longer}
use Rattle.afdx_laws.specs.Rows.{BothFail, NeedsEach}

abbrev pub bytes_41 : List ℕ
bytes_41 = replicate 41 0xaa

-- the accepted messages of sub-VL 0: one message of 41 bytes
abbrev pub one_accepted : List Sent
one_accepted = record { port = demo_port; bytes = bytes_41 } ∷ []

-- another message, which is not sent
abbrev pub other_accepted : List Sent
other_accepted = record { port = demo_port; bytes = replicate 41 0xbb } ∷ []

-- the first frame of the message, for a network: bytes 0 to 23 of the datagram
abbrev pub front_frame : Net → List ℕ
front_frame net = frame_of 1 demo_port bytes_41 0 (piece_at 25 49 0) net 0

-- the second frame of the message: bytes 24 to 48
abbrev pub back_frame : Net → List ℕ
back_frame net = frame_of 1 demo_port bytes_41 0 (piece_at 25 49 24) net 1

-- the frames sent to a network
abbrev pub both_frames : Net → List (List ℕ)
both_frames net = front_frame net ∷ back_frame net ∷ []

-- the four frames that arrive, in order
abbrev pub four_arrivals : List (Net × List ℕ)
four_arrivals = (A, front_frame A) ∷ (B, front_frame B) ∷ (B, back_frame B) ∷ (A, back_frame A) ∷ []

-- network B loses the first frame and is ahead
abbrev pub three_arrivals : List (Net × List ℕ)
three_arrivals = (B, back_frame B) ∷ (A, front_frame A) ∷ (A, back_frame A) ∷ []

-- only the next number is new
abbrev pub plain_receiver : Tolerance
plain_receiver = next_alone 1

-- no number is new but the first of all
abbrev pub closed_receiver : Tolerance
closed_receiver = record { check = 1; window = 0 }

-- The receiver accepts A's first frame and B's second, and has the message.
pub record OneMessageArrives : Type 0 where
  pub accepts : received number_in plain_receiver begin four_arrivals ≡ front_frame A ∷ back_frame B ∷ []
  pub message : messages_in 0 (received number_in plain_receiver begin four_arrivals) ≡ bytes_41 ∷ []

-- the conclusion of the laws of delivery for these frames
abbrev pub Arrives : List (List ℕ) → List Sent → Tolerance → List (Net × List ℕ) → Type 0
Arrives frames accepted tolerance arrivals = AreFirst 1 25 0 accepted (take (most_carried arrivals) frames)
    (messages_in 0 (received number_in tolerance begin arrivals))

-- The frames meet the premises, and each premise is needed. If another message was accepted, it does not arrive; if no
-- number is new to the receiver, or network B loses the first frame and leads, none does.
abbrev pub NeedsHanding : Type 0
NeedsHanding = NeedsEach (λ (accepted : List Sent). AreHanded 1 25 0 accepted (both_frames A) (both_frames B))
    (IsFitFor 3) (AreCarriedOf 3 (both_frames A) (both_frames B)) (Arrives (longer (both_frames A) (both_frames B)))
    one_accepted other_accepted plain_receiver closed_receiver four_arrivals three_arrivals

-- Each premise of the law of one network's stream is needed.
abbrev pub NeedsAStream : Type 0
NeedsAStream = NeedsEach (λ (accepted : List Sent). IsSending 1 25 0 accepted A (both_frames A))
    (IsFitFor 3) (AreCarried 3 (both_frames A)) (Arrives (both_frames A))
    one_accepted other_accepted plain_receiver closed_receiver four_arrivals three_arrivals

-- frames of network A by their numbers, which wrap around
abbrev pub past_255 : List (Net × ℕ)
past_255 = (A, 254) ∷ (A, 255) ∷ (A, 1) ∷ (A, 2) ∷ []

-- network A carried the first frame and `many` more, network B only the first
abbrev pub ahead_by : ℕ → State
ahead_by many = record { seen_a = Some (sequence_number many); seen_b = Some 0; accepted = Some (sequence_number many) }

-- The frames of the worked delivery meet the premises, and the receiver accepts each once. It also accepts frames whose
-- numbers wrap around after 255.
pub record AcceptsEachOnce : Type 0 where
  pub fit : IsFitFor 3 plain_receiver
  pub stream : IsStream (both_frames A)
  pub carry : AreCarried 3 (both_frames A) four_arrivals
  pub once : IsOnce plain_receiver (both_frames A) four_arrivals
  pub round : received (λ (n : ℕ). n) plain_receiver begin past_255 ≡ 254 ∷ 255 ∷ 1 ∷ 2 ∷ []

-- frames of 60 bytes that are 0 but for the number
abbrev pub bare_frame : ℕ → List ℕ
bare_frame n = replicate 59 0 ++ n ∷ []

abbrev pub bare_stream : List ℕ → List (List ℕ)
bare_stream numbers = map bare_frame numbers

abbrev pub bare_from : Net → ℕ → Net × List ℕ
bare_from net n = (net, twin_of net (bare_frame n))

-- two frames of one number
abbrev pub same_twice : List (Net × List ℕ)
same_twice = bare_from A 0 ∷ bare_from A 0 ∷ []

-- the second frame alone
abbrev pub second_alone : List (Net × List ℕ)
second_alone = bare_from A 1 ∷ []

-- network B lags by three frames
abbrev pub far_behind : List (Net × List ℕ)
far_behind = bare_from A 0 ∷ bare_from A 1 ∷ bare_from A 2 ∷ bare_from B 0 ∷ bare_from B 1 ∷ []

-- a receiver for which all numbers are new but the last accepted one and 0
abbrev pub wide_receiver : Tolerance
wide_receiver = record { check = 1; window = 254 }

-- If two frames carry one number, the second is dropped as a copy.
pub record NeedsNumbers : Type 0 where
  pub carry : AreCarried 3 (bare_stream (0 ∷ 0 ∷ [])) same_twice
  pub stream : BothFail (IsStream (bare_stream (0 ∷ 0 ∷ [])))
      (IsOnce plain_receiver (bare_stream (0 ∷ 0 ∷ [])) same_twice)

-- If a network loses the first frame, only the second is accepted.
pub record NeedsBeginnings : Type 0 where
  pub stream : IsStream (bare_stream (0 ∷ 1 ∷ []))
  pub carry : BothFail (AreCarried 3 (bare_stream (0 ∷ 1 ∷ [])) second_alone)
      (IsOnce plain_receiver (bare_stream (0 ∷ 1 ∷ [])) second_alone)

-- With a wide window an old frame of a network that lags too far is accepted again. At a lag of 1 the receiver is fit
-- and the networks are not near; at a lag of 4 they are near and it is not fit.
pub record NeedsALag : Type 0 where
  pub stream : IsStream (bare_stream (0 ∷ 1 ∷ 2 ∷ []))
  pub fit : IsFitFor 1 wide_receiver
  pub far : BothFail (AreCarried 1 (bare_stream (0 ∷ 1 ∷ 2 ∷ [])) far_behind)
      (IsOnce wide_receiver (bare_stream (0 ∷ 1 ∷ 2 ∷ [])) far_behind)
  pub unfit : IsFitFor 4 wide_receiver → ⊥
  pub carry : AreCarried 4 (bare_stream (0 ∷ 1 ∷ 2 ∷ [])) far_behind

-- If network B lags by 254 frames, its second frame is dropped, as A's was accepted. With a lag of one more, out of
-- bounds, it is accepted again.
pub record ClashesPast254 : Type 0 where
  pub fit : IsFitFor 254 plain_receiver
  pub once : received (λ (n : ℕ). n) plain_receiver (ahead_by 254) ((B, 1) ∷ []) ≡ []
  pub unfit : IsFitFor 255 plain_receiver → ⊥
  pub twice : received (λ (n : ℕ). n) plain_receiver (ahead_by 255) ((B, 1) ∷ []) ≡ 1 ∷ []

-- Worked losses: network B carries every frame, network A does not.

-- network A repeats the first of two frames and loses the second
abbrev pub second_lost : List (Net × ℕ)
second_lost = (A, 0) ∷ (A, 0) ∷ (B, 0) ∷ (B, 1) ∷ []

-- network A loses the first of two frames, and its second comes before all others
abbrev pub first_lost : List (Net × ℕ)
first_lost = (A, 1) ∷ (B, 0) ∷ (B, 1) ∷ []

-- network A loses the first of three frames, and its second comes before all others
abbrev pub first_of_three : List (Net × ℕ)
first_of_three = (A, 1) ∷ (B, 0) ∷ (B, 1) ∷ (B, 2) ∷ []

-- the accepted frames of the worked delivery's stream, as network A has it
abbrev pub accepted_of : List (Net × ℕ) → List (List ℕ)
accepted_of came = map (twin_of A) (received number_in (next_alone 1) begin (frames_at (both_frames A) came))

-- The frames of the worked delivery meet the premises of the law of losses, and are accepted once. So are three numbers
-- if network A loses the second.
pub record MasksOneLoss : Type 0 where
  pub lost : AreClose B 3 0 0 one_lost
  pub numbers : received (λ (n : ℕ). n) (next_alone 2) begin one_lost ≡ 0 ∷ 1 ∷ 2 ∷ []
  pub stream : IsStream (both_frames A)
  pub close : AreClose B (length (both_frames A)) 0 0 second_lost
  pub masked : accepted_of second_lost ≡ take 2 (map (twin_of A) (both_frames A))

-- If network A loses the first frame and its second comes before all others, that premise alone fails, and the first is
-- never accepted.
pub record NeedsTheFirst : Type 0 where
  pub within : AreWithin B (length (both_frames A)) 0 0 first_lost
  pub close : BothFail (AreClose B (length (both_frames A)) 0 0 first_lost) (IsMasked B 1 (both_frames A) first_lost)
  pub three : AreClose B 3 0 0 first_of_three → ⊥
  pub numbers : received (λ (n : ℕ). n) (next_alone 1) begin first_of_three ≡ 1 ∷ 2 ∷ []

-- Both networks begin with the first frame, and network A repeats it and loses the second: all are accepted. If network
-- A begins with the second, the first is dropped.
pub record BeginsOnBoth : Type 0 where
  pub begins : BeginsFirst A second_lost
  pub masks : MasksOneLoss
  pub later : BeginsFirst A first_lost → ⊥
  pub dropped : accepted_of first_lost ≡ back_frame A ∷ []

-- a receiver's messages of sub-VL 0, from the frames of `frames` that arrive
abbrev pub messages_despite : ℕ → List (List ℕ) → List (Net × ℕ) → List (List ℕ)
messages_despite check frames came = messages_in 0 (received number_in (next_alone check) begin (frames_at frames came))

-- the conclusion of the laws despite loss
abbrev pub ArrivesDespite : List (List ℕ) → List Sent → ℕ → List (Net × ℕ) → Type 0
ArrivesDespite frames accepted check came =
    AreFirst 1 25 0 accepted (take (length (carried B came)) frames) (messages_despite check frames came)

-- A message of two frames arrives.
abbrev pub ComesDespiteLoss : Type 0
ComesDespiteLoss = messages_despite 1 (both_frames A) second_lost ≡ bytes_41 ∷ []

-- The stream of the two frames meets the premises, and each premise is needed. If another message was accepted, it does
-- not arrive. If the receiver's check takes no number but 0, or network A loses the first frame and leads, none does.
abbrev pub NeedsAWholeNetwork : Type 0
NeedsAWholeNetwork = NeedsEach (λ (accepted : List Sent). IsSending 1 25 0 accepted A (both_frames A))
    (λ (check : ℕ). 1 ≤ check) (AreClose B (length (both_frames A)) 0 0) (ArrivesDespite (both_frames A))
    one_accepted other_accepted 1 0 second_lost first_lost

-- the longer of the two lists sent
abbrev pub longer_frames : List (List ℕ)
longer_frames = longer (both_frames A) (both_frames B)

-- The message of the two lists sent arrives although network A lost its second frame.
abbrev pub HandedDespiteOneLoss : Type 0
HandedDespiteOneLoss = messages_despite 1 longer_frames second_lost ≡ bytes_41 ∷ []

abbrev pub NeedsOneWhole : Type 0
NeedsOneWhole = NeedsEach (λ (accepted : List Sent). AreHanded 1 25 0 accepted (both_frames A) (both_frames B))
    (λ (check : ℕ). 1 ≤ check) (AreClose B (length longer_frames) 0 0) (ArrivesDespite longer_frames)
    one_accepted other_accepted 1 0 second_lost first_lost
