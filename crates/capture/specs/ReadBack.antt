-- Reading back a capture that was written, and a worked capture of two frames.
use Rattle.std.specs.Prelude.{◌≡◌, ◌≤◌, ◌<◌, ◌*◌, ◌^◌, ℕ, Bool, true, false, List, [], ◌∷◌, length, map, filter, Option, Some, None, All, ◌++◌}
use Rattle.afdx_frame.specs.declared.net.Net.{Net}
use Rattle.afdx_frame.specs.declared.net.Net.TheVariants.{A, B}
use Rattle.afdx_frame.specs.declared.net.TheConstants.{GREATEST_FRAME}
use Rattle.redundant_mux.specs.Lines.{Entry, entry}
use Rattle.capture.specs.Capture.{capture_bytes, packet_blocks, interface_of}
use Rattle.capture.specs.Recording.{Recorded, Recording, read_capture}
use Rattle.capture.specs.declared.stop.CaptureEnd.TheVariants.{Whole}
use Rattle.capture.specs.Order.{RiseFrom, captured_moments, on, in_order}

-- a frame that fits a capture: its time has 64 bits, and it isn't too long
pub record Fits (e : Entry) : Type 0 where
  pub at : e.at < 2 ^ 64
  pub len : length e.frame ≤ GREATEST_FRAME

-- a packet of this network
abbrev pub is_of : Net → Option Net → Bool
is_of net None = false
is_of A (Some A) = true
is_of A (Some B) = false
is_of B (Some A) = false
is_of B (Some B) = true

abbrev pub packets_on : Net → List Recorded → List Recorded
packets_on net packets = filter (λ (p : Recorded). is_of net p.network) packets

-- a frame as it is read: its time in nanoseconds, and all its bytes; the capture says nothing of check sequences
abbrev pub packet_for : Net → Entry → Recorded
packet_for net e = record {
  interface = interface_of net;
  network = Some net;
  at = Some (e.at * 1000);
  original = length e.frame;
  bytes = e.frame;
  fcs = None;
}

-- a whole recording of the frames of network A and of network B, without losses
pub record Tells (a b : List Entry) (recording : Recording) : Type 0 where
  pub whole : recording.end ≡ Whole
  pub none : recording.lost ≡ 0
  pub first : packets_on A recording.packets ≡ map (packet_for A) a
  pub second : packets_on B recording.packets ≡ map (packet_for B) b

-- a capture that is written for the two lists is read back as the two lists
abbrev pub ReadsBack : Type 0
ReadsBack = (a b : List Entry) → All Fits a → All Fits b → Tells a b (read_capture (capture_bytes a b))

-- a frame of network A, at 0x100000002 microseconds, and one of network B, at 3
abbrev pub on_a : Entry
on_a = entry 0x100000002 (0x11 ∷ 0x12 ∷ 0x13 ∷ 0x14 ∷ 0x15 ∷ [])

abbrev pub on_b : Entry
on_b = entry 3 (0x21 ∷ 0x22 ∷ 0x23 ∷ 0x24 ∷ [])

-- the frame of B, of 36 bytes in all, and then A's, of 40 bytes with three of padding
abbrev pub two_packets : List ℕ
two_packets =
    (6 ∷ 0 ∷ 0 ∷ 0 ∷ 36 ∷ 0 ∷ 0 ∷ 0 ∷ 1 ∷ 0 ∷ 0 ∷ 0 ∷ 0 ∷ 0 ∷ 0 ∷ 0 ∷ 3 ∷ 0 ∷ 0 ∷ 0
    ∷ 4 ∷ 0 ∷ 0 ∷ 0 ∷ 4 ∷ 0 ∷ 0 ∷ 0 ∷ 0x21 ∷ 0x22 ∷ 0x23 ∷ 0x24 ∷ 36 ∷ 0 ∷ 0 ∷ 0 ∷ [])
    ++ (6 ∷ 0 ∷ 0 ∷ 0 ∷ 40 ∷ 0 ∷ 0 ∷ 0 ∷ 0 ∷ 0 ∷ 0 ∷ 0 ∷ 1 ∷ 0 ∷ 0 ∷ 0 ∷ 2 ∷ 0 ∷ 0 ∷ 0
    ∷ 5 ∷ 0 ∷ 0 ∷ 0 ∷ 5 ∷ 0 ∷ 0 ∷ 0 ∷ 0x11 ∷ 0x12 ∷ 0x13 ∷ 0x14 ∷ 0x15 ∷ 0 ∷ 0 ∷ 0 ∷ 40 ∷ 0 ∷ 0 ∷ 0 ∷ [])

-- the earlier frame comes first, these are the packets' bytes, and both are read back
pub record ReadsTwoFrames : Type 0 where
  pub order : in_order (on_a ∷ []) (on_b ∷ []) ≡ on B on_b ∷ on A on_a ∷ []
  pub packets : packet_blocks (in_order (on_a ∷ []) (on_b ∷ [])) ≡ two_packets
  pub read : read_capture (capture_bytes (on_a ∷ []) (on_b ∷ []))
      ≡ record { packets = packet_for B on_b ∷ packet_for A on_a ∷ []; lost = 0; end = Whole }

-- the times of the capture rise, but the times of the two lists one after the other don't
pub record RiseInTwoFrames : Type 0 where
  pub rise : RiseFrom 0 (captured_moments (in_order (on_a ∷ []) (on_b ∷ [])))
  pub fall : RiseFrom 0 (captured_moments (on A on_a ∷ on B on_b ∷ [])) → ⊥
