-- The fields that switches and receivers read in any frame, and the same frame for another network (ARINC 664 Part 7,
-- redundancy).
use Rattle.std.specs.Prelude.{◌≡◌, ℕ, ◌-◌, ◌%◌, ◌≤◌, List, length, slice_index, slice_set}
use Rattle.afdx_frame.specs.declared.net.Net.{Net}
use Rattle.afdx_frame.specs.Frame.{interface_byte, frame_of}
use Rattle.afdx_frame.specs.Profile.{word_at}
use Rattle.afdx_plan.specs.declared.port_plan.PortPlan.{PortPlan}
use Rattle.afdx_frame.specs.declared.field.Piece.{Piece}

-- the identifier of the virtual link, from the destination MAC address
abbrev pub link_in : List ℕ → ℕ
link_in frame = word_at frame 4

-- the sub-VL, from the identification
abbrev pub sub_in : List ℕ → ℕ
sub_in frame = word_at frame 18 % 4

-- the sequence number, the last byte
abbrev pub number_in : List ℕ → ℕ
number_in frame = slice_index frame (length frame - 1)

-- a frame of this link and sub-VL, with this number, for this network
pub record IsFrameOf (vl sub number : ℕ) (net : Net) (frame : List ℕ) : Type 0 where
  pub size : 60 ≤ length frame
  pub link : link_in frame ≡ vl
  pub of_sub : sub_in frame ≡ sub
  pub carries : number_in frame ≡ number
  pub interface : slice_index frame 11 ≡ interface_byte net

-- the frame with the network's interface identifier, if it is long enough to have one
abbrev pub twin_of : Net → List ℕ → List ℕ
twin_of net frame = slice_set frame 11 (interface_byte net)

-- The twin of a frame is the frame for that network.
abbrev pub TwinOfFrame : Type 0
TwinOfFrame = (end_system : ℕ) (port : PortPlan) (message : List ℕ) (place : ℕ) (piece : Piece) (first second : Net)
    (number : ℕ) → twin_of second (frame_of end_system port message place piece first number)
    ≡ frame_of end_system port message place piece second number
