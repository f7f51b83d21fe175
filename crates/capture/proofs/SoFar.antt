-- Packets that were read, and those that follow them.
use Rattle.capture.proofs.Names.{CaptureEnd, Err, List, None, Ok, Option, Packet, Progress, Recorded, Recording, Some, NoStep, ap, append-nil, append_assoc, arith, content, drop, drop-drop, ended, length, lost_by, length-drop, map, map-append, moved, next, read_capture, read_from, read_within, recorded, recorded_if, refl, slice_range, stopped, sym, take_all, with_packet, [], ℕ, ◌++◌, ◌+◌, ◌-◌, ◌∙◌, ◌∷◌, ◌≡◌, ◌≤◌}
use Rattle.capture.proofs.Steps.{steps_on, used_of}

-- packets in front of a recording
abbrev pub after_packets : List Recorded → Recording → Recording
after_packets packets rest = record rest { packets = packets ++ rest.packets }

-- so many bytes were read: these packets, and what is read from there on, are the whole recording
pub record HasRead (bytes : List ℕ) (used : ℕ) (p : Progress) (packets : List Packet) : Type 0 where
  pub within : used ≤ length bytes
  pub same : after_packets (map recorded packets) (read_from used p (drop used bytes)) ≡ read_capture bytes

-- the bytes that are left
abbrev pub left_of : List ℕ → ℕ → List ℕ
left_of bytes used = slice_range bytes used (length bytes)

left_is : (bytes : List ℕ) (used : ℕ) → left_of bytes used ≡ drop used bytes
left_is bytes used = take_all (length bytes - used) (drop used bytes) (omega (arith, length-drop used bytes))

-- what is left, from a step on
from_step : (bytes : List ℕ) (used took : ℕ) (p after : Progress) (o : Option Recorded)
    → next p (drop used bytes) ≡ Ok (moved took (content after o))
    → read_from used p (drop used bytes) ≡ with_packet o (read_from (used + took) after (drop (used + took) bytes))
from_step bytes used took p after o is =
    let rest : List ℕ = drop used bytes in
    ap (read_from used p) (sym (append-nil rest))
    ∙ steps_on used p rest [] (moved took (content after o)) is
    ∙ ap (λ (l : List ℕ). with_packet o (read_from (used + took) after l)) (append-nil (drop took rest)
    ∙ drop-drop took used bytes)

-- after a step the bytes that it used were read too
in_bytes : (bytes : List ℕ) (used took : ℕ) (p after : Progress) (o : Option Recorded) → used ≤ length bytes
    → next p (drop used bytes) ≡ Ok (moved took (content after o)) → used + took ≤ length bytes
in_bytes bytes used took p after o within is =
    omega (arith, used_of p (drop used bytes) (moved took (content after o)) is, length-drop used bytes)

-- a step without a packet
pub has_read_on : (bytes : List ℕ) (used took : ℕ) (p after : Progress) (packets : List Packet) (o : Option Packet)
    → HasRead bytes used p packets → o ≡ None
    → next p (left_of bytes used) ≡ Ok (moved took (content after (recorded_if o)))
    → HasRead bytes (used + took) after packets
has_read_on bytes used took p after packets o so none left =
    let same : recorded_if o ≡ None = ap recorded_if none in
    let is : next p (drop used bytes) ≡ Ok (moved took (content after None)) = rw (left_is, same) at left in
    record {
      within = in_bytes bytes used took p after None so.within is;
      same = ap (after_packets (map recorded packets)) (sym (from_step bytes used took p after None is)) ∙ so.same;
    }

-- a step with a packet
pub has_read_more : (bytes : List ℕ) (used took : ℕ) (p after : Progress) (packets : List Packet) (packet : Packet)
    → HasRead bytes used p packets → next p (left_of bytes used)
    ≡ Ok (moved took (content after (Some (recorded packet))))
    → HasRead bytes (used + took) after (packets ++ packet ∷ [])
has_read_more bytes used took p after packets packet so left =
    let is : next p (drop used bytes) ≡ Ok (moved took (content after (Some (recorded packet)))) = rw left_is at left in
    let rest : Recording = read_from (used + took) after (drop (used + took) bytes) in
    let first : List Recorded = map recorded packets in
    let one : List Recorded = recorded packet ∷ [] in
    record {
      within = in_bytes bytes used took p after (Some (recorded packet)) so.within is;
      same = ap (λ (l : List Recorded). after_packets l rest) (map-append recorded packets (packet ∷ []))
          ∙ ap (λ (l : List Recorded). record rest { packets = l }) (append_assoc first one rest.packets)
          ∙ ap (after_packets first) (sym (from_step bytes used took p after (Some (recorded packet)) is))
          ∙ so.same;
    }

-- nothing more is read
pub has_read_all : (bytes : List ℕ) (used : ℕ) (p : Progress) (packets : List Packet) (stop : NoStep)
    → HasRead bytes used p packets → next p (left_of bytes used) ≡ Err stop
    → (let r : Recording = record {
      packets = map recorded packets;
      lost = lost_by p;
      end = ended p.format used (left_of bytes used) stop;
    } in r)
    ≡ read_capture bytes
unfolding read_within
has_read_all bytes used p packets stop so left =
    let is : next p (drop used bytes) ≡ Err stop = rw left_is at left in
    rw left_is (
    let none : read_from used p (drop used bytes)
    ≡ stopped p (ended p.format used (drop used bytes) stop) = rw is refl in
    let end : CaptureEnd = ended p.format used (drop used bytes) stop in
    ap (λ (l : List Recorded). let r : Recording = record { packets = l; lost = lost_by p; end = end } in r)
    (sym (append-nil (map recorded packets)))
    ∙ ap (after_packets (map recorded packets)) (sym none) ∙ so.same)
