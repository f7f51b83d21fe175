-- The receiver has the first of the accepted messages.
use Rattle.afdx_laws.proofs.Names.{◌≡◌, ℕ, ◌%◌, ◌≤◌, nat_eq, List, ◌++◌, length, map, take, drop, refl, ap, sym, ◌∙◌, arith, All, append_assoc, map-append, take-append-drop, length-map, length-append, take-take, take-map, map-map, All-filter, All-map, All-take, Net, A, datagram, twin_of, word_at, Sent, blanked, fragments, those_with, IsPrefixOf, with_append, begin, received, carried, sub_in, number_in, IsLong, most_carried, next_alone, frames_at, of_sub, sent_from, HasByte, HasUpTo, fragment_in, messages_in, IsSent, IsSending, AreFirst, MessagesArrive, DespiteLoss}
use Rattle.afdx_laws.proofs.Receiving.{exactly_once_holds}
use Rattle.afdx_laws.proofs.Losing.{loss_masked_holds}
use Rattle.afdx_laws.proofs.ListLemmas.{append_same, map_same}
use Rattle.afdx_laws.proofs.InOrder.{in_order_holds}
use Rattle.afdx_laws.proofs.Reading.{read_any, reads_all, reads_frames, of_sub_is, length-datagram, drop-datagram}

fragments_received : (got sent : List (List ℕ)) → map (twin_of A) got ≡ map (twin_of A) sent → map fragment_in got ≡ map fragment_in sent
fragments_received got sent same = grind (
  arith,
  ap (map fragment_in) same,
  map-map,
  map_same fragment_in (λ f. fragment_in (twin_of A f)) got (grind arith),
  map_same fragment_in (λ f. fragment_in (twin_of A f)) sent (grind arith),
)

sub_take : (sub n : ℕ) (stream : List (List ℕ))
    → those_with sub_in sub stream ≡ those_with sub_in sub (take n stream) ++ those_with sub_in sub (drop n stream)
sub_take sub n stream = grind (arith, take-append-drop n stream, with_append sub_in sub (take n stream) (drop n stream))

more_of_sub : (sub few many : ℕ) (stream : List (List ℕ)) → few ≤ many
    → length (those_with sub_in sub (take few stream)) ≤ length (those_with sub_in sub (take many stream))
more_of_sub sub few many stream less = grind (arith, sub_take sub few (take many stream), length-append, take-take)

abbrev pub datagrams_of : ℕ → List Sent → List (List ℕ)
datagrams_of end_system accepted = map (λ (sent : Sent). datagram end_system sent.port sent.bytes) accepted

bytes_of : (end_system many : ℕ) (accepted : List Sent) → map (drop 8) (take many (datagrams_of end_system accepted))
    ≡ take many (map (λ (sent : Sent). sent.bytes) accepted)
bytes_of end_system many accepted = grind (arith, take-map, map-map, map_same, drop-datagram)

pub some_bytes : (end_system sub : ℕ) (accepted : List Sent) → All (IsSent sub) accepted → All HasByte (datagrams_of end_system accepted)
some_bytes end_system sub accepted sent =
    All-map HasByte (λ (s : Sent). datagram end_system s.port s.bytes) accepted
    (grind (arith, length-datagram))

pub few_bytes : (end_system sub : ℕ) (accepted : List Sent) → All (IsSent sub) accepted
    → All (HasUpTo 8200) (datagrams_of end_system accepted)
few_bytes end_system sub accepted sent =
    All-map (HasUpTo 8200) (λ (s : Sent). datagram end_system s.port s.bytes) accepted
    (grind (arith, length-datagram))

-- a sub-VL's fragments in frames that are the first of the stream's
own_fragments : (sub count : ℕ) (stream got : List (List ℕ)) → map (twin_of A) got ≡ take count (map (twin_of A) stream)
    → of_sub sub (map fragment_in got) ≡ map fragment_in (those_with sub_in sub (take count stream))
own_fragments sub count stream got first =
    ap (of_sub sub) (grind (arith, fragments_received, take, take-map))
    ∙ of_sub_is sub (take count stream)

pub first_come : (end_system room sub count : ℕ) (accepted : List Sent) (net : Net) (stream got : List (List ℕ))
    → IsSending end_system room sub accepted net stream → map (twin_of A) got ≡ take count (map (twin_of A) stream)
    → IsPrefixOf (of_sub sub (map fragment_in got)) (sent_from room sub 0 (datagrams_of end_system accepted))
first_come end_system room sub count accepted net stream got sending first =
    let back : List (List ℕ) = those_with sub_in sub (drop count stream) in
    let read = reads_all accepted end_system room sub 0 net sending.link.least sending.link.greatest sending.sent in
    let rest : List (List ℕ) = map blanked back ++ sending.first.0 in
    let split : fragments end_system room net accepted
    ≡ map blanked (those_with sub_in sub (take count stream))
    ++ (map blanked (those_with sub_in sub (drop count stream)) ++ sending.first.0) =
    grind (arith, sending.first.1, sub_take sub count stream, map-append, append_assoc) in
    let long : All IsLong (those_with sub_in sub (take count stream)) =
    All-filter (λ (f : List ℕ). nat_eq (word_at f 18 % 4) sub)
    IsLong (take count stream) (All-take IsLong count stream sending.frames.long) in (
      map read_any rest,
      append_same (own_fragments sub count stream got first) refl
          ∙ sym (grind (arith, reads_frames)) ∙ read.are,
    )

-- what is in frames that are the first of the stream's, at least as many as these
pub arrived : (end_system room sub few many : ℕ) (accepted : List Sent) (net : Net) (stream got : List (List ℕ))
    → IsSending end_system room sub accepted net stream → map (twin_of A) got ≡ take many (map (twin_of A) stream) → few ≤ many
    → AreFirst end_system room sub accepted (take few stream) (messages_in sub got)
arrived end_system room sub few many accepted net stream got sending first less =
    let least = sending.link.least in
    let ends = in_order_holds room sub (datagrams_of end_system accepted) (map fragment_in got) (omega arith)
    (some_bytes end_system sub accepted sending.sent)
    (first_come end_system room sub many accepted net stream got sending first) in
    record {
      many = ends.0;
      are = grind (arith, map-map, bytes_of);
      all = λ j within enough.
          let read = reads_all (take j accepted) end_system room sub 0 A least sending.link.greatest
          (All-take (IsSent sub) j accepted sending.sent) in
          ends.2 j (grind (arith, length-map))
          (grind (arith, ap length read.are, take-map, length-map, ap length (own_fragments sub many stream got first), more_of_sub sub few many stream less));
    }

pub messages_arrive_holds : MessagesArrive
messages_arrive_holds end_system room sub lag tolerance accepted net stream arrivals sending fit carry =
    arrived end_system room sub (most_carried arrivals) (most_carried arrivals) accepted net stream
    (received number_in tolerance begin arrivals) sending
    (exactly_once_holds lag tolerance stream arrivals fit sending.frames carry) (omega arith)

pub despite_loss_holds : DespiteLoss
despite_loss_holds end_system room sub check whole accepted net stream came sending some close =
    let masked = loss_masked_holds whole check stream came some sending.frames close in
    arrived end_system room sub (length (carried whole came)) masked.0 accepted net stream
    (received number_in (next_alone check) begin (frames_at stream came)) sending masked.2 masked.1
