-- One buffer for each sub-VL is enough for fragments in order, and so for what a receiver accepts.
use Rattle.afdx_laws.proofs.Names.{◌≡◌, ℕ, suc, ◌≤◌, List, [], ◌∷◌, length, refl, ap, ◌∙◌, arith, All, Option, None, nat_tests, length-take, All-append, All-map, identification, Piece, cutting, pieces_from, Fragment, Buffer, put, end_of, datagram_in, fragment_of, fragments_of, empty, with_buffer, kept_in, keyed, sent_from, of_sub, buffers_after, HasUpTo, OneBuffer, map, take, Net, A, twin_of, Sent, fragment_in, IsSending, longer, id_at, piece_room, longer_of, IsOneEnough, HandedNeedOne, LegalNeedOne, LegalNeedOneDespite}
use Rattle.afdx_laws.proofs.ListLemmas.{all_front}
use Rattle.afdx_laws.proofs.Reading.{cutting_lies}
use Rattle.afdx_laws.proofs.InOrder.{apart, reassembles}
use Rattle.afdx_laws.proofs.Receiving.{exactly_once_holds}
use Rattle.afdx_laws.proofs.Losing.{loss_masked_holds}
use Rattle.afdx_laws.proofs.Arriving.{datagrams_of, some_bytes, few_bytes, first_come}
use Rattle.afdx_laws.proofs.HandedOver.{carried_longer}
use Rattle.afdx_laws.proofs.LegalLinks.{are_handed}

abbrev pub EndsBefore : ℕ → ℕ × Fragment → Type 0
EndsBefore most e = end_of e.1 ≤ most

keyed_end : (room most key : ℕ) (d : List ℕ) → length d ≤ most → All (EndsBefore most) (keyed key (fragments_of room d))
keyed_end room most key d fits =
    let pieces : List Piece = pieces_from 0 (cutting room (length d)) in
    All-map (EndsBefore most) (λ (f : Fragment). (key, f)) (fragments_of room d)
    (All-map (λ (f : Fragment). end_of f ≤ most) (fragment_of d) pieces
    (grind (arith, length-take, cutting_lies)))

pub sent_end : (datagrams : List (List ℕ)) (room sub place most : ℕ) → All (HasUpTo most) datagrams
    → All (EndsBefore most) (sent_from room sub place datagrams)
sent_end [] room sub place most fit = grind arith
sent_end (d ∷ later) room sub place most fit =
    All-append (EndsBefore most) (keyed (identification place sub) (fragments_of room d))
    (sent_from room sub (suc place) later)
    (keyed_end room most (identification place sub) d (fit 0 d (omega arith)))
    (sent_end later room sub (suc place) most (λ k x h. fit (suc k) x (omega arith)))

-- a buffer has no byte after the first `most`
abbrev pub HasNoneBehind : ℕ → Buffer → Type 0
HasNoneBehind most b = (i : ℕ) → most ≤ i → b.byte_at i ≡ None

put_within : (most : ℕ) (b : Buffer) (f : Fragment) → HasNoneBehind most b → end_of f ≤ most → HasNoneBehind most (put b f)
put_within most b f none ends i past = grind (arith, nat_tests, none i past)

kept_within : (most : ℕ) (b : Buffer) (given : Option (List ℕ)) → HasNoneBehind most b → HasNoneBehind most (kept_in b given)
kept_within most b given none = grind arith

with_within : (most key : ℕ) (b : Buffer) (buffers : ℕ → Buffer) → HasNoneBehind most b
    → ((k : ℕ) → HasNoneBehind most (buffers k)) → (k : ℕ) → HasNoneBehind most (with_buffer key b buffers k)
with_within most key b buffers one each k = grind arith

pub after_within : (es : List (ℕ × Fragment)) (most : ℕ) (buffers : ℕ → Buffer)
    → ((k : ℕ) → HasNoneBehind most (buffers k)) → All (EndsBefore most) es → (k : ℕ) → HasNoneBehind most (buffers_after buffers es k)
after_within [] most buffers each ends = each
after_within (e ∷ es) most buffers each ends =
    let b : Buffer = put (buffers e.0) e.1 in
    after_within es most (with_buffer e.0 (kept_in b (datagram_in b)) buffers)
    (with_within most e.0 (kept_in b (datagram_in b)) buffers
    (kept_within most b (datagram_in b) (put_within most (buffers e.0) e.1 (each e.0) (ends 0 e (omega arith)))) each)
    (λ k d h. ends (suc k) d (omega arith))

pub one_buffer : OneBuffer
one_buffer room sub most datagrams came least some fit begun =
    let one = (reassembles room sub datagrams came least some begun).alone in
    let ends : All (EndsBefore most) (of_sub sub came) =
    grind (arith, all_front (EndsBefore most) (of_sub sub came) begun.0 (sent_from room sub 0 datagrams) begun.1 (sent_end datagrams room sub 0 most fit), sent_end datagrams room sub 0 most fit) in
    record {
      key = one.key;
      others = one.others;
      within = λ k is i past.
          ap (λ (b : Buffer). b.byte_at i) ((apart sub came (λ key. empty) (λ key. empty) (λ j h. refl)).buffers k is)
          ∙ after_within (of_sub sub came) most (λ key. empty) (λ j m h. refl) ends k i past;
    }

first_need_one : (end_system room sub count : ℕ) (accepted : List Sent) (net : Net) (stream got : List (List ℕ))
    → IsSending end_system room sub accepted net stream → map (twin_of A) got ≡ take count (map (twin_of A) stream) → IsOneEnough sub got
first_need_one end_system room sub count accepted net stream got sending first =
    one_buffer room sub 8200 (datagrams_of end_system accepted) (map fragment_in got) (omega arith)
    (some_bytes end_system sub accepted sending.sent) (few_bytes end_system sub accepted sending.sent)
    (first_come end_system room sub count accepted net stream got sending first)

pub handed_need_one : HandedNeedOne
handed_need_one end_system room sub lag tolerance accepted a b arrivals handed fit carry =
    let longest = carried_longer end_system room sub lag accepted a b handed in
    first_need_one end_system room sub _ accepted longest.net (longer a b) _ longest.sending
    (exactly_once_holds lag tolerance (longer a b) arrivals fit longest.sending.frames (longest.carry arrivals carry))

pub legal_need_one : LegalNeedOne
legal_need_one plan accepted a b k sub lag tolerance arrivals handed fit carry =
    handed_need_one _ _ _ _ _ _ _ _ _ (are_handed plan accepted a b k sub handed) fit carry

pub legal_need_one_despite : LegalNeedOneDespite
legal_need_one_despite plan accepted a b k sub check whole came handed some close =
    let all : List (List ℕ) = longer_of (id_at plan k) a b in
    let longest = carried_longer _ _ _ 0 _ _ _ (are_handed plan accepted a b k sub handed) in
    let masked = loss_masked_holds whole check all came some longest.sending.frames close in
    first_need_one plan.end_system (piece_room plan k) sub masked.0 (accepted k sub) longest.net all _ longest.sending masked.2
