-- A generated checksum passes the receiver's check, and a changed word fails it.
use Rattle.afdx_frame.proofs.Names.{◌≡◌, ℕ, zero, suc, ◌+◌, ◌*◌, ◌⊎◌, List, [], ◌∷◌, ◌++◌, length, ap, ◌∙◌, arith, PortPlan, OneUdpChecksum, word_sum, udp_checksum, datagram, datagram_len, udp_front, udp_header, udp_sum, ChecksumsPass, ReassembledPass, ChangedWordsFail, Generated}
use Rattle.std.proofs.lemmas.List.{length-append}
use Rattle.afdx_frame.proofs.Buffers.{any_order_holds}
use Rattle.afdx_frame.proofs.Datagram.{length-udp_header}

-- One number from 1 to 65,535 closes a sum.
pub one_udp_checksum : OneUdpChecksum
unfolding udp_checksum
one_udp_checksum sum = grind arith

-- The word sum of two lists, if the first has an even length.
pub word_sum-append : (words : ℕ) (xs ys : List ℕ) → length xs ≡ 2 * words → word_sum (xs ++ ys) ≡ word_sum xs + word_sum ys
word_sum-append words [] ys whole = omega arith
word_sum-append words (a ∷ []) ys whole = absurd (omega arith)
word_sum-append zero (a ∷ b ∷ xs) ys whole = absurd (omega arith)
word_sum-append (suc words) (a ∷ b ∷ xs) ys whole = omega (arith, word_sum-append words xs ys (omega arith))

-- The word sum of the UDP header.
header_sum : (end_system : ℕ) (port : PortPlan) (message : List ℕ) → port.checksum ≡ Generated
    → word_sum (udp_header end_system port message)
    ≡ word_sum (udp_front port message) + udp_checksum (udp_sum end_system port message)
unfolding udp_header
header_sum end_system port message generated = grind (arith, one_udp_checksum)

-- The word sum of the datagram.
datagram_sum : (end_system : ℕ) (port : PortPlan) (message : List ℕ) → port.checksum ≡ Generated
    → word_sum (datagram end_system port message)
    ≡ word_sum (udp_front port message) + udp_checksum (udp_sum end_system port message) + word_sum message
unfolding datagram
datagram_sum end_system port message generated =
    grind (arith, header_sum, word_sum-append 4 (udp_header end_system port message) message, length-udp_header)

-- The length of the datagram.
length-datagram : (end_system : ℕ) (port : PortPlan) (message : List ℕ)
    → length (datagram end_system port message) ≡ datagram_len message
unfolding datagram
length-datagram end_system port message = grind (arith, length-append, length-udp_header)

-- The receiver's sum is the sender's sum with its checksum, and passes.
pub checksums_pass : ChecksumsPass
unfolding udp_sum
checksums_pass end_system port message generated = grind (arith, datagram_sum, length-datagram, one_udp_checksum)

-- The same holds of the datagram put together from its fragments.
pub reassembled_pass : ReassembledPass
reassembled_pass end_system port message room came generated least all =
    let len = length-datagram end_system port message in (
      datagram end_system port message,
      any_order_holds room (datagram end_system port message) came least (omega arith) all,
      checksums_pass end_system port message generated,
    )

-- The word sum of a list around one of its words.
around : (words : ℕ) (front word rest : List ℕ) → length front ≡ 2 * words
    → (length word ≡ 2) ⊎ ((length word ≡ 1) × (rest ≡ []))
    → word_sum (front ++ (word ++ rest)) ≡ word_sum front + (word_sum word + word_sum rest)
around words front word rest whole one =
    let both = word_sum-append words front (word ++ rest) whole in
    grind arith

-- A word with another remainder gives a sum with another remainder.
pub changed_words_fail : ChangedWordsFail
changed_words_fail ends before after passes changed still =
    let b = ap word_sum changed.before_is ∙ around changed.words changed.front changed.old changed.rest changed.in_words changed.one_word in
    let a = ap word_sum changed.after_is ∙ around changed.words changed.front changed.new changed.rest changed.in_words
    (grind arith) in
    grind (arith, length-append)
