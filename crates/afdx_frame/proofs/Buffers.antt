-- What a buffer holds after fragments of one datagram are put into it.
use Rattle.afdx_frame.proofs.Names.{◌≡◌, ℕ, zero, suc, ◌+◌, ◌-◌, ◌*◌, ◌≤◌, ◌<◌, inl, inr, Bool, true, false, not, List, [], ◌∷◌, length, get_or, refl, sym, ◌∙◌, subst, arith, All, Contains, Option, Some, None, slice_index, if◌then◌else◌, list_any, cases_lt, cases_Bool, false_from_ne_true, get_or-map, get_or-take, get_or-drop, length-map, length-take, length-drop, All-contains, All-contains_itself, All-map, All-head, All-tail, All-weaker, Contains-get_or, Piece, cutting, pieces_from, Fragment, Buffer, empty, covers, put, put_all, joined, bytes_from, bytes_to, fragment_of, fragments_of, AnyOrder, NotBefore, list_any_at, list_any_none}
use Rattle.afdx_frame.proofs.CuttingLaw.{IsPart, pieces_are, cover_of}

-- the fragment carries bytes of this datagram, at their positions
record Agrees (d : List ℕ) (f : Fragment) : Type 0 where
  pub same : (i : ℕ) → covers f i ≡ true → slice_index f.bytes (i - 8 * f.offset) ≡ slice_index d i
  pub total : f.more ≡ false → 8 * f.offset + length f.bytes ≡ length d

-- After fragments of the datagram, the buffer holds the datagram's byte at each covered position.
byte_after : (d : List ℕ) (i : ℕ) (fs : List Fragment) (b : Buffer) → All (Agrees d) fs
    → (put_all b fs).byte_at i ≡ (if list_any (λ f. covers f i) fs then Some (slice_index d i) else b.byte_at i)
byte_after d i [] b all = refl
byte_after d i (f ∷ fs) b all =
    grind (arith, byte_after d i fs (put b f), All-tail (Agrees d) f fs all, All-head (Agrees d) f fs all, cases_Bool (covers f i))

-- After fragments of the datagram, the length is the datagram's if the last one came.
total_after : (d : List ℕ) (fs : List Fragment) (b : Buffer) → All (Agrees d) fs
    → (put_all b fs).total ≡ (if list_any (λ f. not f.more) fs then Some (length d) else b.total)
total_after d [] b all = refl
total_after d (f ∷ fs) b all =
    grind (arith, total_after d fs (put b f), All-tail (Agrees d) f fs all, All-head (Agrees d) f fs all, cases_Bool f.more)

-- If all positions are known, the bytes are given.
all_bytes : (xs : List ℕ) (byte_at : ℕ → Option ℕ) (start : ℕ)
    → ((k j : ℕ) → j ≡ start + k → k < length xs → byte_at j ≡ Some (get_or xs k 0))
    → bytes_from byte_at start (length xs) ≡ Some xs
all_bytes [] byte_at start each = refl
all_bytes (x ∷ xs) byte_at start each =
    rw (
      each 0 start (omega arith) (omega arith),
      all_bytes xs byte_at (start + 1) (λ k j e h. each (suc k) j (omega arith) (omega arith)),
    ) refl

-- If one position is unknown, nothing is given.
none_given : (n : ℕ) (byte_at : ℕ → Option ℕ) (start i : ℕ) → start ≤ i → i < start + n → byte_at i ≡ None
    → bytes_from byte_at start n ≡ None
none_given zero byte_at start i low high none = absurd (omega arith)
none_given (suc n) byte_at start i low high none = elim (cases_lt start i) [
  | inl later ↦ rw (none_given n byte_at (start + 1) i (omega arith) (omega arith) none) (joined_none (byte_at start))
  | inr here ↦ grind arith
]
  where
    joined_none : (o : Option ℕ) → joined o None ≡ None
    joined_none None = refl
    joined_none (Some x) = refl

-- the bounds of the positions that a fragment covers
covers_parts : (f : Fragment) (i : ℕ) → covers f i ≡ true → (8 * f.offset ≤ i) × (i < 8 * f.offset + length f.bytes)
covers_parts f i in_it = grind arith

-- The data of a piece's fragment has the length of the piece.
data_length : (d : List ℕ) (p : Piece) → p.start + p.len ≤ length d → length (fragment_of d p).bytes ≡ p.len
data_length d p within = grind (arith, length-take, length-drop)

-- the fragment of a piece agrees with the datagram
agrees_of : (room : ℕ) (d : List ℕ) (p : Piece) → IsPart room (length d) p → Agrees d (fragment_of d p)
agrees_of room d p is = grind (arith, data_length, get_or-take, get_or-drop)

module _ (room : ℕ) (d : List ℕ) (came : List Fragment) (least : 8 ≤ room) (some : 1 ≤ length d)
    (only : (f : Fragment) → Contains came f → Contains (fragments_of room d) f) where
  abbrev pieces : List Piece
  pieces = pieces_from 0 (cutting room (length d))

  parts : All (IsPart room (length d)) pieces
  parts = pieces_are room 0 (length d) (length d) least some (omega arith) refl

  part : (p : Piece) → Contains pieces p → IsPart room (length d) p
  part p among = All-contains (IsPart room (length d)) pieces p parts among

  -- a fragment of one of the datagram's pieces
  abbrev From : Fragment → Type 0
  From f = (p : Piece) × Contains pieces p × (fragment_of d p ≡ f)

  source_of : (f : Fragment) → Contains (fragments_of room d) f → From f
  source_of f among = All-contains From (fragments_of room d) f (All-map From (fragment_of d) pieces
      (All-weaker (Contains pieces) (λ p. From (fragment_of d p)) (λ p has. (p, has, refl)) pieces
      (All-contains_itself pieces))) among

  -- Each fragment that came is one of the datagram.
  agree : All (Agrees d) came
  agree = λ k e inside. let src = source_of _ (only _ (Contains-get_or came k e inside)) in
      subst (Agrees d) src.2 (agrees_of room d src.0 (part src.0 src.1))

  -- If one that came passes a test, some fragment passes it.
  came_some : (test : Fragment → Bool) (f : Fragment) → Contains came f → test f ≡ true → list_any test came ≡ true
  came_some test f (k, inside, here) passes = grind (arith, list_any_at)

  -- If all fragments came, the buffer gives the datagram.
  whole : ((f : Fragment) → Contains (fragments_of room d) f → Contains came f)
      → bytes_to (put_all empty came).byte_at (put_all empty came).total ≡ Some d
  whole has = rw total (all_bytes d (put_all empty came).byte_at 0
      (λ k j e below. let same : j ≡ k = omega arith in rw same (known k below)))
    where
      among : (p : Piece) → Contains pieces p → Contains came (fragment_of d p)
      among p (k, inside, here) = has (fragment_of d p) (
        k,
        omega (arith, length-map pieces (fragment_of d)),
        grind (arith, get_or-map),
      )

      known : (i : ℕ) → i < length d → (put_all empty came).byte_at i ≡ Some (slice_index d i)
      known i below =
          let cover = cover_of room i (length d) least below in
          let is = part cover.piece cover.among in
          let len = data_length d cover.piece is.within in
          let f : Fragment = fragment_of d cover.piece in
          let in_it : covers f i ≡ true
          = grind arith in
          byte_after d i came empty agree
          ∙ rw (came_some (λ g. covers g i) f (among cover.piece cover.among) in_it) refl

      total : (put_all empty came).total ≡ Some (length d)
      total =
          let last = cover_of room (length d - 1) (length d) least (omega arith) in
          let is = part last.piece last.among in
          let ends : last.piece.more ≡ false
          = grind arith in
          total_after d came empty agree
          ∙ rw (came_some (λ g. not g.more) (fragment_of d last.piece) (among last.piece last.among) (rw ends refl)) refl

  -- If one fragment is missing, its first byte is unknown.
  lacking : (missing : Fragment) → Contains (fragments_of room d) missing → (Contains came missing → ⊥)
      → bytes_to (put_all empty came).byte_at (put_all empty came).total ≡ None
  lacking missing has lacks =
      let src = source_of missing has in
      let is = part src.0 src.1 in
      let at = src.0.start in
      let cover = cover_of room at (length d) least (omega arith) in
      let uncovered : list_any (λ f. covers f at) came ≡ false = list_any_none (λ f. covers f at) came (λ k e inside.
      let there = Contains-get_or came k e inside in
      let other = source_of _ (only _ there) in
      let its = part other.0 other.1 in
      let len = data_length d other.0 its.within in
      false_from_ne_true _ (λ in_it.
      let (low, high) = covers_parts (fragment_of d other.0) at (grind arith) in
      let same : other.0 ≡ src.0 = sym (cover.only other.0 other.1 (omega arith) (omega arith))
      ∙ cover.only src.0 src.1 (omega arith) (omega arith) in
      grind arith)) in
      let unknown : (put_all empty came).byte_at at ≡ None = byte_after d at came empty agree ∙ rw uncovered refl in
      elim (cases_Bool (list_any (λ f. not f.more) came)) [
        | inl ended ↦ rw (total_after d came empty agree, ended)
            (none_given (length d) (put_all empty came).byte_at 0 at (omega arith) (omega arith) unknown)
        | inr open_ended ↦ rw (total_after d came empty agree, open_ended) refl
      ]

-- the laws
pub any_order_holds : AnyOrder
any_order_holds room d came least some all =
    whole room d came least some (λ f. (all f).0) (λ f. (all f).1)

pub not_before_holds : NotBefore
not_before_holds room d came missing least some only has lacks = lacking room d came least some only missing has lacks
