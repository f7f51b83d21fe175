-- Lists, numbers that differ, and worked cases in which premises fail.
use Rattle.afdx_laws.proofs.Names.{◌≡◌, ℕ, ◌<◌, false, nat_eq, List, [], ◌∷◌, ◌++◌, length, map, refl, subst, arith, All, take-append_seam, All-take, zero, suc, ◌+◌, ◌-◌, ◌≤◌, true, Option, Some, None, sequence_number, next_number, ahead, is_valid, drop-append_seam, All-drop, BothFail, NeedsEach}

pub cons_parts : {X : Type 0} {x y : X} {xs ys : List X} → x ∷ xs ≡ y ∷ ys → (x ≡ y) × (xs ≡ ys)
cons_parts e = (cc, cc)

pub cons_same : {X : Type 0} {x y : X} {xs ys : List X} → x ≡ y → xs ≡ ys → x ∷ xs ≡ y ∷ ys
cons_same here later = cc

pub append_same : {X : Type 0} {xs ys us vs : List X} → xs ≡ ys → us ≡ vs → xs ++ us ≡ ys ++ vs
append_same front back = cc

pub nil_isnt_cons : {X : Type 0} {x : X} {xs : List X} → [] ≡ x ∷ xs → ⊥
nil_isnt_cons e = cc

pub nil_begins : {X : Type 0} (xs ys : List X) → xs ++ ys ≡ [] → xs ≡ []
nil_begins [] ys e = refl
nil_begins (x ∷ xs) ys e = cc

pub all_front : {X : Type 0} (P : X → Type 0) (xs rest ys : List X) → xs ++ rest ≡ ys → All P ys → All P xs
all_front {X = X} P xs rest ys is all =
    subst (λ (zs : List X). All P zs) (take-append_seam xs rest)
    (All-take P (length xs) (xs ++ rest) (grind arith))

pub all_back : {X : Type 0} (P : X → Type 0) (front ys : List X) → All P (front ++ ys) → All P ys
all_back {X = X} P front ys all =
    subst (λ (zs : List X). All P zs) (drop-append_seam front ys) (All-drop P (length front) (front ++ ys) all)

pub map_same : {X Y : Type 0} (f g : X → Y) (xs : List X) → ((x : X) → f x ≡ g x) → map f xs ≡ map g xs
map_same f g xs same = grind arith

pub other_length : {X : Type 0} {xs ys : List X} → nat_eq (length xs) (length ys) ≡ false → xs ≡ ys → ⊥
other_length other is = grind arith

pub below_one : (P : ℕ → Type 0) → P 0 → (k : ℕ) → k < 1 → P k
below_one P p k below = grind arith

pub fails_by : {P Q : Type 0} → (P → Q) → (Q → ⊥) → BothFail P Q
fails_by law fails = grind arith

pub needs_each : {X Y Z : Type 0} {P : X → Type 0} {Q : Y → Type 0} {R : Z → Type 0} {Says : X → Y → Z → Type 0}
    {x no_x : X} {y no_y : Y} {z no_z : Z} → ((x : X) (y : Y) (z : Z) → P x → Q y → R z → Says x y z)
    → P x → Q y → R z → (Says no_x y z → ⊥) → (Says x no_y z → ⊥) → (Says x y no_z → ⊥) → NeedsEach P Q R Says x no_x y no_y z no_z
needs_each {x = x} {no_x = no_x} {y = y} {no_y = no_y} {z = z} {no_z = no_z} law p q r no_p no_q no_r = grind arith

pub next_is : (i : ℕ) → next_number (sequence_number i) ≡ sequence_number (suc i)
next_is i = grind arith

-- numbers differ within 255 places
pub differ : (a k : ℕ) → a < k → k < a + 255 → sequence_number a ≡ sequence_number k → ⊥
differ a k later near same = grind arith

ahead_next : (many j n : ℕ) → 1 ≤ many → n ≡ next_number j → ahead many j n ≡ true
ahead_next many j n some e = grind arith

pub ahead_old : (many j a : ℕ) → a ≤ j → j + many < a + 255 → ahead many (sequence_number j) (sequence_number a) ≡ false
ahead_old zero j a old near = refl
ahead_old (suc many) j a old near = grind (arith, ahead_old many (suc j) a, next_is j, differ a (suc j))

-- the number of the frame before a place
abbrev pub last : ℕ → Option ℕ
last zero = None
last (suc i) = Some (sequence_number i)

pub valid_next : (many a : ℕ) → 1 ≤ many → is_valid many (last a) (sequence_number a) ≡ true
valid_next many a some = grind (arith, ahead_next)

ahead_last : (many j : ℕ) → ahead (suc many) (sequence_number j) (sequence_number (suc j + many)) ≡ true
ahead_last zero j = grind (arith, next_is j)
ahead_last (suc many) j = grind (arith, ahead_last many (suc j), next_is j)

-- an old frame whose number is in the window
pub old_is_ahead : (window j place : ℕ) → 1 ≤ window → 1 ≤ place → place + 255 ≡ j + window
    → ahead window (sequence_number j) (sequence_number place) ≡ true
old_is_ahead window j place some old is = grind (arith, ahead_last (window - 1) j)
