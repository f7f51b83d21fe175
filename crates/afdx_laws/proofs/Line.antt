-- A line of a judge: what it knows of a link on a network while the frames `rest` of a legal stream are to come, and that
-- nothing is wrong with the next one: its number, its gap, its turn and its piece.
use Rattle.afdx_laws.proofs.JudgeNames.{Arrived, Bool, Entry, IsApart, IsFollowedInTurn, IsNumbered, IsPlan, IsSpaced, Joining, Last, Line, List, Measure, Net, None, Option, Options, Plan, PortPlan, Some, Stamp, Sub, Tag, TakesTurns, Verdict, arith, arrived, bag_micros, before_next, cases_Bool, cases_eq, delay_after, due_before, early_deviation, early_since, entry_number, false, fields_of, figures_with, get_or, get_or-set_other, get_or-set_same, head_now, inl, inr, joined, length, length-set, line_after, line_with, link_plan_at, lt-ltb, measure_of, min, more_in, names, nat_lt, nat_tests, new_sub, next_number, number_after, number_deviation, number_kind, number_unless, passed_by, position-Some, refl, sequence_number, settled, slice_set, stamp_of, sub_at, sub_in, sub_stream, sym, told, true, turn_deviation, verdict, ℕ, [], ◌&&◌, ◌*◌, ◌++◌, ◌+◌, ◌-◌, ◌<◌, ◌^◌, ◌∷◌, ◌≡◌, ◌≢◌, ◌≤◌}
use Rattle.afdx_laws.proofs.Message.{IsGood, port_at}
use Rattle.afdx_laws.proofs.Pieces.{IsAwaiting, IsClean, one_frame}
use Rattle.afdx_laws.proofs.ReadFrames.{more_of, with_other, with_own}

-- a recorded time: that of an entry, delayed by at most a jitter
pub record IsDelayed (origin jitter at recorded : ℕ) : Type 0 where
  pub least : origin + 1000 * at ≤ recorded
  pub most : recorded ≤ origin + 1000 * (at + jitter)

-- its delay takes the last frame of a line back to its release, or to before that
pub record IsHeld (origin at : ℕ) (last : Last) : Type 0 where
  pub most : last.at ≤ origin + 1000 * at + last.delay

-- The last frame of a line after `i` frames, the last of which has this stamp, at a time of which P holds; without one
-- `i` is 0, but in a recording that began late.
pub record IsLastOf (P : ℕ → Last → Type 0) (i : ℕ) (before : Option Stamp) (last : Last) : Type 0 where
  pub n : ℕ
  pub count : i ≡ n + 1
  pub number : last.number ≡ sequence_number n
  pub stamp : Stamp
  pub known : before ≡ Some stamp
  pub released : P stamp.at last

abbrev pub IsLast : (ℕ → Last → Type 0) → Bool → ℕ → Option Stamp → Option Last → Type 0
IsLast P late i before None = late ≡ false → (i ≡ 0) × (before ≡ None)
IsLast P late i before (Some last) = IsLastOf P i before last

pub number_goes_on : (n : ℕ) → number_after (sequence_number n) ≡ sequence_number (n + 1)
number_goes_on n = grind (arith, nat_tests)

pub number_fits : (P : ℕ → Last → Type 0) (i number : ℕ) (before : Option Stamp) (late : Bool) (last : Option Last)
    → IsLast P late i before last → number ≡ sequence_number i
    → number_unless (number_kind number last) number (next_number late last) ≡ None
number_fits P i number before late last is next = grind (arith, nat_tests, number_goes_on)

pub none_early : (origin gap i at recorded : ℕ) (late : Bool) (before : Option Stamp) (last : Option Last)
    → IsLast (IsHeld origin) late i before last → IsApart gap before at → origin + 1000 * at ≤ recorded
    → early_since (1000 * gap) recorded last ≡ None
none_early origin gap i at recorded late before last is apart least = grind (arith, nat_tests)

-- so does the delay of the next frame
held_on : (origin gap jitter i at recorded : ℕ) (measure : Measure) (late : Bool) (before : Option Stamp) (last : Option Last)
    → measure.gap ≡ 1000 * gap → measure.jitter ≡ 1000 * jitter → IsLast (IsHeld origin) late i before last → IsApart gap before at
    → IsDelayed origin jitter at recorded → recorded ≤ origin + 1000 * at + delay_after measure recorded last
held_on origin gap jitter i at recorded measure late before last is_gap is_jitter is apart delayed = grind (arith, nat_tests)

-- a sub-VL of the four
abbrev pub own_sub : List Sub → ℕ → Sub
own_sub subs sub = get_or subs sub (new_sub true false 0)

pub own_is : (subs : List Sub) (s : ℕ) → s < length subs → sub_at subs s ≡ own_sub subs s
own_is subs s inside = refl

-- What the sub-VLs of a line say of the frames that are still to come. `frames` came so far. While a piece of a sub-VL
-- is due, each other one has at most one frame before it, and none more if one came already.
pub record AreDue (subs : List Sub) (frames : ℕ) (rest : List Entry) : Type 0 where
  pub size : length subs ≡ 4
  pub most : frames ≤ 2 ^ 64 - 1
  pub came : (p : ℕ) → (own_sub subs p).came ≤ frames
  pub once : (p q : ℕ) → (own_sub subs p).due ≡ true → length (sub_stream q (before_next p rest)) ≤ 1
  pub passed : (p q : ℕ) → (own_sub subs p).due ≡ true → (own_sub subs p).came < (own_sub subs q).came
      → length (sub_stream q (before_next p rest)) ≤ 0

abbrev pub is_passed : ℕ → Sub → Bool
is_passed came s = s.due && nat_lt s.came came

in_turn : (subs : List Sub) (frames : ℕ) (e : Entry) (es : List Entry) (s p : ℕ) → AreDue subs frames (e ∷ es)
    → sub_in e.frame ≡ s → due_before (own_sub subs s).came subs ≡ Some p → ⊥
in_turn subs frames e es s p due its found =
    let at = position-Some (is_passed (own_sub subs s).came) subs p (new_sub true false 0) found in
    grind (arith, nat_tests, at.1, due.passed p s)

pub none_passed : (subs : List Sub) (frames : ℕ) (e : Entry) (es : List Entry) (s : ℕ) → AreDue subs frames (e ∷ es)
    → sub_in e.frame ≡ s → s < 4 → passed_by s subs ≡ None
none_passed subs frames e es s due its few = rw (own_is subs s (omega (arith, due.size))) (from (due_before came subs) refl)
  where
    came : ℕ
    came = (own_sub subs s).came

    from : (found : Option ℕ) → due_before came subs ≡ found → due_before came subs ≡ None
    from None is = is
    from (Some p) is = absurd (in_turn subs frames e es s p due its is)

-- the sub-VLs after a frame
pub sub_same : (subs : List Sub) (s : ℕ) (new : Sub) → s < length subs → own_sub (slice_set subs s new) s ≡ new
sub_same subs s new inside = get_or-set_same subs s new (new_sub true false 0) inside

pub sub_other : (subs : List Sub) (s p : ℕ) (new : Sub) → p ≢ s → own_sub (slice_set subs s new) p ≡ own_sub subs p
sub_other subs s p new other = get_or-set_other subs s p new (new_sub true false 0) other

pub sub_new_at : (subs : List Sub) (s : ℕ) (new : Sub) → s < length subs → sub_at (slice_set subs s new) s ≡ new
sub_new_at subs s new inside = get_or-set_same subs s new (new_sub true false 0) inside

pub sub_other_at : (subs : List Sub) (s p : ℕ) (new : Sub) → p ≢ s → p < length subs → sub_at (slice_set subs s new) p ≡ sub_at subs p
sub_other_at subs s p new other inside = grind (arith, nat_tests, get_or-set_other)

pub due_after : (subs : List Sub) (frames : ℕ) (e : Entry) (es : List Entry) (s : ℕ) (new : Sub) → AreDue subs frames (e ∷ es)
    → s < 4 → sub_in e.frame ≡ s → new.came ≡ min (frames + 1) (2 ^ 64 - 1) → new.due ≡ more_in e.frame
    → IsFollowedInTurn e es → AreDue (slice_set subs s new) (min (frames + 1) (2 ^ 64 - 1)) es
due_after subs frames e es s new due few its counts more turn = record {
  size = grind (arith, length-set);
  most = omega arith;
  came = λ p. grind (arith, cases_eq p s, sub_same, sub_other, due.came p);
  once = λ p q is. grind (arith, nat_tests, cases_eq p s, sub_same, sub_other, due.once p q, turn);
  passed = λ p q is before.
      grind (arith, nat_tests, cases_eq p s, cases_eq q s, sub_same, sub_other, due.once p q, due.passed p q, due.came q);
}

-- nothing is wrong with the next one.

-- the fragments of a sub-VL's frames, and more, are those that are left of its messages
pub record IsAhead (plan : Plan) (k s : ℕ) (net : Net) (joining : Joining) (rest : List Entry) : Type 0 where
  pub more : List (List ℕ)
  pub awaiting : IsAwaiting plan k s net joining (told (sub_stream s rest) ++ more)

pub record IsLine (plan : Plan) (k : ℕ) (net : Net) (origin : ℕ) (options : Options) (line : Line) (rest : List Entry) : Type 0 where
  pub place : ℕ
  pub before : Option Stamp
  pub last : IsLast (IsHeld origin) options.late place before line.last
  pub numbered : IsNumbered entry_number place rest
  pub spaced : IsSpaced (bag_micros (link_plan_at plan.links k).bag) before rest
  pub turns : TakesTurns rest
  pub due : AreDue line.subs line.figures.frames rest
  pub carried : names net (link_plan_at plan.links k).networks ≡ false → rest ≡ []
  pub pieces : (s : ℕ) → s < (link_plan_at plan.links k).sub_vls → IsAhead plan k s net (sub_at line.subs s).joining rest

-- nothing is wrong with a frame
abbrev pub faultless : Verdict
faultless = record { number = None; early = None; port = None; fragment = None; message = None; turn = None }

-- the options of a judge of what this project sends
abbrev pub of_profile : Options → Options
of_profile options = record options { arinc = false }

-- by what a frame is judged
abbrev pub measure_at : Plan → ℕ → Options → Measure
measure_at plan k options = measure_of (of_profile options) (link_plan_at plan.links k)

-- the line after a frame of a sub-VL with which nothing is wrong
abbrev pub sub_of : Option PortPlan → Arrived → Line → ℕ → Sub
sub_of port come line s = record {
  joining = joined false come.fields.piece (head_now port come.fields (sub_at line.subs s).joining);
  came = (figures_with come line).frames;
  due = come.fields.piece.more;
}

abbrev pub line_of : Measure → Option PortPlan → Arrived → Line → ℕ → Line
line_of measure port come line s = record {
  last = Some (record { number = come.fields.number; at = come.at; delay = delay_after measure come.at line.last });
  figures = figures_with come line;
  subs = slice_set line.subs s (sub_of port come line s);
}

-- what is to hold of a frame of a sub-VL
pub record IsRight (measure : Measure) (port : Option PortPlan) (come : Arrived) (line : Line) (s : ℕ) : Type 0 where
  pub profile : measure.arinc ≡ false
  pub known : s < 4
  pub number : number_deviation measure.late come.fields.number line ≡ None
  pub early : early_deviation measure.gap come.at line ≡ None
  pub good : IsGood measure.room port come.fields (sub_at line.subs s).joining
  pub turn : turn_deviation s line ≡ None

settles : (measure : Measure) (port : Option PortPlan) (come : Arrived) (line : Line)
    → IsRight measure port come line come.sub → settled measure come line ≡ line
settles measure port come line right = rw (right.number, right.turn) refl

pub right_after : (measure : Measure) (port : Option PortPlan) (come : Arrived) (line : Line)
    → IsRight measure port come line come.sub
    → line_after measure port come line ≡ line_of measure port come line come.sub
unfolding line_after line_with
right_after measure port come line right = rw (settles measure port come line right, right.profile, lt-ltb _ _ right.known, right.good.fits) refl

right_verdict : (measure : Measure) (port : Option PortPlan) (come : Arrived) (line : Line)
    → IsRight measure port come line come.sub → verdict measure port come line ≡ faultless
unfolding verdict
right_verdict measure port come line right = grind (arith, nat_tests, settles, right.profile, right.known, right.good.of_port, right.good.fits, right.good.ends)

-- a frame on its line, and the line after it
abbrev pub come_of : Plan → ℕ → Options → Tag → List ℕ → Line → Arrived
come_of plan k options tag frame line = arrived (measure_at plan k options) tag (port_at plan k frame) frame line

abbrev pub line_then : Plan → ℕ → Options → Tag → List ℕ → Line → Line
line_then plan k options tag frame line =
    line_after (measure_at plan k options) (port_at plan k frame) (come_of plan k options tag frame line) line

abbrev pub IsFaultless : Plan → ℕ → Options → Tag → List ℕ → Line → Type 0
IsFaultless plan k options tag frame line =
    verdict (measure_at plan k options) (port_at plan k frame) (come_of plan k options tag frame line) line ≡ faultless

pub record IsTaken (plan : Plan) (k : ℕ) (net : Net) (origin : ℕ) (options : Options) (line : Line) (tag : Tag) (e : Entry)
    (es : List Entry) : Type 0 where
  pub left : List (List ℕ)
  pub clean : IsClean plan k (sub_in e.frame) net (sub_at line.subs (sub_in e.frame)).joining e.frame left
  pub wrong : IsFaultless plan k options tag e.frame line
  pub after : IsLine plan k net origin options (line_then plan k options tag e.frame line) es

named : (plan : Plan) (k : ℕ) (net : Net) (origin : ℕ) (options : Options) (line : Line) (e : Entry) (es : List Entry)
    → IsLine plan k net origin options line (e ∷ es) → names net (link_plan_at plan.links k).networks ≡ true
named plan k net origin options line e es is = grind (arith, nat_tests, cases_Bool)

pub line_taken : (plan : Plan) (k : ℕ) (net : Net) (origin : ℕ) (options : Options) (line : Line) (tag : Tag) (e : Entry)
    (es : List Entry) → IsPlan plan → k < length plan.links → 60 ≤ length e.frame
    → sub_in e.frame < (link_plan_at plan.links k).sub_vls
    → IsLine plan k net origin options line (e ∷ es) → IsDelayed origin options.jitter e.at tag.at
    → IsTaken plan k net origin options line tag e es
unfolding fields_of
line_taken plan k net origin options line tag e es valid inside long index is delayed = record {
  left = left;
  clean = clean;
  wrong = right_verdict measure port come line right;
  after = rw (right_after measure port come line right) after;
}
  where
    s : ℕ
    s = sub_in e.frame

    measure : Measure
    measure = measure_at plan k options

    port : Option PortPlan
    port = port_at plan k e.frame

    come : Arrived
    come = arrived measure tag port e.frame line

    ahead : IsAhead plan k s net (sub_at line.subs s).joining (e ∷ es)
    ahead = is.pieces s index

    left : List (List ℕ)
    left = told (sub_stream s es) ++ ahead.more

    clean : IsClean plan k s net (sub_at line.subs s).joining e.frame left
    clean = one_frame plan k s net (sub_at line.subs s).joining e.frame left valid inside (named plan k net origin options line e es is)
        index long (rw (with_own (λ (e : Entry). sub_in e.frame) s e es refl) at ahead.awaiting)

    four : s < 4
    four = grind (arith, valid.each_link k (link_plan_at [] 0) inside)

    right : IsRight measure port come line s
    right = record {
      profile = refl;
      known = four;
      number = number_fits (IsHeld origin) is.place (fields_of e.frame).number is.before options.late line.last is.last
          is.numbered.0;
      early = none_early origin (bag_micros (link_plan_at plan.links k).bag) is.place e.at tag.at options.late is.before line.last
          is.last is.spaced.0 delayed.least;
      good = clean.good;
      turn = rw (none_passed line.subs line.figures.frames e es s is.due refl four) refl;
    }

    new : Sub
    new = sub_of port come line s

    pieces : (q : ℕ) → q < (link_plan_at plan.links k).sub_vls → IsAhead plan k q net (sub_at (slice_set line.subs s new) q).joining es
    pieces q within = elim (cases_eq q s) [
      | inl same ↦ rw (same, sub_new_at line.subs s new (omega (arith, is.due.size)))
          (record { more = ahead.more; awaiting = clean.next })
      | inr other ↦ rw (sub_other_at line.subs s q new other (grind (arith, is.due.size, valid.each_link k (link_plan_at [] 0) inside)))
          (record {
            more = (is.pieces q within).more;
            awaiting = rw (with_other (λ (e : Entry). sub_in e.frame) q e es (λ its. other (sym its))) at (is.pieces q within).awaiting;
          })
    ]

    held : IsHeld origin e.at (record { number = come.fields.number; at = tag.at; delay = delay_after measure tag.at line.last })
    held = record {
      most = held_on origin (bag_micros (link_plan_at plan.links k).bag) options.jitter is.place e.at tag.at measure options.late
          is.before line.last refl refl is.last is.spaced.0 delayed;
    }

    after : IsLine plan k net origin options (line_of measure port come line s) es
    after = record {
      place = is.place + 1;
      before = Some (stamp_of e);
      last = record { n = is.place; count = refl; number = is.numbered.0; stamp = stamp_of e; known = refl; released = held };
      numbered = is.numbered.1;
      spaced = is.spaced.1;
      turns = is.turns.1;
      due = due_after line.subs line.figures.frames e es s new is.due four refl refl (more_of e.frame clean.flags) is.turns.0;
      carried = λ isnt. absurd (cc (isnt, named plan k net origin options line e es is));
      pieces = pieces;
    }
