-- Two networks through a list of hands, and their lists as mirrors of the log.
use Rattle.std.proofs.Common.{arith, ℕ, ◌≡◌, List, [], ◌∷◌, ◌++◌, Bool, true, false, ◌&&◌, cond, map, refl, ap, sym, inl, inr, ⊎_elim}
use Rattle.std.proofs.lemmas.List.{map-append, append-nil, append_assoc}
use Rattle.std.proofs.lemmas.List.Elements.{filter-append, All-nil, All-push}
use Rattle.std.proofs.lemmas.Bool.{cases_Bool, both_ways, and_parts, and_from, or_cases, or_left, or_right}
use Rattle.afdx_plan.specs.declared.link_plan.Networks.{Networks}
use Rattle.afdx_plan.specs.Plan.{carries_a, carries_b}
use Rattle.afdx_frame.specs.declared.net.Net.{Net}
use Rattle.afdx_frame.specs.declared.net.Net.TheVariants.{A, B}
use Rattle.redundant_mux.specs.Lines.{Entry, Logged, logged_for, entries_of, names, only, side, sent_to, Lines, lines_of, Handing, Keeps, IsMirrored, AreInStep, any_up, log, Endures, BothEndure}

-- The entries of two lists.
pub entries_append : (xs ys : List Logged) → entries_of (xs ++ ys) ≡ entries_of xs ++ entries_of ys
entries_append xs ys = map-append (λ (l : Logged). l.entry) xs ys

-- One entry more in the log, as a network gets it.
sent_push : (net : Net) (seen : List Logged) (l : Logged)
    → sent_to net (seen ++ l ∷ []) ≡ sent_to net seen ++ cond (names net l.networks) (side net l.entry ∷ []) []
sent_push net seen l = grind (arith, filter-append, map-append)
  where
    one : (named : Bool) → map (side net) (entries_of (cond named (l ∷ []) [])) ≡ cond named (side net l.entry ∷ []) []
    one true = refl
    one false = refl

-- the effect of a hand on one network
record AfterHand (named : Bool) (e : Entry) (stood stands : Bool) (old new : List Entry) : Type 0 where
  stays : stands ≡ true → stood ≡ true
  gets : stands ≡ true → new ≡ old ++ cond named (e ∷ []) []
  rests : (named && stands) ≡ false → new ≡ old

after_hand : (named : Bool) (e : Entry) (stood stands : Bool) (old new : List Entry) (f g : ℕ)
    → Handing named e stood stands old new f g → AfterHand named e stood stands old new
after_hand named e stood stands old new f g p = grind (arith, append-nil)

-- A network's list after a hand whose entry is logged.
keeps_logged : (net : Net) (networks : Networks) (e : Entry) (stood stands : Bool) (h h' : List Entry) (logged more : List Logged)
    → Keeps net stood h logged → AfterHand (names net networks) (side net e) stood stands h h'
    → (stands ≡ false → networks ≡ only net → ⊥) → more ≡ logged ++ logged_for networks e ∷ [] → Keeps net stands h' more
keeps_logged net networks e stood true h h' logged more k p other is =
    let all : k.seen ≡ logged = grind (arith, append-nil) in
    record {
      seen = more;
      missed = [];
      whole = sym (append-nil more);
      got = grind (arith, sent_push);
      shared = grind arith;
      all = λ _. refl;
    }
keeps_logged net networks e stood false h h' logged more k p other is = record {
  seen = k.seen;
  missed = k.missed ++ logged_for networks e ∷ [];
  whole = grind (arith, append_assoc);
  got = grind arith;
  shared = All-push (λ (l : Logged). l.networks ≡ only net → ⊥) k.missed _ k.shared (other refl);
  all = λ up. cc;
}

-- After a hand both lists mirror the log.
pub handed_on : (old new : Lines) (networks : Networks) (e : Entry) → IsMirrored old → side A e ≡ e
    → Handing (carries_a networks) e old.a_stands new.a_stands old.a new.a old.a_failures new.a_failures
    → Handing (carries_b networks) (side B e) old.b_stands new.b_stands old.b new.b old.b_failures new.b_failures
    → (any_up networks new ≡ true → new.logged ≡ old.logged ++ logged_for networks e ∷ [])
    → (any_up networks new ≡ false → new.logged ≡ old.logged)
    → IsMirrored new
handed_on old new networks e m t p q enters lost =
    let for_a = after_hand (carries_a networks) (side A e) old.a_stands new.a_stands old.a new.a old.a_failures new.a_failures
    (rw t p) in
    let for_b = after_hand (carries_b networks) (side B e) _ _ _ _ _ _ q in
    elim (cases_Bool (any_up networks new)) [
      | inl some ↦
          let first : Keeps A new.a_stands new.a new.logged = keeps_logged A networks e _ _ _ _ _ _ m.first for_a
          (grind arith) (enters some) in
          let second : Keeps B new.b_stands new.b new.logged = keeps_logged B networks e _ _ _ _ _ _ m.second for_b
          (grind arith) (enters some) in
          record {
            first = first;
            second = second;
            one = grind arith;
            for_a = rw (enters some) (All-push (λ (l : Logged). side A l.entry ≡ l.entry) old.logged _ m.for_a t);
          }
      | inr none ↦
          record {
            first = grind arith;
            second = grind arith;
            one = m.one;
            for_a = rw (lost none) m.for_a;
          }
    ]

-- A logged entry is appended to the log.
pub log_more : (lines after : Lines) (l : Logged) → after.logged ≡ lines.logged ++ l ∷ []
    → log after ≡ log lines ++ l.entry ∷ []
unfolding log
log_more lines after l more = grind (arith, entries_append)

-- Without a logged entry the log is the same.
pub log_same : (lines after : Lines) → after.logged ≡ lines.logged → log after ≡ log lines
unfolding log
log_same lines after same = ap entries_of same

-- the lines of two networks that accepted nothing
abbrev pub fresh_lines : Lines
fresh_lines = lines_of [] [] 0 0 true true false false []

-- Their log is empty.
pub fresh_log : log fresh_lines ≡ []
unfolding log
fresh_log = refl

-- An empty list missed nothing.
abbrev fresh_keeps : (net : Net) → Keeps net true [] []
fresh_keeps net = record {
  seen = [];
  missed = [];
  whole = refl;
  got = refl;
  shared = All-nil (λ (l : Logged). l.networks ≡ only net → ⊥);
  all = λ _. refl;
}

-- They are in step.
pub fresh_in_step : AreInStep fresh_lines
fresh_in_step = record {
  a_unfailed = λ _. refl;
  b_unfailed = λ _. refl;
  mirrored = record {
    first = fresh_keeps A;
    second = fresh_keeps B;
    one = inl refl;
    for_a = grind arith;
  };
}

-- No hand keeps the relation.
endures_none : (s : Bool) (h : List Entry) (f : ℕ) → Endures s s h h f f
endures_none s h f = grind arith

-- The relation is transitive.
endures_on : (s m t : Bool) (h i j : List Entry) (f g k : ℕ) → Endures s m h i f g → Endures m t i j g k → Endures s t h j f k
endures_on s m t h i j f g k p q = grind (arith, cases_Bool, both_ways)

-- No hand, for both networks.
pub both_none : (lines : Lines) → BothEndure lines lines
both_none lines = grind (arith, endures_none)

-- Transitivity, for both networks.
pub both_on : (before mid after : Lines) → BothEndure before mid → BothEndure mid after → BothEndure before after
both_on before mid after p q = grind (arith, endures_on)

-- A network that is up at the end was up before.
pub stood_before : (before after : Lines) (networks : Networks) → BothEndure before after → any_up networks after ≡ true
    → any_up networks before ≡ true
stood_before before after networks p some = grind (arith, ⊎_elim, and_parts, or_left, and_from, or_right, or_cases)

-- Lines mirror the log whichever network was made to fail.
pub mirrored_failing : (lines : Lines) (p q : Bool) → IsMirrored lines
    → IsMirrored (record lines { a_failing = p; b_failing = q })
mirrored_failing lines p q m = record { first = m.first; second = m.second; one = m.one; for_a = m.for_a }

-- They are in step whichever network was made to fail.
pub in_step_failing : (lines : Lines) (p q : Bool) → AreInStep lines
    → AreInStep (record lines { a_failing = p; b_failing = q })
in_step_failing lines p q s = record {
  a_unfailed = s.a_unfailed;
  b_unfailed = s.b_unfailed;
  mirrored = mirrored_failing lines p q s.mirrored;
}
