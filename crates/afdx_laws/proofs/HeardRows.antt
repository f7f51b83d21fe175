-- The worked rows of what an emitter was told, by computation.
use Rattle.afdx_laws.proofs.RunNames.{ℕ, suc, ◌≡◌, ◌<◌, [], ◌∷◌, length, get_or, refl, ap, sym, subst, ◌∙◌, arith, inl, inr, Some, Contains, A, blanked, cutting, fragments_at, addresses, header_front, internet_header, link_header, udp_header, datagram, unnumbered, log, Released, Passes, GivesFrame, below_one, held_at, after_take, Brought, ReceiverView, Heeds, EmitterPolls, short_frame, byte_plan, byte_line, no_line, tight_link, fresh, IsNextIn, one_sent, told_one, IsTurnOf, ReleasesTold, NeedsToBeTold, moves_of, same_sub_here, IsSameSub, zero, looked, Nothing, None, NoneHas, pace_in, ◌≤◌}
use Rattle.afdx_frame.specs.Checksum.{checksum}
use Rattle.afdx_laws.proofs.EmitterRuns.{polls_by}
use Rattle.afdx_laws.proofs.NeededRuns.{held}
use Rattle.afdx_laws.proofs.Used.{untold}
use Rattle.afdx_laws.proofs.HeardRun.{releases_heard, heard_is_found}

only_sent : (b : Brought) → Contains (one_sent ∷ []) b → b ≡ one_sent
only_sent b inside =
    let k = inside.0 in let lt = inside.1 in let zeroth : k ≡ 0 = omega arith in
    sym (subst (λ (i : ℕ). get_or (one_sent ∷ []) i b ≡ b) zeroth inside.2)

heeds_told : Heeds told_one (Some (0, 1 ∷ []))
heeds_told = record {
  heard = λ item has.
      let r = subst (λ (b : Brought). (i : ℕ) × (i < length b.own) × (get_or b.places i 0 ≡ 0) × (item ≡ (b.port, get_or b.own i [])))
      (only_sent has.0 has.1) has.2 in
      let i = r.0 in let lt = r.1 in let zeroth : i ≡ 0 = omega arith in
      ap Some (sym (r.3 ∙ ap (λ (n : ℕ). (0, get_or ((1 ∷ []) ∷ []) n [])) zeroth));
  alone = λ _ b inside i lt.
      let is = only_sent b inside in
      let few = subst (λ (s : Brought). i < length s.own) is lt in let zeroth : i ≡ 0 = omega arith in
      subst (λ (s : Brought). get_or s.places i 0 ≡ i) (sym is) (subst (λ (n : ℕ). get_or (0 ∷ []) n 0 ≡ n) (sym zeroth) refl);
}

-- a poll of an emitter that was told of a message, and transmits it
tells : EmitterPolls byte_plan 1000 no_line (byte_line 1000)
unfolding log checksum addresses header_front internet_header link_header udp_header datagram unnumbered cutting fragments_at
tells = polls_by 1000 byte_plan tight_link (held told_one ∷ []) (held taken ∷ []) no_line (byte_line 1000) (Released 0 0)
    (grind arith) (grind arith) refl same (below_one _ refl) (
      refl,
      refl,
      record {
        frame = short_frame 0 0 0 A;
        choice = record {
          turn = 0;
          within = omega arith;
          is = refl;
          chosen = given;
          before = λ k lt. absurd (omega arith);
          others = λ s other. others s (λ is. other 0 (omega arith) (sym is));
        };
        of = grind arith;
        enters = refl;
        stands = refl;
        stays_down = grind arith;
      },
    )
  where
    taken : ReceiverView
    taken = after_take told_one (0, 1 ∷ [])

    given : GivesFrame (held told_one) (short_frame 0 0 0 A) (held taken)
    given = record {
      mid = record (held taken) { left = blanked (short_frame 0 0 0 A) ∷ [] };
      asked = inr (record {
        message = (0, 1 ∷ []);
        item = grind arith;
        whole = refl;
        finds = (refl, heeds_told);
        left = refl;
        some = grind arith;
        of = refl;
        ports = refl;
      });
      gives = grind arith;
    }

    same : (s : ℕ) → IsSameSub (held_at (held told_one ∷ []) s) (held_at (held taken ∷ []) s)
    same zero = grind (arith, moves_of)
    same (suc s) = same_sub_here _ _ refl

    others : (s : ℕ) → (s ≡ 0 → ⊥) → held_at (held taken ∷ []) s ≡ held_at (held told_one ∷ []) s
    others zero apart = absurd (apart refl)
    others (suc s) apart = refl

told_turn : IsTurnOf (byte_line 1000)
unfolding log tells
told_turn = record { poll = tells; idle = refl; turn = record { due = refl; first = refl }; is_up = refl }

next_told : IsNextIn (held told_one) (0, 1 ∷ [])
next_told = record {
  receiver = told_one;
  receives = refl;
  next = inl (one_sent, (0, omega arith, refl), (0, omega arith, refl, refl));
}

pub releases_told : ReleasesTold
unfolding tells told_turn
releases_told = record {
  valid = grind arith;
  at = told_turn;
  next = next_told;
  found = heard_is_found byte_plan 1000 no_line (byte_line 1000) 0 0 1 tells (λ _ _. ((0, 1 ∷ []), next_told));
  released = releases_heard byte_plan 1000 no_line (byte_line 1000) 0 0 (0, 1 ∷ []) tells (grind arith) (omega arith) (omega arith) refl next_told
      told_turn.turn told_turn.is_up;
}

-- a poll of an emitter that was told of nothing, and finds nothing
untold_poll : EmitterPolls byte_plan 1000 no_line no_line
unfolding log checksum addresses header_front internet_header link_header udp_header datagram unnumbered cutting fragments_at
untold_poll = polls_by 1000 byte_plan tight_link (held fresh ∷ []) (held (looked fresh) ∷ []) no_line no_line Nothing
    (grind arith) (grind arith) refl same (below_one _ refl) (inr (refl, passed), refl)
  where
    passes : Passes (held fresh) (held (looked fresh))
    passes = record { whole = refl; nothing = (refl, untold fresh None refl); same = refl }

    others : (s : ℕ) → 1 ≤ s → held_at (held (looked fresh) ∷ []) s ≡ held_at (held fresh ∷ []) s
    others zero le = absurd (omega arith)
    others (suc s) le = refl

    passed : NoneHas (pace_in tight_link (log no_line)) (λ s. Passes (held_at (held fresh ∷ []) s) (held_at (held (looked fresh) ∷ []) s))
        (λ s. held_at (held (looked fresh) ∷ []) s ≡ held_at (held fresh ∷ []) s)
    passed = record { each = below_one _ passes; others = others }

    same : (s : ℕ) → IsSameSub (held_at (held fresh ∷ []) s) (held_at (held (looked fresh) ∷ []) s)
    same zero = grind (arith, moves_of)
    same (suc s) = same_sub_here _ _ refl

pub needs_to_be_told : NeedsToBeTold
unfolding log untold_poll
needs_to_be_told = record {
  at = record { poll = untold_poll; idle = refl; turn = record { due = refl; first = refl }; is_up = refl };
  unreleased = λ r. let count = ap length r.stream in absurd (omega arith);
}
