-- The ports in an end system are those of its emitter.
use Rattle.afdx_handle.proofs.Names.{ℕ, ◌≡◌, length, sym, subst, Some, true, false, eqb-true, All-push, All-head, All, IsPermutation, get_or, swap_remove, Tx, PortView, IsPortOfTx, LacksPlace, IsGatheredTx, EndView, has_id, IsEndSystem, TakesPort, position}
use Rattle.std.proofs.Common.{List, [], ◌∷◌, ◌++◌, refl}
use Rattle.afdx_frame.specs.declared.net.Net.{Net}
use Rattle.afdx_frame.specs.declared.net.Net.TheVariants.{A, B}
use Rattle.redundant_mux.specs.Lines.{with_failing}
use Rattle.redundant_mux.proofs.MirroredLines.{mirrored_failing}
use Rattle.std.proofs.lemmas.List.Quantifiers.{position-Some}
use Rattle.std.proofs.lemmas.List.Sorted.{All-permutation, IsPermutation-swap_remove}

-- If no port is missing, gathering has all of them.
pub gathered_whole : (it : EndView) (new : Tx) → IsGatheredTx it.tx it.ports new → LacksPlace (length it.tx.plan.ports) it.ports → ⊥
gathered_whole it new gathered lacks =
    let own = gathered.own lacks.0 lacks.1 in
    lacks.2 (record { port = own.port; inside = own.inside; at = own.at })

-- One of the networks was made to fail.
pub failing_kept : (net : Net) (it : EndView) → IsEndSystem it
    → IsEndSystem (record it { tx = record it.tx { lines = with_failing net it.tx.lines } })
failing_kept A it kept = record {
  mirrored = mirrored_failing it.tx.lines true it.tx.lines.b_failing kept.mirrored;
  own = kept.own;
  made_a = kept.made_a;
  made_b = kept.made_b;
}
failing_kept B it kept = record {
  mirrored = mirrored_failing it.tx.lines it.tx.lines.a_failing true kept.mirrored;
  own = kept.own;
  made_a = kept.made_a;
  made_b = kept.made_b;
}

-- One port more.
pub gives_kept : (it : EndView) (new : List PortView) (room : ℕ) (port : PortView) → IsEndSystem it
    → (it.gathered ≡ false → IsPortOfTx it.tx port) → new ≡ it.ports ++ port ∷ []
    → IsEndSystem (record it { ports = new; room = room })
gives_kept it new room port kept own is = record {
  mirrored = kept.mirrored;
  own = λ sending. subst (λ (ports : List PortView). All (IsPortOfTx it.tx) ports) (sym is)
      (All-push (IsPortOfTx it.tx) it.ports port (kept.own sending) (own sending));
  made_a = kept.made_a;
  made_b = kept.made_b;
}

-- A port that is taken out is one of the emitter's.
pub taken : (it : EndView) (left : List PortView) (id at : ℕ) (port : PortView) → IsEndSystem it
    → position (has_id id) it.ports ≡ Some at → port ≡ get_or it.ports at port → left ≡ swap_remove it.ports at port
    → TakesPort it id port (record it { ports = left })
taken it left id at port kept here is rest =
    let found = position-Some (has_id id) it.ports at port here in
    let moved : IsPermutation it.ports (port ∷ left) =
    subst (λ (ports : List PortView). IsPermutation it.ports (port ∷ ports)) (sym rest)
    (IsPermutation-swap_remove it.ports at port found.0 is) in
    record {
      named = eqb-true port.plan.id.0 id (subst (λ (p : PortView). has_id id p ≡ true) (sym is) found.1);
      ports = moved;
      same = refl;
      own = λ sending. All-head (IsPortOfTx it.tx) port left
          (All-permutation (IsPortOfTx it.tx) it.ports (port ∷ left) moved (kept.own sending));
    }
