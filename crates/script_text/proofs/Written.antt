-- Pieces that are written one after the other.
use Rattle.script_text.proofs.Names.{◌≡◌, ℕ, List, [], ◌∷◌, ◌++◌, Option, ap, sym, ◌∙◌, append_assoc, subst, Appends, flat_map, Appends-trans, flat_map_more}
use Rattle.std.proofs.Common.{append-nil}

-- The front and the first pieces were appended, and the others are left.
pub record HasWritten {T : Type 0} (piece : T → List ℕ) (front : List ℕ) (all left : List T) (old new : Option (List ℕ))
    : Type 0 where
  pub done : List T
  pub is : all ≡ done ++ left
  pub wrote : Appends old new (front ++ flat_map piece done)

module _ {T : Type 0} (piece : T → List ℕ) (front : List ℕ) where
  -- The front was.
  pub written_none : (all given : List T) (old new : Option (List ℕ)) → all ≡ given → Appends old new front
      → HasWritten piece front all given old new
  written_none all given old new is wrote =
      record { done = []; is = is; wrote = subst (Appends old new) (sym (append-nil front)) wrote }

  -- The next piece was.
  pub written_turn : (all left rest : List T) (one : T) (old mid new : Option (List ℕ)) → left ≡ one ∷ rest
      → HasWritten piece front all left old mid → Appends mid new (piece one) → HasWritten piece front all rest old new
  written_turn all left rest one old mid new is h wrote = record {
    done = h.done ++ one ∷ [];
    is = h.is ∙ ap (λ (l : List T). h.done ++ l) is ∙ sym (append_assoc h.done (one ∷ []) rest);
    wrote = subst (Appends old new) (flat_map_more piece front h.done one)
        (Appends-trans old mid new (front ++ flat_map piece h.done) (piece one) h.wrote wrote);
  }

  -- All pieces were.
  pub written_all : (all left : List T) (old new : Option (List ℕ)) → left ≡ [] → HasWritten piece front all left old new
      → Appends old new (front ++ flat_map piece all)
  written_all all left old new none h = rw (h.is, none, append-nil) h.wrote
