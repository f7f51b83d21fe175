-- The explanation of a text.
use Rattle.std.specs.Prelude.{if◌then◌else◌, ◌&&◌, ◌++◌, ◌+◌, ◌-◌, ◌==◌, ◌∷◌, ◌≡◌, ◌≤◌, ◌⊎◌}
use Rattle.afdx_config.specs.Names.{Bool, List, Members, None, Toml, [], codes, count_by, decimal, length, nat_le, nat_lt, not, take, ℕ}
use Rattle.afdx_config.specs.declared.findings.Place.TheVariants.{Text}
use Rattle.afdx_config.specs.Faults.{Reads}
use Rattle.afdx_config.specs.Findings.{PlanFinding, Tells, found, findings, lines_limit}

-- the line after these bytes, counted from 1
abbrev pub line_of : List ℕ → ℕ
line_of before = 1 + count_by (λ byte. byte == 10) before

-- a byte begins a UTF-8 character
abbrev pub begins_character : ℕ → Bool
begins_character byte = not (nat_le 128 byte && nat_lt byte 192)

-- the column after these bytes, counted from 1, if k characters of the line precede them
abbrev pub column_after : ℕ → List ℕ → ℕ
column_after k [] = 1 + k
column_after k (byte ∷ rest) =
    column_after (if byte == 10 then 0 else if begins_character byte then k + 1 else k) rest

-- the finding of a text that stops being TOML after these bytes, with the message of the TOML parser
unfoldable pub stop_finding : List ℕ → List ℕ → PlanFinding
stop_finding before message = found Toml (Text (line_of before) (column_after 0 before)) message None

-- the one finding of a text that stops being TOML at some place
pub record TellsToml (input : List ℕ) (first : List PlanFinding) (count : ℕ) : Type 0 where
  pub at : ℕ
  pub within : at ≤ length input
  pub message : List ℕ
  pub tells : Tells (stop_finding (take at input) message ∷ []) first count

-- the number of findings
unfoldable pub count_line : ℕ → List ℕ
count_line count =
    if count == 0 then codes "no faults" ++ 10 ∷ []
    else if count == 1 then codes "1 fault" ++ 10 ∷ []
    else decimal count ++ codes " faults" ++ 10 ∷ []

-- the number of findings that have no line
unfoldable pub rest_line : ℕ → List ℕ
rest_line count = if count == 0 then [] else codes "and " ++ decimal count ++ codes " more" ++ 10 ∷ []

-- a text of the number of findings, the lines of the first 1,000, and the number of the others
pub record HasLines (count : ℕ) (text : List ℕ) : Type 0 where
  pub lines : List ℕ
  pub text_is : text ≡ count_line count ++ lines ++ rest_line (count - lines_limit)

-- the first findings of a text, the number of all, and their text: the findings of its document, or that it is not TOML
abbrev pub Explains : List ℕ → List PlanFinding → ℕ → List ℕ → Type 0
Explains input first count text = HasLines count text
    × (((document : Members) × Reads input document × Tells (findings document) first count)
    ⊎ (((document : Members) → ¬ Reads input document) × TellsToml input first count))
