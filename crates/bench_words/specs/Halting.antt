-- A writer that stops calling its inner writer after a failure.
use Rattle.std.specs.Prelude.{ℕ, ◌==◌, ◌&&◌, nat_lt, Bool, true, false, Result, Ok, Err}
use Rattle.std.specs.declared.io.Error.{Error}
use Rattle.std.specs.declared.io.ErrorKind.{ErrorKind}
use Rattle.std.specs.declared.io.ErrorKind.TheVariants.{Interrupted}
use Rattle.std.specs.IoError.{error_kind}

-- the inner writer, and whether it has failed
pub record HaltingView (W : Type 0) : Type 0 where
  pub writer : W
  pub failed : Bool

-- every error except an interruption is a failure
abbrev pub is_failure : ErrorKind → Bool
is_failure Interrupted = false
is_failure kind = true

-- a flush failed
abbrev pub flush_fails : {A : Type 0} → Result A Error → Bool
flush_fails (Ok done) = false
flush_fails (Err error) = is_failure (error_kind error)

-- a write of `size` bytes failed: with such an error, or by accepting none of them
abbrev pub write_fails : ℕ → Result ℕ Error → Bool
write_fails size (Ok taken) = (taken == 0) && nat_lt 0 size
write_fails size (Err error) = is_failure (error_kind error)
