-- The ranges of a command line, the messages about its words, and the exit statuses of the program.
use Rattle.std.specs.Prelude.{ℕ, nat_eq, if◌then◌else◌, ◌≤◌, ⊤, ◌≡◌, ◌≢◌, ◌⊎◌, List, Option, IfSome, slice_index}
use Rattle.bench_words.specs.declared.status.Failure.{Failure}
use Rattle.bench_words.specs.declared.status.Failure.TheVariants.{Config, Run, Short, Turns}
use Rattle.bench_words.specs.declared.status.End.{End}
use Rattle.bench_words.specs.declared.status.End.TheVariants.{Told, Ran, FaultsTold, Missed, FileWrong, WordsRefused, Failed}
use Rattle.script_text.specs.declared.faults.RunFault.TheVariants.{Line, Lines, Write, Memory}
use Rattle.bench_words.specs.declared.words.Words.{Words}
use Rattle.bench_words.specs.declared.words.Words.TheVariants.{Report, Schedule, Judge, Storm}
use Rattle.clap.specs.declared.error.kind.ErrorKind.{ErrorKind}
use Rattle.clap.specs.declared.error.kind.ErrorKind.TheVariants.{DisplayHelp, DisplayVersion, OutOfMemory}
use Rattle.afdx_plan.specs.declared.fault.ConfigFault.TheVariants as Plan

-- 2 if the plan or the script has a fault, or the plan a port that a storm cannot use; 4 if an
-- allocation, a read or a write failed; 5 if a storm exhausted its turns
abbrev pub failure_status : Failure → ℕ
failure_status (Config Plan.Memory) = 4
failure_status (Config _) = 2
failure_status (Run (Line line fault)) = 2
failure_status (Run Lines) = 2
failure_status (Run _) = 4
failure_status Short = 2
failure_status Turns = 5

-- 0 on success; 1 if faults of a plan or findings were written, or a strict report has a missed limit or deadline;
-- 2 if the command line or a file was refused; 3 if lines of the script were refused
abbrev pub exit_status : End → ℕ
exit_status Told = 0
exit_status (Ran summary) = if nat_eq summary.refused 0 then 0 else 3
exit_status FaultsTold = 1
exit_status Missed = 1
exit_status FileWrong = 2
exit_status WordsRefused = 2
exit_status (Failed failure) = failure_status failure

-- the interface bytes of both networks, if they are given, are different
abbrev pub AreApart : Option (List ℕ) → Type 0
AreApart given = IfSome given (λ bytes. slice_index bytes 0 ≢ slice_index bytes 1)

-- the numbers of a storm, of a report, of a schedule and of a judgment lie in their ranges
abbrev pub IsInRange : Words → Type 0
IsInRange (Storm config messages turns) =
    ((1 ≤ messages) × (messages ≤ 65535)) × ((1 ≤ turns) × (turns ≤ 1000000000))
IsInRange (Report asked) = asked.lateness ≤ 1000000
IsInRange (Schedule config traffic seconds seed) = (1 ≤ seconds) × (seconds ≤ 999)
IsInRange (Judge case) = (case.jitter ≤ 1000000) × (case.skew ≤ 1000000) × AreApart case.interfaces
IsInRange _ = ⊤

-- the end of the program if the words name no command: a message was written or standard output failed for help and the
-- version; no memory; or wrong words
abbrev pub EndsWords : ErrorKind → End → Type 0
EndsWords DisplayHelp end = (end ≡ Told) ⊎ (end ≡ Failed (Run Write))
EndsWords DisplayVersion end = (end ≡ Told) ⊎ (end ≡ Failed (Run Write))
EndsWords OutOfMemory end = end ≡ Failed (Run Memory)
EndsWords _ end = end ≡ WordsRefused
