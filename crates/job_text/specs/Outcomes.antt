-- What calls of the reader answer, against what the grammar says.
use Rattle.std.specs.Prelude.{◌≡◌, Bool, true, false, Result, Ok, Err}
use Rattle.job_text.specs.declared.kind.JobKind.{JobKind}
use Rattle.job_text.specs.declared.line.LineFault.{LineFault}
use Rattle.job_text.specs.declared.line.LineFault.TheVariants as fault
use Rattle.job_text.specs.declared.read.JobFault.{JobFault}
use Rattle.job_text.specs.declared.read.JobFault.TheVariants as job_fault
use Rattle.job_text.specs.Grammar.{BadLine}

-- the fault is the refusal that was read, unless memory ran out
abbrev pub Fails : {Y : Type 0} → LineFault → Result Y JobKind → Type 0
Fails fault.Memory read = Unit {0}
Fails (fault.Bad kind) read = read ≡ Err kind

-- what was returned, seen by a view, is what was read, unless memory ran out
abbrev pub Gives : {X Y : Type 0} → (X → Y) → Result X LineFault → Result Y JobKind → Type 0
Gives view (Ok x) read = read ≡ Ok (view x)
Gives view (Err e) read = Fails e read

-- what was returned is a refusal of this kind exactly where the test fails, and otherwise P holds of it
abbrev pub Tests : {X : Type 0} → Result X LineFault → Bool → JobKind → (X → Type 0) → Type 0
Tests (Ok x) b kind P = (b ≡ true) × P x
Tests (Err e) b kind P = (b ≡ false) × (e ≡ fault.Bad kind)

-- a step that changes a value in place leaves it as was read, unless memory ran out
abbrev pub Steps : {Y : Type 0} → Result (Unit {0}) LineFault → Y → Result Y JobKind → Type 0
Steps (Ok _) new step = step ≡ Ok new
Steps (Err e) new step = Fails e step

-- what was returned, seen by a view, is what a reading of lines gives, unless memory ran out
abbrev pub Reads : {X Y : Type 0} → (X → Y) → Result X JobFault → Result Y BadLine → Type 0
Reads view (Ok x) read = read ≡ Ok (view x)
Reads view (Err (job_fault.Bad line kind)) read = read ≡ Err (record { line = line; kind = kind })
Reads view (Err job_fault.Memory) read = Unit {0}
