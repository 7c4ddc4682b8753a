-- The calls of a device in memory, some of which fail.
use Rattle.std.specs.Prelude.{ℕ, Bool, List, Contains}
use Rattle.mss_base.specs.Counts.{next_count, count_after}

-- how many were made and how many failed so far, and which are to fail, counted from 1
pub record CallsMade : Type 0 where
  pub made : ℕ
  pub faults : ℕ
  pub failing : List ℕ

-- none yet, of which these are to fail
abbrev pub no_calls : List ℕ → CallsMade
no_calls failing = record { made = 0; faults = 0; failing = failing }

-- the next call is one of those to fail
abbrev pub FailsNext : CallsMade → Type 0
FailsNext calls = Contains calls.failing (next_count calls.made)

-- one more fault
abbrev pub after_fault : CallsMade → CallsMade
after_fault calls = record calls { faults = next_count calls.faults }

-- one more call, which failed or not
abbrev pub after_call : Bool → CallsMade → CallsMade
after_call failed calls = record {
  made = next_count calls.made;
  faults = count_after failed calls.faults;
  failing = calls.failing;
}
