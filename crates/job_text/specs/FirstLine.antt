-- The first line of a text: what it says, and what is known behind it.
use Rattle.std.specs.Prelude.{◌≡◌, ℕ, ◌+◌, ◌<◌, List, ◌∷◌, length, Result, Ok, Err}
use Rattle.std.specs.Borrow.{Bor}
use Rattle.job_text.specs.declared.kind.Place.TheVariants as place
use Rattle.job_text.specs.declared.line.LineFault.{LineFault}
use Rattle.job_text.specs.declared.line.LineFault.TheVariants as fault
use Rattle.job_text.specs.Words.{lines_of}
use Rattle.job_text.specs.Lines.{LineData}
use Rattle.job_text.specs.Grammar.{SoFar, after_line, line_after, lines_after}

-- in a program the first line of a text says this, and the other text stands behind it
pub record BeginsWith (says : LineData) (text behind : List ℕ) : Type 0 where
  pub line : List ℕ
  pub lines : lines_of text ≡ line ∷ lines_of behind
  pub means : (s : SoFar) → s.place ≡ place.Program → line_after s line ≡ after_line s says
  pub shorter : length behind < length text

-- the lines of a text, read from what is known first, are those of the other text from what is known then
pub record GoesOn (s : SoFar) (text : List ℕ) (t : SoFar) (behind : List ℕ) : Type 0 where
  pub lines : (n : ℕ) → lines_after s n (lines_of text) ≡ lines_after t (n + 1) (lines_of behind)
  pub shorter : length behind < length text

-- what taking the first line of a text answers: what stands behind it, or why it is bad, unless memory ran out
abbrev pub Takes : Result (Bor (List ℕ)) LineFault → SoFar → List ℕ → SoFar → Type 0
Takes (Ok behind) s text t = GoesOn s text t behind.now
Takes (Err (fault.Bad kind)) s text t =
    (n : ℕ) → lines_after s n (lines_of text) ≡ Err (record { line = n; kind = kind })
Takes (Err fault.Memory) s text t = Unit {0}
