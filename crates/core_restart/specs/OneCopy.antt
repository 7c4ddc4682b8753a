-- What is said of surveys where each copy of a row tells it alone.
use Rattle.std.specs.Prelude.{◌≡◌, ◌⊎◌, ℕ, List, length, Option, Result, Err, IfOk}
use Rattle.mss_base.specs.Counts.{Rises, next_count}
use Rattle.volume_table.specs.Row.{RowValue}
use Rattle.shown_volumes.specs.declared.refused.Refused.{Refused}
use Rattle.shown_volumes.specs.declared.refused.Refused.TheVariants.{Memory}
use Rattle.mss_base.specs.Content.{Content}
use Rattle.mss_restart.specs.Survey.{IsExact}

-- the count of faults rose at two calls at least, or stands at its last value
abbrev pub RisesTwice : ℕ → ℕ → Type 0
RisesTwice before now = Rises (next_count before) now

-- what a survey answers of a content: the rows of all volumes, or its first fault, or that memory
-- ran out
abbrev pub SurveyAnswer : Type 0
SurveyAnswer = Result (List (Option RowValue)) Refused

pub record IsAnswerOf (frames : ℕ) (asked : ℕ → Option (List ℕ)) (c : Content)
    (result : SurveyAnswer) : Type 0 where
  pub exact : IsExact frames asked c result
  pub whole : IfOk result (λ rows. length rows ≡ 32)

-- two surveys answered the same, or memory ran out in one of them
abbrev pub AreOneAnswer : SurveyAnswer → SurveyAnswer → Type 0
AreOneAnswer result other = (other ≡ result) ⊎ ((result ≡ Err Memory) ⊎ (other ≡ Err Memory))
