-- What is read of an input has the job of the whole text.
use Rattle.std.proofs.Common.{◌≡◌, inl, inr, ℕ, ◌<◌, ◌≤◌, nat_lt, true, false, List, length, take, Result, Ok, Err, sym, ◌∙◌, ap, arith}
use Rattle.std.proofs.lemmas.Bool.{cases_Bool, cond-true}
use Rattle.std.proofs.lemmas.Bool.Decides.{nat_tests}
use Rattle.std.proofs.lemmas.List.{take_all, length-take-le}
use Rattle.job_text.specs.Jobs.{JobData}
use Rattle.job_text.specs.Grammar.{TEXT_LIMIT, job_of}
use Rattle.job_text.specs.declared.kind.JobKind.TheVariants.{TooBig}
use Rattle.report_text.specs.declared.one_line.OneLine.{OneLine}
use Rattle.report_text.specs.declared.one_line.OneLine.TheVariants as line
use Rattle.session_report.specs.Parties.{Stream}
use Rattle.mss_top.specs.Admission.{READ_LIMIT, IsRead, IsTaken, TakesText}

-- a text that is too long has no job
too_big : (text : List ℕ) → nat_lt TEXT_LIMIT (length text) ≡ true → job_of text ≡ Err (record { line = 0; kind = TooBig })
too_big text big = cond-true _ _ _ big

longer : (n : ℕ) → 4194305 < n → nat_lt 4194304 n ≡ true
longer n long = grind (arith, nat_tests)

shorter : (n : ℕ) → nat_lt 4194305 n ≡ false → n ≤ 4194305
shorter n short = grind (arith, nat_tests)

is_longer : (n : ℕ) → nat_lt 4194305 n ≡ true → 4194305 < n
is_longer n long = grind (arith, nat_tests)

-- what is read has the job of the whole text
job_of_front : (text : List ℕ) → job_of (take READ_LIMIT text) ≡ job_of text
job_of_front text = elim (cases_Bool (nat_lt READ_LIMIT (length text))) [
  | inl long ↦
      let beyond : 4194305 < length text = is_longer (length text) long in
      let front : length (take READ_LIMIT text) ≡ 4194305 = length-take-le READ_LIMIT text (omega (arith, beyond)) in
      too_big (take READ_LIMIT text) (ap (λ (n : ℕ). nat_lt TEXT_LIMIT n) front) ∙ sym (too_big text (longer (length text) beyond))
  | inr short ↦ ap job_of (take_all READ_LIMIT text (shorter (length text) short))
]

-- what is said of a text's job is said of every text with that job
taken_alike : (front text : List ℕ) (r : Result JobData OneLine) → job_of front ≡ job_of text → IsTaken front r → IsTaken text r
taken_alike front text (Ok job) same is = sym same ∙ is
taken_alike front text (Err (line.JobRefused n kind)) same is = sym same ∙ is
taken_alike front text (Err line.WantOfMemory) same is = tt
taken_alike front text (Err line.WordsRefused) same is = absurd is
taken_alike front text (Err line.InputFault) same is = absurd is
taken_alike front text (Err (line.RestartRefused why)) same is = absurd is

-- the input's text is taken as what was read of it is
pub takes : (input : Stream) (front : List ℕ) (r : Result JobData OneLine) → (input.tells → front ≡ take READ_LIMIT input.was) → IsRead input → IsTaken front r → TakesText input r
takes input front r fronts read is = by_result r (λ t. taken_alike front input.was r (ap job_of (fronts t) ∙ job_of_front input.was) is) is
  where
    by_result : (r : Result JobData OneLine) → (input.tells → IsTaken input.was r) → IsTaken front r → TakesText input r
    by_result (Ok job) whole is = record { text_ = whole; read = read }
    by_result (Err (line.JobRefused n kind)) whole is = record { text_ = whole; read = read }
    by_result (Err line.WantOfMemory) whole is = tt
    by_result (Err line.WordsRefused) whole is = absurd is
    by_result (Err line.InputFault) whole is = absurd is
    by_result (Err (line.RestartRefused why)) whole is = absurd is
