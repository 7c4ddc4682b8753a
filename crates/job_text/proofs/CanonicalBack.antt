-- A job's canonical text is read as the job, with its last line feed or without.
use Rattle.std.proofs.Common.{◌≡◌, ℕ, ◌+◌, ◌≤◌, Bool, true, false, List, [], ◌∷◌, ◌++◌, map, length, Ok, refl, sym, ap, ◌∙◌, arith, inl, inr}
use Rattle.std.specs.Prelude.{◌==◌, nat_lt, codes, count_by}
use Rattle.std.specs.List.{flat_map, slice_split, onto_first}
use Rattle.std.proofs.lemmas.Bool.{le-ltb, cases_Bool}
use Rattle.std.proofs.lemmas.List.Splits.{length-slice_split}
use Rattle.std.proofs.lemmas.List.{append_cancel_right, map-append}
use Rattle.job_text.specs.Words.{lines_of, lines_of_parts}
use Rattle.job_text.specs.Jobs.{JobData, IsJob}
use Rattle.job_text.specs.Lines.{LineData, mss, volume, done}
use Rattle.job_text.specs.Grammar.{TEXT_LIMIT, nothing, lines_after, job_of, job_of_reading}
use Rattle.job_text.specs.Canonical.{line_bytes, script_lines, job_lines, job_text}
use Rattle.job_text.proofs.Parts.{last_full}
use Rattle.job_text.proofs.LinesBack.{lines_back, split_lines, are_lines, run_back}
use Rattle.job_text.proofs.JobBack.{job_leads, job_known, known}

pub job_back : (j : JobData) → IsJob j → length (job_text j) ≤ TEXT_LIMIT → job_of (job_text j) ≡ Ok j
job_back j is small = lines_back (job_lines j) (known j) (job_leads j is) refl small ∙ ap (λ (k : JobData). Ok k) (job_known j is)

push_first : (x : ℕ) (parts : List (List ℕ)) (n : ℕ) → length parts ≡ n + 1 → onto_first x (parts ++ [] ∷ []) ≡ onto_first x parts ++ [] ∷ []
push_first x [] n h = absurd (omega arith)
push_first x (part ∷ parts) n h = refl

-- a line feed at the end opens an empty part
split_push : (p : ℕ → Bool) (b : ℕ) (text : List ℕ) → p b ≡ true → slice_split p (text ++ b ∷ []) ≡ slice_split p text ++ [] ∷ []
split_push p b [] h = rw h refl
split_push p b (x ∷ text) h = elim (cases_Bool (p x)) [
  | inl cut ↦ rw cut (ap (λ (parts : List (List ℕ)). [] ∷ parts) (split_push p b text h))
  | inr inside ↦ rw inside (ap (onto_first x) (split_push p b text h) ∙ push_first x (slice_split p text) (count_by p text) (length-slice_split p text))
]

-- lines of which the last is `done` are the lines of their parts
done_last : (lines : List LineData) → lines_of_parts (map line_bytes (lines ++ done ∷ [])) ≡ map line_bytes (lines ++ done ∷ [])
done_last lines =
    let last = line_bytes done in
    let apart : map line_bytes (lines ++ done ∷ []) ≡ map line_bytes lines ++ last ∷ [] = map-append line_bytes lines (done ∷ []) in
    rw apart (last_full (map line_bytes lines) 100 (codes "one"))

pub job_back_unfed : (j : JobData) (text : List ℕ) → IsJob j → job_text j ≡ text ++ 10 ∷ [] → length text ≤ TEXT_LIMIT → job_of text ≡ Ok j
job_back_unfed j text is same small =
    let lines = job_lines j in
    let leads = job_leads j is in
    let few : nat_lt TEXT_LIMIT (length text) ≡ false = le-ltb TEXT_LIMIT (length text) small in
    let parts : slice_split (λ b. b == 10) text ++ [] ∷ [] ≡ map line_bytes lines ++ [] ∷ [] =
    sym (split_push (λ b. b == 10) 10 text refl) ∙ ap (slice_split (λ b. b == 10)) (sym same) ∙ split_lines lines (are_lines nothing lines (known j) leads) in
    let c = j.config in
    let whole : slice_split (λ b. b == 10) text ≡ map line_bytes lines = append_cancel_right (slice_split (λ b. b == 10) text) (map line_bytes lines) ([] ∷ []) parts in
    let split : lines_of text ≡ map line_bytes lines = ap lines_of_parts whole
    ∙ done_last
    (mss c.frames c.recorders ∷ map (λ v. volume v.0 v.1 v.2) c.volumes ++ flat_map (script_lines c.volumes) j.hosts) in
    rw few (ap (λ ls. job_of_reading (lines_after nothing 1 ls)) split ∙ ap job_of_reading (run_back nothing 1 lines (known j) leads refl) ∙ ap (λ (k : JobData). Ok k) (job_known j is))
