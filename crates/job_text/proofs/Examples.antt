-- A job of each line form, and a text for each kind of refusal, computed by the definition.
use Rattle.std.specs.Prelude.{◌≡◌, ℕ, true, false, List, [], ◌∷◌, ◌++◌, Result, Ok, Err, codes}
use Rattle.std.specs.List.{flat_map}
use Rattle.std.proofs.Common.{refl}
use Rattle.job_text.specs.declared.kind.JobKind.{JobKind}
use Rattle.job_text.specs.declared.kind.JobKind.TheVariants.{BadByte, After, Unknown, Shape, Range, Twice, Absent, Count, Ended}
use Rattle.channel_commands.specs.Data.{device, transfer}
use Rattle.channel_program.specs.Script.{mounting, demounting, program as running}
use Rattle.job_text.specs.Jobs.{JobData}
use Rattle.job_text.specs.Grammar.{job_of, BadLine}

-- lines as a text
text : List (List ℕ) → List ℕ
text lines = flat_map (λ line. line ++ 10 ∷ []) lines

abbrev start : List (List ℕ)
start = codes "mss 1 frames 24 recorders 2" ∷ codes "volume 7 LOAD07 readonly" ∷ codes "volume 3 LOAD03" ∷ []

bad : ℕ → JobKind → Result JobData BadLine
bad n k = Err (record { line = n; kind = k })

a_job : job_of (text (start ++ codes "# two hosts" ∷ codes "host 2" ∷ codes "mount LOAD07 bind" ∷ codes "program" ∷ codes "ccw 07 0000000A0004" ∷ codes "ccw 31 00fill" ∷ codes "end" ∷ [])) ≡ bad 9 Shape
unfolding text bad
a_job = refl

a_whole_job : job_of (text (start ++ codes "" ∷ codes "host 2" ∷ codes "mount LOAD07 bind" ∷ codes "program" ∷ codes "ccw 07 0000000A0004" ∷ codes "ccw 1d 0a fill FF 3" ∷ codes "tic 1" ∷ codes "end" ∷ codes "host 1" ∷ codes "demount" ∷ codes "done" ∷ codes "# end" ∷ []))
    ≡ Ok (record {
      config = record {
        frames = 24;
        recorders = 2;
        volumes = (3, codes "LOAD03", false) ∷ (7, codes "LOAD07", true) ∷ [];
      };
      hosts = record { host = 2; items = mounting 7 true ∷ running (device 0x07 (0 ∷ 0 ∷ 0 ∷ 10 ∷ 0 ∷ 4 ∷ []) ∷ device 0x1D (10 ∷ 255 ∷ 255 ∷ 255 ∷ []) ∷ transfer 1 ∷ []) ∷ [] }
          ∷ record { host = 1; items = demounting ∷ [] } ∷ [];
    })
unfolding text
a_whole_job = refl

bad_byte : job_of (text (start ++ codes "host\t1" ∷ [])) ≡ bad 4 BadByte
unfolding text bad
bad_byte = refl

after_done : job_of (text (start ++ codes "done" ∷ codes "host 1" ∷ [])) ≡ bad 5 After
unfolding text bad
after_done = refl

unknown : job_of (text (start ++ codes "mount LOAD03" ∷ [])) ≡ bad 4 Unknown
unfolding text bad
unknown = refl

two_spaces : job_of (text (start ++ codes "host  1" ∷ [])) ≡ bad 4 Shape
unfolding text bad
two_spaces = refl

another_word : job_of (text (start ++ codes "volume 9 LOAD09 writable" ∷ [])) ≡ bad 4 Shape
unfolding text bad
another_word = refl

a_fourth_word : job_of (text (start ++ codes "volume 9 LOAD09 readonly now" ∷ [])) ≡ bad 4 Shape
unfolding text bad
a_fourth_word = refl

range : job_of (text (start ++ codes "host 9" ∷ [])) ≡ bad 4 Range
unfolding text bad
range = refl

version : job_of (text (codes "mss 2 frames 24 recorders 2" ∷ [])) ≡ bad 1 Range
unfolding text bad
version = refl

twice : job_of (text (start ++ codes "volume 9 LOAD03" ∷ [])) ≡ bad 4 Twice
unfolding text bad
twice = refl

absent : job_of (text (start ++ codes "host 1" ∷ codes "mount LOAD04" ∷ [])) ≡ bad 5 Absent
unfolding text bad
absent = refl

no_words : job_of (text (start ++ codes "host 1" ∷ codes "program" ∷ codes "end" ∷ [])) ≡ bad 6 Count
unfolding text bad
no_words = refl

ended : job_of (text start) ≡ bad 4 Ended
unfolding text bad
ended = refl
