-- The job of a load is a job.
use Rattle.std.proofs.Common.{ℕ, ◌+◌, ◌*◌, ◌-◌, ◌≤◌, ◌<◌, Bool, true, false, List, [], ◌∷◌, ◌++◌, length, refl, arith, length-append}
use Rattle.std.specs.Prelude.{◌==◌, ◌%◌, if◌then◌else◌, IsSome, sum_by}
use Rattle.std.specs.List.{AllByRecursion, IsDistinct, find}
use Rattle.std.specs.Int.{w32, to_be_bytes}
use Rattle.std.specs.List.Sorted.{IsStrictlySortedBy}
use Rattle.std.proofs.lemmas.List.Sums.{sum_by-append}
use Rattle.channel_commands.specs.Data.{device}
use Rattle.channel_program.specs.Script.{ItemData, program as running}
use Rattle.mss_base.specs.Configs.{IsConfig, VolumeData}
use Rattle.job_text.specs.Jobs.{IsItem, IsJob, IsProgram, IsScript, IsWord, item_size, script_size, word_size}
use Rattle.job_text.proofs.Serials.{to_serial}
use Rattle.draws.specs.Draws.{draws, generator_of}
use Rattle.draws.proofs.Drawing.{length-draws}
use Rattle.draws.specs.Load.{load_config, load_job, own_program, program_of, programs_from, script_of, scripts_of, track_bytes}

pub config_kept : IsConfig load_config
unfolding IsStrictlySortedBy IsDistinct
config_kept = record {
  some_frames = omega arith;
  few_frames = omega arith;
  some_recorders = omega arith;
  few_recorders = omega arith;
  volumes_ = ((omega arith, to_serial _ refl), ((omega arith, to_serial _ refl), ((omega arith, to_serial _ refl), ((omega arith, to_serial _ refl), tt))));
  rising = ((refl, (refl, (refl, tt))), ((refl, (refl, tt)), ((refl, tt), (tt, tt))));
  serials = ((refl, (refl, (refl, tt))), ((refl, (refl, tt)), ((refl, tt), (tt, tt))));
}

-- ---- one program

byte : (n : ℕ) → n % 256 < 256
byte n = omega arith

last_good : (place head choice : ℕ) (even : Bool)
    → IsWord (if even then device 0x1D (track_bytes place head ++ (1 ∷ 0 ∷ 0 ∷ 4 ∷ []) ++ to_be_bytes w32 choice) else device 0x16 [])
last_good place head choice true =
    (omega arith, (byte _, (byte _, (byte _, (byte _, (omega arith, (omega arith, (omega arith, (omega arith, (byte _, (byte _, (byte _, (byte _, tt)))))))))))), omega arith)
last_good place head choice false = (omega arith, tt, omega arith)

last_size : (place head choice : ℕ) (even : Bool)
    → word_size (if even then device 0x1D (track_bytes place head ++ (1 ∷ 0 ∷ 0 ∷ 4 ∷ []) ++ to_be_bytes w32 choice) else device 0x16 []) ≤ 12
last_size place head choice true = omega arith
last_size place head choice false = omega arith

program_good : (place head choice : ℕ) → IsProgram (program_of place head choice)
program_good place head choice = record {
  some = omega arith;
  few = omega arith;
  each = ((omega arith, (omega arith, (omega arith, (byte _, (byte _, (byte _, (byte _, tt)))))), omega arith), ((omega arith, (byte _, (byte _, (byte _, (byte _, (omega arith, tt))))), omega arith), (omega arith, (last_good place head choice (choice % 2 == 0), tt))));
}

program_size : (place head choice : ℕ) → item_size (running (program_of place head choice)) ≤ 23
program_size place head choice = let last = last_size place head choice (choice % 2 == 0) in omega (arith, last)

-- ---- the programs of a host

own : Bool → ℕ → ℕ → ℕ → List ItemData
own mine place head choice = if mine then running (program_of place head choice) ∷ [] else []

own_good : (volumes : List VolumeData) (mine : Bool) (place head choice : ℕ) → AllByRecursion (IsItem volumes) (own mine place head choice)
unfolding own
own_good volumes true place head choice = (program_good place head choice, tt)
own_good volumes false place head choice = tt

own_few : (mine : Bool) (place head choice : ℕ) → length (own mine place head choice) ≤ 1
unfolding own
own_few true place head choice = omega arith
own_few false place head choice = omega arith

own_size : (mine : Bool) (place head choice : ℕ) → sum_by item_size (own mine place head choice) ≤ 23
unfolding own
own_size true place head choice = let one = program_size place head choice in omega (arith, one)
own_size false place head choice = omega arith

all_append : (P : ItemData → Type 0) (xs ys : List ItemData) → AllByRecursion P xs → AllByRecursion P ys → AllByRecursion P (xs ++ ys)
all_append P [] ys first rest = rest
all_append P (x ∷ xs) ys first rest = (first.0, all_append P xs ys first.1 rest)

programs_good : (volumes : List VolumeData) (host number : ℕ) (words : List ℕ) → AllByRecursion (IsItem volumes) (programs_from host number words)
unfolding own
programs_good volumes host number [] = tt
programs_good volumes host number (a ∷ []) = tt
programs_good volumes host number (a ∷ b ∷ []) = tt
programs_good volumes host number (a ∷ b ∷ c ∷ words) =
    all_append (IsItem volumes) (own_program host number a b c) (programs_from host (number + 1) words) (own_good volumes (1 + number % 4 == host) a b c) (programs_good volumes host (number + 1) words)

programs_few : (host number : ℕ) (words : List ℕ) → 3 * length (programs_from host number words) ≤ length words
unfolding own
programs_few host number [] = omega arith
programs_few host number (a ∷ []) = omega arith
programs_few host number (a ∷ b ∷ []) = omega arith
programs_few host number (a ∷ b ∷ c ∷ words) =
    let one = own_few (1 + number % 4 == host) a b c in
    let rest = programs_few host (number + 1) words in
    let both = length-append (own_program host number a b c) (programs_from host (number + 1) words) in
    omega (arith, one, rest, both)

programs_size : (host number : ℕ) (words : List ℕ) → 3 * sum_by item_size (programs_from host number words) ≤ 23 * length words
unfolding own
programs_size host number [] = omega arith
programs_size host number (a ∷ []) = omega arith
programs_size host number (a ∷ b ∷ []) = omega arith
programs_size host number (a ∷ b ∷ c ∷ words) =
    let one = own_size (1 + number % 4 == host) a b c in
    let rest = programs_size host (number + 1) words in
    let both = sum_by-append item_size (own_program host number a b c) (programs_from host (number + 1) words) in
    omega (arith, one, rest, both)

-- ---- the job

script_good : (host : ℕ) (words : List ℕ) → 1 ≤ host → host ≤ 8 → length words ≤ 3000 → IsSome (find (λ v. v.0 == (host - 1)) load_config.volumes) → IsScript load_config.volumes (script_of host words)
script_good host words low high long found = record {
  low = low;
  high = high;
  few = (let few = programs_few host 0 words in omega (arith, few, long));
  each = (found, programs_good load_config.volumes host 0 words);
}

script_small : (host : ℕ) (words : List ℕ) → length words ≤ 3000 → script_size (script_of host words) ≤ 23000
script_small host words long = let size = programs_size host 0 words in omega (arith, size, long)

words_kept : (words : List ℕ) → length words ≤ 3000 → IsJob (record { config = load_config; hosts = scripts_of words })
unfolding IsDistinct
words_kept words long = record {
  config_ = config_kept;
  scripts = (script_good 1 words (omega arith) (omega arith) long refl, (script_good 2 words (omega arith) (omega arith) long refl, (script_good 3 words (omega arith) (omega arith) long refl, (script_good 4 words (omega arith) (omega arith) long refl, tt))));
  hosts_differ = ((refl, (refl, (refl, tt))), ((refl, (refl, tt)), ((refl, tt), (tt, tt))));
  small = (let a = script_small 1 words long in
      let b = script_small 2 words long in
      let c = script_small 3 words long in
      let d = script_small 4 words long in omega (arith, a, b, c, d));
}

pub job_kept : (order programs : ℕ) → programs ≤ 1000 → IsJob (load_job order programs)
job_kept order programs few = words_kept (draws order (3 * programs)) (let long = length-draws (3 * programs) (generator_of order) in omega (arith, long, few))
