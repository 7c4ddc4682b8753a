-- Words behind a keyword, and the parts of a job's text.
use Rattle.std.proofs.Common.{◌≡◌, ℕ, ◌≤◌, List, [], ◌∷◌, ◌++◌, map, take, length, Bor, sym, ap, ◌∙◌, append_assoc, append-nil}
use Rattle.std.specs.List.{flat_map, join_with_byte}
use Rattle.std.proofs.lemmas.Grind.{flat_map-append}
use Rattle.std.proofs.lemmas.List.{take_all}
use Rattle.mss_base.specs.Configs.{VolumeData, ConfigData}
use Rattle.job_text.specs.Jobs.{JobData, ScriptData}
use Rattle.job_text.specs.Lines.{mss, volume, done}
use Rattle.job_text.specs.Canonical.{line_text, script_lines, config_lines, config_text, job_text}

-- words joined by a byte: the first, and each other behind the byte
join-first : (b : ℕ) (word : List ℕ) (words : List (List ℕ)) → join_with_byte b (word ∷ words) ≡ word ++ flat_map (λ w. b ∷ w) words
join-first b word [] = sym (append-nil word)
join-first b word (next ∷ words) = ap (λ (rest : List ℕ). word ++ b ∷ rest) (join-first b next words)

pub line_ends : (old key out : List ℕ) (words : List (Bor (List ℕ))) (i : ℕ) → length words ≤ i
    → out ≡ old ++ (key ++ flat_map (λ w. 32 ∷ w) (map (λ w. w.now) (take i words)))
    → out ++ 10 ∷ [] ≡ old ++ (join_with_byte 32 (key ∷ map (λ w. w.now) words) ++ 10 ∷ [])
line_ends old key out words i all is = rw (is, take_all i words all, join-first) (append_assoc old _ _)

-- three parts, one behind the other
three_parts : (old a b c x y : List ℕ) → x ≡ old ++ a → y ≡ x ++ b → y ++ c ≡ old ++ (a ++ (b ++ c))
three_parts old a b c x y e f = rw (f, e) (simp append_assoc)

job_parts : (j : JobData) → job_text j ≡ config_text j.config ++ (flat_map line_text (flat_map (script_lines j.config.volumes) j.hosts) ++ line_text done)
job_parts j =
    let hs = flat_map (script_lines j.config.volumes) j.hosts in
    flat_map-append line_text (config_lines j.config ++ hs) (done ∷ []) ∙ ap (λ (rest : List ℕ). rest ++ line_text done) (flat_map-append line_text (config_lines j.config) hs)
    ∙ append_assoc (config_text j.config) (flat_map line_text hs) (line_text done)

-- the parts of a job, put one behind the other
pub job_put : (j : JobData) (old x y : List ℕ) (hosts : List ScriptData) → hosts ≡ j.hosts → x ≡ old ++ config_text j.config
    → y ≡ x ++ flat_map line_text (flat_map (script_lines j.config.volumes) hosts) → y ++ line_text done ≡ old ++ job_text j
job_put j old x y hosts same head tail =
    three_parts old (config_text j.config) (flat_map line_text (flat_map (script_lines j.config.volumes) j.hosts)) (line_text done) x y head (rw same at tail)
    ∙ ap (λ (text : List ℕ). old ++ text) (sym (job_parts j))

-- the parts of a configuration, put one behind the other
pub config_put : (config : ConfigData) (old x : List ℕ) (volumes : List VolumeData) → volumes ≡ config.volumes → x ≡ old ++ line_text (mss config.frames config.recorders)
    → x ++ flat_map line_text (map (λ v. volume v.0 v.1 v.2) volumes) ≡ old ++ config_text config
config_put config old x volumes same head =
    let tail : List ℕ = flat_map line_text (map (λ (v : VolumeData). volume v.0 v.1 v.2) config.volumes) in
    ap (λ (vs : List VolumeData). x ++ flat_map line_text (map (λ v. volume v.0 v.1 v.2) vs)) same
    ∙ ap (λ (text : List ℕ). text ++ tail) head
    ∙ append_assoc old (line_text (mss config.frames config.recorders)) tail
