-- Hosts of a job, from their passes to their ends.
use Rattle.std.proofs.Common.{◌≡◌, inl, ◌<◌, ◌+◌, ℕ, zero, suc, false, List, [], ◌∷◌, ◌++◌, length, map, take, drop, get_or, nat_eq, eq-eqb, refl, sym, ◌∙◌, ap, subst, arith, append_assoc, All, Contains}
use Rattle.std.specs.List.{AllByRecursion, IsDistinct}
use Rattle.std.proofs.lemmas.Bool.{false≢true}
use Rattle.std.proofs.Math.Seq.{take-suc}
use Rattle.std.proofs.lemmas.List.{map-append, take-append-drop}
use Rattle.std.proofs.lemmas.List.Elements.{All-head, All-tail}
use Rattle.std.proofs.lemmas.Map.Keys.{IsDistinct-head, IsDistinct-tail}
use Rattle.channel_program.specs.Script.{ItemData, mounting, demounting, program, Exchange, Follows, at_start}
use Rattle.channel_program.specs.Items.{EndsScript}
use Rattle.ckd_plain.specs.History.{EntryData}
use Rattle.job_text.specs.Jobs.{ScriptData}
use Rattle.seen_book.specs.Books.{PassData, Begins}
use Rattle.seen_book.specs.Entries.{entries_of}
use Rattle.mss_run.specs.Owns.{places_of, exchange, exchanges_of, asked_of, asked_by}
use Rattle.mss_run.specs.Runs.{EndData, IsEndIn, AreEndsIn, AskByScript, IsRun, AreRuns, IsStart, AreStarts, hosts_of}
use Rattle.mss_run.proofs.OwnPlaces.{places_whole, exchanges_whole}

-- ---- starts, the last one apart

none_start : (ps : List PassData) (p : PassData) → AreStarts [] (ps ++ p ∷ []) → ⊥
none_start [] p starts = starts
none_start (q ∷ ps) p starts = starts

pub no_pass : (ss : List ScriptData) (s : ScriptData) → AreStarts (ss ++ s ∷ []) [] → ⊥
no_pass [] s starts = starts
no_pass (x ∷ ss) s starts = starts

pub starts_last : (ss : List ScriptData) (s : ScriptData) (ps : List PassData) (p : PassData) → AreStarts (ss ++ s ∷ []) (ps ++ p ∷ []) → AreStarts ss ps × IsStart s p
starts_last [] s [] p starts = (tt, starts.0)
starts_last [] s (q ∷ ps) p starts = absurd (none_start ps p starts.1)
starts_last (x ∷ ss) s [] p starts = absurd (no_pass ss s starts.1)
starts_last (x ∷ ss) s (q ∷ ps) p starts = let rest = starts_last ss s ps p starts.1 in ((starts.0, rest.0), rest.1)

pub no_starts : (ss : List ScriptData) (s : ScriptData) (ps : List PassData) → length ps ≡ 0 → AreStarts (ss ++ s ∷ []) ps → ⊥
no_starts ss s [] none starts = no_pass ss s starts
no_starts ss s (p ∷ ps) none starts = absurd (omega (arith, none))

pub starts_push : (ss : List ScriptData) (s : ScriptData) (ps : List PassData) (p : PassData) → AreStarts ss ps → IsStart s p → AreStarts (ss ++ s ∷ []) (ps ++ p ∷ [])
starts_push [] s [] p starts one = (one, tt)
starts_push [] s (q ∷ ps) p starts one = absurd starts
starts_push (x ∷ ss) s [] p starts one = absurd starts
starts_push (x ∷ ss) s (q ∷ ps) p starts one = (starts.0, starts_push ss s ps p starts.1 one)

pub starts_length : (ss : List ScriptData) (ps : List PassData) → AreStarts ss ps → length ps ≡ length ss
starts_length [] [] starts = refl
starts_length [] (p ∷ ps) starts = absurd starts
starts_length (s ∷ ss) [] starts = absurd starts
starts_length (s ∷ ss) (p ∷ ps) starts = ap suc (starts_length ss ps starts.1)

pub runs_push : (ss : List ScriptData) (s : ScriptData) (ps : List PassData) (p : PassData) (es : List EndData) (e : EndData)
    → AreRuns ss ps es → IsRun s p e → AreRuns (ss ++ s ∷ []) (ps ++ p ∷ []) (es ++ e ∷ [])
runs_push [] s [] p [] e runs one = (one, tt)
runs_push [] s [] p (y ∷ es) e runs one = absurd runs
runs_push [] s (q ∷ ps) p es e runs one = absurd runs
runs_push (x ∷ ss) s [] p es e runs one = absurd runs
runs_push (x ∷ ss) s (q ∷ ps) p [] e runs one = absurd runs
runs_push (x ∷ ss) s (q ∷ ps) p (y ∷ es) e runs one = (runs.0, runs_push ss s ps p es e runs.1 one)

-- ---- a host's end stands in the whole history

end_whole : (log : List EntryData) (s : ScriptData) (p : PassData) (e : EndData) → IsRun s p e → Begins log p → IsEndIn log s e
end_whole log s p e run begins =
    let places : places_of s.host log ≡ places_of s.host p.seen = subst (λ (h : ℕ). places_of h log ≡ places_of h p.seen) run.host_ (places_whole log p begins run.own) in
    let told : exchanges_of s.host log ≡ exchanges_of s.host p.seen = subst (λ (h : ℕ). exchanges_of h log ≡ exchanges_of h p.seen) run.host_ (exchanges_whole log p begins run.own) in
    record {
      host_ = run.ended.host_;
      own_ = run.ended.own_ ∙ sym places;
      follows = subst (λ (xs : List Exchange). EndsScript s.items xs e.finished) (sym told) run.ended.follows;
    }

pub ends_whole : (log : List EntryData) (ss : List ScriptData) (ps : List PassData) (es : List EndData) → AreRuns ss ps es → All (Begins log) ps → AreEndsIn log ss es
ends_whole log [] [] [] runs begins = tt
ends_whole log [] [] (e ∷ es) runs begins = absurd runs
ends_whole log [] (p ∷ ps) es runs begins = absurd runs
ends_whole log (s ∷ ss) [] es runs begins = absurd runs
ends_whole log (s ∷ ss) (p ∷ ps) [] runs begins = absurd runs
ends_whole log (s ∷ ss) (p ∷ ps) (e ∷ es) runs begins =
    (end_whole log s p e runs.0 (All-head (Begins log) p ps begins), ends_whole log ss ps es runs.1 (All-tail (Begins log) p ps begins))

-- what a host asked in the whole history follows its script
ask_whole : (log : List EntryData) (s : ScriptData) (p : PassData) (e : EndData) → IsRun s p e → Begins log p → Follows s.items (asked_of s.host log)
ask_whole log s p e run begins =
    let asked : asked_of s.host log ≡ asked_by p = ap (map exchange) (subst (λ (h : ℕ). entries_of h log ≡ p.mine) run.host_ begins.1) in
    subst (λ (xs : List Exchange). Follows s.items xs) (sym asked) run.asks

pub asks_whole : (log : List EntryData) (ss : List ScriptData) (ps : List PassData) (es : List EndData) → AreRuns ss ps es → All (Begins log) ps → AskByScript log ss
asks_whole log [] [] [] runs begins = tt
asks_whole log [] [] (e ∷ es) runs begins = absurd runs
asks_whole log [] (p ∷ ps) es runs begins = absurd runs
asks_whole log (s ∷ ss) [] es runs begins = absurd runs
asks_whole log (s ∷ ss) (p ∷ ps) [] runs begins = absurd runs
asks_whole log (s ∷ ss) (p ∷ ps) (e ∷ es) runs begins =
    (ask_whole log s p e runs.0 (All-head (Begins log) p ps begins), asks_whole log ss ps es runs.1 (All-tail (Begins log) p ps begins))

-- no call is the beginning of every script
follows_none : (items : List ItemData) → Follows items []
follows_none [] = refl
follows_none (mounting volume bind ∷ more) = inl refl
follows_none (demounting ∷ more) = inl refl
follows_none (program words ∷ more) = inl (at_start, refl, refl)

pub asks_nothing : (log : List EntryData) (ss : List ScriptData) → log ≡ [] → AskByScript log ss
asks_nothing log [] none = tt
asks_nothing log (s ∷ ss) none = (subst (λ (l : List EntryData). Follows s.items (asked_of s.host l)) (sym none) (follows_none s.items), asks_nothing log ss none)

-- ---- the hosts of a job differ

-- a host isn't among those before it
at_head : (h : ℕ) (more before : List ℕ) (d : ℕ) → AllByRecursion (λ (y : ℕ). nat_eq d y ≡ false) (before ++ h ∷ more) → nat_eq d h ≡ false
at_head h more [] d all = all.0
at_head h more (x ∷ before) d all = at_head h more before d all.1

pub not_before : (before : List ℕ) (h : ℕ) (more : List ℕ) → IsDistinct nat_eq (before ++ h ∷ more) → Contains before h → ⊥
not_before [] h more distinct has = absurd (omega (arith, has.1))
not_before (d ∷ before) h more distinct (zero, below, is) =
    false≢true (sym (at_head h more before d (IsDistinct-head nat_eq d (before ++ h ∷ more) distinct)) ∙ eq-eqb d h is)
not_before (d ∷ before) h more distinct (suc k, below, is) =
    not_before before h more (IsDistinct-tail nat_eq d (before ++ h ∷ more) distinct) (k, omega (arith, below), is)

-- ---- one script after the other

module _ (scripts : List ScriptData) (i : ℕ) (x : ScriptData) (below : i < length scripts) (is : x ≡ get_or scripts i x) where
  scripts_front : take (i + 1) scripts ≡ take i scripts ++ x ∷ []
  scripts_front =
      let next : i + 1 ≡ suc i = omega arith in
      ap (λ (n : ℕ). take n scripts) next ∙ take-suc scripts i x below ∙ ap (λ (y : ScriptData). take i scripts ++ y ∷ []) (sym is)

  scripts_whole : take i scripts ++ x ∷ drop (i + 1) scripts ≡ scripts
  scripts_whole =
      sym (append_assoc (take i scripts) (x ∷ []) (drop (i + 1) scripts)) ∙ ap (λ (l : List ScriptData). l ++ drop (i + 1) scripts) (sym scripts_front)
      ∙ take-append-drop (i + 1) scripts

  pub next_fresh : IsDistinct nat_eq (hosts_of scripts) → Contains (hosts_of (take i scripts)) x.host → ⊥
  next_fresh distinct =
      not_before (hosts_of (take i scripts)) x.host (hosts_of (drop (i + 1) scripts))
      (subst (IsDistinct nat_eq) (ap (map (λ (s : ScriptData). s.host)) (sym scripts_whole) ∙ map-append (λ (s : ScriptData). s.host) (take i scripts) (x ∷ drop (i + 1) scripts)) distinct)

  pub next_made : hosts_of (take i scripts) ++ x.host ∷ [] ≡ hosts_of (take (i + 1) scripts)
  next_made = sym (ap (map (λ (s : ScriptData). s.host)) scripts_front ∙ map-append (λ (s : ScriptData). s.host) (take i scripts) (x ∷ []))

  pub next_starts : (ps : List PassData) (p : PassData) → AreStarts (take i scripts) ps → IsStart x p → AreStarts (take (i + 1) scripts) (ps ++ p ∷ [])
  next_starts ps p starts one = subst (λ (l : List ScriptData). AreStarts l (ps ++ p ∷ [])) (sym scripts_front) (starts_push (take i scripts) x ps p starts one)
