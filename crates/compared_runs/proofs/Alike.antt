-- Sessions of one host that binds no volume are alike.
use Rattle.std.proofs.Common.{◌≡◌, ◌≢◌, ◌≤◌, inl, inr, ℕ, List, [], ◌∷◌, length, refl, sym, ap, subst, ◌∙◌, arith}
use Rattle.std.specs.Prelude.{◌==◌}
use Rattle.std.proofs.lemmas.Bool.{cond-true, cond-false}
use Rattle.std.proofs.lemmas.Bool.Decides.{eqb_tells, leb_tells}
use Rattle.std.proofs.lemmas.List.{length-map}
use Rattle.mss_base.specs.Content.{Content, content}
use Rattle.mss_base.specs.Counts.{IsFaultWithin}
use Rattle.mss_base.specs.Zeros.{zeros}
use Rattle.channel_commands.specs.Data.{CallData}
use Rattle.channel_program.specs.Script.{Exchange, Follows, FollowsToEnd, ItemData}
use Rattle.ckd_plain.specs.Data.{State}
use Rattle.ckd_plain.specs.Plain.{Replied, plain}
use Rattle.core_state.specs.Agrees.{rows_at}
use Rattle.core_state.specs.SessionData.{SessionData}
use Rattle.core_state.specs.Sessions.{session_data}
use Rattle.core_state.specs.declared.session.Session.{Session}
use Rattle.ckd_plain.specs.History.{EntryData}
use Rattle.job_runs.specs.Runs.{FollowScripts, FollowToEnd}
use Rattle.job_text.specs.Jobs.{JobData, ScriptData}
use Rattle.plain_sessions.specs.Sessions.{plain_start}
use Rattle.script_places.specs.Scripts.{exchanges_of, not_begun, script_of}
use Rattle.serial_driver.specs.declared.answer.DriveAnswer.{DriveAnswer}
use Rattle.serial_driver.specs.declared.answer.DriveAnswer.TheVariants.{CommandLimit, Done}
use Rattle.serial_driver.specs.Drives.{IsFull}
use Rattle.shown_volumes.specs.Shown.{rows_of}
use Rattle.compared_runs.specs.Alone.{IsAlone}
use Rattle.compared_runs.specs.Comparing.{Chooses, Compares, Named, may_of}
use Rattle.compared_runs.specs.Same.{AreAlike, IsOfOneHost, exchanges_of_all}
use Rattle.compared_runs.proofs.Plainly.{AllOf, KeepsNoFault, OthersHaveNone, Unbound, all_of, answered}
use Rattle.compared_runs.proofs.Playing.{AnsweredBy, IsAnywhere, PlaysInto, begins_of, played_binds, played_same, plays_of}

-- a fault that is kept rose above a count, and none did
none_within : (first now fault : ℕ) → now ≡ 0 → IsFaultWithin first now fault → ⊥
none_within first now fault none is = absurd (omega (arith, none, is.rises, is.past))

abbrev pub blank : Content
blank unit block = zeros

module _ (job : JobData) (one : IsOfOneHost job) where
  abbrev h : ℕ
  h = one.host.host

  abbrev items : List ItemData
  items = one.host.items

  abbrev machine : State → CallData → Replied
  machine t c = plain t h c

  abbrev start : State
  start = plain_start job.config blank

  itself : script_of (one.host ∷ []) h ≡ items
  itself = elim (eqb_tells h h) [ inl t ↦ cond-true (h == h) items [] t.0 | inr t ↦ absurd (t.1 refl) ]

  -- another host has no script
  none_for : (other : ℕ) → other ≢ h → script_of (one.host ∷ []) other ≡ []
  none_for other differ = elim (eqb_tells h other) [ inl t ↦ absurd (differ (sym t.1)) | inr t ↦ cond-false (h == other) items [] t.0 ]

  module _ (may : Chooses) (end : DriveAnswer) (s : SessionData) (is : IsAlone (Unit {0}) may job end s) where
    follows : FollowScripts (one.host ∷ []) s.history
    follows = subst (λ (hosts : List ScriptData). FollowScripts hosts s.history) one.alone is.played.follow

    others : OthersHaveNone h s.history
    others other differ = subst (λ (l : List ItemData). Follows l (exchanges_of other s.history)) (none_for other differ) (follows other)

    abbrev all : (exchanges_of h s.history ≡ exchanges_of_all s.history) × AllOf h s.history
    all = all_of h s.history others

    pub begins : PlaysInto IsAnywhere (not_begun items) (exchanges_of_all s.history)
    begins = begins_of items (exchanges_of_all s.history)
        (subst (λ (p : List ItemData × List Exchange). Follows p.0 p.1) (λ i. (itself i, all.0 i)) (follows h))

    pub ends : FollowToEnd job.hosts s.history → FollowsToEnd items (exchanges_of_all s.history)
    ends to_end =
        let here : FollowToEnd (one.host ∷ []) s.history = subst (λ (hosts : List ScriptData). FollowToEnd hosts s.history) one.alone to_end in
        subst (λ (p : List ItemData × List Exchange). FollowsToEnd p.0 p.1) (λ i. (itself i, all.0 i)) (here h)

    -- only its own host may have more to do
    pub unended : IsFull job.hosts s.history → FollowsToEnd items (exchanges_of_all s.history) → ⊥
    unended full to_end =
        let more : FollowsToEnd (script_of (one.host ∷ []) full.host) (exchanges_of full.host s.history) → ⊥ =
        subst (λ (hosts : List ScriptData). FollowsToEnd (script_of hosts full.host) (exchanges_of full.host s.history) → ⊥) one.alone full.unfinished in
        elim (eqb_tells full.host h) [
          | inl t ↦
              let whose : (full.host, items, exchanges_of_all s.history) ≡ (full.host, script_of (one.host ∷ []) full.host, exchanges_of full.host s.history) =
              λ i. (full.host, (sym itself ∙ ap (λ (k : ℕ). script_of (one.host ∷ []) k) (sym t.1)) i, (sym all.0 ∙ ap (λ (k : ℕ). exchanges_of k s.history) (sym t.1)) i) in
              more (subst (λ (p : ℕ × List ItemData × List Exchange). FollowsToEnd p.1 p.2) whose to_end)
          | inr t ↦ more (subst (λ (l : List ItemData). FollowsToEnd l (exchanges_of full.host s.history)) (sym (none_for full.host t.1)) (others full.host t.1))
        ]

    none_kept : KeepsNoFault s.history
    none_kept place fault at = none_within s.first_faults is.now.faults fault is.none_failed (is.played.promised.counted.faults_.in_entry place fault at)

    fresh : (c : Content) → Unbound (plain_start job.config c)
    fresh c other v mounts = cc

    began : content is.was.told ≡ blank
    began i unit block = is.blank.zeros_ unit block i

    pub answers : AnsweredBy machine start (exchanges_of_all s.history)
    answers =
        let session = is.played.promised.plain tt in
        let was = content is.was.told in
        subst (λ (c : Content). AnsweredBy machine (plain_start job.config c) (exchanges_of_all s.history)) began
        (answered job.config.frames (is.played.driven.begun.over tt).whole.some_frames h (rows_at (rows_of was) s.console) [] (plain_start job.config was) s.history s.marks
        all.1 session.legal none_kept session.agrees.entries is.played.promised.marked.each (fresh was) (played_binds (not_begun items) (exchanges_of_all s.history) one.unbound begins.plays))

  module _ (may other : Chooses) (s t : SessionData) (a : IsAlone (Unit {0}) may job Done s) where
    -- of one that came to its end, and one that isn't shorter
    not_longer : (end : DriveAnswer) → IsAlone (Unit {0}) other job end t → length (exchanges_of_all s.history) ≤ length (exchanges_of_all t.history) → exchanges_of_all s.history ≡ exchanges_of_all t.history
    not_longer end b long = played_same machine start (not_begun items) (exchanges_of_all s.history) (exchanges_of_all t.history)
        (plays_of items (exchanges_of_all s.history) (ends may Done s a (a.played.reach refl))) (begins other end t b).plays (answers may Done s a) (answers other end t b) long

  -- sessions that came to their ends
  pub alike : (may other : Chooses) (s t : SessionData) → IsAlone (Unit {0}) may job Done s → IsAlone (Unit {0}) other job Done t → exchanges_of_all s.history ≡ exchanges_of_all t.history
  alike may other s t a b = elim (leb_tells (length (exchanges_of_all s.history)) (length (exchanges_of_all t.history))) [
    | inl shorter ↦ not_longer may other s t a Done b shorter.1
    | inr longer ↦ sym (not_longer other may t s b Done a (omega (arith, longer.1)))
  ]

  -- behind one that came to its end none comes to the limit
  pub never_limited : (may other : Chooses) (s t : SessionData) → IsAlone (Unit {0}) may job Done s → IsAlone (Unit {0}) other job CommandLimit t → ⊥
  never_limited may other s t a b =
      let full = b.played.full refl in
      let short : length (exchanges_of_all s.history) ≤ length (exchanges_of_all t.history) =
      omega (arith, length-map {B = Exchange} s.history (λ (e : EntryData). (e.call, e.reply)), length-map {B = Exchange} t.history (λ (e : EntryData). (e.call, e.reply)), a.played.promised.marked.few, full.entries) in
      let same = not_longer may other s t a CommandLimit b short in
      unended other CommandLimit t b full (subst (λ (l : List Exchange). FollowsToEnd items l) same (ends may Done s a (a.played.reach refl)))

  -- ---- those of a comparison

  module _ (given : Chooses) where
    all_alike : (may : Chooses) (s : Session) → IsAlone (Unit {0}) may job Done (session_data s)
        → (names : List Named) (sessions : List Session) (end : DriveAnswer) → Compares (Unit {0}) given job names sessions end → AreAlike (s ∷ sessions)
    all_alike may s a names [] end is = tt
    all_alike may s a [] (t ∷ sessions) end is = absurd is
    all_alike may s a (name ∷ names) (t ∷ sessions) end (inl is) =
        (alike may (may_of given name) (session_data s) (session_data t) a is.0, all_alike (may_of given name) t is.0 names sessions end is.1)
    all_alike may s a (name ∷ names) (t ∷ sessions) end (inr last) = absurd (never_limited may (may_of given name) (session_data s) (session_data t) a last.alone)

    pub compared_alike : (names : List Named) (sessions : List Session) (end : DriveAnswer) → Compares (Unit {0}) given job names sessions end → AreAlike sessions
    compared_alike names [] end is = tt
    compared_alike [] (s ∷ sessions) end is = absurd is
    compared_alike (name ∷ names) (s ∷ sessions) end (inl is) = all_alike (may_of given name) s is.0 names sessions end is.1
    compared_alike (name ∷ names) (s ∷ sessions) end (inr last) = subst (λ (l : List Session). AreAlike (s ∷ l)) (sym last.none) tt
