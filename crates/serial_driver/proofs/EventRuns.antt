-- Events of a list, one after the other.
use Rattle.std.proofs.Common.{◌≡◌, ◌≢◌, ◌<◌, ◌≤◌, ℕ, zero, suc, ◌+◌, List, [], ◌∷◌, length, drop, get_or, Option, Some, None, refl, sym, ◌∙◌, ap, subst, arith}
use Rattle.std.specs.Prelude.{◌==◌, is_some}
use Rattle.std.proofs.lemmas.Bool.{cond-false, ne_eqb}
use Rattle.mss_base.specs.declared.site.Site.{Ghosts}
use Rattle.victim_choice.specs.declared.choose.Candidate.{Candidate}
use Rattle.channel_program.specs.Script.{ItemData, Exchange}
use Rattle.ckd_plain.specs.History.{EntryData}
use Rattle.job_text.specs.Jobs.{ScriptData}
use Rattle.core_state.specs.declared.session.Event.{Event}
use Rattle.core_state.specs.declared.session.Event.TheVariants.{Host, Work}
use Rattle.core_state.specs.Chains.{Terms, Step, worked, EventTurn, Ended}
use Rattle.core_state.specs.CoreValue.{CoreData, seen_core}
use Rattle.serial_driver.specs.declared.answer.DriveAnswer.{DriveAnswer}
use Rattle.serial_driver.specs.declared.answer.DriveAnswer.TheVariants.{Done}
use Rattle.serial_driver.specs.Answers.{of_last}
use Rattle.script_places.specs.Scripts.{Left, not_begun, next_of, left_by, left_after, script_of, exchanges_of, calls_of}
use Rattle.core_state.proofs.Later.{later_none, later_then}
use Rattle.serial_driver.specs.Drives.{DriveValue, EventTakes, Halts, LeavesDrive, RunsEvents, terms_of}
use Rattle.serial_driver.proofs.ChainFacts.{of_last-cons, host_goes, host_ends, work_goes, work_last}

-- ---- a host that isn't in the job

pub left_nothing : (left : Left) (xs : List Exchange) → left.items ≡ [] → (left_after left xs).items ≡ []
left_nothing left [] none = none
left_nothing left (x ∷ xs) none = left_nothing (left_by left.items left.at x.1) xs (ap (λ (l : List ItemData). (left_by l left.at x.1).items) none)

pub no_call : (scripts : List ScriptData) (history : List EntryData) (h : ℕ) → script_of scripts h ≡ [] → calls_of scripts history h ≡ None
no_call scripts history h none =
    let left = left_after (not_begun (script_of scripts h)) (exchanges_of h history) in
    ap (λ (l : List ItemData). next_of l left.at) (left_nothing (not_begun (script_of scripts h)) (exchanges_of h history) none)

pub not_this : (ss : List ScriptData) (n : ℕ) (h : ℕ) (s : ScriptData) → n < length ss → s ≡ get_or ss n s → s.host ≢ h → script_of (drop n ss) h ≡ script_of (drop (n + 1) ss) h
not_this [] n h s below is other = absurd (omega (arith, below))
not_this (x ∷ xs) zero h s below is other = cond-false (x.host == h) x.items (script_of xs h) (ne_eqb x.host h (λ same. other (ap (λ (y : ScriptData). y.host) is ∙ same)))
not_this (x ∷ xs) (suc n) h s below is other =
    let e : suc n + 1 ≡ suc (n + 1) = omega arith in
    not_this xs n h s (omega (arith, below)) is other ∙ ap (λ (k : ℕ). script_of (drop k (x ∷ xs)) h) (sym e)

-- ---- what is left of the devices

pub leaves_then : {S C : Type 0} (g : Ghosts S) (old mid new : DriveValue S C) (answer : DriveAnswer)
    → LeavesDrive g old mid Done → LeavesDrive g mid new answer → LeavesDrive g old new answer
leaves_then g old mid new answer first then_ = record {
  session = later_then g.tells (seen_core g old.core) (seen_core g mid.core) (seen_core g new.core) first.session then_.session;
  scripts_ = then_.scripts_ ∙ first.scripts_;
  copier_ = then_.copier_ ∙ first.copier_;
  chooser_ = then_.chooser_ ∙ first.chooser_;
  written = omega (arith, first.written, then_.written);
  later = omega (arith, first.later, then_.later);
  sound = λ but never. then_.sound but (first.sound but never);
  halts = subst (λ (o : Option ℕ). Halts answer o new.core.stopped) first.halts then_.halts;
  cause = λ none fault is.
      let it = then_.cause (first.halts ∙ none) fault is in
      record { count = it.count; rises = omega (arith, first.later, it.rises) };
  only_reads_fail = λ but never none. then_.only_reads_fail but (first.sound but never) (first.only_reads_fail but never none);
  full = then_.full;
}

pub leaves_none : {S C : Type 0} (g : Ghosts S) (d : DriveValue S C) → LeavesDrive g d d Done
leaves_none g d = record {
  session = later_none g.tells (seen_core g d.core);
  scripts_ = refl;
  copier_ = refl;
  chooser_ = refl;
  written = omega arith;
  later = omega arith;
  sound = λ but never. never;
  halts = refl;
  cause = λ none fault is. absurd (let e : None ≡ Some fault = sym none ∙ is in cc);
  only_reads_fail = λ but never none. none;
  full = λ is. absurd cc;
}

-- nor are the terms other ones
pub same_terms : {S C : Type 0} (g : Ghosts S) (may : C → List Candidate → ℕ → Type 0) (old new : DriveValue S C) {answer : DriveAnswer} → LeavesDrive g old new answer → terms_of g may new ≡ terms_of g may old
same_terms g may old new leaves = λ i. record { tells = g.tells; may = may (leaves.chooser_ i); copies = is_some (leaves.copier_ i) }

-- ---- a list

module _ (terms : Terms) (scripts : List ScriptData) (events : List Event) (start : CoreData) where
  -- the events from now on are those of the whole list, with those before
  abbrev pub EventsSoFar : List Event → CoreData → Type 0
  EventsSoFar rest now =
      (final : CoreData) (more : List Step) → EventTurn terms (calls_of scripts) rest now more final (Ended final)
      → (steps : List Step) × EventTurn terms (calls_of scripts) events start steps final (Ended final) × (of_last steps ≡ of_last more)

  module _ (rest : List Event) (now next : CoreData) where
    pub events_go : (event : Event) (answer : DriveAnswer) → EventTakes terms scripts event now answer next → answer ≡ Done → EventsSoFar (event ∷ rest) now → EventsSoFar rest next
    events_go (Host h) answer takes done so_far final more chain =
        let one = host_goes terms h (calls_of scripts now.history h) now next answer takes done more final (λ core steps. EventTurn terms (calls_of scripts) rest core steps final (Ended final)) chain in
        let whole = so_far final one.0 one.1 in
        (whole.0, whole.1, whole.2 ∙ one.2)
    events_go (Work r) answer takes done so_far final more chain =
        let last = sym takes.2 ∙ done in
        let whole = so_far final (worked r takes.0 ∷ more) (work_goes terms r now next takes.0 takes.1 last more final (λ core steps. EventTurn terms (calls_of scripts) rest core steps final (Ended final)) chain) in
        (whole.0, whole.1, whole.2 ∙ of_last-cons (worked r takes.0) more last)

    pub events_halt : (event : Event) (answer : DriveAnswer) → EventTakes terms scripts event now answer next → answer ≢ Done → EventsSoFar (event ∷ rest) now
        → RunsEvents terms scripts events start answer next
    events_halt (Host h) answer takes halted so_far =
        let one = host_ends terms h (calls_of scripts now.history h) now next answer takes halted (λ core steps. EventTurn terms (calls_of scripts) rest core steps next (Ended next)) in
        let whole = so_far next one.0 one.1 in
        record { steps = whole.0; chain = whole.1; last = one.2 ∙ sym whole.2 }
    events_halt (Work r) answer takes halted so_far =
        let whole = so_far next (worked r takes.0 ∷ []) (work_last terms r now next takes.0 takes.1 (λ done. halted (takes.2 ∙ done)) (λ core steps. EventTurn terms (calls_of scripts) rest core steps next (Ended next))) in
        record { steps = whole.0; chain = whole.1; last = takes.2 ∙ sym whole.2 }

  pub events_end : (now : CoreData) → EventsSoFar [] now → RunsEvents terms scripts events start Done now
  events_end now so_far = let whole = so_far now [] (refl, refl) in record { steps = whole.0; chain = whole.1; last = sym whole.2 }

-- ---- one event more

rest_is : {A : Type 0} (xs : List A) (i : ℕ) (x : A) → i < length xs → x ≡ get_or xs i x → drop i xs ≡ x ∷ drop (i + 1) xs
rest_is [] i x below is = absurd (omega (arith, below))
rest_is (y ∷ ys) zero x below is = λ k. sym is k ∷ ys
rest_is (y ∷ ys) (suc n) x below is =
    let e : suc n + 1 ≡ suc (n + 1) = omega arith in
    rest_is ys n x (omega (arith, below)) is ∙ ap (λ (k : ℕ). x ∷ drop k (y ∷ ys)) (sym e)

module _ {S C : Type 0} (g : Ghosts S) (may : C → List Candidate → ℕ → Type 0)
    (events : List Event) (i : ℕ) (event : Event) (init now new : DriveValue S C) (answer : DriveAnswer)
    (below : i < length events) (is : event ≡ get_or events i event)
    (so_far : EventsSoFar (terms_of g may init) init.scripts events (seen_core g init.core) (drop i events) (seen_core g now.core))
    (leaves : LeavesDrive g init now Done)
    (takes : EventTakes (terms_of g may now) now.scripts event (seen_core g now.core) answer (seen_core g new.core))
    (left : LeavesDrive g now new answer) where
  takes_so : EventTakes (terms_of g may init) init.scripts event (seen_core g now.core) answer (seen_core g new.core)
  takes_so =
      subst (λ (t : Terms). EventTakes t init.scripts event (seen_core g now.core) answer (seen_core g new.core)) (same_terms g may init now leaves)
      (subst (λ (scripts : List ScriptData). EventTakes (terms_of g may now) scripts event (seen_core g now.core) answer (seen_core g new.core)) leaves.scripts_ takes)

  from : EventsSoFar (terms_of g may init) init.scripts events (seen_core g init.core) (event ∷ drop (i + 1) events) (seen_core g now.core)
  from =
      subst (λ (l : List Event). EventsSoFar (terms_of g may init) init.scripts events (seen_core g init.core) l (seen_core g now.core))
      (rest_is events i event below is) so_far

  pub event_leaves : LeavesDrive g init new answer
  event_leaves = leaves_then g init now new answer leaves left

  pub leaves_done : answer ≡ Done → LeavesDrive g init new Done
  leaves_done done = subst (λ (a : DriveAnswer). LeavesDrive g init new a) done event_leaves

  pub event_goes : answer ≡ Done → EventsSoFar (terms_of g may init) init.scripts events (seen_core g init.core) (drop (i + 1) events) (seen_core g new.core)
  event_goes done =
      events_go (terms_of g may init) init.scripts events (seen_core g init.core) (drop (i + 1) events) (seen_core g now.core) (seen_core g new.core) event answer takes_so done from

  pub event_halts : answer ≢ Done → RunsEvents (terms_of g may init) init.scripts events (seen_core g init.core) answer (seen_core g new.core)
  event_halts halted =
      events_halt (terms_of g may init) init.scripts events (seen_core g init.core) (drop (i + 1) events) (seen_core g now.core) (seen_core g new.core) event answer takes_so halted from

nothing_left : (xs : List Event) (k : ℕ) → length xs ≤ k → drop k xs ≡ []
nothing_left [] zero low = refl
nothing_left [] (suc n) low = refl
nothing_left (x ∷ xs) zero low = absurd (omega (arith, low))
nothing_left (x ∷ xs) (suc n) low = nothing_left xs n (omega (arith, low))

pub events_over : (terms : Terms) (scripts : List ScriptData) (events : List Event) (i : ℕ) (start now : CoreData) → length events ≤ i
    → EventsSoFar terms scripts events start (drop i events) now → RunsEvents terms scripts events start Done now
events_over terms scripts events i start now past so_far =
    events_end terms scripts events start now (subst (λ (l : List Event). EventsSoFar terms scripts events start l now) (nothing_left events i past) so_far)
