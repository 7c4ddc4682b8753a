-- What every event of a recorder keeps, and what its answers say, of a core that keeps what a core keeps.
use Rattle.std.proofs.Common.{◌≡◌, ◌⊎◌, inl, inr, ℕ, ◌<◌, ◌≤◌, List, [], take, length, Option, Some, None, refl, sym, ◌∙◌, ap, subst, arith}
use Rattle.std.specs.Prelude.{slice_get, slice_set, is_some, IsSome}
use Rattle.std.specs.Option.{option_map, option_and_then}
use Rattle.std.proofs.lemmas.List.{append-nil, take_all}
use Rattle.std.proofs.lemmas.Option.{slice_get_past}
use Rattle.mss_base.specs.Content.{Write, SiteLog, Adds, Writes, content, image}
use Rattle.ckd_plain.specs.Data.{State}
use Rattle.ckd_plain.specs.History.{EntryData, after, HasNoStop}
use Rattle.ckd_track.specs.Data.{Volumes}
use Rattle.shown_volumes.specs.Shown.{volumes_shown}
use Rattle.core_state.specs.IsCore.{AllUpTo}
use Rattle.core_state.specs.StopRule.{answered_count, opening, MayShow, state_at}
use Rattle.core_state.specs.TheCore.{IsWhole}
use Rattle.core_state.proofs.EntryLemmas.{opening_same}
use Rattle.core_state.proofs.StopsLemmas.{all_answered}
use Rattle.mss_base.specs.Firsts.{◌or◌}
use Rattle.volume_table.specs.Listed.{row_in_list}
use Rattle.volume_table.specs.Row.{RowValue}
use Rattle.fault_queue.specs.Requests.{RequestsData, request_of}
use Rattle.transfers.specs.Copies.{in_cartridge, AddsAtMost}
use Rattle.transfers.specs.Dues.{due_state}
use Rattle.transfers.specs.declared.transfer.Transfer.{Transfer}
use Rattle.transfers.specs.declared.transfer.TransferKind.{TransferKind}
use Rattle.transfers.specs.declared.transfer.TransferKind.TheVariants.{StageBlank, StageCartridge, Destage}
use Rattle.victim_choice.specs.declared.choose.Candidate.{Candidate}
use Rattle.core_state.specs.declared.task.Task.{Task}
use Rattle.core_state.specs.declared.rule.WorkAnswer.{WorkAnswer}
use Rattle.core_state.specs.declared.rule.WorkAnswer.TheVariants.{Did, Idle, Stopped, Memory}
use Rattle.core_state.specs.declared.rule.WorkRule.{WorkRule}
use Rattle.core_state.specs.declared.rule.WorkRule.TheVariants.{IsStopped, IsIdle, GivesBack, Picks, PicksVictim, Abandons, Fetches, Copies, Ends, Frees, Assigns}
use Rattle.core_state.specs.Beginning.{KeepsBeginning, Continues, IsLater}
use Rattle.core_state.specs.CoreValue.{CoreData}
use Rattle.core_state.specs.HostEvents.{IsSame}
use Rattle.core_state.specs.Pins.{task_at, state_of_row}
use Rattle.core_state.specs.WorkEvents.{WorkDoes, WorkEvent}
use Rattle.core_state.specs.WorkRules.{task_of, return_rule, pick_rule, task_rule, work_rule}
use Rattle.core_state.proofs.RuleWalks.{some_is, none_some, found_first}
use Rattle.core_state.proofs.TaskLists.{task_put}
use Rattle.work_events.specs.WorkLaws.{IsRecorder, LeavesHosts, SameCartridges, ShowsTheSame, AddsTrack, DestagesTrack, WritesCartridges, AnswerSays, CopyFails, FailsByCopy}
use Rattle.work_events.proofs.DueFacts.{is_due_destage, own}
use Rattle.work_events.proofs.RuleFacts.{MayEnd, rule_stopped, rule_ends, rule_frees, rule_assigns_row, rule_transfer}
use Rattle.work_events.proofs.RestatedFacts.{restated}
use Rattle.work_events.proofs.Outcomes.{row_by, Destages, Answered, Outcome, outcome}

-- a log that got a write, synced or not, goes on
continues : (w : Write) (old new : SiteLog) → Adds w old new → Continues old new
continues w old new (inl alone) = (_, alone)
continues w old new (inr (inl firm)) = (_, firm)
continues w old new (inr (inr loose)) = (_, loose)

-- what is shown where all entries are answered
shows_all : (s : State) (es : List EntryData) (ms : List ℕ) (n k : ℕ) (V : Volumes) → HasNoStop es → AllUpTo n ms → length ms ≡ length es → n ≤ k
    → MayShow (state_at s es ms k) (slice_get es (answered_count k es ms)) V → V ≡ (after s es).volumes
shows_all s es ms n k V no_stop marks long late may_show =
    let all_ : answered_count k es ms ≡ length es = all_answered n k es ms no_stop marks long late in
    let at_end = subst (λ (j : ℕ). MayShow (after s (take j es)) (slice_get es j) V) all_ may_show in
    subst (λ (o : Option EntryData). MayShow (after s (take (length es) es)) o V) (slice_get_past es (length es) (omega arith)) at_end
    ∙ ap (λ (l : List EntryData). (after s l).volumes) (take_all (length es) es (omega arith))

module _ (tells : Type 0) (may : List Candidate → ℕ → Type 0) (core : CoreData) (n : ℕ) (told : WorkAnswer) (left : CoreData) (event : WorkEvent tells may core n told left) where
  comes : Outcome tells core n (work_rule core n) told left
  comes = outcome tells may core n left (work_rule core n) told event

  pub keeps_beginning : KeepsBeginning core left
  keeps_beginning = comes.beginning

  pub leaves_hosts : LeavesHosts core left
  leaves_hosts = comes.hosts

  pub idle_or_memory : work_rule core n ≡ IsIdle → (told ≡ Idle) ⊎ (told ≡ Memory)
  idle_or_memory is = by told (subst (λ (rule : WorkRule). WorkDoes tells may core n rule told left) is event)
    where
      by : (a : WorkAnswer) → WorkDoes tells may core n IsIdle a left → (a ≡ Idle) ⊎ (a ≡ Memory)
      by Memory does = inr refl
      by (Did what) does = inl does.0
      by Idle does = inl does.0
      by (Stopped fault) does = inl does.0

  pub stopped_stays : (fault : ℕ) → core.stopped ≡ Some fault → (told ≡ Stopped fault) × IsSame tells core left
  unfolding work_rule
  stopped_stays fault stopped =
      let rule : work_rule core n ≡ IsStopped fault = found_first _ (return_rule core n or pick_rule core n or option_and_then (task_rule core n) (task_of core n)) IsIdle (IsStopped fault) (ap (λ (o : Option ℕ). option_map IsStopped o) stopped) in
      subst (λ (r : WorkRule). WorkDoes tells may core n r told left) rule event

  module _ (is : IsRecorder core n) where
    has_row : (rule : WorkRule) → work_rule core n ≡ rule → (volume : ℕ) → row_by rule ≡ Some volume → IsSome (row_in_list core.rows volume)
    has_row (Ends t) rule volume named =
        let says = rule_ends core n is.there is.kept t rule in
        let copies = transfer_of_end t.kind says.task (says.may says.task says.request says.serves) in
        let due = (own core (is.kept says.going) n says.task says.serves.at).transfer_ t copies in
        subst (λ (w : ℕ). IsSome (row_in_list core.rows w)) (some_is t.volume volume named) (ap (λ (o : Option RowValue). is_some o) due.there)
      where
        transfer_of_end : (kind : TransferKind) (task : Task) → MayEnd core kind task t → task.transfer ≡ Some t
        transfer_of_end Destage task may_end = may_end.copies
        transfer_of_end StageBlank task may_end = may_end.copies
        transfer_of_end StageCartridge task may_end = may_end.copies
    has_row (Frees v page) rule volume named =
        let says = rule_frees core n is.there is.kept v page rule in
        let may_free = says.may says.task says.request says.serves in
        subst (λ (w : ℕ). IsSome (row_in_list core.rows w)) (some_is v volume named) (ap (λ (o : Option RowValue). is_some o) may_free.there)
    has_row (Assigns v page) rule volume named = subst (λ (w : ℕ). IsSome (row_in_list core.rows w)) (some_is v volume named) (rule_assigns_row core n is.there is.kept v page rule)
    has_row (IsStopped fault) rule volume named = absurd (none_some volume named)
    has_row IsIdle rule volume named = absurd (none_some volume named)
    has_row (GivesBack cartridge) rule volume named = absurd (none_some volume named)
    has_row (Picks h frame) rule volume named = absurd (none_some volume named)
    has_row (PicksVictim h) rule volume named = absurd (none_some volume named)
    has_row Abandons rule volume named = absurd (none_some volume named)
    has_row (Fetches cartridge) rule volume named = absurd (none_some volume named)
    has_row (Copies t) rule volume named = absurd (none_some volume named)

    -- ---- the volumes

    abbrev Grows : Type 0
    Grows = Continues core.site.told left.site.told

    grows : tells → Grows
    grows tl = by (comes.cartridges (has_row (work_rule core n) refl) tl)
      where
        none_more : left.site.told ≡ core.site.told → Grows
        none_more same = ([], same ∙ (λ i. record { start = core.site.told.start; log = sym (append-nil core.site.told.log) i }))

        by : (Writes (SameCartridges (content core.site.told)) core.site.told left.site.told ⊎ Destages core n (work_rule core n) left) → Grows
        by (inl leaves) = (leaves.items, leaves.grown)
        by (inr (t, rule, kind, inl adds)) = continues _ core.site.told left.site.told adds.added
        by (inr (t, rule, kind, inr (inl same, ended))) = none_more same
        by (inr (t, rule, kind, inr (inr adds, ended))) = continues _ core.site.told left.site.told adds.2

    pub is_later : IsLater tells core left
    is_later = record { beginning = keeps_beginning; grown = grows }

    pub shows_the_same : tells → core.stopped ≡ None → IsWhole tells core.site.told core → IsWhole tells left.site.told left → ShowsTheSame core left
    shows_the_same tl none whole whole_left k tear late early =
        let was = whole.told tl in
        let went = was.going none in
        let grown = grows tl in
        let hosts = comes.hosts in
        let since : left.first_write ≤ k = (let first = hosts.began in let before = was.began in omega (arith, first, before, late)) in
        let now = (whole_left.told tl).stops.shows k since early tear in
        let same : MayShow (state_at (opening core.first_write left.site.told) core.history core.marks k) (slice_get core.history (answered_count k core.history core.marks)) (volumes_shown (image left.site.told k tear)) =
        subst (λ (z : ℕ × List EntryData × List ℕ). MayShow (state_at (opening z.0 left.site.told) z.1 z.2 k) (slice_get z.1 (answered_count k z.1 z.2)) (volumes_shown (image left.site.told k tear))) (λ i. (hosts.began i, hosts.history i, hosts.marks i)) now in
        let all_ = shows_all (opening core.first_write left.site.told) core.history core.marks (length core.site.told.log) k (volumes_shown (image left.site.told k tear)) went.no_stop was.entries whole.shaped.marked late same in
        all_ ∙ ap (λ (s : State). (after s core.history).volumes) (opening_same core.first_write core.site.told left.site.told grown.0 grown.1 was.began) ∙ sym went.shows

    -- ---- cartridges

    pub writes_cartridges : tells → WritesCartridges core n left
    writes_cartridges tl = elim (comes.cartridges (has_row (work_rule core n) refl) tl) [
      | inl leaves ↦ inl leaves
      | inr it ↦ inr (it.0, destages it.0 it.1 it.2 it.3)
    ]
      where
        destages : (t : Transfer) → work_rule core n ≡ Copies t → t.kind ≡ Destage
            → (AddsTrack t core.site.told left.site.told ⊎ (AddsAtMost (in_cartridge t t.next) core.site.told left.site.told × (left.tasks ≡ slice_set core.tasks n None)))
            → DestagesTrack core n t left
        destages t rule kind written =
            let says = rule_transfer core n is.there is.kept t rule in
            let kept = is.kept says.going in
            let due = is_due_destage core kept n says.task says.serves.at t kind (says.may says.task says.request says.serves) in
            let long = kept.fit.long in
            let there = is.there in
            let within : n < length core.tasks = omega (arith, long, there) in
            record {
              by_rule = rule;
              kind = kind;
              changed = ap (λ (o : Option RowValue). state_of_row o t.cylinder) due.there ∙ due.due.state ∙ ap due_state kind;
              written = elim written [
                | inl adds ↦ inl adds
                | inr failed ↦ inr (failed.0, ap (λ (tasks : List (Option Task)). task_at tasks n) failed.1 ∙ task_put core.tasks n None within)
              ];
            }

    -- ---- answers

    pub answer_says : AnswerSays tells core n told left
    answer_says = by core.stopped refl
      where
        going_on : core.stopped ≡ None → (a : WorkAnswer) → Answered tells core (work_rule core n) a left → AnswerSays tells core n a left
        going_on none (Did what) answered = (none, answered ∙ none)
        going_on none Idle answered = answered
        going_on none (Stopped fault) (inl was) = absurd (none_some fault (sym none ∙ rule_stopped core n is.there is.kept fault was.0))
        going_on none (Stopped fault) (inr now) = inr (record { went = none; stands = now.0; cause = now.1 })
        going_on none Memory answered = (none, answered)

        by : (o : Option ℕ) → core.stopped ≡ o → AnswerSays tells core n told left
        by None none = going_on none told (comes.answer (has_row (work_rule core n) refl))
        by (Some fault) stopped =
            let stays = stopped_stays fault stopped in
            subst (λ (a : WorkAnswer). AnswerSays tells core n a left) (sym stays.0) (inl (stopped, stays.1))

    pub fails_by_copy : FailsByCopy core n left
    fails_by_copy h fault q asked failed = by core.stopped refl
      where
        same : left.requests ≡ core.requests → request_of core.requests h ≡ Some q
        same is_same = sym (ap (λ (x : RequestsData). request_of x h) is_same) ∙ asked

        by : (o : Option ℕ) → core.stopped ≡ o → (request_of core.requests h ≡ Some q) ⊎ CopyFails core n fault left
        by (Some halted) stopped = inl (same (ap (λ (c : CoreData). c.requests) (stopped_stays halted stopped).1.1))
        by None none = elim comes.requests [
          | inl is_same ↦ inl (same is_same)
          | inr it ↦ elim (restated core.requests it.0 h it.1 q (is.kept none).requests_ (sym (ap (λ (x : RequestsData). request_of x h) it.2) ∙ asked)) [
            | inl before ↦ inl before
            | inr state ↦ inr (it.3 fault (sym state ∙ failed))
          ]
        ]
