-- What a core keeps of its counts, as entries, messages and requests come. Layers above cite these lemmas.
use Rattle.std.proofs.Common.{◌≡◌, ◌≢◌, ◌⊎◌, inl, inr, ℕ, zero, suc, ◌≤◌, List, [], ◌∷◌, ◌++◌, length, Option, Some, None, refl, sym, ◌∙◌, ap, subst, arith, append_assoc}
use Rattle.std.specs.Prelude.{slice_get}
use Rattle.std.specs.Option.{option_and_then}
use Rattle.std.proofs.lemmas.Bool.Decides.{eqb_tells}
use Rattle.std.proofs.lemmas.List.{append-nil}
use Rattle.std.proofs.lemmas.Option.{slice_get_past}
use Rattle.mss_base.specs.Counts.{Rises, IsFaultSince, IsFaultWithin}
use Rattle.ckd_plain.specs.History.{EntryData, IsStopped, HasNoStop}
use Rattle.ckd_plain.proofs.Histories.{HasNoStop-push}
use Rattle.fault_queue.specs.declared.queue.Request.{Request}
use Rattle.fault_queue.specs.Requests.{RequestsData, request_of, put_request, IsOnce}
use Rattle.fault_queue.proofs.RequestFacts.{request_same, request_other}
use Rattle.core_state.specs.declared.session.Message.{Message}
use Rattle.core_state.specs.Counted.{AreMarks, IsEntryBehind, AreEntriesBehind, fault_at, fault_asked, IsLast, AreFaults, IsStop, IsCounted}
use Rattle.core_state.specs.HostRules.{fault_of}
use Rattle.core_state.specs.IsCore.{AllDone}
use Rattle.core_state.specs.SessionData.{SessionData, with_last_entry, with_last_message, with_stop}
use Rattle.core_state.proofs.EntryLemmas.{done-more}
use Rattle.core_state.proofs.RuleWalks.{none_some, some_is}

-- the fault of a request that is put, if one is
abbrev pub fault_put : Option Request → Option ℕ
fault_put o = option_and_then (λ (q : Request). fault_of q.state) o

-- ---- marks and messages

pub marks_later : (since : ℕ) (marks : List ℕ) (writes later : ℕ) → writes ≤ later → AreMarks since marks writes → AreMarks since marks later
marks_later since [] writes later le are = omega (arith, are, le)
marks_later since (mark ∷ marks) writes later le are = (are.0, marks_later mark marks writes later le are.1)

pub marks_push : (since : ℕ) (marks : List ℕ) (writes mark later : ℕ) → writes ≤ mark → mark ≤ later → AreMarks since marks writes → AreMarks since (marks ++ mark ∷ []) later
marks_push since [] writes mark later from to are = (omega (arith, are, from), to)
marks_push since (x ∷ marks) writes mark later from to are = (are.0, marks_push x marks writes mark later from to are.1)

pub messages_push : (writes later : ℕ) (ms : List Message) (m : Message) → writes ≤ later → m.mark ≤ later → AllDone writes ms → AllDone later (ms ++ m ∷ [])
messages_push writes later [] m le done all = (done, tt)
messages_push writes later (x ∷ ms) m le done all = ((let mark = all.0 in omega (arith, mark, le)), messages_push writes later ms m le done all.1)

-- ---- entries

pub entries_push : (before es : List EntryData) (e : EntryData) → HasNoStop es → AreEntriesBehind before es → IsEntryBehind (before ++ es) e → AreEntriesBehind before (es ++ e ∷ [])
entries_push before [] e going are new = (subst (λ (b : List EntryData). IsEntryBehind b e) (append-nil before) new, (λ _. refl), tt)
entries_push before (x ∷ es) e going are new = (
  are.0,
  (λ stops. absurd (going.0 stops)),
  entries_push (before ++ x ∷ []) es e going.1 are.2 (subst (λ (b : List EntryData). IsEntryBehind b e) (sym (append_assoc before (x ∷ []) es)) new),
)

-- an entry of the longer list is the new one, or was there
entry_was : (es : List EntryData) (e : EntryData) (place : ℕ) (x : EntryData) → slice_get (es ++ e ∷ []) place ≡ Some x → (e ≡ x) ⊎ (slice_get es place ≡ Some x)
entry_was [] e zero x is = inl (some_is e x is)
entry_was [] e (suc n) x is = absurd (none_some x (sym (slice_get_past (e ∷ []) (suc n) (omega arith)) ∙ is))
entry_was (y ∷ es) e zero x is = inr is
entry_was (y ∷ es) e (suc n) x is = entry_was es e n x is

none_stops : (es : List EntryData) (place : ℕ) (x : EntryData) → HasNoStop es → slice_get es place ≡ Some x → IsStopped x.reply → ⊥
none_stops [] place x going is stops = none_some x (sym (slice_get_past [] place (omega arith)) ∙ is)
none_stops (y ∷ es) zero x going is stops = going.0 (subst (λ (z : EntryData). IsStopped z.reply) (sym (some_is y x is)) stops)
none_stops (y ∷ es) (suc n) x going is stops = none_stops es n x going.1 is stops

-- ---- faults

-- the fault of a place is that of the new entry, or was kept there
pub fault_was : (es : List EntryData) (e : EntryData) (place fault : ℕ) → fault_at (es ++ e ∷ []) place ≡ Some fault
    → ((place ≡ length es) × (e.fault ≡ Some fault)) ⊎ (fault_at es place ≡ Some fault)
fault_was [] e zero fault is = inl (refl, is)
fault_was [] e (suc n) fault is = absurd (none_some fault (sym (ap (option_and_then (λ (x : EntryData). x.fault)) (slice_get_past (e ∷ []) (suc n) (omega arith))) ∙ is))
fault_was (x ∷ es) e zero fault is = inr is
fault_was (x ∷ es) e (suc n) fault is = elim (fault_was es e n fault is) [
  | inl t ↦ inl (ap suc t.0, t.1)
  | inr t ↦ inr t
]

-- a host's fault is that of the request that is put, or was kept
pub asked_was : (requests : RequestsData) (h : ℕ) (o : Option Request) → IsOnce requests → (k fault : ℕ) → fault_asked (put_request requests h o) k ≡ Some fault
    → ((k ≡ h) × (fault_put o ≡ Some fault)) ⊎ ((k ≢ h) × (fault_asked requests k ≡ Some fault))
asked_was requests h o once k fault is = elim (eqb_tells k h) [
  | inl t ↦ inl (t.1, ap fault_put (sym (ap (request_of (put_request requests h o)) t.1 ∙ request_same requests h o once)) ∙ is)
  | inr t ↦ inr (t.1, ap fault_put (sym (request_other requests h k o once t.1)) ∙ is)
]

within_later : (first now later fault : ℕ) → now ≤ later → IsFaultWithin first now fault → IsFaultWithin first later fault
within_later first now later fault le is = record { rises = is.rises; past = let p = is.past in omega (arith, p, le) }

within_new : (first now later fault : ℕ) → first ≤ now → IsFaultSince now later fault → IsFaultWithin first later fault
within_new first now later fault le is = record {
  rises = let c = is.count in let r = is.rises in omega (arith, c, r, le);
  past = let c = is.count in omega (arith, c);
}

-- a fault of a call that failed just now is none that was kept, unless the count stands
fresh : (first now later fault : ℕ) → IsFaultWithin first now fault → IsFaultSince now later fault → IsLast fault
fresh first now later fault old new = let p = old.past in let c = new.count in let r = new.rises in omega (arith, p, c, r)

module _ (first now later : ℕ) (history : List EntryData) (requests : RequestsData) (are : AreFaults first now history requests) (le : now ≤ later) where
  pub faults_later : AreFaults first later history requests
  faults_later = record {
    in_entry = λ place fault at. within_later first now later fault le (are.in_entry place fault at);
    in_request = λ h fault at. within_later first now later fault le (are.in_request h fault at);
    entries_apart = are.entries_apart;
    requests_apart = are.requests_apart;
    apart = are.apart;
  }

  -- a request is put whose fault, if it keeps one, is of a call that failed just now
  pub faults_request : first ≤ now → (h : ℕ) (o : Option Request) → IsOnce requests → ((fault : ℕ) → fault_put o ≡ Some fault → IsFaultSince now later fault)
      → AreFaults first later history (put_request requests h o)
  faults_request began h o once new = record {
    in_entry = λ place fault at. within_later first now later fault le (are.in_entry place fault at);
    in_request = λ k fault at. elim (asked_was requests h o once k fault at) [
      | inl t ↦ within_new first now later fault began (new fault t.1)
      | inr t ↦ within_later first now later fault le (are.in_request k fault t.1)
    ];
    entries_apart = are.entries_apart;
    requests_apart = λ k j fault at other. elim (asked_was requests h o once k fault at) [
      | inl t ↦ elim (asked_was requests h o once j fault other) [
        | inl u ↦ inl (t.0 ∙ sym u.0)
        | inr u ↦ inr (fresh first now later fault (are.in_request j fault u.1) (new fault t.1))
      ]
      | inr t ↦ elim (asked_was requests h o once j fault other) [
        | inl u ↦ inr (fresh first now later fault (are.in_request k fault t.1) (new fault u.1))
        | inr u ↦ are.requests_apart k j fault t.1 u.1
      ]
    ];
    apart = λ place k fault at asked. elim (asked_was requests h o once k fault asked) [
      | inl t ↦ fresh first now later fault (are.in_entry place fault at) (new fault t.1)
      | inr t ↦ are.apart place k fault at t.1
    ];
  }

  -- an entry comes whose fault, if it keeps one, is of a call that failed just now, or that of a request which keeps it no
  -- longer; the others keep what they did
  module _ (began : first ≤ now) (e : EntryData) (then_ : RequestsData) (left : (k fault : ℕ) → fault_asked then_ k ≡ Some fault → fault_asked requests k ≡ Some fault)
      (from : (fault : ℕ) → e.fault ≡ Some fault → IsFaultSince now later fault ⊎ ((h : ℕ) × (fault_asked requests h ≡ Some fault) × (fault_asked then_ h ≡ None))) where
    -- the new entry's fault is kept by no earlier entry
    first_kept : (place fault : ℕ) → e.fault ≡ Some fault → fault_at history place ≡ Some fault → IsLast fault
    first_kept place fault new at = elim (from fault new) [
      | inl t ↦ fresh first now later fault (are.in_entry place fault at) t
      | inr t ↦ are.apart place t.0 fault at t.1
    ]

    -- and by no request
    not_asked : (k fault : ℕ) → e.fault ≡ Some fault → fault_asked then_ k ≡ Some fault → IsLast fault
    not_asked k fault new asked = elim (from fault new) [
      | inl t ↦ fresh first now later fault (are.in_request k fault (left k fault asked)) t
      | inr t ↦ elim (are.requests_apart k t.0 fault (left k fault asked) t.1) [
        | inl same ↦ absurd (none_some fault (sym t.2 ∙ ap (fault_asked then_) (sym same) ∙ asked))
        | inr last ↦ last
      ]
    ]

    pub faults_entry : AreFaults first later (history ++ e ∷ []) then_
    faults_entry = record {
      in_entry = λ place fault at. elim (fault_was history e place fault at) [
        | inl t ↦ elim (from fault t.1) [
          | inl u ↦ within_new first now later fault began u
          | inr u ↦ within_later first now later fault le (are.in_request u.0 fault u.1)
        ]
        | inr t ↦ within_later first now later fault le (are.in_entry place fault t)
      ];
      in_request = λ k fault at. within_later first now later fault le (are.in_request k fault (left k fault at));
      entries_apart = λ place other fault at there. elim (fault_was history e place fault at) [
        | inl t ↦ elim (fault_was history e other fault there) [
          | inl u ↦ inl (t.0 ∙ sym u.0)
          | inr u ↦ inr (first_kept other fault t.1 u)
        ]
        | inr t ↦ elim (fault_was history e other fault there) [
          | inl u ↦ inr (first_kept place fault u.1 t)
          | inr u ↦ are.entries_apart place other fault t u
        ]
      ];
      requests_apart = λ k j fault at other. are.requests_apart k j fault (left k fault at) (left j fault other);
      apart = λ place k fault at asked. elim (fault_was history e place fault at) [
        | inl t ↦ not_asked k fault t.1 asked
        | inr t ↦ are.apart place k fault t (left k fault asked)
      ];
    }

-- where a host's request is put that keeps no fault, the others keep theirs, and that host keeps none
pub left_put : (requests : RequestsData) (h : ℕ) (o : Option Request) → IsOnce requests → fault_put o ≡ None → (k fault : ℕ) → fault_asked (put_request requests h o) k ≡ Some fault → fault_asked requests k ≡ Some fault
left_put requests h o once unfailed k fault at = elim (asked_was requests h o once k fault at) [
  | inl t ↦ absurd (none_some fault (sym unfailed ∙ t.1))
  | inr t ↦ t.1
]

pub gone_put : (requests : RequestsData) (h : ℕ) (o : Option Request) → IsOnce requests → fault_put o ≡ None → fault_asked (put_request requests h o) h ≡ None
gone_put requests h o once unfailed = ap fault_put (request_same requests h o once) ∙ unfailed

kept_there : (history : List EntryData) (place : ℕ) (e : EntryData) (kept : ℕ) → slice_get history place ≡ Some e → e.fault ≡ Some kept → fault_at history place ≡ Some kept
kept_there history place e kept there at = ap (option_and_then (λ (x : EntryData). x.fault)) there ∙ at

-- ---- a whole session

module _ (writes faults later_writes later : ℕ) (requests : RequestsData) (d : SessionData) (is : IsCounted writes faults requests d) (more : writes ≤ later_writes) (le : faults ≤ later) where
  stop_later : (fault : ℕ) → d.stopped ≡ Some fault → IsStop d.first_faults later d.history fault
  stop_later fault at = let s = is.stop fault at in record { within = within_later d.first_faults faults later fault le s.within; own = s.own; last = s.last }

  -- the counts rise, and nothing else
  pub counted_later : IsCounted later_writes later requests d
  counted_later = record {
    marks_ = marks_later d.first_write d.marks writes later_writes more is.marks_;
    messages = done-more writes later_writes d.console more is.messages;
    entries = is.entries;
    began = let b = is.began in omega (arith, b, le);
    faults_ = faults_later d.first_faults faults later d.history requests is.faults_ le;
    going = is.going;
    stop = stop_later;
  }

  -- a host's request is put
  pub counted_request : (h : ℕ) (o : Option Request) → IsOnce requests → ((fault : ℕ) → fault_put o ≡ Some fault → IsFaultSince faults later fault)
      → IsCounted later_writes later (put_request requests h o) d
  counted_request h o once new = record {
    marks_ = counted_later.marks_;
    messages = counted_later.messages;
    entries = is.entries;
    began = counted_later.began;
    faults_ = faults_request d.first_faults faults later d.history requests is.faults_ le is.began h o once new;
    going = is.going;
    stop = stop_later;
  }

  -- a message comes
  pub counted_message : (m : Message) → m.mark ≤ later_writes → IsCounted later_writes later requests (with_last_message m d)
  counted_message m done = record {
    marks_ = counted_later.marks_;
    messages = messages_push writes later_writes d.console m more done is.messages;
    entries = is.entries;
    began = counted_later.began;
    faults_ = counted_later.faults_;
    going = is.going;
    stop = stop_later;
  }

  -- an entry comes that doesn't stop the session, and the host's request is put, which keeps no fault
  pub counted_entry : d.stopped ≡ None → (e : EntryData) (h : ℕ) (o : Option Request) → IsOnce requests → IsEntryBehind d.history e → (IsStopped e.reply → ⊥)
      → ((fault : ℕ) → e.fault ≡ Some fault → IsFaultSince faults later fault ⊎ (fault_asked requests h ≡ Some fault)) → fault_put o ≡ None
      → IsCounted later_writes later (put_request requests h o) (with_last_entry e later_writes d)
  counted_entry none e h o once behind goes from unfailed = record {
    marks_ = marks_push d.first_write d.marks writes later_writes later_writes more (omega arith) is.marks_;
    messages = counted_later.messages;
    entries = entries_push [] d.history e (is.going none) is.entries behind;
    began = counted_later.began;
    faults_ = faults_entry d.first_faults faults later d.history requests is.faults_ le is.began e (put_request requests h o) (left_put requests h o once unfailed)
        (λ fault at. elim (from fault at) [ inl t ↦ inl t | inr t ↦ inr (h, t, gone_put requests h o once unfailed) ]);
    going = λ still. HasNoStop-push d.history e (is.going still) goes;
    stop = λ fault at. absurd (none_some fault (sym none ∙ at));
  }

  -- a write failed, and the session stops: within work, or with an entry, which is the last
  module _ (none : d.stopped ≡ None) (failed : IsFaultSince faults later later) where
    behind_all : (place kept : ℕ) → fault_at d.history place ≡ Some kept → Rises kept later
    behind_all place kept at = let p = (is.faults_.in_entry place kept at).past in let r = failed.rises in omega (arith, p, r)

    pub counted_stop : IsCounted later_writes later requests (with_stop later d)
    counted_stop = record {
      marks_ = counted_later.marks_;
      messages = counted_later.messages;
      entries = is.entries;
      began = counted_later.began;
      faults_ = counted_later.faults_;
      going = λ still. absurd (none_some later (sym still));
      stop = λ fault at.
          let e : later ≡ fault = some_is later fault at in
          subst (IsStop d.first_faults later d.history) e
          (record {
            within = within_new d.first_faults faults later later is.began failed;
            own = λ place x there stops. absurd (none_stops d.history place x (is.going none) there stops);
            last = λ place x kept there goes at. behind_all place kept (kept_there d.history place x kept there at);
          });
    }

    pub counted_halt : (e : EntryData) → IsEntryBehind d.history e → IsStopped e.reply → e.fault ≡ Some later → IsCounted later_writes later requests (with_stop later (with_last_entry e later_writes d))
    counted_halt e behind halts keeps = record {
      marks_ = marks_push d.first_write d.marks writes later_writes later_writes more (omega arith) is.marks_;
      messages = counted_later.messages;
      entries = entries_push [] d.history e (is.going none) is.entries behind;
      began = counted_later.began;
      faults_ = faults_entry d.first_faults faults later d.history requests is.faults_ le is.began e requests (λ k fault at. at)
          (λ fault at. inl (subst (IsFaultSince faults later) (some_is later fault (sym keeps ∙ at)) failed));
      going = λ still. absurd (none_some later (sym still));
      stop = λ fault at.
          let same : later ≡ fault = some_is later fault at in
          subst (IsStop d.first_faults later (d.history ++ e ∷ [])) same
          (record {
            within = within_new d.first_faults faults later later is.began failed;
            own = λ place x there stops. elim (entry_was d.history e place x there) [
              | inl t ↦ ap (λ (z : EntryData). z.fault) (sym t) ∙ keeps
              | inr t ↦ absurd (none_stops d.history place x (is.going none) t stops)
            ];
            last = λ place x kept there goes at. elim (entry_was d.history e place x there) [
              | inl t ↦ absurd (goes (subst (λ (z : EntryData). IsStopped z.reply) t halts))
              | inr t ↦ behind_all place kept (kept_there d.history place x kept t at)
            ];
          });
    }

-- a session that begins now, after these changes of rows
pub counted_begun : (writes faults : ℕ) (requests : RequestsData) (d : SessionData) → d.history ≡ [] → d.marks ≡ [] → requests ≡ [] → d.stopped ≡ None
    → d.first_write ≡ writes → d.first_faults ≡ faults → AllDone writes d.console → IsCounted writes faults requests d
counted_begun writes faults requests d bare unmarked idle going since from done = record {
  marks_ = subst (λ (ms : List ℕ). AreMarks d.first_write ms writes) (sym unmarked) (omega (arith, since));
  messages = done;
  entries = subst (AreEntriesBehind []) (sym bare) tt;
  began = omega (arith, from);
  faults_ = record {
    in_entry = λ place fault at. absurd (no_entry place fault at);
    in_request = λ h fault at. absurd (no_request h fault at);
    entries_apart = λ place other fault at there. absurd (no_entry place fault at);
    requests_apart = λ h other fault at there. absurd (no_request h fault at);
    apart = λ place h fault at asked. absurd (no_entry place fault at);
  };
  going = λ _. subst HasNoStop (sym bare) tt;
  stop = λ fault at. absurd (none_some fault (sym going ∙ at));
}
  where
    no_entry : (place fault : ℕ) → fault_at d.history place ≡ Some fault → ⊥
    no_entry place fault at =
        none_some fault (sym (ap (λ (es : List EntryData). fault_at es place) bare ∙ ap (option_and_then (λ (x : EntryData). x.fault)) (slice_get_past [] place (omega arith))) ∙ at)

    no_request : (h fault : ℕ) → fault_asked requests h ≡ Some fault → ⊥
    no_request h fault at = none_some fault (sym (ap (λ (r : RequestsData). fault_asked r h) idle) ∙ at)
