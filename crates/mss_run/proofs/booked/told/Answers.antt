use Rattle.std.proofs.Common.{◌≡◌, List, length, inl, inr, refl, sym, ◌∙◌, ap, subst}
use Rattle.channel_commands.specs.Data.{stopped}
use Rattle.channel_commands.specs.Views.{call_of, reply_of}
use Rattle.ckd_plain.specs.History.{EntryData}
use Rattle.core_state.specs.HostEvents.{halts, replied, at_limit}
use Rattle.seen_book.specs.Openings.{IsLegalFrom}
use Rattle.host_events.specs.Answers.{told_of}
use Rattle.host_events.specs.declared.answer.HostAnswer.{HostAnswer}
use Rattle.mss_run.specs.Answers.{Answered}
use Rattle.mss_run.specs.Happens.{Happens}
use Rattle.mss_run.proofs.AnswerFacts.{stop_grows, entered_stop, grown_by, its_host, had_room, is_full}
use Rattle.mss_run.proofs.booked.told.Goals as goal

pub returns-else-before-history-clause-pass : goal.returns-else-before-history-clause-pass
returns-else-before-history-clause-pass g c =
    let call = call_of c.args.call.now in
    let p = c.args.pass in
    let q = c.append-in-Stopped.result.1 in
    subst (λ (a : HostAnswer). Answered call p (told_of a) q) (sym c.in-Stopped.is)
    (inr (stop_grows call p q c.args.book.list c.args.history.now c.args.before c.entry_at-in-Stopped.result.now c.requires.before c.entry_at-in-Stopped.ensures
    c.append-in-Stopped.ensures.earlier c.append-in-Stopped.ensures.pass c.in-Stopped.fault
    (subst (λ (a : HostAnswer). Happens p.host call (told_of a) c.args.book.list c.args.history.now) c.in-Stopped.is c.requires.happens)))

pub append-requires-in-Stopped-clause-host : goal.append-requires-in-Stopped-clause-host
append-requires-in-Stopped-clause-host g c =
    let call = call_of c.args.call.now in
    let p = c.args.pass in
    let old = c.args.book.list in
    let new = c.args.history.now in
    let fault = c.in-Stopped.fault in
    let e = c.entry_at-in-Stopped.result.now in
    let does : Happens p.host call (halts fault) old new = subst (λ (a : HostAnswer). Happens p.host call (told_of a) old new) c.in-Stopped.is c.requires.happens in
    let n = (entered_stop p.host call old new c.args.before e c.requires.before c.entry_at-in-Stopped.ensures fault does).enters in
    its_host p.host call old new c.args.before e c.requires.before c.entry_at-in-Stopped.ensures stopped (length old) n

pub append-requires-in-Stopped-clause-room : goal.append-requires-in-Stopped-clause-room
append-requires-in-Stopped-clause-room g c =
    let call = call_of c.args.call.now in
    let p = c.args.pass in
    let old = c.args.book.list in
    let new = c.args.history.now in
    let fault = c.in-Stopped.fault in
    let e = c.entry_at-in-Stopped.result.now in
    let does : Happens p.host call (halts fault) old new = subst (λ (a : HostAnswer). Happens p.host call (told_of a) old new) c.in-Stopped.is c.requires.happens in
    let n = (entered_stop p.host call old new c.args.before e c.requires.before c.entry_at-in-Stopped.ensures fault does).enters in
    had_room p.host call old new c.args.before e c.requires.before c.entry_at-in-Stopped.ensures stopped (length old) n c.requires.few

pub append-requires-in-Stopped-clause-legal : goal.append-requires-in-Stopped-clause-legal
append-requires-in-Stopped-clause-legal g c =
    let call = call_of c.args.call.now in
    let p = c.args.pass in
    let old = c.args.book.list in
    let new = c.args.history.now in
    let fault = c.in-Stopped.fault in
    let e = c.entry_at-in-Stopped.result.now in
    let does : Happens p.host call (halts fault) old new = subst (λ (a : HostAnswer). Happens p.host call (told_of a) old new) c.in-Stopped.is c.requires.happens in
    let n = (entered_stop p.host call old new c.args.before e c.requires.before c.entry_at-in-Stopped.ensures fault does).enters in
    subst (IsLegalFrom g.N.Opening.opening) (grown_by p.host call old new c.args.before e c.requires.before c.entry_at-in-Stopped.ensures stopped (length old) n) c.requires.legal

pub returns-else-before-history-clause-book : goal.returns-else-before-history-clause-book
returns-else-before-history-clause-book g c =
    let call = call_of c.args.call.now in
    let p = c.args.pass in
    let old = c.args.book.list in
    let new = c.args.history.now in
    let fault = c.in-Stopped.fault in
    let e = c.entry_at-in-Stopped.result.now in
    let does : Happens p.host call (halts fault) old new = subst (λ (a : HostAnswer). Happens p.host call (told_of a) old new) c.in-Stopped.is c.requires.happens in
    let n = (entered_stop p.host call old new c.args.before e c.requires.before c.entry_at-in-Stopped.ensures fault does).enters in
    c.append-in-Stopped.ensures.book ∙ ap (λ (l : List EntryData). record { list = l; made = c.args.book.made }) (sym (grown_by p.host call old new c.args.before e c.requires.before c.entry_at-in-Stopped.ensures stopped (length old) n))

pub returns-in-CommandLimit-clause-book : goal.returns-in-CommandLimit-clause-book
returns-in-CommandLimit-clause-book g c =
    let does : Happens c.args.pass.host (call_of c.args.call.now) at_limit c.args.book.list c.args.history.now =
    subst (λ (a : HostAnswer). Happens c.args.pass.host (call_of c.args.call.now) (told_of a) c.args.book.list c.args.history.now) c.in-CommandLimit.is c.requires.happens in
    c.see.ensures.book ∙ ap (λ (l : List EntryData). record { list = l; made = c.args.book.made }) (sym does.0)

pub returns-in-CommandLimit-clause-pass : goal.returns-in-CommandLimit-clause-pass
returns-in-CommandLimit-clause-pass g c =
    let call = call_of c.args.call.now in
    let p = c.args.pass in
    let q = c.see.result.1 in
    let old = c.args.book.list in
    let does : Happens p.host call at_limit old c.args.history.now = subst (λ (a : HostAnswer). Happens p.host call (told_of a) old c.args.history.now) c.in-CommandLimit.is c.requires.happens in
    subst (λ (a : HostAnswer). Answered call p (told_of a) q) (sym c.in-CommandLimit.is) (is_full p q old does.1 c.see.ensures.earlier c.see.ensures.pass)

pub returns-in-Marked-clause-book : goal.returns-in-Marked-clause-book
returns-in-Marked-clause-book g c =
    let old = c.args.book.list in
    let new = c.args.history.now in
    let Does : HostAnswer → Type 0 = λ a. Happens c.args.pass.host (call_of c.args.call.now) (told_of a) old new in
    let same : new ≡ old = elim c.in-Marked.is [
      | inl is ↦ subst Does is c.requires.happens
      | inr (inl wait) ↦ subst Does wait.1 c.requires.happens
      | inr (inr is) ↦ subst Does is c.requires.happens
    ] in
    ap (λ (l : List EntryData). record { list = l; made = c.args.book.made }) (sym same)

pub returns-in-Marked-clause-pass : goal.returns-in-Marked-clause-pass
returns-in-Marked-clause-pass g c =
    let p = c.args.pass in
    let Is : HostAnswer → Type 0 = λ a. Answered (call_of c.args.call.now) p (told_of a) p in
    elim c.in-Marked.is [
      | inl is ↦ subst Is (sym is) refl
      | inr (inl wait) ↦ subst Is (sym wait.1) refl
      | inr (inr is) ↦ subst Is (sym is) refl
    ]

pub append-requires-clause-host : goal.append-requires-clause-host
append-requires-clause-host g c =
    let call = call_of c.args.call.now in
    let old = c.args.book.list in
    let new = c.args.history.now in
    let e = c.entry_at.result.now in
    let does : Happens c.args.pass.host call (replied c.in-Replied.index (reply_of c.in-Replied.reply)) old new = subst (λ (a : HostAnswer). Happens c.args.pass.host call (told_of a) old new) c.in-Replied.is c.requires.happens in
    its_host c.args.pass.host call old new c.args.before e c.requires.before c.entry_at.ensures (reply_of c.in-Replied.reply) c.in-Replied.index does.0

pub append-requires-clause-room : goal.append-requires-clause-room
append-requires-clause-room g c =
    let call = call_of c.args.call.now in
    let old = c.args.book.list in
    let new = c.args.history.now in
    let e = c.entry_at.result.now in
    let does : Happens c.args.pass.host call (replied c.in-Replied.index (reply_of c.in-Replied.reply)) old new = subst (λ (a : HostAnswer). Happens c.args.pass.host call (told_of a) old new) c.in-Replied.is c.requires.happens in
    had_room c.args.pass.host call old new c.args.before e c.requires.before c.entry_at.ensures (reply_of c.in-Replied.reply) c.in-Replied.index does.0 c.requires.few

pub append-requires-clause-legal : goal.append-requires-clause-legal
append-requires-clause-legal g c =
    let call = call_of c.args.call.now in
    let old = c.args.book.list in
    let new = c.args.history.now in
    let e = c.entry_at.result.now in
    let does : Happens c.args.pass.host call (replied c.in-Replied.index (reply_of c.in-Replied.reply)) old new = subst (λ (a : HostAnswer). Happens c.args.pass.host call (told_of a) old new) c.in-Replied.is c.requires.happens in
    subst (IsLegalFrom g.N.Opening.opening) (grown_by c.args.pass.host call old new c.args.before e c.requires.before c.entry_at.ensures (reply_of c.in-Replied.reply) c.in-Replied.index does.0) c.requires.legal
