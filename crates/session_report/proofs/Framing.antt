-- What is put over devices that needn't tell what they hold.
use Rattle.std.proofs.Common.{◌≡◌, ◌≤◌, inl, inr, ℕ, List, [], ◌++◌, length, length-append, Ok, Err, refl, sym, ◌∙◌, ap, subst, arith, append_assoc}
use Rattle.std.specs.Prelude.{codes}
use Rattle.std.proofs.lemmas.List.{append-nil}
use Rattle.mss_base.specs.Puts.{PutsFront}
use Rattle.ckd_plain.specs.History.{EntryData}
use Rattle.core_state.specs.SessionData.{SessionData}
use Rattle.report_text.specs.Texts.{entry_text, history_text, listing_title, numbered_lines, stopped_text}
use Rattle.report_text.specs.declared.report.ReportFault.{ReportFault as PartFault}
use Rattle.report_text.specs.declared.report.ReportFault.TheVariants as part
use Rattle.report_text.proofs.LineLemmas.{put_some}
use Rattle.session_report.specs.Answers.{Answer, fault_of}
use Rattle.session_report.specs.Reports.{Closes, Ending, EndsWith, Frames, Grows, OnRead, changes_text, finished, last_text, opening_text}
use Rattle.session_report.specs.declared.fault.ReportFault.TheVariants as report_fault
use Rattle.session_report.specs.declared.reporting.Last.{Last}

-- ---- a text grows

pub grows_none : (old : List ℕ) → Grows old old
grows_none old = record { added = []; put = sym (append-nil old) }

pub grows_then : (old mid new : List ℕ) → Grows old mid → Grows mid new → Grows old new
grows_then old mid new first next = record {
  added = first.added ++ next.added;
  put = next.put ∙ ap (λ (l : List ℕ). l ++ next.added) first.put ∙ append_assoc old first.added next.added;
}

-- by a text, or a front of one
pub grows_by : (old new text : List ℕ) → new ≡ old ++ text → Grows old new
grows_by old new text put = record { added = text; put = put }

pub grows_front : (old new text : List ℕ) → PutsFront old new text → Grows old new
grows_front old new text front = record { added = front.front; put = front.put }

-- a line was put behind what had grown
pub line_behind : (old mid new line : List ℕ) → Grows old mid → new ≡ mid ++ line → EndsWith old new line
line_behind old mid new line grown put = record { middle = grown.added; put = put ∙ ap (λ (l : List ℕ). l ++ line) grown.put }

-- so was a text that ends with the line
pub ends_behind : (old mid new line : List ℕ) → Grows old mid → EndsWith mid new line → EndsWith old new line
ends_behind old mid new line grown ends = record {
  middle = grown.added ++ ends.middle;
  put = ends.put ∙ ap (λ (l : List ℕ). l ++ line) (ap (λ (l : List ℕ). l ++ ends.middle) grown.put ∙ append_assoc old grown.added ends.middle);
}

-- ---- after a fault of a part

pub put_no_read : (answer : Answer) (fault : PartFault) (P : ℕ → Type 0) → answer ≡ Err (fault_of fault) → OnRead answer P
put_no_read answer part.Output P is = subst (λ (a : Answer). OnRead a P) (sym is) tt
put_no_read answer part.Memory P is = subst (λ (a : Answer). OnRead a P) (sym is) tt

pub fault_grows : (l : Last) (old new : List ℕ) (answer : Answer) (fault : PartFault) → answer ≡ Err (fault_of fault) → Grows old new → Closes l old new answer
fault_grows l old new answer part.Output is grown = subst (λ (a : Answer). Closes l old new a) (sym is) grown
fault_grows l old new answer part.Memory is grown = subst (λ (a : Answer). Closes l old new a) (sym is) grown

-- ---- behind an opening

-- of it a front was put
pub frames_front : (opening : List ℕ) (ending : Ending) (old new : List ℕ) (answer : Answer) (fault : PartFault) → answer ≡ Err (fault_of fault) → PutsFront old new opening
    → (fault ≡ part.Memory → new ≡ old → ⊥) → Frames opening ending old new answer
frames_front opening ending old new answer part.Output is front begun = subst (λ (a : Answer). Frames opening ending old new a) (sym is) (inl front)
frames_front opening ending old new answer part.Memory is front begun = subst (λ (a : Answer). Frames opening ending old new a) (sym is) (inl front, begun refl)

-- it was put, and of the rest a front
pub frames_unput : (opening : List ℕ) (ending : Ending) (old mid new : List ℕ) (answer : Answer) → answer ≡ Err report_fault.Output → mid ≡ old ++ opening → Grows mid new → Frames opening ending old new answer
frames_unput opening ending old mid new answer is first grown =
    subst (λ (a : Answer). Frames opening ending old new a) (sym is) (inr (subst (λ (b : List ℕ). Grows b new) first grown))

-- it was put, and the rest behind it
pub frames_behind : (opening : List ℕ) (l : Last) (old mid new : List ℕ) (answer : Answer) → 1 ≤ length opening → mid ≡ old ++ opening → Closes l mid new answer → Frames opening (finished l) old new answer
frames_behind opening l old mid new (Ok x) some first closes = subst (λ (b : List ℕ). EndsWith b new (last_text l)) first closes
frames_behind opening l old mid new (Err (report_fault.Read fault)) some first closes = subst (λ (b : List ℕ). EndsWith b new (stopped_text fault)) first closes
frames_behind opening l old mid new (Err report_fault.Output) some first closes = inr (subst (λ (b : List ℕ). Grows b new) first closes)
frames_behind opening l old mid new (Err report_fault.Memory) some first closes =
    (inr (subst (λ (b : List ℕ). Grows b new) first closes), put_some old mid new opening closes.added some first closes.put)

-- ---- no opening is empty

pub history_long : (entries : List EntryData) → 1 ≤ length (history_text entries)
unfolding history_text
history_long entries =
    let title : length (codes "MSS REPORT 1\n") ≡ 13 = refl in
    omega (arith, title, length-append (codes "MSS REPORT 1\n") (numbered_lines entry_text 1 entries))

pub opening_long : (s : SessionData) → 1 ≤ length (opening_text s)
opening_long s = omega (arith, history_long s.history, length-append (history_text s.history) (changes_text s.console))

pub title_long : 1 ≤ length listing_title
unfolding listing_title
title_long = let title : length (codes "MSS VOLUMES 1\n") ≡ 14 = refl in omega (arith, title)
