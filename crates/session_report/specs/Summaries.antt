-- What the summary of a session says. Each line ends with a line feed.
use Rattle.std.specs.Prelude.{ℕ, Bool, true, false, List, ◌++◌, length, filter, codes, decimal}
use Rattle.ckd_plain.specs.History.{EntryData}
use Rattle.volume_table.specs.declared.changes.Change.{Change}
use Rattle.volume_table.specs.declared.changes.Change.TheVariants as change
use Rattle.core_state.specs.declared.session.Message.{Message}
use Rattle.core_state.specs.SessionData.{SessionData}
use Rattle.report_text.specs.Texts.{stopped_text}
use Rattle.session_report.specs.declared.summing.Kind.{Kind}
use Rattle.session_report.specs.declared.summing.Kind.TheVariants as kind
use Rattle.session_report.specs.Reports.{Ending, finished, stopped, last_text}

-- a change of this kind
abbrev pub is_of : Kind → Change → Bool
is_of kind.Assign (change.Assign page frame) = true
is_of kind.Free (change.Free page) = true
is_of kind.Staged (change.Staged cylinder) = true
is_of kind.Changed (change.Changed cylinder) = true
is_of kind.Destaged (change.Destaged cylinder) = true
is_of _ _ = false

-- how many changes of a kind the console tells
abbrev pub count_of : Kind → List Message → ℕ
count_of kind console = length (filter (λ message. is_of kind message.change) console)

-- a line of a word and a count
unfoldable pub count_line : List ℕ → ℕ → List ℕ
count_line word n = word ++ decimal n ++ codes "\n"

-- how many programs were asked for, and how many entries the session has
abbrev pub load_text : ℕ → List EntryData → List ℕ
load_text programs history =
    count_line (codes "MSS LOAD ") programs ++ count_line (codes "entries ") (length history)

-- how often a page got a frame, and how often one gave its frame back
abbrev pub pages_text : List Message → List ℕ
pages_text console =
    count_line (codes "assign ") (count_of kind.Assign console)
    ++ count_line (codes "free ") (count_of kind.Free console)

-- how often a cylinder was staged, changed and destaged
unfoldable pub cylinders_text : List Message → List ℕ
cylinders_text console =
    count_line (codes "staged ") (count_of kind.Staged console)
    ++ count_line (codes "changed ") (count_of kind.Changed console)
    ++ count_line (codes "destaged ") (count_of kind.Destaged console)

-- all counts of a session of so many programs
unfoldable pub counts_text : ℕ → List EntryData → List Message → List ℕ
counts_text programs history console =
    load_text programs history ++ pages_text console ++ cylinders_text console

-- the last line
abbrev pub ending_text : Ending → List ℕ
ending_text (finished l) = last_text l
ending_text (stopped fault) = stopped_text fault

-- the summary of a session of so many programs
abbrev pub summary_text : ℕ → SessionData → Ending → List ℕ
summary_text programs s ending =
    counts_text programs s.history s.console ++ ending_text ending
