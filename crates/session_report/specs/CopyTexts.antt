-- What a report says of a copy of a volume, behind the volumes. Each line ends with a line feed.
use Rattle.std.specs.Prelude.{ℕ, List, [], ◌++◌, Option, Some, None, unwrap_or, codes, decimal}
use Rattle.report_text.specs.Texts.{tracks_text}
use Rattle.volume_copy.specs.Copies.{CopyData, taken_at, track_number}
use Rattle.volume_copy.specs.declared.copier.CopyState.{CopyState}
use Rattle.volume_copy.specs.declared.copier.CopyState.TheVariants as far
use Rattle.volume_copy.specs.declared.taken.Taken.{Taken}
use Rattle.session_report.specs.Parts.{TracksOfVolume}
use Rattle.session_report.specs.Reports.{TRACKS_OF_VOLUME}

-- the tracks of a copy, by cylinder and head; one that isn't taken counts as blank
abbrev pub copied_tracks : List Taken → TracksOfVolume
copied_tracks tracks cylinder head = unwrap_or (taken_at tracks (track_number cylinder head)) []

-- the volume, and behind how many entries the copy has it
unfoldable pub copied_line : ℕ → ℕ → List ℕ
copied_line volume point =
    codes "copy " ++ decimal volume ++ codes " after " ++ decimal point ++ codes "\n"

-- there was no such volume
unfoldable pub no_volume_line : ℕ → List ℕ
no_volume_line volume = codes "copy " ++ decimal volume ++ codes " no volume\n"

-- a read for the copy failed, and this is the count of faults then
unfoldable pub failed_line : ℕ → ℕ → List ℕ
failed_line volume fault =
    codes "copy " ++ decimal volume ++ codes " failed fault " ++ decimal fault ++ codes "\n"

-- A whole copy is told with the tracks that a volume in a report has. One that is armed, or still
-- taking, has no text; behind `finish`, which takes what is left, none is.
abbrev pub text_at : CopyState → CopyData → List ℕ
text_at far.Whole c =
    copied_line c.volume c.point ++ tracks_text (copied_tracks c.tracks) TRACKS_OF_VOLUME
text_at far.NoVolume c = no_volume_line c.volume
text_at (far.Failed fault) c = failed_line c.volume fault
text_at far.Armed c = []
text_at far.Taking c = []

abbrev pub copy_text : CopyData → List ℕ
copy_text c = text_at c.state c

-- a session that took no copy has no text of one
abbrev pub behind_text : Option CopyData → List ℕ
behind_text (Some c) = copy_text c
behind_text None = []
