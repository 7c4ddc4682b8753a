use Rattle.std.proofs.Common.{◌≡◌, List, [], Option, ℕ, ◌++◌, sym, ap, ◌∙◌, subst}
use Rattle.std.specs.Option.{option_and_then}
use Rattle.std.proofs.lemmas.List.{append-nil}
use Rattle.mss_base.specs.Content.{content}
use Rattle.volume_table.specs.Row.{RowValue}
use Rattle.shown_volumes.specs.Shown.{source, track_at}
use Rattle.report_text.specs.Texts.{tracks_text}
use Rattle.session_report.specs.Parts.{TracksOfVolume, CanReadRow, MayFail, PutsTracks, TellsNoRead, block_of, row_tracks}
use Rattle.session_report.proofs.Framing.{grows_none}
use Rattle.session_report.proofs.Told.{blank_tracks}
use Rattle.session_report.proofs.VolumeTexts.{blank_throughout}
use Rattle.session_report.proofs.volumes.put_row.Goals as goal

-- of blank tracks nothing is to be put
nothing_put : (tells : Type 0) (track : TracksOfVolume) (told : List ℕ) → ((cylinder head : ℕ) → track cylinder head ≡ []) → tells → told ≡ told ++ tracks_text track 7676
nothing_put tells track told blank t = sym (ap (λ (text : List ℕ). told ++ text) (blank_tracks track blank 7676) ∙ append-nil told)

pub returns-in_default-clause-bytes : goal.returns-in_default-clause-bytes
returns-in_default-clause-bytes g c =
    nothing_put (g.S.Site.tells × g.O.Sink.tells) _ (g.O.Sink.told c.args.output.now)
    (λ cylinder head. ap (λ row. track_at (content (g.S.Site.told c.args.site.now)) (option_and_then (λ r. source r cylinder head) row)) c.in_default.is)

pub returns-then-is_blank_throughout-clause-bytes : goal.returns-then-is_blank_throughout-clause-bytes
returns-then-is_blank_throughout-clause-bytes g c =
    nothing_put (g.S.Site.tells × g.O.Sink.tells) _ (g.O.Sink.told c.args.output.now)
    (subst (λ (row : Option RowValue). (cylinder head : ℕ) → row_tracks (content (g.S.Site.told c.args.site.now)) row cylinder head ≡ []) (sym c.in-Some.is)
    (blank_throughout (content (g.S.Site.told c.args.site.now)) c.in-Some.row (c.is_blank_throughout.ensures.0 c.if-is_blank_throughout.true)))

pub returns-clause-works : goal.returns-clause-works
returns-clause-works g c =
    subst (λ (row : Option RowValue). CanReadRow g.S.Site c.args.site.now row → TellsNoRead c.put_tracks.result)
    (sym c.in-Some.is) c.put_tracks.ensures.works

pub returns-clause-bytes : goal.returns-clause-bytes
returns-clause-bytes g c =
    subst (λ (row : Option RowValue). PutsTracks (g.S.Site.tells × g.O.Sink.tells) (λ n. MayFail g.S.Site c.args.site.now (block_of row n)) [] (row_tracks (content (g.S.Site.told c.args.site.now)) row)
    (g.O.Sink.told c.args.output.now) (g.O.Sink.told c.put_tracks.new.output) c.put_tracks.result)
    (sym c.in-Some.is) c.put_tracks.ensures.bytes

pub returns-in_default-clause-grown : goal.returns-in_default-clause-grown
returns-in_default-clause-grown g c = λ told. grows_none (g.O.Sink.told c.args.output.now)
