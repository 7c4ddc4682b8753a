use Rattle.std.proofs.Common.{subst, sym}
use Rattle.mss_base.specs.Puts.{Puts}
use Rattle.shown_volumes.specs.declared.refused.Refused.{Refused}
use Rattle.report_text.specs.Refusals.{refused_text}
use Rattle.report_text.proofs.refusal.put_refused.Goals as goal

pub returns-in-RowDamaged-clause-bytes : goal.returns-in-RowDamaged-clause-bytes
unfolding refused_text
returns-in-RowDamaged-clause-bytes g c = λ told.
    subst (λ (refused : Refused). Puts c.put_row_damaged.result (g.O.Sink.told c.args.output.now) (g.O.Sink.told c.put_row_damaged.new.output) (refused_text refused)) (sym c.in-RowDamaged.is) (c.put_row_damaged.ensures.bytes told)

pub returns-in-RowUnread-clause-bytes : goal.returns-in-RowUnread-clause-bytes
unfolding refused_text
returns-in-RowUnread-clause-bytes g c = λ told.
    subst (λ (refused : Refused). Puts c.put_row_unread.result (g.O.Sink.told c.args.output.now) (g.O.Sink.told c.put_row_unread.new.output) (refused_text refused)) (sym c.in-RowUnread.is) (c.put_row_unread.ensures.bytes told)

pub returns-in-SerialDiffers-clause-bytes : goal.returns-in-SerialDiffers-clause-bytes
unfolding refused_text
returns-in-SerialDiffers-clause-bytes g c = λ told.
    subst (λ (refused : Refused). Puts c.put_serial_differs.result (g.O.Sink.told c.args.output.now) (g.O.Sink.told c.put_serial_differs.new.output) (refused_text refused)) (sym c.in-SerialDiffers.is) (c.put_serial_differs.ensures.bytes told)

pub returns-in-CartridgeTwice-clause-bytes : goal.returns-in-CartridgeTwice-clause-bytes
unfolding refused_text
returns-in-CartridgeTwice-clause-bytes g c = λ told.
    subst (λ (refused : Refused). Puts c.put_cartridge_twice.result (g.O.Sink.told c.args.output.now) (g.O.Sink.told c.put_cartridge_twice.new.output) (refused_text refused)) (sym c.in-CartridgeTwice.is) (c.put_cartridge_twice.ensures.bytes told)

pub returns-in-FrameGone-clause-bytes : goal.returns-in-FrameGone-clause-bytes
unfolding refused_text
returns-in-FrameGone-clause-bytes g c = λ told.
    subst (λ (refused : Refused). Puts c.put_frame_gone.result (g.O.Sink.told c.args.output.now) (g.O.Sink.told c.put_frame_gone.new.output) (refused_text refused)) (sym c.in-FrameGone.is) (c.put_frame_gone.ensures.bytes told)

pub returns-in-FrameTwice-clause-bytes : goal.returns-in-FrameTwice-clause-bytes
unfolding refused_text
returns-in-FrameTwice-clause-bytes g c = λ told.
    subst (λ (refused : Refused). Puts c.put_frame_twice.result (g.O.Sink.told c.args.output.now) (g.O.Sink.told c.put_frame_twice.new.output) (refused_text refused)) (sym c.in-FrameTwice.is) (c.put_frame_twice.ensures.bytes told)

pub returns-in-TornTrack-clause-bytes : goal.returns-in-TornTrack-clause-bytes
unfolding refused_text
returns-in-TornTrack-clause-bytes g c = λ told.
    subst (λ (refused : Refused). Puts c.put_place.result (g.O.Sink.told c.args.output.now) (g.O.Sink.told c.put_place.new.output) (refused_text refused)) (sym c.in-TornTrack.is) (c.put_place.ensures.bytes told)

pub returns-in-StagedDiffers-clause-bytes : goal.returns-in-StagedDiffers-clause-bytes
unfolding refused_text
returns-in-StagedDiffers-clause-bytes g c = λ told.
    subst (λ (refused : Refused). Puts c.put_place-in-StagedDiffers.result (g.O.Sink.told c.args.output.now) (g.O.Sink.told c.put_place-in-StagedDiffers.new.output) (refused_text refused)) (sym c.in-StagedDiffers.is) (c.put_place-in-StagedDiffers.ensures.bytes told)

pub returns-in-Stopped-clause-bytes : goal.returns-in-Stopped-clause-bytes
unfolding refused_text
returns-in-Stopped-clause-bytes g c = λ told.
    subst (λ (refused : Refused). Puts c.put_numbered.result (g.O.Sink.told c.args.output.now) (g.O.Sink.told c.put_numbered.new.output) (refused_text refused)) (sym c.in-Stopped.is) (c.put_numbered.ensures.bytes told)
