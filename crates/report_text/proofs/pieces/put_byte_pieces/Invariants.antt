use Rattle.std.proofs.Common.{◌≡◌, drop}
use Rattle.std.specs.List.{flat_map}
use Rattle.mss_base.proofs.Putting.{Part}
use Rattle.report_text.proofs.pieces.put_byte_pieces.Given as goal

abbrev pub invariant-loop-piece : goal.invariant-loop-piece
invariant-loop-piece g l = record {
  put : g.O.Sink.tells → Part (g.O.Sink.told l.initial.output) (g.O.Sink.told l.output)
      (flat_map (λ piece. piece.now) (drop l.piece-index l.pieces)) (flat_map (λ piece. piece.now) l.pieces);
  same : g.O.Sink.faults l.output ≡ g.O.Sink.faults l.initial.output;
}
