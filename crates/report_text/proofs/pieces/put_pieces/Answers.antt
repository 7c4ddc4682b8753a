use Rattle.std.proofs.Common.{◌∙◌, arith}
use Rattle.report_text.proofs.LineLemmas.{puts_failed, pieces_end, pieces_go_on, pieces_stop}
use Rattle.report_text.proofs.pieces.put_pieces.Goals as goal

pub returns-in_err-put_text-clause-bytes : goal.returns-in_err-put_text-clause-bytes
returns-in_err-put_text-clause-bytes g c = λ told.
    puts_failed c.from_residual.result _ _ _ _ c.from_residual.ensures.1
    (pieces_stop (λ piece. piece.now) _ _ _ c.loop-piece.piece-index c.args.pieces.now _ c.loop-piece-test.true
    (c.loop-piece.invariant.put told) (c.in_err-put_text.ensures.bytes told))

pub loop-piece-preserved : goal.loop-piece-preserved
loop-piece-preserved g c = record {
  put = λ told. pieces_go_on (λ piece. piece.now) _ _ _ c.loop-piece.piece-index c.args.pieces.now _ c.loop-piece-test.true (c.loop-piece.invariant.put told) (c.in_ok-put_text.ensures.bytes told);
  same = c.in_ok-put_text.ensures.cause.same ∙ c.loop-piece.invariant.same;
}

pub returns-clause-bytes : goal.returns-clause-bytes
returns-clause-bytes g c = λ told. pieces_end (λ piece. piece.now) _ _ c.loop-piece.piece-index c.args.pieces.now (omega (arith, c.loop-piece-test.false)) (c.loop-piece.invariant.put told)
