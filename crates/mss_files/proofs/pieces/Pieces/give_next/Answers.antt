use Rattle.mss_files.proofs.Starts.{start_same, piece_in_use}
use Rattle.mss_files.proofs.pieces.Pieces.give_next.Goals as goal

pub returns-clause-others : goal.returns-clause-others
returns-clause-others c = λ other differ used.
    start_same _ _ _ _ other c.exchange.ensures.size
    (c.exchange.ensures.others other differ (piece_in_use c.args.self.now.size c.args.used _ other c.args.self.now.some used))
