use Rattle.std.proofs.Common.{ℕ, List, sym, ap, subst, ◌∙◌}
use Rattle.std.proofs.lemmas.Result.{IfOk-weaker}
use Rattle.ckd_plain.specs.Data.{padded_bytes}
use Rattle.track_engine.specs.Writing.{Spells}
use Rattle.track_engine.proofs.Spelling.{spells-padded}
use Rattle.track_engine.proofs.write.padded_record.Goals as goal

pub returns : goal.returns
returns c =
    IfOk-weaker c.padded.result _ _
    (λ copy is. subst (λ (bytes : List ℕ). Spells c.args.argument.now bytes) (sym (is ∙ ap (λ (n : ℕ). padded_bytes n c.args.argument.now) c.record_length.ensures)) (spells-padded c.args.argument.now c.requires))
    c.padded.ensures
