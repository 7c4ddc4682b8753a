use Rattle.std.proofs.Common.{ℕ, List, sym, ap, subst, ◌∙◌}
use Rattle.std.proofs.lemmas.Option.{IfSome_then}
use Rattle.ckd_plain.specs.Data.{padded_bytes}
use Rattle.track_engine.specs.Writing.{Spells}
use Rattle.track_engine.proofs.Spelling.{spells-padded}
use Rattle.track_engine.proofs.write.whole_record.Goals as goal

pub returns : goal.returns
returns c =
    IfSome_then c.first_bytes.result c.first_bytes.ensures
    (λ bytes is. subst (λ (b : List ℕ). Spells c.args.argument.now b) (sym (is ∙ ap (λ (n : ℕ). padded_bytes n c.args.argument.now) c.record_length.ensures)) (spells-padded c.args.argument.now c.requires))
