use Rattle.std.proofs.Common.{◌≡◌, List, ℕ, [], ◌∷◌, codes, decimal, ◌∙◌, ap, subst}
use Rattle.std.specs.List.{flat_map}
use Rattle.mss_base.specs.Puts.{Puts}
use Rattle.report_text.specs.Refusals.{number_text}
use Rattle.report_text.proofs.LineLemmas.{damaged_pieces}
use Rattle.report_text.proofs.refusal.put_damaged.Goals as goal

pub returns-clause-bytes : goal.returns-clause-bytes
returns-clause-bytes g c = λ told.
    let volume_is : c.format.result.now ≡ decimal c.args.volume = c.format.ensures.text ∙ ap decimal c.get.ensures.value in
    let place_is : c.digits_of.result.now ≡ number_text c.args.field.1 = c.digits_of.ensures in
    let value_is : c.format-2.result.now ≡ decimal c.args.value = c.format-2.ensures.text in
    subst (λ (text : List ℕ). Puts c.put_pieces.result (g.O.Sink.told c.args.output.now) (g.O.Sink.told c.put_pieces.new.output) text)
    ((λ i. flat_map (λ (piece : List ℕ). piece) (c.args.text.now ∷ volume_is i ∷ codes " copy " ∷ c.args.copy.now ∷ c.args.word.now ∷ c.args.field.0.now ∷ place_is i ∷ codes " value " ∷ value_is i ∷ codes "\n" ∷ []))
    ∙ damaged_pieces c.args.text.now (decimal c.args.volume) (codes " copy ") c.args.copy.now c.args.word.now c.args.field.0.now (number_text c.args.field.1) (codes " value ") (decimal c.args.value) (codes "\n"))
    (c.put_pieces.ensures.bytes told)
