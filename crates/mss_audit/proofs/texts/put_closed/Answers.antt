use Rattle.std.proofs.Common.{◌≡◌, List, ℕ, [], ◌∷◌, codes, decimal, ◌∙◌, ap, subst}
use Rattle.std.specs.List.{flat_map}
use Rattle.mss_base.specs.Puts.{Puts}
use Rattle.report_text.proofs.LineLemmas.{pieces_joined}
use Rattle.mss_audit.proofs.texts.put_closed.Goals as goal

pub returns-clause-bytes : goal.returns-clause-bytes
returns-clause-bytes g c = λ told.
    let volume_is : c.format.result.now ≡ decimal c.args.volume = c.format.ensures.text ∙ ap decimal c.get.ensures.value in
    subst (λ (text : List ℕ). Puts c.put_pieces.result (g.O.Sink.told c.args.output.now) (g.O.Sink.told c.put_pieces.new.output) text)
    ((λ i. flat_map (λ (piece : List ℕ). piece) (c.args.text.now ∷ volume_is i ∷ codes " copy " ∷ c.args.copy.now ∷ codes " closed\n" ∷ []))
    ∙ pieces_joined c.args.text.now (decimal c.args.volume ∷ codes " copy " ∷ c.args.copy.now ∷ codes " closed\n" ∷ []))
    (c.put_pieces.ensures.bytes told)
