use Rattle.std.proofs.Common.{◌≡◌, List, ℕ, [], ◌∷◌, codes, decimal, ◌∙◌, ap, subst}
use Rattle.std.specs.List.{flat_map}
use Rattle.mss_base.specs.Puts.{Puts}
use Rattle.report_text.proofs.LineLemmas.{pieces_joined}
use Rattle.mss_audit.proofs.texts.put_differs.Goals as goal

pub returns-clause-bytes : goal.returns-clause-bytes
returns-clause-bytes g c = λ told.
    let volume_is : c.format.result.now ≡ decimal c.args.volume = c.format.ensures.text ∙ ap decimal c.get.ensures.value in
    let place_is : c.format-2.result.now ≡ decimal c.args.place = c.format-2.ensures.text in
    let a_is : c.format-3.result.now ≡ decimal c.args.a = c.format-3.ensures.text in
    let b_is : c.format-4.result.now ≡ decimal c.args.b = c.format-4.ensures.text in
    subst (λ (text : List ℕ). Puts c.put_pieces.result (g.O.Sink.told c.args.output.now) (g.O.Sink.told c.put_pieces.new.output) text)
    ((λ i. flat_map (λ (piece : List ℕ). piece) (c.args.text.now ∷ volume_is i ∷ codes " copies differ place " ∷ place_is i ∷ codes " values " ∷ a_is i ∷ codes " " ∷ b_is i ∷ codes "\n" ∷ []))
    ∙ pieces_joined c.args.text.now (decimal c.args.volume ∷ codes " copies differ place " ∷ decimal c.args.place ∷ codes " values " ∷ decimal c.args.a ∷ codes " " ∷ decimal c.args.b ∷ codes "\n" ∷ []))
    (c.put_pieces.ensures.bytes told)
