use Rattle.std.proofs.Common.{◌≡◌, List, ℕ, [], ◌∷◌, codes, decimal, ◌∙◌, ap, subst}
use Rattle.std.specs.List.{flat_map}
use Rattle.mss_base.specs.Puts.{Puts}
use Rattle.report_text.proofs.LineLemmas.{pieces_joined}
use Rattle.report_text.proofs.refusal.put_row_unread.Goals as goal

pub returns-clause-bytes : goal.returns-clause-bytes
returns-clause-bytes g c = λ told.
    let volume_is : c.format.result.now ≡ decimal c.args.volume = c.format.ensures.text ∙ ap decimal c.get.ensures.value in
    let fault_is : c.format-2.result.now ≡ decimal c.args.fault = c.format-2.ensures.text in
    subst (λ (text : List ℕ). Puts c.put_pieces.result (g.O.Sink.told c.args.output.now) (g.O.Sink.told c.put_pieces.new.output) text)
    ((λ i. flat_map (λ (piece : List ℕ). piece) (c.args.text.now ∷ volume_is i ∷ codes " unread fault " ∷ fault_is i ∷ codes "\n" ∷ []))
    ∙ pieces_joined c.args.text.now (decimal c.args.volume ∷ codes " unread fault " ∷ decimal c.args.fault ∷ codes "\n" ∷ []))
    (c.put_pieces.ensures.bytes told)
