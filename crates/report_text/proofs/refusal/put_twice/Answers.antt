use Rattle.std.proofs.Common.{◌≡◌, List, ℕ, [], ◌∷◌, codes, decimal, ◌∙◌, subst}
use Rattle.std.specs.List.{flat_map}
use Rattle.mss_base.specs.Puts.{Puts}
use Rattle.report_text.proofs.LineLemmas.{twice_pieces}
use Rattle.report_text.proofs.refusal.put_twice.Goals as goal

pub returns-clause-bytes : goal.returns-clause-bytes
returns-clause-bytes g c = λ told.
    let number : c.format.result.now ≡ decimal c.args.number = c.format.ensures.text in
    let a : c.format-2.result.now ≡ decimal c.args.first.0 = c.format-2.ensures.text in
    let b : c.format-3.result.now ≡ decimal c.args.first.1 = c.format-3.ensures.text in
    let d : c.format-4.result.now ≡ decimal c.args.second.0 = c.format-4.ensures.text in
    let e : c.format-5.result.now ≡ decimal c.args.second.1 = c.format-5.ensures.text in
    subst (λ (text : List ℕ). Puts c.put_pieces.result (g.O.Sink.told c.args.output.now) (g.O.Sink.told c.put_pieces.new.output) text)
    ((λ i. flat_map (λ (piece : List ℕ). piece) (c.args.text.now ∷ number i ∷ codes " twice" ∷ codes " volume " ∷ a i ∷ c.args.word.now ∷ b i ∷ codes " volume " ∷ d i ∷ c.args.word.now ∷ e i ∷ codes "\n" ∷ []))
    ∙ twice_pieces c.args.text.now (decimal c.args.number) (codes " twice") (codes " volume ") (decimal c.args.first.0) c.args.word.now (decimal c.args.first.1) (decimal c.args.second.0) (decimal c.args.second.1) (codes "\n"))
    (c.put_pieces.ensures.bytes told)
