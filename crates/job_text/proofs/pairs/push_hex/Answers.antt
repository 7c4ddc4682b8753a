use Rattle.std.proofs.Common.{◌≡◌, ℕ, true, List, [], ◌∷◌, ◌++◌, Result, Ok, Err, refl, sym, ◌∙◌, ap, subst, take, drop, length, arith, eqb-true}
use Rattle.std.specs.Prelude.{◌==◌, OnErr}
use Rattle.mss_base.specs.Puts.{PutsFront}
use Rattle.std.proofs.lemmas.Grind.{flat_map-append}
use Rattle.std.proofs.lemmas.List.{take-append-drop}
use Rattle.mss_base.proofs.Putting.{Part, part_begins, part_ends, part_goes_on, part_stops, puts_nothing}
use Rattle.job_text.specs.Canonical.{hex, hex_byte}
use Rattle.job_text.proofs.pairs.push_hex.Goals as goal

-- of the digits of some bytes those of the first ones come first
cut_digits : (n : ℕ) (rest front after : List ℕ) → front ≡ take n rest → after ≡ drop n rest → hex rest ≡ hex front ++ hex after
cut_digits n rest front after first last =
    ap hex (sym (take-append-drop n rest) ∙ (λ i. sym first i ++ sym last i)) ∙ flat_map-append hex_byte front after

-- of no bytes there are no digits
no_digits : (rest : List ℕ) → (length rest == 0) ≡ true → hex rest ≡ []
no_digits [] none = refl
no_digits (x ∷ rest) none = let long : length (x ∷ rest) ≡ 0 = eqb-true (length (x ∷ rest)) 0 none in absurd (omega (arith, long))

on_err : {T E : Type 0} {P : Type 0} (r : Result T E) → P → OnErr r P
on_err (Ok x) p = tt
on_err (Err e) p = p

pub loop-rest-init : goal.loop-rest-init
loop-rest-init c = subst (λ out. Part c.args.out.now.items out (hex c.args.bytes.now) (hex c.args.bytes.now)) (sym c.reserve.ensures.items) (part_begins c.args.out.now.items (hex c.args.bytes.now))

pub loop-rest-preserved : goal.loop-rest-preserved
loop-rest-preserved c =
    let cut = cut_digits _ c.loop-rest.rest.now c.split_at.result.0.now c.split_at.result.1.now c.split_at.ensures.front c.split_at.ensures.back in
    part_goes_on _ _ _ (hex c.split_at.result.0.now) (hex c.split_at.result.1.now) _
    (subst (λ rest. Part c.args.out.now.items c.loop-rest.out.items rest (hex c.args.bytes.now)) cut c.loop-rest.invariant) c.in_ok-push_piece.ensures.ok

pub returns-clause-ok : goal.returns-clause-ok
returns-clause-ok c =
    let none = no_digits c.loop-rest.rest.now (sym c.is_empty.ensures ∙ c.loop-rest-test.false) in
    part_ends _ _ _ (subst (λ rest. Part c.args.out.now.items c.loop-rest.out.items rest (hex c.args.bytes.now)) none c.loop-rest.invariant)

pub returns-in_err-push_piece-clause-memory : goal.returns-in_err-push_piece-clause-memory
returns-in_err-push_piece-clause-memory c =
    let cut = cut_digits _ c.loop-rest.rest.now c.split_at.result.0.now c.split_at.result.1.now c.split_at.ensures.front c.split_at.ensures.back in
    let part = subst (λ rest. Part c.args.out.now.items c.loop-rest.out.items rest (hex c.args.bytes.now)) cut c.loop-rest.invariant in
    let none = subst (λ out. PutsFront c.loop-rest.out.items out (hex c.split_at.result.0.now)) (sym c.in_err-push_piece.ensures.err) (puts_nothing c.loop-rest.out.items (hex c.split_at.result.0.now)) in
    on_err c.from_residual-in_err-push_piece.result (part_stops _ _ _ (hex c.split_at.result.0.now) (hex c.split_at.result.1.now) _ part none)
