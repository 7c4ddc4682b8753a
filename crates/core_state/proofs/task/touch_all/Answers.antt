use Rattle.std.proofs.Common.{◌≡◌, ℕ, zero, suc, ◌+◌, ◌<◌, length, List, [], ◌∷◌, ◌++◌, take, drop, set, get_or, Option, None, refl, sym, ◌∙◌, ap, arith}
use Rattle.core_state.specs.declared.task.Task.{Task}
use Rattle.core_state.specs.Tasks.{touched_by}
use Rattle.core_state.specs.Tasks.{touched_all}
use Rattle.core_state.proofs.task.touch_all.Goals as goal

step : (volume page : ℕ) (xs : List (Option Task)) (i : ℕ) → i < length xs
    → set (touched_all volume page (take i xs) ++ drop i xs) i (touched_by volume page (get_or (touched_all volume page (take i xs) ++ drop i xs) i None)) ≡ touched_all volume page (take (suc i) xs) ++ drop (suc i) xs
step volume page [] i lt = absurd (omega arith)
step volume page (x ∷ xs) zero lt = refl
step volume page (x ∷ xs) (suc i) lt = ap (λ (l : List (Option Task)). touched_by volume page x ∷ l) (step volume page xs i (omega arith))

more : (volume page : ℕ) (xs now : List (Option Task)) (i j : ℕ) (x : Option Task) → now ≡ touched_all volume page (take i xs) ++ drop i xs → i < length xs → j ≡ suc i → x ≡ touched_by volume page (get_or now i None)
    → set now i x ≡ touched_all volume page (take j xs) ++ drop j xs
more volume page xs now i j x is lt next at =
    (λ k. set (is k) i (at k)) ∙ ap (λ (l : List (Option Task)). set (touched_all volume page (take i xs) ++ drop i xs) i (touched_by volume page (get_or l i None))) is
    ∙ step volume page xs i lt ∙ ap (λ (m : ℕ). touched_all volume page (take m xs) ++ drop m xs) (sym next)

any_default : (xs : List (Option Task)) (i : ℕ) (d e : Option Task) → i < length xs → get_or xs i d ≡ get_or xs i e
any_default [] i d e lt = absurd (omega arith)
any_default (x ∷ xs) zero d e lt = refl
any_default (x ∷ xs) (suc i) d e lt = any_default xs i d e (omega arith)

long : (volume page : ℕ) (xs : List (Option Task)) (i : ℕ) → length (touched_all volume page (take i xs) ++ drop i xs) ≡ length xs
long volume page [] zero = refl
long volume page [] (suc i) = refl
long volume page (x ∷ xs) zero = refl
long volume page (x ∷ xs) (suc i) = ap suc (long volume page xs i)

pub loop-i-preserved : goal.loop-i-preserved
loop-i-preserved c =
    let end = c.len-i-end.ensures in
    let lt : c.loop-i.i < length c.args.tasks.now.items = omega arith in
    let size : length c.loop-i.tasks.items ≡ length c.args.tasks.now.items = ap (length {A = Option Task}) c.loop-i.invariant ∙ long c.args.volume c.args.page c.args.tasks.now.items c.loop-i.i in
    more c.args.volume c.args.page c.args.tasks.now.items c.loop-i.tasks.items c.loop-i.i (c.loop-i.i + 1) c.touch.result c.loop-i.invariant lt (omega arith)
    (c.touch.ensures ∙ ap (touched_by c.args.volume c.args.page) (c.index.ensures ∙ any_default c.loop-i.tasks.items c.loop-i.i c.index.result.now None (omega (arith, size, lt))))
