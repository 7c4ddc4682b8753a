-- The walk of all the words: the first names a command.
use Rattle.std.proofs.Common.{◌≡◌, Bool, true, false, ◌||◌, List, [], ◌∷◌, ◌++◌, Option, Some, None, refl, sym, ap, ap₂, ◌∙◌, append_assoc}
use Rattle.std.specs.Prelude.{fold, is_some, codes, if◌then◌else◌}
use Rattle.std.specs.List.{AllByRecursion}
use Rattle.std.specs.Option.{option_map, option_map_or}
use Rattle.std.specs.Str.{bytes_eq}
use Rattle.std.proofs.lemmas.List.{append-nil}
use Rattle.clap.specs.Lexer.{long_of, short_of}
use Rattle.clap.specs.Kinds.{Kinds, or_else}
use Rattle.clap.specs.Walk.{Held, Names, Row, Step, Walk, after_step, finished, idle, is_empty, long_or_other, nothing_held, rows_after, settled, short_or_plain, stop_after, subcommand_met, subcommand_or_other, trailing, walk_from, walked}
use Rattle.clap.specs.Faults.{bundle_fault, built_fault, check_fault, entered_fault, flag_word_fault, other_fault, settle_fault, step_fault, defaults_fault, level_fault, walk_fault}
use Rattle.clap.specs.Simple.{App, Shape, built, entered}
use Rattle.command_words.specs.Options.{Text, dashes}
use Rattle.command_words.specs.Parser.{CommandForm, app, expected_by, serial, threads, show, audit}
use Rattle.command_words.proofs.Walks.{IsSpelled, TopLaw, leaf}
use Rattle.command_words.proofs.Leafs.{flags_unknown, leaf_is}

-- the command as it is built
abbrev top : Shape
top = record app.top { is_built = true }

abbrev forms : Names
forms = (codes "serial", []) ∷ (codes "threads", []) ∷ (codes "show", []) ∷ (codes "audit", []) ∷ []

abbrev whole : App
whole = record { top = top; subs = leaf serial.0 serial.1 ∷ leaf threads.0 threads.1 ∷ leaf show.0 show.1 ∷ leaf audit.0 audit.1 ∷ [] }

is_built : built app ≡ whole
is_built = refl

abbrev start : Walk
start = walk_from nothing_held

-- what is made of the end of a walk, where the words had these faults
abbrev finishing : Kinds → Walk → Option (Option (Text × List Row))
finishing ks end =
    if is_empty (or_else ks (or_else (entered_fault whole end.stopped) (or_else (settle_fault [] false end.held)
    (or_else (defaults_fault (settled [] end.held).rows []) (check_fault top (finished [] end.held) (is_some (entered whole end.stopped)))))))
    then Some (entered whole end.stopped) else None

judged : List Text → Option (Option (Text × List Row))
judged words = if is_empty (built_fault whole nothing_held words) then Some (entered whole (stop_after [] forms words)) else None

-- ---- behind the word that names the command

abbrev gone : Text → List Text → Walk
gone n seen = record (walk_from nothing_held) { stopped = Some (n, seen) }

gone_walk : (n : Text) (seen words : List Text) → fold (walked [] forms) (gone n seen) words ≡ gone n (seen ++ words)
unfolding walked
gone_walk n seen [] = ap (gone n) (sym (append-nil seen))
gone_walk n seen (word ∷ words) = gone_walk n (seen ++ word ∷ []) words ∙ ap (gone n) (append_assoc seen (word ∷ []) words)

gone_quiet : (n : Text) (seen words : List Text) → walk_fault top forms (gone n seen) words ≡ []
unfolding walk_fault walked
gone_quiet n seen [] = refl
gone_quiet n seen (word ∷ words) = gone_quiet n (seen ++ word ∷ []) words

no_more : (ks : Kinds) → or_else ks [] ≡ ks
no_more [] = refl
no_more (k ∷ ks) = refl

abbrev pair : Text → List Row → Option (Text × List Row)
pair n rows = Some (n, rows)

named_if : (n : Text) (rows : List Row) (b : Bool) → (if b then Some (pair n rows) else None) ≡ option_map (pair n) (if b then Some rows else None)
named_if n rows true = refl
named_if n rows false = refl

-- what comes of the words behind the name of a command
named : (n : Text) (ks : Kinds) (rows : List Row) → (if is_empty (or_else ks []) then Some (pair n rows) else None) ≡ option_map (pair n) (if is_empty ks then Some rows else None)
named n ks rows = ap (λ (k : Kinds). if is_empty k then Some (pair n rows) else None) (no_more ks) ∙ named_if n rows (is_empty ks)

-- ---- the first word

abbrev turn_o : Option Text → Text → Kinds
turn_o o word = or_else (other_fault top o word nothing_held) (step_fault top 1 (subcommand_or_other [] o idle 1 word nothing_held).0 (subcommand_or_other [] o idle 1 word nothing_held).1)

abbrev walk_o : Option Text → Text → Walk
walk_o o word = after_step [] word start (subcommand_or_other [] o idle 1 word nothing_held).0 (subcommand_or_other [] o idle 1 word nothing_held).1

abbrev judged_o : Option Text → Text → List Text → Option (Option (Text × List Row))
judged_o o word words = finishing (or_else (turn_o o word) (walk_fault top forms (walk_o o word) words)) (fold (walked [] forms) (walk_o o word) words)

by_first : (word : Text) (words : List Text) → judged (word ∷ words) ≡ judged_o (subcommand_met forms idle word) word words
unfolding judged walk_fault walked
by_first word words = refl

serial_is : (word : Text) (words : List Text) → AllByRecursion IsSpelled words → judged_o (Some (codes "serial")) word words ≡ expected_by (Some serial) words
unfolding defaults_fault
serial_is word words spelled =
    ap₂ (λ (ks : Kinds) (w : Walk). finishing ks w) (gone_quiet (codes "serial") [] words) (gone_walk (codes "serial") [] words)
    ∙ named (codes "serial") (level_fault (leaf serial.0 serial.1) [] nothing_held words false []) (rows_after (leaf serial.0 serial.1).rules [] words)
    ∙ ap (option_map (pair (codes "serial"))) (leaf_is serial.0 serial.1 words spelled)

threads_is : (word : Text) (words : List Text) → AllByRecursion IsSpelled words → judged_o (Some (codes "threads")) word words ≡ expected_by (Some threads) words
unfolding defaults_fault
threads_is word words spelled =
    ap₂ (λ (ks : Kinds) (w : Walk). finishing ks w) (gone_quiet (codes "threads") [] words) (gone_walk (codes "threads") [] words)
    ∙ named (codes "threads") (level_fault (leaf threads.0 threads.1) [] nothing_held words false []) (rows_after (leaf threads.0 threads.1).rules [] words)
    ∙ ap (option_map (pair (codes "threads"))) (leaf_is threads.0 threads.1 words spelled)

show_is : (word : Text) (words : List Text) → AllByRecursion IsSpelled words → judged_o (Some (codes "show")) word words ≡ expected_by (Some show) words
unfolding defaults_fault
show_is word words spelled =
    ap₂ (λ (ks : Kinds) (w : Walk). finishing ks w) (gone_quiet (codes "show") [] words) (gone_walk (codes "show") [] words)
    ∙ named (codes "show") (level_fault (leaf show.0 show.1) [] nothing_held words false []) (rows_after (leaf show.0 show.1).rules [] words)
    ∙ ap (option_map (pair (codes "show"))) (leaf_is show.0 show.1 words spelled)

audit_is : (word : Text) (words : List Text) → AllByRecursion IsSpelled words → judged_o (Some (codes "audit")) word words ≡ expected_by (Some audit) words
unfolding defaults_fault
audit_is word words spelled =
    ap₂ (λ (ks : Kinds) (w : Walk). finishing ks w) (gone_quiet (codes "audit") [] words) (gone_walk (codes "audit") [] words)
    ∙ named (codes "audit") (level_fault (leaf audit.0 audit.1) [] nothing_held words false []) (rows_after (leaf audit.0 audit.1).rules [] words)
    ∙ ap (option_map (pair (codes "audit"))) (leaf_is audit.0 audit.1 words spelled)

-- ---- a first word that names no command

abbrev met_b : Bool → Option (Text × Option Text) → Text → Held × Step
met_b b l word = if b then (nothing_held, trailing 1) else long_or_other [] idle word l nothing_held

abbrev judged_b : Bool → Option (Text × Option Text) → Text → List Text → Option (Option (Text × List Row))
judged_b b l word words =
    let turn = or_else (if b then [] else flag_word_fault [] false l word nothing_held) (step_fault top 1 (met_b b l word).0 (met_b b l word).1) in
    let next = after_step [] word start (met_b b l word).0 (met_b b l word).1 in
    finishing (or_else turn (walk_fault top forms next words)) (fold (walked [] forms) next words)

abbrev judged_s : Option Text → Text → List Text → Option (Option (Text × List Row))
judged_s sh word words =
    let met = short_or_plain [] idle word sh nothing_held in
    let turn = or_else (option_map_or (λ (f : Text). bundle_fault [] false f nothing_held) sh []) (step_fault top 1 met.0 met.1) in
    let next = after_step [] word start met.0 met.1 in
    finishing (or_else turn (walk_fault top forms next words)) (fold (walked [] forms) next words)

lost_plain : (word : Text) (words : List Text) → IsSpelled word → (sh : Option Text) → short_of word ≡ sh → judged_s sh word words ≡ None
lost_plain word words spelled None e = refl
lost_plain word words spelled (Some flags) e =
    let first = spelled flags e in
    let met = short_or_plain [] idle word (Some flags) nothing_held in
    let next = after_step [] word start met.0 met.1 in
    ap (λ (ks : Kinds). finishing (or_else (or_else ks (step_fault top 1 met.0 met.1)) (walk_fault top forms next words)) (fold (walked [] forms) next words)) (flags_unknown (codes "mss") [] flags nothing_held first.0 first.1)

lost : (word : Text) (words : List Text) → IsSpelled word → (b : Bool) (l : Option (Text × Option Text)) → judged_b b l word words ≡ None
unfolding walk_fault defaults_fault
lost word [] spelled true l = refl
lost word (x ∷ xs) spelled true l = refl
lost word words spelled false (Some (n, v)) = refl
lost word words spelled false None = lost_plain word words spelled (short_of word) refl

none_is : (word : Text) (words : List Text) → IsSpelled word → judged_o None word words ≡ None
none_is word words spelled = lost word words spelled (bytes_eq word dashes) (long_of word)

-- ---- all the words

abbrev met_by : Bool → Bool → Bool → Bool → Option Text
met_by a b c d = option_map (λ (s : Text × List Text). s.0)
    (if a || false then Some (codes "serial", []) else (if b || false then Some (codes "threads", []) else (if c || false then Some (codes "show", []) else (if d || false then Some (codes "audit", []) else None))))

abbrev form_by : Bool → Bool → Bool → Bool → Option CommandForm
form_by a b c d = if a then Some serial else (if b then Some threads else (if c then Some show else (if d then Some audit else None)))

by_name : (word : Text) (words : List Text) → IsSpelled word → AllByRecursion IsSpelled words → (a b c d : Bool) → judged_o (met_by a b c d) word words ≡ expected_by (form_by a b c d) words
by_name word words spelled all true b c d = serial_is word words all
by_name word words spelled all false true c d = threads_is word words all
by_name word words spelled all false false true d = show_is word words all
by_name word words spelled all false false false true = audit_is word words all
by_name word words spelled all false false false false = none_is word words spelled

pub top_is : TopLaw
unfolding judged walk_fault defaults_fault
top_is [] spelled = refl
top_is (word ∷ words) spelled =
    by_first word words ∙ by_name word words spelled.0 spelled.1 (bytes_eq (codes "serial") word) (bytes_eq (codes "threads") word) (bytes_eq (codes "show") word) (bytes_eq (codes "audit") word)
