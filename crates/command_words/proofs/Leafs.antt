-- A command of options alone: its walk, word by word.
use Rattle.std.proofs.Common.{◌≡◌, ℕ, Bool, true, false, not, ◌&&◌, ◌||◌, cond, List, [], ◌∷◌, ◌++◌, map, length, Option, Some, None, refl, sym, ap, ◌∙◌}
use Rattle.std.specs.Prelude.{drop, encode_utf8, fold, slice_get, is_some, nat_lt, if◌then◌else◌}
use Rattle.std.specs.List.{AllByRecursion, list_any}
use Rattle.std.specs.Option.{option_map, option_and_then, option_map_or}
use Rattle.std.specs.Str.{bytes_eq, chars}
use Rattle.std.proofs.lemmas.Bool.{and_from, and_parts, eqb-true, eq-eqb}
use Rattle.std.proofs.lemmas.List.{append-nil}
use Rattle.clap.specs.Lexer.{long_of, short_of}
use Rattle.clap.specs.Kinds.{Kinds, or_else}
use Rattle.clap.specs.Walk.{Held, Row, Rule, Step, Waiting, Walk, after_step, idle, option as due, positional, trailing, subcommand_met, long_or_other, more_values, arg_by_id, arg_by_index, arg_by_long, arg_by_short, short_or_plain, after_flag, option_word, long_met, used_by_id, at_row, finished, has_row, is_empty, settled, used, walked, with_default}
use Rattle.clap.specs.Faults.{bundle_fault, bundle_step_fault, check_fault, defaults_fault, positional_fault, short_fault, flag_word_fault, long_fault, step_fault, flags_fault, settle_fault, turn_fault, use_fault, walk_fault}
use Rattle.clap.specs.declared.error.kind.ErrorKind.{ErrorKind}
use Rattle.clap.specs.declared.error.kind.ErrorKind.TheVariants as kind
use Rattle.clap.specs.Simple.{Shape}
use Rattle.clap.specs.declared.parser.matches.ValueSource.TheVariants.{CommandLine}
use Rattle.clap.specs.Takes.{is_given}
use Rattle.command_words.specs.Options.{Given, Text, dashes, knows, nothing_behind, once, option_given, options_in, with_first}
use Rattle.command_words.specs.Parser.{row_for, rule_for}
use Rattle.command_words.proofs.Walks.{IsSpelled, LeafLaw, leaf, outcome, rules_for, tail_fault}

bytes_same : (xs : Text) → bytes_eq xs xs ≡ true
bytes_same [] = refl
bytes_same (x ∷ xs) = and_from _ _ (eq-eqb x x refl) (bytes_same xs)

bytes_is : (xs ys : Text) → bytes_eq xs ys ≡ true → xs ≡ ys
bytes_is [] [] h = refl
bytes_is [] (y ∷ ys) h = absurd (cc)
bytes_is (x ∷ xs) [] h = absurd (cc)
bytes_is (x ∷ xs) (y ∷ ys) h = (let t = and_parts _ _ h in let head = eqb-true x y t.0 in let tail = bytes_is xs ys t.1 in cc)

-- ---- the rules of the options

-- the first rule of which a test of its name holds
found : List Text → Text → Option Rule
found names name = if knows names name then Some (rule_for name) else None

by_long : (names : List Text) (name : Text) → arg_by_long (rules_for names) name ≡ found names name
unfolding found
by_long [] name = refl
by_long (n ∷ names) name = go (bytes_eq n name) refl (by_long names name)
  where
    go : (b : Bool) → bytes_eq n name ≡ b → arg_by_long (rules_for names) name ≡ found names name
        → cond (b || false) (Some (rule_for n)) (arg_by_long (rules_for names) name) ≡ (if b || knows names name then Some (rule_for name) else None)
    go true e rest = ap (λ (t : Text). Some (rule_for t)) (bytes_is n name e)
    go false e rest = rest

by_id : (names : List Text) (name : Text) → arg_by_id (rules_for names) name ≡ found names name
unfolding found
by_id [] name = refl
by_id (n ∷ names) name = go (bytes_eq n name) refl (by_id names name)
  where
    go : (b : Bool) → bytes_eq n name ≡ b → arg_by_id (rules_for names) name ≡ found names name
        → cond b (Some (rule_for n)) (arg_by_id (rules_for names) name) ≡ (if b || knows names name then Some (rule_for name) else None)
    go true e rest = ap (λ (t : Text). Some (rule_for t)) (bytes_is n name e)
    go false e rest = rest

by_short : (names : List Text) (x : ℕ) → arg_by_short (rules_for names) x ≡ None
by_short [] x = refl
by_short (n ∷ names) x = by_short names x

by_index : (names : List Text) (i : ℕ) → arg_by_index (rules_for names) i ≡ None
by_index [] i = refl
by_index (n ∷ names) i = by_index names i

-- ---- the rows of the options that were given

has_given : (done : List Given) (name : Text) → has_row name (map row_for done) ≡ knows (map (λ g. g.0) done) name
has_given [] name = refl
has_given (d ∷ done) name = ap (λ (b : Bool). bytes_eq d.0 name || b) (has_given done name)

no_row : (name : Text) (change : Row → List Row) (missing : List Row) (done : List Given) → knows (map (λ g. g.0) done) name ≡ false
    → at_row name change missing (map row_for done) ≡ map row_for done ++ missing
no_row name change missing [] none = refl
no_row name change missing (d ∷ done) none = go (bytes_eq d.0 name) none (no_row name change missing done)
  where
    go : (b : Bool) → (b || knows (map (λ (g : Given). g.0) done) name) ≡ false
        → (knows (map (λ (g : Given). g.0) done) name ≡ false → at_row name change missing (map row_for done) ≡ map row_for done ++ missing)
        → (if b then change (row_for d) ++ map row_for done else row_for d ∷ at_row name change missing (map row_for done)) ≡ row_for d ∷ (map row_for done ++ missing)
    go true none rest = absurd (cc)
    go false none rest = ap (λ (rows : List Row). row_for d ∷ rows) (rest none)

map_more : (done : List Given) (given : Given) → map row_for done ++ row_for given ∷ [] ≡ map row_for (done ++ given ∷ [])
map_more [] given = refl
map_more (d ∷ done) given = ap (λ (rows : List Row). row_for d ∷ rows) (map_more done given)

-- an option is used for the first time
used_once : (done : List Given) (given : Given) → knows (map (λ g. g.0) done) given.0 ≡ false → used (rule_for given.0) (given.1 ∷ []) (map row_for done) ≡ map row_for (done ++ given ∷ [])
used_once done given none =
    let put = λ (rows : List Row). at_row given.0 (more_values CommandLine (given.1 ∷ [])) (row_for given ∷ []) rows in
    ap put (no_row given.0 (λ _. []) [] done none ∙ append-nil (map row_for done))
    ∙ no_row given.0 (more_values CommandLine (given.1 ∷ [])) (row_for given ∷ []) done none ∙ map_more done given

-- a use has the one fault that it repeats another
use_is : (done : List Given) (given : Given) → use_fault false (rule_for given.0) (given.1 ∷ []) (map row_for done) ≡ (if knows (map (λ g. g.0) done) given.0 then kind.ArgumentConflict ∷ [] else [])
use_is done given = ap (λ (b : Bool). or_else (if b && true then kind.ArgumentConflict ∷ [] else []) []) (has_given done given.0) ∙ go (knows (map (λ (g : Given). g.0) done) given.0)
  where
    go : (b : Bool) → or_else (if b && true then kind.ArgumentConflict ∷ [] else []) [] ≡ (if b then kind.ArgumentConflict ∷ [] else [])
    go true = refl
    go false = refl

-- ---- the end

or_true : (b : Bool) → (b || true) ≡ true
or_true true = refl
or_true false = refl

same_rows : (names : List Text) (rows : List Row) → fold with_default rows (rules_for names) ≡ rows
same_rows [] rows = refl
same_rows (n ∷ names) rows = go (has_row n rows) ∙ same_rows names rows
  where
    go : (b : Bool) → fold with_default (if b then rows else rows) (rules_for names) ≡ fold with_default rows (rules_for names)
    go true = refl
    go false = refl

no_defaults : (names : List Text) (rows : List Row) → defaults_fault rows (rules_for names) ≡ []
unfolding defaults_fault
no_defaults [] rows = refl
no_defaults (n ∷ names) rows = go (has_row n rows) (no_defaults names rows)
  where
    go : (b : Bool) → defaults_fault rows (rules_for names) ≡ [] → or_else (if b || true then [] else []) (defaults_fault (if b then rows else rows) (rules_for names)) ≡ []
    go true rest = rest
    go false rest = rest

none_required : (p : Rule → Bool) (names : List Text) → list_any (λ a. a.required && p a) (rules_for names) ≡ false
none_required p [] = refl
none_required p (n ∷ names) = none_required p names

module _ (name : Text) (names : List Text) where
  s : Shape
  s = leaf name names

  no_check : (rows : List Row) → check_fault (leaf name names) rows false ≡ []
  no_check rows = ap (λ (b : Bool). if b then kind.MissingRequiredArgument ∷ [] else []) (none_required (λ a. not (is_given a.id rows)) names)

  -- the end of a walk that may end here
  ends_well : (h : Held) (done : List Given) → settle_fault (rules_for names) false h ≡ [] → (settled (rules_for names) h).rows ≡ map row_for done
      → (if is_empty (tail_fault (leaf name names) h) then Some (finished (rules_for names) h) else None) ≡ Some (map row_for done)
  ends_well h done quiet rows =
      ap (λ (ks : Kinds). if is_empty (or_else ks (or_else (defaults_fault (settled (rules_for names) h).rows (rules_for names)) (check_fault (leaf name names) (finished (rules_for names) h) false))) then Some (finished (rules_for names) h) else None) quiet
      ∙ ap (λ (ks : Kinds). if is_empty (or_else ks (check_fault (leaf name names) (finished (rules_for names) h) false)) then Some (finished (rules_for names) h) else None) (no_defaults names (settled (rules_for names) h).rows)
      ∙ ap (λ (ks : Kinds). if is_empty ks then Some (finished (rules_for names) h) else None) (no_check (finished (rules_for names) h))
      ∙ ap (λ (r : List Row). Some r) (same_rows names (settled (rules_for names) h).rows ∙ rows)

  ends_badly : (h : Held) (k : ErrorKind) → settle_fault (rules_for names) false h ≡ k ∷ []
      → (if is_empty (tail_fault (leaf name names) h) then Some (finished (rules_for names) h) else None) ≡ None
  ends_badly h k fault =
      ap (λ (ks : Kinds). if is_empty (or_else ks (or_else (defaults_fault (settled (rules_for names) h).rows (rules_for names)) (check_fault (leaf name names) (finished (rules_for names) h) false))) then Some (finished (rules_for names) h) else None) fault

  -- ---- one word

  abbrev standing : Waiting → Held → Walk
  standing x h = record { held = h; waiting = x; position = 1; is_trailing = false; stopped = None }

  abbrev met_x : Waiting → Bool → Option (Text × Option Text) → Text → Held → Held × Step
  met_x x b l word h = if b then (h, trailing 1) else long_or_other (rules_for names) x word l h

  abbrev turn_x : Waiting → Bool → Option (Text × Option Text) → Text → Held → Kinds
  turn_x x b l word h = or_else (if b then [] else flag_word_fault (rules_for names) false l word h) (step_fault (leaf name names) 1 (met_x x b l word h).0 (met_x x b l word h).1)

  abbrev walk_x : Waiting → Bool → Option (Text × Option Text) → Text → Held → Walk
  walk_x x b l word h = after_step (rules_for names) word (standing x h) (met_x x b l word h).0 (met_x x b l word h).1

  abbrev outcome_x : Waiting → Bool → Option (Text × Option Text) → Text → Held → List Text → Option (List Row)
  outcome_x x b l word h words =
      let end = (fold (walked (rules_for names) []) (walk_x x b l word h) words).held in
      if is_empty (or_else (or_else (turn_x x b l word h) (walk_fault (leaf name names) [] (walk_x x b l word h) words)) (tail_fault (leaf name names) end)) then Some (finished (rules_for names) end) else None

  by_parts : (x : Waiting) (h : Held) (word : Text) (words : List Text) (b : Bool) (l : Option (Text × Option Text)) → subcommand_met [] x word ≡ None → bytes_eq word dashes ≡ b → long_of word ≡ l
      → outcome (leaf name names) (standing x h) (word ∷ words) ≡ outcome_x x b l word h words
  unfolding walk_fault walked
  by_parts idle h word words b l none e f = λ i. outcome_x idle (e i) (f i) word h words
  by_parts (due id) h word words b l none e f = λ i. outcome_x (due id) (e i) (f i) word h words
  by_parts positional h word words b l none e f = λ i. outcome_x positional (e i) (f i) word h words

  turned : (x : Waiting) (b : Bool) (l : Option (Text × Option Text)) (word : Text) (h : Held) (words : List Text) → turn_x x b l word h ≡ []
      → outcome_x x b l word h words ≡ outcome (leaf name names) (walk_x x b l word h) words
  turned x b l word h words quiet =
      let end = (fold (walked (rules_for names) []) (walk_x x b l word h) words).held in
      ap (λ (ks : Kinds). if is_empty (or_else (or_else ks (walk_fault (leaf name names) [] (walk_x x b l word h) words)) (tail_fault (leaf name names) end)) then Some (finished (rules_for names) end) else None) quiet

  refused : (x : Waiting) (b : Bool) (l : Option (Text × Option Text)) (word : Text) (h : Held) (words : List Text) (k : ErrorKind) → turn_x x b l word h ≡ k ∷ []
      → outcome_x x b l word h words ≡ None
  refused x b l word h words k fault =
      let end = (fold (walked (rules_for names) []) (walk_x x b l word h) words).held in
      ap (λ (ks : Kinds). if is_empty (or_else (or_else ks (walk_fault (leaf name names) [] (walk_x x b l word h) words)) (tail_fault (leaf name names) end)) then Some (finished (rules_for names) end) else None) fault

  -- ---- words that are refused

  abbrev at : Option (Text × List Text) → List Row → Held
  at p rows = record { rows = rows; pending = p; skip = 0 }

  unknown : Kinds
  unknown = kind.UnknownArgument ∷ []

  pub flags_unknown : (flags : Text) (h : Held) (x : ℕ) → slice_get (chars flags) 0 ≡ Some x → flags_fault (rules_for names) false (length flags) flags 0 h ≡ kind.UnknownArgument ∷ []
  unfolding flags_fault chars
  flags_unknown [] h x e = absurd (cc)
  flags_unknown (f ∷ flags) h x e =
      ap (λ (o : Option ℕ). bundle_step_fault (rules_for names) false o (f ∷ flags) 0 h (flags_fault (rules_for names) false (length flags))) e
      ∙ ap (λ (o : Option Rule). short_fault (rules_for names) false o (drop (length (encode_utf8 x)) (f ∷ flags)) h (flags_fault (rules_for names) false (length flags) (drop (length (encode_utf8 x)) (f ∷ flags)) 0)) (by_short names x)

  -- a word that begins with a hyphen, and is no long option
  hyphen_word : (x : Waiting) (word flags : Text) (p : Option (Text × List Text)) (rows : List Row) → IsSpelled word → short_of word ≡ Some flags
      → turn_x x false None word (at p rows) ≡ kind.UnknownArgument ∷ []
  hyphen_word x word flags p rows spelled e =
      let first = spelled flags e in
      let h = at p rows in
      let turn = λ (sh : Option Text). or_else (option_map_or (λ (f : Text). bundle_fault (rules_for names) false f h) sh []) (step_fault (leaf name names) 1 (short_or_plain (rules_for names) x word sh h).0 (short_or_plain (rules_for names) x word sh h).1) in
      ap turn e ∙ ap (λ (ks : Kinds). or_else ks (step_fault (leaf name names) 1 (short_or_plain (rules_for names) x word (Some flags) h).0 (short_or_plain (rules_for names) x word (Some flags) h).1)) (flags_unknown flags h first.0 first.1)

  -- a word that is no option, where none is due
  stray_word : (word : Text) (p : Option (Text × List Text)) (rows : List Row) → IsSpelled word → turn_x idle false None word (at p rows) ≡ kind.UnknownArgument ∷ []
  stray_word word p rows spelled = go (short_of word) refl
    where
      go : (sh : Option Text) → short_of word ≡ sh → turn_x idle false None word (at p rows) ≡ kind.UnknownArgument ∷ []
      go (Some flags) e = hyphen_word idle word flags p rows spelled e
      go None e =
          let h = at p rows in
          let turn = λ (sh : Option Text). or_else (option_map_or (λ (f : Text). bundle_fault (rules_for names) false f h) sh []) (step_fault (leaf name names) 1 (short_or_plain (rules_for names) idle word sh h).0 (short_or_plain (rules_for names) idle word sh h).1) in
          ap turn e ∙ ap (λ (o : Option Rule). option_map_or (λ a. positional_fault (rules_for names) false a h) o (kind.UnknownArgument ∷ [])) (by_index names 1)

  refused_at : (w : Walk) (word : Text) (words : List Text) (k : ErrorKind) → turn_fault (leaf name names) [] w word ≡ k ∷ [] → outcome (leaf name names) w (word ∷ words) ≡ None
  unfolding walk_fault
  refused_at w word words k fault =
      let end = (fold (walked (rules_for names) []) (walked (rules_for names) [] w word) words).held in
      ap (λ (ks : Kinds). if is_empty (or_else (or_else ks (walk_fault (leaf name names) [] (walked (rules_for names) [] w word) words)) (tail_fault (leaf name names) end)) then Some (finished (rules_for names) end) else None) fault

  abbrev behind : Waiting → Held → Walk
  behind x h = record { held = h; waiting = x; position = 1; is_trailing = true; stopped = None }

  -- no word may stand behind `--`
  word_behind : (x : Waiting) (h : Held) (word : Text) (words : List Text) → outcome (leaf name names) (behind x h) (word ∷ words) ≡ None
  word_behind x h word words = refused_at (behind x h) word words kind.UnknownArgument
      (ap (λ (o : Option Rule). option_map_or (λ a. positional_fault (rules_for names) false a h) o (kind.UnknownArgument ∷ [])) (by_index names 1))

  -- ---- what is pending

  found_is : (n : Text) → knows names n ≡ true → arg_by_id (rules_for names) n ≡ Some (rule_for n)
  unfolding found
  found_is n known = by_id names n ∙ ap (λ (b : Bool). if b then Some (rule_for n) else None) known

  long_is : (n : Text) → knows names n ≡ true → arg_by_long (rules_for names) n ≡ Some (rule_for n)
  unfolding found
  long_is n known = by_long names n ∙ ap (λ (b : Bool). if b then Some (rule_for n) else None) known

  long_isnt : (n : Text) → knows names n ≡ false → arg_by_long (rules_for names) n ≡ None
  unfolding found
  long_isnt n unknown = by_long names n ∙ ap (λ (b : Bool). if b then Some (rule_for n) else None) unknown

  -- an option whose value isn't there
  no_value : (n : Text) (rows : List Row) → knows names n ≡ true → settle_fault (rules_for names) false (at (Some (n, [])) rows) ≡ kind.InvalidValue ∷ []
  no_value n rows known = ap (λ (o : Option Rule). option_map_or (λ (a : Rule). use_fault false a [] rows) o []) (found_is n known)

  -- an option with its value
  value_fault : (n v : Text) (done : List Given) → knows names n ≡ true
      → settle_fault (rules_for names) false (at (Some (n, v ∷ [])) (map row_for done)) ≡ (if knows (map (λ g. g.0) done) n then kind.ArgumentConflict ∷ [] else [])
  value_fault n v done known = ap (λ (o : Option Rule). option_map_or (λ (a : Rule). use_fault false a (v ∷ []) (map row_for done)) o []) (found_is n known) ∙ use_is done (n, v)

  value_rows : (n v : Text) (done : List Given) → knows names n ≡ true → knows (map (λ g. g.0) done) n ≡ false
      → (settled (rules_for names) (at (Some (n, v ∷ [])) (map row_for done))).rows ≡ map row_for (done ++ (n, v) ∷ [])
  value_rows n v done known new = ap (λ (o : Option Rule). used_by_id o (v ∷ []) (map row_for done)) (found_is n known) ∙ used_once done (n, v) new

  -- ---- what the words have

  abbrev told : List Given → Option (List Given) → Option (List Row)
  told done o = option_map (map row_for) (option_and_then (once done) o)

  told_new : (done : List Given) (given : Given) (o : Option (List Given)) → knows (map (λ g. g.0) done) given.0 ≡ false → told (done ++ given ∷ []) o ≡ told done (with_first given o)
  unfolding once
  told_new done given None new = refl
  told_new done given (Some rest) new = ap (λ (b : Bool). option_map (map row_for) (if b then None else once (done ++ given ∷ []) rest)) (sym new)

  told_again : (done : List Given) (given : Given) (o : Option (List Given)) → knows (map (λ g. g.0) done) given.0 ≡ true → None ≡ told done (with_first given o)
  unfolding once
  told_again done given None again = refl
  told_again done given (Some rest) again = ap (λ (b : Bool). option_map (map row_for) (if b then None else once (done ++ given ∷ []) rest)) (sym again)

  abbrev Rest : List Text → Type 0
  Rest words = (p : Option (Text × List Text)) (rows : List Row) (done : List Given) → settle_fault (rules_for names) false (at p rows) ≡ [] → (settled (rules_for names) (at p rows)).rows ≡ map row_for done
      → outcome (leaf name names) (standing idle (at p rows)) words ≡ told done (options_in names words None)

  abbrev Due : List Text → Type 0
  Due words = (n : Text) (done : List Given) → knows names n ≡ true
      → outcome (leaf name names) (standing (due n) (at (Some (n, [])) (map row_for done))) words ≡ told done (options_in names words (Some n))

  -- where what is pending repeats an option, there is no way out
  abbrev Stuck : List Text → Type 0
  Stuck words = (p : Option (Text × List Text)) (rows : List Row) (k : ErrorKind) → settle_fault (rules_for names) false (at p rows) ≡ k ∷ [] → outcome (leaf name names) (standing idle (at p rows)) words ≡ None

  abbrev option_met_x : Waiting → Option Rule → Option Text → Text → Held → Held × Step
  option_met_x x o v word h = after_flag (rules_for names) x word (long_met (rules_for names) o v h).0 (long_met (rules_for names) o v h).1

  abbrev option_turn : Waiting → Option Rule → Option Text → Text → Held → Kinds
  option_turn x o v word h = or_else (long_fault (rules_for names) false o v h) (step_fault (leaf name names) 1 (option_met_x x o v word h).0 (option_met_x x o v word h).1)

  -- an option that isn't the command's
  option_unknown : (x : Waiting) (n word : Text) (v : Option Text) (h : Held) (words : List Text) → knows names n ≡ false → outcome_x x false (Some (n, v)) word h words ≡ None
  option_unknown x n word v h words unknown =
      refused x false (Some (n, v)) word h words kind.UnknownArgument (ap (λ (o : Option Rule). option_turn x o v word h) (long_isnt n unknown))

  -- an option word, where settling what is pending has a fault
  option_stuck : (x : Waiting) (n word : Text) (v : Option Text) (p : Option (Text × List Text)) (rows : List Row) (words : List Text) (k : ErrorKind) → settle_fault (rules_for names) false (at p rows) ≡ k ∷ []
      → (b : Bool) → knows names n ≡ b → outcome_x x false (Some (n, v)) word (at p rows) words ≡ None
  option_stuck x n word v p rows words k fault false e = option_unknown x n word v (at p rows) words e
  option_stuck x n word (Some u) p rows words k fault true e =
      let h = at p rows in
      refused x false (Some (n, Some u)) word h words k (ap (λ (o : Option Rule). option_turn x o (Some u) word h) (long_is n e)
      ∙ ap (λ (ks : Kinds). or_else (or_else ks (use_fault false (rule_for n) (u ∷ []) (settled (rules_for names) h).rows)) []) fault)
  option_stuck x n word None p rows words k fault true e =
      let h = at p rows in
      refused x false (Some (n, None)) word h words k (ap (λ (o : Option Rule). option_turn x o None word h) (long_is n e) ∙ ap (λ (ks : Kinds). or_else ks []) fault)

  stuck_end : (x : Waiting) (p : Option (Text × List Text)) (rows : List Row) (words : List Text) (k : ErrorKind) → settle_fault (rules_for names) false (at p rows) ≡ k ∷ [] → outcome (leaf name names) (behind x (at p rows)) words ≡ None
  unfolding walk_fault
  stuck_end x p rows [] k fault = ends_badly (at p rows) k fault
  stuck_end x p rows (word ∷ words) k fault = word_behind x (at p rows) word words

  stuck_case : (word : Text) (words : List Text) → IsSpelled word → (p : Option (Text × List Text)) (rows : List Row) (k : ErrorKind) → settle_fault (rules_for names) false (at p rows) ≡ k ∷ []
      → (b : Bool) (l : Option (Text × Option Text)) → outcome_x idle b l word (at p rows) words ≡ None
  stuck_case word words spelled p rows k fault true l = turned idle true l word (at p rows) words refl ∙ stuck_end idle p rows words k fault
  stuck_case word words spelled p rows k fault false None = refused idle false None word (at p rows) words kind.UnknownArgument (stray_word word p rows spelled)
  stuck_case word words spelled p rows k fault false (Some (n, v)) = option_stuck idle n word v p rows words k fault (knows names n) refl

  stuck : (words : List Text) → AllByRecursion IsSpelled words → (p : Option (Text × List Text)) (rows : List Row) (k : ErrorKind) → settle_fault (rules_for names) false (at p rows) ≡ k ∷ []
      → outcome (leaf name names) (standing idle (at p rows)) words ≡ None
  unfolding walk_fault
  stuck [] spelled p rows k fault = ends_badly (at p rows) k fault
  stuck (word ∷ words) spelled p rows k fault =
      by_parts idle (at p rows) word words (bytes_eq word dashes) (long_of word) refl refl refl ∙ stuck_case word words spelled.0 p rows k fault (bytes_eq word dashes) (long_of word)

  -- ---- one more word

  quiet_end : (x : Waiting) (p : Option (Text × List Text)) (rows : List Row) (done : List Given) (words : List Text) → settle_fault (rules_for names) false (at p rows) ≡ [] → (settled (rules_for names) (at p rows)).rows ≡ map row_for done
      → outcome (leaf name names) (behind x (at p rows)) words ≡ told done (nothing_behind words)
  unfolding walk_fault once
  quiet_end x p rows done [] quiet same = ends_well (at p rows) done quiet same
  quiet_end x p rows done (word ∷ words) quiet same = word_behind x (at p rows) word words

  module _ (words : List Text) (rest : Rest words) (later : Due words) (hopeless : Stuck words) where
    -- `--NAME=VALUE`
    joined : (n u word : Text) (p : Option (Text × List Text)) (rows : List Row) (done : List Given) → settle_fault (rules_for names) false (at p rows) ≡ [] → (settled (rules_for names) (at p rows)).rows ≡ map row_for done
        → knows names n ≡ true → (again : Bool) → knows (map (λ g. g.0) done) n ≡ again
        → outcome_x idle false (Some (n, Some u)) word (at p rows) words ≡ told done (with_first (n, u) (options_in names words None))
    joined n u word p rows done quiet same known again e =
        let h = at p rows in
        let turn : turn_x idle false (Some (n, Some u)) word h ≡ or_else (or_else [] (if again then kind.ArgumentConflict ∷ [] else [])) [] =
        ap (λ (o : Option Rule). option_turn idle o (Some u) word h) (long_is n known)
        ∙ ap (λ (ks : Kinds). or_else (or_else ks (use_fault false (rule_for n) (u ∷ []) (settled (rules_for names) h).rows)) []) quiet
        ∙ ap (λ (r : List Row). or_else (or_else [] (use_fault false (rule_for n) (u ∷ []) r)) []) same
        ∙ ap (λ (ks : Kinds). or_else (or_else [] ks) []) (use_is done (n, u) ∙ ap (λ (b : Bool). if b then kind.ArgumentConflict ∷ [] else []) e) in
        go again turn e
      where
        go : (b : Bool) → turn_x idle false (Some (n, Some u)) word (at p rows) ≡ or_else (or_else [] (if b then kind.ArgumentConflict ∷ [] else [])) [] → knows (map (λ (g : Given). g.0) done) n ≡ b
            → outcome_x idle false (Some (n, Some u)) word (at p rows) words ≡ told done (with_first (n, u) (options_in names words None))
        go true turn e = refused idle false (Some (n, Some u)) word (at p rows) words kind.ArgumentConflict turn ∙ told_again done (n, u) (options_in names words None) e
        go false turn e =
            turned idle false (Some (n, Some u)) word (at p rows) words turn
            ∙ ap (λ (o : Option Rule). outcome (leaf name names) (after_step (rules_for names) word (standing idle (at p rows)) (option_met_x idle o (Some u) word (at p rows)).0 (option_met_x idle o (Some u) word (at p rows)).1) words) (long_is n known)
            ∙ ap (λ (r : List Row). outcome (leaf name names) (standing idle (at None (used (rule_for n) (u ∷ []) r))) words) same
            ∙ ap (λ (r : List Row). outcome (leaf name names) (standing idle (at None r)) words) (used_once done (n, u) e)
            ∙ rest None (map row_for (done ++ (n, u) ∷ [])) (done ++ (n, u) ∷ []) refl refl
            ∙ told_new done (n, u) (options_in names words None) e

    -- `--NAME`, whose value is due
    announced : (n word : Text) (p : Option (Text × List Text)) (rows : List Row) (done : List Given) → settle_fault (rules_for names) false (at p rows) ≡ [] → (settled (rules_for names) (at p rows)).rows ≡ map row_for done
        → knows names n ≡ true → outcome_x idle false (Some (n, None)) word (at p rows) words ≡ told done (options_in names words (Some n))
    announced n word p rows done quiet same known =
        let h = at p rows in
        turned idle false (Some (n, None)) word h words (ap (λ (o : Option Rule). option_turn idle o None word h) (long_is n known) ∙ ap (λ (ks : Kinds). or_else ks []) quiet)
        ∙ ap (λ (o : Option Rule). outcome (leaf name names) (after_step (rules_for names) word (standing idle h) (option_met_x idle o None word h).0 (option_met_x idle o None word h).1) words) (long_is n known)
        ∙ ap (λ (r : List Row). outcome (leaf name names) (standing (due n) (at (Some (n, [])) r)) words) same
        ∙ later n done known

    rest_option : (n word : Text) (v : Option Text) (p : Option (Text × List Text)) (rows : List Row) (done : List Given) → settle_fault (rules_for names) false (at p rows) ≡ [] → (settled (rules_for names) (at p rows)).rows ≡ map row_for done
        → (b : Bool) → knows names n ≡ b → outcome_x idle false (Some (n, v)) word (at p rows) words ≡ told done (option_given names (Some (n, v)) (options_in names words))
    rest_option n word (Some u) p rows done quiet same true e =
        joined n u word p rows done quiet same e (knows (map (λ (g : Given). g.0) done) n) refl
        ∙ ap (λ (b : Bool). told done (if b then with_first (n, u) (options_in names words None) else None)) (sym e)
    rest_option n word (Some u) p rows done quiet same false e =
        option_unknown idle n word (Some u) (at p rows) words e ∙ ap (λ (b : Bool). told done (if b then with_first (n, u) (options_in names words None) else None)) (sym e)
    rest_option n word None p rows done quiet same true e =
        announced n word p rows done quiet same e ∙ ap (λ (b : Bool). told done (if b then options_in names words (Some n) else None)) (sym e)
    rest_option n word None p rows done quiet same false e =
        option_unknown idle n word None (at p rows) words e ∙ ap (λ (b : Bool). told done (if b then options_in names words (Some n) else None)) (sym e)

    rest_case : (word : Text) → IsSpelled word → (p : Option (Text × List Text)) (rows : List Row) (done : List Given) → settle_fault (rules_for names) false (at p rows) ≡ [] → (settled (rules_for names) (at p rows)).rows ≡ map row_for done
        → (b : Bool) (l : Option (Text × Option Text)) → outcome_x idle b l word (at p rows) words ≡ told done (if b then nothing_behind words else option_given names l (options_in names words))
    rest_case word spelled p rows done quiet same true l = turned idle true l word (at p rows) words refl ∙ quiet_end idle p rows done words quiet same
    rest_case word spelled p rows done quiet same false None = refused idle false None word (at p rows) words kind.UnknownArgument (stray_word word p rows spelled)
    rest_case word spelled p rows done quiet same false (Some (n, v)) = rest_option n word v p rows done quiet same (knows names n) refl

    -- the value that is due
    value_case : (n word : Text) (done : List Given) → knows names n ≡ true → (again : Bool) → knows (map (λ g. g.0) done) n ≡ again
        → outcome (leaf name names) (standing idle (at (Some (n, word ∷ [])) (map row_for done))) words ≡ told done (with_first (n, word) (options_in names words None))
    value_case n word done known true e =
        hopeless (Some (n, word ∷ [])) (map row_for done) kind.ArgumentConflict (value_fault n word done known ∙ ap (λ (b : Bool). if b then kind.ArgumentConflict ∷ [] else []) e)
        ∙ told_again done (n, word) (options_in names words None) e
    value_case n word done known false e =
        rest (Some (n, word ∷ [])) (map row_for done) (done ++ (n, word) ∷ []) (value_fault n word done known ∙ ap (λ (b : Bool). if b then kind.ArgumentConflict ∷ [] else []) e) (value_rows n word done known e)
        ∙ told_new done (n, word) (options_in names words None) e

    due_plain : (n word : Text) (done : List Given) → IsSpelled word → knows names n ≡ true → (sh : Option Text) → short_of word ≡ sh
        → outcome_x (due n) false None word (at (Some (n, [])) (map row_for done)) words ≡ told done (if not (is_some sh) then with_first (n, word) (options_in names words None) else None)
    due_plain n word done spelled known (Some flags) e =
        refused (due n) false None word (at (Some (n, [])) (map row_for done)) words kind.UnknownArgument (hyphen_word (due n) word flags (Some (n, [])) (map row_for done) spelled e)
    due_plain n word done spelled known None e =
        let h = at (Some (n, [])) (map row_for done) in
        let turn = λ (sh : Option Text). or_else (option_map_or (λ (f : Text). bundle_fault (rules_for names) false f h) sh []) (step_fault (leaf name names) 1 (short_or_plain (rules_for names) (due n) word sh h).0 (short_or_plain (rules_for names) (due n) word sh h).1) in
        turned (due n) false None word h words (ap turn e)
        ∙ ap (λ (sh : Option Text). outcome (leaf name names) (after_step (rules_for names) word (standing (due n) h) (short_or_plain (rules_for names) (due n) word sh h).0 (short_or_plain (rules_for names) (due n) word sh h).1) words) e
        ∙ ap (λ (o : Option Rule). outcome (leaf name names) (record (standing (due n) h) { held = (option_word o n word h).0; waiting = (option_word o n word h).1 }) words) (found_is n known)
        ∙ ap (λ (b : Bool). outcome (leaf name names) (standing (if nat_lt (if b then 1 else 0) 1 then due n else idle) (at (Some (n, word ∷ [])) (map row_for done))) words) (bytes_same n)
        ∙ value_case n word done known (knows (map (λ (g : Given). g.0) done) n) refl

    due_case : (n word : Text) (done : List Given) → IsSpelled word → knows names n ≡ true → (b : Bool) (l : Option (Text × Option Text))
        → outcome_x (due n) b l word (at (Some (n, [])) (map row_for done)) words ≡ told done (if not b && (not (is_some l) && not (is_some (short_of word))) then with_first (n, word) (options_in names words None) else None)
    due_case n word done spelled known true l =
        turned (due n) true l word (at (Some (n, [])) (map row_for done)) words refl ∙ stuck_end (due n) (Some (n, [])) (map row_for done) words kind.InvalidValue (no_value n (map row_for done) known)
    due_case n word done spelled known false (Some (m, v)) =
        option_stuck (due n) m word v (Some (n, [])) (map row_for done) words kind.InvalidValue (no_value n (map row_for done) known) (knows names m) refl
    due_case n word done spelled known false None = due_plain n word done spelled known (short_of word) refl

  both : (words : List Text) → AllByRecursion IsSpelled words → Rest words × Due words
  unfolding walk_fault options_in once
  both [] spelled = (λ p rows done quiet same. ends_well (at p rows) done quiet same, λ n done known. ends_badly (at (Some (n, [])) (map row_for done)) kind.InvalidValue (no_value n (map row_for done) known))
  both (word ∷ words) spelled =
      let behind_it = both words spelled.1 in (
        λ p rows done quiet same. by_parts idle (at p rows) word words (bytes_eq word dashes) (long_of word) refl refl refl
            ∙ rest_case words behind_it.0 behind_it.1 (stuck words spelled.1) word spelled.0 p rows done quiet same (bytes_eq word dashes) (long_of word),
        λ n done known. by_parts (due n) (at (Some (n, [])) (map row_for done)) word words (bytes_eq word dashes) (long_of word) refl refl refl
            ∙ due_case words behind_it.0 behind_it.1 (stuck words spelled.1) n word done spelled.0 known (bytes_eq word dashes) (long_of word),
      )

pub leaf_is : LeafLaw
leaf_is name names words spelled = (both name names words spelled).0 None [] [] refl refl
