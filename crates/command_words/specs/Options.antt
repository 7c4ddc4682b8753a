-- The options of a command, as they stand in its words.
use Rattle.std.specs.Prelude.{ℕ, Bool, not, ◌&&◌, List, [], ◌∷◌, ◌++◌, Option, Some, None, is_some}
use Rattle.std.specs.Prelude.{map, if◌then◌else◌}
use Rattle.std.specs.List.{list_any}
use Rattle.std.specs.Option.{option_and_then, option_map}
use Rattle.std.specs.Str.{bytes_eq}
use Rattle.clap.specs.Lexer.{long_of, short_of}

abbrev pub Text : Type 0
Text = List ℕ

-- an option's name, and the text of its value
abbrev pub Given : Type 0
Given = Text × Text

-- two hyphens
abbrev pub dashes : Text
dashes = 45 ∷ 45 ∷ []

-- the name is one of these
abbrev pub knows : List Text → Text → Bool
knows names name = list_any (λ n. bytes_eq n name) names

-- a word that may be an option's value: no `--`, no `--NAME`, no `-abc`
abbrev pub is_value : Text → Bool
is_value word =
    not (bytes_eq word dashes) && (not (is_some (long_of word)) && not (is_some (short_of word)))

abbrev pub with_first : Given → Option (List Given) → Option (List Given)
with_first given = option_map (λ rest. given ∷ rest)

-- `--NAME=VALUE`, or `--NAME` whose value is due. `next` has the options of the words behind it,
-- where the value of a name that waits comes first.
abbrev pub option_given : List Text → Option (Text × Option Text)
    → (Option Text → Option (List Given)) → Option (List Given)
option_given names None next = None
option_given names (Some (name, Some value)) next =
    if knows names name then with_first (name, value) (next None) else None
option_given names (Some (name, None)) next = if knows names name then next (Some name) else None

-- the words are at their end
abbrev pub nothing_behind : List Text → Option (List Given)
nothing_behind [] = Some []
nothing_behind (word ∷ words) = None

-- the options in the words, of which the last may be `--`; a name that waits has its value first
unfoldable pub options_in : List Text → List Text → Option Text → Option (List Given)
options_in names [] None = Some []
options_in names [] (Some name) = None
options_in names (word ∷ words) (Some name) =
    if is_value word then with_first (name, word) (options_in names words None) else None
options_in names (word ∷ words) None =
    if bytes_eq word dashes then nothing_behind words
    else option_given names (long_of word) (options_in names words)

-- none of them is given twice
unfoldable pub once : List Given → List Given → Option (List Given)
once before [] = Some before
once before (given ∷ rest) =
    if knows (map (λ g. g.0) before) given.0 then None else once (before ++ given ∷ []) rest

-- the options of these names in the words, each at most once, in their order
abbrev pub given_in : List Text → List Text → Option (List Given)
given_in names words = option_and_then (once []) (options_in names words None)
