-- The command that a word leads to is the next call.
use Rattle.std.proofs.Common.{◌≡◌, ℕ, ◌<◌, ◌+◌, ◌==◌, Bool, true, false, not, if◌then◌else◌, List, length, map, Option, Some, None, option_map, slice_get, refl, sym, ap, subst, ◌∙◌}
use Rattle.std.proofs.lemmas.Bool.{lt-leb}
use Rattle.std.proofs.lemmas.List.{length-map}
use Rattle.channel_commands.specs.declared.ccw.Ccw.{Ccw}
use Rattle.channel_commands.specs.Views.{ccw_of}
use Rattle.channel_commands.specs.Data.{CcwData, device, transfer}
use Rattle.channel_program.specs.Script.{Standing, Reached, word_reached, reached_by, command_in, is_last, CHAIN_LIMIT}
use Rattle.channel_program.specs.Views.{IsNextCommand}

command_in-there : (words : List CcwData) (w : ℕ) (word : Option CcwData) (at : Reached)
    → slice_get words w ≡ word → command_in w word ≡ Some at → slice_get words at.word ≡ Some (device at.code at.argument)
command_in-there words w (Some (device code argument)) at is same =
    let e : record { word = w; code = code; argument = argument } ≡ at = cc in
    subst (λ (r : Reached). slice_get words r.word ≡ Some (device r.code r.argument)) e is
command_in-there words w (Some (transfer to)) at is same = absurd (cc)
command_in-there words w None at is same = absurd (cc)

reached_by-there : (words : List CcwData) (w : ℕ) (word : Option CcwData) (at : Reached)
    → slice_get words w ≡ word → reached_by words w word ≡ Some at → slice_get words at.word ≡ Some (device at.code at.argument)
reached_by-there words w (Some (device code argument)) at is same =
    let e : record { word = w; code = code; argument = argument } ≡ at = cc in
    subst (λ (r : Reached). slice_get words r.word ≡ Some (device r.code r.argument)) e is
reached_by-there words w (Some (transfer to)) at is same = over (w == 0) same where
  over : (first : Bool) → (if first then None else command_in to (slice_get words to)) ≡ Some at → slice_get words at.word ≡ Some (device at.code at.argument)
  over true none = absurd (cc)
  over false led = command_in-there words to (slice_get words to) at refl led
reached_by-there words w None at is same = absurd (cc)

-- a command that is reached below the limit is the next call
below_limit : (words : List CcwData) (w executed word : ℕ) (at : Option Reached)
    → word_reached words w ≡ at → Some word ≡ option_map (λ (r : Reached). r.word) at → executed < CHAIN_LIMIT
    → IsNextCommand words (record { word = Some w; executed = executed }) word (not (is_last words word))
below_limit words w executed word None leads same few = absurd (cc)
below_limit words w executed word (Some at) leads same few =
    let e : at.word ≡ word = cc in
    subst (λ (n : ℕ). IsNextCommand words (record { word = Some w; executed = executed }) n (not (is_last words n))) e (record {
      held = record { code = at.code; argument = at.argument; there = reached_by-there words w (slice_get words w) at refl leads };
      call = rw (leads, lt-leb CHAIN_LIMIT executed few) refl;
    })

pub next_command : (words : List CcwData) (slice : List Ccw) (at : Standing) (next : Option ℕ) (w executed word : ℕ)
    → map ccw_of slice ≡ words → at ≡ record { word = next; executed = executed } → next ≡ Some w
    → Some word ≡ option_map (λ (r : Reached). r.word) (word_reached words w) → executed < CHAIN_LIMIT
    → IsNextCommand words at word (not (word + 1 == length slice))
next_command words slice at next w executed word whole stands goes leads few =
    let long : length words ≡ length slice = ap length (sym whole) ∙ length-map slice ccw_of in
    rw (stands, goes, ← long) (below_limit words w executed word (word_reached words w) refl leads few)
