-- A parse that failed.
use Rattle.std.proofs.Common.{◌≡◌, ◌≢◌, ◌⊎◌, inl, inr, Bool, false, List, [], ◌∷◌, length, Option, Some, None, refl, sym, ap, ◌∙◌, arith, eqb-true, Err}
use Rattle.std.specs.Prelude.{if◌then◌else◌}
use Rattle.std.proofs.lemmas.Bool.{cases_Bool}
use Rattle.clap.specs.Kinds.{IsAmong, Kinds}
use Rattle.clap.specs.Walk.{Row, is_empty}
use Rattle.clap.specs.declared.error.kind.ErrorKind.{ErrorKind}
use Rattle.clap.specs.declared.error.kind.ErrorKind.TheVariants as kind
use Rattle.command_words.specs.declared.command.CommandFault.{CommandFault}
use Rattle.command_words.specs.declared.command.CommandFault.TheVariants.{Refused, Memory}
use Rattle.command_words.specs.Options.{Text}
use Rattle.command_words.specs.Outcomes.{Parses}
use Rattle.command_words.specs.Parser.{expected_top}

not_empty : (k : ErrorKind) (ks : Kinds) → is_empty (k ∷ ks) ≡ false
not_empty k ks = elim (cases_Bool (is_empty (k ∷ ks))) [
  | inl e ↦ (let none = eqb-true (length (k ∷ ks)) 0 e in absurd (omega (arith, none)))
  | inr e ↦ e
]

pub parse_failed : (fault : CommandFault) (k : ErrorKind) (ks : Kinds) (words : List Text) (o : Option (Text × List Row)) → (fault ≡ Refused → k ≢ kind.OutOfMemory) → (k ≡ kind.OutOfMemory) ⊎ IsAmong k ks
    → (if is_empty ks then Some o else None) ≡ expected_top words → Parses (Err fault) words
parse_failed Memory k ks words o other has law = tt
parse_failed Refused k [] words o other (inl full) law = absurd (other refl full)
parse_failed Refused k [] words o other (inr among) law = absurd among
parse_failed Refused k (x ∷ xs) words o other has law = sym law ∙ ap (λ (b : Bool). if b then Some o else None) (not_empty x xs)
