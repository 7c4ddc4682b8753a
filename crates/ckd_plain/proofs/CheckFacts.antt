-- A command that is admitted passed each check.
use Rattle.std.proofs.Common.{◌≡◌, ℕ, ◌≤◌, Bool, true, false, List, length, Option, Some, None, Ok, refl, sym, ap, ◌∙◌, arith}
use Rattle.std.specs.Prelude.{◌==◌, ◌&&◌, ◌||◌, not, nat_lt, is_some}
use Rattle.std.proofs.lemmas.Bool.{ltb-false, le-ltb, not-true}
use Rattle.std.proofs.Math.Bool.{or-true}
use Rattle.channel_commands.specs.Codes.{command_of, is_write, least}
use Rattle.channel_commands.specs.declared.command.Command.{Command}
use Rattle.channel_commands.specs.declared.command.Command.TheVariants as command
use Rattle.channel_commands.specs.declared.command.ReadWhat.TheVariants as what
use Rattle.channel_commands.specs.declared.command.SearchField.TheVariants as field
use Rattle.channel_commands.specs.declared.command.SearchTest.TheVariants as test
use Rattle.ckd_plain.specs.declared.host.HostState.{HostState}
use Rattle.ckd_plain.specs.declared.host.Prior.{Prior}
use Rattle.ckd_plain.specs.declared.host.Prior.TheVariants as prior
use Rattle.ckd_plain.specs.declared.unit_check.UnitCheck.TheVariants as check
use Rattle.ckd_plain.specs.Checks.{◌>>=◌, demand, command_or_reject, is_seek_allowed, is_write_allowed, is_prior_permitted, is_change_allowed, is_address, admitted_command, Passes}

-- the last five checks of a command
last_checks : (long seek written changed address : Bool) (c d : Command)
    → (demand long check.CommandReject >>= λ _. demand seek check.FileProtected >>= λ _. demand written check.CommandReject
    >>= λ _. demand changed check.FileProtected >>= λ _. demand address check.CommandReject >>= λ _. Ok c) ≡ Ok d
    → (c ≡ d) × (long ≡ true) × (written ≡ true) × (changed ≡ true) × (address ≡ true)
last_checks true true true true true c d is = (cc, refl, refl, refl, refl)
last_checks true true true true false c d is = absurd cc
last_checks true true true false address c d is = absurd cc
last_checks true true false changed address c d is = absurd cc
last_checks true false written changed address c d is = absurd cc
last_checks false seek written changed address c d is = absurd cc

-- all of them, as they depend on the command
all_checks : (there : Bool) (o : Option Command) (long seek written changed address : Command → Bool) (d : Command)
    → (demand there check.InterventionRequired >>= λ _. command_or_reject o >>= λ c. demand (long c) check.CommandReject >>= λ _. demand (seek c) check.FileProtected
    >>= λ _. demand (written c) check.CommandReject >>= λ _. demand (changed c) check.FileProtected
    >>= λ _. demand (address c) check.CommandReject >>= λ _. Ok c) ≡ Ok d
    → (long d ≡ true) × (written d ≡ true) × (changed d ≡ true) × (address d ≡ true) × (o ≡ Some d)
all_checks true (Some c) long seek written changed address d is =
    let p = last_checks (long c) (seek c) (written c) (changed c) (address c) c d is in
    rw (sym p.0) (p.1, p.2, p.3, p.4, refl)
all_checks true None long seek written changed address d is = absurd cc
all_checks false o long seek written changed address d is = absurd cc

both : (a b : Bool) → (a && b) ≡ true → (a ≡ true) × (b ≡ true)
both true b is = (refl, is)
both false b is = absurd cc

pub record IsAdmitted (host : HostState) (code : ℕ) (argument : List ℕ) (c : Command) : Type 0 where
  pub known_ : command_of code ≡ Some c
  pub passes : Passes host c argument

pub admitted_is : (host : HostState) (code : ℕ) (argument : List ℕ) (c : Command) → admitted_command host code argument ≡ Ok c → IsAdmitted host code argument c
unfolding admitted_command
admitted_is host code argument c is =
    let p = all_checks (is_some host.mounted || (code == 0x04)) (command_of code) (λ c. not (nat_lt (length argument) (least c))) (λ c. is_seek_allowed host.mask c)
    (λ c. is_prior_permitted host.prior c && is_write_allowed host.mask c) (λ c. is_change_allowed host.protected c) (λ c. is_address c argument) c is in
    let long : nat_lt (length argument) (least c) ≡ false = not-true _ p.0 in
    record { known_ = p.4; passes = record { long = ltb-false _ _ long; change_ = p.2; address = p.3; prior_ = (both _ _ p.1).0 } }

-- a command that passes each check is admitted
pub admits : (host : HostState) (code : ℕ) (argument : List ℕ) (c : Command) → (is_some host.mounted || (code == 0x04)) ≡ true → command_of code ≡ Some c → least c ≤ length argument
    → is_seek_allowed host.mask c ≡ true → (is_prior_permitted host.prior c && is_write_allowed host.mask c) ≡ true → is_change_allowed host.protected c ≡ true
    → is_address c argument ≡ true → admitted_command host code argument ≡ Ok c
unfolding admitted_command
admits host code argument c there is long seek written changed address =
    let is_long : not (nat_lt (length argument) (least c)) ≡ true = ap not (le-ltb _ _ long) in
    (λ i. demand (there i) check.InterventionRequired >>= λ _. command_or_reject (is i) >>= λ d. demand (not (nat_lt (length argument) (least d))) check.CommandReject
    >>= λ _. demand (is_seek_allowed host.mask d) check.FileProtected >>= λ _. demand (is_prior_permitted host.prior d && is_write_allowed host.mask d) check.CommandReject
    >>= λ _. demand (is_change_allowed host.protected d) check.FileProtected >>= λ _. demand (is_address d argument) check.CommandReject >>= λ _. Ok d)
    ∙ (λ i. demand (is_long i) check.CommandReject >>= λ _. demand (seek i) check.FileProtected >>= λ _. demand (written i) check.CommandReject
    >>= λ _. demand (changed i) check.FileProtected >>= λ _. demand (address i) check.CommandReject >>= λ _. Ok c)

-- a read-only volume lets each command through that is no write
no_change : (read_only : Bool) (c : Command) → is_write c ≡ false → is_change_allowed read_only c ≡ true
no_change true c isn't = ap not isn't
no_change false c isn't = refl

sense_permitted : (left : Prior) → is_prior_permitted left command.Sense ≡ true
sense_permitted prior.Nothing = refl
sense_permitted (prior.IdEqual k) = refl
sense_permitted (prior.KeyEqual k) = refl
sense_permitted (prior.Wrote k) = refl

-- sense is always admitted
pub sense_admitted : (host : HostState) (argument : List ℕ) → admitted_command host 0x04 argument ≡ Ok command.Sense
sense_admitted host argument = admits host 0x04 argument command.Sense (or-true (is_some host.mounted)) refl (omega arith) refl (ap (λ (b : Bool). b && true) (sense_permitted host.prior))
    (no_change host.protected command.Sense refl) refl

search_permitted : (left : Prior) → is_prior_permitted left (command.Search field.Id test.Equal false) ≡ true
search_permitted prior.Nothing = refl
search_permitted (prior.IdEqual k) = refl
search_permitted (prior.KeyEqual k) = refl
search_permitted (prior.Wrote k) = refl

read_permitted : (left : Prior) → is_prior_permitted left (command.Read what.Data false) ≡ true
read_permitted prior.Nothing = refl
read_permitted (prior.IdEqual k) = refl
read_permitted (prior.KeyEqual k) = refl
read_permitted (prior.Wrote k) = refl

-- search ID equal and read data are admitted, where a volume is mounted
pub search_admitted : (host : HostState) (argument : List ℕ) → is_some host.mounted ≡ true → 5 ≤ length argument → admitted_command host 0x31 argument ≡ Ok (command.Search field.Id test.Equal false)
search_admitted host argument there long =
    admits host 0x31 argument (command.Search field.Id test.Equal false) (ap (λ (b : Bool). b || false) there) refl long refl (ap (λ (b : Bool). b && true) (search_permitted host.prior))
    (no_change host.protected (command.Search field.Id test.Equal false) refl) refl

pub read_admitted : (host : HostState) (argument : List ℕ) → is_some host.mounted ≡ true → admitted_command host 0x06 argument ≡ Ok (command.Read what.Data false)
read_admitted host argument there =
    admits host 0x06 argument (command.Read what.Data false) (ap (λ (b : Bool). b || false) there) refl (omega arith) refl (ap (λ (b : Bool). b && true) (read_permitted host.prior))
    (no_change host.protected (command.Read what.Data false) refl) refl
