-- Programs followed by computation.
use Rattle.std.proofs.Common.{[], ◌∷◌, true, false, None, refl}
use Rattle.channel_commands.specs.Data.{done, command, break, device, transfer}
use Rattle.channel_commands.specs.declared.call.BreakCause.TheVariants as cause
use Rattle.channel_program.specs.Script.{RunsWords, at_start}

-- a transfer to a transfer breaks off after one command
transfer_to_transfer : RunsWords (device 0x03 [] ∷ transfer 2 ∷ transfer 0 ∷ []) at_start
    ((command 0x03 [] true, done 0x0C []) ∷ (break cause.Program, done 0 []) ∷ []) (record { word = None; executed = 2 })
transfer_to_transfer = (refl, (refl, refl))

-- a search that is met skips the transfer back to it, and the last word is not chained
search_loop : RunsWords (device 0x31 (0 ∷ []) ∷ transfer 0 ∷ device 0x06 [] ∷ []) at_start
    ((command 0x31 (0 ∷ []) true, done 0x0C []) ∷ (command 0x31 (0 ∷ []) true, done 0x4C []) ∷ (command 0x06 [] false, done 0x0C (7 ∷ [])) ∷ [])
    (record { word = None; executed = 3 })
search_loop = (refl, (refl, (refl, refl)))

-- a program that begins with a transfer breaks off at once
transfer_first : RunsWords (transfer 1 ∷ device 0x03 [] ∷ []) at_start ((break cause.Program, done 0 []) ∷ []) (record { word = None; executed = 1 })
transfer_first = (refl, refl)

-- unit check ends a program before its last word
unit_check : RunsWords (device 0x03 [] ∷ device 0x03 [] ∷ []) at_start ((command 0x03 [] true, done 0x0E []) ∷ []) (record { word = None; executed = 1 })
unit_check = (refl, refl)
