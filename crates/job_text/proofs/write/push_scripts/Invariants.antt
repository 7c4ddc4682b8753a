use Rattle.std.proofs.Common.{◌≡◌, ◌++◌, take}
use Rattle.std.specs.List.{flat_map}
use Rattle.job_text.specs.Canonical.{line_text, script_lines}
use Rattle.job_text.proofs.write.push_scripts.Given as goal

abbrev pub invariant-loop-script : goal.invariant-loop-script
invariant-loop-script l = l.out.items ≡ l.fn.out.items ++ flat_map line_text (flat_map (script_lines l.volumes) (take l.script-index l.scripts))
