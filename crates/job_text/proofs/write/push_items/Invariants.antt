use Rattle.std.proofs.Common.{◌≡◌, ◌++◌, map, take}
use Rattle.std.specs.List.{flat_map}
use Rattle.job_text.specs.Views.{item_of}
use Rattle.job_text.specs.Canonical.{line_text, item_lines}
use Rattle.job_text.proofs.write.push_items.Given as goal

abbrev pub invariant-loop-item : goal.invariant-loop-item
invariant-loop-item l = l.out.items ≡ l.fn.out.items ++ flat_map line_text (flat_map (item_lines l.volumes) (map item_of (take l.item-index l.items)))
