use Rattle.std.proofs.Common.{◌≡◌, ◌++◌, map, take}
use Rattle.std.specs.List.{flat_map}
use Rattle.channel_commands.specs.Views.{ccw_of}
use Rattle.job_text.specs.Canonical.{line_text, word_line}
use Rattle.job_text.proofs.write.push_words.Given as goal

abbrev pub invariant-loop-word : goal.invariant-loop-word
invariant-loop-word l = l.out.items ≡ l.fn.out.items ++ flat_map line_text (map word_line (map ccw_of (take l.word-index l.words)))
