-- What lines, items and readings of the code stand for.
use Rattle.channel_commands.specs.Views.{argument_bytes}
use Rattle.channel_program.specs.Script.{ItemData, mounting, demounting, program as running}
use Rattle.job_text.specs.declared.line.Line.{Line}
use Rattle.job_text.specs.declared.line.Line.TheVariants as variant
use Rattle.job_text.specs.declared.job.Item.{Item}
use Rattle.job_text.specs.declared.job.Item.TheVariants as items
use Rattle.job_text.specs.Lines.{LineData, mss, volume, host, done, mount, demount, program, ccw, tic, end}

abbrev pub line_data : Line → LineData
line_data (variant.Mss f r) = mss f r
line_data (variant.Volume n s read_only) = volume n s read_only
line_data (variant.Host n) = host n
line_data variant.Done = done
line_data (variant.Mount s bind) = mount s bind
line_data variant.Demount = demount
line_data variant.Program = program
line_data (variant.Ccw code argument) = ccw code (argument_bytes argument)
line_data (variant.Tic to) = tic to
line_data variant.End = end

abbrev pub item_of : Item → ItemData
item_of (items.Mount v bind) = mounting v bind
item_of items.Demount = demounting
item_of (items.Run words) = running words
