-- What a reading in progress stands for.
use Rattle.std.specs.Prelude.{map}
use Rattle.job_text.specs.declared.reading.Reading.{Reading}
use Rattle.job_text.specs.Grammar.{SoFar}
use Rattle.job_text.specs.Views.{item_of}

abbrev pub so_far : Reading → SoFar
so_far r = record {
  place = r.place;
  frames = r.frames;
  recorders = r.recorders;
  volumes = r.volumes.items;
  closed = r.closed.items;
  present = r.present;
  items = map item_of r.items.items;
  words = r.words;
  total = r.total;
}
