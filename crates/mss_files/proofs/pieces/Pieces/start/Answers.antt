use Rattle.std.proofs.Common.{◌≡◌, ◌+◌, ◌*◌, ◌≤◌, arith}
use Rattle.mss_files.specs.Allotted.{start_in}
use Rattle.mss_files.proofs.Starts.{start_is, start_inside}
use Rattle.mss_files.proofs.pieces.Pieces.start.Goals as goal

pub returns : goal.returns
returns c =
    let size = c.args.self.now.size in
    let pieces = c.args.self.now.of_slots.items in
    let value : c.of.result * size ≡ start_in size pieces c.args.slot = start_is size pieces c.args.slot _ c.of.ensures.value in
    let inside : start_in size pieces c.args.slot + size ≤ 323 * size = start_inside size pieces c.args.slot (c.args.self.now.inside c.args.slot c.requires) in
    let few : size ≤ 16384 = c.args.self.now.few in
    record {
      value = value;
      inside = omega (arith, value, inside);
      small = omega (arith, value, inside, few);
    }
