use Rattle.std.proofs.Common.{◌∙◌, rules}
use Rattle.bench.specs.Benches.{bench_state}
use Rattle.bench.proofs.Writes.{write_fits, after_extent, after_sound, after_written}
use Rattle.bench.proofs.bench.BenchImageEditableImage.write.Goals as goal

pub slice_bounds-copy_from_slice-end : goal.slice_bounds-copy_from_slice-end
slice_bounds-copy_from_slice-end c =
    let b = c.args.self.now in
    let fits = write_fits b.extent.size b.extent.count (bench_state b.locked) b.buffer.now b.sound c.args.page c.args.bytes.now c.in_ok-check_write.ensures in
    search rules

pub invariant_of-self : goal.invariant_of-self
invariant_of-self c =
    let b = c.args.self.now in
    record {
      large = b.large ∙ after_extent b.extent.size b.extent.count (bench_state b.locked) b.buffer.now b.sound c.args.page c.args.bytes.now c.in_ok-check_write.ensures _ c.copy_from_slice.ensures.after;
      sound = after_sound b.extent.size b.extent.count (bench_state b.locked) b.buffer.now b.sound c.args.page c.args.bytes.now c.in_ok-check_write.ensures _ c.copy_from_slice.ensures.after;
    }

pub returns-clause-after : goal.returns-clause-after
returns-clause-after c =
    let b = c.args.self.now in
    after_written b.extent.size b.extent.count (bench_state b.locked) b.buffer.now b.sound c.args.page c.args.bytes.now c.in_ok-check_write.ensures _ c.copy_from_slice.ensures.after
