use Rattle.std.proofs.Common.{length, sym, refl, ap, ◌∙◌}
use Rattle.bench.specs.Benches.{bench_held, bench_state}
use Rattle.bench.proofs.Places.{reading}
use Rattle.bench.proofs.bench.BenchImageImage.read.Goals as goal

pub page_in-requires : goal.page_in-requires
page_in-requires c =
    let b = c.args.self.now in
    (reading (bench_held b.extent b.locked b.buffer.now) b.extent.size b.extent.count (bench_state b.locked) b.buffer.now refl b.sound c.args.page c.args.out.now c.in_ok-check_read.ensures).starts

pub copy_from_slice-requires : goal.copy_from_slice-requires
copy_from_slice-requires c =
    let b = c.args.self.now in
    (reading (bench_held b.extent b.locked b.buffer.now) b.extent.size b.extent.count (bench_state b.locked) b.buffer.now refl b.sound c.args.page c.args.out.now c.in_ok-check_read.ensures).fits
    ∙ sym (ap length c.page_in.ensures)

pub returns-clause-out : goal.returns-clause-out
returns-clause-out c =
    let b = c.args.self.now in
    c.copy_from_slice.ensures.after ∙ c.page_in.ensures
    ∙ (reading (bench_held b.extent b.locked b.buffer.now) b.extent.size b.extent.count (bench_state b.locked) b.buffer.now refl b.sound c.args.page c.args.out.now c.in_ok-check_read.ensures).same
