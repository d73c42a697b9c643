use Rattle.bench.proofs.Made.{made}
use Rattle.bench.proofs.bench.BenchImage.make.Goals as goal

pub invariant_of-result : goal.invariant_of-result
invariant_of-result c =
    let m = made c.args.size c.args.locked c.args.buffer.now _ _ _ c.fitted.ensures c.none.ensures c.unwrap_or-extent.ensures in
    record { large = m.large; sound = m.sound }
