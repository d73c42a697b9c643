use Rattle.std.proofs.Common.{length, sym, ap, ◌∙◌}
use Rattle.bench.proofs.Dumps.{dump_reading}
use Rattle.bench.proofs.dump.ChipDumpImage.read.Goals as goal

pub page_in-requires : goal.page_in-requires
page_in-requires c =
    let d = c.args.self.now in
    (dump_reading d.size d.states.now d.buffer.now c.args.page c.args.out.now c.in_ok-check_read.ensures).starts

pub copy_from_slice-requires : goal.copy_from_slice-requires
copy_from_slice-requires c =
    let d = c.args.self.now in
    (dump_reading d.size d.states.now d.buffer.now c.args.page c.args.out.now c.in_ok-check_read.ensures).fits ∙ sym (ap length c.page_in.ensures)

pub returns-clause-out : goal.returns-clause-out
returns-clause-out c =
    let d = c.args.self.now in
    c.copy_from_slice.ensures.after ∙ c.page_in.ensures ∙ (dump_reading d.size d.states.now d.buffer.now c.args.page c.args.out.now c.in_ok-check_read.ensures).same
