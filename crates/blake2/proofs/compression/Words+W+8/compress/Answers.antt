use Rattle.std.proofs.Common.{◌≡◌, ◌≤◌, [], get_or, sym, ◌∙◌, arith}
use Rattle.blake2.specs.Compression.{round, feed, compress}
use Rattle.blake2.specs.Schedule.{sigma}
use Rattle.blake2.proofs.Repeat.{repeat_none, repeat_more}
use Rattle.blake2.proofs.Schedules.{length-rows, row_of}
use Rattle.blake2.proofs.compression.Words+W+8.compress.Goals as goal

pub loop-entries-init : goal.loop-entries-init
loop-entries-init g c = sym (repeat_none _ _)

pub loop-entries-preserved : goal.loop-entries-preserved
loop-entries-preserved g c =
    let i = c.loop-entries.entries-index in
    let few : c.ROUNDS.result ≤ 12 = omega (arith, g.met.W.Word.rounds_is.1) in
    let here = row_of c.ROUNDS.result i _ c.rows-entries-items.ensures few c.loop-entries-test.true in
    let more = repeat_more i (λ i. round g.W.Word.width c.args.m.now (get_or sigma i [])) c.start-v.result in
    cc

pub loop-i-init : goal.loop-i-init
loop-i-init g c = sym (repeat_none _ _)

pub loop-i-preserved : goal.loop-i-preserved
loop-i-preserved g c = let more = repeat_more c.loop-i.i (feed c.loop-entries.v) c.args.self.now in cc

pub returns : goal.returns
unfolding compress
returns g c =
    let few : c.ROUNDS.result ≤ 12 = omega (arith, g.met.W.Word.rounds_is.1) in
    let all : c.loop-entries.entries-index ≡ c.ROUNDS.result = omega (arith, length-rows c.ROUNDS.result _ c.rows-entries-items.ensures few) in
    let rounds = all ∙ c.ROUNDS.ensures ∙ g.met.W.Word.rounds_is.0 in
    let words : c.loop-i.i ≡ 8 = omega arith in
    cc
