use Rattle.std.proofs.Common.{◌++◌, length, sym, ap, ◌∙◌, arith}
use Rattle.stream.specs.Hash.{ended}
use Rattle.stream.proofs.Chains.{still_whole, counted, absorbed, none_left}
use Rattle.stream.proofs.chain.Chain.absorb.Goals as goal

pub loop-block-preserved : goal.loop-block-preserved
loop-block-preserved g c =
    let w = g.W.Word.width in
    let steps = c.in-Some.ensures.steps in
    let i = c.loop-block.invariant in
    let size = c.block_bytes-size.ensures.size in
    let cut = steps.1.0 in
    let long = steps.1.1 ∙ i.size ∙ sym size in
    record {
      can = omega (arith, steps.0, i.can);
      ends = tt;
      size = steps.0 ∙ i.size;
      whole = still_whole w _ size _ _ _ cut long i.whole;
      count = counted w _ size _ _ _ cut long c.loop-block.self.t _ _ c.compress.ensures.count i.count;
      means = λ node rest more.
          absorbed w _ size _ _ _ cut long node c.loop-block.self.t _ c.loop-block.self.h _ rest c.block_bytes-size.ensures.some c.compress.ensures.count c.compress.ensures.value more
          ∙ i.means node rest more;
    }

pub returns : goal.returns
returns g c =
    let w = g.W.Word.width in
    let i = c.loop-block.invariant in
    let none = none_left _ _ i.whole (omega (arith, c.in-None.ensures.steps.1.0, i.size)) in
    record {
      count = omega (arith, ap length none, i.count);
      means = λ node rest more. ap (λ left. ended w node c.loop-block.self.t (left ++ rest) c.loop-block.self.h) (sym none) ∙ i.means node rest more;
    }
