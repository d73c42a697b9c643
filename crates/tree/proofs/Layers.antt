-- That the layers of a tree end at its root.
use Rattle.std.proofs.Common.{◌≡◌, ℕ, suc, ◌+◌, ◌-◌, ◌*◌, ◌/◌, ◌≤◌, eqb, Some, None, Option, refl, ap, ◌∙◌, mul-le-mul_right, suc-mul, mul-le-mul_left, div-mul-le_self, arith, eqb-true}
use native.Mathlib.Decide.{dec_lt}
use borrow.Author.Tests.{eqb-false}
use Rattle.std.specs.Option.{option_map_or}
use Rattle.tree.specs.declared.shape.Shape.{Shape}
use Rattle.tree.specs.Below.{first}
use Rattle.tree.specs.Laws.{Ends}
use Rattle.tree.specs.Shapes.{layer_size, root_layer, layer_count}
use Rattle.tree.proofs.Below.{first_some, first_none}
use Rattle.tree.proofs.Shapes.{layer_some}

module _ (s : Shape) (wide : 2 ≤ s.fanout) (some : 1 ≤ s.pages) where
  -- a layer has at most half the nodes of the one below, rounded up
  layer_halves : (k c : ℕ) → layer_size s k ≤ 2 * c → layer_size s (suc k) ≤ c
  unfolding layer_size
  layer_halves k c h =
      let a = div-mul-le_self (layer_size s k + (s.fanout - 1)) s.fanout in
      elim (dec_lt c ((layer_size s k + (s.fanout - 1)) / s.fanout)) [
        | yes l ↦
            absurd
            (let b : suc c * s.fanout ≤ (layer_size s k + (s.fanout - 1)) / s.fanout * s.fanout = mul-le-mul_right s.fanout l in
            let d : c * 2 ≤ c * s.fanout = mul-le-mul_left c wide in
            omega (arith, suc-mul c s.fanout, layer_some s k wide some))
        | no l ↦ omega arith
      ]

  -- so layer 12 over at most 4,096 pages has one node
  twelfth_one : s.pages ≤ 4096 → layer_size s 12 ≡ 1
  twelfth_one h =
      let h0 : layer_size s 0 ≤ 4096 = unfold layer_size in h in
      let h4 = layer_halves 3 256 (layer_halves 2 512 (layer_halves 1 1024 (layer_halves 0 2048 h0))) in
      let h8 = layer_halves 7 16 (layer_halves 6 32 (layer_halves 5 64 (layer_halves 4 128 h4))) in
      let h12 = layer_halves 11 1 (layer_halves 10 2 (layer_halves 9 4 (layer_halves 8 8 h8))) in
      let a = layer_some s 12 wide some in
      omega arith

pub layers_end : (s : Shape) → 2 ≤ s.fanout → 1 ≤ s.pages → s.pages ≤ 4096 → Ends s
unfolding root_layer layer_count
layers_end s wide some h = go (first (λ k. eqb (layer_size s (suc k)) 1) 12) refl
  where
    go : (o : Option ℕ) → first (λ k. eqb (layer_size s (suc k)) 1) 12 ≡ o → Ends s
    go (Some k) e =
        let a = first_some (λ k. eqb (layer_size s (suc k)) 1) 12 k e in
        let q : root_layer s ≡ suc k = ap (λ o. option_map_or suc o 12) e in
        let b = a.below in
        record {
          above_pages = omega arith;
          one_node = ap (layer_size s) q ∙ eqb-true _ _ a.passes;
          earliest = λ k' lo hi z.
              let w : suc (k' - 1) ≡ k' = omega arith in
              eqb-false _ _ (a.least (k' - 1) (omega arith)) (ap (layer_size s) w ∙ z);
          few = omega arith;
        }
    go None e = absurd (eqb-false _ _ (first_none (λ k. eqb (layer_size s (suc k)) 1) 12 e 11 (omega arith)) (twelfth_one s wide some h))
