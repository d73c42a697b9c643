-- Small trees, and the check of one of four layers.
use Rattle.std.proofs.Common.{◌≡◌, ℕ, ◌+◌, ◌-◌, ◌/◌, ◌<◌, ◌≤◌, not, eqb, ltb, take, ap, ap₂, arith}
use native.Mathlib.Nat.{div_self}
use Rattle.std.proofs.lemmas.Bool.{eq-eqb}
use Rattle.nodehash.specs.Hashing.{depth_limit}
use Rattle.tree.specs.Below.{first}
use Rattle.tree.specs.Runs.{Making, check_rows, shape_in}
use Rattle.tree.specs.Shapes.{layer_count, layer_size, root_layer}
use Rattle.tree.proofs.Rows.{Passed}
use Rattle.figures.specs.Figures.{FivePages, shaped}

-- one node makes one group
pub one_group : (f : ℕ) → 2 ≤ f → (1 + (f - 1)) / f ≡ 1
one_group f h = let e : 1 + (f - 1) ≡ f = omega arith in let pos : 0 < f = omega arith in rw e (div_self pos)

module _ (m : Making) (five : FivePages m) where
  four_layers : layer_count (shape_in m) ≡ 4
  unfolding layer_size layer_count root_layer first
  four_layers = ap₂ (λ f n. layer_count (shaped f n)) five.fanout five.pages

  pub too_deep : (depth : ℕ) → depth_limit m.hash ≡ depth → ltb (depth_limit m.hash) (layer_count (shape_in m)) ≡ ltb depth 4
  too_deep depth e = ap₂ ltb e four_layers

  -- the rows before that of the depth
  pub three_rows : Passed (take 3 (check_rows m))
  three_rows = (ap not five.fit, (ap (λ n. eqb n 0) five.pages, (ap not (eq-eqb _ _ five.page), tt)))
