-- The marks of a table: the node that a step works, the path that a put marks, and how many there are.
use Rattle.std.proofs.Common.{◌≡◌, ℕ, zero, suc, ◌+◌, ◌*◌, ◌<◌, ◌≤◌, Bool, true, false, cond, ◌≢◌, List, length, is_some, Some, None, Option, sym, refl, ap, ◌∙◌, subst, arith}
use Rattle.std.proofs.lemmas.Bool.{true≢false}
use Rattle.std.proofs.lemmas.Option.{option_and_then_some}
use Rattle.std.specs.Option.{option_and_then, option_map}
use Rattle.nodehash.specs.Hashing.{node}
use Rattle.nodehash.specs.declared.position.Position.{Position}
use Rattle.tree.specs.declared.shape.Shape.{Shape}
use Rattle.tree.specs.Marks.{marked_at, held_at, marks, leftmost, lowest, next, mark_path}
use Rattle.tree.specs.Records.{marked, mark}
use Rattle.tree.specs.Shapes.{layer_count, node_count, over_nodes, place, path, group_size, IsNode}
use Rattle.tree.proofs.Below.{by_last, first_none, first_some}
use Rattle.tree.proofs.Records.{length-mark, marked-mark, marked-mark_other, mark_stays, held-mark}
use Rattle.tree.proofs.Shapes.{place-below, place_other, path_node, group_node, nodes_zero, nodes_none, nodes_one}

none_is : {A : Type 0} (o : Option A) → is_some o ≡ false → o ≡ None
none_is (Some x) e = cc
none_is None e = refl

option_map_some : {A B P : Type 0} (f : A → B) (o : Option A) (y : B) → option_map f o ≡ Some y → ((x : A) → o ≡ Some x → f x ≡ y → P) → P
option_map_some f None y e k = absurd (cc)
option_map_some f (Some x) y e k = k x refl (cc)

module _ (s : Shape) where
  -- the table has a record for each node
  abbrev pub Long : List ℕ → Type 0
  Long t = 65 * node_count s ≤ length t

  pub room : (t : List ℕ) (k j : ℕ) → Long t → IsNode s k j → 65 * place s k j + 65 ≤ length t
  room t k j h v = let a = place-below s k j v in omega arith

  -- A node that can be worked: it is marked, and no node of its group is.
  pub record Ready (t : List ℕ) (k j : ℕ) : Type 0 where
    pub node : IsNode s k j
    pub is_marked : marked_at s t k j ≡ true
    pub bare : (k' i : ℕ) → k ≡ suc k' → i < group_size s k' j → marked_at s t k' (j * s.fanout + i) ≡ false

  -- A marked node below whose layer none is marked.
  record Lowest (t : List ℕ) (k j : ℕ) : Type 0 where
    node : IsNode s k j
    is_marked : marked_at s t k j ≡ true
    lower : (k' j' : ℕ) → k' < k → IsNode s k' j' → marked_at s t k' j' ≡ false

  lowest_ready : (t : List ℕ) (k j : ℕ) → Lowest t k j → Ready t k j
  lowest_ready t k j c = record {
    node = c.node;
    is_marked = c.is_marked;
    bare = λ k' i e l. c.lower k' (j * s.fanout + i) (omega arith) (group_node s k k' j i c.node e l);
  }

  none_left : (t : List ℕ) → lowest s t ≡ None → (k j : ℕ) → IsNode s k j → marked_at s t k j ≡ false
  unfolding lowest leftmost
  none_left t e k j v =
      first_none (marked_at s t k) _ (none_is _ (first_none (λ x. is_some (leftmost s t x)) _ e k v.low)) j v.left

  leftmost_some : (t : List ℕ) (k : ℕ) → lowest s t ≡ Some k → is_some (leftmost s t k) ≡ true
  unfolding lowest
  leftmost_some t k e = (first_some _ _ k e).passes

  -- where there is no next node, none is marked
  pub next_none : (t : List ℕ) → next s t ≡ None → (k j : ℕ) → IsNode s k j → marked_at s t k j ≡ false
  unfolding next
  next_none t e k j v = go (lowest s t) refl e
    where
      inner : (x : ℕ) → lowest s t ≡ Some x → (o : Option ℕ) → leftmost s t x ≡ o → option_map (node x) o ≡ None → marked_at s t k j ≡ false
      inner x e₁ (Some y) e₂ e₃ = cc
      inner x e₁ None e₂ e₃ = absurd (true≢false (sym (leftmost_some t x e₁) ∙ ap is_some e₂))

      go : (o : Option ℕ) → lowest s t ≡ o → option_and_then (λ k. option_map (node k) (leftmost s t k)) o ≡ None → marked_at s t k j ≡ false
      go (Some x) e₁ e₂ = inner x e₁ (leftmost s t x) refl e₂
      go None e₁ e₂ = none_left t e₁ k j v

  lowest_at : (t : List ℕ) (x y : ℕ) → lowest s t ≡ Some x → leftmost s t x ≡ Some y → Lowest t x y
  unfolding lowest leftmost
  lowest_at t x y e₁ e₂ =
      let a = first_some _ _ x e₁ in
      let b = first_some _ _ y e₂ in
      record {
        node = record { low = a.below; left = b.below };
        is_marked = b.passes;
        lower = λ k' j' l v. first_none (marked_at s t k') _ (none_is _ (a.least k' l)) j' v.left;
      }

  -- the next node can be worked
  pub next_some : (t : List ℕ) (v : Position) → next s t ≡ Some v → Ready t v.depth v.offset
  unfolding next
  next_some t v e =
      option_and_then_some _ (lowest s t) v e
      (λ x low f. option_map_some (node x) (leftmost s t x) v f
      (λ y left q. lowest_ready t v.depth v.offset (subst (λ (u : Position). Lowest t u.depth u.offset) q (lowest_at t x y low left))))

  -- THE PATH THAT A PUT MARKS

  pub length-path : (p m : ℕ) (t : List ℕ) → length (mark_path s p m t) ≡ length t
  unfolding mark_path
  length-path p zero t = refl
  length-path p (suc m) t = length-mark (mark_path s p m t) _ ∙ length-path p m t

  -- it changes no digest
  pub held-path : (p m : ℕ) (t : List ℕ) (k j : ℕ) → held_at s (mark_path s p m t) k j ≡ held_at s t k j
  unfolding mark_path held_at
  held-path p zero t k j = refl
  held-path p (suc m) t k j = held-mark (mark_path s p m t) _ (place s k j) ∙ held-path p m t k j

  -- HOW MANY ARE MARKED

  weight_zero : (b : Bool) → ◌≡◌ {A = ℕ} (cond b 1 0) 0 → b ≡ false
  weight_zero true e = absurd (omega arith)
  weight_zero false e = refl

  pub marks_zero : (t : List ℕ) → marks s t ≡ 0 → (k j : ℕ) → IsNode s k j → marked_at s t k j ≡ false
  unfolding marks
  marks_zero t e k j v = weight_zero _ (nodes_zero s _ e k j v)

  -- the sum of w k j over the marked nodes
  abbrev pub weighed : (ℕ → ℕ → ℕ) → List ℕ → ℕ
  weighed w t = over_nodes s (λ k j. cond (marked_at s t k j) (w k j) 0)

  pub weighed_none : (w : ℕ → ℕ → ℕ) (t : List ℕ) → ((k j : ℕ) → IsNode s k j → marked_at s t k j ≡ false) → weighed w t ≡ 0
  weighed_none w t h = nodes_none s _ (λ k j v. rw (h k j v))

  -- a node that loses its mark loses its weight
  pub weighed_one : (w : ℕ → ℕ → ℕ) (t t' : List ℕ) (k₀ j₀ : ℕ) → IsNode s k₀ j₀ → marked_at s t k₀ j₀ ≡ true → marked_at s t' k₀ j₀ ≡ false
      → ((k j : ℕ) → IsNode s k j → ((k ≡ k₀) × (j ≡ j₀) → ⊥) → marked_at s t' k j ≡ marked_at s t k j)
      → weighed w t ≡ w k₀ j₀ + weighed w t'
  weighed_one w t t' k₀ j₀ v is was same =
      nodes_one s _ _ k₀ j₀ (w k₀ j₀) v (rw (is, was) (omega arith)) (λ k j u ne. ap (λ b. cond b (w k j) 0) (sym (same k j u ne)))

  -- a mark adds one at most
  marks-mark : (t : List ℕ) (k₀ j₀ : ℕ) → Long t → IsNode s k₀ j₀ → marks s (mark t (place s k₀ j₀)) ≤ 1 + marks s t
  unfolding marks marked_at
  marks-mark t k₀ j₀ long v = go (marked t (place s k₀ j₀)) refl
    where
      differ : (d : ℕ) → 1 ≡ d + cond (marked t (place s k₀ j₀)) 1 0 → marks s (mark t (place s k₀ j₀)) ≡ d + marks s t
      differ d e =
          nodes_one s _ _ k₀ j₀ d v (rw (marked-mark t (place s k₀ j₀) (room t k₀ j₀ long v)) e)
          (λ k j u ne. ap (λ b. cond b 1 0) (marked-mark_other t _ _ (place_other s k j k₀ j₀ u v ne)))

      go : (b : Bool) → marked t (place s k₀ j₀) ≡ b → marks s (mark t (place s k₀ j₀)) ≤ 1 + marks s t
      go true e = let a = differ 0 (rw e) in omega arith
      go false e = let a = differ 1 (rw e) in omega arith

  module _ (wide : 2 ≤ s.fanout) (p : ℕ) (there : p < s.pages) (t : List ℕ) (long : Long t) where
    path_long : (m : ℕ) → Long (mark_path s p m t)
    path_long m = rw length-path long

    -- nodes off the path keep their marks
    pub path_off : (m k j : ℕ) → m ≤ layer_count s → IsNode s k j → path s.fanout p k ≢ j
        → marked_at s (mark_path s p m t) k j ≡ marked_at s t k j
    unfolding mark_path marked_at
    path_off zero k j l v ne = refl
    path_off (suc m) k j l v ne =
        marked-mark_other (mark_path s p m t) _ _
        (place_other s k j m (path s.fanout p m) v (path_node s p m wide there (omega arith))
        (λ e. ne (ap (path s.fanout p) e.0 ∙ sym e.1)))
        ∙ path_off m k j (omega arith) v ne

    -- and those on it are marked
    pub path_on : (m k : ℕ) → m ≤ layer_count s → k < m → marked_at s (mark_path s p m t) k (path s.fanout p k) ≡ true
    unfolding mark_path marked_at
    path_on zero k l h = absurd (omega arith)
    path_on (suc m) k l h =
        let r = room (mark_path s p m t) m (path s.fanout p m) (path_long m) (path_node s p m wide there (omega arith)) in
        by_last k m h
        (λ low. mark_stays (mark_path s p m t) _ _ r (path_on m k (omega arith) low))
        (λ q. subst (λ y. marked (mark (mark_path s p m t) (place s m (path s.fanout p m))) (place s y (path s.fanout p y)) ≡ true) (sym q)
        (marked-mark (mark_path s p m t) _ r))

    -- a path adds one mark for each layer at most
    pub marks-path : (m : ℕ) → m ≤ layer_count s → marks s (mark_path s p m t) ≤ m + marks s t
    unfolding mark_path
    marks-path zero l = omega arith
    marks-path (suc m) l =
        let a = marks-path m (omega arith) in
        let b = marks-mark (mark_path s p m t) m (path s.fanout p m) (path_long m) (path_node s p m wide there (omega arith)) in
        omega arith
