-- Two images, the second's pages after the first's.
use Rattle.std.specs.Prelude.{ℕ, ◌+◌, ◌-◌, Bool, cond, if◌then◌else◌, not, ◌||◌, [], ◌∷◌, ◌++◌, is_ok, Option, Some, None, ◌==◌, nat_lt}
use Rattle.fault.specs.Faults.{on, unless}
use Rattle.fault.specs.declared.refusal.Refusal.TheVariants.{PairParts}
use Rattle.image.specs.Answers.{Answer}
use Rattle.image.specs.Pages.{Pages, count, extent_of, no_pages}
use Rattle.image.specs.declared.extent.Extent.{Extent}
use Rattle.pair.specs.declared.pair.Part.{Part}
use Rattle.pair.specs.declared.pair.Part.TheVariants.{First, Second}

abbrev pub joined : Pages → Pages → Pages
joined a b = record { size = a.size; pages = a.pages ++ b.pages }

-- 34: a part has no pages, the page lengths differ, the first ends with a short page, or there are more than 4,096 pages.
abbrev pub parts_bad : Extent → Extent → Bool
parts_bad a b =
    (a.count == 0) || (b.count == 0
    || (not (a.size == b.size) || (not (a.last == a.size)
    || nat_lt 4096 (a.count + b.count))))

-- The check.
abbrev pub pair_answer : Pages → Pages → Answer
pair_answer a b = unless (on (parts_bad (extent_of a) (extent_of b)) PairParts 0 ∷ []) tt

-- The image that is made of two.
abbrev pub pair_made : Pages → Pages → Pages
pair_made a b = cond (is_ok (pair_answer a b)) (joined a b) no_pages

-- How large the image of two is, where they can be joined.
abbrev pub joined_extent : Extent → Extent → Option Extent
joined_extent a b = if parts_bad a b then None else Some (record { size = a.size; count = a.count + b.count; last = b.last })

-- The part that has page k, where the two are joined, and the page's number there.
abbrev pub part_at : Pages → Pages → ℕ → Option Part
part_at a b k =
    if is_ok (pair_answer a b) then Some (if nat_lt k (count a) then First k else Second (k - count a)) else None
