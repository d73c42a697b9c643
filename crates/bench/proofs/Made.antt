-- What is made of a lent buffer: the image of its pages, or one of no pages.
use Rattle.std.proofs.Common.{◌≡◌, ℕ, Bool, true, false, List, [], ◌∷◌, length, nat_lt, Result, refl, subst}
use Rattle.std.specs.Result.{result_unwrap_or}
use Rattle.fault.specs.Faults.{on, unless}
use Rattle.fault.specs.declared.fault.Fault.{Fault}
use Rattle.fault.specs.declared.refusal.Refusal.TheVariants.{ImageShape, LockedPages}
use Rattle.image.specs.Pages.{WellFormed, extent_of, no_pages}
use Rattle.image.specs.declared.extent.Extent.{Extent}
use Rattle.image.proofs.Sound.{none_sound}
use Rattle.bench.specs.Benches.{bench_held, bench_rows, bench_state}
use Rattle.bench.specs.Buffers.{extent_over, pages_of, shape_bad}
use Rattle.bench.specs.Sound.{cut_sound}
use Rattle.bench.proofs.Cuts.{cut_extent}

-- the extent is that of a well-formed image
pub record Made (q : ℕ) (buffer : List ℕ) (e : Extent) : Type 0 where
  pub large : e ≡ extent_of (bench_held e q buffer)
  pub sound : WellFormed (bench_held e q buffer)

module _ (size q : ℕ) (buffer : List ℕ) where
  made_by : (bad worse : Bool) → shape_bad size (length buffer) ≡ bad
      → Made q buffer (result_unwrap_or (unless (on bad ImageShape 0 ∷ on worse LockedPages 0 ∷ []) (extent_over size (length buffer))) (extent_of no_pages))
  made_by true worse h = record { large = refl; sound = none_sound }
  made_by false true h = record { large = refl; sound = none_sound }
  made_by false false h = record { large = cut_extent size (bench_state q) buffer h; sound = cut_sound size (bench_state q) buffer h }

  -- as the code has it: r is what the checks gave
  pub made : (r : Result Extent Fault) (e none : Extent) → r ≡ unless (bench_rows size q (length buffer)) (extent_over size (length buffer))
      → none ≡ extent_of no_pages → e ≡ result_unwrap_or r none → Made q buffer e
  made r e none told nothing held =
      let given : result_unwrap_or (unless (bench_rows size q (length buffer)) (extent_over size (length buffer))) (extent_of no_pages) ≡ e = cc in
      subst (Made q buffer) given (made_by (shape_bad size (length buffer)) (nat_lt (pages_of size (length buffer)) q) refl)
