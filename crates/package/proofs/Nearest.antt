-- What nearest answers in an image that the library made: the theorem `NearestAsMap` of specs/Images.antt. Assumes nothing.
use mathlib.Core.Path.{◌∙◌, ap}
use mathlib.Core.List.{List}
use Rattle.outcome.specs.Answer.{first_refusal}
use Rattle.outcome.specs.Result.{Result}
use Rattle.profile.specs.declared.Profile.{Profile}
use Rattle.profile.specs.Rules.{Class}
use Rattle.store.specs.Stored.{classes_of, stored}
use Rattle.store.specs.Calls.{found_line}
use Rattle.nearest.specs.declared.Measured.{Measured}
use Rattle.nearest.specs.Nearest.{measured_of, measured_ok}
use Rattle.nearest.proofs.Reached.{reached_nearest}
use Rattle.package.specs.Images.{made, in_map_checks, NearestAsMap}
use Rattle.package.proofs.Stages.{front_as}
use Rattle.package.proofs.Runs.{image_reached}
use Rattle.package.proofs.InMap.{as_found}

pub nearest_as_map : NearestAsMap
nearest_as_map offers image country hertz volts old before answer lent after run suggests =
    let m : Measured = measured_of country hertz volts in
    let table : List Class = classes_of image in
    let is = image_reached offers image run in
    let all = reached_nearest table (made offers).calls (stored image) is.reached m in
    let same = as_found table image country old (measured_ok m) _ is.size (λ p e. (all.looked_up p e).0) in
    let map = ap (λ (r : Result Profile). first_refusal (in_map_checks country (measured_ok m) r old)) all.as_map in
    front_as (same ∙ map) (λ e. ap found_line all.as_map) suggests
