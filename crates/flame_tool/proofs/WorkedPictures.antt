-- Worked examples of what a picture says of its sources, computed on the definitions.
use Rattle.std.proofs.Common.{◌≡◌, ℕ, List, [], ◌∷◌, codes, refl, Some, None, false, true}
use Rattle.command_line.specs.Plans.{default_plan}
use Rattle.page_texts.specs.Page.{PageSource}
use Rattle.sample_tables.specs.declared.samples.Sample.{Sample}
use Rattle.flame_tool.specs.Pages.{asked_frame}
use Rattle.flame_tool.specs.Pictures.{common_unit, units_with_weight}
use Rattle.profile_messages.specs.declared.types.SampleType.{SampleType}

abbrev of_unit : List ℕ → ℕ → PageSource
of_unit unit weight = record { name = codes "x"; type_name = []; unit = unit; weight = weight }

-- a source without weight changes nothing
unit_of_all : common_unit (units_with_weight (of_unit (codes "bytes") 2 ∷ of_unit [] 0 ∷ of_unit (codes "bytes") 1 ∷ [])) ≡ codes "bytes"
unit_of_all = refl

different_units : common_unit (units_with_weight (of_unit (codes "bytes") 2 ∷ of_unit (codes "seconds") 3 ∷ [])) ≡ []
different_units = refl

no_weight : common_unit (units_with_weight (of_unit (codes "bytes") 0 ∷ [])) ≡ []
no_weight = refl

abbrev weighing : ℕ → Sample
weighing weight = record { stack = codes "a" ∷ []; weight = weight }

abbrev counting : SampleType
counting = record { name = codes "cpu"; unit = codes "nanoseconds" }

asked : asked_frame (record default_plan { files = codes "x.pb" ∷ [] }) (record { whole = 2; types = counting ∷ [] }) (record { title = None; is_root_below = true; is_share = false }) ((weighing 2 ∷ []) ∷ [])
    ≡ record { title = codes "x.pb"; unit = codes "nanoseconds"; is_root_below = true; is_share = false }
asked = refl

-- a title that the words set is taken as it is
titled : (asked_frame default_plan (record { whole = 0; types = [] }) (record { title = Some (codes "t"); is_root_below = false; is_share = false }) []).title ≡ codes "t"
titled = refl
