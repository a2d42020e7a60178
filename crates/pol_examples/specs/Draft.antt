-- What comes of an example's or an opening's lines.
use Rattle.std.specs.Prelude.{◌≡◌, true, false}
use Rattle.pol_examples.specs.declared.draft.Draft.{Draft}
use Rattle.pol_examples.specs.declared.draft.Whole.{Whole}
use Rattle.pol_examples.specs.declared.draft.Whole.TheVariants.{Example, Opening}

-- an example of this title, with the settings, the end and the values that were read, or an opening of this name
abbrev pub IsWhole : Draft → Whole → Type 0
IsWhole draft (Example example) =
    (draft.is_opening ≡ false) × (example.title ≡ draft.title) × (example.line ≡ draft.line)
    × (example.settings ≡ draft.settings) × (example.end ≡ draft.end) × (example.holds ≡ draft.holds) × (example.values ≡ draft.values)
IsWhole draft (Opening opening) =
    (draft.is_opening ≡ true) × (opening.name ≡ draft.title)
    × (opening.catalogue ≡ draft.settings.catalogue.start) × (opening.objects ≡ draft.settings.objects.start)
