-- Laws of names and namespaces.
use Rattle.std.specs.Prelude.{◌≡◌, ◌↔◌, ℕ, List, None, All}
use Rattle.std.specs.Str.{IsUtf8}
use Rattle.pol_names.specs.Name.{IsName, name_refusal}
use Rattle.pol_names.specs.Namespace.{IsNamespace, levels_of, namespace_refusal, segment_of}
use Rattle.pol_names.specs.Plain.{IsPlainName, plain_refusal}

-- the rules refuse no text exactly where it is a name
abbrev pub NamesPass : Type 0
NamesPass = (text : List ℕ) → IsUtf8 text → (name_refusal text ≡ None) ↔ IsName text

-- the same of plain names, whose bytes are ASCII
abbrev pub PlainNamesPass : Type 0
PlainNamesPass = (text : List ℕ) → (plain_refusal text ≡ None) ↔ IsPlainName text

-- the same of namespaces
abbrev pub NamespacesPass : Type 0
NamespacesPass = (levels : List (List ℕ)) → All IsUtf8 levels → (namespace_refusal levels ≡ None) ↔ IsNamespace levels

-- the segment of a namespace has its levels
abbrev pub SegmentsReadBack : Type 0
SegmentsReadBack = (levels : List (List ℕ)) → IsNamespace levels → levels_of (segment_of levels) ≡ levels

-- the levels of a segment make the segment
abbrev pub SegmentsWriteBack : Type 0
SegmentsWriteBack = (segment : List ℕ) → segment_of (levels_of segment) ≡ segment
