-- The words of a metadata (Iceberg table spec, Primitive Types and Partition Transforms).
use Rattle.std.specs.Prelude.{ℕ, List, ◌++◌, codes, decimal}
use Rattle.pol_meta.specs.declared.column.Kind.{Kind}
use Rattle.pol_meta.specs.declared.column.Kind.TheVariants as kind
use Rattle.pol_meta.specs.declared.sort.Direction.{Direction}
use Rattle.pol_meta.specs.declared.sort.Direction.TheVariants.{Asc, Desc}
use Rattle.pol_meta.specs.declared.sort.NullOrder.{NullOrder}
use Rattle.pol_meta.specs.declared.sort.NullOrder.TheVariants.{NullsFirst, NullsLast}
use Rattle.pol_meta.specs.declared.reference.RefKind.{RefKind}
use Rattle.pol_meta.specs.declared.reference.RefKind.TheVariants.{Branch, Tag}
use Rattle.pol_meta.specs.declared.transform.Transform.{Transform}
use Rattle.pol_meta.specs.declared.transform.Transform.TheVariants.{Identity, Void, Year, Month, Day, Hour, Bucket, Truncate}
use Rattle.pol_metakeys.specs.declared.keys.TheConstants.{ASC, BRANCH, DESC, LIST, MAP, NULLS_FIRST, NULLS_LAST, STRUCT, TAG}

-- a number in brackets
abbrev pub sized_text : List ℕ → ℕ → List ℕ
sized_text word size = word ++ (codes "[" ++ (decimal size ++ codes "]"))

abbrev pub transform_text : Transform → List ℕ
transform_text Identity = codes "identity"
transform_text Void = codes "void"
transform_text Year = codes "year"
transform_text Month = codes "month"
transform_text Day = codes "day"
transform_text Hour = codes "hour"
transform_text (Bucket buckets) = sized_text (codes "bucket") buckets
transform_text (Truncate width) = sized_text (codes "truncate") width

abbrev pub direction_text : Direction → List ℕ
direction_text Asc = ASC.now
direction_text Desc = DESC.now

abbrev pub null_order_text : NullOrder → List ℕ
null_order_text NullsFirst = NULLS_FIRST.now
null_order_text NullsLast = NULLS_LAST.now

abbrev pub ref_kind_text : RefKind → List ℕ
ref_kind_text Branch = BRANCH.now
ref_kind_text Tag = TAG.now

-- the words of types; one with columns in it has the word that says which it is
abbrev pub kind_text : Kind → List ℕ
kind_text kind.Boolean = codes "boolean"
kind_text kind.Int = codes "int"
kind_text kind.Long = codes "long"
kind_text kind.Float = codes "float"
kind_text kind.Double = codes "double"
kind_text kind.Date = codes "date"
kind_text kind.Time = codes "time"
kind_text kind.Timestamp = codes "timestamp"
kind_text kind.Timestamptz = codes "timestamptz"
kind_text kind.String = codes "string"
kind_text kind.Uuid = codes "uuid"
kind_text kind.Binary = codes "binary"
kind_text (kind.Decimal precision scale) =
    codes "decimal(" ++ (decimal precision ++ (codes ", " ++ (decimal scale ++ codes ")")))
kind_text (kind.Fixed length) = sized_text (codes "fixed") length
kind_text kind.Struct = STRUCT.now
kind_text kind.List = LIST.now
kind_text kind.Map = MAP.now
