-- What replies say.
use Rattle.std.specs.Prelude.{ℕ, Bool, true, false, List, codes}
use Rattle.pol_commands.specs.declared.reply.OptionName.{OptionName}
use Rattle.pol_commands.specs.declared.reply.OptionName.TheVariants as option
use Rattle.pol_commands.specs.declared.reply.Quantity.{Quantity}
use Rattle.pol_commands.specs.declared.reply.Quantity.TheVariants.{Catalogs, Principals, PrincipalRoles, CatalogRoles, Members, Joins, Grants, Namespaces, Tables, Views, AllowedLocations, Schemas, PartitionSpecs, SortOrders, Refs, Snapshots, Properties, Weight, TransactionTables, NextId, NextSerial, Version}
use Rattle.pol_commands.specs.declared.reply.Refusal.{Refusal}
use Rattle.pol_commands.specs.declared.reply.Refusal.TheVariants.{RunFull, InvalidClient, InvalidScope, Unauthenticated, NoCatalogue, Forbidden, NoNamespace, NoTable, NoView, NoSuchRole, NameTaken, NotEmpty, KeyTwice, TableTwice, RequirementFailed, UpdateRefused, BadLocation, LocationOutside, LocationOverlap, Unsupported, Limit, Reserved, TooManyTokens, TokenUnknown, NotCovered, NotWritable}
use Rattle.pol_commands.specs.declared.reply.Reply.{Reply}
use Rattle.pol_commands.specs.declared.reply.Reply.TheVariants.{Answered, Refused}
use Rattle.pol_updates.specs.declared.update.LeftOut.{LeftOut}
use Rattle.pol_updates.specs.declared.update.LeftOut.TheVariants as left

-- the name of an update that isn't served (Iceberg REST OpenAPI, TableUpdate)
abbrev pub left_out_text : LeftOut → List ℕ
left_out_text left.SetStatistics = codes "set-statistics"
left_out_text left.RemoveStatistics = codes "remove-statistics"
left_out_text left.SetPartitionStatistics = codes "set-partition-statistics"
left_out_text left.RemovePartitionStatistics = codes "remove-partition-statistics"
left_out_text left.AddEncryptionKey = codes "add-encryption-key"
left_out_text left.RemoveEncryptionKey = codes "remove-encryption-key"

-- the name of an option
abbrev pub option_text : OptionName → List ℕ
option_text option.Type = codes "type"
option_text option.StageCreate = codes "stage-create"
option_text option.FormatVersion = codes "format-version"
option_text (option.Update action) = left_out_text action

-- the name of a quantity
abbrev pub quantity_text : Quantity → List ℕ
quantity_text Catalogs = codes "catalogues"
quantity_text Principals = codes "principals"
quantity_text PrincipalRoles = codes "principal roles"
quantity_text CatalogRoles = codes "catalogue roles"
quantity_text Members = codes "members"
quantity_text Joins = codes "joins"
quantity_text Grants = codes "grants"
quantity_text Namespaces = codes "namespaces"
quantity_text Tables = codes "tables"
quantity_text Views = codes "views"
quantity_text AllowedLocations = codes "allowed locations"
quantity_text Schemas = codes "schemas"
quantity_text PartitionSpecs = codes "partition specs"
quantity_text SortOrders = codes "sort orders"
quantity_text Refs = codes "refs"
quantity_text Snapshots = codes "snapshots"
quantity_text Properties = codes "properties"
quantity_text Weight = codes "weight"
quantity_text TransactionTables = codes "tables in a transaction"
quantity_text NextId = codes "next_id"
quantity_text NextSerial = codes "next_serial"
quantity_text Version = codes "version"

-- whether a refusal is that the run is full
abbrev pub is_full : Refusal → Bool
is_full (RunFull charged charge) = true
is_full InvalidClient = false
is_full InvalidScope = false
is_full Unauthenticated = false
is_full (NoCatalogue name) = false
is_full (Forbidden privilege securable) = false
is_full (NoNamespace namespace) = false
is_full (NoTable identifier) = false
is_full (NoView identifier) = false
is_full (NoSuchRole name) = false
is_full (NameTaken name) = false
is_full (NotEmpty name) = false
is_full (KeyTwice key) = false
is_full (TableTwice first second) = false
is_full (RequirementFailed table requirement) = false
is_full (UpdateRefused table update why) = false
is_full (BadLocation place why) = false
is_full (LocationOutside location) = false
is_full (LocationOverlap location other) = false
is_full (TooManyTokens live) = false
is_full (Unsupported name) = false
is_full (Limit quantity bound) = false
is_full (Reserved name) = false
is_full TokenUnknown = false
is_full NotCovered = false
is_full NotWritable = false

-- whether a reply is that refusal
abbrev pub is_run_full : Reply → Bool
is_run_full (Answered answer) = false
is_run_full (Refused why) = is_full why
