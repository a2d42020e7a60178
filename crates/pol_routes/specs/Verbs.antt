-- What requests do with objects.
use Rattle.std.specs.Prelude.{◌≡◌, ⊤, ℕ, List, Option, Some, None}
use Rattle.pol_commands.specs.declared.command.Action.{Action}
use Rattle.pol_commands.specs.declared.command.Action.TheVariants.{Access}
use Rattle.pol_requests.specs.declared.endpoint.Endpoint.{Endpoint}
use Rattle.pol_requests.specs.declared.endpoint.Endpoint.TheVariants.{OpenSession, Content, Namespace, Table, View, Catalog, Principal, PrincipalRole, CatalogRole, Object}
use Rattle.pol_requests.specs.declared.endpoint.ObjectRequest.{ObjectRequest}
use Rattle.pol_requests.specs.declared.endpoint.ObjectRequest.TheVariants.{GetObject, HeadObject, PutObject, DeleteObject, ListObjects}
use Rattle.pol_tokens.specs.declared.token.Act.{Act}
use Rattle.pol_tokens.specs.declared.token.Act.TheVariants.{Read, Write}
use Rattle.pol_routes.specs.declared.verb.Verb.{Verb}
use Rattle.pol_routes.specs.declared.verb.Verb.TheVariants.{Get, Head, Put, Delete, List as Lists}

abbrev pub object_verb : ObjectRequest → Verb
object_verb GetObject = Get
object_verb HeadObject = Head
object_verb PutObject = Put
object_verb DeleteObject = Delete
object_verb ListObjects = Lists

-- what requests of a kind do with objects: nothing, unless they are for objects
abbrev pub verb_of : Endpoint → Option Verb
verb_of OpenSession = None
verb_of (Content asked) = None
verb_of (Namespace asked) = None
verb_of (Table asked) = None
verb_of (View asked) = None
verb_of (Catalog asked) = None
verb_of (Principal asked) = None
verb_of (PrincipalRole asked) = None
verb_of (CatalogRole asked) = None
verb_of (Object asked) = Some (object_verb asked)

-- what is done by a verb: a put and a delete write
abbrev pub verb_act : Verb → Act
verb_act Get = Read
verb_act Head = Read
verb_act Put = Write
verb_act Delete = Write
verb_act Lists = Read

-- the action asks whether a path may be read or written
abbrev pub AsksFor : Act → Action → Type 0
AsksFor act action = (path : List (List ℕ)) × (action ≡ Access path act)

-- the action goes with the verb: that of a request for objects asks for access as its verb needs it
abbrev pub IsActionOf : Option Verb → Action → Type 0
IsActionOf None action = ⊤
IsActionOf (Some verb) action = AsksFor (verb_act verb) action
