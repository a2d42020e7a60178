-- The answers to replies of the object machine.
use Rattle.std.specs.Prelude.{ℕ, List, map, codes}
use Rattle.serde_json.specs.Data.{Data, string, array, object, member, no_members}
use Rattle.serde_json.specs.View.{items_of}
use Rattle.pol_http.specs.declared.answer.Answer.{Answer}
use Rattle.pol_http.specs.declared.answer.Body.TheVariants as body
use Rattle.pol_json_answers.specs.JsonAnswers.{answer_with, error_answer, json_answer}
use Rattle.pol_locations.specs.Location.{location_text}
use Rattle.pol_objects.specs.Rules.{rule_text}
use Rattle.pol_objects.specs.declared.reply.ObjectReply.{ObjectReply}
use Rattle.pol_objects.specs.declared.reply.ObjectReply.TheVariants.{Bytes, Length, Stored, Deleted, Paths, Refused}
use Rattle.pol_objects.specs.declared.rule.ObjectRule.{ObjectRule}
use Rattle.pol_objects.specs.declared.rule.ObjectRule.TheVariants.{NoObject, ObjectThere, TooLong, SpaceFull}

-- the status of the answer to what a rule refuses
abbrev pub status_of : ObjectRule → ℕ
status_of NoObject = 404
status_of ObjectThere = 409
status_of (TooLong length) = 413
status_of (SpaceFull counted) = 503

-- the type of the error (Iceberg REST OpenAPI, ErrorModel)
abbrev pub kind_of : ObjectRule → List ℕ
kind_of NoObject = codes "NotFoundException"
kind_of ObjectThere = codes "AlreadyExistsException"
kind_of (TooLong length) = codes "BadRequestException"
kind_of (SpaceFull counted) = codes "ServiceUnavailableException"

-- the answer to what a rule refuses: the message is the rule's text
abbrev pub refused_answer : ObjectRule → Answer
refused_answer rule = error_answer (status_of rule) (rule_text rule) (kind_of rule)

-- the answer that gives the bytes of an object
abbrev pub bytes_answer : List ℕ → Answer
bytes_answer bytes = answer_with 200 (body.Object bytes)

-- the list of the texts of paths
abbrev pub texts_json : List (List (List ℕ)) → Data
texts_json paths = array (items_of (map (λ path. string (location_text path)) paths))

-- the object that lists paths
abbrev pub paths_object : Data → Data
paths_object texts = object (member (codes "paths") texts no_members)

-- the answer that lists paths
abbrev pub paths_answer : List (List (List ℕ)) → Answer
paths_answer paths = json_answer 200 (paths_object (texts_json paths))

-- the answer to a reply: of an object whose length is asked for there is the length alone, and of one that was stored or
-- deleted nothing is told
unfoldable pub object_answer_of : ObjectReply → Answer
object_answer_of (Bytes bytes) = bytes_answer bytes
object_answer_of (Length length) = answer_with 200 (body.Length length)
object_answer_of Stored = answer_with 201 body.Nothing
object_answer_of Deleted = answer_with 204 body.Nothing
object_answer_of (Paths paths) = paths_answer paths
object_answer_of (Refused rule) = refused_answer rule
