-- A request target in its two parts (RFC 3986, section 3).
use Rattle.std.specs.Prelude.{ℕ, ◌==◌, List}
use Rattle.std.specs.List.{before_first, after_first}

-- `b'?'`
abbrev pub question_mark : ℕ
question_mark = 63

-- the path of a target: what stands before its query
abbrev pub path_of : List ℕ → List ℕ
path_of target = before_first (λ byte. byte == question_mark) target

-- the query of a target: what stands behind the first `?`
abbrev pub query_of : List ℕ → List ℕ
query_of target = after_first (λ byte. byte == question_mark) target
