-- What a line says, by its keyword and the number of its words.
use Rattle.std.specs.Prelude.{cond, List, [], ◌∷◌, codes, Some, None, Option, option_map, bytes_eq}
use Rattle.words.specs.Words.{WordAt}

-- the words behind each keyword
pub data Said : Type 0 where
  context : (name level owner : WordAt) → Said
  constrain : (operations : List WordAt) → Said
  vector : (subject target : WordAt) → (operations : List WordAt) → Said
  grant : (number subjects targets : WordAt) → (operations : List WordAt) → Said
  property : (number template first : WordAt) → (second : Option WordAt) → Said

-- the words, if there is one
abbrev pub one_or_more : List WordAt → Option (List WordAt)
one_or_more [] = None
one_or_more (w ∷ ws) = Some (w ∷ ws)

-- context NAME LEVEL OWNER
abbrev pub context_of : List WordAt → Option Said
context_of (name ∷ level ∷ owner ∷ []) = Some (context name level owner)
context_of _ = None

-- constrain OP ..
abbrev pub constrain_of : List WordAt → Option Said
constrain_of ws = option_map constrain (one_or_more ws)

-- vector S T OP ..
abbrev pub vector_of : List WordAt → Option Said
vector_of (s ∷ t ∷ ws) = option_map (vector s t) (one_or_more ws)
vector_of _ = None

-- grant N SET SET OP ..
abbrev pub grant_of : List WordAt → Option Said
grant_of (n ∷ a ∷ b ∷ ws) = option_map (grant n a b) (one_or_more ws)
grant_of _ = None

-- property N TEMPLATE SET [SET]
abbrev pub property_of : List WordAt → Option Said
property_of (n ∷ template ∷ a ∷ []) = Some (property n template a None)
property_of (n ∷ template ∷ a ∷ b ∷ []) = Some (property n template a (Some b))
property_of _ = None

-- a line by its keyword and the words behind that; none: the keyword is unknown, or the number of words is wrong
abbrev pub line_of : List WordAt → Option Said
line_of [] = None
line_of (keyword ∷ ws) =
    cond (bytes_eq keyword.bytes (codes "context")) (context_of ws)
    (cond (bytes_eq keyword.bytes (codes "constrain")) (constrain_of ws)
    (cond (bytes_eq keyword.bytes (codes "vector")) (vector_of ws)
    (cond (bytes_eq keyword.bytes (codes "grant")) (grant_of ws)
    (cond (bytes_eq keyword.bytes (codes "property")) (property_of ws) None))))
