-- No value of JSON has an empty text.
use Rattle.std.proofs.Common.{◌≢◌, ◌<◌, ℕ, List, [], ◌∷◌, length, sym, arith}
use Rattle.json.specs.Json.{Json, null, boolean, number, string, array, object}
use Rattle.json.specs.Lex.{lex, punctuate}
use Rattle.json.specs.Tree.{json_tokens}
use Rattle.serde_json.specs.Data.{Data}
use Rattle.serde_json.specs.Written.{IsInOrder}

has_token : (value : Json) → json_tokens value ≢ []
has_token null is = cc
has_token (boolean b) is = cc
has_token (number s) is = cc
has_token (string s) is = cc
has_token (array values) is = cc
has_token (object fields) is = cc

pub text_some : (text : List ℕ) (value : Data) → IsInOrder text value → 0 < length text
unfolding lex punctuate
text_some [] value of_value = absurd (has_token of_value.0 (sym of_value.1))
text_some (b ∷ bs) value of_value = omega arith
