-- The state of a reader of a users file.
use Rattle.std.specs.Prelude.{◌≡◌, ◌+◌, ℕ, List, ◌∷◌, length}
use Rattle.json.specs.Token.{Token}
use Rattle.json.specs.Lex.{tokens}
use Rattle.scim_cell.specs.Content.{Content}
use Rattle.scim_json.specs.declared.users_files.DocumentReader.{DocumentReader}
use Rattle.scim_json.specs.code.Taken.{Records}
use Rattle.scim_json.specs.code.Listed.{HaveTaken}

-- the reader has read the stored documents of these resources at the beginning of the list in the text
pub record HasRead (base text : List ℕ) (cs : List Content) (r : DocumentReader) : Type 0 where
  pub base_is : r.base.now ≡ base
  pub number_is : r.number ≡ length cs + 1
  pub records : Records r.taken cs
  pub all : List Token
  pub begins : tokens text ≡ Token.begin_array ∷ all
  pub have : HaveTaken base all cs r.reader

-- the number of tokens that the reader hasn't read
abbrev pub unread : DocumentReader → ℕ
unread r = length r.reader
