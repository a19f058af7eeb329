-- What a log has written, and what it has yet to write.
use Rattle.std.specs.Prelude.{◌≡◌, ℕ, List, ◌++◌, Option, drop}
use Rattle.std.specs.Io.KnownBytes.{Appends}
use Rattle.scim_line_log.specs.declared.line_logs.LineLog.{LineLog}

-- the writer of the log
abbrev pub writer_of : {W : Type 0} → LineLog W → W
writer_of log = log.writer

-- the bytes of the last line that the writer hasn't taken
abbrev pub rest_of : {W : Type 0} → LineLog W → List ℕ
rest_of log = drop log.written log.line.items

-- the writer of the log takes a prefix of what was left and of the text; what is behind the prefix is left
pub record Takes {W : Type 0} (contents : W → Option (List ℕ)) (text : List ℕ) (old new : LineLog W) : Type 0 where
  pub taken : List ℕ
  pub split : taken ++ rest_of new ≡ rest_of old ++ text
  pub writes : Appends (contents (writer_of old)) (contents (writer_of new)) taken
