-- The names of the files of an archive.
use Rattle.std.specs.Prelude.{◌≡◌, ◌⊎◌, ℕ, List, ◌++◌, codes, string_bytes}
use Rattle.scim_archive_files.specs.declared.names.ArchiveNames.{ArchiveNames}

-- the name of the database, and that of the archive
abbrev pub database_of : ArchiveNames → List ℕ
database_of names = string_bytes names.database

abbrev pub archive_of : ArchiveNames → List ℕ
archive_of names = string_bytes names.archive

-- the names of the new database and of the archive, until they have their own
abbrev pub new_of : ArchiveNames → List ℕ
new_of names = string_bytes names.new

abbrev pub part_of : ArchiveNames → List ℕ
part_of names = string_bytes names.part

-- The logs and the files that are made have the names of the files beside which they are.
pub record AreNamed (names : ArchiveNames) : Type 0 where
  pub log : string_bytes names.log ≡ database_of names ++ codes "-wal"
  pub new : new_of names ≡ database_of names ++ codes ".archiving"
  pub new_log : string_bytes names.new_log ≡ new_of names ++ codes "-wal"
  pub part : part_of names ≡ archive_of names ++ codes ".archiving"

-- SQLite's files of a database: it, its log and its journal
abbrev pub IsFileOf : List ℕ → List ℕ → Type 0
IsFileOf database name =
    (name ≡ database ++ codes "") ⊎ ((name ≡ database ++ codes "-wal") ⊎ (name ≡ database ++ codes "-journal"))

-- The archive isn't a file of the database or of the new one, and the database isn't a file of the archive or its part.
-- So no two files for which there are names have the same name.
pub record AreApart (names : ArchiveNames) : Type 0 where
  pub archive : ¬ IsFileOf (database_of names) (archive_of names)
  pub archive_and_new : ¬ IsFileOf (new_of names) (archive_of names)
  pub database : ¬ IsFileOf (archive_of names) (database_of names)
  pub part : ¬ (database_of names ≡ part_of names)
