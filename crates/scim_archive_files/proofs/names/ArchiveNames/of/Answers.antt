use Rattle.std.proofs.Common.{ap, ◌++◌, codes, List, ℕ, ◌∙◌, sym}
use Rattle.scim_archive_files.proofs.names.ArchiveNames.of.Goals as goal

pub returns-clause-named : goal.returns-clause-named
returns-clause-named c =
    let database = sym c.in_ok-from_str.ensures.ok in
    let archive = sym c.in_ok-from_str-2.ensures.ok in
    record {
      log = c.in_ok-joined.ensures ∙ ap (λ (name : List ℕ). name ++ codes "-wal") database;
      new = c.in_ok-new.ensures ∙ ap (λ (name : List ℕ). name ++ codes ".archiving") database;
      new_log = c.in_ok-joined-2.ensures ∙ ap (λ (name : List ℕ). name ++ codes "-wal") c.as_str-2.ensures.value;
      part = c.in_ok-part.ensures ∙ ap (λ (name : List ℕ). name ++ codes ".archiving") archive;
    }
