use Rattle.std.proofs.Common.{◌≡◌, ◌≤◌, length, List, ℕ, Option, None, Result, Ok, Err, sym, subst, ◌∙◌}
use Rattle.std.specs.Prelude.{MatchOption}
use Rattle.scim_schema.specs.declared.Kind.{Kind}
use Rattle.scim_schema.specs.declared.schema_urns.Schema.{Schema}
use Rattle.scim_schema.specs.declared.limits.TheConstants.{LONGEST_FILTER}
use Rattle.scim_filter_grammar.specs.declared.written_paths.WrittenPath.{WrittenPath}
use Rattle.scim_filter_grammar.specs.WrittenPaths.{Written, IsWritten, written_of}
use Rattle.scim_path.specs.declared.faults.PathFault.{PathFault}
use Rattle.scim_path.specs.declared.faults.PathFault.TheVariants.{Syntax}
use Rattle.scim_path.specs.Paths.{PathTarget, OfExtension, extension_named, Reads, spelled, unspelled, Names, written_target}
use Rattle.scim_path.proofs.path_reading.path_named.Goals as goal

-- where no extension's URN stands alone, what is read of the text is what it names
names_what_it_reads : (kind : Kind) (text : List ℕ) (r : Result PathTarget PathFault) → extension_named kind text ≡ None → Reads kind text r → Names kind text r
names_what_it_reads kind text r none reads = subst (λ (o : Option Schema). MatchOption o (Reads kind text r) (λ schema. r ≡ Ok (OfExtension schema))) (sym none) reads

-- where a path is written, what it names is what the text names
names_written : (kind : Kind) (text : List ℕ) (path : WrittenPath) (r : Result PathTarget PathFault) → extension_named kind text ≡ None
    → length text ≤ LONGEST_FILTER → IsWritten kind 32 text (written_of path) → r ≡ written_target (written_of path) → Names kind text r
names_written kind text path r none short is same =
    names_what_it_reads kind text r none (subst (Reads kind text) (sym same) (spelled (written_of path) short is))

pub returns-in-Ok : goal.returns-in-Ok
returns-in-Ok c =
    let path : WrittenPath = c.in-Some-2.path in
    let found : (length c.args.text.now ≤ LONGEST_FILTER) × IsWritten c.args.kind 32 c.args.text.now (written_of path) = rw c.in-Some-2.is at c.in_ok-path.ensures.found in
    names_written c.args.kind c.args.text.now path _ (sym c.extension_named.ensures ∙ c.in_default.is) found.0 found.1 (rw c.in-Ok.is at c.written.ensures)

pub returns-in-Err : goal.returns-in-Err
returns-in-Err c =
    let path : WrittenPath = c.in-Some-2.path in
    let found : (length c.args.text.now ≤ LONGEST_FILTER) × IsWritten c.args.kind 32 c.args.text.now (written_of path) = rw c.in-Some-2.is at c.in_ok-path.ensures.found in
    names_written c.args.kind c.args.text.now path _ (sym c.extension_named.ensures ∙ c.in_default.is) found.0 found.1 (rw c.in-Err.is at c.written.ensures)

pub returns-in-None : goal.returns-in-None
returns-in-None c =
    let unread : (w : Written) → length c.args.text.now ≤ LONGEST_FILTER → ¬ (IsWritten c.args.kind 32 c.args.text.now w) = rw c.in-None.is at c.in_ok-path.ensures.only in
    names_what_it_reads c.args.kind c.args.text.now (Err Syntax) (sym c.extension_named.ensures ∙ c.in_default.is) (unspelled unread)
