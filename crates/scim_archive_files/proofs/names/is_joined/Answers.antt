use Rattle.std.proofs.Common.{sym, ◌∙◌, ap, ℕ, List, ◌++◌, Some, None}
use Rattle.std.proofs.lemmas.Bool.Decides.{Decides-eqb}
use Rattle.std.proofs.lemmas.List.{append_cancel_left}
use Rattle.std.proofs.lemmas.Slice.Eq.{slice_eq-Decides, strip_prefix_is}
use Rattle.scim_archive_files.proofs.names.is_joined.Goals as goal

pub returns-in-Some : goal.returns-in-Some
returns-in-Some c =
    let front = λ (rest : List ℕ). ap (λ (p : List ℕ). p ++ rest) c.as_bytes-2.ensures.value in
    let split = sym c.as_bytes.ensures.value ∙ strip_prefix_is Decides-eqb _ _ (Some c.in-Some.rest) c.in-Some.ensures.cases ∙ front c.in-Some.rest.now in
    let same = slice_eq-Decides Decides-eqb _ _ _ c.eq.ensures in (
      λ is. split ∙ ap (λ rest. c.args.other.now ++ rest) (same.0 is ∙ c.as_bytes-in-Some.ensures.value),
      λ is. same.1 (append_cancel_left c.args.other.now _ _ (sym split ∙ is) ∙ sym c.as_bytes-in-Some.ensures.value),
    )

pub returns-in-None : goal.returns-in-None
returns-in-None c =
    let none = strip_prefix_is Decides-eqb _ _ None c.in-None.ensures.cases in
    let front = ap (λ (p : List ℕ). p ++ c.args.ending.now) (sym c.as_bytes-2.ensures.value) in
    (λ f. absurd (cc), λ is. absurd (none c.args.ending.now (c.as_bytes.ensures.value ∙ is ∙ front)))
