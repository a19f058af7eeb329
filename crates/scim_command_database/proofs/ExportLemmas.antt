-- What a visitor holds that wrote the documents of all that it was shown.
use Rattle.std.proofs.Common.{◌≡◌, sym, ap, ◌∙◌, ℕ, List, [], ◌∷◌, ◌++◌, append_assoc, string_bytes}
use Rattle.std.specs.Prelude.{codes}
use Rattle.std.specs.List.{FoldsTo, flat_map, join_by}
use Rattle.std.proofs.lemmas.List.{append-nil}
use Rattle.scim_cell.specs.Content.{Content}
use Rattle.scim_json.specs.Stored.{stored_text}
use Rattle.scim_command_database.specs.declared.exporting.Documents.{Documents}
use Rattle.scim_command_database.specs.code.Documents.{Takes}

-- steps of one list and then of another are those of both
pub folds_on : {P A : Type 0} (R : P → A → P → Type 0) (xs ys : List A) (p q r : P) → FoldsTo R p xs q → FoldsTo R q ys r → FoldsTo R p (xs ++ ys) r
folds_on R [] ys p q r first later = subst_front first later
  where
    subst_front : p ≡ q → FoldsTo R q ys r → FoldsTo R p ys r
    subst_front same h = rw same h
folds_on R (x ∷ xs) ys p q r first later = (first.0, first.1, folds_on R xs ys first.0 q r first.2 later)

-- behind a document
later_written : (cs : List Content) (old new : Documents) → old.separator.now ≡ codes ",\n" → FoldsTo Takes old cs new
    → string_bytes new.text ≡ string_bytes old.text ++ flat_map (λ c. codes ",\n" ++ stored_text c) cs
later_written [] old new behind h = ap (λ (d : Documents). string_bytes d.text) (sym h) ∙ sym (append-nil (string_bytes old.text))
later_written (c ∷ cs) old new behind h =
    later_written cs h.0 new h.1.separator h.2
    ∙ ap (λ (text : List ℕ). text ++ flat_map (λ d. codes ",\n" ++ stored_text d) cs) (h.1.text ∙ ap (λ (s : List ℕ). string_bytes old.text ++ s ++ stored_text c) behind)
    ∙ simp append_assoc

pub all_written : (cs : List Content) (old new : Documents) → old.separator.now ≡ codes "" → FoldsTo Takes old cs new
    → string_bytes new.text ≡ string_bytes old.text ++ join_by stored_text (codes ",\n") cs
all_written [] old new first h = ap (λ (d : Documents). string_bytes d.text) (sym h) ∙ sym (append-nil (string_bytes old.text))
all_written (c ∷ cs) old new first h =
    later_written cs h.0 new h.1.separator h.2
    ∙ ap (λ (text : List ℕ). text ++ flat_map (λ d. codes ",\n" ++ stored_text d) cs) (h.1.text ∙ ap (λ (s : List ℕ). string_bytes old.text ++ s ++ stored_text c) first ∙ ap (λ (s : List ℕ). s ++ stored_text c) (append-nil (string_bytes old.text)))
    ∙ append_assoc (string_bytes old.text) (stored_text c) (flat_map (λ d. codes ",\n" ++ stored_text d) cs)
