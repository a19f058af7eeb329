-- The rows that a watcher keeps.
use Rattle.std.proofs.Common.{◌≡◌, ℕ, ◌+◌, List, [], ◌∷◌, ◌++◌, length, map, take, sym, ◌∙◌, ap, arith, length-append}
use Rattle.std.proofs.lemmas.List.{append_assoc, length-map, take-map}
use Rattle.std.proofs.Math.Seq.{take-append_seam}
use Rattle.scim_shelf_watch.specs.Watched.{NumberedRow}
use Rattle.case_watchers.specs.declared.row_watcher.ToldRow.{ToldRow}
use Rattle.case_watchers.specs.Watchers.{told_row}

-- those in front of others
pub front : (xs : List ToldRow) (rows begun : List NumberedRow) (n : ℕ) → n ≡ length rows → map told_row xs ≡ rows ++ begun → map told_row (take n xs) ≡ rows
front xs rows begun n count both =
    sym (take-map told_row n xs) ∙ ap (take n) both ∙ ap (λ (k : ℕ). take k (rows ++ begun)) count ∙ take-append_seam rows begun

-- all but the last
pub all_but_last : (xs : List ToldRow) (rows begun : List NumberedRow) (row : NumberedRow) (n : ℕ) → n + 1 ≡ length xs → map told_row xs ≡ rows ++ (begun ++ row ∷ [])
    → map told_row (take n xs) ≡ rows ++ begun
all_but_last xs rows begun row n count both =
    let split : map told_row xs ≡ (rows ++ begun) ++ row ∷ [] = both ∙ sym (append_assoc rows begun (row ∷ [])) in
    let long : length xs ≡ length ((rows ++ begun) ++ row ∷ []) = sym (length-map xs told_row) ∙ ap length split in
    front xs (rows ++ begun) (row ∷ []) n (omega (arith, count, long, length-append (rows ++ begun) (row ∷ []))) split

pub longer : (xs : List ToldRow) (rows begun : List NumberedRow) → map told_row xs ≡ rows ++ begun → length xs ≡ length rows + length begun
longer xs rows begun both = sym (length-map xs told_row) ∙ ap length both ∙ length-append rows begun
