-- A writer that takes one part of a text after another.
use Rattle.std.proofs.Common.{◌≡◌, sym, ◌∙◌, ap, ℕ, ◌+◌, ◌-◌, ◌≤◌, List, [], ◌++◌, Option, length, take, drop, arith, append_assoc, append-nil, length-take, length-drop, take-append-drop, take-take, drop-drop}
use Rattle.std.specs.Io.KnownBytes.{Appends}
use Rattle.std.proofs.KnownBytes.{Appends-trans}
use Rattle.scim_line_log.specs.declared.line_logs.LineLog.{LineLog}
use Rattle.scim_line_log.specs.LineLogs.{Takes, rest_of, writer_of}

-- the part that was taken, and what is behind it
pub part_and_rest : (bytes : List ℕ) (w count : ℕ) → count ≤ length (take (length bytes - w) (drop w bytes))
    → take count (take (length bytes - w) (drop w bytes)) ++ drop (w + count) bytes ≡ drop w bytes
part_and_rest bytes w count fits =
    let most : count ≤ length bytes - w = omega (arith, fits, length-take (length bytes - w) (drop w bytes), length-drop w bytes) in
    ap (λ (l : List ℕ). l ++ drop (w + count) bytes) (take-take count (length bytes - w) (drop w bytes) most) ∙ ap (λ (l : List ℕ). take count (drop w bytes) ++ l) (sym (drop-drop count w bytes)) ∙ take-append-drop count (drop w bytes)

-- one part, and then another
pub two_parts : (old mid new : Option (List ℕ)) (taken part rest next all : List ℕ) → taken ++ rest ≡ all → Appends old mid taken → part ++ next ≡ rest → Appends mid new part
    → ((taken ++ part) ++ next ≡ all) × Appends old new (taken ++ part)
two_parts old mid new taken part rest next all split writes cut more =
    (append_assoc taken part next ∙ ap (λ (l : List ℕ). taken ++ l) cut ∙ split, Appends-trans old mid new taken part writes more)

-- what was left is taken, then the text is set, and a part of it is taken
pub takes_then : {W : Type 0} (contents : W → Option (List ℕ)) (text : List ℕ) (a b c d : LineLog W) → Takes contents [] a b → rest_of b ≡ []
    → writer_of c ≡ writer_of b → rest_of c ≡ text → Takes contents [] c d → Takes contents text a d
takes_then contents text a b c d first whole same set second =
    let all : first.taken ≡ rest_of a = sym (append-nil first.taken) ∙ ap (λ (l : List ℕ). first.taken ++ l) (sym whole) ∙ first.split ∙ append-nil (rest_of a) in
    let part : second.taken ++ rest_of d ≡ text = second.split ∙ append-nil (rest_of c) ∙ set in
    let more = rw same at second.writes in
    record {
      taken = first.taken ++ second.taken;
      split = append_assoc first.taken second.taken (rest_of d) ∙ ap (λ (l : List ℕ). first.taken ++ l) part ∙ ap (λ (l : List ℕ). l ++ text) all;
      writes = Appends-trans _ _ _ first.taken second.taken first.writes more;
    }

-- what was left is taken, and nothing is set
pub takes_rest : {W : Type 0} (contents : W → Option (List ℕ)) (a b c : LineLog W) → Takes contents [] a b → rest_of b ≡ []
    → writer_of c ≡ writer_of b → rest_of c ≡ [] → Takes contents [] a c
takes_rest contents a b c first whole same none =
    record {
      taken = first.taken;
      split = ap (λ (l : List ℕ). first.taken ++ l) (none ∙ sym whole) ∙ first.split;
      writes = rw same first.writes;
    }
