-- What is kept of a chunked body, one byte or a run further.
use Rattle.std.proofs.Common.{◌≡◌, ◌↔◌, ℕ, ◌<◌, ◌≤◌, ◌+◌, ◌-◌, ◌⊎◌, List, [], ◌∷◌, ◌++◌, length, replicate, refl, sym, ap, ◌∙◌, arith, inl, inr, subst}
use Rattle.std.proofs.lemmas.List.{append-nil, append_assoc, length-append, length-replicate, append_cancel_left, nil_from_length}
use Rattle.std.proofs.lemmas.List.Elements.{All-nil, All-push}
use Rattle.std.proofs.lemmas.List.Concat.{flat_map-append}
use Rattle.scim_wire.specs.declared.chunk_faults.BadChunks.TheVariants.{Malformed}
use Rattle.scim_wire.specs.declared.chunk_lines.LinePart.{LinePart}
use Rattle.scim_wire.specs.declared.trailers.TrailerPart.{TrailerPart}
use Rattle.scim_wire.specs.Fronts.{IsFrontOf, CanNotBegin}
use Rattle.scim_wire.specs.Chunked.{IsLine, IsLineOf, AreTrailers, Follows, Chunk, IsChunk, print_chunks, content, HasChunks, IsChunked, IsChunkedPart, IsBadChunked}
use Rattle.scim_wire.specs.code.ChunkLines as lines
use Rattle.scim_wire.specs.code.Trailers.{IsRest, GoesOn}
use Rattle.scim_wire.specs.code.ChunkSteps.{IsInLine, IsInData, IsInTrailers}
use Rattle.scim_wire.proofs.FrontLemmas.{two_fronts}

-- no chunk yet
pub chunks_start : HasChunks [] [] []
chunks_start = record { chunks = []; each = All-nil IsChunk; split = refl; holds = refl; within = omega arith }

-- the same with another name for the rest
chunks_same : (bytes body a b : List ℕ) → a ≡ b → HasChunks bytes body a → HasChunks bytes body b
chunks_same bytes body a b e = subst (HasChunks bytes body) e

-- more bytes
pub chunks_more : (bytes body rest more : List ℕ) → HasChunks bytes body rest → HasChunks (bytes ++ more) body (rest ++ more)
chunks_more bytes body rest more has = record {
  chunks = has.chunks;
  each = has.each;
  split = ap (λ t. t ++ more) has.split ∙ append_assoc (print_chunks has.chunks) rest more;
  holds = has.holds;
  within = has.within;
}

-- ---- in a line

-- before the first byte of a line
pub line_begins : (bytes body : List ℕ) (part : LinePart) → HasChunks bytes body []
    → ((size : ℕ) (text : List ℕ) → IsLineOf size text ↔ lines.IsRest part size text) → lines.GoesOn part → IsInLine bytes body part
line_begins bytes body part has rest goes_on = record { line = []; chunks = has; rest = rest; goes_on = goes_on }

after_line : (line more : List ℕ) (byte : ℕ) → (line ++ byte ∷ []) ++ more ≡ line ++ byte ∷ more
after_line line more byte = append_assoc line (byte ∷ []) more

line_open : (bytes body : List ℕ) (part : LinePart) (in_line : IsInLine bytes body part) → IsFrontOf IsLine in_line.line
line_open bytes body part in_line =
    let (size, next, more, rest) = in_line.goes_on in
    (next, more, (size, (in_line.rest size (next ∷ more)).1 rest))

pub line_more : (bytes body : List ℕ) (part next : LinePart) (byte : ℕ) → IsInLine bytes body part
    → ((size : ℕ) (text : List ℕ) → lines.IsRest part size (byte ∷ text) ↔ lines.IsRest next size text) → lines.GoesOn next
    → IsInLine (bytes ++ byte ∷ []) body next
line_more bytes body part next byte in_line steps goes_on = record {
  line = in_line.line ++ byte ∷ [];
  chunks = chunks_more bytes body in_line.line (byte ∷ []) in_line.chunks;
  rest = λ size more. (
    λ is. (steps size more).0 ((in_line.rest size (byte ∷ more)).0 (subst (IsLineOf size) (after_line in_line.line more byte) is)),
    λ rest. subst (IsLineOf size) (sym (after_line in_line.line more byte)) ((in_line.rest size (byte ∷ more)).1 ((steps size more).1 rest)),
  );
  goes_on = goes_on;
}

pub line_whole : (bytes body : List ℕ) (part : LinePart) (byte size : ℕ) → IsInLine bytes body part → lines.IsRest part size (byte ∷ [])
    → (line : List ℕ) × HasChunks (bytes ++ byte ∷ []) body line × IsLineOf size line
line_whole bytes body part byte size in_line rest =
    (in_line.line ++ byte ∷ [], chunks_more bytes body in_line.line (byte ∷ []) in_line.chunks, (in_line.rest size (byte ∷ [])).1 rest)

pub line_bad : (bytes body : List ℕ) (part : LinePart) (byte : ℕ) → IsInLine bytes body part
    → ((size : ℕ) (text : List ℕ) → lines.IsRest part size (byte ∷ text) → ⊥) → IsBadChunked (bytes ++ byte ∷ []) Malformed
line_bad bytes body part byte in_line never = (
  body,
  in_line.line ++ byte ∷ [],
  chunks_more bytes body in_line.line (byte ∷ []) in_line.chunks,
  inl (record {
    before = in_line.line;
    last = byte;
    split = refl;
    could = line_open bytes body part in_line;
    can_not = λ more is. never is.0 more ((in_line.rest is.0 (byte ∷ more)).0 (subst (IsLineOf is.0) (after_line in_line.line more byte) is.1));
  }),
)

pub line_part : (bytes body : List ℕ) (part : LinePart) → IsInLine bytes body part → IsChunkedPart bytes
line_part bytes body part in_line = (body, in_line.line, in_line.chunks, inl (line_open bytes body part in_line))

-- ---- after a line

line_size : (line : List ℕ) (a b : ℕ) → a ≡ b → IsLineOf a line → IsLineOf b line
line_size line a b e = subst (λ size. IsLineOf size line) e

-- ---- in data

-- what has come of data, with what comes
data_text : (line now_held after more : List ℕ) → (line ++ (now_held ++ after)) ++ more ≡ line ++ (now_held ++ (after ++ more))
data_text line now_held after more = append_assoc line (now_held ++ after) more ∙ ap (λ t. line ++ t) (append_assoc now_held after more)

pub data_more : (bytes body : List ℕ) (left count : ℕ) (more : List ℕ) → length more ≡ count → count ≤ left → IsInData bytes body left []
    → IsInData (bytes ++ more) (body ++ more) (left - count) []
data_more bytes body left count more len fits in_data =
    let less : length in_data.now_held + left ≡ length (in_data.now_held ++ more) + (left - count) = omega (arith, length-append in_data.now_held more, len, fits) in
    record {
      before = in_data.before;
      line = in_data.line;
      now_held = in_data.now_held ++ more;
      chunks = chunks_same _ in_data.before _ _ (data_text in_data.line in_data.now_held [] more ∙ ap (λ t. in_data.line ++ t) (sym (append-nil (in_data.now_held ++ more)))) (chunks_more bytes in_data.before _ more in_data.chunks);
      holds = ap (λ t. t ++ more) in_data.holds ∙ append_assoc in_data.before in_data.now_held more;
      is_line = line_size in_data.line _ _ less in_data.is_line;
      some = omega (arith, less, in_data.some);
      within = omega (arith, less, in_data.within);
    }

-- CR after data
pub data_return : (bytes body : List ℕ) → IsInData bytes body 0 [] → IsInData (bytes ++ 13 ∷ []) body 0 (13 ∷ [])
data_return bytes body in_data = record {
  before = in_data.before;
  line = in_data.line;
  now_held = in_data.now_held;
  chunks = chunks_same _ in_data.before _ _ (data_text in_data.line in_data.now_held [] (13 ∷ [])) (chunks_more bytes in_data.before _ (13 ∷ []) in_data.chunks);
  holds = in_data.holds;
  is_line = in_data.is_line;
  some = in_data.some;
  within = in_data.within;
}

-- data and what follows them are those of a chunk, so what follows is what they say
data_end : (size : ℕ) (now_held after : List ℕ) → length now_held ≡ size → 0 < size → Follows size (now_held ++ after) → after ≡ 13 ∷ 10 ∷ []
data_end size now_held after len some (inl (none, _)) = absurd (omega (arith, none, some))
data_end size now_held after len some (inr (_, (data_bytes, same_len, split))) = by_fronts (two_fronts now_held after data_bytes (13 ∷ 10 ∷ []) split)
  where
    by_fronts : ((m : List ℕ) × (data_bytes ≡ now_held ++ m) × (after ≡ m ++ 13 ∷ 10 ∷ [])) ⊎ ((m : List ℕ) × (now_held ≡ data_bytes ++ m) × (13 ∷ 10 ∷ [] ≡ m ++ after))
        → after ≡ 13 ∷ 10 ∷ []
    by_fronts (inl (m, longer, rest)) =
        let none : m ≡ [] = nil_from_length m (omega (arith, len, same_len, ap length longer, length-append now_held m)) in
        rest ∙ ap (λ t. t ++ 13 ∷ 10 ∷ []) none
    by_fronts (inr (m, longer, rest)) =
        let none : m ≡ [] = nil_from_length m (omega (arith, len, same_len, ap length longer, length-append data_bytes m)) in
        sym (rest ∙ ap (λ t. t ++ after) none)

-- what has come of a chunk's end, of which more is to come
pub data_open : (size left : ℕ) (now_held after next_end : List ℕ) (next : ℕ) → 0 < size → length now_held + left ≡ size
    → replicate left 0 ++ 13 ∷ 10 ∷ [] ≡ after ++ next ∷ next_end → IsFrontOf (Follows size) (now_held ++ after)
data_open size left now_held after next_end next some len ends = (
  next,
  next_end,
  inr (
    some,
    (
      now_held ++ replicate left 0,
      omega (arith, length-append now_held (replicate left 0), length-replicate {A = ℕ} left 0, len),
      append_assoc now_held after (next ∷ next_end) ∙ ap (λ t. now_held ++ t) (sym ends) ∙ sym (append_assoc now_held (replicate left 0) (13 ∷ 10 ∷ [])),
    ),
  ),
)

-- a byte that breaks a chunk's end
data_bad : (bytes body after : List ℕ) (byte next : ℕ) (next_end : List ℕ) → IsInData bytes body 0 after → 13 ∷ 10 ∷ [] ≡ after ++ next ∷ next_end → (byte ≡ next → ⊥)
    → IsBadChunked (bytes ++ byte ∷ []) Malformed
data_bad bytes body after byte next next_end in_data ends other =
    let size : ℕ = length in_data.now_held + 0 in
    let never : CanNotBegin (Follows size) (in_data.now_held ++ (after ++ byte ∷ [])) = λ more follows.
    let is = data_end size in_data.now_held ((after ++ byte ∷ []) ++ more) (omega arith) in_data.some (subst (Follows size) (append_assoc in_data.now_held (after ++ byte ∷ []) more) follows) in
    let both : after ++ byte ∷ more ≡ after ++ next ∷ next_end = sym (append_assoc after (byte ∷ []) more) ∙ is ∙ ends in
    other (cc (append_cancel_left after (byte ∷ more) (next ∷ next_end) both)) in (
      in_data.before,
      in_data.line ++ (in_data.now_held ++ (after ++ byte ∷ [])),
      chunks_same _ in_data.before _ _ (data_text in_data.line in_data.now_held after (byte ∷ [])) (chunks_more bytes in_data.before _ (byte ∷ []) in_data.chunks),
      inr (record {
        size = size;
        line = in_data.line;
        text = in_data.now_held ++ (after ++ byte ∷ []);
        split = refl;
        is_line = in_data.is_line;
        is_text = (
          in_data.within,
          record {
            before = in_data.now_held ++ after;
            last = byte;
            split = sym (append_assoc in_data.now_held after (byte ∷ []));
            could = data_open size 0 in_data.now_held after next_end next in_data.some refl ends;
            can_not = never;
          },
        );
      }),
    )

pub return_bad : (bytes body : List ℕ) (byte : ℕ) → IsInData bytes body 0 [] → (byte ≡ 13 → ⊥) → IsBadChunked (bytes ++ byte ∷ []) Malformed
return_bad bytes body byte in_data other = data_bad bytes body [] byte 13 (10 ∷ []) in_data refl other

pub feed_bad : (bytes body : List ℕ) (byte : ℕ) → IsInData bytes body 0 (13 ∷ []) → (byte ≡ 10 → ⊥) → IsBadChunked (bytes ++ byte ∷ []) Malformed
feed_bad bytes body byte in_data other = data_bad bytes body (13 ∷ []) byte 10 [] in_data refl other

-- LF ends a chunk
pub data_feed : (bytes body : List ℕ) → IsInData bytes body 0 (13 ∷ []) → HasChunks (bytes ++ 10 ∷ []) body []
data_feed bytes body in_data =
    let chunk : Chunk = record { line = in_data.line; bytes = in_data.now_held } in
    let len : length in_data.now_held + 0 ≡ length in_data.now_held = omega arith in
    let is : IsChunk chunk = record { is_line = line_size in_data.line _ _ len in_data.is_line; some = omega (arith, in_data.some) } in
    let has = chunks_more bytes in_data.before _ (10 ∷ []) in_data.chunks in
    let printed : print_chunks (has.chunks ++ chunk ∷ []) ≡ print_chunks has.chunks ++ ((in_data.line ++ (in_data.now_held ++ 13 ∷ 10 ∷ [])) ++ []) =
    flat_map-append (λ (c : Chunk). c.line ++ (c.bytes ++ 13 ∷ 10 ∷ [])) has.chunks (chunk ∷ []) in
    let text : (in_data.line ++ (in_data.now_held ++ 13 ∷ [])) ++ 10 ∷ [] ≡ (in_data.line ++ (in_data.now_held ++ 13 ∷ 10 ∷ [])) ++ [] =
    data_text in_data.line in_data.now_held (13 ∷ []) (10 ∷ []) ∙ sym (append-nil (in_data.line ++ (in_data.now_held ++ 13 ∷ 10 ∷ []))) in
    let holds : body ≡ content (has.chunks ++ chunk ∷ []) =
    in_data.holds ∙ ap (λ t. t ++ in_data.now_held) has.holds ∙ ap (λ t. content has.chunks ++ t) (sym (append-nil in_data.now_held))
    ∙ sym (flat_map-append (λ (c : Chunk). c.bytes) has.chunks (chunk ∷ [])) in
    record {
      chunks = has.chunks ++ chunk ∷ [];
      each = All-push IsChunk has.chunks chunk has.each is;
      split = has.split ∙ ap (λ t. print_chunks has.chunks ++ t) text ∙ sym printed ∙ sym (append-nil (print_chunks (has.chunks ++ chunk ∷ [])));
      holds = holds;
      within = omega (arith, ap length in_data.holds, length-append in_data.before in_data.now_held, in_data.within);
    }

-- ---- in trailers

after_trailers : (text more : List ℕ) (byte : ℕ) → (text ++ byte ∷ []) ++ more ≡ text ++ byte ∷ more
after_trailers text more byte = append_assoc text (byte ∷ []) more

trailers_chunks : (bytes body : List ℕ) (part : TrailerPart) (byte : ℕ) (in_trailers : IsInTrailers bytes body part)
    → HasChunks (bytes ++ byte ∷ []) body (in_trailers.line ++ (in_trailers.text ++ byte ∷ []))
trailers_chunks bytes body part byte in_trailers =
    chunks_same _ body _ _ (append_assoc in_trailers.line in_trailers.text (byte ∷ [])) (chunks_more bytes body _ (byte ∷ []) in_trailers.chunks)

pub trailers_more : (bytes body : List ℕ) (part next : TrailerPart) (byte : ℕ) → IsInTrailers bytes body part
    → ((text : List ℕ) → IsRest part (byte ∷ text) ↔ IsRest next text) → GoesOn next → IsInTrailers (bytes ++ byte ∷ []) body next
trailers_more bytes body part next byte in_trailers steps goes_on = record {
  line = in_trailers.line;
  text = in_trailers.text ++ byte ∷ [];
  chunks = trailers_chunks bytes body part byte in_trailers;
  is_line = in_trailers.is_line;
  rest = λ more. (
    λ are. (steps more).0 ((in_trailers.rest (byte ∷ more)).0 (subst AreTrailers (after_trailers in_trailers.text more byte) are)),
    λ rest. subst AreTrailers (sym (after_trailers in_trailers.text more byte)) ((in_trailers.rest (byte ∷ more)).1 ((steps more).1 rest)),
  );
  goes_on = goes_on;
}

pub trailers_whole : (bytes body : List ℕ) (part : TrailerPart) (byte : ℕ) → IsInTrailers bytes body part → IsRest part (byte ∷ []) → IsChunked (bytes ++ byte ∷ []) body
trailers_whole bytes body part byte in_trailers rest = (
  in_trailers.line ++ (in_trailers.text ++ byte ∷ []),
  trailers_chunks bytes body part byte in_trailers,
  record {
    size = 0;
    line = in_trailers.line;
    text = in_trailers.text ++ byte ∷ [];
    split = refl;
    is_line = in_trailers.is_line;
    is_text = (refl, (in_trailers.rest (byte ∷ [])).1 rest);
  },
)

trailers_open : (bytes body : List ℕ) (part : TrailerPart) (in_trailers : IsInTrailers bytes body part) → IsFrontOf (Follows 0) in_trailers.text
trailers_open bytes body part in_trailers =
    let next = in_trailers.goes_on.0 in
    let more = in_trailers.goes_on.1 in
    (next, more, inl (refl, (in_trailers.rest (next ∷ more)).1 in_trailers.goes_on.2))

pub trailers_bad : (bytes body : List ℕ) (part : TrailerPart) (byte : ℕ) → IsInTrailers bytes body part → ((text : List ℕ) → IsRest part (byte ∷ text) → ⊥)
    → IsBadChunked (bytes ++ byte ∷ []) Malformed
trailers_bad bytes body part byte in_trailers never = (
  body,
  in_trailers.line ++ (in_trailers.text ++ byte ∷ []),
  trailers_chunks bytes body part byte in_trailers,
  inr (record {
    size = 0;
    line = in_trailers.line;
    text = in_trailers.text ++ byte ∷ [];
    split = refl;
    is_line = in_trailers.is_line;
    is_text = (
      omega (arith, in_trailers.chunks.within),
      record {
        before = in_trailers.text;
        last = byte;
        split = refl;
        could = trailers_open bytes body part in_trailers;
        can_not = λ more follows. elim follows [
          | inl are ↦ never more ((in_trailers.rest (byte ∷ more)).0 (subst AreTrailers (after_trailers in_trailers.text more byte) are.1))
          | inr some ↦ omega (arith, some.0)
        ];
      },
    );
  }),
)

-- ---- what is kept is of a part

pub data_part : (bytes body : List ℕ) (left : ℕ) (after : List ℕ) (next : ℕ) (next_end : List ℕ) → IsInData bytes body left after
    → replicate left 0 ++ 13 ∷ 10 ∷ [] ≡ after ++ next ∷ next_end → IsChunkedPart bytes
data_part bytes body left after next next_end in_data ends = (
  in_data.before,
  in_data.line ++ (in_data.now_held ++ after),
  in_data.chunks,
  inr (record {
    size = length in_data.now_held + left;
    line = in_data.line;
    text = in_data.now_held ++ after;
    split = refl;
    is_line = in_data.is_line;
    is_text = (in_data.within, data_open _ left in_data.now_held after next_end next in_data.some refl ends);
  }),
)

pub trailers_part : (bytes body : List ℕ) (part : TrailerPart) → IsInTrailers bytes body part → IsChunkedPart bytes
trailers_part bytes body part in_trailers = (
  body,
  in_trailers.line ++ in_trailers.text,
  in_trailers.chunks,
  inr (record {
    size = 0;
    line = in_trailers.line;
    text = in_trailers.text;
    split = refl;
    is_line = in_trailers.is_line;
    is_text = (omega (arith, in_trailers.chunks.within), trailers_open bytes body part in_trailers);
  }),
)
