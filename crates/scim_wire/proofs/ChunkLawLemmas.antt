-- A chunked body is read in one way.
use Rattle.std.proofs.Common.{◌≡◌, ℕ, zero, suc, ◌≤◌, ◌+◌, ◌⊎◌, List, [], ◌∷◌, ◌++◌, length, refl, sym, ap, ◌∙◌, arith, inl, inr, subst}
use Rattle.std.specs.Prelude.{All}
use Rattle.std.proofs.lemmas.List.{append-nil, append_assoc, length-append, nil_from_length, append_cancel_right}
use Rattle.std.proofs.lemmas.List.Elements.{All-head, All-tail}
use Rattle.std.proofs.lemmas.List.Concat.{flat_map-append}
use Rattle.httparse.specs.Grammar.{ReadsChunkLine, chunk_size, print_chunk_line}
use Rattle.httparse.proofs.ChunkLemmas.{chunk_line_unique, ReadsChunkLine-append}
use Rattle.httparse.proofs.GrammarLemmas.{section_unique, ReadsSection-append}
use Rattle.scim_wire.specs.declared.chunk_faults.BadChunks.{BadChunks}
use Rattle.scim_wire.specs.declared.chunk_faults.BadChunks.TheVariants.{TooLarge, Malformed}
use Rattle.scim_wire.specs.declared.chunked.Place.{Place}
use Rattle.scim_wire.specs.declared.chunked.Place.TheVariants.{Line, Data, Return, Trailers}
use Rattle.scim_wire.specs.declared.chunked.ChunkedPart.{ChunkedPart}
use Rattle.scim_wire.specs.Fronts.{IsFrontOf, IsDeadEnd}
use Rattle.scim_wire.specs.Chunked.{IsLine, IsLineOf, AreTrailers, Follows, Chunk, IsChunk, print_chunks, content, HasChunks, IsAfterLine, IsEnd, IsEndPart, IsBadEnd, IsChunked, IsChunkedPart, IsBadChunked, most_content}
use Rattle.scim_wire.specs.ChunkParts.{StandsFor}
use Rattle.scim_wire.specs.code.ChunkSteps.{StandsAt}
use Rattle.scim_wire.proofs.FrontLemmas.{NoneIsFront, All-at, whole_whole, whole_front, whole_dead, dead_front, dead_dead}
use Rattle.scim_wire.proofs.ChunkStepLemmas.{line_part, data_part, trailers_part}

-- ---- what is kept is of a part

standing_part : (place : Place) (body bytes : List ℕ) → StandsAt place body bytes → IsChunkedPart bytes
standing_part (Line part) body bytes stands = line_part bytes body part stands
standing_part (Data left) body bytes stands = data_by_left left stands
  where
    data_by_left : (left : ℕ) → StandsAt (Data left) body bytes → IsChunkedPart bytes
    data_by_left zero stands = data_part bytes body 0 [] 13 (10 ∷ []) stands refl
    data_by_left (suc left) stands = data_part bytes body (suc left) [] 0 _ stands refl
standing_part Return body bytes stands = data_part bytes body 0 (13 ∷ []) 10 [] stands refl
standing_part (Trailers part) body bytes stands = trailers_part bytes body part stands

pub part_of_standing : (part : ChunkedPart) (bytes : List ℕ) → StandsFor part bytes → IsChunkedPart bytes
part_of_standing part bytes stands = standing_part part.place part.body.items bytes stands

-- ---- lines, data and trailers end at one place

-- two lines on the same bytes
lines_meet : (n k : ℕ) (a b x y : List ℕ) → IsLineOf n a → IsLineOf k b → a ++ x ≡ b ++ y → (n ≡ k) × (a ≡ b) × (x ≡ y)
lines_meet n k a b x y line other e =
    let first : ReadsChunkLine (a ++ x) line.line x = ReadsChunkLine-append a line.line [] x line.reads in
    let second : ReadsChunkLine (a ++ x) other.line y = rw e (ReadsChunkLine-append b other.line [] y other.reads) in
    let same = chunk_line_unique (a ++ x) line.line other.line x y first second in
    let size : n ≡ k = line.gives ∙ ap (λ l. chunk_size l) same.0 ∙ sym other.gives in
    (size, line.reads.1 ∙ ap (λ l. print_chunk_line l ++ []) same.0 ∙ sym other.reads.1, same.1)

line_none : NoneIsFront IsLine
line_none a m (n, line) (k, other) = (lines_meet n k a (a ++ m) m [] line other (sym (append-nil (a ++ m)))).2

trailers_none : NoneIsFront AreTrailers
trailers_none a m short long =
    (section_unique (a ++ m) short.fields long.fields short.last long.last m [] (ReadsSection-append a short.fields short.last [] m short.reads) long.reads).2

follows_none : (size : ℕ) → NoneIsFront (Follows size)
follows_none size a m (inl short) (inl long) = trailers_none a m short.1 long.1
follows_none size a m (inl short) (inr long) = absurd (omega (arith, short.0, long.0))
follows_none size a m (inr short) (inl long) = absurd (omega (arith, short.0, long.0))
follows_none size a m (inr (_, (data_bytes, len, is))) (inr (_, (other, other_len, other_is))) =
    nil_from_length m (omega (arith, len, other_len, ap length is, ap length other_is, length-append a m, length-append data_bytes (13 ∷ 10 ∷ []), length-append other (13 ∷ 10 ∷ [])))

-- two texts after lines on the same bytes
after_meet : (P Q : ℕ → List ℕ → Type 0) (r s x y : List ℕ) (u : IsAfterLine P r) (v : IsAfterLine Q s) → r ++ x ≡ s ++ y
    → (v.size ≡ u.size) × (u.line ≡ v.line) × (u.text ++ x ≡ v.text ++ y)
after_meet P Q r s x y u v e =
    let met = lines_meet u.size v.size u.line v.line (u.text ++ x) (v.text ++ y) u.is_line v.is_line
    (sym (append_assoc u.line u.text x) ∙ ap (λ t. t ++ x) (sym u.split) ∙ e ∙ ap (λ t. t ++ y) v.split ∙ append_assoc v.line v.text y) in
    (sym met.0, met.1, met.2)

-- the line that a text after it follows, and what comes after it
after_split : (P : ℕ → List ℕ → Type 0) (r x : List ℕ) (u : IsAfterLine P r) → r ++ x ≡ u.line ++ (u.text ++ x)
after_split P r x u = ap (λ t. t ++ x) u.split ∙ append_assoc u.line u.text x

-- ---- chunks

-- a chunk within the limit, and then anything
record BeginsChunk (body text : List ℕ) : Type 0 where
  pub chunk : Chunk
  pub after : List ℕ
  pub is_chunk : IsChunk chunk
  pub within : length body + length chunk.bytes ≤ most_content
  pub split : text ≡ chunk.line ++ ((chunk.bytes ++ 13 ∷ 10 ∷ []) ++ after)

chunk_split : (c : Chunk) (cs : List Chunk) (r : List ℕ) → print_chunks (c ∷ cs) ++ r ≡ c.line ++ ((c.bytes ++ 13 ∷ 10 ∷ []) ++ (print_chunks cs ++ r))
chunk_split c cs r =
    append_assoc (c.line ++ (c.bytes ++ 13 ∷ 10 ∷ [])) (print_chunks cs) r ∙ append_assoc c.line (c.bytes ++ 13 ∷ 10 ∷ []) (print_chunks cs ++ r)

chunk_follows : (c : Chunk) → IsChunk c → Follows (length c.bytes) (c.bytes ++ 13 ∷ 10 ∷ [])
chunk_follows c is = inr (is.some, (c.bytes, refl, refl))

-- two chunks on the same bytes
chunk_meets : (c d : Chunk) (x y : List ℕ) → IsChunk c → IsChunk d
    → c.line ++ ((c.bytes ++ 13 ∷ 10 ∷ []) ++ x) ≡ d.line ++ ((d.bytes ++ 13 ∷ 10 ∷ []) ++ y) → (c ≡ d) × (x ≡ y)
chunk_meets c d x y is_c is_d e =
    let met = lines_meet _ _ c.line d.line _ _ is_c.is_line is_d.is_line e in
    let follows : Follows (length c.bytes) (d.bytes ++ 13 ∷ 10 ∷ []) = subst (λ n. Follows n (d.bytes ++ 13 ∷ 10 ∷ [])) (sym met.0) (chunk_follows d is_d) in
    let data_met = whole_whole (Follows (length c.bytes)) (follows_none (length c.bytes)) _ _ x y (chunk_follows c is_c) follows met.2 in
    let same : c.bytes ≡ d.bytes = append_cancel_right c.bytes d.bytes (13 ∷ 10 ∷ []) data_met.0 in
    (λ i. record { line = met.1 i; bytes = same i }, data_met.1)

-- two rows of chunks on the same bytes: the same, or one goes on with a chunk
chunks_meet : (ones others : List Chunk) (r s : List ℕ) → All IsChunk ones → All IsChunk others → print_chunks ones ++ r ≡ print_chunks others ++ s
    → ((ones ≡ others) × (r ≡ s))
    ⊎ (((c : Chunk) × (cs : List Chunk) × (others ≡ ones ++ c ∷ cs) × (r ≡ print_chunks (c ∷ cs) ++ s))
    ⊎ ((c : Chunk) × (cs : List Chunk) × (ones ≡ others ++ c ∷ cs) × (s ≡ print_chunks (c ∷ cs) ++ r)))
chunks_meet [] [] r s all_a all_b e = inl (refl, e)
chunks_meet [] (c ∷ cs) r s all_a all_b e = inr (inl (c, cs, refl, e))
chunks_meet (c ∷ cs) [] r s all_a all_b e = inr (inr (c, cs, refl, sym e))
chunks_meet (c ∷ ones) (d ∷ others) r s all_a all_b e = further (chunks_meet ones others r s (All-tail IsChunk c ones all_a) (All-tail IsChunk d others all_b) met.1)
  where
    met : (c ≡ d) × (print_chunks ones ++ r ≡ print_chunks others ++ s)
    met = chunk_meets c d _ _ (All-head IsChunk c ones all_a) (All-head IsChunk d others all_b) (sym (chunk_split c ones r) ∙ e ∙ chunk_split d others s)

    further : ((ones ≡ others) × (r ≡ s))
        ⊎ (((k : Chunk) × (cs : List Chunk) × (others ≡ ones ++ k ∷ cs) × (r ≡ print_chunks (k ∷ cs) ++ s))
        ⊎ ((k : Chunk) × (cs : List Chunk) × (ones ≡ others ++ k ∷ cs) × (s ≡ print_chunks (k ∷ cs) ++ r)))
        → ((c ∷ ones ≡ d ∷ others) × (r ≡ s))
        ⊎ (((k : Chunk) × (cs : List Chunk) × (d ∷ others ≡ (c ∷ ones) ++ k ∷ cs) × (r ≡ print_chunks (k ∷ cs) ++ s))
        ⊎ ((k : Chunk) × (cs : List Chunk) × (c ∷ ones ≡ (d ∷ others) ++ k ∷ cs) × (s ≡ print_chunks (k ∷ cs) ++ r)))
    further (inl (same, rest)) = inl (cc (same, met.0), rest)
    further (inr (inl (k, cs, longer, rest))) = inr (inl (k, cs, cc (longer, met.0), rest))
    further (inr (inr (k, cs, longer, rest))) = inr (inr (k, cs, cc (longer, met.0), rest))

-- the same content and rest, and the same bytes where what is judged of the rest is the same
record Meets (a b p q r s x y : List ℕ) : Type 0 where
  pub body : p ≡ q
  pub rest : r ++ x ≡ s ++ y
  pub bytes : r ≡ s → a ≡ b

-- what goes on with a chunk begins with one within the limit
begins_chunk : (b q s more : List ℕ) (ones cs : List Chunk) (p z : List ℕ) (c : Chunk) (has : HasChunks b q s) → has.chunks ≡ ones ++ c ∷ cs
    → p ≡ content ones → z ≡ print_chunks (c ∷ cs) ++ more → BeginsChunk p z
begins_chunk b q s more ones cs p z c has longer holds rest =
    let len : length q ≡ length (content ones) + (length c.bytes + length (content cs)) = omega (
      arith,
      ap length has.holds,
      ap (λ l. length (content l)) longer,
      ap length (flat_map-append (λ (k : Chunk). k.bytes) ones (c ∷ cs)),
      length-append (content ones) (content (c ∷ cs)),
      length-append c.bytes (content cs),
    ) in
    record {
      chunk = c;
      after = print_chunks cs ++ more;
      is_chunk = All-at IsChunk ones c cs has.chunks longer has.each;
      within = omega (arith, len, ap length holds, has.within);
      split = rest ∙ chunk_split c cs more;
    }

-- what two bodies on the same bytes have in common
has_meet : (a b p q r s x y : List ℕ) → HasChunks a p r → HasChunks b q s → a ++ x ≡ b ++ y
    → Meets a b p q r s x y ⊎ (BeginsChunk p (r ++ x) ⊎ BeginsChunk q (s ++ y))
has_meet a b p q r s x y u v e = by_chunks (chunks_meet u.chunks v.chunks (r ++ x) (s ++ y) u.each v.each same)
  where
    same : print_chunks u.chunks ++ (r ++ x) ≡ print_chunks v.chunks ++ (s ++ y)
    same = sym (append_assoc (print_chunks u.chunks) r x) ∙ ap (λ t. t ++ x) (sym u.split) ∙ e ∙ ap (λ t. t ++ y) v.split ∙ append_assoc (print_chunks v.chunks) s y

    by_chunks : ((u.chunks ≡ v.chunks) × (r ++ x ≡ s ++ y))
        ⊎ (((c : Chunk) × (cs : List Chunk) × (v.chunks ≡ u.chunks ++ c ∷ cs) × (r ++ x ≡ print_chunks (c ∷ cs) ++ (s ++ y)))
        ⊎ ((c : Chunk) × (cs : List Chunk) × (u.chunks ≡ v.chunks ++ c ∷ cs) × (s ++ y ≡ print_chunks (c ∷ cs) ++ (r ++ x))))
        → Meets a b p q r s x y ⊎ (BeginsChunk p (r ++ x) ⊎ BeginsChunk q (s ++ y))
    by_chunks (inl (chunks, rest)) = inl (record {
      body = u.holds ∙ ap content chunks ∙ sym v.holds;
      rest = rest;
      bytes = λ equal. u.split ∙ ap (λ l. print_chunks l ++ r) chunks ∙ ap (λ t. print_chunks v.chunks ++ t) equal ∙ sym v.split;
    })
    by_chunks (inr (inl (c, cs, longer, rest))) = inr (inl (begins_chunk b q s (s ++ y) u.chunks cs p (r ++ x) c v longer u.holds rest))
    by_chunks (inr (inr (c, cs, longer, rest))) = inr (inr (begins_chunk a p r (r ++ x) v.chunks cs q (s ++ y) c u longer v.holds rest))

-- ---- the end begins with no chunk

end_no_chunk : (p r x : List ℕ) → IsEnd r → BeginsChunk p (r ++ x) → ⊥
end_no_chunk p r x end begins =
    let met = lines_meet _ _ end.line begins.chunk.line _ _ end.is_line begins.is_chunk.is_line (sym (after_split _ r x end) ∙ begins.split) in
    omega (arith, met.0, end.is_text.0, begins.is_chunk.some)

chunk_line : (c : Chunk) → IsChunk c → IsLine c.line
chunk_line c is = (length c.bytes, is.is_line)

bad_no_chunk : (p r x : List ℕ) (f : BadChunks) → IsBadEnd p r f → BeginsChunk p (r ++ x) → ⊥
bad_no_chunk p r x TooLarge (n, line, over) begins =
    let met = lines_meet n _ r begins.chunk.line x _ line begins.is_chunk.is_line begins.split in
    omega (arith, met.0, over, begins.within)
bad_no_chunk p r x Malformed (inl dead) begins =
    whole_dead IsLine line_none begins.chunk.line r _ x (chunk_line begins.chunk begins.is_chunk) dead (sym begins.split)
bad_no_chunk p r x Malformed (inr after) begins =
    let met = lines_meet _ _ after.line begins.chunk.line _ _ after.is_line begins.is_chunk.is_line (sym (after_split _ r x after) ∙ begins.split) in
    let follows : Follows after.size (begins.chunk.bytes ++ 13 ∷ 10 ∷ []) = subst (λ n. Follows n (begins.chunk.bytes ++ 13 ∷ 10 ∷ [])) (sym met.0) (chunk_follows begins.chunk begins.is_chunk) in
    whole_dead (Follows after.size) (follows_none after.size) _ after.text begins.after x follows after.is_text.1 (sym met.2)

part_no_chunk : (p r : List ℕ) → IsEndPart p r → BeginsChunk p r → ⊥
part_no_chunk p r (inl front) begins =
    whole_front IsLine line_none begins.chunk.line _ (chunk_line begins.chunk begins.is_chunk) (subst (IsFrontOf IsLine) begins.split front)
part_no_chunk p r (inr after) begins =
    let met = lines_meet _ _ after.line begins.chunk.line _ _ after.is_line begins.is_chunk.is_line (sym after.split ∙ begins.split) in
    let follows : Follows after.size (begins.chunk.bytes ++ 13 ∷ 10 ∷ []) = subst (λ n. Follows n (begins.chunk.bytes ++ 13 ∷ 10 ∷ [])) (sym met.0) (chunk_follows begins.chunk begins.is_chunk) in
    whole_front (Follows after.size) (follows_none after.size) _ begins.after follows (subst (IsFrontOf (Follows after.size)) met.2 after.is_text.1)

-- ---- ends on the same bytes

end_follows : (r : List ℕ) (end : IsEnd r) → Follows end.size end.text
end_follows r end = inl end.is_text

end_line : (r : List ℕ) (end : IsEnd r) → IsLine end.line
end_line r end = (end.size, end.is_line)

-- what follows the line of another, by its size
moved : (Is : ℕ → List ℕ → Type 0) (n k : ℕ) (text : List ℕ) → n ≡ k → Is n text → Is k text
moved Is n k text e = subst (λ size. Is size text) e

ends_meet : (r s x y : List ℕ) → IsEnd r → IsEnd s → r ++ x ≡ s ++ y → r ≡ s
ends_meet r s x y u v e =
    let met = after_meet _ _ r s x y u v e in
    let texts = whole_whole (Follows u.size) (follows_none u.size) u.text v.text x y (end_follows r u) (moved Follows _ _ v.text met.0 (end_follows s v)) met.2 in
    u.split ∙ ap (λ t. t ++ u.text) met.1 ∙ ap (λ t. v.line ++ t) texts.0 ∙ sym v.split

end_not_bad : (p r s x y : List ℕ) (f : BadChunks) → length p ≤ most_content → IsEnd r → IsBadEnd p s f → r ++ x ≡ s ++ y → ⊥
end_not_bad p r s x y TooLarge within u (n, line, over) e =
    let met = lines_meet _ n u.line s _ y u.is_line line (sym (after_split _ r x u) ∙ e) in
    omega (arith, met.0, u.is_text.0, over, within)
end_not_bad p r s x y Malformed within u (inl dead) e =
    whole_dead IsLine line_none u.line s _ y (end_line r u) dead (sym (after_split _ r x u) ∙ e)
end_not_bad p r s x y Malformed within u (inr v) e =
    let met = after_meet _ _ r s x y u v e in
    whole_dead (Follows u.size) (follows_none u.size) u.text v.text x y (end_follows r u) (moved (λ n. IsDeadEnd (Follows n)) _ _ v.text met.0 v.is_text.1) met.2

end_not_part : (p r s x : List ℕ) → IsEnd r → IsEndPart p s → r ++ x ≡ s → ⊥
end_not_part p r s x u (inl front) e =
    whole_front IsLine line_none u.line (u.text ++ x) (end_line r u) (subst (IsFrontOf IsLine) (sym e ∙ after_split _ r x u) front)
end_not_part p r s x u (inr v) e =
    let met = after_meet _ _ r s x [] u v (e ∙ sym (append-nil s)) in
    whole_front (Follows u.size) (follows_none u.size) u.text x (end_follows r u)
    (subst (IsFrontOf (Follows u.size)) (sym (met.2 ∙ append-nil v.text)) (moved (λ n. IsFrontOf (Follows n)) _ _ v.text met.0 v.is_text.1))

bads_meet : (p r s x y : List ℕ) (f g : BadChunks) → IsBadEnd p r f → IsBadEnd p s g → r ++ x ≡ s ++ y → (r ≡ s) × (f ≡ g)
bads_meet p r s x y TooLarge TooLarge (n, line, over) (k, other, _) e = ((lines_meet n k r s x y line other e).1, refl)
bads_meet p r s x y TooLarge Malformed (n, line, over) (inl dead) e = absurd (whole_dead IsLine line_none r s x y (n, line) dead e)
bads_meet p r s x y TooLarge Malformed (n, line, over) (inr v) e =
    let met = lines_meet n _ r v.line x _ line v.is_line (e ∙ after_split _ s y v) in
    absurd (omega (arith, met.0, over, v.is_text.0))
bads_meet p r s x y Malformed TooLarge (inl dead) (n, line, over) e = absurd (whole_dead IsLine line_none s r y x (n, line) dead (sym e))
bads_meet p r s x y Malformed TooLarge (inr u) (n, line, over) e =
    let met = lines_meet n _ s u.line y _ line u.is_line (sym e ∙ after_split _ r x u) in
    absurd (omega (arith, met.0, over, u.is_text.0))
bads_meet p r s x y Malformed Malformed (inl dead) (inl other) e = (dead_dead IsLine r s x y dead other e, refl)
bads_meet p r s x y Malformed Malformed (inl dead) (inr v) e =
    absurd (whole_dead IsLine line_none v.line r _ x (v.size, v.is_line) dead (sym (e ∙ after_split _ s y v)))
bads_meet p r s x y Malformed Malformed (inr u) (inl dead) e =
    absurd (whole_dead IsLine line_none u.line s _ y (u.size, u.is_line) dead (sym (after_split _ r x u) ∙ e))
bads_meet p r s x y Malformed Malformed (inr u) (inr v) e =
    let met = after_meet _ _ r s x y u v e in
    let texts = dead_dead (Follows u.size) u.text v.text x y u.is_text.1 (moved (λ n. IsDeadEnd (Follows n)) _ _ v.text met.0 v.is_text.1) met.2 in
    (u.split ∙ ap (λ t. t ++ u.text) met.1 ∙ ap (λ t. v.line ++ t) texts ∙ sym v.split, refl)

bad_no_part : (p r s x : List ℕ) (f : BadChunks) → IsBadEnd p r f → IsEndPart p s → r ++ x ≡ s → ⊥
bad_no_part p r s x TooLarge (n, line, over) (inl front) e = whole_front IsLine line_none r x (n, line) (subst (IsFrontOf IsLine) (sym e) front)
bad_no_part p r s x TooLarge (n, line, over) (inr v) e =
    let met = lines_meet n _ r v.line x _ line v.is_line (e ∙ v.split) in
    omega (arith, met.0, over, v.is_text.0)
bad_no_part p r s x Malformed (inl dead) (inl front) e = dead_front IsLine r x dead (subst (IsFrontOf IsLine) (sym e) front)
bad_no_part p r s x Malformed (inl dead) (inr v) e = whole_dead IsLine line_none v.line r v.text x (v.size, v.is_line) dead (sym (e ∙ v.split))
bad_no_part p r s x Malformed (inr u) (inl front) e =
    whole_front IsLine line_none u.line (u.text ++ x) (u.size, u.is_line) (subst (IsFrontOf IsLine) (sym e ∙ after_split _ r x u) front)
bad_no_part p r s x Malformed (inr u) (inr v) e =
    let met = after_meet _ _ r s x [] u v (e ∙ sym (append-nil s)) in
    dead_front (Follows u.size) u.text x u.is_text.1
    (subst (IsFrontOf (Follows u.size)) (sym (met.2 ∙ append-nil v.text)) (moved (λ n. IsFrontOf (Follows n)) _ _ v.text met.0 v.is_text.1))

-- ---- the laws

pub one_body : (a b x y p q : List ℕ) → IsChunked a p → IsChunked b q → a ++ x ≡ b ++ y → (a ≡ b) × (p ≡ q)
one_body a b x y p q (r, has, end) (s, other, other_end) e = elim (has_meet a b p q r s x y has other e) [
  | inl meets ↦ (meets.bytes (ends_meet r s x y end other_end meets.rest), meets.body)
  | inr begins ↦ absurd (elim begins [ inl chunk ↦ end_no_chunk p r x end chunk | inr chunk ↦ end_no_chunk q s y other_end chunk ])
]

pub one_fault : (a b x y : List ℕ) (f g : BadChunks) → IsBadChunked a f → IsBadChunked b g → a ++ x ≡ b ++ y → (a ≡ b) × (f ≡ g)
one_fault a b x y f g (p, r, has, bad) (q, s, other, other_bad) e = elim (has_meet a b p q r s x y has other e) [
  | inl meets ↦ let met = bads_meet p r s x y f g bad (subst (λ body. IsBadEnd body s g) (sym meets.body) other_bad) meets.rest in (meets.bytes met.0, met.1)
  | inr begins ↦ absurd (elim begins [ inl chunk ↦ bad_no_chunk p r x f bad chunk | inr chunk ↦ bad_no_chunk q s y g other_bad chunk ])
]

pub body_not_bad : (a b x y p : List ℕ) (f : BadChunks) → IsChunked a p → IsBadChunked b f → ¬ (a ++ x ≡ b ++ y)
body_not_bad a b x y p f (r, has, end) (q, s, other, bad) e = elim (has_meet a b p q r s x y has other e) [
  | inl meets ↦ end_not_bad p r s x y f has.within end (subst (λ body. IsBadEnd body s f) (sym meets.body) bad) meets.rest
  | inr begins ↦ elim begins [ inl chunk ↦ end_no_chunk p r x end chunk | inr chunk ↦ bad_no_chunk q s y f bad chunk ]
]

pub body_not_part : (a x p : List ℕ) → IsChunked a p → ¬ (IsChunkedPart (a ++ x))
body_not_part a x p (r, has, end) (q, s, other, part) = elim (has_meet a (a ++ x) p q r s x [] has other (sym (append-nil (a ++ x)))) [
  | inl meets ↦ end_not_part p r s x end (subst (λ body. IsEndPart body s) (sym meets.body) part) (meets.rest ∙ append-nil s)
  | inr begins ↦ elim begins [ inl chunk ↦ end_no_chunk p r x end chunk | inr chunk ↦ part_no_chunk q s part (subst (BeginsChunk q) (append-nil s) chunk) ]
]

pub bad_not_part : (a x : List ℕ) (f : BadChunks) → IsBadChunked a f → ¬ (IsChunkedPart (a ++ x))
bad_not_part a x f (p, r, has, bad) (q, s, other, part) = elim (has_meet a (a ++ x) p q r s x [] has other (sym (append-nil (a ++ x)))) [
  | inl meets ↦ bad_no_part p r s x f bad (subst (λ body. IsEndPart body s) (sym meets.body) part) (meets.rest ∙ append-nil s)
  | inr begins ↦ elim begins [ inl chunk ↦ bad_no_chunk p r x f bad chunk | inr chunk ↦ part_no_chunk q s part (subst (BeginsChunk q) (append-nil s) chunk) ]
]
