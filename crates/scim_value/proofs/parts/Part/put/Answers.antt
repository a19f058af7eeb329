use Rattle.std.proofs.Common.{◌≡◌, ◌∙◌, ap, List, ◌++◌, take, drop, length, ◌+◌, filter}
use Rattle.std.specs.Ordering.{is_lt, is_gt}
use Rattle.scim_schema.specs.declared.Unit.{Unit as AttributeUnit}
use Rattle.scim_cell.specs.Place.{unit_cmp}
use Rattle.scim_cell.specs.Rows.{Row, put_values, rows, content}
use Rattle.scim_value.proofs.OfLemmas.{sound_part}
use Rattle.scim_value.proofs.SoundLemmas.{put_moved, put_sound}
use Rattle.scim_value.proofs.parts.Part.put.Goals as goal

-- each list of the code after the one before it
items_put : (u : AttributeUnit) (all taken before own later vs kept tail cut joined last : List Row) → taken ≡ all → kept ≡ take (length before + length own) taken → tail ≡ drop (length before + length own) taken
    → cut ≡ take (length before) kept → joined ≡ cut ++ vs → last ≡ joined ++ tail → all ≡ before ++ (own ++ later)
    → before ≡ filter (λ (r : Row). is_lt (unit_cmp r.unit u)) all → later ≡ filter (λ (r : Row). is_gt (unit_cmp r.unit u)) all → last ≡ put_values u vs all
items_put u all taken before own later vs kept tail cut joined last ta k t c j l e lows highs =
    let n = length before + length own in
    let kept_is : kept ≡ take n all = k ∙ ap (take n) ta in
    let tail_is : tail ≡ drop n all = t ∙ ap (drop n) ta in
    l ∙ (λ i. (j ∙ ap (λ (rs : List Row). rs ++ vs) (c ∙ ap (take (length before)) kept_is)) i ++ tail_is i) ∙ put_moved u all before own later vs e lows highs

pub of_rows-requires : goal.of_rows-requires
of_rows-requires c =
    let own = c.args.self in
    let e : c.append-2.new.self.items ≡ put_values c.args.unit c.args.values.items (rows own)
    = items_put c.args.unit (rows own) c.into_parts-kind.result.2.items c.split.result.0.now c.split.result.1.now c.split.result.2.now c.args.values.items c.split_off.new.self.items c.in_ok-after.after.items
    c.truncate.new.self.items c.append.new.self.items c.append-2.new.self.items c.into_parts-kind.ensures.rows c.in_ok-after.ensures.items c.in_ok-after.ensures.tail c.truncate.ensures.items c.in_ok-append.ensures.items
    c.in_ok-append-2.ensures.items c.split.ensures.whole c.split.ensures.before c.split.ensures.after in
    rw (e, c.into_parts-kind.ensures.kind) (put_sound own.kind c.args.unit c.args.values.items (rows own) c.requires (sound_part own c.split.ensures.valid))

pub returns-clause-rows : goal.returns-clause-rows
returns-clause-rows c =
    c.of_rows.ensures.rows
    ∙ items_put c.args.unit (rows c.args.self) c.into_parts-kind.result.2.items c.split.result.0.now c.split.result.1.now c.split.result.2.now c.args.values.items c.split_off.new.self.items c.in_ok-after.after.items
    c.truncate.new.self.items c.append.new.self.items c.append-2.new.self.items c.into_parts-kind.ensures.rows c.in_ok-after.ensures.items c.in_ok-after.ensures.tail c.truncate.ensures.items c.in_ok-append.ensures.items
    c.in_ok-append-2.ensures.items c.split.ensures.whole c.split.ensures.before c.split.ensures.after

pub returns-clause-whole : goal.returns-clause-whole
returns-clause-whole c =
    let e : c.append-2.new.self.items ≡ put_values c.args.unit c.args.values.items (rows c.args.self)
    = items_put c.args.unit (rows c.args.self) c.into_parts-kind.result.2.items c.split.result.0.now c.split.result.1.now c.split.result.2.now c.args.values.items c.split_off.new.self.items c.in_ok-after.after.items
    c.truncate.new.self.items c.append.new.self.items c.append-2.new.self.items c.into_parts-kind.ensures.rows c.in_ok-after.ensures.items c.in_ok-after.ensures.tail c.truncate.ensures.items c.in_ok-append.ensures.items
    c.in_ok-append-2.ensures.items c.split.ensures.whole c.split.ensures.before c.split.ensures.after in
    c.of_rows.ensures.whole ∙ (λ i. content (c.into_parts-kind.ensures.kind i) (c.into_parts-kind.ensures.id i) (e i))
