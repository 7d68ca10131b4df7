use Rattle.std.proofs.Common.{◌≡◌, ◌++◌, ◌∷◌, [], length, replicate, ap, ◌∙◌, arith}
use Rattle.std.proofs.lemmas.List.{length-append}
use Rattle.hagzimot_explain.proofs.RowLemmas.{row_more, rows_all, value_past}
use Rattle.hagzimot_explain.proofs.rows.rows_of.Goals as goal

pub loop-id-init : goal.loop-id-init
loop-id-init g c = record { count = ap length c.new-rows.ensures.items; each = λ q h. absurd (omega arith) }

pub loop-id-preserved : goal.loop-id-preserved
loop-id-preserved g c =
    let segments = g.S.ReaderSegments.segments c.args.segments.now in
    let pushed : c.push.new.self.items ≡ c.loop-id.rows.items ++ c.in_ok-row_of.field-0 ∷ [] = c.in_ok-push.ensures.items in
    record {
      count = let more = ap length pushed in let before = c.loop-id.invariant.count in omega (arith, more, before, length-append c.loop-id.rows.items (c.in_ok-row_of.field-0 ∷ []));
      each = rw pushed (row_more segments c.loop-id.rows.items c.in_ok-row_of.field-0 c.loop-id.id c.args.value c.loop-id.invariant.count (c.in_ok-row_of.ensures ∙ ap (λ n. replicate n c.args.value) c.words_of_segment-words.ensures) c.loop-id.invariant.each);
    }

pub returns : goal.returns
returns g c = record {
  words = λ q h. rows_all (g.S.ReaderSegments.segments c.args.segments.now) c.loop-id.rows.items c.loop-id.id c.args.value q c.loop-id.invariant.count (λ ge. omega arith) c.loop-id.invariant.each;
  beyond = λ q h. value_past c.loop-id.rows.items q (let count = c.loop-id.invariant.count in omega arith);
}
